-- 01, Exchange: runs of rotations that commute with one another, and the cuts of three runs. Assumes nothing.
use Rattle.std.specs.Prelude.{◌≡◌, refl, true, not, ℕ, suc, ltb, ℤ, length}
use Rattle.std.proofs.Common.{◌∙◌}
use mathlib.Core.List.{List, [], ◌∷◌, ◌++◌, append_assoc}
use Rattle.model.specs.Lists.{all_of}
use Rattle.model.specs.Words.{anticommute}
use Rattle.model.specs.Items.{Rot}
use Rattle.model.specs.Exchange.{Start, starts, End, ends, Triple, with_ends, with_starts, triples, RunEnd, run_end_from, run_end}
use Rattle.theory.specs.Cases.{on_if, and_right}
use Rattle.theory.specs.Every.{Every, every_append, every_one, every_take, every_left, every_right, every_weaken}
use Rattle.effect.specs.Words.{Setting}
use Rattle.effect.specs.Generators.{Commute}
use Rattle.effect.specs.Certificate.{CommuteAll, Group}
use Rattle.items_effect.specs.Rotations.{Commutes}
use Rattle.items_effect.specs.AxisWords.{AxisWords, HasAxis, Sound, commutes_all}
use Rattle.exchange_effect.specs.Certified.{signed_turn, signed_turns, signed_append}

-- sound rotations have stored axes
pub has_axes : (axes : List (List ℕ)) (g : List Rot) → Every (Sound axes) g → Every (HasAxis axes) g
has_axes axes g h = every_weaken (Sound axes) (HasAxis axes) (λ r k. k.0) g h

-- ---- parts of a group, and one word more

module _ (H : Setting) where
  open H use {words as Ws}
  open Ws use {W}

  commute_left : (P : W) (g h : List (ℤ × W)) → CommuteAll H P (g ++ h) → CommuteAll H P g
  commute_left P [] h k = tt
  commute_left P (a ∷ g) h k = (k.0, commute_left P g h k.1)

  group_left : (g h : List (ℤ × W)) → Group H (g ++ h) → Group H g
  group_left [] h k = tt
  group_left (a ∷ g) h k = (commute_left a.1 g h k.0, group_left g h k.1)

  group_right : (g h : List (ℤ × W)) → Group H (g ++ h) → Group H h
  group_right [] h k = k
  group_right (a ∷ g) h k = group_right g h k.1

  commute_one : (P : W) (g : List (ℤ × W)) (p : ℤ × W) → CommuteAll H P g → Commute H P p.1 → CommuteAll H P (g ++ (p ∷ []))
  commute_one P [] p h k = (k, tt)
  commute_one P (a ∷ g) p h k = (h.0, commute_one P g p h.1 k)

  group_one : (g : List (ℤ × W)) (p : ℤ × W) → Group H g → Every (λ (a : ℤ × W). Commute H a.1 p.1) g → Group H (g ++ (p ∷ []))
  group_one [] p h k = (tt, tt)
  group_one (a ∷ g) p h k = (commute_one a.1 g p h.0 k.0, group_one g p h.1 k.1)

-- ---- `run_end`

module _ (H : Setting) (l : ℕ) (axes : List (List ℕ)) (A : AxisWords H l axes) where
  open H use {words as Ws}
  open Ws use {W}

  abbrev AllSound : List Rot → Type 0
  AllSound = Every (Sound axes)

  abbrev pairs : List Rot → List (ℤ × W)
  pairs g = signed_turns H A.word g

  -- rotations that commute with one another
  abbrev pub IsRun : List Rot → Type 0
  IsRun g = Every (Sound axes) g × Group H (signed_turns H A.word g)

  pub run_left : (g h : List Rot) → IsRun (g ++ h) → IsRun g
  run_left g h k = (every_left (Sound axes) g h k.0, group_left H (pairs g) (pairs h) (rw (signed_append H A.word g h) at k.1))

  pub run_right : (g h : List Rot) → IsRun (g ++ h) → IsRun h
  run_right g h k = (every_right (Sound axes) g h k.0, group_right H (pairs g) (pairs h) (rw (signed_append H A.word g h) at k.1))

  -- a rotation that commutes with a run's rotations does so with their words
  with_turns : (taken : List Rot) (r : Rot) → Every (Commutes H A.word r) taken
      → Every (λ (a : ℤ × W). Commute H a.1 (A.word r.axis)) (pairs taken)
  unfolding signed_turns
  with_turns [] r h = tt
  with_turns (x ∷ taken) r h = (h.0, with_turns taken r h.1)

  run_one : (taken : List Rot) (r : Rot) → IsRun taken → Sound axes r
      → all_of (λ (x : Rot). not (anticommute l axes x.axis r.axis)) taken ≡ true → IsRun (taken ++ (r ∷ []))
  unfolding signed_turns
  run_one taken r h k e = (
    every_one (Sound axes) taken r h.0 k,
    rw (signed_append H A.word taken (r ∷ []))
        (group_one H (pairs taken) (signed_turn H A.word r) h.1
        (with_turns taken r (commutes_all H l axes A taken r (has_axes axes taken h.0) k.0 e))),
  )

  -- a run in front, and what is left
  abbrev pub RunOf : List Rot → RunEnd → Type 0
  RunOf g x = IsRun x.run × Every (Sound axes) x.rest × (x.run ++ x.rest ≡ g)

  run_end_from_run : (window : ℕ) (taken rest : List Rot) → IsRun taken → AllSound rest → RunOf (taken ++ rest) (run_end_from l axes window taken rest)
  unfolding run_end_from
  run_end_from_run window taken [] h k = (h, tt, refl)
  run_end_from_run window taken (r ∷ rest) h k =
      on_if (RunOf (taken ++ (r ∷ rest))) _ _ _
      (λ e. longer (run_end_from_run window (taken ++ (r ∷ [])) rest (run_one taken r h k.0 (and_right (ltb (length taken) window) _ e)) k.1))
      (λ e. (h, k, refl))
    where
      longer : RunOf ((taken ++ (r ∷ [])) ++ rest) (run_end_from l axes window (taken ++ (r ∷ [])) rest)
          → RunOf (taken ++ (r ∷ rest)) (run_end_from l axes window (taken ++ (r ∷ [])) rest)
      longer g = (g.0, g.1, g.2 ∙ append_assoc taken (r ∷ []) rest)

  pub run_end_run : (window : ℕ) (rots : List Rot) → AllSound rots → RunOf rots (run_end l axes window rots)
  unfolding run_end signed_turns
  run_end_run window rots h = run_end_from_run window [] rots (tt, tt) h

-- ---- "starts rising, ends falling"

abbrev StartOf : List Rot → Start → Type 0
StartOf g s = s.skipped ++ s.suffix ≡ g

abbrev EndOf : List Rot → End → Type 0
EndOf g e = e.prefix ++ e.remainder ≡ g

starts_cut : (g before rest : List Rot) → before ++ rest ≡ g → Every (StartOf g) (starts before rest)
unfolding starts
starts_cut g before [] e = tt
starts_cut g before (r ∷ rest) e = (e, starts_cut g (before ++ (r ∷ [])) rest (append_assoc before (r ∷ []) rest ∙ e))

ends_cut : (g before rest : List Rot) → before ++ rest ≡ g → Every (EndOf g) (ends before rest)
unfolding ends
ends_cut g before [] e = tt
ends_cut g before (r ∷ rest) e =
    let one = append_assoc before (r ∷ []) rest ∙ e in
    every_append (EndOf g) (ends (before ++ (r ∷ [])) rest) _ (ends_cut g (before ++ (r ∷ [])) rest one) (one, tt)

-- a suffix of a, the whole of b, a prefix of c
abbrev pub TripleOf : List Rot → List Rot → List Rot → Triple → Type 0
TripleOf a b c t = (t.skipped ++ t.first ≡ a) × (t.second ≡ b) × (t.third ++ t.remainder ≡ c)

with_ends_of : (a b c : List Rot) (s : Start) (es : List End) → StartOf a s → Every (EndOf c) es → Every (TripleOf a b c) (with_ends b s es)
unfolding with_ends
with_ends_of a b c s [] hs he = tt
with_ends_of a b c s (e ∷ es) hs he = ((hs, refl, he.0), with_ends_of a b c s es hs he.1)

with_starts_of : (a b c : List Rot) (ss : List Start) (es : List End) → Every (StartOf a) ss → Every (EndOf c) es → Every (TripleOf a b c) (with_starts b ss es)
unfolding with_starts
with_starts_of a b c [] es hs he = tt
with_starts_of a b c (s ∷ ss) es hs he =
    every_append (TripleOf a b c) (with_ends b s es) _ (with_ends_of a b c s es hs.0 he) (with_starts_of a b c ss es hs.1 he)

pub triples_of : (candidates : ℕ) (a b c : List Rot) → Every (TripleOf a b c) (triples candidates a b c)
unfolding triples
triples_of candidates a b c =
    every_take (TripleOf a b c) (suc candidates) (with_starts b (starts [] a) (ends [] c))
    (with_starts_of a b c (starts [] a) (ends [] c) (starts_cut a [] a refl) (ends_cut c [] c refl))
