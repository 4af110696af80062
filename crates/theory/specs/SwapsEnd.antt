-- The search for swaps in a segment ends: each start is beyond the one before, so the model makes enough steps. Assumes nothing.
use Rattle.std.specs.Prelude.{◌≡◌, Bool, ◌||◌}
use Rattle.std.proofs.Math.Path.{refl, sym, ap}
use Rattle.std.proofs.Common.{◌∙◌, true≢false, arith, lt-ltb}
use Rattle.std.proofs.Math.Bool.{true, false}
use Rattle.std.proofs.Math.Option.{Option, none, some, map}
use mathlib.Core.List.{List, [], ◌∷◌, ◌++◌}
use Prim.Native.Nat.{ℕ, zero, suc, ◌+◌, ◌≤◌, ◌<◌}
use Rattle.std.proofs.Math.Nat.{le_refl}
use Rattle.std.proofs.Math.ListN.{length, length-append}
use Rattle.model.specs.declared.ExchangeRules.{ExchangeRules}
use Rattle.model.specs.Lists.{when◌then◌else◌, all_of, is_empty}
use Rattle.model.specs.Items.{Rot}
use Rattle.model.specs.Exchange.{improves, Start, starts, End, ends, Triple, with_ends, with_starts, triples, Swap, swap_of, try_exchange, first_with_second}
use Rattle.model.specs.Exchange.{second_with_third, try_triple, RunEnd, run_end_from, run_end, no_triple, Swapping, next_start, swap_step, swaps_from}
use Rattle.theory.specs.Cases.{by_if, if_true, if_false}
use Rattle.theory.specs.TieOrder.{try_triple_either}
use Rattle.theory.specs.Every.{Every, every_append, every_take}

abbrev Ends : ℕ → End → Type 0
Ends m e = length e.remainder ≤ m

abbrev After : ℕ → Triple → Type 0
After m t = length t.remainder ≤ m

ends_after : (m : ℕ) (before rest : List Rot) → length rest ≤ m → Every (Ends m) (ends before rest)
unfolding ends
ends_after m before [] h = tt
ends_after m before (r ∷ rest) h =
    every_append (Ends m) (ends (before ++ (r ∷ [])) rest) _ (ends_after m (before ++ (r ∷ [])) rest (omega arith)) (omega arith, tt)

with_ends_after : (m : ℕ) (b : List Rot) (s : Start) (es : List End) → Every (Ends m) es → Every (After m) (with_ends b s es)
unfolding with_ends
with_ends_after m b s [] h = tt
with_ends_after m b s (e ∷ es) h = (h.0, with_ends_after m b s es h.1)

with_starts_after : (m : ℕ) (b : List Rot) (ss : List Start) (es : List End) → Every (Ends m) es → Every (After m) (with_starts b ss es)
unfolding with_starts
with_starts_after m b [] es h = tt
with_starts_after m b (s ∷ ss) es h = every_append (After m) (with_ends b s es) _ (with_ends_after m b s es h) (with_starts_after m b ss es h)

triples_after : (candidates : ℕ) (a b c : List Rot) → Every (After (length c)) (triples candidates a b c)
unfolding triples
triples_after candidates a b c =
    every_take (After (length c)) (suc candidates) (with_starts b (starts [] a) (ends [] c))
    (with_starts_after (length c) b (starts [] a) (ends [] c) (ends_after (length c) [] c (le_refl _)))

abbrev Leaves : ℕ → Option Swap → Type 0
Leaves m none = Unit {0}
Leaves m (some s) = length s.remainder ≤ m

made_leaves : (m : ℕ) (t : Triple) (o : Option (List Rot)) → length t.remainder ≤ m → Leaves m (map (swap_of t) o)
made_leaves m t none h = tt
made_leaves m t (some new) h = h

module _ (l : ℕ) (axes : List (List ℕ)) (rules : ExchangeRules) where
  try_exchange_leaves : (m : ℕ) (t : Triple) (g h trial : List Rot) → After m t → Leaves m (try_exchange l axes rules t g h trial)
  unfolding try_exchange
  try_exchange_leaves m t g h trial a =
      by_if (Leaves m) _ _ _ (made_leaves m t (improves l axes rules.eager trial (t.first ++ (t.second ++ t.third))) a) tt

  try_triple_leaves : (m : ℕ) (ts : List Triple) → Every (After m) ts → Leaves m (try_triple l axes rules ts)
  unfolding first_with_second second_with_third
  try_triple_leaves m =
      try_triple_either l axes rules (Leaves m) (After m) tt (λ t. try_exchange_leaves m t _ _ _) (λ t. try_exchange_leaves m t _ _ _)

-- a run takes from the front, and takes one at least
record Took (taken rest : List Rot) (x : RunEnd) : Type 0 where
  both : length x.run + length x.rest ≡ length taken + length rest
  grew : length taken ≤ length x.run

module _ (l : ℕ) (axes : List (List ℕ)) (window : ℕ) where
  run_end_from_took : (taken rest : List Rot) → Took taken rest (run_end_from l axes window taken rest)
  unfolding run_end_from
  run_end_from_took taken [] = record { both = refl; grew = le_refl _ }
  run_end_from_took taken (r ∷ rest) =
      let h = run_end_from_took (taken ++ (r ∷ [])) rest in
      by_if (Took taken (r ∷ rest)) _ _ _
      (record { both = omega (arith, h.both, length-append taken (r ∷ [])); grew = omega (arith, h.grew, length-append taken (r ∷ [])) })
      (record { both = refl; grew = le_refl _ })

  run_end_from_first : 0 < window → (r : Rot) (rest : List Rot) → run_end_from l axes window [] (r ∷ rest) ≡ run_end_from l axes window (r ∷ []) rest
  unfolding run_end_from all_of
  run_end_from_first w r rest = if_true _ _ (rw (lt-ltb 0 window w) refl)

module _ (l : ℕ) (axes : List (List ℕ)) (rules : ExchangeRules) (opens : 0 < rules.window) where
  abbrev run : List Rot → RunEnd
  run = run_end l axes rules.window

  run_le : (rest : List Rot) → length (run rest).run + length (run rest).rest ≡ length rest
  unfolding run_end
  run_le rest = omega (arith, (run_end_from_took l axes rules.window [] rest).both)

  run_less : (rest : List Rot) → is_empty (run rest).rest ≡ false → length (run rest).rest < length rest
  unfolding run_end
  run_less [] h = absurd (true≢false (nothing ∙ h))
    where
      nothing : true ≡ is_empty (run_end_from l axes rules.window [] []).rest
      nothing = unfold run_end_from is_empty in refl
  run_less (r ∷ rest) h =
      let f = run_end_from_took l axes rules.window (r ∷ []) rest in
      let e : length (run_end_from l axes rules.window [] (r ∷ rest)).rest ≡ length (run_end_from l axes rules.window (r ∷ []) rest).rest
      = ap (λ (x : RunEnd). length x.rest) (run_end_from_first l axes rules.window opens r rest) in
      omega (arith, f.both, f.grew)

  swap_step_less : (s : Swapping) → no_triple l axes rules.window s.rest ≡ false → length (swap_step l axes rules s).rest < length s.rest
  unfolding swap_step no_triple
  swap_step_less s h =
      let a = run s.rest in
      let b = run a.rest in
      let c = run b.rest in
      let f : length a.rest < length s.rest = run_less s.rest (or_left _ _ h) in
      let ts = triples rules.candidates a.run b.run c.run in
      go a c (try_triple l axes rules ts) f
      (try_triple_leaves l axes rules (length c.run) ts (triples_after rules.candidates a.run b.run c.run))
      (omega (arith, run_le a.rest, run_le b.rest))
    where
      or_left : (x y : Bool) → x || y ≡ false → x ≡ false
      or_left true y h = h
      or_left false y h = refl

      go : (a c : RunEnd) (o : Option Swap) → length a.rest < length s.rest → Leaves (length c.run) o
          → length c.run + length c.rest ≤ length a.rest → length (next_start a c s o).rest < length s.rest
      go a c none f k e = unfold next_start in f
      go a c (some x) f k e = unfold next_start in (omega (arith, length-append x.remainder c.rest))

  abbrev stop : Swapping → Bool
  stop s = no_triple l axes rules.window s.rest

  none_left : (s : Swapping) → length s.rest ≤ 0 → stop s ≡ true
  none_left s h = go (stop s) refl
    where
      go : (t : Bool) → stop s ≡ t → stop s ≡ true
      go true e = e
      go false e = absurd (omega (arith, swap_step_less s e))

  -- as many steps as rotations are enough
  pub swaps_enough : (k k' : ℕ) (s : Swapping) → length s.rest ≤ k → length s.rest ≤ k'
      → swaps_from l axes rules k s ≡ swaps_from l axes rules k' s
  unfolding swaps_from
  swaps_enough zero zero s h h' = refl
  swaps_enough zero (suc k') s h h' = sym (if_true _ _ (none_left s h))
  swaps_enough (suc k) zero s h h' = if_true _ _ (none_left s h')
  swaps_enough (suc k) (suc k') s h h' = go (stop s) refl (λ a b. swaps_enough k k' (swap_step l axes rules s) a b)
    where
      next : Swapping
      next = swap_step l axes rules s

      go : (t : Bool) → stop s ≡ t
          → (length next.rest ≤ k → length next.rest ≤ k' → swaps_from l axes rules k next ≡ swaps_from l axes rules k' next)
          → (when stop s then s else swaps_from l axes rules k next) ≡ (when stop s then s else swaps_from l axes rules k' next)
      go true e ih = if_true _ _ e ∙ sym (if_true _ _ e)
      go false e ih = if_false _ _ e ∙ ih (omega (arith, swap_step_less s e)) (omega (arith, swap_step_less s e)) ∙ sym (if_false _ _ e)
