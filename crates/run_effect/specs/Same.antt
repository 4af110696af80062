-- Operations and rows with equal effects, for every choice of outcomes and every list of rows multiplied in order. Assumes nothing.
use Rattle.std.specs.Prelude.{◌≡◌, Bool, length}
use Rattle.std.proofs.Math.Path.{refl, sym, ap, ap₂}
use Rattle.std.proofs.Common.{◌∙◌, arith}
use mathlib.Core.List.{List, [], ◌∷◌, map}
use Prim.Native.Nat.{ℕ, zero, suc, ◌+◌, ◌-◌, ◌≤◌}
use Rattle.std.proofs.Math.ListN.{get_or}
use Rattle.groups.specs.Abelian.{Ab, pow2, pow2_plus, pow2_swap}
use Rattle.groups.specs.Normaliser.{NoTorsion, cancel2}
use Rattle.groups.specs.Coeff.{pair_torsion}
use Rattle.effect.specs.Phase.{Quarter, q0}
use Rattle.effect.specs.Words.{Setting}
use Rattle.effect.specs.Effect.{Op, sums, sums_root, effect, word, product, complex_sums, front, effect_from}
use Rattle.effect.specs.Effect as Effect
use Rattle.effect.proofs.Frame.{front_pow2}
use Rattle.effect.proofs.Clifford.{Cliff, Sim, carry_row, carry_row_unit, finish}

module _ (H : Setting) where
  open H use {words as Ws}
  open Ws use {W, unit}

  abbrev M : Ab
  M = complex_sums H

  torsion : NoTorsion M
  torsion = pair_torsion (sums H) (sums H) (sums_root H).torsion (sums_root H).torsion

  -- "a product of frame rows": the rows with the indices ns, in order; beyond the rows stands the identity
  unfoldable pub picked : List ℕ → List (Quarter × W) → List (Quarter × W)
  picked ns rows = map (λ n. get_or rows n (q0, unit)) ns

  -- "Effects are equal after factors 2 for the difference in operation count"
  abbrev pub SameEffect : List (Op W) → List (Quarter × W) → List (Op W) → List (Quarter × W) → Type 0
  SameEffect X rows Y rows' = (o : ℕ → Bool) (ns : List ℕ)
      → pow2 M (length Y) (effect_from H o X (picked ns rows)) ≡ pow2 M (length X) (effect_from H o Y (picked ns rows'))

  pub same_trans : (X Y Z : List (Op W)) (a b c : List (Quarter × W)) → SameEffect X a Y b → SameEffect Y b Z c → SameEffect X a Z c
  same_trans X Y Z a b c h k o ns =
      cancel2 M torsion y (pow2 M z E) (pow2 M x G)
      (pow2_swap M y z E ∙ ap (pow2 M z) (h o ns) ∙ pow2_swap M z x F ∙ ap (pow2 M x) (k o ns) ∙ pow2_swap M x y G)
    where
      x : ℕ
      x = length X

      y : ℕ
      y = length Y

      z : ℕ
      z = length Z

      E : M.C
      E = effect_from H o X (picked ns a)

      F : M.C
      F = effect_from H o Y (picked ns b)

      G : M.C
      G = effect_from H o Z (picked ns c)

  -- the same rows, and operations with equal effects
  pub same_ops : (X Y : List (Op W)) (a : List (Quarter × W)) → Effect.◌≈◌ H X Y → SameEffect X a Y a
  unfolding effect_from
  same_ops X Y a h o ns =
      let t = (product H (picked ns a)).0 in
      let f = word H (product H (picked ns a)).1 in
      sym (front_pow2 H t (length Y) (effect H o X f)) ∙ ap (front H t) (h o f) ∙ front_pow2 H t (length X) (effect H o Y f)

  picked_map : (g : Quarter × W → Quarter × W) → g (q0, unit) ≡ (q0, unit) → (ns : List ℕ) (rows : List (Quarter × W))
      → map g (picked ns rows) ≡ picked ns (map g rows)
  unfolding picked
  picked_map g e [] rows = refl
  picked_map g e (n ∷ ns) rows = ap₂ (λ (x : Quarter × W) (xs : List (Quarter × W)). x ∷ xs) (one rows n) (picked_map g e ns rows)
    where
      one : (rows : List (Quarter × W)) (n : ℕ) → g (get_or rows n (q0, unit)) ≡ get_or (map g rows) n (q0, unit)
      one [] n = e
      one (r ∷ rows) zero = refl
      one (r ∷ rows) (suc n) = one rows n

  -- a stream that absorbed F: the rows are carried
  pub same_sim : (X Y : List (Op W)) (F : Cliff H) (a : List (Quarter × W)) → Sim H X Y F → SameEffect X a Y (map (carry_row H F) a)
  same_sim X Y F a h o ns =
      finish H X Y F h o (picked ns a)
      ∙ ap (λ rows. pow2 M (length X) (effect_from H o Y rows)) (picked_map (carry_row H F) (carry_row_unit H F) ns a)

  -- with fewer operations: as many factors 2 as went
  pub same_less : (X Y : List (Op W)) (a b : List (Quarter × W)) → length Y ≤ length X → SameEffect X a Y b → (o : ℕ → Bool) (ns : List ℕ)
      → pow2 M (length X - length Y) (effect_from H o Y (picked ns b)) ≡ effect_from H o X (picked ns a)
  same_less X Y a b n h o ns =
      let y = length Y in
      let d = length X - y in
      let F = effect_from H o Y (picked ns b) in
      let e : length X ≡ y + d = omega arith in
      cancel2 M torsion y (pow2 M d F) (effect_from H o X (picked ns a))
      (sym (pow2_plus M y d F) ∙ ap (λ m. pow2 M m F) (sym e) ∙ sym (h o ns))
