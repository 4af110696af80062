-- Merging at a distance: a rotation slides over rotations that commute with it. Assumes nothing.
use Rattle.std.proofs.Common.{sym, subst, append_assoc}
use Rattle.std.specs.Prelude.{List, [], ◌∷◌, ◌++◌, ℤ, ◌+ℤ◌}
use Rattle.groups.specs.Eighth.{Eighth, eighth}
use Rattle.effect.specs.Words.{Setting}
use Rattle.effect.specs.Effect.{Op, plain, measured, conditional}
use Rattle.effect.specs.Effect as Effect
use Rattle.effect.proofs.Equal.{≈-refl, ≈-sym, ≈-trans, ≈-cons, ≈-before, ≈-after, swap, merge}
use Rattle.effect.specs.Reach as Reached

module _ (H : Setting) where
  open H use {words as Ws}
  open Ws use {W}

  infix 20 ◌≈◌
  abbrev ◌≈◌ : List (Op W) → List (Op W) → Type 0
  X ≈ Y = Effect.◌≈◌ H X Y

  abbrev AllPass : W → List (Op W) → Type 0
  AllPass = Reached.AllPass H

  -- a rotation moves to the front
  pub slide : (e : Eighth) (P : W) (B : List (Op W)) → AllPass P B → (B ++ (plain e P ∷ [])) ≈ (plain e P ∷ B)
  slide e P [] h = ≈-refl H (plain e P ∷ [])
  slide e P (plain d Q ∷ B) h =
      ≈-trans H (plain d Q ∷ (B ++ (plain e P ∷ []))) (plain d Q ∷ plain e P ∷ B) (plain e P ∷ plain d Q ∷ B)
      (≈-cons H (plain d Q) (B ++ (plain e P ∷ [])) (plain e P ∷ B) (slide e P B h.1))
      (≈-after H (plain d Q ∷ plain e P ∷ []) (plain e P ∷ plain d Q ∷ []) B (swap H d e Q P h.0))
  slide e P (measured s Q m ∷ B) h = absurd h.0
  slide e P (conditional d Q m ∷ B) h = absurd h.0

  -- a rotation at the end merges into a like one that it reaches
  pub merge_at : (a b : ℤ) (P : W) (A B : List (Op W)) → AllPass P B
      → ((A ++ (plain (eighth a) P ∷ B)) ++ (plain (eighth b) P ∷ [])) ≈ (A ++ (plain (eighth (a +ℤ b)) P ∷ B))
  merge_at a b P A B h =
      subst (λ L. L ≈ (A ++ (plain k P ∷ B))) (sym (append_assoc A (plain i P ∷ B) (plain j P ∷ [])))
      (≈-before H A (plain i P ∷ (B ++ (plain j P ∷ []))) (plain k P ∷ B)
      (≈-trans H (plain i P ∷ (B ++ (plain j P ∷ []))) (plain i P ∷ plain j P ∷ B) (plain k P ∷ B)
      (≈-cons H (plain i P) (B ++ (plain j P ∷ [])) (plain j P ∷ B) (slide j P B h))
      (≈-after H (plain i P ∷ plain j P ∷ []) (plain k P ∷ []) B (merge H a b P))))
    where
      i : Eighth
      i = eighth a

      j : Eighth
      j = eighth b

      k : Eighth
      k = eighth (a +ℤ b)

  -- and an even one goes to the end, where it is absorbed
  pub to_end : (e : Eighth) (P : W) (A B : List (Op W)) → AllPass P B → (A ++ (plain e P ∷ B)) ≈ ((A ++ B) ++ (plain e P ∷ []))
  to_end e P A B h =
      subst (λ L. (A ++ (plain e P ∷ B)) ≈ L) (sym (append_assoc A B (plain e P ∷ [])))
      (≈-before H A (plain e P ∷ B) (B ++ (plain e P ∷ [])) (≈-sym H (B ++ (plain e P ∷ [])) (plain e P ∷ B) (slide e P B h)))
