-- Equality of two lists of numbers, as a Bool. Assumes nothing.
use Rattle.std.specs.Prelude.{◌≡◌, refl, Bool, true, false, ◌&&◌, ℕ, List, [], ◌∷◌, eqb}
use Rattle.std.specs.Cmp.Lexicographic.{pointwise}
use Rattle.std.proofs.Common.{sym, ap, ap₂, ◌∙◌, true≢false, eq-eqb, eqb-true}
use Rattle.std.proofs.lemmas.Bool.{false≢true}

unfoldable pub same_list : List ℕ → List ℕ → Bool
same_list [] [] = true
same_list [] (y ∷ ys) = false
same_list (x ∷ xs) [] = false
same_list (x ∷ xs) (y ∷ ys) = eqb x y && same_list xs ys

pub same_refl : (xs : List ℕ) → same_list xs xs ≡ true
unfolding same_list
same_refl [] = refl
same_refl (x ∷ xs) = rw (eq-eqb x x refl) (same_refl xs)

pub same_true : (xs ys : List ℕ) → same_list xs ys ≡ true → xs ≡ ys
unfolding same_list
same_true [] [] e = refl
same_true [] (y ∷ ys) e = absurd (false≢true e)
same_true (x ∷ xs) [] e = absurd (false≢true e)
same_true (x ∷ xs) (y ∷ ys) e = go (eqb x y) refl (same_true xs ys) e
  where
    go : (b : Bool) → eqb x y ≡ b → (same_list xs ys ≡ true → xs ≡ ys) → (b && same_list xs ys) ≡ true
        → ◌≡◌ {A = List ℕ} (x ∷ xs) (y ∷ ys)
    go true p r q = ap₂ (λ (a : ℕ) (t : List ℕ). a ∷ t) (eqb-true x y p) (r q)
    go false p r q = absurd (false≢true q)

pub same_false : (xs ys : List ℕ) → (xs ≡ ys → ⊥) → same_list xs ys ≡ false
same_false xs ys n = go (same_list xs ys) refl
  where
    go : (b : Bool) → same_list xs ys ≡ b → b ≡ false
    go true p = absurd (n (same_true xs ys p))
    go false p = refl

-- what `==` of two slices answers
pub pointwise_same : (xs ys : List ℕ) → pointwise eqb xs ys ≡ same_list xs ys
unfolding same_list
pointwise_same [] [] = refl
pointwise_same [] (y ∷ ys) = refl
pointwise_same (x ∷ xs) [] = refl
pointwise_same (x ∷ xs) (y ∷ ys) = ap (λ (b : Bool). eqb x y && b) (pointwise_same xs ys)

-- ---- what a call that answers `same_list a w` says of a list x that a is

pub said_same : {r : Bool} {a w x : List ℕ} → r ≡ same_list a w → r ≡ true → a ≡ x → x ≡ w
said_same {r} {a} {w} {x} p q e = sym e ∙ same_true a w (sym p ∙ q)

pub said_other : {r : Bool} {a w x : List ℕ} → r ≡ same_list a w → r ≡ false → a ≡ x → x ≡ w → ⊥
said_other {r} {a} {w} {x} p q e f = true≢false (sym (p ∙ ap (λ (t : List ℕ). same_list t w) (e ∙ f) ∙ same_refl w) ∙ q)
