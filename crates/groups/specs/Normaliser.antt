-- A normaliser for the identities of abelian groups; groups without torsion. Assumes nothing.
use Rattle.std.proofs.Math.Path.{◌≡◌, refl, sym, ap, ap₂}
use Rattle.std.proofs.Common.{◌∙◌}
use mathlib.Core.List.{List, [], ◌∷◌}
use Rattle.std.specs.Prelude.{Bool, true, false, ℤ, pos, negsuc, neg_ℤ, ◌+ℤ◌}
use Prim.Native.Nat.{ℕ, zero, suc}
use Rattle.groups.specs.Abelian.{Ab, zer_add, neg_zer, neg_neg, neg_of_add, neg_unique, add_right_cancel, swap_mid}
use Rattle.groups.specs.Abelian.{nsm, zsm, zsm_add, zsm_neg, dbl, pow2}

-- The normaliser: an expression over atoms 0, 1, .. becomes the list of its integer coefficients.
pub data Exp : Type 0 where
  at : ℕ → Exp
  ∅ : Exp
  ◌⊞◌ : Exp → Exp → Exp
  ⊟◌ : Exp → Exp

infixl 60 ◌⊞◌
infix 70 ⊟◌
abbrev pub unit : ℕ → List ℤ
unit zero = pos 1 ∷ []
unit (suc n) = pos 0 ∷ unit n

abbrev pub plus : List ℤ → List ℤ → List ℤ
plus [] l = l
plus (a ∷ k) [] = a ∷ k
plus (a ∷ k) (b ∷ l) = (a +ℤ b) ∷ plus k l

abbrev pub minus : List ℤ → List ℤ
minus [] = []
minus (a ∷ k) = neg_ℤ a ∷ minus k

abbrev pub norm : Exp → List ℤ
norm (at n) = unit n
norm ∅ = []
norm (a ⊞ b) = plus (norm a) (norm b)
norm (⊟ a) = minus (norm a)

-- every coefficient is zero
abbrev pub zeros : List ℤ → Bool
zeros [] = true
zeros (pos zero ∷ l) = zeros l
zeros (pos (suc n) ∷ l) = false
zeros (negsuc n ∷ l) = false

abbrev pub Same : Exp → Exp → Type 0
Same a b = zeros (norm (a ⊞ ⊟ b)) ≡ true

module _ (M : Ab) where
  open M use {C, zer, add as ◌⊹◌, neg, add_assoc, add_comm, add_zer, add_neg}

  infixl 60 ◌⊹◌
  abbrev pub atom : List C → ℕ → C
  atom [] n = zer
  atom (x ∷ l) zero = x
  atom (x ∷ l) (suc n) = atom l n

  abbrev pub value : List C → Exp → C
  value l (at n) = atom l n
  value l ∅ = zer
  value l (a ⊞ b) = value l a ⊹ value l b
  value l (⊟ a) = neg (value l a)

  combine : List C → List ℤ → C
  combine [] k = zer
  combine (x ∷ l) [] = zer
  combine (x ∷ l) (a ∷ k) = zsm M a x ⊹ combine l k

  combine_nil : (l : List C) → combine l [] ≡ zer
  unfolding combine
  combine_nil [] = refl
  combine_nil (x ∷ l) = refl

  combine_unit : (l : List C) (n : ℕ) → combine l (unit n) ≡ atom l n
  unfolding combine zsm nsm
  combine_unit [] n = refl
  combine_unit (x ∷ l) zero = ap₂ ◌⊹◌ (zer_add M x) (combine_nil l) ∙ add_zer x
  combine_unit (x ∷ l) (suc n) = zer_add M (combine l (unit n)) ∙ combine_unit l n

  combine_plus : (l : List C) (j k : List ℤ) → combine l (plus j k) ≡ combine l j ⊹ combine l k
  unfolding combine
  combine_plus [] j k = sym (add_zer zer)
  combine_plus (x ∷ l) [] k = sym (zer_add M (combine (x ∷ l) k))
  combine_plus (x ∷ l) (a ∷ j) [] = sym (add_zer (combine (x ∷ l) (a ∷ j)))
  combine_plus (x ∷ l) (a ∷ j) (b ∷ k) =
      ap₂ ◌⊹◌ (zsm_add M a b x) (combine_plus l j k) ∙ swap_mid M (zsm M a x) (zsm M b x) (combine l j) (combine l k)

  combine_minus : (l : List C) (k : List ℤ) → combine l (minus k) ≡ neg (combine l k)
  unfolding combine
  combine_minus [] k = sym (neg_zer M)
  combine_minus (x ∷ l) [] = sym (neg_zer M)
  combine_minus (x ∷ l) (a ∷ k) = ap₂ ◌⊹◌ (zsm_neg M a x) (combine_minus l k) ∙ sym (neg_of_add M (zsm M a x) (combine l k))

  sound : (l : List C) (a : Exp) → combine l (norm a) ≡ value l a
  sound l (at n) = combine_unit l n
  sound l ∅ = combine_nil l
  sound l (a ⊞ b) = combine_plus l (norm a) (norm b) ∙ ap₂ ◌⊹◌ (sound l a) (sound l b)
  sound l (⊟ a) = combine_minus l (norm a) ∙ ap neg (sound l a)

  combine_zeros : (l : List C) (k : List ℤ) → zeros k ≡ true → combine l k ≡ zer
  unfolding combine zsm nsm
  combine_zeros [] k h = refl
  combine_zeros (x ∷ l) [] h = refl
  combine_zeros (x ∷ l) (pos zero ∷ k) h = zer_add M (combine l k) ∙ combine_zeros l k h
  combine_zeros (x ∷ l) (pos (suc n) ∷ k) h = let z : ◌≡◌ {A = C} (combine (x ∷ l) (pos (suc n) ∷ k)) zer = cc in z
  combine_zeros (x ∷ l) (negsuc n ∷ k) h = cc

  -- an identity of abelian groups: ab (x ∷ y ∷ []) a b refl
  pub ab : (l : List C) (a b : Exp) → Same a b → value l a ≡ value l b
  ab l a b h =
      neg_unique M (value l a) (neg (value l b)) (sym (sound l (a ⊞ ⊟ b)) ∙ combine_zeros l (norm (a ⊞ ⊟ b)) h) ∙ neg_neg M (value l b)

  -- no torsion: factors 2 cancel
  abbrev pub NoTorsion : Type 0
  NoTorsion = (n : ℕ) (x : C) → nsm M (suc n) x ≡ zer → x ≡ zer

  module _ (torsion : NoTorsion) where
    pub halve : (x y : C) → dbl M x ≡ dbl M y → x ≡ y
    unfolding nsm
    halve x y h = add_right_cancel M x y (neg y) (torsion 1 (x ⊹ neg y) twice ∙ sym (add_neg y))
      where
        twice : (zer ⊹ (x ⊹ neg y)) ⊹ (x ⊹ neg y) ≡ zer
        twice =
            ab (x ∷ y ∷ []) (∅ ⊞ (at 0 ⊞ ⊟ at 1) ⊞ (at 0 ⊞ ⊟ at 1)) ((at 0 ⊞ at 0) ⊞ ⊟ (at 1 ⊞ at 1)) refl
            ∙ ap (λ t. t ⊹ neg (y ⊹ y)) h ∙ add_neg (y ⊹ y)

    pub cancel2 : (n : ℕ) (x y : C) → pow2 M n x ≡ pow2 M n y → x ≡ y
    unfolding pow2
    cancel2 zero x y h = h
    cancel2 (suc n) x y h = cancel2 n x y (halve (pow2 M n x) (pow2 M n y) h)
