-- Abelian groups with a square root of 2, modules over Z[√2], and a normaliser for their identities. Assumes nothing.
use Rattle.std.specs.Prelude.{◌≡◌, Bool, true, false, ℤ, pos, negsuc, neg_ℤ, ◌+ℤ◌}
use Rattle.std.proofs.Math.Path.{refl, sym, ap, ap₂}
use Rattle.std.proofs.Common.{◌∙◌}
use mathlib.Core.List.{List, [], ◌∷◌}
use Prim.Native.Nat.{ℕ, zero, suc}
use Rattle.groups.specs.Abelian.{Ab, zer_add, neg_zer, neg_neg, neg_of_add, neg_unique, swap_mid}
use Rattle.groups.specs.Abelian.{nsm, zsm, zsm_add, zsm_neg, zsm_of_add, IsAdd, map_zer, map_zsm, dbl}
use Rattle.groups.specs.Normaliser.{NoTorsion}

pub record Root (M : Ab) : Type 0 where
  pub r : M.C → M.C
  pub r_add : IsAdd M r
  pub r_r : (x : M.C) → r (r x) ≡ dbl M x
  pub torsion : NoTorsion M

-- an expression over atoms 0, 1, .. becomes the list of its coefficients a + b √2
pub data Exp : Type 0 where
  at : ℕ → Exp
  ∅ : Exp
  ◌⊞◌ : Exp → Exp → Exp
  ⊟◌ : Exp → Exp
  √◌ : Exp → Exp

infixl 60 ◌⊞◌
infix 70 ⊟◌ √◌
abbrev pub unit : ℕ → List (ℤ × ℤ)
unit zero = (pos 1, pos 0) ∷ []
unit (suc n) = (pos 0, pos 0) ∷ unit n

abbrev pub plus : List (ℤ × ℤ) → List (ℤ × ℤ) → List (ℤ × ℤ)
plus [] l = l
plus (a ∷ k) [] = a ∷ k
plus (a ∷ k) (b ∷ l) = (a.0 +ℤ b.0, a.1 +ℤ b.1) ∷ plus k l

abbrev pub minus : List (ℤ × ℤ) → List (ℤ × ℤ)
minus [] = []
minus (a ∷ k) = (neg_ℤ a.0, neg_ℤ a.1) ∷ minus k

abbrev pub root : List (ℤ × ℤ) → List (ℤ × ℤ)
root [] = []
root (a ∷ k) = (a.1 +ℤ a.1, a.0) ∷ root k

abbrev pub norm : Exp → List (ℤ × ℤ)
norm (at n) = unit n
norm ∅ = []
norm (a ⊞ b) = plus (norm a) (norm b)
norm (⊟ a) = minus (norm a)
norm (√ a) = root (norm a)

abbrev pub is_zero : ℤ → Bool
is_zero (pos zero) = true
is_zero (pos (suc n)) = false
is_zero (negsuc n) = false

abbrev pub both : Bool → Bool → Bool
both true b = b
both false b = false

abbrev pub zeros : List (ℤ × ℤ) → Bool
zeros [] = true
zeros (a ∷ l) = both (is_zero a.0) (both (is_zero a.1) (zeros l))

abbrev pub Same : Exp → Exp → Type 0
Same a b = zeros (norm (a ⊞ ⊟ b)) ≡ true

pub zero_of : (a : ℤ) → is_zero a ≡ true → a ≡ pos 0
zero_of (pos zero) h = refl
zero_of (pos (suc n)) h = cc
zero_of (negsuc n) h = cc

pub both_left : (a b : Bool) → both a b ≡ true → a ≡ true
both_left true b h = refl
both_left false b h = h

pub both_right : (a b : Bool) → both a b ≡ true → b ≡ true
both_right true b h = h
both_right false b h = cc

module _ (M : Ab) (Mr : Root M) where
  open M use {C, zer, add as ◌⊹◌, neg, add_assoc, add_comm, add_zer, add_neg}
  open Mr use {r, r_add, r_r}

  infixl 60 ◌⊹◌
  abbrev pub atom : List C → ℕ → C
  atom [] n = zer
  atom (x ∷ l) zero = x
  atom (x ∷ l) (suc n) = atom l n

  abbrev pub value : List C → Exp → C
  value l (at n) = atom l n
  value l ∅ = zer
  value l (a ⊞ b) = value l a ⊹ value l b
  value l (⊟ a) = neg (value l a)
  value l (√ a) = r (value l a)

  -- (a + b √2) x
  term : ℤ × ℤ → C → C
  term a x = zsm M a.0 x ⊹ zsm M a.1 (r x)

  combine : List C → List (ℤ × ℤ) → C
  combine [] k = zer
  combine (x ∷ l) [] = zer
  combine (x ∷ l) (a ∷ k) = term a x ⊹ combine l k

  combine_nil : (l : List C) → combine l [] ≡ zer
  unfolding combine
  combine_nil [] = refl
  combine_nil (x ∷ l) = refl

  combine_unit : (l : List C) (n : ℕ) → combine l (unit n) ≡ atom l n
  unfolding combine term zsm nsm
  combine_unit [] n = refl
  combine_unit (x ∷ l) zero = ap₂ ◌⊹◌ (add_zer (zer ⊹ x) ∙ zer_add M x) (combine_nil l) ∙ add_zer x
  combine_unit (x ∷ l) (suc n) = ap (λ t. t ⊹ combine l (unit n)) (add_zer zer) ∙ zer_add M (combine l (unit n)) ∙ combine_unit l n

  term_plus : (a b : ℤ × ℤ) (x : C) → term (a.0 +ℤ b.0, a.1 +ℤ b.1) x ≡ term a x ⊹ term b x
  unfolding term
  term_plus a b x =
      ap₂ ◌⊹◌ (zsm_add M a.0 b.0 x) (zsm_add M a.1 b.1 (r x))
      ∙ swap_mid M (zsm M a.0 x) (zsm M b.0 x) (zsm M a.1 (r x)) (zsm M b.1 (r x))

  combine_plus : (l : List C) (j k : List (ℤ × ℤ)) → combine l (plus j k) ≡ combine l j ⊹ combine l k
  unfolding combine term
  combine_plus [] j k = sym (add_zer zer)
  combine_plus (x ∷ l) [] k = sym (zer_add M (combine (x ∷ l) k))
  combine_plus (x ∷ l) (a ∷ j) [] = sym (add_zer (combine (x ∷ l) (a ∷ j)))
  combine_plus (x ∷ l) (a ∷ j) (b ∷ k) =
      ap₂ ◌⊹◌ (term_plus a b x) (combine_plus l j k) ∙ swap_mid M (term a x) (term b x) (combine l j) (combine l k)

  term_minus : (a : ℤ × ℤ) (x : C) → term (neg_ℤ a.0, neg_ℤ a.1) x ≡ neg (term a x)
  unfolding term
  term_minus a x =
      ap₂ ◌⊹◌ (zsm_neg M a.0 x) (zsm_neg M a.1 (r x)) ∙ sym (neg_of_add M (zsm M a.0 x) (zsm M a.1 (r x)))

  combine_minus : (l : List C) (k : List (ℤ × ℤ)) → combine l (minus k) ≡ neg (combine l k)
  unfolding combine term
  combine_minus [] k = sym (neg_zer M)
  combine_minus (x ∷ l) [] = sym (neg_zer M)
  combine_minus (x ∷ l) (a ∷ k) = ap₂ ◌⊹◌ (term_minus a x) (combine_minus l k) ∙ sym (neg_of_add M (term a x) (combine l k))

  term_root : (a : ℤ × ℤ) (x : C) → term (a.1 +ℤ a.1, a.0) x ≡ r (term a x)
  unfolding term
  term_root a x =
      add_comm (zsm M (a.1 +ℤ a.1) x) (zsm M a.0 (r x))
      ∙ sym (r_add (zsm M a.0 x) (zsm M a.1 (r x)) ∙ ap₂ ◌⊹◌ (map_zsm M r r_add a.0 x) square)
    where
      square : r (zsm M a.1 (r x)) ≡ zsm M (a.1 +ℤ a.1) x
      square =
          map_zsm M r r_add a.1 (r x) ∙ ap (zsm M a.1) (r_r x) ∙ zsm_of_add M a.1 x x ∙ sym (zsm_add M a.1 a.1 x)

  combine_root : (l : List C) (k : List (ℤ × ℤ)) → combine l (root k) ≡ r (combine l k)
  unfolding combine
  combine_root [] k = sym (map_zer M r r_add)
  combine_root (x ∷ l) [] = sym (map_zer M r r_add)
  combine_root (x ∷ l) (a ∷ k) = ap₂ ◌⊹◌ (term_root a x) (combine_root l k) ∙ sym (r_add (term a x) (combine l k))

  sound : (l : List C) (a : Exp) → combine l (norm a) ≡ value l a
  sound l (at n) = combine_unit l n
  sound l ∅ = combine_nil l
  sound l (a ⊞ b) = combine_plus l (norm a) (norm b) ∙ ap₂ ◌⊹◌ (sound l a) (sound l b)
  sound l (⊟ a) = combine_minus l (norm a) ∙ ap neg (sound l a)
  sound l (√ a) = combine_root l (norm a) ∙ ap r (sound l a)

  combine_zeros : (l : List C) (k : List (ℤ × ℤ)) → zeros k ≡ true → combine l k ≡ zer
  unfolding combine term zsm nsm
  combine_zeros [] k h = refl
  combine_zeros (x ∷ l) [] h = refl
  combine_zeros (x ∷ l) (a ∷ k) h =
      let first = zero_of a.0 (both_left (is_zero a.0) (both (is_zero a.1) (zeros k)) h) in
      let rest = both_right (is_zero a.0) (both (is_zero a.1) (zeros k)) h in
      let second = zero_of a.1 (both_left (is_zero a.1) (zeros k) rest) in
      ap₂ ◌⊹◌ (ap₂ (λ s t. zsm M s x ⊹ zsm M t (r x)) first second ∙ add_zer zer) (combine_zeros l k (both_right (is_zero a.1) (zeros k) rest))
      ∙ add_zer zer

  -- an identity over Z[√2]: lin (x ∷ y ∷ []) a b refl
  pub lin : (l : List C) (a b : Exp) → Same a b → value l a ≡ value l b
  lin l a b h =
      neg_unique M (value l a) (neg (value l b)) (sym (sound l (a ⊞ ⊟ b)) ∙ combine_zeros l (norm (a ⊞ ⊟ b)) h) ∙ neg_neg M (value l b)
