-- Abelian groups: the record, integer multiples, additive maps, doubling. Assumes nothing.
use Rattle.std.specs.Prelude.{◌≡◌, ℤ, ◌+ℤ◌, ◌*ℤ◌}
use Rattle.std.proofs.Math.Path.{refl, sym, ap, ap₂}
use Rattle.std.proofs.Common.{◌∙◌, zero-add, suc-add}
use Prim.Native.Nat.{ℕ, zero, suc, ◌+◌}
use Rattle.std.proofs.Math.IntN.{pos, negsuc, suc_ℤ, pred_ℤ, neg_ℤ, +ℤ-suc_ℤ, +ℤ-pred_ℤ, +ℤ_idr, +ℤ_idl, suc-pred, zero-*ℤ, suc_ℤ-*ℤ, pred_ℤ-*ℤ}

pub record Ab : Type 1 where
  pub C : Type 0
  pub zer : C
  pub add : C → C → C
  pub neg : C → C
  pub add_assoc : (x y z : C) → add (add x y) z ≡ add x (add y z)
  pub add_comm : (x y : C) → add x y ≡ add y x
  pub add_zer : (x : C) → add x zer ≡ x
  pub add_neg : (x : C) → add x (neg x) ≡ zer

module _ (M : Ab) where
  open M use {C, zer, add as ◌⊹◌, neg, add_assoc, add_comm, add_zer, add_neg}

  infixl 60 ◌⊹◌
  pub zer_add : (x : C) → zer ⊹ x ≡ x
  zer_add x = add_comm zer x ∙ add_zer x

  pub neg_add : (x : C) → neg x ⊹ x ≡ zer
  neg_add x = add_comm (neg x) x ∙ add_neg x

  -- (x + y) + -y = x
  pub add_neg_cancel : (x y : C) → (x ⊹ y) ⊹ neg y ≡ x
  add_neg_cancel x y = add_assoc x y (neg y) ∙ ap (λ t. x ⊹ t) (add_neg y) ∙ add_zer x

  pub neg_add_cancel : (x y : C) → (x ⊹ neg y) ⊹ y ≡ x
  neg_add_cancel x y = add_assoc x (neg y) y ∙ ap (λ t. x ⊹ t) (neg_add y) ∙ add_zer x

  pub add_right_cancel : (x y z : C) → x ⊹ z ≡ y ⊹ z → x ≡ y
  add_right_cancel x y z h = sym (add_neg_cancel x z) ∙ ap (λ t. t ⊹ neg z) h ∙ add_neg_cancel y z

  pub swap_mid : (a b c d : C) → (a ⊹ b) ⊹ (c ⊹ d) ≡ (a ⊹ c) ⊹ (b ⊹ d)
  swap_mid a b c d = simp (add_assoc, left)
    where
      left : (x y z : C) → x ⊹ (y ⊹ z) ≡ y ⊹ (x ⊹ z)
      left x y z = sym (add_assoc x y z) ∙ ap (λ t. t ⊹ z) (add_comm x y) ∙ add_assoc y x z

  -- what adds to zero is the negation
  pub neg_unique : (x y : C) → x ⊹ y ≡ zer → x ≡ neg y
  neg_unique x y h = add_right_cancel x (neg y) y (h ∙ sym (neg_add y))

  pub neg_zer : neg zer ≡ zer
  neg_zer = sym (neg_unique zer zer (add_zer zer))

  pub neg_neg : (x : C) → neg (neg x) ≡ x
  neg_neg x = sym (neg_unique x (neg x) (add_neg x))

  pub neg_of_add : (x y : C) → neg (x ⊹ y) ≡ neg x ⊹ neg y
  neg_of_add x y = sym (neg_unique (neg x ⊹ neg y) (x ⊹ y) (swap_mid (neg x) (neg y) x y ∙ ap₂ ◌⊹◌ (neg_add x) (neg_add y) ∙ add_zer zer))

  -- integer multiples
  unfoldable pub nsm : ℕ → C → C
  nsm zero x = zer
  nsm (suc n) x = nsm n x ⊹ x

  unfoldable pub zsm : ℤ → C → C
  zsm (pos n) x = nsm n x
  zsm (negsuc n) x = neg (nsm (suc n) x)

  pub zsm_suc : (m : ℤ) (x : C) → zsm (suc_ℤ m) x ≡ zsm m x ⊹ x
  unfolding nsm zsm
  zsm_suc (pos n) x = refl
  zsm_suc (negsuc zero) x = sym (ap (λ t. neg t ⊹ x) (zer_add x) ∙ neg_add x)
  zsm_suc (negsuc (suc n)) x = sym (ap (λ t. t ⊹ x) (neg_of_add (nsm (suc n) x) x) ∙ neg_add_cancel (neg (nsm (suc n) x)) x)

  pub zsm_pred : (m : ℤ) (x : C) → zsm (pred_ℤ m) x ≡ zsm m x ⊹ neg x
  zsm_pred m x = sym (add_neg_cancel (zsm (pred_ℤ m) x) x) ∙ ap (λ t. t ⊹ neg x) (sym (zsm_suc (pred_ℤ m) x) ∙ ap (λ k. zsm k x) (suc-pred m))

  pub zsm_add : (m k : ℤ) (x : C) → zsm (m +ℤ k) x ≡ zsm m x ⊹ zsm k x
  unfolding nsm zsm
  zsm_add m (pos zero) x = ap (λ t. zsm t x) (+ℤ_idr m) ∙ sym (add_zer (zsm m x))
  zsm_add m (pos (suc n)) x =
      ap (λ t. zsm t x) (+ℤ-suc_ℤ m (pos n)) ∙ zsm_suc (m +ℤ pos n) x ∙ ap (λ t. t ⊹ x) (zsm_add m (pos n) x)
      ∙ add_assoc (zsm m x) (nsm n x) x
  zsm_add m (negsuc zero) x =
      ap (λ t. zsm t x) (+ℤ-pred_ℤ m (pos zero)) ∙ zsm_pred (m +ℤ pos zero) x
      ∙ ap₂ (λ s t. zsm s x ⊹ neg t) (+ℤ_idr m) (sym (zer_add x))
  zsm_add m (negsuc (suc n)) x =
      ap (λ t. zsm t x) (+ℤ-pred_ℤ m (negsuc n)) ∙ zsm_pred (m +ℤ negsuc n) x ∙ ap (λ t. t ⊹ neg x) (zsm_add m (negsuc n) x)
      ∙ add_assoc (zsm m x) (zsm (negsuc n) x) (neg x) ∙ ap (λ t. zsm m x ⊹ t) (sym (neg_of_add (nsm (suc n) x) x))

  pub zsm_neg : (m : ℤ) (x : C) → zsm (neg_ℤ m) x ≡ neg (zsm m x)
  unfolding nsm zsm
  zsm_neg (pos zero) x = sym neg_zer
  zsm_neg (pos (suc n)) x = refl
  zsm_neg (negsuc n) x = sym (neg_neg (nsm (suc n) x))

  pub zsm_zer : (m : ℤ) → zsm m zer ≡ zer
  unfolding nsm zsm
  zsm_zer (pos zero) = refl
  zsm_zer (pos (suc n)) = add_zer (nsm n zer) ∙ zsm_zer (pos n)
  zsm_zer (negsuc zero) = ap neg (add_zer zer) ∙ neg_zer
  zsm_zer (negsuc (suc n)) = ap neg (add_zer (nsm (suc n) zer)) ∙ zsm_zer (negsuc n)

  nsm_of_add : (n : ℕ) (x y : C) → nsm n (x ⊹ y) ≡ nsm n x ⊹ nsm n y
  unfolding nsm
  nsm_of_add zero x y = sym (add_zer zer)
  nsm_of_add (suc n) x y = ap (λ t. t ⊹ (x ⊹ y)) (nsm_of_add n x y) ∙ swap_mid (nsm n x) (nsm n y) x y

  pub zsm_of_add : (m : ℤ) (x y : C) → zsm m (x ⊹ y) ≡ zsm m x ⊹ zsm m y
  unfolding zsm
  zsm_of_add (pos n) x y = nsm_of_add n x y
  zsm_of_add (negsuc n) x y = ap neg (nsm_of_add (suc n) x y) ∙ neg_of_add (nsm (suc n) x) (nsm (suc n) y)

  pub zsm_mul : (a b : ℤ) (x : C) → zsm a (zsm b x) ≡ zsm (a *ℤ b) x
  unfolding zsm nsm
  zsm_mul (pos zero) b x = ap (λ t. zsm t x) (sym (zero-*ℤ b))
  zsm_mul (pos (suc n)) b x =
      ap (λ t. t ⊹ zsm b x) (zsm_mul (pos n) b x) ∙ sym (zsm_add (pos n *ℤ b) b x) ∙ ap (λ t. zsm t x) (sym (suc_ℤ-*ℤ (pos n) b))
  zsm_mul (negsuc zero) b x =
      let e : negsuc 0 *ℤ b ≡ neg_ℤ b = pred_ℤ-*ℤ (pos 0) b ∙ ap (λ t. t +ℤ neg_ℤ b) (zero-*ℤ b) ∙ +ℤ_idl (neg_ℤ b) in
      ap neg (zer_add (zsm b x)) ∙ sym (zsm_neg b x) ∙ ap (λ t. zsm t x) (sym e)
  zsm_mul (negsuc (suc n)) b x =
      neg_of_add (nsm (suc n) (zsm b x)) (zsm b x) ∙ ap₂ ◌⊹◌ (zsm_mul (negsuc n) b x) (sym (zsm_neg b x))
      ∙ sym (zsm_add (negsuc n *ℤ b) (neg_ℤ b) x) ∙ ap (λ t. zsm t x) (sym (pred_ℤ-*ℤ (negsuc n) b))

  -- additive maps
  abbrev pub IsAdd : (C → C) → Type 0
  IsAdd f = (x y : C) → f (x ⊹ y) ≡ f x ⊹ f y

  module _ (f : C → C) (fa : IsAdd f) where
    pub map_zer : f zer ≡ zer
    map_zer = add_right_cancel (f zer) zer (f zer) (sym (fa zer zer) ∙ ap f (add_zer zer) ∙ sym (zer_add (f zer)))

    pub map_neg : (x : C) → f (neg x) ≡ neg (f x)
    map_neg x = neg_unique (f (neg x)) (f x) (sym (fa (neg x) x) ∙ ap f (neg_add x) ∙ map_zer)

    map_nsm : (n : ℕ) (x : C) → f (nsm n x) ≡ nsm n (f x)
    unfolding nsm
    map_nsm zero x = map_zer
    map_nsm (suc n) x = fa (nsm n x) x ∙ ap (λ t. t ⊹ f x) (map_nsm n x)

    pub map_zsm : (m : ℤ) (x : C) → f (zsm m x) ≡ zsm m (f x)
    unfolding zsm
    map_zsm (pos n) x = map_nsm n x
    map_zsm (negsuc n) x = map_neg (nsm (suc n) x) ∙ ap neg (map_nsm (suc n) x)

  -- doubling
  abbrev pub dbl : C → C
  dbl x = x ⊹ x

  unfoldable pub pow2 : ℕ → C → C
  pow2 zero x = x
  pow2 (suc n) x = dbl (pow2 n x)

  pub pow2_add : (n : ℕ) → IsAdd (pow2 n)
  unfolding pow2
  pow2_add zero x y = refl
  pow2_add (suc n) x y = ap dbl (pow2_add n x y) ∙ swap_mid (pow2 n x) (pow2 n y) (pow2 n x) (pow2 n y)

  pub map_pow2 : (f : C → C) (fa : IsAdd f) (n : ℕ) (x : C) → f (pow2 n x) ≡ pow2 n (f x)
  unfolding pow2
  map_pow2 f fa zero x = refl
  map_pow2 f fa (suc n) x = fa (pow2 n x) (pow2 n x) ∙ ap dbl (map_pow2 f fa n x)

pub pow2_plus : (M : Ab) (m n : ℕ) (x : M.C) → pow2 M (m + n) x ≡ pow2 M m (pow2 M n x)
unfolding pow2
pow2_plus M zero n x = ap (λ t. pow2 M t x) (zero-add n)
pow2_plus M (suc m) n x = ap (λ t. pow2 M t x) (suc-add m n) ∙ ap (dbl M) (pow2_plus M m n x)

pub pow2_swap : (M : Ab) (m n : ℕ) (x : M.C) → pow2 M m (pow2 M n x) ≡ pow2 M n (pow2 M m x)
pow2_swap M m n x = map_pow2 M (pow2 M m) (pow2_add M m) n x
