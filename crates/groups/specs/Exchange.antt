-- Commuting integer combinations of operators D with D D D = D give commuting rotations. Assumes nothing.
use Rattle.std.specs.Prelude.{◌≡◌, ℕ, zero, suc, ℤ, pos, negsuc, neg_ℤ, ◌+ℤ◌, ◌-ℤ◌, length}
use Rattle.std.proofs.Math.Path.{refl, sym, ap, ap₂}
use Rattle.std.proofs.Common.{◌∙◌}
use mathlib.Core.List.{List, [], ◌∷◌}
use Rattle.std.proofs.Math.IntN.{ -ℤ-+ℤ_cancel}
use Rattle.groups.specs.Abelian.{Ab, neg_neg, neg_zer, add_right_cancel, swap_mid, nsm, zsm, zsm_add, zsm_neg, zsm_zer, zsm_of_add}
use Rattle.groups.specs.Abelian.{IsAdd, map_zer, map_neg, map_zsm, map_pow2, dbl, pow2, pow2_add}
use Rattle.groups.specs.Normaliser.{at, ◌⊞◌, ⊟◌, ab, NoTorsion, halve, cancel2}

-- c m is 2 ζ^m, ζ a primitive eighth root of unity
pub record Turns (M : Ab) : Type 0 where
  pub c : ℤ → M.C → M.C
  pub c_add : (m : ℤ) → IsAdd M (c m)
  pub c_zero : (x : M.C) → c (pos 0) x ≡ dbl M x
  pub c_mul : (a b : ℤ) (x : M.C) → c a (c b x) ≡ dbl M (c (a +ℤ b) x)
  pub torsion : NoTorsion M

-- a rotation by k about D: it is known on the eigenvectors of D, for 0, 1 and -1
pub record Rot (M : Ab) (T : Turns M) : Type 0 where
  pub k : ℤ
  pub D : M.C → M.C
  pub ρ : M.C → M.C
  pub D_add : IsAdd M D
  pub ρ-add : IsAdd M ρ
  pub cube : (x : M.C) → D (D (D x)) ≡ D x
  pub D_c : (m : ℤ) (x : M.C) → D (T.c m x) ≡ T.c m (D x)
  pub ρ-c : (m : ℤ) (x : M.C) → ρ (T.c m x) ≡ T.c m (ρ x)
  pub ρ-zer : (x : M.C) → D x ≡ M.zer → ρ x ≡ dbl M x
  pub ρ-pos : (x : M.C) → D x ≡ x → ρ x ≡ T.c k x
  pub ρ-neg : (x : M.C) → D x ≡ M.neg x → ρ x ≡ T.c (neg_ℤ k) x

module _ (M : Ab) (T : Turns M) where
  open M use {C, zer, add as ◌⊹◌, neg, add_comm, add_zer, add_neg}
  open T use {c, c_add, c_zero, c_mul, torsion}

  infixl 60 ◌⊹◌
  -- ---- the sum of k D over a family, and the product of the rotations

  unfoldable pub N : List (Rot M T) → C → C
  N [] x = zer
  N (r ∷ A) x = zsm M r.k (r.D x) ⊹ N A x

  unfoldable pub ρs : List (Rot M T) → C → C
  ρs [] x = x
  ρs (r ∷ A) x = r.ρ (ρs A x)

  -- each D commutes with the sum of the later ones
  abbrev pub Good : List (Rot M T) → Type 0
  Good [] = Unit {0}
  Good (r ∷ A) = ((x : C) → r.D (N A x) ≡ N A (r.D x)) × Good A

  -- x is an eigenvector of the sum
  abbrev pub Eigen : List (Rot M T) → ℤ → C → Type 0
  Eigen A m x = N A x ≡ zsm M m x

  pub N_add : (A : List (Rot M T)) → IsAdd M (N A)
  unfolding N
  N_add [] x y = sym (add_zer zer)
  N_add (r ∷ A) x y =
      ap₂ ◌⊹◌ (ap (zsm M r.k) (r.D_add x y) ∙ zsm_of_add M r.k (r.D x) (r.D y)) (N_add A x y)
      ∙ swap_mid M (zsm M r.k (r.D x)) (zsm M r.k (r.D y)) (N A x) (N A y)

  pub ρs-add : (A : List (Rot M T)) → IsAdd M (ρs A)
  unfolding ρs
  ρs-add [] x y = refl
  ρs-add (r ∷ A) x y = ap r.ρ (ρs-add A x y) ∙ r.ρ-add (ρs A x) (ρs A y)

  -- ---- 2 x is a sum of eigenvectors of one D, for 0, 1 and -1

  module _ (r : Rot M T) where
    part₀ : C → C
    part₀ x = dbl M x ⊹ neg (dbl M (r.D (r.D x)))

    part₊ : C → C
    part₊ x = r.D (r.D x) ⊹ r.D x

    part₋ : C → C
    part₋ x = r.D (r.D x) ⊹ neg (r.D x)

    parts : (x : C) → (part₀ x ⊹ part₊ x) ⊹ part₋ x ≡ dbl M x
    unfolding part₀ part₊ part₋
    parts x =
        ab M (x ∷ r.D x ∷ r.D (r.D x) ∷ [])
        (((at 0 ⊞ at 0) ⊞ ⊟ (at 2 ⊞ at 2)) ⊞ (at 2 ⊞ at 1) ⊞ (at 2 ⊞ ⊟ at 1)) (at 0 ⊞ at 0) refl

    D₀ : (x : C) → r.D (part₀ x) ≡ zer
    unfolding part₀
    D₀ x = simp (r.D_add, map_neg M r.D r.D_add, r.cube) (add_neg (dbl M (r.D x)))

    D₊ : (x : C) → r.D (part₊ x) ≡ part₊ x
    unfolding part₊
    D₊ x = simp (r.D_add, r.cube) (add_comm (r.D x) (r.D (r.D x)))

    D₋ : (x : C) → r.D (part₋ x) ≡ neg (part₋ x)
    unfolding part₋
    D₋ x =
        simp (r.D_add, map_neg M r.D r.D_add, r.cube)
        (ab M (r.D x ∷ r.D (r.D x) ∷ []) (at 0 ⊞ ⊟ at 1) (⊟ (at 1 ⊞ ⊟ at 0)) refl)

    -- k D on each part
    k_d₀ : (x : C) → zsm M r.k (r.D (part₀ x)) ≡ zsm M (pos 0) (part₀ x)
    unfolding zsm nsm
    k_d₀ x = ap (zsm M r.k) (D₀ x) ∙ zsm_zer M r.k

    k_d₊ : (x : C) → zsm M r.k (r.D (part₊ x)) ≡ zsm M r.k (part₊ x)
    k_d₊ x = ap (zsm M r.k) (D₊ x)

    k_d₋ : (x : C) → zsm M r.k (r.D (part₋ x)) ≡ zsm M (neg_ℤ r.k) (part₋ x)
    k_d₋ x =
        ap (zsm M r.k) (D₋ x) ∙ map_neg M (zsm M r.k) (zsm_of_add M r.k) (part₋ x) ∙ sym (zsm_neg M r.k (part₋ x))

    -- two additive maps that agree on the parts agree
    by_parts : (f g : C → C) → IsAdd M f → IsAdd M g → (x : C)
        → f (part₀ x) ≡ g (part₀ x) → f (part₊ x) ≡ g (part₊ x) → f (part₋ x) ≡ g (part₋ x) → f x ≡ g x
    by_parts f g fa ga x h₀ h₊ h₋ = halve M torsion (f x) (g x) (sym (whole f fa) ∙ ap₂ ◌⊹◌ (ap₂ ◌⊹◌ h₀ h₊) h₋ ∙ whole g ga)
      where
        whole : (f : C → C) → IsAdd M f → (f (part₀ x) ⊹ f (part₊ x)) ⊹ f (part₋ x) ≡ dbl M (f x)
        whole f fa =
            ap (λ t. t ⊹ f (part₋ x)) (sym (fa (part₀ x) (part₊ x))) ∙ sym (fa (part₀ x ⊹ part₊ x) (part₋ x))
            ∙ ap f (parts x) ∙ fa x x

  -- ---- the parts of an eigenvector of the sum are eigenvectors of it

  eig_add : (A : List (Rot M T)) (m : ℤ) (x y : C) → Eigen A m x → Eigen A m y → Eigen A m (x ⊹ y)
  eig_add A m x y p q = N_add A x y ∙ ap₂ ◌⊹◌ p q ∙ sym (zsm_of_add M m x y)

  eig_neg : (A : List (Rot M T)) (m : ℤ) (x : C) → Eigen A m x → Eigen A m (neg x)
  eig_neg A m x p = map_neg M (N A) (N_add A) x ∙ ap neg p ∙ sym (map_neg M (zsm M m) (zsm_of_add M m) x)

  module _ (r : Rot M T) (A : List (Rot M T)) (gr : (x : C) → r.D (N A x) ≡ N A (r.D x)) (m : ℤ) where
    eig_D : (x : C) → Eigen A m x → Eigen A m (r.D x)
    eig_D x h = sym (gr x) ∙ ap r.D h ∙ map_zsm M r.D r.D_add m x

    module _ (x : C) (h : Eigen A m x) where
      eig₀ : Eigen A m (part₀ r x)
      unfolding part₀
      eig₀ =
          let y = r.D (r.D x) in
          let h2 = eig_D (r.D x) (eig_D x h) in
          eig_add A m (dbl M x) (neg (dbl M y)) (eig_add A m x x h h) (eig_neg A m (dbl M y) (eig_add A m y y h2 h2))

      eig₊ : Eigen A m (part₊ r x)
      unfolding part₊
      eig₊ = let h1 = eig_D x h in eig_add A m (r.D (r.D x)) (r.D x) (eig_D (r.D x) h1) h1

      eig₋ : Eigen A m (part₋ r x)
      unfolding part₋
      eig₋ =
          let h1 = eig_D x h in
          eig_add A m (r.D (r.D x)) (neg (r.D x)) (eig_D (r.D x) h1) (eig_neg A m (r.D x) h1)

  -- additive maps that agree on the eigenvectors of the sum agree
  pub by_eigen : (A : List (Rot M T)) → Good A → (f g : C → C) → IsAdd M f → IsAdd M g
      → ((m : ℤ) (x : C) → Eigen A m x → f x ≡ g x) → (x : C) → f x ≡ g x
  unfolding N zsm nsm
  by_eigen [] G f g fa ga h x = h (pos 0) x refl
  by_eigen (r ∷ A) G f g fa ga h x = by_eigen A G.1 f g fa ga each x
    where
      one : (m : ℤ) (y : C) (p : ℤ) → zsm M r.k (r.D y) ≡ zsm M p y → Eigen A m y → f y ≡ g y
      one m y p d e = h (p +ℤ m) y (ap₂ ◌⊹◌ d e ∙ sym (zsm_add M p m y))

      each : (m : ℤ) (y : C) → Eigen A m y → f y ≡ g y
      each m y e =
          by_parts r f g fa ga y
          (one m (part₀ r y) (pos 0) (k_d₀ r y) (eig₀ r A G.0 m y e))
          (one m (part₊ r y) r.k (k_d₊ r y) (eig₊ r A G.0 m y e))
          (one m (part₋ r y) (neg_ℤ r.k) (k_d₋ r y) (eig₋ r A G.0 m y e))

  -- ---- on an eigenvector for m the n rotations multiply by 2^n ζ^m

  vanish : (m : ℤ) (x : C) → x ≡ zer → dbl M x ≡ c m x
  vanish m x e = ap (dbl M) e ∙ add_zer zer ∙ sym (ap (c m) e ∙ map_zer M (c m) (c_add m))

  eigen_base : (m : ℤ) (x : C) → zer ≡ zsm M m x → dbl M x ≡ c m x
  unfolding zsm
  eigen_base (pos zero) x h = sym (c_zero x)
  eigen_base (pos (suc n)) x h = vanish (pos (suc n)) x (torsion n x (sym h))
  eigen_base (negsuc n) x h =
      vanish (negsuc n) x (torsion n x (sym (neg_neg M (nsm M (suc n) x)) ∙ sym (ap neg h) ∙ neg_zer M))

  eigen_step : (r : Rot M T) (n : ℕ) (m p : ℤ) (y z : C) → r.ρ y ≡ c p y → dbl M z ≡ pow2 M n (c (m -ℤ p) y)
      → dbl M (r.ρ z) ≡ pow2 M (suc n) (c m y)
  unfolding pow2
  eigen_step r n m p y z e ih =
      sym (r.ρ-add z z) ∙ ap r.ρ ih ∙ map_pow2 M r.ρ r.ρ-add n (c (m -ℤ p) y) ∙ ap (pow2 M n) turned
      ∙ pow2_add M n (c m y) (c m y)
    where
      turned : r.ρ (c (m -ℤ p) y) ≡ dbl M (c m y)
      turned =
          r.ρ-c (m -ℤ p) y ∙ ap (c (m -ℤ p)) e ∙ c_mul (m -ℤ p) p y ∙ ap (λ t. dbl M (c t y)) (-ℤ-+ℤ_cancel m p)

  -- the eigenvalue that is left for the later ones
  eigen_rest : (r : Rot M T) (A : List (Rot M T)) (m p : ℤ) (y : C) → zsm M r.k (r.D y) ≡ zsm M p y → Eigen (r ∷ A) m y → Eigen A (m -ℤ p) y
  unfolding N
  eigen_rest r A m p y d h =
      add_right_cancel M (N A y) (zsm M (m -ℤ p) y) (zsm M p y)
      (add_comm (N A y) (zsm M p y) ∙ ap (λ t. t ⊹ N A y) (sym d) ∙ h
      ∙ ap (λ t. zsm M t y) (sym (-ℤ-+ℤ_cancel m p)) ∙ zsm_add M (m -ℤ p) p y)

  pub eigen : (A : List (Rot M T)) → Good A → (m : ℤ) (x : C) → Eigen A m x → dbl M (ρs A x) ≡ pow2 M (length A) (c m x)
  unfolding N ρs pow2
  eigen [] G m x h = eigen_base m x h
  eigen (r ∷ A) G m x h =
      let ih = eigen A G.1 in
      by_parts r (λ t. dbl M (r.ρ (ρs A t))) (λ t. pow2 M (suc (length A)) (c m t)) ladd radd x
      (one ih (part₀ r x) (pos 0) (r.ρ-zer (part₀ r x) (D₀ r x) ∙ sym (c_zero (part₀ r x))) (k_d₀ r x) (eig₀ r (r ∷ A) gr m x h))
      (one ih (part₊ r x) r.k (r.ρ-pos (part₊ r x) (D₊ r x)) (k_d₊ r x) (eig₊ r (r ∷ A) gr m x h))
      (one ih (part₋ r x) (neg_ℤ r.k) (r.ρ-neg (part₋ r x) (D₋ r x)) (k_d₋ r x) (eig₋ r (r ∷ A) gr m x h))
    where
      ladd : IsAdd M (λ t. dbl M (r.ρ (ρs A t)))
      ladd a b = ap (dbl M) (ρs-add (r ∷ A) a b) ∙ swap_mid M (r.ρ (ρs A a)) (r.ρ (ρs A b)) (r.ρ (ρs A a)) (r.ρ (ρs A b))

      radd : IsAdd M (λ t. pow2 M (suc (length A)) (c m t))
      radd a b = ap (pow2 M (suc (length A))) (c_add m a b) ∙ pow2_add M (suc (length A)) (c m a) (c m b)

      gr : (y : C) → r.D (N (r ∷ A) y) ≡ N (r ∷ A) (r.D y)
      gr y =
          r.D_add (zsm M r.k (r.D y)) (N A y)
          ∙ ap₂ ◌⊹◌ (map_zsm M r.D r.D_add r.k (r.D y)) (G.0 y)

      one : ((q : ℤ) (y : C) → Eigen A q y → dbl M (ρs A y) ≡ pow2 M (length A) (c q y)) → (y : C) (p : ℤ) → r.ρ y ≡ c p y
          → zsm M r.k (r.D y) ≡ zsm M p y → Eigen (r ∷ A) m y → dbl M (r.ρ (ρs A y)) ≡ pow2 M (suc (length A)) (c m y)
      one ih y p e d h = eigen_step r (length A) m p y (ρs A y) e (ih (m -ℤ p) y (eigen_rest r A m p y d h))

  -- ---- a map that carries the sum of A to that of B carries the rotations of A to those of B, up to factors 2

  pub intertwine : (A B : List (Rot M T)) → Good A → Good B → (f : C → C) → IsAdd M f → ((m : ℤ) (x : C) → f (c m x) ≡ c m (f x))
      → ((x : C) → f (N A x) ≡ N B (f x)) → (x : C) → pow2 M (length B) (f (ρs A x)) ≡ pow2 M (length A) (ρs B (f x))
  intertwine A B GA GB f fa fc f_n = by_eigen A GA (λ x. pow2 M b (f (ρs A x))) (λ x. pow2 M a (ρs B (f x))) ladd radd on_eigen
    where
      a : ℕ
      a = length A

      b : ℕ
      b = length B

      ladd : IsAdd M (λ x. pow2 M b (f (ρs A x)))
      ladd x y =
          ap (λ t. pow2 M b (f t)) (ρs-add A x y) ∙ ap (pow2 M b) (fa (ρs A x) (ρs A y)) ∙ pow2_add M b (f (ρs A x)) (f (ρs A y))

      radd : IsAdd M (λ x. pow2 M a (ρs B (f x)))
      radd x y =
          ap (λ t. pow2 M a (ρs B t)) (fa x y) ∙ ap (pow2 M a) (ρs-add B (f x) (f y)) ∙ pow2_add M a (ρs B (f x)) (ρs B (f y))

      -- both sides doubled are 2^(a + b) ζ^m f x
      left : (m : ℤ) (x : C) → Eigen A m x → dbl M (f (ρs A x)) ≡ pow2 M a (c m (f x))
      left m x e =
          sym (fa (ρs A x) (ρs A x)) ∙ ap f (eigen A GA m x e) ∙ map_pow2 M f fa a (c m x) ∙ ap (pow2 M a) (fc m x)

      right : (m : ℤ) (x : C) → Eigen A m x → dbl M (ρs B (f x)) ≡ pow2 M b (c m (f x))
      right m x e = eigen B GB m (f x) (sym (f_n x) ∙ ap f e ∙ map_zsm M f fa m x)

      on_eigen : (m : ℤ) (x : C) → Eigen A m x → pow2 M b (f (ρs A x)) ≡ pow2 M a (ρs B (f x))
      on_eigen m x e =
          halve M torsion (pow2 M b (f (ρs A x))) (pow2 M a (ρs B (f x)))
          (sym (pow2_add M b (f (ρs A x)) (f (ρs A x))) ∙ ap (pow2 M b) (left m x e) ∙ map_pow2 M (pow2 M b) (pow2_add M b) a (c m (f x))
          ∙ ap (pow2 M a) (sym (right m x e)) ∙ pow2_add M a (ρs B (f x)) (ρs B (f x)))

  -- ---- the theorem

  pub ρs-c : (A : List (Rot M T)) (m : ℤ) (x : C) → ρs A (c m x) ≡ c m (ρs A x)
  unfolding ρs
  ρs-c [] m x = refl
  ρs-c (r ∷ A) m x = ap r.ρ (ρs-c A m x) ∙ r.ρ-c m (ρs A x)

  pub N_c : (A : List (Rot M T)) (m : ℤ) (x : C) → N A (c m x) ≡ c m (N A x)
  unfolding N
  N_c [] m x = sym (map_zer M (c m) (c_add m))
  N_c (r ∷ A) m x =
      ap₂ ◌⊹◌ (ap (zsm M r.k) (r.D_c m x) ∙ sym (map_zsm M (c m) (c_add m) r.k (r.D x))) (N_c A m x)
      ∙ sym (c_add m (zsm M r.k (r.D x)) (N A x))

  pub exchange : (A B : List (Rot M T)) → Good A → Good B → ((x : C) → N A (N B x) ≡ N B (N A x)) → (x : C) → ρs A (ρs B x) ≡ ρs B (ρs A x)
  exchange A B GA GB h x =
      cancel2 M torsion (length A) (ρs A (ρs B x)) (ρs B (ρs A x)) (sym (intertwine A A GA GA (ρs B) (ρs-add B) (ρs-c B) (λ y. sym (half y)) x))
    where
      half : (y : C) → N A (ρs B y) ≡ ρs B (N A y)
      half y = cancel2 M torsion (length B) (N A (ρs B y)) (ρs B (N A y)) (intertwine B B GB GB (N A) (N_add A) (N_c A) h y)
