-- Rules for single rotations: carrying, commuting, merging, quarter turns. Assumes nothing.
use Rattle.std.specs.Prelude.{◌≡◌, [], ◌∷◌, ◌+ℤ◌}
use Rattle.std.proofs.Math.Path.{refl, ap}
use Rattle.std.proofs.Common.{sym, ◌∙◌, ap₂}
use Rattle.std.proofs.Math.IntN.{ℤ}
use Rattle.groups.specs.Abelian.{Ab, nsm, zsm, zsm_add, zer_add, neg_neg, neg_zer, IsAdd, map_zer, map_neg, map_zsm, dbl, pow2}
use Rattle.groups.specs.Normaliser.{halve}
use Rattle.groups.specs.Root.{Root, at, ∅, ◌⊞◌, ⊟◌, lin}
use Rattle.groups.specs.Eighth.{Eighth, e2, prev, flip, eighth}
use Rattle.groups.specs.Real.{cos2, sin2}
use Rattle.groups.proofs.Real.{cos2_add, cos2_flip, sin2_flip, map_cos2, IsReal, Gen, rot, rot_real, rots, total}
use Rattle.groups.proofs.Real.{intertwine, id_real}

module _ (M : Ab) (Mr : Root M) where
  open M use {C, zer, add as ◌⊹◌, neg, add_assoc, add_zer, add_neg}
  open Mr use {torsion}

  infixl 60 ◌⊹◌
  abbrev Cos : Eighth → C → C
  Cos = cos2 M Mr

  abbrev Sin : Eighth → C → C
  Sin = sin2 M Mr

  -- what carries J to J' carries the rotations
  pub carry : (f : C → C) → IsReal M Mr f → (J J' : C → C) → ((x : C) → f (J x) ≡ J' (f x)) → (e : Eighth) (x : C)
      → f (rot M Mr e J x) ≡ rot M Mr e J' (f x)
  carry f F J J' h e x =
      F.0 (dbl M (x ⊹ J (J x)) ⊹ neg (Cos e (J (J x)))) (Sin e (J x))
      ∙ ap₂ ◌⊹◌ (F.0 (dbl M (x ⊹ J (J x))) (neg (Cos e (J (J x)))) ∙ ap₂ ◌⊹◌ first second) third
    where
      twice : f (J (J x)) ≡ J' (J' (f x))
      twice = h (J x) ∙ ap J' (h x)

      first : f (dbl M (x ⊹ J (J x))) ≡ dbl M (f x ⊹ J' (J' (f x)))
      first = F.0 (x ⊹ J (J x)) (x ⊹ J (J x)) ∙ ap (dbl M) (F.0 x (J (J x)) ∙ ap (λ t. f x ⊹ t) twice)

      second : f (neg (Cos e (J (J x)))) ≡ neg (Cos e (J' (J' (f x))))
      second = map_neg M f F.0 (Cos e (J (J x))) ∙ ap neg (map_cos2 M Mr f F e (J (J x)) ∙ ap (Cos e) twice)

      third : f (Sin e (J x)) ≡ Sin e (J' (f x))
      third = map_cos2 M Mr f F (prev (prev e)) (J x) ∙ ap (Sin e) (h x)

  -- rotations about operators that commute
  pub commute : (J J' : C → C) → IsReal M Mr J → IsReal M Mr J' → ((x : C) → J (J' x) ≡ J' (J x)) → (e e' : Eighth) (x : C)
      → rot M Mr e J (rot M Mr e' J' x) ≡ rot M Mr e' J' (rot M Mr e J x)
  commute J J' F F' h e e' =
      carry (rot M Mr e J) (rot_real M Mr e J F) J' J' (λ x. sym (carry J' F' J J (λ y. sym (h y)) e x)) e'

  -- angles about one operator are added
  pub merge : (J : C → C) → IsReal M Mr J → ((x : C) → J (J (J x)) ≡ neg (J x)) → (a b : ℤ) (x : C)
      → rot M Mr (eighth a) J (rot M Mr (eighth b) J x) ≡ dbl M (rot M Mr (eighth (a +ℤ b)) J x)
  unfolding rots total pow2
  merge J F cube a b x =
      halve M torsion (rot M Mr (eighth a) J (rot M Mr (eighth b) J x)) (dbl M (rot M Mr (eighth (a +ℤ b)) J x))
      (intertwine M Mr (gen a ∷ gen b ∷ []) (gen (a +ℤ b) ∷ []) (own b, (none, tt)) (none, tt) (λ y. y) (id_real M Mr) same x)
    where
      gen : ℤ → Gen M Mr
      gen k = record { k = k; J = J; real = F; cube = cube }

      none : (y : C) → J zer ≡ zer
      none y = map_zer M J F.0

      own : (k : ℤ) (y : C) → J (zsm M k (J y) ⊹ zer) ≡ zsm M k (J (J y)) ⊹ zer
      own k y = ap J (add_zer (zsm M k (J y))) ∙ map_zsm M J F.0 k (J y) ∙ sym (add_zer (zsm M k (J (J y))))

      same : (y : C) → zsm M a (J y) ⊹ (zsm M b (J y) ⊹ zer) ≡ zsm M (a +ℤ b) (J y) ⊹ zer
      same y = sym (add_assoc (zsm M a (J y)) (zsm M b (J y)) zer) ∙ ap (λ t. t ⊹ zer) (sym (zsm_add M a b (J y)))

  -- a rotation about -J is the opposite one about J
  pub rot_flip : (J : C → C) → IsReal M Mr J → (e : Eighth) (x : C) → rot M Mr e (λ y. neg (J y)) x ≡ rot M Mr (flip e) J x
  rot_flip J F e x =
      ap₂ (λ w v. (dbl M (x ⊹ w) ⊹ neg (Cos e w)) ⊹ v) twice (map_neg M (Sin e) (cos2_add M Mr (prev (prev e))) (J x))
      ∙ sym (ap₂ (λ c s. (dbl M (x ⊹ J (J x)) ⊹ neg c) ⊹ s) (cos2_flip M Mr e (J (J x))) (sin2_flip M Mr e (J x)))
    where
      twice : neg (J (neg (J x))) ≡ J (J x)
      twice = ap neg (map_neg M J F.0 (J x)) ∙ neg_neg M (J (J x))

  -- ---- with [a, p] = q and [a, q] = -p a quarter turn about a takes p to q

  module _ (a p q : C → C) (ar : IsReal M Mr a) (pa : IsAdd M p) (qa : IsAdd M q) (cube : (x : C) → a (a (a x)) ≡ neg (a x))
      (pq : (x : C) → a (p x) ⊹ neg (p (a x)) ≡ q x) (qp : (x : C) → a (q x) ⊹ neg (q (a x)) ≡ neg (p x)) where
    -- a a p - 2 a p a + p a a = -p
    square : (x : C) → (a (a (p x)) ⊹ p (a (a x))) ⊹ p x ≡ dbl M (a (p (a x)))
    square x =
        lin M Mr (aap ∷ apa ∷ paa ∷ p x ∷ [])
        ((at 0 ⊞ at 2) ⊞ at 3) ((((at 0 ⊞ ⊟ at 1) ⊞ ⊟ (at 1 ⊞ ⊟ at 2)) ⊞ at 3) ⊞ (at 1 ⊞ at 1)) refl
        ∙ ap (λ t. (t ⊹ p x) ⊹ dbl M apa) flat
        ∙ lin M Mr (apa ∷ p x ∷ []) ((⊟ at 1 ⊞ at 1) ⊞ (at 0 ⊞ at 0)) (at 0 ⊞ at 0) refl
      where
        aap : C
        aap = a (a (p x))

        apa : C
        apa = a (p (a x))

        paa : C
        paa = p (a (a x))

        image : aap ⊹ neg apa ≡ a (q x)
        image = sym (ar.0 (a (p x)) (neg (p (a x))) ∙ ap (λ t. aap ⊹ t) (map_neg M a ar.0 (p (a x)))) ∙ ap a (pq x)

        flat : (aap ⊹ neg apa) ⊹ neg (apa ⊹ neg paa) ≡ neg (p x)
        flat = ap₂ (λ s t. s ⊹ neg t) image (pq (a x)) ∙ qp x

    thrice : (z : C) → z ≡ dbl M (dbl M z) → z ≡ zer
    unfolding nsm
    thrice z h =
        torsion 2 z
        (lin M Mr (z ∷ []) (((∅ ⊞ at 0) ⊞ at 0) ⊞ at 0) (((at 0 ⊞ at 0) ⊞ (at 0 ⊞ at 0)) ⊞ ⊟ at 0) refl
        ∙ ap (λ t. t ⊹ neg z) (sym h) ∙ add_neg z)

    -- p a a a = -p a
    p_cube : (x : C) → p (a (a (a x))) ≡ neg (p (a x))
    p_cube x = ap p (cube x) ∙ map_neg M p pa (a x)

    -- a p a a = 2 a a p a, and the other way round
    one_way : (x : C) → a (p (a (a x))) ≡ dbl M (a (a (p (a x))))
    one_way x =
        lin M Mr (apaa ∷ a (p x) ∷ []) (at 0) ((⊟ at 1 ⊞ at 0) ⊞ at 1) refl
        ∙ sym (ap (λ t. (t ⊹ apaa) ⊹ a (p x)) (cube (p x))) ∙ sym spread ∙ ap a (square x) ∙ ar.0 (a (p (a x))) (a (p (a x)))
      where
        apaa : C
        apaa = a (p (a (a x)))

        spread : a ((a (a (p x)) ⊹ p (a (a x))) ⊹ p x) ≡ (a (a (a (p x))) ⊹ apaa) ⊹ a (p x)
        spread = ar.0 (a (a (p x)) ⊹ p (a (a x))) (p x) ∙ ap (λ t. t ⊹ a (p x)) (ar.0 (a (a (p x))) (p (a (a x))))

    other_way : (x : C) → a (a (p (a x))) ≡ dbl M (a (p (a (a x))))
    other_way x =
        let aapa = a (a (p (a x))) in
        lin M Mr (aapa ∷ p (a x) ∷ []) (at 0) ((at 0 ⊞ ⊟ at 1) ⊞ at 1) refl
        ∙ sym (ap (λ t. (aapa ⊹ t) ⊹ p (a x)) (p_cube x)) ∙ square (a x)

    apaa_none : (x : C) → a (p (a (a x))) ≡ zer
    apaa_none x = thrice (a (p (a (a x)))) (one_way x ∙ ap (dbl M) (other_way x))

    apa_none : (x : C) → a (p (a x)) ≡ zer
    apa_none x =
        let aapa : a (a (p (a x))) ≡ zer = other_way x ∙ ap (dbl M) (apaa_none x) ∙ add_zer zer in
        let none : neg (a (p (a x))) ≡ zer = sym (cube (p (a x))) ∙ ap a aapa ∙ map_zer M a ar.0 in
        sym (neg_neg M (a (p (a x)))) ∙ ap neg none ∙ neg_zer M

    -- so a a p + p a a = -p, q a = -p a a and q a a = p a
    sum_none : (x : C) → (a (a (p x)) ⊹ p (a (a x))) ⊹ p x ≡ zer
    sum_none x = square x ∙ ap (dbl M) (apa_none x) ∙ add_zer zer

    q_once : (x : C) → q (a x) ≡ neg (p (a (a x)))
    q_once x = sym (pq (a x)) ∙ ap (λ t. t ⊹ neg (p (a (a x)))) (apa_none x) ∙ zer_add M (neg (p (a (a x))))

    q_twice : (x : C) → q (a (a x)) ≡ p (a x)
    q_twice x =
        sym (pq (a (a x))) ∙ ap₂ (λ s t. s ⊹ neg t) (apaa_none x) (p_cube x) ∙ zer_add M (neg (neg (p (a x)))) ∙ neg_neg M (p (a x))

    -- the half turn's half, written out: q of it, and it of p
    q_rot : (x : C) → q (rot M Mr e2 a x) ≡ (dbl M (q x ⊹ q (a (a x))) ⊹ neg zer) ⊹ dbl M (q (a x))
    q_rot x =
        qa (dbl M (x ⊹ a (a x)) ⊹ neg zer) (a x ⊹ a x)
        ∙ ap₂ ◌⊹◌ (qa (dbl M (x ⊹ a (a x))) (neg zer) ∙ ap₂ ◌⊹◌ doubled (map_neg M q qa zer ∙ ap neg (map_zer M q qa))) (qa (a x) (a x))
      where
        doubled : q (dbl M (x ⊹ a (a x))) ≡ dbl M (q x ⊹ q (a (a x)))
        doubled = qa (x ⊹ a (a x)) (x ⊹ a (a x)) ∙ ap (dbl M) (qa x (a (a x)))

    pub quarter : (x : C) → rot M Mr e2 a (p x) ≡ q (rot M Mr e2 a x)
    quarter x =
        lin M Mr (p x ∷ a (p x) ∷ a (a (p x)) ∷ p (a (a x)) ∷ p (a x) ∷ [])
        (((at 0 ⊞ at 2) ⊞ (at 0 ⊞ at 2)) ⊞ ⊟ ∅ ⊞ (at 1 ⊞ at 1))
        (((at 2 ⊞ at 3 ⊞ at 0) ⊞ (at 2 ⊞ at 3 ⊞ at 0)) ⊞ ((at 1 ⊞ ⊟ at 4 ⊞ at 4) ⊞ (at 1 ⊞ ⊟ at 4 ⊞ at 4))
        ⊞ (⊟ at 3 ⊞ ⊟ at 3)) refl
        ∙ ap (λ t. (dbl M t ⊹ dbl M ((a (p x) ⊹ neg (p (a x))) ⊹ p (a x))) ⊹ dbl M (neg (p (a (a x))))) (sum_none x)
        ∙ ap₂ (λ s t. (dbl M zer ⊹ dbl M s) ⊹ dbl M t) (ap₂ ◌⊹◌ (pq x) (sym (q_twice x))) (sym (q_once x))
        ∙ lin M Mr (q x ∷ q (a x) ∷ q (a (a x)) ∷ [])
        (((∅ ⊞ ∅) ⊞ ((at 0 ⊞ at 2) ⊞ (at 0 ⊞ at 2))) ⊞ (at 1 ⊞ at 1))
        ((((at 0 ⊞ at 2) ⊞ (at 0 ⊞ at 2)) ⊞ ⊟ ∅) ⊞ (at 1 ⊞ at 1)) refl
        ∙ sym (q_rot x)
