-- The exchange theorem over real coefficients a + b √2: J is i D, so J J J = -J. Assumes nothing.
use Rattle.std.specs.Prelude.{◌≡◌, ℤ, pos, negsuc, neg_ℤ, ◌+ℤ◌, length}
use Rattle.std.proofs.Math.Path.{refl, sym, ap, ap₂}
use Rattle.std.proofs.Common.{◌∙◌}
use mathlib.Core.List.{List, [], ◌∷◌}
use Prim.Native.Nat.{zero, suc}
use Rattle.std.proofs.Math.IntN.{pred_ℤ, suc_ℤ-+ℤ, pred_ℤ-+ℤ, +ℤ_idl}
use Rattle.groups.specs.Abelian.{Ab, nsm, zsm, zsm_of_add, zer_add, neg_neg, neg_zer, neg_of_add, swap_mid, IsAdd, map_zer, map_neg, map_zsm}
use Rattle.groups.specs.Abelian.{dbl, pow2}
use Rattle.groups.specs.Normaliser.{NoTorsion, halve, cancel2}
use Rattle.groups.specs.Exchange.{Turns, Rot}
use Rattle.groups.specs.Exchange as X
use Rattle.groups.specs.Root.{Root, Exp, at, ∅, ◌⊞◌, ⊟◌, Same, value, lin}
use Rattle.groups.specs.Combined.{◌×ᵃ◌, nsm_pair, pow2_pair, zsm_pair}
use Rattle.groups.specs.Eighth.{Eighth, e0, e1, e2, e3, e4, e5, e6, e7, eighth, eighth_neg, eighth_pred, eighth_suc, flip, next, prev}
use Rattle.groups.specs.Real.{cosᵉ, sinᵉ}
use Rattle.groups.specs.Real as Base

module _ (M : Ab) (Mr : Root M) where
  open M use {C, zer, add as ◌⊹◌, neg, add_assoc, add_comm, add_zer, add_neg}
  open Mr use {r, r_add, r_r, torsion}

  infixl 60 ◌⊹◌
  abbrev cos2 : Eighth → C → C
  cos2 = Base.cos2 M Mr

  abbrev sin2 : Eighth → C → C
  sin2 = Base.sin2 M Mr

  -- 2 ζ^e on x + i y
  abbrev pub turn : Eighth → C × C → C × C
  turn e z = (cos2 e z.0 ⊹ neg (sin2 e z.1), sin2 e z.0 ⊹ cos2 e z.1)

  -- the same, part by part, as expressions over x and y; and 2 ζ^s after 2 ζ^e
  abbrev reᵉ : Eighth → Exp → Exp → Exp
  reᵉ e a b = cosᵉ e a ⊞ ⊟ (sinᵉ e b)

  abbrev imᵉ : Eighth → Exp → Exp → Exp
  imᵉ e a b = sinᵉ e a ⊞ cosᵉ e b

  abbrev turnᵉ : (Eighth → Exp → Exp → Exp) → Eighth → Eighth → Exp
  turnᵉ part s e = part s (reᵉ e (at 0) (at 1)) (imᵉ e (at 0) (at 1))

  abbrev twiceᵉ : (Eighth → Exp → Exp → Exp) → Eighth → Exp
  twiceᵉ part e = part e (at 0) (at 1) ⊞ part e (at 0) (at 1)

  -- 2 ζ^s after 2 ζ^e is twice 2 ζ^t, if the normaliser says so of both parts
  by_parts : (s e t : Eighth) (z : C × C) → Same (turnᵉ reᵉ s e) (twiceᵉ reᵉ t) → Same (turnᵉ imᵉ s e) (twiceᵉ imᵉ t)
      → ◌≡◌ {A = C × C}
      (value M Mr (z.0 ∷ z.1 ∷ []) (turnᵉ reᵉ s e), value M Mr (z.0 ∷ z.1 ∷ []) (turnᵉ imᵉ s e))
      (value M Mr (z.0 ∷ z.1 ∷ []) (twiceᵉ reᵉ t), value M Mr (z.0 ∷ z.1 ∷ []) (twiceᵉ imᵉ t))
  by_parts s e t z h k = λ i. (real i, imaginary i)
    where
      real : value M Mr (z.0 ∷ z.1 ∷ []) (turnᵉ reᵉ s e) ≡ value M Mr (z.0 ∷ z.1 ∷ []) (twiceᵉ reᵉ t)
      real = lin M Mr (z.0 ∷ z.1 ∷ []) (turnᵉ reᵉ s e) (twiceᵉ reᵉ t) h

      imaginary : value M Mr (z.0 ∷ z.1 ∷ []) (turnᵉ imᵉ s e) ≡ value M Mr (z.0 ∷ z.1 ∷ []) (twiceᵉ imᵉ t)
      imaginary = lin M Mr (z.0 ∷ z.1 ∷ []) (turnᵉ imᵉ s e) (twiceᵉ imᵉ t) k

  turn_next : (e : Eighth) (z : C × C) → turn e1 (turn e z) ≡ dbl (M ×ᵃ M) (turn (next e) z)
  turn_next e0 z = by_parts e1 e0 e1 z refl refl
  turn_next e1 z = by_parts e1 e1 e2 z refl refl
  turn_next e2 z = by_parts e1 e2 e3 z refl refl
  turn_next e3 z = by_parts e1 e3 e4 z refl refl
  turn_next e4 z = by_parts e1 e4 e5 z refl refl
  turn_next e5 z = by_parts e1 e5 e6 z refl refl
  turn_next e6 z = by_parts e1 e6 e7 z refl refl
  turn_next e7 z = by_parts e1 e7 e0 z refl refl

  turn_prev : (e : Eighth) (z : C × C) → turn e7 (turn e z) ≡ dbl (M ×ᵃ M) (turn (prev e) z)
  turn_prev e0 z = by_parts e7 e0 e7 z refl refl
  turn_prev e1 z = by_parts e7 e1 e0 z refl refl
  turn_prev e2 z = by_parts e7 e2 e1 z refl refl
  turn_prev e3 z = by_parts e7 e3 e2 z refl refl
  turn_prev e4 z = by_parts e7 e4 e3 z refl refl
  turn_prev e5 z = by_parts e7 e5 e4 z refl refl
  turn_prev e6 z = by_parts e7 e6 e5 z refl refl
  turn_prev e7 z = by_parts e7 e7 e6 z refl refl

  pub cos2_add : (e : Eighth) → IsAdd M (cos2 e)
  cos2_add e0 x y = swap_mid M x y x y
  cos2_add e1 x y = r_add x y
  cos2_add e2 x y = sym (add_zer zer)
  cos2_add e3 x y = ap neg (r_add x y) ∙ neg_of_add M (r x) (r y)
  cos2_add e4 x y = ap neg (swap_mid M x y x y) ∙ neg_of_add M (x ⊹ x) (y ⊹ y)
  cos2_add e5 x y = ap neg (r_add x y) ∙ neg_of_add M (r x) (r y)
  cos2_add e6 x y = sym (add_zer zer)
  cos2_add e7 x y = r_add x y

  pub cos2_flip : (e : Eighth) (x : C) → cos2 (flip e) x ≡ cos2 e x
  cos2_flip e0 x = refl
  cos2_flip e1 x = refl
  cos2_flip e2 x = refl
  cos2_flip e3 x = refl
  cos2_flip e4 x = refl
  cos2_flip e5 x = refl
  cos2_flip e6 x = refl
  cos2_flip e7 x = refl

  pub sin2_flip : (e : Eighth) (x : C) → sin2 (flip e) x ≡ neg (sin2 e x)
  sin2_flip e0 x = sym (neg_zer M)
  sin2_flip e1 x = refl
  sin2_flip e2 x = refl
  sin2_flip e3 x = refl
  sin2_flip e4 x = sym (neg_zer M)
  sin2_flip e5 x = sym (neg_neg M (r x))
  sin2_flip e6 x = sym (neg_neg M (x ⊹ x))
  sin2_flip e7 x = sym (neg_neg M (r x))

  -- a real map: additive, and it commutes with √2
  abbrev pub IsReal : (C → C) → Type 0
  IsReal f = IsAdd M f × ((x : C) → f (r x) ≡ r (f x))

  pub map_cos2 : (f : C → C) → IsReal f → (e : Eighth) (x : C) → f (cos2 e x) ≡ cos2 e (f x)
  map_cos2 f F e0 x = F.0 x x
  map_cos2 f F e1 x = F.1 x
  map_cos2 f F e2 x = map_zer M f F.0
  map_cos2 f F e3 x = map_neg M f F.0 (r x) ∙ ap neg (F.1 x)
  map_cos2 f F e4 x = map_neg M f F.0 (x ⊹ x) ∙ ap neg (F.0 x x)
  map_cos2 f F e5 x = map_neg M f F.0 (r x) ∙ ap neg (F.1 x)
  map_cos2 f F e6 x = map_zer M f F.0
  map_cos2 f F e7 x = F.1 x

  abbrev pub lift : (C → C) → C × C → C × C
  lift f z = (f z.0, f z.1)

  pub lift_turn : (f : C → C) → IsReal f → (e : Eighth) (z : C × C) → lift f (turn e z) ≡ turn e (lift f z)
  lift_turn f F e z = λ i. (left i, right i)
    where
      left : f (cos2 e z.0 ⊹ neg (sin2 e z.1)) ≡ cos2 e (f z.0) ⊹ neg (sin2 e (f z.1))
      left =
          F.0 (cos2 e z.0) (neg (sin2 e z.1))
          ∙ ap₂ ◌⊹◌ (map_cos2 f F e z.0) (map_neg M f F.0 (sin2 e z.1) ∙ ap neg (map_cos2 f F (prev (prev e)) z.1))

      right : f (sin2 e z.0 ⊹ cos2 e z.1) ≡ sin2 e (f z.0) ⊹ cos2 e (f z.1)
      right = F.0 (sin2 e z.0) (cos2 e z.1) ∙ ap₂ ◌⊹◌ (map_cos2 f F (prev (prev e)) z.0) (map_cos2 f F e z.1)

  pub turn_add : (e : Eighth) → IsAdd (M ×ᵃ M) (turn e)
  turn_add e z w = λ i. (left i, right i)
    where
      left : cos2 e (z.0 ⊹ w.0) ⊹ neg (sin2 e (z.1 ⊹ w.1)) ≡ (cos2 e z.0 ⊹ neg (sin2 e z.1)) ⊹ (cos2 e w.0 ⊹ neg (sin2 e w.1))
      left =
          ap₂ ◌⊹◌ (cos2_add e z.0 w.0) (ap neg (cos2_add (prev (prev e)) z.1 w.1) ∙ neg_of_add M (sin2 e z.1) (sin2 e w.1))
          ∙ swap_mid M (cos2 e z.0) (cos2 e w.0) (neg (sin2 e z.1)) (neg (sin2 e w.1))

      right : sin2 e (z.0 ⊹ w.0) ⊹ cos2 e (z.1 ⊹ w.1) ≡ (sin2 e z.0 ⊹ cos2 e z.1) ⊹ (sin2 e w.0 ⊹ cos2 e w.1)
      right =
          ap₂ ◌⊹◌ (cos2_add (prev (prev e)) z.0 w.0) (cos2_add e z.1 w.1)
          ∙ swap_mid M (sin2 e z.0) (sin2 e w.0) (cos2 e z.1) (cos2 e w.1)

  pub pair_torsion : NoTorsion (M ×ᵃ M)
  pair_torsion n x h = λ i. (torsion n x.0 (ap (λ t. t.0) e) i, torsion n x.1 (ap (λ t. t.1) e) i)
    where
      e : ◌≡◌ {A = C × C} (nsm M (suc n) x.0, nsm M (suc n) x.1) (zer, zer)
      e = sym (nsm_pair M M (suc n) x) ∙ h

  pub turn_zero : (z : C × C) → turn e0 z ≡ dbl (M ×ᵃ M) z
  turn_zero z = λ i. (real i, zer_add M (z.1 ⊹ z.1) i)
    where
      real : (z.0 ⊹ z.0) ⊹ neg zer ≡ z.0 ⊹ z.0
      real = ap (λ t. (z.0 ⊹ z.0) ⊹ t) (neg_zer M) ∙ add_zer (z.0 ⊹ z.0)

  turn_up : (e g : Eighth) (w z : C × C) → turn e w ≡ dbl (M ×ᵃ M) (turn g z) → turn (next e) w ≡ dbl (M ×ᵃ M) (turn (next g) z)
  turn_up e g w z h =
      halve (M ×ᵃ M) pair_torsion (turn (next e) w) (dbl (M ×ᵃ M) (turn (next g) z))
      (sym (turn_next e w) ∙ ap (turn e1) h ∙ turn_add e1 (turn g z) (turn g z) ∙ ap (dbl (M ×ᵃ M)) (turn_next g z))

  turn_down : (e g : Eighth) (w z : C × C) → turn e w ≡ dbl (M ×ᵃ M) (turn g z) → turn (prev e) w ≡ dbl (M ×ᵃ M) (turn (prev g) z)
  turn_down e g w z h =
      halve (M ×ᵃ M) pair_torsion (turn (prev e) w) (dbl (M ×ᵃ M) (turn (prev g) z))
      (sym (turn_prev e w) ∙ ap (turn e7) h ∙ turn_add e7 (turn g z) (turn g z) ∙ ap (dbl (M ×ᵃ M)) (turn_prev g z))

  pub turn_mul : (a b : ℤ) (z : C × C) → turn (eighth a) (turn (eighth b) z) ≡ dbl (M ×ᵃ M) (turn (eighth (a +ℤ b)) z)
  turn_mul (pos zero) b z = turn_zero (turn (eighth b) z) ∙ ap (λ t. dbl (M ×ᵃ M) (turn (eighth t) z)) (sym (+ℤ_idl b))
  turn_mul (pos (suc n)) b z =
      turn_up (eighth (pos n)) (eighth (pos n +ℤ b)) (turn (eighth b) z) z (turn_mul (pos n) b z)
      ∙ ap (λ t. dbl (M ×ᵃ M) (turn t z)) (sym (ap eighth (suc_ℤ-+ℤ (pos n) b) ∙ eighth_suc (pos n +ℤ b)))
  turn_mul (negsuc zero) b z =
      turn_prev (eighth b) z
      ∙ ap (λ t. dbl (M ×ᵃ M) (turn t z)) (sym (ap eighth (pred_ℤ-+ℤ (pos 0) b ∙ ap pred_ℤ (+ℤ_idl b)) ∙ eighth_pred b))
  turn_mul (negsuc (suc n)) b z =
      turn_down (eighth (negsuc n)) (eighth (negsuc n +ℤ b)) (turn (eighth b) z) z (turn_mul (negsuc n) b z)
      ∙ ap (λ t. dbl (M ×ᵃ M) (turn t z)) (sym (ap eighth (pred_ℤ-+ℤ (negsuc n) b) ∙ eighth_pred (negsuc n +ℤ b)))

  abbrev pub turns : Turns (M ×ᵃ M)
  turns = record { c = λ m. turn (eighth m); c_add = λ m. turn_add (eighth m); c_zero = turn_zero; c_mul = turn_mul; torsion = pair_torsion }

  -- 2 exp (e π/4 J)
  abbrev pub rot : Eighth → (C → C) → C → C
  rot e J x = (dbl M (x ⊹ J (J x)) ⊹ neg (cos2 e (J (J x)))) ⊹ sin2 e (J x)

  -- a generator with its angle
  pub record Gen : Type 0 where
    pub k : ℤ
    pub J : C → C
    pub real : IsReal J
    pub cube : (x : C) → J (J (J x)) ≡ neg (J x)

  pub sum_real : (f g : C → C) → IsReal f → IsReal g → IsReal (λ x. f x ⊹ g x)
  sum_real f g F G = (
    λ x y. ap₂ ◌⊹◌ (F.0 x y) (G.0 x y) ∙ swap_mid M (f x) (f y) (g x) (g y),
    λ x. ap₂ ◌⊹◌ (F.1 x) (G.1 x) ∙ sym (r_add (f x) (g x)),
  )

  pub neg_real : IsReal neg
  neg_real = (neg_of_add M, λ x. sym (map_neg M r r_add x))

  pub comp_real : (f g : C → C) → IsReal f → IsReal g → IsReal (λ x. f (g x))
  comp_real f g F G = (λ x y. ap f (G.0 x y) ∙ F.0 (g x) (g y), λ x. ap f (G.1 x) ∙ F.1 (g x))

  pub id_real : IsReal (λ x. x)
  id_real = (λ x y. refl, λ x. refl)

  pub cos2_real : (e : Eighth) → IsReal (cos2 e)
  cos2_real e = (cos2_add e, λ x. sym (map_cos2 r (r_add, λ y. refl) e x))

  pub rot_real : (e : Eighth) (J : C → C) → IsReal J → IsReal (rot e J)
  rot_real e J F = sum_real (λ x. dbl M (x ⊹ J (J x)) ⊹ neg (cos2 e (J (J x)))) (λ x. sin2 e (J x))
      (sum_real (λ x. dbl M (x ⊹ J (J x))) (λ x. neg (cos2 e (J (J x))))
      (sum_real (λ x. x ⊹ J (J x)) (λ x. x ⊹ J (J x)) one one)
      (comp_real neg (λ x. cos2 e (J (J x))) neg_real (comp_real (cos2 e) (λ x. J (J x)) (cos2_real e) (comp_real J J F F))))
      (comp_real (sin2 e) J (cos2_real (prev (prev e))) F)
    where
      one : IsReal (λ x. x ⊹ J (J x))
      one = sum_real (λ x. x) (λ x. J (J x)) id_real (comp_real J J F F)

  -- the rotation on the three kinds of vectors
  pub rot_still : (e : Eighth) (J : C → C) → IsReal J → (x : C) → J x ≡ zer → rot e J x ≡ dbl M x
  rot_still e J F x h = ap₂ (λ w v. (dbl M (x ⊹ w) ⊹ neg (cos2 e w)) ⊹ sin2 e v) (ap J h ∙ map_zer M J F.0) h
      ∙ ap₂ (λ a b. (dbl M (x ⊹ zer) ⊹ neg a) ⊹ b) (map_zer M (cos2 e) (cos2_add e)) (map_zer M (sin2 e) (cos2_add (prev (prev e))))
      ∙ lin M Mr (x ∷ []) ((((at 0 ⊞ ∅) ⊞ (at 0 ⊞ ∅)) ⊞ ⊟ ∅) ⊞ ∅) (at 0 ⊞ at 0) refl

  pub rot_plane : (e : Eighth) (J : C → C) (x y : C) → J x ≡ y → J y ≡ neg x → rot e J x ≡ sin2 e y ⊹ cos2 e x
  rot_plane e J x y h k = ap₂ (λ w v. (dbl M (x ⊹ w) ⊹ neg (cos2 e w)) ⊹ sin2 e v) (ap J h ∙ k) h
      ∙ ap (λ a. (dbl M (x ⊹ neg x) ⊹ neg a) ⊹ sin2 e y) (map_neg M (cos2 e) (cos2_add e) x)
      ∙ lin M Mr (x ∷ cos2 e x ∷ sin2 e y ∷ []) ((((at 0 ⊞ ⊟ at 0) ⊞ (at 0 ⊞ ⊟ at 0)) ⊞ ⊟ (⊟ at 1)) ⊞ at 2) (at 2 ⊞ at 1) refl

  -- over the complex numbers, D = -i J
  module _ (g : Gen) where
    open g use {k, J, real, cube}

    J_neg : (x : C) → J (neg x) ≡ neg (J x)
    J_neg = map_neg M J real.0

    abbrev Dᶜ : C × C → C × C
    Dᶜ z = (J z.1, neg (J z.0))

    D_cube : (z : C × C) → Dᶜ (Dᶜ (Dᶜ z)) ≡ Dᶜ z
    D_cube z = λ i. (left i, right i)
      where
        left : J (neg (J (J z.1))) ≡ J z.1
        left = J_neg (J (J z.1)) ∙ ap neg (cube z.1) ∙ neg_neg M (J z.1)

        right : neg (J (J (neg (J z.0)))) ≡ neg (J z.0)
        right = ap neg (ap J (J_neg (J z.0)) ∙ J_neg (J (J z.0)) ∙ ap neg (cube z.0) ∙ neg_neg M (J z.0))

    D_turn : (e : Eighth) (z : C × C) → Dᶜ (turn e z) ≡ turn e (Dᶜ z)
    D_turn e z = λ i. (left i, right i)
      where
        back : neg (sin2 e (neg (J z.0))) ≡ sin2 e (J z.0)
        back = ap neg (map_neg M (sin2 e) (cos2_add (prev (prev e))) (J z.0)) ∙ neg_neg M (sin2 e (J z.0))

        left : J (sin2 e z.0 ⊹ cos2 e z.1) ≡ cos2 e (J z.1) ⊹ neg (sin2 e (neg (J z.0)))
        left = real.0 (sin2 e z.0) (cos2 e z.1) ∙ add_comm (J (sin2 e z.0)) (J (cos2 e z.1))
            ∙ ap₂ ◌⊹◌ (map_cos2 J real e z.1) (map_cos2 J real (prev (prev e)) z.0 ∙ sym back)

        through : J (cos2 e z.0 ⊹ neg (sin2 e z.1)) ≡ cos2 e (J z.0) ⊹ neg (sin2 e (J z.1))
        through =
            real.0 (cos2 e z.0) (neg (sin2 e z.1))
            ∙ ap₂ ◌⊹◌ (map_cos2 J real e z.0) (J_neg (sin2 e z.1) ∙ ap neg (map_cos2 J real (prev (prev e)) z.1))

        right : neg (J (cos2 e z.0 ⊹ neg (sin2 e z.1))) ≡ sin2 e (J z.1) ⊹ cos2 e (neg (J z.0))
        right =
            ap neg through ∙ lin M Mr (cos2 e (J z.0) ∷ sin2 e (J z.1) ∷ []) (⊟ (at 0 ⊞ ⊟ at 1)) (at 1 ⊞ ⊟ at 0) refl
            ∙ ap (λ t. sin2 e (J z.1) ⊹ t) (sym (map_neg M (cos2 e) (cos2_add e) (J z.0)))

    still : (z : C × C) → Dᶜ z ≡ (zer, zer) → lift (rot (eighth k) J) z ≡ dbl (M ×ᵃ M) z
    still z h = λ i. (rot_still (eighth k) J real z.0 none i, rot_still (eighth k) J real z.1 (ap (λ t. t.0) h) i)
      where
        none : J z.0 ≡ zer
        none = sym (neg_neg M (J z.0)) ∙ ap neg (ap (λ t. t.1) h) ∙ neg_zer M

    sin_neg : (x : C) → sin2 (eighth k) (neg x) ≡ neg (sin2 (eighth k) x)
    sin_neg x = map_neg M (sin2 (eighth k)) (cos2_add (prev (prev (eighth k)))) x

    forth : (z : C × C) → Dᶜ z ≡ z → lift (rot (eighth k) J) z ≡ turn (eighth k) z
    forth z h = λ i. (left i, right i)
      where
        j0 : J z.0 ≡ neg z.1
        j0 = sym (neg_neg M (J z.0)) ∙ ap neg (ap (λ t. t.1) h)

        j1 : J z.1 ≡ z.0
        j1 = ap (λ t. t.0) h

        left : rot (eighth k) J z.0 ≡ cos2 (eighth k) z.0 ⊹ neg (sin2 (eighth k) z.1)
        left =
            rot_plane (eighth k) J z.0 (neg z.1) j0 (J_neg z.1 ∙ ap neg j1)
            ∙ add_comm (sin2 (eighth k) (neg z.1)) (cos2 (eighth k) z.0) ∙ ap (λ t. cos2 (eighth k) z.0 ⊹ t) (sin_neg z.1)

        right : rot (eighth k) J z.1 ≡ sin2 (eighth k) z.0 ⊹ cos2 (eighth k) z.1
        right = rot_plane (eighth k) J z.1 z.0 j1 j0

    back : (z : C × C) → Dᶜ z ≡ (neg z.0, neg z.1) → lift (rot (eighth k) J) z ≡ turn (eighth (neg_ℤ k)) z
    back z h = (λ i. (left i, right i)) ∙ ap (λ t. turn t z) (sym (eighth_neg k))
      where
        j0 : J z.0 ≡ z.1
        j0 = sym (neg_neg M (J z.0)) ∙ ap neg (ap (λ t. t.1) h) ∙ neg_neg M z.1

        j1 : J z.1 ≡ neg z.0
        j1 = ap (λ t. t.0) h

        left : rot (eighth k) J z.0 ≡ cos2 (flip (eighth k)) z.0 ⊹ neg (sin2 (flip (eighth k)) z.1)
        left =
            rot_plane (eighth k) J z.0 z.1 j0 j1 ∙ add_comm (sin2 (eighth k) z.1) (cos2 (eighth k) z.0)
            ∙ sym (ap₂ ◌⊹◌ (cos2_flip (eighth k) z.0) (ap neg (sin2_flip (eighth k) z.1) ∙ neg_neg M (sin2 (eighth k) z.1)))

        right : rot (eighth k) J z.1 ≡ sin2 (flip (eighth k)) z.0 ⊹ cos2 (flip (eighth k)) z.1
        right =
            rot_plane (eighth k) J z.1 (neg z.0) j1 (J_neg z.0 ∙ ap neg j0)
            ∙ sym (ap₂ ◌⊹◌ (sin2_flip (eighth k) z.0 ∙ sym (sin_neg z.0)) (cos2_flip (eighth k) z.1))

    rotᶜ : Rot (M ×ᵃ M) turns
    rotᶜ = record {
      k = k;
      D = Dᶜ;
      ρ = lift (rot (eighth k) J);
      D_add = λ z w i. (real.0 z.1 w.1 i, (ap neg (real.0 z.0 w.0) ∙ neg_of_add M (J z.0) (J w.0)) i);
      ρ-add = λ z w i. ((rot_real (eighth k) J real).0 z.0 w.0 i, (rot_real (eighth k) J real).0 z.1 w.1 i);
      cube = D_cube;
      D_c = λ m. D_turn (eighth m);
      ρ-c = λ m. lift_turn (rot (eighth k) J) (rot_real (eighth k) J real) (eighth m);
      ρ-zer = still;
      ρ-pos = forth;
      ρ-neg = back;
    }

  -- the sum of k J over a family, and the product of its rotations, the first outermost
  unfoldable pub total : List Gen → C → C
  total [] x = zer
  total (g ∷ A) x = zsm M g.k (g.J x) ⊹ total A x

  unfoldable pub rots : List Gen → C → C
  rots [] x = x
  rots (g ∷ A) x = rot (eighth g.k) g.J (rots A x)

  -- each J commutes with the sum of the later ones
  abbrev pub Commuting : List Gen → Type 0
  Commuting [] = Unit {0}
  Commuting (g ∷ A) = ((x : C) → g.J (total A x) ≡ total A (g.J x)) × Commuting A

  pub total_real : (A : List Gen) → IsReal (total A)
  unfolding total
  total_real [] = (λ x y. sym (add_zer zer), λ x. sym (map_zer M r r_add))
  total_real (g ∷ A) =
      let times : IsReal (zsm M g.k) = (zsm_of_add M g.k, λ x. sym (map_zsm M r r_add g.k x)) in
      sum_real (λ x. zsm M g.k (g.J x)) (total A) (comp_real (zsm M g.k) g.J times g.real) (total_real A)

  pub rots_real : (A : List Gen) → IsReal (rots A)
  unfolding rots
  rots_real [] = id_real
  rots_real (g ∷ A) = comp_real (rot (eighth g.k) g.J) (rots A) (rot_real (eighth g.k) g.J g.real) (rots_real A)

  armsᶜ : List Gen → List (Rot (M ×ᵃ M) turns)
  armsᶜ [] = []
  armsᶜ (g ∷ A) = rotᶜ g ∷ armsᶜ A

  arms_length : (A : List Gen) → length (armsᶜ A) ≡ length A
  unfolding armsᶜ
  arms_length [] = refl
  arms_length (g ∷ A) = ap suc (arms_length A)

  arms_N : (A : List Gen) (z : C × C) → X.N (M ×ᵃ M) turns (armsᶜ A) z ≡ (total A z.1, neg (total A z.0))
  unfolding armsᶜ total X.N rotᶜ
  arms_N [] z = λ i. (zer, sym (neg_zer M) i)
  arms_N (g ∷ A) z =
      ap₂ (M ×ᵃ M).add (zsm_pair M M g.k (Dᶜ g z)) (arms_N A z)
      ∙ (λ i. (zsm M g.k (g.J z.1) ⊹ total A z.1, second i))
    where
      term : C
      term = zsm M g.k (g.J z.0)

      second : zsm M g.k (neg (g.J z.0)) ⊹ neg (total A z.0) ≡ neg (term ⊹ total A z.0)
      second =
          ap (λ t. t ⊹ neg (total A z.0)) (map_neg M (zsm M g.k) (zsm_of_add M g.k) (g.J z.0))
          ∙ sym (neg_of_add M term (total A z.0))

  arms-ρs : (A : List Gen) (z : C × C) → X.ρs (M ×ᵃ M) turns (armsᶜ A) z ≡ lift (rots A) z
  unfolding armsᶜ rots X.ρs rotᶜ
  arms-ρs [] z = refl
  arms-ρs (g ∷ A) z = ap (lift (rot (eighth g.k) g.J)) (arms-ρs A z)

  arms_good : (A : List Gen) → Commuting A → X.Good (M ×ᵃ M) turns (armsᶜ A)
  unfolding armsᶜ rotᶜ
  arms_good [] G = tt
  arms_good (g ∷ A) G = (commutes, arms_good A G.1)
    where
      through : (z : C × C) → Dᶜ g (total A z.1, neg (total A z.0)) ≡ (neg (total A (g.J z.0)), neg (total A (g.J z.1)))
      through z = λ i. ((J_neg g (total A z.0) ∙ ap neg (G.0 z.0)) i, neg (G.0 z.1 i))

      after : (z : C × C) → X.N (M ×ᵃ M) turns (armsᶜ A) (Dᶜ g z) ≡ (neg (total A (g.J z.0)), neg (total A (g.J z.1)))
      after z =
          arms_N A (Dᶜ g z) ∙ (λ i. (map_neg M (total A) (total_real A).0 (g.J z.0) i, neg (total A (g.J z.1))))

      commutes : (z : C × C) → Dᶜ g (X.N (M ×ᵃ M) turns (armsᶜ A) z) ≡ X.N (M ×ᵃ M) turns (armsᶜ A) (Dᶜ g z)
      commutes z = ap (Dᶜ g) (arms_N A z) ∙ through z ∙ sym (after z)

  -- ---- a real map that carries the sum of A to that of B carries the rotations of A to those of B

  pub intertwine : (A B : List Gen) → Commuting A → Commuting B → (f : C → C) → IsReal f → ((x : C) → f (total A x) ≡ total B (f x))
      → (x : C) → pow2 M (length B) (f (rots A x)) ≡ pow2 M (length A) (rots B (f x))
  intertwine A B GA GB f F h x = ap (λ t. t.0) (sym left ∙ complex ∙ right)
    where
      carried : (z : C × C) → lift f (X.N (M ×ᵃ M) turns (armsᶜ A) z) ≡ X.N (M ×ᵃ M) turns (armsᶜ B) (lift f z)
      carried z =
          ap (lift f) (arms_N A z) ∙ (λ i. (h z.1 i, (map_neg M f F.0 (total A z.0) ∙ ap neg (h z.0)) i))
          ∙ sym (arms_N B (lift f z))

      complex : pow2 (M ×ᵃ M) (length (armsᶜ B)) (lift f (X.ρs (M ×ᵃ M) turns (armsᶜ A) (x, x)))
          ≡ pow2 (M ×ᵃ M) (length (armsᶜ A)) (X.ρs (M ×ᵃ M) turns (armsᶜ B) (lift f (x, x)))
      complex =
          X.intertwine (M ×ᵃ M) turns (armsᶜ A) (armsᶜ B) (arms_good A GA) (arms_good B GB) (lift f)
          (λ z w i. (F.0 z.0 w.0 i, F.0 z.1 w.1 i)) (λ m. lift_turn f F (eighth m)) carried (x, x)

      left : pow2 (M ×ᵃ M) (length (armsᶜ B)) (lift f (X.ρs (M ×ᵃ M) turns (armsᶜ A) (x, x)))
          ≡ (pow2 M (length B) (f (rots A x)), pow2 M (length B) (f (rots A x)))
      left =
          ap₂ (λ n t. pow2 (M ×ᵃ M) n (lift f t)) (arms_length B) (arms-ρs A (x, x))
          ∙ pow2_pair M M (length B) (f (rots A x), f (rots A x))

      right : pow2 (M ×ᵃ M) (length (armsᶜ A)) (X.ρs (M ×ᵃ M) turns (armsᶜ B) (f x, f x))
          ≡ (pow2 M (length A) (rots B (f x)), pow2 M (length A) (rots B (f x)))
      right =
          ap₂ (λ n t. pow2 (M ×ᵃ M) n t) (arms_length A) (arms-ρs B (f x, f x))
          ∙ pow2_pair M M (length A) (rots B (f x), rots B (f x))

  pub exchange : (A B : List Gen) → Commuting A → Commuting B → ((x : C) → total A (total B x) ≡ total B (total A x))
      → (x : C) → rots A (rots B x) ≡ rots B (rots A x)
  exchange A B GA GB h x =
      cancel2 M torsion (length A) (rots A (rots B x)) (rots B (rots A x))
      (sym (intertwine A A GA GA (rots B) (rots_real B) (λ y. sym (half y)) x))
    where
      half : (y : C) → total A (rots B y) ≡ rots B (total A y)
      half y = cancel2 M torsion (length B) (total A (rots B y)) (rots B (total A y)) (intertwine B B GB GB (total A) (total_real A) h y)
