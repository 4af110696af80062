-- A sign times an element of an abelian group. Assumes nothing.
use Rattle.std.specs.Prelude.{◌≡◌, true, neg_ℤ, ◌+ℤ◌}
use Rattle.std.proofs.Math.Path.{refl, sym, ap}
use Rattle.std.proofs.Common.{◌∙◌, ap₂}
use Rattle.std.proofs.Math.IntN.{+ℤ_assoc, +ℤ_invl, +ℤ_idr, +ℤ_idl}
use Rattle.groups.specs.Abelian.{Ab, nsm, zsm, zsm_add, zsm_neg, zer_add, neg_neg, neg_zer, neg_of_add, IsAdd, map_zer, map_neg}
use Rattle.groups.specs.Root.{is_zero, zero_of}
use Rattle.effect.specs.Phase.{Sgn, nil, plus, minus, ◌·ˢ◌, toℤ}

module _ (K : Ab) where
  open K use {C, zer, add as ◌⊹◌, neg, add_assoc, add_comm, add_zer, add_neg}

  infixl 60 ◌⊹◌
  -- a sign times x
  abbrev pub act : Sgn → C → C
  act nil x = zer
  act plus x = x
  act minus x = neg x

  pub act_mul : (s t : Sgn) (x : C) → act s (act t x) ≡ act (s ·ˢ t) x
  act_mul nil t x = refl
  act_mul plus t x = refl
  act_mul minus nil x = neg_zer K
  act_mul minus plus x = refl
  act_mul minus minus x = neg_neg K x

  pub act_add : (s : Sgn) → IsAdd K (act s)
  act_add nil x y = sym (add_zer zer)
  act_add plus x y = refl
  act_add minus x y = neg_of_add K x y

  pub act_map : (f : C → C) → IsAdd K f → (s : Sgn) (x : C) → f (act s x) ≡ act s (f x)
  act_map f fa nil x = map_zer K f fa
  act_map f fa plus x = refl
  act_map f fa minus x = map_neg K f fa x

  pub act_zsm : (s : Sgn) (x : C) → act s x ≡ zsm K (toℤ s) x
  unfolding zsm nsm
  act_zsm nil x = refl
  act_zsm plus x = sym (zer_add K x)
  act_zsm minus x = ap neg (sym (zer_add K x))

  -- equations between signs hold of what they act on
  pub act_diff : (a b c : Sgn) → is_zero ((toℤ a +ℤ neg_ℤ (toℤ b)) +ℤ neg_ℤ (toℤ c)) ≡ true → (x : C) → act a x ⊹ neg (act b x) ≡ act c x
  act_diff a b c h x =
      ap₂ (λ s t. s ⊹ neg t) (act_zsm a x) (act_zsm b x) ∙ ap (λ t. zsm K (toℤ a) x ⊹ t) (sym (zsm_neg K (toℤ b) x)) ∙ sym
      (zsm_add K (toℤ a) (neg_ℤ (toℤ b)) x)
      ∙ ap (λ t. zsm K t x) e ∙ sym (act_zsm c x)
    where
      e : toℤ a +ℤ neg_ℤ (toℤ b) ≡ toℤ c
      e =
          sym (+ℤ_assoc (toℤ a +ℤ neg_ℤ (toℤ b)) (neg_ℤ (toℤ c)) (toℤ c)
          ∙ ap (λ t. (toℤ a +ℤ neg_ℤ (toℤ b)) +ℤ t) (+ℤ_invl (toℤ c)) ∙ +ℤ_idr
          (toℤ a +ℤ neg_ℤ (toℤ b))) ∙ ap (λ t. t +ℤ toℤ c) (zero_of ((toℤ a +ℤ neg_ℤ (toℤ b)) +ℤ neg_ℤ (toℤ c)) h)
          ∙ +ℤ_idl (toℤ c)
