-- The eighths of a turn. Assumes nothing.
use Rattle.std.specs.Prelude.{◌≡◌, refl, Bool, true, false, ℕ, zero, suc, ℤ, pos, negsuc, neg_ℤ}
use Rattle.std.proofs.Common.{sym, ◌∙◌, ap}
use Rattle.std.proofs.Math.IntN.{suc_ℤ, pred_ℤ, suc-pred}

-- the eighths of a turn
pub data Eighth : Type 0 where
  e0 e1 e2 e3 e4 e5 e6 e7 : Eighth

abbrev pub next : Eighth → Eighth
next e0 = e1
next e1 = e2
next e2 = e3
next e3 = e4
next e4 = e5
next e5 = e6
next e6 = e7
next e7 = e0

abbrev pub prev : Eighth → Eighth
prev e0 = e7
prev e1 = e0
prev e2 = e1
prev e3 = e2
prev e4 = e3
prev e5 = e4
prev e6 = e5
prev e7 = e6

pub next_prev : (e : Eighth) → next (prev e) ≡ e
next_prev e0 = refl
next_prev e1 = refl
next_prev e2 = refl
next_prev e3 = refl
next_prev e4 = refl
next_prev e5 = refl
next_prev e6 = refl
next_prev e7 = refl

abbrev pub eighth : ℤ → Eighth
eighth (pos zero) = e0
eighth (pos (suc n)) = next (eighth (pos n))
eighth (negsuc zero) = e7
eighth (negsuc (suc n)) = prev (eighth (negsuc n))

pub eighth_suc : (m : ℤ) → eighth (suc_ℤ m) ≡ next (eighth m)
eighth_suc (pos n) = refl
eighth_suc (negsuc zero) = refl
eighth_suc (negsuc (suc n)) = sym (next_prev (eighth (negsuc n)))

pub prev_next : (e : Eighth) → prev (next e) ≡ e
prev_next e0 = refl
prev_next e1 = refl
prev_next e2 = refl
prev_next e3 = refl
prev_next e4 = refl
prev_next e5 = refl
prev_next e6 = refl
prev_next e7 = refl

pub eighth_pred : (m : ℤ) → eighth (pred_ℤ m) ≡ prev (eighth m)
eighth_pred m = sym (prev_next (eighth (pred_ℤ m))) ∙ ap prev (sym (eighth_suc (pred_ℤ m)) ∙ ap eighth (suc-pred m))

abbrev pub flip : Eighth → Eighth
flip e0 = e0
flip e1 = e7
flip e2 = e6
flip e3 = e5
flip e4 = e4
flip e5 = e3
flip e6 = e2
flip e7 = e1

flip_next : (e : Eighth) → flip (next e) ≡ prev (flip e)
flip_next e0 = refl
flip_next e1 = refl
flip_next e2 = refl
flip_next e3 = refl
flip_next e4 = refl
flip_next e5 = refl
flip_next e6 = refl
flip_next e7 = refl

flip_flip : (e : Eighth) → flip (flip e) ≡ e
flip_flip e0 = refl
flip_flip e1 = refl
flip_flip e2 = refl
flip_flip e3 = refl
flip_flip e4 = refl
flip_flip e5 = refl
flip_flip e6 = refl
flip_flip e7 = refl

eighth_negsuc : (n : ℕ) → eighth (negsuc n) ≡ flip (next (eighth (pos n)))
eighth_negsuc zero = refl
eighth_negsuc (suc n) = ap prev (eighth_negsuc n) ∙ sym (flip_next (next (eighth (pos n))))

pub eighth_neg : (m : ℤ) → eighth (neg_ℤ m) ≡ flip (eighth m)
eighth_neg (pos zero) = refl
eighth_neg (pos (suc n)) = eighth_negsuc n
eighth_neg (negsuc n) = sym (ap flip (eighth_negsuc n) ∙ flip_flip (eighth (pos (suc n))))

-- even angles
abbrev pub is_even_e : Eighth → Bool
is_even_e e0 = true
is_even_e e1 = false
is_even_e e2 = true
is_even_e e3 = false
is_even_e e4 = true
is_even_e e5 = false
is_even_e e6 = true
is_even_e e7 = false
