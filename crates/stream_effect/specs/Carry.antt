-- An operation carried through F is the model's: the sign of the image goes into the angle or the sign. Assumes nothing.
use Rattle.std.specs.Prelude.{◌≡◌, refl, ◌⊎◌, false, ℕ, zero, suc, ◌+◌, ◌%◌, ◌≤◌, pos, negsuc, neg_ℤ}
use Rattle.std.proofs.Common.{sym, ◌∙◌, inl, inr, true≢false, arith}
use Rattle.std.proofs.Math.Path.{ap}
use Rattle.groups.specs.Eighth.{eighth, eighth_neg, flip}
use Rattle.model.specs.Program.{Kind, rotate, measure, conditional}
use Rattle.model.specs.Items.{with_sign}
use Rattle.words_wellformed.specs.HeldImages.{IsSign, sign_cases}
use Rattle.effect.specs.Phase.{Quarter, q0, q1, q2, q3, odd, count, quarter, quarter_add, quarter_mod, quarter_count, add4_comm, ◌⊞₄◌, τ, ◌·ˢ◌}
use Rattle.effect.specs.Words.{Setting}
use Rattle.effect.specs.Effect.{plain, measured, conditional as given}
use Rattle.effect.specs.Conjugation.{turned}
use Rattle.effect.proofs.Clifford.{Cliff, carry}
use Rattle.packing_effect.specs.Source.{sign_of, signed_angle, op_about}
use Rattle.packing_effect.specs.Signs.{with_sign_angle}

flip_back : (k : ℕ) → flip (eighth (neg_ℤ (pos k))) ≡ eighth (pos k)
flip_back zero = refl
flip_back (suc n) = sym (eighth_neg (negsuc n))

module _ (H : Setting) where
  open H use {words as Ws}
  open Ws use {W}

  -- a rotation takes the sign of its image into the angle
  pub turned_angle : (t : Quarter) → odd t ≡ false → (k : ℕ) → k ≤ 7 → turned H t (eighth (pos k)) ≡ eighth (pos (with_sign (count t) k))
  turned_angle q0 h k b = sym (with_sign_angle 0 k (omega arith) refl b)
  turned_angle q1 h k b = absurd (true≢false h)
  turned_angle q2 h k b = sym (eighth_neg (pos k)) ∙ sym (with_sign_angle 2 k (omega arith) refl b)
  turned_angle q3 h k b = absurd (true≢false h)

  turned_signed : (t : Quarter) → odd t ≡ false → (s : ℕ) → IsSign s → (k : ℕ)
      → turned H t (signed_angle (sign_of s) k) ≡ signed_angle (sign_of ((count t + s) % 4)) k
  turned_signed t h s i k = go t h (sign_cases s i)
    where
      go : (t : Quarter) → odd t ≡ false → (s ≡ 0) ⊎ (s ≡ 2)
          → turned H t (signed_angle (sign_of s) k) ≡ signed_angle (sign_of ((count t + s) % 4)) k
      go q0 h (inl e) = rw e refl
      go q0 h (inr e) = rw e refl
      go q1 h x = absurd (true≢false h)
      go q2 h (inl e) = rw e (sym (eighth_neg (pos k)))
      go q2 h (inr e) = rw e (flip_back k)
      go q3 h x = absurd (true≢false h)

  sign_add : (t : Quarter) → odd t ≡ false → (s : ℕ) → IsSign s → τ t ·ˢ sign_of s ≡ sign_of ((count t + s) % 4)
  sign_add t h s i = go t h (sign_cases s i)
    where
      go : (t : Quarter) → odd t ≡ false → (s ≡ 0) ⊎ (s ≡ 2) → τ t ·ˢ sign_of s ≡ sign_of ((count t + s) % 4)
      go q0 h (inl e) = rw e refl
      go q0 h (inr e) = rw e refl
      go q1 h x = absurd (true≢false h)
      go q2 h (inl e) = rw e refl
      go q2 h (inr e) = rw e refl
      go q3 h x = absurd (true≢false h)

  -- a rotation of the stream
  pub carry_turn : (F : Cliff H) (P : W) (k : ℕ) → k ≤ 7
      → carry H F (plain (eighth (pos k)) P) ≡ plain (eighth (pos (with_sign (count (F.im P).0) k))) (F.im P).1
  unfolding carry
  carry_turn F P k b = ap (λ e. plain e (F.im P).1) (turned_angle (F.im P).0 (F.im_even P) k b)

  -- a barrier
  pub carry_about : (F : Cliff H) (kind : Kind) (s : ℕ) → IsSign s → (P : W) (k m : ℕ)
      → carry H F (op_about kind (sign_of s) P k m) ≡ op_about kind (sign_of ((count (F.im P).0 + s) % 4)) (F.im P).1 k m
  unfolding carry
  carry_about F rotate s i P k m = ap (λ e. plain e (F.im P).1) (turned_signed (F.im P).0 (F.im_even P) s i k)
  carry_about F measure s i P k m = ap (λ z. measured z (F.im P).1 m) (sign_add (F.im P).0 (F.im_even P) s i)
  carry_about F conditional s i P k m = ap (λ e. given e (F.im P).1 m) (turned_signed (F.im P).0 (F.im_even P) s i k)

-- a row's turns
pub quarter_carried : (t : Quarter) (s : ℕ) → quarter ((count t + s) % 4) ≡ quarter s ⊞₄ t
quarter_carried t s =
    quarter_mod (count t + s) ∙ quarter_add (count t) s ∙ ap (λ u. u ⊞₄ quarter s) (quarter_count t) ∙ add4_comm t (quarter s)
