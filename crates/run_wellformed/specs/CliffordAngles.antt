-- Angles 0 to 7 and 1 to 7, and the even ones among them that F takes in: 2, 4 and 6. Assumes nothing.
use Rattle.std.specs.Prelude.{◌≡◌, Bool, true, false, ◌&&◌, ℕ, zero, suc, ◌≤◌, ◌<◌}
use Rattle.std.proofs.lemmas.Bool.{false≢true, eqb-false, not-true}
use Rattle.std.proofs.Common.{arith}
use Rattle.model.specs.Lists.{is_even}
use Rattle.model.specs.Items.{Rot, Item, with_sign, is_clifford, angle_of}
use Rattle.theory.specs.Cases.{by_if, and_left, and_right}
use Rattle.theory.specs.Segments.{KeptByMerging}
use Rattle.words_wellformed.specs.RunWords.{Turns}

-- the second test failed
pub and_false : (x y : Bool) → x && y ≡ false → x ≡ true → y ≡ false
and_false true y h e = h
and_false false y h e = absurd (false≢true e)

-- ---- angles of items

-- "an angle counts eighths modulo 8"
abbrev pub SmallItem : Item → Type 0
SmallItem i = angle_of i ≤ 7

-- merged angles are 0 to 7; those that stay are not 0
pub turns_merging : KeptByMerging (λ (r : Rot). r.angle ≤ 7) Turns
turns_merging = record {
  weaken = λ r h. h.1;
  merge = λ d r h k. omega arith;
  nonzero = λ r h e. (let n : r.angle ≡ 0 → ⊥ = eqb-false r.angle 0 (not-true _ e) in omega arith, h);
}

-- ---- the angles of Clifford rotations

-- even, and not 0
pub data CliffordAngle : ℕ → Type 0 where
  two : CliffordAngle 2
  four : CliffordAngle 4
  six : CliffordAngle 6

-- an even angle from 1 to 7
pub even_angle : (k : ℕ) → 0 < k → k ≤ 7 → is_even k ≡ true → CliffordAngle k
even_angle zero h b e = absurd (omega arith)
even_angle (suc zero) h b e = absurd (false≢true e)
even_angle (suc (suc zero)) h b e = two
even_angle (suc (suc (suc zero))) h b e = absurd (false≢true e)
even_angle (suc (suc (suc (suc zero)))) h b e = four
even_angle (suc (suc (suc (suc (suc zero))))) h b e = absurd (false≢true e)
even_angle (suc (suc (suc (suc (suc (suc zero)))))) h b e = six
even_angle (suc (suc (suc (suc (suc (suc (suc zero))))))) h b e = absurd (false≢true e)
even_angle (suc (suc (suc (suc (suc (suc (suc (suc k)))))))) h b e = absurd (omega arith)

-- an angle that is even, and there to be absorbed, is not 0
pub clifford_nonzero : (k : ℕ) → is_clifford k ≡ true → 0 < k
clifford_nonzero zero e = absurd (false≢true (and_right (is_even 0) false e))
clifford_nonzero (suc k) e = omega arith

-- an angle from 0 to 7 that passes this test
pub clifford_angle : (k : ℕ) → k ≤ 7 → is_clifford k ≡ true → CliffordAngle k
clifford_angle k b e = even_angle k (clifford_nonzero k e) b (and_left (is_even k) _ e)

-- ---- a sign taken into the angle

-- an angle from 1 to 7 stays one
pub with_sign_turns : (s k : ℕ) → 0 < k → k ≤ 7 → (0 < with_sign s k) × (with_sign s k ≤ 7)
unfolding with_sign
with_sign_turns s k h b = by_if (λ (x : ℕ). (0 < x) × (x ≤ 7)) _ _ _ (h, b) (omega arith, omega arith)

-- and so does one from 0 to 7
pub with_sign_small : (s k : ℕ) → k ≤ 7 → with_sign s k ≤ 7
unfolding with_sign
with_sign_small s k b = by_if (λ (x : ℕ). x ≤ 7) _ _ _ b (omega arith)
