-- Zeros and two stores make a word of one letter. Assumes nothing.
use mathlib.Core.Path.{◌≡◌, ap₂, ◌∙◌}
use mathlib.Core.List.{List}
use Prim.Native.Nat.{ℕ, ◌+◌, ◌-◌, ◌*◌, ◌/◌, ◌%◌, ◌^◌, ◌≤◌, ◌<◌}
use native.Mathlib.Nat.{mod-eq_of_lt}
use native.Mathlib.Omega.{arith}
use borrow.Rule.Slice.PartMut.{put_mid}
use lib.ListN.{length, set, take, drop, replicate, length-set}
use Rattle.bits.specs.Digit.{Digit}
use Rattle.store.specs.Part.{put, put_set, zeros_lent}
use Rattle.pauli.specs.Word.{identity}
use Rattle.pauli.specs.Letter.{has_x, has_z, single}
use Rattle.pauli.specs.LetterLaws.{has_x_digit, has_z_digit, digit_fits, identity_length}

-- a digit shifted, as the machine has it
shifted : (d t v : ℕ) → Digit d → t < 64 → v ≡ d → v * 2 ^ t % 2 ^ 64 ≡ d * 2 ^ t
shifted d t v g h e = rw e (mod-eq_of_lt (digit_fits t h g))

pub put_letter : (s w : List ℕ) (at l q c x z : ℕ) → at + 2 * l ≤ length s → q < 64 * l
    → w ≡ replicate (length (take (at + 2 * l - at) (drop at s))) 0 → x ≡ has_x c → z ≡ has_z c
    → set (set (put_mid at (at + 2 * l - at) s w) (at + q / 64) (x * 2 ^ (q % 64) % 2 ^ 64)) (at + (l + q / 64)) (z * 2 ^ (q % 64) % 2 ^ 64)
    ≡ put s at (single l q c)
unfolding single
put_letter s w at l q c x z h b p ex ez =
    let i = identity l in
    let X = has_x c * 2 ^ (q % 64) in
    let Z = has_z c * 2 ^ (q % 64) in
    let n = identity_length l in
    let m = length-set i (q / 64) X in
    ap₂ (λ (t : List ℕ) (v : ℕ). set (set t (at + q / 64) v) (at + (l + q / 64)) (z * 2 ^ (q % 64) % 2 ^ 64))
    (zeros_lent s at (2 * l) w h p) (shifted (has_x c) (q % 64) x (has_x_digit c) (omega arith) ex)
    ∙ ap₂ (λ (t : List ℕ) (v : ℕ). set t (at + (l + q / 64)) v)
    (put_set s at i (q / 64) X (omega arith) (omega arith)) (shifted (has_z c) (q % 64) z (has_z_digit c) (omega arith) ez)
    ∙ put_set s at (set i (q / 64) X) (l + q / 64) Z (omega arith) (omega arith)
