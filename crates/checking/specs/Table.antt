-- A table of bits: bit o is bit o mod 64 of number o div 64. Assumes nothing.
use Rattle.std.specs.Prelude.{◌≡◌, refl, Bool, false, ◌||◌, List, ℕ, ◌*◌, ◌/◌, ◌%◌, ◌^◌, ◌<◌, max, eqb, length, get_or, set, replicate}
use Rattle.std.proofs.Common.{sym, ap, ap₂, ◌∙◌, one-mul, arith, length-set, shl_exact, get_or-set_same, get_or-set_other, eq-eqb, ne_eqb}
use Rattle.std.proofs.Math.Decide.{ℕ_discrete}
use Rattle.std.specs.Int.Bits.{bit_or}
use Rattle.std.proofs.lemmas.List.{get_or-replicate}
use Rattle.bits.specs.Bit.{bit, bit_is, bit_bit_or, bit_digit, zero_bit, pow_bit, pow_other}
use Rattle.bits.specs.Digit.{Digit, off, on}

unfoldable pub has_bit : List ℕ → ℕ → Bool
has_bit t o = eqb (bit (get_or t (o / 64) 0) (o % 64)) 1

unfoldable pub with_bit : List ℕ → ℕ → List ℕ
with_bit t p = set t (p / 64) (bit_or (get_or t (p / 64) 0) (2 ^ (p % 64)))

pub with_length : (t : List ℕ) (p : ℕ) → length (with_bit t p) ≡ length t
unfolding with_bit
with_length t p = length-set t (p / 64) _

-- ---- as the machine reads and sets it

pub bit_read : (t : List ℕ) (o : ℕ) → eqb (get_or t (o / 64) 0 / 2 ^ (o % 64) % 2) 1 ≡ has_bit t o
unfolding has_bit
bit_read t o = ap (λ (x : ℕ). eqb x 1) (sym (bit_is _ (o % 64)))

pub bit_set : (t : List ℕ) (p : ℕ) → set t (p / 64) (bit_or (get_or t (p / 64) 0) (1 * 2 ^ (p % 64) % 2 ^ 64)) ≡ with_bit t p
unfolding with_bit
bit_set t p = rw (shl_exact {a = 1} 1 (p % 64) 64 (omega arith) (omega arith), one-mul)

-- ---- no bit is set; one more is set

pub none_set : (n o : ℕ) → o / 64 < n → has_bit (replicate n 0) o ≡ false
unfolding has_bit
none_set n o h = ap (λ (x : ℕ). eqb x 1) (ap (λ (w : ℕ). bit w (o % 64)) (get_or-replicate n (o / 64) 0 0 h) ∙ zero_bit (o % 64))

-- of one number
number_set : (w k m : ℕ) → Dec (m ≡ k) → eqb (bit (bit_or w (2 ^ k)) m) 1 ≡ eqb m k || eqb (bit w m) 1
number_set w k m (yes e) =
    rw e (ap (λ (x : ℕ). eqb x 1) (bit_bit_or w (2 ^ k) k ∙ ap (max (bit w k)) (pow_bit k) ∙ most (bit_digit w k))
    ∙ sym (ap (λ (b : Bool). b || eqb (bit w k) 1) (eq-eqb k k refl)))
  where
    most : {d : ℕ} → Digit d → max d 1 ≡ 1
    most off = refl
    most on = refl
number_set w k m (no n) =
    ap (λ (x : ℕ). eqb x 1) (bit_bit_or w (2 ^ k) m ∙ ap (max (bit w m)) (pow_other k m n) ∙ least (bit_digit w m))
    ∙ sym (ap (λ (b : Bool). b || eqb (bit w m) 1) (ne_eqb m k n))
  where
    least : {d : ℕ} → Digit d → max d 0 ≡ d
    least off = refl
    least on = refl

-- bits o and p of the table stand in one number
in_one : (o p : ℕ) → o / 64 ≡ p / 64 → Dec (o % 64 ≡ p % 64) → eqb (o % 64) (p % 64) ≡ eqb o p
in_one o p e (yes f) = eq-eqb (o % 64) (p % 64) f ∙ sym (eq-eqb o p (omega arith))
in_one o p e (no n) = ne_eqb (o % 64) (p % 64) n ∙ sym (ne_eqb o p (λ f. n (ap (λ (x : ℕ). x % 64) f)))

pub one_more_set : (t : List ℕ) (p o : ℕ) → p / 64 < length t → has_bit (with_bit t p) o ≡ eqb o p || has_bit t o
unfolding has_bit with_bit
one_more_set t p o h = go (ℕ_discrete (o / 64) (p / 64))
  where
    test : ℕ → Bool
    test w = eqb (bit w (o % 64)) 1

    w : ℕ
    w = bit_or (get_or t (p / 64) 0) (2 ^ (p % 64))

    go : Dec (o / 64 ≡ p / 64) → test (get_or (set t (p / 64) w) (o / 64) 0) ≡ eqb o p || test (get_or t (o / 64) 0)
    go (yes e) =
        ap (λ (j : ℕ). test (get_or (set t (p / 64) w) j 0)) e
        ∙ ap test (get_or-set_same t (p / 64) w 0 h)
        ∙ number_set (get_or t (p / 64) 0) (p % 64) (o % 64) (ℕ_discrete (o % 64) (p % 64))
        ∙ ap₂ (λ (b c : Bool). b || c) (in_one o p e (ℕ_discrete (o % 64) (p % 64))) (ap (λ (j : ℕ). test (get_or t j 0)) (sym e))
    go (no n) =
        ap test (get_or-set_other t (p / 64) (o / 64) w 0 n)
        ∙ sym (ap (λ (b : Bool). b || test (get_or t (o / 64) 0)) (ne_eqb o p (λ e. n (ap (λ (x : ℕ). x / 64) e))))
