-- What a signature's bits say, supports within signatures, that words with disjoint ones commute, how a loop over set bits builds
-- one, and what it is at width 1. Assumes nothing.
use Rattle.std.specs.Prelude.{◌≡◌, refl, false, ◌⊎◌, List}
use Rattle.std.proofs.Common.{sym, ◌∙◌, inl, inr, zero-mul, one-mul, zero-add, add-zero, add-suc, eq-or-lt_of_le, div-lt_iff_lt-mul, div-one, mod-lt, mod-eq_of_lt, one-add, pow_pos}
use Rattle.std.proofs.Math.Path.{ap}
use Rattle.std.proofs.Math.Logic.{⊎_elim}
use Prim.Native.Nat.{ℕ, zero, suc, ◌+◌, ◌-◌, ◌*◌, ◌/◌, ◌%◌, ◌^◌, ◌≤◌, ◌<◌, max}
use Rattle.std.proofs.Math.Nat.{mod-one}
use Rattle.std.proofs.Math.Decide.{ℕ_discrete}
use native.Mathlib.Omega.{arith}
use Rattle.std.specs.Int.Bits.{bit_and, bit_or, or_zero_l, or_zero_r, or_self, or_shifted_r}
use Rattle.std.proofs.lemmas.Nat.{or_comm, or_lt, mod-pow-add}
use Rattle.std.specs.Int.Count.{count_trailing_zeros}
use Rattle.std.proofs.Math.Dec.{eqb}
use Rattle.bits.specs.Remainder.{lt_or_ge}
use Rattle.bits.specs.Digit.{Digit, off, on, min_none}
use Rattle.bits.specs.Bit.{bit, bit_digit, bit_lt, bit_bit_and, bit_bit_or, bit_ext, bit_high, bit_is, zero_bit, or_assoc, or_swap, pow_bit, pow_other}
use Rattle.bits.specs.LowestBit.{lowest_bit, trailing_lt}
use Rattle.pauli.specs.Word.{x_word, z_word, IsWord, common, xor_words, symplectic, anticommutes}
use Rattle.pauli.specs.Letter.{letter_at, single, other, acts}
use Rattle.pauli.specs.Support.{bucket, signature_to, signature}
use Rattle.pauli.specs.ProductLaws.{common_comm, common_none}
use Rattle.pauli.specs.LetterLaws.{acts_bit, letter_mul, letter_xor, single_word, single_elsewhere, xor_words_word}

pub bucket_lt : (l q : ℕ) → 0 < l → q < 64 * l → bucket l q < 64
bucket_lt l q h b = (div-lt_iff_lt-mul h).1 b

-- ---- the bits of a signature

module _ (l : ℕ) (p : List ℕ) where
  -- each qubit that is acted on sets its bucket's bit
  pub signature_set : (n q : ℕ) → q < n → acts l p q ≡ 1 → bit (signature_to l p n) (bucket l q) ≡ 1
  unfolding signature_to
  signature_set zero q h a = absurd (omega arith)
  signature_set (suc n) q h a =
      bit_bit_or (signature_to l p n) (acts l p n * 2 ^ (n / l)) (q / l)
      ∙ ⊎_elim
      (λ (e : q ≡ n).
      let one : bit (acts l p n * 2 ^ (n / l)) (q / l) ≡ 1 = rw (← e, a, one-mul) (pow_bit (q / l)) in
      omega (arith, bit_lt (signature_to l p n) (q / l)))
      (λ (b : q < n). omega (arith, signature_set n q b a, bit_lt (acts l p n * 2 ^ (n / l)) (q / l)))
      (eq-or-lt_of_le {n = q} {m = n} (omega arith))

-- ---- disjoint signatures

-- a set bit of either plane is a qubit that is acted on
x_acts : (l : ℕ) (p : List ℕ) (j t : ℕ) → t < 64 → bit (x_word p j) t ≡ 1 → acts l p (64 * j + t) ≡ 1
x_acts l p j t h e = acts_bit l p j t h ∙ bit_bit_or (x_word p j) (z_word l p j) t ∙ omega (arith, bit_lt (z_word l p j) t)

z_acts : (l : ℕ) (p : List ℕ) (j t : ℕ) → t < 64 → bit (z_word l p j) t ≡ 1 → acts l p (64 * j + t) ≡ 1
z_acts l p j t h e = acts_bit l p j t h ∙ bit_bit_or (x_word p j) (z_word l p j) t ∙ omega (arith, bit_lt (x_word p j) t)

-- p is a word, and its support lies within s: each qubit that is acted on has its bucket's bit there
pub record SupportWithin (l s : ℕ) (p : List ℕ) : Type 0 where
  pub word : IsWord l p
  pub buckets : (q : ℕ) → q < 64 * l → acts l p q ≡ 1 → bit s (bucket l q) ≡ 1

pub signature_within : (l : ℕ) (p : List ℕ) → IsWord l p → SupportWithin l (signature l p) p
unfolding signature
signature_within l p w = record { word = w; buckets = λ q h a. signature_set l p (64 * l) q h a }

-- the letter of one qubit lies within the bit of its bucket
pub single_within : (l q c : ℕ) → q < 64 * l → SupportWithin l (2 ^ bucket l q) (single l q c)
single_within l q c h = record { word = single_word l q c h; buckets = λ i b a. here i b a (ℕ_discrete i q) }
  where
    here : (i : ℕ) → i < 64 * l → acts l (single l q c) i ≡ 1 → Dec (i ≡ q) → bit (2 ^ bucket l q) (bucket l i) ≡ 1
    here i b a (yes e) = rw e (pow_bit (bucket l q))
    here i b a (no n) = absurd (omega (arith, sym (ap other (single_elsewhere l q c h i b n)) ∙ a))

-- a product acts where a factor does
acts_product : (a b : ℕ) → other (letter_mul a b) ≡ 1 → (other a ≡ 1) ⊎ (other b ≡ 1)
acts_product zero b e = inr e
acts_product (suc a) b e = inl refl

either_set : (s t k : ℕ) → (bit s k ≡ 1) ⊎ (bit t k ≡ 1) → bit (bit_or s t) k ≡ 1
either_set s t k (inl e) = bit_bit_or s t k ∙ omega (arith, bit_lt t k)
either_set s t k (inr e) = bit_bit_or s t k ∙ omega (arith, bit_lt s k)

module _ {l s t : ℕ} {p q : List ℕ} (a : SupportWithin l s p) (b : SupportWithin l t q) where
  pub product_within : SupportWithin l (bit_or s t) (xor_words p q)
  product_within = record {
    word = xor_words_word l p q a.word b.word;
    buckets = λ i h e. either_set s t (bucket l i)
        (⊎_elim (λ (x : acts l p i ≡ 1). inl (a.buckets i h x)) (λ (y : acts l q i ≡ 1). inr (b.buckets i h y))
        (acts_product (letter_at l p i) (letter_at l q i) (sym (ap other (letter_xor l p q i)) ∙ e)));
  }

  module _ (apart : bit_and s t ≡ 0) where
    -- no qubit is acted on by both
    never : (i : ℕ) → i < 64 * l → acts l p i ≡ 1 → acts l q i ≡ 1 → ⊥
    never i h x y =
        let e : bit (bit_and s t) (i / l) ≡ 0 = ap (λ (n : ℕ). bit n (i / l)) apart ∙ zero_bit (i / l) in
        omega (arith, sym (bit_bit_and s t (i / l)) ∙ e, a.buckets i h x, b.buckets i h y)

    -- two planes whose set bits are acted on have no bit in common
    plane_none : (f g : ℕ → ℕ) → ((j : ℕ) → f j < 2 ^ 64)
        → ((j t : ℕ) → t < 64 → bit (f j) t ≡ 1 → acts l p (64 * j + t) ≡ 1)
        → ((j t : ℕ) → t < 64 → bit (g j) t ≡ 1 → acts l q (64 * j + t) ≡ 1) → common f g l ≡ 0
    plane_none f g fit af ag =
        common_none f g l (λ j b. bit_ext _ 0 (λ t. bit_bit_and (f j) (g j) t ∙ ⊎_elim
        (λ (lt : t < 64). min_none (bit_digit _ t) (bit_digit _ t) (λ u v. never (64 * j + t) (omega arith) (af j t lt u) (ag j t lt v)))
        (λ (ge : 64 ≤ t). omega (arith, bit_high (f j) 64 t (fit j) ge))
        (lt_or_ge t 64) ∙ sym (zero_bit t)))

    disjoint_commute : symplectic l p q ≡ 0
    unfolding symplectic
    disjoint_commute =
        omega (
          arith,
          plane_none (z_word l p) (x_word q) (λ j. a.word.fits (l + j)) (z_acts l p) (x_acts l q),
          common_comm (z_word l q) (x_word p) l ∙ plane_none (x_word p) (z_word l q) a.word.fits (x_acts l p) (z_acts l q),
        )

    -- words within disjoint signatures commute
    pub apart_commute : anticommutes l p q ≡ false
    unfolding anticommutes
    apart_commute = ap (λ (n : ℕ). eqb n 1) disjoint_commute

-- ---- a word's part of a signature, by its set bits

-- the buckets of the set bits among the first n of w, the j-th number of a plane
unfoldable pub buckets_of : ℕ → ℕ → ℕ → ℕ → ℕ
buckets_of l j w zero = 0
buckets_of l j w (suc n) = bit_or (buckets_of l j w n) (bit w n * 2 ^ ((64 * j + n) / l))

pub buckets_zero : (l j n : ℕ) → buckets_of l j 0 n ≡ 0
unfolding buckets_of
buckets_zero l j zero = refl
buckets_zero l j (suc n) = rw (buckets_zero l j n, zero_bit n, zero-mul)

max_mul : {x y : ℕ} (p : ℕ) → Digit x → Digit y → max x y * p ≡ bit_or (x * p) (y * p)
max_mul p off off = simp zero-mul
max_mul p off on = simp (zero-mul, one-mul)
max_mul p on off = simp (zero-mul, one-mul) (sym (or_zero_r p))
max_mul p on on = simp one-mul (sym (or_self p))

buckets_or : (l j u v n : ℕ) → buckets_of l j (bit_or u v) n ≡ bit_or (buckets_of l j u n) (buckets_of l j v n)
unfolding buckets_of
buckets_or l j u v zero = refl
buckets_or l j u v (suc n) =
    rw (buckets_or l j u v n, bit_bit_or u v n, max_mul (2 ^ ((64 * j + n) / l)) (bit_digit u n) (bit_digit v n)) (search or_swap)

buckets_none : (l j t n : ℕ) → n ≤ t → buckets_of l j (2 ^ t) n ≡ 0
unfolding buckets_of
buckets_none l j t zero h = refl
buckets_none l j t (suc n) h =
    let z : bit (2 ^ t) n ≡ 0 = pow_other t n (omega arith) in
    rw (buckets_none l j t n (omega arith), z, zero-mul)

buckets_pow : (l j t n : ℕ) → t < n → buckets_of l j (2 ^ t) n ≡ 2 ^ ((64 * j + t) / l)
unfolding buckets_of
buckets_pow l j t zero h = absurd (omega arith)
buckets_pow l j t (suc n) h =
    ⊎_elim
    (λ (e : t ≡ n). rw (← e, buckets_none l j t t (omega arith), pow_bit t, one-mul))
    (λ (b : t < n). rw (buckets_pow l j t n b, pow_other t n (omega arith), zero-mul) (or_zero_r _))
    (eq-or-lt_of_le {n = t} {m = n} (omega arith))

-- the lowest set bit's bucket, and those of the others
pub buckets_clear : (l j w s : ℕ) → 0 < w → w < 2 ^ 64
    → bit_or (bit_or s (2 ^ ((64 * j + count_trailing_zeros 64 w) / l))) (buckets_of l j (bit_and w (w - 1)) 64) ≡ bit_or s (buckets_of l j w 64)
buckets_clear l j w s p h =
    let t = count_trailing_zeros 64 w in
    let rest = bit_and w (w - 1) in
    or_assoc s _ _ ∙ ap (bit_or s)
    (or_comm _ (buckets_of l j rest 64)
    ∙ ap (bit_or (buckets_of l j rest 64)) (sym (buckets_pow l j t 64 (trailing_lt 64 w p h)))
    ∙ sym (buckets_or l j rest (2 ^ t) 64)
    ∙ ap (λ (x : ℕ). buckets_of l j x 64) (sym (lowest_bit 64 w p h)))

-- a word more of each plane
pub signature_word : (l : ℕ) (p : List ℕ) (j n : ℕ) → n ≤ 64
    → signature_to l p (64 * j + n) ≡ bit_or (signature_to l p (64 * j)) (buckets_of l j (bit_or (x_word p j) (z_word l p j)) n)
unfolding signature_to buckets_of
signature_word l p j zero h = rw (add-zero (64 * j)) (sym (or_zero_r _))
signature_word l p j (suc n) h =
    rw (add-suc (64 * j) n, signature_word l p j n (omega arith), acts_bit l p j n (omega arith)) (search or_assoc)

-- ---- words of width 1

-- bucket q is q: the buckets of the set bits are these bits
buckets_one : (w n : ℕ) → buckets_of 1 0 w n ≡ w % 2 ^ n
unfolding buckets_of
buckets_one w zero = sym (mod-one w)
buckets_one w (suc n) =
    rw (buckets_one w n, zero-add, div-one, bit_is w n, ← one-add n)
    (or_shifted_r (w / 2 ^ n % 2) n (w % 2 ^ n) (mod-lt w (pow_pos n)) ∙ sym (mod-pow-add w 1 n))

-- so the signature is the or of the planes
pub signature_one : (p : List ℕ) → IsWord 1 p → signature 1 p ≡ bit_or (x_word p 0) (z_word 1 p 0)
unfolding signature signature_to
signature_one p w =
    signature_word 1 p 0 64 (omega arith) ∙ or_zero_l _ ∙ buckets_one _ 64 ∙ mod-eq_of_lt (or_lt 64 _ _ (w.fits 0) (w.fits 1))
