-- Loops that lay the exclusive or of two words, number by number. Assumes nothing.
use mathlib.Core.Path.{◌≡◌, refl, sym, ap, ap₂, ◌∙◌}
use mathlib.Core.Logic.{◌⊎◌, inl, inr, ⊎_elim}
use mathlib.Core.List.{List, ◌++◌, append-nil}
use Prim.Native.Nat.{ℕ, ◌+◌, ◌*◌, ◌≤◌, ◌<◌}
use native.Mathlib.Nat.{eq-or-lt_of_le, zero-add}
use native.Mathlib.Omega.{arith}
use lib.Bits.{bit_xor}
use lib.ListN.{length, get_or, set, length-set, drop_of_length-le}
use lib.Seq.{get_or-set_same, get_or-set_other}
use Rattle.store.specs.Part.{part, put, put_ext, part_at, part_length}
use Rattle.pauli.specs.Word.{xor_words}
use Rattle.pauli.specs.ProductLaws.{xor_words_at, xor_words_length}
use Rattle.product.specs.Product.{ProductPre, StoredPre, StoredWord, Clear}

-- the first j of n numbers of r stand at o; all else is as in s₀
pub record Laid (s₀ s : List ℕ) (o n : ℕ) (r : List ℕ) (j : ℕ) : Type 0 where
  pub le : j ≤ n
  pub long : length s ≡ length s₀
  pub done : (k : ℕ) → k < j → get_or s (o + k) 0 ≡ get_or r k 0
  pub rest : (i : ℕ) → (i < o) ⊎ (o + j ≤ i) → get_or s i 0 ≡ get_or s₀ i 0

pub laid_none : (s : List ℕ) (o n : ℕ) (r : List ℕ) → Laid s s o n r 0
laid_none s o n r = record { le = omega arith; long = refl; done = λ k h. absurd (omega arith); rest = λ i d. refl }

module _ (s₀ s : List ℕ) (o n : ℕ) (r : List ℕ) (j : ℕ) (laid : Laid s₀ s o n r j) (fits : o + n ≤ length s₀) where
  pub laid_more : j < n → {v : ℕ} → v ≡ get_or r j 0 → Laid s₀ (set s (o + j) v) o n r (j + 1)
  laid_more h {v} e = record {
    le = omega arith;
    long = length-set s (o + j) v ∙ laid.long;
    done = λ k b. ⊎_elim
        (λ (d : k ≡ j). rw d (get_or-set_same s (o + j) v 0 (omega (arith, laid.long)) ∙ e))
        (λ (lt : k < j). get_or-set_other s (o + j) (o + k) v 0 (omega arith) ∙ laid.done k lt)
        (eq-or-lt_of_le {n = k} {m = j} (omega arith));
    rest = λ i d. ⊎_elim
        (λ (lo : i < o). get_or-set_other s (o + j) i v 0 (omega arith) ∙ laid.rest i (inl lo))
        (λ (hi : o + (j + 1) ≤ i). get_or-set_other s (o + j) i v 0 (omega arith) ∙ laid.rest i (inr (omega arith))) d;
  }

  pub laid_all : n ≤ j → length r ≡ n → s ≡ put s₀ o r
  laid_all h m =
      put_ext s₀ o r s (omega arith) laid.long (λ i b. laid.rest i (inl b)) (λ i b. laid.done i (omega arith))
      (λ i b. laid.rest i (inr (omega (arith, laid.le))))

-- ---- `product`: out is a store of its own, which the word fills

module _ (l : ℕ) (p q out₀ out : List ℕ) (j : ℕ) (pre : ProductPre l p q out₀) (laid : Laid out₀ out 0 (length p) (xor_words p q) j) where
  put_whole : (w : List ℕ) → length w ≡ length out₀ → put out₀ 0 w ≡ w
  unfolding put
  put_whole w e = ap (λ (t : List ℕ). w ++ t) (drop_of_length-le out₀ {i = 0 + length w} (omega arith)) ∙ append-nil w

  pub word_more : j < length p → Laid out₀ (set out j (bit_xor (get_or p j 0) (get_or q j 0))) 0 (length p) (xor_words p q) (j + 1)
  word_more h =
      simp zero-add at (laid_more out₀ out 0 (length p) (xor_words p q) j laid (omega (arith, pre.p_long, pre.out_long)) h
      (sym (xor_words_at p q j)))

  pub word_all : length p ≤ j → out ≡ xor_words p q
  word_all h =
      let n = xor_words_length p q (pre.p_long ∙ sym pre.q_long) in
      laid_all out₀ out 0 (length p) (xor_words p q) j laid (omega (arith, pre.p_long, pre.out_long)) h n
      ∙ put_whole (xor_words p q) (n ∙ pre.p_long ∙ sym pre.out_long)

-- ---- `product_word_in`: three words of one store

-- the product's word
abbrev pub product_word : ℕ → List ℕ → ℕ → ℕ → List ℕ
product_word l s p q = xor_words (part s p (2 * l)) (part s q (2 * l))

module _ (l : ℕ) (s₀ : List ℕ) (p q o : ℕ) (s : List ℕ) (j : ℕ) (pre : StoredPre l s₀ p q o)
    (laid : Laid s₀ s o (2 * l) (product_word l s₀ p q) j) where
  -- what is still to be read is as it was
  unread : (w : ℕ) → Clear l o w → j < 2 * l → get_or s (w + j) 0 ≡ get_or (part s₀ w (2 * l)) j 0
  unread w c h = go c ∙ sym (part_at s₀ w (2 * l) j h)
    where
      go : Clear l o w → get_or s (w + j) 0 ≡ get_or s₀ (w + j) 0
      go (inl e) = laid.rest (w + j) (inr (omega arith))
      go (inr (inl lo)) = laid.rest (w + j) (inr (omega arith))
      go (inr (inr hi)) = laid.rest (w + j) (inl (omega arith))

  pub place_more : j < 2 * l → Laid s₀ (set s (o + j) (bit_xor (get_or s (p + j) 0) (get_or s (q + j) 0))) o (2 * l) (product_word l s₀ p q) (j + 1)
  place_more h =
      laid_more s₀ s o (2 * l) (product_word l s₀ p q) j laid pre.o_in h
      (ap₂ bit_xor (unread p pre.p_clear h) (unread q pre.q_clear h) ∙ sym (xor_words_at (part s₀ p (2 * l)) (part s₀ q (2 * l)) j))

  pub place_all : 2 * l ≤ j → StoredWord l s₀ p q o s
  place_all h =
      let np = part_length s₀ p (2 * l) pre.p_in in
      laid_all s₀ s o (2 * l) (product_word l s₀ p q) j laid pre.o_in h
      (xor_words_length _ _ (np ∙ sym (part_length s₀ q (2 * l) pre.q_in)) ∙ np)
