-- The scratch word, behind which letters and images are multiplied: the model's `multiply`. Assumes nothing.
use Rattle.std.specs.Prelude.{◌≡◌, ◌⊎◌, ℕ, ◌+◌, ◌*◌, ◌%◌, ◌≤◌, ◌<◌, get_or}
use Rattle.std.proofs.Math.Path.{refl, ap, ap₂}
use Rattle.std.proofs.Common.{sym, ◌∙◌, inl, inr}
use mathlib.Core.List.{List}
use native.Mathlib.Omega.{arith}
use Rattle.std.proofs.Math.ListN.{length}
use Rattle.store.specs.Part.{put, Apart, part_length, part_put_same, part_put_apart, put_length}
use Rattle.store.specs.Row.{row}
use Rattle.pauli.specs.Word.{xor_words, phase}
use Rattle.pauli.specs.Letter.{single}
use Rattle.pauli.specs.LetterLaws.{single_length}
use Rattle.pauli.specs.ProductLaws.{xor_words_length}
use Rattle.product.specs.Product.{StoredPre, StoredProduct}
use Rattle.model.specs.Words.{Value, as_value, multiply}
use Rattle.layout.specs.declared.Shape.{Shape}
use Rattle.layout.specs.Rows.{f_phase}
use Rattle.layout.specs.Words.{slot_place, scratch_place, slot_ends, OnlyWords, words_then, words_put}
use Rattle.axes.specs.View.{word_at}
use Rattle.words_wellformed.specs.Conjugation.{value_eq}
use Rattle.clifford.specs.Holds.{image_in, mask_place}
use Rattle.clifford.specs.Images.{ImageThere}

-- ---- the scratch word

-- its value, with the phase that the code carries
unfoldable pub scratch_value : Shape → List ℕ → ℕ → Value
scratch_value z ws e = record { turns = e; word = word_at z.l ws (scratch_place z.limit) }

pub record TimesPre (z : Shape) (ws : List ℕ) : Type 0 where
  pub words_long : z.limit + 16 * z.l ≤ length ws
  pub limit : z.limit ≤ 1048576
  pub few : z.l ≤ 64

-- v is multiplied behind it
pub record ScratchTimes (z : Shape) (e : ℕ) (ws : List ℕ) (v : Value) (ws' : List ℕ) (r : ℕ) : Type 0 where
  pub small : r < 4
  pub value : scratch_value z ws' r ≡ multiply z.l (scratch_value z ws e) v
  pub words : OnlyWords z.limit (mask_place z) ws ws'

module _ {z : Shape} {ws : List ℕ} (pre : TimesPre z ws) {o : ℕ} (scratch : o ≡ scratch_place z.limit) where
  scratch_in : o + 2 * z.l ≤ length ws
  scratch_in = omega (arith, pre.words_long)

  -- the word at p is not the scratch word
  pub times_stored : (p : ℕ) → p + 2 * z.l ≤ length ws → (p + 2 * z.l ≤ z.limit) ⊎ (z.limit + 2 * z.l ≤ p) → StoredPre z.l ws o p o
  times_stored p h a = record {
    p_in = scratch_in;
    q_in = h;
    o_in = scratch_in;
    p_clear = inl refl;
    q_clear = inr (go a);
  }
    where
      go : (p + 2 * z.l ≤ z.limit) ⊎ (z.limit + 2 * z.l ≤ p) → Apart o (2 * z.l) p (2 * z.l)
      go (inl b) = inr (omega arith)
      go (inr b) = inl (omega arith)

  -- the product
  pub times_value : (e t : ℕ) {p f r : ℕ} {ws' : List ℕ} → p + 2 * z.l ≤ length ws → StoredProduct z.l ws o p o ws' f
      → r ≡ (e + t + f) % 4
      → scratch_value z ws' r ≡ multiply z.l (scratch_value z ws e) (record { turns = t; word = word_at z.l ws p })
  unfolding scratch_value multiply
  times_value e t {p} h s g =
      value_eq (g ∙ ap (λ (x : ℕ). (e + t + x) % 4)
      (s.phased.turns ∙ ap (λ (x : ℕ). phase z.l (word_at z.l ws x) (word_at z.l ws p)) scratch))
      (ap (λ (x : List ℕ). word_at z.l x (scratch_place z.limit)) s.store
      ∙ ap (λ (x : ℕ). word_at z.l (put ws o (xor_words (word_at z.l ws o) (word_at z.l ws p))) x) (sym scratch)
      ∙ part_put_same ws o (2 * z.l) (xor_words (word_at z.l ws o) (word_at z.l ws p)) scratch_in long
      ∙ ap (λ (x : ℕ). xor_words (word_at z.l ws x) (word_at z.l ws p)) scratch)
    where
      o_long : length (word_at z.l ws o) ≡ 2 * z.l
      o_long = part_length ws o (2 * z.l) scratch_in

      long : length (xor_words (word_at z.l ws o) (word_at z.l ws p)) ≡ 2 * z.l
      long = xor_words_length _ _ (o_long ∙ sym (part_length ws p (2 * z.l) h)) ∙ o_long

  pub times_words : {p f : ℕ} {ws' : List ℕ} → p + 2 * z.l ≤ length ws → StoredProduct z.l ws o p o ws' f
      → OnlyWords z.limit (mask_place z) ws ws'
  times_words {p} h s =
      let o_long = part_length ws o (2 * z.l) scratch_in in
      let long : length (xor_words (word_at z.l ws o) (word_at z.l ws p)) ≡ 2 * z.l
      = xor_words_length _ _ (o_long ∙ sym (part_length ws p (2 * z.l) h)) ∙ o_long in
      rw s.store (words_put z.limit (mask_place z) ws o _ (omega arith) (omega (arith, long)) (omega (arith, long, scratch_in)))

-- ---- a letter by itself

module _ {z : Shape} {ws : List ℕ} {o q : ℕ} (pre : TimesPre z ws) (inside : q < 64 * z.l) (scratch : o ≡ scratch_place z.limit)
    (c : ℕ) {ws₁ : List ℕ} (laid : ws₁ ≡ put ws (o + 2 * z.l) (single z.l q c)) where
  c_long : length (single z.l q c) ≡ 2 * z.l
  c_long = single_length z.l q c inside

  same_long : length ws₁ ≡ length ws
  same_long = ap length laid ∙ put_length ws (o + 2 * z.l) (single z.l q c) (omega (arith, pre.words_long, c_long))

  pub own_times : TimesPre z ws₁
  own_times = record { words_long = omega (arith, pre.words_long, same_long); limit = pre.limit; few = pre.few }

  pub own_stored : StoredPre z.l ws₁ o (o + 2 * z.l) o
  own_stored = times_stored own_times scratch (o + 2 * z.l) (omega (arith, own_times.words_long)) (inr (omega arith))

  own_word : word_at z.l ws₁ (o + 2 * z.l) ≡ single z.l q c
  own_word =
      ap (λ (x : List ℕ). word_at z.l x (o + 2 * z.l)) laid
      ∙ part_put_same ws (o + 2 * z.l) (2 * z.l) (single z.l q c) (omega (arith, pre.words_long)) c_long

  own_words : OnlyWords z.limit (mask_place z) ws ws₁
  own_words =
      rw laid (words_put z.limit (mask_place z) ws (o + 2 * z.l) (single z.l q c) (omega arith) (omega (arith, c_long))
      (omega (arith, c_long, pre.words_long)))

  same_scratch : (e : ℕ) → scratch_value z ws₁ e ≡ scratch_value z ws e
  unfolding scratch_value
  same_scratch e =
      value_eq refl (ap (λ (x : List ℕ). word_at z.l x (scratch_place z.limit)) laid
      ∙ part_put_apart ws (o + 2 * z.l) (single z.l q c) (scratch_place z.limit) (2 * z.l) (omega (arith, c_long, pre.words_long))
      (omega (arith, pre.words_long)) (inr (omega arith)))

  pub own_multiplied : {ws' : List ℕ} (e : ℕ) {f : ℕ} → StoredProduct z.l ws₁ o (o + 2 * z.l) o ws' f
      → ScratchTimes z e ws (as_value (single z.l q c)) ws' ((e + f) % 4)
  own_multiplied e {f} s =
      let h : o + 2 * z.l + 2 * z.l ≤ length ws₁ = omega (arith, own_times.words_long) in
      record {
        small = omega arith;
        value =
            times_value own_times scratch e 0 h s (let g : (e + f) % 4 ≡ (e + 0 + f) % 4 = omega arith in g)
            ∙ ap₂ (λ (u : Value) (w : List ℕ). multiply z.l u (record { turns = 0; word = w })) (same_scratch e) own_word;
        words = words_then own_words (times_words own_times scratch h s);
      }

-- ---- an image

module _ {z : Shape} {i : ℕ} {ws xs : List ℕ} {o a : ℕ} (pre : TimesPre z ws) (there : ImageThere z i xs)
    (scratch : o ≡ scratch_place z.limit) (place : a ≡ slot_place z.limit z.l i) where
  image_ends : a + 2 * z.l ≤ z.limit
  image_ends = omega (arith, slot_ends z.limit z.l i there.slot)

  pub image_stored : StoredPre z.l ws o a o
  image_stored = times_stored pre scratch a (omega (arith, image_ends, pre.words_long)) (inl image_ends)

  pub image_multiplied : {ws' : List ℕ} {e f t : ℕ} → t ≡ get_or (row xs z.u f_phase) i 0 → StoredProduct z.l ws o a o ws' f
      → ScratchTimes z e ws (image_in z ws xs i) ws' ((e + t % 4 + f) % 4)
  unfolding image_in
  image_multiplied {e = e} {f} {t} k s =
      let h : a + 2 * z.l ≤ length ws = omega (arith, image_ends, pre.words_long) in
      record {
        small = omega arith;
        value =
            times_value pre scratch e t h s (let g : (e + t % 4 + f) % 4 ≡ (e + t + f) % 4 = omega arith in g)
            ∙ ap₂ (λ (x p : ℕ). multiply z.l (scratch_value z ws e) (record { turns = x; word = word_at z.l ws p })) k place;
        words = times_words pre scratch h s;
      }
