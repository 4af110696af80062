-- The axes in the word store, id at `axisPlace l id`: `axesOf l n s` is the model's list of the first n. Assumes nothing.
use Rattle.std.specs.Prelude.{◌≡◌, Bool, List, [], ◌∷◌, ◌++◌, ℕ, ◌+◌, ◌*◌, ◌/◌, ◌≤◌, ◌<◌, length}
use Rattle.std.proofs.Common.{ap, ap₂, ◌∙◌, inl, mul-div_cancel, arith}
use Rattle.store.specs.Part.{part, put, part_length}
use Rattle.store.specs.Chunk.{chunks, chunks_length, chunks_at, chunks_put, chunks_ext, chunk_in}
use Rattle.pauli.specs.Word.{anticommutes}
use Rattle.model.specs.Words.{word_of, anticommute}
use Rattle.layout.specs.Words.{axis_place, OnlyWords, words_part}

unfoldable pub axes_of : ℕ → ℕ → List ℕ → List (List ℕ)
axes_of l n s = chunks (2 * l) n s

-- the word at a place
abbrev pub word_at : ℕ → List ℕ → ℕ → List ℕ
word_at l s b = part s b (2 * l)

pub axes_length : (l n : ℕ) (s : List ℕ) → length (axes_of l n s) ≡ n
unfolding axes_of
axes_length l n s = chunks_length (2 * l) n s

pub axis_word : (l n : ℕ) (s : List ℕ) (a : ℕ) → a < n → word_of (axes_of l n s) a ≡ word_at l s (axis_place l a)
unfolding axes_of
axis_word l n s a h = chunks_at (2 * l) n s a h

-- 01: "`Axes::len` .. is the number of stored axes": the words of width l in a slice that ends with them
unfoldable pub axes_in : ℕ → List ℕ → ℕ
axes_in l s = length s / (2 * l)

-- a slice that ends where n axes end has n
pub axes_in_lem : (l n : ℕ) (s : List ℕ) → 0 < l → length s ≡ axis_place l n → axes_in l s ≡ n
unfolding axes_in
axes_in_lem l n s h e = ap (λ (k : ℕ). k / (2 * l)) e ∙ mul-div_cancel n (omega arith)

-- what the code reads as axis a is as long as a word
pub read_long : (l : ℕ) (s : List ℕ) (a : ℕ) {p : List ℕ} → ((n : ℕ) → a < n → p ≡ word_of (axes_of l n s) a)
    → axis_place l a + 2 * l ≤ length s → length p ≡ 2 * l
read_long l s a f h =
    let b : a < a + 1 = omega arith in
    ap length (f (a + 1) b ∙ axis_word l (a + 1) s a b) ∙ part_length s (axis_place l a) (2 * l) h

-- what the code says of the words that it read as axes a and b
pub read_anticommute : (l : ℕ) (axes : List (List ℕ)) (a b : ℕ) {r : Bool} {p q : List ℕ} → r ≡ anticommutes l p q
    → p ≡ word_of axes a → q ≡ word_of axes b → r ≡ anticommute l axes a b
unfolding anticommute
read_anticommute l axes a b e f g = e ∙ ap₂ (anticommutes l) f g

-- ---- growth

-- a word laid behind the last axis
pub axes_put : (l n : ℕ) (s w : List ℕ) → axis_place l n + 2 * l ≤ length s → length w ≡ 2 * l
    → axes_of l (n + 1) (put s (axis_place l n) w) ≡ axes_of l n s ++ (w ∷ [])
unfolding axes_of
axes_put l n s w h e = chunks_put (2 * l) n s w h e

-- ---- what is written behind the axes leaves them

-- the axes, which end before
pub axes_words : {a b : ℕ} {s t : List ℕ} → OnlyWords a b s t → (l n : ℕ) → axis_place l n ≤ a → axis_place l n ≤ length s
    → axes_of l n t ≡ axes_of l n s
unfolding axes_of
axes_words {s = s} {t} x l n h k =
    chunks_ext (2 * l) n t s (λ i c. words_part x (i * (2 * l)) (2 * l) (omega (arith, chunk_in (2 * l) n i c))
    (inl (omega (arith, chunk_in (2 * l) n i c))))
