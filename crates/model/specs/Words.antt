-- 01, "words.rs": words with a phase, the qubits that a word acts on, and the stored axes. Words are in the crate pauli. Assumes nothing.
use Rattle.std.specs.Prelude.{Bool, ℕ, zero, suc, ◌+◌, ◌*◌, ◌/◌, ◌%◌, max, ltb, length, get_or}
use mathlib.Core.List.{List, [], ◌∷◌, ◌++◌, map, flatten}
use Rattle.std.specs.Int.Bits.{bit_or}
use Rattle.store.specs.Equal.{same_list}
use Rattle.pauli.specs.Word.{x_word, z_word, xor_words, phase, anticommutes}
use Rattle.model.specs.Lists.{when◌then◌else◌, numbers_from, is_odd}

-- ---- values

-- i ^ turns times the word
pub record Value : Type 0 where
  pub turns : ℕ
  pub word : List ℕ

abbrev pub as_value : List ℕ → Value
as_value w = record { turns = 0; word = w }

-- i ^ k times a value
unfoldable pub scaled : ℕ → Value → Value
scaled k v = record { turns = (v.turns + k) % 4; word = v.word }

-- "PQ = i^e R, R the exclusive or"
unfoldable pub multiply : ℕ → Value → Value → Value
multiply l p q = record {
  turns = (p.turns + q.turns + phase l p.word q.word) % 4;
  word = xor_words p.word q.word;
}

-- ---- the qubits with a letter other than I, rising

-- the set bits among the first k digits of n, the lowest of which is qubit q's
unfoldable pub set_bits : ℕ → ℕ → ℕ → List ℕ
set_bits zero q n = []
set_bits (suc k) q zero = []
set_bits (suc k) q (suc n) = let rest = set_bits k (suc q) (suc n / 2) in when is_odd (suc n) then q ∷ rest else rest

-- "qubit q is bit q mod 64 of word q div 64": the x-word and the z-word of each place together
unfoldable pub support : ℕ → List ℕ → List ℕ
support l w = flatten (map (λ j. set_bits 64 (64 * j) (bit_or (x_word w j) (z_word l w j))) (numbers_from 0 l))

-- ---- axes: "ids, given in order of first storing"

-- a word's id is its first place among the axes; for a word that is not stored, the id that it would get
unfoldable pub id_of : List (List ℕ) → List ℕ → ℕ
id_of [] w = 0
id_of (a ∷ axes) w = when same_list a w then 0 else suc (id_of axes w)

abbrev pub word_of : List (List ℕ) → ℕ → List ℕ
word_of axes a = get_or axes a []

-- whether two axes anticommute
unfoldable pub anticommute : ℕ → List (List ℕ) → ℕ → ℕ → Bool
anticommute l axes a b = anticommutes l (word_of axes a) (word_of axes b)

-- the axes stored, and the largest word sum tested so far
pub record Store : Type 0 where
  pub axes : List (List ℕ)
  pub peak : ℕ

-- a word sum is tested against the limit
unfoldable pub tested : ℕ → Store → Store
tested sum st = record { axes = st.axes; peak = max st.peak sum }

-- "stored + 2l + all slot words (packing) or images (a pass)" is tested. "A word already stored is never refused."
unfoldable pub intern : ℕ → ℕ → Store → List ℕ → Store
intern l others st w =
    when ltb (id_of st.axes w) (length st.axes) then st else
    record { axes = st.axes ++ (w ∷ []); peak = max st.peak (length st.axes * (2 * l) + 2 * l + others) }
