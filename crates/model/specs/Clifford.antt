-- 01, "clifford.rs": F, the Clifford absorbed so far, as the images that it holds. Assumes nothing.
use Rattle.std.specs.Prelude.{Bool, not, List, [], ◌∷◌, ◌++◌, map, ℕ, zero, suc, ◌+◌, ◌*◌, ◌/◌, eqb, length}
use Rattle.pauli.specs.Word.{anticommutes}
use Rattle.pauli.specs.Letter.{letter_at, single}
use Rattle.model.specs.Lists.{when◌then◌else◌, any_of}
use Rattle.model.specs.Words.{Value, as_value, scaled, multiply, support, Store, tested}
use Rattle.pauli.specs.Word.{identity as identity_word}

-- the images of a qubit's X, Y and Z
pub record Images : Type 0 where
  pub qubit : ℕ
  pub x : Value
  pub y : Value
  pub z : Value

-- ---- absorbing

-- "Absorbing angle k about B changes each held image P that anticommutes with B: k = 2 gives iBP, k = -2 gives -iBP, k = 4 gives -P"
-- (-2 is 6 here, and i^3 is -i)
unfoldable pub absorb_image : ℕ → List ℕ → ℕ → Value → Value
absorb_image l b k p =
    when not (anticommutes l b p.word) then p else
    when eqb k 4 then scaled 2 p else scaled (k / 2) (multiply l (as_value b) p)

unfoldable pub absorb_images : ℕ → List ℕ → ℕ → Images → Images
absorb_images l b k h = record {
  qubit = h.qubit;
  x = absorb_image l b k h.x;
  y = absorb_image l b k h.y;
  z = absorb_image l b k h.z;
}

-- ---- touching

-- the words that the images hold
unfoldable pub image_words : ℕ → List Images → ℕ
image_words l held = length held * (6 * l)

unfoldable pub is_held : ℕ → List Images → Bool
is_held q held = any_of (λ (h : Images). eqb h.qubit q) held

-- X, Y and Z themselves
unfoldable pub own_images : ℕ → ℕ → Images
own_images l q = record { qubit = q; x = as_value (single l q 1); y = as_value (single l q 2); z = as_value (single l q 3) }

-- F, and the store that its sums are tested in
pub record Touched : Type 0 where
  pub store : Store
  pub held : List Images

-- "A first touch of a qubit counts 6 × l words": "stored + images + 6l at a touch" is tested
unfoldable pub touch : ℕ → Touched → ℕ → Touched
touch l t q =
    when is_held q t.held then t else
    record {
      store = tested (length t.store.axes * (2 * l) + image_words l t.held + 6 * l) t.store;
      held = t.held ++ (own_images l q ∷ []);
    }

unfoldable pub touch_all : ℕ → Touched → List ℕ → Touched
touch_all l t [] = t
touch_all l t (q ∷ qs) = touch_all l (touch l t q) qs

-- F takes in angle k about the word b: its qubits are touched, then the images change
unfoldable pub absorb_word : ℕ → Touched → List ℕ → ℕ → Touched
absorb_word l t b k =
    let touched = touch_all l t (support l b) in
    record { store = touched.store; held = map (absorb_images l b k) touched.held }

-- ---- carrying

-- letters X, Y, Z are 1, 2, 3
unfoldable pub image_of : ℕ → Images → Value
image_of zero h = h.x
image_of (suc zero) h = h.x
image_of (suc (suc zero)) h = h.y
image_of (suc (suc (suc c))) h = h.z

-- the image of letter c on qubit q: itself, where the qubit is not held
unfoldable pub letter_image : ℕ → List Images → ℕ → ℕ → Value
letter_image l [] q c = as_value (single l q c)
letter_image l (h ∷ held) q c = when eqb h.qubit q then image_of c h else letter_image l held q c

-- the images of the word's letters on the qubits qs, multiplied behind v
unfoldable pub multiply_images : ℕ → List Images → List ℕ → Value → List ℕ → Value
multiply_images l held w v [] = v
multiply_images l held w v (q ∷ qs) = multiply_images l held w (multiply l v (letter_image l held q (letter_at l w q))) qs

-- the word carried through F: the product of its letters' images, qubits rising
unfoldable pub word_image : ℕ → List Images → List ℕ → Value
word_image l held w = multiply_images l held w (as_value (identity_word l)) (support l w)
