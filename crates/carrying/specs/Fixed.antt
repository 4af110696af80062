-- A word on qubits that are not touched is its own image. Assumes nothing.
use Rattle.std.specs.Prelude.{◌≡◌, refl, Bool, true, false, length, List, [], ◌∷◌, ℕ, ◌+◌, ◌*◌, ◌/◌, ◌%◌, ◌<◌, get_or}
use Rattle.std.proofs.Common.{sym, ap, ◌∙◌, subst, arith}
use Rattle.std.specs.Bool.{MatchBool}
use Rattle.std.specs.List.{AllWithin, range_with_len}
use Rattle.std.proofs.lemmas.Bool.{false≢true}
use Rattle.std.proofs.lemmas.List.FromFn.{get_or-range_with_len, length-range_with_len}
use Rattle.std.proofs.Math.Decide.{ℕ_discrete}
use Rattle.std.specs.Int.Bits.{bit_or, bit_and}
use Rattle.bits.specs.Bit.{bit, bit_bit_and, zero_bit}
use Rattle.pauli.specs.Word.{x_word, z_word, IsWord, identity}
use Rattle.pauli.specs.Letter.{letter_at, acts}
use Rattle.pauli.specs.LetterLaws.{acts_bit}
use Rattle.model.specs.Words.{Value, as_value, multiply, support}
use Rattle.model.specs.Clifford.{Images, Touched, letter_image, multiply_images, word_image}
use Rattle.theory.specs.Every.{Every}
use Rattle.layout.specs.declared.Shape.{Shape}
use Rattle.layout.specs.Words.{axis_place}
use Rattle.words_wellformed.specs.Inside.{inside_acts}
use Rattle.words_wellformed.specs.Carrying.{word_image_none}
use Rattle.words_wellformed.specs.SupportQubits.{support_all}
use Rattle.clifford_states.specs.Slots.{slot_of, letter_free}
use Rattle.clifford.specs.Holds.{mask_place, mask_number, axis_number}
use Rattle.carrying.specs.Letters.{axis_word, CarryAt}

-- the first n numbers of the word at a place have no bit where the mask has one
pub record NoneMarked (l : ℕ) (ws : List ℕ) (at mask n : ℕ) : Type 0 where
  pub none : (j : ℕ) → j < n → bit_and (bit_or (get_or ws (at + j) 0) (get_or ws (at + (l + j)) 0)) (get_or ws (mask + j) 0) ≡ 0

-- number j of them has none
abbrev pub Unmarked : ℕ → List ℕ → ℕ → ℕ → ℕ → Type 0
Unmarked l ws at mask j = bit_and (bit_or (get_or ws (at + j) 0) (get_or ws (at + (l + j)) 0)) (get_or ws (mask + j) 0) ≡ 0

-- by what is found of each
pub none_found : {l : ℕ} {ws : List ℕ} {at mask : ℕ} (r : Bool) (Q : Type 0)
    → MatchBool r (AllWithin (Unmarked l ws at mask) (range_with_len 0 l) 0 (length (range_with_len 0 l))) Q
    → r ≡ true → NoneMarked l ws at mask l
none_found {l} {ws} {at} {mask} true Q h e = record {
  none = λ j b.
      subst (Unmarked l ws at mask) (get_or-range_with_len 0 l j 0 b ∙ (let e : 0 + j ≡ j = omega arith in e))
      (h j 0 (omega arith) (omega (arith, length-range_with_len 0 l)));
}
none_found false Q h e = absurd (false≢true e)

-- the images of qubits that are not held
multiply_free : (l : ℕ) (held : List Images) (w : List ℕ) (v : Value) (qs : List ℕ) → Every (λ q. slot_of q held ≡ 0) qs
    → multiply_images l held w v qs ≡ multiply_images l [] w v qs
unfolding multiply_images letter_image
multiply_free l held w v [] h = refl
multiply_free l held w v (q ∷ qs) h =
    ap (λ (x : Value). multiply_images l held w (multiply l v x) qs) (letter_free l 0 held q (letter_at l w q) h.0)
    ∙ multiply_free l held w (multiply l v (letter_image l [] q (letter_at l w q))) qs h.1

-- a bit of both
shared_bit : (x y t : ℕ) → bit_and x y ≡ 0 → bit x t ≡ 1 → bit y t ≡ 1 → ⊥
shared_bit x y t e f g = omega (arith, sym (bit_bit_and x y t) ∙ ap (λ (n : ℕ). bit n t) e ∙ zero_bit t)

-- F leaves the axis
pub fixed_image : {z : Shape} {id a : ℕ} {ws xs : List ℕ} {t : Touched} → CarryAt z id ws xs t → IsWord z.l (axis_word id t)
    → a ≡ axis_place z.l id → NoneMarked z.l ws a (mask_place z) z.l
    → word_image z.l t.held (axis_word id t) ≡ as_value (axis_word id t)
unfolding word_image
fixed_image {z} {id} {a} {ws} {xs} {t} h word place k =
    multiply_free z.l t.held (axis_word id t) (as_value (identity z.l)) (support z.l (axis_word id t)) free
    ∙ word_image_none z.l (axis_word id t) word
  where
    apart : (q : ℕ) → q < 64 * z.l → acts z.l (axis_word id t) q ≡ 1 → Dec (slot_of q t.held ≡ 0) → slot_of q t.held ≡ 0
    apart q b act (yes e) = e
    apart q b act (no n) =
        let j = q / 64 in
        let e : 64 * (q / 64) + q % 64 ≡ q = omega arith in
        let less : q / 64 < z.l = omega arith in
        let f = axis_number h.held.at.holds h.held.id_in a _ (q / 64) less place refl in
        let g : bit (bit_or (x_word (axis_word id t) (q / 64)) (z_word z.l (axis_word id t) (q / 64))) (q % 64) ≡ 1
        = sym (acts_bit z.l (axis_word id t) (q / 64) (q % 64) (omega arith)) ∙ ap (acts z.l (axis_word id t)) e ∙ act in
        absurd (shared_bit _ (mask_number z ws (q / 64)) (q % 64) (k.none (q / 64) less) (ap (λ (x : ℕ). bit x (q % 64)) f ∙ g)
        (h.held.at.holds.mask q (inside_acts h.inside q b act) n))

    free : Every (λ q. slot_of q t.held ≡ 0) (support z.l (axis_word id t))
    free = support_all z.l (axis_word id t) (λ q. slot_of q t.held ≡ 0) (λ q b act. apart q b act (ℕ_discrete (slot_of q t.held) 0))
