-- The axis that F carries to another: what `carry` and a look at the image tell of it. Assumes nothing.
use Rattle.std.specs.Prelude.{◌≡◌, List, ℕ, ◌<◌, length}
use Rattle.std.proofs.Common.{sym, ap, ◌∙◌, arith}
use Rattle.pauli.specs.Word.{symplectic}
use Rattle.model.specs.declared.Absorption.{Absorption}
use Rattle.model.specs.Words.{word_of}
use Rattle.model.specs.Clifford.{letter_image, word_image}
use Rattle.model.specs.Stream.{Pass, axis_image, image_id, carry_axis}
use Rattle.theory.specs.Ids.{intern_grows}
use Rattle.layout.specs.declared.Shape.{Shape}
use Rattle.words_wellformed.specs.Carrying.{word_image_letter}
use Rattle.run_wellformed.specs.Waiting.{carried_word}
use Rattle.steps.specs.declared.State.{State}
use Rattle.absorbing.specs.Absorbing.{CarriesTo}
use Rattle.stream_states.specs.States.{held_of, PassAt}
use Rattle.stream_states.specs.Known.{axes_count}

-- an axis whose image has the word of axis id
pub source_known : {z : Shape} {m : Absorption} {n : ℕ} {st : State} {ws xs : List ℕ} {p : Pass} → PassAt z m n st ws xs p → (a id : ℕ)
    → a < st.axes → (word_image z.l p.held (word_of p.store.axes a)).word ≡ word_of p.store.axes id
    → CarriesTo z st.axes a id (held_of p)
source_known {z} {st = st} {p = p} h a id b e =
    let here : a < length p.store.axes = omega (arith, axes_count h.holds) in
    record {
      a_in = b;
      inside = h.fine.inside.axes.words a here;
      commute = λ q c d xyz.
          ap (λ (w : List ℕ). symplectic z.l w (letter_image z.l p.held q c).word) (sym e)
          ∙ word_image_letter z.l (Unit {0}) p.held h.fine.well.images (word_of p.store.axes a) (h.fine.well.stored.words a here) q c d xyz;
    }

-- once it is carried: F is as it was, and the image has its id
pub image_word : (l : ℕ) (p : Pass) (a : ℕ) → a < length p.store.axes
    → (word_image l (carry_axis l p a).held (word_of (carry_axis l p a).store.axes a)).word
    ≡ word_of (carry_axis l p a).store.axes (image_id l (carry_axis l p a) a)
unfolding carry_axis
image_word l p a h =
    ap (λ (w : List ℕ). (word_image l p.held w).word) ((intern_grows l _ p.store _).keeps a h)
    ∙ unfold axis_image in (sym (carried_word l p a h))
