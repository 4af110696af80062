-- Whether F carries one axis to another: the image is worked out behind the limit, and compared. Assumes nothing.
use Rattle.std.specs.Prelude.{◌≡◌, Bool, true, ℕ, ◌+◌, ◌*◌, ◌≤◌, ◌<◌, length}
use Rattle.std.proofs.Math.Path.{sym, ap}
use Rattle.std.proofs.Common.{◌∙◌, arith}
use mathlib.Core.List.{List}
use Rattle.store.specs.Equal.{same_list, same_true}
use Rattle.model.specs.Words.{Value, word_of}
use Rattle.model.specs.Clifford.{Touched, word_image}
use Rattle.layout.specs.declared.Shape.{Shape}
use Rattle.layout.specs.Words.{axis_place, scratch_place}
use Rattle.axes.specs.View.{word_at, axes_of}
use Rattle.clifford.specs.Holds.{axis_in}
use Rattle.carrying.specs.Letters.{axis_word, AxisHeld, axis_behind, CarryAt, WordCarried}
use Rattle.carrying.specs.Scratch.{scratch_value}

-- both are axes
pub record CarriesAt (z : Shape) (a id : ℕ) (ws xs : List ℕ) (t : Touched) : Type 0 where
  pub carry : CarryAt z a ws xs t
  pub other : AxisHeld z id ws xs t

module _ {z : Shape} {a id : ℕ} {ws xs : List ℕ} {t : Touched} (h : CarriesAt z a id ws xs t) {ws₁ : List ℕ} {phase : ℕ}
    (word : WordCarried z a ws t ws₁ phase) where
  -- the axis is there
  pub axis_there : axis_place z.l id + 2 * z.l ≤ length ws₁
  axis_there = omega (arith, h.other.at.granted.words_long, word.words.long, axis_in h.other.at.holds h.other.id_in)

  pub carries_told : {at : ℕ} {p q : List ℕ} {r : Bool} → at ≡ scratch_place z.limit → p ≡ word_at z.l ws₁ at
      → ((n : ℕ) → id < n → q ≡ word_of (axes_of z.l n ws₁) id) → r ≡ same_list p q → r ≡ true
      → (word_image z.l t.held (axis_word a t)).word ≡ axis_word id t
  unfolding scratch_value
  carries_told {p = p} {q} place first second said e =
      let now = axis_behind h.other word.words in
      sym (ap (λ (v : Value). v.word) word.value) ∙ sym (first ∙ ap (word_at z.l ws₁) place) ∙ same_true p q (sym said ∙ e)
      ∙ second now.axes now.id_in
      ∙ ap (λ (axes : List (List ℕ)). word_of axes id) now.at.holds.axes.are
