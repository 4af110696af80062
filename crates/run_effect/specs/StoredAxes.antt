-- Stored axes are words as the exchange and the layering ask. Assumes nothing.
use Rattle.std.specs.Prelude.{◌≡◌, true, ℕ, ◌<◌, length}
use Rattle.std.proofs.Common.{sym, ◌∙◌, ap, subst}
use Rattle.std.proofs.Math.Path.{ap₂}
use mathlib.Core.List.{List}
use Rattle.store.specs.Equal.{same_list, same_true, same_refl}
use Rattle.pauli.specs.Word.{xor_words, phase}
use Rattle.model.specs.Words.{word_of}
use Rattle.words_wellformed.specs.StoredWords.{StoredWords}
use Rattle.effect.specs.Phase.{quarter}
use Rattle.effect.specs.Packed.{Packed, packed_ext, mul, phase4, packed}
use Rattle.items_effect.specs.AxisWords.{AxisWords, SamePhases, SameProducts, from_phases, from_phases_word}
use Rattle.packing_effect.specs.Source.{axis_word}
use Rattle.stream_effect.specs.PackedAxes.{packed_word, packed_word_is}

module _ (l : ℕ) (axes : List (List ℕ)) (stored : StoredWords l axes) where
  abbrev word : ℕ → Packed l
  word a = axis_word (packed_word l) axes a

  word_is : (a : ℕ) → a < length axes → (word a).0 ≡ word_of axes a
  word_is a h = ap (λ (P : Packed l). P.0) (packed_word_is l (word_of axes a) (stored.words a h).long)

  phases : SamePhases (packed l) l axes word
  unfolding phase4
  phases a b ha hb = ap₂ (λ (v w : List ℕ). quarter (phase l v w)) (word_is a ha) (word_is b hb)

  products : SameProducts (packed l) l axes word
  products a b c d ha hb hc hd = (
    λ e. packed_ext l (mul l (word a) (word b)) (mul l (word c) (word d)) (left ∙ same_true _ _ e ∙ sym right),
    λ e. subst (λ (v : List ℕ). same_list (xor_words (word_of axes a) (word_of axes b)) v ≡ true)
        (sym left ∙ ap (λ (P : Packed l). P.0) e ∙ right) (same_refl (xor_words (word_of axes a) (word_of axes b))),
  )
    where
      left : xor_words (word a).0 (word b).0 ≡ xor_words (word_of axes a) (word_of axes b)
      left = ap₂ xor_words (word_is a ha) (word_is b hb)

      right : xor_words (word c).0 (word d).0 ≡ xor_words (word_of axes c) (word_of axes d)
      right = ap₂ xor_words (word_is c hc) (word_is d hd)

  pub stored_axes : AxisWords (packed l) l axes
  stored_axes = from_phases (packed l) l axes word phases products

  -- their words are those of the stream
  pub stored_axes_word : stored_axes.word ≡ word
  unfolding stored_axes
  stored_axes_word = from_phases_word (packed l) l axes word phases products
