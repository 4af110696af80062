-- The stored axes as the effect's words: lists of exactly 2 l numbers. Assumes nothing.
use Rattle.std.specs.Prelude.{◌≡◌, false, List, ℕ, ◌*◌, length}
use Rattle.std.proofs.Math.Path.{refl}
use Rattle.std.proofs.Common.{◌∙◌, ap}
use Rattle.std.proofs.Math.Decide.{ℕ_discrete}
use Rattle.pauli.specs.Word.{symplectic}
use Rattle.pauli.specs.Word.{identity as identity_word}
use Rattle.pauli.specs.LetterLaws.{identity_length}
use Rattle.pauli.specs.ProductLaws.{anticommutes_none}
use Rattle.effect.specs.Phase.{odd}
use Rattle.effect.specs.Packed.{Packed, packed_ext, one, phase4}
use Rattle.effect.proofs.Bridge.{odd_anticommutes}

module _ (l : ℕ) where
  abbrev as_packed : (w : List ℕ) → Dec (length w ≡ 2 * l) → Packed l
  as_packed w (yes h) = (w, h)
  as_packed w (no h) = one l

  -- a list of numbers as a word: one of another length, which no store holds, stands for the identity
  unfoldable pub packed_word : List ℕ → Packed l
  packed_word w = as_packed w (ℕ_discrete (length w) (2 * l))

  pub packed_word_is : (w : List ℕ) (h : length w ≡ 2 * l) → packed_word w ≡ (w, h)
  unfolding packed_word
  packed_word_is w h = go (ℕ_discrete (length w) (2 * l))
    where
      go : (d : Dec (length w ≡ 2 * l)) → as_packed w d ≡ (w, h)
      go (yes k) = packed_ext l (w, k) (w, h) refl
      go (no k) = absurd (k h)

  pub packed_word_identity : packed_word (identity_word l) ≡ one l
  packed_word_identity = packed_word_is (identity_word l) (identity_length l)

  pub packed_word_own : (P : Packed l) → packed_word P.0 ≡ P
  packed_word_own P = packed_word_is P.0 P.1

  -- words that commute
  pub packed_commute : (v w : List ℕ) → length v ≡ 2 * l → length w ≡ 2 * l → symplectic l v w ≡ 0
      → odd (phase4 l (packed_word v) (packed_word w)) ≡ false
  packed_commute v w hv hw e =
      ap (λ (P : Packed l). odd (phase4 l P (packed_word w))) (packed_word_is v hv) ∙ ap (λ (P : Packed l). odd (phase4 l (v, hv) P))
      (packed_word_is w hw)
      ∙ odd_anticommutes l (v, hv) (w, hw) ∙ anticommutes_none l v w e
