-- A word that commutes with a product word is no factor of it, so its row adds nothing to that word's sum. Assumes nothing.
use Rattle.std.specs.Prelude.{◌≡◌, refl, Bool, true, false, not, List, ℕ, ◌<◌, ℤ, pos}
use Rattle.std.specs.Bool.{beq}
use Rattle.std.proofs.Common.{sym, ap, ◌∙◌, arith}
use Rattle.std.proofs.lemmas.Bool.{false≢true}
use Rattle.store.specs.Equal.{same_list, same_true}
use Rattle.pauli.specs.Word.{xor_words, anticommutes}
use Rattle.pauli.specs.ProductLaws.{symplectic_self, symplectic_xor, anticommutes_true, anticommutes_false, anticommutes_one}
use Rattle.pauli.specs.ProductLaws.{anticommutes_none}
use Rattle.model.specs.Words.{word_of, anticommute}
use Rattle.model.specs.Items.{Rot}
use Rattle.model.specs.Exchange.{term_of}
use Rattle.theory.specs.Cases.{on_if}
use Rattle.items.specs.declared.Tagged.{Tagged}
use Rattle.items.specs.View.{rot_said}
use Rattle.axes.specs.declared.Sizes.{Sizes}
use Rattle.axes.specs.Held.{stored_axes}
use Rattle.certificate.specs.declared.Group.{Group}
use Rattle.certificate.specs.Sums.{share, pair_share, row_zero}
use Rattle.certificate.specs.Terms.{product_of}
use Rattle.certificate.specs.Turns.{RowPre, row_to, row_sum}

-- axis x anticommutes with the product word of axes pa and qa
abbrev pub meets_word : Sizes → List ℕ → ℕ → ℕ → ℕ → Bool
meets_word z ws x pa qa = anticommutes z.l (word_of (stored_axes z ws) x) (product_of z ws pa qa)

-- three axes that are stored
pub record MeetsPre (z : Sizes) (x pa qa : ℕ) : Type 0 where
  pub x_in : x < z.axes
  pub p_in : pa < z.axes
  pub q_in : qa < z.axes

-- ---- words

-- w anticommutes with a product exactly if with one of both and not with the other
meets_both : (l : ℕ) (w p q : List ℕ) (a b : Bool) → anticommutes l w p ≡ a → anticommutes l w q ≡ b
    → not (beq a b) ≡ anticommutes l w (xor_words p q)
meets_both l w p q true true e f =
    sym (anticommutes_none l w (xor_words p q)
    (omega (arith, symplectic_xor l w p q, anticommutes_true l w p e, anticommutes_true l w q f)))
meets_both l w p q true false e f =
    sym (anticommutes_one l w (xor_words p q)
    (omega (arith, symplectic_xor l w p q, anticommutes_true l w p e, anticommutes_false l w q f)))
meets_both l w p q false true e f =
    sym (anticommutes_one l w (xor_words p q)
    (omega (arith, symplectic_xor l w p q, anticommutes_false l w p e, anticommutes_true l w q f)))
meets_both l w p q false false e f =
    sym (anticommutes_none l w (xor_words p q)
    (omega (arith, symplectic_xor l w p q, anticommutes_false l w p e, anticommutes_false l w q f)))

-- a word anticommutes with its product with q exactly if with q
pub own_product : (l : ℕ) (p q : List ℕ) → anticommutes l p (xor_words p q) ≡ anticommutes l p q
own_product l p q =
    sym (meets_both l p p q false (anticommutes l p q) (anticommutes_none l p p (symplectic_self l p)) refl) ∙ same (anticommutes l p q)
  where
    same : (b : Bool) → not (beq false b) ≡ b
    same true = refl
    same false = refl

-- ---- axes

pub word_meets : (z : Sizes) (ws : List ℕ) (x pa qa : ℕ) {r s : Bool} → r ≡ anticommute z.l (stored_axes z ws) x pa
    → s ≡ anticommute z.l (stored_axes z ws) x qa → not (beq r s) ≡ meets_word z ws x pa qa
unfolding anticommute
word_meets z ws x pa qa {r} {s} first second =
    meets_both z.l (word_of (stored_axes z ws) x) (word_of (stored_axes z ws) pa) (word_of (stored_axes z ws) qa) r s (sym first) (sym second)

-- ---- rows

-- a commutes with w: it adds nothing with any b
pair_none : (l : ℕ) (axes : List (List ℕ)) (w : List ℕ) (a b : Rot) → anticommutes l (word_of axes a.axis) w ≡ false
    → pair_share l axes w a b ≡ pos 0
unfolding pair_share share term_of anticommute
pair_none l axes w a b e =
    on_if (λ (v : ℤ). v ≡ pos 0) _ _ (pos 0) (λ d. on_if (λ (v : ℤ). v ≡ pos 0) _ _ (pos 0) (λ s. absurd (never d s)) (λ s. refl)) (λ d. refl)
  where
    never : anticommutes l (word_of axes a.axis) (word_of axes b.axis) ≡ true
        → same_list (xor_words (word_of axes a.axis) (word_of axes b.axis)) w ≡ true → ⊥
    never d s =
        false≢true (sym e ∙ ap (anticommutes l (word_of axes a.axis)) (sym (same_true _ w s))
        ∙ own_product l (word_of axes a.axis) (word_of axes b.axis) ∙ d)

-- what asking it of a row's rotation demands
pub share_meets : {z : Sizes} {xs : List ℕ} {x : Tagged} {b : Group} {pa qa : ℕ} → RowPre z xs x b pa qa → MeetsPre z x.axis pa qa
unfolding rot_said
share_meets h = record { x_in = h.first.axis_in; p_in = h.p_in; q_in = h.q_in }

-- r commutes with the product word: its row adds nothing
pub share_none : (z : Sizes) (ws xs : List ℕ) (x : Tagged) (b : Group) (pa qa : ℕ) {m : Bool} → m ≡ meets_word z ws x.axis pa qa → m ≡ false
    → pos 0 ≡ row_sum z ws xs (rot_said x) b pa qa
unfolding row_to rot_said
share_none z ws xs x b pa qa e f =
    sym (row_zero z.l (stored_axes z ws) (product_of z ws pa qa) (rot_said x) _
    (λ y. pair_none z.l (stored_axes z ws) (product_of z ws pa qa) (rot_said x) y (sym e ∙ f)))
