-- 01, Exchange: two groups that the model's test passes can be exchanged. Assumes nothing.
use Rattle.std.specs.Prelude.{◌≡◌, true, false, ◌⊎◌, ℕ, ◌<◌, eqb, negsuc, ◌+ℤ◌, ◌*ℤ◌, length}
use Rattle.std.proofs.Math.Path.{refl, ap, ap₂}
use Rattle.std.proofs.Common.{sym, ◌∙◌, true≢false, eqb-true}
use Rattle.std.proofs.Math.Bool.{Bool}
use mathlib.Core.List.{List, [], ◌∷◌, ◌++◌}
use Rattle.std.proofs.Math.Logic.{inl, inr}
use Rattle.std.proofs.Math.IntN.{ℤ, pos, neg_ℤ, +ℤ_idl, neg_ℤ-+ℤ, neg_ℤ-neg_ℤ, zero-*ℤ, suc_ℤ-*ℤ, pred_ℤ-*ℤ}
use Rattle.store.specs.Equal.{same_list}
use Rattle.angle.specs.Angle.{signed_angle}
use Rattle.pauli.specs.Word.{xor_words}
use Rattle.model.specs.Lists.{when◌then◌else◌, all_of}
use Rattle.model.specs.Words.{word_of}
use Rattle.model.specs.Items.{Rot}
use Rattle.model.specs.Exchange.{Term, signed_sum, all_sums_zero, term_of, terms_with, terms, generators_commute}
use Rattle.theory.specs.Cases.{on_if, and_left, and_right}
use Rattle.theory.specs.Every.{Every}
use Rattle.effect.specs.Phase.{Quarter, q0, q1, q2, q3, odd, toℤ, σ, σ-even}
use Rattle.effect.specs.Words.{Setting}
use Rattle.effect.specs.Effect.{plain, pick}
use Rattle.effect.specs.Certificate.{row, products, weight, Balanced, Group, turns}
use Rattle.effect.proofs.Certificate.{exchange}
use Rattle.items_effect.specs.Ops.{eighth_signed, rot_ops, rot_ops_append}
use Rattle.items_effect.specs.Rotations as Rotations
use Rattle.items_effect.specs.AxisWords.{AxisWords, is_one, Sound}

-- ---- signs: the model counts PQ = iR as plus, the theory as minus

times_one : (v : ℤ) → pos 1 *ℤ v ≡ v
times_one v = suc_ℤ-*ℤ (pos 0) v ∙ ap (λ t. t +ℤ v) (zero-*ℤ v) ∙ +ℤ_idl v

times_minus : (v : ℤ) → negsuc 0 *ℤ v ≡ neg_ℤ v
times_minus v = pred_ℤ-*ℤ (pos 0) v ∙ ap (λ t. t +ℤ neg_ℤ v) (zero-*ℤ v) ∙ +ℤ_idl (neg_ℤ v)

opposite_amount : (q : Quarter) → odd q ≡ true → (b : Bool) → b ≡ is_one q → (v : ℤ)
    → (when b then v else neg_ℤ v) ≡ neg_ℤ (toℤ (σ q) *ℤ v)
unfolding when◌then◌else◌
opposite_amount q0 h b e v = cc
opposite_amount q1 h true e v = sym (ap neg_ℤ (times_minus v) ∙ neg_ℤ-neg_ℤ v)
opposite_amount q1 h false e v = cc
opposite_amount q2 h b e v = cc
opposite_amount q3 h true e v = cc
opposite_amount q3 h false e v = sym (ap neg_ℤ (times_one v))

no_amount : (q : Quarter) → odd q ≡ false → (v : ℤ) → toℤ (σ q) *ℤ v ≡ pos 0
no_amount q h v = ap (λ s. toℤ s *ℤ v) (σ-even q h) ∙ zero-*ℤ v

-- the model's test of a sum, which it does not hand out
abbrev is_zero : ℤ → Bool
is_zero (pos k) = eqb k 0
is_zero (negsuc k) = false

none_zero : (k : ℤ) → is_zero k ≡ true → k ≡ pos 0
none_zero (pos k) h = ap pos (eqb-true k 0 h)
none_zero (negsuc k) h = cc

neg_zero : (k : ℤ) → neg_ℤ k ≡ pos 0 → k ≡ pos 0
neg_zero k e = sym (neg_ℤ-neg_ℤ k) ∙ ap neg_ℤ e

-- ---- what the theory tests: signed angles with their words

module _ (H : Setting) (word : ℕ → H.words.W) where
  abbrev pub signed_turn : Rot → ℤ × H.words.W
  signed_turn r = (signed_angle r.angle, word r.axis)

  unfoldable pub signed_turns : List Rot → List (ℤ × H.words.W)
  signed_turns [] = []
  signed_turns (r ∷ g) = signed_turn r ∷ signed_turns g

  pub signed_append : (g h : List Rot) → signed_turns (g ++ h) ≡ signed_turns g ++ signed_turns h
  unfolding signed_turns
  signed_append [] h = refl
  signed_append (r ∷ g) h = ap (λ X. signed_turn r ∷ X) (signed_append g h)

  signed_turns_lem : (axes : List (List ℕ)) (g : List Rot) → Every (Sound axes) g → turns H (signed_turns g) ≡ rot_ops word g
  unfolding signed_turns turns
  signed_turns_lem axes [] h = refl
  signed_turns_lem axes (r ∷ g) h = ap₂ (λ e X. plain e (word r.axis) ∷ X) (eighth_signed r.angle h.0.1) (signed_turns_lem axes g h.1)

module _ (H : Setting) (l : ℕ) (axes : List (List ℕ)) (A : AxisWords H l axes) where
  open H use {words as Ws, same}
  open Ws use {W, ◌⊕◌, ph}

  infixl 65 ◌⊕◌
  abbrev pairs : List Rot → List (ℤ × W)
  pairs g = signed_turns H A.word g

  abbrev pair : Rot → ℤ × W
  pair r = signed_turn H A.word r

  -- ---- the model's terms among the theory's products: of opposite sign, and without those of commuting pairs

  data Lists : List Term → List (ℤ × W) → Type 0 where
    nothing : Lists [] []
    commuting : {m : ℤ × W} {ts : List Term} {M : List (ℤ × W)} → m.0 ≡ pos 0 → Lists ts M → Lists ts (m ∷ M)
    anticommuting : {t : Term} {m : ℤ × W} {ts : List Term} {M : List (ℤ × W)} (a b : ℕ) → a < length axes → b < length axes
        → t.word ≡ xor_words (word_of axes a) (word_of axes b) → m.1 ≡ A.word a ⊕ A.word b → t.amount ≡ neg_ℤ m.0
        → Lists ts M → Lists (t ∷ ts) (m ∷ M)

  lists_append : {ts us : List Term} {M N : List (ℤ × W)} → Lists ts M → Lists us N → Lists (ts ++ us) (M ++ N)
  lists_append nothing k = k
  lists_append (commuting e h) k = commuting e (lists_append h k)
  lists_append (anticommuting a b ha hb e f g h) k = anticommuting a b ha hb e f g (lists_append h k)

  row_lists : (a : Rot) (bs : List Rot) → Sound axes a → Every (Sound axes) bs → Lists (terms_with l axes a bs) (row H (pair a) (pairs bs))
  unfolding terms_with term_of row signed_turns
  row_lists a [] h k = nothing
  row_lists a (b ∷ bs) h k =
      let q = ph (A.word a.axis) (A.word b.axis) in
      let v = signed_angle a.angle *ℤ signed_angle b.angle in
      let anti = A.anti a.axis b.axis h.0 k.0.0 in
      let rest = row_lists a bs h k.1 in
      let entry : ℤ × W = (toℤ (σ q) *ℤ v, A.word a.axis ⊕ A.word b.axis) in
      on_if (λ (ts : List Term). Lists ts (entry ∷ row H (pair a) (pairs bs))) _ _ _
      (λ e. anticommuting a.axis b.axis h.0 k.0.0 refl refl
      (opposite_amount q (sym anti ∙ e) _ (A.ph1 a.axis b.axis h.0 k.0.0) v) rest)
      (λ e. commuting (no_amount q (sym anti ∙ e) v) rest)

  terms_lists : (g h : List Rot) → Every (Sound axes) g → Every (Sound axes) h → Lists (terms l axes g h) (products H (pairs g) (pairs h))
  unfolding terms products signed_turns
  terms_lists [] h kg kh = nothing
  terms_lists (a ∷ g) h kg kh = lists_append (row_lists a h kg.0 kh) (terms_lists g h kg.1 kh)

  -- ---- sums of one product word

  pick_none : {B : Type 0} (d : Dec B) (k w : ℤ) → k ≡ pos 0 → pick d (k +ℤ w) w ≡ w
  pick_none (yes b) k w e = ap (λ t. t +ℤ w) e ∙ +ℤ_idl w
  pick_none (no b) k w e = refl

  sum_lists : (c d : ℕ) → c < length axes → d < length axes → {ts : List Term} {M : List (ℤ × W)} → Lists ts M
      → signed_sum (xor_words (word_of axes c) (word_of axes d)) ts ≡ neg_ℤ (weight H (A.word c ⊕ A.word d) M)
  unfolding signed_sum weight when◌then◌else◌
  sum_lists c d hc hd nothing = refl
  sum_lists c d hc hd (commuting {m} {ts} {M} e h) =
      let w = weight H (A.word c ⊕ A.word d) M in
      sum_lists c d hc hd h ∙ ap neg_ℤ (sym (pick_none (same m.1 (A.word c ⊕ A.word d)) m.0 w e))
  sum_lists c d hc hd (anticommuting {t} {m} {ts} {M} a b ha hb e f g h) =
      go (same_list t.word w) refl (same m.1 P) (sum_lists c d hc hd h)
    where
      P : W
      P = A.word c ⊕ A.word d

      w : List ℕ
      w = xor_words (word_of axes c) (word_of axes d)

      go : (x : Bool) → same_list t.word w ≡ x → (y : Dec (m.1 ≡ P)) → signed_sum w ts ≡ neg_ℤ (weight H P M)
          → (when x then t.amount +ℤ signed_sum w ts else signed_sum w ts) ≡ neg_ℤ (pick y (m.0 +ℤ weight H P M) (weight H P M))
      go true p (yes q) ih = ap₂ ◌+ℤ◌ g ih ∙ sym (neg_ℤ-+ℤ m.0 (weight H P M))
      go true p (no q) ih = absurd (q (f ∙ A.same_product a b c d ha hb hc hd (rw e at p)))
      go false p (yes q) ih =
          absurd (true≢false (sym (A.product_same a b c d ha hb hc hd (sym f ∙ q)) ∙ ap (λ (x : List ℕ). same_list x w) (sym e) ∙ p))
      go false p (no q) ih = ih

  -- ---- balance: each word that is listed was tested

  module _ (us : List Term) (L : List (ℤ × W)) (listed : Lists us L) where
    tested_or_not : (P : W) {ts : List Term} {M : List (ℤ × W)} → Lists ts M → all_of (λ (t : Term). is_zero (signed_sum t.word us)) ts ≡ true
        → (weight H P L ≡ pos 0) ⊎ (weight H P M ≡ pos 0)
    unfolding weight all_of
    tested_or_not P nothing h = inr refl
    tested_or_not P (commuting {m} {ts} {M} e k) h = go (tested_or_not P k h)
      where
        go : (weight H P L ≡ pos 0) ⊎ (weight H P M ≡ pos 0)
            → (weight H P L ≡ pos 0) ⊎ (pick (same m.1 P) (m.0 +ℤ weight H P M) (weight H P M) ≡ pos 0)
        go (inl r) = inl r
        go (inr r) = inr (pick_none (same m.1 P) m.0 (weight H P M) e ∙ r)
    tested_or_not P (anticommuting {t} {m} {ts} {M} a b ha hb e f g k) h =
        go (same m.1 P) (tested_or_not P k (and_right (is_zero (signed_sum t.word us)) rest h))
      where
        rest : Bool
        rest = all_of (λ (t : Term). is_zero (signed_sum t.word us)) ts

        none : weight H (A.word a ⊕ A.word b) L ≡ pos 0
        none =
            let tested = none_zero (signed_sum t.word us) (and_left (is_zero (signed_sum t.word us)) rest h) in
            neg_zero (weight H (A.word a ⊕ A.word b) L)
            (sym (sum_lists a b ha hb listed) ∙ ap (λ (w : List ℕ). signed_sum w us) (sym e) ∙ tested)

        go : (y : Dec (m.1 ≡ P)) → (weight H P L ≡ pos 0) ⊎ (weight H P M ≡ pos 0)
            → (weight H P L ≡ pos 0) ⊎ (pick y (m.0 +ℤ weight H P M) (weight H P M) ≡ pos 0)
        go (yes q) r = inl (ap (λ Q. weight H Q L) (sym q ∙ f) ∙ none)
        go (no q) r = r

    tested_balanced : all_sums_zero us ≡ true → Balanced H L
    unfolding all_sums_zero
    tested_balanced h P = go (tested_or_not P listed h)
      where
        go : (weight H P L ≡ pos 0) ⊎ (weight H P L ≡ pos 0) → weight H P L ≡ pos 0
        go (inl e) = e
        go (inr e) = e

  -- "Two groups, each of axes that commute with one another, exchange if .."
  pub certificate : (g h : List Rot) → Every (Sound axes) g → Every (Sound axes) h
      → Group H (signed_turns H A.word g) → Group H (signed_turns H A.word h)
      → generators_commute l axes g h ≡ true → Rotations.◌≋◌ H A.word (g ++ h) (h ++ g)
  unfolding generators_commute
  certificate g h kg kh Gg Gh e =
      rw (rot_ops_append A.word g h, rot_ops_append A.word h g, ← signed_turns_lem H A.word axes g kg, ← signed_turns_lem H A.word axes h kh)
      (exchange H (pairs g) (pairs h) Gg Gh (tested_balanced (terms l axes g h) (products H (pairs g) (pairs h)) (terms_lists g h kg kh) e))
