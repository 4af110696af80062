-- Reach: the output is scanned from its end back to place j. Assumes nothing.
use Rattle.std.specs.Prelude.{◌≡◌, refl, Bool, true, false, not, ◌&&◌, ◌||◌, eqb, leb, length, get_or, drop}
use Rattle.std.proofs.Math.Path.{sym, ap}
use Rattle.std.proofs.Common.{ap₂, ◌∙◌, true≢false, arith, drop-cons, eq-eqb, ne_eqb, le-leb}
use Rattle.std.proofs.lemmas.Bool.{false≢true, lt-leb}
use mathlib.Core.List.{List, [], ◌∷◌}
use Prim.Native.Nat.{ℕ, zero, suc, ◌+◌, ◌-◌, ◌≤◌, ◌<◌}
use Rattle.std.proofs.Math.Seq.{drop-length}
use Rattle.model.specs.Lists.{all_of}
use Rattle.model.specs.Words.{anticommute}
use Rattle.model.specs.Items.{barrier}
use Rattle.model.specs.Stream.{lets_pass, can_reach}
use Rattle.layout.specs.Rows.{out_row}
use Rattle.axes.specs.declared.Sizes.{Sizes}
use Rattle.axes.specs.Held.{stored_axes, Stored}
use Rattle.items.specs.declared.Tagged.{Tagged}
use Rattle.items.specs.View.{tagged_at, item_at, items_in, item_said, said_rotation, view_length, view_at_0}
use Rattle.items.specs.Put.{EntryPre}

-- ---- one output

abbrev pub out_at : Sizes → List ℕ → ℕ → Tagged
out_at z xs i = tagged_at xs z.u out_row i

pub record BlocksPre (z : Sizes) (xs : List ℕ) (i id : ℕ) : Type 0 where
  pub here : i < z.u
  pub tag : (out_at z xs i).tag ≡ 0
  pub there : (out_at z xs i).axis < z.axes
  pub axis : id < z.axes

-- whether it lets axis id pass
unfoldable pub passes : Sizes → List ℕ → List ℕ → ℕ → ℕ → Bool
passes z ws xs i id = lets_pass z.l (stored_axes z ws) id (item_at xs z.u out_row i)

module _ {z : Sizes} {ws xs : List ℕ} {i id : ℕ} (held : Stored z ws xs) (pre : BlocksPre z xs i id) where
  pub blocks_entry : EntryPre xs z.u out_row i
  blocks_entry = record { long = held.numbers_long; rows = omega arith; here = pre.here }

  said : passes z ws xs i id ≡ (eqb (out_at z xs i).angle 0 || not (anticommute z.l (stored_axes z ws) (out_at z xs i).axis id))
  unfolding passes
  said = ap (lets_pass z.l (stored_axes z ws) id) (said_rotation (out_at z xs i) pre.tag)

  -- a rotation by nothing
  pub blocks_zero : {k : ℕ} → k ≡ (out_at z xs i).angle → k ≡ 0 → false ≡ not (passes z ws xs i id)
  blocks_zero e f =
      sym (ap not (said ∙ ap (λ (t : Bool). t || not (anticommute z.l (stored_axes z ws) (out_at z xs i).axis id))
      (eq-eqb (out_at z xs i).angle 0 (sym e ∙ f))))

  not_not : (t : Bool) → not (not t) ≡ t
  not_not true = refl
  not_not false = refl

  pub blocks_there : {a : ℕ} → a ≡ (out_at z xs i).axis → a < z.axes
  blocks_there e = omega (arith, pre.there)

  pub blocks_some : {k a : ℕ} {r : Bool} → k ≡ (out_at z xs i).angle → (k ≡ 0 → ⊥) → a ≡ (out_at z xs i).axis
      → r ≡ anticommute z.l (stored_axes z ws) a id → r ≡ not (passes z ws xs i id)
  blocks_some e f g h =
      h ∙ ap (λ (x : ℕ). anticommute z.l (stored_axes z ws) x id) g
      ∙ sym (ap not (said ∙ ap (λ (t : Bool). t || not (anticommute z.l (stored_axes z ws) (out_at z xs i).axis id))
      (ne_eqb (out_at z xs i).angle 0 (λ d. f (e ∙ d)))) ∙ not_not _)

-- ---- lists

module _ {A : Type 0} (f : A → Bool) where
  all_next : (xs : List A) (i : ℕ) (d : A) → i < length xs → all_of f (drop i xs) ≡ f (get_or xs i d) && all_of f (drop (suc i) xs)
  unfolding all_of
  all_next xs i d h = ap (all_of f) (drop-cons xs i d h)

  and_none : (a b : Bool) → b ≡ false → a && b ≡ false
  and_none true b e = e
  and_none false b e = refl

  all_fails : (xs : List A) (k i : ℕ) (d : A) → k ≤ i → i < length xs → f (get_or xs i d) ≡ false → all_of f (drop k xs) ≡ false
  unfolding all_of
  all_fails [] k i d h b e = absurd (omega arith)
  all_fails (x ∷ xs) zero zero d h b e = ap (λ (t : Bool). t && all_of f xs) e
  all_fails (x ∷ xs) zero (suc i) d h b e = and_none (f x) _ (all_fails xs zero i d (omega arith) (omega arith) e)
  all_fails (x ∷ xs) (suc k) zero d h b e = absurd (omega arith)
  all_fails (x ∷ xs) (suc k) (suc i) d h b e = all_fails xs k i d (omega arith) (omega arith) e

-- ---- the scan

pub record ReachPre (z : Sizes) (out j id : ℕ) (xs : List ℕ) : Type 0 where
  pub fits : out ≤ z.u
  pub before : j < out
  pub tags : (i : ℕ) → j < i → i < out → (out_at z xs i).tag ≡ 0
  pub places : (i : ℕ) → j < i → i < out → (out_at z xs i).axis < z.axes
  pub axis : id < z.axes

-- whether it comes back to place j
unfoldable pub reaches : Sizes → ℕ → ℕ → ℕ → ℕ → List ℕ → List ℕ → Bool
reaches z lookback out j id ws xs = can_reach z.l lookback (stored_axes z ws) (items_in xs z.u out_row 0 out) j id

-- outputs from i on let it pass
pub record Passed (z : Sizes) (out j id : ℕ) (ws xs : List ℕ) (i : ℕ) : Type 0 where
  pub low : j < i
  pub high : i ≤ out
  pub all : all_of (lets_pass z.l (stored_axes z ws) id) (drop i (items_in xs z.u out_row 0 out)) ≡ true

module _ {z : Sizes} {out j id : ℕ} (ws : List ℕ) {xs : List ℕ} (pre : ReachPre z out j id xs) where
  list_long : length (items_in xs z.u out_row 0 out) ≡ out
  list_long = view_length item_said xs z.u out_row 0 out

  -- too far back
  pub reach_far : (lookback : ℕ) → lookback < out - j - 1 → false ≡ reaches z lookback out j id ws xs
  unfolding reaches can_reach
  reach_far lookback h =
      sym (ap (λ (t : Bool). t && all_of (lets_pass z.l (stored_axes z ws) id) (drop (suc j) (items_in xs z.u out_row 0 out)))
      (lt-leb (length (items_in xs z.u out_row 0 out) - j - 1) lookback (omega (arith, list_long))))

  pub passed_first : Passed z out j id ws xs out
  unfolding all_of
  passed_first = record {
    low = pre.before;
    high = omega arith;
    all =
        ap (λ (k : ℕ). all_of (lets_pass z.l (stored_axes z ws) id) (drop k (items_in xs z.u out_row 0 out))) (sym list_long)
        ∙ ap (all_of (lets_pass z.l (stored_axes z ws) id)) (drop-length (items_in xs z.u out_row 0 out));
  }

  module _ {i : ℕ} (p : Passed z out j id ws xs i) (more : j + 1 < i) where
    pub blocks_pre : BlocksPre z xs (i - 1) id
    blocks_pre = record {
      here = omega (arith, p.high, pre.fits);
      tag = pre.tags (i - 1) (omega arith) (omega (arith, p.high));
      there = pre.places (i - 1) (omega arith) (omega (arith, p.high));
      axis = pre.axis;
    }

    item_is : lets_pass z.l (stored_axes z ws) id (get_or (items_in xs z.u out_row 0 out) (i - 1) (barrier 0 0 0)) ≡ passes z ws xs
        (i - 1) id
    unfolding passes
    item_is =
        ap (lets_pass z.l (stored_axes z ws) id) (view_at_0 item_said xs z.u out_row out (i - 1) (barrier 0 0 0) (omega (arith, p.high)))

    not_true : (t r : Bool) → r ≡ not t → r ≡ true → t ≡ false
    not_true true r e f = absurd (true≢false (sym f ∙ e))
    not_true false r e f = refl

    not_false : (t r : Bool) → r ≡ not t → r ≡ false → t ≡ true
    not_false true r e f = refl
    not_false false r e f = absurd (false≢true (sym f ∙ e))

    -- it stops at i - 1
    pub reach_blocked : (lookback : ℕ) {r : Bool} → r ≡ not (passes z ws xs (i - 1) id) → r ≡ true
        → false ≡ reaches z lookback out j id ws xs
    unfolding reaches can_reach
    reach_blocked lookback {r} b e =
        sym (and_none (lets_pass z.l (stored_axes z ws) id) (leb (length (items_in xs z.u out_row 0 out) - j - 1) lookback) _
        (all_fails (lets_pass z.l (stored_axes z ws) id) (items_in xs z.u out_row 0 out) (suc j) (i - 1) (barrier 0 0 0) (omega arith)
        (omega (arith, list_long, p.high)) (item_is ∙ not_true _ r b e)))

    pub passed_next : {r : Bool} → r ≡ not (passes z ws xs (i - 1) id) → r ≡ false → Passed z out j id ws xs (i - 1)
    passed_next {r} b e = record {
      low = omega arith;
      high = omega (arith, p.high);
      all =
          let next : suc (i - 1) ≡ i = omega arith in
          all_next (lets_pass z.l (stored_axes z ws) id) (items_in xs z.u out_row 0 out) (i - 1) (barrier 0 0 0)
          (omega (arith, list_long, p.high))
          ∙ ap₂ (λ (s t : Bool). s && t) (item_is ∙ not_false _ r b e)
          (ap (λ (k : ℕ). all_of (lets_pass z.l (stored_axes z ws) id) (drop k (items_in xs z.u out_row 0 out))) next ∙ p.all);
    }

  pub reach_all : {i : ℕ} (lookback : ℕ) → out - j - 1 ≤ lookback → Passed z out j id ws xs i → i ≤ j + 1
      → true ≡ reaches z lookback out j id ws xs
  unfolding reaches can_reach
  reach_all {i} lookback h p e =
      let here : i ≡ suc j = omega (arith, p.low) in
      sym (ap₂ (λ (s t : Bool). s && t) (le-leb (length (items_in xs z.u out_row 0 out) - j - 1) lookback (omega (arith, list_long)))
      (ap (λ (k : ℕ). all_of (lets_pass z.l (stored_axes z ws) id) (drop k (items_in xs z.u out_row 0 out))) (sym here) ∙ p.all))
