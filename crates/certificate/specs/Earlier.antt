-- A pair whose product word an earlier pair had: the sums of earlier pairs are zero, and a sum hangs on the word alone. Assumes nothing.
use Rattle.std.specs.Prelude.{◌≡◌, Bool, ℕ, zero, suc, ◌+◌, ◌-◌, ◌≤◌, ◌<◌}
use Rattle.std.proofs.Math.Path.{refl, ap}
use Rattle.std.proofs.Common.{sym, ap₂, ◌∙◌, subst, arith}
use Rattle.std.proofs.Math.Bool.{true}
use mathlib.Core.List.{List}
use Rattle.std.proofs.Math.Decide.{dec_lt}
use Rattle.store.specs.Equal.{same_list, same_true}
use Rattle.pauli.specs.Word.{anticommutes}
use Rattle.model.specs.Words.{word_of, anticommute}
use Rattle.model.specs.Items.{Rot}
use Rattle.model.specs.Exchange.{is_zero, signed_sum, terms}
use Rattle.theory.specs.Cases.{by_if, if_true, and_left, and_right}
use Rattle.layout.specs.Rows.{items_row}
use Rattle.items.specs.View.{rot_at, rot_said}
use Rattle.items.specs.Put.{EntryPre}
use Rattle.axes.specs.declared.Sizes.{Sizes}
use Rattle.axes.specs.Held.{Stored, stored_axes}
use Rattle.certificate.specs.declared.Group.{Group}
use Rattle.certificate.specs.Groups.{axes_within, RotsGood, GroupGood, GroupsPre, group_in}
use Rattle.certificate.specs.Terms.{AxesPre, product_of}
use Rattle.certificate.specs.Meets.{meets_word, own_product}
use Rattle.certificate.specs.Turns.{SumPre, sum_to, sum_at, pair_vanishes, row_from, row_turn, axis_at}

-- ---- which pair has a word

-- an axis, and items of a group
pub record HasPre (z : Sizes) (xs : List ℕ) (x from e pa qa : ℕ) : Type 0 where
  pub rots : RotsGood z xs items_row from e
  pub x_in : x < z.axes
  pub p_in : pa < z.axes
  pub q_in : qa < z.axes

-- axis x with one of the items from `from` up to e
pub record HasWord (z : Sizes) (ws xs : List ℕ) (x from e pa qa : ℕ) : Type 0 where
  pub place : ℕ
  pub low : from ≤ place
  pub high : place < e
  pub same : same_list (product_of z ws x (axis_at z xs place)) (product_of z ws pa qa) ≡ true

-- an item, and a group
pub record RowHasPre (z : Sizes) (xs : List ℕ) (p : ℕ) (b : Group) (pa qa : ℕ) : Type 0 where
  pub second : GroupGood z xs b
  pub here : p < z.u
  pub axis_in : axis_at z xs p < z.axes
  pub p_in : pa < z.axes
  pub q_in : qa < z.axes

-- item p with one of the group, with which it anticommutes
pub record RowHas (z : Sizes) (ws xs : List ℕ) (p : ℕ) (b : Group) (pa qa : ℕ) : Type 0 where
  pub meets : meets_word z ws (axis_at z xs p) pa qa ≡ true
  pub has : HasWord z ws xs (axis_at z xs p) b.from b.end pa qa

-- items, and a group
pub record RowsHavePre (z : Sizes) (xs : List ℕ) (from e : ℕ) (b : Group) (pa qa : ℕ) : Type 0 where
  pub rots : RotsGood z xs items_row from e
  pub second : GroupGood z xs b
  pub p_in : pa < z.axes
  pub q_in : qa < z.axes

-- one of the items from `from` up to e
pub record RowsHave (z : Sizes) (ws xs : List ℕ) (from e : ℕ) (b : Group) (pa qa : ℕ) : Type 0 where
  pub item : ℕ
  pub low : from ≤ item
  pub high : item < e
  pub has : RowHas z ws xs item b pa qa

-- ---- what the earlier pairs were found to be

-- the pairs of axis x with the items from `from` up to e
pub record Passed (z : Sizes) (ws xs : List ℕ) (a b : Group) (x from e : ℕ) : Type 0 where
  pub pair : (j : ℕ) → from ≤ j → j < e → pair_vanishes z ws xs a b x (axis_at z xs j) ≡ true

-- the rows of the items before p
pub record RowsPassed (z : Sizes) (ws xs : List ℕ) (a b : Group) (p : ℕ) : Type 0 where
  pub row : (i : ℕ) → a.from ≤ i → i < p → Passed z ws xs a b (axis_at z xs i) b.from b.end

-- an item of the first group
pub record RowVanishPre (z : Sizes) (ws xs : List ℕ) (a b : Group) (p : ℕ) : Type 0 where
  pub groups : GroupsPre z xs a b
  pub from_in : a.from ≤ p
  pub end_in : p < a.end
  pub rows : RowsPassed z ws xs a b p

-- and one of the second
pub record PairPre (z : Sizes) (ws xs : List ℕ) (a b : Group) (p q : ℕ) : Type 0 where
  pub row : RowVanishPre z ws xs a b p
  pub low : b.from ≤ q
  pub high : q < b.end
  pub earlier : Passed z ws xs a b (axis_at z xs p) b.from q

-- their axes, which anticommute
pub record WordPre (z : Sizes) (ws xs : List ℕ) (a b : Group) (p q pa qa : ℕ) : Type 0 where
  pub sum : SumPre z xs a b pa qa
  pub odd : anticommute z.l (stored_axes z ws) pa qa ≡ true
  pub p_low : a.from ≤ p
  pub p_high : p ≤ a.end
  pub q_low : b.from ≤ q
  pub q_high : q ≤ b.end
  pub rows : RowsPassed z ws xs a b p
  pub earlier : Passed z ws xs a b pa b.from q

-- ---- what the functions demand

-- a shorter group
good_part : {z : Sizes} {xs : List ℕ} {r b e : ℕ} → RotsGood z xs r b e → (c : ℕ) → b ≤ c → c ≤ e → RotsGood z xs r b c
good_part h c m k = let n = h.end_in in record { order = m; end_in = omega arith; good = λ i a d. h.good i a (omega arith) }

module _ {z : Sizes} {ws xs : List ℕ} {x from e pa qa : ℕ} (s : Stored z ws xs) (h : HasPre z xs x from e pa qa) (q : ℕ) (f : from ≤ q)
    (k : q < e) where
  pub has_entry : EntryPre xs z.u items_row q
  has_entry = let n = h.rots.end_in in record { long = s.numbers_long; rows = omega arith; here = omega arith }

  pub has_item : (y : ℕ) → y ≡ axis_at z xs q → AxesPre z ws x y
  unfolding rot_said
  has_item y d = record { axes_in_lem = axes_within s; a_in = h.x_in; b_in = rw d (h.rots.good q f k).axis_in }

  pub has_pair : AxesPre z ws pa qa
  has_pair = record { axes_in_lem = axes_within s; a_in = h.p_in; b_in = h.q_in }

module _ {z : Sizes} {xs : List ℕ} {from e : ℕ} {b : Group} {pa qa : ℕ} (h : RowsHavePre z xs from e b pa qa) (p : ℕ) (f : from ≤ p)
    (k : p < e) where
  pub rows_row : RowHasPre z xs p b pa qa
  unfolding rot_said
  rows_row =
      let n = h.rots.end_in in
      record {
        second = h.second;
        here = omega arith;
        axis_in = (h.rots.good p f k).axis_in;
        p_in = h.p_in;
        q_in = h.q_in;
      }

module _ {z : Sizes} {ws xs : List ℕ} {a b : Group} {p q pa qa : ℕ} (h : WordPre z ws xs a b p q pa qa) where
  pub word_has : HasPre z xs pa b.from q pa qa
  word_has = record {
    rots = good_part h.sum.groups.second q h.q_low h.q_high;
    x_in = h.sum.p_in;
    p_in = h.sum.p_in;
    q_in = h.sum.q_in;
  }

  pub word_rows : RowsHavePre z xs a.from p b pa qa
  word_rows = record {
    rots = good_part h.sum.groups.first p h.p_low h.p_high;
    second = h.sum.groups.second;
    p_in = h.sum.p_in;
    q_in = h.sum.q_in;
  }

-- ---- the same word: the same sum

module _ (z : Sizes) (ws xs : List ℕ) (a b : Group) (pa qa : ℕ) where
  -- x and y have the word, and anticommute, since x anticommutes with it
  again : (x y : ℕ) → same_list (product_of z ws x y) (product_of z ws pa qa) ≡ true → meets_word z ws x pa qa ≡ true
      → pair_vanishes z ws xs a b x y ≡ true → true ≡ pair_vanishes z ws xs a b pa qa
  unfolding pair_vanishes
  again x y s m v = by_if (λ (r : Bool). true ≡ r) _ _ true (sym zero_sum) refl
    where
      odd : anticommute z.l (stored_axes z ws) x y ≡ true
      odd =
          unfold anticommute in
          (sym (own_product z.l (word_of (stored_axes z ws) x) (word_of (stored_axes z ws) y))
          ∙ ap (anticommutes z.l (word_of (stored_axes z ws) x)) (same_true _ _ s) ∙ m)

      sums : sum_at z ws xs a b x y ≡ sum_at z ws xs a b pa qa
      sums =
          unfold sum_to in
          (ap (λ (w : List ℕ). signed_sum w (terms z.l (stored_axes z ws) (group_in z xs a) (group_in z xs b))) (same_true _ _ s))

      zero_sum : is_zero (sum_at z ws xs a b pa qa) ≡ true
      zero_sum = ap is_zero (sym sums) ∙ sym (if_true _ _ odd) ∙ v

  -- an earlier item of the row has it
  row_again : {q : ℕ} → HasWord z ws xs pa b.from q pa qa → Passed z ws xs a b pa b.from q
      → anticommute z.l (stored_axes z ws) pa qa ≡ true → true ≡ pair_vanishes z ws xs a b pa qa
  row_again w v odd = again pa (axis_at z xs w.place) w.same
      (own_product z.l (word_of (stored_axes z ws) pa) (word_of (stored_axes z ws) qa) ∙ unfold anticommute in odd)
      (v.pair w.place w.low w.high)

  -- an earlier row
  rows_again : {p : ℕ} → RowsHave z ws xs a.from p b pa qa → RowsPassed z ws xs a b p → true ≡ pair_vanishes z ws xs a b pa qa
  rows_again r v =
      let w = r.has.has in
      again (axis_at z xs r.item) (axis_at z xs w.place) w.same r.has.meets ((v.row r.item r.low r.high).pair w.place w.low w.high)

module _ {z : Sizes} {ws xs : List ℕ} {a b : Group} {p q pa qa : ℕ} (h : WordPre z ws xs a b p q pa qa) where
  pub in_row : HasWord z ws xs pa b.from q pa qa → true ≡ pair_vanishes z ws xs a b pa qa
  in_row w = row_again z ws xs a b pa qa w h.earlier h.odd

  pub in_rows : RowsHave z ws xs a.from p b pa qa → true ≡ pair_vanishes z ws xs a b pa qa
  in_rows r = rows_again z ws xs a b pa qa r h.rows

-- ---- one pair more, one row more

-- no pair yet
pub none_passed : (z : Sizes) (ws xs : List ℕ) (a b : Group) (x from : ℕ) → Passed z ws xs a b x from from
none_passed z ws xs a b x from = record { pair = λ j f k. absurd (omega arith) }

pub one_passed : {z : Sizes} {ws xs : List ℕ} {a b : Group} {x from q : ℕ} {v : Bool} → Passed z ws xs a b x from q
    → v ≡ pair_vanishes z ws xs a b x (axis_at z xs q) → v ≡ true → Passed z ws xs a b x from (q + 1)
one_passed {z} {ws} {xs} {a} {b} {x} {from} {q} h e t = record { pair = λ j f k. go j f k (dec_lt j q) }
  where
    go : (j : ℕ) → from ≤ j → j < q + 1 → Dec (j < q) → pair_vanishes z ws xs a b x (axis_at z xs j) ≡ true
    go j f k (yes c) = h.pair j f c
    go j f k (no c) =
        let d : j ≡ q = omega arith in
        ap (λ (i : ℕ). pair_vanishes z ws xs a b x (axis_at z xs i)) d ∙ sym e ∙ t

-- a row whose test is passed
row_each : (z : Sizes) (ws xs : List ℕ) (a b : Group) (r : Rot) (n q j : ℕ) → row_from z ws xs a b r q ≡ true → j ≡ q + n → j < b.end
    → pair_vanishes z ws xs a b r.axis (rot_at xs z.u items_row j).axis ≡ true
row_each z ws xs a b r zero q j e d h =
    let i : j ≡ q = omega arith in
    ap (λ (k : ℕ). pair_vanishes z ws xs a b r.axis (rot_at xs z.u items_row k).axis) i
    ∙ and_left _ _ (sym (row_turn z ws xs a b r q (omega arith)) ∙ e)
row_each z ws xs a b r (suc n) q j e d h =
    row_each z ws xs a b r n (q + 1) j (and_right (pair_vanishes z ws xs a b r.axis (rot_at xs z.u items_row q).axis) _
    (sym (row_turn z ws xs a b r q (omega arith)) ∙ e)) (omega arith) h

pub no_rows : (z : Sizes) (ws xs : List ℕ) (a b : Group) → RowsPassed z ws xs a b a.from
no_rows z ws xs a b = record { row = λ i f k. absurd (omega arith) }

pub one_row : {z : Sizes} {ws xs : List ℕ} {a b : Group} {p : ℕ} {v : Bool} → RowsPassed z ws xs a b p
    → v ≡ row_from z ws xs a b (rot_at xs z.u items_row p) b.from → v ≡ true → RowsPassed z ws xs a b (p + 1)
one_row {z} {ws} {xs} {a} {b} {p} h e t = record { row = λ i f k. go i f k (dec_lt i p) }
  where
    last : (j : ℕ) → b.from ≤ j → j < b.end → pair_vanishes z ws xs a b (axis_at z xs p) (axis_at z xs j) ≡ true
    last j m n =
        unfold rot_said in
        (row_each z ws xs a b (rot_at xs z.u items_row p) (j - b.from) b.from j (sym e ∙ t) (omega arith) n)

    go : (i : ℕ) → a.from ≤ i → i < p + 1 → Dec (i < p) → Passed z ws xs a b (axis_at z xs i) b.from b.end
    go i f k (yes c) = h.row i f c
    go i f k (no c) =
        let d : p ≡ i = omega arith in
        subst (λ (o : ℕ). Passed z ws xs a b (axis_at z xs o) b.from b.end) d (record { pair = last })

-- ---- what testing a pair demands

module _ {z : Sizes} {ws xs : List ℕ} {a b : Group} {p q : ℕ} (h : PairPre z ws xs a b p q) where
  module _ {pa qa : ℕ} (first : pa ≡ axis_at z xs p) (second : qa ≡ axis_at z xs q) where
    pair_sums : SumPre z xs a b pa qa
    unfolding rot_said
    pair_sums = record {
      groups = h.row.groups;
      p_in = rw first (h.row.groups.first.good p h.row.from_in h.row.end_in).axis_in;
      q_in = rw second (h.row.groups.second.good q h.low h.high).axis_in;
    }

    pub pair_stored : (pa < z.axes) × (qa < z.axes)
    pair_stored = (pair_sums.p_in, pair_sums.q_in)

    pub pair_word : {r : Bool} → r ≡ anticommute z.l (stored_axes z ws) pa qa → r ≡ true → WordPre z ws xs a b p q pa qa
    pair_word e t =
        let k = h.row.end_in in
        let n = h.high in
        record {
          sum = pair_sums;
          odd = sym e ∙ t;
          p_low = h.row.from_in;
          p_high = omega arith;
          q_low = h.low;
          q_high = omega arith;
          rows = h.row.rows;
          earlier = subst (λ (x : ℕ). Passed z ws xs a b x b.from q) (sym first) h.earlier;
        }

    -- the answer for the axes that were read
    pub pair_read : {v : Bool} → v ≡ pair_vanishes z ws xs a b pa qa → v ≡ pair_vanishes z ws xs a b (axis_at z xs p) (axis_at z xs q)
    pair_read e = e ∙ ap₂ (pair_vanishes z ws xs a b) first second
