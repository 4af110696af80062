-- Weights: an axis's letters other than I, those of all rotations, plain and conditional, that come out. Assumes nothing.
use Rattle.std.specs.Prelude.{◌≡◌, refl, true, false, List, ℕ, zero, suc, ◌+◌, ◌*◌, ◌≤◌, ◌<◌, eqb, length}
use Rattle.std.proofs.Common.{sym, ap, ◌∙◌, le_refl, arith}
use Rattle.bits.specs.Sum.{sum_to}
use Rattle.pauli.specs.Word.{width}
use Rattle.pauli.specs.Letter.{letter_at, other, acts, weight}
use Rattle.model.specs.Lists.{when◌then◌else◌, sum_of}
use Rattle.model.specs.Program.{is_measure, Kind, rotate, measure, conditional, Operation, Program}
use Rattle.model.specs.Words.{word_of}
use Rattle.model.specs.Items.{Item, rotation, barrier}
use Rattle.model.specs.Rounds.{Work}
use Rattle.model.specs.Results.{operation_at, barrier_record, item_record, item_weight}
use Rattle.theory.specs.Cases.{if_true, if_false}
use Rattle.layout.specs.Rows.{items_row}
use Rattle.layout.specs.Words.{axis_place}
use Rattle.axes.specs.View.{axes_of}
use Rattle.records.specs.Kinds.{kind_number, kind_said, number_test}
use Rattle.records.specs.Operations.{operations_in}
use Rattle.items.specs.declared.Tagged.{Tagged}
use Rattle.items.specs.View.{tagged_at, item_said, item_at, item_of_tag, view_in, items_in}
use Rattle.results.specs.declared.OperationResult.{OperationResult}
use Rattle.results.specs.Record.{operation_fields, RecordMade, ItemPre, ItemsPre, items_item, TagsTo}
use Rattle.counters.specs.Total.{TotalTo, total_none, total_more, total_all, sum_from}

-- ---- a word's is at most its qubits'

other_le : (c : ℕ) → other c ≤ 1
other_le zero = omega arith
other_le (suc c) = omega arith

sum_le : (f : ℕ → ℕ) (n : ℕ) → ((i : ℕ) → f i ≤ 1) → sum_to f n ≤ n
unfolding sum_to
sum_le f zero h = le_refl 0
sum_le f (suc n) h = omega (arith, sum_le f n h, h n)

pub weight_le : (l : ℕ) (w : List ℕ) → weight l w ≤ 64 * l
unfolding weight
weight_le l w = sum_le (acts l w) (64 * l) (λ q. other_le (letter_at l w q))

-- ---- an axis's

pub record AxisPre (ws : List ℕ) (l a : ℕ) : Type 0 where
  pub word : axis_place l a + 2 * l ≤ length ws
  pub few : l ≤ 64

pub record AxisWeight (ws : List ℕ) (l a v : ℕ) : Type 0 where
  pub number : (n : ℕ) → a < n → v ≡ weight l (word_of (axes_of l n ws) a)
  pub small : v ≤ 64 * l

pub axis_weight : {ws : List ℕ} {l a v : ℕ} {p : List ℕ} → ((n : ℕ) → a < n → p ≡ word_of (axes_of l n ws) a) → v ≡ weight l p
    → AxisWeight ws l a v
axis_weight {ws} {l} {a} {v} {p} f e = record {
  number = λ n h. e ∙ ap (weight l) (f n h);
  small = let z = weight_le l p in omega arith;
}

-- ---- an item's

unfoldable pub weight_said : ℕ → List Operation → List (List ℕ) → Item → ℕ
weight_said l ops axes (rotation r) = weight l (word_of axes r.axis)
weight_said l ops axes (barrier o a s) = when is_measure (operation_at ops o).kind then 0 else weight l (word_of axes a)

pub record ItemAxisPre (os ws xs : List ℕ) (u l i : ℕ) : Type 0 where
  pub item : ItemPre os xs u i
  pub axis : AxisPre ws l (tagged_at xs u items_row i).axis

pub record ItemWeight (os ws : List ℕ) (l : ℕ) (x : Tagged) (v : ℕ) : Type 0 where
  pub number : (count n : ℕ) → x.tag ≤ count → x.axis < n → v ≡ weight_said l (operations_in count os) (axes_of l n ws) (item_said x)
  pub small : v ≤ 64 * l

-- a measurement's item weighs nothing
kind_of_lem : (op : Operation) (kind : Kind) (a s w : ℕ) (r : OperationResult) → operation_fields r ≡ barrier_record op kind a s
    → (when is_measure kind then 0 else w) ≡ (when is_measure (kind_said r.kind) then 0 else w)
unfolding barrier_record when◌then◌else◌
kind_of_lem op rotate a s w r e = let z : ◌≡◌ {A = ℕ} 6 0 = ap length e in absurd (omega arith)
kind_of_lem op measure a s w r e = let k : kind_number r.kind ≡ 2 = cc in rw (sym (number_test r.kind), k) refl
kind_of_lem op conditional a s w r e = let k : kind_number r.kind ≡ 3 = cc in rw (sym (number_test r.kind), k) refl

weighs : (l : ℕ) (ops : List Operation) (axes : List (List ℕ)) (t : ℕ) (x : Tagged) (r : OperationResult)
    → operation_fields r ≡ item_record ops (item_of_tag t x)
    → weight_said l ops axes (item_of_tag t x) ≡ (when is_measure (kind_said r.kind) then 0 else weight l (word_of axes x.axis))
unfolding weight_said item_record item_of_tag
weighs l ops axes zero x r e =
    let k : kind_number r.kind ≡ 1 = cc in
    sym (if_false _ _ (sym (number_test r.kind) ∙ ap (λ (y : ℕ). eqb y 2) k))
weighs l ops axes (suc o) x r e =
    let op = operation_at ops o in
    kind_of_lem op op.kind x.axis x.angle (weight l (word_of axes x.axis)) r e

pub weight_none : (os ws : List ℕ) (l : ℕ) (x : Tagged) (r : OperationResult) → RecordMade os x r → is_measure (kind_said r.kind) ≡ true
    → ItemWeight os ws l x 0
unfolding item_said
weight_none os ws l x r m e = record {
  number = λ count n h b. sym (weighs l (operations_in count os) (axes_of l n ws) x.tag x r (m count h) ∙ if_true _ _ e);
  small = omega arith;
}

pub weight_some : (os ws : List ℕ) (l : ℕ) (x : Tagged) (r : OperationResult) (v : ℕ) → RecordMade os x r
    → is_measure (kind_said r.kind) ≡ false → AxisWeight ws l x.axis v → ItemWeight os ws l x v
unfolding item_said
weight_some os ws l x r v m e a = record {
  number = λ count n h b. a.number n b ∙ sym (weighs l (operations_in count os) (axes_of l n ws) x.tag x r (m count h) ∙ if_false _ _ e);
  small = a.small;
}

-- ---- all items

pub record WeightPre (os ws xs : List ℕ) (u l k : ℕ) : Type 0 where
  pub items : ItemsPre os xs u k
  pub small : k ≤ 65535
  pub few : l ≤ 64
  pub words : (i : ℕ) → i < k → axis_place l (tagged_at xs u items_row i).axis + 2 * l ≤ length ws

pub weight_item : {os ws xs : List ℕ} {u l k : ℕ} → WeightPre os ws xs u l k → (i : ℕ) → i < k → ItemAxisPre os ws xs u l i
weight_item pre i h = record { item = items_item pre.items i h; axis = record { word = pre.words i h; few = pre.few } }

abbrev pub AxesTo : List ℕ → ℕ → ℕ → ℕ → Type 0
AxesTo xs u k n = (j : ℕ) → j < k → (tagged_at xs u items_row j).axis < n

abbrev pub weight_here : ℕ → ℕ → List ℕ → List ℕ → List ℕ → ℕ → ℕ → ℕ → ℕ
weight_here count n os ws xs u l j = weight_said l (operations_in count os) (axes_of l n ws) (item_at xs u items_row j)

pub record WeightTo (os ws xs : List ℕ) (u l k i v : ℕ) : Type 0 where
  pub number : (count n : ℕ) → TagsTo xs u k count → AxesTo xs u k n → TotalTo (weight_here count n os ws xs u l) k i v
  pub small : v ≤ 4096 * i

pub weigh_none : (os ws xs : List ℕ) (u l k : ℕ) → WeightTo os ws xs u l k 0 0
weigh_none os ws xs u l k = record { number = λ count n g h. total_none _ k; small = omega arith }

pub weigh_more : {os ws xs : List ℕ} {u l k i v m : ℕ} → l ≤ 64 → i < k → ItemWeight os ws l (tagged_at xs u items_row i) m
    → WeightTo os ws xs u l k i v → WeightTo os ws xs u l k (i + 1) (v + m)
weigh_more {os} {ws} {xs} {u} {l} {k} {i} {v} {m} f h e w = record {
  number = λ count n g b.
      total_more (weight_here count n os ws xs u l) k i v m h (e.number count n (g i h) (b i h)) (w.number count n g b);
  small = let a = w.small in let b = e.small in omega arith;
}

-- 01's weight after
abbrev pub WeightAfter : List ℕ → List ℕ → List ℕ → ℕ → ℕ → ℕ → ℕ → Type 0
WeightAfter os ws xs u l k v =
    (count n : ℕ) → TagsTo xs u k count → AxesTo xs u k n
    → v ≡ sum_of (weight_said l (operations_in count os) (axes_of l n ws)) (items_in xs u items_row 0 k)

pub weigh_all : {os ws xs : List ℕ} {u l k i v : ℕ} → k ≤ i → WeightTo os ws xs u l k i v → WeightAfter os ws xs u l k v
unfolding view_in
weigh_all {os} {ws} {xs} {u} {l} {k} {i} {v} h w count n g b =
    total_all (weight_here count n os ws xs u l) k i v h (w.number count n g b)
    ∙ sym (sum_from (weight_said l (operations_in count os) (axes_of l n ws)) (λ j. item_at xs u items_row j) 0 k)

-- it is the model's
pub weights_are : (p : Program) (w : Work) (i : Item) → weight_said (width p.qubits) p.operations w.store.axes i ≡ item_weight p w i
unfolding weight_said item_weight
weights_are p w (rotation r) = refl
weights_are p w (barrier o a s) = refl
