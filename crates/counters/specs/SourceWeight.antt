-- The weight of the program that was handed in: before any operation drops out. Assumes nothing.
use Rattle.std.specs.Prelude.{◌≡◌, true, false, List, ℕ, ◌+◌, ◌*◌, ◌≤◌, ◌<◌, length}
use Rattle.std.proofs.Common.{sym, ap, ◌∙◌, subst, arith}
use Rattle.pauli.specs.Word.{width}
use Rattle.pauli.specs.Letter.{weight}
use Rattle.model.specs.Lists.{when◌then◌else◌, sum_of}
use Rattle.model.specs.Program.{is_measure, Operation, Program}
use Rattle.model.specs.Words.{word_of}
use Rattle.model.specs.Value.{value_at}
use Rattle.model.specs.Packing.{values_of}
use Rattle.model.specs.Results.{source_weight}
use Rattle.theory.specs.Cases.{if_true, if_false}
use Rattle.layout.specs.declared.Shape.{Shape}
use Rattle.layout.specs.Rows.{row_count}
use Rattle.layout.specs.Words.{axis_place}
use Rattle.axes.specs.View.{axes_of}
use Rattle.records.specs.declared.OperationRecord.{OperationRecord}
use Rattle.records.specs.Kinds.{kind_said}
use Rattle.records.specs.Records.{operation_record, operation_said}
use Rattle.records.specs.Operations.{operations_in, operation_here}
use Rattle.work.specs.Rows.{root_at}
use Rattle.work.specs.RowPut.{RootPre}
use Rattle.counters.specs.Total.{total, TotalTo, total_none, total_more, total_all, total_same, sum_from}
use Rattle.counters.specs.Source.{operations_from}
use Rattle.counters.specs.Weight.{AxisPre, AxisWeight}

-- ---- an operation's

pub record OperationPre (os ws xs : List ℕ) (u l i : ℕ) : Type 0 where
  pub record_here : i * 6 + 6 ≤ length os
  pub root : RootPre xs u i
  pub axis : AxisPre ws l (root_at xs u i).axis

unfoldable pub source_said : ℕ → List (List ℕ) → List ℕ → List ℕ → ℕ → ℕ → ℕ
source_said l axes os xs u i = when is_measure (operation_here os i).kind then 0 else weight l (word_of axes (root_at xs u i).axis)

pub record OperationWeight (os ws xs : List ℕ) (u l i v : ℕ) : Type 0 where
  pub number : (n : ℕ) → (root_at xs u i).axis < n → v ≡ source_said l (axes_of l n ws) os xs u i
  pub small : v ≤ 64 * l

measured : (os : List ℕ) (i : ℕ) (o : OperationRecord) → o ≡ operation_record os i
    → is_measure (kind_said o.kind) ≡ is_measure (operation_here os i).kind
unfolding operation_said
measured os i o e = ap (λ (x : OperationRecord). is_measure (kind_said x.kind)) e

pub source_none : (os ws xs : List ℕ) (u l i : ℕ) (o : OperationRecord) → o ≡ operation_record os i → is_measure (kind_said o.kind) ≡ true
    → OperationWeight os ws xs u l i 0
unfolding source_said
source_none os ws xs u l i o e t = record { number = λ n h. sym (if_true _ _ (sym (measured os i o e) ∙ t)); small = omega arith }

pub source_some : (os ws xs : List ℕ) (u l i : ℕ) (o : OperationRecord) (a v : ℕ) → o ≡ operation_record os i
    → is_measure (kind_said o.kind) ≡ false → a ≡ (root_at xs u i).axis → AxisWeight ws l a v → OperationWeight os ws xs u l i v
unfolding source_said
source_some os ws xs u l i o a v e t f w =
    let g = subst (λ (b : ℕ). AxisWeight ws l b v) f w in
    record { number = λ n h. g.number n h ∙ sym (if_false _ _ (sym (measured os i o e) ∙ t)); small = g.small }

pub record SourcePre (z : Shape) (os ws xs : List ℕ) : Type 0 where
  pub long : row_count * z.u ≤ length xs
  pub fits : z.operations ≤ z.u
  pub small : z.operations ≤ 65535
  pub few : z.l ≤ 64
  pub records : z.operations * 6 ≤ length os
  pub words : (i : ℕ) → i < z.operations → axis_place z.l (root_at xs z.u i).axis + 2 * z.l ≤ length ws

pub source_item : {z : Shape} {os ws xs : List ℕ} → SourcePre z os ws xs → (i : ℕ) → i < z.operations
    → OperationPre os ws xs z.u z.l i
source_item pre i h =
    let a = pre.fits in
    let b = pre.records in
    record {
      record_here = omega arith;
      root = record { long = pre.long; here = omega arith };
      axis = record { word = pre.words i h; few = pre.few };
    }

abbrev pub RootsTo : List ℕ → ℕ → ℕ → ℕ → Type 0
RootsTo xs u k n = (j : ℕ) → j < k → (root_at xs u j).axis < n

pub record SourceTo (os ws xs : List ℕ) (u l k i v : ℕ) : Type 0 where
  pub number : (n : ℕ) → RootsTo xs u k n → TotalTo (source_said l (axes_of l n ws) os xs u) k i v
  pub small : v ≤ 4096 * i

pub source_begin : (os ws xs : List ℕ) (u l k : ℕ) → SourceTo os ws xs u l k 0 0
source_begin os ws xs u l k = record { number = λ n g. total_none _ k; small = omega arith }

pub source_more : {os ws xs : List ℕ} {u l k i v m : ℕ} → l ≤ 64 → i < k → OperationWeight os ws xs u l i m → SourceTo os ws xs u l k i v
    → SourceTo os ws xs u l k (i + 1) (v + m)
source_more {os} {ws} {xs} {u} {l} {k} {i} {v} {m} f h e w = record {
  number = λ n g. total_more (source_said l (axes_of l n ws) os xs u) k i v m h (e.number n (g i h)) (w.number n g);
  small = let a = w.small in let b = e.small in omega arith;
}

-- the weight before, by the roots' axes
abbrev pub WeightBefore : List ℕ → List ℕ → List ℕ → ℕ → ℕ → ℕ → ℕ → Type 0
WeightBefore os ws xs u l k v = (n : ℕ) → RootsTo xs u k n → v ≡ total (source_said l (axes_of l n ws) os xs u) 0 k

pub source_end : {os ws xs : List ℕ} {u l k i v : ℕ} → k ≤ i → SourceTo os ws xs u l k i v → WeightBefore os ws xs u l k v
source_end {os} {ws} {xs} {u} {l} {k} {i} {v} h w n g = total_all (source_said l (axes_of l n ws) os xs u) k i v h (w.number n g)

-- it is the model's, where every operation's axis is its node's word
pub source_weight_lem : (p : Program) (axes : List (List ℕ)) (os xs : List ℕ) (u k : ℕ) → p.operations ≡ operations_in k os
    → ((i : ℕ) → i < k → word_of axes (root_at xs u i).axis ≡ (value_at (values_of p) (operation_here os i).node).word)
    → total (source_said (width p.qubits) axes os xs u) 0 k ≡ source_weight p
unfolding source_said source_weight
source_weight_lem p axes os xs u k e h =
    total_same _ _ 0 k
    (λ j a l. ap (λ (w : List ℕ). when is_measure (operation_here os j).kind then 0 else weight (width p.qubits) w) (h j (omega arith)))
    ∙ sym (sum_from of (operation_here os) 0 k)
    ∙ ap (sum_of of) (sym (e ∙ operations_from k os))
  where
    of : Operation → ℕ
    of o = when is_measure o.kind then 0 else weight (width p.qubits) (value_at (values_of p) o.node).word
