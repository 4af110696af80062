-- A program's records as the code reads them, and the model's nodes, operations and rows. Assumes nothing.
use Rattle.std.specs.Prelude.{◌≡◌, refl, List, [], map, ℕ, zero, suc, ◌+◌, ◌*◌, ◌≤◌, ◌<◌, get_or}
use Rattle.std.proofs.Common.{ap, ◌∙◌, add-zero, add_assoc, arith, ltb-true}
use Rattle.std.proofs.Math.ListN.{get_or-map}
use Rattle.store.specs.Part.{part, part_at}
use Rattle.store.specs.Chunk.{chunks, chunks_at}
use Rattle.model.specs.Program.{Node, identity, letter, product, node_of_kind, node_of, Operation, operation_of, PauliRef, row_of}
use Rattle.model.specs.Results.{no_operation}
use Rattle.records.specs.declared.Factor.{Factor}
use Rattle.records.specs.declared.NodeRecord.{NodeRecord}
use Rattle.records.specs.declared.NodeRecord.TheVariants.{Identity, Letter, Product}
use Rattle.records.specs.declared.OperationRecord.{OperationRecord}
use Rattle.records.specs.declared.RowRecord.{RowRecord}
use Rattle.records.specs.Kinds.{kind_record, kind_said, kind_of_lem}

-- ---- a record's fields, in the order of 01

abbrev pub factor_record : List ℕ → ℕ → Factor
factor_record s at = record { node = get_or s at 0; phase = get_or s (at + 1) 0 }

unfoldable pub record_of_kind : ℕ → List ℕ → ℕ → NodeRecord
record_of_kind zero s n = Identity
record_of_kind (suc zero) s n = Letter (get_or s (n * 5 + 1) 0) (get_or s (n * 5 + 2) 0)
record_of_kind (suc (suc k)) s n = Product (factor_record s (n * 5 + 1)) (factor_record s (n * 5 + 3))

unfoldable pub node_record : List ℕ → ℕ → NodeRecord
node_record s n = record_of_kind (get_or s (n * 5) 0) s n

pub product_record : (k : ℕ) (s : List ℕ) (n : ℕ) → 2 ≤ k → record_of_kind k s n ≡ Product (factor_record s (n * 5 + 1)) (factor_record s (n * 5 + 3))
unfolding record_of_kind
product_record zero s n h = absurd (omega arith)
product_record (suc zero) s n h = absurd (omega arith)
product_record (suc (suc k)) s n h = refl

unfoldable pub operation_record : List ℕ → ℕ → OperationRecord
operation_record s i = record {
  kind = kind_record (get_or s (i * 6) 0);
  node = get_or s (i * 6 + 1) 0;
  phase = get_or s (i * 6 + 2) 0;
  angle = get_or s (i * 6 + 3) 0;
  outcome = get_or s (i * 6 + 4) 0;
  target = get_or s (i * 6 + 5) 0;
}

unfoldable pub row_record : List ℕ → ℕ → RowRecord
row_record s i = record {
  qubit = get_or s (i * 4) 0;
  half = get_or s (i * 4 + 1) 0;
  node = get_or s (i * 4 + 2) 0;
  phase = get_or s (i * 4 + 3) 0;
}

-- ---- what a record says, in the model's words

abbrev pub node_said : NodeRecord → Node
node_said Identity = identity
node_said (Letter q c) = letter q c
node_said (Product a b) = product a.node a.phase b.node b.phase

unfoldable pub operation_said : OperationRecord → Operation
operation_said r = record {
  kind = kind_said r.kind;
  node = r.node;
  phase = r.phase;
  angle = r.angle;
  outcome = r.outcome;
  target = r.target;
}

-- a row's place says its qubit and half
unfoldable pub row_said : RowRecord → PauliRef
row_said r = record { node = r.node; phase = r.phase }

-- ---- record i of the counted ones is the model's i

-- for any width and any reading f of a record's numbers
said_at : {B : Type 0} (f : List ℕ → B) (w count : ℕ) (s : List ℕ) (i : ℕ) → i < count
    → get_or (map f (chunks w count s)) i (f []) ≡ f (part s (i * w) w)
said_at f w count s i l = get_or-map f (chunks w count s) i [] ∙ ap f (chunks_at w count s i l)

-- field 0 stands where its record does
part_first : (s : List ℕ) (b n : ℕ) → 0 < n → get_or (part s b n) 0 0 ≡ get_or s b 0
part_first s b n h = part_at s b n 0 h ∙ ap (λ (t : ℕ). get_or s t 0) (add-zero b)

node_of_lem : (k : ℕ) (s : List ℕ) (n : ℕ) → node_of_kind k (part s (n * 5) 5) ≡ node_said (record_of_kind k s n)
unfolding node_of_kind record_of_kind
node_of_lem zero s n = refl
node_of_lem (suc zero) s n = simp (part_at, ltb-true)
node_of_lem (suc (suc k)) s n = simp (part_at, ltb-true, add_assoc)

pub node_said_lem : (count : ℕ) (s : List ℕ) (n : ℕ) → n < count
    → get_or (map node_of (chunks 5 count s)) n identity ≡ node_said (node_record s n)
unfolding node_of node_of_kind node_record
node_said_lem count s n l =
    said_at node_of 5 count s n l
    ∙ ap (λ (k : ℕ). node_of_kind k (part s (n * 5) 5)) (part_first s (n * 5) 5 (omega arith))
    ∙ node_of_lem (get_or s (n * 5) 0) s n

pub operation_said_lem : (count : ℕ) (s : List ℕ) (i : ℕ) → i < count
    → get_or (map operation_of (chunks 6 count s)) i no_operation ≡ operation_said (operation_record s i)
unfolding operation_of no_operation operation_said operation_record
operation_said_lem count s i l = said_at operation_of 6 count s i l ∙ simp (part_first, part_at, ltb-true, kind_of_lem)

pub row_said_lem : (count : ℕ) (s : List ℕ) (i : ℕ) → i < count
    → get_or (map row_of (chunks 4 count s)) i (record { node = 0; phase = 0 }) ≡ row_said (row_record s i)
unfolding row_of row_said row_record
row_said_lem count s i l = said_at row_of 4 count s i l ∙ simp (part_at, ltb-true)
