-- A record's numbers as they stand in their slice, and the record that they say. Assumes nothing.
use Rattle.std.specs.Prelude.{◌≡◌, refl, List, ℕ, zero, suc, ◌+◌, ◌*◌, get_or}
use Rattle.std.proofs.Common.{add_assoc}
use Rattle.records.specs.declared.NodeNumbers.{NodeNumbers}
use Rattle.records.specs.declared.NodeRecord.{NodeRecord}
use Rattle.records.specs.declared.NodeRecord.TheVariants.{Identity, Letter, Product}
use Rattle.records.specs.declared.OperationNumbers.{OperationNumbers}
use Rattle.records.specs.declared.OperationRecord.{OperationRecord}
use Rattle.records.specs.Kinds.{kind_record}
use Rattle.records.specs.Records.{record_of_kind, node_record, operation_record}

-- ---- nodes

-- node n's five numbers
unfoldable pub node_numbers : List ℕ → ℕ → NodeNumbers
node_numbers s n = record {
  kind = get_or s (n * 5) 0;
  left = get_or s (n * 5 + 1) 0;
  left_phase = get_or s (n * 5 + 2) 0;
  right = get_or s (n * 5 + 3) 0;
  right_phase = get_or s (n * 5 + 4) 0;
}

abbrev pub numbered_by_kind : ℕ → NodeNumbers → NodeRecord
numbered_by_kind zero r = Identity
numbered_by_kind (suc zero) r = Letter r.left r.left_phase
numbered_by_kind (suc (suc k)) r = Product (record { node = r.left; phase = r.left_phase }) (record { node = r.right; phase = r.right_phase })

-- the node that they say
abbrev pub node_numbered : NodeNumbers → NodeRecord
node_numbered r = numbered_by_kind r.kind r

pub node_numbered_lem : (s : List ℕ) (n : ℕ) → node_numbered (node_numbers s n) ≡ node_record s n
unfolding node_numbers node_record record_of_kind
node_numbered_lem s n = go (get_or s (n * 5) 0)
  where
    go : (k : ℕ) → numbered_by_kind k (node_numbers s n) ≡ record_of_kind k s n
    go zero = refl
    go (suc zero) = refl
    go (suc (suc k)) = simp add_assoc

-- ---- operations

-- operation i's six numbers
unfoldable pub operation_numbers : List ℕ → ℕ → OperationNumbers
operation_numbers s i = record {
  kind = get_or s (i * 6) 0;
  node = get_or s (i * 6 + 1) 0;
  phase = get_or s (i * 6 + 2) 0;
  angle = get_or s (i * 6 + 3) 0;
  outcome = get_or s (i * 6 + 4) 0;
  target = get_or s (i * 6 + 5) 0;
}

-- the operation that they say
abbrev pub operation_numbered : OperationNumbers → OperationRecord
operation_numbered r = record {
  kind = kind_record r.kind;
  node = r.node;
  phase = r.phase;
  angle = r.angle;
  outcome = r.outcome;
  target = r.target;
}

pub operation_numbered_lem : (s : List ℕ) (i : ℕ) → operation_numbered (operation_numbers s i) ≡ operation_record s i
unfolding operation_numbers operation_record
operation_numbered_lem s i = refl
