-- The counters of what comes out: T-count and plain rotations. Assumes nothing.
use Rattle.std.specs.Prelude.{◌≡◌, Bool, not, ◌&&◌, List, map, ℕ, ◌%◌, ◌≤◌, eqb}
use denote.Enum.Bare.{sameb}
use Rattle.std.proofs.Common.{sym, ap, ◌∙◌}
use Rattle.model.specs.Lists.{count_of, is_odd}
use Rattle.model.specs.Program.{field_of}
use Rattle.model.specs.Items.{is_rotation}
use Rattle.model.specs.Results.{item_record, result_t_count}
use Rattle.layout.specs.Rows.{items_row}
use Rattle.records.specs.declared.OperationKind.TheVariants.{Measure}
use Rattle.records.specs.contracts.OperationKind.{the_type}
use Rattle.records.specs.Kinds.{measure_test, number_test}
use Rattle.records.specs.Operations.{operations_in}
use Rattle.items.specs.declared.Tagged.{Tagged}
use Rattle.items.specs.View.{tagged_at, item_said, item_at, view_in, items_in, view_map}
use Rattle.results.specs.declared.OperationResult.{OperationResult}
use Rattle.results.specs.Record.{RecordMade, TagsTo}
use Rattle.results.specs.Operations.{record_said}
use Rattle.counters.specs.Total.{total, one_if, count_from}

-- ---- an odd rotation, plain or conditional

unfoldable pub is_odd_record : List ℕ → Bool
is_odd_record r = not (eqb (field_of r 0) 2) && is_odd (field_of r 3)

-- b says whether x is one
abbrev pub OddItem : List ℕ → Tagged → Bool → Type 0
OddItem os x b = (count : ℕ) → x.tag ≤ count → b ≡ is_odd_record (record_said count os x)

pub odd_item : (os : List ℕ) (x : Tagged) (r : OperationResult) {b : Bool} → RecordMade os x r
    → b ≡ not (sameb the_type r.kind Measure) && eqb (r.angle % 2) 1 → OddItem os x b
unfolding is_odd_record
odd_item os x r m e count h =
    e
    ∙ ap (λ (a : Bool). not a && eqb (r.angle % 2) 1) (measure_test r.kind ∙ sym (number_test r.kind))
    ∙ ap is_odd_record (m count h)

-- ---- those of the first k items

abbrev pub odd_here : ℕ → List ℕ → List ℕ → ℕ → ℕ → Bool
odd_here count os xs u j = is_odd_record (record_said count os (tagged_at xs u items_row j))

-- 01's T-count after
abbrev pub TCountAfter : List ℕ → List ℕ → ℕ → ℕ → ℕ → Type 0
TCountAfter os xs u k n =
    (count : ℕ) → TagsTo xs u k count → n ≡ result_t_count (map (item_record (operations_in count os)) (items_in xs u items_row 0 k))

pub odd_all : (count : ℕ) (os xs : List ℕ) (u k : ℕ)
    → total (λ j. one_if (odd_here count os xs u j)) 0 k
    ≡ result_t_count (map (item_record (operations_in count os)) (items_in xs u items_row 0 k))
unfolding result_t_count view_in is_odd_record
odd_all count os xs u k =
    sym (ap (count_of is_odd_record) (view_map item_said xs u items_row (item_record (operations_in count os)) 0 k)
    ∙ count_from is_odd_record (λ j. record_said count os (tagged_at xs u items_row j)) 0 k)

-- ---- plain rotations

abbrev pub rotation_here : List ℕ → ℕ → ℕ → ℕ
rotation_here xs u j = one_if (is_rotation (item_at xs u items_row j))

pub rotations_are : (xs : List ℕ) (u k : ℕ) → total (rotation_here xs u) 0 k ≡ count_of is_rotation (items_in xs u items_row 0 k)
unfolding view_in
rotations_are xs u k = sym (count_from is_rotation (λ j. item_at xs u items_row j) 0 k)
