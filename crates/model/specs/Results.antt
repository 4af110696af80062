-- 01, "Listing program" and "What takes another form": the records and the counters of a run that finished. Assumes nothing.
use Rattle.std.specs.Prelude.{Bool, true, false, not, ◌&&◌, List, [], ◌∷◌, map, ℕ, suc, ◌/◌, ◌%◌, eqb, get_or}
use Rattle.pauli.specs.Word.{width}
use Rattle.pauli.specs.Letter.{weight}
use Rattle.model.specs.declared.Counters.{Counters}
use Rattle.model.specs.Lists.{when◌then◌else◌, count_of, sum_of, is_odd}
use Rattle.model.specs.Program.{field_of, no_outcome, minus_one, Kind, rotate, measure, conditional, is_measure, is_rotate, Operation, PauliRef}
use Rattle.model.specs.Program.{Program}
use Rattle.model.specs.Rules.{Rules}
use Rattle.model.specs.Words.{word_of}
use Rattle.model.specs.Value.{value_at}
use Rattle.model.specs.Roots.{is_root}
use Rattle.model.specs.Packing.{values_of, SignedAxis}
use Rattle.model.specs.Items.{Item, rotation, barrier, with_sign, is_rotation}
use Rattle.model.specs.Depth.{t_depth}
use Rattle.model.specs.Rounds.{Work}
use Rattle.model.specs.Run.{Finished}

-- ---- operations: "operations (kind, id, sign, angle, outcome, target)"

-- 1 or -1
abbrev pub sign_field : ℕ → ℕ
sign_field s = when eqb s 0 then 1 else minus_one

-- for an index outside the program
unfoldable pub no_operation : Operation
no_operation = record { kind = rotate; node = 0; phase = 0; angle = 0; outcome = 0; target = 0 }

abbrev pub operation_at : List Operation → ℕ → Operation
operation_at ops o = get_or ops o no_operation

-- "Only a measurement keeps its sign; rotations, conditional too, have sign 1 and take theirs into the angle, 0 to 7";
-- "in results an unused outcome or target is -1, a measurement's angle 0"
unfoldable pub barrier_record : Operation → Kind → ℕ → ℕ → List ℕ
barrier_record op rotate a s = []
barrier_record op measure a s = 2 ∷ a ∷ sign_field s ∷ 0 ∷ op.outcome ∷ op.target ∷ []
barrier_record op conditional a s = 3 ∷ a ∷ 1 ∷ with_sign s op.angle ∷ op.outcome ∷ no_outcome ∷ []

unfoldable pub item_record : List Operation → Item → List ℕ
item_record ops (rotation r) = 1 ∷ r.axis ∷ 1 ∷ r.angle ∷ no_outcome ∷ no_outcome ∷ []
item_record ops (barrier o a s) = barrier_record (operation_at ops o) (operation_at ops o).kind a s

unfoldable pub operation_results : Program → Work → List (List ℕ)
operation_results p w = map (item_record p.operations) w.items

-- ---- rows: "rows (qubit, row, id, sign; kept is -1, 0, for a row that is no root, and for all rows if no pass absorbed anything)"

unfoldable pub kept_row : ℕ → List ℕ
kept_row i = i / 2 ∷ i % 2 ∷ minus_one ∷ 0 ∷ []

unfoldable pub given_row : ℕ → SignedAxis → List ℕ
given_row i f = i / 2 ∷ i % 2 ∷ f.axis ∷ sign_field f.sign ∷ []

-- row i, and the axes that are left for the root rows after it
unfoldable pub row_record : Bool → ℕ → List SignedAxis → List ℕ
row_record false i fs = kept_row i
row_record true i [] = kept_row i
row_record true i (f ∷ fs) = given_row i f

unfoldable pub axes_left : Bool → List SignedAxis → List SignedAxis
axes_left false fs = fs
axes_left true [] = []
axes_left true (f ∷ fs) = fs

unfoldable pub row_results_from : Program → ℕ → List PauliRef → List SignedAxis → List (List ℕ)
row_results_from p i [] fs = []
row_results_from p i (r ∷ rest) fs = row_record (is_root p r) i fs ∷ row_results_from p (suc i) rest (axes_left (is_root p r) fs)

unfoldable pub row_results : Program → Work → List (List ℕ)
row_results p w = row_results_from p 0 p.rows (when eqb w.absorbed 0 then [] else w.rows)

-- ---- counters: "T-count counts odd rotations, plain and conditional; rotation counts, plain ones; weights, the letters other than I of both
-- kinds"

-- "The source's T-count is taken over the counted operation records handed in, before any drops out"
unfoldable pub source_t_count : List Operation → ℕ
source_t_count = count_of (λ (o : Operation). not (is_measure o.kind) && is_odd o.angle)

-- "a result's over the operations that come out"
unfoldable pub result_t_count : List (List ℕ) → ℕ
result_t_count = count_of (λ (r : List ℕ). not (eqb (field_of r 0) 2) && is_odd (field_of r 3))

unfoldable pub source_rotations : List Operation → ℕ
source_rotations = count_of (λ (o : Operation). is_rotate o.kind)

unfoldable pub source_weight : Program → ℕ
source_weight p =
    sum_of (λ (o : Operation). (when is_measure o.kind then 0 else weight (width p.qubits) (value_at (values_of p) o.node).word))
    p.operations

unfoldable pub item_weight : Program → Work → Item → ℕ
item_weight p w (rotation r) = weight (width p.qubits) (word_of w.store.axes r.axis)
item_weight p w (barrier o a s) =
    when is_measure (operation_at p.operations o).kind then 0 else weight (width p.qubits) (word_of w.store.axes a)

-- "T-depths are 0 where `measure_depth` is off"
unfoldable pub depth_of : Rules → Program → Work → ℕ
depth_of r p w = when r.depth then t_depth (width p.qubits) w.store.axes w.items else 0

unfoldable pub counters_of : Rules → Program → Finished → Counters
counters_of r p f = record {
  t_before = source_t_count p.operations;
  t_after = result_t_count (operation_results p f.end);
  rotations_before = source_rotations p.operations;
  rotations_after = count_of is_rotation f.end.items;
  merges = f.end.merges;
  swaps = f.end.swaps;
  cliffords_to_frame = f.end.absorbed;
  t_depth_before = depth_of r p f.start;
  t_depth_after = depth_of r p f.end;
  weight_before = source_weight p;
  weight_after = sum_of (item_weight p f.end) f.end.items;
  packed_words = f.end.store.peak;
}
