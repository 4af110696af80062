-- At the end of a run: what the writing of results asks is granted, and what it writes is 01's. Assumes nothing.
use Rattle.std.specs.Prelude.{◌≡◌, refl, Bool, not, eqb, get_or, drop}
use Rattle.std.proofs.Math.Path.{sym, ap, subst}
use Rattle.std.proofs.Common.{◌∙◌, suc-mul, zero-mul, arith, take-add}
use mathlib.Core.List.{List, ◌++◌, map, flatten}
use Prim.Native.Nat.{ℕ, zero, suc, ◌+◌, ◌-◌, ◌*◌, ◌≤◌, ◌<◌}
use Rattle.std.proofs.Math.ListN.{length, take}
use Rattle.std.proofs.Math.Seq.{length-take-le}
use Rattle.store.specs.Chunk.{chunks, chunk_in}
use Rattle.model.specs.Program.{is_rotate, Operation, row_of, Program, program_of}
use Rattle.model.specs.Items.{rot, Item, rotation, barrier}
use Rattle.model.specs.Rounds.{Work}
use Rattle.model.specs.Results.{operation_at, item_record, operation_results, row_results}
use Rattle.model.specs.Rewriting.{then_zeros}
use Rattle.theory.specs.Checked.{angles_small, records_length}
use Rattle.theory.specs.Every.{Every}
use Rattle.theory.specs.StreamState.{barriers_of}
use Rattle.layout.specs.declared.Shape.{Shape}
use Rattle.layout.specs.Rows.{items_row}
use Rattle.layout.specs.Words.{axis_place}
use Rattle.layout.specs.Shape.{Granted}
use Rattle.axes.specs.View.{axes_of}
use Rattle.records.specs.Records.{operation_said}
use Rattle.records.specs.Operations.{operations_in, operations_count, operation_here_lem}
use Rattle.records.specs.Given.{Given, program_in, operations_in_lem}
use Rattle.items.specs.declared.Tagged.{Tagged}
use Rattle.items.specs.View.{tagged_at, item_said, items_in, said_other, view_at_0, view_length}
use Rattle.work.specs.Work.{WorkIn}
use Rattle.results.specs.Record.{RecordPre, ItemsPre, TagsTo}
use Rattle.results.specs.Barriers.{BarrierOf, barrier_among}
use Rattle.results.specs.Zeros.{zeroed_from}
use Rattle.results.specs.Operations.{WritePre, ResultsWritten}
use Rattle.results.specs.Rows.{RowsPre, rows_to, rows_are}

-- words one behind the other are the front of their store
chunks_flat : (k n : ℕ) (s : List ℕ) → flatten (chunks k n s) ≡ take (n * k) s
unfolding chunks flatten
chunks_flat k zero s = ap (λ (m : ℕ). take m s) (sym (zero-mul k))
chunks_flat k (suc n) s =
    ap (λ (t : List ℕ). take k s ++ t) (chunks_flat k n (drop k s))
    ∙ sym (take-add k (n * k) s)
    ∙ ap (λ (m : ℕ). take m s) (let e : k + n * k ≡ suc n * k = omega (arith, suc-mul n k) in e)

-- ---- operations

module _ {z : Shape} {ns os rs : List ℕ} (given : Given z ns os rs) {w : Work} {n k peak : ℕ} {ws xs : List ℕ}
    (granted : Granted z ws xs) (work : WorkIn z (program_in z ns os rs) w n k peak ws xs)
    (barriers : Every (BarrierOf (program_in z ns os rs).operations) (barriers_of w.items)) where
  abbrev p : Program
  p = program_in z ns os rs

  -- an entry's operation
  entry_barrier : (i : ℕ) → i < k → ((tagged_at xs z.u items_row i).tag ≡ 0 → ⊥)
      → BarrierOf (operations_in z.operations os) ((tagged_at xs z.u items_row i).tag - 1)
  entry_barrier i h t =
      let x : Tagged = tagged_at xs z.u items_row i in
      let d : Item = rotation (rot 0 0) in
      let e : get_or w.items i d ≡ barrier (x.tag - 1) x.axis x.angle =
      sym (ap (λ (is : List Item). get_or is i d) work.items) ∙ view_at_0 item_said xs z.u items_row k i d h ∙ said_other x t in
      let l : i < length w.items = omega (arith, sym (ap length work.items) ∙ view_length item_said xs z.u items_row 0 k) in
      subst (λ (ops : List Operation). BarrierOf ops (x.tag - 1)) (operations_in_lem z ns os rs)
      (barrier_among (BarrierOf p.operations) w.items i (x.tag - 1) x.axis x.angle d barriers l e)

  entry_pre : (i : ℕ) → i < k → RecordPre os (tagged_at xs z.u items_row i)
  unfolding operation_said
  entry_pre i h t =
      let o : ℕ = (tagged_at xs z.u items_row i).tag - 1 in
      let ops : List Operation = operations_in z.operations os in
      let b = entry_barrier i h t in
      let in_all : o < z.operations = omega (arith, b.0, operations_count z.operations os) in
      let said = operation_here_lem z.operations os o in_all in
      let small = subst (λ (l : List Operation). (operation_at l o).angle ≤ 7) (operations_in_lem z ns os rs)
      (angles_small p.operations given.fine.angles o) in
      record {
        long = omega (arith, chunk_in 6 z.operations o in_all, given.operations_long);
        kind = sym (ap (λ (x : Operation). is_rotate x.kind) said) ∙ b.1;
        angle = rw said at small;
      }

  -- the items are there
  pub items_pre : ItemsPre os xs z.u k
  items_pre =
      let a = work.fits in
      let b = granted.sized.row in
      record { long = granted.numbers_long; fits = omega arith; barriers = entry_pre }

  -- what writing the operations asks
  pub write_pre : (to : List ℕ) → 6 * z.operations ≤ length to → WritePre os xs z.u k to
  write_pre to h =
      let a = work.fits in
      record { items = items_pre; room = omega arith }

  pub tags_small : TagsTo xs z.u k z.operations
  tags_small i h = go (tagged_at xs z.u items_row i).tag refl
    where
      go : (t : ℕ) → (tagged_at xs z.u items_row i).tag ≡ t → t ≤ z.operations
      go zero e = omega arith
      go (suc t) e =
          let n : (tagged_at xs z.u items_row i).tag ≡ 0 → ⊥ = λ f. omega arith in
          omega (arith, (entry_barrier i h n).0, operations_count z.operations os)

  -- "results, then zeros"
  pub operations_written : {to t : List ℕ} → ResultsWritten os xs z.u k to t → t ≡ then_zeros to (flatten (operation_results p w))
  unfolding operation_results
  operations_written {to} {t} r =
      r.results z.operations tags_small
      ∙ ap (λ (ops : List Operation). then_zeros to (flatten (map (item_record ops) (items_in xs z.u items_row 0 k))))
      (sym (operations_in_lem z ns os rs))
      ∙ ap (λ (is : List Item). then_zeros to (flatten (map (item_record p.operations) is))) work.items

  -- ---- rows

  rows_count : length p.rows ≡ 2 * z.qubits
  unfolding program_in program_of
  rows_count = records_length row_of 4 (2 * z.qubits) rs

  pub rows_pre : (to : List ℕ) → 8 * z.qubits ≤ length to → RowsPre z xs to
  rows_pre to h =
      let b = granted.sized.row in
      record { long = granted.numbers_long; fits = omega arith; few = granted.sized.qubits; room = h }

  pub rows_written_are : (to : List ℕ) {t : List ℕ} (changed : Bool) → changed ≡ not (eqb w.absorbed 0)
      → t ≡ then_zeros to (rows_to changed z xs (2 * z.qubits)) → t ≡ then_zeros to (flatten (row_results p w))
  rows_written_are to changed c e = e ∙ ap (then_zeros to) (rows_are p z w xs changed work.frame c rows_count)

  -- ---- words: "axis words, then zeros"

  pub words_zeroed : {v : List ℕ} → v ≡ zeroed_from ws (axis_place z.l n) → v ≡ then_zeros ws (flatten w.store.axes)
  unfolding zeroed_from then_zeros axes_of
  words_zeroed {v} e =
      let m : ℕ = axis_place z.l n in
      let long : m ≤ length ws = omega (arith, work.axes.within, work.axes.words_long) in
      let f : take m ws ≡ flatten w.store.axes = sym (chunks_flat (2 * z.l) n ws) ∙ ap flatten work.axes.are in
      let l : length (flatten w.store.axes) ≡ m = sym (ap length f) ∙ length-take-le m ws long in
      rw (l, sym f) e
