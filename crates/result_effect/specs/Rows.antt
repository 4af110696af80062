-- The rows' records of a result mean the rows of the program, a root's carried as the work has it. Assumes nothing.
use Rattle.std.specs.Prelude.{◌≡◌, Bool, eqb, drop}
use Rattle.std.proofs.Math.Path.{refl, ap, ap₂}
use Rattle.std.proofs.Common.{◌∙◌, length-append, eq-eqb}
use Rattle.std.proofs.Math.Bool.{true, false}
use mathlib.Core.List.{List, [], ◌∷◌, ◌++◌, map}
use Prim.Native.Nat.{ℕ, zero, suc, ◌+◌, ◌*◌, ◌/◌, ◌%◌}
use native.Mathlib.Omega.{arith}
use Rattle.std.proofs.Math.ListN.{length}
use Rattle.std.proofs.lemmas.List.{length-map}
use Rattle.pauli.specs.Word.{width}
use Rattle.model.specs.Lists.{when◌then◌else◌}
use Rattle.model.specs.Program.{PauliRef, Program}
use Rattle.model.specs.Rules.{Rules}
use Rattle.model.specs.Roots.{is_root, root_rows}
use Rattle.model.specs.Packing.{packed, SignedAxis, signed_axis, values_of}
use Rattle.model.specs.Stream.{Pass, Rowed, carry_axis, stream, carry_rows_from, carry_rows, begin}
use Rattle.model.specs.Rounds.{Work, stream_pass, exchange_pass, layering_pass}
use Rattle.model.specs.Run.{start_of, end_of}
use Rattle.model.specs.Results.{sign_field, kept_row, given_row, row_record, axes_left, row_results_from, row_results}
use Rattle.theory.specs.Cases.{by_if, if_true}
use Rattle.theory.specs.Every.{Every}
use Rattle.theory.specs.Lists.{drop_head}
use Rattle.theory.specs.Checked.{Fine}
use Rattle.words_wellformed.specs.HeldImages.{IsSign}
use Rattle.words_wellformed.specs.Wellformed.{RowSign}
use Rattle.run_wellformed.specs.Points.{Reached, start, streamed, exchanged, layered, passes_reached}
use Rattle.run_wellformed.specs.Signs.{point_signs}
use Rattle.effect.specs.Phase.{Quarter, quarter}
use Rattle.packing_effect.specs.Source.{source_row, axis_word, packed_row}
use Rattle.result_effect.specs.Definitions.{turns_read, no_row, row_at, result_row, result_rows, work_row, work_rows_from, work_rows}

-- ---- one record

module _ {W : Type 0} (word : List ℕ → W) (p : Program) (axes : List (List ℕ)) where
  -- a kept row's place says which row of the source it is
  kept_row_lem : (i : ℕ) (r : PauliRef) → row_at p.rows i ≡ r → result_row word p axes (kept_row i) ≡ source_row word p r
  unfolding result_row kept_row when◌then◌else◌
  kept_row_lem i r e =
      let place : 2 * (i / 2) + i % 2 ≡ i = omega arith in
      ap (λ (n : ℕ). source_row word p (row_at p.rows n)) place ∙ ap (source_row word p) e

  -- a sign as it is written is not 0, and is read as it was
  sign_read_lem : (s : ℕ) → IsSign s → (x : Quarter × W) (Q : W) → (when eqb (sign_field s) 0 then x else (turns_read (sign_field s), Q)) ≡ (quarter s, Q)
  unfolding turns_read quarter when◌then◌else◌
  sign_read_lem zero h x Q = refl
  sign_read_lem (suc zero) h x Q = absurd (omega arith)
  sign_read_lem (suc (suc zero)) h x Q = refl
  sign_read_lem (suc (suc (suc s))) h x Q = absurd (omega arith)

  given_row_lem : (i : ℕ) (f : SignedAxis) → RowSign f → result_row word p axes (given_row i f) ≡ packed_row word axes f
  unfolding result_row given_row
  given_row_lem i f h = sign_read_lem f.sign h _ (axis_word word axes f.axis)

  row_record_lem : (b : Bool) (i : ℕ) (r : PauliRef) (fs : List SignedAxis) → row_at p.rows i ≡ r → Every RowSign fs
      → result_row word p axes (row_record b i fs) ≡ work_row word p axes b r fs
  unfolding row_record work_row
  row_record_lem false i r fs e h = kept_row_lem i r e
  row_record_lem true i r [] e h = kept_row_lem i r e
  row_record_lem true i r (f ∷ fs) e h = given_row_lem i f h.0

  left_signs : (b : Bool) (fs : List SignedAxis) → Every RowSign fs → Every RowSign (axes_left b fs)
  unfolding axes_left
  left_signs false fs h = h
  left_signs true [] h = tt
  left_signs true (f ∷ fs) h = h.1

  -- from row i on
  rows_records : (i : ℕ) (rest : List PauliRef) (fs : List SignedAxis) → drop i p.rows ≡ rest → Every RowSign fs
      → map (result_row word p axes) (row_results_from p i rest fs) ≡ work_rows_from word p axes rest fs
  unfolding row_results_from work_rows_from
  rows_records i [] fs e h = refl
  rows_records i (r ∷ rest) fs e h =
      let d = drop_head p.rows i r no_row rest e in
      ap₂ (λ (x : Quarter × W) (xs : List (Quarter × W)). x ∷ xs) (row_record_lem (is_root p r) i r fs d.0 h)
      (rows_records (suc i) rest (axes_left (is_root p r) fs) d.1 (left_signs (is_root p r) fs h))

-- the records of a work's rows mean the work's rows
pub row_results_rows : {W : Type 0} (word : List ℕ → W) (p : Program) (w : Work) → Every RowSign w.rows
    → result_rows word p w.store.axes (row_results p w) ≡ work_rows word p w
unfolding result_rows row_results work_rows
row_results_rows word p w h =
    rows_records word p w.store.axes 0 p.rows (when eqb w.absorbed 0 then [] else w.rows) refl (by_if (Every RowSign) _ [] w.rows tt h)

-- ---- there is a row of the work for each root row

one_more : (done : List SignedAxis) (f : SignedAxis) (n : ℕ) → length (done ++ (f ∷ [])) + n ≡ length done + suc n
one_more done f n = omega (arith, length-append done (f ∷ []))

module _ (l : ℕ) where
  carry_rows_from_length : (p : Pass) (done rows : List SignedAxis) → length (carry_rows_from l p done rows).rows ≡ length done + length rows
  unfolding carry_rows_from
  carry_rows_from_length p done [] = omega arith
  carry_rows_from_length p done (f ∷ rest) =
      carry_rows_from_length (carry_axis l p f.axis) _ rest ∙ one_more done _ (length rest)

  carry_rows_length : (p : Pass) (rows : List SignedAxis) → length (carry_rows l p rows).rows ≡ length rows
  unfolding carry_rows
  carry_rows_length p rows =
      by_if (λ (x : Rowed). length x.rows ≡ length rows) _ _ _ refl (let e = carry_rows_from_length p [] rows in omega arith)

  -- each pass leaves as many rows as it finds
  pub reached_rows : (r : Rules) {w v : Work} → Reached l r w v → length v.rows ≡ length w.rows
  unfolding stream_pass exchange_pass layering_pass
  reached_rows r start = refl
  reached_rows r (streamed {v} merging h) = carry_rows_length (stream l r merging (begin v.store) v.items) v.rows ∙ reached_rows r h
  reached_rows r {w} (exchanged {v} h) = by_if (λ (x : Work). length x.rows ≡ length w.rows) _ _ _ (reached_rows r h) (reached_rows r h)
  reached_rows r (layered h) = reached_rows r h

-- at every point of a run there are as many rows as root rows
pub point_rows_length : (p : Program) (r : Rules) {v : Work} → Reached (width p.qubits) r (start_of p) v → length v.rows ≡ length (root_rows p)
point_rows_length p r h = reached_rows (width p.qubits) r h ∙ began
  where
    began : length (start_of p).rows ≡ length (root_rows p)
    began = unfold start_of in (length-map (root_rows p) (signed_axis (packed p).store.axes (values_of p)))

-- ---- where nothing was absorbed

module _ {W : Type 0} (word : List ℕ → W) (p : Program) where
  -- all rows are the source's
  none_left : (axes : List (List ℕ)) (rest : List PauliRef) → work_rows_from word p axes rest [] ≡ map (source_row word p) rest
  unfolding work_rows_from
  none_left axes [] = refl
  none_left axes (r ∷ rest) = go (is_root p r) (none_left axes rest)
    where
      go : (b : Bool) → work_rows_from word p axes rest [] ≡ map (source_row word p) rest
          → work_row word p axes b r [] ∷ work_rows_from word p axes rest (axes_left b []) ≡ source_row word p r ∷ map (source_row word p) rest
      go false e = unfold work_row axes_left in (ap (λ (xs : List (Quarter × W)). source_row word p r ∷ xs) e)
      go true e = unfold work_row axes_left in (ap (λ (xs : List (Quarter × W)). source_row word p r ∷ xs) e)

  -- "and for all rows if no pass absorbed anything"
  pub work_rows_kept : (w : Work) → w.absorbed ≡ 0 → work_rows word p w ≡ map (source_row word p) p.rows
  unfolding work_rows
  work_rows_kept w e =
      ap (work_rows_from word p w.store.axes p.rows) (if_true [] w.rows (eq-eqb w.absorbed 0 e)) ∙ none_left w.store.axes p.rows

-- ---- every point of a run, and its end

module _ (p : Program) (fine : Fine p) (hermitian : (packed p).refused ≡ false) (r : Rules) {W : Type 0} (word : List ℕ → W) where
  -- at every point the records mean the rows
  pub point_rows : {v : Work} → Reached (width p.qubits) r (start_of p) v
      → result_rows word p v.store.axes (row_results p v) ≡ work_rows word p v
  point_rows {v} h = row_results_rows word p v (point_signs p fine hermitian r h).rows

  -- and at the end
  pub end_rows : (rounds : ℕ)
      → result_rows word p (end_of r rounds p).store.axes (row_results p (end_of r rounds p)) ≡ work_rows word p (end_of r rounds p)
  unfolding end_of
  end_rows rounds = point_rows (passes_reached (width p.qubits) r (start_of p) r.strategy rounds)
