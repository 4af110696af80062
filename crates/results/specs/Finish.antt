-- The last step of an accepted run: results written, both work stores cleaned. Assumes nothing.
use Rattle.std.specs.Prelude.{◌≡◌, refl, Bool, not, ℕ, ◌*◌, ◌≤◌, eqb, length}
use Rattle.std.proofs.Common.{ap, ◌∙◌, arith}
use mathlib.Core.List.{List, flatten}
use Rattle.model.specs.Rounds.{Work}
use Rattle.model.specs.Results.{operation_results, row_results}
use Rattle.model.specs.Rewriting.{then_zeros, zeros}
use Rattle.model.specs.Checking.{Lent}
use Rattle.theory.specs.Every.{Every}
use Rattle.theory.specs.StreamState.{barriers_of}
use Rattle.layout.specs.declared.Shape.{Shape}
use Rattle.layout.specs.Words.{axis_place}
use Rattle.layout.specs.Shape.{Granted}
use Rattle.records.specs.Given.{Given, program_in}
use Rattle.work.specs.Work.{WorkIn}
use Rattle.results.specs.Zeros.{zeroed_from, then_same, zeros_same}
use Rattle.results.specs.Operations.{WritePre, ResultsWritten}
use Rattle.results.specs.Rows.{RowsPre, rows_to}
use Rattle.results.specs.Barriers.{BarrierOf}
use Rattle.results.specs.Ended.{write_pre, operations_written, rows_pre, rows_written_are, words_zeroed}

-- k items, n axes
pub record FinishPre (z : Shape) (os : List ℕ) (k n : ℕ) (ws xs to rt : List ℕ) : Type 0 where
  pub operations : WritePre os xs z.u k to
  pub rows : RowsPre z xs rt
  pub axes : axis_place z.l n ≤ length ws
  pub few : z.l ≤ 64

pub record Finished (z : Shape) (os : List ℕ) (k n : ℕ) (changed : Bool) (ws xs to rt ws' xs' to' rt' : List ℕ) : Type 0 where
  pub operations : ResultsWritten os xs z.u k to to'
  pub rows : rt' ≡ then_zeros rt (rows_to changed z xs (2 * z.qubits))
  pub words : ws' ≡ zeroed_from ws (axis_place z.l n)
  pub numbers : xs' ≡ zeros xs

pub finished : {z : Shape} {os : List ℕ} {k n : ℕ} {changed : Bool} {ws xs to rt ws' xs' to' rt' : List ℕ} {a : ℕ}
    → ResultsWritten os xs z.u k to to' → rt' ≡ then_zeros rt (rows_to changed z xs (2 * z.qubits)) → a ≡ axis_place z.l n
    → (ws' ≡ zeroed_from ws a) × (xs' ≡ zeros xs) → Finished z os k n changed ws xs to rt ws' xs' to' rt'
finished {ws = ws} o r e c = record { operations = o; rows = r; words = c.0 ∙ ap (zeroed_from ws) e; numbers = c.1 }

module _ {z : Shape} {ns os rs : List ℕ} (given : Given z ns os rs) {w : Work} {n k peak : ℕ} {ws xs : List ℕ}
    (granted : Granted z ws xs) (work : WorkIn z (program_in z ns os rs) w n k peak ws xs)
    (barriers : Every (BarrierOf (program_in z ns os rs).operations) (barriers_of w.items)) where
  pub finish_pre : (to rt : List ℕ) → 6 * z.operations ≤ length to → 8 * z.qubits ≤ length rt → FinishPre z os k n ws xs to rt
  finish_pre to rt a b = record {
    operations = write_pre given granted work barriers to a;
    rows = rows_pre given granted work barriers rt b;
    axes = omega (arith, work.axes.within, work.axes.words_long);
    few = granted.sized.few;
  }

  -- 01's slices after acceptance; s as they were lent
  pub finished_are : (s : Lent) (changed : Bool) {ws' xs' to' rt' : List ℕ} → changed ≡ not (eqb w.absorbed 0)
      → length ws ≡ length s.words → length xs ≡ length s.numbers
      → Finished z os k n changed ws xs s.operations s.rows ws' xs' to' rt'
      → ◌≡◌ {A = Lent} (record { words = ws'; numbers = xs'; operations = to'; rows = rt' }) (record {
        words = then_zeros s.words (flatten w.store.axes);
        numbers = zeros s.numbers;
        operations = then_zeros s.operations (flatten (operation_results (program_in z ns os rs) w));
        rows = then_zeros s.rows (flatten (row_results (program_in z ns os rs) w));
      })
  finished_are s changed c lw lx f =
      rw (
        words_zeroed given granted work barriers f.words ∙ then_same s.words ws (flatten w.store.axes) lw,
        f.numbers ∙ zeros_same s.numbers xs lx,
        operations_written given granted work barriers f.operations,
        rows_written_are given granted work barriers s.rows changed c f.rows,
      ) refl
