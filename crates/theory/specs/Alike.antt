-- Runs that are alike. Assumes nothing.
use Rattle.std.specs.Prelude.{◌≡◌, refl}
use Rattle.model.specs.declared.Lazy.{Lazy}
use Rattle.model.specs.Program.{Job, node_records, operation_records, row_records, program_of}
use Rattle.model.specs.Checking.{check_program, check_records}

-- 01: "Two runs .. are alike if their counts, counted records and options are equal": the jobs' part. What lies behind the counted records may
-- differ
pub record Alike (j j' : Job) : Type 0 where
  pub counts : j'.counts ≡ j.counts
  pub nodes : node_records j' ≡ node_records j
  pub operations : operation_records j' ≡ operation_records j
  pub rows : row_records j' ≡ row_records j

-- they hold one program
pub alike_program : (j j' : Job) → Alike j j' → program_of j' ≡ program_of j
unfolding program_of
alike_program j j' a = rw (a.nodes, a.operations, a.rows, a.counts) refl

-- and 4 to 8 refuse both or neither
pub alike_checked : (j j' : Job) → Alike j j' → check_program j' ≡ check_program j
unfolding check_program
alike_checked j j' a = rw (a.nodes, a.operations, a.rows, a.counts) refl

-- so does 16
pub alike_records : (setting : Lazy) (j j' : Job) → Alike j j' → check_records setting j' ≡ check_records setting j
unfolding check_records
alike_records setting j j' a = rw (alike_checked j j' a, a.operations) refl
