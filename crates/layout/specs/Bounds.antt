-- What refusals 1, 2 and 3 leave of counts, options and lengths: the bounds under which no sum overflows. Assumes nothing.
use Rattle.std.specs.Prelude.{◌≡◌, refl, false, ℕ, ◌*◌, ◌/◌, ◌≤◌, ◌<◌, length}
use Rattle.std.proofs.Common.{arith, div-le_self, ltb-false}
use Rattle.model.specs.declared.Counts.{Counts}
use Rattle.model.specs.declared.Options.{Options}
use Rattle.model.specs.Answers.{Accepted, CountOutside, OptionOutside, SliceShort}
use Rattle.model.specs.Program.{Job}
use Rattle.model.specs.Checking.{Lent, bad_count, bad_option, program_short, lent_short, check_records, checking}
use Rattle.pauli.specs.Word.{width}
use Rattle.theory.specs.Cases.{neither}
use Rattle.theory.specs.Checked.{not_refused}

pub counts_fit : (c : Counts) → bad_count c ≡ false → (c.qubits ≤ 4096) × (c.nodes ≤ 65535) × (c.operations ≤ 65535)
unfolding bad_count
counts_fit c h =
    let a = neither _ _ h in
    let b = neither _ _ a.0 in
    let d = neither _ _ b.0 in
    (ltb-false _ _ d.0, ltb-false _ _ b.1, ltb-false _ _ a.1)

-- a width that 4,096 qubits have
width_fits : (q w : ℕ) → q ≤ 4096 → w ≡ width q → (0 < w) × (w ≤ 64)
unfolding width
width_fits q w h e = (omega arith, omega arith)

-- what bounds the sums of refusal 3
pub record Bounds (c : Counts) (most w : ℕ) : Type 0 where
  pub qubits : c.qubits ≤ 4096
  pub nodes : c.nodes ≤ 65535
  pub operations : c.operations ≤ 65535
  pub limit : most ≤ 1048576
  pub axes : most / (2 * w) ≤ most
  pub some : 0 < w
  pub few : w ≤ 64

pub bounds : (c : Counts) (most w : ℕ) → bad_count c ≡ false → most ≤ 1048576 → w ≡ width c.qubits → Bounds c most w
bounds c most w h k e =
    let f = counts_fit c h in
    let g = width_fits c.qubits w f.0 e in
    record {
      qubits = f.0;
      nodes = f.1;
      operations = f.2;
      limit = k;
      axes = div-le_self _ _;
      some = g.0;
      few = g.1;
    }

-- ---- refusal 3

-- slices that are long enough
pub program_long : (j : Job) → program_short j ≡ false
    → (5 * j.counts.nodes ≤ length j.nodes) × (6 * j.counts.operations ≤ length j.operations)
    × (8 * j.counts.qubits ≤ length j.rows)
unfolding program_short
program_long j h =
    let a = neither _ _ h in
    let b = neither _ _ a.0 in
    (ltb-false _ _ b.0, ltb-false _ _ b.1, ltb-false _ _ a.1)

-- what a Checking that passes has tested
pub record Passed (o : Options) (j : Job) (s : Lent) : Type 0 where
  pub counts : bad_count j.counts ≡ false
  pub options : bad_option o ≡ false
  pub program : program_short j ≡ false
  pub lent : lent_short j.counts s o.max_packed_words ≡ false

pub passed : (o : Options) (j : Job) (s : Lent) → checking o j s ≡ Accepted → Passed o j s
unfolding checking
passed o j s h =
    let a = not_refused (bad_count j.counts) CountOutside _ refl h in
    let b = not_refused (bad_option o) OptionOutside _ refl a.1 in
    let c = neither _ _ (not_refused _ SliceShort (check_records o.lazy_cliffords j) refl b.1).0 in
    record { counts = a.0; options = b.0; program = c.0; lent = c.1 }
