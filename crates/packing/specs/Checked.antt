-- What Checking grants packing by accepting. Assumes nothing.
use Rattle.std.specs.Prelude.{◌≡◌, false, ◌≤◌}
use Rattle.model.specs.declared.Options.{Options}
use Rattle.model.specs.Answers.{Accepted}
use Rattle.model.specs.Program.{Job}
use Rattle.model.specs.Checking.{Lent, bad_count, checking}
use Rattle.theory.specs.Checked.{limit_fits}
use Rattle.layout.specs.Bounds.{passed}
use Rattle.layout.specs.Shape.{shape_of, checked_granted}
use Rattle.records.specs.Given.{checked_given}
use Rattle.packing.specs.Packed.{PackPre}

-- what the sizes ask
pub checked_sizes : (o : Options) (j : Job) (s : Lent) → checking o j s ≡ Accepted
    → (bad_count j.counts ≡ false) × (o.max_packed_words ≤ 1048576)
checked_sizes o j s h = let k = passed o j s h in (k.counts, limit_fits o k.options)

-- what packing asks
pub checked_pack : (o : Options) (j : Job) (s : Lent) → checking o j s ≡ Accepted
    → PackPre (shape_of j.counts o.max_packed_words) j.nodes j.operations j.rows s.words s.numbers
checked_pack o j s h = record { granted = checked_granted o j s h; given = checked_given o j s h }
