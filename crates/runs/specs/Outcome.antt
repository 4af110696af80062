-- What a run shows at a word limit. Assumes nothing.
use Rattle.std.specs.Prelude.{ℕ, ltb}
use Rattle.model.specs.Lists.{when◌then◌else◌}
use Rattle.model.specs.Program.{Program}
use Rattle.model.specs.Rules.{Rules}
use Rattle.model.specs.Run.{run}
use Rattle.runs.specs.Shown.{Shown, shown}

pub data Outcome : Type 0 where
  -- answer 10
  limit_exceeded : Outcome
  -- answer 9 or 0, with all that it shows
  within : Shown → Outcome

abbrev pub outcome : ℕ → Rules → ℕ → Program → Outcome
outcome limit r k p = when ltb limit (run r k p).peak then limit_exceeded else within (shown r k p)
