-- Signatures that are apart tell that the axes commute; else both words are read and compared. Assumes nothing.
use Rattle.std.proofs.Common.{sym}
use Rattle.axes.specs.View.{read_anticommute}
use Rattle.axes.specs.Held.{held_long, apart_axes}
use Rattle.axes.proofs.StoredAxes.anticommute.Goals as goal

pub returns-then-apart : goal.returns-then-apart
returns-then-apart c =
    let a = c.args.self in
    sym (apart_axes a.stored _ _ c.requires.0 c.requires.1 c.apart.ensures c.if-apart.true)

pub anticommutes-requires : goal.anticommutes-requires
anticommutes-requires c =
    let a = c.args.self in
    (held_long a.stored _ c.requires.0 c.axis.ensures, held_long a.stored _ c.requires.1 c.axis-2.ensures)

pub returns : goal.returns
returns c = read_anticommute _ _ _ _ c.anticommutes.ensures c.axis.ensures c.axis-2.ensures
