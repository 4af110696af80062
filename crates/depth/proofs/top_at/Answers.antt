-- A bit has its own entry, or shares the first. Assumes nothing.
use Rattle.depth.specs.Tops.{top_own, top_shared}
use Rattle.depth.proofs.top_at.Goals as goal

pub returns-then-k-u : goal.returns-then-k-u
returns-then-k-u c = top_own _ _ c.if-k-u.true

pub returns-else-k-u : goal.returns-else-k-u
returns-else-k-u c = top_shared _ _ c.if-k-u.false
