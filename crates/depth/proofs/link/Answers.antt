-- The level begins with the item, or its newest names the item. Assumes nothing.
use Rattle.depth.specs.Lists.{newest_at, link_new, link_old}
use native.Mathlib.Omega.{arith}
use Rattle.depth.proofs.link.Goals as goal

pub returns-then-reached-v : goal.returns-then-reached-v
returns-then-reached-v c = link_new c.requires c.if-reached-v.true c.write.ensures

pub write-requires-2 : goal.write-requires-2
unfolding newest_at
write-requires-2 c = (c.requires.begun.long, omega arith, omega (arith, c.requires.later c.if-reached-v.false, c.requires.here, c.read-newest.ensures))

pub returns : goal.returns
returns c = link_old c.requires c.if-reached-v.false c.read-newest.ensures c.write-2.ensures
