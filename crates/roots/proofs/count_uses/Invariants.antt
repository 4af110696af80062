-- The uses that nodes n and later make are counted. Assumes nothing.
use Rattle.roots.specs.UseLaws.{UsesAt}
use Rattle.roots.proofs.count_uses.Given as goal

abbrev pub invariant-loop-n : goal.invariant-loop-n
invariant-loop-n l = UsesAt l.nodes l.initial.numbers l.u l.count l.n l.numbers
