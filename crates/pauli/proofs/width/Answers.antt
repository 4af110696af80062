-- The ceiling of a quotient. Assumes nothing.
use Rattle.pauli.specs.Word.{width}
use native.Mathlib.Omega.{arith}
use Rattle.pauli.proofs.width.Goals as goal

pub returns : goal.returns
unfolding width
returns c = omega arith
