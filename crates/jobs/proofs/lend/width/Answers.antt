-- A plane has a word, and no more than its qubits and one.
use Rattle.std.proofs.Common.{arith}
use Rattle.pauli.specs.Word.{width}
use Rattle.jobs.proofs.lend.width.Goals as goal

pub returns : goal.returns
unfolding width
returns c = omega arith
