-- No link more than the limit has words. Assumes nothing.
use mathlib.Core.Path.{refl}
use Prim.Native.Nat.{◌*◌}
use native.Mathlib.Nat.{div-le_self}
use native.Mathlib.Omega.{arith}
use Rattle.layout.specs.Index.{index_length}
use Rattle.layout.proofs.index_length.Goals as goal

pub overflow_add-result : goal.overflow_add-result
overflow_add-result c = omega (arith, div-le_self c.args.limit (2 * c.args.l))

pub returns : goal.returns
unfolding index_length
returns c = refl
