-- One bit of one number is set. Assumes nothing.
use Rattle.clifford.specs.Images.{one_shifted}
use mathlib.Core.Path.{ap}
use Prim.Native.Nat.{ℕ, ◌+◌, ◌/◌, ◌%◌}
use lib.Bits.{bit_or}
use lib.ListN.{get_or, set}
use native.Mathlib.Omega.{arith}
use Rattle.clifford.proofs.mark.Goals as goal

pub returns : goal.returns
returns c =
    ap (λ (b : ℕ). set c.args.words.now (c.args.at + c.args.q / 64)
    (bit_or (get_or c.args.words.now (c.args.at + c.args.q / 64) 0) b)) (one_shifted (c.args.q % 64) (omega arith))
