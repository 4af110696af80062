-- The head of the chain that 02 picks, and the digits. Assumes nothing.
use Rattle.std.proofs.Common.{ℕ, ◌+◌, ◌/◌, ◌%◌, ap}
use Rattle.layout.specs.Index.{head_count}
use Rattle.axes.specs.Pick.{digits_by}
use Rattle.interning.proofs.Walk.from_head.Goals as goal

pub returns : goal.returns
unfolding digits_by
returns c = record {
  place = ap (λ (n : ℕ). n + c.args.s.total % head_count) c.heads_at.ensures;
  digits = ap (λ (n : ℕ). n / 4294967296) c.mixed_halves.ensures;
}
