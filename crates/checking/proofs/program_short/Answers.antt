-- Counts within the domain leave no product that overflows. Assumes nothing.
use mathlib.Core.Path.{refl}
use Rattle.model.specs.Checking.{program_short}
use Rattle.layout.specs.Bounds.{counts_fit}
use native.Mathlib.Omega.{arith}
use Rattle.checking.proofs.program_short.Goals as goal

pub overflow_mul-result : goal.overflow_mul-result
overflow_mul-result c = let f = counts_fit _ c.requires in omega arith

pub overflow_mul-result-2 : goal.overflow_mul-result-2
overflow_mul-result-2 c = let f = counts_fit _ c.requires in omega arith

pub overflow_mul-result-3 : goal.overflow_mul-result-3
overflow_mul-result-3 c = let f = counts_fit _ c.requires in omega arith

pub returns : goal.returns
unfolding program_short
returns c = refl
