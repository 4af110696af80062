-- The sizes are those of `shape_of`. Assumes nothing.
use mathlib.Core.Path.{refl}
use native.Mathlib.Omega.{arith}
use Rattle.layout.specs.Bounds.{bounds}
use Rattle.layout.specs.Shape.{shape_of, row_length}
use Rattle.layout.proofs.shape_of.Goals as goal

pub overflow_add-result : goal.overflow_add-result
overflow_add-result c =
    let b = bounds _ _ _ c.requires.0 c.requires.1 c.width-l.ensures in
    omega arith

pub overflow_mul-result : goal.overflow_mul-result
overflow_mul-result c = let b = bounds _ _ _ c.requires.0 c.requires.1 c.width-l.ensures in omega arith

pub overflow_add-result-2 : goal.overflow_add-result-2
overflow_add-result-2 c = let b = bounds _ _ _ c.requires.0 c.requires.1 c.width-l.ensures in omega arith

pub overflow_mul-result-2 : goal.overflow_mul-result-2
overflow_mul-result-2 c = let b = bounds _ _ _ c.requires.0 c.requires.1 c.width-l.ensures in omega arith

pub nonzero_div-result : goal.nonzero_div-result
nonzero_div-result c = let b = bounds _ _ _ c.requires.0 c.requires.1 c.width-l.ensures in omega arith

pub overflow_add-result-3 : goal.overflow_add-result-3
overflow_add-result-3 c = let b = bounds _ _ _ c.requires.0 c.requires.1 c.width-l.ensures in omega arith

pub overflow_add-result-4 : goal.overflow_add-result-4
overflow_add-result-4 c = let b = bounds _ _ _ c.requires.0 c.requires.1 c.width-l.ensures in omega arith

pub returns : goal.returns
unfolding shape_of row_length
returns c = rw c.width-l.ensures refl
