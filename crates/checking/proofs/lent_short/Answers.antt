-- Counts and a limit within the domain leave no sum that overflows. Assumes nothing.
use mathlib.Core.Path.{refl, ap}
use Rattle.model.specs.Checking.{lent_short, words_asked, numbers_asked}
use Rattle.layout.specs.declared.Shape.{Shape}
use Rattle.layout.specs.Index.{index_length}
use Rattle.layout.specs.Bounds.{counts_fit, bounds}
use Rattle.layout.specs.Shape.{shape_of, row_length, sized_by}
use Prim.Native.Nat.{◌*◌}
use native.Mathlib.Nat.{div-le_self}
use native.Mathlib.Omega.{arith}
use Rattle.checking.proofs.lent_short.Goals as goal

pub shape_of-shape-requires : goal.shape_of-shape-requires
shape_of-shape-requires c = c.requires

pub overflow_mul-result : goal.overflow_mul-result
overflow_mul-result c =
    let p = c.requires in
    let z = sized_by _ _ p.0 p.1 c.shape_of-shape.ensures in
    omega arith

pub overflow_add-result : goal.overflow_add-result
overflow_add-result c =
    let p = c.requires in
    let z = sized_by _ _ p.0 p.1 c.shape_of-shape.ensures in
    omega arith

pub overflow_mul-result-2 : goal.overflow_mul-result-2
overflow_mul-result-2 c =
    let p = c.requires in
    let z = sized_by _ _ p.0 p.1 c.shape_of-shape.ensures in
    omega arith

pub index_length-requires : goal.index_length-requires
unfolding shape_of
index_length-requires c =
    let p = c.requires in
    let z = sized_by _ _ p.0 p.1 c.shape_of-shape.ensures in
    ((bounds _ _ _ p.0 p.1 (ap (λ (s : Shape). s.l) c.shape_of-shape.ensures)).some, z.few, z.limit)

pub overflow_add-result-2 : goal.overflow_add-result-2
unfolding index_length
overflow_add-result-2 c =
    let p = c.requires in
    let z = sized_by _ _ p.0 p.1 c.shape_of-shape.ensures in
    omega (arith, c.index_length.ensures, div-le_self c.shape_of-shape.result.limit (2 * c.shape_of-shape.result.l))

pub overflow_mul-result-3 : goal.overflow_mul-result-3
overflow_mul-result-3 c = let f = counts_fit _ c.requires.0 in omega arith

pub overflow_mul-result-4 : goal.overflow_mul-result-4
overflow_mul-result-4 c = let f = counts_fit _ c.requires.0 in omega arith

pub returns : goal.returns
unfolding lent_short words_asked numbers_asked shape_of row_length index_length
returns c = rw (c.index_length.ensures, c.shape_of-shape.ensures) refl
