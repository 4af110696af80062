-- A root that is odd is refused; else its word is interned, its axis and sign are written, and its node's use is given up. Assumes nothing.
use Rattle.packing.specs.RootLaws.{held_small, intern_pre}
use Rattle.packing.specs.RestKept.{rest_none}
use Rattle.packing.specs.RootTurn.{id_small}
use Rattle.packing.specs.RootTurn.{root_odd, rest_limit, root_limit, root_release, root_rest, root_next}
use native.Mathlib.Omega.{arith}
use Rattle.std.proofs.lemmas.Result.{err_from_is_err_and}
use Rattle.packing.proofs.pack_root.Goals as goal

pub overflow_add-total : goal.overflow_add-total
overflow_add-total c = omega (arith, held_small c.requires.it c.held-v.ensures)

pub returns-then-total-eq1 : goal.returns-then-total-eq1
returns-then-total-eq1 c = (rest_none _ _ _, λ p h. root_odd h c.held-v.ensures c.if-total-eq1.true)

pub intern-requires : goal.intern-requires
intern-requires c = intern_pre c.requires.it c.held-v.ensures c.sizes_of-sizes.ensures

pub returns-in_err-a : goal.returns-in_err-a
returns-in_err-a c =
    let full = err_from_is_err_and c.from_residual.result c.from_residual.ensures.1 in
    rw (full.1, full.2) (
      rest_limit c.requires.it c.held-v.ensures c.sizes_of-sizes.ensures c.intern.ensures c.in_err-a.was,
      λ p h. root_limit h c.held-v.ensures c.sizes_of-sizes.ensures c.intern.ensures c.if-total-eq1.false c.in_err-a.was,
    )

pub overflow_cast-a : goal.overflow_cast-a
overflow_cast-a c = omega (arith, id_small c.requires.it c.held-v.ensures c.sizes_of-sizes.ensures c.intern.ensures c.in_ok-a.was)

pub release-free-requires : goal.release-free-requires
release-free-requires c =
    root_release c.requires.it c.held-v.ensures c.sizes_of-sizes.ensures c.intern.ensures c.in_ok-a.was
    c.write.ensures c.write-2.ensures

pub returns : goal.returns
returns c = (
  root_rest c.requires.it c.held-v.ensures c.sizes_of-sizes.ensures c.intern.ensures c.in_ok-a.was
      c.write.ensures c.write-2.ensures c.release-free.ensures,
  λ p h. root_next h c.held-v.ensures
      c.sizes_of-sizes.ensures c.intern.ensures c.in_ok-a.was c.write.ensures c.write-2.ensures
      c.release-free.ensures c.if-total-eq1.false,
)
