-- Both children's words are within the limit, so the product's place, behind it, meets neither. Assumes nothing.
use Rattle.packing.specs.ValueLaws.{stored_pre, phases_small, evaluated_product}
use native.Mathlib.Omega.{arith}
use Rattle.packing.proofs.values.evaluate_product.Goals as goal

pub product_in-e-requires : goal.product_in-e-requires
product_in-e-requires c = stored_pre _ _ _ c.requires c.held-a.ensures c.held-b.ensures c.scratch_at-at.ensures

pub overflow_add-result : goal.overflow_add-result
overflow_add-result c = omega (arith, phases_small _ _ _ c.requires c.held-a.ensures c.held-b.ensures c.product_in-e.ensures)

pub overflow_add-result-2 : goal.overflow_add-result-2
overflow_add-result-2 c = omega (arith, phases_small _ _ _ c.requires c.held-a.ensures c.held-b.ensures c.product_in-e.ensures)

pub overflow_add-result-3 : goal.overflow_add-result-3
overflow_add-result-3 c = omega (arith, phases_small _ _ _ c.requires c.held-a.ensures c.held-b.ensures c.product_in-e.ensures)

pub overflow_add-result-4 : goal.overflow_add-result-4
overflow_add-result-4 c = omega (arith, phases_small _ _ _ c.requires c.held-a.ensures c.held-b.ensures c.product_in-e.ensures)

pub returns : goal.returns
returns c = evaluated_product _ _ _ c.held-a.ensures c.held-b.ensures c.scratch_at-at.ensures c.product_in-e.ensures
