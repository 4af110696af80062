-- The phase is read first; the loop's invariant: the first j numbers of the product stand in out. Assumes nothing.
use mathlib.Core.Path.{refl}
use native.Mathlib.Omega.{arith}
use Rattle.product.proofs.Laying.{laid_none, word_more, word_all}
use Rattle.product.proofs.product.Goals as goal

pub loop-j-init : goal.loop-j-init
loop-j-init c = (refl, laid_none _ _ _ _)

pub loop-j-preserved : goal.loop-j-preserved
loop-j-preserved c = (c.loop-j.invariant.0, word_more _ _ _ _ _ _ c.requires c.loop-j.invariant.1 (omega arith))

pub returns : goal.returns
returns c = record {
  word = word_all _ _ _ _ _ _ c.requires c.loop-j.invariant.1 (omega arith);
  phased = c.product_phase-e.ensures;
}
