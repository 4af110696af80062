-- The places are looked at in order, up to one where the products differ. Assumes nothing.
use Rattle.std.proofs.Common.{refl, length, arith, rules, tests}
use Rattle.std.proofs.lemmas.Iterator.{cases_from_all, YieldsList-from_range}
use Rattle.product.proofs.SameProduct.{Agree, answered}
use Rattle.product.proofs.read.same_product.Goals as goal

pub returns : goal.returns
returns c =
    let a = c.args in
    answered a.p.now a.q.now a.r.now a.s.now c.requires c.all.result
    (cases_from_all _ _ c.all.result (Agree a.p.now a.q.now a.r.now a.s.now) (λ j. Agree a.p.now a.q.now a.r.now a.s.now j → ⊥) c.all.ensures.ran
    (YieldsList-from_range 0 (length a.p.now) (length a.p.now) refl (omega arith)) (λ x q k. search (rules, tests)) (λ x q k. search (rules, tests)))
