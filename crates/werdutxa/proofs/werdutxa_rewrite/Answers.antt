-- What Rewriting leaves to these counts and options, in numbers. Assumes nothing.
use Rattle.werdutxa.specs.Calls.{exported_call, exported_refusal}
use Rattle.werdutxa.proofs.werdutxa_rewrite.Goals as goal

pub returns-in-Ok : goal.returns-in-Ok
returns-in-Ok c = exported_call _ _ _ _ c.counts.ensures c.options.ensures c.in-Ok.ensures c.count.ensures

pub returns-in-Err : goal.returns-in-Err
returns-in-Err c = exported_refusal _ _ _ _ c.counts.ensures c.options.ensures c.in-Err.ensures c.into.ensures
