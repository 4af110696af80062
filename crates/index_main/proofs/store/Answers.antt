-- The stores hold the axes again, with the word among them.
use Rattle.index_main.specs.Ready.{ready_intern, ready_after}
use Rattle.index_main.proofs.store.Goals as goal

pub intern-requires : goal.intern-requires
intern-requires g c = ready_intern c.requires

pub agree-after-requires : goal.agree-after-requires
agree-after-requires g c = (ready_after c.requires c.intern.ensures c.in-Ok.is).behind.word_in

pub invariant_of-with_it : goal.invariant_of-with_it
invariant_of-with_it g c = record { stored = (ready_after c.requires c.intern.ensures c.in-Ok.is).behind.held }

pub returns : goal.returns
returns g c = ready_after c.requires c.intern.ensures c.in-Ok.is
