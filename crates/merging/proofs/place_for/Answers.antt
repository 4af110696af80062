-- Nothing is named, or the scan says whether the place is reached. Assumes nothing.
use mathlib.Core.Path.{sym, ◌∙◌}
use Rattle.merging.specs.Taking.{place_nowhere, place_scanned}
use Rattle.merging.proofs.place_for.Goals as goal

pub last_of-requires : goal.last_of-requires
last_of-requires c = c.requires.last

pub returns-in_err-j : goal.returns-in_err-j
returns-in_err-j c = rw c.from_residual.ensures (place_nowhere (sym c.last_of.ensures ∙ c.in_err-j.was))

pub can_reach-requires : goal.can_reach-requires
can_reach-requires c = rw c.sizes_of-z.ensures (c.requires.reach _ (sym c.last_of.ensures ∙ c.in_ok-j.was)).1

pub invariant_of-axes : goal.invariant_of-axes
invariant_of-axes c = record { stored = rw c.sizes_of-z.ensures (c.requires.reach _ (sym c.last_of.ensures ∙ c.in_ok-j.was)).0 }

pub returns : goal.returns
returns c = rw c.then_some.ensures (place_scanned (sym c.last_of.ensures ∙ c.in_ok-j.was) c.sizes_of-z.ensures c.can_reach.ensures)
