-- The heads become zeros. Assumes nothing.
use Rattle.interning.specs.Link.{chains_cleared, heads_lent}
use Rattle.interning.proofs.clear_chains.Goals as goal

pub returns : goal.returns
returns c =
    chains_cleared c.requires
    (heads_lent c.args.u c.args.numbers.now c.requires c.heads_at-a.ensures c.links_at-e.ensures
    (c.fill.ensures.after (λ y h. h)))
