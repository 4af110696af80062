-- Three entries are written. Assumes nothing.
use Rattle.interning.specs.Link.{link_put, link_written}
use Rattle.interning.proofs.put_link.Goals as goal

pub returns : goal.returns
returns c = link_put c.requires (link_written c.args.z c.args.place c.args.numbers.now c.links_at.ensures)
