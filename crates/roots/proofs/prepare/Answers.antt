-- Links, then uses. Assumes nothing.
use Rattle.roots.specs.Preparing.{first_links, then_uses, prepared}
use Rattle.roots.proofs.prepare.Goals as goal

pub link_roots-requires : goal.link_roots-requires
link_roots-requires c = first_links _ _ _ _ _ c.requires

pub count_uses-requires : goal.count_uses-requires
count_uses-requires c = then_uses _ _ _ _ _ c.requires _ c.link_roots.ensures

pub returns : goal.returns
returns c = prepared _ _ _ _ _ c.requires _ c.link_roots.ensures c.count_uses.ensures
