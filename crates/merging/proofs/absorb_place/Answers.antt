-- The axis that it was carried from is looked up; what was worked out behind the limit is no part of the state. Assumes nothing.
use Rattle.merging.specs.LookedUp.{waiting_read, waiting_source, with_source, behind_left}
use Rattle.merging.proofs.absorb_place.Goals as goal

pub read-a-requires : goal.read-a-requires
read-a-requires c = waiting_read c.requires.it

pub source_of-source-requires : goal.source_of-source-requires
source_of-source-requires c = record { absorption = c.requires.absorption; items = c.requires.items; pass = c.requires.pass; it = waiting_source c.requires.it }

pub absorb_merged-requires : goal.absorb_merged-requires
absorb_merged-requires c = record {
  absorption = c.requires.absorption;
  items = c.requires.items;
  pass = c.requires.pass;
  it = with_source c.requires.it
      c.source_of-source.ensures.0 (c.source_of-source.ensures.1 _ _ _ (waiting_source c.requires.it));
}

pub returns : goal.returns
returns c = (
  behind_left c.source_of-source.ensures.0 c.absorb_merged.ensures.0,
  λ m n p h.
      c.absorb_merged.ensures.1 m n p
      (with_source h c.source_of-source.ensures.0 (c.source_of-source.ensures.1 m n p (waiting_source h))),
)
