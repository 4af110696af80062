-- A stream begins, and then reads all items. Assumes nothing.
use Rattle.stream_states.specs.States.{left_then}
use Rattle.stream.specs.Ended.{items_some, stream_there, ended}
use Rattle.stream.proofs.stream_all.Goals as goal

pub stream_items-requires : goal.stream_items-requires
stream_items-requires c = items_some c.begin-first.ensures c.requires

pub returns : goal.returns
returns c = (
  left_then c.begin-first.ensures.left c.stream_items.ensures.0,
  λ g st h. ended c.begin-first.ensures h
      (c.stream_items.ensures.1 g _ (stream_there c.begin-first.ensures h)),
)
