-- No qubit has a slot, and no axis a place. Assumes nothing.
use Rattle.stream.specs.Ended.{stream_begun}
use Rattle.stream.proofs.begin.Goals as goal

pub returns : goal.returns
returns c = rw c.first_state.ensures (stream_begun c.requires c.begin.ensures c.clear_row.ensures _ _)
