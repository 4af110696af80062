-- A slot and a phase are read; the slot's place follows. Assumes nothing.
use Rattle.packing.specs.ValueLaws.{held_is}
use Rattle.packing.proofs.values.held.Goals as goal

pub returns : goal.returns
returns c = held_is _ _ _ _ _ _ c.read-s.ensures c.slot_at.ensures c.read.ensures
