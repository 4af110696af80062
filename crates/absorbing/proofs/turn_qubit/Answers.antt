-- A qubit without a slot has no image; else the three of its slot change. Assumes nothing.
use Rattle.absorbing.specs.Qubits.{for_untouched, slot_turns, for_slot}
use Rattle.absorbing.proofs.turn_qubit.Goals as goal

pub returns-then-slot-eq0 : goal.returns-then-slot-eq0
returns-then-slot-eq0 c = λ m pre. for_untouched c.read-slot.ensures c.if-slot-eq0.true

pub turn_images-requires : goal.turn_images-requires
turn_images-requires c = slot_turns c.requires.0.it c.requires.1 c.read-slot.ensures c.if-slot-eq0.false

pub returns : goal.returns
returns c = λ m pre. for_slot pre c.requires.1 c.read-slot.ensures c.if-slot-eq0.false c.turn_images.ensures
