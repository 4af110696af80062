-- Bounds while nodes are packed: of rows, of slots, and of where a node's value is held. Assumes nothing.
use Rattle.std.specs.Prelude.{◌≡◌, List, ℕ, ◌*◌, ◌≤◌, ◌<◌, get_or}
use Rattle.std.proofs.Common.{sym, ap, ◌∙◌, arith}
use Rattle.pauli.specs.Word.{width}
use Rattle.model.specs.Program.{Program}
use Rattle.model.specs.Packing.{Pack}
use Rattle.layout.specs.declared.Shape.{Shape}
use Rattle.layout.specs.Words.{slots_le}
use Rattle.layout.specs.Shape.{Granted}
use Rattle.packing_states.specs.InMemory.{OfShape}
use Rattle.packing.specs.declared.Slots.{Slots}
use Rattle.packing.specs.Values.{slot_of, HeldPre}
use Rattle.packing.specs.Holding.{Holding}

-- the slots are within the limit
pub slots_fit : {p : Program} {z : Shape} {b n i : ℕ} {k : Pack} {st : Slots} {ws xs : List ℕ} → Holding p z b n i k st ws xs
    → st.slots * (2 * z.l) ≤ z.limit
slots_fit h = omega (arith, h.room)

module _ {z : Shape} {ws xs : List ℕ} (g : Granted z ws xs) where
  -- nodes have their entries in a row
  pub nodes_in_lem : z.nodes ≤ z.u
  nodes_in_lem = omega (arith, g.sized.row)

  -- l is the program's
  pub width_is : {p : Program} → OfShape p z → width p.qubits ≡ z.l
  width_is w = ap width w.qubits ∙ sym g.sized.l_is

  module _ {p : Program} {b n i : ℕ} {k : Pack} {st : Slots} (h : Holding p z b n i k st ws xs) where
    -- so have slots
    pub slots_in : st.slots < z.u
    slots_in = g.sized.words_row st.slots (slots_fit h)

    -- a node that is still to be used is held
    pub held_pre : (m : ℕ) → m < b → b ≤ z.nodes → 0 < get_or k.uses m 0 → HeldPre z xs m
    held_pre m a c u = record {
      long = g.numbers_long;
      node = omega (arith, nodes_in_lem);
      slot = omega (arith, slots_fit h, slots_le z.l (slot_of xs z.u m) st.slots (h.held.slot m a u));
    }
