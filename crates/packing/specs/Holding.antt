-- What memory holds of the model's packing at each point, and how a turn ends. Assumes nothing.
use Rattle.std.specs.Prelude.{◌≡◌, true, false, ◌≢◌, ◌⊎◌, List, ℕ, suc, ◌+◌, ◌*◌, ◌%◌, ◌≤◌, ◌<◌, length, get_or, Result, Ok, Err}
use Rattle.std.proofs.Common.{arith}
use Rattle.store.specs.Part.{part}
use Rattle.store.specs.Row.{row}
use Rattle.model.specs.Program.{Program}
use Rattle.model.specs.Words.{Value, id_of}
use Rattle.model.specs.Packing.{Pack}
use Rattle.axes.specs.Held.{sizes_of, HoldsAxes}
use Rattle.layout.specs.declared.Shape.{Shape}
use Rattle.layout.specs.Rows.{uses_row, node_slot, node_phase, free_row, root_axis, root_sign, entries}
use Rattle.layout.specs.Words.{slot_place}
use Rattle.layout.specs.Shape.{Granted}
use Rattle.records.specs.declared.NodeRecord.{NodeRecord}
use Rattle.records.specs.Records.{node_said}
use Rattle.records.specs.Given.{program_in, Given}
use Rattle.packing_states.specs.References.{reference_at, total, is_root_at, root_of}
use Rattle.packing_states.specs.States.{node_at, value_of, before, slotted, within}
use Rattle.packing_states.specs.StateLaws.{peak_within, refused_within}
use Rattle.packing_states.specs.Live.{used_below}
use Rattle.packing_states.specs.Linked.{Linked}
use Rattle.packing_states.specs.InMemory.{OfShape}
use Rattle.packing.specs.Phases.{phase_in}
use Rattle.packing.specs.declared.Slots.{Slots}
use Rattle.packing_answer.specs.declared.PackingRefusal.{PackingRefusal}
use Rattle.packing_answer.specs.declared.PackingRefusal.TheVariants.{NonHermitianAxis, ExpansionLimit}

-- each node below b that is still to be used has a slot of its own, with its word there and its phase beside it;
-- a free slot is no such node's, and is free once
pub record SlotsHold (l limit b slots free : ℕ) (value : ℕ → Value) (uses slot_row phase_row stack ws : List ℕ) : Type 0 where
  pub slot : (m : ℕ) → m < b → 0 < get_or uses m 0 → get_or slot_row m 0 < slots
  pub word : (m : ℕ) → m < b → 0 < get_or uses m 0 → part ws (slot_place limit l (get_or slot_row m 0)) (2 * l) ≡ (value m).word
  pub turns : (m : ℕ) → m < b → 0 < get_or uses m 0 → get_or phase_row m 0 ≡ (value m).turns
  pub one : (m n : ℕ) → m < b → n < b → 0 < get_or uses m 0 → 0 < get_or uses n 0 → get_or slot_row m 0 ≡ get_or slot_row n 0 → m ≡ n
  pub free_slot : (i : ℕ) → i < free → get_or stack i 0 < slots
  pub free_one : (i j : ℕ) → i < free → j < free → get_or stack i 0 ≡ get_or stack j 0 → i ≡ j
  pub free_other : (m i : ℕ) → m < b → 0 < get_or uses m 0 → i < free → get_or slot_row m 0 ≢ get_or stack i 0

-- it stays so where no more is still to be used
pub slots_among : {l limit b c slots free : ℕ} {value : ℕ → Value} {uses left slot_row phase_row stack ws : List ℕ}
    → ((m : ℕ) → m < c → 0 < get_or left m 0 → (m < b) × (0 < get_or uses m 0))
    → SlotsHold l limit b slots free value uses slot_row phase_row stack ws
    → SlotsHold l limit c slots free value left slot_row phase_row stack ws
slots_among f h = record {
  slot = λ m a u. let g = f m a u in h.slot m g.0 g.1;
  word = λ m a u. let g = f m a u in h.word m g.0 g.1;
  turns = λ m a u. let g = f m a u in h.turns m g.0 g.1;
  one = λ m n a d u v. let g = f m a u in let k = f n d v in h.one m n g.0 k.0 g.1 k.1;
  free_slot = h.free_slot;
  free_one = h.free_one;
  free_other = λ m i a u. let g = f m a u in h.free_other m i g.0 g.1;
}

-- reference j's axis and sign stand in their rows
pub record SignedAt (p : Program) (u : ℕ) (axes : List (List ℕ)) (xs : List ℕ) (j : ℕ) : Type 0 where
  pub stored : id_of axes (value_of p (reference_at p j).node).word < length axes
  pub axis : get_or (row xs u root_axis) j 0 ≡ id_of axes (value_of p (reference_at p j).node).word
  pub sign : get_or (row xs u root_sign) j 0 ≡ ((value_of p (reference_at p j).node).turns + (reference_at p j).phase) % 4

-- its node's turn is over, or in node n's turn its own is
abbrev pub Done : Program → ℕ → ℕ → ℕ → Type 0
Done p n i j = ((reference_at p j).node < n) ⊎ (((reference_at p j).node ≡ n) × (j < i))

-- memory holds k: in node n's turn, before reference i; nodes below b have had their slots
pub record Holding (p : Program) (z : Shape) (b n i : ℕ) (k : Pack) (st : Slots) (ws xs : List ℕ) : Type 0 where
  pub going : k.refused ≡ false
  pub peak : k.store.peak ≡ st.peak
  pub fits : k.store.peak ≤ z.limit
  pub axes : HoldsAxes (sizes_of z st.axes) ws xs k.store.axes
  pub room : st.slots * (2 * z.l) + st.axes * (2 * z.l) ≤ z.limit
  pub slots : k.slots ≡ st.slots
  pub free : k.live + st.free ≡ st.slots
  pub live : k.live ≡ used_below b k.uses
  pub uses : entries xs z.u uses_row z.nodes ≡ k.uses
  pub held : SlotsHold z.l z.limit b st.slots st.free (value_of p) k.uses
      (row xs z.u node_slot) (row xs z.u node_phase) (row xs z.u free_row) ws
  pub signed : (j : ℕ) → j < total p → is_root_at p j ≡ true → Done p n i j → SignedAt p z.u k.store.axes xs j
  pub linked : Linked p z xs

-- it holds k at another point, if no more roots are done there
pub holding_done : {p : Program} {z : Shape} {b n i m t : ℕ} {k : Pack} {st : Slots} {ws xs : List ℕ}
    → ((j : ℕ) → j < total p → is_root_at p j ≡ true → Done p m t j → Done p n i j)
    → Holding p z b n i k st ws xs → Holding p z b m t k st ws xs
holding_done f h = record {
  going = h.going;
  peak = h.peak;
  fits = h.fits;
  axes = h.axes;
  room = h.room;
  slots = h.slots;
  free = h.free;
  live = h.live;
  uses = h.uses;
  held = h.held;
  signed = λ j a r d. h.signed j a r (f j a r d);
  linked = h.linked;
}

-- what a refusal says of k, to which a turn has led
abbrev pub RefusedAt : Shape → Pack → PackingRefusal → Type 0
RefusedAt z k NonHermitianAxis = (k.refused ≡ true) × (k.store.peak ≤ z.limit)
RefusedAt z k ExpansionLimit = z.limit < k.store.peak

-- how a turn ends that leads to k
abbrev pub Turned : Program → Shape → ℕ → ℕ → ℕ → Pack → Result Slots PackingRefusal → List ℕ → List ℕ → Type 0
Turned p z b n i k (Ok st) ws xs = Holding p z b n i k st ws xs
Turned p z b n i k (Err e) ws xs = RefusedAt z k e

-- it stays a refusal later in the node's turn
pub refused_later : (p : Program) (z : Shape) (n i j : ℕ) (e : PackingRefusal) → i ≤ j → RefusedAt z (within p n i) e → RefusedAt z (within p n j) e
refused_later p z n i j NonHermitianAxis h (r, f) = let same = refused_within p n i j r h in (rw same r, rw same f)
refused_later p z n i j ExpansionLimit h f = omega (arith, peak_within p n i j h)

-- ---- what the turns demand

-- node n, which is used, is to get its slot
pub record PlaceAt (p : Program) (z : Shape) (st : Slots) (n : ℕ) (x : NodeRecord) (ws xs : List ℕ) : Type 0 where
  pub granted : Granted z ws xs
  pub program : OfShape p z
  pub node : n < z.nodes
  pub said : node_said x ≡ node_at p n
  pub used : 0 < get_or (before p n).uses n 0
  pub holding : Holding p z n n 0 (before p n) st ws xs

-- reference j, a root of node n, is to be packed
pub record RootAt (p : Program) (z : Shape) (st : Slots) (n j phase : ℕ) (ws xs : List ℕ) : Type 0 where
  pub granted : Granted z ws xs
  pub program : OfShape p z
  pub node : n < z.nodes
  pub reference : j < total p
  pub root : root_of p n j ≡ true
  pub phase_is : phase ≡ (reference_at p j).phase
  pub used : 0 < get_or (within p n j).uses n 0
  pub holding : Holding p z (suc n) n j (within p n j) st ws xs

-- node n's roots are to be packed
pub record RootsAt (p : Program) (z : Shape) (st : Slots) (n : ℕ) (os rs ws xs : List ℕ) : Type 0 where
  pub granted : Granted z ws xs
  pub program : OfShape p z
  pub operations_long : z.operations * 6 ≤ length os
  pub rows_long : 2 * z.qubits * 4 ≤ length rs
  pub phases : (j : ℕ) → j < total p → phase_in z.operations os rs j ≡ (reference_at p j).phase
  pub node : n < z.nodes
  pub going : (before p n).refused ≡ false
  pub used : 0 < get_or (before p n).uses n 0
  pub holding : Holding p z (suc n) n 0 (slotted p n) st ws xs

-- node n's turn
pub record NodeAt (z : Shape) (st : Slots) (n : ℕ) (ns os rs ws xs : List ℕ) : Type 0 where
  pub granted : Granted z ws xs
  pub given : Given z ns os rs
  pub node : n < z.nodes
  pub holding : Holding (program_in z ns os rs) z n n 0 (before (program_in z ns os rs) n) st ws xs
