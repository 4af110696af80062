-- Slots: what the functions over them demand and leave. Assumes nothing.
use Rattle.std.specs.Prelude.{◌≡◌, List, [], ◌∷◌, ℕ, ◌+◌, ◌-◌, ◌*◌, ◌≤◌, ◌<◌, max, eqb, ltb, length, get_or, set, Result, Ok, Err}
use Rattle.store.specs.Part.{part, put}
use Rattle.store.specs.Row.{row}
use Rattle.model.specs.Lists.{when◌then◌else◌}
use Rattle.model.specs.Words.{Value}
use Rattle.model.specs.Value.{node_value}
use Rattle.layout.specs.declared.Shape.{Shape}
use Rattle.layout.specs.Rows.{row_count, uses_row, node_slot, node_phase, free_row}
use Rattle.layout.specs.Only.{Only}
use Rattle.layout.specs.Words.{scratch_place, slot_place}
use Rattle.layout.specs.Shape.{longest_row}
use Rattle.records.specs.declared.NodeRecord.{NodeRecord}
use Rattle.records.specs.declared.NodeRecord.TheVariants.{Identity, Letter, Product}
use Rattle.records.specs.Records.{node_said}
use Rattle.packing.specs.declared.Slots.{Slots}
use Rattle.packing.specs.declared.ValueHeld.{ValueHeld}
use Rattle.model.specs.declared.ExpansionLimit.{ExpansionLimit}
use Rattle.model.specs.Interface.{expansion_limit}

-- ---- what is held of a node

-- its slot
abbrev pub slot_of : List ℕ → ℕ → ℕ → ℕ
slot_of s u n = get_or (row s u node_slot) n 0

-- its phase
abbrev pub phase_of : List ℕ → ℕ → ℕ → ℕ
phase_of s u n = get_or (row s u node_phase) n 0

-- node n has a slot within the limit
pub record HeldPre (z : Shape) (xs : List ℕ) (n : ℕ) : Type 0 where
  pub long : row_count * z.u ≤ length xs
  pub node : n < z.u
  pub slot : slot_of xs z.u n * (2 * z.l) + 2 * z.l ≤ z.limit

-- where its word is, and its phase
unfoldable pub held_at : Shape → List ℕ → ℕ → ValueHeld
held_at z xs n = record { at = slot_place z.limit z.l (slot_of xs z.u n); phase = phase_of xs z.u n }

-- the value that memory has for node n
unfoldable pub held_value : Shape → List ℕ → List ℕ → ℕ → Value
held_value z ws xs n = record {
  turns = phase_of xs z.u n;
  word = part ws (slot_place z.limit z.l (slot_of xs z.u n)) (2 * z.l);
}

-- ---- evaluation

-- a product's child is held, with a phase of 0 to 3
pub record ChildHeld (z : Shape) (xs : List ℕ) (m : ℕ) : Type 0 where
  pub held : HeldPre z xs m
  pub phase : phase_of xs z.u m < 4

-- a letter's qubit has its bit, a product's two children are held
abbrev pub InputsHeld : Shape → List ℕ → NodeRecord → Type 0
InputsHeld z xs Identity = Unit {0}
InputsHeld z xs (Letter q c) = q < 64 * z.l
InputsHeld z xs (Product a b) = ChildHeld z xs a.node × ChildHeld z xs b.node

pub record EvaluatePre (z : Shape) (x : NodeRecord) (ws xs : List ℕ) : Type 0 where
  pub scratch : z.limit + 2 * z.l ≤ length ws
  pub inputs : InputsHeld z xs x

-- the node's value, from those that memory has for its children
unfoldable pub value_of_record : Shape → List ℕ → List ℕ → NodeRecord → Value
value_of_record z ws xs x = node_value z.l (held_value z ws xs) (node_said x)

-- the value's word is the scratch word, and its phase is the answer
pub record Evaluated (z : Shape) (x : NodeRecord) (ws xs ws' : List ℕ) (e : ℕ) : Type 0 where
  pub words : ws' ≡ put ws (scratch_place z.limit) (value_of_record z ws xs x).word
  pub turns : e ≡ (value_of_record z ws xs x).turns

-- ---- giving up a use

abbrev pub uses_of : List ℕ → ℕ → ℕ → ℕ
uses_of s u n = get_or (row s u uses_row) n 0

-- node n is used, and its slot has room among the free ones
pub record ReleasePre (s : List ℕ) (u free n : ℕ) : Type 0 where
  pub long : row_count * u ≤ length s
  pub node : n < u
  pub room : free < u
  pub used : 0 < uses_of s u n

-- one use less; after the last one the slot is on top of the free slots
pub record Released (s : List ℕ) (u free n r : ℕ) (t : List ℕ) : Type 0 where
  pub only : Only (uses_row ∷ free_row ∷ []) u s t
  pub uses : row t u uses_row ≡ set (row s u uses_row) n (uses_of s u n - 1)
  pub count : r ≡ free + (when eqb (uses_of s u n) 1 then 1 else 0)
  pub stack : row t u free_row ≡ (when eqb (uses_of s u n) 1 then set (row s u free_row) free (slot_of s u n) else row s u free_row)

-- children a and b are used; the second still is where the first is given up
pub record BothUsed (s : List ℕ) (u free a b : ℕ) : Type 0 where
  pub room : free + 1 < u
  pub first : a < u
  pub second : b < u
  pub first_used : 0 < uses_of s u a
  pub second_used : 0 < get_or (set (row s u uses_row) a (uses_of s u a - 1)) b 0

-- a product's are
abbrev pub ChildrenUsed : List ℕ → ℕ → ℕ → NodeRecord → Type 0
ChildrenUsed s u free Identity = Unit {0}
ChildrenUsed s u free (Letter q c) = Unit {0}
ChildrenUsed s u free (Product a b) = BothUsed s u free a.node b.node

pub record ChildrenPre (s : List ℕ) (u free : ℕ) (x : NodeRecord) : Type 0 where
  pub long : row_count * u ≤ length s
  pub used : ChildrenUsed s u free x

-- the first child is released, then the second: `between` slots are free in between, in `store`
pub record BothReleased (s : List ℕ) (u free a b r : ℕ) (t : List ℕ) : Type 0 where
  pub between : ℕ
  pub store : List ℕ
  pub first : Released s u free a between store
  pub second : Released store u between b r t

-- nothing for a leaf, for a product its children
abbrev pub ReleasedAs : List ℕ → ℕ → ℕ → NodeRecord → ℕ → List ℕ → Type 0
ReleasedAs s u free Identity r t = (r ≡ free) × (t ≡ s)
ReleasedAs s u free (Letter q c) r t = (r ≡ free) × (t ≡ s)
ReleasedAs s u free (Product a b) r t = BothReleased s u free a.node b.node r t

pub record ChildrenReleased (s : List ℕ) (u free : ℕ) (x : NodeRecord) (r : ℕ) (t : List ℕ) : Type 0 where
  pub only : Only (uses_row ∷ free_row ∷ []) u s t
  pub released : ReleasedAs s u free x r t

-- ---- taking a slot

-- slots and axes are within the limit, and their numbers fit
pub record TakePre (z : Shape) (xs : List ℕ) (st : Slots) : Type 0 where
  pub long : row_count * z.u ≤ length xs
  pub free : st.free ≤ z.u
  pub limit : z.limit ≤ 1048576
  pub few : z.l ≤ 64
  pub room : st.slots * (2 * z.l) + st.axes * (2 * z.l) ≤ z.limit
  pub slots : st.slots < z.u

-- "(slots with the new one + axes) × 2l"
abbrev pub slot_sum : Shape → Slots → ℕ
slot_sum z st = (st.slots + 1 + st.axes) * (2 * z.l)

-- the slot freed last is taken
abbrev pub free_taken : Shape → List ℕ → Slots → Slots
free_taken z xs st = record {
  axes = st.axes;
  peak = st.peak;
  slots = st.slots;
  free = st.free - 1;
  taken = get_or (row xs z.u free_row) (st.free - 1) 0;
}

-- a new one is
abbrev pub new_taken : Shape → Slots → Slots
new_taken z st = record { axes = st.axes; peak = max st.peak (slot_sum z st); slots = st.slots + 1; free = 0; taken = st.slots }

-- "a slot is freed after its last use and reused, last freed first"; for a new one the sum is tested
unfoldable pub taken : Shape → List ℕ → Slots → Result Slots ExpansionLimit
taken z xs st =
    when ltb 0 st.free then Ok (free_taken z xs st)
    else when ltb z.limit (slot_sum z st) then Err expansion_limit
    else Ok (new_taken z st)

-- ---- keeping a value

-- slot s is within the limit, and fits 32 bits
pub record KeepPre (z : Shape) (n s : ℕ) (ws xs : List ℕ) : Type 0 where
  pub scratch : z.limit + 2 * z.l ≤ length ws
  pub long : row_count * z.u ≤ length xs
  pub node : n < z.u
  pub slot : s * (2 * z.l) + 2 * z.l ≤ z.limit
  pub small : s < longest_row

-- the scratch word is copied to slot s; node n has the slot, and the phase e
pub record Kept (z : Shape) (n s e : ℕ) (ws xs ws' xs' : List ℕ) : Type 0 where
  pub words : ws' ≡ put ws (slot_place z.limit z.l s) (part ws (scratch_place z.limit) (2 * z.l))
  pub only : Only (node_slot ∷ node_phase ∷ []) z.u xs xs'
  pub slot : row xs' z.u node_slot ≡ set (row xs z.u node_slot) n s
  pub phase : row xs' z.u node_phase ≡ set (row xs z.u node_phase) n e
