-- The first state, and a state with a part of it changed. Assumes nothing.
use Rattle.std.specs.Prelude.{◌≡◌, ℕ, Result, Ok, Err}
use Rattle.std.specs.Result.{IsErr}
use Rattle.std.proofs.Common.{sym, ◌∙◌, rules}
use Rattle.std.proofs.Math.Path.{ap, refl}
use Rattle.steps.specs.declared.State.{State}
use Rattle.steps.specs.declared.Image.{Image}
use Rattle.model.specs.declared.ExpansionLimit.{ExpansionLimit}
use Rattle.model.specs.Interface.{expansion_limit}

-- the first: so many axes, the largest sum so far, so many items
abbrev pub first_state : ℕ → ℕ → ℕ → State
first_state n peak k =
    record { axes = n; peak = peak; id = 0; turns = 0; slots = 0; out = k; start = 0; waiting = 0; merges = 0; swaps = 0; absorbed = 0 }

-- an axis's image, among so many axes, and the largest sum then
abbrev pub with_image : ℕ → ℕ → ℕ → ℕ → State → State
with_image n peak a e st = record {
  axes = n;
  peak = peak;
  id = a;
  turns = e;
  slots = st.slots;
  out = st.out;
  start = st.start;
  waiting = st.waiting;
  merges = st.merges;
  swaps = st.swaps;
  absorbed = st.absorbed;
}

-- so many qubits touched, and the largest sum then
abbrev pub with_slots : ℕ → ℕ → State → State
with_slots peak n st = record {
  axes = st.axes;
  peak = peak;
  id = st.id;
  turns = st.turns;
  slots = n;
  out = st.out;
  start = st.start;
  waiting = st.waiting;
  merges = st.merges;
  swaps = st.swaps;
  absorbed = st.absorbed;
}

-- so many items put out
abbrev pub with_out : ℕ → State → State
with_out n st = record {
  axes = st.axes;
  peak = st.peak;
  id = st.id;
  turns = st.turns;
  slots = st.slots;
  out = n;
  start = st.start;
  waiting = st.waiting;
  merges = st.merges;
  swaps = st.swaps;
  absorbed = st.absorbed;
}

-- so many items put out, and a segment begins
abbrev pub with_segment : ℕ → State → State
with_segment n st = record {
  axes = st.axes;
  peak = st.peak;
  id = st.id;
  turns = st.turns;
  slots = st.slots;
  out = n;
  start = n;
  waiting = st.waiting;
  merges = st.merges;
  swaps = st.swaps;
  absorbed = st.absorbed;
}

-- so many places named
abbrev pub with_waiting : ℕ → State → State
with_waiting n st = record {
  axes = st.axes;
  peak = st.peak;
  id = st.id;
  turns = st.turns;
  slots = st.slots;
  out = st.out;
  start = st.start;
  waiting = n;
  merges = st.merges;
  swaps = st.swaps;
  absorbed = st.absorbed;
}

-- so many merges
abbrev pub with_merges : ℕ → State → State
with_merges n st = record {
  axes = st.axes;
  peak = st.peak;
  id = st.id;
  turns = st.turns;
  slots = st.slots;
  out = st.out;
  start = st.start;
  waiting = st.waiting;
  merges = n;
  swaps = st.swaps;
  absorbed = st.absorbed;
}

-- so many exchanges
abbrev pub with_swaps : ℕ → State → State
with_swaps n st = record {
  axes = st.axes;
  peak = st.peak;
  id = st.id;
  turns = st.turns;
  slots = st.slots;
  out = st.out;
  start = st.start;
  waiting = st.waiting;
  merges = st.merges;
  swaps = n;
  absorbed = st.absorbed;
}

-- so many rotations absorbed
abbrev pub with_absorbed : ℕ → State → State
with_absorbed n st = record {
  axes = st.axes;
  peak = st.peak;
  id = st.id;
  turns = st.turns;
  slots = st.slots;
  out = st.out;
  start = st.start;
  waiting = st.waiting;
  merges = st.merges;
  swaps = st.swaps;
  absorbed = n;
}

-- the one error, as a `?` returns it
pub is_limit : {T : Type 0} (r : Result T ExpansionLimit) → IsErr r → r ≡ Err expansion_limit
is_limit (Ok x) e = search rules
is_limit (Err x) e = refl

-- how a step from st ends, by how carrying an axis ends
unfoldable pub step_with : State → Result Image ExpansionLimit → Result State ExpansionLimit
step_with st (Ok i) = Ok (with_image i.axes i.peak i.id i.turns st)
step_with st (Err _) = Err expansion_limit

module _ (st : State) {r : Result Image ExpansionLimit} where
  pub with_next : {i : Image} {s : State} → r ≡ Ok i → s ≡ with_image i.axes i.peak i.id i.turns st → step_with st r ≡ Ok s
  unfolding step_with
  with_next e f = ap (step_with st) e ∙ ap Ok (sym f)

  pub with_limit : r ≡ Err expansion_limit → step_with st r ≡ Err expansion_limit
  unfolding step_with
  with_limit e = ap (step_with st) e
