-- A node's turn up to its slot: worked out, its children's uses given up, kept in a slot. Assumes nothing.
use Rattle.std.specs.Prelude.{◌≡◌, false, ℕ, suc, ◌+◌, ◌-◌, ◌*◌, ◌≤◌, ◌<◌, set, take, Ok, Err}
use Rattle.std.proofs.Math.Path.{refl, sym, ap, ap₂}
use Rattle.std.proofs.Common.{◌∙◌, get_or-take}
use mathlib.Core.List.{List, [], ◌∷◌}
use native.Mathlib.Omega.{arith}
use Rattle.std.proofs.Math.ListN.{length, get_or}
use Rattle.std.proofs.Math.Seq.{take-set-lt}
use Rattle.store.specs.Part.{part, put, part_length, put_length, part_put_same}
use Rattle.store.specs.Row.{row, row_length}
use Rattle.model.specs.Lists.{any_of, member, all_of}
use Rattle.model.specs.Program.{Node, identity, letter, product, Program}
use Rattle.model.specs.Words.{Value, Store}
use Rattle.model.specs.Value.{node_value}
use Rattle.model.specs.Packing.{one_use_less, Pack, use_node, use_children, take_slot}
use Rattle.model.specs.Interface.{expansion_limit}
use Rattle.theory.specs.ByNode.{OfChildren, children_before}
use Rattle.theory.specs.Checked.{Fine}
use Rattle.theory.specs.NodeValue.{node_value_same, node_value_length}
use Rattle.theory.specs.PackedRoots.{children_keep}
use Rattle.axes.specs.Held.{sizes_of, HoldsAxes, held_count, held_rows, held_words, held_as}
use Rattle.layout.specs.declared.Shape.{Shape}
use Rattle.layout.specs.Rows.{row_count, uses_row, first_root, next_root, node_slot, node_phase, free_row, root_axis, root_sign, entries}
use Rattle.layout.specs.Only.{Only, only_then, only_of}
use Rattle.layout.specs.Words.{slot_place, slots_le, slot_in, slot_behind, KeptFrom, kept_then, kept_put, OnlyWords, words_put}
use Rattle.layout.specs.Shape.{Sized}
use Rattle.records.specs.declared.NodeRecord.{NodeRecord}
use Rattle.records.specs.declared.Factor.{Factor}
use Rattle.records.specs.declared.NodeRecord.TheVariants.{Identity, Letter, Product}
use Rattle.records.specs.Records.{node_said}
use Rattle.packing_states.specs.States.{node_at, value_of, before, slotted}
use Rattle.packing_states.specs.Counts.{less_at, edges_later, used_at}
use Rattle.packing_states.specs.Uses.{children_below, children_used}
use Rattle.packing_states.specs.Live.{used_below_more}
use Rattle.packing_states.specs.Linked.{linked_same}
use Rattle.packing.specs.declared.Slots.{Slots}
use Rattle.packing_answer.specs.declared.PackingRefusal.TheVariants.{ExpansionLimit}
use Rattle.packing.specs.Values.{slot_of, phase_of, uses_of, HeldPre, held_value, EvaluatePre, InputsHeld, ChildrenUsed, ReleasedAs, value_of_record, Evaluated, ChildrenPre}
use Rattle.packing.specs.Values.{ChildrenReleased, TakePre, taken, KeepPre, Kept}
use Rattle.packing.specs.Holding.{SlotsHold, SignedAt, Holding, Turned, PlaceAt}
use Rattle.packing.specs.RestKept.{turn_rows, RestKept}
use Rattle.packing.specs.Bounds.{slots_fit, nodes_in_lem, width_is, slots_in, held_pre}
use Rattle.packing.specs.NodeValues.{value_own, value_turns, leaf_in}
use Rattle.packing.specs.Release.{SlotsAre, holding_slots, count_is, free_room, slots_release}
use Rattle.packing.specs.Keeping.{slots_scratch, slots_kept}
use Rattle.packing.specs.Taking.{Took, took_none, took_slot}

-- ---- a record's node

-- its children
said_children : (P : ℕ → Type 0) (r : NodeRecord) → ((a b : Factor) → r ≡ Product a b → P a.node × P b.node) → OfChildren P (node_said r)
said_children P Identity h = tt
said_children P (Letter q c) h = tt
said_children P (Product a b) h = h a b refl

-- ---- rows that are not written

-- a reference's axis and sign
signed_same : {p : Program} {u j : ℕ} {axes axes' : List (List ℕ)} {xs t : List ℕ} → axes' ≡ axes → row t u root_axis ≡ row xs u root_axis
    → row t u root_sign ≡ row xs u root_sign → SignedAt p u axes xs j → SignedAt p u axes' t j
signed_same e a b s = rw e (record { stored = s.stored; axis = rw a s.axis; sign = rw b s.sign })

-- ---- before the node is worked out

module _ {p : Program} {z : Shape} {st : Slots} {n : ℕ} {x : NodeRecord} {ws xs : List ℕ} (h : PlaceAt p z st n x ws xs) where
  size : Sized z
  size = h.granted.sized

  fine : Fine p
  fine = h.program.fine

  below : n < length p.nodes
  below = omega (arith, h.node, h.program.nodes)

  slots_below : st.slots < z.u
  slots_below = slots_in h.granted h.holding

  -- a product's children
  module _ {a b : Factor} (k : x ≡ Product a b) where
    is_product : node_at p n ≡ product a.node a.phase b.node b.phase
    is_product = sym h.said ∙ ap node_said k

    children_in : (a.node < n) × (b.node < n)
    children_in = children_below p fine n below is_product

    children_live : (0 < get_or (before p n).uses a.node 0) × (0 < get_or (one_use_less a.node (before p n).uses) b.node 0)
    children_live = children_used p fine n below h.holding.going h.used is_product

    second_live : 0 < get_or (before p n).uses b.node 0
    second_live = omega (arith, children_live.1, less_at (before p n).uses a.node b.node)

  -- what is held of a node that is still to be used
  module _ (m : ℕ) (a : m < n) (u : 0 < get_or (before p n).uses m 0) where
    node_held : HeldPre z xs m
    node_held = held_pre h.granted h.holding m a (omega (arith, h.node)) u

    held_phase : phase_of xs z.u m < 4
    held_phase = omega (arith, h.holding.held.turns m a u, value_turns p fine m (omega (arith, below)))

    held_value_lem : held_value z ws xs m ≡ value_of p m
    unfolding held_value
    held_value_lem =
        ap₂ (λ (t : ℕ) (w : List ℕ). record { turns = t; word = w }) (h.holding.held.turns m a u) (h.holding.held.word m a u)

    held_length : length (value_of p m).word ≡ 2 * z.l
    held_length =
        let i = slot_in z.limit z.l st.slots (slots_fit h.holding) (slot_of xs z.u m) (h.holding.held.slot m a u) in
        ap length (sym (h.holding.held.word m a u))
        ∙ part_length ws (slot_place z.limit z.l (slot_of xs z.u m)) (2 * z.l) (omega (arith, h.granted.words_long))

  -- a leaf's qubit has its bit
  leaf_qubit : {q c : ℕ} → x ≡ Letter q c → q < 64 * z.l
  leaf_qubit e =
      let leaf = rw (sym h.said ∙ ap node_said e) at (leaf_in p fine n below) in
      omega (arith, leaf.0, h.program.qubits, size.bits)

  -- `evaluate` can be called
  inputs_held : (y : NodeRecord) → x ≡ y → InputsHeld z xs y
  inputs_held Identity e = tt
  inputs_held (Letter q c) e = leaf_qubit e
  inputs_held (Product a b) e =
      let i = children_in e in
      let first = (children_live e).0 in
      let second = second_live e in (
        record { held = node_held a.node i.0 first; phase = held_phase a.node i.0 first },
        record { held = node_held b.node i.1 second; phase = held_phase b.node i.1 second },
      )

  pub evaluate_pre : EvaluatePre z x ws xs
  evaluate_pre = record { scratch = omega (arith, h.granted.words_long); inputs = inputs_held x refl }

  -- the model's value, by what the record says
  value_said : node_value z.l (value_of p) (node_said x) ≡ value_of p n
  value_said =
      ap₂ (λ (l : ℕ) (node : Node). node_value l (value_of p) node) (sym (width_is h.granted h.program)) h.said
      ∙ sym (value_own p fine n below)

  -- `evaluate` works it out
  value_is : value_of_record z ws xs x ≡ value_of p n
  unfolding value_of_record
  value_is =
      node_value_same z.l (held_value z ws xs) (value_of p) (node_said x)
      (said_children (λ i. held_value z ws xs i ≡ value_of p i) x
      (λ a b k. (held_value_lem a.node (children_in k).0 (children_live k).0, held_value_lem b.node (children_in k).1 (second_live k))))
      ∙ value_said

  -- which has 2l numbers
  value_long : length (value_of p n).word ≡ 2 * z.l
  value_long =
      ap (λ (v : Value). length v.word) (sym value_said)
      ∙ node_value_length z.l p.qubits (value_of p) (node_said x) (omega (arith, h.program.qubits, size.bits))
      (rw h.said (leaf_in p fine n below))
      (said_children (λ i. length (value_of p i).word ≡ 2 * z.l) x
      (λ a b k. (held_length a.node (children_in k).0 (children_live k).0, held_length b.node (children_in k).1 (second_live k))))

  -- ---- the children's uses

  slots_are : SlotsAre z.l z.limit z.u z.nodes n st.slots st.free (value_of p) (before p n) ws xs
  slots_are = holding_slots h.holding

  used_count : (m : ℕ) → m < n → uses_of xs z.u m ≡ get_or (before p n).uses m 0
  used_count m a = count_is m h.granted.numbers_long (nodes_in_lem h.granted) (omega (arith, h.node)) slots_are

  second_count : {a b : Factor} → x ≡ Product a b → get_or (set (row xs z.u uses_row) a.node (uses_of xs z.u a.node - 1)) b.node 0
      ≡ get_or (one_use_less a.node (before p n).uses) b.node 0
  unfolding entries one_use_less
  second_count {a} {b} k =
      let c = children_in k in
      let uses = row xs z.u uses_row in
      let v = uses_of xs z.u a.node - 1 in
      sym (get_or-take z.nodes (set uses a.node v) b.node 0 (omega (arith, h.node)))
      ∙ ap (λ (y : List ℕ). get_or y b.node 0) (take-set-lt z.nodes uses a.node v (omega (arith, h.node)))
      ∙ ap₂ (λ (y : List ℕ) (w : ℕ). get_or (set y a.node (w - 1)) b.node 0) h.holding.uses (used_count a.node c.0)

  -- `release_children` can be called
  used_children : (y : NodeRecord) → x ≡ y → ChildrenUsed xs z.u st.free y
  used_children Identity k = tt
  used_children (Letter q c) k = tt
  used_children (Product a b) k = record {
    room = omega (arith, slots_below, free_room a.node (children_in k).0 (children_live k).0 slots_are);
    first = omega (arith, (children_in k).0, h.node, nodes_in_lem h.granted);
    second = omega (arith, (children_in k).1, h.node, nodes_in_lem h.granted);
    first_used = omega (arith, (children_live k).0, used_count a.node (children_in k).0);
    second_used = omega (arith, (children_live k).1, second_count k);
  }

  pub children_pre : ChildrenPre xs z.u st.free x
  children_pre = record { long = h.granted.numbers_long; used = used_children x refl }

  -- it leaves the slots of the model's pack after the children are used
  module _ {r : ℕ} {t : List ℕ} (c : ChildrenReleased xs z.u st.free x r t) where
    freed : SlotsAre z.l z.limit z.u z.nodes n st.slots r (value_of p) (use_children (node_at p n) (before p n)) ws t
    unfolding use_children use_node
    freed = go x refl c.released
      where
        go : (y : NodeRecord) → x ≡ y → ReleasedAs xs z.u st.free y r t
            → SlotsAre z.l z.limit z.u z.nodes n st.slots r (value_of p) (use_children (node_at p n) (before p n)) ws t
        go Identity k e = let leaf : node_at p n ≡ identity = sym h.said ∙ ap node_said k in rw (leaf, e.0, e.1) slots_are
        go (Letter q d) k e = let leaf : node_at p n ≡ letter q d = sym h.said ∙ ap node_said k in rw (leaf, e.0, e.1) slots_are
        go (Product a b) k both =
            let one = slots_release a.node (children_in k).0 (children_live k).0 slots_are h.granted.numbers_long
            (nodes_in_lem h.granted) (omega (arith, h.node)) slots_below both.first in
            rw (is_product k)
            (slots_release b.node (children_in k).1 (children_live k).1 one
            (omega (arith, h.granted.numbers_long, both.first.only.long)) (nodes_in_lem h.granted) (omega (arith, h.node)) slots_below
            both.second)

-- ---- after the children are released: r slots are free, t is the number store, ws' has the value's word as scratch word

module _ {p : Program} {z : Shape} {st : Slots} {n : ℕ} {x : NodeRecord} {ws xs ws' t : List ℕ} {e r : ℕ} (h : PlaceAt p z st n x ws xs)
    (v : Evaluated z x ws xs ws' e) (c : ChildrenReleased xs z.u st.free x r t) where
  abbrev word : List ℕ
  word = (value_of p n).word

  abbrev k₁ : Pack
  k₁ = use_children (node_at p n) (before p n)

  abbrev st₁ : Slots
  st₁ = record { axes = st.axes; peak = st.peak; slots = st.slots; free = r; taken = st.taken }

  words_are : ws' ≡ put ws z.limit word
  words_are = v.words ∙ ap (λ (y : Value). put ws z.limit y.word) (value_is h)

  turns_are : e ≡ (value_of p n).turns
  turns_are = v.turns ∙ ap (λ (y : Value). y.turns) (value_is h)

  scratch_in : z.limit + length word ≤ length ws
  scratch_in = omega (arith, value_long h, h.granted.words_long)

  words_long : length ws' ≡ length ws
  words_long = ap length words_are ∙ put_length ws z.limit word scratch_in

  numbers_long : row_count * z.u ≤ length t
  numbers_long = omega (arith, c.only.long, h.granted.numbers_long)

  -- the slots
  slots₁ : SlotsAre z.l z.limit z.u z.nodes n st.slots r (value_of p) k₁ ws' t
  slots₁ =
      let f = freed h c in
      record {
        all = f.all;
        live = f.live;
        uses = f.uses;
        held = rw words_are (slots_scratch word (slots_fit h.holding) scratch_in f.held);
      }

  -- the axes
  axes₁ : HoldsAxes (sizes_of z st.axes) ws' t k₁.store.axes
  unfolding member any_of
  axes₁ =
      let written : OnlyWords z.limit (z.limit + length word) ws ws' =
      rw words_are (words_put z.limit (z.limit + length word) ws z.limit word (omega arith) (omega arith) scratch_in) in
      held_as (held_rows (held_words h.holding.axes written (omega (arith, h.holding.room))) c.only refl)
      (ap (λ (y : Store). y.axes) (sym (children_keep (node_at p n) (before p n)).0))

  -- `take_slot` can be called
  pub take_pre : TakePre z t st₁
  take_pre = record {
    long = numbers_long;
    free = omega (arith, slots₁.all, slots_below h);
    limit = (size h).limit;
    few = (size h).few;
    room = h.holding.room;
    slots = slots_below h;
  }

  is_slotted : slotted p n ≡ take_slot z.l k₁
  unfolding slotted
  is_slotted = ap (λ (l : ℕ). take_slot l k₁) (width_is h.granted h.program)

  slots_count : k₁.slots ≡ st.slots
  slots_count = (children_keep (node_at p n) (before p n)).1.0 ∙ h.holding.slots

  axes_count : length k₁.store.axes ≡ st.axes
  axes_count = held_count axes₁

  kept₁ : KeptFrom (z.limit + 2 * z.l) ws ws'
  kept₁ =
      rw words_are (kept_put (z.limit + 2 * z.l) ws z.limit word (omega (arith, value_long h)) (omega (arith, h.granted.words_long)))

  -- the limit refuses the slot
  pub place_limit : taken z t st₁ ≡ Err expansion_limit → Turned p z (suc n) n 0 (slotted p n) (Err ExpansionLimit) ws' t
  place_limit f =
      rw is_slotted (took_none z n (value_of p) t ws' (row t z.u node_phase) st₁ k₁ slots_count slots₁.all axes_count f)

  pub rest_limit : RestKept z ws xs ws' t
  unfolding all_of member any_of
  rest_limit = record { words = kept₁; numbers = only_of turn_rows refl c.only }

  -- the slot that is taken
  module _ {st' : Slots} (f : taken z t st₁ ≡ Ok st') where
    abbrev s : ℕ
    s = st'.taken

    same_peak : k₁.store.peak ≡ (before p n).store.peak
    same_peak = ap (λ (y : Store). y.peak) (children_keep (node_at p n) (before p n)).0

    took : Took z n st.axes st.slots r (row t z.u node_slot) (row t z.u free_row) k₁ (take_slot z.l k₁) st'
    took =
        took_slot z n (value_of p) t ws' (row t z.u node_phase) st₁ k₁ slots_count slots₁.all axes_count slots₁.held
        h.holding.room (same_peak ∙ h.holding.peak) (omega (arith, h.holding.fits, same_peak)) f

    slots_fit' : st'.slots * (2 * z.l) ≤ z.limit
    slots_fit' = omega (arith, took.room)

    -- `keep` can be called
    pub keep_pre : KeepPre z n s ws' t
    keep_pre = record {
      scratch = omega (arith, words_long, h.granted.words_long);
      long = numbers_long;
      node = omega (arith, h.node, nodes_in_lem h.granted);
      slot = omega (arith, slots_le z.l s st'.slots took.takes.inside, slots_fit');
      small = omega (arith, took.takes.inside, (size h).words_row st'.slots slots_fit', (size h).u_small);
    }

    -- the value is kept: ws'' has it in the slot, t'' its slot and phase
    module _ {ws'' t'' : List ℕ} (q : Kept z n s e ws' t ws'' t'') where
      place_in : slot_place z.limit z.l s + 2 * z.l ≤ z.limit
      place_in = slot_in z.limit z.l st'.slots slots_fit' s took.takes.inside

      words'' : ws'' ≡ put ws' (slot_place z.limit z.l s) word
      words'' =
          q.words
          ∙ ap (put ws' (slot_place z.limit z.l s))
          (ap (λ (y : List ℕ). part y z.limit (2 * z.l)) words_are
          ∙ part_put_same ws z.limit (2 * z.l) word (omega (arith, h.granted.words_long)) (value_long h))

      word_in : slot_place z.limit z.l s + length word ≤ length ws'
      word_in = omega (arith, place_in, value_long h, words_long, h.granted.words_long)

      numbers'' : Only (uses_row ∷ free_row ∷ node_slot ∷ node_phase ∷ []) z.u xs t''
      unfolding all_of member any_of
      numbers'' =
          let rows = uses_row ∷ free_row ∷ node_slot ∷ node_phase ∷ [] in
          only_then (only_of rows refl c.only) (only_of rows refl q.only)

      same_row : (f : ℕ) → f < row_count → member f (uses_row ∷ free_row ∷ node_slot ∷ node_phase ∷ []) ≡ false
          → row t'' z.u f ≡ row xs z.u f
      same_row f b o = numbers''.rows f b o

      same_uses : row t'' z.u uses_row ≡ row t z.u uses_row
      unfolding member any_of
      same_uses = q.only.rows uses_row (omega arith) refl

      same_free : row t'' z.u free_row ≡ row t z.u free_row
      unfolding member any_of
      same_free = q.only.rows free_row (omega arith) refl

      -- the node itself is still to be used
      own_use : 0 < get_or k₁.uses n 0
      unfolding node_at
      own_use =
          omega (
            arith,
            used_at (node_at p n) (before p n) n,
            edges_later n (node_at p n) (children_before p.nodes (fine h).ordered n (below h)) n (omega arith),
            h.used,
          )

      axes'' : HoldsAxes (sizes_of z st'.axes) ws'' t'' (take_slot z.l k₁).store.axes
      unfolding member any_of
      axes'' =
          let room : st.axes * (2 * z.l) + st'.slots * (2 * z.l) ≤ z.limit = rw (← took.same_axes) (omega (arith, took.room)) in
          let at = slot_place z.limit z.l s in
          let written : OnlyWords at (at + length word) ws' ws'' =
          rw words'' (words_put at (at + length word) ws' at word (omega arith) (omega arith) word_in) in
          let behind = slot_behind z.limit z.l st'.slots slots_fit' s (st.axes * (2 * z.l)) took.takes.inside room in
          rw (took.same_axes, took.stored) (held_rows (held_words axes₁ written behind) q.only refl)

      held'' : SlotsHold z.l z.limit (suc n) st'.slots st'.free (value_of p) (take_slot z.l k₁).uses
          (row t'' z.u node_slot) (row t'' z.u node_phase) (row t'' z.u free_row) ws''
      held'' =
          rw (took.uses, q.slot, q.phase, same_free, words'')
          (slots_kept slots_fit' (omega (arith, words_long, h.granted.words_long))
          (omega (arith, row_length t z.u row_count node_slot numbers_long (omega arith), h.node, nodes_in_lem h.granted))
          (omega (arith, row_length t z.u row_count node_phase numbers_long (omega arith), h.node, nodes_in_lem h.granted))
          turns_are refl (value_long h) took.takes slots₁.held)

      holding'' : Holding p z (suc n) n 0 (take_slot z.l k₁) st' ws'' t''
      unfolding entries member any_of
      holding'' = record {
        going = took.refused ∙ (children_keep (node_at p n) (before p n)).1.1 ∙ h.holding.going;
        peak = took.peak;
        fits = took.fits;
        axes = axes'';
        room = took.room;
        slots = took.slots_are;
        free = took.all;
        live = rw took.uses (omega (arith, took.live_more, slots₁.live, used_below_more n k₁.uses own_use));
        uses = ap (take z.nodes) same_uses ∙ slots₁.uses ∙ sym took.uses;
        held = held'';
        signed = λ j a b d.
            signed_same (took.stored ∙ ap (λ (y : Store). y.axes) (children_keep (node_at p n) (before p n)).0)
            (same_row root_axis (omega arith) refl) (same_row root_sign (omega arith) refl) (h.holding.signed j a b d);
        linked =
            linked_same (same_row first_root (omega arith) refl) (same_row next_root (omega arith) refl)
            (same_row root_axis (omega arith) refl) (same_row root_sign (omega arith) refl) h.holding.linked;
      }

      -- the turn goes on
      pub place_next : Turned p z (suc n) n 0 (slotted p n) (Ok st') ws'' t''
      place_next = rw is_slotted holding''

      pub rest_next : RestKept z ws xs ws'' t''
      unfolding all_of member any_of
      rest_next = record {
        words = kept_then kept₁
            (rw words'' (kept_put (z.limit + 2 * z.l) ws' (slot_place z.limit z.l s) word (omega (arith, place_in, value_long h))
            (omega (arith, words_long, h.granted.words_long))));
        numbers = only_of turn_rows refl numbers'';
      }
