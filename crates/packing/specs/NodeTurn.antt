-- A node's turn: not used, or placed and its roots packed. Assumes nothing.
use Rattle.std.specs.Prelude.{◌≡◌, refl, true, false, List, ℕ, suc, ◌+◌, ◌-◌, ◌*◌, ◌≤◌, ◌<◌, length, get_or, Result, Ok, Err}
use Rattle.std.proofs.Common.{sym, ap, ◌∙◌, true≢false, inl, inr, arith}
use Rattle.std.proofs.Math.Decide.{dec_lt, ℕ_discrete}
use Rattle.store.specs.Row.{row}
use Rattle.model.specs.Program.{PauliRef, Program}
use Rattle.model.specs.Words.{Value}
use Rattle.model.specs.Packing.{Pack}
use Rattle.layout.specs.declared.Shape.{Shape}
use Rattle.layout.specs.Rows.{row_count, uses_row}
use Rattle.records.specs.declared.NodeRecord.{NodeRecord}
use Rattle.records.specs.Records.{node_record, operation_record, row_record, node_said}
use Rattle.records.specs.Given.{program_in, Given}
use Rattle.packing_states.specs.References.{reference_at, total, is_root_at}
use Rattle.packing_states.specs.States.{before, slotted, within}
use Rattle.packing_states.specs.StateLaws.{before_unused, before_used}
use Rattle.packing_states.specs.Uses.{unused_no_roots}
use Rattle.packing_states.specs.Live.{used_below_same}
use Rattle.packing_states.specs.InMemory.{total_is, node_is, operation_reference, row_reference, OfShape, given_shape}
use Rattle.packing.specs.declared.Slots.{Slots}
use Rattle.packing_answer.specs.declared.PackingRefusal.{PackingRefusal}
use Rattle.packing.specs.Phases.{phase_in, phase_operation, phase_row_lem}
use Rattle.packing_states.specs.SomeProgram.{SomeProgram}
use Rattle.packing.specs.Holding.{slots_among, SlotsHold, Done, Holding, holding_done, RefusedAt, Turned, refused_later, PlaceAt, RootsAt, NodeAt}
use Rattle.packing.specs.Bounds.{nodes_in_lem}
use Rattle.packing.specs.Release.{holding_slots, count_is}
use Rattle.packing.specs.RestKept.{RestKept, rest_none, rest_then, rest_granted}
use Rattle.packing_states.specs.ReferenceLaws.{its_root}

-- ---- the program in the lent slices

module _ {z : Shape} {ns os rs : List ℕ} (g : Given z ns os rs) where
  -- each reference has its phase there
  phases_there : (j : ℕ) → j < total (program_in z ns os rs) → phase_in z.operations os rs j ≡ (reference_at (program_in z ns os rs) j).phase
  phases_there j b = go (dec_lt j z.operations)
    where
      go : Dec (j < z.operations) → phase_in z.operations os rs j ≡ (reference_at (program_in z ns os rs) j).phase
      go (yes h) =
          sym (phase_operation z.operations os rs j (operation_record os j) h refl)
          ∙ sym (ap (λ (r : PauliRef). r.phase) (operation_reference z ns os rs j h))
      go (no h) =
          let r = j - z.operations in
          let e : z.operations + r ≡ j = omega arith in
          let f = row_reference z ns os rs r (omega (arith, total_is z ns os rs)) in
          sym (phase_row_lem z.operations os rs j (row_record rs r) (omega arith) refl) ∙ sym (ap (λ (x : PauliRef). x.phase) (rw e at f))

-- ---- a node that is not used

-- it needs no slot
held_unused : {l limit n slots free : ℕ} {value : ℕ → Value} {uses slot_row phase_row stack ws : List ℕ} → get_or uses n 0 ≡ 0
    → SlotsHold l limit n slots free value uses slot_row phase_row stack ws
    → SlotsHold l limit (suc n) slots free value uses slot_row phase_row stack ws
held_unused {n = n} {uses = uses} e h = slots_among (λ m a u. (below m a u, u)) h
  where
    below : (m : ℕ) → m < suc n → 0 < get_or uses m 0 → m < n
    below m a u = go (ℕ_discrete m n)
      where
        go : Dec (m ≡ n) → m < n
        go (yes f) = let z : get_or uses m 0 ≡ 0 = rw f e in absurd (omega arith)
        go (no f) = omega arith

module _ {p : Program} {z : Shape} {n : ℕ} {st : Slots} {ws xs : List ℕ} (w : OfShape p z) (b : n < z.nodes)
    (h : Holding p z n n 0 (before p n) st ws xs) where
  in_nodes : n < length p.nodes
  in_nodes = omega (arith, w.nodes)

  after_unused : get_or (before p n).uses n 0 ≡ 0 → Holding p z (suc n) (suc n) 0 (before p (suc n)) st ws xs
  after_unused e = rw (before_unused p n e) (record {
    going = h.going;
    peak = h.peak;
    fits = h.fits;
    axes = h.axes;
    room = h.room;
    slots = h.slots;
    free = h.free;
    live = h.live ∙ sym (used_below_same n (before p n).uses e);
    uses = h.uses;
    held = held_unused e h.held;
    signed = λ j a r d. h.signed j a r (earlier j a r d);
    linked = h.linked;
  })
    where
      at_n : (j : ℕ) → j < total p → is_root_at p j ≡ true → Dec ((reference_at p j).node ≡ n) → (reference_at p j).node < suc n → Done p n 0 j
      at_n j a r (yes f) d = absurd (true≢false (sym (its_root p n j r f) ∙ unused_no_roots p w.fine n in_nodes h.going e j a))
      at_n j a r (no f) d = inl (omega arith)

      earlier : (j : ℕ) → j < total p → is_root_at p j ≡ true → Done p (suc n) 0 j → Done p n 0 j
      earlier j a r (inl d) = at_n j a r (ℕ_discrete (reference_at p j).node n) d
      earlier j a r (inr (f, d)) = absurd (omega arith)

-- ---- a used node

-- after its last root comes the next node
past_roots : {p : Program} {z : Shape} {b n : ℕ} {k : Pack} {st : Slots} {ws xs : List ℕ} → Holding p z b n (total p) k st ws xs
    → Holding p z b (suc n) 0 k st ws xs
past_roots {p} {n = n} = holding_done earlier
  where
    at_n : (j : ℕ) → j < total p → Dec ((reference_at p j).node ≡ n) → (reference_at p j).node < suc n → Done p n (total p) j
    at_n j a (yes e) d = inr (e, a)
    at_n j a (no e) d = inl (omega arith)

    earlier : (j : ℕ) → j < total p → is_root_at p j ≡ true → Done p (suc n) 0 j → Done p n (total p) j
    earlier j a r (inl d) = at_n j a (ℕ_discrete (reference_at p j).node n) d
    earlier j a r (inr (e, d)) = absurd (omega arith)

module _ (p : Program) (n : ℕ) (f : (before p n).refused ≡ false) (u : 0 < get_or (before p n).uses n 0) where
  -- a refusal before its roots ends its turn
  after_refused : (z : Shape) (e : PackingRefusal) → RefusedAt z (slotted p n) e → RefusedAt z (before p (suc n)) e
  unfolding within
  after_refused z e h = rw (before_used p n f u) (refused_later p z n 0 (total p) e (omega arith) h)

  -- its roots end its turn
  after_roots : (z : Shape) (r : Result Slots PackingRefusal) (ws xs : List ℕ) → Turned p z (suc n) n (total p) (within p n (total p)) r ws xs
      → Turned p z (suc n) (suc n) 0 (before p (suc n)) r ws xs
  after_roots z (Ok st) ws xs t = past_roots (rw (before_used p n f u) t)
  after_roots z (Err e) ws xs t = rw (before_used p n f u) t

-- ---- node n's turn, from what it demands

module _ {z : Shape} {st : Slots} {n : ℕ} {ns os rs ws xs : List ℕ} (a : NodeAt z st n ns os rs ws xs) where
  -- its uses are in their row
  pub uses_there : (row_count * z.u ≤ length xs) × (uses_row < row_count) × (n < z.u)
  uses_there = let g = a.granted in (g.numbers_long, omega arith, omega (arith, a.node, g.sized.row))

  -- its record is there
  pub node_there : n * 5 + 5 ≤ length ns
  node_there = omega (arith, a.node, a.given.nodes_long)

  uses_is : (v : ℕ) → v ≡ get_or (row xs z.u uses_row) n 0 → v ≡ get_or (before (program_in z ns os rs) n).uses n 0
  uses_is v e = e ∙ count_is n a.granted.numbers_long (nodes_in_lem a.granted) a.node (holding_slots a.holding)

  pub turn_unused : {v : ℕ} → v ≡ get_or (row xs z.u uses_row) n 0 → v ≡ 0
      → RestKept z ws xs ws xs × Turned (program_in z ns os rs) z (suc n) (suc n) 0 (before (program_in z ns os rs) (suc n)) (Ok st) ws xs
  turn_unused {v} e f =
      (rest_none z ws xs, after_unused (given_shape a.given) a.node a.holding (sym (uses_is v e) ∙ f))

  module _ {v : ℕ} (e : v ≡ get_or (row xs z.u uses_row) n 0) (f : v ≡ 0 → ⊥) where
    used : 0 < get_or (before (program_in z ns os rs) n).uses n 0
    used = let g = uses_is v e in omega (arith, g, f)

    place_at : {x : NodeRecord} → x ≡ node_record ns n → PlaceAt (program_in z ns os rs) z st n x ws xs
    place_at i = record {
      granted = a.granted;
      program = given_shape a.given;
      node = a.node;
      said = ap node_said i ∙ sym (node_is z ns os rs n a.node);
      used = used;
      holding = a.holding;
    }

    -- it can be placed
    pub place_there : {x : NodeRecord} → x ≡ node_record ns n → SomeProgram (λ p. PlaceAt p z st n x ws xs)
    place_there i = record { program = program_in z ns os rs; it = place_at i }

    -- and has been
    module _ {x : NodeRecord} {r : Result Slots PackingRefusal} {ws' xs' : List ℕ} (i : x ≡ node_record ns n) (k : RestKept z ws xs ws' xs')
        (t : (p : Program) → PlaceAt p z st n x ws xs → Turned p z (suc n) n 0 (slotted p n) r ws' xs') where
      -- refused
      pub turn_refused : (refusal : PackingRefusal) → r ≡ Err refusal → RestKept z ws xs ws' xs'
          × Turned (program_in z ns os rs) z (suc n) (suc n) 0 (before (program_in z ns os rs) (suc n)) (Err refusal) ws' xs'
      turn_refused refusal c =
          (k, after_refused (program_in z ns os rs) n a.holding.going used z refusal (rw c at (t (program_in z ns os rs) (place_at i))))

      module _ {s : Slots} (c : r ≡ Ok s) where
        roots_at : RootsAt (program_in z ns os rs) z s n os rs ws' xs'
        roots_at = record {
          granted = rest_granted a.granted k;
          program = given_shape a.given;
          operations_long = a.given.operations_long;
          rows_long = a.given.rows_long;
          phases = phases_there a.given;
          node = a.node;
          going = a.holding.going;
          used = used;
          holding = rw c at (t (program_in z ns os rs) (place_at i));
        }

        -- its roots can be packed
        pub roots_there : SomeProgram (λ p. RootsAt p z s n os rs ws' xs')
        roots_there = record { program = program_in z ns os rs; it = roots_at }

        -- and have been
        pub turn_roots : (q : Result Slots PackingRefusal) {ws'' xs'' : List ℕ} → RestKept z ws' xs' ws'' xs''
            → ((p : Program) → RootsAt p z s n os rs ws' xs' → Turned p z (suc n) n (total p) (within p n (total p)) q ws'' xs'')
            → RestKept z ws xs ws'' xs'' × Turned (program_in z ns os rs) z (suc n) (suc n) 0 (before (program_in z ns os rs) (suc n)) q ws'' xs''
        turn_roots q l m =
            (rest_then k l, after_roots (program_in z ns os rs) n a.holding.going used z q _ _ (m (program_in z ns os rs) roots_at))
