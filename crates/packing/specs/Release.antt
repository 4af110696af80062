-- Slots while uses are given up: after a node's last use its slot is on top of the free slots. Assumes nothing.
use Rattle.std.proofs.Math.Path.{◌≡◌, refl, sym, ap, ap₂}
use Rattle.std.proofs.Common.{◌∙◌, arith, get_or-set_same, get_or-set_other}
use Rattle.std.specs.Prelude.{Bool, ◌≢◌, ℕ, ◌+◌, ◌-◌, ◌*◌, ◌≤◌, ◌<◌, take}
use Rattle.std.proofs.Math.Bool.{true, false}
use mathlib.Core.List.{List}
use Rattle.std.proofs.Math.Nat.{add-zero}
use Rattle.std.proofs.Math.Decide.{ℕ_discrete}
use Rattle.std.proofs.Math.Dec.{eqb}
use Rattle.std.proofs.Math.ListN.{length, get_or, set}
use Rattle.std.proofs.Math.Seq.{take-set-lt}
use borrow.Author.Tests.{eqb-true, eq-eqb}
use Rattle.store.specs.Row.{row, row_length}
use Rattle.model.specs.Lists.{when◌then◌else◌, any_of, member}
use Rattle.model.specs.Program.{Program}
use Rattle.model.specs.Words.{Value}
use Rattle.model.specs.Packing.{one_use_less, Pack, use_node}
use Rattle.theory.specs.Cases.{if_true, if_false}
use Rattle.layout.specs.declared.Shape.{Shape}
use Rattle.layout.specs.Rows.{row_count, uses_row, node_slot, node_phase, free_row, entries, entries_at}
use Rattle.packing_states.specs.States.{value_of}
use Rattle.packing_states.specs.Counts.{less_at, less_same}
use Rattle.packing_states.specs.Live.{used_below, used_below_some, live_use}
use Rattle.packing.specs.declared.Slots.{Slots}
use Rattle.packing.specs.Holding.{slots_among, SlotsHold, Holding}
use Rattle.packing.specs.Values.{slot_of, uses_of, Released}

-- the slots in memory are those of k, where nodes below b have had theirs: a part of Holding
pub record SlotsAre (l limit u nodes b slots free : ℕ) (value : ℕ → Value) (k : Pack) (ws xs : List ℕ) : Type 0 where
  pub all : k.live + free ≡ slots
  pub live : k.live ≡ used_below b k.uses
  pub uses : entries xs u uses_row nodes ≡ k.uses
  pub held : SlotsHold l limit b slots free value k.uses (row xs u node_slot) (row xs u node_phase) (row xs u free_row) ws

-- Holding says so
pub holding_slots : {p : Program} {z : Shape} {b n i : ℕ} {k : Pack} {st : Slots} {ws xs : List ℕ} → Holding p z b n i k st ws xs
    → SlotsAre z.l z.limit z.u z.nodes b st.slots st.free (value_of p) k ws xs
holding_slots h = record { all = h.free; live = h.live; uses = h.uses; held = h.held }

-- ---- lists

module _ {l limit b slots free : ℕ} {value : ℕ → Value} {uses slot_row phase_row stack ws : List ℕ}
    (h : SlotsHold l limit b slots free value uses slot_row phase_row stack ws) where
  -- what is used after a use less was used before
  still_used : (m c : ℕ) → 0 < get_or (one_use_less m uses) c 0 → 0 < get_or uses c 0
  still_used m c u = omega (arith, less_at uses m c)

  -- a use is given up
  slots_fewer : (m : ℕ) → SlotsHold l limit b slots free value (one_use_less m uses) slot_row phase_row stack ws
  slots_fewer m = slots_among (λ c d u. (d, still_used m c u)) h

  -- the last one
  slots_freed : (m : ℕ) → m < b → get_or uses m 0 ≡ 1 → free < length stack
      → SlotsHold l limit b slots (free + 1) value (one_use_less m uses) slot_row phase_row (set stack free (get_or slot_row m 0)) ws
  slots_freed m d e room =
      let f = slots_fewer m in
      record {
        slot = f.slot;
        word = f.word;
        turns = f.turns;
        one = f.one;
        free_slot = λ i a. slot_of_lem i a (ℕ_discrete i free);
        free_one = λ i j a c. one_of i j a c (ℕ_discrete i free) (ℕ_discrete j free);
        free_other = λ c i a u g. other_of c i a u g (ℕ_discrete i free);
      }
    where
      top : get_or (set stack free (get_or slot_row m 0)) free 0 ≡ get_or slot_row m 0
      top = get_or-set_same stack free (get_or slot_row m 0) 0 room

      under : (i : ℕ) → i ≢ free → get_or (set stack free (get_or slot_row m 0)) i 0 ≡ get_or stack i 0
      under i n = get_or-set_other stack free i (get_or slot_row m 0) 0 n

      used : 0 < get_or uses m 0
      used = omega arith

      slot_of_lem : (i : ℕ) → i < free + 1 → Dec (i ≡ free) → get_or (set stack free (get_or slot_row m 0)) i 0 < slots
      slot_of_lem i a (yes z) = rw (z, top) (h.slot m d used)
      slot_of_lem i a (no n) = rw (under i n) (h.free_slot i (omega arith))

      one_of : (i j : ℕ) → i < free + 1 → j < free + 1 → Dec (i ≡ free) → Dec (j ≡ free)
          → get_or (set stack free (get_or slot_row m 0)) i 0 ≡ get_or (set stack free (get_or slot_row m 0)) j 0 → i ≡ j
      one_of i j a c (yes x) (yes y) q = x ∙ sym y
      one_of i j a c (yes x) (no y) q =
          absurd (h.free_other m j d used (omega arith)
          (sym top ∙ ap (λ (n : ℕ). get_or (set stack free (get_or slot_row m 0)) n 0) (sym x) ∙ q ∙ under j y))
      one_of i j a c (no x) (yes y) q =
          absurd (h.free_other m i d used (omega arith)
          (sym top ∙ ap (λ (n : ℕ). get_or (set stack free (get_or slot_row m 0)) n 0) (sym y) ∙ sym q ∙ under i x))
      one_of i j a c (no x) (no y) q = h.free_one i j (omega arith) (omega arith) (sym (under i x) ∙ q ∙ under j y)

      not_itself : (c : ℕ) → 0 < get_or (one_use_less m uses) c 0 → c ≢ m
      not_itself c u z = let v = less_same uses m in let w : 0 < get_or (one_use_less m uses) m 0 = rw z at u in omega arith

      other_of : (c i : ℕ) → c < b → 0 < get_or (one_use_less m uses) c 0 → i < free + 1 → Dec (i ≡ free)
          → get_or slot_row c 0 ≢ get_or (set stack free (get_or slot_row m 0)) i 0
      other_of c i a u g (yes z) q = not_itself c u (h.one c m a d (still_used m c u) used (q ∙ rw z top))
      other_of c i a u g (no n) q = h.free_other c i a (still_used m c u) (omega arith) (q ∙ under i n)

-- ---- the store

-- a node's count in memory is the model's
pub count_is : {l limit u nodes b slots free : ℕ} {value : ℕ → Value} {k : Pack} {ws xs : List ℕ} (m : ℕ) → row_count * u ≤ length xs
    → nodes ≤ u → m < nodes → SlotsAre l limit u nodes b slots free value k ws xs → uses_of xs u m ≡ get_or k.uses m 0
count_is {u = u} {nodes} {xs = xs} m long nodes_in_lem below s =
    sym (entries_at xs u uses_row nodes long (omega arith) nodes_in_lem m below) ∙ ap (λ (x : List ℕ). get_or x m 0) s.uses

module _ {l limit u nodes b slots free : ℕ} {value : ℕ → Value} {k : Pack} {ws xs : List ℕ} (m : ℕ)
    (d : m < b) (used : 0 < get_or k.uses m 0) (s : SlotsAre l limit u nodes b slots free value k ws xs) where
  -- its slot has room among the free ones
  pub free_room : free < slots
  free_room = omega (arith, s.all, s.live, used_below_some b m k.uses d used)

  module _ (long : row_count * u ≤ length xs) (nodes_in_lem : nodes ≤ u) (below : b ≤ nodes) (slots_in : slots < u)
      {r : ℕ} {xs' : List ℕ} (t : Released xs u free m r xs') where
    count : uses_of xs u m ≡ get_or k.uses m 0
    count = count_is m long nodes_in_lem (omega arith) s

    counts : entries xs' u uses_row nodes ≡ one_use_less m k.uses
    unfolding entries one_use_less
    counts =
        ap (take nodes) t.uses
        ∙ take-set-lt nodes (row xs u uses_row) m (uses_of xs u m - 1) (omega arith)
        ∙ ap₂ (λ (x : List ℕ) (v : ℕ). set x m (v - 1)) s.uses count

    same_slots : row xs' u node_slot ≡ row xs u node_slot
    unfolding member any_of
    same_slots = t.only.rows node_slot (omega arith) refl

    same_phases : row xs' u node_phase ≡ row xs u node_phase
    unfolding member any_of
    same_phases = t.only.rows node_phase (omega arith) refl

    -- what is held, and how many slots are free: by whether it was the last use
    last : (x : Bool) → eqb (uses_of xs u m) 1 ≡ x
        → ((use_node m k).live + r ≡ slots)
        × SlotsHold l limit b slots r value (one_use_less m k.uses) (row xs' u node_slot) (row xs' u node_phase) (row xs' u free_row) ws
    unfolding use_node
    last true e =
        let one : get_or k.uses m 0 ≡ 1 = sym count ∙ eqb-true (uses_of xs u m) 1 e in
        let c : r ≡ free + 1 = t.count ∙ ap (λ (n : ℕ). free + n) (if_true _ _ e) in
        let q : row xs' u free_row ≡ set (row xs u free_row) free (slot_of xs u m) = t.stack ∙ if_true _ _ e in
        let one_less : ◌≡◌ {A = ℕ} (when eqb (get_or k.uses m 0) 1 then 1 else 0) 1 = if_true _ _ (eq-eqb (get_or k.uses m 0) 1 one) in
        let room : free < length (row xs u free_row) = omega (arith, free_room, row_length xs u row_count free_row long (omega arith)) in (
          omega (arith, s.all, s.live, used_below_some b m k.uses d used),
          rw (same_slots, same_phases, q, c) (slots_freed s.held m d one room),
        )
    last false e =
        let c : r ≡ free = t.count ∙ ap (λ (n : ℕ). free + n) (if_false _ _ e) ∙ add-zero free in
        let q : row xs' u free_row ≡ row xs u free_row = t.stack ∙ if_false _ _ e in
        let none : ◌≡◌ {A = ℕ} (when eqb (get_or k.uses m 0) 1 then 1 else 0) 0 = if_false _ _ (ap (λ (n : ℕ). eqb n 1) (sym count) ∙ e) in
        (omega (arith, s.all), rw (same_slots, same_phases, q, c) (slots_fewer s.held m))

    -- "a slot is freed after its last use"
    pub slots_release : SlotsAre l limit u nodes b slots r value (use_node m k) ws xs'
    unfolding use_node
    slots_release =
        let x = last (eqb (uses_of xs u m) 1) refl in
        record { all = x.0; live = live_use b m k s.live d used; uses = counts; held = x.1 }
