-- After a root's turn: its axis and sign stand in their rows, its node's use is given up. Assumes nothing.
use Rattle.std.specs.Prelude.{◌≡◌, true, false, ◌≢◌, List, ◌∷◌, ℕ, suc, ◌+◌, ◌*◌, ◌%◌, ◌≤◌, ◌<◌, length, get_or, set, take}
use Rattle.std.proofs.Math.Path.{refl, ap}
use Rattle.std.proofs.Common.{sym, ◌∙◌, subst, true≢false, inl, inr, arith}
use Rattle.std.proofs.Math.Decide.{ℕ_discrete}
use Rattle.store.specs.Part.{part}
use Rattle.model.specs.Lists.{any_of, member, all_of}
use Rattle.model.specs.Program.{Program}
use Rattle.model.specs.Words.{id_of}
use Rattle.model.specs.Packing.{with_store, use_node}
use Rattle.theory.specs.Ids.{id_in, id_stored, intern_grows, stored_keeps, id_keeps}
use Rattle.axes.specs.Held.{held_rows}
use Rattle.interning.specs.declared.StoredAxis.{StoredAxis}
use Rattle.layout.specs.declared.Shape.{Shape}
use Rattle.layout.specs.Rows.{row_count, uses_row, node_slot, node_phase, free_row, first_root, next_root, root_axis, root_sign, axes_rows, entries}
use Rattle.layout.specs.Only.{Only, only_then, only_of}
use Rattle.layout.specs.Words.{slot_place, slot_in, slot_counted, kept_later, kept_part}
use Rattle.packing_states.specs.References.{reference_at, total, is_root_at}
use Rattle.packing_states.specs.States.{value_of, within}
use Rattle.packing_states.specs.ReferenceLaws.{root_is}
use Rattle.packing_states.specs.ReferenceRows.{ReferenceRows, reference_rows, axis_own, sign_own, axis_other, sign_other}
use Rattle.packing_states.specs.Linked.{Linked}
use Rattle.packing.specs.declared.Slots.{Slots}
use Rattle.packing.specs.Holding.{SignedAt, Done, Holding, RootAt}
use Rattle.packing.specs.RestKept.{RestKept}
use Rattle.packing.specs.Bounds.{slots_fit, nodes_in_lem, slots_in}
use Rattle.packing.specs.Keeping.{slots_words}
use Rattle.packing.specs.Values.{ReleasePre, Released}
use Rattle.packing.specs.Release.{SlotsAre, count_is, free_room, slots_release}
use Rattle.packing.specs.RootLaws.{root_store, RootHasAxis, reference_in, node_in}

-- ---- the root's axis and sign in their rows

-- the rows of a root's whole turn
abbrev root_turn_rows : List ℕ
root_turn_rows = uses_row ∷ free_row ∷ root_axis ∷ root_sign ∷ axes_rows

-- the word is stored, they are written, then the node's use is given up
rows_released : {u j id turns free n r : ℕ} {xs xs₁ xs' t : List ℕ} → Only axes_rows u xs xs₁
    → ReferenceRows reference_rows u j id turns xs₁ xs' → Released xs' u free n r t → ReferenceRows root_turn_rows u j id turns xs t
unfolding member any_of all_of
rows_released {j = j} {id} {turns} o m r = record {
  only = only_then (only_then (only_of _ refl o) (only_of _ refl m.only)) (only_of _ refl r.only);
  axis =
      r.only.rows root_axis (omega arith) refl ∙ m.axis ∙ ap (λ (q : List ℕ). set q j id) (o.rows root_axis (omega arith) refl);
  sign =
      r.only.rows root_sign (omega arith) refl ∙ m.sign ∙ ap (λ (q : List ℕ). set q j turns) (o.rows root_sign (omega arith) refl);
}

-- links stay: a reference that is no root is not this one
linked_after : {p : Program} {z : Shape} {j id turns : ℕ} {xs t : List ℕ} → ReferenceRows root_turn_rows z.u j id turns xs t
    → is_root_at p j ≡ true → Linked p z xs → Linked p z t
unfolding member any_of
linked_after {p} {z} {j} {id} {turns} {xs} {t} w root k = record {
  first = λ n b. ap (λ (q : List ℕ). get_or q n 0) (w.only.rows first_root (omega arith) refl) ∙ k.first n b;
  next = λ i l b r. ap (λ (q : List ℕ). get_or q i 0) (w.only.rows next_root (omega arith) refl) ∙ k.next i l b r;
  no_axis_lem = λ i l b r. axis_other w i (other i r) ∙ k.no_axis_lem i l b r;
  no_sign = λ i l b r. sign_other w i (other i r) ∙ k.no_sign i l b r;
}
  where
    other : (i : ℕ) → is_root_at p i ≡ false → i ≢ j
    other i r e = true≢false (sym root ∙ ap (is_root_at p) (sym e) ∙ r)

-- ---- the turn

module _ {p : Program} {z : Shape} {st : Slots} {n j phase : ℕ} {ws xs : List ℕ} (h : RootAt p z st n j phase ws xs)
    {x : StoredAxis} {turns : ℕ} {ws' xs₁ xs' : List ℕ} (a : RootHasAxis p z st n j ws xs x ws' xs₁)
    (m : ReferenceRows reference_rows z.u j x.id turns xs₁ xs') where
  marked_only : Only (root_axis ∷ root_sign ∷ axes_rows) z.u xs xs'
  unfolding member any_of all_of
  marked_only = only_then (only_of _ refl a.numbers) (only_of _ refl m.only)

  same_words : (s : ℕ) → s < st.slots
      → part ws' (slot_place z.limit z.l s) (2 * z.l) ≡ part ws (slot_place z.limit z.l s) (2 * z.l)
  same_words s b =
      kept_part a.kept (slot_place z.limit z.l s) (2 * z.l)
      (omega (arith, slot_counted z.limit z.l st.slots (slots_fit h.holding) s b))
      (omega (arith, slot_in z.limit z.l st.slots (slots_fit h.holding) s b, h.granted.words_long))

  slots_marked : SlotsAre z.l z.limit z.u z.nodes (suc n) st.slots st.free (value_of p)
      (with_store (root_store p z st n j) (within p n j)) ws' xs'
  unfolding member any_of entries
  slots_marked =
      let slots = marked_only.rows node_slot (omega arith) refl in
      let phases = marked_only.rows node_phase (omega arith) refl in
      let stack = marked_only.rows free_row (omega arith) refl in
      record {
        all = h.holding.free;
        live = h.holding.live;
        uses = ap (take z.nodes) (marked_only.rows uses_row (omega arith) refl) ∙ h.holding.uses;
        held = rw (slots, phases, stack) (slots_words same_words h.holding.held);
      }

  long_marked : row_count * z.u ≤ length xs'
  long_marked = omega (arith, marked_only.long, h.granted.numbers_long)

  pub release_pre : ReleasePre xs' z.u st.free n
  release_pre = record {
    long = long_marked;
    node = node_in h;
    room = omega (arith, slots_in h.granted h.holding, free_room n (omega arith) h.used slots_marked);
    used = omega (arith, h.used, count_is n long_marked (nodes_in_lem h.granted) h.node slots_marked);
  }

  module _ {free : ℕ} {t : List ℕ} (r : Released xs' z.u st.free n free t) where
    rows : ReferenceRows root_turn_rows z.u j x.id turns xs t
    rows = rows_released a.numbers m r

    pub rest_next : RestKept z ws xs ws' t
    unfolding member any_of all_of
    rest_next = record { words = kept_later (omega arith) a.kept; numbers = only_of _ refl rows.only }

    abbrev axes_next : List (List ℕ)
    axes_next = (root_store p z st n j).axes

    module _ (q : turns ≡ ((value_of p n).turns + (reference_at p j).phase) % 4) where
      signed_own : SignedAt p z.u axes_next t j
      signed_own =
          let w = (value_of p n).word in
          let node = sym (root_is p n j h.root).1 in
          let extra = st.slots * (2 * z.l) in
          record {
            stored =
                subst (λ (i : ℕ). id_of axes_next (value_of p i).word < length axes_next) node
                (id_in z.l extra (within p n j).store w);
            axis =
                axis_own rows h.granted.numbers_long (reference_in h)
                ∙ a.id_is
                ∙ sym (id_stored z.l extra (within p n j).store w)
                ∙ ap (λ (i : ℕ). id_of axes_next (value_of p i).word) node;
            sign =
                sign_own rows h.granted.numbers_long (reference_in h)
                ∙ q
                ∙ ap (λ (i : ℕ). ((value_of p i).turns + (reference_at p j).phase) % 4) node;
          }

      signed_other : (i : ℕ) → i ≢ j → SignedAt p z.u (within p n j).store.axes xs i → SignedAt p z.u axes_next t i
      signed_other i ne o =
          let w = (value_of p n).word in
          let v = (value_of p (reference_at p i).node).word in
          let extra = st.slots * (2 * z.l) in
          record {
            stored =
                stored_keeps (within p n j).store.axes axes_next v (intern_grows z.l extra (within p n j).store w) o.stored;
            axis = axis_other rows i ne ∙ o.axis ∙ sym (id_keeps z.l extra (within p n j).store w v o.stored);
            sign = sign_other rows i ne ∙ o.sign;
          }

      signed_next : (i : ℕ) → i < total p → is_root_at p i ≡ true → Done p n (suc j) i → SignedAt p z.u axes_next t i
      signed_next i b root d = go (ℕ_discrete i j)
        where
          earlier : i ≢ j → Done p n (suc j) i → Done p n j i
          earlier ne (inl x) = inl x
          earlier ne (inr x) = inr (x.0, omega (arith, x.1))

          go : Dec (i ≡ j) → SignedAt p z.u axes_next t i
          go (yes e) = subst (SignedAt p z.u axes_next t) (sym e) signed_own
          go (no ne) = signed_other i ne (h.holding.signed i b root (earlier ne d))

      pub holding_next : Holding p z (suc n) n (suc j) (use_node n (with_store (root_store p z st n j) (within p n j)))
          (record { axes = x.axes; peak = x.peak; slots = st.slots; free = free; taken = st.taken }) ws' t
      unfolding use_node member any_of
      holding_next =
          let s = slots_release n (omega arith) h.used slots_marked long_marked (nodes_in_lem h.granted) h.node
          (slots_in h.granted h.holding) r in
          record {
            going = h.holding.going;
            peak = a.peak_is;
            fits = omega (arith, a.peak_is, a.fits);
            axes = held_rows (held_rows a.held m.only refl) r.only refl;
            room = omega (arith, a.room (omega (arith, h.holding.room)));
            slots = h.holding.slots;
            free = s.all;
            live = s.live;
            uses = s.uses;
            held = s.held;
            signed = signed_next;
            linked = linked_after rows (root_is p n j h.root).0 h.holding.linked;
          }
