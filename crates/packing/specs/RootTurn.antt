-- How a root's turn ends, answer by answer, and the bounds under which its numbers fit. Assumes nothing.
use Rattle.std.specs.Prelude.{◌≡◌, List, ℕ, suc, ◌+◌, ◌*◌, ◌%◌, ◌≤◌, ◌<◌, length, Result, Ok, Err}
use Rattle.std.proofs.Math.Path.{refl}
use Rattle.std.proofs.Common.{arith}
use Rattle.store.specs.Row.{Written}
use Rattle.model.specs.Lists.{any_of, member, all_of}
use Rattle.model.specs.Program.{Program}
use Rattle.model.specs.Packing.{use_node}
use Rattle.theory.specs.Ids.{id_le}
use Rattle.axes.specs.declared.Sizes.{Sizes}
use Rattle.axes.specs.Held.{sizes_of, held_count}
use Rattle.interning.specs.Intern.{Stores}
use Rattle.interning.specs.declared.StoredAxis.{StoredAxis}
use Rattle.model.specs.declared.ExpansionLimit.{ExpansionLimit}
use Rattle.model.specs.Interface.{expansion_limit}
use Rattle.packing_answer.specs.declared.PackingRefusal.TheVariants as refusals
use Rattle.layout.specs.declared.Shape.{Shape}
use Rattle.layout.specs.Rows.{row_count, root_axis, root_sign}
use Rattle.layout.specs.Only.{only_of}
use Rattle.layout.specs.Words.{kept_none}
use Rattle.layout.specs.Shape.{longest_row}
use Rattle.packing_states.specs.States.{value_of, within}
use Rattle.packing_states.specs.ReferenceRows.{ReferenceRows, reference_rows, reference_rows_lem}
use Rattle.packing.specs.declared.Slots.{Slots}
use Rattle.packing.specs.declared.ValueHeld.{ValueHeld}
use Rattle.packing.specs.Holding.{Turned, RootAt}
use Rattle.packing.specs.RestKept.{turn_rows, RestKept}
use Rattle.packing.specs.Bounds.{slots_fit}
use Rattle.packing.specs.Values.{held_at, ReleasePre, Released}
use Rattle.packing.specs.RootLaws.{reference_in, phase_total, odd_root, even_root, refused_next, stored_next}
use Rattle.packing.specs.RootLaws.{RootHasAxis, root_has_axis, root_no_room}
use Rattle.packing.specs.RootNext.{release_pre, rest_next, holding_next}

module _ {p : Program} {z : Shape} {st : Slots} {n j phase : ℕ} {ws xs : List ℕ} (h : RootAt p z st n j phase ws xs) where
  -- ---- bounds

  pub l_small : z.l ≤ 64
  l_small = h.granted.sized.few

  pub slots_small : st.slots * (2 * z.l) ≤ 1048576
  slots_small = omega (arith, slots_fit h.holding, h.granted.sized.limit)

  pub axes_small : st.axes < longest_row
  axes_small =
      let b : st.axes * (2 * z.l) ≤ z.limit = omega (arith, h.holding.room) in
      omega (arith, h.granted.sized.words_row st.axes b, h.granted.sized.u_small)

  module _ {v : ValueHeld} (e : v ≡ held_at z xs n) where
    -- ---- 9

    pub root_odd : ((v.phase + phase % 4) % 4) % 2 ≡ 1 → Turned p z (suc n) n (suc j) (within p n (suc j)) (Err refusals.NonHermitianAxis) ws xs
    root_odd o = rw (refused_next h (odd_root h e o)) (refl, h.holding.fits)

    module _ {sizes : Sizes} (f : sizes ≡ sizes_of z st.axes) {r : Result StoredAxis ExpansionLimit} {ws' xs' : List ℕ}
        (s : Stores sizes (st.slots * (2 * z.l)) st.peak ws xs v.at r ws' xs') where
      -- ---- 10

      pub rest_limit : r ≡ Err expansion_limit → RestKept z ws xs ws' xs'
      unfolding member any_of all_of
      rest_limit q =
          let full = root_no_room h e f s q in
          record { words = rw full.kept (kept_none _ ws); numbers = only_of turn_rows refl full.numbers }

      pub root_limit : (((v.phase + phase % 4) % 4) % 2 ≡ 1 → ⊥) → r ≡ Err expansion_limit
          → Turned p z (suc n) n (suc j) (within p n (suc j)) (Err refusals.ExpansionLimit) ws' xs'
      unfolding use_node
      root_limit o q = rw (stored_next h (even_root h e o)) (root_no_room h e f s q).exceeds

      -- ---- the word is an axis

      module _ {axis : StoredAxis} (q : r ≡ Ok axis) where
        stored : RootHasAxis p z st n j ws xs axis ws' xs'
        stored = root_has_axis h e f s q

        pub id_small : axis.id < longest_row
        id_small =
            omega (arith, axes_small, held_count h.holding.axes, stored.id_is, id_le (within p n j).store.axes (value_of p n).word)

        -- the number store is as long
        pub stored_long : row_count * z.u ≤ length xs'
        stored_long = omega (arith, h.granted.numbers_long, stored.numbers.long)

        module _ {x y : List ℕ} (a : Written xs' z.u root_axis j axis.id x)
            (b : Written x z.u root_sign j ((v.phase + phase % 4) % 4) y) where
          written : ReferenceRows reference_rows z.u j axis.id ((v.phase + phase % 4) % 4) xs' y
          written = reference_rows_lem stored_long (reference_in h) a b

          pub root_release : ReleasePre y z.u st.free n
          root_release = release_pre h stored written

          module _ {free : ℕ} {t : List ℕ} (c : Released y z.u st.free n free t) where
            pub root_rest : RestKept z ws xs ws' t
            root_rest = rest_next h stored written c

            pub root_next : (((v.phase + phase % 4) % 4) % 2 ≡ 1 → ⊥) → Turned p z (suc n) n (suc j) (within p n (suc j))
                (Ok (record { axes = axis.axes; peak = axis.peak; slots = st.slots; free = free; taken = st.taken })) ws' t
            root_next o = rw (stored_next h (even_root h e o)) (holding_next h stored written c (phase_total h e))
