-- A sweep and its zeros leave, and sweep after sweep until none moves. Assumes nothing.
use Rattle.std.specs.Prelude.{◌≡◌, Bool, true, false, ℕ, suc, ◌+◌, ◌≤◌, ◌<◌}
use Rattle.std.proofs.Math.Path.{refl, sym, ap, subst}
use Rattle.std.proofs.Common.{◌∙◌, arith}
use Rattle.std.proofs.lemmas.Bool.{false≢true}
use mathlib.Core.List.{List, [], map}
use Rattle.model.specs.Lists.{all_of, any_of, member}
use Rattle.model.specs.Items.{Rot, drop_zero_rots, Segment}
use Rattle.model.specs.Layering.{Swept, sweep, drop_zero_layers, sweeps_from, height}
use Rattle.theory.specs.Every.{every_keep}
use Rattle.theory.specs.SegmentAxes.{AllHave, LayersHave, sweep_has, zeros_has}
use Rattle.layout.specs.Rows.{layers_row, layer_end}
use Rattle.layout.specs.Only.{Only, only_none, only_of, only_then}
use Rattle.store.specs.From.{from_none}
use Rattle.items.specs.View.{rots_in}
use Rattle.layering_states.specs.Sweeping.{enough, after_sweep, sweep_less, sweeps_turn, sweeps_end}
use Rattle.layering_states.specs.Zeros.{zero_layers_none}
use Rattle.axes.specs.declared.Sizes.{Sizes}
use Rattle.axes.specs.Held.{stored_axes, held_rows}
use Rattle.layers.specs.declared.Laid.{Laid}
use Rattle.layers.specs.View.{first_layers, begin_of, layer_in, layers_flat}
use Rattle.layers.specs.Demands.{IsAxis}
use Rattle.sweeps.specs.declared.sweep.Moving.{Moving}
use Rattle.sweeps.specs.View.{first_swept}
use Rattle.sweeps.specs.Demands.{SweepPre, SweptAll, ZerosPre, ZerosDropped, SweepsPre, sweeps_rows, SweptOnce, SweepsDone}

-- ---- a sweep

module _ (z : Sizes) (ws s : List ℕ) (st : Moving) (pre : SweepsPre z ws s st.laid) where
  abbrev axes : List (List ℕ)
  axes = stored_axes z ws

  abbrev now : List (List Rot)
  now = first_layers s z.u st.laid.count

  -- there are no layers
  pub once_none : st.laid.count ≡ 0 → SweptOnce z ws s st (record { laid = st.laid; stay = 0; moved = false }) s
  unfolding sweep
  once_none e =
      let none : now ≡ [] = from_none (layer_in s z.u layers_row layer_end) 0 st.laid.count e in
      record {
        only = only_none sweeps_rows z.u s;
        sound = pre.sound;
        closed = pre.closed;
        count = omega arith;
        size = omega arith;
        layers = none ∙ sym (ap (after_sweep z.l axes st.laid.merged) none ∙ zero_layers_none);
        merged = sym (ap (λ (ls : List (List Rot)). (sweep z.l axes st.laid.merged ls).merged) none);
        moved = sym (ap (λ (ls : List (List Rot)). (sweep z.l axes st.laid.merged ls).moved) none);
      }

  end_is : begin_of s z.u layer_end st.laid.count ≡ st.laid.len
  end_is = pre.sound.ends ∙ pre.closed

  pub once_sweep : (st.laid.count ≡ 0 → ⊥) → SweepPre z ws s st.laid.count st.laid.merged
  once_sweep n = record {
    stored = pre.stored;
    layers = record { few = pre.few; rise = pre.sound.rise; here = omega (arith, end_is, pre.size) };
    one = omega (arith, n);
    size = omega (arith, end_is, pre.size);
    axes = pre.axes;
  }

  module _ {r₁ : Moving} {s₁ : List ℕ} (w : SweptAll z ws s st.laid.count st.laid.merged r₁ s₁) where
    pub once_zeros : ZerosPre z.u s₁ r₁.laid.count
    once_zeros = record {
      long = omega (arith, pre.stored.numbers_long, w.only.long);
      short = pre.stored.fit.small;
      layers = record {
        few = omega (arith, w.count_is, pre.few);
        rise = w.sound.rise;
        here = omega (arith, w.sound.ends, w.size, end_is, pre.size);
      };
    }

    pub once_swept : {r : Laid} {t : List ℕ} → ZerosDropped z.u s₁ r₁.laid.count r₁.laid.merged r t
        → SweptOnce z ws s st (record { laid = r; stay = 0; moved = r₁.moved }) t
    unfolding member any_of all_of
    once_swept {r} {t} v = record {
      only = only_then (only_of sweeps_rows refl w.only) (only_of sweeps_rows refl v.only);
      sound = v.sound;
      closed = v.closed;
      count = omega (arith, v.count_le, w.count_is);
      size = omega (arith, v.room, v.merged_is, w.sound.ends, w.size, end_is);
      layers = v.layers
          ∙ ap (λ (n : ℕ). drop_zero_layers (first_swept s₁ z.u n)) w.count_is
          ∙ ap (λ (q : Swept). drop_zero_layers q.layers) (sym w.swept);
      merged = v.merged_is ∙ ap (λ (q : Swept). q.merged) (sym w.swept);
      moved = ap (λ (q : Swept). q.moved) (sym w.swept);
    }

-- ---- sweep after sweep

-- how many more there can be: none, if none moved
unfoldable pub to_do : Bool → List (List Rot) → ℕ
to_do true ls = suc (height ls)
to_do false ls = 0

less_to_do : (b c : Bool) (xs ys : List (List Rot)) → c ≡ true → (b ≡ true → height ys < height xs) → to_do b ys < to_do c xs
unfolding to_do
less_to_do true true xs ys e h = omega (arith, h refl)
less_to_do false true xs ys e h = omega arith
less_to_do b false xs ys e h = absurd (false≢true e)

module _ (z : Sizes) (ws s : List ℕ) (st : Laid) where
  abbrev stored : List (List ℕ)
  stored = stored_axes z ws

  abbrev layers : List ℕ → Laid → List (List Rot)
  layers x r = first_layers x z.u r.count

  -- the sweeps from layers that memory holds, if one has moved or none
  abbrev from : List ℕ → Laid → Bool → Segment
  from x r moved = sweeps_from z.l stored (enough z.l stored (layers x r)) moved r.merged (layers x r)

  -- the sweeps that are left, from the layers that memory holds
  pub record SweepsTo (r : Moving) (x : List ℕ) : Type 0 where
    pub ready : SweepsPre z ws x r.laid
    pub only : Only sweeps_rows z.u s x
    pub size : r.laid.len + r.laid.merged ≤ st.len + st.merged
    pub goes_on : from x r.laid r.moved ≡ from s st true

  pub sweeps_start : SweepsPre z ws s st → SweepsTo (record { laid = st; stay = 0; moved = true }) s
  sweeps_start pre = record { ready = pre; only = only_none sweeps_rows z.u s; size = omega arith; goes_on = refl }

  module _ {r q : Moving} {x y : List ℕ} (h : r.moved ≡ true) (a : SweepsTo r x) (w : SweptOnce z ws x r q y) where
    axes_kept : LayersHave (IsAxis z) (layers y q.laid)
    unfolding drop_zero_layers
    axes_kept =
        let swept = (sweep z.l stored r.laid.merged (layers x r.laid)).layers in
        let has = sweep_has (IsAxis z) z.l stored r.laid.merged (layers x r.laid) a.ready.axes in
        subst (LayersHave (IsAxis z)) (sym w.layers)
        (every_keep (AllHave (IsAxis z)) _ (map drop_zero_rots swept) (zeros_has (IsAxis z) z.l stored swept has))

    pub sweeps_again : SweepsTo q y
    unfolding member any_of
    sweeps_again = record {
      ready = record {
        stored = held_rows a.ready.stored w.only refl;
        sound = w.sound;
        closed = w.closed;
        few = omega (arith, w.count, a.ready.few);
        size = omega (arith, w.size, a.ready.size);
        axes = axes_kept;
      };
      only = only_then a.only w.only;
      size = omega (arith, w.size, a.size);
      goes_on = rw (w.layers, w.moved, w.merged)
          (sym (sweeps_turn z.l stored r.laid.merged (layers x r.laid))
          ∙ ap (from x r.laid) (sym h)
          ∙ a.goes_on);
    }

    pub sweeps_less : to_do q.moved (layers y q.laid) < to_do r.moved (layers x r.laid)
    sweeps_less =
        less_to_do q.moved r.moved (layers x r.laid) (layers y q.laid) h
        (λ e. rw w.layers (sweep_less z.l stored r.laid.merged (layers x r.laid) (sym w.moved ∙ e)))

  pub sweeps_last : {r : Moving} {x : List ℕ} → r.moved ≡ false → SweepsTo r x → SweepsDone z ws s st r.laid x
  sweeps_last {r} {x} h a = record {
    only = a.only;
    size = a.size;
    swept = sym a.goes_on
        ∙ ap (from x r.laid) h
        ∙ sweeps_end z.l stored r.laid.merged (layers x r.laid)
        ∙ ap (λ (q : List Rot). record { rots = q; changes = r.laid.merged })
        (layers_flat x z.u layers_row layer_end r.laid.count a.ready.sound.rise
        ∙ ap (rots_in x z.u layers_row 0) (a.ready.sound.ends ∙ a.ready.closed));
  }
