-- An axis is carried: the state after it, and what its image is to the model. Assumes nothing.
use Rattle.std.specs.Prelude.{◌≡◌, List, ℕ, ◌<◌, length, Result, Ok, Err}
use Rattle.std.proofs.Math.Path.{refl, ap, subst}
use Rattle.std.proofs.Common.{sym, ◌∙◌, arith}
use Rattle.model.specs.Lists.{all_of, any_of, member}
use Rattle.model.specs.declared.Absorption.{Absorption}
use Rattle.model.specs.Words.{Value, id_of}
use Rattle.model.specs.Clifford.{Touched}
use Rattle.model.specs.Stream.{Pass, axis_image, image_id, carry_axis}
use Rattle.theory.specs.StreamState.{axis_image_carried}
use Rattle.layout.specs.declared.Shape.{Shape}
use Rattle.layout.specs.Only.{only_of}
use Rattle.layout.specs.Words.{kept_later}
use Rattle.layout.specs.Shape.{granted_same}
use Rattle.words_wellformed.specs.PassWords.{carry_axis_well}
use Rattle.run_wellformed.specs.PassInside.{inside_kept}
use Rattle.carrying.specs.Carrying.{image_of_axis, carried_store, CarryPre, LeftCarried, CarriedTo, CarriedAs}
use Rattle.steps.specs.declared.State.{State}
use Rattle.model.specs.declared.ExpansionLimit.{ExpansionLimit}
use Rattle.model.specs.Interface.{expansion_limit}
use Rattle.steps.specs.State.{with_image}
use Rattle.stream_states.specs.States.{held_of, HoldsPass, FinePass, PassAt, LeftS, stream_rows}
use Rattle.stream_states.specs.Output.{pass_other}
use Rattle.stream_states.specs.Known.{axes_count}

-- before an axis is carried
pub record CarryPass (z : Shape) (st : State) (a : ℕ) (ws xs : List ℕ) (m : Absorption) (n : ℕ) (p : Pass) : Type 0 where
  pub at : PassAt z m n st ws xs p
  pub a_in : a < st.axes

-- what the call leaves
abbrev pub CarryLeft : Shape → State → ℕ → List ℕ → List ℕ → Result State ExpansionLimit → List ℕ → List ℕ → Type 0
CarryLeft z st a ws xs r ws' xs' =
    LeftCarried z ws xs ws' xs' × ((t : Touched) → CarryPre z st a ws xs t → CarriedAs z st a t r ws' xs')

module _ {z : Shape} {st : State} {a : ℕ} {ws xs : List ℕ} {m : Absorption} {n : ℕ} {p : Pass} (h : CarryPass z st a ws xs m n p) where
  pub carry_pre : CarryPre z st a ws xs (held_of p)
  carry_pre = record {
    axis = record {
      at = record { granted = h.at.granted; holds = h.at.holds.clifford };
      id_in = h.a_in;
      inside = h.at.fine.inside.axes.words a (omega (arith, axes_count h.at.holds, h.a_in));
    };
    stored = h.at.fine.well.stored;
  }

  module _ {r : Result State ExpansionLimit} {ws' xs' : List ℕ} (call : CarryLeft z st a ws xs r ws' xs') where
    pub carry_left : LeftS z ws xs ws' xs'
    unfolding all_of member any_of
    carry_left = record { words = kept_later (omega arith) call.0.words; numbers = only_of stream_rows refl call.0.numbers }

    pub carry_refused : r ≡ Err expansion_limit → z.limit < (carry_axis z.l p a).store.peak
    unfolding carry_axis axis_image
    carry_refused e = unfold carried_store image_of_axis in ((call.1 (held_of p) carry_pre).refused e)

    -- the state then
    module _ {s : State} (e : r ≡ Ok s) where
      to : CarriedTo z st a (held_of p) ws' xs' s
      to = (call.1 (held_of p) carry_pre).to s e

      pub carried_same : s ≡ with_image s.axes s.peak s.id s.turns st
      carried_same = to.same

      carried_holds : HoldsPass z m s ws' xs' (carry_axis z.l p a)
      unfolding carry_axis axis_image member any_of
      carried_holds =
          subst (λ (x : State). HoldsPass z m x ws' xs' (carry_axis z.l p a)) (sym carried_same)
          (pass_other call.0.numbers refl refl refl h.at.holds (carry_axis z.l p a)
          (unfold carried_store image_of_axis in to.holds) refl refl
          h.at.holds.merges_are h.at.holds.absorbed_are)

      pub carried_fine : FinePass z n (carry_axis z.l p a)
      carried_fine = record {
        well = (carry_axis_well z.l (Unit {0}) p a h.at.fine.well).well;
        inside = (inside_kept z.l z.qubits h.at.granted.sized.bits).carries n p a h.at.fine.inside;
      }

      pub carried_at : PassAt z m n s ws' xs' (carry_axis z.l p a)
      carried_at = record {
        granted = granted_same h.at.granted call.0.words.long call.0.numbers.long;
        holds = carried_holds;
        fine = carried_fine;
        space = h.at.space;
      }

      a_stored : a < length p.store.axes
      a_stored = omega (arith, axes_count h.at.holds, h.a_in)

      pub carried_id : s.id ≡ image_id z.l (carry_axis z.l p a) a
      carried_id =
          to.id_is
          ∙ unfold carried_store image_of_axis image_id carry_axis axis_image in refl
          ∙ unfold image_id in (ap (λ (v : Value). id_of (carry_axis z.l p a).store.axes v.word)
          (sym (axis_image_carried z.l p a a_stored)))

      pub carried_turns : s.turns ≡ (axis_image z.l (carry_axis z.l p a) a).turns
      carried_turns =
          to.turns_are ∙ unfold image_of_axis axis_image in refl ∙ ap (λ (v : Value). v.turns) (sym (axis_image_carried z.l p a a_stored))

      pub carried_in : s.id < s.axes
      carried_in = to.id_in

      pub carried_small : s.turns < 4
      carried_small = to.small
