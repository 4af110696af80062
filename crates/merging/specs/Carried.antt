-- A rotation is carried, then taken. Assumes nothing.
use Rattle.std.specs.Prelude.{◌≡◌, Bool, List, ℕ, ◌≤◌, ◌<◌, length, Result, Ok, Err}
use Rattle.std.proofs.Common.{sym, ap, ap₂, ◌∙◌, subst, arith}
use Rattle.stream_states.specs.Known.{axes_count}
use Rattle.model.specs.declared.Absorption.{Absorption}
use Rattle.model.specs.Rules.{Rules}
use Rattle.model.specs.Items.{with_sign}
use Rattle.model.specs.Clifford.{Touched}
use Rattle.model.specs.Stream.{Pass, axis_image, image_id, carry_axis, take_rotation}
use Rattle.model.specs.Words.{word_of}
use Rattle.theory.specs.Ids.{intern_grows}
use Rattle.theory.specs.Peak.{take_rotation_rises}
use Rattle.layout.specs.declared.Shape.{Shape}
use Rattle.run_wellformed.specs.CliffordAngles.{with_sign_turns}
use Rattle.clifford.specs.Holds.{SomeTouched}
use Rattle.carrying.specs.Carrying.{CarryPre}
use Rattle.steps.specs.declared.State.{State}
use Rattle.model.specs.declared.ExpansionLimit.{ExpansionLimit}
use Rattle.model.specs.Interface.{expansion_limit}
use Rattle.stream_states.specs.declared.StreamRules.{StreamRules}
use Rattle.stream_states.specs.States.{held_of, SomePass, SteppedAs, as_limit, stepped_from}
use Rattle.stream_states.specs.Carrying.{CarryPass, CarryLeft, carry_pre, carry_refused, carried_at, carried_in, carried_id, carried_turns}
use Rattle.stream_states.specs.Carrying.{carried_same}
use Rattle.merging.specs.Sources.{source_known, image_word}
use Rattle.merging.specs.Taking.{TakingAt}

pub record CarryingAt (z : Shape) (c : StreamRules) (st : State) (a k : ℕ) (ws xs : List ℕ) (m : Absorption) (n : ℕ)
    (p : Pass) : Type 0 where
  pub carry : CarryPass z st a ws xs m n p
  pub some : 0 < k
  pub small : k ≤ 7
  pub mode : m ≡ c.absorption
  pub few_merges : st.merges < 9223372036854775808
  pub few : st.absorbed < 9223372036854775808

pub carrying_some : {z : Shape} {c : StreamRules} {st : State} {a k : ℕ} {ws xs : List ℕ}
    → SomePass (λ m n p. CarryingAt z c st a k ws xs m n p) → SomeTouched (λ (t : Touched). CarryPre z st a ws xs t)
carrying_some s = record { state = held_of s.pass; it = carry_pre s.it.carry }

module _ {z : Shape} {c : StreamRules} {st : State} {a k : ℕ} {ws xs : List ℕ} {r : Result State ExpansionLimit} {ws' xs' : List ℕ}
    (call : CarryLeft z st a ws xs r ws' xs') {m : Absorption} {n : ℕ} {p : Pass} (h : CarryingAt z c st a k ws xs m n p) where
  module _ {s : State} (e : r ≡ Ok s) {k' : ℕ} (sign : k' ≡ with_sign s.turns k) where
    merges_same : s.merges ≡ st.merges
    merges_same = ap (λ (x : State). x.merges) (carried_same h.carry call e)

    absorbed_same : s.absorbed ≡ st.absorbed
    absorbed_same = ap (λ (x : State). x.absorbed) (carried_same h.carry call e)

    a_old : a < length p.store.axes
    a_old = omega (arith, axes_count h.carry.at.holds, h.carry.a_in)

    a_now : a < s.axes
    a_now =
        let longer : length p.store.axes ≤ length (carry_axis z.l p a).store.axes
        = unfold carry_axis in (intern_grows z.l _ p.store _).longer in
        omega (arith, axes_count (carried_at h.carry call e).holds, a_old)

    pub taking_there : TakingAt z c s s.id k' a ws' xs' m n (carry_axis z.l p a)
    taking_there =
        let w = with_sign_turns s.turns k h.some h.small in
        record {
          at = carried_at h.carry call e;
          id_in = carried_in h.carry call e;
          from = source_known (carried_at h.carry call e) a s.id a_now
              (image_word z.l p a a_old ∙ sym (ap (word_of (carry_axis z.l p a).store.axes) (carried_id h.carry call e)));
          some = omega (arith, w.0);
          small = omega (arith, w.1);
          mode = h.mode;
          few_merges = omega (arith, merges_same, h.few_merges);
          few = omega (arith, absorbed_same, h.few);
        }

    -- the model's arguments
    pub taken_as : {q : Result State ExpansionLimit} {ws'' xs'' : List ℕ} (g : Rules) (merging : Bool)
        → SteppedAs z m 1 1 s q ws'' xs'' (take_rotation z.l g merging (carry_axis z.l p a) s.id k')
        → SteppedAs z m 1 1 st q ws'' xs'' (take_rotation z.l g merging (carry_axis z.l p a) (image_id z.l (carry_axis z.l p a) a)
        (with_sign (axis_image z.l (carry_axis z.l p a) a).turns k))
    taken_as {q} {ws''} {xs''} g merging t =
        subst (SteppedAs z m 1 1 st q ws'' xs'')
        (ap₂ (take_rotation z.l g merging (carry_axis z.l p a)) (carried_id h.carry call e)
        (sign ∙ ap (λ (x : ℕ). with_sign x k) (carried_turns h.carry call e)))
        (stepped_from 1 1 t (omega (arith, merges_same)) (omega (arith, absorbed_same)))

  -- the limit refuses the image
  pub carried_limit : r ≡ Err expansion_limit → (g : Rules) (merging : Bool) {ws'' xs'' : List ℕ} (b k' : ℕ)
      → SteppedAs z m 1 1 st (Err expansion_limit) ws'' xs'' (take_rotation z.l g merging (carry_axis z.l p a) b k')
  carried_limit e g merging b k' =
      as_limit (omega (arith, carry_refused h.carry call e, take_rotation_rises z.l g merging (carry_axis z.l p a) b k'))
