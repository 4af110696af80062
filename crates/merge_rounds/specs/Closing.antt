-- The stream behind the rounds of the merge strategy. Assumes nothing.
use Rattle.std.specs.Prelude.{◌≡◌, refl, Bool, true, false, not, ◌&&◌, List, ℕ, suc, ◌+◌, ◌-◌, Result, Ok, Err}
use Rattle.std.proofs.Common.{sym, ap, ◌∙◌, subst, lt_of_lt_of_le, arith}
use Rattle.std.proofs.lemmas.Bool.{not-true, not-false}
use Rattle.model.specs.declared.Lazy.{Lazy}
use Rattle.model.specs.declared.Lazy.TheVariants.{Off, On, From}
use Rattle.model.specs.declared.Options.{Options}
use Rattle.model.specs.Lists.{when◌then◌else◌, any_of}
use Rattle.model.specs.Program.{Program}
use Rattle.model.specs.Rules.{rules_of, absorption_of, is_on}
use Rattle.model.specs.Items.{is_even_rotation}
use Rattle.model.specs.Rounds.{Work, closing_stream, merge_rounds}
use Rattle.theory.specs.Cases.{if_true, if_false}
use Rattle.theory.specs.Peak.{closing_stream_rises}
use Rattle.layout.specs.declared.Shape.{Shape}
use Rattle.layout.specs.Rows.{items_row}
use Rattle.items.specs.View.{items_in}
use Rattle.steps.specs.declared.State.{State}
use Rattle.model.specs.declared.ExpansionLimit.{ExpansionLimit}
use Rattle.model.specs.Interface.{expansion_limit}
use Rattle.points.specs.Points.{RunAt, SomeRun, EndedAs, later, ended_at, ended_limit}
use Rattle.merge_rounds.specs.OneRound.{stream_of, items_are}
use Rattle.merge_rounds.specs.AllRounds.{all_rounds}

-- ---- one more stream

off_frame : (o : Options) → o.clifford_to_frame ≡ false → is_on (rules_of o).absorption ≡ false
unfolding rules_of absorption_of when◌then◌else◌
off_frame o e = rw e refl

on_frame : (o : Options) → o.clifford_to_frame ≡ true → is_on (rules_of o).absorption ≡ true
unfolding rules_of absorption_of when◌then◌else◌
on_frame o e = go o.lazy_cliffords refl
  where
    go : (s : Lazy) → o.lazy_cliffords ≡ s → is_on (absorption_of o) ≡ true
    go Off f = rw (e, f) refl
    go On f = rw (e, f) refl
    go (From n) f = rw (e, f) refl

-- the work behind the rounds
abbrev pub closed : Shape → Options → Work → Work
closed z o w = closing_stream z.l (rules_of o) o.rounds w

closing_by : (z : Shape) (o : Options) (w : Work) (b : Bool) → (o.rounds ≡ 0 → ⊥)
    → is_on (rules_of o).absorption && any_of is_even_rotation w.items ≡ b → closed z o w ≡ (when b then stream_of z o w else w)
unfolding closing_stream
closing_by z o w b n e =
    ap (λ (k : ℕ). closing_stream z.l (rules_of o) k w) (let f : o.rounds ≡ suc (o.rounds - 1) = omega (arith, n) in f)
    ∙ ap (λ (x : Bool). when x then stream_of z o w else w) e

module _ (o : Options) {z : Shape} {i : ℕ} {st : State} {ws xs : List ℕ} {p : Program} {w : Work} (r : RunAt z i st ws xs p w) where
  -- no stream
  stays : closed z o w ≡ w → EndedAs z (i + 1) (Ok st) ws xs p (closed z o w)
  stays e = ended_at (omega arith) (subst (RunAt z i st ws xs p) (sym e) r)

  pub closing_zero : o.rounds ≡ 0 → EndedAs z (i + 1) (Ok st) ws xs p (closed z o w)
  unfolding closing_stream
  closing_zero e = stays (ap (λ (k : ℕ). closing_stream z.l (rules_of o) k w) e)

  module _ (n : o.rounds ≡ 0 → ⊥) where
    pub closing_off : not o.clifford_to_frame ≡ true → EndedAs z (i + 1) (Ok st) ws xs p (closed z o w)
    closing_off e =
        stays (closing_by z o w false n (ap (λ (x : Bool). x && any_of is_even_rotation w.items) (off_frame o (not-true _ e)))
        ∙ if_false _ _ refl)

    module _ {b : Bool} (e : not o.clifford_to_frame ≡ false)
        (f : b ≡ any_of is_even_rotation (items_in xs z.u items_row 0 (st.out - 0))) where
      even_is : is_on (rules_of o).absorption && any_of is_even_rotation w.items ≡ b
      even_is =
          ap (λ (x : Bool). x && any_of is_even_rotation w.items) (on_frame o (not-false _ e))
          ∙ sym (f ∙ ap (any_of is_even_rotation) (items_are r))

      pub closing_none : b ≡ false → EndedAs z (i + 1) (Ok st) ws xs p (closed z o w)
      closing_none is_no = stays (closing_by z o w false n (even_is ∙ is_no) ∙ if_false _ _ refl)

      pub closing_even : b ≡ true → {q : Result State ExpansionLimit} {ws' xs' : List ℕ} → EndedAs z (i + 1) q ws' xs' p (stream_of z o w)
          → EndedAs z (i + 1) q ws' xs' p (closed z o w)
      closing_even is_so {q} {ws'} {xs'} h =
          subst (EndedAs z (i + 1) q ws' xs' p) (sym (closing_by z o w true n (even_is ∙ is_so) ∙ if_true _ _ refl)) h

-- ---- the strategy

module _ (o : Options) (w : Work) {z : Shape} {r : Result State ExpansionLimit} {ws xs : List ℕ} {p : Program}
    (h : EndedAs z 510 r ws xs p (all_rounds z o w)) where
  pub merging_limit : r ≡ Err expansion_limit → EndedAs z 511 (Err expansion_limit) ws xs p (merge_rounds z.l (rules_of o) o.rounds w)
  unfolding merge_rounds
  merging_limit e = ended_limit (lt_of_lt_of_le (h.refused e) (closing_stream_rises z.l (rules_of o) o.rounds _))

  pub merging_some : (s : State) → r ≡ Ok s → SomeRun z 511 s ws xs
  merging_some s e = record { program = p; work = _; at = later (omega arith) (h.done s e) }

pub merging_end : (o : Options) (w : Work) {z : Shape} {r : Result State ExpansionLimit} {ws xs : List ℕ} {p : Program}
    → EndedAs z (510 + 1) r ws xs p (closed z o (all_rounds z o w))
    → EndedAs z 511 r ws xs p (merge_rounds z.l (rules_of o) o.rounds w)
unfolding merge_rounds
merging_end o w h = h
