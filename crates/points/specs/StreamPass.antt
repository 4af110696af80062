-- The stream, from a point of a run to the next, or refused. Assumes nothing.
use Rattle.std.specs.Prelude.{◌≡◌, refl, Bool, true, false, List, ℕ, ◌+◌, Result, Ok, Err}
use Rattle.std.proofs.Math.Path.{sym, ap}
use Rattle.std.proofs.Common.{◌∙◌, arith}
use Rattle.model.specs.declared.Lazy.{Lazy}
use Rattle.model.specs.declared.Absorption.{Absorption}
use Rattle.model.specs.declared.Absorption.TheVariants.{Off as off}
use Rattle.model.specs.declared.Options.{Options}
use Rattle.model.specs.declared.Counters.{Counters}
use Rattle.model.specs.Program.{Program}
use Rattle.model.specs.Rules.{absorption_by, absorption_of, rules_of}
use Rattle.model.specs.Rounds.{Work, stream_pass}
use Rattle.theory.specs.Cases.{if_true, if_false}
use Rattle.layout.specs.declared.Shape.{Shape}
use Rattle.layout.specs.Shape.{granted_same}
use Rattle.steps.specs.declared.State.{State}
use Rattle.model.specs.declared.ExpansionLimit.{ExpansionLimit}
use Rattle.model.specs.Interface.{expansion_limit}
use Rattle.stream_states.specs.declared.StreamRules.{StreamRules}
use Rattle.stream_states.specs.States.{RulesAs}
use Rattle.stream.specs.Passing.{PassAtWork, SomeWork, LeftP}
use Rattle.lent_passes.specs.Counted.{raised, StreamedAs, next_counts}
use Rattle.points.specs.Demands as demands
use Rattle.points.specs.Points.{RunAt, SomeRun, SameLong, EndedAs, ended_at, ended_limit}
use Rattle.points.specs.Counts.{counters_at, with_counts}

-- what becomes of even rotations where a stream begins
module _ (o : Options) where
  pub absorption_off : o.clifford_to_frame ≡ false → off ≡ absorption_of o
  unfolding absorption_of
  absorption_off e = sym (if_false _ off e)

  pub absorption_by_lem : o.clifford_to_frame ≡ true → {setting : Lazy} → o.lazy_cliffords ≡ setting → absorption_by setting ≡ absorption_of o
  unfolding absorption_of
  absorption_by_lem e f = ap absorption_by (sym f) ∙ sym (if_true _ off e)

-- the rules of a stream: the options', what becomes of even rotations first, and whether rotations merge
abbrev stream_rules : Options → Absorption → Bool → StreamRules
stream_rules o first merging = record { lookback = o.lookback; absorption = first; lazy = o.lazy_cliffords; merge = merging }

rules_as : (o : Options) (first : Absorption) (merging : Bool) → first ≡ absorption_of o → RulesAs (stream_rules o first merging) (rules_of o)
unfolding rules_of
rules_as o first merging e = record { lookback = refl; absorption = e; lazy = refl }

pub stream_long : {z : Shape} {ws xs ws' xs' : List ℕ} → LeftP z ws xs ws' xs' → SameLong ws xs ws' xs'
stream_long left = record { words = left.words.long; numbers = left.numbers.long }

module _ (o : Options) (merging : Bool) (st : State) {first : Absorption} (said : first ≡ absorption_of o) {z : Shape} {ws xs : List ℕ} where
  stream_at : {i : ℕ} {p : Program} {w : Work} → RunAt z i st ws xs p w
      → PassAtWork z (stream_rules o first merging) p w st.axes st.out st.peak ws xs (rules_of o)
  stream_at r = demands.stream_pre r.granted r.work r.well (stream_rules o first merging) (rules_of o) (rules_as o first merging said)

  pub stream_pre : {i : ℕ} → SomeRun z i st ws xs
      → SomeWork (λ prog w g. PassAtWork z (stream_rules o first merging) prog w st.axes st.out st.peak ws xs g)
  stream_pre s = record { program = s.program; work = s.work; rules = rules_of o; it = stream_at s.at }

  -- g are the counters that the pass was lent, h those that it left
  module _ {g : Counters} (lent : g ≡ counters_at st) {r : Result State ExpansionLimit} {ws' xs' : List ℕ} {h : Counters}
      (x : StreamedAs z (stream_rules o first merging) st.out st.axes st.peak ws xs g r ws' xs' h) where
    pub stream_limit : r ≡ Err expansion_limit → (i : ℕ) (p : Program) (w : Work) → RunAt z i st ws xs p w
        → EndedAs z (i + 1) (Err expansion_limit) ws' xs' p (stream_pass z.l (rules_of o) merging w)
    stream_limit e i p w a = ended_limit ((x.passed p w (rules_of o) (stream_at a)).refused e)

    module _ {d : State} (e : r ≡ Ok d) where
      -- the counters are the run's
      counts : h ≡ raised (counters_at st) d.merges d.absorbed
      counts = x.counters ∙ rw (lent, (next_counts e).0, (next_counts e).1) refl

      pub stream_done : {next : State} → next ≡ with_counts h d → (i : ℕ) (p : Program) (w : Work) → RunAt z i st ws xs p w
          → EndedAs z (i + 1) (Ok next) ws' xs' p (stream_pass z.l (rules_of o) merging w)
      stream_done f i p w a =
          let b = x.passed p w (rules_of o) (stream_at a) in
          rw (f, counts) (ended_at {i = i + 1} (omega arith) (record {
            granted = granted_same a.granted x.left.words.long x.left.numbers.long;
            work = b.work d e;
            well = demands.stream_at a.granted.sized (rules_of o) a.well merging;
            merges = ap (λ (n : ℕ). n + d.merges) a.merges ∙ sym (b.merges d e);
            swaps = a.swaps ∙ (unfold stream_pass in refl);
            absorbed = ap (λ (n : ℕ). n + d.absorbed) a.absorbed ∙ sym (b.absorbed d e);
            few = omega (arith, a.few, b.few d e);
          }))
