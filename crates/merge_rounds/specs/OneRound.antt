-- A round of the merge strategy: a stream and exchanges, and what is then counted. Assumes nothing.
use Rattle.std.specs.Prelude.{◌≡◌, true, List, ℕ, ◌+◌, ◌-◌, ◌≤◌, Result, Ok, Err}
use Rattle.std.proofs.Common.{ap, ◌∙◌, lt_of_lt_of_le, arith}
use Rattle.model.specs.declared.Options.{Options}
use Rattle.model.specs.Program.{Program}
use Rattle.model.specs.Rules.{rules_of}
use Rattle.model.specs.Rounds.{Work, stream_pass, exchange_pass, merge_round}
use Rattle.theory.specs.Peak.{exchange_pass_rises}
use Rattle.layout.specs.declared.Shape.{Shape}
use Rattle.layout.specs.Rows.{items_row}
use Rattle.items.specs.View.{items_in}
use Rattle.item_lists.specs.Count.{RunPre}
use Rattle.steps.specs.declared.State.{State}
use Rattle.model.specs.declared.ExpansionLimit.{ExpansionLimit}
use Rattle.model.specs.Interface.{expansion_limit}
use Rattle.points.specs.Demands.{items_row_lem}
use Rattle.points.specs.Points.{RunAt, SomeRun, SameLong, EndedAs, later, ended_at, ended_limit}

-- the stream that a round begins with, and the round
abbrev pub stream_of : Shape → Options → Work → Work
stream_of z o w = stream_pass z.l (rules_of o) true w

abbrev pub round_of : Shape → Options → Work → Work
round_of z o w = merge_round z.l (rules_of o) w

-- ---- a stream and exchanges

module _ (o : Options) (i : ℕ) (w : Work) {z : Shape} {r : Result State ExpansionLimit} {ws xs : List ℕ} {p : Program}
    (h : EndedAs z (i + 1) r ws xs p (stream_of z o w)) where
  pub merged_limit : r ≡ Err expansion_limit → EndedAs z (i + 2) (Err expansion_limit) ws xs p (round_of z o w)
  unfolding merge_round
  merged_limit e = ended_limit (lt_of_lt_of_le (h.refused e) (exchange_pass_rises z.l (rules_of o) (stream_of z o w)))

  pub merged_some : (s : State) → r ≡ Ok s → i ≤ 510 → SomeRun z 511 s ws xs
  merged_some s e k = record { program = p; work = stream_of z o w; at = later (omega arith) (h.done s e) }

pub merged_done : (o : Options) (i : ℕ) (w : Work) {z : Shape} {q : State} {ws xs : List ℕ} {p : Program}
    → RunAt z (i + 1 + 1) q ws xs p (exchange_pass z.l (rules_of o) (stream_of z o w)) → EndedAs z (i + 2) (Ok q) ws xs p (round_of z o w)
unfolding merge_round
merged_done o i w h = ended_at {i = i + 1 + 1} (omega arith) h

-- what a round promises
abbrev pub RoundCall : Shape → Options → State → List ℕ → List ℕ → Result State ExpansionLimit → List ℕ → List ℕ → Type 0
RoundCall z o st ws xs r ws' xs' =
    SameLong ws xs ws' xs'
    × ((i : ℕ) (p : Program) (w : Work) → RunAt z i st ws xs p w → EndedAs z (i + 2) r ws' xs' p (round_of z o w))

-- ---- its items

module _ {z : Shape} {i : ℕ} {s : State} {ws xs : List ℕ} {p : Program} {v : Work} (h : RunAt z i s ws xs p v) where
  -- its items may be counted
  pub count_pre : RunPre xs z.u items_row 0 s.out
  count_pre = record {
    long = h.granted.numbers_long;
    rows = omega arith;
    fits = let a = items_row_lem h.granted h.work h.well in omega arith;
  }

  pub items_are : items_in xs z.u items_row 0 (s.out - 0) ≡ v.items
  items_are = ap (items_in xs z.u items_row 0) (let k : s.out - 0 ≡ s.out = omega arith in k) ∙ h.work.items
