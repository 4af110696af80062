-- A point of a run as it lies in memory, and what holds of it. Assumes nothing.
use Rattle.std.specs.Prelude.{◌≡◌, refl, List, ℕ, ◌+◌, ◌*◌, ◌≤◌, ◌<◌, length, Result, Ok, Err}
use Rattle.std.proofs.Common.{◌∙◌, subst, arith}
use Rattle.model.specs.declared.Options.{Options}
use Rattle.model.specs.Program.{Program}
use Rattle.model.specs.Rounds.{Work}
use Rattle.layout.specs.declared.Shape.{Shape}
use Rattle.layout.specs.Shape.{Granted}
use Rattle.work.specs.Work.{WorkIn}
use Rattle.run_wellformed.specs.WorkWell.{WorkWell}
use Rattle.steps.specs.declared.State.{State}
use Rattle.model.specs.declared.ExpansionLimit.{ExpansionLimit}
use Rattle.model.specs.Interface.{expansion_limit}

-- one pass raises the counters by no more than this, 2 ^ 33, all together
abbrev pub most : ℕ
most = 8589934592

-- a point of a run: w, after at most i passes, lies in memory, well-formed, with its counters; with at most 511 passes, two a round and one
-- more, no counter runs over
pub record RunAt (z : Shape) (i : ℕ) (st : State) (ws xs : List ℕ) (p : Program) (w : Work) : Type 0 where
  pub granted : Granted z ws xs
  pub work : WorkIn z p w st.axes st.out st.peak ws xs
  pub well : WorkWell z.l z.qubits w
  pub merges : st.merges ≡ w.merges
  pub swaps : st.swaps ≡ w.swaps
  pub absorbed : st.absorbed ≡ w.absorbed
  pub few : st.merges + st.swaps + st.absorbed ≤ i * most

-- some work is at this point
pub record SomeRun (z : Shape) (i : ℕ) (st : State) (ws xs : List ℕ) : Type 0 where
  pub program : Program
  pub work : Work
  pub at : RunAt z i st ws xs program work

-- refusal 2 grants these
pub record OptionsIn (o : Options) : Type 0 where
  pub rounds : o.rounds ≤ 255
  pub candidates : o.candidates ≤ 1048576

-- stores as long as before
pub record SameLong (ws xs ws' xs' : List ℕ) : Type 0 where
  pub words : length ws' ≡ length ws
  pub numbers : length xs' ≡ length xs

pub long_same : (ws xs : List ℕ) → SameLong ws xs ws xs
long_same ws xs = record { words = refl; numbers = refl }

pub long_then : {ws xs ws₁ xs₁ ws₂ xs₂ : List ℕ} → SameLong ws xs ws₁ xs₁ → SameLong ws₁ xs₁ ws₂ xs₂ → SameLong ws xs ws₂ xs₂
long_then a b = record { words = b.words ∙ a.words; numbers = b.numbers ∙ a.numbers }

-- what an answer means, where v is the model's work then
pub record EndedAs (z : Shape) (i : ℕ) (r : Result State ExpansionLimit) (ws xs : List ℕ) (p : Program) (v : Work) : Type 0 where
  pub done : (s : State) → r ≡ Ok s → RunAt z i s ws xs p v
  pub refused : r ≡ Err expansion_limit → z.limit < v.store.peak

-- ---- what holds of a point

pub items_few : {z : Shape} {i : ℕ} {st : State} {ws xs : List ℕ} {p : Program} {w : Work} → RunAt z i st ws xs p w → st.out ≤ 65535
items_few r = omega (arith, r.work.fits, r.granted.sized.operations)

-- at most i passes are at most j
pub later : {z : Shape} {i j : ℕ} {st : State} {ws xs : List ℕ} {p : Program} {w : Work} → i ≤ j → RunAt z i st ws xs p w
    → RunAt z j st ws xs p w
later {i = i} {j = j} h r = record {
  granted = r.granted;
  work = r.work;
  well = r.well;
  merges = r.merges;
  swaps = r.swaps;
  absorbed = r.absorbed;
  few = omega (arith, r.few, h);
}

pub some_later : {z : Shape} {i j : ℕ} {st : State} {ws xs : List ℕ} → i ≤ j → SomeRun z i st ws xs → SomeRun z j st ws xs
some_later h s = record { program = s.program; work = s.work; at = later h s.at }

-- an answer that is no refusal
pub ended_at : {z : Shape} {i j : ℕ} {st : State} {ws xs : List ℕ} {p : Program} {w : Work} → i ≤ j → RunAt z i st ws xs p w
    → EndedAs z j (Ok st) ws xs p w
ended_at {z} {i} {j} {st} {ws} {xs} {p} {w} h r = record {
  done = λ s e. let a : st ≡ s = cc in subst (λ (x : State). RunAt z j x ws xs p w) a (later h r);
  refused = λ e. let b : ◌≡◌ {A = ℕ} 0 1 = cc in absurd (omega arith);
}

pub ended_limit : {z : Shape} {i : ℕ} {ws xs : List ℕ} {p : Program} {w : Work} → z.limit < w.store.peak
    → EndedAs z i (Err expansion_limit) ws xs p w
ended_limit h = record {
  done = λ s e. let b : ◌≡◌ {A = ℕ} 0 1 = cc in absurd (omega arith);
  refused = λ e. h;
}
