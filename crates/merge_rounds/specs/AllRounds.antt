-- All rounds of the merge strategy: what is left of them, from the work that memory holds, comes to the same. Assumes nothing.
use Rattle.std.specs.Prelude.{◌≡◌, refl, Bool, true, false, ◌&&◌, List, [], ◌∷◌, ℕ, zero, suc, ◌+◌, ◌-◌, ◌*◌, ◌≤◌, ◌<◌, eqb, leb, length, Result, Ok, Err}
use Rattle.std.proofs.Common.{sym, ◌∙◌, subst, lt_of_lt_of_le, arith}
use Rattle.std.proofs.Math.Path.{ap}
use Rattle.std.proofs.Math.Bool.{not}
use Rattle.std.proofs.lemmas.Bool.{lt-leb}
use Rattle.model.specs.declared.Options.{Options}
use Rattle.model.specs.Lists.{sum_of}
use Rattle.model.specs.Program.{Program}
use Rattle.model.specs.Rules.{Rules, rules_of}
use Rattle.model.specs.Items.{Item, t_count}
use Rattle.model.specs.Rounds.{Work, RoundBefore, no_round, t_count_was, not_lower, goes_on, rounds_from}
use Rattle.theory.specs.Peak.{rounds_from_rises}
use Rattle.layout.specs.declared.Shape.{Shape}
use Rattle.layout.specs.Rows.{items_row}
use Rattle.items.specs.View.{items_in}
use Rattle.item_lists.specs.Count.{RunPre}
use Rattle.steps.specs.declared.State.{State}
use Rattle.model.specs.declared.ExpansionLimit.{ExpansionLimit}
use Rattle.model.specs.Interface.{expansion_limit}
use Rattle.points.specs.Demands.{items_count}
use Rattle.points.specs.Points.{RunAt, SomeRun, OptionsIn, SameLong, long_same, long_then, EndedAs, later, ended_at, ended_limit}
use Rattle.merge_rounds.specs.OneRound.{round_of, RoundCall, count_pre, items_are}

-- the work after k more rounds
abbrev pub rounds_of : Shape → Options → ℕ → Bool → RoundBefore → Work → Work
rounds_of z o k going before w = rounds_from z.l (rules_of o) k going before w

-- what all rounds make of the work that the passes start from
abbrev pub all_rounds : Shape → Options → Work → Work
all_rounds z o w = rounds_of z o o.rounds true no_round w

-- ---- the T-count that the round before left, as a number

-- a round's T-count compares with t as with that of the round before
abbrev pub ComparesAs : Shape → RoundBefore → ℕ → Type 0
ComparesAs z before t = (m : ℕ) → m ≤ z.operations → not_lower before m ≡ leb t m

-- "the first never stops them": no T-count is above the number of operations
compares_first : (z : Shape) → ComparesAs z no_round (z.operations + 1)
compares_first z m h = sym (lt-leb (z.operations + 1) m (omega arith))

-- a T-count is at most the number of items
count_few : (is : List Item) → t_count is ≤ length is
unfolding t_count sum_of
count_few [] = omega arith
count_few (x ∷ is) = omega (arith, count_few is)

-- ---- after j rounds

-- memory holds some work, from which the rounds that are left make what all make of w
pub record RoundsNow (z : Shape) (o : Options) (ws xs : List ℕ) (st : State) (t j : ℕ) (p : Program) (w : Work) : Type 0 where
  pub now : Work
  pub before : RoundBefore
  pub same : all_rounds z o w ≡ rounds_of z o (o.rounds - j) true before now
  pub at : RunAt z (2 * j) st ws xs p now
  pub compares : ComparesAs z before t

pub record RoundsDone (z : Shape) (o : Options) (st₀ : State) (ws₀ xs₀ ws xs : List ℕ) (st : State) (t j : ℕ) : Type 0 where
  pub index : j ≤ o.rounds
  pub long : SameLong ws₀ xs₀ ws xs
  pub at : (p : Program) (w : Work) → RunAt z 0 st₀ ws₀ xs₀ p w → RoundsNow z o ws xs st t j p w

pub rounds_first : (z : Shape) (o : Options) (st : State) (ws xs : List ℕ) → RoundsDone z o st ws xs ws xs st (z.operations + 1) 0
rounds_first z o st ws xs = record {
  index = omega arith;
  long = long_same ws xs;
  at = λ p w h. record {
    now = w;
    before = no_round;
    same = ap (λ (k : ℕ). rounds_of z o k true no_round w) (let e : o.rounds ≡ o.rounds - 0 = omega arith in e);
    at = h;
    compares = compares_first z;
  };
}

-- ---- one round more

stopped : (l : ℕ) (g : Rules) (k : ℕ) (b : RoundBefore) (v : Work) → rounds_from l g k false b v ≡ v
unfolding rounds_from
stopped l g zero b v = refl
stopped l g (suc k) b v = refl

one_more : (z : Shape) (o : Options) (k : ℕ) (b : RoundBefore) (w : Work)
    → rounds_of z o (k + 1) true b w
    ≡ rounds_of z o k (goes_on b w (round_of z o w)) (t_count_was (t_count (round_of z o w).items)) (round_of z o w)
unfolding rounds_from
one_more z o k b w = ap (λ (n : ℕ). rounds_of z o n true b w) (let e : k + 1 ≡ suc k = omega arith in e)

module _ {z : Shape} {o : Options} {st₀ : State} {ws₀ xs₀ ws xs : List ℕ} {st : State} {t j : ℕ}
    (b : RoundsDone z o st₀ ws₀ xs₀ ws xs st t j) (more : j < o.rounds) where
  pub rounds_some : SomeRun z 0 st₀ ws₀ xs₀ → OptionsIn o → SomeRun z 510 st ws xs
  rounds_some f k =
      let n = b.at f.program f.work f.at in
      record { program = f.program; work = n.now; at = later (omega (arith, k.rounds)) n.at }

  module _ {r : Result State ExpansionLimit} {ws' xs' : List ℕ} (call : RoundCall z o st ws xs r ws' xs') where
    module _ {p : Program} {w : Work} (h : RunAt z 0 st₀ ws₀ xs₀ p w) where
      here : RoundsNow z o ws xs st t j p w
      here = b.at p w h

      abbrev next : Work
      next = round_of z o here.now

      abbrev was : RoundBefore
      was = t_count_was (t_count (round_of z o here.now).items)

      step : EndedAs z (2 * j + 2) r ws' xs' p (round_of z o here.now)
      step = call.1 (2 * j) p here.now here.at

      rest : all_rounds z o w
          ≡ rounds_of z o (o.rounds - (j + 1)) (goes_on here.before here.now (round_of z o here.now))
          (t_count_was (t_count (round_of z o here.now).items)) (round_of z o here.now)
      rest =
          here.same
          ∙ ap (λ (k : ℕ). rounds_of z o k true here.before here.now)
          (let e : o.rounds - j ≡ (o.rounds - (j + 1)) + 1 = omega arith in e)
          ∙ one_more z o (o.rounds - (j + 1)) here.before here.now

      pub rounds_limit : r ≡ Err expansion_limit → EndedAs z 510 (Err expansion_limit) ws' xs' p (all_rounds z o w)
      rounds_limit e =
          ended_limit (subst (λ (v : Work). z.limit < v.store.peak) (sym rest)
          (lt_of_lt_of_le (step.refused e) (rounds_from_rises z.l (rules_of o) (o.rounds - (j + 1)) _ _ next)))

      pub rounds_count : (s : State) → r ≡ Ok s → RunPre xs' z.u items_row 0 s.out
      rounds_count s e = count_pre (step.done s e)

      module _ (s : State) (e : r ≡ Ok s) (left : ℕ) (count : left ≡ t_count (items_in xs' z.u items_row 0 (s.out - 0))) where
        at_next : RunAt z (2 * j + 2) s ws' xs' p (round_of z o here.now)
        at_next = step.done s e

        left_is : left ≡ t_count (round_of z o here.now).items
        left_is = count ∙ ap t_count (items_are at_next)

        -- "a round has no exchange and no lower T-count than the round before": the code's test, by states and the count, is the model's
        goes : goes_on here.before here.now (round_of z o here.now) ≡ not (eqb s.swaps st.swaps && leb t left)
        unfolding goes_on
        goes =
            ap (λ (x : Bool). not (eqb next.swaps here.now.swaps && x))
            (here.compares (t_count next.items)
            (omega (arith, count_few next.items, items_count at_next.granted at_next.work at_next.well, at_next.work.fits)))
            ∙ (cc (at_next.swaps, here.at.swaps, left_is))

        rest_by : (x : Bool) → eqb s.swaps st.swaps && leb t left ≡ x
            → all_rounds z o w ≡ rounds_of z o (o.rounds - (j + 1)) (not x) was next
        rest_by x f = rest ∙ ap (λ (y : Bool). rounds_of z o (o.rounds - (j + 1)) y was next) (goes ∙ ap not f)

        pub rounds_stop : OptionsIn o → eqb s.swaps st.swaps && leb t left ≡ true
            → EndedAs z 510 (Ok s) ws' xs' p (all_rounds z o w)
        rounds_stop k f =
            let last : all_rounds z o w ≡ next = rest_by true f ∙ stopped z.l (rules_of o) (o.rounds - (j + 1)) was next in
            ended_at (omega (arith, k.rounds)) (subst (RunAt z (2 * j + 2) s ws' xs' p) (sym last) at_next)

        rounds_now : eqb s.swaps st.swaps && leb t left ≡ false → RoundsNow z o ws' xs' s left (j + 1) p w
        rounds_now f = record {
          now = next;
          before = was;
          same = rest_by false f;
          at = later (omega arith) at_next;
          compares = λ n g. ap (λ (x : ℕ). leb x n) (sym left_is);
        }

    pub rounds_next : (s : State) → r ≡ Ok s → (left : ℕ) → left ≡ t_count (items_in xs' z.u items_row 0 (s.out - 0))
        → eqb s.swaps st.swaps && leb t left ≡ false → RoundsDone z o st₀ ws₀ xs₀ ws' xs' s left (j + 1)
    rounds_next s e left count f = record {
      index = omega arith;
      long = long_then b.long call.0;
      at = λ p w h. rounds_now h s e left count f;
    }

pub rounds_end : {z : Shape} {o : Options} {st₀ : State} {ws₀ xs₀ ws xs : List ℕ} {st : State} {t j : ℕ}
    → RoundsDone z o st₀ ws₀ xs₀ ws xs st t j → o.rounds ≤ j → OptionsIn o
    → (p : Program) (w : Work) → RunAt z 0 st₀ ws₀ xs₀ p w → EndedAs z 510 (Ok st) ws xs p (all_rounds z o w)
unfolding rounds_from
rounds_end {z} {o} {ws = ws} {xs = xs} {st = st} {j = j} b e k p w h =
    let n = b.at p w h in
    let none : o.rounds - j ≡ 0 = omega arith in
    ended_at (omega (arith, k.rounds, b.index))
    (subst (RunAt z (2 * j) st ws xs p) (sym (n.same ∙ ap (λ (m : ℕ). rounds_of z o m true n.before n.now) none)) n.at)
