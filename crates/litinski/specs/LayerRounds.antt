-- All rounds of Litinski's strategy: what is left of them, from the work that memory holds, comes to the same. Assumes nothing.
use Rattle.std.specs.Prelude.{◌≡◌, refl, Bool, true, false, List, ℕ, suc, ◌+◌, ◌-◌, ◌*◌, ◌≤◌, ◌<◌, eqb, Result, Ok, Err}
use Rattle.std.proofs.Common.{sym, ap, ◌∙◌, subst, lt_of_lt_of_le, arith, eq-eqb, ne_eqb}
use Rattle.model.specs.declared.Options.{Options}
use Rattle.model.specs.Lists.{when◌then◌else◌}
use Rattle.model.specs.Program.{Program}
use Rattle.model.specs.Rules.{rules_of}
use Rattle.model.specs.Rounds.{Work, stream_pass, layering_pass, litinski_from, litinski_rounds}
use Rattle.theory.specs.Cases.{if_true, if_false}
use Rattle.theory.specs.Peak.{litinski_from_rises}
use Rattle.layout.specs.declared.Shape.{Shape}
use Rattle.steps.specs.declared.State.{State}
use Rattle.model.specs.declared.ExpansionLimit.{ExpansionLimit}
use Rattle.model.specs.Interface.{expansion_limit}
use Rattle.points.specs.Points.{RunAt, SomeRun, OptionsIn, SameLong, long_same, long_then, EndedAs, later, ended_at, ended_limit}

-- "each round layers every segment .."
abbrev pub layers_of : Shape → Work → Work
layers_of z w = layering_pass z.l w

-- "Streams here do not merge."
abbrev pub stream_of : Shape → Options → Work → Work
stream_of z o w = stream_pass z.l (rules_of o) false w

-- the work after k more rounds
abbrev pub rounds_of : Shape → Options → ℕ → Work → Work
rounds_of z o k w = litinski_from z.l (rules_of o) k w

-- ---- after j rounds

-- memory holds some work, from which the rounds that are left make what all make of w
pub record RoundsNow (z : Shape) (o : Options) (ws xs : List ℕ) (st : State) (j : ℕ) (p : Program) (w : Work) : Type 0 where
  pub now : Work
  pub same : rounds_of z o o.rounds w ≡ rounds_of z o (o.rounds - j) now
  pub at : RunAt z (1 + 2 * j) st ws xs p now

pub record RoundsDone (z : Shape) (o : Options) (st₀ : State) (ws₀ xs₀ ws xs : List ℕ) (st : State) (j : ℕ) : Type 0 where
  pub index : j ≤ o.rounds
  pub long : SameLong ws₀ xs₀ ws xs
  pub at : (p : Program) (w : Work) → RunAt z 1 st₀ ws₀ xs₀ p w → RoundsNow z o ws xs st j p w

pub rounds_first : (z : Shape) (o : Options) (st : State) (ws xs : List ℕ) → RoundsDone z o st ws xs ws xs st 0
rounds_first z o st ws xs = record {
  index = omega arith;
  long = long_same ws xs;
  at = λ p w h. record {
    now = w;
    same = ap (λ (k : ℕ). rounds_of z o k w) (let e : o.rounds ≡ o.rounds - 0 = omega arith in e);
    at = h;
  };
}

-- ---- one round more

-- what layers promise, and what a stream does
abbrev pub LayersCall : Shape → State → List ℕ → List ℕ → State → List ℕ → List ℕ → Type 0
LayersCall z st ws xs s ws₁ xs₁ =
    SameLong ws xs ws₁ xs₁
    × ((i : ℕ) (p : Program) (w : Work) → RunAt z i st ws xs p w → RunAt z (i + 1) s ws₁ xs₁ p (layers_of z w))

abbrev pub StreamCall : Shape → Options → State → List ℕ → List ℕ → Result State ExpansionLimit → List ℕ → List ℕ → Type 0
StreamCall z o st ws xs r ws₁ xs₁ =
    SameLong ws xs ws₁ xs₁
    × ((i : ℕ) (p : Program) (w : Work) → RunAt z i st ws xs p w → EndedAs z (i + 1) r ws₁ xs₁ p (stream_of z o w))

-- ".. ends the work if nothing merged .."
one_more : (z : Shape) (o : Options) (k : ℕ) (w : Work) (b : Bool) → eqb (layers_of z w).merges w.merges ≡ b
    → rounds_of z o (k + 1) w ≡ (when b then layers_of z w else rounds_of z o k (stream_of z o (layers_of z w)))
unfolding litinski_from
one_more z o k w b e =
    ap (λ (n : ℕ). rounds_of z o n w) (let f : k + 1 ≡ suc k = omega arith in f)
    ∙ ap (λ (x : Bool). when x then layers_of z w else rounds_of z o k (stream_of z o (layers_of z w))) e

module _ {z : Shape} {o : Options} {st₀ : State} {ws₀ xs₀ ws xs : List ℕ} {st : State} {j : ℕ}
    (b : RoundsDone z o st₀ ws₀ xs₀ ws xs st j) (more : j < o.rounds) where
  pub rounds_some : SomeRun z 1 st₀ ws₀ xs₀ → OptionsIn o → SomeRun z 511 st ws xs
  rounds_some f k =
      let n = b.at f.program f.work f.at in
      record { program = f.program; work = n.now; at = later (omega (arith, k.rounds)) n.at }

  module _ {s : State} {ws₁ xs₁ : List ℕ} (layers : LayersCall z st ws xs s ws₁ xs₁) where
    module _ {p : Program} {w : Work} (h : RunAt z 1 st₀ ws₀ xs₀ p w) where
      here : RoundsNow z o ws xs st j p w
      here = b.at p w h

      layered : RunAt z (1 + 2 * j + 1) s ws₁ xs₁ p (layers_of z here.now)
      layered = layers.1 (1 + 2 * j) p here.now here.at

      pub layered_some : OptionsIn o → SomeRun z 511 s ws₁ xs₁
      layered_some k = record { program = p; work = layers_of z here.now; at = later (omega (arith, k.rounds)) layered }

      -- what all rounds come to, by the code's test on states
      rest : (x : Bool) → eqb s.merges st.merges ≡ x → rounds_of z o o.rounds w
          ≡ (when x then layers_of z here.now else rounds_of z o (o.rounds - (j + 1)) (stream_of z o (layers_of z here.now)))
      rest x e =
          here.same
          ∙ ap (λ (k : ℕ). rounds_of z o k here.now) (let f : o.rounds - j ≡ (o.rounds - (j + 1)) + 1 = omega arith in f)
          ∙ one_more z o (o.rounds - (j + 1)) here.now x (cc (layered.merges, here.at.merges, e))

      pub rounds_stop : s.merges ≡ st.merges → OptionsIn o → EndedAs z 511 (Ok s) ws₁ xs₁ p (rounds_of z o o.rounds w)
      rounds_stop e k =
          let last = rest true (eq-eqb s.merges st.merges e) ∙ if_true _ _ refl in
          ended_at (omega (arith, k.rounds)) (subst (RunAt z (1 + 2 * j + 1) s ws₁ xs₁ p) (sym last) layered)

    module _ (n : s.merges ≡ st.merges → ⊥) {r : Result State ExpansionLimit} {ws₂ xs₂ : List ℕ} (stream : StreamCall z o s ws₁ xs₁ r ws₂ xs₂) where
      module _ {p : Program} {w : Work} (h : RunAt z 1 st₀ ws₀ xs₀ p w) where
        abbrev next : Work
        next = stream_of z o (layers_of z (here h).now)

        streamed : EndedAs z (1 + 2 * j + 1 + 1) r ws₂ xs₂ p (stream_of z o (layers_of z (here h).now))
        streamed = stream.1 (1 + 2 * j + 1) p (layers_of z (here h).now) (layered h)

        rest_on : rounds_of z o o.rounds w ≡ rounds_of z o (o.rounds - (j + 1)) (stream_of z o (layers_of z (here h).now))
        rest_on = rest h false (ne_eqb s.merges st.merges n) ∙ if_false _ _ refl

        pub rounds_limit : r ≡ Err expansion_limit → EndedAs z 511 (Err expansion_limit) ws₂ xs₂ p (rounds_of z o o.rounds w)
        rounds_limit e =
            ended_limit (subst (λ (v : Work). z.limit < v.store.peak) (sym rest_on)
            (lt_of_lt_of_le (streamed.refused e) (litinski_from_rises z.l (rules_of o) (o.rounds - (j + 1)) _)))

        rounds_now : (q : State) → r ≡ Ok q → RoundsNow z o ws₂ xs₂ q (j + 1) p w
        rounds_now q e = record { now = next; same = rest_on; at = later (omega arith) (streamed.done q e) }

      pub rounds_next : (q : State) → r ≡ Ok q → RoundsDone z o st₀ ws₀ xs₀ ws₂ xs₂ q (j + 1)
      rounds_next q e = record {
        index = omega arith;
        long = long_then (long_then b.long layers.0) stream.0;
        at = λ p w h. rounds_now h q e;
      }

pub rounds_end : {z : Shape} {o : Options} {st₀ : State} {ws₀ xs₀ ws xs : List ℕ} {st : State} {j : ℕ}
    → RoundsDone z o st₀ ws₀ xs₀ ws xs st j → o.rounds ≤ j → OptionsIn o
    → (p : Program) (w : Work) → RunAt z 1 st₀ ws₀ xs₀ p w → EndedAs z 511 (Ok st) ws xs p (rounds_of z o o.rounds w)
unfolding litinski_from
rounds_end {z} {o} {ws = ws} {xs = xs} {st = st} {j = j} b e k p w h =
    let n = b.at p w h in
    let none : o.rounds - j ≡ 0 = omega arith in
    ended_at (omega (arith, k.rounds, b.index))
    (subst (RunAt z (1 + 2 * j) st ws xs p) (sym (n.same ∙ ap (λ (m : ℕ). rounds_of z o m n.now) none)) n.at)

-- ---- the strategy

-- "Rounds 0 does nothing."
pub litinski_zero : (o : Options) {z : Shape} {st : State} {ws xs : List ℕ} {p : Program} {w : Work} → RunAt z 0 st ws xs p w
    → o.rounds ≡ 0 → EndedAs z 511 (Ok st) ws xs p (litinski_rounds z.l (rules_of o) o.rounds w)
unfolding litinski_rounds
litinski_zero o {z} {st} {ws} {xs} {p} {w} r e =
    ended_at (omega arith) (subst (RunAt z 0 st ws xs p) (sym (ap (λ (k : ℕ). litinski_rounds z.l (rules_of o) k w) e)) r)

-- "Otherwise a stream; then each round .."
after_stream : (z : Shape) (o : Options) (w : Work) → (o.rounds ≡ 0 → ⊥)
    → litinski_rounds z.l (rules_of o) o.rounds w ≡ rounds_of z o o.rounds (stream_of z o w)
unfolding litinski_rounds
after_stream z o w n =
    let f : o.rounds ≡ suc (o.rounds - 1) = omega (arith, n) in
    ap (λ (k : ℕ). litinski_rounds z.l (rules_of o) k w) f ∙ ap (λ (k : ℕ). rounds_of z o k (stream_of z o w)) (sym f)

module _ (o : Options) (w : Work) (n : o.rounds ≡ 0 → ⊥) {z : Shape} {r : Result State ExpansionLimit} {ws xs : List ℕ} {p : Program}
    (h : EndedAs z (0 + 1) r ws xs p (stream_of z o w)) where
  pub litinski_limit : r ≡ Err expansion_limit → EndedAs z 511 (Err expansion_limit) ws xs p (litinski_rounds z.l (rules_of o) o.rounds w)
  litinski_limit e =
      ended_limit (subst (λ (v : Work). z.limit < v.store.peak) (sym (after_stream z o w n))
      (lt_of_lt_of_le (h.refused e) (litinski_from_rises z.l (rules_of o) o.rounds _)))

  pub litinski_some : (s : State) → r ≡ Ok s → SomeRun z 1 s ws xs
  litinski_some s e = record { program = p; work = _; at = h.done s e }

  pub litinski_end : {q : Result State ExpansionLimit} {ws' xs' : List ℕ} → EndedAs z 511 q ws' xs' p (rounds_of z o o.rounds (stream_of z o w))
      → EndedAs z 511 q ws' xs' p (litinski_rounds z.l (rules_of o) o.rounds w)
  litinski_end {q} {ws'} {xs'} k = subst (EndedAs z 511 q ws' xs' p) (sym (after_stream z o w n)) k
