-- What a stream adds to the run's counters. Assumes nothing.
use Rattle.std.specs.Prelude.{◌≡◌, refl, List, ℕ, ◌+◌, ◌≤◌, ◌<◌, ◌^◌, Result, Ok, Err}
use Rattle.std.proofs.Common.{sym, ap, subst, arith}
use Rattle.model.specs.declared.Counters.{Counters}
use Rattle.model.specs.Rules.{Rules}
use Rattle.model.specs.Program.{Program}
use Rattle.model.specs.Rounds.{Work}
use Rattle.layout.specs.declared.Shape.{Shape}
use Rattle.lent_passes.specs.Raised.{more_merges, more_absorbed}
use Rattle.steps.specs.declared.State.{State}
use Rattle.model.specs.declared.ExpansionLimit.{ExpansionLimit}
use Rattle.model.specs.Interface.{expansion_limit}
use Rattle.stream_states.specs.declared.StreamRules.{StreamRules}
use Rattle.stream.specs.Passing.{PassAtWork, SomeWork, PassedAs, LeftP}
use Rattle.lent_passes.specs.declared.Counted.{Counted}

-- "merges", "cliffords_to_frame": a refused stream adds nothing, since after any refusal counters are 0
unfoldable pub merges_of : Result State ExpansionLimit → ℕ
merges_of (Ok s) = s.merges
merges_of (Err _) = 0

unfoldable pub absorbed_of : Result State ExpansionLimit → ℕ
absorbed_of (Ok s) = s.absorbed
absorbed_of (Err _) = 0

pub next_counts : {t : Result State ExpansionLimit} {s : State} → t ≡ Ok s → (s.merges ≡ merges_of t) × (s.absorbed ≡ absorbed_of t)
unfolding merges_of absorbed_of
next_counts e = (sym (ap merges_of e), sym (ap absorbed_of e))

pub limit_counts : {t : Result State ExpansionLimit} → t ≡ Err expansion_limit → (0 ≡ merges_of t) × (0 ≡ absorbed_of t)
unfolding merges_of absorbed_of
limit_counts e = (sym (ap merges_of e), sym (ap absorbed_of e))

-- the counters raised by so much
abbrev pub raised : Counters → ℕ → ℕ → Counters
raised c m a = more_absorbed (more_merges c m) a

-- room for what one stream counts
pub record Room (c : Counters) : Type 0 where
  pub merges : c.merges + 8589934592 < 2 ^ 64
  pub absorbed : c.cliffords_to_frame + 8589934592 < 2 ^ 64

-- what the stream leaves, and what it counted
pub record CountedAs (z : Shape) (c : StreamRules) (k n peak : ℕ) (ws xs : List ℕ) (r : Counted) (ws' xs' : List ℕ) : Type 0 where
  pub left : LeftP z ws xs ws' xs'
  pub passed : (prog : Program) (w : Work) (g : Rules) → PassAtWork z c prog w n k peak ws xs g → PassedAs z c prog w g r.outcome ws' xs'
  pub merges : r.merges ≡ merges_of r.outcome
  pub absorbed : r.absorbed ≡ absorbed_of r.outcome
  pub few : r.merges + r.absorbed ≤ 8589934592

-- what the stream leaves, the counters lent
pub record StreamedAs (z : Shape) (c : StreamRules) (k n peak : ℕ) (ws xs : List ℕ) (h : Counters) (r : Result State ExpansionLimit)
    (ws' xs' : List ℕ) (h' : Counters) : Type 0 where
  pub left : LeftP z ws xs ws' xs'
  pub passed : (prog : Program) (w : Work) (g : Rules) → PassAtWork z c prog w n k peak ws xs g → PassedAs z c prog w g r ws' xs'
  pub counters : h' ≡ raised h (merges_of r) (absorbed_of r)

few_of : {z : Shape} {c : StreamRules} {prog : Program} {w : Work} {g : Rules} (t : Result State ExpansionLimit) {ws xs : List ℕ}
    → PassedAs z c prog w g t ws xs → merges_of t + absorbed_of t ≤ 8589934592
unfolding merges_of absorbed_of
few_of (Ok s) h = h.few s refl
few_of (Err _) h = omega arith

pub counted : {z : Shape} {c : StreamRules} {k n peak : ℕ} {ws xs ws' xs' : List ℕ} {t : Result State ExpansionLimit} {m a : ℕ}
    → SomeWork (λ prog w g. PassAtWork z c prog w n k peak ws xs g)
    → LeftP z ws xs ws' xs'
    × ((prog : Program) (w : Work) (g : Rules) → PassAtWork z c prog w n k peak ws xs g → PassedAs z c prog w g t ws' xs')
    → m ≡ merges_of t → a ≡ absorbed_of t → CountedAs z c k n peak ws xs (record { outcome = t; merges = m; absorbed = a }) ws' xs'
counted {t = t} h call e f = record {
  left = call.0;
  passed = call.1;
  merges = e;
  absorbed = f;
  few = rw (e, f) (few_of t (call.1 h.program h.work h.rules h.it));
}

pub room_for : {z : Shape} {c : StreamRules} {k n peak : ℕ} {ws xs ws' xs' : List ℕ} {h : Counters} {r : Counted} → Room h
    → CountedAs z c k n peak ws xs r ws' xs' → (h.merges + r.merges < 2 ^ 64) × (h.cliffords_to_frame + r.absorbed < 2 ^ 64)
room_for o e = let f = e.few in let a = o.merges in let b = o.absorbed in (omega arith, omega arith)

-- what the core and the adder say together
pub streamed : {z : Shape} {c : StreamRules} {k n peak : ℕ} {ws xs ws' xs' : List ℕ} {h h' : Counters} {q : Counted} {r : Result State ExpansionLimit}
    → CountedAs z c k n peak ws xs q ws' xs' → (h' ≡ raised h q.merges q.absorbed) × (r ≡ q.outcome)
    → StreamedAs z c k n peak ws xs h r ws' xs' h'
streamed {z} {c} {k} {n} {peak} {ws} {xs} {ws'} {xs'} {h} {h'} {q} {r} a e = record {
  left = a.left;
  passed = λ prog w g p. subst (λ (t : Result State ExpansionLimit). PassedAs z c prog w g t ws' xs') (sym e.1) (a.passed prog w g p);
  counters = rw (e.1, sym a.merges, sym a.absorbed) e.0;
}
