-- Demand 3, the limit: a run that 10 does not refuse has the same answer and the same results at every larger limit. Assumes nothing.
use Rattle.std.specs.Prelude.{◌≡◌, ◌⊎◌, Bool, true, ◌||◌, ℕ, ◌≤◌, ◌<◌, ltb}
use Rattle.std.proofs.Math.Path.{refl}
use Rattle.std.proofs.Common.{sym, ap, ◌∙◌, inl, inr, le_trans, arith, ltb-false, lt-ltb, le-ltb}
use Rattle.std.proofs.Math.Bool.{false}
use Rattle.model.specs.declared.Options.{Options}
use Rattle.model.specs.Answers.{Answer, Accepted, CountOutside, OptionOutside, SliceShort, NonHermitianAxis, ExpansionLimit}
use Rattle.model.specs.Lists.{when◌then◌else◌}
use Rattle.model.specs.Interface.{accepts}
use Rattle.model.specs.Program.{Job, Program, program_of}
use Rattle.model.specs.Rules.{Rules, rules_of}
use Rattle.model.specs.Run.{Ending, non_hermitian, finished, Run, end_answer, answer_of}
use Rattle.model.specs.Checking.{Lent, bad_count, bad_option, program_short, lent_short, check_records, checking}
use Rattle.model.specs.Rewriting.{Reply, stopped, accepted, after_ending, rewriting}
use Rattle.theory.specs.Cases.{on_if, if_true, if_false}
use Rattle.theory.specs.Checked.{not_refused, checking_records}
use Rattle.theory.specs.Alike.{Alike, alike_program, alike_records}
use Rattle.theory.specs.Replies.{run_of, limit_of, within_limit, ending_answer, run_answer, refusal_answer, ran}

-- ---- a run's answer at two limits

-- only 10 comes from the limit
pub within : (limit : ℕ) (r : Run) → (answer_of limit r ≡ ExpansionLimit → ⊥) → r.peak ≤ limit
unfolding answer_of
within limit r n = go (ltb limit r.peak) refl
  where
    go : (t : Bool) → ltb limit r.peak ≡ t → r.peak ≤ limit
    go true e = absurd (n (if_true _ _ e))
    go false e = ltb-false limit r.peak e

-- within the limit the answer is how the run ended: 0 or 9
pub within_answer : (limit : ℕ) (r : Run) → r.peak ≤ limit → answer_of limit r ≡ end_answer r.ending
unfolding answer_of
within_answer limit r h = if_false _ _ (le-ltb limit r.peak h)

-- beyond the limit the answer is 10
pub beyond_answer : (limit : ℕ) (r : Run) → limit < r.peak → answer_of limit r ≡ ExpansionLimit
unfolding answer_of
beyond_answer limit r h = if_true _ _ (lt-ltb limit r.peak h)

-- ---- two calls of Rewriting

-- "options are equal", but for the limit
pub record SameButLimit (o o' : Options) : Type 0 where
  pub rules : rules_of o' ≡ rules_of o
  pub rounds : o'.rounds ≡ o.rounds

-- both replies are one function of the lent slices: they have the same answer, counters and results
pub record SameResults (o : Options) (j : Job) (s s' : Lent) (x x' : Reply) : Type 0 where
  pub ending : Ending
  pub this : x ≡ after_ending (rules_of o) (program_of j) s ending
  pub that : x' ≡ after_ending (rules_of o) (program_of j) s' ending

module _ (o o' : Options) (j j' : Job) (s s' : Lent) (alike : Alike j j') (same : SameButLimit o o') where
  -- one run
  pub run_same : run_of o' j' ≡ run_of o j
  run_same = rw (same.rules, same.rounds, alike_program j j' alike) refl

  -- one lazy setting
  pub lazy_same : o'.lazy_cliffords ≡ o.lazy_cliffords
  lazy_same = unfold rules_of in (ap (λ (r : Rules). r.lazy) same.rules)

  -- Checking has passed both, and the first call did not answer 10
  pub larger_limit : checking o j s ≡ Accepted → checking o' j' s' ≡ Accepted → limit_of o ≤ limit_of o'
      → ((rewriting o j s).answer ≡ ExpansionLimit → ⊥) → SameResults o j s s' (rewriting o j s) (rewriting o' j' s')
  larger_limit c c' le n =
      let h = within (limit_of o) (run_of o j) (λ e. n (run_answer o j s c ∙ e)) in
      let h' : (run_of o' j').peak ≤ limit_of o' = rw run_same (le_trans h le) in
      record {
        ending = (run_of o j).ending;
        this = within_limit o j s c h;
        that = within_limit o' j' s' c' h' ∙ rw (run_same, same.rules, alike_program j j' alike) refl;
      }

  -- a job that passed is refused at another limit by 2 or 3 only: the limit is outside the domain, or a lent slice is too short for it
  pub checks_again : checking o j s ≡ Accepted → (checking o' j' s' ≡ OptionOutside → ⊥) → (checking o' j' s' ≡ SliceShort → ⊥)
      → checking o' j' s' ≡ Accepted
  unfolding checking
  checks_again c =
      let count : bad_count j'.counts ≡ false = rw alike.counts (not_refused _ CountOutside _ refl c).0 in
      let short = program_short j' || lent_short j'.counts s' (limit_of o') in
      let records = check_records o'.lazy_cliffords j' in
      let left = when short then SliceShort else records in
      let right : records ≡ Accepted = rw lazy_same (alike_records _ j j' alike ∙ checking_records o j s (unfold checking in c)) in
      rw (if_false CountOutside (when bad_option o' then OptionOutside else left) count)
      (on_if (λ (x : Answer). (x ≡ OptionOutside → ⊥) → (x ≡ SliceShort → ⊥) → x ≡ Accepted) (bad_option o') OptionOutside left
      (λ e p q. absurd (p refl))
      (λ e. on_if (λ (x : Answer). (x ≡ OptionOutside → ⊥) → (x ≡ SliceShort → ⊥) → x ≡ Accepted) short SliceShort records
      (λ f p q. absurd (q refl)) (λ f p q. right)))

  -- the answer of Checking is the call's, where it is a refusal
  shown_refusal : (a : Answer) → accepts a ≡ false → ((rewriting o' j' s').answer ≡ a → ⊥) → checking o' j' s' ≡ a → ⊥
  shown_refusal a n p f = p (refusal_answer o' j' s' (ap accepts f ∙ n) ∙ f)

  not_ten : limit_of o ≤ limit_of o' → checking o j s ≡ Accepted → ((rewriting o j s).answer ≡ ExpansionLimit → ⊥)
      → ((rewriting o' j' s').answer ≡ OptionOutside → ⊥) → ((rewriting o' j' s').answer ≡ SliceShort → ⊥)
      → SameResults o j s s' (rewriting o j s) (rewriting o' j' s')
  not_ten le c n p q =
      larger_limit c (checks_again c (shown_refusal OptionOutside refl p) (shown_refusal SliceShort refl q)) le n

  -- 01's demand 3: a call that was accepted (0) or non-Hermitian (9) at one limit is so at every larger limit, with the same results;
  -- the larger limit lies in the domain (not 2), and the stores are long enough for it (not 3)
  pub same_at_larger_limit : limit_of o ≤ limit_of o'
      → ((rewriting o j s).answer ≡ Accepted) ⊎ ((rewriting o j s).answer ≡ NonHermitianAxis)
      → ((rewriting o' j' s').answer ≡ OptionOutside → ⊥) → ((rewriting o' j' s').answer ≡ SliceShort → ⊥)
      → SameResults o j s s' (rewriting o j s) (rewriting o' j' s')
  same_at_larger_limit le (inl e) p q =
      not_ten le (ran o j s Accepted e refl) (λ f. let z : ◌≡◌ {A = ℕ} 0 1 = cc in omega arith) p q
  same_at_larger_limit le (inr e) p q =
      not_ten le (ran o j s NonHermitianAxis e refl) (λ f. let z : ◌≡◌ {A = ℕ} 0 1 = cc in omega arith) p q

-- the same answer
pub results_answer : {o : Options} {j : Job} {s s' : Lent} {x x' : Reply} → SameResults o j s s' x x' → x'.answer ≡ x.answer
results_answer {o} {j} {s} {s'} h =
    ap (λ (r : Reply). r.answer) h.that ∙ ending_answer (rules_of o) (program_of j) s' h.ending
    ∙ sym (ap (λ (r : Reply). r.answer) h.this ∙ ending_answer (rules_of o) (program_of j) s h.ending)

ending_counters : (r : Rules) (p : Program) (s s' : Lent) (e : Ending) → (after_ending r p s' e).counters ≡ (after_ending r p s e).counters
unfolding after_ending accepted stopped
ending_counters r p s s' non_hermitian = refl
ending_counters r p s s' (finished f) = refl

-- the same counters
pub results_counters : {o : Options} {j : Job} {s s' : Lent} {x x' : Reply} → SameResults o j s s' x x' → x'.counters ≡ x.counters
results_counters {o} {j} {s} {s'} h =
    ap (λ (r : Reply). r.counters) h.that ∙ ending_counters (rules_of o) (program_of j) s s' h.ending
    ∙ sym (ap (λ (r : Reply). r.counters) h.this)
