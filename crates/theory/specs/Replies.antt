-- What a call of Rewriting replies: after a refusal by Checking, beyond the limit, and within it. Assumes nothing.
use Rattle.std.specs.Prelude.{◌≡◌, Bool, true, false, ◌||◌, ◌&&◌, List, [], ◌∷◌, ℕ, zero, suc, ◌≤◌, ◌<◌, eqb, leb, Err}
use Rattle.std.proofs.Math.Path.{refl, sym, ap}
use Rattle.std.proofs.Common.{ap₂, ◌∙◌, true≢false, arith}
use Rattle.std.proofs.Math.Dec.{ltb}
use borrow.Author.Tests.{lt-ltb, le-ltb, le-leb, leb-true, eqb-true, ne_eqb}
use Rattle.model.specs.declared.Lazy.{Lazy}
use Rattle.model.specs.declared.Lazy.TheVariants.{Off, On, From}
use Rattle.model.specs.declared.Options.{Options}
use Rattle.model.specs.declared.Refusal.{Refusal}
use Rattle.model.specs.Answers.{Answer, Accepted, CountOutside, OptionOutside, SliceShort, BadNode, BadQubit, BadReference, BadOperation, BadOutcome}
use Rattle.model.specs.Answers.{NonHermitianAxis, ExpansionLimit, BadPlace}
use Rattle.model.specs.Lists.{when◌then◌else◌}
use Rattle.model.specs.Interface.{number_of, accepts, of_checking, no_counters}
use Rattle.model.specs.Program.{field_of, Job, operation_records, Program, program_of}
use Rattle.model.specs.Rules.{Rules, rules_of}
use Rattle.model.specs.Run.{Ending, non_hermitian, finished, Run, run, end_answer, answer_of}
use Rattle.model.specs.Checking.{Lent, and_then, check_node_of_kind, check_node, check_nodes, measured, check_operation, check_operations, check_row}
use Rattle.model.specs.Checking.{check_rows}
use Rattle.model.specs.Checking.{check_program, check_place, check_records, checking}
use Rattle.model.specs.Rewriting.{Reply, refused, stopped, accepted, after_ending, after_run, rewriting}
use Rattle.theory.specs.Cases.{by_if, on_if, if_true, if_false, and_right}
use Rattle.theory.specs.Checked.{accepts_only}

-- the run of a call, without a limit
abbrev pub run_of : Options → Job → Run
run_of o j = run (rules_of o) o.rounds (program_of j)

-- its word limit
abbrev pub limit_of : Options → ℕ
limit_of o = o.max_packed_words

module _ (o : Options) (j : Job) (s : Lent) where
  -- 1 to 8: counters 0, nothing written
  pub refused_reply : (a : Answer) → checking o j s ≡ a → accepts a ≡ false → rewriting o j s ≡ refused a s
  unfolding rewriting when◌then◌else◌
  refused_reply a c n = rw (c, n) refl

  -- 10
  pub beyond_limit : checking o j s ≡ Accepted → limit_of o < (run_of o j).peak → rewriting o j s ≡ stopped ExpansionLimit s
  unfolding rewriting after_run when◌then◌else◌
  beyond_limit c h = rw (c, lt-ltb (limit_of o) (run_of o j).peak h) refl

  -- 0 and 9
  pub within_limit : checking o j s ≡ Accepted → (run_of o j).peak ≤ limit_of o
      → rewriting o j s ≡ after_ending (rules_of o) (program_of j) s (run_of o j).ending
  unfolding rewriting after_run when◌then◌else◌
  within_limit c h = rw (c, le-ltb (limit_of o) (run_of o j).peak h) refl

-- 9 and 10 answer themselves
pub stopped_answer : (a : Answer) (s : Lent) → (stopped a s).answer ≡ a
unfolding stopped
stopped_answer a s = refl

-- so do 1 to 8
pub refused_answer : (a : Answer) (s : Lent) → (refused a s).answer ≡ a
unfolding refused
refused_answer a s = refl

-- the end of a run answers 0 or 9
pub ending_answer : (r : Rules) (p : Program) (s : Lent) (e : Ending) → (after_ending r p s e).answer ≡ end_answer e
unfolding after_ending accepted
ending_answer r p s non_hermitian = stopped_answer NonHermitianAxis s
ending_answer r p s (finished f) = refl

module _ (o : Options) (j : Job) (s : Lent) where
  -- once Checking has passed, the answer is the run's at the limit
  pub run_answer : checking o j s ≡ Accepted → (rewriting o j s).answer ≡ answer_of (limit_of o) (run_of o j)
  unfolding rewriting after_run answer_of
  run_answer c =
      let m = ltb (limit_of o) (run_of o j).peak in
      ap (λ (x : Reply). x.answer) (if_true _ (refused (checking o j s) s) (ap accepts c))
      ∙ on_if (λ (x : Reply). x.answer ≡ (when m then ExpansionLimit else end_answer (run_of o j).ending)) m _ _
      (λ e. stopped_answer ExpansionLimit s ∙ sym (if_true _ _ e))
      (λ e. ending_answer (rules_of o) (program_of j) s (run_of o j).ending ∙ sym (if_false _ _ e))

  -- a call that Checking refuses answers what Checking answers
  pub refusal_answer : accepts (checking o j s) ≡ false → (rewriting o j s).answer ≡ checking o j s
  refusal_answer n = ap (λ (x : Reply). x.answer) (refused_reply o j s (checking o j s) refl n) ∙ refused_answer (checking o j s) s

-- ---- Checking answers 0 and its refusals only

-- a number is the records': 0, or 4 to 8
abbrev of_records : ℕ → Bool
of_records n = eqb n 0 || (leb 4 n && leb n 8)

abbrev Low : Answer → Type 0
Low a = of_records (number_of a) ≡ true

and_then_low : (a b : Answer) → Low a → Low b → Low (and_then a b)
unfolding and_then
and_then_low a b ha hb = by_if Low (accepts a) b a hb ha

node_low : (q i k : ℕ) (r : List ℕ) → Low (check_node_of_kind q i k r)
unfolding check_node_of_kind
node_low q i zero r = refl
node_low q zero (suc zero) r = refl
node_low q zero (suc (suc k)) r = refl
node_low q (suc i) (suc zero) r = by_if Low _ BadNode _ refl (by_if Low _ BadQubit Accepted refl refl)
node_low q (suc i) (suc (suc zero)) r = by_if Low _ BadNode Accepted refl refl
node_low q (suc i) (suc (suc (suc k))) r = refl

nodes_low : (q i : ℕ) (rs : List (List ℕ)) → Low (check_nodes q i rs)
unfolding check_nodes check_node
nodes_low q i [] = refl
nodes_low q i (r ∷ rs) = and_then_low _ _ (node_low q i (field_of r 0) r) (nodes_low q (suc i) rs)

operation_low : (n : ℕ) (seen r : List ℕ) → Low (check_operation n seen r)
unfolding check_operation
operation_low n seen r =
    by_if Low _ BadOperation _ refl
    (by_if Low _ BadReference _ refl (by_if Low _ BadOutcome Accepted refl refl))

operations_low : (n : ℕ) (seen : List ℕ) (rs : List (List ℕ)) → Low (check_operations n seen rs)
unfolding check_operations
operations_low n seen [] = refl
operations_low n seen (r ∷ rs) = and_then_low _ _ (operation_low n seen r) (operations_low n (measured seen r) rs)

rows_low : (n i : ℕ) (rs : List (List ℕ)) → Low (check_rows n i rs)
unfolding check_rows check_row
rows_low n i [] = refl
rows_low n i (r ∷ rs) = and_then_low _ _ (by_if Low _ BadReference Accepted refl refl) (rows_low n (suc i) rs)

program_records : (j : Job) → Low (check_program j)
unfolding check_program
program_records j = and_then_low _ _ (nodes_low _ 0 _) (and_then_low _ _ (operations_low _ [] _) (rows_low _ 0 _))

pub program_low : (j : Job) → number_of (check_program j) ≤ 8
program_low j = go (eqb (number_of (check_program j)) 0) refl (program_records j)
  where
    go : (b : Bool) → eqb (number_of (check_program j)) 0 ≡ b → b || (leb 4 (number_of (check_program j)) && leb (number_of (check_program j)) 8) ≡ true
        → number_of (check_program j) ≤ 8
    go true e h = omega (arith, eqb-true (number_of (check_program j)) 0 e)
    go false e h = leb-true (number_of (check_program j)) 8 (and_right (leb 4 (number_of (check_program j))) _ h)

-- no record is refused by 3
pub records_not_3 : (setting : Lazy) (j : Job) → number_of (check_records setting j) ≡ 3 → ⊥
unfolding check_records and_then check_place
records_not_3 setting j =
    by_if Not3 (accepts (check_program j)) (check_place setting (operation_records j)) (check_program j) (place setting)
    (λ e. true≢false (sym (program_records j) ∙ ap of_records e))
  where
    Not3 : Answer → Type 0
    Not3 a = number_of a ≡ 3 → ⊥

    place : (x : Lazy) → Not3 (check_place x (operation_records j))
    place Off = λ e. omega arith
    place On = λ e. omega arith
    place (From n) = by_if Not3 _ BadPlace Accepted (λ e. omega arith) (λ e. omega arith)

abbrev pub Checks : Answer → Type 0
Checks a = accepts a || of_checking (number_of a) ≡ true

-- 0 to 8 are Checking's
pub low_checks : (a : Answer) → number_of a ≤ 8 → Checks a
low_checks a h = go (number_of a) h
  where
    go : (n : ℕ) → n ≤ 8 → eqb n 0 || of_checking n ≡ true
    go zero k = refl
    go (suc n) k = rw (ne_eqb (suc n) 0 (λ e. omega arith), le-leb 1 (suc n) (omega arith), le-leb (suc n) 8 k) refl

place_checks : (setting : Lazy) (rs : List (List ℕ)) → Checks (check_place setting rs)
unfolding check_place
place_checks Off rs = refl
place_checks On rs = refl
place_checks (From n) rs = by_if Checks _ BadPlace Accepted refl refl

records_checks : (setting : Lazy) (j : Job) → Checks (check_records setting j)
unfolding check_records and_then
records_checks setting j = by_if Checks _ _ (check_program j) (place_checks setting _) (low_checks (check_program j) (program_low j))

pub checking_checks : (o : Options) (j : Job) (s : Lent) → Checks (checking o j s)
unfolding checking
checking_checks o j s =
    by_if Checks _ CountOutside _ refl
    (by_if Checks _ OptionOutside _ refl (by_if Checks _ SliceShort _ refl (records_checks o.lazy_cliffords j)))

-- where Checking's refusals are the call's, a call that does not answer by one of them has passed
pub passes_checks : (a b : Answer) → Checks a → (accepts a ≡ false → b ≡ a) → of_checking (number_of b) ≡ false → accepts a ≡ true
passes_checks a b h refusal n = go (accepts a) refl
  where
    go : (t : Bool) → accepts a ≡ t → accepts a ≡ true
    go true e = e
    go false e =
        absurd (true≢false
        (sym h ∙ ap₂ (λ (x y : Bool). x || y) e (ap (λ (x : Answer). of_checking (number_of x)) (sym (refusal e)) ∙ n)))

pub ran : (o : Options) (j : Job) (s : Lent) (a : Answer) → (rewriting o j s).answer ≡ a → of_checking (number_of a) ≡ false
    → checking o j s ≡ Accepted
ran o j s a e n =
    accepts_only (checking o j s)
    (passes_checks (checking o j s) a (checking_checks o j s) (λ f. sym e ∙ refusal_answer o j s f) n)

-- "After any refusal counters are 0."
pub refused_counters : (o : Options) (j : Job) (s : Lent) (e : Refusal) → (rewriting o j s).answer ≡ Err e → (rewriting o j s).counters ≡ no_counters
unfolding rewriting after_run after_ending accepted stopped refused
refused_counters o j s =
    by_if Counted _ (after_run (rules_of o) (program_of j) s (limit_of o) (run_of o j)) (refused (checking o j s) s)
    (by_if Counted _ (stopped ExpansionLimit s) (after_ending (rules_of o) (program_of j) s (run_of o j).ending) (λ e h. refl)
    (ending (run_of o j).ending)) (λ e h. refl)
  where
    Counted : Reply → Type 0
    Counted x = (e : Refusal) → x.answer ≡ Err e → x.counters ≡ no_counters

    ending : (x : Ending) → Counted (after_ending (rules_of o) (program_of j) s x)
    ending non_hermitian = λ e h. refl
    ending (finished f) = λ e h. cc
