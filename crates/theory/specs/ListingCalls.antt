-- Demand 3 about calls of Listing: "A Listing's results and counters are what it prints." Assumes nothing.
use Rattle.std.specs.Prelude.{◌≡◌, ◌⊎◌, Bool, false, ◌||◌, List, [], ◌∷◌, ℕ, ◌+◌, ◌≤◌, drop}
use Rattle.std.proofs.Math.Path.{refl, sym, ap}
use Rattle.std.proofs.Common.{ap₂, ◌∙◌, inl, inr, le_trans, arith}
use Rattle.std.proofs.Math.Bool.{true}
use Rattle.std.proofs.Math.Option.{Option, none, some}
use Rattle.std.proofs.Math.Dec.{ltb}
use borrow.Author.Tests.{ltb-false, le-ltb}
use Rattle.model.specs.declared.Options.{Options}
use Rattle.model.specs.declared.Counts.{Counts}
use Rattle.model.specs.Answers.{Answer, Accepted, CountOutside, OptionOutside, NonHermitianAxis, ExpansionLimit, BadText}
use Rattle.model.specs.declared.Counters.{Counters}
use Rattle.model.specs.Lists.{when◌then◌else◌}
use Rattle.model.specs.Interface.{number_of, accepts, of_checking, defaults_at}
use Rattle.model.specs.Program.{field_of, Program, program_of}
use Rattle.model.specs.Rules.{Rules, absorption_of, rules_of}
use Rattle.model.specs.Packing.{packed}
use Rattle.model.specs.Rounds.{Work}
use Rattle.model.specs.Run.{Ending, non_hermitian, finished, Run, end_of, end_answer, answer_of}
use Rattle.model.specs.Results.{counters_of}
use Rattle.model.specs.Checking.{bad_count, bad_option, check_program}
use Rattle.model.specs.Listing.{lines_from, fields_from, slice_of, plain_line, Read, too_large, too_much, read_of, read_body, read_lines, read}
use Rattle.model.specs.Listing.{text_of, refusal_lines, first_line, end_lines, run_lines, listing_checks, job_lines, lines_of, listing}
use Rattle.theory.specs.Cases.{by_if, on_if, if_true, if_false, neither, none_some, bind_some, map_some}
use Rattle.theory.specs.Checked.{accepts_only, not_refused, Fine, program_fine}
use Rattle.theory.specs.Alike.{Alike, alike_program, alike_checked}
use Rattle.theory.specs.Replies.{run_of, program_low, low_checks, passes_checks}
use Rattle.theory.specs.Limit.{within, within_answer}
use Rattle.theory.specs.AcceptedRun.{finish_of, accepted_peak, accepted_roots, accepted_ending, counters_source}

-- ---- what a listing answers

-- a text's options: Rust's defaults at its limit
abbrev pub options_of : Read → Options
options_of t = defaults_at t.limit

-- its run, without a limit
abbrev pub listed_run : Read → Run
listed_run t = run_of (options_of t) t.job

-- what Checking says of it
abbrev pub checks_of : Read → Answer
checks_of t = listing_checks (options_of t) t.job

-- 11 for a text that cannot be read, then as Rewriting
unfoldable pub listing_answer : Option Read → Answer
listing_answer none = BadText
listing_answer (some t) = when accepts (checks_of t) then answer_of t.limit (listed_run t) else checks_of t

-- ---- its number is printed first

-- lines that begin with an answer's number
pub record Begins (a : Answer) (lines : List (List ℕ)) : Type 0 where
  pub fields : List ℕ
  pub rest : List (List ℕ)
  pub printed : lines ≡ (number_of a ∷ fields) ∷ rest

refusal_begins : (a : Answer) → Begins a (refusal_lines a)
unfolding refusal_lines
refusal_begins a = record { fields = _; rest = _; printed = refl }

end_begins : (r : Rules) (p : Program) (e : Ending) → Begins (end_answer e) (end_lines r p e)
unfolding end_lines first_line
end_begins r p non_hermitian = refusal_begins NonHermitianAxis
end_begins r p (finished f) = record { fields = _; rest = _; printed = refl }

run_begins : (r : Rules) (p : Program) (limit : ℕ) (w : Run) → Begins (answer_of limit w) (run_lines r p limit w)
unfolding answer_of run_lines when◌then◌else◌
run_begins r p limit w = go (ltb limit w.peak) refl
  where
    go : (t : Bool) → ltb limit w.peak ≡ t → Begins (answer_of limit w) (run_lines r p limit w)
    go true e = rw e (refusal_begins ExpansionLimit)
    go false e = rw e (end_begins r p w.ending)

-- a listing's first field is its answer's number
pub answer_printed : (x : Option Read) → Begins (listing_answer x) (lines_of x)
unfolding listing_answer lines_of job_lines when◌then◌else◌
answer_printed none = refusal_begins BadText
answer_printed (some t) = go (accepts (checks_of t)) refl
  where
    go : (b : Bool) → accepts (checks_of t) ≡ b → Begins (listing_answer (some t)) (lines_of (some t))
    go true e = rw e (run_begins (rules_of (options_of t)) (program_of t.job) t.limit (listed_run t))
    go false e = rw e (refusal_begins (checks_of t))

-- ---- a text that can be read has a limit of at most 256

body_limit : (lines : List (List ℕ)) (h : List ℕ) (t : Read) → read_body lines h ≡ some t → t.limit ≤ 256
unfolding read_body
body_limit lines h t =
    on_if (λ (x : Option Read). x ≡ some t → t.limit ≤ 256) (too_much h lines) none _ (λ e f. absurd (none_some f))
    (λ e f.
    let a = bind_some _ _ t f in
    let b = bind_some _ _ t a.2 in
    let c = map_some (read_of h a.0 b.0) (slice_of 4 plain_line (drop (field_of h 1 + field_of h 2) lines)) t b.2 in
    let same : field_of h 3 ≡ t.limit = ap (λ (x : Read). x.limit) c.2 in
    let small = not_above h lines e in
    omega arith)
  where
    not_above : (h : List ℕ) (lines : List (List ℕ)) → too_much h lines ≡ false → field_of h 3 ≤ 256
    not_above h lines = unfold too_much in (λ e.
        let a = neither (too_large h) _ e in
        ltb-false 256 (field_of h 3) (neither (ltb 64 (field_of h 0) || ltb 128 (field_of h 1) || ltb 128 (field_of h 2)) _ a.0).1)

lines_limit : (lines : List (List ℕ)) (t : Read) → read_lines lines ≡ some t → t.limit ≤ 256
unfolding read_lines
lines_limit [] t e = absurd (none_some e)
lines_limit (h ∷ lines) t e = let a = bind_some (fields_from 4 h) (read_body lines) t e in body_limit lines a.0 t a.2

-- the limit of a text that can be read is at most 256
pub read_limit : (text : List ℕ) (t : Read) → read text ≡ some t → t.limit ≤ 256
unfolding read
read_limit text t e = let a = bind_some (lines_from [] [] text) read_lines t e in lines_limit a.0 t a.2

-- ---- two listings at two limits

-- Rust's defaults are in the domain, and so is a limit of at most 256
pub defaults_good : (limit : ℕ) → limit ≤ 256 → bad_option (defaults_at limit) ≡ false
unfolding bad_option
defaults_good limit h = le-ltb 1048576 limit (omega arith)

checks_are : (t : Read) → t.limit ≤ 256 → checks_of t ≡ (when bad_count t.job.counts then CountOutside else check_program t.job)
unfolding listing_checks when◌then◌else◌
checks_are t h = rw (defaults_good t.limit h) refl

checks_low : (t : Read) → number_of (checks_of t) ≤ 8
unfolding listing_checks
checks_low t =
    by_if (λ (a : Answer). number_of a ≤ 8) _ CountOutside _ (omega arith)
    (by_if (λ (a : Answer). number_of a ≤ 8) _ OptionOutside _ (omega arith) (program_low t.job))

-- an answer that is no refusal of Checking's is the run's
listing_ran : (t : Read) (a : Answer) → listing_answer (some t) ≡ a → of_checking (number_of a) ≡ false → accepts (checks_of t) ≡ true
unfolding listing_answer
listing_ran t a e = passes_checks (checks_of t) a (low_checks (checks_of t) (checks_low t)) (λ f. sym e ∙ if_false _ (checks_of t) f)

module _ (text text' : List ℕ) (t t' : Read) (reads : read text ≡ some t) (reads' : read text' ≡ some t')
    (alike : Alike t.job t'.job) where
  same_checks : checks_of t' ≡ checks_of t
  same_checks =
      checks_are t' (read_limit text' t' reads')
      ∙ ap₂ (λ (c : Counts) (a : Answer). when bad_count c then CountOutside else a) alike.counts (alike_checked t.job t'.job alike)
      ∙ sym (checks_are t (read_limit text t reads))

  same_rules : rules_of (options_of t') ≡ rules_of (options_of t)
  same_rules = unfold rules_of absorption_of in refl

  same_run : listed_run t' ≡ listed_run t
  same_run = rw (same_rules, alike_program t.job t'.job alike) refl

  same_lines : t.limit ≤ t'.limit → accepts (checks_of t) ≡ true → (listed_run t).peak ≤ t.limit → job_lines t' ≡ job_lines t
  unfolding job_lines run_lines when◌then◌else◌
  same_lines le a h =
      let b : accepts (checks_of t') ≡ true = ap accepts same_checks ∙ a in
      let h' : (listed_run t').peak ≤ t'.limit = rw same_run (le_trans h le) in
      rw (a, b, le-ltb t.limit (listed_run t).peak h, le-ltb t'.limit (listed_run t').peak h')
      (rw (same_run, same_rules, alike_program t.job t'.job alike) refl)

  not_ten : t.limit ≤ t'.limit → accepts (checks_of t) ≡ true → (listing_answer (some t) ≡ ExpansionLimit → ⊥)
      → listing text' ≡ listing text
  unfolding listing lines_of listing_answer
  not_ten le a n =
      let h = within t.limit (listed_run t) (λ e. n (if_true _ (checks_of t) a ∙ e)) in
      rw (reads, reads') (ap text_of (same_lines le a h))

  -- 01's demand 3: a listing that was accepted (0) or non-Hermitian (9) at one limit prints the same text at every larger limit
  pub same_text_at_larger_limit : t.limit ≤ t'.limit
      → (listing_answer (some t) ≡ Accepted) ⊎ (listing_answer (some t) ≡ NonHermitianAxis) → listing text' ≡ listing text
  same_text_at_larger_limit le (inl e) =
      not_ten le (listing_ran t Accepted e refl) (λ f. let z : ◌≡◌ {A = ℕ} 0 1 = cc in omega arith)
  same_text_at_larger_limit le (inr e) =
      not_ten le (listing_ran t NonHermitianAxis e refl) (λ f. let z : ◌≡◌ {A = ℕ} 0 1 = cc in omega arith)

  -- M-103: one that was accepted at one limit is accepted at every limit from its largest sum on
  pub accepted_from_peak_on : listing_answer (some t) ≡ Accepted → (listed_run t).peak ≤ t'.limit → listing_answer (some t') ≡ Accepted
  unfolding listing_answer
  accepted_from_peak_on e h =
      let ran = listing_ran t Accepted e refl in
      let ended = accepted_ending t.limit (rules_of (options_of t)) 8 (program_of t.job) (sym (if_true _ (checks_of t) ran) ∙ e) in
      if_true _ (checks_of t') (ap accepts same_checks ∙ ran) ∙ within_answer t'.limit (listed_run t') (rw same_run h)
      ∙ ap (λ (x : Run). end_answer x.ending) same_run ∙ ap end_answer ended

-- ---- an accepted listing

-- the run's counters stand in the first line, and their T after is at most their T before
pub record Listed (t : Read) (counters : Counters) (work : Work) : Type 0 where
  pub rest : List (List ℕ)
  pub printed : job_lines t ≡ first_line counters work ∷ rest
  pub no_more : counters.t_after ≤ counters.t_before

module _ (t : Read) (yes' : listing_answer (some t) ≡ Accepted) where
  abbrev r : Rules
  r = rules_of (options_of t)

  abbrev p : Program
  p = program_of t.job

  -- Checking's rules found nothing, and the run was accepted
  pub listed_passed : (checks_of t ≡ Accepted) × (answer_of t.limit (listed_run t) ≡ Accepted)
  unfolding listing_answer
  listed_passed =
      let ran = listing_ran t Accepted yes' refl in
      (accepts_only (checks_of t) ran, sym (if_true _ (checks_of t) ran) ∙ yes')

  -- so did those for its records
  pub listed_checks : check_program t.job ≡ Accepted
  unfolding listing_checks
  listed_checks =
      let a = not_refused (bad_count t.job.counts) CountOutside _ refl listed_passed.0 in
      (not_refused (bad_option (options_of t)) OptionOutside (check_program t.job) refl a.1).1

  -- what the theorems about runs ask for
  pub listed_fine : Fine (program_of t.job)
  listed_fine = program_fine t.job listed_checks

  -- no root was refused
  pub listed_hermitian : (packed (program_of t.job)).refused ≡ false
  listed_hermitian = accepted_roots t.limit r 8 p listed_passed.1

  -- the lines that it prints are those of its run's end
  pub listed_end_lem : job_lines t
      ≡ end_lines (rules_of (options_of t)) (program_of t.job) (finished (finish_of (rules_of (options_of t)) 8 (program_of t.job)))
  unfolding job_lines run_lines
  listed_end_lem =
      if_true _ (refusal_lines (checks_of t)) (ap accepts listed_passed.0)
      ∙ if_false _ _ (le-ltb t.limit (listed_run t).peak (accepted_peak t.limit r 8 p listed_passed.1))
      ∙ ap (end_lines r p) (accepted_ending t.limit r 8 p listed_passed.1)

  -- an accepted listing prints a T-count no higher than its source's
  pub no_more_listed : Listed t (counters_of r p (finish_of r 8 p)) (end_of r 8 p)
  unfolding end_lines
  no_more_listed = record {
    rest = _;
    printed = listed_end_lem;
    no_more = counters_source r p listed_fine listed_hermitian 8;
  }
