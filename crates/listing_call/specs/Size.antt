-- The largest listing. Assumes nothing.
use Rattle.std.specs.Prelude.{◌≡◌, Bool, true, false, ℕ, suc, ◌+◌, ◌*◌, ◌/◌, ◌≤◌, ltb, length}
use Rattle.std.proofs.Math.Path.{refl}
use Rattle.std.proofs.Common.{sym, ap, ◌∙◌, subst, true≢false, zero-mul, suc-mul, length-append, length-take}
use Rattle.std.proofs.Math.Option.{Option, none, some}
use mathlib.Core.List.{List, [], ◌∷◌, ◌++◌, map, flatten}
use native.Mathlib.Omega.{arith}
use Rattle.std.proofs.Math.ListN.{length-map}
use Rattle.pauli.specs.Word.{width}
use Rattle.pauli.specs.Letter.{letter_at}
use Rattle.model.specs.Answers.{Answer, Accepted, ExpansionLimit}
use Rattle.model.specs.Interface.{accepts}
use Rattle.model.specs.Program.{operation_of, row_of, Program, program_of}
use Rattle.model.specs.Rules.{Rules, rules_of}
use Rattle.model.specs.Words.{support}
use Rattle.model.specs.Rounds.{Work}
use Rattle.model.specs.Run.{Ending, non_hermitian, finished, Run, end_answer, answer_of}
use Rattle.model.specs.Results.{item_record, operation_results, row_results}
use Rattle.model.specs.Listing.{line_of, text_of, result_line, letter_lines, refusal_lines, first_line, end_lines, run_lines, Read, read, job_lines}
use Rattle.model.specs.Listing.{lines_of, listing}
use Rattle.theory.specs.Cases.{on_if, if_true, if_false}
use Rattle.theory.specs.Checked.{accepts_only, records_length}
use Rattle.theory.specs.AcceptedRun.{accepted_peak, hermitian_peak}
use Rattle.theory.specs.ListingCalls.{options_of, listed_run, checks_of, listing_answer, listed_passed, listed_fine, listed_hermitian}
use Rattle.words_wellformed.specs.SupportQubits.{Rising, support_rising}
use Rattle.run_wellformed.specs.Memory.{axes_within, width_positive}
use Rattle.run_wellformed.specs.RunWellFormed.{end_formed, row_results_length}
use Rattle.run_wellformed.specs.Lengths.{row_records_fit}
use Rattle.result_effect.specs.Listing.{listed_end, listed_first, listed_lines}
use Rattle.listing_columns.specs.Columns.{line_bytes, line_length, text_append, text_size}
use Rattle.listing_call.specs.Call.{most_bytes}
use Rattle.listing_call.specs.Reads.{SmallText, read_small}

-- ---- operations

-- lines of at most k fields
fields_most : (k : ℕ) {A : Type 0} (f : A → List ℕ) → ((x : A) → length (f x) ≤ k) → (xs : List A)
    → length (flatten (map f xs)) ≤ length xs * k
unfolding flatten
fields_most k f h [] = omega (arith, zero-mul k)
fields_most k f h (x ∷ xs) = omega (arith, h x, fields_most k f h xs, length-append (f x) (flatten (map f xs)), suc-mul (length xs) k)

result_short : (r : List ℕ) → length (result_line r) ≤ 6
unfolding result_line
result_short r = simp (length-append, length-take) (omega arith)

operations_size : (rs : List (List ℕ)) → length (text_of (map result_line rs)) ≤ line_bytes 6 * length rs
operations_size rs =
    omega (arith, text_size (map result_line rs), fields_most 6 result_line result_short rs, length-map rs result_line)

-- ---- letters

rising_length : (lo hi : ℕ) (qs : List ℕ) → Rising lo hi qs → lo + length qs ≤ hi
rising_length lo hi [] h = omega arith
rising_length lo hi (q ∷ qs) h = omega (arith, h.0, rising_length (suc q) hi qs h.1)

support_few : (l : ℕ) (w : List ℕ) → length (support l w) ≤ 64 * l
support_few l w = omega (arith, rising_length 0 (64 * l) (support l w) (support_rising l w))

axis_size : (f : ℕ → List ℕ) → ((q : ℕ) → length (f q) ≤ 3) → (qs : List ℕ) → length (text_of (map f qs)) ≤ line_bytes 3 * length qs
axis_size f h qs = omega (arith, text_size (map f qs), fields_most 3 f h qs, length-map qs f)

-- axes of one word each plane: 64 lines at most
letters_size : (l : ℕ) → l ≡ 1 → (id : ℕ) (ws : List (List ℕ)) → length (text_of (letter_lines l id ws)) ≤ 64 * line_bytes 3 * length ws
unfolding letter_lines
letters_size l e id [] = unfold text_of flatten in (omega arith)
letters_size l e id (w ∷ ws) =
    let s = support_few l w in
    let a = axis_size (λ q. id ∷ q ∷ letter_at l w q ∷ []) (λ q. omega arith) (support l w) in
    let b = letters_size l e (suc id) ws in
    let c = ap length (text_append (map (λ q. id ∷ q ∷ letter_at l w q ∷ []) (support l w)) (letter_lines l (suc id) ws)) in
    let d = length-append (text_of (map (λ q. id ∷ q ∷ letter_at l w q ∷ []) (support l w))) (text_of (letter_lines l (suc id) ws)) in
    omega arith

-- ---- a result

four_parts : (x : List ℕ) (o f l : List (List ℕ)) → length x ≡ 9
    → length (text_of (x ∷ (o ++ (f ++ l)))) ≡ line_bytes 9 + (length (text_of o) + (length (text_of f) + length (text_of l)))
unfolding text_of flatten
four_parts x o f l e =
    let a = length-append (line_of x) (text_of (o ++ (f ++ l))) in
    let b = ap length (text_append o (f ++ l)) in
    let c = length-append (text_of o) (text_of (f ++ l)) in
    let d = ap length (text_append f l) in
    let g = length-append (text_of f) (text_of l) in
    omega (arith, line_length x)

width_one : (q : ℕ) → q ≤ 64 → width q ≡ 1
unfolding width
width_one q h = omega arith

module _ (t : Read) (small : SmallText t) (yes' : listing_answer (some t) ≡ Accepted) where
  abbrev p : Program
  p = program_of t.job

  abbrev e : Work
  e = listed_end t yes'

  -- what was handed in
  pub few_handed : length (program_of t.job).operations ≤ 128
  unfolding program_of
  few_handed = omega (arith, records_length operation_of 6 t.job.counts.operations t.job.operations, small.operations)

  pub few_rows : length (program_of t.job).rows ≤ 128
  unfolding program_of
  few_rows = omega (arith, records_length row_of 4 (2 * t.job.counts.qubits) t.job.rows, small.qubits)

  -- what came out
  pub few_items : length (listed_end t yes').items ≤ 128
  few_items = omega (arith, (end_formed p (listed_fine t yes') (rules_of (options_of t)) 8).short, few_handed)

  few_operations : length (operation_results p e) ≤ 128
  unfolding operation_results
  few_operations = omega (arith, length-map e.items (item_record p.operations), few_items)

  rows_size : length (text_of (row_results p e)) ≤ line_bytes 4 * 128
  rows_size = omega (arith, text_size (row_results p e), row_records_fit p e, row_results_length p e, few_rows)

  -- its largest sum
  pub within_limit : (listed_end t yes').store.peak ≤ t.limit
  within_limit =
      subst (λ (k : ℕ). k ≤ t.limit) (hermitian_peak (rules_of (options_of t)) 8 p (listed_hermitian t yes'))
      (accepted_peak t.limit (rules_of (options_of t)) 8 p (listed_passed t yes').1)

  pub one_word : width (program_of t.job).qubits ≡ 1
  unfolding program_of
  one_word = width_one t.job.counts.qubits small.qubits

  pub few_axes : length (listed_end t yes').store.axes ≤ 128
  few_axes =
      let a = axes_within (width p.qubits) t.limit (width_positive p.qubits) e.store
      (end_formed p (listed_fine t yes') (rules_of (options_of t)) 8).fits within_limit in
      let b : length e.store.axes ≤ t.limit / 2 = subst (λ (l : ℕ). length e.store.axes ≤ t.limit / (2 * l)) one_word a in
      omega (arith, small.limit)

  result_size : length (text_of (job_lines t)) ≤ most_bytes
  result_size =
      let o = map result_line (operation_results p e) in
      let f = row_results p e in
      let l = letter_lines (width p.qubits) 0 e.store.axes in
      let all : length (text_of (job_lines t)) ≡ line_bytes 9 + (length (text_of o) + (length (text_of f) + length (text_of l))) =
      ap (λ (ls : List (List ℕ)). length (text_of ls)) (listed_lines t yes')
      ∙ four_parts (listed_first t yes') o f l (unfold first_line in refl) in
      omega (
        arith,
        operations_size (operation_results p e),
        few_operations,
        rows_size,
        letters_size (width p.qubits) one_word 0 e.store.axes,
        few_axes,
      )

-- ---- every listing

-- a refusal's line
pub refusal_size : (a : Answer) → length (text_of (refusal_lines a)) ≡ line_bytes 9
unfolding refusal_lines
refusal_size a = text_size _ ∙ unfold flatten in refl

run_refused : (r : Rules) (p : Program) (limit : ℕ) (w : Run) → accepts (answer_of limit w) ≡ false
    → run_lines r p limit w ≡ refusal_lines (answer_of limit w)
unfolding run_lines answer_of end_lines
run_refused r p limit w =
    on_if (λ (a : Answer). accepts a ≡ false → run_lines r p limit w ≡ refusal_lines a) (ltb limit w.peak) ExpansionLimit
    (end_answer w.ending)
    (λ e h. if_true _ _ e) (λ e h. if_false _ _ e ∙ end_refused w.ending h)
  where
    end_refused : (x : Ending) → accepts (end_answer x) ≡ false → end_lines r p x ≡ refusal_lines (end_answer x)
    end_refused non_hermitian h = refl
    end_refused (finished f) h = absurd (true≢false h)

-- a listing that does not answer 0 prints its number and eight zeros
pub lines_refused : (x : Option Read) → accepts (listing_answer x) ≡ false → lines_of x ≡ refusal_lines (listing_answer x)
unfolding lines_of listing_answer job_lines
lines_refused none h = refl
lines_refused (some t) k =
    on_if (λ (a : Answer). accepts a ≡ false → job_lines t ≡ refusal_lines a) (accepts (checks_of t)) (answer_of t.limit (listed_run t))
    (checks_of t)
    (λ e h. if_true _ _ e ∙ run_refused (rules_of (options_of t)) (program_of t.job) t.limit (listed_run t) h)
    (λ e h. if_false _ _ e) k

none_refused : (x : Option Read) → x ≡ none → accepts (listing_answer x) ≡ true → ⊥
unfolding listing_answer
none_refused x f e = true≢false (sym e ∙ ap (λ (z : Option Read). accepts (listing_answer z)) f)

pub lines_size : (x : Option Read) → ((t : Read) → x ≡ some t → SmallText t) → length (text_of (lines_of x)) ≤ most_bytes
lines_size x small = go (accepts (listing_answer x)) refl x refl
  where
    go : (b : Bool) → accepts (listing_answer x) ≡ b → (y : Option Read) → x ≡ y → length (text_of (lines_of x)) ≤ most_bytes
    go false e y f = omega (arith, ap (λ (ls : List (List ℕ)). length (text_of ls)) (lines_refused x e), refusal_size (listing_answer x))
    go true e none f = absurd (none_refused x f e)
    go true e (some t) f =
        subst (λ (z : Option Read). length (text_of (lines_of z)) ≤ most_bytes) (sym f)
        (unfold lines_of in (result_size t (small t f)
        (accepts_only (listing_answer (some t)) (ap (λ z. accepts (listing_answer z)) (sym f) ∙ e))))

-- no listing has more bytes
pub listing_size : (text : List ℕ) → length (listing text) ≤ most_bytes
unfolding listing
listing_size text = lines_size (read text) (λ t e. read_small text t e)
