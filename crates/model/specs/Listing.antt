-- 01, "Listing" and "Listing program": text to job, run to text. A text is a list of bytes. Assumes nothing.
use Rattle.std.specs.Prelude.{Bool, not, ◌&&◌, ◌||◌, ℕ, zero, suc, ◌+◌, ◌-◌, ◌*◌, ◌/◌, ◌%◌, eqb, ltb, leb, length, take, drop, replicate}
use Rattle.std.proofs.Math.Option
use Rattle.std.proofs.Math.Option.{Option, none, some, bind}
use mathlib.Core.List.{List, [], ◌∷◌, ◌++◌, map, flatten}
use Rattle.pauli.specs.Word.{width}
use Rattle.pauli.specs.Letter.{letter_at}
use Rattle.model.specs.declared.Options.{Options}
use Rattle.model.specs.Answers.{Answer, CountOutside, OptionOutside, NonHermitianAxis, ExpansionLimit, BadText}
use Rattle.model.specs.declared.Counters.{Counters}
use Rattle.model.specs.Lists.{when◌then◌else◌, any_of, is_empty}
use Rattle.model.specs.Interface.{number_of, accepts, defaults_at}
use Rattle.model.specs.Program.{field_of, largest_outcome, no_outcome, minus_one, Job, Program, program_of}
use Rattle.model.specs.Rules.{Rules, rules_of}
use Rattle.model.specs.Words.{support}
use Rattle.model.specs.Rounds.{Work}
use Rattle.model.specs.Run.{Ending, non_hermitian, finished, Run, run, under_limit}
use Rattle.model.specs.Results.{operation_results, row_results, counters_of}
use Rattle.model.specs.Checking.{bad_count, bad_option, check_program}

-- "8 columns": how wide a field is, read and printed, and how many digits it has at most; the code's is `model::COLUMNS`
abbrev pub columns : ℕ
columns = 8

-- ---- reading

-- "each line ends in one newline"
unfoldable pub lines_from : List (List ℕ) → List ℕ → List ℕ → Option (List (List ℕ))
lines_from done line [] = when is_empty line then some done else none
lines_from done line (b ∷ rest) = lines_from (when eqb b 10 then done ++ (line ∷ []) else done) (when eqb b 10 then [] else line ++ (b ∷ [])) rest

unfoldable pub digits_from : ℕ → List ℕ → Option ℕ
digits_from n [] = some n
digits_from n (b ∷ rest) = when leb 48 b && leb b 57 then digits_from (10 * n + (b - 48)) rest else none

-- "digits without leading zeros, or -1": -1 is read as 4,294,967,295, which the digits of 8 columns do not reach
unfoldable pub numeral : List ℕ → Option ℕ
numeral [] = none
numeral (b ∷ []) = digits_from 0 (b ∷ [])
numeral (b ∷ c ∷ rest) =
    when eqb b 48 then none else
    when eqb b 45 && eqb c 49 && is_empty rest then some minus_one else digits_from 0 (b ∷ c ∷ rest)

-- "right-justified with blanks"
unfoldable pub unpadded : List ℕ → List ℕ
unpadded [] = []
unpadded (b ∷ rest) = when eqb b 32 then unpadded rest else b ∷ rest

-- n fields, each of `columns` bytes
unfoldable pub fields_from : ℕ → List ℕ → Option (List ℕ)
fields_from zero line = when is_empty line then some [] else none
fields_from (suc n) line =
    when ltb (length line) columns then none else
    bind (numeral (unpadded (take columns line))) (λ v. Option.map (λ vs. v ∷ vs) (fields_from n (drop columns line)))

-- lines of n fields each, as one slice; `fits` is what else a line must be
unfoldable pub slice_of : ℕ → (List ℕ → Option (List ℕ)) → List (List ℕ) → Option (List ℕ)
slice_of n fits [] = some []
slice_of n fits (line ∷ rest) = bind (bind (fields_from n line) fits) (λ r. Option.map (λ rs. r ++ rs) (slice_of n fits rest))

-- "-1 stands elsewhere than in a plain rotation's outcome or any target"
unfoldable pub plain_line : List ℕ → Option (List ℕ)
plain_line r = when any_of (eqb minus_one) r then none else some r

abbrev pub to16 : ℕ → ℕ
to16 v = when eqb v minus_one then no_outcome else v

abbrev pub fits16 : ℕ → Bool
fits16 v = eqb v minus_one || leb v largest_outcome

-- "an outcome or target is above 65,534"
unfoldable pub operation_line : List ℕ → Option (List ℕ)
operation_line r =
    when any_of (eqb minus_one) (take 4 r) || not (fits16 (field_of r 4)) || not (fits16 (field_of r 5))
    || (eqb (field_of r 4) minus_one && not (eqb (field_of r 0) 1)) then none
    else some (take 4 r ++ (to16 (field_of r 4) ∷ to16 (field_of r 5) ∷ []))

-- a text that 11 does not refuse
pub record Read : Type 0 where
  pub job : Job
  pub limit : ℕ

-- "there are more than 64 qubits, 128 nodes or 128 operations, the limit is above 256": a -1 is above them all
abbrev pub too_large : List ℕ → Bool
too_large h = ltb 64 (field_of h 0) || ltb 128 (field_of h 1) || ltb 128 (field_of h 2) || ltb 256 (field_of h 3)

-- ", or lines are missing or left over"
unfoldable pub too_much : List ℕ → List (List ℕ) → Bool
too_much h lines = too_large h || not (eqb (length lines) (field_of h 1 + field_of h 2 + 2 * field_of h 0))

abbrev pub read_of : List ℕ → List ℕ → List ℕ → List ℕ → Read
read_of h nodes operations rows = record {
  job = record {
    counts = record { qubits = field_of h 0; nodes = field_of h 1; operations = field_of h 2 };
    nodes = nodes;
    operations = operations;
    rows = rows;
  };
  limit = field_of h 3;
}

-- "Input: qubits, nodes, operations, limit", which is h; then the lines of nodes, operations and rows
unfoldable pub read_body : List (List ℕ) → List ℕ → Option Read
read_body lines h =
    let nodes = slice_of 5 plain_line (take (field_of h 1) lines) in
    let operations = slice_of 6 operation_line (take (field_of h 2) (drop (field_of h 1) lines)) in
    let rows = slice_of 4 plain_line (drop (field_of h 1 + field_of h 2) lines) in
    let body = bind nodes (λ ns. bind operations (λ os. Option.map (read_of h ns os) rows)) in
    when too_much h lines then none else body

unfoldable pub read_lines : List (List ℕ) → Option Read
read_lines [] = none
read_lines (h ∷ lines) = bind (fields_from 4 h) (read_body lines)

unfoldable pub read : List ℕ → Option Read
read text = bind (lines_from [] [] text) read_lines

-- ---- writing

unfoldable pub decimal : ℕ → ℕ → List ℕ → List ℕ
decimal zero n after = after
decimal (suc k) n after =
    let more = decimal k (n / 10) ((48 + n % 10) ∷ after) in
    when eqb (n / 10) 0 then (48 + n % 10) ∷ after else more

-- "Fields are decimal, right-justified with blanks"
unfoldable pub column : ℕ → List ℕ
column n =
    let d = (when eqb n minus_one then 45 ∷ 49 ∷ [] else decimal columns n []) in
    replicate (columns - length d) 32 ++ d

unfoldable pub line_of : List ℕ → List ℕ
line_of ns = flatten (map column ns) ++ (10 ∷ [])

unfoldable pub text_of : List (List ℕ) → List ℕ
text_of lines = flatten (map line_of lines)

-- 65,535 is printed as -1 in an outcome or target
abbrev pub from16 : ℕ → ℕ
from16 v = when eqb v no_outcome then minus_one else v

unfoldable pub result_line : List ℕ → List ℕ
result_line r = take 4 r ++ (from16 (field_of r 4) ∷ from16 (field_of r 5) ∷ [])

-- "letters other than I by rising id, then qubit (id, qubit, letter)"
unfoldable pub letter_lines : ℕ → ℕ → List (List ℕ) → List (List ℕ)
letter_lines l id [] = []
letter_lines l id (w ∷ rest) = map (λ q. id ∷ q ∷ letter_at l w q ∷ []) (support l w) ++ letter_lines l (suc id) rest

-- "A refusal prints its number and seven zeros.", M-103's field being one more
unfoldable pub refusal_lines : Answer → List (List ℕ)
refusal_lines a = (number_of a ∷ 0 ∷ 0 ∷ 0 ∷ 0 ∷ 0 ∷ 0 ∷ 0 ∷ 0 ∷ []) ∷ []

-- "answer, T before, T after, merges, swaps, absorbed, operations, axes", and M-103's "ninth field"
unfoldable pub first_line : Counters → Work → List ℕ
first_line c w =
    0 ∷ c.t_before ∷ c.t_after ∷ c.merges ∷ c.swaps ∷ c.cliffords_to_frame ∷ length w.items ∷ length w.store.axes
    ∷ c.packed_words ∷ []

-- behind the first line those of operations, rows and letters
unfoldable pub end_lines : Rules → Program → Ending → List (List ℕ)
end_lines r p non_hermitian = refusal_lines NonHermitianAxis
end_lines r p (finished f) =
    first_line (counters_of r p f) f.end
    ∷ (map result_line (operation_results p f.end) ++ (row_results p f.end ++ letter_lines (width p.qubits) 0 f.end.store.axes))

unfoldable pub run_lines : Rules → Program → ℕ → Run → List (List ℕ)
run_lines r p limit whole = under_limit limit whole (refusal_lines ExpansionLimit) (end_lines r p)

-- "then as rewriting": the program's own stores are long enough, so 3 does not come up
unfoldable pub listing_checks : Options → Job → Answer
listing_checks o j =
    when bad_count j.counts then CountOutside else
    when bad_option o then OptionOutside else check_program j

unfoldable pub job_lines : Read → List (List ℕ)
job_lines t =
    let o = defaults_at t.limit in
    let p = program_of t.job in
    let next = run_lines (rules_of o) p t.limit (run (rules_of o) o.rounds p) in
    let a = listing_checks o t.job in
    when accepts a then next else refusal_lines a

-- "11 a line has the wrong length, .."
unfoldable pub lines_of : Option Read → List (List ℕ)
lines_of none = refusal_lines BadText
lines_of (some t) = job_lines t

unfoldable pub listing : List ℕ → List ℕ
listing text = text_of (lines_of (read text))
