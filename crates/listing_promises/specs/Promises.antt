-- The three demands about Listing, as theorems about its calls. `ListingCalled text out s a size out' s'` (listing_call, Call): with this
-- text, the output slice out and the slices s lent the code answered a, printed the first `size` bytes of the output, and left the output
-- out' and the slices s'; this equation is in the contract of `listing::listing`, for all arguments. What is said of a result is read back
-- from the bytes printed (listing_columns, Back; Back here). Under each promise stand two wrong programs that it rules out. Assumes nothing.
use Rattle.std.specs.Prelude.{◌≡◌, refl, ◌⊎◌, ◌↔◌, Bool, true, false, ℕ, ◌-◌, ◌≤◌, ◌<◌, length, take, drop}
use Rattle.std.proofs.Math.Path.{sym, ap}
use Rattle.std.proofs.Common.{◌∙◌, subst, inl, inr, arith}
use Rattle.std.proofs.Math.Option.{Option, none, some}
use mathlib.Core.List.{List, map}
use Rattle.std.proofs.Math.Decide.{dec_lt}
use Rattle.groups.specs.Abelian.{pow2}
use Rattle.store.specs.Part.{put_length}
use Rattle.model.specs.Answers.{Answer, Accepted, SliceShort, BadText}
use Rattle.model.specs.declared.Counters.{Counters}
use Rattle.model.specs.Interface.{number_of, accepts}
use Rattle.model.specs.Program.{field_of, program_of}
use Rattle.model.specs.Rules.{rules_of}
use Rattle.model.specs.Results.{operation_results, row_results, result_t_count, counters_of}
use Rattle.model.specs.Checking.{Lent}
use Rattle.model.specs.Rewriting.{rewriting}
use Rattle.model.specs.Listing.{Read, read, text_of, result_line, refusal_lines, first_line, listing}
use Rattle.theory.specs.Checked.{accepts_only}
use Rattle.theory.specs.AcceptedRun.{finish_of, hermitian_peak}
use Rattle.theory.specs.ListingCalls.{options_of, listed_run, listing_answer, read_limit, same_text_at_larger_limit, accepted_from_peak_on}
use Rattle.theory.specs.ListingCalls.{listed_hermitian, no_more_listed}
use Rattle.run_wellformed.specs.Lengths.{SameLengths}
use Rattle.result_effect.specs.Listing.{operations_are, rows_are, listed_axes_lem}
use Rattle.run_effect.specs.RunEffect.{Effects, source_effect, result_effect}
use Rattle.run_effect.specs.Calls.{listing_keeps_effect}
use Rattle.promises.specs.Strategies.{end_work}
use Rattle.promises.specs.Calls.{of_low}
use Rattle.promises.specs.Promises as rewriting_promises
use Rattle.promises.specs.Promises.{Cleared, AcceptanceLeaves, t_count_handed}
use Rattle.listing_columns.specs.Back.{text_back, lines_back, first_back}
use Rattle.listing_columns.proofs.Texts.{text_back_lem, lines_back_lem}
use Rattle.listing_call.specs.Call.{ListingCalled, most_bytes, printed_text, no_room_reply, ListingReply}
use Rattle.listing_call.specs.Reads.{read_small}
use Rattle.listing_call.specs.Replies.{printed_size}
use Rattle.listing_call.specs.Rooms.{call_fits}
use Rattle.listing_call.specs.Size.{within_limit}
use Rattle.listing_promises.specs.Fields.{listed_t, refusal_in}
use Rattle.listing_promises.specs.Calls.{printed, CalledOn, without_room, room_of, unread_by, called_by, behind_by}
use Rattle.listing_promises.specs.Calls.{output_by, listing_taken, listing_answered}
use Rattle.listing_promises.specs.Alike.{AlikeTexts, alike_options, alike_back, ZeroOrNine, not_short}
use Rattle.listing_promises.specs.Back.{head_field, operations_printed, rows_printed, axes_printed, listed_accepted, lines_taken}
use Rattle.listing_promises.specs.Back.{refusal_taken, lines_by_taken}

-- ==== what the sentences speak of

-- t is what an accepted text says; bytes show what 01's rules give for it: the run's counters, and the work at its end
pub record Shows (t : Read) (bytes : List ℕ) : Type 0 where
  -- "answer, T before, T after, merges, swaps, absorbed, operations, axes", and M-103's "ninth field"
  pub first : first_back bytes
      ≡ first_line (counters_of (rules_of (options_of t)) (program_of t.job) (finish_of (rules_of (options_of t)) 8 (program_of t.job)))
      (end_work (options_of t) t.job)
  pub operations : operations_printed bytes ≡ map result_line (operation_results (program_of t.job) (end_work (options_of t) t.job))
  pub rows : rows_printed (program_of t.job).qubits bytes ≡ row_results (program_of t.job) (end_work (options_of t) t.job)
  pub axes : axes_printed (program_of t.job).qubits bytes ≡ (end_work (options_of t) t.job).store.axes

-- nothing was printed, and nothing is written into the output and the lent slices
pub record NothingWritten (out : List ℕ) (s : Lent) (size : ℕ) (out' : List ℕ) (s' : Lent) : Type 0 where
  pub no_text : size ≡ 0
  pub output : out' ≡ out
  pub slices : s' ≡ s

-- the text lies in the output, behind it the output is as it was, and every slice is as long as it was
pub record WrittenInside (out : List ℕ) (s : Lent) (size : ℕ) (out' : List ℕ) (s' : Lent) : Type 0 where
  pub within : size ≤ length out
  pub behind : drop size out' ≡ drop size out
  pub output : length out' ≡ length out
  pub slices : SameLengths s s'

-- ==== Demand 1. Memory: "Every call ends and does its own checking. For every input each lent slice holds just what document 01 says"

module _ {text out : List ℕ} {s : Lent} {a : Answer} {size : ℕ} {out' : List ℕ} {s' : Lent} (call : ListingCalled text out s a size out' s') where
  -- an output below the largest listing is refused by 3, before anything is written.
  -- Rules out: a listing that is cut at the output's end; a refusal's line written into an output that is short
  pub no_room : length out < most_bytes → (a ≡ SliceShort) × NothingWritten out s size out' s'
  no_room h =
      let e = without_room call h in
      unfold no_room_reply in (
        ap (λ (c : ListingReply). c.answer) e,
        record {
          no_text = ap (λ (c : ListingReply). c.size) e;
          output = ap (λ (c : ListingReply). c.output) e;
          slices = ap (λ (c : ListingReply). c.lent) e;
        },
      )

  -- every call is one of three: no room, a text that cannot be read, or a call of Rewriting
  by_cases : (P : Type 0) → (length out < most_bytes → P) → (most_bytes ≤ length out → read text ≡ none → P)
      → ((t : Read) → most_bytes ≤ length out → read text ≡ some t → P) → P
  by_cases P short unread as_read = room (dec_lt (length out) most_bytes)
    where
      go : most_bytes ≤ length out → (x : Option Read) → read text ≡ x → P
      go h none e = unread h e
      go h (some t) e = as_read t h e

      room : Dec (length out < most_bytes) → P
      room (yes h) = short h
      room (no h) = go (omega arith) (read text) refl

  -- a listing names no place
  as_rewriting : {t : Read} → CalledOn t s a s' → number_of a ≤ 10
  as_rewriting {t} c = go (rewriting_promises.answers_0_to_10_or_16 c)
    where
      go : (number_of a ≤ 10) ⊎ (number_of a ≡ 16) → number_of a ≤ 10
      go (inl h) = h
      go (inr h) = let e = ((rewriting_promises.refused_place c).0 h).named in let z : ◌≡◌ {A = ℕ} 0 1 = cc in absurd (omega arith)

  -- a call answers 0 to 11.
  -- Rules out: a number of its own for an output that is short; 12 for a text without lines
  pub answers_0_to_11 : number_of a ≤ 11
  answers_0_to_11 =
      by_cases (number_of a ≤ 11) (λ h. omega (arith, ap number_of (no_room h).0)) (λ h e. omega (arith, ap number_of (unread_by call h e).0))
      (λ t h e. omega (arith, as_rewriting (called_by call h t e)))

  -- 11 exactly where the text cannot be read: "a line has the wrong length, a field is no number, ..".
  -- Rules out: a field with leading zeros taken for a number; 1 for more than 64 qubits
  pub bad_text_where : (a ≡ BadText) ↔ ((most_bytes ≤ length out) × (read text ≡ none))
  bad_text_where = (there, λ h. (unread_by call h.0 h.1).0)
    where
      there : a ≡ BadText → (most_bytes ≤ length out) × (read text ≡ none)
      there f =
          by_cases _ (λ h. let e = (no_room h).0 in let z : ◌≡◌ {A = ℕ} 0 1 = cc in absurd (omega arith)) (λ h e. (h, e))
          (λ t h e. absurd (omega (arith, ap number_of f, as_rewriting (called_by call h t e))))

  -- so whatever is answered but 3 and 11, the text says a program: the promises below about accepted calls leave none out.
  -- Rules out: 0 for an empty text; 10 for a text of too many lines
  pub program_read : (a ≡ SliceShort → ⊥) → (a ≡ BadText → ⊥) → (t : Read) × (read text ≡ some t)
  program_read n m =
      by_cases _ (λ h. absurd (n (no_room h).0)) (λ h e. absurd (m (unread_by call h e).0)) (λ t h e. (t, e))

  -- "then as rewriting": what is read is handed to Rewriting with Rust's defaults, and its answer and slices are the call's. So all that
  -- `promises` says of a call of Rewriting holds of this one.
  -- Rules out: options other than Rust's defaults; refusal 10 before Checking's
  pub then_as_rewriting : (t : Read) → most_bytes ≤ length out → read text ≡ some t
      → CalledOn t s a s'
  then_as_rewriting t h e = called_by call h t e

  -- "refusals 1 to 8 leave all slices unchanged", and 11.
  -- Rules out: the number store cleared before the text is read; results left from a program that 4 refuses
  pub refusals_1_to_8_and_11 : 1 ≤ number_of a → (number_of a ≤ 8) ⊎ (number_of a ≡ 11) → s' ≡ s
  refusals_1_to_8_and_11 h k =
      by_cases (s' ≡ s) (λ r. (no_room r).1.slices) (λ r e. (unread_by call r e).1) (λ t r e. go (called_by call r t e) k)
    where
      go : {t : Read} → CalledOn t s a s' → (number_of a ≤ 8) ⊎ (number_of a ≡ 11) → s' ≡ s
      go c (inl l) = (rewriting_promises.refusals_1_to_8_and_16 c (of_low _ h l)).0
      go c (inr l) = absurd (omega (arith, as_rewriting c))

  -- "9 and 10 leave program and results unchanged and both work stores zero".
  -- Rules out: packed words left in the word store after 9; the text's records left in the number store
  pub refusals_9_and_10 : 9 ≤ number_of a → number_of a ≤ 10 → Cleared s s'
  refusals_9_and_10 h k =
      by_cases (Cleared s s') (λ r. absurd (omega (arith, ap number_of (no_room r).0)))
      (λ r e. absurd (omega (arith, ap number_of (unread_by call r e).0)))
      (λ t r e. (rewriting_promises.refusals_9_and_10 (called_by call r t e) h k).0)

  not_accepted : (a ≡ Accepted → ⊥) → (b : Bool) → accepts a ≡ b → accepts a ≡ false
  not_accepted n true e = absurd (n (accepts_only a e))
  not_accepted n false e = e

  -- nothing is written outside the text and the four slices.
  -- Rules out: a last line that runs over the output's end; the rest of the output filled with blanks
  pub written_inside : WrittenInside out s size out' s'
  written_inside =
      let within : size ≤ length out = rw (ap (λ (c : ListingReply). c.size) call.replied) (call_fits text out s) in
      by_cases (WrittenInside out s size out' s')
      (λ h.
      let n = (no_room h).1 in
      record { within = within; behind = ap (drop size) n.output; output = ap length n.output; slices = unmoved n.slices })
      (λ h e. record { within = within; behind = behind_by call h; output = long h; slices = unmoved (unread_by call h e).1 })
      (λ t h e. record {
        within = within;
        behind = behind_by call h;
        output = long h;
        slices = rewriting_promises.lengths_kept (called_by call h t e);
      })
    where
      unmoved : s' ≡ s → SameLengths s s'
      unmoved e = rw e (record { words = refl; numbers = refl; operations = refl; rows = refl })

      long : most_bytes ≤ length out → length out' ≡ length out
      long h =
          ap length (output_by call h)
          ∙ put_length out 0 (printed_text (read text) a) (omega (arith, printed_size (read text) a (λ t e. read_small text t e)))

  -- "A refusal prints its number and seven zeros", M-103's one more, where there is room for a listing: by 3 too.
  -- Rules out: nothing printed after 10; the counters of a run that was stopped
  pub refusal_printed : most_bytes ≤ length out → (a ≡ Accepted → ⊥) → printed size out' ≡ text_of (refusal_lines a)
  refusal_printed h n = refusal_taken call h (not_accepted n (accepts a) refl)

  -- M-103: the ninth field is "0 .. on refusal".
  -- Rules out: the sum that was refused told by 10; the sums of packing told by 9
  pub no_words_told : most_bytes ≤ length out → (a ≡ Accepted → ⊥) → head_field (printed size out') 8 ≡ 0
  no_words_told h n =
      rw (refusal_taken call h (not_accepted n (accepts a) refl), lines_back_lem (refusal_lines a) (refusal_in a answers_0_to_11))
      (unfold refusal_lines in refl)

-- "acceptance leaves results, axis words and zeros": the program is the text's, the options Rust's defaults.
-- Rules out: the text's own records left in the result slices; slots of packing left behind the axis words
pub acceptance : {text out : List ℕ} {s : Lent} {size : ℕ} {out' : List ℕ} {s' : Lent} → ListingCalled text out s Accepted size out' s'
    → (t : Read) → read text ≡ some t → AcceptanceLeaves (program_of t.job) (end_work (options_of t) t.job) s s'
acceptance call t e = rewriting_promises.acceptance (called_by call (room_of call (not_short (inl refl))) t e)

-- ==== Demand 2. Meaning: "Each pass gives exactly what 01's rules give, as an equation with a definition"

module _ {text out : List ℕ} {s : Lent} {a : Answer} {size : ℕ} {out' : List ℕ} {s' : Lent} (call : ListingCalled text out s a size out' s') where
  -- where 3 does not refuse, the bytes printed are 01's listing of the text, byte by byte.
  -- Rules out: one constant listing; a field that is left-justified
  pub prints_the_listing : (a ≡ SliceShort → ⊥) → printed size out' ≡ listing text
  prints_the_listing n = listing_taken call n

  -- and the answer is 01's.
  -- Rules out: 11 for all texts; 0 with a refusal's line
  pub answers_the_listing : (a ≡ SliceShort → ⊥) → a ≡ listing_answer (read text)
  answers_the_listing n = listing_answered call n

  -- whatever is printed is lines of columns, each a number that is not cut, or -1: it can be read back.
  -- Rules out: a number whose ninth digit is dropped; a last line without its newline
  pub readable : most_bytes ≤ length out → text_back (printed size out') ≡ some (lines_back (printed size out'))
  readable h =
      let l = lines_by_taken call h (answers_0_to_11 call) in
      rw l.text (text_back_lem l.lines l.inside ∙ ap some (sym (lines_back_lem l.lines l.inside)))

  -- its first field is the answer's number.
  -- Rules out: 0 printed before the run is stopped; 10 printed for answer 9
  pub answer_printed : most_bytes ≤ length out → head_field (printed size out') 0 ≡ number_of a
  answer_printed h =
      let l = lines_by_taken call h (answers_0_to_11 call) in
      rw (l.text, lines_back_lem l.lines l.inside) l.begins

module _ {text out : List ℕ} {s : Lent} {size : ℕ} {out' : List ℕ} {s' : Lent} (call : ListingCalled text out s Accepted size out' s')
    (t : Read) (reads : read text ≡ some t) where
  yes' : listing_answer (some t) ≡ Accepted
  yes' = listed_accepted call t reads

  -- the first line is that of its run's end
  first_listed : first_back (take size out')
      ≡ first_line (counters_of (rules_of (options_of t)) (program_of t.job) (finish_of (rules_of (options_of t)) 8 (program_of t.job)))
      (end_work (options_of t) t.job)
  first_listed = rw (lines_taken call t reads) refl

  -- and so are the operations' lines
  operations_listed : operations_printed (take size out') ≡ map result_line (operation_results (program_of t.job) (end_work (options_of t) t.job))
  operations_listed = rw (lines_taken call t reads) (operations_are t yes')

  -- "Each pass gives exactly what 01's rules give": the first line, operations, rows and axes read back from the bytes are those of 01's run,
  -- with Rust's defaults, at its end.
  -- Rules out: the program printed as it was read; merge counters made up
  pub results_printed : Shows t (printed size out')
  results_printed =
      let e = lines_taken call t reads in
      record {
        first = first_listed;
        operations = operations_listed;
        rows = rw e (rows_are t yes');
        axes = rw e (listed_axes_lem t yes');
      }

  -- "the rewritten program is proved to have its source's effect for every choice of outcomes and every product of frame rows": the operations,
  -- rows and axes read back from the bytes, against the program that the text says; "equal after factors 2 for the difference in operation
  -- count". ns are the places of the rows that are multiplied, in order.
  -- Rules out: a sign printed as 1 that is -1; letters X and Z exchanged in the last lines
  pub effect_kept : (outcomes : ℕ → Bool) (ns : List ℕ)
      → pow2 (Effects (program_of t.job)) (length (program_of t.job).operations - length (operations_printed (printed size out')))
      (result_effect (program_of t.job) (axes_printed (program_of t.job).qubits (printed size out')) (operations_printed (printed size out'))
      (rows_printed (program_of t.job).qubits (printed size out')) outcomes ns)
      ≡ source_effect (program_of t.job) outcomes ns
  effect_kept outcomes ns = rw (lines_taken call t reads) (listing_keeps_effect t yes' outcomes ns)

-- ==== Demand 3. Never worse: "A Listing's results and counters are what it prints"

module _ {text out : List ℕ} {s : Lent} {size : ℕ} {out' : List ℕ} {s' : Lent} (call : ListingCalled text out s Accepted size out' s')
    (t : Read) (reads : read text ≡ some t) where
  -- the first line tells both T-counts: that of the records handed in, and that of the operations printed.
  -- Rules out: T before taken after rotations dropped out; T after printed twice
  pub t_counts_told : (head_field (printed size out') 1 ≡ t_count_handed t.job)
      × (head_field (printed size out') 2 ≡ result_t_count (operations_printed (printed size out')))
  t_counts_told =
      let first = first_listed call t reads in
      let yes' = listed_accepted call t reads in
      let operations = operations_listed call t reads in
      unfold first_line counters_of in (
        ap (λ (f : List ℕ). field_of f 1) first,
        ap (λ (f : List ℕ). field_of f 2) first ∙ sym (ap result_t_count operations ∙ listed_t t (read_small text t reads) yes'),
      )

  -- "neither exceeds the source's": T after is no more than T before, both as they are printed.
  -- Rules out: an even rotation printed as two odd ones; both T-counts printed in the other's column
  pub never_above_source : head_field (printed size out') 2 ≤ head_field (printed size out') 1
  never_above_source =
      rw (first_listed call t reads) (unfold first_line in (no_more_listed t (listed_accepted call t reads)).no_more)

  -- the ninth field is the run's largest sum
  peak_listed : head_field (take size out') 8 ≡ (listed_run t).peak
  unfolding first_line counters_of
  peak_listed =
      ap (λ (f : List ℕ). field_of f 8) (first_listed call t reads)
      ∙ sym (hermitian_peak (rules_of (options_of t)) 8 (program_of t.job) (listed_hermitian t (listed_accepted call t reads)))

  -- which is within the text's limit
  peak_within : head_field (take size out') 8 ≤ t.limit
  unfolding first_line counters_of
  peak_within = rw (first_listed call t reads) (within_limit t (read_small text t reads) (listed_accepted call t reads))

  -- M-103: "the listing's first line gets it as a ninth field": the run's `packed_words`, the largest sum that 01's run tests without a limit.
  -- Rules out: the words of the axes that came out; the text's limit
  pub words_told : (head_field (printed size out') 8 ≡ (rewriting (options_of t) t.job s).counters.packed_words)
      × (head_field (printed size out') 8 ≡ (listed_run t).peak)
  unfolding first_line counters_of
  words_told =
      let called = called_by call (room_of call (not_short (inl refl))) t reads in
      let first = ap (λ (f : List ℕ). field_of f 8) (first_listed call t reads) in (
        first ∙ sym (ap (λ (c : Counters). c.packed_words) (rewriting_promises.counters_of_run called)),
        peak_listed,
      )

  -- and it is within the text's limit.
  -- Rules out: the work stores' length; the sums of several passes added up
  pub words_within : head_field (printed size out') 8 ≤ t.limit
  words_within = peak_within

-- "an accepted or non-Hermitian run gets the same answer at every larger limit", and prints the same: a text that is read has a limit of at
-- most 256, and 3 does not refuse the stores.
-- Rules out: 10 at a limit above one that was enough; the limit printed among the counters
pub larger_limit_same_answer : {text text' out₁ out₂ : List ℕ} {s₁ s₂ : Lent} {a a' : Answer} {size₁ size₂ : ℕ} {left₁ left₂ : List ℕ}
    {s₁' s₂' : Lent} {t t' : Read} → ListingCalled text out₁ s₁ a size₁ left₁ s₁'
    → ListingCalled text' out₂ s₂ a' size₂ left₂ s₂' → AlikeTexts text text' t t'
    → ZeroOrNine a → t.limit ≤ t'.limit → (a' ≡ SliceShort → ⊥)
    → (a' ≡ a) × (printed size₂ left₂ ≡ printed size₁ left₁)
larger_limit_same_answer {text} {text'} {t = t} {t' = t'} x y alike e h n = (
  (rewriting_promises.larger_limit_same_answer (called_by x (room_of x (not_short e)) t alike.reads)
      (called_by y (room_of y n) t' alike.reads') (alike_options alike) e h
      (omega (arith, read_limit text' t' alike.reads')) n).0,
  listing_taken y n
      ∙ same_text_at_larger_limit text text' t t' alike.reads alike.reads' alike.job h
      (subst ZeroOrNine (answers_the_listing x (not_short e) ∙ ap listing_answer alike.reads) e)
      ∙ sym (listing_taken x (not_short e)),
)

-- of two accepted texts alike but for the limit 01's listings are the same
same_listing : {text text' : List ℕ} {t t' : Read} → AlikeTexts text text' t t' → listing_answer (some t) ≡ Accepted
    → listing_answer (some t') ≡ Accepted → listing text' ≡ listing text
same_listing {text} {text'} {t} {t'} alike e e' = go (dec_lt t'.limit t.limit)
  where
    go : Dec (t'.limit < t.limit) → listing text' ≡ listing text
    go (yes h) = let b = alike_back alike in sym (same_text_at_larger_limit text' text t' t b.reads b.reads' b.job (omega arith) (inl e'))
    go (no h) = same_text_at_larger_limit text text' t t' alike.reads alike.reads' alike.job (omega arith) (inl e)

-- and so are the first `size` bytes of the outputs
same_bytes : {text text' out₁ out₂ : List ℕ} {s₁ s₂ : Lent} {size₁ size₂ : ℕ} {left₁ left₂ : List ℕ}
    {s₁' s₂' : Lent} {t t' : Read} → ListingCalled text out₁ s₁ Accepted size₁ left₁ s₁'
    → ListingCalled text' out₂ s₂ Accepted size₂ left₂ s₂' → AlikeTexts text text' t t'
    → take size₂ left₂ ≡ take size₁ left₁
same_bytes {t = t} {t' = t'} x y alike =
    listing_taken y (not_short (inl refl))
    ∙ same_listing alike (listed_accepted x t alike.reads) (listed_accepted y t' alike.reads')
    ∙ sym (listing_taken x (not_short (inl refl)))

-- "equal rounds give equal results and counters": two accepted listings alike but for the limit print the same bytes, whatever was lent.
-- Rules out: axes' ids that depend on the limit; a listing that shows what the output held before
pub equal_bytes : {text text' out₁ out₂ : List ℕ} {s₁ s₂ : Lent} {size₁ size₂ : ℕ} {left₁ left₂ : List ℕ}
    {s₁' s₂' : Lent} {t t' : Read} → ListingCalled text out₁ s₁ Accepted size₁ left₁ s₁'
    → ListingCalled text' out₂ s₂ Accepted size₂ left₂ s₂' → AlikeTexts text text' t t'
    → printed size₂ left₂ ≡ printed size₁ left₁
equal_bytes x y alike = same_bytes x y alike

-- M-103: "accepted exactly if the limit is no smaller than that sum": an accepted listing tells at which limits a text alike but for the limit
-- is accepted.
-- Rules out: the sum at the run's end told for the largest; a limit one above the sum asked for
pub accepted_from_words_on : {text text' out₁ out₂ : List ℕ} {s₁ s₂ : Lent} {a' : Answer} {size₁ size₂ : ℕ} {left₁ left₂ : List ℕ}
    {s₁' s₂' : Lent} {t t' : Read} → ListingCalled text out₁ s₁ Accepted size₁ left₁ s₁'
    → ListingCalled text' out₂ s₂ a' size₂ left₂ s₂' → AlikeTexts text text' t t' → (a' ≡ SliceShort → ⊥)
    → (a' ≡ Accepted) ↔ (head_field (printed size₁ left₁) 8 ≤ t'.limit)
accepted_from_words_on {text} {text'} {out₂ = out₂} {s₂ = s₂} {a' = a'} {size₁ = size₁} {size₂} {left₁} {left₂}
    {s₂' = s₂'} {t} {t'} x y alike n = (there, back)
  where
    there : a' ≡ Accepted → head_field (printed size₁ left₁) 8 ≤ t'.limit
    there e =
        let y' = subst (λ (b : Answer). ListingCalled text' out₂ s₂ b size₂ left₂ s₂') e y in
        omega (arith, peak_within y' t' alike.reads', ap (λ (b : List ℕ). head_field b 8) (same_bytes x y' alike))

    back : head_field (printed size₁ left₁) 8 ≤ t'.limit → a' ≡ Accepted
    back h =
        answers_the_listing y n ∙ ap listing_answer alike.reads'
        ∙ accepted_from_peak_on text text' t t' alike.reads alike.reads' alike.job (listed_accepted x t alike.reads)
        (omega (arith, peak_listed x t alike.reads))
