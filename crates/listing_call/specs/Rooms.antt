-- What printing an accepted call asks is granted: its records lie in the lent slices, and its text fits. Assumes nothing.
use Rattle.std.specs.Prelude.{◌≡◌, ℕ, ◌*◌, ◌≤◌, ltb}
use Rattle.std.proofs.Common.{sym, ap, ltb-false}
use Rattle.std.proofs.Math.Path.{subst}
use Rattle.std.proofs.Math.Option.{Option, some}
use mathlib.Core.List.{List}
use Rattle.std.proofs.Math.Nat.{le_trans}
use native.Mathlib.Omega.{arith}
use Rattle.std.proofs.Math.ListN.{length}
use Rattle.pauli.specs.Word.{width}
use Rattle.model.specs.Answers.{Answer, Accepted}
use Rattle.model.specs.Program.{operation_of, program_of}
use Rattle.model.specs.Rules.{rules_of}
use Rattle.model.specs.Run.{end_of}
use Rattle.model.specs.Checking.{Lent, words_asked}
use Rattle.model.specs.Rewriting.{rewriting}
use Rattle.model.specs.Listing.{Read, read, text_of}
use Rattle.theory.specs.Cases.{on_if}
use Rattle.theory.specs.Checked.{records_length, checked_fine}
use Rattle.theory.specs.AcceptedRun.{hermitian_peak}
use Rattle.theory.specs.TCountCalls.{accepted_checks, accepted_within, accepted_hermitian}
use Rattle.theory.specs.ListingCalls.{options_of}
use Rattle.run_wellformed.specs.RunWellFormed.{end_formed}
use Rattle.run_wellformed.specs.Lengths.{LongEnough, long_enough, operations_fit, same_lengths}
use Rattle.listing_print.specs.Results.{ResultPre}
use Rattle.listing_call.specs.Call.{most_bytes, reply_to, printed_text, ListingReply, printed_reply, no_room_reply, listing_call, ListingCalled}
use Rattle.listing_call.specs.Reads.{SmallText, read_small}
use Rattle.listing_call.specs.Replies.{operations_out, axes_out, accepted_lines, printed_size}

some_same : {t u : Read} → ◌≡◌ {A = Option Read} (some t) (some u) → t ≡ u
some_same e = cc

module _ (t : Read) (small : SmallText t) (s : Lent) (yes' : (rewriting (options_of t) t.job s).answer ≡ Accepted) where
  long : LongEnough t.job s t.limit
  long = long_enough (options_of t) t.job s (accepted_checks (options_of t) t.job s yes')

  axes_words : axes_out t s yes' * (2 * width t.job.counts.qubits) ≤ t.limit
  unfolding program_of
  axes_words =
      let o = options_of t in
      let j = t.job in
      let fits = (end_formed (program_of j) (checked_fine o j s (accepted_checks o j s yes')) (rules_of o) 8).fits in
      let peak : (end_of (rules_of o) 8 (program_of j)).store.peak ≤ t.limit =
      subst (λ (k : ℕ). k ≤ t.limit) (hermitian_peak (rules_of o) 8 (program_of j) (accepted_hermitian o j s yes'))
      (accepted_within o j s yes') in
      le_trans fits peak

  -- the records and the text of an accepted call
  pub result_asks : (room : ℕ) → most_bytes ≤ room
      → ResultPre (rewriting (options_of t) t.job s).counters t.job.counts.qubits (operations_out t s yes') (axes_out t s yes')
      (rewriting (options_of t) t.job s).lent.words (rewriting (options_of t) t.job s).lent.operations
      (rewriting (options_of t) t.job s).lent.rows room
  unfolding printed_text words_asked program_of
  result_asks room h =
      let same = same_lengths (options_of t) t.job s in
      record {
        few_qubits = omega (arith, small.qubits);
        operations_in_lem =
            omega (
              arith,
              operations_fit (rules_of (options_of t)) 8 (program_of t.job),
              records_length operation_of 6 t.job.counts.operations t.job.operations,
              long.operations,
              same.operations,
            );
        rows_in = omega (arith, long.rows, same.rows);
        axes_in_lem = omega (arith, axes_words, long.words, same.words);
        fits = le_trans (subst (λ (n : ℕ). n ≤ most_bytes) (ap (λ (ls : List (List ℕ)). length (text_of ls)) (accepted_lines t s yes'))
            (printed_size (some t) (rewriting (options_of t) t.job s).answer (λ u e. subst SmallText (some_same e) small))) h;
      }

-- what is printed lies in the output
pub call_fits : (text out : List ℕ) (s : Lent) → (listing_call text out s).size ≤ length out
unfolding listing_call printed_reply no_room_reply
call_fits text out s =
    on_if (λ (c : ListingReply). c.size ≤ length out) (ltb (length out) most_bytes) (no_room_reply out s)
    (printed_reply (read text) out (reply_to (read text) s))
    (λ e. omega arith)
    (λ e. le_trans (printed_size (read text) _ (λ t f. read_small text t f)) (ltb-false (length out) most_bytes e))

-- so every call's text does
pub called_fits : {text out : List ℕ} {s : Lent} {a : Answer} {size : ℕ} {out' : List ℕ} {s' : Lent}
    → ListingCalled text out s a size out' s' → size ≤ length out
called_fits {text} {out} {s} call =
    subst (λ (n : ℕ). n ≤ length out) (sym (ap (λ (c : ListingReply). c.size) call.replied)) (call_fits text out s)
