-- What Listing's code answers, as a call. Assumes nothing.
use Rattle.std.specs.Prelude.{◌≡◌, ℕ, ◌+◌, ◌*◌, ◌≤◌, ◌<◌, take, Ok, Err}
use Rattle.std.proofs.Math.Path.{refl, sym, ap}
use Rattle.std.proofs.Common.{◌∙◌, subst, arith, lt-ltb, le-ltb}
use Rattle.std.proofs.Math.Option.{Option, none, some}
use mathlib.Core.List.{List}
use Rattle.std.proofs.Math.ListN.{length}
use Rattle.store.specs.Part.{put}
use Rattle.model.specs.declared.Counts.{Counts}
use Rattle.model.specs.declared.Refusal.{Refusal}
use Rattle.model.specs.declared.Refusal.TheVariants as refusals
use Rattle.model.specs.Answers.{Answer, Accepted, SliceShort}
use Rattle.model.specs.Interface.{accepts}
use Rattle.model.specs.Program.{Job}
use Rattle.model.specs.Checking.{Lent}
use Rattle.model.specs.Rewriting.{refused, rewriting}
use Rattle.model.specs.Listing.{Read, read, text_of, refusal_lines}
use Rattle.theory.specs.Cases.{if_true, if_false}
use Rattle.theory.specs.Checked.{refuses}
use Rattle.theory.specs.Called.{answer_is, counters_are, operations_are, axes_are, lent_is}
use Rattle.theory.specs.TCountCalls.{accepted_operations, accepted_axes}
use Rattle.theory.specs.ListingCalls.{options_of}
use Rattle.listing_read.specs.declared.Text.{Text}
use Rattle.listing_read.specs.Views.{Room, read_by}
use Rattle.listing_print.specs.Printed.{Printed}
use Rattle.listing_print.specs.Results.{result_lines, ResultPre}
use Rattle.listing_call.specs.Call.{most_bytes, reply_to, printed_lines, printed_text, ListingReply, printed_reply, no_room_reply, listing_call}
use Rattle.listing_call.specs.Reads.{SmallText}
use Rattle.listing_call.specs.Replies.{operations_out, axes_out, accepted_lines, refused_lines, bad_text}
use Rattle.listing_call.specs.Rooms.{result_asks}
use Rattle.listing.specs.declared.Listed.{Listed}
use Rattle.optimize.specs.declared.Rewritten.{Rewritten}
use Rattle.optimize.specs.Call.{CalledBy}

-- what the code answers, the output and the lent slices, as one reply
abbrev pub listing_reply_of : Listed → List ℕ → Lent → ListingReply
listing_reply_of r out s = record { answer = r.answer; size = r.size; output = out; lent = s }

-- ---- a read program: the call as Listing's

-- what the code has read
abbrev pub read_to : Counts → ℕ → List ℕ → List ℕ → List ℕ → Read
read_to c limit nodes operations rows = record {
  job = record {
    counts = c;
    nodes = take (c.nodes * 5) nodes;
    operations = take (c.operations * 6) operations;
    rows = take (2 * c.qubits * 4) rows;
  };
  limit = limit;
}

pub record RunPre (c : Counts) (limit : ℕ) (nodes operations rows out : List ℕ) : Type 0 where
  pub small : SmallText (read_to c limit nodes operations rows)
  pub read_room : Room nodes operations rows
  pub room : most_bytes ≤ length out

abbrev pub RunCall : Counts → ℕ → List ℕ → List ℕ → List ℕ → List ℕ → Lent → Listed → List ℕ → Lent → Type 0
RunCall c limit nodes operations rows out s l out' s' =
    let t = some (read_to c limit nodes operations rows) in
    listing_reply_of l out' s' ≡ printed_reply t out (reply_to t s)

-- ---- a call of Rewriting on what was read

place_zero : {n m : ℕ} → n ≡ 0 + m → n ≡ m
place_zero {n} {m} e = omega arith

reply_same : {a b : Answer} {n m : ℕ} {x y : List ℕ} {s z : Lent} → a ≡ b → n ≡ m → x ≡ y → s ≡ z
    → ◌≡◌ {A = ListingReply} (record { answer = a; size = n; output = x; lent = s }) (record { answer = b; size = m; output = y; lent = z })
reply_same {a} {b} {n} {m} {x} {y} {s} {z} p q r u =
    ap (λ (i : Answer). record { answer = i; size = n; output = x; lent = s }) p
    ∙ ap (λ (i : ℕ). record { answer = b; size = i; output = x; lent = s }) q
    ∙ ap (λ (i : List ℕ). record { answer = b; size = m; output = i; lent = s }) r
    ∙ ap (λ (i : Lent). record { answer = b; size = m; output = y; lent = i }) u

-- so much of the output is these lines, and a is the answer: the reply that Listing has to such a program
module _ (t : Read) (s s' : Lent) (lent : (rewriting (options_of t) t.job s).lent ≡ s') {a : Answer}
    (answer : (rewriting (options_of t) t.job s).answer ≡ a) {ls : List (List ℕ)}
    (lines : ls ≡ printed_lines (some t) (rewriting (options_of t) t.job s).answer) where
  printed_called : {out out' : List ℕ} {n : ℕ} → Printed out 0 (text_of ls) out' n
      → listing_reply_of (record { answer = a; size = n }) out' s' ≡ printed_reply (some t) out (reply_to (some t) s)
  unfolding printed_reply reply_to printed_text
  printed_called {out} p =
      let text = ap text_of lines in
      reply_same (sym answer) (place_zero p.place ∙ ap length text) (p.store ∙ ap (put out 0) text) (sym lent)

module _ (t : Read) (small : SmallText t) (s : Lent) (r : Rewritten) (s' : Lent) (call : CalledBy (options_of t) t.job s (Ok r) s') where
  -- the numbers that an accepted call hands back
  operations_there : r.operations ≡ operations_out t s (answer_is call)
  operations_there = sym (operations_are call) ∙ accepted_operations (options_of t) t.job s (answer_is call)

  axes_there : r.axes ≡ axes_out t s (answer_is call)
  axes_there = sym (axes_are call) ∙ accepted_axes (options_of t) t.job s (answer_is call)

  -- what printing asks
  pub printing_asks : (room : ℕ) → most_bytes ≤ room
      → ResultPre r.counters t.job.counts.qubits r.operations r.axes s'.words s'.operations s'.rows room
  printing_asks room h =
      subst (λ (z : Lent). ResultPre r.counters t.job.counts.qubits r.operations r.axes z.words z.operations z.rows room)
      (lent_is call) (rw (← counters_are call, operations_there, axes_there) (result_asks t small s (answer_is call) room h))

  -- the lines of what came are the lines that the call prints
  lines_are : result_lines r.counters t.job.counts.qubits r.operations r.axes s'.words s'.operations s'.rows
      ≡ printed_lines (some t) (rewriting (options_of t) t.job s).answer
  lines_are =
      ap (λ (z : Lent). result_lines r.counters t.job.counts.qubits r.operations r.axes z.words z.operations z.rows) (sym (lent_is call))
      ∙ rw (← counters_are call, operations_there, axes_there) (sym (accepted_lines t s (answer_is call)))

  pub run_called : {out out' : List ℕ} {n : ℕ}
      → Printed out 0 (text_of (result_lines r.counters t.job.counts.qubits r.operations r.axes s'.words s'.operations s'.rows)) out' n
      → listing_reply_of (record { answer = Accepted; size = n }) out' s' ≡ printed_reply (some t) out (reply_to (some t) s)
  run_called p = printed_called t s s' (lent_is call) (answer_is call) lines_are p

-- a refusal, and its text
pub record RefusedTo (e : Refusal) (out : List ℕ) (l : Listed) (out' : List ℕ) : Type 0 where
  pub answer : l.answer ≡ Err e
  pub text : Printed out 0 (text_of (refusal_lines (Err e))) out' l.size

module _ (t : Read) (s : Lent) (e : Refusal) (s' : Lent) (call : CalledBy (options_of t) t.job s (Err e) s') where
  pub run_refused : {l : Listed} {out out' : List ℕ} → RefusedTo e out l out'
      → listing_reply_of l out' s' ≡ printed_reply (some t) out (reply_to (some t) s)
  run_refused {l} {out} {out'} p =
      ap (λ (a : Answer). listing_reply_of (record { answer = a; size = l.size }) out' s') p.answer
      ∙ printed_called t s s' (lent_is call) (answer_is call)
      (ap refusal_lines (sym (answer_is call)) ∙ sym (refused_lines t s (ap accepts (answer_is call) ∙ refuses e))) p.text

-- ---- Listing

module _ (text out : List ℕ) (s : Lent) where
  pub no_room : length out < most_bytes → listing_reply_of (record { answer = SliceShort; size = 0 }) out s ≡ listing_call text out s
  unfolding listing_call no_room_reply
  no_room h = sym (if_true _ _ (lt-ltb (length out) most_bytes h))

  module _ (room : most_bytes ≤ length out) where
    pub run_listed : {x : ListingReply} {t : Read} → read text ≡ some t → x ≡ printed_reply (some t) out (reply_to (some t) s)
        → x ≡ listing_call text out s
    unfolding listing_call
    run_listed e p =
        p ∙ ap (λ (y : Option Read). printed_reply y out (reply_to y s)) (sym e) ∙ sym (if_false _ _ (le-ltb (length out) most_bytes room))

    pub bad_listed : {l : Listed} {out' : List ℕ} → read text ≡ none → RefusedTo refusals.BadText out l out'
        → listing_reply_of l out' s ≡ listing_call text out s
    unfolding listing_call printed_reply reply_to refused printed_text
    bad_listed e r =
        let p = r.text in
        reply_same r.answer (place_zero p.place ∙ ap (λ (ls : List (List ℕ)). length (text_of ls)) (sym bad_text))
        (p.store ∙ ap (λ (ls : List (List ℕ)). put out 0 (text_of ls)) (sym bad_text)) refl
        ∙ ap (λ (y : Option Read). printed_reply y out (reply_to y s)) (sym e) ∙ sym (if_false _ _ (le-ltb (length out) most_bytes room))
