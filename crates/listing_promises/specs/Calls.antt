-- A call of Listing by what it answers, prints and leaves. Assumes nothing.
use Rattle.std.specs.Prelude.{◌≡◌, ℕ, ◌+◌, ◌≤◌, ◌<◌}
use Rattle.std.proofs.Math.Path.{refl, ap, ap₂}
use Rattle.std.proofs.Common.{sym, ◌∙◌, lt-ltb, le-ltb}
use Rattle.std.proofs.Math.Option.{Option, none, some}
use mathlib.Core.List.{List}
use Rattle.std.proofs.Math.Decide.{dec_lt}
use native.Mathlib.Omega.{arith}
use Rattle.std.proofs.Math.ListN.{length, take, drop}
use Rattle.std.proofs.Math.Seq.{take-append_seam, drop-append_seam}
use Rattle.store.specs.Part.{put}
use Rattle.model.specs.Answers.{Answer, SliceShort, BadText}
use Rattle.model.specs.Checking.{Lent}
use Rattle.model.specs.Rewriting.{refused, rewriting, Called}
use Rattle.model.specs.Listing.{Read, read, text_of, listing}
use Rattle.theory.specs.Cases.{if_true, if_false}
use Rattle.theory.specs.ListingCalls.{options_of, listing_answer}
use Rattle.listing_call.specs.Call.{ListingCalled, most_bytes, reply_to, printed_text, ListingReply, printed_reply, no_room_reply, listing_call}
use Rattle.listing_call.specs.Replies.{reply_answer, other_lines}

-- "A Listing's results and counters are what it prints": the bytes
abbrev pub printed : ℕ → List ℕ → List ℕ
printed size out' = take size out'

-- a call of Rewriting on what was read, with the slices s, answered a and left s'; what it counted is the model's
abbrev pub CalledOn : Read → Lent → Answer → Lent → Type 0
CalledOn t s a s' =
    let x = rewriting (options_of t) t.job s in
    Called (options_of t) t.job s a x.counters x.operations x.axes s'

module _ {text out : List ℕ} {s : Lent} {a : Answer} {size : ℕ} {out' : List ℕ} {s' : Lent} (call : ListingCalled text out s a size out' s') where
  -- ---- the largest listing does not fit into the output

  pub without_room : length out < most_bytes
      → ◌≡◌ {A = ListingReply} (record { answer = a; size = size; output = out'; lent = s' }) (no_room_reply out s)
  without_room h = call.replied ∙ unfold listing_call in (if_true _ _ (lt-ltb (length out) most_bytes h))

  -- ---- it does

  pub room_of : (a ≡ SliceShort → ⊥) → most_bytes ≤ length out
  room_of n = go (dec_lt (length out) most_bytes)
    where
      go : Dec (length out < most_bytes) → most_bytes ≤ length out
      go (yes h) = absurd (n (ap (λ (c : ListingReply). c.answer) (without_room h) ∙ unfold no_room_reply in refl))
      go (no h) = omega arith

  module _ (room : most_bytes ≤ length out) where
    with_room : ◌≡◌ {A = ListingReply} (record { answer = a; size = size; output = out'; lent = s' })
        (printed_reply (read text) out (reply_to (read text) s))
    with_room = call.replied ∙ unfold listing_call in (if_false _ _ (le-ltb (length out) most_bytes room))

    pub answer_by : a ≡ (reply_to (read text) s).answer
    unfolding printed_reply
    answer_by = ap (λ (c : ListingReply). c.answer) with_room

    pub lent_by : s' ≡ (reply_to (read text) s).lent
    unfolding printed_reply
    lent_by = ap (λ (c : ListingReply). c.lent) with_room

    text_by : printed_text (read text) (reply_to (read text) s).answer ≡ printed_text (read text) a
    text_by = ap (printed_text (read text)) (sym answer_by)

    pub size_by : size ≡ length (printed_text (read text) a)
    unfolding printed_reply
    size_by = ap (λ (c : ListingReply). c.size) with_room ∙ ap length text_by

    pub output_by : out' ≡ put out 0 (printed_text (read text) a)
    unfolding printed_reply
    output_by = ap (λ (c : ListingReply). c.output) with_room ∙ ap (put out 0) text_by

    -- the bytes printed
    pub bytes_taken : take size out' ≡ printed_text (read text) a
    unfolding put
    bytes_taken =
        let t = printed_text (read text) a in
        ap₂ (λ (n : ℕ) (x : List ℕ). take n x) size_by output_by ∙ take-append_seam t (drop (0 + length t) out)

    pub bytes_by : printed size out' ≡ printed_text (read text) a
    bytes_by = bytes_taken

    -- the bytes behind them
    pub behind_by : drop size out' ≡ drop size out
    unfolding put
    behind_by =
        let t = printed_text (read text) a in
        ap₂ (λ (n : ℕ) (x : List ℕ). drop n x) size_by output_by ∙ drop-append_seam t (drop (0 + length t) out)
        ∙ ap (λ (n : ℕ). drop n out) (let e : 0 + length t ≡ size = omega (arith, size_by) in e)

    -- 11
    pub unread_by : read text ≡ none → (a ≡ BadText) × (s' ≡ s)
    unfolding reply_to refused
    unread_by e = (answer_by ∙ ap (λ (x : Option Read). (reply_to x s).answer) e, lent_by ∙ ap (λ (x : Option Read). (reply_to x s).lent) e)

    -- "then as rewriting"
    pub called_by : (t : Read) → read text ≡ some t → CalledOn t s a s'
    unfolding reply_to
    called_by t e =
        let x = rewriting (options_of t) t.job s in
        record {
          replied = ap₂ (λ (b : Answer) (z : Lent).
              record { answer = b; counters = x.counters; operations = x.operations; axes = x.axes; lent = z })
              (answer_by ∙ ap (λ (y : Option Read). (reply_to y s).answer) e) (lent_by ∙ ap (λ (y : Option Read). (reply_to y s).lent) e);
        }

  -- ---- a call that 3 does not refuse

  module _ (taken : a ≡ SliceShort → ⊥) where
    -- it prints what the model's listing prints
    pub listing_taken : take size out' ≡ listing text
    unfolding listing printed_text
    listing_taken = bytes_taken (room_of taken) ∙ ap text_of (other_lines (read text) a taken)

    pub listing_printed : printed size out' ≡ listing text
    listing_printed = listing_taken

    -- and answers what it answers
    pub listing_answered : a ≡ listing_answer (read text)
    listing_answered = go (read text) refl
      where
        go : (x : Option Read) → read text ≡ x → a ≡ listing_answer x
        go none e = (unread_by (room_of taken) e).0 ∙ unfold listing_answer in refl
        go (some t) e =
            let b : a ≡ (rewriting (options_of t) t.job s).answer
            = answer_by (room_of taken) ∙ ap (λ (y : Option Read). (reply_to y s).answer) e ∙ unfold reply_to in refl in
            b ∙ reply_answer t s (λ f. taken (b ∙ f))
