-- What an accepted call of Listing prints, read back from its bytes alone: first line, operations, rows and axes. Assumes nothing.
use Rattle.std.specs.Prelude.{◌≡◌, Bool, true, false, List, [], ◌∷◌, ℕ, ◌≤◌, length, get_or}
use Rattle.std.proofs.Math.Path.{refl, ap, ap₂}
use Rattle.std.proofs.Common.{sym, ◌∙◌, subst, inl, arith}
use Rattle.std.proofs.Math.Option.{Option, none, some}
use Rattle.std.proofs.Math.ListN.{take}
use Rattle.pauli.specs.Word.{width}
use Rattle.model.specs.Answers.{Answer, Accepted}
use Rattle.model.specs.Interface.{number_of, accepts}
use Rattle.model.specs.Program.{field_of}
use Rattle.model.specs.Checking.{Lent}
use Rattle.model.specs.Listing.{Read, read, text_of, refusal_lines, first_line}
use Rattle.theory.specs.Every.{Every}
use Rattle.theory.specs.Checked.{accepts_only}
use Rattle.theory.specs.ListingCalls.{listing_answer}
use Rattle.result_effect.specs.Definitions.{operations_read, rows_read, letters_read, axes_read}
use Rattle.result_effect.specs.Listing.{listed_first, listed_rest, listed_text}
use Rattle.theory.specs.Called.{answer_is}
use Rattle.listing_columns.specs.Back.{lines_back, first_back, rest_back}
use Rattle.listing_columns.specs.Digits.{InColumn}
use Rattle.listing_columns.proofs.Texts.{lines_back_lem}
use Rattle.listing_call.specs.Call.{ListingCalled, most_bytes, printed_lines, printed_text}
use Rattle.listing_call.specs.Reads.{read_small}
use Rattle.listing_call.specs.Replies.{bad_text, refused_lines}
use Rattle.listing_promises.specs.Fields.{listed_in, refusal_in}
use Rattle.listing_promises.specs.Alike.{not_short}
use Rattle.listing_promises.specs.Calls.{printed, unread_by, called_by, bytes_taken, listing_taken, listing_answered}

-- ---- the records of a printed text

-- "answer, T before, T after, merges, swaps, absorbed, operations, axes", and M-103's "ninth field": field i of the first line
abbrev pub head_field : List ℕ → ℕ → ℕ
head_field bytes i = field_of (first_back bytes) i

-- "operations (kind, id, sign, angle, outcome, target)": as many as the first line says
abbrev pub operations_printed : List ℕ → List (List ℕ)
operations_printed bytes = operations_read (first_back bytes) (rest_back bytes)

-- "rows (qubit, row, id, sign ..)": two for each of q qubits
abbrev pub rows_printed : ℕ → List ℕ → List (List ℕ)
rows_printed q bytes = rows_read q (first_back bytes) (rest_back bytes)

-- "letters other than I by rising id, then qubit (id, qubit, letter)": the axes' words, as many as the first line says
abbrev pub axes_printed : ℕ → List ℕ → List (List ℕ)
axes_printed q bytes = axes_read (width q) 0 (head_field bytes 7) (letters_read q (first_back bytes) (rest_back bytes))

-- ---- an accepted call

module _ {text out : List ℕ} {s : Lent} {size : ℕ} {out' : List ℕ} {s' : Lent} (call : ListingCalled text out s Accepted size out' s')
    (t : Read) (reads : read text ≡ some t) where
  -- the text's program was accepted
  pub listed_accepted : listing_answer (some t) ≡ Accepted
  listed_accepted = sym (listing_answered call (not_short (inl refl)) ∙ ap listing_answer reads)

  inside : Every (Every InColumn) (listed_first t listed_accepted ∷ listed_rest t listed_accepted)
  inside = listed_in t (read_small text t reads) listed_accepted

  bytes_written : take size out' ≡ text_of (listed_first t listed_accepted ∷ listed_rest t listed_accepted)
  bytes_written = listing_taken call (not_short (inl refl)) ∙ listed_text t listed_accepted text reads

  bytes_are : printed size out' ≡ text_of (listed_first t listed_accepted ∷ listed_rest t listed_accepted)
  bytes_are = bytes_written

  -- the lines read back are those of its run's end
  pub lines_taken : lines_back (take size out') ≡ listed_first t listed_accepted ∷ listed_rest t listed_accepted
  lines_taken = ap lines_back bytes_written ∙ lines_back_lem _ inside

  pub lines_listed : lines_back (printed size out') ≡ listed_first t listed_accepted ∷ listed_rest t listed_accepted
  lines_listed = lines_taken

-- ---- every call that prints

-- bytes that are lines, every field in its column, which begin with the answer's number
pub record Lines (a : Answer) (bytes : List ℕ) : Type 0 where
  pub lines : List (List ℕ)
  pub text : bytes ≡ text_of lines
  pub inside : Every (Every InColumn) lines
  pub begins : field_of (get_or lines 0 []) 0 ≡ number_of a

refusal_lines_lem : (a : Answer) {bytes : List ℕ} → number_of a ≤ 11 → bytes ≡ text_of (refusal_lines a) → Lines a bytes
refusal_lines_lem a h e = record { lines = refusal_lines a; text = e; inside = refusal_in a h; begins = unfold refusal_lines in refl }

module _ {text out : List ℕ} {s : Lent} {a : Answer} {size : ℕ} {out' : List ℕ} {s' : Lent} (call : ListingCalled text out s a size out' s')
    (room : most_bytes ≤ length out) where
  -- 1 to 11: "its number and seven zeros", and one more for M-103's field
  pub refusal_taken : accepts a ≡ false → take size out' ≡ text_of (refusal_lines a)
  unfolding printed_text
  refusal_taken n = bytes_taken call room ∙ go (read text) refl
    where
      go : (x : Option Read) → read text ≡ x → text_of (printed_lines (read text) a) ≡ text_of (refusal_lines a)
      go none e =
          ap₂ (λ (x : Option Read) (b : Answer). text_of (printed_lines x b)) e (unread_by call room e).0
          ∙ ap text_of (bad_text ∙ ap refusal_lines (sym (unread_by call room e).0))
      go (some t) e =
          let same = answer_is (called_by call room t e) in
          ap (λ (x : Option Read). text_of (printed_lines x a)) e
          ∙ ap text_of (ap (printed_lines (some t)) (sym same) ∙ refused_lines t s (ap accepts same ∙ n) ∙ ap refusal_lines same)

  pub refusal_by : accepts a ≡ false → printed size out' ≡ text_of (refusal_lines a)
  refusal_by = refusal_taken

  accepted_taken : a ≡ Accepted → Lines a (take size out')
  accepted_taken y = go (read text) refl
    where
      go : (x : Option Read) → read text ≡ x → Lines a (take size out')
      go none e = absurd (let f = (unread_by call room e).0 in let z : ◌≡◌ {A = ℕ} 0 1 = cc in omega arith)
      go (some t) e =
          let c = subst (λ (b : Answer). ListingCalled text out s b size out' s') y call in
          record {
            lines = _;
            text = bytes_written c t e;
            inside = inside c t e;
            begins = unfold first_line in (ap number_of (sym y));
          }

  accepted_by : a ≡ Accepted → Lines a (printed size out')
  accepted_by = accepted_taken

  pub lines_by_taken : number_of a ≤ 11 → Lines a (take size out')
  lines_by_taken low = go (accepts a) refl
    where
      go : (b : Bool) → accepts a ≡ b → Lines a (take size out')
      go true e = accepted_taken (accepts_only a e)
      go false e = refusal_lines_lem a low (refusal_taken e)

  pub lines_by : number_of a ≤ 11 → Lines a (printed size out')
  lines_by = lines_by_taken
