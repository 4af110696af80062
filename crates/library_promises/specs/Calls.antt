-- What the library's functions ensure makes each call one that `promises` and `listing_promises` speak of. Assumes nothing.
use Rattle.std.specs.Prelude.{◌≡◌, List, ℕ}
use Rattle.std.proofs.Common.{sym, ap, ap₂, ◌∙◌, subst}
use Rattle.model.specs.declared.Options.{Options}
use Rattle.model.specs.Answers.{Answer}
use Rattle.model.specs.Interface.{number_of}
use Rattle.model.specs.Program.{Job}
use Rattle.model.specs.Checking.{Lent}
use Rattle.model.specs.Rewriting.{rewriting, Called}
use Rattle.theory.specs.Checked.{same_number}
use Rattle.listing_call.specs.Call.{listing_call, ListingCalled}
use Rattle.werdutxa.specs.Calls.{ExportedCall, ExportedListing}

module _ {o : Options} {j : Job} {s : Lent} {r : ℕ} {k : List ℕ} {t : Lent} (call : ExportedCall o j s r k t) where
  -- a call of the library's Rewriting is a call of Rewriting, whose answer's number it returns
  pub rewriting_called : Called o j s (rewriting o j s).answer (rewriting o j s).counters (rewriting o j s).operations (rewriting o j s).axes t
  rewriting_called =
      let x = rewriting o j s in
      record {
        replied = ap (λ (z : Lent).
            record { answer = x.answer; counters = x.counters; operations = x.operations; axes = x.axes; lent = z }) call.lent;
      }

  -- so the number tells the answer
  pub rewriting_answered : (a : Answer) → r ≡ number_of a → (rewriting o j s).answer ≡ a
  rewriting_answered a e = same_number (rewriting o j s).answer a (sym call.answer ∙ e)

  pub rewriting_called_as : (a : Answer) → r ≡ number_of a
      → Called o j s a (rewriting o j s).counters (rewriting o j s).operations (rewriting o j s).axes t
  rewriting_called_as a e =
      let x = rewriting o j s in
      subst (λ (b : Answer). Called o j s b x.counters x.operations x.axes t) (rewriting_answered a e) rewriting_called

module _ {text out : List ℕ} {s : Lent} {r size : ℕ} {out' : List ℕ} {s' : Lent} (call : ExportedListing text out s r size out' s') where
  -- a call of the library's Listing is a call of Listing, whose answer's number it returns
  pub listing_called : ListingCalled text out s (listing_call text out s).answer size out' s'
  listing_called =
      let x = listing_call text out s in
      record {
        replied = ap₂ (λ (n : ℕ) (y : List ℕ × Lent). record { answer = x.answer; size = n; output = y.0; lent = y.1 }) call.printed
            (ap₂ (λ (y : List ℕ) (z : Lent). (y, z)) call.output call.lent);
      }

  pub listing_answered : (a : Answer) → r ≡ number_of a → (listing_call text out s).answer ≡ a
  listing_answered a e = same_number (listing_call text out s).answer a (sym call.answer ∙ e)

  pub listing_called_as : (a : Answer) → r ≡ number_of a → ListingCalled text out s a size out' s'
  listing_called_as a e =
      subst (λ (b : Answer). ListingCalled text out s b size out' s') (listing_answered a e) listing_called
