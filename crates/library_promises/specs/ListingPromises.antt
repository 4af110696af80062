-- The three demands about `werdutxa_list` of include/werdutxa.h, which customers link, in the numbers that a caller sees. What it ensures for all
-- arguments is `ExportedListing text out s r size out' s'`: with this text, the output out and the slices s lent a call returned r, printed the
-- first `size` bytes of the output and left the output out' and the slices s'. By `listing-called` (Calls) it is a call that `listing_promises`
-- speaks of, so all that is promised there holds of it, and the wrong programs named there are ruled out; here stand the mission's sentences.
-- Assumes nothing.
use Rattle.std.specs.Prelude.{◌≡◌, refl, ◌⊎◌, Bool, List, ℕ, ◌-◌, ◌≤◌, length}
use Rattle.std.proofs.Common.{sym, ap, ◌∙◌, inl, inr, ⊎_elim, arith}
use Rattle.std.proofs.Math.Option.{some}
use Rattle.groups.specs.Abelian.{pow2}
use Rattle.model.specs.Answers.{Answer, Accepted, NonHermitianAxis}
use Rattle.model.specs.Interface.{number_of}
use Rattle.model.specs.Program.{program_of}
use Rattle.model.specs.Checking.{Lent}
use Rattle.model.specs.Listing.{Read, read, listing}
use Rattle.theory.specs.ListingCalls.{options_of}
use Rattle.run_effect.specs.RunEffect.{Effects, source_effect, result_effect}
use Rattle.promises.specs.Strategies.{end_work}
use Rattle.promises.specs.Promises.{Cleared, AcceptanceLeaves}
use Rattle.listing_promises.specs.Alike.{AlikeTexts}
use Rattle.listing_promises.specs.Back.{head_field, operations_printed, rows_printed, axes_printed}
use Rattle.listing_promises.specs.Calls.{printed}
use Rattle.listing_promises.specs.Promises as listing_promises
use Rattle.werdutxa.specs.Calls.{ExportedListing}
use Rattle.library_promises.specs.Calls.{listing_called, listing_called_as}

module _ {text out : List ℕ} {s : Lent} {r size : ℕ} {out' : List ℕ} {s' : Lent} (call : ExportedListing text out s r size out' s') where
  -- ==== Demand 1. Memory

  -- "refusals 1 to 8 leave all slices unchanged", and 11
  pub refusals_1_to_8_and_11 : 1 ≤ r → (r ≤ 8) ⊎ (r ≡ 11) → s' ≡ s
  refusals_1_to_8_and_11 h l =
      listing_promises.refusals_1_to_8_and_11 (listing_called call) (omega (arith, call.answer))
      (⊎_elim (λ k. inl (omega (arith, call.answer))) (λ k. inr (sym call.answer ∙ k)) l)

  -- "9 and 10 leave program and results unchanged and both work stores zero"
  pub refusals_9_and_10 : 9 ≤ r → r ≤ 10 → Cleared s s'
  refusals_9_and_10 h l =
      listing_promises.refusals_9_and_10 (listing_called call) (omega (arith, call.answer)) (omega (arith, call.answer))

  -- "acceptance leaves results, axis words and zeros", of the program t that the text says
  pub acceptance : r ≡ 0 → (t : Read) → read text ≡ some t → AcceptanceLeaves (program_of t.job) (end_work (options_of t) t.job) s s'
  acceptance e = listing_promises.acceptance (listing_called_as call Accepted e)

  -- ==== Demand 2. Meaning

  -- "Each pass gives exactly what 01's rules give": whatever is answered but 3, the bytes printed are those of 01's listing
  pub prints_the_listing : (r ≡ 3 → ⊥) → printed size out' ≡ listing text
  prints_the_listing n = listing_promises.prints_the_listing (listing_called call) (λ f. n (call.answer ∙ ap number_of f))

  -- "the rewritten program is proved to have its source's effect", the result read back from the bytes
  pub effect_kept : r ≡ 0 → (t : Read) → read text ≡ some t → (outcomes : ℕ → Bool) (ns : List ℕ)
      → pow2 (Effects (program_of t.job))
      (length (program_of t.job).operations - length (operations_printed (printed size out')))
      (result_effect (program_of t.job) (axes_printed (program_of t.job).qubits (printed size out')) (operations_printed (printed size out'))
      (rows_printed (program_of t.job).qubits (printed size out')) outcomes ns)
      ≡ source_effect (program_of t.job) outcomes ns
  effect_kept e = listing_promises.effect_kept (listing_called_as call Accepted e)

  -- ==== Demand 3. Never worse

  -- "neither exceeds the source's": T after is no more than T before, both as they are printed
  pub never_above_source : r ≡ 0 → (t : Read) → read text ≡ some t → head_field (printed size out') 2 ≤ head_field (printed size out') 1
  never_above_source e = listing_promises.never_above_source (listing_called_as call Accepted e)

-- "an accepted or non-Hermitian run gets the same answer at every larger limit", and prints the same
pub larger_limit_same_answer : {text text' out₁ out₂ : List ℕ} {s₁ s₂ : Lent} {r r' size₁ size₂ : ℕ} {left₁ left₂ : List ℕ}
    {s₁' s₂' : Lent} {t t' : Read} → ExportedListing text out₁ s₁ r size₁ left₁ s₁'
    → ExportedListing text' out₂ s₂ r' size₂ left₂ s₂' → AlikeTexts text text' t t'
    → (r ≡ 0) ⊎ (r ≡ 9) → t.limit ≤ t'.limit → (r' ≡ 3 → ⊥)
    → (r' ≡ r) × (printed size₂ left₂ ≡ printed size₁ left₁)
larger_limit_same_answer {r = r} {r' = r'} {size₁ = size₁} {size₂ = size₂} {left₁ = left₁} {left₂ = left₂} x y alike e h n =
    ⊎_elim (λ f. again Accepted f (inl refl)) (λ f. again NonHermitianAxis f (inr refl)) e
  where
    again : (a : Answer) → r ≡ number_of a → (a ≡ Accepted) ⊎ (a ≡ NonHermitianAxis)
        → (r' ≡ r) × (printed size₂ left₂ ≡ printed size₁ left₁)
    again a f g =
        let p = listing_promises.larger_limit_same_answer (listing_called_as x a f) (listing_called y) alike g h
        (λ i. n (y.answer ∙ ap number_of i)) in
        (y.answer ∙ ap number_of p.0 ∙ sym f, p.1)

-- "equal rounds give equal results and counters": two accepted listings alike but for the limit print the same bytes
pub equal_bytes : {text text' out₁ out₂ : List ℕ} {s₁ s₂ : Lent} {r r' size₁ size₂ : ℕ} {left₁ left₂ : List ℕ}
    {s₁' s₂' : Lent} {t t' : Read} → ExportedListing text out₁ s₁ r size₁ left₁ s₁'
    → ExportedListing text' out₂ s₂ r' size₂ left₂ s₂' → AlikeTexts text text' t t' → r ≡ 0 → r' ≡ 0
    → printed size₂ left₂ ≡ printed size₁ left₁
equal_bytes x y alike e e' = listing_promises.equal_bytes (listing_called_as x Accepted e) (listing_called_as y Accepted e') alike
