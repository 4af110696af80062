-- One round with absorption off on items that are cut behind a barrier: the rounds of the two parts, one behind the other. The parts may have
-- stores of their own. Assumes nothing.
use Rattle.std.specs.Prelude.{◌≡◌, Bool, ℕ, ◌+◌, ◌%◌, eqb}
use Rattle.std.proofs.Math.Path.{refl, ap, ap₂}
use Rattle.std.proofs.Common.{sym, ◌∙◌, add-zero}
use Rattle.std.proofs.Math.Bool.{true, false}
use mathlib.Core.List.{List, [], ◌∷◌, ◌++◌, map, map-append, append-nil}
use Rattle.model.specs.Lists.{when◌then◌else◌, keep}
use Rattle.model.specs.Rules.{Rules}
use Rattle.model.specs.Items.{Item, barrier, drop_zeros, stays, Rewritten, rewrite_from, rewrite_segments}
use Rattle.model.specs.Stream.{nowhere, cleared_last}
use Rattle.theory.specs.Lists.{keep_append}
use Rattle.cutting.specs.Renaming.{Renames, renamed}
use Rattle.cutting.specs.PlainStream.{Puts, put_item, put_items, put_items_append, nothing_out}
use Rattle.cutting.specs.RenamedStream.{Follows, items_follow}
use Rattle.cutting.specs.RenamedSegments.{drop_zeros_same, rewrite_from_cut}
use Rattle.cutting.specs.Round.{Rounded, rounded_by, renamed_rewritten, renamed_round, streamed, exchanged, exchanged_items, round_of}
use Rattle.cutting.specs.Round.{none_exchanged, streamed_same, merges_same, exchanged_behind, exchanged_same}

-- zeros before a barrier are removed
drop_barrier : (is : List Item) (o a s : ℕ) → drop_zeros (is ++ (barrier o a s ∷ [])) ≡ drop_zeros is ++ (barrier o a s ∷ [])
unfolding drop_zeros keep when◌then◌else◌
drop_barrier is o a s = keep_append stays is (barrier o a s ∷ [])

-- one behind the other
abbrev both_rewritten : Rewritten → Rewritten → Rewritten
both_rewritten x y = record { items = x.items ++ y.items; changes = x.changes + y.changes }

abbrev pub both_rounds : Rounded → Rounded → Rounded
both_rounds x y = record { items = x.items ++ y.items; merges = x.merges + y.merges; swaps = x.swaps + y.swaps }

module _ (l : ℕ) (r : Rules) where
  -- behind a barrier `last` is cleared
  barrier_last : (C : List (List ℕ)) (is : List Item) (o a s : ℕ)
      → streamed l r C (is ++ (barrier o a s ∷ []))
      ≡ record { out = (streamed l r C is).out ++ (barrier o a (s % 4) ∷ []); last = cleared_last; merges = (streamed l r C is).merges }
  barrier_last C is o a s = put_items_append l r.lookback C nothing_out is (barrier o a s ∷ []) ∙ unfold put_items put_item in refl

  module _ (A B C : List (List ℕ)) (ρ τ : ℕ → ℕ) (h : Renames A C ρ) (σ υ : ℕ → ℕ) (k : Renames B C σ)
      (is : List Item) (o a s : ℕ) (js : List Item) where
    abbrev first : List Item
    first = is ++ (barrier o a s ∷ [])

    abbrev first_renamed : List Item
    first_renamed = map (renamed ρ τ) first

    abbrev later_renamed : List Item
    later_renamed = map (renamed σ υ) js

    -- the state behind the barrier
    abbrev between : Puts
    between = streamed l r C first_renamed

    between_last : (b : ℕ) → between.last b ≡ nowhere
    between_last b =
        ap (λ (x : Puts). x.last b)
        (ap (streamed l r C) (map-append (renamed ρ τ) is (barrier o a s ∷ [])) ∙ barrier_last C (map (renamed ρ τ) is) (τ o) (ρ a) s)

    later_follows : Follows l r.lookback B C σ υ k between.out between.merges (streamed l r B js)
        (put_items l r.lookback C between later_renamed)
    later_follows = items_follow l r.lookback B C σ υ k between.out between.merges js (record {
      out = sym (append-nil between.out);
      last = λ b. between_last (σ b);
      merges = sym (add-zero between.merges);
    })

    -- the streams
    out_cut : (streamed l r C (first_renamed ++ later_renamed)).out
        ≡ map (renamed ρ τ) (streamed l r A first).out ++ map (renamed σ υ) (streamed l r B js).out
    out_cut =
        ap (λ (x : Puts). x.out) (put_items_append l r.lookback C nothing_out first_renamed later_renamed)
        ∙ later_follows.out
        ∙ ap (λ (x : List Item). x ++ map (renamed σ υ) (streamed l r B js).out) (streamed_same l r A C ρ τ h first)

    merges_cut : (streamed l r C (first_renamed ++ later_renamed)).merges ≡ (streamed l r A first).merges + (streamed l r B js).merges
    merges_cut =
        ap (λ (x : Puts). x.merges) (put_items_append l r.lookback C nothing_out first_renamed later_renamed)
        ∙ later_follows.merges
        ∙ ap (λ (n : ℕ). n + (streamed l r B js).merges) (merges_same l r A C ρ τ h first)

    -- without zeros
    abbrev front : List Item
    front = drop_zeros (streamed l r A is).out

    abbrev first_out : List Item
    first_out = front ++ (barrier o a (s % 4) ∷ [])

    abbrev later_out : List Item
    later_out = drop_zeros (streamed l r B js).out

    first_out_lem : drop_zeros (streamed l r A first).out ≡ first_out
    first_out_lem = ap (λ (x : Puts). drop_zeros x.out) (barrier_last A is o a s) ∙ drop_barrier (streamed l r A is).out o a (s % 4)

    zeros_cut : drop_zeros (streamed l r C (first_renamed ++ later_renamed)).out ≡ map (renamed ρ τ) first_out ++ map (renamed σ υ) later_out
    unfolding drop_zeros
    zeros_cut =
        ap drop_zeros out_cut
        ∙ keep_append stays (map (renamed ρ τ) (streamed l r A first).out) (map (renamed σ υ) (streamed l r B js).out)
        ∙ ap₂ (λ (x y : List Item). x ++ y)
        (drop_zeros_same ρ τ (streamed l r A first).out ∙ ap (map (renamed ρ τ)) first_out_lem)
        (drop_zeros_same σ υ (streamed l r B js).out)

    -- the exchanges
    abbrev first_done : Rewritten
    first_done = rewrite_segments (exchanged l r A) first_out

    abbrev later_done : Rewritten
    later_done = rewrite_segments (exchanged l r B) later_out

    segments_cut : rewrite_segments (exchanged l r C) (map (renamed ρ τ) first_out ++ map (renamed σ υ) later_out)
        ≡ both_rewritten (renamed_rewritten ρ τ first_done) (renamed_rewritten σ υ later_done)
    unfolding rewrite_segments
    segments_cut =
        let b : List Item = barrier (τ o) (ρ a) (s % 4) ∷ [] in
        let split : map (renamed ρ τ) first_out ≡ map (renamed ρ τ) front ++ b = map-append (renamed ρ τ) front (barrier o a (s % 4) ∷ []) in
        ap (λ (x : List Item). rewrite_segments (exchanged l r C) (x ++ map (renamed σ υ) later_out)) split
        ∙ rewrite_from_cut (exchanged l r C) (none_exchanged l r C) [] [] 0 (map (renamed ρ τ) front) (τ o) (ρ a) (s % 4)
        (map (renamed σ υ) later_out)
        ∙ ap (λ (x : Rewritten). rewrite_from (exchanged l r C) x.items [] x.changes (map (renamed σ υ) later_out))
        (ap (rewrite_segments (exchanged l r C)) (sym split) ∙ exchanged_same l r A C ρ τ h first_out)
        ∙ exchanged_behind l r B C σ υ k (map (renamed ρ τ) first_done.items) first_done.changes later_out

    -- "Window 0: none."
    items_cut : (b : Bool) → eqb r.exchange.window 0 ≡ b
        → exchanged_items l r C (map (renamed ρ τ) first_out ++ map (renamed σ υ) later_out)
        ≡ both_rewritten (renamed_rewritten ρ τ (exchanged_items l r A first_out)) (renamed_rewritten σ υ (exchanged_items l r B later_out))
    unfolding exchanged_items when◌then◌else◌
    items_cut true e = rw e refl
    items_cut false e = rw e segments_cut

    -- a round of both parts
    pub round_cut : round_of l r C (map (renamed ρ τ) (is ++ (barrier o a s ∷ [])) ++ map (renamed σ υ) js)
        ≡ both_rounds (renamed_round ρ τ (round_of l r A (is ++ (barrier o a s ∷ [])))) (renamed_round σ υ (round_of l r B js))
    unfolding round_of
    round_cut =
        ap₂ rounded_by
        (ap (exchanged_items l r C) zeros_cut
        ∙ items_cut (eqb r.exchange.window 0) refl
        ∙ ap (λ (x : List Item).
        both_rewritten (renamed_rewritten ρ τ (exchanged_items l r A x)) (renamed_rewritten σ υ (exchanged_items l r B later_out))) (sym first_out_lem))
        merges_cut
