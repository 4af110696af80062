-- One round with absorption off, and what it makes of renamed items. Assumes nothing.
use Rattle.std.specs.Prelude.{◌≡◌, ◌&&◌, ℕ, ◌+◌, ◌<◌, length}
use Rattle.std.proofs.Math.Path.{refl, sym, ap, ap₂}
use Rattle.std.proofs.Common.{◌∙◌, add-zero, arith}
use Rattle.std.proofs.Math.Bool.{true}
use mathlib.Core.List.{List, [], ◌++◌, map, append-nil}
use Rattle.std.proofs.Math.Dec.{eqb}
use Rattle.model.specs.declared.Absorption.{Absorption}
use Rattle.model.specs.declared.Absorption.TheVariants.{Off as off}
use Rattle.model.specs.Lists.{when◌then◌else◌, any_of}
use Rattle.model.specs.Rules.{is_on, Rules}
use Rattle.model.specs.Items.{Rot, Item, is_even_rotation, drop_zeros, Segment, Rewritten, rewrite_from, rewrite_segments}
use Rattle.model.specs.Exchange.{swaps_from, swaps}
use Rattle.model.specs.Stream.{carry_rows, begin, stream}
use Rattle.model.specs.Rounds.{Work, stream_pass, exchange_pass, merge_round, rounds_from, closing_stream, merge_rounds}
use Rattle.theory.specs.Cases.{of_if}
use Rattle.theory.specs.Every.{Every}
use Rattle.theory.specs.StreamState.{axis_of}
use Rattle.words_wellformed.specs.StoredWords.{StoredWords}
use Rattle.cutting.specs.Renaming.{Renames, renamed}
use Rattle.cutting.specs.RenamedExchange.{swaps_same}
use Rattle.cutting.specs.PlainStream.{Puts, put_items, nothing_out, pass_of, stream_same}
use Rattle.cutting.specs.RenamedStream.{Follows, items_follow}
use Rattle.cutting.specs.RenamedSegments.{drop_zeros_same, rewrite_from_same}

-- what a round leaves, and what it counts
pub record Rounded : Type 0 where
  pub items : List Item
  pub merges : ℕ
  pub swaps : ℕ

abbrev pub rounded_by : Rewritten → ℕ → Rounded
rounded_by x n = record { items = x.items; merges = n; swaps = x.changes }

abbrev pub renamed_rewritten : (ℕ → ℕ) → (ℕ → ℕ) → Rewritten → Rewritten
renamed_rewritten ρ τ x = record { items = map (renamed ρ τ) x.items; changes = x.changes }

abbrev pub renamed_round : (ℕ → ℕ) → (ℕ → ℕ) → Rounded → Rounded
renamed_round ρ τ x = record { items = map (renamed ρ τ) x.items; merges = x.merges; swaps = x.swaps }

module _ (l : ℕ) (r : Rules) where
  -- what a stream with absorption off puts out
  abbrev pub streamed : List (List ℕ) → List Item → Puts
  streamed axes is = put_items l r.lookback axes nothing_out is

  -- the exchanges of a segment
  abbrev pub exchanged : List (List ℕ) → List Rot → Segment
  exchanged axes = swaps l axes r.exchange

  -- .. and of all: "Window 0: none."
  unfoldable pub exchanged_items : List (List ℕ) → List Item → Rewritten
  exchanged_items axes is = when eqb r.exchange.window 0 then record { items = is; changes = 0 } else rewrite_segments (exchanged axes) is

  -- a stream, then the exchanges
  unfoldable pub round_of : List (List ℕ) → List Item → Rounded
  round_of axes is = rounded_by (exchanged_items axes (drop_zeros (streamed axes is).out)) (streamed axes is).merges

  -- ---- a round is that

  -- an exchange, by its items and its swaps
  abbrev with_rewritten : Work → Rewritten → Work
  with_rewritten v x = record {
    store = v.store;
    items = x.items;
    rows = v.rows;
    merges = v.merges;
    swaps = v.swaps + x.changes;
    absorbed = v.absorbed;
  }

  exchange_is : (v : Work) → exchange_pass l r v ≡ with_rewritten v (exchanged_items v.store.axes v.items)
  unfolding exchange_pass exchanged_items
  exchange_is v =
      ap (λ (n : ℕ). when eqb r.exchange.window 0 then record {
        store = v.store;
        items = v.items;
        rows = v.rows;
        merges = v.merges;
        swaps = n;
        absorbed = v.absorbed;
      } else with_rewritten v (rewrite_segments (exchanged v.store.axes) v.items))
      (sym (add-zero v.swaps))
      ∙ sym (of_if (with_rewritten v) (eqb r.exchange.window 0) (record { items = v.items; changes = 0 })
      (rewrite_segments (exchanged v.store.axes) v.items))

  module _ (is_off : r.absorption ≡ off) (w : Work) (stored : StoredWords l w.store.axes)
      (ids : Every (λ i. axis_of i < length w.store.axes) w.items) where
    abbrev after : Puts
    after = streamed w.store.axes w.items

    abbrev streamed_work : Work
    streamed_work = record {
      store = w.store;
      items = drop_zeros after.out;
      rows = w.rows;
      merges = w.merges + after.merges;
      swaps = w.swaps;
      absorbed = w.absorbed + 0;
    }

    stream_is : stream_pass l r true w ≡ streamed_work
    unfolding stream_pass carry_rows begin when◌then◌else◌
    stream_is =
        let e : stream l r true (begin w.store) w.items ≡ pass_of w.store after
        = stream_same l w.store stored r is_off nothing_out w.items ids in
        rw e refl

    -- "rounds of stream and exchange": one of them, and no closing stream, since absorption is off
    pub one_round : merge_rounds l r 1 w
        ≡ record {
          store = w.store;
          items = (round_of w.store.axes w.items).items;
          rows = w.rows;
          merges = w.merges + (round_of w.store.axes w.items).merges;
          swaps = w.swaps + (round_of w.store.axes w.items).swaps;
          absorbed = w.absorbed + 0;
        }
    unfolding merge_rounds rounds_from merge_round closing_stream when◌then◌else◌ round_of
    one_round =
        let v = exchange_pass l r (stream_pass l r true w) in
        ap (λ (m : Absorption). when is_on m && any_of is_even_rotation v.items then stream_pass l r true v else v) is_off
        ∙ ap (exchange_pass l r) stream_is ∙ exchange_is streamed_work

  -- ---- renamed, behind a part that is done

  -- nothing is in no segment
  pub none_exchanged : (axes : List (List ℕ)) → exchanged axes [] ≡ record { rots = []; changes = 0 }
  unfolding swaps swaps_from
  none_exchanged axes = refl

  begin_follows : (A C : List (List ℕ)) (ρ τ : ℕ → ℕ) (h : Renames A C ρ) → Follows l r.lookback A C ρ τ h [] 0 nothing_out nothing_out
  begin_follows A C ρ τ h = record { out = refl; last = λ a. refl; merges = refl }

  module _ (A C : List (List ℕ)) (ρ τ : ℕ → ℕ) (h : Renames A C ρ) where
    abbrev rens : List Item → List Item
    rens = map (renamed ρ τ)

    pub streamed_same : (is : List Item) → (streamed C (rens is)).out ≡ rens (streamed A is).out
    streamed_same is = (items_follow l r.lookback A C ρ τ h [] 0 is (begin_follows A C ρ τ h)).out

    pub merges_same : (is : List Item) → (streamed C (rens is)).merges ≡ (streamed A is).merges
    merges_same is = (items_follow l r.lookback A C ρ τ h [] 0 is (begin_follows A C ρ τ h)).merges ∙ omega arith

    -- renamed items, behind others
    pub exchanged_behind : (base : List Item) (c : ℕ) (is : List Item)
        → rewrite_from (exchanged C) base [] c (rens is)
        ≡ record {
          items = base ++ rens (rewrite_segments (exchanged A) is).items;
          changes = c + (rewrite_segments (exchanged A) is).changes;
        }
    unfolding rewrite_segments
    exchanged_behind base c is =
        ap₂ (λ (d : List Item) (n : ℕ). rewrite_from (exchanged C) d [] n (rens is)) (sym (append-nil base)) (sym (add-zero c))
        ∙ rewrite_from_same ρ τ (exchanged A) (exchanged C)
        (swaps_same l A C ρ h r.exchange) base c [] [] 0 is

    pub exchanged_same : (is : List Item) → rewrite_segments (exchanged C) (rens is) ≡ renamed_rewritten ρ τ (rewrite_segments (exchanged A) is)
    unfolding rewrite_segments
    exchanged_same is =
        exchanged_behind [] 0 is ∙ ap (λ (n : ℕ). record { items = rens (rewrite_segments (exchanged A) is).items; changes = n }) (omega arith)

    exchanged_items_same : (is : List Item) → exchanged_items C (rens is) ≡ renamed_rewritten ρ τ (exchanged_items A is)
    unfolding exchanged_items
    exchanged_items_same is =
        ap (λ (x : Rewritten). when eqb r.exchange.window 0 then record { items = rens is; changes = 0 } else x) (exchanged_same is)
        ∙ sym (of_if (renamed_rewritten ρ τ) (eqb r.exchange.window 0) (record { items = is; changes = 0 }) (rewrite_segments (exchanged A) is))

    -- a round of renamed items is the renamed round
    pub round_same : (is : List Item) → round_of C (map (renamed ρ τ) is) ≡ renamed_round ρ τ (round_of A is)
    unfolding round_of
    round_same is =
        ap₂ rounded_by
        (ap (λ (x : List Item). exchanged_items C (drop_zeros x)) (streamed_same is)
        ∙ ap (exchanged_items C) (drop_zeros_same ρ τ (streamed A is).out)
        ∙ exchanged_items_same (drop_zeros (streamed A is).out))
        (merges_same is)
