-- Rounds leave no more than was there, and more rounds no more than fewer, by any measure of angles. Assumes nothing.
use Rattle.std.specs.Prelude.{◌≡◌, Bool, eqb}
use Rattle.std.proofs.Math.Path.{refl}
use Rattle.std.proofs.Math.Bool.{true, false}
use Prim.Native.Nat.{ℕ, zero, suc, ◌+◌, ◌-◌, ◌≤◌}
use Rattle.std.proofs.Math.Nat.{le_refl, le_trans, zero-add, suc-add}
use native.Mathlib.Omega.{arith}
use Rattle.model.specs.declared.Strategy.{Strategy}
use Rattle.model.specs.declared.Strategy.TheVariants.{Merge, Litinski}
use Rattle.model.specs.Lists.{when◌then◌else◌}
use Rattle.model.specs.Rules.{Rules}
use Rattle.model.specs.Rounds.{Work, stream_pass, layering_pass, merge_round, RoundBefore, no_round, rounds_from, closing_stream, merge_rounds}
use Rattle.model.specs.Rounds.{litinski_from}
use Rattle.model.specs.Rounds.{litinski_rounds, passes}
use Rattle.theory.specs.Cases.{by_if}
use Rattle.theory.specs.Measure.{Measure, size_of}
use Rattle.theory.specs.StreamMeasure.{stream_pass_no_more}
use Rattle.theory.specs.ExchangeMeasure.{exchange_pass_no_more}
use Rattle.theory.specs.LayeringMeasure.{layering_pass_no_more}

module _ (m : ℕ → ℕ) (law : Measure m) where
  -- v measures at most what w does
  abbrev pub NoMore : Work → Work → Type 0
  NoMore w v = size_of m v.items ≤ size_of m w.items

  merge_round_no_more : (l : ℕ) (r : Rules) (w : Work) → NoMore (stream_pass l r true w) (merge_round l r w)
  unfolding merge_round
  merge_round_no_more l r w = exchange_pass_no_more m law l r (stream_pass l r true w)

  -- rounds
  pub rounds_from_no_more : (l : ℕ) (r : Rules) (k : ℕ) (going : Bool) (b : RoundBefore) (w : Work) → NoMore w (rounds_from l r k going b w)
  unfolding rounds_from
  rounds_from_no_more l r zero going b w = le_refl _
  rounds_from_no_more l r (suc k) false b w = le_refl _
  rounds_from_no_more l r (suc k) true b w =
      le_trans (rounds_from_no_more l r k _ _ (merge_round l r w)) (le_trans (merge_round_no_more l r w) (stream_pass_no_more m law l r true w))

  -- a closing stream, or none
  closing_stream_case : (l : ℕ) (r : Rules) (k : ℕ) (w : Work) (P : Work → Type 0) → P w → P (stream_pass l r true w) → P (closing_stream l r k w)
  unfolding closing_stream
  closing_stream_case l r zero w P hw hs = hw
  closing_stream_case l r (suc k) w P hw hs = by_if P _ _ _ hs hw

  closing_stream_no_more : (l : ℕ) (r : Rules) (k : ℕ) (w : Work) → NoMore w (closing_stream l r k w)
  closing_stream_no_more l r k w = closing_stream_case l r k w (NoMore w) (le_refl _) (stream_pass_no_more m law l r true w)

  -- with rounds left, the run either goes on from w by a stream, or stands at w
  pub data Goes (l : ℕ) (r : Rules) (w : Work) (v : Work) : Type 0 where
    stands : v ≡ w → Goes l r w v
    streams : NoMore (stream_pass l r true w) v → Goes l r w v

  goes : (l : ℕ) (r : Rules) (d : ℕ) (going : Bool) (b : RoundBefore) (w : Work) → Goes l r w (rounds_from l r d going b w)
  unfolding rounds_from
  goes l r zero going b w = stands refl
  goes l r (suc d) false b w = stands refl
  goes l r (suc d) true b w = streams (le_trans (rounds_from_no_more l r d _ _ (merge_round l r w)) (merge_round_no_more l r w))

  -- the second run passes through the first one's last state
  goes_through : (l : ℕ) (r : Rules) (k d : ℕ) (going : Bool) (b : RoundBefore) (w : Work)
      → Goes l r (rounds_from l r k going b w) (rounds_from l r (k + d) going b w)
  unfolding rounds_from
  goes_through l r zero d going b w = rw zero-add (goes l r d going b w)
  goes_through l r (suc k) d false b w = rw suc-add (stands refl)
  goes_through l r (suc k) d true b w = rw suc-add (goes_through l r k d _ _ (merge_round l r w))

  same_closing : (l : ℕ) (r : Rules) (k k' : ℕ) (w : Work) → NoMore (closing_stream l r (suc k) w) (closing_stream l r (suc k') w)
  unfolding closing_stream
  same_closing l r k k' w = le_refl _

  -- the closing stream of the first run is the next round's stream of the second
  merge_rounds_no_more : (l : ℕ) (r : Rules) (k d : ℕ) (w : Work) → NoMore (merge_rounds l r k w) (merge_rounds l r (k + d) w)
  unfolding merge_rounds
  merge_rounds_no_more l r zero d w =
      rw zero-add (le_trans (closing_stream_no_more l r d _) (le_trans (rounds_from_no_more l r d true no_round w) (start l r w)))
    where
      start : (l : ℕ) (r : Rules) (w : Work) → size_of m w.items ≤ size_of m (closing_stream l r zero (rounds_from l r zero true no_round w)).items
      start l r w = unfold closing_stream rounds_from in (le_refl _)
  merge_rounds_no_more l r (suc k) d w = rw suc-add (go (rw suc-add at (goes_through l r (suc k) d true no_round w)))
    where
      v : Work
      v = rounds_from l r (suc k) true no_round w

      u : Work
      u = rounds_from l r (suc (k + d)) true no_round w

      go : Goes l r v u → NoMore (closing_stream l r (suc k) v) (closing_stream l r (suc (k + d)) u)
      go (stands e) = rw e (same_closing l r k (k + d) v)
      go (streams h) =
          closing_stream_case l r (suc k) v (λ (x : Work). NoMore x (closing_stream l r (suc (k + d)) u))
          (le_trans (closing_stream_no_more l r (suc (k + d)) u) (le_trans h (stream_pass_no_more m law l r true v)))
          (le_trans (closing_stream_no_more l r (suc (k + d)) u) h)

  -- ---- Litinski's layers

  litinski_from_no_more : (l : ℕ) (r : Rules) (k : ℕ) (w : Work) → NoMore w (litinski_from l r k w)
  unfolding litinski_from
  litinski_from_no_more l r zero w = le_refl _
  litinski_from_no_more l r (suc k) w =
      by_if (NoMore w) _ _ _ (layering_pass_no_more m law l w)
      (le_trans (litinski_from_no_more l r k (stream_pass l r false (layering_pass l w)))
      (le_trans (stream_pass_no_more m law l r false (layering_pass l w)) (layering_pass_no_more m law l w)))

  litinski_from_more : (l : ℕ) (r : Rules) (k d : ℕ) (w : Work) → NoMore (litinski_from l r k w) (litinski_from l r (k + d) w)
  unfolding litinski_from when◌then◌else◌
  litinski_from_more l r zero d w = rw zero-add (litinski_from_no_more l r d w)
  litinski_from_more l r (suc k) d w =
      rw suc-add
      (go (eqb (layering_pass l w).merges w.merges) (litinski_from l r k (stream_pass l r false (layering_pass l w)))
      (litinski_from l r (k + d) (stream_pass l r false (layering_pass l w)))
      (litinski_from_more l r k d (stream_pass l r false (layering_pass l w))))
    where
      go : (b : Bool) (x y : Work) → NoMore x y → NoMore (when b then layering_pass l w else x) (when b then layering_pass l w else y)
      go true x y h = le_refl _
      go false x y h = h

  litinski_rounds_no_more : (l : ℕ) (r : Rules) (k d : ℕ) (w : Work) → NoMore (litinski_rounds l r k w) (litinski_rounds l r (k + d) w)
  unfolding litinski_rounds
  litinski_rounds_no_more l r zero zero w = le_refl _
  litinski_rounds_no_more l r zero (suc d) w = rw zero-add (le_trans (litinski_from_no_more l r (suc d) _) (stream_pass_no_more m law l r false w))
  litinski_rounds_no_more l r (suc k) d w = rw suc-add (rw suc-add at (litinski_from_more l r (suc k) d (stream_pass l r false w)))

  -- ---- the theorem

  -- more rounds leave no more, for both strategies
  pub more_rounds : (s : Strategy) (l : ℕ) (r : Rules) (k k' : ℕ) (w : Work) → k ≤ k' → NoMore (passes s l r k w) (passes s l r k' w)
  unfolding passes
  more_rounds Merge l r k k' w h = let e : k + (k' - k) ≡ k' = omega arith in rw e at (merge_rounds_no_more l r k (k' - k) w)
  more_rounds Litinski l r k k' w h = let e : k + (k' - k) ≡ k' = omega arith in rw e at (litinski_rounds_no_more l r k (k' - k) w)

  -- all passes
  pub passes_no_more : (s : Strategy) (l : ℕ) (r : Rules) (k : ℕ) (w : Work) → NoMore w (passes s l r k w)
  unfolding passes merge_rounds litinski_rounds
  passes_no_more Merge l r k w = le_trans (closing_stream_no_more l r k _) (rounds_from_no_more l r k true no_round w)
  passes_no_more Litinski l r zero w = le_refl _
  passes_no_more Litinski l r (suc k) w = le_trans (litinski_from_no_more l r (suc k) _) (stream_pass_no_more m law l r false w)
