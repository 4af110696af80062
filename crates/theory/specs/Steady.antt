-- Every pass keeps the barriers and uses only axes that are stored. Assumes nothing.
use Rattle.std.specs.Prelude.{◌≡◌, refl, Bool, true, false, ℕ, zero, suc, ◌<◌, length}
use Rattle.std.proofs.Common.{◌∙◌}
use Rattle.model.specs.declared.Strategy.{Strategy}
use Rattle.model.specs.declared.Strategy.TheVariants.{Merge, Litinski}
use Rattle.model.specs.Rules.{Rules}
use Rattle.model.specs.Exchange.{swaps}
use Rattle.model.specs.Layering.{layer_segment}
use Rattle.model.specs.Rounds.{Work, stream_pass, exchange_pass, layering_pass, merge_round, RoundBefore, no_round, rounds_from, closing_stream}
use Rattle.model.specs.Rounds.{merge_rounds}
use Rattle.model.specs.Rounds.{litinski_from, litinski_rounds, passes}
use Rattle.theory.specs.Cases.{by_if}
use Rattle.theory.specs.StreamState.{barriers_of, stream_pass_barriers, InRange, stream_pass_range}
use Rattle.theory.specs.Segments.{rewrite_segments_barriers}
use Rattle.theory.specs.SegmentAxes.{swaps_has, layer_segment_has, rewrite_segments_in}

-- ---- the run: axes in range, and the barriers of the start

-- v's axes are stored, and its barriers are w's
pub record Steady (w v : Work) : Type 0 where
  pub range : InRange v
  pub barriers : barriers_of v.items ≡ barriers_of w.items

steady_refl : (w : Work) → InRange w → Steady w w
steady_refl w h = record { range = h; barriers = refl }

steady_trans : (u v w : Work) → Steady u v → (InRange v → Steady v w) → Steady u w
steady_trans u v w h g = let k = g h.range in record { range = k.range; barriers = k.barriers ∙ h.barriers }

pub stream_pass_steady : (l : ℕ) (r : Rules) (b : Bool) (w : Work) → InRange w → Steady w (stream_pass l r b w)
stream_pass_steady l r b w h = record { range = stream_pass_range l r b w h; barriers = stream_pass_barriers l r b w h }

pub exchange_pass_steady : (l : ℕ) (r : Rules) (w : Work) → InRange w → Steady w (exchange_pass l r w)
unfolding exchange_pass
exchange_pass_steady l r w h =
    let f = swaps l w.store.axes r.exchange in
    by_if (Steady w) _ _ _ (steady_refl w h)
    (record {
      range =
          rewrite_segments_in (λ a. a < length w.store.axes) f
          (swaps_has (λ a. a < length w.store.axes) l w.store.axes r.exchange) w.items h;
      barriers = rewrite_segments_barriers f w.items;
    })

pub layering_pass_steady : (l : ℕ) (w : Work) → InRange w → Steady w (layering_pass l w)
unfolding layering_pass
layering_pass_steady l w h = record {
  range =
      rewrite_segments_in (λ a. a < length w.store.axes) (layer_segment l w.store.axes)
      (layer_segment_has (λ a. a < length w.store.axes) l w.store.axes) w.items h;
  barriers = rewrite_segments_barriers (layer_segment l w.store.axes) w.items;
}

rounds_from_steady : (l : ℕ) (r : Rules) (k : ℕ) (going : Bool) (b : RoundBefore) (w : Work) → InRange w → Steady w (rounds_from l r k going b w)
unfolding rounds_from merge_round
rounds_from_steady l r zero going b w h = steady_refl w h
rounds_from_steady l r (suc k) false b w h = steady_refl w h
rounds_from_steady l r (suc k) true b w h =
    steady_trans w (stream_pass l r true w) _ (stream_pass_steady l r true w h)
    (λ g. steady_trans (stream_pass l r true w) (exchange_pass l r (stream_pass l r true w)) _ (exchange_pass_steady l r (stream_pass l r true w) g)
    (rounds_from_steady l r k _ _ (exchange_pass l r (stream_pass l r true w))))

closing_stream_steady : (l : ℕ) (r : Rules) (k : ℕ) (w : Work) → InRange w → Steady w (closing_stream l r k w)
unfolding closing_stream
closing_stream_steady l r zero w h = steady_refl w h
closing_stream_steady l r (suc k) w h = by_if (Steady w) _ _ _ (stream_pass_steady l r true w h) (steady_refl w h)

litinski_from_steady : (l : ℕ) (r : Rules) (k : ℕ) (w : Work) → InRange w → Steady w (litinski_from l r k w)
unfolding litinski_from
litinski_from_steady l r zero w h = steady_refl w h
litinski_from_steady l r (suc k) w h =
    by_if (Steady w) _ _ _ (layering_pass_steady l w h)
    (steady_trans w (layering_pass l w) _ (layering_pass_steady l w h)
    (λ g. steady_trans (layering_pass l w) (stream_pass l r false (layering_pass l w)) _ (stream_pass_steady l r false (layering_pass l w) g)
    (litinski_from_steady l r k (stream_pass l r false (layering_pass l w)))))

-- all passes keep the barriers and use stored axes only
pub passes_steady : (s : Strategy) (l : ℕ) (r : Rules) (k : ℕ) (w : Work) → InRange w → Steady w (passes s l r k w)
unfolding passes merge_rounds litinski_rounds
passes_steady Merge l r k w h =
    steady_trans w (rounds_from l r k true no_round w) _ (rounds_from_steady l r k true no_round w h)
    (closing_stream_steady l r k (rounds_from l r k true no_round w))
passes_steady Litinski l r zero w h = steady_refl w h
passes_steady Litinski l r (suc k) w h =
    steady_trans w (stream_pass l r false w) _ (stream_pass_steady l r false w h) (litinski_from_steady l r (suc k) (stream_pass l r false w))
