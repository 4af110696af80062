-- The layering pass keeps the effect. Assumes nothing.
use Rattle.std.specs.Prelude.{List, ℕ, ◌<◌, length}
use Rattle.model.specs.Items.{Item, rotation, barrier, rewrite_segments}
use Rattle.model.specs.Layering.{layer_segment}
use Rattle.model.specs.Rounds.{Work, layering_pass}
use Rattle.theory.specs.Every.{every_weaken}
use Rattle.theory.specs.StreamState.{axis_of, AllIn, InRange}
use Rattle.effect.specs.Words.{Setting}
use Rattle.effect.specs.Effect.{Op}
use Rattle.effect.specs.Effect as Effect
use Rattle.items_effect.specs.Ops.{item_ops}
use Rattle.items_effect.specs.AxisWords.{AxisWords, HasAxis}
use Rattle.items_effect.specs.Segments.{OnRotation, rewrite_segments_effect}
use Rattle.layering_effect.specs.Layers.{layer_segment_effect}

-- whatever the barriers stand for
module _ (H : Setting) (l : ℕ) (barrier_op : ℕ → ℕ → ℕ → Op H.words.W) where
  -- "layers every segment"
  pub layer_segments_effect : (axes : List (List ℕ)) (A : AxisWords H l axes) (items : List Item) → AllIn (length axes) items
      → Effect.◌≈◌ H (item_ops A.word barrier_op (rewrite_segments (layer_segment l axes) items).items) (item_ops A.word barrier_op items)
  layer_segments_effect axes A items h =
      rewrite_segments_effect H A.word barrier_op (HasAxis axes) (layer_segment l axes) (layer_segment_effect H l axes A) items
      (every_weaken (λ (i : Item). axis_of i < length axes) (OnRotation (HasAxis axes)) stored items h)
    where
      stored : (i : Item) → axis_of i < length axes → OnRotation (HasAxis axes) i
      stored (rotation r) k = k
      stored (barrier o a s) k = tt

  pub layering_pass_effect : (w : Work) (A : AxisWords H l w.store.axes) → InRange w
      → Effect.◌≈◌ H (item_ops A.word barrier_op (layering_pass l w).items) (item_ops A.word barrier_op w.items)
  unfolding layering_pass
  layering_pass_effect w A h = layer_segments_effect w.store.axes A w.items h
