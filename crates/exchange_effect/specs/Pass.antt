-- 01, Exchange: the exchange pass keeps the effect. Assumes nothing.
use Rattle.std.specs.Prelude.{◌≡◌, refl, ℕ}
use Rattle.model.specs.Rules.{Rules}
use Rattle.model.specs.Exchange.{swaps}
use Rattle.model.specs.Rounds.{Work, exchange_pass}
use Rattle.theory.specs.Cases.{by_if}
use Rattle.theory.specs.Every.{Every}
use Rattle.effect.specs.Words.{Setting}
use Rattle.effect.specs.Effect.{Op}
use Rattle.effect.specs.Effect as Effect
use Rattle.effect.proofs.Equal.{≈-refl}
use Rattle.items_effect.specs.Ops.{item_ops}
use Rattle.items_effect.specs.AxisWords.{AxisWords, Sound}
use Rattle.items_effect.specs.Segments.{OnRotation, rewrite_segments_effect}
use Rattle.exchange_effect.specs.Swaps.{swaps_effect}

-- rotations about stored axes, with angles below 8
abbrev pub SoundItems : Work → Type 0
SoundItems w = Every (OnRotation (Sound w.store.axes)) w.items

-- the axes stay, so their words do
pub exchange_pass_store : (l : ℕ) (r : Rules) (w : Work) → (exchange_pass l r w).store ≡ w.store
unfolding exchange_pass
exchange_pass_store l r w = by_if (λ (x : Work). x.store ≡ w.store) _ _ _ refl refl

module _ (H : Setting) (l : ℕ) (r : Rules) (w : Work) (A : AxisWords H l w.store.axes) (sound : SoundItems w) where
  -- whatever the barriers mean
  pub exchange_pass_effect : (barrier_op : ℕ → ℕ → ℕ → Op H.words.W)
      → Effect.◌≈◌ H (item_ops A.word barrier_op (exchange_pass l r w).items) (item_ops A.word barrier_op w.items)
  unfolding exchange_pass
  exchange_pass_effect barrier_op =
      let axes = w.store.axes in
      by_if (λ (x : Work). Effect.◌≈◌ H (item_ops A.word barrier_op x.items) (item_ops A.word barrier_op w.items)) _ _ _
      (≈-refl H (item_ops A.word barrier_op w.items))
      (rewrite_segments_effect H A.word barrier_op (Sound axes) (swaps l axes r.exchange)
      (swaps_effect H l axes A r.exchange) w.items sound)
