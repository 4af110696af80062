-- 01, Stream: a streaming pass keeps the effect up to its factors 2, and carries the frame rows. Assumes nothing.
use Rattle.std.specs.Prelude.{◌≡◌, Bool, ℕ, ◌<◌}
use Rattle.std.proofs.Common.{sym, ◌∙◌}
use Rattle.std.proofs.Math.Path.{ap, subst}
use mathlib.Core.List.{List, [], ◌∷◌, map}
use Rattle.std.proofs.Math.ListN.{length}
use Rattle.model.specs.Program.{Operation}
use Rattle.model.specs.Rules.{Rules}
use Rattle.model.specs.Items.{Item, rotation, barrier, stays, drop_zeros}
use Rattle.model.specs.Stream.{Pass, stream, begin, carry_rows}
use Rattle.model.specs.Rounds.{Work, stream_pass}
use Rattle.theory.specs.Ids.{Grows}
use Rattle.theory.specs.StreamState.{axis_of, AllIn, stream_stepped, begin_sound}
use Rattle.theory.specs.Every.{Every, every_keep}
use Rattle.words_wellformed.specs.PassWords.{WellItem, WellPass, rows_more, begin_well, stream_well}
use Rattle.words_wellformed.specs.RunWords.{WellWork}
use Rattle.effect.specs.Phase.{q0}
use Rattle.effect.specs.Effect.{Op}
use Rattle.effect.specs.Effect as Effect
use Rattle.effect.proofs.Equal.{≈-sym}
use Rattle.effect.proofs.Clifford.{Cliff, Sim, sim_replace, carry_row}
use Rattle.effect.specs.Packed.{Packed, packed}
use Rattle.effect.proofs.Bridge.{ImagesOf}
use Rattle.stream_effect.specs.Slide.{drop_zeros_effect}
use Rattle.stream_effect.specs.Follows.{word_at, barrier_at, ops_of, ops_of_grows, Streamed}
use Rattle.stream_effect.specs.Steps.{put_inside}
use Rattle.stream_effect.specs.StreamItems.{stream_follows}
use Rattle.stream_effect.specs.Rows.{rows_of, rows_of_grows, carry_rows_grows, carry_rows_images}

module _ (l : ℕ) (operations : List Operation) (r : Rules) (merging : Bool) (w : Work) (well : WellWork l (Unit {0}) w) where
  abbrev W : Type 0
  W = Packed l

  -- the state at the end of the pass, and the work that it leaves
  abbrev pub pass_end : Pass
  pass_end = stream l r merging (begin w.store) w.items

  abbrev after : Work
  after = stream_pass l r merging w

  ended : WellPass l (Unit {0}) pass_end
  ended =
      (stream_well l (Unit {0}) r merging (begin w.store) w.items (begin_well l (Unit {0}) w.store well.stored)
      (unfold begin in well.items)).well

  grown : Grows w.store.axes pass_end.store.axes
  grown =
      unfold begin in (stream_stepped l r merging (begin w.store) w.items (begin_sound w.store)
      (unfold begin in (items_inside w.items well.items))).grow
    where
      items_inside : (is : List Item) → Every (WellItem (Unit {0}) (length w.store.axes)) is → AllIn (length w.store.axes) is
      items_inside [] h = tt
      items_inside (rotation t ∷ is) h = (h.0.0, items_inside is h.1)
      items_inside (barrier o a s ∷ is) h = (h.0.0, items_inside is h.1)

  follows : Streamed l operations (ops_of l operations w.store.axes w.items) pass_end
  follows = stream_follows l operations r merging w.store w.items well.stored well.items

  -- F, the Clifford that the pass absorbed
  pub absorbed_by : Cliff (packed l)
  absorbed_by = follows.F

  -- it is the one whose images the pass holds
  pub absorbed_by_holds : ImagesOf l pass_end.held absorbed_by
  unfolding absorbed_by
  absorbed_by_holds = follows.holds

  -- where nothing was absorbed it moves nothing
  pub absorbed_by_none : pass_end.absorbed ≡ 0 → (P : W) → absorbed_by.im P ≡ (q0, P)
  unfolding absorbed_by
  absorbed_by_none e P = follows.unmoved e P

  -- what the pass leaves, then F, has the effect of what it was given
  pub stream_pass_sim : Sim (packed l) (ops_of l operations w.store.axes w.items)
      (ops_of l operations after.store.axes after.items) absorbed_by
  unfolding absorbed_by stream_pass
  stream_pass_sim =
      let X = ops_of l operations w.store.axes w.items in
      let axes = pass_end.store.axes in
      let kept = drop_zeros pass_end.out in
      let more = (carry_rows l pass_end w.rows).pass.store.axes in
      subst (λ (Y : List (Op W)). Sim (packed l) X Y follows.F)
      (sym (ops_of_grows l operations axes more (carry_rows_grows l operations pass_end w.rows) kept
      (kept_inside pass_end.out (put_inside _ pass_end.out ended.output))))
      (sim_replace (packed l) X (ops_of l operations axes pass_end.out) (ops_of l operations axes kept) follows.F
      (≈-sym (packed l) (ops_of l operations axes kept) (ops_of l operations axes pass_end.out)
      (drop_zeros_effect (packed l) (word_at l operations axes) (barrier_at l operations axes) pass_end.out)) follows.sim)
    where
      kept_inside : (is : List Item) → AllIn (length pass_end.store.axes) is → AllIn (length pass_end.store.axes) (drop_zeros is)
      kept_inside is h = unfold drop_zeros in (every_keep (λ (i : Item). axis_of i < length pass_end.store.axes) stays is h)

  -- the rows are the images of the rows before
  pub stream_pass_rows : rows_of l operations after.store.axes after.rows
      ≡ map (carry_row (packed l) absorbed_by) (rows_of l operations w.store.axes w.rows)
  unfolding absorbed_by stream_pass
  stream_pass_rows =
      carry_rows_images l operations follows.F pass_end w.rows follows.holds follows.unmoved ended
      (rows_more (Unit {0}) _ _ w.rows grown.longer well.rows)
      ∙ ap (map (carry_row (packed l) follows.F))
      (rows_of_grows l operations w.store.axes pass_end.store.axes grown w.rows well.rows)
