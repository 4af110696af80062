-- Every point of a run has the effect of the program that was handed in. Assumes nothing.
use Rattle.std.specs.Prelude.{◌≡◌, Bool, false, length}
use Rattle.std.proofs.Math.Path.{refl, ap₂}
use Rattle.std.proofs.Common.{sym, ◌∙◌, ap, subst, arith}
use mathlib.Core.List.{List, [], ◌∷◌, map}
use Prim.Native.Nat.{ℕ, ◌+◌}
use Rattle.pauli.specs.Word.{width}
use Rattle.model.specs.Program.{Program}
use Rattle.model.specs.Rules.{Rules}
use Rattle.model.specs.Roots.{root_rows}
use Rattle.model.specs.Packing.{packed}
use Rattle.model.specs.Items.{Item, rotation, barrier}
use Rattle.model.specs.Rounds.{Work, stream_pass, exchange_pass, layering_pass}
use Rattle.model.specs.Run.{start_of}
use Rattle.theory.specs.Cases.{by_if}
use Rattle.theory.specs.Every.{Every}
use Rattle.theory.specs.StreamState.{AllIn}
use Rattle.theory.specs.Checked.{Fine}
use Rattle.words_wellformed.specs.PassWords.{WellItem}
use Rattle.words_wellformed.specs.RunWords.{WellWork}
use Rattle.run_wellformed.specs.Points.{Reached, start, streamed, exchanged, layered}
use Rattle.run_wellformed.specs.Signs.{point_well}
use Rattle.effect.specs.Phase.{Quarter, q0, add4_zero, ◌⊞₄◌}
use Rattle.effect.specs.Words.{Setting}
use Rattle.effect.specs.Effect.{Op}
use Rattle.effect.specs.Effect as Effect
use Rattle.effect.proofs.Equal.{≈-sym}
use Rattle.effect.proofs.Clifford.{Cliff, carry_row}
use Rattle.effect.specs.Packed.{Packed}
use Rattle.effect.specs.Packed as PackedWords
use Rattle.items_effect.specs.Ops.{item_ops}
use Rattle.items_effect.specs.AxisWords.{Sound}
use Rattle.items_effect.specs.Segments.{OnRotation}
use Rattle.packing_effect.specs.Source.{source_ops, source_row, axis_word, barrier_op}
use Rattle.packing_effect.specs.Packing.{start_of_effect, start_of_rows}
use Rattle.exchange_effect.specs.Pass.{exchange_pass_effect, exchange_pass_store}
use Rattle.layering_effect.specs.Layering.{layering_pass_effect}
use Rattle.stream_effect.specs.PackedAxes.{packed_word, packed_word_identity}
use Rattle.stream_effect.specs.StreamPass.{pass_end, absorbed_by, absorbed_by_holds, absorbed_by_none, stream_pass_sim, stream_pass_rows}
use Rattle.result_effect.specs.Definitions.{work_rows_from}
use Rattle.result_effect.specs.Rows.{point_rows_length}
use Rattle.run_effect.specs.Same.{SameEffect, same_trans, same_ops, same_sim}
use Rattle.run_effect.specs.StoredAxes.{stored_axes, stored_axes_word}
use Rattle.run_effect.specs.FrameRows.{rows_moved, rows_source, root_less_row}

module _ (p : Program) (fine : Fine p) (hermitian : (packed p).refused ≡ false) (r : Rules) where
  abbrev l : ℕ
  l = width p.qubits

  abbrev W : Type 0
  W = Packed l

  abbrev H : Setting
  H = PackedWords.packed l

  -- the operations and the rows of the program that was handed in
  abbrev X : List (Op W)
  X = source_ops (packed_word l) p

  abbrev rows : List (Quarter × W)
  rows = map (source_row (packed_word l) p) p.rows

  -- those of a point
  abbrev pub point_ops : Work → List (Op W)
  point_ops v = item_ops (axis_word (packed_word l) v.store.axes) (barrier_op (packed_word l) p.operations v.store.axes) v.items

  abbrev pub point_rows : Work → List (Quarter × W)
  point_rows v = work_rows_from (packed_word l) p v.store.axes p.rows v.rows

  -- the effect is kept, and the rows are the source's where nothing was absorbed
  pub record Keeps (v : Work) : Type 0 where
    pub effect : SameEffect H X rows (point_ops v) (point_rows v)
    pub kept : v.absorbed ≡ 0 → point_rows v ≡ rows

  start_rows : point_rows (start_of p) ≡ rows
  start_rows =
      rows_source (packed_word l) p (start_of p).store.axes p.rows (start_of p).rows
      (start_of_rows (packed_word l) p fine hermitian ∙ unfold root_rows in refl)

  start_keeps : Keeps (start_of p)
  start_keeps = record {
    effect =
        subst (SameEffect H X rows (point_ops (start_of p))) (sym start_rows)
        (same_ops H X (point_ops (start_of p)) rows (≈-sym H (point_ops (start_of p)) X
        (start_of_effect H (packed_word l) p (packed_word_identity l) fine hermitian)));
    kept = λ e. start_rows;
  }

  -- ---- a stream

  module _ (v : Work) (reached : Reached l r (start_of p) v) (merging : Bool) where
    abbrev F : Cliff H
    F = absorbed_by l p.operations r merging v (point_well p fine hermitian r reached)

    stream_rows : point_rows (stream_pass l r merging v) ≡ map (carry_row H F) (point_rows v)
    stream_rows =
        rows_moved (packed_word l) p (carry_row H F) v.store.axes (stream_pass l r merging v).store.axes p.rows v.rows
        (stream_pass l r merging v).rows
        (λ f i e. root_less_row p fine hermitian r reached merging F
        (absorbed_by_holds l p.operations r merging v (point_well p fine hermitian r reached)) f i e)
        (point_rows_length p r reached ∙ unfold root_rows in refl)
        (stream_pass_rows l p.operations r merging v (point_well p fine hermitian r reached))

    still : (rows : List (Quarter × W)) → ((P : W) → F.im P ≡ (q0, P)) → map (carry_row H F) rows ≡ rows
    unfolding carry_row
    still [] h = refl
    still (a ∷ rows) h =
        ap₂ (λ (x : Quarter × W) (xs : List (Quarter × W)). x ∷ xs)
        (ap (λ (b : Quarter × W). (a.0 ⊞₄ b.0, b.1)) (h a.1) ∙ (λ i. (add4_zero a.0 i, a.1))) (still rows h)

    stream_keeps : Keeps v → Keeps (stream_pass l r merging v)
    stream_keeps h = record {
      effect =
          subst (SameEffect H X rows (point_ops (stream_pass l r merging v))) (sym stream_rows)
          (same_trans H X (point_ops v) (point_ops (stream_pass l r merging v)) rows (point_rows v) (map (carry_row H F) (point_rows v)) h.effect
          (same_sim H (point_ops v) (point_ops (stream_pass l r merging v)) F (point_rows v)
          (stream_pass_sim l p.operations r merging v (point_well p fine hermitian r reached))));
      kept = λ e.
          let none : v.absorbed + (pass_end l p.operations r merging v (point_well p fine hermitian r reached)).absorbed ≡ 0 =
          unfold stream_pass in e in
          stream_rows
          ∙ still (point_rows v) (absorbed_by_none l p.operations r merging v (point_well p fine hermitian r reached) (omega arith))
          ∙ h.kept (omega arith);
    }

  -- ---- a pass that rewrites segments: the store and the rows stay

  rewritten_keeps : (v u : Work) → u.store ≡ v.store → u.rows ≡ v.rows → u.absorbed ≡ v.absorbed
      → Effect.◌≈◌ H (item_ops (axis_word (packed_word l) v.store.axes) (barrier_op (packed_word l) p.operations v.store.axes) u.items)
      (point_ops v)
      → Keeps v → Keeps u
  rewritten_keeps v u e f g ops h = record {
    effect =
        same_trans H X (point_ops v) (point_ops u) rows (point_rows v) (point_rows u) h.effect
        (subst (SameEffect H (point_ops v) (point_rows v) (point_ops u)) (sym same_rows)
        (same_ops H (point_ops v) (point_ops u) (point_rows v)
        (subst (λ (Y : List (Op W)). Effect.◌≈◌ H (point_ops v) Y) (sym same_items) (≈-sym H (item_ops _ _ u.items) (point_ops v) ops))));
    kept = λ z. same_rows ∙ h.kept (sym g ∙ z);
  }
    where
      same_rows : point_rows u ≡ point_rows v
      same_rows = rw (e, f) refl

      same_items : point_ops u
          ≡ item_ops (axis_word (packed_word l) v.store.axes) (barrier_op (packed_word l) p.operations v.store.axes) u.items
      same_items = rw e refl

  module _ (v : Work) (reached : Reached l r (start_of p) v) where
    abbrev axes : List (List ℕ)
    axes = v.store.axes

    well : WellWork l (Unit {0}) v
    well = point_well p fine hermitian r reached

    sound : (is : List Item) → Every (WellItem (Unit {0}) (length axes)) is → Every (OnRotation (Sound axes)) is
    sound [] h = tt
    sound (rotation t ∷ is) h = ((h.0.0, omega (arith, (h.0.1 tt).1)), sound is h.1)
    sound (barrier o a s ∷ is) h = (tt, sound is h.1)

    inside : (is : List Item) → Every (WellItem (Unit {0}) (length axes)) is → AllIn (length axes) is
    inside [] h = tt
    inside (rotation t ∷ is) h = (h.0.0, inside is h.1)
    inside (barrier o a s ∷ is) h = (h.0.0, inside is h.1)

    exchange_keeps : Keeps v → Keeps (exchange_pass l r v)
    exchange_keeps h =
        rewritten_keeps v (exchange_pass l r v) (exchange_pass_store l r v)
        (unfold exchange_pass in (by_if (λ (x : Work). x.rows ≡ v.rows) _ _ _ refl refl))
        (unfold exchange_pass in (by_if (λ (x : Work). x.absorbed ≡ v.absorbed) _ _ _ refl refl))
        (subst (λ (word : ℕ → W). Effect.◌≈◌ H (item_ops word (barrier_op (packed_word l) p.operations axes) (exchange_pass l r v).items)
        (item_ops word (barrier_op (packed_word l) p.operations axes) v.items)) (stored_axes_word l axes well.stored)
        (exchange_pass_effect H l r v (stored_axes l axes well.stored) (sound v.items well.items)
        (barrier_op (packed_word l) p.operations axes))) h

    layering_keeps : Keeps v → Keeps (layering_pass l v)
    layering_keeps h =
        rewritten_keeps v (layering_pass l v) (unfold layering_pass in refl) (unfold layering_pass in refl) (unfold layering_pass in refl)
        (subst (λ (word : ℕ → W). Effect.◌≈◌ H (item_ops word (barrier_op (packed_word l) p.operations axes) (layering_pass l v).items)
        (item_ops word (barrier_op (packed_word l) p.operations axes) v.items)) (stored_axes_word l axes well.stored)
        (layering_pass_effect H l (barrier_op (packed_word l) p.operations axes) v (stored_axes l axes well.stored)
        (inside v.items well.items))) h

  -- ---- the theorem: any passes, in any order

  pub point_keeps : {v : Work} → Reached l r (start_of p) v → Keeps v
  point_keeps start = start_keeps
  point_keeps (streamed {v} merging h) = stream_keeps v h merging (point_keeps h)
  point_keeps (exchanged {v} h) = exchange_keeps v h (point_keeps h)
  point_keeps (layered {v} h) = layering_keeps v h (point_keeps h)
