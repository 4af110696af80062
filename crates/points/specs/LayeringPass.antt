-- Layering, from a point of a run to the next. Assumes nothing.
use Rattle.std.specs.Prelude.{◌≡◌, List, ℕ, ◌+◌}
use Rattle.std.proofs.Math.Path.{refl, ap, subst}
use Rattle.std.proofs.Common.{sym, ◌∙◌, arith}
use Rattle.model.specs.Lists.{any_of, member}
use Rattle.model.specs.declared.Counters.{Counters}
use Rattle.model.specs.Program.{Program}
use Rattle.model.specs.Interface.{defaults_at}
use Rattle.model.specs.Rules.{Rules, rules_of}
use Rattle.model.specs.Rounds.{Work, layering_pass}
use Rattle.layout.specs.declared.Shape.{Shape}
use Rattle.layout.specs.Shape.{granted_same}
use Rattle.axes.specs.declared.Sizes.{Sizes}
use Rattle.axes.specs.Held.{sizes_of, held_rows, held_as}
use Rattle.work.specs.Work.{FrameIn, frame_other}
use Rattle.run_wellformed.specs.WorkWell.{layering_work}
use Rattle.layering.specs.declared.Layering.{Layering}
use Rattle.layering.specs.Demands.{LayeringPre, LayeredAs}
use Rattle.layering.specs.LayeringPass.{layered_pass}
use Rattle.steps.specs.declared.State.{State}
use Rattle.steps.specs.State.{with_out}
use Rattle.lent_passes.specs.Raised.{more_merges}
use Rattle.points.specs.Demands.{layering_pre}
use Rattle.points.specs.Points.{RunAt, SomeRun, items_few}
use Rattle.points.specs.Counts.{counters_at, with_counts}

-- layering goes by no rules
any_rules : Rules
any_rules = rules_of (defaults_at 0)

module _ {z : Shape} {st : State} {s : Sizes} (same : s ≡ sizes_of z st.axes) {ws xs : List ℕ} where
  pub layer_pre : {i : ℕ} → SomeRun z i st ws xs → LayeringPre s ws xs st.out
  layer_pre a =
      let r = a.at in
      subst (λ (n : Sizes). LayeringPre n ws xs st.out) (sym same) (layering_pre r.granted r.work r.well)

  -- g are the counters that the pass was lent, h those that it left
  module _ {g h : Counters} (lent : g ≡ counters_at st) {d : Layering} {ys : List ℕ}
      (passed : LayeredAs s ws xs st.out d ys × (h ≡ more_merges g d.merged)) where
    pub layered_at : {next : State} → next ≡ with_counts h st → (i : ℕ) (p : Program) (w : Work) → RunAt z i st ws xs p w
        → RunAt z (i + 1) (with_out d.out next) ws ys p (layering_pass z.l w)
    unfolding member any_of
    layered_at f i p w r =
        let x = passed.0 in
        rw (f, passed.1, lent) (
        let b = subst (λ (n : Sizes). LayeredAs n ws xs st.out d ys) same x in
        let e = layered_pass b w r.work.axes (sym r.work.items) in
        record {
          granted = granted_same r.granted refl x.only.long;
          work = record {
            axes = held_as (held_rows r.work.axes b.only refl) (ap (λ (v : Work). v.store.axes) (sym e));
            peak_is = ap (λ (v : Work). v.store.peak) e ∙ r.work.peak_is;
            within = r.work.within;
            items = ap (λ (v : Work). v.items) (sym e);
            fits = omega (arith, x.size, r.work.fits);
            frame = subst (λ (v : Work). FrameIn z p v.rows ys) (sym e) (frame_other b.only refl r.work.frame);
          };
          well = layering_work any_rules r.well;
          merges = ap (λ (n : ℕ). n + d.merged) r.merges ∙ ap (λ (v : Work). v.merges) (sym e);
          swaps = r.swaps ∙ ap (λ (v : Work). v.swaps) (sym e);
          absorbed = r.absorbed ∙ ap (λ (v : Work). v.absorbed) (sym e);
          few = omega (arith, x.size, r.few, items_few r);
        })
