-- An exchange, from a point of a run to the next. Assumes nothing.
use Rattle.std.specs.Prelude.{◌≡◌, ℕ, ◌+◌}
use Rattle.std.proofs.Math.Path.{refl, sym, ap, subst}
use Rattle.std.proofs.Common.{◌∙◌, arith}
use mathlib.Core.List.{List}
use Rattle.model.specs.declared.Options.{Options}
use Rattle.model.specs.declared.Counters.{Counters}
use Rattle.model.specs.Lists.{any_of, member}
use Rattle.model.specs.Program.{Program}
use Rattle.model.specs.Packing.{SignedAxis}
use Rattle.model.specs.Rules.{Rules, exchange_rules_of, rules_of}
use Rattle.model.specs.Words.{Store}
use Rattle.model.specs.Rounds.{Work, exchange_pass}
use Rattle.theory.specs.Cases.{by_if}
use Rattle.layout.specs.declared.Shape.{Shape}
use Rattle.layout.specs.Shape.{granted_same}
use Rattle.axes.specs.declared.Sizes.{Sizes}
use Rattle.axes.specs.Held.{sizes_of, held_rows, held_as}
use Rattle.work.specs.Work.{FrameIn, frame_other}
use Rattle.run_wellformed.specs.WorkWell.{exchange_work}
use Rattle.exchange.specs.declared.Progress.{Progress}
use Rattle.exchange.specs.Segments.{ExchangePre, Exchanged}
use Rattle.exchange.specs.Pass.{exchange_is}
use Rattle.points.specs.Demands.{exchange_pre}
use Rattle.steps.specs.declared.State.{State}
use Rattle.steps.specs.State.{with_out}
use Rattle.lent_passes.specs.Raised.{more_swaps}
use Rattle.points.specs.Points.{RunAt, SomeRun, OptionsIn, items_few}
use Rattle.points.specs.Counts.{counters_at, with_counts}

-- what an exchange leaves as it was
same_rows : (l : ℕ) (g : Rules) (w : Work) → (exchange_pass l g w).rows ≡ w.rows
unfolding exchange_pass
same_rows l g w = by_if (λ (v : Work). v.rows ≡ w.rows) _ _ _ refl refl

same_merges : (l : ℕ) (g : Rules) (w : Work) → (exchange_pass l g w).merges ≡ w.merges
unfolding exchange_pass
same_merges l g w = by_if (λ (v : Work). v.merges ≡ w.merges) _ _ _ refl refl

same_absorbed : (l : ℕ) (g : Rules) (w : Work) → (exchange_pass l g w).absorbed ≡ w.absorbed
unfolding exchange_pass
same_absorbed l g w = by_if (λ (v : Work). v.absorbed ≡ w.absorbed) _ _ _ refl refl

module _ {z : Shape} (o : Options) {st : State} {s : Sizes} (same : s ≡ sizes_of z st.axes) {ws xs : List ℕ} where
  pub swap_pre : {i : ℕ} → SomeRun z i st ws xs → OptionsIn o → ExchangePre s (exchange_rules_of o) ws xs st.out
  swap_pre a k =
      let r = a.at in
      subst (λ (n : Sizes). ExchangePre n (exchange_rules_of o) ws xs st.out) (sym same)
      (exchange_pre r.granted r.work r.well (exchange_rules_of o) k.candidates)

  -- g are the counters that the pass was lent, h those that it left
  module _ {g h : Counters} (lent : g ≡ counters_at st) {d : Progress} {ys : List ℕ}
      (passed : Exchanged s (exchange_rules_of o) ws xs st.out d ys × (h ≡ more_swaps g d.swaps)) where
    pub swapped_at : {next : State} → next ≡ with_counts h st → (i : ℕ) (p : Program) (w : Work) → RunAt z i st ws xs p w
        → RunAt z (i + 1) (with_out d.out next) ws ys p (exchange_pass z.l (rules_of o) w)
    unfolding rules_of member any_of
    swapped_at f i p w r =
        let x = passed.0 in
        rw (f, passed.1, lent) (
        let g = rules_of o in
        let b = subst (λ (n : Sizes). Exchanged n (exchange_rules_of o) ws xs st.out d ys) same x in
        let e = exchange_is (sizes_of z st.axes) g ws w r.work.axes.are r.work.items b in
        record {
          granted = granted_same r.granted refl x.only.long;
          work = record {
            axes = held_as (held_rows r.work.axes b.only refl) (ap (λ (t : Store). t.axes) e.2);
            peak_is = ap (λ (t : Store). t.peak) (sym e.2) ∙ r.work.peak_is;
            within = r.work.within;
            items = e.0;
            fits = omega (arith, x.fewer, r.work.fits);
            frame = subst (λ (fs : List SignedAxis). FrameIn z p fs ys) (sym (same_rows z.l g w))
                (frame_other b.only refl r.work.frame);
          };
          well = exchange_work g r.well;
          merges = r.merges ∙ sym (same_merges z.l g w);
          swaps = ap (λ (n : ℕ). n + d.swaps) r.swaps ∙ e.1;
          absorbed = r.absorbed ∙ sym (same_absorbed z.l g w);
          few = omega (arith, x.few, r.few, items_few r);
        })
