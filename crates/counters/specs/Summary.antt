-- All counters of an accepted run, and that they are 01's. Assumes nothing.
use Rattle.std.specs.Prelude.{◌≡◌, List, ℕ, ◌*◌, ◌≤◌, length}
use Rattle.std.proofs.Math.Path.{refl}
use Rattle.std.proofs.Common.{◌∙◌}
use Rattle.model.specs.declared.Counters.{Counters}
use Rattle.model.specs.Lists.{count_of}
use Rattle.model.specs.Program.{Program}
use Rattle.model.specs.Rules.{Rules}
use Rattle.model.specs.Items.{is_rotation}
use Rattle.model.specs.Run.{Finished}
use Rattle.model.specs.Results.{source_t_count, source_rotations, source_weight, depth_of, counters_of}
use Rattle.theory.specs.Every.{Every}
use Rattle.theory.specs.StreamState.{AllIn, barriers_of}
use Rattle.layout.specs.declared.Shape.{Shape}
use Rattle.layout.specs.Rows.{items_row}
use Rattle.layout.specs.Shape.{Granted}
use Rattle.records.specs.Operations.{operations_in}
use Rattle.records.specs.Given.{Given, program_in}
use Rattle.items.specs.View.{items_in}
use Rattle.work.specs.Work.{WorkIn}
use Rattle.results.specs.Barriers.{BarrierOf}
use Rattle.counters.specs.declared.RunCounts.{RunCounts}
use Rattle.counters.specs.After.{TCountAfter}
use Rattle.counters.specs.Weight.{WeightPre, WeightAfter}
use Rattle.counters.specs.Ended.{t_before_is, rotations_before_is, t_after_is, rotations_after_is, weight_pre, weight_after_is}

pub record SummaryPre (z : Shape) (os ws xs : List ℕ) (k : ℕ) : Type 0 where
  pub records : z.operations * 6 ≤ length os
  pub weight : WeightPre os ws xs z.u z.l k

-- c has the run's counts, and what is counted over operations and items
pub record Summed (z : Shape) (os ws xs : List ℕ) (k : ℕ) (n : RunCounts) (c : Counters) : Type 0 where
  pub t_before_lem : c.t_before ≡ source_t_count (operations_in z.operations os)
  pub t_after_lem : TCountAfter os xs z.u k c.t_after
  pub rotations_before_lem : c.rotations_before ≡ source_rotations (operations_in z.operations os)
  pub rotations_after_lem : c.rotations_after ≡ count_of is_rotation (items_in xs z.u items_row 0 k)
  pub merges : c.merges ≡ n.merges
  pub swaps : c.swaps ≡ n.swaps
  pub absorbed : c.cliffords_to_frame ≡ n.absorbed
  pub depth_before_lem : c.t_depth_before ≡ n.depth_before
  pub depth_after_lem : c.t_depth_after ≡ n.depth_after
  pub weight_before_lem : c.weight_before ≡ n.weight_before
  pub weight_after_lem : WeightAfter os ws xs z.u z.l k c.weight_after
  pub packed_words_lem : c.packed_words ≡ n.peak

-- n has what the run counted: merges, swaps, what was absorbed, both depths, the source's weight, the largest word sum
pub record CountsOf (r : Rules) (p : Program) (f : Finished) (n : RunCounts) : Type 0 where
  pub merges : n.merges ≡ f.end.merges
  pub swaps : n.swaps ≡ f.end.swaps
  pub absorbed : n.absorbed ≡ f.end.absorbed
  pub depth_before_lem : n.depth_before ≡ depth_of r p f.start
  pub depth_after_lem : n.depth_after ≡ depth_of r p f.end
  pub weight_before_lem : n.weight_before ≡ source_weight p
  pub peak : n.peak ≡ f.end.store.peak

module _ {z : Shape} {ns os rs : List ℕ} (given : Given z ns os rs) (f : Finished) {n k peak : ℕ} {ws xs : List ℕ}
    (granted : Granted z ws xs) (work : WorkIn z (program_in z ns os rs) f.end n k peak ws xs)
    (barriers : Every (BarrierOf (program_in z ns os rs).operations) (barriers_of f.end.items))
    (range : AllIn (length f.end.store.axes) f.end.items) where
  pub summary_pre : SummaryPre z os ws xs k
  summary_pre = record {
    records = given.operations_long;
    weight = weight_pre given granted work barriers range;
  }

  -- 01's counters
  pub summary_is : (r : Rules) (counts : RunCounts) {c : Counters} → CountsOf r (program_in z ns os rs) f counts
      → Summed z os ws xs k counts c → c ≡ counters_of r (program_in z ns os rs) f
  unfolding counters_of
  summary_is r counts {c} a s =
      rw (
        t_before_is z ns os rs s.t_before_lem,
        t_after_is given granted work barriers s.t_after_lem,
        rotations_before_is z ns os rs s.rotations_before_lem,
        rotations_after_is given granted work barriers s.rotations_after_lem,
        s.merges ∙ a.merges,
        s.swaps ∙ a.swaps,
        s.absorbed ∙ a.absorbed,
        s.depth_before_lem ∙ a.depth_before_lem,
        s.depth_after_lem ∙ a.depth_after_lem,
        s.weight_before_lem ∙ a.weight_before_lem,
        weight_after_is given granted work barriers range s.weight_after_lem,
        s.packed_words_lem ∙ a.peak,
      ) refl
