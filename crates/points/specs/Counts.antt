-- The run's counters: three numbers of its state between passes, and counters while a pass is lent them. Assumes nothing.
use Rattle.std.specs.Prelude.{◌≡◌, refl, List, ℕ, ◌+◌, ◌<◌, ◌^◌}
use Rattle.std.proofs.Common.{arith}
use Rattle.model.specs.declared.Counters.{Counters}
use Rattle.model.specs.Interface.{no_counters}
use Rattle.layout.specs.declared.Shape.{Shape}
use Rattle.steps.specs.declared.State.{State}
use Rattle.steps.specs.State.{with_merges, with_swaps, with_absorbed}
use Rattle.lent_passes.specs.Counted.{Room}
use Rattle.points.specs.Points.{SomeRun, items_few}

-- the counters that a pass is lent
abbrev pub counters_at : State → Counters
counters_at st = record {
  t_before = 0;
  t_after = 0;
  rotations_before = 0;
  rotations_after = 0;
  merges = st.merges;
  swaps = st.swaps;
  cliffords_to_frame = st.absorbed;
  t_depth_before = 0;
  t_depth_after = 0;
  weight_before = 0;
  weight_after = 0;
  packed_words = 0;
}

-- counters at 0, these three set
pub counters_set : (st : State) {c : Counters} → c ≡ no_counters
    → ◌≡◌ {A = Counters} (record {
      t_before = c.t_before;
      t_after = c.t_after;
      rotations_before = c.rotations_before;
      rotations_after = c.rotations_after;
      merges = st.merges;
      swaps = st.swaps;
      cliffords_to_frame = st.absorbed;
      t_depth_before = c.t_depth_before;
      t_depth_after = c.t_depth_after;
      weight_before = c.weight_before;
      weight_after = c.weight_after;
      packed_words = c.packed_words;
    }) (counters_at st)
counters_set st e = rw e refl

-- the state with the counters that a pass left
abbrev pub with_counts : Counters → State → State
with_counts h st = with_absorbed h.cliffords_to_frame (with_swaps h.swaps (with_merges h.merges st))

-- a run's counters, which are lent as g, have room for one pass more
module _ {z : Shape} {st : State} {ws xs : List ℕ} (s : SomeRun z 511 st ws xs) {g : Counters} (lent : g ≡ counters_at st) where
  pub stream_room : Room g
  stream_room = rw lent (record { merges = omega (arith, s.at.few); absorbed = omega (arith, s.at.few) })

  pub exchange_room : g.swaps + st.out < 2 ^ 64
  exchange_room = rw lent (omega (arith, s.at.few, items_few s.at))

  pub layering_room : g.merges + st.out < 2 ^ 64
  layering_room = rw lent (omega (arith, s.at.few, items_few s.at))
