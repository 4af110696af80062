-- The counters, one of them raised. Assumes nothing.
use Rattle.std.specs.Prelude.{ℕ, ◌+◌}
use Rattle.model.specs.declared.Counters.{Counters}

abbrev pub more_merges : Counters → ℕ → Counters
more_merges c n =
    record {
      t_before = c.t_before;
      t_after = c.t_after;
      rotations_before = c.rotations_before;
      rotations_after = c.rotations_after;
      merges = c.merges + n;
      swaps = c.swaps;
      cliffords_to_frame = c.cliffords_to_frame;
      t_depth_before = c.t_depth_before;
      t_depth_after = c.t_depth_after;
      weight_before = c.weight_before;
      weight_after = c.weight_after;
      packed_words = c.packed_words;
    }

abbrev pub more_swaps : Counters → ℕ → Counters
more_swaps c n =
    record {
      t_before = c.t_before;
      t_after = c.t_after;
      rotations_before = c.rotations_before;
      rotations_after = c.rotations_after;
      merges = c.merges;
      swaps = c.swaps + n;
      cliffords_to_frame = c.cliffords_to_frame;
      t_depth_before = c.t_depth_before;
      t_depth_after = c.t_depth_after;
      weight_before = c.weight_before;
      weight_after = c.weight_after;
      packed_words = c.packed_words;
    }

abbrev pub more_absorbed : Counters → ℕ → Counters
more_absorbed c n =
    record {
      t_before = c.t_before;
      t_after = c.t_after;
      rotations_before = c.rotations_before;
      rotations_after = c.rotations_after;
      merges = c.merges;
      swaps = c.swaps;
      cliffords_to_frame = c.cliffords_to_frame + n;
      t_depth_before = c.t_depth_before;
      t_depth_after = c.t_depth_after;
      weight_before = c.weight_before;
      weight_after = c.weight_after;
      packed_words = c.packed_words;
    }
