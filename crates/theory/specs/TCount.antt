-- All passes: the T-count and the number of items never rise, and more rounds leave no higher T-count. Assumes nothing.
use Rattle.std.specs.Prelude.{ℕ, ◌≤◌, length}
use Rattle.std.proofs.Common.{arith}
use Rattle.model.specs.declared.Strategy.{Strategy}
use Rattle.model.specs.Rules.{Rules}
use Rattle.model.specs.Items.{t_count}
use Rattle.model.specs.Rounds.{Work, passes}
use Rattle.theory.specs.Measure.{t_of, one_each, t_measure, one_measure, size_of_t_count, size_of_length}
use Rattle.theory.specs.MoreRounds.{more_rounds, passes_no_more}

module _ (s : Strategy) (l : ℕ) (r : Rules) where
  -- the passes never raise the T-count
  pub passes_t_count : (k : ℕ) (w : Work) → t_count (passes s l r k w).items ≤ t_count w.items
  passes_t_count k w =
      omega (arith, passes_no_more t_of t_measure s l r k w, size_of_t_count (passes s l r k w).items, size_of_t_count w.items)

  -- nor the number of items
  pub passes_length : (k : ℕ) (w : Work) → length (passes s l r k w).items ≤ length w.items
  passes_length k w =
      omega (arith, passes_no_more one_each one_measure s l r k w, size_of_length (passes s l r k w).items, size_of_length w.items)

  -- with more rounds the T-count is no higher
  pub more_rounds_t_count : (k k' : ℕ) (w : Work) → k ≤ k' → t_count (passes s l r k' w).items ≤ t_count (passes s l r k w).items
  more_rounds_t_count k k' w h =
      omega (
        arith,
        more_rounds t_of t_measure s l r k k' w h,
        size_of_t_count (passes s l r k' w).items,
        size_of_t_count (passes s l r k w).items,
      )
