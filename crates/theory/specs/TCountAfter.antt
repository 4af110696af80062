-- Demand 3: the counter `T after` never exceeds that of fewer rounds. Assumes nothing.
use Rattle.std.specs.Prelude.{◌≡◌, ℕ, ◌+◌, ◌%◌, ◌≤◌, eqb}
use Rattle.std.proofs.Math.Path.{refl, ap}
use Rattle.std.proofs.Common.{sym, ◌∙◌, eqb-true}
use mathlib.Core.List.{List, [], ◌∷◌, map}
use native.Mathlib.Omega.{arith}
use Rattle.std.proofs.lemmas.Bool.{eqb-false}
use Rattle.pauli.specs.Word.{width}
use Rattle.model.specs.declared.Strategy.{Strategy}
use Rattle.model.specs.Lists.{when◌then◌else◌, count_of, sum_of}
use Rattle.model.specs.Program.{Kind, rotate, measure, conditional, Operation, Program}
use Rattle.model.specs.Rules.{Rules}
use Rattle.model.specs.Items.{Rot, Item, rotation, barrier, with_sign, t_count}
use Rattle.model.specs.Rounds.{Work, passes}
use Rattle.model.specs.Results.{operation_at, barrier_record, item_record, operation_results, result_t_count}
use Rattle.theory.specs.Cases.{by_if, on_if}
use Rattle.theory.specs.TCount.{more_rounds_t_count}
use Rattle.theory.specs.StreamState.{barriers_of, InRange}
use Rattle.theory.specs.Steady.{passes_steady}

-- a test as a number
pub is_odd_number : (k : ℕ) → (when eqb (k % 2) 1 then 1 else 0) ≡ k % 2
is_odd_number k =
    on_if (λ (x : ℕ). x ≡ k % 2) _ _ _ (λ e. sym (eqb-true (k % 2) 1 e)) (λ e. let n : k % 2 ≡ 1 → ⊥ = eqb-false (k % 2) 1 e in omega arith)

with_sign_parity : (s k : ℕ) → k ≤ 7 → with_sign s k % 2 ≡ k % 2
unfolding with_sign
with_sign_parity s k h = by_if (λ (x : ℕ). x % 2 ≡ k % 2) _ _ _ refl (omega arith)

-- what a barrier of operation o adds
unfoldable pub kind_odd : Kind → ℕ → ℕ
kind_odd rotate k = 0
kind_odd measure k = 0
kind_odd conditional k = k % 2

-- what all barriers add
unfoldable pub barriers_odd : List Operation → List ℕ → ℕ
unfolding kind_odd
barriers_odd ops = sum_of (λ o. kind_odd (operation_at ops o).kind (operation_at ops o).angle)

records_cons : (x : List ℕ) (xs : List (List ℕ)) → result_t_count (x ∷ xs) ≡ result_t_count (x ∷ []) + result_t_count xs
unfolding result_t_count count_of
records_cons x xs = omega arith

barrier_odd : (op : Operation) (kind : Kind) (a s : ℕ) → op.angle ≤ 7 → result_t_count (barrier_record op kind a s ∷ []) ≡ kind_odd kind op.angle
unfolding result_t_count count_of barrier_record kind_odd when◌then◌else◌
barrier_odd op rotate a s h = refl
barrier_odd op measure a s h = refl
barrier_odd op conditional a s h = omega (arith, is_odd_number (with_sign s op.angle), with_sign_parity s op.angle h)

rotation_odd : (ops : List Operation) (r : Rot) → result_t_count (item_record ops (rotation r) ∷ []) ≡ r.angle % 2
unfolding result_t_count count_of item_record
rotation_odd ops r = omega (arith, is_odd_number r.angle)

-- the T-count of an item more
pub t_count_rotation : (r : Rot) (is : List Item) → t_count (rotation r ∷ is) ≡ r.angle % 2 + t_count is
unfolding t_count sum_of
t_count_rotation r is = refl

-- a barrier adds none
pub t_count_barrier : (o a s : ℕ) (is : List Item) → t_count (barrier o a s ∷ is) ≡ t_count is
unfolding t_count sum_of
t_count_barrier o a s is = omega arith

module _ (ops : List Operation) (small : (o : ℕ) → (operation_at ops o).angle ≤ 7) where
  -- one barrier more
  pub barrier_one : (o : ℕ) (os : List ℕ)
      → barriers_odd ops (o ∷ os) ≡ kind_odd (operation_at ops o).kind (operation_at ops o).angle + barriers_odd ops os
  unfolding barriers_odd sum_of
  barrier_one o os = refl

  records_odd : (is : List Item) → result_t_count (map (item_record ops) is) ≡ t_count is + barriers_odd ops (barriers_of is)
  unfolding barriers_of
  records_odd [] = unfold result_t_count count_of t_count sum_of barriers_odd in refl
  records_odd (rotation r ∷ is) =
      omega (arith, records_cons (item_record ops (rotation r)) (map (item_record ops) is), rotation_odd ops r, records_odd is, t_count_rotation r is)
  records_odd (barrier o a s ∷ is) =
      omega (
        arith,
        records_cons (item_record ops (barrier o a s)) (map (item_record ops) is),
        one o a s,
        records_odd is,
        t_count_barrier o a s is,
        barrier_one o (barriers_of is),
      )
    where
      one : (o a s : ℕ) → result_t_count (item_record ops (barrier o a s) ∷ []) ≡ kind_odd (operation_at ops o).kind (operation_at ops o).angle
      one o a s = unfold item_record in (barrier_odd (operation_at ops o) (operation_at ops o).kind a s (small o))

-- ---- the theorem: a start whose axes are in range, angles from 0 to 7

module _ (p : Program) (small : (o : ℕ) → (operation_at p.operations o).angle ≤ 7) (w : Work) (range : InRange w) (s : Strategy) (r : Rules) where
  -- a result's T-count: that of the rotations left, and what the barriers of the start add
  pub after : (k : ℕ)
      → result_t_count (operation_results p (passes s (width p.qubits) r k w)) ≡ t_count (passes s (width p.qubits) r k w).items + barriers_odd
      p.operations (barriers_of w.items)
  unfolding operation_results
  after k =
      records_odd p.operations small (passes s (width p.qubits) r k w).items
      ∙ ap (λ (x : List ℕ). t_count (passes s (width p.qubits) r k w).items + barriers_odd p.operations x)
      (passes_steady s (width p.qubits) r k w range).barriers

  -- with more rounds a result's T-count is no higher
  pub more_rounds_after : (k k' : ℕ) → k ≤ k'
      → result_t_count (operation_results p (passes s (width p.qubits) r k' w)) ≤ result_t_count
      (operation_results p (passes s (width p.qubits) r k w))
  more_rounds_after k k' h = omega (arith, after k, after k', more_rounds_t_count s (width p.qubits) r k k' w h)
