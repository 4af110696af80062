-- Demand 3 about the call Rewriting: T-count against the source and against fewer rounds; limits are in Limit. Assumes nothing.
use Rattle.std.specs.Prelude.{◌≡◌, refl, false, not, ◌&&◌, List, [], ◌∷◌, ◌++◌, ℕ, suc, ◌+◌, ◌%◌, ◌≤◌, drop}
use Rattle.std.proofs.Common.{ap, ◌∙◌, le_refl, arith}
use Rattle.pauli.specs.Word.{width}
use Rattle.model.specs.declared.Strategy.{Strategy}
use Rattle.model.specs.Lists.{when◌then◌else◌, count_of, sum_of, is_odd}
use Rattle.model.specs.Program.{Kind, rotate, measure, conditional, is_measure, Operation, Program}
use Rattle.model.specs.Rules.{Rules}
use Rattle.model.specs.Words.{Value}
use Rattle.model.specs.Roots.{operation_root}
use Rattle.model.specs.Packing.{packed, SignedAxis, signed_axis}
use Rattle.model.specs.Items.{Item, with_sign, t_count}
use Rattle.model.specs.Rounds.{passes}
use Rattle.model.specs.Run.{item_of, items_from, start_of}
use Rattle.model.specs.Results.{no_operation, operation_at, operation_results, source_t_count, result_t_count}
use Rattle.theory.specs.Cases.{by_if}
use Rattle.theory.specs.Lists.{sum_of_append, drop_head}
use Rattle.theory.specs.TCount.{passes_t_count}
use Rattle.theory.specs.StreamState.{barriers_of, barriers_of_append, InRange}
use Rattle.theory.specs.TCountAfter.{is_odd_number, kind_odd, barriers_odd, after, more_rounds_after}
use Rattle.theory.specs.PackedRoots.{start_range}
use Rattle.theory.specs.Checked.{angles_small, Fine}

-- what one operation adds to the source's T-count
op_odd : Kind → ℕ → ℕ
op_odd rotate k = k % 2
op_odd measure k = 0
op_odd conditional k = k % 2

ops_cons : (op : Operation) (ops : List Operation) → source_t_count (op ∷ ops) ≡ op_odd op.kind op.angle + source_t_count ops
unfolding source_t_count count_of op_odd when◌then◌else◌
ops_cons op ops = go op.kind
  where
    go : (k : Kind) → (when not (is_measure k) && is_odd op.angle then 1 else 0) + source_t_count ops ≡ op_odd k op.angle + source_t_count ops
    go rotate = omega (arith, is_odd_number op.angle)
    go measure = refl
    go conditional = omega (arith, is_odd_number op.angle)

t_count_append : (xs ys : List Item) → t_count (xs ++ ys) ≡ t_count xs + t_count ys
unfolding t_count
t_count_append xs ys = sum_of_append _ xs ys

barriers_odd_append : (ops : List Operation) (xs ys : List ℕ) → barriers_odd ops (xs ++ ys) ≡ barriers_odd ops xs + barriers_odd ops ys
unfolding barriers_odd
barriers_odd_append ops xs ys = sum_of_append _ xs ys

with_sign_odd : (s k : ℕ) → with_sign s k % 2 ≤ k % 2
unfolding with_sign
with_sign_odd s k = by_if (λ (x : ℕ). x % 2 ≤ k % 2) _ _ _ (le_refl _) (omega arith)

-- T-count of a list of items, with what its barriers add
abbrev whole : List Operation → List Item → ℕ
whole ops is = t_count is + barriers_odd ops (barriers_of is)

whole_append : (ops : List Operation) (xs ys : List Item) → whole ops (xs ++ ys) ≡ whole ops xs + whole ops ys
whole_append ops xs ys =
    omega (arith, t_count_append xs ys, ap (barriers_odd ops) (barriers_of_append xs ys) ∙ barriers_odd_append ops (barriers_of xs) (barriers_of ys))

item_odd : (ops : List Operation) (axes : List (List ℕ)) (i : ℕ) (kind : Kind) (f : SignedAxis) (k : ℕ) → (operation_at ops i).kind ≡ kind
    → (operation_at ops i).angle ≡ k
    → whole ops (item_of axes i kind f k) ≤ op_odd kind k
unfolding item_of op_odd t_count sum_of barriers_of barriers_odd kind_odd
item_odd ops axes i rotate f k a b = by_if (λ (x : List Item). whole ops x ≤ k % 2) _ [] _ (omega arith) (omega (arith, with_sign_odd f.sign k))
item_odd ops axes i measure f k a b = rw a (omega arith)
item_odd ops axes i conditional f k a b = rw (a, b) (omega arith)

items_odd : (ops : List Operation) (axes : List (List ℕ)) (vs : List Value) (i : ℕ) (rest : List Operation) → drop i ops ≡ rest
    → whole ops (items_from axes vs i rest) ≤ source_t_count rest
unfolding items_from
items_odd ops axes vs i [] h = unfold t_count sum_of barriers_of barriers_odd source_t_count count_of in (le_refl _)
items_odd ops axes vs i (op ∷ rest) h =
    let d = drop_head ops i op no_operation rest h in
    let one = item_of axes i op.kind (signed_axis axes vs (operation_root op)) op.angle in
    omega (
      arith,
      whole_append ops one (items_from axes vs (suc i) rest),
      item_odd ops axes i op.kind (signed_axis axes vs (operation_root op)) op.angle (ap (λ (o : Operation). o.kind) d.0)
          (ap (λ (o : Operation). o.angle) d.0),
      items_odd ops axes vs (suc i) rest d.1,
      ops_cons op rest,
    )

-- ---- the theorems

module _ (p : Program) (fine : Fine p) (hermitian : (packed p).refused ≡ false) (s : Strategy) (r : Rules) where
  abbrev result : ℕ → ℕ
  result k = result_t_count (operation_results p (passes s (width p.qubits) r k (start_of p)))

  small : (o : ℕ) → (operation_at p.operations o).angle ≤ 7
  small = angles_small p.operations fine.angles

  inside : InRange (start_of p)
  inside = start_range p fine.ordered hermitian fine.operations

  -- more rounds never leave a higher T-count
  pub more_rounds_no_more : (k k' : ℕ) → k ≤ k' → result k' ≤ result k
  more_rounds_no_more k k' h = more_rounds_after p small (start_of p) inside s r k k' h

  -- a result has at most the source's T-count
  pub source_no_more : (k : ℕ) → result k ≤ source_t_count p.operations
  source_no_more k =
      omega (arith, after p small (start_of p) inside s r k, passes_t_count s (width p.qubits) r k (start_of p), start)
    where
      start : whole p.operations (start_of p).items ≤ source_t_count p.operations
      start = unfold start_of in (items_odd p.operations _ _ 0 p.operations refl)
