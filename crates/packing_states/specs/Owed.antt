-- What used nodes owe their children: one use for each time that a node is their child. The use counts cover it. Assumes nothing.
use Rattle.std.specs.Prelude.{◌≡◌, false, List, eqb, get_or}
use Rattle.std.proofs.Math.Path.{refl}
use Rattle.std.proofs.Common.{◌∙◌, le_refl, eqb-true, eq-eqb, ne_eqb}
use Prim.Native.Nat.{ℕ, zero, suc, ◌+◌, ◌-◌, ◌≤◌, ◌<◌}
use native.Mathlib.Omega.{arith}
use Rattle.std.proofs.Math.ListN.{length}
use Rattle.std.proofs.lemmas.Bool.{eqb-false}
use Rattle.model.specs.Lists.{when◌then◌else◌}
use Rattle.model.specs.Program.{Node, identity, PauliRef}
use Rattle.model.specs.Packing.{roots_at, count_children, count_uses, use_counts}
use Rattle.theory.specs.Cases.{on_if, if_true, if_false}
use Rattle.theory.specs.ByNode.{Ordered, children_before}
use Rattle.packing_states.specs.Counts.{edges, edges_later, counted_at, counted_length, count_node}
use Rattle.packing_states.specs.Counts.{root_counts, root_counts_at, root_counts_length}

-- ---- what the used ones of nodes m, m + 1, .. owe node c

unfoldable pub owed_within : List Node → List ℕ → ℕ → ℕ → ℕ → ℕ
owed_within nodes uses c zero m = 0
owed_within nodes uses c (suc k) m =
    (when eqb (get_or uses m 0) 0 then 0 else edges (get_or nodes m identity) c) + owed_within nodes uses c k (suc m)

unfoldable pub owed : List Node → List ℕ → ℕ → ℕ → ℕ
owed nodes uses m c = owed_within nodes uses c (length nodes - m) m

module _ (nodes : List Node) where
  owed_end : (uses : List ℕ) (c : ℕ) → owed nodes uses (length nodes) c ≡ 0
  unfolding owed owed_within
  owed_end uses c = let e : length nodes - length nodes ≡ 0 = omega arith in rw e refl

  owed_step : (uses : List ℕ) (m c : ℕ) → m < length nodes
      → owed nodes uses m c ≡ (when eqb (get_or uses m 0) 0 then 0 else edges (get_or nodes m identity) c) + owed nodes uses (suc m) c
  unfolding owed owed_within
  owed_step uses m c h = let e : length nodes - m ≡ suc (length nodes - suc m) = omega arith in rw e refl

  -- a node that is not used owes nothing
  pub owed_unused : (uses : List ℕ) (m c : ℕ) → m < length nodes → get_or uses m 0 ≡ 0 → owed nodes uses m c ≡ owed nodes uses (suc m) c
  owed_unused uses m c h z =
      let none : ◌≡◌ {A = ℕ} (when eqb (get_or uses m 0) 0 then 0 else edges (get_or nodes m identity) c) 0 =
      if_true _ _ (eq-eqb (get_or uses m 0) 0 z) in
      omega (arith, owed_step uses m c h)

  -- a used one owes each child its use
  pub owed_used : (uses : List ℕ) (m c : ℕ) → m < length nodes → 0 < get_or uses m 0
      → owed nodes uses m c ≡ edges (get_or nodes m identity) c + owed nodes uses (suc m) c
  owed_used uses m c h u =
      let some : (when eqb (get_or uses m 0) 0 then 0 else edges (get_or nodes m identity) c) ≡ edges (get_or nodes m identity) c =
      if_false _ _ (ne_eqb (get_or uses m 0) 0 (λ z. omega arith)) in
      omega (arith, owed_step uses m c h)

  same_within : (xs ys : List ℕ) (c k m : ℕ) → ((i : ℕ) → m ≤ i → i < m + k → get_or ys i 0 ≡ get_or xs i 0)
      → owed_within nodes ys c k m ≡ owed_within nodes xs c k m
  unfolding owed_within
  same_within xs ys c zero m h = refl
  same_within xs ys c (suc k) m h =
      rw (h m (le_refl _) (omega arith), same_within xs ys c k (suc m) (λ i a b. h i (omega arith) (omega arith))) refl

  -- what they owe asks only for the entries from m on
  pub owed_same : (xs ys : List ℕ) (m c : ℕ) → ((i : ℕ) → m ≤ i → i < length nodes → get_or ys i 0 ≡ get_or xs i 0)
      → m ≤ length nodes → owed nodes ys m c ≡ owed nodes xs m c
  unfolding owed
  owed_same xs ys m c h b = same_within xs ys c (length nodes - m) m (λ i u v. h i u (omega arith))

-- ---- the count gives every node what it is owed

-- the entries cover what the nodes from m on owe, and node c's own uses
pub record Enough (nodes : List Node) (own : ℕ → ℕ) (uses : List ℕ) (m : ℕ) : Type 0 where
  pub long : length uses ≡ length nodes
  pub covers : (c : ℕ) → c < length nodes → owed nodes uses m c + own c ≤ get_or uses c 0

module _ (nodes : List Node) (o : Ordered 0 nodes) (own : ℕ → ℕ) where
  enough_step : (uses : List ℕ) (m : ℕ) → m < length nodes → Enough nodes own uses (suc m)
      → Enough nodes own (count_node m (get_or nodes m identity) uses) m
  enough_step uses m h e =
      on_if (λ (x : List ℕ). Enough nodes own x m) (eqb (get_or uses m 0) 0) uses counted
      (λ z. record { long = e.long; covers = λ c b. omega (arith, e.covers c b, owed_unused nodes uses m c h (eqb-true _ 0 z)) })
      (λ z. record { long = counted_length node uses ∙ e.long; covers = λ c b. more c b z })
    where
      node : Node
      node = get_or nodes m identity

      counted : List ℕ
      counted = count_children node uses

      at : (c : ℕ) → c < length nodes → get_or counted c 0 ≡ get_or uses c 0 + edges node c
      at c b = counted_at node uses c (let l = e.long in omega arith)

      later : (i : ℕ) → m ≤ i → i < length nodes → get_or counted i 0 ≡ get_or uses i 0
      later i a b = omega (arith, at i b, edges_later m node (children_before nodes o m h) i a)

      more : (c : ℕ) → c < length nodes → eqb (get_or uses m 0) 0 ≡ false → owed nodes counted m c + own c ≤ get_or counted c 0
      more c b z =
          let u : 0 < get_or counted m 0 = omega (arith, later m (le_refl _) h, eqb-false (get_or uses m 0) 0 z) in
          omega (
            arith,
            e.covers c b,
            at c b,
            owed_used nodes counted m c h u,
            owed_same nodes uses counted (suc m) c (λ i a d. later i (omega arith) d) h,
          )

  enough_counted : (m : ℕ) (uses : List ℕ) → m ≤ length nodes → Enough nodes own uses m → Enough nodes own (count_uses nodes m uses) 0
  unfolding count_uses
  enough_counted zero uses h e = e
  enough_counted (suc m) uses h e = enough_counted m (count_node m (get_or nodes m identity) uses) (omega arith) (enough_step uses m h e)

-- the uses of each node at the start: its roots, and what the used products owe it
pub counts_enough : (nodes : List Node) (rs : List PauliRef) → Ordered 0 nodes
    → Enough nodes (λ c. length (roots_at c rs)) (use_counts nodes rs) 0
unfolding use_counts
counts_enough nodes rs o =
    enough_counted nodes o (λ c. length (roots_at c rs)) (length nodes) (root_counts rs (length nodes)) (le_refl _)
    (record {
      long = root_counts_length rs (length nodes);
      covers = λ c b. omega (arith, owed_end nodes (root_counts rs (length nodes)) c, root_counts_at rs (length nodes) c b);
    })
