-- One use more; counting the uses of one node's children, and of all nodes', the last node first. Assumes nothing.
use Rattle.std.specs.Prelude.{◌≡◌, refl, Bool, true, false, List, [], ◌∷◌, eqb, length, get_or, set, take}
use Rattle.std.proofs.Math.Path.{sym, ap}
use Rattle.std.proofs.Common.{◌∙◌, subst, get_or-take, eq-eqb, ne_eqb}
use Prim.Native.Nat.{ℕ, suc, ◌+◌, ◌-◌, ◌*◌, ◌≤◌, ◌<◌}
use native.Mathlib.Omega.{arith}
use Rattle.std.proofs.Math.Seq.{take-set-lt}
use Rattle.store.specs.Row.{row, row_length, Written}
use Rattle.model.specs.Lists.{when◌then◌else◌}
use Rattle.model.specs.Program.{Node, identity, letter, product}
use Rattle.model.specs.Packing.{one_use_more, count_children, count_uses}
use Rattle.theory.specs.Cases.{by_if, if_true, if_false}
use Rattle.theory.specs.ByNode.{ChildrenBefore, OfChildren, children_of}
use Rattle.layout.specs.Rows.{row_count, uses_row, entries, entries_at, written_row}
use Rattle.layout.specs.Only.{Only, only_none, only_then, only_written}
use Rattle.records.specs.declared.Factor.{Factor}
use Rattle.records.specs.declared.NodeRecord.{NodeRecord}
use Rattle.records.specs.declared.NodeRecord.TheVariants.{Identity, Letter, Product}
use Rattle.records.specs.Records.{node_record, node_said}
use Rattle.records.specs.Nodes.{nodes_in, node_here, node_here_lem}
use Rattle.packing_states.specs.Counts.{more_at, count_node, count_node_most}
use Rattle.packing_states.specs.NodeRows.{children_here, node_in_rows}
use Rattle.roots.specs.UseCounts.{AddPre, Added, UsePre, ChildrenUsed, CountPre, UsesCounted}

-- ---- one use more

pub added : {s t : List ℕ} {u n x : ℕ} → AddPre s u n → x ≡ get_or (row s u uses_row) n 0 → Written s u uses_row n (x + 1) t → Added s u n t
unfolding one_use_more
added {s} {t} {u} {n} {x} pre e w = record {
  only = only_written pre.long (omega arith) pre.node w;
  uses = written_row pre.long (omega arith) pre.node w
      ∙ ap (set (row s u uses_row) n) (let z : x + 1 ≡ suc (get_or (row s u uses_row) n 0) = omega arith in z);
}

-- ---- one node

-- no product
abbrev IsLeaf : Node → Type 0
IsLeaf identity = Unit {0}
IsLeaf (letter q c) = Unit {0}
IsLeaf (product a p b q) = ⊥

leaf_counts : (node : Node) (uses : List ℕ) → IsLeaf node → count_children node uses ≡ uses
unfolding count_children
leaf_counts identity uses h = refl
leaf_counts (letter q c) uses h = refl
leaf_counts (product a p b q) uses h = absurd h

leaf_of : (x : NodeRecord) → ((a b : Factor) → x ≡ Product a b → ⊥) → IsLeaf (node_said x)
leaf_of Identity other = tt
leaf_of (Letter q c) other = tt
leaf_of (Product a b) other = other a b refl

pub leaf_used : (ns s : List ℕ) (u n : ℕ) {x : NodeRecord} → x ≡ node_record ns n → ((a b : Factor) → x ≡ Product a b → ⊥)
    → ChildrenUsed ns s u n s
leaf_used ns s u n {x} here other =
    let uses = row s u uses_row in
    let same = ap (λ (y : NodeRecord). count_children (node_said y) uses) (sym here) ∙ leaf_counts (node_said x) uses (leaf_of x other) in
    record { only = only_none _ u s; uses = by_if (λ (y : List ℕ). uses ≡ y) _ _ _ refl (sym same) }

pub unused : (ns s : List ℕ) (u n : ℕ) → get_or (row s u uses_row) n 0 ≡ 0 → ChildrenUsed ns s u n s
unused ns s u n e = record { only = only_none _ u s; uses = sym (if_true _ _ (eq-eqb (get_or (row s u uses_row) n 0) 0 e)) }

module _ {ns s : List ℕ} {u n : ℕ} {a b : Factor} (here : Product a b ≡ node_record ns n) where
  module _ (pre : UsePre ns s u n) where
    inside : (a.node < u) × (b.node < u)
    inside = subst (λ (x : NodeRecord). OfChildren (λ i. i < u) (node_said x)) (sym here) pre.node.children

    few_uses : (get_or (row s u uses_row) a.node 0 < 4294967294) × (get_or (row s u uses_row) b.node 0 < 4294967294)
    few_uses =
        subst (λ (x : NodeRecord). OfChildren (λ m. get_or (row s u uses_row) m 0 < 4294967294) (node_said x)) (sym here) pre.uses

    pub first_add : AddPre s u a.node
    first_add = record { long = pre.node.long; node = inside.0; uses = omega (arith, few_uses.0) }

    pub second_add : {s₁ : List ℕ} → Added s u a.node s₁ → AddPre s₁ u b.node
    second_add w =
        let long : b.node < length (row s u uses_row) =
        omega (arith, inside.1, row_length s u row_count uses_row pre.node.long (let z : uses_row < row_count = omega arith in z)) in
        record {
          long = omega (arith, pre.node.long, w.only.long);
          node = inside.1;
          uses = rw (w.uses, more_at (row s u uses_row) a.node b.node long)
              (by_if (λ (k : ℕ). get_or (row s u uses_row) b.node 0 + k < 4294967295) (eqb a.node b.node) 1 0
              (omega (arith, few_uses.1)) (omega (arith, few_uses.1)));
        }

  pub both_used : {s₁ t : List ℕ} → (get_or (row s u uses_row) n 0 ≡ 0 → ⊥) → Added s u a.node s₁ → Added s₁ u b.node t → ChildrenUsed ns s u n t
  unfolding count_children
  both_used ne w v = record {
    only = only_then w.only v.only;
    uses = v.uses ∙ ap (one_use_more b.node) w.uses
        ∙ sym (if_false _ _ (ne_eqb (get_or (row s u uses_row) n 0) 0 ne)
        ∙ ap (λ (x : NodeRecord). count_children (node_said x) (row s u uses_row)) (sym here));
  }

-- ---- the counted entries of the row

take_more : (count a : ℕ) (uses : List ℕ) → a < count → take count (one_use_more a uses) ≡ one_use_more a (take count uses)
unfolding one_use_more
take_more count a uses h =
    take-set-lt count uses a (suc (get_or uses a 0)) h ∙ ap (λ (v : ℕ). set (take count uses) a (suc v)) (sym (get_or-take count uses a 0 h))

take_children : (count n : ℕ) (node : Node) (uses : List ℕ) → n < count → ChildrenBefore n node
    → take count (count_children node uses) ≡ count_children node (take count uses)
unfolding count_children
take_children count n identity uses h c = refl
take_children count n (letter q x) uses h c = refl
take_children count n (product a p b q) uses h c =
    take_more count b (one_use_more a uses) (omega arith) ∙ ap (one_use_more b) (take_more count a uses (omega arith))

take_if : (count : ℕ) (t : Bool) (x y : List ℕ) → take count (when t then x else y) ≡ (when t then take count x else take count y)
unfolding when◌then◌else◌
take_if count true x y = refl
take_if count false x y = refl

take_node : (count n : ℕ) (node : Node) (uses : List ℕ) → n < count → ChildrenBefore n node
    → take count (count_node n node uses) ≡ count_node n node (take count uses)
take_node count n node uses h c =
    take_if count _ uses (count_children node uses) ∙ rw (get_or-take count uses n 0 h, take_children count n node uses h c) refl

-- ---- all nodes

module _ (ns s : List ℕ) (u count : ℕ) where
  -- the uses that nodes n and later make are counted
  pub record UsesAt (n : ℕ) (x : List ℕ) : Type 0 where
    pub most : n ≤ count
    pub only : Only (uses_row ∷ []) u s x
    pub uses : count_uses (nodes_in count ns) n (entries x u uses_row count) ≡ count_uses (nodes_in count ns) count (entries s u uses_row count)
    pub small : (m : ℕ) → m < count → get_or (entries x u uses_row count) m 0 ≤ 73727 + 2 * (count - n)

  pub uses_start : CountPre ns s u count → UsesAt count s
  uses_start pre = record {
    most = omega arith;
    only = only_none _ u s;
    uses = refl;
    small = λ m b. omega (arith, pre.uses m b);
  }

  module _ (pre : CountPre ns s u count) (n : ℕ) (x : List ℕ) (h : 0 < n) (i : UsesAt n x) where
    below : n - 1 < count
    below = omega (arith, i.most)

    long : row_count * u ≤ length x
    long = omega (arith, pre.nodes.long, i.only.long)

    few : (m : ℕ) → m < n - 1 → get_or (row x u uses_row) m 0 < 4294967294
    few m b =
        let e = entries_at x u uses_row count long (let z : uses_row < row_count = omega arith in z) pre.nodes.fits m (omega arith) in
        omega (arith, e, i.small m (omega (arith, i.most)), pre.few)

    pub uses_need : UsePre ns x u (n - 1)
    uses_need = record {
      node = node_in_rows pre.nodes (n - 1) below i.only.long;
      uses = children_of (n - 1) (node_here ns (n - 1)) (children_here pre.nodes (n - 1) below) few;
    }

    module _ (y : List ℕ) (w : ChildrenUsed ns x u (n - 1) y) where
      counted : entries y u uses_row count ≡ count_node (n - 1) (node_here ns (n - 1)) (entries x u uses_row count)
      unfolding entries
      counted =
          ap (take count) w.uses
          ∙ take_node count (n - 1) (node_here ns (n - 1)) (row x u uses_row) below (children_here pre.nodes (n - 1) below)

      counts : count_uses (nodes_in count ns) (n - 1) (entries y u uses_row count) ≡ count_uses (nodes_in count ns) n (entries x u uses_row count)
      unfolding count_uses
      counts =
          let e : n ≡ suc (n - 1) = omega arith in
          let here = node_here_lem count ns (n - 1) below in
          rw (counted, sym here) (sym (ap (λ (k : ℕ). count_uses (nodes_in count ns) k (entries x u uses_row count)) e))

      pub uses_turn : UsesAt (n - 1) y
      uses_turn = record {
        most = omega arith;
        only = only_then i.only w.only;
        uses = counts ∙ i.uses;
        small = λ m b.
            let most = count_node_most (n - 1) (node_here ns (n - 1)) (entries x u uses_row count) m in
            rw counted (omega (arith, most, i.small m b, i.most));
      }

  pub uses_end : {n : ℕ} {x : List ℕ} → n ≡ 0 → UsesAt n x → UsesCounted ns s u count x
  unfolding count_uses
  uses_end {n} {x} e i = record { only = i.only; uses = rw e at i.uses }
