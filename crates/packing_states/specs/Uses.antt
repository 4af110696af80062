-- No use is missing: when a used node has its turn, its children and its roots still have their uses. Assumes nothing.
use Rattle.std.specs.Prelude.{◌≡◌, Bool, true, List, ℕ, zero, suc, ◌+◌, ◌-◌, ◌≤◌, ◌<◌, eqb, length}
use Rattle.std.proofs.Math.Path.{refl}
use Rattle.std.proofs.Common.{sym, ap, ◌∙◌, true≢false, le_refl, arith, eq-eqb}
use Rattle.std.proofs.Math.Bool.{false}
use Rattle.std.proofs.Math.Decide.{ℕ_discrete}
use Rattle.std.proofs.Math.ListN.{get_or}
use Rattle.model.specs.Lists.{when◌then◌else◌}
use Rattle.model.specs.Program.{Node, identity, product, PauliRef, Program}
use Rattle.model.specs.Words.{Value}
use Rattle.model.specs.Roots.{roots}
use Rattle.model.specs.Packing.{one_use_less, Pack, use_node, use_children, take_slot, pack_root, empty_pack}
use Rattle.theory.specs.Cases.{by_if, on_if, if_true, if_false}
use Rattle.theory.specs.ByNode.{Ordered, children_before}
use Rattle.theory.specs.PackedRoots.{less_other}
use Rattle.theory.specs.Checked.{Fine}
use Rattle.packing_states.specs.References.{reference_at, total, root_of}
use Rattle.packing_states.specs.ReferenceLaws.{roots_from, roots_from_end, roots_from_step, roots_from_all, roots_from_none}
use Rattle.packing_states.specs.States.{node_at, before, slotted, within}
use Rattle.packing_states.specs.StateLaws.{skip_reference, pack_reference_lem, before_unused, before_used, refused_before, refused_within}
use Rattle.packing_states.specs.Counts.{less_same, less_at, edges, edges_later, used_at}
use Rattle.packing_states.specs.Owed.{owed, owed_unused, owed_used, owed_same, counts_enough}

-- ---- what the entries cover before reference j within node n's turn: what the nodes from m on owe, and the roots that are left

record Covers (p : Program) (n j m : ℕ) (uses : List ℕ) : Type 0 where
  own : n < length p.nodes → owed p.nodes uses m n + roots_from p n j ≤ get_or uses n 0
  earlier : (c : ℕ) → c < n → owed p.nodes uses m c ≤ get_or uses c 0
  later : (c : ℕ) → n < c → c < length p.nodes → owed p.nodes uses m c + roots_from p c 0 ≤ get_or uses c 0

module _ (p : Program) (o : Ordered 0 p.nodes) where
  start : Covers p 0 0 0 (before p 0).uses
  unfolding before empty_pack
  start =
      let e = counts_enough p.nodes (roots p) o in
      record {
        own = λ b. omega (arith, e.covers 0 b, roots_from_all p 0);
        earlier = λ c b. absurd (omega arith);
        later = λ c a b. omega (arith, e.covers c b, roots_from_all p c);
      }

  -- a used node pays its children
  children : (n : ℕ) (k : Pack) → n < length p.nodes → 0 < get_or k.uses n 0 → Covers p n 0 n k.uses
      → Covers p n 0 (suc n) (use_children (node_at p n) k).uses
  unfolding node_at
  children n k b u h = record {
    own = λ c. omega (arith, h.own c, at n, paid n);
    earlier = λ c d. omega (arith, h.earlier c d, at c, paid c);
    later = λ c d e. omega (arith, h.later c d e, at c, paid c);
  }
    where
      node : Node
      node = get_or p.nodes n identity

      used : List ℕ
      used = (use_children node k).uses

      at : (c : ℕ) → get_or used c 0 ≡ get_or k.uses c 0 - edges node c
      at c = used_at node k c

      same : (i : ℕ) → suc n ≤ i → i < length p.nodes → get_or used i 0 ≡ get_or k.uses i 0
      same i d e = omega (arith, at i, edges_later n node (children_before p.nodes o n b) i (omega arith))

      paid : (c : ℕ) → owed p.nodes k.uses n c ≡ edges node c + owed p.nodes used (suc n) c
      paid c = omega (arith, owed_used p.nodes k.uses n c b u, owed_same p.nodes k.uses used (suc n) c same b)

module _ (p : Program) where
  -- a node that is not used pays nobody, and has no roots
  unused : (n : ℕ) (uses : List ℕ) → n < length p.nodes → get_or uses n 0 ≡ 0 → Covers p n 0 n uses → Covers p n (total p) (suc n) uses
  unused n uses b z h = record {
    own = λ c. omega (arith, h.own c, owed_unused p.nodes uses n n b z, roots_from_end p n);
    earlier = λ c d. omega (arith, h.earlier c d, owed_unused p.nodes uses n c b z);
    later = λ c d e. omega (arith, h.later c d e, owed_unused p.nodes uses n c b z);
  }

  -- a reference that is no root
  skip : (n j : ℕ) (uses : List ℕ) → j < total p → root_of p n j ≡ false → Covers p n j (suc n) uses → Covers p n (suc j) (suc n) uses
  skip n j uses b f h = record {
    own = λ c.
        let none : ◌≡◌ {A = ℕ} (when root_of p n j then 1 else 0) 0 = if_false _ _ f in
        omega (arith, h.own c, roots_from_step p n j b);
    earlier = h.earlier;
    later = h.later;
  }

  -- a root takes one of the node's uses
  root : (n j : ℕ) (uses : List ℕ) → n < length p.nodes → j < total p → root_of p n j ≡ true → Covers p n j (suc n) uses
      → Covers p n (suc j) (suc n) (one_use_less n uses)
  root n j uses b d f h = record {
    own = λ c.
        let one : ◌≡◌ {A = ℕ} (when root_of p n j then 1 else 0) 1 = if_true _ _ f in
        omega (arith, h.own c, roots_from_step p n j d, less_same uses n, same n);
    earlier = λ c e. omega (arith, h.earlier c e, same c, less_other uses n c (λ z. omega arith));
    later = λ c e g. omega (arith, h.later c e g, same c, less_other uses n c (λ z. omega arith));
  }
    where
      same : (c : ℕ) → owed p.nodes (one_use_less n uses) (suc n) c ≡ owed p.nodes uses (suc n) c
      same c = owed_same p.nodes uses (one_use_less n uses) (suc n) c (λ i u v. less_other uses n i (λ z. omega arith)) b

  -- the next node's turn
  next : (n : ℕ) (uses : List ℕ) → n < length p.nodes → Covers p n (total p) (suc n) uses → Covers p (suc n) 0 (suc n) uses
  next n uses b h = record {
    own = λ c. h.later (suc n) (omega arith) c;
    earlier = λ c d. go c d (ℕ_discrete c n);
    later = λ c d e. h.later c (omega arith) e;
  }
    where
      go : (c : ℕ) → c < suc n → Dec (c ≡ n) → owed p.nodes uses (suc n) c ≤ get_or uses c 0
      go c d (yes e) = rw e (omega (arith, h.own b))
      go c d (no ne) = h.earlier c (omega arith)

-- ---- uses, from state to state

take_slot_uses : (l : ℕ) (k : Pack) → (take_slot l k).uses ≡ k.uses
unfolding take_slot
take_slot_uses l k = by_if (λ (q : Pack). q.uses ≡ k.uses) _ _ _ refl refl

-- a node that takes its slot has used its children
slotted_uses : (p : Program) (n : ℕ) → (slotted p n).uses ≡ (use_children (node_at p n) (before p n)).uses
unfolding slotted
slotted_uses p n = take_slot_uses _ (use_children (node_at p n) (before p n))

pack_root_uses : (l n : ℕ) (v : Value) (k : Pack) (r : PauliRef) → (pack_root l n v k r).refused ≡ false
    → (pack_root l n v k r).uses ≡ one_use_less n k.uses
unfolding pack_root use_node
pack_root_uses l n v k r =
    on_if (λ (q : Pack). q.refused ≡ false → q.uses ≡ one_use_less n k.uses) _ _ _ (λ e f. absurd (true≢false f)) (λ e f. refl)

-- a root that is packed uses its node
root_uses : (p : Program) (n j : ℕ) → root_of p n j ≡ true → (within p n j).refused ≡ false → (within p n (suc j)).refused ≡ false
    → (within p n (suc j)).uses ≡ one_use_less n (within p n j).uses
root_uses p n j e f g =
    let step = pack_reference_lem p n j e f in
    rw step (pack_root_uses _ n _ (within p n j) (reference_at p j) (rw step at g))

not_yet : (x y : Pack) → (x.refused ≡ true → y ≡ x) → y.refused ≡ false → x.refused ≡ false
not_yet x y h f = go x.refused refl
  where
    go : (b : Bool) → x.refused ≡ b → x.refused ≡ false
    go true e = absurd (true≢false (sym e ∙ ap (λ (k : Pack). k.refused) (sym (h e)) ∙ f))
    go false e = e

-- what is not refused now was not refused before
not_refused_before : (p : Program) (n m : ℕ) → n ≤ m → (before p m).refused ≡ false → (before p n).refused ≡ false
not_refused_before p n m h f = not_yet (before p n) (before p m) (λ r. refused_before p n m r h) f

-- within a node's turn too
not_refused_within : (p : Program) (n j i : ℕ) → j ≤ i → (within p n i).refused ≡ false → (within p n j).refused ≡ false
not_refused_within p n j i h f = not_yet (within p n j) (within p n i) (λ r. refused_within p n j i r h) f

module _ (p : Program) (o : Ordered 0 p.nodes) where
  covers_within : (n : ℕ) → n < length p.nodes → 0 < get_or (before p n).uses n 0 → Covers p n 0 n (before p n).uses
      → (j : ℕ) → j ≤ total p → (within p n j).refused ≡ false → Covers p n j (suc n) (within p n j).uses
  covers_within n b u h zero c f = unfold within in (rw (slotted_uses p n) (children p o n (before p n) b u h))
  covers_within n b u h (suc j) c f = go (root_of p n j) refl (covers_within n b u h j (omega arith) g)
    where
      g : (within p n j).refused ≡ false
      g = not_refused_within p n j (suc j) (omega arith) f

      go : (t : Bool) → root_of p n j ≡ t → Covers p n j (suc n) (within p n j).uses → Covers p n (suc j) (suc n) (within p n (suc j)).uses
      go true e k = rw (root_uses p n j e g f) (root p n j (within p n j).uses b c e k)
      go false e k = rw (skip_reference p n j e) (skip p n j (within p n j).uses c e k)

  covers_before : (n : ℕ) → n ≤ length p.nodes → (before p n).refused ≡ false → Covers p n 0 n (before p n).uses
  covers_before zero b f = start p o
  covers_before (suc n) b f = next p n _ b (go (ℕ_discrete (get_or (before p n).uses n 0) 0) (covers_before n (omega arith) g))
    where
      g : (before p n).refused ≡ false
      g = not_refused_before p n (suc n) (omega arith) f

      go : Dec (get_or (before p n).uses n 0 ≡ 0) → Covers p n 0 n (before p n).uses → Covers p n (total p) (suc n) (before p (suc n)).uses
      go (yes z) h = rw (before_unused p n z) (unused p n (before p n).uses b z h)
      go (no ne) h =
          let u : 0 < get_or (before p n).uses n 0 = omega arith in
          let e = before_used p n g u in
          rw e (covers_within n b u h (total p) (le_refl _) (rw e at f))

-- ---- no use is missing

itself : (a : ℕ) → ◌≡◌ {A = ℕ} (when eqb a a then 1 else 0) 1
itself a = if_true _ _ (eq-eqb a a refl)

module _ (p : Program) (fine : Fine p) (n : ℕ) (b : n < length p.nodes) where
  -- children stand before their product
  pub children_below : {a u c v : ℕ} → node_at p n ≡ product a u c v → (a < n) × (c < n)
  unfolding node_at
  children_below e = rw e at (children_before p.nodes fine.ordered n b)

  module _ (f : (before p n).refused ≡ false) where
    covered : Covers p n 0 n (before p n).uses
    covered = covers_before p fine.ordered n (omega arith) f

    -- a node without uses has no roots
    pub unused_no_roots : get_or (before p n).uses n 0 ≡ 0 → (j : ℕ) → j < total p → root_of p n j ≡ false
    unused_no_roots z j c = roots_from_none p n (omega (arith, covered.own b)) j c

    module _ (u : 0 < get_or (before p n).uses n 0) where
      owed_child : (c : ℕ) → c < n → edges (node_at p n) c ≤ get_or (before p n).uses c 0
      unfolding node_at
      owed_child c d = omega (arith, covered.earlier c d, owed_used p.nodes (before p n).uses n c b u)

      -- the children of a product have a use left, also where both are the same node
      pub children_used : {a x c y : ℕ} → node_at p n ≡ product a x c y
          → (0 < get_or (before p n).uses a 0) × (0 < get_or (one_use_less a (before p n).uses) c 0)
      unfolding edges
      children_used {a} {x} {c} {y} e =
          let below = children_below e in
          let first = rw e at (owed_child a below.0) in
          let second = rw e at (owed_child c below.1) in
          (omega (arith, itself a, first), omega (arith, itself c, second, less_at (before p n).uses a c))

      -- and so has the node for each of its roots
      pub root_used : (j : ℕ) → j < total p → root_of p n j ≡ true → (within p n j).refused ≡ false → 0 < get_or (within p n j).uses n 0
      root_used j c e g =
          let one : ◌≡◌ {A = ℕ} (when root_of p n j then 1 else 0) 1 = if_true _ _ e in
          omega (arith, (covers_within p fine.ordered n b u covered j (omega arith) g).own b, roots_from_step p n j c)
