-- Packing stores every root, and refuses by 9 exactly where a root's total phase is odd. Assumes nothing.
use Rattle.std.specs.Prelude.{◌≡◌, refl, ◌≢◌, ◌⊎◌, Bool, true, ◌||◌, ℕ, zero, suc, ◌+◌, ◌-◌, ◌≤◌, ◌<◌, eqb, length, get_or}
use Rattle.std.proofs.Common.{sym, ap, ◌∙◌, subst, inl, inr, true≢false, le_refl, le_trans, add-zero, arith, get_or-set_other, eq-eqb, ne_eqb}
use Rattle.std.proofs.Math.Logic.{⊎_elim}
use Rattle.std.proofs.Math.Bool.{false}
use mathlib.Core.List.{List, [], ◌∷◌, ◌++◌, map}
use Rattle.std.proofs.Math.Decide.{ℕ_discrete}
use Rattle.pauli.specs.Word.{width}
use Rattle.model.specs.Lists.{when◌then◌else◌, keep, numbers_from, is_odd}
use Rattle.model.specs.Program.{Node, identity, letter, product, Kind, rotate, measure, conditional, Operation, PauliRef, Program}
use Rattle.model.specs.Words.{Value, Store, tested}
use Rattle.model.specs.Value.{value_at}
use Rattle.model.specs.Roots.{root_rows, operation_root, roots}
use Rattle.model.specs.Packing.{roots_at, one_use_more, one_use_less, count_children, count_uses, use_counts, Pack, use_node, use_children, take_slot}
use Rattle.model.specs.Packing.{pack_root}
use Rattle.model.specs.Packing.{pack_roots}
use Rattle.model.specs.Packing.{pack_node, pack_from, empty_pack, values_of, packed, signed_axis}
use Rattle.model.specs.Items.{Item}
use Rattle.model.specs.Run.{item_of, items_from, start_of}
use Rattle.theory.specs.ByNode.{ChildrenBefore, Ordered}
use Rattle.theory.specs.Cases.{by_if, on_if, if_true, if_false}
use Rattle.theory.specs.Every.{Every}
use Rattle.theory.specs.Ids.{id_in, Grows, grows_refl, grows_trans, grows_eq, intern_grows, Stored, stored_keeps}
use Rattle.theory.specs.Lists.{map_range}
use Rattle.theory.specs.StreamState.{AllIn, InRange}

-- ---- use counts

more_le : (uses : List ℕ) (i k : ℕ) → get_or uses k 0 ≤ get_or (one_use_more i uses) k 0
unfolding one_use_more
more_le [] i k = le_refl _
more_le (u ∷ uses) zero zero = omega arith
more_le (u ∷ uses) zero (suc k) = le_refl _
more_le (u ∷ uses) (suc i) zero = le_refl _
more_le (u ∷ uses) (suc i) (suc k) = more_le uses i k

count_children_le : (node : Node) (uses : List ℕ) (k : ℕ) → get_or uses k 0 ≤ get_or (count_children node uses) k 0
unfolding count_children
count_children_le identity uses k = le_refl _
count_children_le (letter q c) uses k = le_refl _
count_children_le (product a p b r) uses k = le_trans (more_le uses a k) (more_le (one_use_more a uses) b k)

count_uses_le : (nodes : List Node) (n : ℕ) (uses : List ℕ) (k : ℕ) → get_or uses k 0 ≤ get_or (count_uses nodes n uses) k 0
unfolding count_uses
count_uses_le nodes zero uses k = le_refl _
count_uses_le nodes (suc n) uses k =
    le_trans (by_if (λ (x : List ℕ). get_or uses k 0 ≤ get_or x k 0) _ _ _ (le_refl _) (count_children_le (get_or nodes n identity) uses k))
    (count_uses_le nodes n _ k)

-- a node is used at least once for each root at it
pub counts_le : (nodes : List Node) (rs : List PauliRef) (k : ℕ) → k < length nodes → length (roots_at k rs) ≤ get_or (use_counts nodes rs) k 0
unfolding use_counts
counts_le nodes rs k h =
    let e = map_range (λ n. length (roots_at n rs)) 0 (length nodes) k h in
    let z : length (roots_at (k + 0) rs) ≡ length (roots_at k rs) = ap (λ (n : ℕ). length (roots_at n rs)) (add-zero k) in
    omega (arith, count_uses_le nodes (length nodes) (map (λ n. length (roots_at n rs)) (numbers_from 0 (length nodes))) k)

-- ---- a node's turn leaves the counts of later nodes

pub less_other : (uses : List ℕ) (n k : ℕ) → k ≢ n → get_or (one_use_less n uses) k 0 ≡ get_or uses k 0
unfolding one_use_less
less_other uses n k h = get_or-set_other uses n k (get_or uses n 0 - 1) 0 h

abbrev Later : ℕ → Pack → Pack → Type 0
Later n p q = (k : ℕ) → n < k → get_or q.uses k 0 ≡ get_or p.uses k 0

use_children_later : (n : ℕ) (node : Node) (p : Pack) → ChildrenBefore n node → Later n p (use_children node p)
unfolding use_children use_node
use_children_later n identity p h k b = refl
use_children_later n (letter q c) p h k b = refl
use_children_later n (product a u c v) p h k b =
    less_other (one_use_less a p.uses) c k (λ e. omega arith) ∙ less_other p.uses a k (λ e. omega arith)

take_slot_later : (n l : ℕ) (p : Pack) → Later n p (take_slot l p)
unfolding take_slot
take_slot_later n l p k b = by_if (λ (q : Pack). get_or q.uses k 0 ≡ get_or p.uses k 0) _ _ _ refl refl

pack_root_later : (l n : ℕ) (v : Value) (p : Pack) (r : PauliRef) → Later n p (pack_root l n v p r)
unfolding pack_root use_node
pack_root_later l n v p r k b =
    by_if (λ (q : Pack). get_or q.uses k 0 ≡ get_or p.uses k 0) _ _ _ refl (less_other p.uses n k (λ e. omega arith))

pack_roots_later : (l n : ℕ) (v : Value) (p : Pack) (rs : List PauliRef) → Later n p (pack_roots l n v p rs)
unfolding pack_roots
pack_roots_later l n v p [] k b = refl
pack_roots_later l n v p (r ∷ rs) k b =
    pack_roots_later l n v (when p.refused then p else pack_root l n v p r) rs k b ∙ by_if (λ (q : Pack). get_or q.uses k 0 ≡ get_or p.uses k 0) _ _ _ refl (pack_root_later l n v p r k b)

pack_node_later : (l : ℕ) (rs : List PauliRef) (vs : List Value) (n : ℕ) (node : Node) (p : Pack) → ChildrenBefore n node
    → Later n p (pack_node l rs vs n node p)
unfolding pack_node
pack_node_later l rs vs n node p h k b =
    by_if (λ (q : Pack). get_or q.uses k 0 ≡ get_or p.uses k 0) _ _ _ refl
    (pack_roots_later l n _ (take_slot l (use_children node p)) _ k b ∙ take_slot_later n l (use_children node p) k b
    ∙ use_children_later n node p h k b)

-- ---- roots

-- a root among roots
abbrev pub In : PauliRef → List PauliRef → Type 0
In r [] = ⊥
In r (x ∷ xs) = (x ≡ r) ⊎ In r xs

in_some : (r : PauliRef) (xs : List PauliRef) → In r xs → 0 < length xs
in_some r [] h = absurd h
in_some r (x ∷ xs) h = omega arith

in_roots_at : (r : PauliRef) (rs : List PauliRef) → In r rs → In r (roots_at r.node rs)
unfolding roots_at keep
in_roots_at r [] h = absurd h
in_roots_at r (x ∷ xs) h =
    ⊎_elim
    (λ (e : x ≡ r). rw (if_true _ (keep (λ (y : PauliRef). eqb y.node r.node) xs)
    (eq-eqb x.node r.node (ap (λ (y : PauliRef). y.node) e)))
    (inl e))
    (λ (k : In r xs). by_if (In r) _ _ _ (inr (in_roots_at r xs k)) (in_roots_at r xs k))
    h

-- ---- a refusal stays; the axes grow

pack_root_refused : (l n : ℕ) (v : Value) (p : Pack) (r : PauliRef) → (pack_root l n v p r).refused ≡ false → is_odd (v.turns + r.phase) ≡ false
unfolding pack_root
pack_root_refused l n v p r =
    on_if (λ (q : Pack). q.refused ≡ false → is_odd (v.turns + r.phase) ≡ false) _ _ _ (λ e f. absurd (true≢false f)) (λ e f. e)

pack_roots_stays : (l n : ℕ) (v : Value) (p : Pack) (rs : List PauliRef) → (pack_roots l n v p rs).refused ≡ false → p.refused ≡ false
unfolding pack_roots
pack_roots_stays l n v p [] h = h
pack_roots_stays l n v p (r ∷ rs) h = go p.refused refl (pack_roots_stays l n v (when p.refused then p else pack_root l n v p r) rs h)
  where
    go : (t : Bool) → p.refused ≡ t → (when p.refused then p else pack_root l n v p r).refused ≡ false → p.refused ≡ false
    go true e f = absurd (true≢false (sym e ∙ sym (ap (λ (q : Pack). q.refused) (if_true p (pack_root l n v p r) e)) ∙ f))
    go false e f = e

pack_root_grows : (l n : ℕ) (v : Value) (p : Pack) (r : PauliRef) → Grows p.store.axes (pack_root l n v p r).store.axes
unfolding pack_root use_node
pack_root_grows l n v p r =
    by_if (λ (q : Pack). Grows p.store.axes q.store.axes) _ _ _ (grows_refl _) (intern_grows l _ p.store v.word)

pack_roots_grows : (l n : ℕ) (v : Value) (p : Pack) (rs : List PauliRef) → Grows p.store.axes (pack_roots l n v p rs).store.axes
unfolding pack_roots
pack_roots_grows l n v p [] = grows_refl _
pack_roots_grows l n v p (r ∷ rs) =
    grows_trans (by_if (λ (q : Pack). Grows p.store.axes q.store.axes) p.refused p (pack_root l n v p r) (grows_refl _)
    (pack_root_grows l n v p r))
    (pack_roots_grows l n v (when p.refused then p else pack_root l n v p r) rs)

pack_root_stored : (l n : ℕ) (v : Value) (p : Pack) (r : PauliRef) → (pack_root l n v p r).refused ≡ false
    → Stored (pack_root l n v p r).store.axes v.word
unfolding pack_root use_node
pack_root_stored l n v p r =
    on_if (λ (q : Pack). q.refused ≡ false → Stored q.store.axes v.word) _ _ _ (λ e f. absurd (true≢false f))
    (λ e f. id_in l _ p.store v.word)

-- what is known of a root: its word is stored, its total phase is even
pub record Rooted (axes : List (List ℕ)) (v : Value) (r : PauliRef) : Type 0 where
  pub stored : Stored axes v.word
  pub even : is_odd (v.turns + r.phase) ≡ false

rooted_grows : (xs ys : List (List ℕ)) (v : Value) (r : PauliRef) → Grows xs ys → Rooted xs v r → Rooted ys v r
rooted_grows xs ys v r g h = record { stored = stored_keeps xs ys v.word g h.stored; even = h.even }

pack_roots_rooted : (l n : ℕ) (v : Value) (p : Pack) (rs : List PauliRef) → (pack_roots l n v p rs).refused ≡ false → (r : PauliRef) → In r rs
    → Rooted (pack_roots l n v p rs).store.axes v r
unfolding pack_roots
pack_roots_rooted l n v p [] h r k = absurd k
pack_roots_rooted l n v p (x ∷ rs) h r k =
    let q = when p.refused then p else pack_root l n v p x in
    let f : q.refused ≡ false = pack_roots_stays l n v q rs h in
    let e : q ≡ pack_root l n v p x = if_false p (pack_root l n v p x) (pack_roots_stays l n v p (x ∷ rs) (unfold pack_roots in h)) in
    let g : (pack_root l n v p x).refused ≡ false = rw e at f in
    ⊎_elim
    (λ (y : x ≡ r). rooted_grows q.store.axes _ v r (pack_roots_grows l n v q rs)
    (rw e (record { stored = pack_root_stored l n v p x g; even = rw y at (pack_root_refused l n v p x g) })))
    (λ (y : In r rs). pack_roots_rooted l n v q rs h r y)
    k

-- ---- nodes

-- giving up the children's uses leaves the store, the slots and the refusal
pub children_keep : (node : Node) (k : Pack) → ((use_children node k).store ≡ k.store) × (((use_children node k).slots ≡ k.slots)
    × ((use_children node k).refused ≡ k.refused))
unfolding use_children use_node
children_keep identity k = (refl, (refl, refl))
children_keep (letter q c) k = (refl, (refl, refl))
children_keep (product a u b v) k = (refl, (refl, refl))

-- nor does taking a slot refuse
pub slot_refused : (l : ℕ) (p : Pack) → (take_slot l p).refused ≡ p.refused
unfolding take_slot
slot_refused l p = by_if (λ (q : Pack). q.refused ≡ p.refused) _ _ _ refl refl

pack_node_stays : (l : ℕ) (rs : List PauliRef) (vs : List Value) (n : ℕ) (node : Node) (p : Pack) → (pack_node l rs vs n node p).refused ≡ false
    → p.refused ≡ false
unfolding pack_node
pack_node_stays l rs vs n node p =
    by_if (λ (q : Pack). q.refused ≡ false → p.refused ≡ false) _ _ _ (λ h. h)
    (λ h. same (pack_roots_stays l n _ (take_slot l (use_children node p)) _ h))
  where
    same : (take_slot l (use_children node p)).refused ≡ false → p.refused ≡ false
    same h = sym (children_keep node p).1.1 ∙ sym (slot_refused l (use_children node p)) ∙ h

pack_from_stays : (l : ℕ) (rs : List PauliRef) (vs : List Value) (n : ℕ) (nodes : List Node) (p : Pack)
    → (pack_from l rs vs n nodes p).refused ≡ false
    → p.refused ≡ false
unfolding pack_from
pack_from_stays l rs vs n [] p h = h
pack_from_stays l rs vs n (node ∷ rest) p h = pack_node_stays l rs vs n node p (pack_from_stays l rs vs (suc n) rest _ h)

take_slot_axes : (l : ℕ) (p : Pack) → (take_slot l p).store.axes ≡ p.store.axes
unfolding take_slot tested
take_slot_axes l p = by_if (λ (q : Pack). q.store.axes ≡ p.store.axes) _ _ _ refl refl

pack_node_grows : (l : ℕ) (rs : List PauliRef) (vs : List Value) (n : ℕ) (node : Node) (p : Pack)
    → Grows p.store.axes (pack_node l rs vs n node p).store.axes
unfolding pack_node
pack_node_grows l rs vs n node p =
    by_if (λ (q : Pack). Grows p.store.axes q.store.axes) _ _ _ (grows_refl _)
    (grows_trans (grows_eq (take_slot_axes l (use_children node p) ∙ ap (λ (s : Store). s.axes) (children_keep node p).0))
    (pack_roots_grows l n _ (take_slot l (use_children node p)) _))

pack_from_grows : (l : ℕ) (rs : List PauliRef) (vs : List Value) (n : ℕ) (nodes : List Node) (p : Pack)
    → Grows p.store.axes (pack_from l rs vs n nodes p).store.axes
unfolding pack_from
pack_from_grows l rs vs n [] p = grows_refl _
pack_from_grows l rs vs n (node ∷ rest) p = grows_trans (pack_node_grows l rs vs n node p) (pack_from_grows l rs vs (suc n) rest _)

module _ (l : ℕ) (rs : List PauliRef) (vs : List Value) where
  pack_node_rooted : (n : ℕ) (node : Node) (p : Pack) → 0 < get_or p.uses n 0 → (pack_node l rs vs n node p).refused ≡ false
      → (r : PauliRef) → In r (roots_at n rs) → Rooted (pack_node l rs vs n node p).store.axes (value_at vs n) r
  pack_node_rooted n node p u h r k = rw e (pack_roots_rooted l n (value_at vs n) (take_slot l (use_children node p)) (roots_at n rs) (rw e at h) r k)
    where
      quiet : p.refused || eqb (get_or p.uses n 0) 0 ≡ false
      quiet = rw (pack_node_stays l rs vs n node p h) (ne_eqb (get_or p.uses n 0) 0 (λ z. omega arith))

      e : pack_node l rs vs n node p ≡ pack_roots l n (value_at vs n) (take_slot l (use_children node p)) (roots_at n rs)
      e = unfold pack_node in (if_false _ _ quiet)

  pack_from_rooted : (n : ℕ) (nodes : List Node) (p : Pack) → Ordered n nodes → (pack_from l rs vs n nodes p).refused ≡ false
      → (r : PauliRef) → In r rs → n ≤ r.node → r.node < n + length nodes → 0 < get_or p.uses r.node 0 → Rooted
      (pack_from l rs vs n nodes p).store.axes (value_at vs r.node) r
  unfolding pack_from
  pack_from_rooted n [] p o h r k a b u = absurd (omega arith)
  pack_from_rooted n (node ∷ rest) p o h r k a b u =
      go (ℕ_discrete n r.node)
      (λ lt. pack_from_rooted (suc n) rest (pack_node l rs vs n node p) o.1 h r k lt (omega arith)
      (rw (pack_node_later l rs vs n node p o.0 r.node lt) u))
    where
      q : Pack
      q = pack_node l rs vs n node p

      go : Dec (n ≡ r.node) → (n < r.node → Rooted (pack_from l rs vs (suc n) rest q).store.axes (value_at vs r.node) r)
          → Rooted (pack_from l rs vs (suc n) rest q).store.axes (value_at vs r.node) r
      go (yes e) ih =
          let f : q.refused ≡ false = pack_from_stays l rs vs (suc n) rest q h in
          let w : 0 < get_or p.uses n 0 = rw e u in
          rooted_grows q.store.axes _ (value_at vs r.node) r (pack_from_grows l rs vs (suc n) rest q)
          (subst (λ (i : ℕ). Rooted q.store.axes (value_at vs i) r) e (pack_node_rooted n node p w f r (rw e (in_roots_at r rs k))))
      go (no d) ih = ih (ne_lt n r.node a d)
        where
          ne_lt : (x y : ℕ) → x ≤ y → ¬ (x ≡ y) → x < y
          ne_lt x y h d = omega arith

-- ---- the theorem

-- where packing refused none, every root is stored and its total phase is even
pub packed_rooted : (p : Program) → Ordered 0 p.nodes → (packed p).refused ≡ false → (r : PauliRef) → In r (roots p)
    → r.node < length p.nodes
    → Rooted (packed p).store.axes (value_at (values_of p) r.node) r
unfolding packed
packed_rooted p o h r k b =
    pack_from_rooted (width p.qubits) (roots p) (values_of p) 0 p.nodes (empty_pack p.nodes (roots p)) o h r k (omega arith) (omega arith)
    (unfold empty_pack in
    (le_trans (in_some r (roots_at r.node (roots p)) (in_roots_at r (roots p) k)) (counts_le p.nodes (roots p) r.node b)))

-- ---- the start's axes are in range

module _ (p : Program) (o : Ordered 0 p.nodes) (h : (packed p).refused ≡ false) where
  abbrev axes : List (List ℕ)
  axes = (packed p).store.axes

  abbrev vs : List Value
  vs = values_of p

  item_of_in : (i : ℕ) (kind : Kind) (r : PauliRef) (k : ℕ) → Rooted axes (value_at vs r.node) r
      → AllIn (length axes) (item_of axes i kind (signed_axis axes vs r) k)
  unfolding item_of signed_axis
  item_of_in i rotate r k g = by_if (AllIn (length axes)) _ [] _ tt (g.stored, tt)
  item_of_in i measure r k g = (g.stored, tt)
  item_of_in i conditional r k g = (g.stored, tt)

  in_append : (m : ℕ) (xs ys : List Item) → AllIn m xs → AllIn m ys → AllIn m (xs ++ ys)
  in_append m [] ys a b = b
  in_append m (x ∷ xs) ys a b = (a.0, in_append m xs ys a.1 b)

  items_from_in : (i : ℕ) (ops : List Operation) → Every (λ (op : Operation). op.node < length p.nodes) ops
      → ((r : PauliRef) → In r (map operation_root ops) → In r (roots p)) → AllIn (length axes) (items_from axes vs i ops)
  unfolding items_from
  items_from_in i [] b f = tt
  items_from_in i (op ∷ ops) b f =
      in_append (length axes) (item_of axes i op.kind (signed_axis axes vs (operation_root op)) op.angle) _
      (item_of_in i op.kind (operation_root op) op.angle
      (packed_rooted p o h (operation_root op) (f (operation_root op) (inl refl)) (unfold operation_root in b.0)))
      (items_from_in (suc i) ops b.1 (λ r k. f r (inr k)))

  in_left : (r : PauliRef) (xs ys : List PauliRef) → In r xs → In r (xs ++ ys)
  in_left r [] ys k = absurd k
  in_left r (x ∷ xs) ys k = ⊎_elim (λ (e : x ≡ r). inl e) (λ (y : In r xs). inr (in_left r xs ys y)) k

  -- so the work starts with axes in range
  pub start_range : Every (λ (op : Operation). op.node < length p.nodes) p.operations → InRange (start_of p)
  unfolding start_of
  start_range b = items_from_in 0 p.operations b (λ r k. unfold roots in (in_left r (map operation_root p.operations) (root_rows p) k))
