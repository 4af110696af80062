-- Nodes in order, children before their products; lists that are built node by node: values, mentions. Assumes nothing.
use Rattle.std.specs.Prelude.{◌≡◌, List, [], ◌∷◌, ◌++◌, ℕ, zero, suc, ◌+◌, ◌<◌, length, get_or}
use Rattle.std.proofs.Common.{sym, ap, ◌∙◌, zero-add, add-zero, arith, length-append}
use Rattle.std.proofs.Math.ListN.{get_or-append}
use Rattle.std.proofs.Math.Seq.{get_or-append_seam}
use Rattle.model.specs.Program.{Node, identity, letter, product}

-- ---- the order of nodes

-- children stand before
abbrev pub ChildrenBefore : ℕ → Node → Type 0
ChildrenBefore n identity = Unit {0}
ChildrenBefore n (letter q c) = Unit {0}
ChildrenBefore n (product a p b r) = (a < n) × (b < n)

-- from node n on, children stand before their products
abbrev pub Ordered : ℕ → List Node → Type 0
Ordered n [] = Unit {0}
Ordered n (node ∷ rest) = ChildrenBefore n node × Ordered (suc n) rest

-- in a list whose first node has number n, node k's children stand before it
ordered_at : (n : ℕ) (nodes : List Node) (k : ℕ) → Ordered n nodes → k < length nodes → ChildrenBefore (k + n) (get_or nodes k identity)
ordered_at n [] k o h = absurd (omega arith)
ordered_at n (node ∷ rest) zero o h = rw zero-add o.0
ordered_at n (node ∷ rest) (suc k) o h =
    let e : k + suc n ≡ suc k + n = omega arith in
    rw e at (ordered_at (suc n) rest k o.1 (omega arith))

-- a node's children stand before it
pub children_before : (nodes : List Node) → Ordered 0 nodes → (n : ℕ) → n < length nodes → ChildrenBefore n (get_or nodes n identity)
children_before nodes o n h = let e : n + 0 ≡ n = add-zero n in rw e at (ordered_at 0 nodes n o h)

-- ---- from node to node

-- P holds of a node's children
abbrev pub OfChildren : (ℕ → Type 0) → Node → Type 0
OfChildren P identity = Unit {0}
OfChildren P (letter q c) = Unit {0}
OfChildren P (product a p b r) = P a × P b

-- which are among those before the node
pub children_of : {P : ℕ → Type 0} (n : ℕ) (node : Node) → ChildrenBefore n node → ((i : ℕ) → i < n → P i) → OfChildren P node
children_of n identity b h = tt
children_of n (letter q c) b h = tt
children_of n (product a p c r) b h = (h a b.0, h c b.1)

-- `of` makes a node's element from its children's, d where there is none; `from` goes on with the nodes that are left
module _ {A : Type 0} (d : A) (of : (ℕ → A) → Node → A) (from : List A → List Node → List A)
    (from_end : (before : List A) → from before [] ≡ before)
    (from_next : (before : List A) (node : Node) (rest : List Node)
    → from before (node ∷ rest) ≡ from (before ++ (of (λ i. get_or before i d) node ∷ [])) rest)
    (same_node : (f g : ℕ → A) (node : Node) → OfChildren (λ i. f i ≡ g i) node → of f node ≡ of g node) where
  abbrev at : List A → ℕ → A
  at xs i = get_or xs i d

  abbrev longer : List A → Node → List A
  longer before node = before ++ (of (at before) node ∷ [])

  -- what stands already stays
  from_prefix : (before : List A) (rest : List Node) (i : ℕ) → i < length before → get_or (from before rest) i d ≡ get_or before i d
  from_prefix before [] i h = ap (λ (xs : List A). at xs i) (from_end before)
  from_prefix before (node ∷ rest) i h =
      let x = of (at before) node in
      ap (λ (xs : List A). at xs i) (from_next before node rest)
      ∙ from_prefix (longer before node) rest i (omega (arith, length-append before (x ∷ [])))
      ∙ get_or-append before (x ∷ []) d i h

  -- the first node that is left has its own element, from the elements of the same list
  from_first : (before : List A) (node : Node) (rest : List Node) → ChildrenBefore (length before) node
      → at (from (longer before node) rest) (length before) ≡ of (at (from (longer before node) rest)) node
  from_first before node rest o =
      let x = of (at before) node in
      let long : length (longer before node) ≡ length before + 1 = length-append before (x ∷ []) in
      from_prefix (longer before node) rest (length before) (omega arith) ∙ get_or-append_seam before x [] d
      ∙ same_node (at before) (at (from (longer before node) rest)) node (children_of (length before) node o
      (λ i b. sym (from_prefix (longer before node) rest i (omega arith) ∙ get_or-append before (x ∷ []) d i b)))

  -- so has each
  from_own : (before : List A) (rest : List Node) → Ordered (length before) rest → (k : ℕ) → k < length rest
      → get_or (from before rest) (k + length before) d ≡ of (λ i. get_or (from before rest) i d) (get_or rest k identity)
  from_own before [] o k h = absurd (omega arith)
  from_own before (node ∷ rest) o zero h = rw (from_next before node rest, zero-add) (from_first before node rest o.0)
  from_own before (node ∷ rest) o (suc k) h =
      let long : length (longer before node) ≡ suc (length before) = omega (arith, length-append before (of (at before) node ∷ [])) in
      let place : k + length (longer before node) ≡ suc k + length before = omega arith in
      rw (from_next before node rest) (rw place at (from_own (longer before node) rest (rw long o.1) k (omega arith)))

  -- and in the list of all nodes
  pub all_own : (nodes : List Node) → Ordered 0 nodes → (n : ℕ) → n < length nodes
      → get_or (from [] nodes) n d ≡ of (λ i. get_or (from [] nodes) i d) (get_or nodes n identity)
  all_own nodes o n h =
      let e : n + 0 ≡ n = add-zero n in
      rw e at (from_own [] nodes o n h)
