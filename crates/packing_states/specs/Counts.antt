-- Use counts, entry by entry: one use more or less, what a product uses, how large a count can be. Assumes nothing.
use Rattle.std.specs.Prelude.{◌≡◌, refl, List, [], ◌∷◌, map, ℕ, zero, suc, ◌+◌, ◌-◌, ◌≤◌, ◌<◌, eqb, length, get_or}
use Rattle.std.proofs.Common.{sym, ◌∙◌, le_refl, arith, length-set, get_or-set_same, get_or-set_other, eqb-true}
use Rattle.std.proofs.lemmas.List.{length-map}
use Rattle.std.proofs.lemmas.Bool.{eqb-false}
use Rattle.model.specs.Lists.{when◌then◌else◌, numbers_from}
use Rattle.model.specs.Program.{Node, identity, letter, product, PauliRef}
use Rattle.model.specs.Packing.{roots_at, one_use_more, one_use_less, count_children, Pack, use_node, use_children}
use Rattle.theory.specs.Lists.{numbers_length, map_range}
use Rattle.theory.specs.Cases.{by_if, on_if}
use Rattle.theory.specs.ByNode.{ChildrenBefore}
use Rattle.theory.specs.PackedRoots.{less_other}

-- ---- one entry more or less

-- a node's own entry
pub less_same : (uses : List ℕ) (n : ℕ) → get_or (one_use_less n uses) n 0 ≡ get_or uses n 0 - 1
unfolding one_use_less
less_same [] n = refl
less_same (u ∷ uses) zero = refl
less_same (u ∷ uses) (suc n) = less_same uses n

-- the entry at place c after one use more of node a
pub more_at : (uses : List ℕ) (a c : ℕ) → c < length uses → get_or (one_use_more a uses) c 0 ≡ get_or uses c 0 + (when eqb a c then 1 else 0)
unfolding one_use_more
more_at uses a c h =
    on_if (λ (x : ℕ). get_or (one_use_more a uses) c 0 ≡ get_or uses c 0 + x) (eqb a c) 1 0
    (λ e. rw (eqb-true a c e) (omega (arith, get_or-set_same uses c (suc (get_or uses c 0)) 0 h)))
    (λ e. omega (arith, get_or-set_other uses a c (suc (get_or uses a 0)) 0 (λ z. eqb-false a c e (sym z))))

-- the same after one use less
pub less_at : (uses : List ℕ) (a c : ℕ) → get_or (one_use_less a uses) c 0 ≡ get_or uses c 0 - (when eqb a c then 1 else 0)
less_at uses a c =
    on_if (λ (x : ℕ). get_or (one_use_less a uses) c 0 ≡ get_or uses c 0 - x) (eqb a c) 1 0 (λ e. rw (eqb-true a c e) (less_same uses c))
    (λ e. omega (arith, less_other uses a c (λ z. eqb-false a c e (sym z))))

-- as many entries as before
more_length : (uses : List ℕ) (a : ℕ) → length (one_use_more a uses) ≡ length uses
unfolding one_use_more
more_length uses a = length-set uses a _

-- ---- a node's children

-- how often node c is a child
unfoldable pub edges : Node → ℕ → ℕ
edges identity c = 0
edges (letter q x) c = 0
edges (product a u b v) c = (when eqb a c then 1 else 0) + (when eqb b c then 1 else 0)

not_child : (a c : ℕ) → a < c → ◌≡◌ {A = ℕ} (when eqb a c then 1 else 0) 0
not_child a c h = on_if (λ (x : ℕ). x ≡ 0) (eqb a c) 1 0 (λ e. absurd (omega (arith, eqb-true a c e))) (λ e. refl)

-- children stand before
pub edges_later : (n : ℕ) (node : Node) → ChildrenBefore n node → (c : ℕ) → n ≤ c → edges node c ≡ 0
unfolding edges
edges_later n identity h c b = refl
edges_later n (letter q x) h c b = refl
edges_later n (product a u d v) h c b = omega (arith, not_child a c (omega arith), not_child d c (omega arith))

-- counting a product's children
pub counted_at : (node : Node) (uses : List ℕ) (c : ℕ) → c < length uses → get_or (count_children node uses) c 0 ≡ get_or uses c 0 + edges node c
unfolding count_children edges
counted_at identity uses c h = omega arith
counted_at (letter q x) uses c h = omega arith
counted_at (product a u b v) uses c h =
    let long = more_length uses a in
    omega (arith, more_at (one_use_more a uses) b c (omega arith), more_at uses a c h)

-- as many entries as before
pub counted_length : (node : Node) (uses : List ℕ) → length (count_children node uses) ≡ length uses
unfolding count_children
counted_length identity uses = refl
counted_length (letter q x) uses = refl
counted_length (product a u b v) uses = more_length (one_use_more a uses) b ∙ more_length uses a

-- using them
pub used_at : (node : Node) (k : Pack) (c : ℕ) → get_or (use_children node k).uses c 0 ≡ get_or k.uses c 0 - edges node c
unfolding use_children use_node edges
used_at identity k c = omega arith
used_at (letter q x) k c = omega arith
used_at (product a u b v) k c = omega (arith, less_at (one_use_less a k.uses) b c, less_at k.uses a c)

-- ---- large counts

more_most : (uses : List ℕ) (a m : ℕ) → get_or (one_use_more a uses) m 0 ≤ suc (get_or uses m 0)
unfolding one_use_more
more_most [] a m = omega arith
more_most (u ∷ uses) zero zero = le_refl _
more_most (u ∷ uses) zero (suc m) = omega arith
more_most (u ∷ uses) (suc a) zero = omega arith
more_most (u ∷ uses) (suc a) (suc m) = more_most uses a m

counted_most : (node : Node) (uses : List ℕ) (m : ℕ) → get_or (count_children node uses) m 0 ≤ get_or uses m 0 + 2
unfolding count_children
counted_most identity uses m = omega arith
counted_most (letter q x) uses m = omega arith
counted_most (product a u b v) uses m = omega (arith, more_most (one_use_more a uses) b m, more_most uses a m)

-- node n's turn in the count
abbrev pub count_node : ℕ → Node → List ℕ → List ℕ
count_node n node uses = when eqb (get_or uses n 0) 0 then uses else count_children node uses

-- it adds at most 2 to an entry
pub count_node_most : (n : ℕ) (node : Node) (uses : List ℕ) (m : ℕ) → get_or (count_node n node uses) m 0 ≤ get_or uses m 0 + 2
count_node_most n node uses m =
    by_if (λ (x : List ℕ). get_or x m 0 ≤ get_or uses m 0 + 2) _ uses (count_children node uses) (omega arith) (counted_most node uses m)

-- before the count: how many roots each node has
abbrev pub root_counts : List PauliRef → ℕ → List ℕ
root_counts rs t = map (λ n. length (roots_at n rs)) (numbers_from 0 t)

-- entry by entry
pub root_counts_at : (rs : List PauliRef) (t m : ℕ) → m < t → get_or (root_counts rs t) m 0 ≡ length (roots_at m rs)
root_counts_at rs t m h =
    let e : m + 0 ≡ m = omega arith in
    rw e at (map_range (λ n. length (roots_at n rs)) 0 t m h)

-- one for each node
pub root_counts_length : (rs : List PauliRef) (t : ℕ) → length (root_counts rs t) ≡ t
root_counts_length rs t = length-map (numbers_from 0 t) (λ n. length (roots_at n rs)) ∙ numbers_length 0 t
