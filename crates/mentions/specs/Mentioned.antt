-- What each node mentions, from what its children mention; and tests of what is mentioned. Assumes nothing.
use Rattle.std.specs.Prelude.{◌≡◌, refl, Bool, ◌||◌, ℕ, zero, suc, ◌<◌, eqb, length, get_or}
use Rattle.std.proofs.Common.{ap, ap₂, ◌∙◌}
use mathlib.Core.List.{List, [], ◌∷◌, ◌++◌, map, flatten}
use Rattle.model.specs.Lists.{any_of, member}
use Rattle.model.specs.Program.{Node, identity, letter, product}
use Rattle.model.specs.Value.{node_mentions, mentions_at, mentions_from, mentions}
use Rattle.theory.specs.Lists.{any_append}
use Rattle.theory.specs.Every.{Every, every_append, every_one}
use Rattle.theory.specs.ByNode.{Ordered, OfChildren, all_own}
use Rattle.theory.specs.Checked.{LeafIn}

-- ---- tests of lists

-- tests that agree on the list's numbers
pub any_same : (P : ℕ → Type 0) (f g : ℕ → Bool) → ((q : ℕ) → P q → f q ≡ g q) → (xs : List ℕ) → Every P xs
    → any_of f xs ≡ any_of g xs
unfolding any_of
any_same P f g h [] e = refl
any_same P f g h (x ∷ xs) e = ap₂ ◌||◌ (h x e.0) (any_same P f g h xs e.1)

-- a number that one of the lists has
pub any_flatten : {A : Type 0} (q : ℕ) (f : A → List ℕ) (xs : List A) → member q (flatten (map f xs)) ≡ any_of (λ x. member q (f x)) xs
unfolding member any_of flatten
any_flatten q f [] = refl
any_flatten q f (x ∷ xs) =
    any_append (eqb q) (f x) (flatten (map f xs)) ∙ ap (λ (b : Bool). any_of (eqb q) (f x) || b) (any_flatten q f xs)

-- ---- mentions

-- a node's mentions ask for its children's only
node_same : (f g : ℕ → List ℕ) (node : Node) → OfChildren (λ i. f i ≡ g i) node → node_mentions f node ≡ node_mentions g node
unfolding node_mentions
node_same f g identity h = refl
node_same f g (letter q c) h = refl
node_same f g (product a p b r) h = ap₂ ◌++◌ h.0 h.1

-- what a node mentions: its qubit, or what its children mention
pub mentions_own : (nodes : List Node) → Ordered 0 nodes → (n : ℕ) → n < length nodes
    → mentions_at (mentions nodes) n ≡ node_mentions (mentions_at (mentions nodes)) (get_or nodes n identity)
unfolding mentions mentions_from
mentions_own = all_own [] node_mentions mentions_from (λ before. refl) (λ before node rest. refl) node_same

-- ---- only qubits are mentioned

abbrev Below : ℕ → List ℕ → Type 0
Below q ms = Every (λ x. x < q) ms

at_below : (q : ℕ) (before : List (List ℕ)) (i : ℕ) → Every (Below q) before → Below q (mentions_at before i)
at_below q [] i h = tt
at_below q (m ∷ before) zero h = h.0
at_below q (m ∷ before) (suc i) h = at_below q before i h.1

node_below : (q : ℕ) (f : ℕ → List ℕ) (node : Node) → LeafIn q node → ((i : ℕ) → Below q (f i)) → Below q (node_mentions f node)
unfolding node_mentions
node_below q f identity l h = tt
node_below q f (letter x c) l h = (l.0, tt)
node_below q f (product a p c r) l h = every_append (λ x. x < q) (f a) (f c) (h a) (h c)

from_below : (q : ℕ) (before : List (List ℕ)) (rest : List Node) → Every (LeafIn q) rest → Every (Below q) before
    → Every (Below q) (mentions_from before rest)
unfolding mentions_from
from_below q before [] l h = h
from_below q before (node ∷ rest) l h =
    let m = node_mentions (mentions_at before) node in
    from_below q (before ++ (m ∷ [])) rest l.1
    (every_one (Below q) before m h (node_below q (mentions_at before) node l.0 (λ i. at_below q before i h)))

pub mentions_below : (q : ℕ) (nodes : List Node) → Every (LeafIn q) nodes → (n : ℕ) → Every (λ x. x < q) (mentions_at (mentions nodes) n)
unfolding mentions
mentions_below q nodes l n = at_below q (mentions_from [] nodes) n (from_below q [] nodes l tt)
