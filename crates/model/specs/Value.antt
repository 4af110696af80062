-- 01, "words.rs": the value of a node, and the qubits that it mentions. Children stand before their product. Assumes nothing.
use Rattle.std.specs.Prelude.{List, [], ◌∷◌, ◌++◌, ℕ, zero, suc, get_or}
use Rattle.pauli.specs.Letter.{single}
use Rattle.model.specs.Program.{Node, identity, letter, product}
use Rattle.model.specs.Words.{Value, as_value, scaled, multiply}
use Rattle.pauli.specs.Word.{identity as identity_word}

-- ---- values

-- a node's value, given its children's: a leaf's letter, or the product of the two children, each with its phase
unfoldable pub node_value : ℕ → (ℕ → Value) → Node → Value
node_value l child identity = as_value (identity_word l)
node_value l child (letter q c) = as_value (single l q c)
node_value l child (product a p b r) = multiply l (scaled p (child a)) (scaled r (child b))

abbrev pub value_at : List Value → ℕ → Value
value_at vs n = get_or vs n (as_value [])

-- each node's value from those of the nodes before it
unfoldable pub values_from : ℕ → List Value → List Node → List Value
values_from l before [] = before
values_from l before (node ∷ rest) = values_from l (before ++ (node_value l (value_at before) node ∷ [])) rest

-- the values of all nodes, as `pack` finds them: "used nodes by rising index"
unfoldable pub values : ℕ → List Node → List Value
values l nodes = values_from l [] nodes

-- the same by plain recursion: the node's children are worked out, and multiplied. A child's index is smaller, so n + 1 levels are enough
unfoldable pub plain_value_within : ℕ → ℕ → List Node → ℕ → Value
plain_value_within zero l nodes n = as_value []
plain_value_within (suc levels) l nodes n = node_value l (λ child. plain_value_within levels l nodes child) (get_or nodes n identity)

unfoldable pub plain_value : ℕ → List Node → ℕ → Value
plain_value l nodes n = plain_value_within (suc n) l nodes n

-- ---- "mention a qubit": a leaf with letter I mentions its qubit, and so do factors that cancel

unfoldable pub node_mentions : (ℕ → List ℕ) → Node → List ℕ
node_mentions child identity = []
node_mentions child (letter q c) = q ∷ []
node_mentions child (product a p b r) = child a ++ child b

abbrev pub mentions_at : List (List ℕ) → ℕ → List ℕ
mentions_at ms n = get_or ms n []

unfoldable pub mentions_from : List (List ℕ) → List Node → List (List ℕ)
mentions_from before [] = before
mentions_from before (node ∷ rest) = mentions_from (before ++ (node_mentions (mentions_at before) node ∷ [])) rest

-- the qubits that each node mentions
unfoldable pub mentions : List Node → List (List ℕ)
mentions nodes = mentions_from [] nodes
