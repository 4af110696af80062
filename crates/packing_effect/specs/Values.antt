-- A node's plain value is of the program's width. Assumes nothing.
use Rattle.std.specs.Prelude.{◌≡◌, List, length, get_or}
use Prim.Native.Nat.{ℕ, zero, suc, ◌*◌, ◌<◌, ◌≤◌}
use Rattle.std.proofs.Common.{arith}
use Rattle.model.specs.Program.{Node, identity}
use Rattle.model.specs.Value.{plain_value_within, plain_value}
use Rattle.theory.specs.Every.{Every, every_at}
use Rattle.theory.specs.ByNode.{Ordered, children_of, children_before}
use Rattle.theory.specs.Checked.{LeafIn}
use Rattle.theory.specs.NodeValue.{node_value_length}

module _ (l : ℕ) (nodes : List Node) (o : Ordered 0 nodes) (q : ℕ) (wide : q ≤ 64 * l) (leaves : Every (LeafIn q) nodes) where
  levels_length : (levels n : ℕ) → n < levels → n < length nodes → length (plain_value_within levels l nodes n).word ≡ 2 * l
  unfolding plain_value_within
  levels_length zero n h b = absurd (omega arith)
  levels_length (suc levels) n h b =
      node_value_length l q (λ child. plain_value_within levels l nodes child) (get_or nodes n identity) wide
      (every_at (LeafIn q) nodes identity n leaves b)
      (children_of n (get_or nodes n identity) (children_before nodes o n b) (λ i c. levels_length levels i (omega arith) (omega arith)))

  -- a node's value has l x-words and l z-words
  pub plain_length : (n : ℕ) → n < length nodes → length (plain_value l nodes n).word ≡ 2 * l
  unfolding plain_value
  plain_length n h = levels_length (suc n) n (omega arith) h
