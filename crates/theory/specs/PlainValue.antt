-- A node's value by plain recursion on its children is the value that packing finds for it. Assumes nothing.
use Rattle.std.specs.Prelude.{◌≡◌, refl, List, [], length, get_or}
use Rattle.std.proofs.Math.Path.{sym}
use Rattle.std.proofs.Common.{◌∙◌, arith}
use Prim.Native.Nat.{ℕ, zero, suc, ◌<◌}
use Rattle.pauli.specs.Word.{width}
use Rattle.model.specs.declared.Options.{Options}
use Rattle.model.specs.Answers.{Accepted}
use Rattle.model.specs.Program.{Job, Node, identity, program_of}
use Rattle.model.specs.Words.{Value, as_value}
use Rattle.model.specs.Value.{node_value, value_at, values_from, values, plain_value_within, plain_value}
use Rattle.model.specs.Packing.{values_of}
use Rattle.model.specs.Checking.{Lent, checking}
use Rattle.theory.specs.ByNode.{Ordered, children_before, children_of, all_own}
use Rattle.theory.specs.Checked.{nodes_length, checked_fine}
use Rattle.theory.specs.NodeValue.{node_value_same}

module _ (l : ℕ) (nodes : List Node) (o : Ordered 0 nodes) where
  abbrev vs : List Value
  vs = values l nodes

  -- a node's value is worked out from those of its children
  pub values_own : (n : ℕ) → n < length nodes → value_at vs n ≡ node_value l (value_at vs) (get_or nodes n identity)
  unfolding values values_from
  values_own n h = all_own (as_value []) (node_value l) (values_from l) (λ before. refl) (λ before node rest. refl) (node_value_same l) nodes o n h

  within_levels : (levels n : ℕ) → n < levels → n < length nodes → plain_value_within levels l nodes n ≡ value_at vs n
  unfolding plain_value_within
  within_levels zero n h b = absurd (omega arith)
  within_levels (suc levels) n h b =
      node_value_same l (λ child. plain_value_within levels l nodes child) (value_at vs) (get_or nodes n identity)
      (children_of n (get_or nodes n identity) (children_before nodes o n b) (λ i c. within_levels levels i (omega arith) (omega arith)))
      ∙ sym (values_own n b)

  -- the plain value of a node is the value in packing's list
  pub plain_value_lem : (n : ℕ) → n < length nodes → plain_value l nodes n ≡ value_at vs n
  unfolding plain_value
  plain_value_lem n h = within_levels (suc n) n (omega arith) h

-- and so for every node of a program that Checking passes
pub checked_plain_value : (o : Options) (j : Job) (s : Lent) → checking o j s ≡ Accepted → (n : ℕ) → n < j.counts.nodes
    → plain_value (width j.counts.qubits) (program_of j).nodes n ≡ value_at (values_of (program_of j)) n
unfolding program_of
checked_plain_value o j s c n h =
    let long : length (program_of j).nodes ≡ j.counts.nodes = nodes_length j in
    plain_value_lem (width j.counts.qubits) (program_of j).nodes (checked_fine o j s c).ordered n (omega arith)
