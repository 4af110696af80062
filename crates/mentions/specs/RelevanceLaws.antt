-- relevance: what its calls demand, and what they leave together. Assumes nothing.
use Rattle.std.specs.Prelude.{◌≡◌, Bool, false, ◌&&◌, ℕ, ◌*◌, ◌≤◌, ◌<◌, length, get_or, replicate}
use Rattle.std.proofs.Math.Path.{refl, sym, ap, ap₂}
use Rattle.std.proofs.Common.{◌∙◌, arith}
use Rattle.std.proofs.Math.Bool.{◌||◌}
use mathlib.Core.List.{List}
use Rattle.store.specs.Part.{put}
use Rattle.store.specs.Row.{row, row_length}
use Rattle.model.specs.Lists.{when◌then◌else◌, all_of, any_of, member}
use Rattle.model.specs.Program.{Node, identity, letter, product, PauliRef, Operation, program_of}
use Rattle.model.specs.Results.{no_operation}
use Rattle.model.specs.Value.{mentions_at, mentions}
use Rattle.model.specs.Roots.{acted_on, relevant}
use Rattle.theory.specs.Every.{Every, every_weaken}
use Rattle.theory.specs.Checked.{LeafIn}
use Rattle.layout.specs.declared.Shape.{Shape}
use Rattle.layout.specs.Rows.{row_count, mark, acted}
use Rattle.layout.specs.Only.{Only, only_of, only_then}
use Rattle.records.specs.Nodes.{nodes_in}
use Rattle.records.specs.Records.{operation_said, operation_said_lem}
use Rattle.records.specs.Given.{program_in}
use Rattle.layout.specs.Cleared.{both_only, both_first, both_second}
use Rattle.packing_states.specs.InMemory.{operations_count, operation_reference, reference_node, given_shape}
use Rattle.packing_states.specs.NodeRows.{given_rows}
use Rattle.mentions.specs.Marks.{is_set, set_zero, some_below, some_same, some_none, some_any, some_marked}
use Rattle.mentions.specs.Mentioned.{any_same, any_flatten, mentions_below}
use Rattle.mentions.specs.Nodes.{NodesPre}
use Rattle.mentions.specs.Operations.{node_of_operation, OperationsPre, MarkedOperations, marked_by_lem}
use Rattle.mentions.specs.Down.{reaches, MarkedDown}
use Rattle.mentions.specs.Relevant.{mentions_acted, RelevantNodes}
use Rattle.mentions.specs.Relevance.{RelevancePre, relevance_rows, Relevance}

-- ---- what the calls demand

leaf_weaken : (q u : ℕ) → q ≤ u → (node : Node) → LeafIn q node → LeafIn u node
leaf_weaken q u h identity l = tt
leaf_weaken q u h (letter x c) l = (omega (arith, l.0), l.1)
leaf_weaken q u h (product a p b r) l = tt

module _ {z : Shape} {ns os s : List ℕ} (h : RelevancePre z ns os s) where
  pub nodes_fit : z.nodes ≤ z.u
  nodes_fit = omega (arith, h.sized.row)

  pub qubits_fit : z.qubits ≤ z.u
  qubits_fit = omega (arith, h.sized.row)

  leaves : Every (LeafIn z.qubits) (nodes_in z.nodes ns)
  unfolding program_in program_of nodes_in
  leaves = h.given.fine.leaves

  pub nodes_pre : {t : List ℕ} → length t ≡ length s → NodesPre ns z.u z.nodes t
  nodes_pre e = record {
    nodes = given_rows h.sized h.given (omega (arith, h.numbers_long));
    leaves = every_weaken (LeafIn z.qubits) (LeafIn z.u) (leaf_weaken z.qubits z.u qubits_fit) (nodes_in z.nodes ns) leaves;
  }

  -- each operation's node is one of the nodes
  inside : (i : ℕ) → i < z.operations → node_of_operation os i < z.nodes
  inside i b =
      let rs = h.rows in
      let w = given_shape h.given in
      omega (
        arith,
        reference_node (program_in z ns os rs) w.fine i (omega (arith, w.references)),
        ap (λ (r : PauliRef). r.node) (operation_reference z ns os rs i b),
        w.nodes,
      )

  pub operations_pre : {t : List ℕ} → length t ≡ length s → OperationsPre os z.u z.operations t
  operations_pre e = record {
    numbers_long = (let l = h.numbers_long in omega arith);
    operations_long = h.given.operations_long;
    inside = λ i b. omega (arith, inside i b, nodes_fit);
  }

  -- ---- what they leave

  module _ (q : ℕ) where
    abbrev mentioned : ℕ → Bool
    mentioned m = member q (mentions_at (mentions (nodes_in z.nodes ns)) m)

    -- some operation's node mentions q
    operations_mention : (rs : List ℕ)
        → member q (acted_on (program_in z ns os rs)) ≡ some_below z.operations (λ j. mentioned (node_of_operation os j))
    unfolding acted_on program_in program_of nodes_in operation_said
    operations_mention rs =
        let operations = (program_in z ns os rs).operations in
        any_flatten q (λ (o : Operation). mentions_at (mentions (nodes_in z.nodes ns)) o.node) operations
        ∙ some_any (λ (o : Operation). mentioned o.node) operations no_operation
        ∙ ap (λ (n : ℕ). some_below n (λ j. mentioned (get_or operations j no_operation).node)) (operations_count z ns os rs)
        ∙ some_same z.operations _ _ (λ j b. ap (λ (o : Operation). mentioned o.node) (operation_said_lem z.operations os j b))

    module _ {t v w : List ℕ} (b : q < z.qubits) (long : length t ≡ length s)
        (unmarked : (m : ℕ) → m < z.nodes → get_or (row t z.u mark) m 0 ≡ 0)
        (clear : (i : ℕ) → i < z.qubits → get_or (row t z.u acted) i 0 ≡ 0)
        (ops : MarkedOperations os z.u z.operations t v) (down : MarkedDown ns z.u z.nodes v w) where
      kept : row v z.u acted ≡ row t z.u acted
      unfolding member any_of
      kept = ops.only.rows acted (omega arith) refl

      no_act : is_set (row v z.u acted) q ≡ false
      no_act = rw kept (set_zero (row t z.u acted) q (clear q b))

      wide : z.nodes ≤ length (row t z.u mark)
      wide = let l = h.numbers_long in omega (arith, row_length t z.u row_count mark (omega arith) (omega arith), nodes_fit)

      none_marked : some_marked z.nodes (row t z.u mark) mentioned ≡ false
      unfolding some_marked
      none_marked = some_none z.nodes _ (λ m l. ap (λ (x : Bool). x && mentioned m) (set_zero (row t z.u mark) m (unmarked m l)))

      -- row ACTED tells the qubits that an operation's nodes mention
      acted_tells : (rs : List ℕ) → is_set (row w z.u acted) q ≡ member q (acted_on (program_in z ns os rs))
      unfolding reaches
      acted_tells rs =
          down.tells q
          ∙ ap₂ ◌||◌ no_act
          (ap (λ (xs : List ℕ). some_marked z.nodes xs mentioned) ops.marks
          ∙ marked_by_lem os z.operations z.nodes (row t z.u mark) mentioned wide inside
          ∙ ap (λ (x : Bool). x || some_below z.operations (λ j. mentioned (node_of_operation os j))) none_marked)
          ∙ sym (operations_mention rs)

-- ---- together

module _ {z : Shape} {ns os s a t : List ℕ} (h : RelevancePre z ns os s) (marks : a ≡ put s (mark * z.u) (replicate z.nodes 0))
    (acts : t ≡ put a (acted * z.u) (replicate z.qubits 0)) where
  both : Only relevance_rows z.u s t
  unfolding member any_of all_of
  both =
      both_only s z.u mark z.nodes acted z.qubits h.numbers_long (omega arith) (omega arith) (nodes_fit h) (qubits_fit h) refl
      marks acts relevance_rows refl refl

  pub both_long : length t ≡ length s
  both_long = both.long

  unmarked : (m : ℕ) → m < z.nodes → get_or (row t z.u mark) m 0 ≡ 0
  unfolding member any_of
  unmarked =
      both_first s z.u mark z.nodes acted z.qubits h.numbers_long (omega arith) (omega arith) (nodes_fit h) (qubits_fit h) refl
      marks acts

  clear : (i : ℕ) → i < z.qubits → get_or (row t z.u acted) i 0 ≡ 0
  unfolding member any_of
  clear =
      both_second s z.u mark z.nodes acted z.qubits h.numbers_long (omega arith) (omega arith) (nodes_fit h) (qubits_fit h) refl
      marks acts

  module _ {v w x : List ℕ} (ops : MarkedOperations os z.u z.operations t v) (down : MarkedDown ns z.u z.nodes v w)
      (last : RelevantNodes ns z.u z.nodes z.nodes w x) where
    all_only : Only relevance_rows z.u s x
    unfolding all_of member any_of
    all_only =
        only_then both (only_then (only_of relevance_rows refl ops.only) (only_then (only_of relevance_rows refl down.only)
        (only_of relevance_rows refl last.only)))

    same : (rs : List ℕ) (n : ℕ) → mentions_acted (nodes_in z.nodes ns) (row w z.u acted) n ≡ relevant (program_in z ns os rs) n
    unfolding mentions_acted relevant program_in program_of nodes_in
    same rs n =
        any_same (λ q. q < z.qubits) (is_set (row w z.u acted)) (λ q. member q (acted_on (program_in z ns os rs)))
        (λ q b. acted_tells h q b both_long unmarked clear ops down rs) (mentions_at (mentions (nodes_in z.nodes ns)) n)
        (mentions_below z.qubits (nodes_in z.nodes ns) (leaves h) n)

    pub relevance_is : Relevance z ns os s x
    relevance_is = record {
      only = all_only;
      tells = λ rs n b. last.tells n b ∙ ap (λ (y : Bool). when y then 1 else 0) (same rs n);
    }
