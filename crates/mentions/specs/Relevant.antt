-- relevant and relevant_nodes: what they leave. Assumes nothing.
use Rattle.std.specs.Prelude.{◌≡◌, refl, Bool, true, List, [], ◌∷◌, ℕ, ◌+◌, ◌*◌, ◌≤◌, ◌<◌, eqb, length, get_or, set}
use Rattle.std.proofs.Math.Path.{sym, ap, ap₂}
use Rattle.std.proofs.Common.{◌∙◌, arith}
use Rattle.std.proofs.Math.Bool.{false, not, ◌||◌, or-false}
use Rattle.std.proofs.Math.Decide.{ℕ_discrete}
use Rattle.store.specs.Row.{row, Written}
use Rattle.model.specs.Lists.{when◌then◌else◌, any_of, member}
use Rattle.model.specs.Program.{Node, identity, letter, product}
use Rattle.model.specs.Value.{node_mentions, mentions_at, mentions}
use Rattle.theory.specs.Lists.{any_append}
use Rattle.theory.specs.ByNode.{ChildrenBefore, Ordered}
use Rattle.records.specs.declared.NodeRecord.{NodeRecord}
use Rattle.records.specs.Records.{node_record, node_said}
use Rattle.records.specs.Nodes.{nodes_in, node_here, nodes_count, node_here_lem}
use Rattle.layout.specs.Rows.{row_count, acted, relevant_row, written_row, entry_own, entry_other}
use Rattle.layout.specs.Only.{Only, only_none, only_then, only_written}
use Rattle.packing_states.specs.NodeRows.{children_here}
use Rattle.mentions.specs.Marks.{is_set, set_zero, set_nonzero}
use Rattle.mentions.specs.Mentioned.{mentions_own}
use Rattle.mentions.specs.Nodes.{NodesPre, said_here}

-- whether a node mentions a qubit acted on, given what is said of its children
unfoldable pub relevant_node : List ℕ → List ℕ → Node → Bool
relevant_node acts known identity = false
relevant_node acts known (letter q c) = is_set acts q
relevant_node acts known (product a p b r) = is_set known a || is_set known b

-- so for node n, from rows ACTED and RELEVANT
abbrev pub relevant_here : List ℕ → ℕ → ℕ → List ℕ → Bool
relevant_here ns u n xs = relevant_node (row xs u acted) (row xs u relevant_row) (node_here ns n)

-- node n mentions a qubit acted on
unfoldable pub mentions_acted : List Node → List ℕ → ℕ → Bool
mentions_acted nodes acts n = any_of (is_set acts) (mentions_at (mentions nodes) n)

-- row RELEVANT tells it of the first n of count nodes
pub record RelevantNodes (ns : List ℕ) (u count n : ℕ) (s t : List ℕ) : Type 0 where
  pub only : Only (relevant_row ∷ []) u s t
  pub tells : (m : ℕ) → m < n → get_or (row t u relevant_row) m 0 ≡ (when mentions_acted (nodes_in count ns) (row s u acted) m then 1 else 0)

-- ---- one node

-- what its record says of it
pub relevant_is : (ns : List ℕ) (n : ℕ) (acts known : List ℕ) {x : NodeRecord} {b : Bool} → x ≡ node_record ns n
    → b ≡ relevant_node acts known (node_said x) → b ≡ relevant_node acts known (node_here ns n)
relevant_is ns n acts known here e = e ∙ sym (ap (relevant_node acts known) (said_here ns n here))

-- v is read at entry i
pub set_read : {v : ℕ} (xs : List ℕ) (i : ℕ) → v ≡ get_or xs i 0 → not (eqb v 0) ≡ is_set xs i
unfolding is_set
set_read xs i e = ap (λ (y : ℕ). not (eqb y 0)) e

-- a product: its first child does, or its second says
module _ (acts known : List ℕ) (a p b q : ℕ) {r : Bool} (e : r ≡ is_set known a) where
  pub relevant_first : r ≡ true → r ≡ relevant_node acts known (product a p b q)
  unfolding relevant_node
  relevant_first t = t ∙ ap (λ (x : Bool). x || is_set known b) (sym t ∙ e)

  pub relevant_second : {s : Bool} → r ≡ false → s ≡ is_set known b → s ≡ relevant_node acts known (product a p b q)
  unfolding relevant_node
  relevant_second f k = k ∙ ap (λ (x : Bool). x || is_set known b) (sym f ∙ e)

-- ---- the loop

flag_set : (xs : List ℕ) (i : ℕ) (b : Bool) → get_or xs i 0 ≡ (when b then 1 else 0) → is_set xs i ≡ b
unfolding when◌then◌else◌
flag_set xs i true e = set_nonzero xs i (λ z. omega arith)
flag_set xs i false e = set_zero xs i e

module _ (nodes : List Node) (o : Ordered 0 nodes) (n : ℕ) (h : n < length nodes) (acts known : List ℕ)
    (tells : (m : ℕ) → m < n → get_or known m 0 ≡ (when mentions_acted nodes acts m then 1 else 0)) where
  own : (node : Node) → get_or nodes n identity ≡ node
      → mentions_acted nodes acts n ≡ any_of (is_set acts) (node_mentions (mentions_at (mentions nodes)) node)
  unfolding mentions_acted
  own node e = ap (any_of (is_set acts)) (mentions_own nodes o n h ∙ ap (node_mentions (mentions_at (mentions nodes))) e)

  node_tells : (node : Node) → get_or nodes n identity ≡ node → ChildrenBefore n node
      → relevant_node acts known node ≡ mentions_acted nodes acts n
  unfolding relevant_node
  node_tells identity e k = sym (unfold node_mentions any_of in (own identity e))
  node_tells (letter q c) e k =
      let one : mentions_acted nodes acts n ≡ is_set acts q || false = unfold node_mentions any_of in (own (letter q c) e) in
      sym (one ∙ or-false (is_set acts q))
  node_tells (product a p c r) e k =
      ap₂ ◌||◌ (flag_set known a (mentions_acted nodes acts a) (tells a k.0))
      (flag_set known c (mentions_acted nodes acts c) (tells c k.1))
      ∙ sym (own (product a p c r) e ∙ children)
    where
      children : any_of (is_set acts) (node_mentions (mentions_at (mentions nodes)) (product a p c r))
          ≡ mentions_acted nodes acts a || mentions_acted nodes acts c
      children =
          unfold node_mentions mentions_acted in (any_append (is_set acts) (mentions_at (mentions nodes) a) (mentions_at (mentions nodes) c))

pub relevant_none : (ns : List ℕ) (u count : ℕ) (s : List ℕ) → RelevantNodes ns u count 0 s s
relevant_none ns u count s = record { only = only_none (relevant_row ∷ []) u s; tells = λ m b. absurd (omega arith) }

pub relevant_next : {ns : List ℕ} {u count n : ℕ} {s t w : List ℕ} → NodesPre ns u count s → n < count → RelevantNodes ns u count n s t
    → (b : Bool) → b ≡ relevant_here ns u n t → (v : ℕ) → v ≡ (when b then 1 else 0)
    → Written t u relevant_row n v w → RelevantNodes ns u count (n + 1) s w
relevant_next {ns} {u} {count} {n} {s} {t} {w} h l r b e v bit y =
    record { only = only_then r.only (only_written long (omega arith) inside y); tells = λ m k. go m k (ℕ_discrete m n) }
  where
    long : row_count * u ≤ length t
    long = let i = h.nodes.long in let j = r.only.long in omega arith

    inside : n < u
    inside = let f = h.nodes.fits in omega arith

    changed : row w u relevant_row ≡ set (row t u relevant_row) n v
    changed = written_row long (omega arith) inside y

    kept : row t u acted ≡ row s u acted
    kept = unfold member any_of in (r.only.rows acted (omega arith) refl)

    truth : b ≡ mentions_acted (nodes_in count ns) (row s u acted) n
    truth =
        e ∙ ap (λ (xs : List ℕ). relevant_node xs (row t u relevant_row) (node_here ns n)) kept
        ∙ node_tells (nodes_in count ns) h.nodes.ordered n (omega (arith, nodes_count count ns)) (row s u acted) (row t u relevant_row)
        r.tells (node_here ns n) (node_here_lem count ns n l) (children_here h.nodes n l)

    go : (m : ℕ) → m < n + 1 → Dec (m ≡ n)
        → get_or (row w u relevant_row) m 0 ≡ (when mentions_acted (nodes_in count ns) (row s u acted) m then 1 else 0)
    go m k (yes i) =
        rw i (entry_own t u relevant_row n v changed long (omega arith) inside ∙ bit ∙ ap (λ (x : Bool). when x then 1 else 0) truth)
    go m k (no i) = entry_other t u relevant_row n v changed m i ∙ r.tells m (omega arith)

pub relevant_all : {ns : List ℕ} {u count n : ℕ} {s t : List ℕ} → count ≡ n → RelevantNodes ns u count n s t
    → RelevantNodes ns u count count s t
relevant_all e r = rw (sym e) at r
