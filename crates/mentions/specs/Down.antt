-- mark_from and mark_down: what they leave. Assumes nothing.
use Rattle.std.specs.Prelude.{◌≡◌, Bool, ◌||◌, ℕ, suc, ◌-◌, ◌*◌, ◌≤◌, ◌<◌, eqb, get_or}
use Rattle.std.proofs.Math.Path.{refl, sym, ap}
use Rattle.std.proofs.Common.{ap₂, ◌∙◌, arith}
use Rattle.std.proofs.Math.Bool.{true, false, ◌&&◌, or-false, or_assoc}
use mathlib.Core.List.{List, [], ◌∷◌}
use Rattle.std.proofs.Math.ListN.{length, set, length-set}
use Rattle.store.specs.Row.{row, row_length, Written}
use Rattle.model.specs.Lists.{all_of, any_of, member}
use Rattle.model.specs.Program.{Node, identity, letter, product}
use Rattle.model.specs.Value.{node_mentions, mentions_at, mentions}
use Rattle.theory.specs.Lists.{any_append}
use Rattle.theory.specs.ByNode.{ChildrenBefore, Ordered}
use Rattle.theory.specs.Checked.{LeafIn}
use Rattle.records.specs.declared.Factor.{Factor}
use Rattle.records.specs.declared.NodeRecord.TheVariants.{Identity, Letter, Product}
use Rattle.records.specs.Records.{node_record}
use Rattle.records.specs.Nodes.{nodes_in, node_here, nodes_count, node_here_lem}
use Rattle.layout.specs.Rows.{row_count, mark, acted, written_row}
use Rattle.layout.specs.Only.{Only, only_none, only_of, only_then, only_written}
use Rattle.packing_states.specs.NodeRows.{children_here}
use Rattle.mentions.specs.Marks.{is_set, set_zero, set_nonzero, marked_at, some_marked, some_below, marked_more}
use Rattle.mentions.specs.Mentioned.{mentions_own}
use Rattle.mentions.specs.Nodes.{NodesPre, NodePre, leaf_here, said_here, qubit_inside, children_inside}

-- a marked product marks its children
unfoldable pub marks_from : Bool → Node → List ℕ → List ℕ
marks_from false node xs = xs
marks_from true identity xs = xs
marks_from true (letter q c) xs = xs
marks_from true (product a p b r) xs = set (set xs a 1) b 1

-- a marked letter acts on its qubit
unfoldable pub acted_from : Bool → Node → List ℕ → List ℕ
acted_from false node xs = xs
acted_from true identity xs = xs
acted_from true (letter q c) xs = set xs q 1
acted_from true (product a p b r) xs = xs

-- so for node n, in rows MARK and ACTED
pub record MarkedFrom (ns : List ℕ) (u n : ℕ) (s t : List ℕ) : Type 0 where
  pub only : Only (mark ∷ acted ∷ []) u s t
  pub marks : row t u mark ≡ marks_from (is_set (row s u mark) n) (node_here ns n) (row s u mark)
  pub acts : row t u acted ≡ acted_from (is_set (row s u mark) n) (node_here ns n) (row s u acted)

-- qubit q is acted on, or a marked node below n mentions it
unfoldable pub reaches : List Node → ℕ → List ℕ → List ℕ → ℕ → Bool
reaches nodes n marks acts q = is_set acts q || some_marked n marks (λ m. member q (mentions_at (mentions nodes) m))

-- the qubits acted on are now those that the marked nodes mention, and those that were
pub record MarkedDown (ns : List ℕ) (u count : ℕ) (s t : List ℕ) : Type 0 where
  pub only : Only (mark ∷ acted ∷ []) u s t
  pub tells : (q : ℕ) → is_set (row t u acted) q ≡ reaches (nodes_in count ns) count (row s u mark) (row s u acted) q

-- before the nodes below n are looked at
pub record MarkingDown (ns : List ℕ) (u count n : ℕ) (s t : List ℕ) : Type 0 where
  pub only : Only (mark ∷ acted ∷ []) u s t
  pub same : (q : ℕ)
      → reaches (nodes_in count ns) n (row t u mark) (row t u acted) q ≡ reaches (nodes_in count ns) count (row s u mark) (row s u acted) q

pub down_start : (ns : List ℕ) (u count : ℕ) (s : List ℕ) → MarkingDown ns u count count s s
down_start ns u count s = record { only = only_none (mark ∷ acted ∷ []) u s; same = λ q. refl }

no_more : {ns : List ℕ} {u count : ℕ} {s t : List ℕ} → MarkingDown ns u count 0 s t → MarkedDown ns u count s t
unfolding reaches some_marked some_below
no_more {ns} {u} {count} {s} {t} h = record { only = h.only; tells = λ q. sym (or-false (is_set (row t u acted) q)) ∙ h.same q }

pub down_end : {ns : List ℕ} {u count n : ℕ} {s t : List ℕ} → n ≡ 0 → MarkingDown ns u count n s t → MarkedDown ns u count s t
down_end e h = no_more (rw e at h)

-- ---- one node

module _ {ns : List ℕ} {u n : ℕ} {s : List ℕ} where
  pub from_unmarked : (m : ℕ) → m ≡ get_or (row s u mark) n 0 → m ≡ 0 → MarkedFrom ns u n s s
  unfolding marks_from acted_from
  from_unmarked m e z =
      let f : is_set (row s u mark) n ≡ false = set_zero (row s u mark) n (sym e ∙ z) in
      record { only = only_none (mark ∷ acted ∷ []) u s; marks = rw f refl; acts = rw f refl }

  module _ (h : NodePre ns u n s) (m : ℕ) (e : m ≡ get_or (row s u mark) n 0) (z : m ≡ 0 → ⊥) where
    marked : is_set (row s u mark) n ≡ true
    marked = set_nonzero (row s u mark) n (λ k. z (e ∙ k))

    pub from_identity : Identity ≡ node_record ns n → MarkedFrom ns u n s s
    unfolding marks_from acted_from
    from_identity here =
        let f = marked in
        let g = said_here ns n here in
        record { only = only_none (mark ∷ acted ∷ []) u s; marks = rw (f, g) refl; acts = rw (f, g) refl }

    pub from_letter : {q c : ℕ} {t : List ℕ} → Letter q c ≡ node_record ns n → Written s u acted q 1 t → MarkedFrom ns u n s t
    unfolding marks_from acted_from all_of member any_of
    from_letter {q} here w =
        let f = marked in
        let g = said_here ns n here in
        let one = only_written h.node.long (omega arith) (qubit_inside h here) w in
        record {
          only = only_of (mark ∷ acted ∷ []) refl one;
          marks = rw (f, g) (one.rows mark (omega arith) refl);
          acts = rw (f, g) (written_row h.node.long (omega arith) (qubit_inside h here) w);
        }

    pub from_product : {a b : Factor} {t v : List ℕ} → Product a b ≡ node_record ns n
        → Written s u mark a.node 1 v → Written v u mark b.node 1 t → MarkedFrom ns u n s t
    unfolding marks_from acted_from all_of member any_of
    from_product {a} {b} {t} {v} here w y =
        let f = marked in
        let g = said_here ns n here in
        let inside = children_inside h here in
        let one = only_written h.node.long (omega arith) inside.0 w in
        let long : row_count * u ≤ length v = (let l = h.node.long in let o = one.long in omega arith) in
        let both = only_then one (only_written long (omega arith) inside.1 y) in
        record {
          only = only_of (mark ∷ acted ∷ []) refl both;
          marks = rw (f, g) (written_row long (omega arith) inside.1 y
              ∙ ap (λ (xs : List ℕ). set xs b.node 1) (written_row h.node.long (omega arith) inside.0 w));
          acts = rw (f, g) (both.rows acted (omega arith) refl);
        }

-- ---- a step of the loop

letter_or : (e a s : Bool) → e || a || s ≡ a || (s || (e || false))
letter_or true true s = refl
letter_or true false true = refl
letter_or true false false = refl
letter_or false true s = refl
letter_or false false s = sym (or-false s)

module _ (nodes : List Node) (o : Ordered 0 nodes) (n : ℕ) (h : n < length nodes) (marks acts : List ℕ) (q : ℕ) where
  abbrev mentioned : ℕ → Bool
  mentioned m = member q (mentions_at (mentions nodes) m)

  own : (node : Node) → get_or nodes n identity ≡ node → mentioned n ≡ member q (node_mentions (mentions_at (mentions nodes)) node)
  own node e = ap (member q) (mentions_own nodes o n h ∙ ap (node_mentions (mentions_at (mentions nodes))) e)

  -- what node n adds
  adds : (b c : Bool) → is_set marks n ≡ b → mentioned n ≡ c
      → reaches nodes (suc n) marks acts q ≡ is_set acts q || (some_marked n marks mentioned || b && c)
  unfolding reaches some_marked some_below
  adds b c e f = ap (λ (x : Bool). is_set acts q || (some_marked n marks mentioned || x)) (ap₂ ◌&&◌ e f)

  reach_step : (b : Bool) (node : Node) → is_set marks n ≡ b → get_or nodes n identity ≡ node → LeafIn (length acts) node
      → ChildrenBefore n node
      → n ≤ length marks → reaches nodes n (marks_from b node marks) (acted_from b node acts) q ≡ reaches nodes (suc n) marks acts q
  unfolding marks_from acted_from reaches
  reach_step false node e f l k s =
      sym (adds false (mentioned n) e refl ∙ ap (λ (x : Bool). is_set acts q || x) (or-false (some_marked n marks mentioned)))
  reach_step true identity e f l k s =
      sym (adds true false e (unfold node_mentions member any_of in (own identity f))
      ∙ ap (λ (x : Bool). is_set acts q || x) (or-false (some_marked n marks mentioned)))
  reach_step true (letter x c) e f l k s =
      ap (λ (y : Bool). y || some_marked n marks mentioned) (marked_at acts x q l.0)
      ∙ letter_or (eqb q x) (is_set acts q) (some_marked n marks mentioned)
      ∙ sym (adds true (eqb q x || false) e (unfold node_mentions member any_of in (own (letter x c) f)))
  reach_step true (product a p c r) e f l k s =
      let more = marked_more n a marks mentioned k.0 (omega (arith, k.0)) in
      let again = marked_more n c (set marks a 1) mentioned k.1 (omega (arith, k.1, length-set marks a 1)) in
      ap (λ (y : Bool). is_set acts q || y)
      (again ∙ ap (λ (y : Bool). y || mentioned c) more ∙ or_assoc (some_marked n marks mentioned) (mentioned a) (mentioned c))
      ∙ sym (adds true (mentioned a || mentioned c) e (own (product a p c r) f ∙ children))
    where
      children : member q (node_mentions (mentions_at (mentions nodes)) (product a p c r)) ≡ mentioned a || mentioned c
      children = unfold node_mentions member in (any_append (eqb q) (mentions_at (mentions nodes) a) (mentions_at (mentions nodes) c))

pub down_step : {ns : List ℕ} {u count n : ℕ} {s t v : List ℕ} → NodesPre ns u count s → 0 < n → n ≤ count → MarkingDown ns u count n s t
    → MarkedFrom ns u (n - 1) t v → MarkingDown ns u count (n - 1) s v
down_step {ns} {u} {count} {n} {s} {t} {v} h z b m w =
    let i = n - 1 in
    let below : i < count = omega arith in
    let next : suc i ≡ n = omega arith in
    let long : row_count * u ≤ length t = (let l = h.nodes.long in let e = m.only.long in omega arith) in
    let wide : length (row t u acted) ≡ u = row_length t u row_count acted long (omega arith) in
    let wide_marks : length (row t u mark) ≡ u = row_length t u row_count mark long (omega arith) in
    let inside : i < length (nodes_in count ns) = omega (arith, nodes_count count ns) in
    let fits : i ≤ length (row t u mark) = (let f = h.nodes.fits in omega arith) in
    record {
      only = only_then m.only w.only;
      same = λ q. rw (w.marks, w.acts) (reach_step (nodes_in count ns) h.nodes.ordered i inside (row t u mark) (row t u acted) q
          (is_set (row t u mark) i) (node_here ns i) refl (node_here_lem count ns i below) (rw wide (leaf_here h i below))
          (children_here h.nodes i below) fits ∙ rw next (m.same q));
    }
