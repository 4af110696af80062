-- Linking the frame rows and then the operations, each the last one first: the loops' turns. Assumes nothing.
use Rattle.std.specs.Prelude.{◌≡◌, Bool, true, false, List, ℕ, suc, ◌+◌, ◌-◌, ◌*◌, ◌≤◌, ◌<◌, length, get_or, replicate}
use Rattle.std.proofs.Math.Path.{refl}
use Rattle.std.proofs.Common.{sym, ap, ◌∙◌, arith, ext_get_or, lt-ltb, le-ltb}
use Rattle.store.specs.Part.{put}
use Rattle.store.specs.Row.{row}
use Rattle.model.specs.Lists.{when◌then◌else◌, all_of, any_of, member}
use Rattle.model.specs.Program.{Program}
use Rattle.model.specs.Roots.{relevant, roots}
use Rattle.theory.specs.Cases.{if_true, if_false}
use Rattle.layout.specs.declared.Shape.{Shape}
use Rattle.layout.specs.Rows.{row_count, relevant_row, uses_row, first_root, entries, entries_length, entries_at}
use Rattle.layout.specs.Only.{Only, only_none, only_of, only_then}
use Rattle.records.specs.Records.{operation_record, row_record}
use Rattle.packing_states.specs.References.{reference_at, total, is_root_at}
use Rattle.packing_states.specs.ReferenceLaws.{roots_from_le, roots_from_all}
use Rattle.packing_states.specs.Counts.{root_counts, root_counts_at, root_counts_length}
use Rattle.packing_states.specs.InMemory.{reference_node}
use Rattle.layout.specs.Cleared.{both_only, both_first, both_second}
use Rattle.packing_states.specs.SomeProgram.{SomeProgram}
use Rattle.roots.specs.Links.{FrontPre, front_rows, InFront, OperationPre, RowPre, link_rows, RowLinked, LinksFrom, Sizes, RowsIn}
use Rattle.roots.specs.Links.{RowsPre, RowsLinked, OperationsPre, OperationsLinked, LinkPre, Links, RootsLinked}
use Rattle.roots.specs.LinkLaws.{link_root, link_no_root, linked_none}

-- ---- other rows are written

sizes_kept : {p : Program} {z : Shape} {s t : List ℕ} → length t ≡ length s → Sizes p z s → Sizes p z t
sizes_kept {p} {z} {s} {t} e a = record {
  sized = a.sized;
  long = omega (arith, a.long);
  program = a.program;
}

rows_kept : {p : Program} {z : Shape} {rs s t : List ℕ} → Only link_rows z.u s t → RowsIn p z rs s → RowsIn p z rs t
unfolding member any_of
rows_kept {p} {z} {rs} {s} {t} o a = record {
  long = a.long;
  node = a.node;
  tells = λ n h. ap (λ (x : List ℕ). get_or x n 0) (o.rows relevant_row (omega arith) refl) ∙ a.tells n h;
}

-- ---- a reference may be put in front

front_pre : (p : Program) (z : Shape) (j n : ℕ) (x : List ℕ) → Sizes p z x → j < total p → (reference_at p j).node ≡ n
    → LinksFrom p z (suc j) x → FrontPre x z.u j n
front_pre p z j n x a b e f =
    let d = a.sized in
    let w = a.program in
    let h : n < z.nodes = rw (e, w.nodes) at (reference_node p w.fine j b) in
    record {
      long = a.long;
      small = omega (arith, d.row, d.u_small, w.references);
      root = omega (arith, d.row, w.references);
      node = omega (arith, d.row);
      uses = omega (arith, f.uses n h, roots_from_le p n (suc j), w.references, d.operations, d.qubits);
    }

-- ---- frame rows

module _ (z : Shape) (rs s : List ℕ) where
  -- rows r and later are linked
  pub record RowsAt (r : ℕ) (x : List ℕ) : Type 0 where
    pub most : r ≤ 2 * z.qubits
    pub only : Only link_rows z.u s x
    pub linked : (p : Program) → RowsPre p z rs s → LinksFrom p z (z.operations + r) x

  pub rows_start : RowsAt (2 * z.qubits) s
  rows_start = record {
    most = omega arith;
    only = only_none link_rows z.u s;
    linked = λ p a. rw a.sizes.program.references at a.start;
  }

  -- the same place
  place : (r : ℕ) → 0 < r → z.operations + r ≡ suc (z.operations + (r - 1))
  place r h = omega arith

  pub rows_need : {r : ℕ} {x : List ℕ} → SomeProgram (λ (p : Program). RowsPre p z rs s) → 0 < r → RowsAt r x
      → RowPre rs x z.u (z.operations + (r - 1)) (r - 1)
  rows_need {r} {x} some h i =
      let a = some.it in
      let p = some.program in
      record {
        record_long = omega (arith, a.records.long, i.most);
        front = front_pre p z (z.operations + (r - 1)) _ x (sizes_kept i.only.long a.sizes)
            (omega (arith, a.sizes.program.references, i.most)) (a.records.node (r - 1) (omega (arith, i.most)))
            (rw (place r h) at (i.linked p a));
      }

  module _ (p : Program) (r n : ℕ) (x y : List ℕ) (a : RowsPre p z rs s) (h : r < 2 * z.qubits)
      (d : (reference_at p (z.operations + r)).node ≡ n) where
    -- row r is a root if its node is relevant
    row_test : is_root_at p (z.operations + r) ≡ relevant p n
    unfolding is_root_at
    row_test = rw (le-ltb (z.operations + r) (length p.operations) (omega (arith, a.sizes.program.operations)), d) refl

    row_turn : Only link_rows z.u s x → LinksFrom p z (suc (z.operations + r)) x → RowLinked x z.u (z.operations + r) n y
        → LinksFrom p z (z.operations + r) y
    row_turn o f w = go (relevant p n) refl
      where
        long : row_count * z.u ≤ length x
        long = omega (arith, a.sizes.long, o.long)

        b : z.operations + r < total p
        b = omega (arith, a.sizes.program.references)

        in_row : total p ≤ z.u
        in_row = omega (arith, a.sizes.program.references, a.sizes.sized.row)

        node_in : n < z.nodes
        node_in = rw (d, a.sizes.program.nodes) at (reference_node p a.sizes.program.fine (z.operations + r) b)

        kept : RowsIn p z rs x
        kept = rows_kept o a.records

        said : get_or (row x z.u relevant_row) n 0 ≡ (when relevant p n then 1 else 0)
        said = kept.tells n node_in

        go : (t : Bool) → relevant p n ≡ t → LinksFrom p z (z.operations + r) y
        go true e =
            link_root p z (z.operations + r) x y long b in_row f (row_test ∙ e) n d node_in (omega (arith, a.sizes.sized.row))
            (w.root (λ q. omega (arith, said, if_true {A = ℕ} 1 0 e)))
        go false e = link_no_root p z (z.operations + r) x y long b in_row f (row_test ∙ e) (w.no_root (said ∙ if_false {A = ℕ} 1 0 e))

  pub rows_turn : {r : ℕ} {x y : List ℕ} → 0 < r → RowsAt r x → RowLinked x z.u (z.operations + (r - 1)) (row_record rs (r - 1)).node y
      → RowsAt (r - 1) y
  rows_turn {r} {x} {y} h i w = record {
    most = omega (arith, i.most);
    only = only_then i.only w.only;
    linked = λ p a.
        let b : r - 1 < 2 * z.qubits = omega (arith, i.most) in
        row_turn p (r - 1) _ x y a b (a.records.node (r - 1) b) i.only (rw (place r h) at (i.linked p a)) w;
  }

  pub rows_end : {r : ℕ} {x : List ℕ} → r ≡ 0 → RowsAt r x → RowsLinked z rs s x
  rows_end {r} e i = record {
    only = i.only;
    linked = λ p a. let q : z.operations + r ≡ z.operations = omega arith in rw q at (i.linked p a);
  }

-- ---- operations

module _ (z : Shape) (os s : List ℕ) where
  -- operations i and later are linked
  pub record OperationsAt (i : ℕ) (x : List ℕ) : Type 0 where
    pub most : i ≤ z.operations
    pub only : Only front_rows z.u s x
    pub linked : (p : Program) → OperationsPre p z os s → LinksFrom p z i x

  pub operations_start : OperationsAt z.operations s
  operations_start = record { most = omega arith; only = only_none _ z.u s; linked = λ p a. a.start }

  above : (i : ℕ) → 0 < i → i ≡ suc (i - 1)
  above i h = omega arith

  pub operations_need : {i : ℕ} {x : List ℕ} → SomeProgram (λ (p : Program). OperationsPre p z os s) → 0 < i → OperationsAt i x
      → OperationPre os x z.u (i - 1)
  operations_need {i} {x} some h f =
      let a = some.it in
      let p = some.program in
      record {
        record_long = omega (arith, a.records.long, f.most);
        front = front_pre p z (i - 1) _ x (sizes_kept f.only.long a.sizes) (omega (arith, a.sizes.program.references, f.most))
            (a.records.node (i - 1) (omega (arith, f.most))) (rw (above i h) at (f.linked p a));
      }

  -- every operation is a root
  operation_test : (p : Program) (i : ℕ) → OperationsPre p z os s → i < z.operations → is_root_at p i ≡ true
  unfolding is_root_at
  operation_test p i a h = rw (lt-ltb i (length p.operations) (omega (arith, a.sizes.program.operations))) refl

  operation_turn : (p : Program) (i : ℕ) (x y : List ℕ) → OperationsPre p z os s → i < z.operations → length x ≡ length s
      → LinksFrom p z (suc i) x → InFront x z.u i (operation_record os i).node y → LinksFrom p z i y
  operation_turn p i x y a h o f w =
      let b : i < total p = omega (arith, a.sizes.program.references) in
      let d = a.records.node i h in
      link_root p z i x y (omega (arith, a.sizes.long)) b (omega (arith, a.sizes.program.references, a.sizes.sized.row)) f
      (operation_test p i a h) _ d (rw (d, a.sizes.program.nodes) at (reference_node p a.sizes.program.fine i b))
      (omega (arith, a.sizes.sized.row)) w

  pub operations_turn : {i : ℕ} {x y : List ℕ} → 0 < i → OperationsAt i x → InFront x z.u (i - 1) (operation_record os (i - 1)).node y
      → OperationsAt (i - 1) y
  operations_turn {i} {x} {y} h f w = record {
    most = omega (arith, f.most);
    only = only_then f.only w.only;
    linked = λ p a. operation_turn p (i - 1) x y a (omega (arith, f.most)) f.only.long (rw (above i h) at (f.linked p a)) w;
  }

  pub operations_end : {i : ℕ} {x : List ℕ} → i ≡ 0 → OperationsAt i x → OperationsLinked z os s x
  operations_end {i} e f = record { only = f.only; linked = λ p a. rw e at (f.linked p a) }

-- ---- when all are linked

all_linked : (p : Program) (z : Shape) (t : List ℕ) → Sizes p z t → LinksFrom p z 0 t → Links p z t
all_linked p z t a f = record {
  linked = f.linked;
  uses =
      ext_get_or 0 (entries t z.u uses_row z.nodes) (root_counts (roots p) z.nodes)
      (long ∙ sym (root_counts_length (roots p) z.nodes))
      (λ n h. one n (omega (arith, long)));
}
  where
    fits : z.nodes ≤ z.u
    fits = omega (arith, a.sized.row)

    long : length (entries t z.u uses_row z.nodes) ≡ z.nodes
    long = entries_length t z.u uses_row z.nodes a.long (omega arith) fits

    one : (n : ℕ) → n < z.nodes → get_or (entries t z.u uses_row z.nodes) n 0 ≡ get_or (root_counts (roots p) z.nodes) n 0
    one n h =
        entries_at t z.u uses_row z.nodes a.long (omega arith) fits n h ∙ f.uses n h ∙ roots_from_all p n
        ∙ sym (root_counts_at (roots p) z.nodes n h)

-- ---- all of it

module _ (z : Shape) (os rs s s₁ s₂ : List ℕ) (some : SomeProgram (λ (p : Program). LinkPre p z os rs s))
    (e : s₁ ≡ put s (first_root * z.u) (replicate z.nodes 0)) (d : s₂ ≡ put s₁ (uses_row * z.u) (replicate z.nodes 0)) where
  long : row_count * z.u ≤ length s
  long = some.it.sizes.long

  fits : z.nodes ≤ z.u
  fits = omega (arith, some.it.sizes.sized.row)

  only_both : Only link_rows z.u s s₂
  unfolding member any_of all_of
  only_both =
      both_only s z.u first_root z.nodes uses_row z.nodes long (omega arith) (omega arith) fits fits refl e d link_rows refl refl

  cleared_first : (n : ℕ) → n < z.nodes → get_or (row s₂ z.u first_root) n 0 ≡ 0
  unfolding member any_of
  cleared_first = both_first s z.u first_root z.nodes uses_row z.nodes long (omega arith) (omega arith) fits fits refl e d

  cleared_uses : (n : ℕ) → n < z.nodes → get_or (row s₂ z.u uses_row) n 0 ≡ 0
  unfolding member any_of
  cleared_uses = both_second s z.u first_root z.nodes uses_row z.nodes long (omega arith) (omega arith) fits fits refl e d

  -- the rows are cleared
  cleared_rows : (p : Program) → LinkPre p z os rs s → RowsPre p z rs s₂
  cleared_rows p a = record {
    sizes = sizes_kept only_both.long a.sizes;
    records = rows_kept only_both a.rows;
    start = linked_none p z s₂ cleared_first cleared_uses;
  }

  pub first_rows : SomeProgram (λ (p : Program). RowsPre p z rs s₂)
  first_rows = record { program = some.program; it = cleared_rows some.program some.it }

  module _ (s₃ : List ℕ) (b : RowsLinked z rs s₂ s₃) where
    -- the frame rows are linked
    after_rows : (p : Program) → LinkPre p z os rs s → OperationsPre p z os s₃
    after_rows p a =
        let c = cleared_rows p a in
        record { sizes = sizes_kept b.only.long c.sizes; records = a.operations; start = b.linked p c }

    pub then_operations : SomeProgram (λ (p : Program). OperationsPre p z os s₃)
    then_operations = record { program = some.program; it = after_rows some.program some.it }

    pub roots_linked : {t : List ℕ} → OperationsLinked z os s₃ t → RootsLinked z os rs s t
    unfolding member any_of all_of
    roots_linked {t} f = record {
      only = only_then only_both (only_then b.only (only_of link_rows refl f.only));
      links = λ p a.
          let c = after_rows p a in
          all_linked p z t (sizes_kept f.only.long c.sizes) (f.linked p c);
    }
