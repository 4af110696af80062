-- Links, then use counts, leave what packing starts from. Assumes nothing.
use Rattle.std.specs.Prelude.{◌≡◌, ℕ, ◌≤◌, ◌<◌, get_or}
use Rattle.std.proofs.Math.Path.{refl, ap}
use Rattle.std.proofs.Common.{sym, ◌∙◌, arith}
use mathlib.Core.List.{List, [], ◌∷◌}
use Rattle.model.specs.Lists.{all_of, any_of, member}
use Rattle.model.specs.Program.{Node, PauliRef, Program}
use Rattle.model.specs.Roots.{roots}
use Rattle.model.specs.Packing.{count_uses, use_counts}
use Rattle.layout.specs.declared.Shape.{Shape}
use Rattle.layout.specs.Rows.{uses_row, first_root, next_root, root_axis, root_sign, entries}
use Rattle.layout.specs.Only.{Only, only_of, only_then}
use Rattle.records.specs.Nodes.{nodes_in}
use Rattle.records.specs.Given.{program_in, nodes_in_lem}
use Rattle.packing_states.specs.References.{total}
use Rattle.packing_states.specs.ReferenceLaws.{roots_from_le, roots_from_all}
use Rattle.packing_states.specs.Counts.{root_counts, root_counts_at}
use Rattle.packing_states.specs.Linked.{Linked, linked_same}
use Rattle.packing_states.specs.InMemory.{operation_reference, row_reference, OfShape, given_shape}
use Rattle.packing_states.specs.NodeRows.{given_rows}
use Rattle.packing_states.specs.SomeProgram.{SomeProgram}
use Rattle.roots.specs.Links.{link_rows, LinkPre, Links, RootsLinked}
use Rattle.roots.specs.UseCounts.{CountPre, UsesCounted}
use Rattle.roots.specs.Prepared.{PreparePre, Prepared}

-- counting uses keeps the links
linked_kept : {p : Program} {z : Shape} {s t : List ℕ} → Only (uses_row ∷ []) z.u s t → Linked p z s → Linked p z t
unfolding member any_of
linked_kept o f =
    linked_same (o.rows first_root (omega arith) refl) (o.rows next_root (omega arith) refl)
    (o.rows root_axis (omega arith) refl) (o.rows root_sign (omega arith) refl) f

-- a node has at most as many roots as there are references
counts_small : (p : Program) (count m : ℕ) → m < count → get_or (root_counts (roots p) count) m 0 ≤ total p
counts_small p count m h = omega (arith, root_counts_at (roots p) count m h, roots_from_all p m, roots_from_le p m 0)

module _ (z : Shape) (ns os rs s : List ℕ) (pre : PreparePre z ns os rs s) where
  abbrev p : Program
  p = program_in z ns os rs

  of_shape : OfShape p z
  of_shape = given_shape pre.given

  links_pre : LinkPre p z os rs s
  links_pre = record {
    sizes = record { sized = pre.sized; long = pre.numbers_long; program = of_shape };
    operations = record {
      long = pre.given.operations_long;
      node = λ i h. ap (λ (r : PauliRef). r.node) (operation_reference z ns os rs i h);
    };
    rows = record {
      long = pre.given.rows_long;
      node = λ r h. ap (λ (x : PauliRef). x.node) (row_reference z ns os rs r h);
      tells = pre.tells;
    };
  }

  pub first_links : SomeProgram (λ (q : Program). LinkPre q z os rs s)
  first_links = record { program = p; it = links_pre }

  module _ (s₁ : List ℕ) (l : RootsLinked z os rs s s₁) where
    links : Links p z s₁
    links = l.links p links_pre

    pub then_uses : CountPre ns s₁ z.u z.nodes
    then_uses = record {
      nodes = given_rows pre.sized pre.given (omega (arith, pre.numbers_long, l.only.long));
      few = pre.sized.nodes;
      uses = λ m h.
          let d = pre.sized in
          rw links.uses (omega (arith, counts_small p z.nodes m h, of_shape.references, d.operations, d.qubits));
    }

    -- the model counts for as many nodes as there are
    counted : {t : List ℕ} → UsesCounted ns s₁ z.u z.nodes t
        → entries t z.u uses_row z.nodes ≡ use_counts p.nodes (roots p)
    unfolding use_counts
    counted c =
        let own = root_counts (roots p) z.nodes in
        rw of_shape.nodes
        (c.uses ∙ ap (count_uses (nodes_in z.nodes ns) z.nodes) links.uses
        ∙ ap (λ (nodes : List Node). count_uses nodes z.nodes own) (sym (nodes_in_lem z ns os rs)))

    pub prepared : {t : List ℕ} → UsesCounted ns s₁ z.u z.nodes t → Prepared z ns os rs s t
    unfolding member any_of all_of
    prepared {t} c =
        record {
          only = only_then l.only (only_of link_rows refl c.only);
          linked = linked_kept c.only links.linked;
          uses = counted c;
        }
