-- Links in the number store: each node's roots in root order; they stay where their rows do. Assumes nothing.
use Rattle.std.specs.Prelude.{◌≡◌, true, false, List, ℕ, suc, ◌≤◌, ◌<◌, get_or}
use Rattle.store.specs.Row.{row}
use Rattle.model.specs.Program.{Program}
use Rattle.layout.specs.declared.Shape.{Shape}
use Rattle.layout.specs.Rows.{first_root, next_root, root_axis, root_sign, no_axis}
use Rattle.packing_states.specs.References.{reference_at, total, is_root_at, link_from}

-- of the references from j on, each node's roots are linked in root order; a frame row that is no root has no axis
pub record LinkedFrom (p : Program) (z : Shape) (j : ℕ) (t : List ℕ) : Type 0 where
  pub first : (n : ℕ) → n < z.nodes → get_or (row t z.u first_root) n 0 ≡ link_from p n j
  pub next : (i : ℕ) → j ≤ i → i < total p → is_root_at p i ≡ true
      → get_or (row t z.u next_root) i 0 ≡ link_from p (reference_at p i).node (suc i)
  pub no_axis_lem : (i : ℕ) → j ≤ i → i < total p → is_root_at p i ≡ false → get_or (row t z.u root_axis) i 0 ≡ no_axis
  pub no_sign : (i : ℕ) → j ≤ i → i < total p → is_root_at p i ≡ false → get_or (row t z.u root_sign) i 0 ≡ 0

-- of all references
abbrev pub Linked : Program → Shape → List ℕ → Type 0
Linked p z t = LinkedFrom p z 0 t

-- they stay where their rows do
pub linked_same : {p : Program} {z : Shape} {j : ℕ} {xs t : List ℕ} → row t z.u first_root ≡ row xs z.u first_root
    → row t z.u next_root ≡ row xs z.u next_root → row t z.u root_axis ≡ row xs z.u root_axis
    → row t z.u root_sign ≡ row xs z.u root_sign → LinkedFrom p z j xs → LinkedFrom p z j t
linked_same a b c d s = record {
  first = λ n e. rw a (s.first n e);
  next = λ i l e f. rw b (s.next i l e f);
  no_axis_lem = λ i l e f. rw c (s.no_axis_lem i l e f);
  no_sign = λ i l e f. rw d (s.no_sign i l e f);
}
