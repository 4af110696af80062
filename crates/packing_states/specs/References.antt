-- A program's references by number, operations first, then frame rows; which are roots, and of which node. Assumes nothing.
use Rattle.std.specs.Prelude.{Bool, ◌&&◌, ◌||◌, List, map, ◌++◌, ℕ, zero, suc, ◌-◌, eqb, ltb, length, get_or}
use Rattle.model.specs.Lists.{when◌then◌else◌}
use Rattle.model.specs.Program.{PauliRef, Program}
use Rattle.model.specs.Roots.{relevant, operation_root}

unfoldable pub references : Program → List PauliRef
references p = map operation_root p.operations ++ p.rows

-- read where there is none
abbrev pub no_reference : PauliRef
no_reference = record { node = 0; phase = 0 }

unfoldable pub reference_at : Program → ℕ → PauliRef
reference_at p j = get_or (references p) j no_reference

-- how many there are
unfoldable pub total : Program → ℕ
total p = length (references p)

-- "Roots are operations, then the frame rows that mention a qubit mentioned by any operation's nodes"
unfoldable pub is_root_at : Program → ℕ → Bool
is_root_at p j = ltb j (length p.operations) || relevant p (reference_at p j).node

-- whether reference j is a root of node n
unfoldable pub root_of : Program → ℕ → ℕ → Bool
root_of p n j = is_root_at p j && eqb (reference_at p j).node n

-- the first root of node n among the k references from j on, as a link: its number plus 1; 0 if there is none
unfoldable pub link_within : Program → ℕ → ℕ → ℕ → ℕ
link_within p n zero j = 0
link_within p n (suc k) j = when root_of p n j then suc j else link_within p n k (suc j)

-- the same from reference j on
unfoldable pub link_from : Program → ℕ → ℕ → ℕ
link_from p n j = link_within p n (total p - j) j
