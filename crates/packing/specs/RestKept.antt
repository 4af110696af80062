-- What is unchanged while nodes are packed: words from limit + 2l on, and rows that no turn writes. Assumes nothing.
use Rattle.std.specs.Prelude.{List, ◌∷◌, ℕ, ◌+◌, ◌*◌}
use Rattle.layout.specs.declared.Shape.{Shape}
use Rattle.layout.specs.Rows.{uses_row, node_slot, node_phase, free_row, root_axis, root_sign, axes_rows}
use Rattle.layout.specs.Only.{Only, only_none, only_then}
use Rattle.layout.specs.Words.{KeptFrom, kept_none, kept_then}
use Rattle.layout.specs.Shape.{Granted, granted_same}

-- the rows that a turn writes; storing an axis writes the last ones
abbrev pub turn_rows : List ℕ
turn_rows = uses_row ∷ node_slot ∷ node_phase ∷ free_row ∷ root_axis ∷ root_sign ∷ axes_rows

pub record RestKept (z : Shape) (ws xs ws' xs' : List ℕ) : Type 0 where
  pub words : KeptFrom (z.limit + 2 * z.l) ws ws'
  pub numbers : Only turn_rows z.u xs xs'

-- nothing is written
pub rest_none : (z : Shape) (ws xs : List ℕ) → RestKept z ws xs ws xs
rest_none z ws xs = record { words = kept_none _ ws; numbers = only_none _ z.u xs }

-- one turn after the other
pub rest_then : {z : Shape} {ws xs ws' xs' ws'' xs'' : List ℕ} → RestKept z ws xs ws' xs'
    → RestKept z ws' xs' ws'' xs'' → RestKept z ws xs ws'' xs''
rest_then a b = record { words = kept_then a.words b.words; numbers = only_then a.numbers b.numbers }

-- the stores stay as long as refusal 3 asks
pub rest_granted : {z : Shape} {ws xs ws' xs' : List ℕ} → Granted z ws xs → RestKept z ws xs ws' xs' → Granted z ws' xs'
rest_granted g l = granted_same g l.words.long l.numbers.long
