-- 02, M-113: "where the later part names no outcome of the earlier". Where 8 refuses neither the whole nor the later part, it names none:
-- proofs/Outcomes.antt. Assumes nothing.
use Rattle.std.specs.Prelude.{◌≡◌, Bool, ◌&&◌, ℕ, eqb}
use Rattle.std.proofs.Math.Bool.{true, false, ◌||◌}
use mathlib.Core.List.{List}
use Rattle.model.specs.Lists.{any_of}
use Rattle.model.specs.Program.{field_of}

-- an operation record measures outcome x
abbrev pub measures_outcome : ℕ → List ℕ → Bool
measures_outcome x r = eqb (field_of r 0) 2 && eqb (field_of r 4) x

-- .. or names it, in a measurement or a condition
abbrev pub names_outcome : ℕ → List ℕ → Bool
names_outcome x r = (eqb (field_of r 0) 2 || eqb (field_of r 0) 3) && eqb (field_of r 4) x

-- "the later part names no outcome of the earlier"
abbrev pub NamesNone : List (List ℕ) → List (List ℕ) → Type 0
NamesNone earlier later = (x : ℕ) → any_of (measures_outcome x) earlier ≡ true → any_of (names_outcome x) later ≡ false
