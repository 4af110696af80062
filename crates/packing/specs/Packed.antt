-- What packing demands and leaves: the model's `packed`, read through views. Assumes nothing.
use Rattle.std.specs.Prelude.{◌≡◌, List, ◌∷◌, ◌++◌, map, ℕ, ◌+◌, ◌*◌, get_or, Result}
use Rattle.store.specs.Row.{row}
use Rattle.model.specs.Lists.{when◌then◌else◌, numbers_from}
use Rattle.model.specs.Program.{PauliRef, Program}
use Rattle.model.specs.Roots.{is_root, operation_root}
use Rattle.model.specs.Packing.{packed, values_of, SignedAxis, signed_axis}
use Rattle.axes.specs.Held.{sizes_of, HoldsAxes}
use Rattle.layout.specs.declared.Shape.{Shape}
use Rattle.layout.specs.Rows.{mark, acted, relevant_row, uses_row, first_root, next_root, node_slot, node_phase, free_row, root_axis, root_sign}
use Rattle.layout.specs.Rows.{axes_rows, no_axis}
use Rattle.layout.specs.Only.{Only}
use Rattle.layout.specs.Words.{KeptFrom}
use Rattle.layout.specs.Shape.{Granted}
use Rattle.records.specs.Given.{Given}
use Rattle.packing_answer.specs.declared.PackedAxes.{PackedAxes}
use Rattle.packing_answer.specs.declared.PackingRefusal.{PackingRefusal}
use Rattle.packing_answer.specs.Answer.{packed_with, packed_answer}

-- the work stores are long enough, and the program is one that Checking passed
pub record PackPre (z : Shape) (ns os rs ws xs : List ℕ) : Type 0 where
  pub granted : Granted z ws xs
  pub given : Given z ns os rs

-- ---- the roots' axes and signs

-- reference j's in memory
abbrev pub sign_at : Shape → List ℕ → ℕ → SignedAxis
sign_at z xs j = record { axis = get_or (row xs z.u root_axis) j 0; sign = get_or (row xs z.u root_sign) j 0 }

-- in memory, reference by reference
unfoldable pub signs_in : Shape → List ℕ → List SignedAxis
signs_in z xs = map (sign_at z xs) (numbers_from 0 (z.operations + 2 * z.qubits))

-- a frame row that is no root has none
unfoldable pub row_sign : Program → PauliRef → SignedAxis
row_sign p r = when is_root p r then signed_axis (packed p).store.axes (values_of p) r else record { axis = no_axis; sign = 0 }

-- in the model: operations, then frame rows
unfoldable pub signs_of : Program → List SignedAxis
signs_of p = map (λ o. signed_axis (packed p).store.axes (values_of p) (operation_root o)) p.operations ++ map (row_sign p) p.rows

-- the rows that packing writes; storing an axis writes the last ones
abbrev pub pack_rows : List ℕ
pack_rows =
    mark ∷ acted ∷ relevant_row ∷ uses_row ∷ first_root ∷ next_root ∷ node_slot ∷ node_phase ∷ free_row ∷ root_axis ∷ root_sign ∷ axes_rows

-- the answer is the model's, with the number of axes and the largest sum that was tested; where packing is accepted, the axes are the
-- model's too, within the limit, and each root's axis and sign; only packing's rows, and words below limit + 2l, are written. Free are,
-- after acceptance, the words from axes × 2l to limit + 2l, and packRows but for the references' axis and sign; after a refusal, all words
-- below limit + 2l and all of packRows
pub record PackedAs (z : Shape) (p : Program) (r : Result PackedAxes PackingRefusal) (ws xs ws' xs' : List ℕ) : Type 0 where
  pub answer : r ≡ packed_answer z.limit (packed p)
  pub axes : (n q : ℕ) → r ≡ packed_with n q → HoldsAxes (sizes_of z n) ws' xs' (packed p).store.axes
  pub signs : (n q : ℕ) → r ≡ packed_with n q → signs_in z xs' ≡ signs_of p
  pub words : KeptFrom (z.limit + 2 * z.l) ws ws'
  pub numbers : Only pack_rows z.u xs xs'
