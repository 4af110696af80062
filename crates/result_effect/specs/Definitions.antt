-- 01, "Effect" and "Listing program": the operations and the rows that a result's records stand for, by their fields alone. Assumes nothing.
use Rattle.std.specs.Prelude.{Bool, true, false, ◌&&◌, List, [], ◌∷◌, map, ℕ, zero, suc, ◌+◌, ◌*◌, eqb, pos, get_or, take, drop}
use Rattle.groups.specs.Eighth.{e0, eighth}
use Rattle.pauli.specs.LetterLaws.{from_letters}
use Rattle.model.specs.Lists.{when◌then◌else◌}
use Rattle.model.specs.Program.{field_of, minus_one, PauliRef, Program}
use Rattle.model.specs.Roots.{is_root}
use Rattle.model.specs.Packing.{SignedAxis}
use Rattle.model.specs.Rounds.{Work}
use Rattle.model.specs.Results.{axes_left}
use Rattle.effect.specs.Phase.{Quarter, q0, q2, Sgn, nil, plus, minus}
use Rattle.effect.specs.Effect.{Op, plain, measured, conditional}
use Rattle.packing_effect.specs.Source.{source_row, axis_word, packed_row}

-- ---- fields

-- a sign: 1, or -1 as a lent slice has it, "4,294,967,295"
unfoldable pub sign_read : ℕ → Sgn
sign_read f = when eqb f 1 then plus else when eqb f minus_one then minus else nil

-- the same in quarter turns, for a row's "phase kept in front"
unfoldable pub turns_read : ℕ → Quarter
turns_read f = when eqb f 1 then q0 else q2

-- for a place outside the program
unfoldable pub no_row : PauliRef
no_row = record { node = 0; phase = 0 }

-- "two frame rows per qubit (x, then z)": row i of a program
abbrev pub row_at : List PauliRef → ℕ → PauliRef
row_at rows i = get_or rows i no_row

-- ---- the lines of a listing: the first, then rest

-- "operations": as many as the first line says
unfoldable pub operations_read : List ℕ → List (List ℕ) → List (List ℕ)
operations_read first rest = take (field_of first 6) rest

-- "rows": two for each of q qubits
unfoldable pub rows_read : ℕ → List ℕ → List (List ℕ) → List (List ℕ)
rows_read q first rest = take (2 * q) (drop (field_of first 6) rest)

-- "letters other than I": the lines left
unfoldable pub letters_read : ℕ → List ℕ → List (List ℕ) → List (List ℕ)
letters_read q first rest = drop (2 * q) (drop (field_of first 6) rest)

-- "(id, qubit, letter)": the letter of axis a at qubit q, I where none is printed
unfoldable pub letter_read : List (List ℕ) → ℕ → ℕ → ℕ
letter_read [] a q = 0
letter_read (r ∷ rest) a q = when eqb (field_of r 0) a && eqb (field_of r 1) q then field_of r 2 else letter_read rest a q

-- the words, of width l, of the axes a, a + 1, ..: n of them
unfoldable pub axes_read : ℕ → ℕ → ℕ → List (List ℕ) → List (List ℕ)
axes_read l a zero lines = []
axes_read l a (suc n) lines = from_letters l (letter_read lines a) (64 * l) ∷ axes_read l (suc a) n lines

-- word is what a stored word stands for; axes are the result's axis words, "by rising id"
module _ {W : Type 0} (word : List ℕ → W) where
  -- ---- operations

  -- "operations (kind, id, sign, angle, outcome, target)", "kind 1 rotate, 2 measure, 3 conditional"; no result has another kind
  unfoldable pub result_op_of_kind : List (List ℕ) → ℕ → List ℕ → Op W
  result_op_of_kind axes zero r = plain e0 (axis_word word axes 0)
  result_op_of_kind axes (suc zero) r = plain (eighth (pos (field_of r 3))) (axis_word word axes (field_of r 1))
  result_op_of_kind axes (suc (suc zero)) r = measured (sign_read (field_of r 2)) (axis_word word axes (field_of r 1)) (field_of r 4)
  result_op_of_kind axes (suc (suc (suc zero))) r = conditional (eighth (pos (field_of r 3))) (axis_word word axes (field_of r 1)) (field_of r 4)
  result_op_of_kind axes (suc (suc (suc (suc k)))) r = plain e0 (axis_word word axes 0)

  -- "Only a measurement keeps its sign; rotations, conditional too, have sign 1 and take theirs into the angle"
  unfoldable pub result_op : List (List ℕ) → List ℕ → Op W
  result_op axes r = result_op_of_kind axes (field_of r 0) r

  -- the operations of a result, in order
  unfoldable pub result_ops : List (List ℕ) → List (List ℕ) → List (Op W)
  result_ops axes rs = map (result_op axes) rs

  -- ---- rows

  -- "rows (qubit, row, id, sign; kept is -1, 0, ..)": a kept row is the source's row at its place, no other has sign 0
  unfoldable pub result_row : Program → List (List ℕ) → List ℕ → Quarter × W
  result_row p axes r =
      when eqb (field_of r 3) 0 then source_row word p (row_at p.rows (2 * field_of r 0 + field_of r 1)) else
      (turns_read (field_of r 3), axis_word word axes (field_of r 2))

  -- the rows of a result, in order
  unfoldable pub result_rows : Program → List (List ℕ) → List (List ℕ) → List (Quarter × W)
  result_rows p axes rs = map (result_row p axes) rs

  -- ---- the rows that the work at the end of a run stands for

  -- "kept .. for a row that is no root": a root takes the next of the carried rows
  unfoldable pub work_row : Program → List (List ℕ) → Bool → PauliRef → List SignedAxis → Quarter × W
  work_row p axes false r fs = source_row word p r
  work_row p axes true r [] = source_row word p r
  work_row p axes true r (f ∷ fs) = packed_row word axes f

  -- the rows from one on, and the carried rows that are left for them
  unfoldable pub work_rows_from : Program → List (List ℕ) → List PauliRef → List SignedAxis → List (Quarter × W)
  work_rows_from p axes [] fs = []
  work_rows_from p axes (r ∷ rest) fs = work_row p axes (is_root p r) r fs ∷ work_rows_from p axes rest (axes_left (is_root p r) fs)

  -- "and for all rows if no pass absorbed anything"
  unfoldable pub work_rows : Program → Work → List (Quarter × W)
  work_rows p w = work_rows_from p w.store.axes p.rows (when eqb w.absorbed 0 then [] else w.rows)
