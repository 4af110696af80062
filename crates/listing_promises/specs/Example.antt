-- 01's listing, its output read back by the definitions that the promises use. Assumes nothing.
use Rattle.std.specs.Prelude.{◌≡◌, refl, List, [], ◌∷◌, ◌++◌, ℕ}
use Rattle.pauli.specs.LetterLaws.{from_letters}
use Rattle.model.specs.Program.{minus_one}
use Rattle.model.specs.Everything.{everything}
use Rattle.runs.specs.Shown.{bytes}
use Rattle.result_effect.specs.Definitions.{operations_read, rows_read, letters_read, letter_read, axes_read}
use Rattle.listing_columns.specs.Back.{fields_back, each_back, text_back, lines_back, first_back}
use Rattle.listing_promises.specs.Back.{operations_printed, rows_printed, axes_printed}

abbrev output : List ℕ
output =
    bytes "       0       2       0       1       0       1       1       3      12\n"
    ++ (bytes "       2       2      -1       0       0      -1\n"
    ++ (bytes "       0       0       2      -1\n"
    ++ (bytes "       0       1       0       1\n"
    ++ (bytes "       0       0       3\n"
    ++ (bytes "       1       0       1\n"
    ++ bytes "       2       0       2\n")))))

-- a -1 is 4,294,967,295, as in a lent slice; the axes are Z, X and Y of one qubit
pub record Example : Type 0 where
  pub first : first_back output ≡ 0 ∷ 2 ∷ 0 ∷ 1 ∷ 0 ∷ 1 ∷ 1 ∷ 3 ∷ 12 ∷ []
  pub operations : operations_printed output ≡ (2 ∷ 2 ∷ minus_one ∷ 0 ∷ 0 ∷ minus_one ∷ []) ∷ []
  pub rows : rows_printed 1 output ≡ (0 ∷ 0 ∷ 2 ∷ minus_one ∷ []) ∷ (0 ∷ 1 ∷ 0 ∷ 1 ∷ []) ∷ []
  pub axes : axes_printed 1 output ≡ (0 ∷ 1 ∷ []) ∷ (1 ∷ 0 ∷ []) ∷ (1 ∷ 1 ∷ []) ∷ []

pub example : Example
unfolding everything text_back each_back fields_back lines_back operations_read rows_read letters_read letter_read axes_read from_letters
example = record { first = refl; operations = refl; rows = refl; axes = refl }
