-- Reading back, on a small text byte by byte. Assumes nothing.
use Rattle.std.specs.Prelude.{◌≡◌, refl, List, [], ◌∷◌, ◌++◌, ℕ}
use Rattle.std.proofs.Math.Option.{none, some}
use Rattle.model.specs.Program.{minus_one}
use Rattle.model.specs.Everything.{everything}
use Rattle.listing_columns.specs.Back.{fields_back, each_back, text_back}

-- "       2      -1" and a newline
abbrev two : List ℕ
two = 32 ∷ 32 ∷ 32 ∷ 32 ∷ 32 ∷ 32 ∷ 32 ∷ 50 ∷ 32 ∷ 32 ∷ 32 ∷ 32 ∷ 32 ∷ 32 ∷ 45 ∷ 49 ∷ 10 ∷ []

-- "98765430" and a newline
abbrev one : List ℕ
one = 57 ∷ 56 ∷ 55 ∷ 54 ∷ 53 ∷ 52 ∷ 51 ∷ 48 ∷ 10 ∷ []

-- "       7", without a newline
abbrev unended : List ℕ
unended = 32 ∷ 32 ∷ 32 ∷ 32 ∷ 32 ∷ 32 ∷ 32 ∷ 55 ∷ []

pub record Example : Type 0 where
  -- lines in order, columns in order, -1 as a lent slice has it
  pub lines : text_back (two ++ one) ≡ some ((2 ∷ minus_one ∷ []) ∷ (98765430 ∷ []) ∷ [])
  pub nothing : text_back [] ≡ some []
  -- a line without a newline, and one that is no row of columns
  pub no_newline : text_back (two ++ unended) ≡ none
  pub seven_columns : text_back (32 ∷ 32 ∷ 32 ∷ 32 ∷ 32 ∷ 32 ∷ 55 ∷ 10 ∷ []) ≡ none

pub example : Example
unfolding text_back each_back fields_back everything
example = record { lines = refl; nothing = refl; no_newline = refl; seven_columns = refl }
