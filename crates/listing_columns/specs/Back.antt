-- 01, "Listing program": a printed text read back from its bytes, by the rules that an input is read by. Assumes nothing.
use Rattle.std.proofs.Math.Option
use Rattle.std.proofs.Math.Option.{Option, some, bind, map}
use Rattle.std.specs.Prelude.{List, [], ◌∷◌, ℕ, ◌/◌, length, get_or, drop}
use Rattle.model.specs.Listing.{columns, lines_from, fields_from}

-- "8 columns": a line has as many fields as its bytes make columns
unfoldable pub fields_back : List ℕ → Option (List ℕ)
fields_back line = fields_from (length line / columns) line

unfoldable pub each_back : List (List ℕ) → Option (List (List ℕ))
each_back [] = some []
each_back (line ∷ rest) = bind (fields_back line) (λ ns. map (λ ls. ns ∷ ls) (each_back rest))

-- "each line ends in one newline": the lines of a text, each by its fields; none where a line is no row of columns, or a column no number
unfoldable pub text_back : List ℕ → Option (List (List ℕ))
text_back bytes = bind (lines_from [] [] bytes) each_back

-- the lines of a text that can be read, else no lines
unfoldable pub lines_back : List ℕ → List (List ℕ)
lines_back bytes = Option.get_or (text_back bytes) []

-- its first line, and the lines behind it
abbrev pub first_back : List ℕ → List ℕ
first_back bytes = get_or (lines_back bytes) 0 []

abbrev pub rest_back : List ℕ → List (List ℕ)
rest_back bytes = drop 1 (lines_back bytes)
