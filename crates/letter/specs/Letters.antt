-- The letters and the model's numbers for them. Assumes nothing.
use Rattle.std.specs.Prelude.{◌≡◌, refl, ℕ, zero, suc}
use Rattle.pauli.specs.Letter.{has_x, has_z, single}
use Rattle.letter.specs.declared.Letter.{Letter}
use Rattle.letter.specs.declared.Letter.TheVariants.{I, X, Y, Z}

-- "letters I X Y Z = 0 to 3"
abbrev pub number_of_letter : Letter → ℕ
number_of_letter I = 0
number_of_letter X = 1
number_of_letter Y = 2
number_of_letter Z = 3

-- the letter of a node's number: "letters I X Y Z = 0 to 3" is what Checking tests, and above 3 a letter has no x and has z, as Z
abbrev pub letter_numbered : ℕ → Letter
letter_numbered zero = I
letter_numbered (suc zero) = X
letter_numbered (suc (suc zero)) = Y
letter_numbered (suc (suc (suc n))) = Z

-- it makes the word that the number does
pub single_numbered : (l q n : ℕ) → single l q (number_of_letter (letter_numbered n)) ≡ single l q n
unfolding single has_x has_z
single_numbered l q zero = refl
single_numbered l q (suc zero) = refl
single_numbered l q (suc (suc zero)) = refl
single_numbered l q (suc (suc (suc n))) = refl
