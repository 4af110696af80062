-- Nothing for I, else the line. Assumes nothing.
use Rattle.std.proofs.Common.{◌≡◌, ◌∙◌, arith, rules}
use Rattle.letter.specs.Letters.{number_of_letter}
use Rattle.listing_print.specs.Printed.{printed_none, printed_as, room_as}
use Rattle.listing_print.specs.Letters.{no_letter, one_letter}
use Rattle.listing_print.proofs.letters.qubit.Goals as goal

pub returns-then-eq : goal.returns-then-eq
returns-then-eq c =
    let none : number_of_letter c.letter_at-c.result ≡ 0 = search rules in
    printed_as (no_letter _ _ _ _ c.letter_at-c.ensures none) (printed_none _ _ (omega (arith, c.requires.2)))

pub line-requires : goal.line-requires
line-requires c =
    let some : c.from.result ≡ 0 → ⊥ = search rules in
    room_as _ (one_letter _ _ _ _ (c.from.ensures ∙ c.letter_at-c.ensures) some) c.requires.2

pub returns : goal.returns
returns c =
    let some : c.from.result ≡ 0 → ⊥ = search rules in
    printed_as (one_letter _ _ _ _ (c.from.ensures ∙ c.letter_at-c.ensures) some) c.line.ensures
