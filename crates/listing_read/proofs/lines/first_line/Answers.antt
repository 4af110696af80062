-- In front of the newline, and behind it. Assumes nothing.
use Rattle.std.proofs.Common.{sym, ap, ◌∙◌, ◌+◌, take, List, ℕ}
use Rattle.std.proofs.Math.Option.{some}
use Rattle.listing_fields.specs.Field.{tail_cut}
use Rattle.listing_read.specs.Lines.{cut}
use Rattle.listing_read.specs.LineEnd.{cut_found, cut_missing}
use Rattle.listing_read.proofs.lines.first_line.Goals as goal

pub returns-in_default : goal.returns-in_default
returns-in_default c = cut_missing _ (sym c.newline.ensures ∙ c.in_default.is)

pub returns : goal.returns
returns c =
    let text = c.args.text.now in
    let e = c.in-Some.e in
    ap (λ (rest : List ℕ). some (cut (take e text) rest)) (tail_cut text (e + 1)) ∙ cut_found text e (sym c.newline.ensures ∙ c.in-Some.is)
