-- The rows in turn: each is tested where those before it have passed. Assumes nothing.
use Rattle.std.proofs.Common.{◌≡◌, refl, sym, ◌∙◌, true, ◌≤◌, arith, rules, tests}
use Rattle.layout.specs.Rows.{items_row}
use Rattle.items.specs.View.{rot_at}
use Rattle.certificate.specs.Ranges.{all_over, serves_in_turn}
use Rattle.certificate.specs.Turns.{row_from, rows_from, rows_turn, rows_done, rows_all}
use Rattle.certificate.specs.Earlier.{RowVanishPre, RowsPassed, no_rows, one_row}
use Rattle.certificate.proofs.generators_commute.Goals as goal

pub all-requires-clause-callable : goal.all-requires-clause-callable
all-requires-clause-callable c =
    let a = c.args in
    let v = a.axes in
    serves_in_turn (λ p. (a.a.from ≤ p) × RowsPassed v.sizes v.words.now v.numbers.now a.a a.b p) (λ p s k. search (rules, tests))
    (λ p s high past k.
    let e : true ≡ row_from v.sizes v.words.now v.numbers.now a.a a.b (rot_at v.numbers.now v.sizes.u items_row p) a.b.from = search (rules, tests) in
    (omega (arith, past.0), one_row past.1 e refl))
    (λ p high past.
    let row : RowVanishPre v.sizes v.words.now v.numbers.now a.a a.b p =
    record { groups = c.requires; from_in = past.0; end_in = high; rows = past.1 } in
    search (rules, row))
    (omega arith, no_rows _ _ _ _ _)

pub returns : goal.returns
returns c =
    let a = c.args in
    let v = a.axes in
    all_over _ _ _ (λ p. row_from v.sizes v.words.now v.numbers.now a.a a.b (rot_at v.numbers.now v.sizes.u items_row p) a.b.from)
    (rows_from v.sizes v.words.now v.numbers.now a.a a.b) c.all.ensures.ran
    (λ p b s k. search (rules, tests)) (λ p high. rows_turn _ _ _ _ _ _ high) (λ p over. rows_done _ _ _ _ _ _ over)
    ∙ sym (rows_all _ _ _ _ _)
