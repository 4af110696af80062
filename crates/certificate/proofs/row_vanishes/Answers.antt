-- The pairs in turn: each is tested where those before it have passed. Assumes nothing.
use Rattle.std.proofs.Common.{◌≡◌, refl, true, ◌≤◌, arith, rules, tests}
use Rattle.layout.specs.Rows.{items_row}
use Rattle.items.specs.View.{rot_at}
use Rattle.certificate.specs.Ranges.{all_over, serves_in_turn}
use Rattle.certificate.specs.Turns.{axis_at, pair_vanishes, row_from, row_next, row_done}
use Rattle.certificate.specs.Earlier.{PairPre, Passed, none_passed, one_passed}
use Rattle.certificate.proofs.row_vanishes.Goals as goal

pub all-requires-clause-callable : goal.all-requires-clause-callable
all-requires-clause-callable c =
    let a = c.args in
    let v = a.axes in
    let x = axis_at v.sizes v.numbers.now a.p in
    serves_in_turn (λ q. (a.b.from ≤ q) × Passed v.sizes v.words.now v.numbers.now a.a a.b x a.b.from q) (λ q s k. search (rules, tests))
    (λ q s high past k.
    let e : true ≡ pair_vanishes v.sizes v.words.now v.numbers.now a.a a.b x (axis_at v.sizes v.numbers.now q) = search (rules, tests) in
    (omega (arith, past.0), one_passed past.1 e refl))
    (λ q high past.
    let pair : PairPre v.sizes v.words.now v.numbers.now a.a a.b a.p q =
    record { row = c.requires; low = past.0; high = high; earlier = past.1 } in
    search (rules, pair))
    (omega arith, none_passed _ _ _ _ _ _ _)

pub returns : goal.returns
returns c =
    let a = c.args in
    let v = a.axes in
    all_over _ _ _
    (λ q. pair_vanishes v.sizes v.words.now v.numbers.now a.a a.b (axis_at v.sizes v.numbers.now a.p) (axis_at v.sizes v.numbers.now q))
    (row_from v.sizes v.words.now v.numbers.now a.a a.b (rot_at v.numbers.now v.sizes.u items_row a.p)) c.all.ensures.ran
    (λ q b s k. search (rules, tests)) (λ q high. row_next _ _ _ _ _ _ _ high) (λ q over. row_done _ _ _ _ _ _ _ over)
