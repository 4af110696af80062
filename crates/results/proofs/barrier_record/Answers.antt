-- A measurement, or a conditional rotation. Assumes nothing.
use borrow.Author.Rules.{rules}
use mathlib.Core.Path.{refl, sym, ◌∙◌}
use Rattle.records.specs.Kinds.{measure_test}
use Rattle.results.specs.Record.{measure_record, conditional_kind, conditional_record}
use Rattle.results.proofs.barrier_record.Goals as goal

pub returns-then-eq : goal.returns-then-eq
returns-then-eq c = measure_record _ _ _ _ (search rules) refl refl c.sign_field.ensures refl refl refl

pub returns : goal.returns
returns c =
    let k = conditional_kind _ c.requires.0 (sym (measure_test _) ∙ sym c.if-eq.ensures) in
    conditional_record _ _ _ _ k refl refl refl c.with_sign.ensures refl refl
