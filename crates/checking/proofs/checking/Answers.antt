-- The model's order of refusals. Assumes nothing.
use mathlib.Core.Path.{sym, ◌∙◌}
use Rattle.theory.specs.Cases.{neither}
use Rattle.theory.specs.Checked.{limit_fits}
use Rattle.checking.specs.Refusals.{count_refused, option_refused, slice_refused, records_decide}
use Rattle.checking.proofs.checking.Goals as goal

pub returns-then-bad_count : goal.returns-then-bad_count
returns-then-bad_count c = count_refused _ _ _ c.bad_count.ensures c.if-bad_count.true

pub returns-then-bad_option : goal.returns-then-bad_option
returns-then-bad_option c = option_refused _ _ _ c.bad_count.ensures c.if-bad_count.false c.bad_option.ensures c.if-bad_option.true

pub program_short-requires : goal.program_short-requires
program_short-requires c = sym c.bad_count.ensures ∙ c.if-bad_count.false

pub lent_short-requires : goal.lent_short-requires
lent_short-requires c = (
  sym c.bad_count.ensures ∙ c.if-bad_count.false,
  limit_fits _ (sym c.bad_option.ensures ∙ c.if-bad_option.false),
)

pub returns-then-program_short-lent_short : goal.returns-then-program_short-lent_short
returns-then-program_short-lent_short c =
    slice_refused _ _ _ c.bad_count.ensures c.if-bad_count.false c.bad_option.ensures c.if-bad_option.false
    c.program_short.ensures c.lent_short.ensures c.if-program_short-lent_short.true

pub check_records-requires : goal.check_records-requires
check_records-requires c = sym c.program_short.ensures ∙ (neither _ c.lent_short.result c.if-program_short-lent_short.false).0

pub returns : goal.returns
returns c = records_decide _ _ _ c.bad_count.ensures c.if-bad_count.false c.bad_option.ensures
    c.if-bad_option.false c.program_short.ensures c.lent_short.ensures c.if-program_short-lent_short.false
    c.check_records.ensures
