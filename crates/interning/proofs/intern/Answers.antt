-- Three cases: the word is stored, the limit refuses it, or it is laid behind the axes. Assumes nothing.
use Rattle.std.proofs.Common.{refl, ap, ◌∙◌, arith}
use Rattle.model.specs.Words.{id_of}
use Rattle.interning.specs.Intern.{answered_old, answered_limit, answered_new, stores_old, stores_limit, stores_new, beside_there, link_there}
use Rattle.interning.proofs.intern.Goals as goal

pub returns-in-Ok : goal.returns-in-Ok
returns-in-Ok c =
    stores_old c.requires.held
    (answered_old _ _ _ _ _ _ c.in-Ok.ensures.id_is c.word_at-w.ensures c.requires.tested c.in-Ok.ensures.stored)
    (c.in-Ok.ensures.id_is ∙ ap (id_of _) c.word_at-w.ensures) c.in-Ok.ensures.stored refl

pub returns-then-z-sum : goal.returns-then-z-sum
returns-then-z-sum c =
    stores_limit (answered_limit _ _ _ _ _ _ c.in-Err.ensures.none c.word_at-w.ensures c.axis_at-end.ensures
    (omega arith) c.if-z-sum.true)

pub enter-requires : goal.enter-requires
enter-requires c = (
  beside_there c.requires c.axis_at-end.ensures c.if-z-sum.false c.word_at-w.ensures,
  link_there _ c.requires.held
      c.axis_at-end.ensures c.if-z-sum.false
      c.in-Err.ensures.ends,
)

pub returns : goal.returns
returns c =
    stores_new c.requires.held (answered_new _ _ _ _ _ _ c.in-Err.ensures.none c.word_at-w.ensures
    c.axis_at-end.ensures (omega arith) c.requires.tested c.if-z-sum.false c.max.ensures _
    c.copy_within.ensures) c.in-Err.ensures.none (omega arith) refl c.word_at-w.ensures
    c.in-Err.ensures.ends c.enter.ensures
