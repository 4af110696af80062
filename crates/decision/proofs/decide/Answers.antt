-- Packing, then the passes. Assumes nothing.
use Rattle.std.proofs.lemmas.Result.{err_from_is_err_and}
use Rattle.decision.specs.Start.{packed_peak}
use Rattle.decision.specs.Decision.{decide_passes, decide_refused}
use Rattle.decision.proofs.decide.Goals as goal

pub pack-requires : goal.pack-requires
pack-requires c = c.requires.0

pub shape_of-words-in_err-axes : goal.shape_of-words-in_err-axes
shape_of-words-in_err-axes c = c.pack.ensures.words.long

pub shape_of-numbers-in_err-axes : goal.shape_of-numbers-in_err-axes
shape_of-numbers-in_err-axes c = c.pack.ensures.numbers.long

pub returns-in_err-axes : goal.returns-in_err-axes
returns-in_err-axes c =
    let p = err_from_is_err_and c.from_residual.result c.from_residual.ensures.1 in
    rw (p.1, p.2) (decide_refused c.pack.ensures c.args.options c.in_err-axes.was)

pub passes-requires : goal.passes-requires
passes-requires c = (
  record { ws₀ = _; xs₀ = _; answer = _; peak = _; pre = c.requires.0; done = c.pack.ensures; accepted = c.in_ok-axes.was },
  c.requires.1,
  packed_peak c.pack.ensures c.in_ok-axes.was,
)

pub shape_of-words : goal.shape_of-words
shape_of-words c = (decide_passes c.pack.ensures c.passes.ensures).long.words

pub shape_of-numbers : goal.shape_of-numbers
shape_of-numbers c = (decide_passes c.pack.ensures c.passes.ensures).long.numbers

pub returns : goal.returns
returns c = decide_passes c.pack.ensures c.passes.ensures
