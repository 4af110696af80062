-- What is kept there, or what was worked out. Assumes nothing.
use Rattle.trial.specs.Kept.{kept_told, kept_new}
use Rattle.trial.proofs.commute_kept.Goals as goal

pub returns-in-Some : goal.returns-in-Some
returns-in-Some c = kept_told c.requires c.read-kept.ensures c.kept_answer.ensures c.in-Some.is

pub returns : goal.returns
returns c = kept_new c.requires c.generators_commute-answer.ensures c.kept_number.ensures c.write.ensures
