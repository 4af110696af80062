-- What a call answers, in 01's words: it is accepted, or refused for a reason. Assumes nothing.
use Rattle.std.specs.Prelude.{Result, Ok, Err}
use Rattle.model.specs.declared.Refusal.{Refusal}
use Rattle.model.specs.declared.Refusal.TheVariants as refusals

abbrev pub Answer : Type 0
Answer = Result (Unit {0}) Refusal

abbrev pub Accepted : Answer
Accepted = Ok tt

abbrev pub CountOutside : Answer
CountOutside = Err refusals.CountOutside

abbrev pub OptionOutside : Answer
OptionOutside = Err refusals.OptionOutside

abbrev pub SliceShort : Answer
SliceShort = Err refusals.SliceShort

abbrev pub BadNode : Answer
BadNode = Err refusals.BadNode

abbrev pub BadQubit : Answer
BadQubit = Err refusals.BadQubit

abbrev pub BadReference : Answer
BadReference = Err refusals.BadReference

abbrev pub BadOperation : Answer
BadOperation = Err refusals.BadOperation

abbrev pub BadOutcome : Answer
BadOutcome = Err refusals.BadOutcome

abbrev pub NonHermitianAxis : Answer
NonHermitianAxis = Err refusals.NonHermitianAxis

abbrev pub ExpansionLimit : Answer
ExpansionLimit = Err refusals.ExpansionLimit

abbrev pub BadText : Answer
BadText = Err refusals.BadText

abbrev pub BadPlace : Answer
BadPlace = Err refusals.BadPlace

-- the answer of a call that hands back more where it is accepted
abbrev pub answer_in : {T : Type 0} → Result T Refusal → Answer
answer_in (Ok x) = Accepted
answer_in (Err r) = Err r
