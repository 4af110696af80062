-- Two numbers are written, at the place and behind it.
use Rattle.std.proofs.Common.{arith}
use Rattle.layout.specs.Words.{words_then, words_set}
use Rattle.index_main.proofs.lay.Goals as goal

pub returns : goal.returns
returns c = words_then (words_set _ _ _ _ _ (omega arith) (omega arith)) (words_set _ _ _ _ _ (omega arith) (omega arith))
