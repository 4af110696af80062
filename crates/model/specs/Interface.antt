-- The interface's types in 01's words: the answers' numbers, Rust's defaults, counters at 0. Assumes nothing.
use Rattle.std.specs.Prelude.{Bool, true, false, ◌&&◌, ◌||◌, ℕ, eqb, leb, Ok, Err}
use Rattle.model.specs.declared.Lazy.TheVariants.{Off}
use Rattle.model.specs.declared.Strategy.TheVariants.{Merge}
use Rattle.model.specs.declared.Options.{Options}
use Rattle.model.specs.declared.Refusal.{Refusal}
use Rattle.model.specs.declared.Refusal.TheVariants.{CountOutside, OptionOutside, SliceShort, BadNode, BadQubit, BadReference}
use Rattle.model.specs.declared.Refusal.TheVariants.{BadOperation, BadOutcome, NonHermitianAxis, ExpansionLimit, BadText, BadPlace}
use Rattle.model.specs.declared.ExpansionLimit.{ExpansionLimit as NoRoom}
use Rattle.model.specs.declared.Counters.{Counters}
use Rattle.model.specs.Answers.{Answer}

-- "If the answer is an enum, a definition gives this paper's number and values for each of its cases." The cases have no values
abbrev pub refusal_number : Refusal → ℕ
refusal_number CountOutside = 1
refusal_number OptionOutside = 2
refusal_number SliceShort = 3
refusal_number BadNode = 4
refusal_number BadQubit = 5
refusal_number BadReference = 6
refusal_number BadOperation = 7
refusal_number BadOutcome = 8
refusal_number NonHermitianAxis = 9
refusal_number ExpansionLimit = 10
refusal_number BadText = 11
refusal_number BadPlace = 16

abbrev pub number_of : Answer → ℕ
number_of (Ok u) = 0
number_of (Err r) = refusal_number r

-- what an answer of 10 says by itself; it has no parts
abbrev pub expansion_limit : NoRoom
expansion_limit = record {}

-- 0: the work goes on
abbrev pub accepts : Answer → Bool
accepts a = eqb (number_of a) 0

-- the numbers of Checking's refusals: 1 to 8; and 16, "tested last among the checks" (02, M-112)
abbrev pub of_checking : ℕ → Bool
of_checking n = leb 1 n && leb n 8 || eqb n 16

-- "options are Rust's defaults save the limit"; 02, M-107: "the old order stays the default"
abbrev pub defaults_at : ℕ → Options
defaults_at limit = record {
  lookback = 1048576;
  window = 0;
  candidates = 16;
  rounds = 8;
  clifford_to_frame = true;
  eager_swaps = true;
  second_exchange_first = false;
  lazy_cliffords = Off;
  strategy = Merge;
  measure_depth = false;
  max_packed_words = limit;
}

-- "every run starts them at 0", "After any refusal counters are 0."
abbrev pub no_counters : Counters
no_counters = record {
  t_before = 0;
  t_after = 0;
  rotations_before = 0;
  rotations_after = 0;
  merges = 0;
  swaps = 0;
  cliffords_to_frame = 0;
  t_depth_before = 0;
  t_depth_after = 0;
  weight_before = 0;
  weight_after = 0;
  packed_words = 0;
}
