-- 02, M-113 by computing, about calls: a job whose later part has other ids than the whole; and what is false with absorption on, with three
-- rounds, and where the cut is not behind a barrier. Assumes nothing.
use Rattle.std.specs.Prelude.{◌≡◌, refl, Bool, true, false, List, [], ◌∷◌, ◌++◌, ℕ}
use Rattle.model.specs.declared.Strategy.TheVariants.{Merge}
use Rattle.model.specs.declared.Lazy.TheVariants.{Off}
use Rattle.model.specs.declared.Options.{Options}
use Rattle.model.specs.Answers.{BadOutcome}
use Rattle.model.specs.Program.{Job}
use Rattle.model.specs.Rewriting.{Reply, rewriting}
use Rattle.model.specs.Everything.{everything}
use Rattle.runs.specs.Shown.{I, X, Z, rotate, measure, conditional, row, job, rotated, measured+, conditioned}
use Rattle.runs.specs.Options.{options, lent}
use Rattle.theory.specs.WithoutExchange.{in_order}
use Rattle.cutting.specs.Worded.{WordedOperation, with_word}
use Rattle.promises.specs.Slices.{kinds_read}
use Rattle.promises.specs.Left.{operations_in}
use Rattle.promises.specs.Cut.{worded_in}

-- ---- calls

-- two qubits; nodes 1 to 4 are X0, Z0, X1, Z1, and so are the rows
abbrev pub two_qubits : List (List ℕ) → Job
two_qubits operations =
    job 2 (I ∷ X 0 ∷ Z 0 ∷ X 1 ∷ Z 1 ∷ []) operations (row 0 0 1 0 ∷ row 0 1 2 0 ∷ row 1 0 3 0 ∷ row 1 1 4 0 ∷ [])

-- by a limit; absorption, the window and the rounds; lookback 0, the old order
abbrev options_at : ℕ → Bool → ℕ → ℕ → Options
options_at limit absorption window rounds = options 0 window 16 rounds absorption true Off Merge false limit

-- absorption off, one round
abbrev pub at : ℕ → Options
at limit = options_at limit false 1 1

abbrev pub reply : Options → List (List ℕ) → Reply
reply o operations = rewriting o (two_qubits operations) (lent o (two_qubits operations))

-- the operations that come out, words in place of ids
abbrev pub left : Options → List (List ℕ) → List WordedOperation
left o operations = worded_in (two_qubits operations) (reply o operations).lent

-- its swaps and merges
abbrev counted : Options → List (List ℕ) → ℕ × ℕ
counted o operations = ((reply o operations).counters.swaps, (reply o operations).counters.merges)

abbrev worded_rotation : List ℕ → ℕ → WordedOperation
worded_rotation w k = record { kind = 1; word = w; sign = 1; angle = k; outcome = 65535; target = 65535 }

-- into an outcome and a target
abbrev worded_measurement : List ℕ → ℕ → ℕ → WordedOperation
worded_measurement w o t = record { kind = 2; word = w; sign = 1; angle = 0; outcome = o; target = t }

abbrev worded_conditional : List ℕ → ℕ → ℕ → WordedOperation
worded_conditional w k o = record { kind = 3; word = w; sign = 1; angle = k; outcome = o; target = 65535 }

-- ---- a cut

-- X0:1 X1:1 X0:1, which both exchanges improve, then a measurement of X0
abbrev pub earlier : List (List ℕ)
earlier = rotate 1 0 1 ∷ rotate 3 0 1 ∷ rotate 1 0 1 ∷ measure 1 0 0 5 ∷ []

-- Z1:1 Z1:1, which merge, a measurement of Z1, and X1:3 if it is 1
abbrev pub later : List (List ℕ)
later = rotate 4 0 1 ∷ rotate 4 0 1 ∷ measure 4 0 1 6 ∷ conditional 3 0 3 1 ∷ []

-- what they leave, the earlier part in the one order and in the other
abbrev first_left : List WordedOperation
first_left = worded_rotation (2 ∷ 0 ∷ []) 1 ∷ worded_rotation (1 ∷ 0 ∷ []) 2 ∷ worded_measurement (1 ∷ 0 ∷ []) 0 5 ∷ []

abbrev second_left : List WordedOperation
second_left = worded_rotation (1 ∷ 0 ∷ []) 2 ∷ worded_rotation (2 ∷ 0 ∷ []) 1 ∷ worded_measurement (1 ∷ 0 ∷ []) 0 5 ∷ []

abbrev later_left : List WordedOperation
later_left = worded_rotation (0 ∷ 2 ∷ []) 2 ∷ worded_measurement (0 ∷ 2 ∷ []) 1 6 ∷ worded_conditional (2 ∷ 0 ∷ []) 3 1 ∷ []

-- X0:1 Z0:1 Z0:7 X0:1 and a measurement of X1; X0:2 Z0:2 X0:2 X0:6 Z0:6 X0:2
abbrev cheaper : List (List ℕ)
cheaper = rotate 1 0 1 ∷ rotate 2 0 1 ∷ rotate 2 0 7 ∷ rotate 1 0 1 ∷ measure 3 0 0 5 ∷ []

abbrev merging : List (List ℕ)
merging = rotate 1 0 2 ∷ rotate 2 0 2 ∷ rotate 1 0 2 ∷ rotate 1 0 6 ∷ rotate 2 0 6 ∷ rotate 1 0 2 ∷ []

pub record Cut : Type 0 where
  -- the axes of the later part, X1 and Z1, have other ids in the whole, where X0 and Z0 come first
  pub ids_whole : operations_in (two_qubits (earlier ++ later)) (reply (at 32) (earlier ++ later)).lent
      ≡ rotated 2 1 ∷ rotated 0 2 ∷ measured+ 0 0 5 ∷ rotated 3 2 ∷ measured+ 3 1 6 ∷ conditioned 2 3 1 ∷ []
  pub ids_later : operations_in (two_qubits later) (reply (at 32) later).lent ≡ rotated 1 2 ∷ measured+ 1 1 6 ∷ conditioned 0 3 1 ∷ []
  -- the words are the whole's, in both orders of ties, which differ
  pub first_order : (left (at 32) earlier ≡ first_left) × (left (at 32) later ≡ later_left) × (left (at 32) (earlier ++ later) ≡ first_left ++ later_left)
  pub second_order : (left (in_order true (at 32)) earlier ≡ second_left) × (left (in_order true (at 32)) later ≡ later_left)
      × (left (in_order true (at 32)) (earlier ++ later) ≡ second_left ++ later_left)
  pub swaps_and_merges : (counted (at 32) (earlier ++ later) ≡ (1, 1)) × (counted (at 32) earlier ≡ (1, 0)) × (counted (at 32) later ≡ (0, 1))
  -- "where the later part names no outcome of the earlier": 8 refuses one that does
  pub named : (reply (at 32) (conditional 3 0 3 0 ∷ [])).answer ≡ BadOutcome
  -- false with absorption on: Z0:2 goes into F, and X0:1 behind the measurement comes out as Y0:7
  pub absorbed_whole : left (options_at 32 true 1 1) (rotate 2 0 2 ∷ measure 2 0 0 5 ∷ rotate 1 0 1 ∷ [])
      ≡ worded_measurement (0 ∷ 1 ∷ []) 0 5 ∷ worded_rotation (1 ∷ 1 ∷ []) 7 ∷ []
  pub absorbed_earlier : left (options_at 32 true 1 1) (rotate 2 0 2 ∷ measure 2 0 0 5 ∷ []) ≡ worded_measurement (0 ∷ 1 ∷ []) 0 5 ∷ []
  pub absorbed_later : left (options_at 32 true 1 1) (rotate 1 0 1 ∷ []) ≡ worded_rotation (1 ∷ 0 ∷ []) 1 ∷ []
  -- false where the cut is not behind a barrier: X0:1 X0:1 merge
  pub merged_whole : left (at 32) (rotate 1 0 1 ∷ rotate 1 0 1 ∷ []) ≡ worded_rotation (1 ∷ 0 ∷ []) 2 ∷ []
  pub merged_parts : left (at 32) (rotate 1 0 1 ∷ []) ≡ worded_rotation (1 ∷ 0 ∷ []) 1 ∷ []
  -- false with three rounds: X0:1 Z0:1 Z0:7 X0:1 before the measurement keep the rounds going, and what is behind it merges once more
  pub rounds_whole : left (options_at 32 false 0 3) (cheaper ++ merging)
      ≡ worded_rotation (1 ∷ 0 ∷ []) 2 ∷ worded_measurement (2 ∷ 0 ∷ []) 0 5 ∷ worded_rotation (1 ∷ 0 ∷ []) 4 ∷ []
  pub rounds_earlier : left (options_at 32 false 0 3) cheaper ≡ worded_rotation (1 ∷ 0 ∷ []) 2 ∷ worded_measurement (2 ∷ 0 ∷ []) 0 5 ∷ []
  pub rounds_later : left (options_at 32 false 0 3) merging ≡ worded_rotation (1 ∷ 0 ∷ []) 2 ∷ worded_rotation (1 ∷ 0 ∷ []) 2 ∷ []

pub cut : Cut
unfolding everything with_word kinds_read
cut = record {
  ids_whole = refl;
  ids_later = refl;
  first_order = (refl, refl, refl);
  second_order = (refl, refl, refl);
  swaps_and_merges = (refl, refl, refl);
  named = refl;
  absorbed_whole = refl;
  absorbed_earlier = refl;
  absorbed_later = refl;
  merged_whole = refl;
  merged_parts = refl;
  rounds_whole = refl;
  rounds_earlier = refl;
  rounds_later = refl;
}
