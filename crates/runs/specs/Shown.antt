-- How runs are written in this crate: records by what they mean, and all that a run shows. Assumes nothing.
use Rattle.std.specs.Prelude.{Bool, false, ℕ, length}
use mathlib.Core.List.{List, [], ◌∷◌, flatten}
use Prim.Native.String.{String}
use Prim.Native.Char.{code}
use Rattle.model.specs.declared.Strategy.{Strategy}
use Rattle.model.specs.declared.Counters.{Counters}
use Rattle.model.specs.Program.{Job, Program, program_of}
use Rattle.model.specs.declared.Lazy.TheVariants.{Off}
use Rattle.model.specs.declared.Absorption.{Absorption}
use Rattle.model.specs.Rules.{Rules}
use Rattle.model.specs.Run.{Ending, non_hermitian, finished, run}
use Rattle.model.specs.Results.{operation_results, row_results, counters_of}
use Prim.Native.String.{[] as done, ◌∷◌ as ◌then◌}

-- ---- a program, by its records

abbrev pub I : List ℕ
I = 0 ∷ 0 ∷ 0 ∷ 0 ∷ 0 ∷ []

abbrev pub X : ℕ → List ℕ
X q = 1 ∷ q ∷ 1 ∷ 0 ∷ 0 ∷ []

abbrev pub Y : ℕ → List ℕ
Y q = 1 ∷ q ∷ 2 ∷ 0 ∷ 0 ∷ []

abbrev pub Z : ℕ → List ℕ
Z q = 1 ∷ q ∷ 3 ∷ 0 ∷ 0 ∷ []

-- node a times node b, with their phases
abbrev pub product : ℕ → ℕ → ℕ → ℕ → List ℕ
product a p b r = 2 ∷ a ∷ p ∷ b ∷ r ∷ []

-- a node, its phase, an angle
abbrev pub rotate : ℕ → ℕ → ℕ → List ℕ
rotate n p k = 1 ∷ n ∷ p ∷ k ∷ 65535 ∷ 65535 ∷ []

-- a node, its phase, the outcome, the target
abbrev pub measure : ℕ → ℕ → ℕ → ℕ → List ℕ
measure n p o t = 2 ∷ n ∷ p ∷ 0 ∷ o ∷ t ∷ []

-- a node, its phase, an angle, the outcome
abbrev pub conditional : ℕ → ℕ → ℕ → ℕ → List ℕ
conditional n p k o = 3 ∷ n ∷ p ∷ k ∷ o ∷ 65535 ∷ []

-- a frame row: its qubit, 0 x or 1 z, a node, its phase
abbrev pub row : ℕ → ℕ → ℕ → ℕ → List ℕ
row q z n p = q ∷ z ∷ n ∷ p ∷ []

abbrev pub job : ℕ → List (List ℕ) → List (List ℕ) → List (List ℕ) → Job
job q nodes operations rows = record {
  counts = record { qubits = q; nodes = length nodes; operations = length operations };
  nodes = flatten nodes;
  operations = flatten operations;
  rows = flatten rows;
}

abbrev pub program : ℕ → List (List ℕ) → List (List ℕ) → List (List ℕ) → Program
program q nodes operations rows = program_of (job q nodes operations rows)

-- by the order of ties: whether second with third is tried first
abbrev pub rules_in_order : Bool → ℕ → ℕ → ℕ → Absorption → Bool → Strategy → Bool → Rules
rules_in_order second_first lookback window candidates absorption eager strategy depth = record {
  lookback = lookback;
  exchange = record { window = window; candidates = candidates; eager = eager; second_first = second_first };
  absorption = absorption;
  lazy = Off;
  strategy = strategy;
  depth = depth;
}

-- the old order
abbrev pub rules : ℕ → ℕ → ℕ → Absorption → Bool → Strategy → Bool → Rules
rules = rules_in_order false

-- ---- what comes out

-- an id, an angle
abbrev pub rotated : ℕ → ℕ → List ℕ
rotated a k = 1 ∷ a ∷ 1 ∷ k ∷ 65535 ∷ 65535 ∷ []

-- an id with sign 1 or -1, the outcome, the target
abbrev pub measured+ : ℕ → ℕ → ℕ → List ℕ
measured+ a o t = 2 ∷ a ∷ 1 ∷ 0 ∷ o ∷ t ∷ []

abbrev pub measured- : ℕ → ℕ → ℕ → List ℕ
measured- a o t = 2 ∷ a ∷ 4294967295 ∷ 0 ∷ o ∷ t ∷ []

-- an id, an angle, the outcome
abbrev pub conditioned : ℕ → ℕ → ℕ → List ℕ
conditioned a k o = 3 ∷ a ∷ 1 ∷ k ∷ o ∷ 65535 ∷ []

-- a row: its qubit, 0 x or 1 z; an id with sign 1 or -1
abbrev pub kept : ℕ → ℕ → List ℕ
kept q z = q ∷ z ∷ 4294967295 ∷ 0 ∷ []

abbrev pub given+ : ℕ → ℕ → ℕ → List ℕ
given+ q z a = q ∷ z ∷ a ∷ 1 ∷ []

abbrev pub given- : ℕ → ℕ → ℕ → List ℕ
given- q z a = q ∷ z ∷ a ∷ 4294967295 ∷ []

pub data Shown : Type 0 where
  -- a root's phase was odd: the peak
  non_hermitian_at : ℕ → Shown
  -- peak; operations; rows; axes; counters
  shows : ℕ → List (List ℕ) → List (List ℕ) → List (List ℕ) → List ℕ → Shown

-- T before, T after, merges, swaps, absorbed, rotations, T-depth and weight before and after, the largest sum
abbrev pub all_counters : Counters → List ℕ
all_counters c =
    c.t_before ∷ c.t_after ∷ c.merges ∷ c.swaps ∷ c.cliffords_to_frame ∷ c.rotations_before ∷ c.rotations_after
    ∷ c.t_depth_before ∷ c.t_depth_after ∷ c.weight_before ∷ c.weight_after ∷ c.packed_words ∷ []

abbrev pub shown_ending : Rules → Program → ℕ → Ending → Shown
shown_ending r p peak non_hermitian = non_hermitian_at peak
shown_ending r p peak (finished f) =
    shows peak (operation_results p f.end) (row_results p f.end) f.end.store.axes (all_counters (counters_of r p f))

-- all of a run with k rounds
abbrev pub shown : Rules → ℕ → Program → Shown
shown r k p = shown_ending r p (run r k p).peak (run r k p).ending

-- ---- a text as its bytes

abbrev pub bytes : String → List ℕ
bytes done = []
bytes (c then s) = code c ∷ bytes s
