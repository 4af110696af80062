-- 01, "Mistakes to rule out", and further readings that runs have shown to be wrong: a small case for each, by computing. The must-fail
-- edits of this crate put each mistake into a definition, and its case no longer holds. Assumes nothing.
use Rattle.std.specs.Prelude.{◌≡◌, refl, Bool, true, false, List, [], ◌∷◌, ℕ, pos, negsuc}
use Rattle.std.proofs.Math.Option.{none}
use Rattle.angle.specs.Angle.{eighths_of, signed_angle}
use Rattle.pauli.specs.Letter.{single}
use Rattle.model.specs.declared.Strategy.{Strategy}
use Rattle.model.specs.declared.Strategy.TheVariants.{Merge, Litinski}
use Rattle.model.specs.declared.Lazy.{Lazy}
use Rattle.model.specs.declared.Lazy.TheVariants.{Off, On, From}
use Rattle.model.specs.declared.Options.{Options}
use Rattle.model.specs.Program.{identity, letter, product, rotate, measure, Operation, Program}
use Rattle.model.specs.declared.Absorption.{Absorption}
use Rattle.model.specs.declared.Absorption.TheVariants.{Off as off, AtOnce as at_once, Lazy as lazy}
use Rattle.model.specs.Rules.{Rules, absorption_by, rules_of}
use Rattle.model.specs.Words.{as_value}
use Rattle.model.specs.Clifford.{absorb_image}
use Rattle.model.specs.Items.{rot, rotation, t_count}
use Rattle.model.specs.Run.{end_of, run}
use Rattle.model.specs.Listing.{numeral}
use Rattle.model.specs.Everything.{everything}

-- angle k about a node; a measurement of a node
abbrev turn : ℕ → ℕ → Operation
turn n k = record { kind = rotate; node = n; phase = 0; angle = k; outcome = 65535; target = 65535 }

abbrev measured : ℕ → Operation
measured n = record { kind = measure; node = n; phase = 0; angle = 0; outcome = 0; target = 65535 }

-- nodes 1, 2, 3 are X, Z and XZ of one qubit; no frame row is looked at
abbrev qubit : List Operation → Program
qubit operations =
    record { qubits = 1; nodes = identity ∷ letter 0 1 ∷ letter 0 3 ∷ product 1 0 2 1 ∷ []; operations = operations; rows = [] }

-- nodes 1, 2, 3 are Y of the second qubit, of the first, and of both
abbrev qubits : List Operation → Program
qubits operations =
    record { qubits = 2; nodes = identity ∷ letter 1 2 ∷ letter 0 2 ∷ product 1 0 2 0 ∷ []; operations = operations; rows = [] }

abbrev rules_for : Strategy → Bool → ℕ → ℕ → ℕ → Absorption → Rules
rules_for strategy second_first lookback window candidates absorption = record {
  lookback = lookback;
  exchange = record { window = window; candidates = candidates; eager = true; second_first = second_first };
  absorption = absorption;
  lazy = Off;
  strategy = strategy;
  depth = false;
}

abbrev rules : ℕ → ℕ → ℕ → Absorption → Rules
rules = rules_for Merge false

-- 02, M-112: Rust's other defaults, by the lazy setting
abbrev lazy_by : ℕ → ℕ → Lazy → Rules
lazy_by lookback window setting = record {
  lookback = lookback;
  exchange = record { window = window; candidates = 16; eager = true; second_first = false };
  absorption = absorption_by setting;
  lazy = setting;
  strategy = Merge;
  depth = false;
}

-- X:1 Z:2 Y:1, a measurement of Z, X:1 Z:2 Y:1
abbrev twice : Program
twice = qubit (turn 1 1 ∷ turn 2 2 ∷ turn 3 1 ∷ measured 2 ∷ turn 1 1 ∷ turn 2 2 ∷ turn 3 1 ∷ [])

-- XX:1 YY:1 ZI:1 IZ:1 YY:3 IX:1 XX:1, a measurement of ZI
abbrev before_named : Program
before_named = record {
  qubits = 2;
  nodes = identity ∷ letter 0 1 ∷ letter 0 2 ∷ letter 0 3 ∷ letter 1 1 ∷ letter 1 2 ∷ letter 1 3 ∷ product 1 0 4 0 ∷ product 2 0 5 0 ∷ [];
  operations = turn 7 1 ∷ turn 8 1 ∷ turn 3 1 ∷ turn 6 1 ∷ turn 8 3 ∷ turn 4 1 ∷ turn 7 1 ∷ measured 3 ∷ [];
  rows = [];
}

-- no two numbers alike
abbrev options : Lazy → Options
options setting = record {
  lookback = 1;
  window = 2;
  candidates = 3;
  rounds = 4;
  clifford_to_frame = true;
  eager_swaps = false;
  second_exchange_first = true;
  lazy_cliffords = setting;
  strategy = Litinski;
  measure_depth = true;
  max_packed_words = 5;
}

-- no flag but the order of ties
abbrev new_order : Options
new_order = record {
  lookback = 0;
  window = 0;
  candidates = 0;
  rounds = 0;
  clifford_to_frame = false;
  eager_swaps = false;
  second_exchange_first = true;
  lazy_cliffords = Off;
  strategy = Merge;
  measure_depth = false;
  max_packed_words = 0;
}

-- the T-count after a number of rounds, with Rust's other defaults
abbrev t_left : ℕ → Program → ℕ
t_left rounds p = t_count (end_of (rules 1048576 0 16 at_once) rounds p).items

pub record RuledOut : Type 0 where
  -- "conjugating the wrong way round": absorbing Z with k = 2 takes X to -Y
  pub conjugation : absorb_image 1 (single 1 0 3) 2 (as_value (single 1 0 1)) ≡ record { turns = 2; word = single 1 0 2 }
  -- "finding an older equal axis after `last` was cleared": X:1 Z:1 X:1 X:7 Z:7 X:1 keeps both X in one round
  pub older_axis : t_left 1 (qubit (turn 1 1 ∷ turn 2 1 ∷ turn 1 1 ∷ turn 1 7 ∷ turn 2 7 ∷ turn 1 1 ∷ [])) ≡ 2
  -- "merging across a measurement"
  pub across_a_measurement : t_left 8 (qubit (turn 2 1 ∷ measured 2 ∷ turn 2 1 ∷ [])) ≡ 2
  -- "-4 kept as -4"
  pub minus_four : signed_angle (eighths_of (negsuc 3)) ≡ pos 4
  -- a product's children freed after it takes its slot: XZ would take a third
  pub children_first : (run (rules 1048576 0 16 at_once) 0 (qubit (turn 3 1 ∷ []))).peak ≡ 6
  -- the certificate's sums modulo 8: X:2 Z:2 X:2 X:2 would be exchanged
  pub whole_sums : (end_of (rules 1048576 3 2 off) 3 (qubit (turn 1 2 ∷ turn 2 2 ∷ turn 1 2 ∷ turn 1 2 ∷ []))).swaps ≡ 0
  -- a stop rule that ignores exchanges: IY:7 YI:1 IY:2 YI:2 IY:1 would keep 3
  pub exchange_goes_on : t_count (end_of (rules 0 1 0 off) 8 (qubits (turn 1 7 ∷ turn 2 1 ∷ turn 1 2 ∷ turn 2 2 ∷ turn 1 1 ∷ []))).items ≡ 1
  -- the second exchange tried only where the first fails (02, M-107): of IY:1 YI:1 IY:1 the first two would be exchanged
  pub second_with_third : (end_of (rules_for Merge true 0 1 16 off) 1 (qubits (turn 1 1 ∷ turn 2 1 ∷ turn 1 1 ∷ []))).items
      ≡ rotation (rot 0 2) ∷ rotation (rot 1 1) ∷ []
  -- options taken for one another
  pub options_to_rules : rules_of (options On)
      ≡ record {
        lookback = 1;
        exchange = record { window = 2; candidates = 3; eager = false; second_first = true };
        absorption = lazy;
        lazy = On;
        strategy = Litinski;
        depth = true;
      }
  pub named_to_rules : rules_of (options (From 6))
      ≡ record {
        lookback = 1;
        exchange = record { window = 2; candidates = 3; eager = false; second_first = true };
        absorption = at_once;
        lazy = From 6;
        strategy = Litinski;
        depth = true;
      }
  -- another flag taken for the order of ties
  pub order_to_rules : (rules_of new_order).exchange.second_first ≡ true
  -- a named measurement that changes nothing, or changes what comes before it (02, M-112): none is left at once, 4 lazily, 2 if it is named
  pub at_once_all : t_count (end_of (lazy_by 0 0 Off) 1 twice).items ≡ 0
  pub lazy_all : t_count (end_of (lazy_by 0 0 On) 1 twice).items ≡ 4
  pub lazy_behind : t_count (end_of (lazy_by 0 0 (From 3)) 1 twice).items ≡ 2
  -- a later stream that begins lazily would keep 5
  pub each_begins_at_once : t_count (end_of (lazy_by 1 4 (From 7)) 2 before_named).items ≡ 3
  -- a stop rule with "higher" for "no lower": IY:1 YI:2 YY:2 YY:6 YI:6 IY:1 would keep none
  pub no_lower_stops :
      t_count (end_of (rules 0 0 16 off) 8 (qubits (turn 1 1 ∷ turn 2 2 ∷ turn 3 2 ∷ turn 3 6 ∷ turn 2 6 ∷ turn 1 1 ∷ []))).items ≡ 2
  -- three rounds at most: X Z X Z X Z X by 1, then backwards by -1, but the last X by 1, would keep 2
  pub four_rounds :
      t_left 4 (qubit (turn 1 1 ∷ turn 2 1 ∷ turn 1 1 ∷ turn 2 1 ∷ turn 1 1 ∷ turn 2 1 ∷ turn 1 1
      ∷ turn 1 7 ∷ turn 2 7 ∷ turn 1 7 ∷ turn 2 7 ∷ turn 1 7 ∷ turn 2 7 ∷ turn 1 1 ∷ [])) ≡ 0
  -- Litinski's later streams merging: Z:1 X:1 X:1 Y:7 Y:7 would merge three times
  pub streams_apart :
      (end_of (rules_for Litinski false 1048576 0 16 lazy) 8 (qubit (turn 2 1 ∷ turn 1 1 ∷ turn 1 1 ∷ turn 3 7 ∷ turn 3 7 ∷ []))).merges ≡ 2
  -- `:`, the byte after 9, taken for a digit
  pub colon : numeral (58 ∷ []) ≡ none

pub ruled_out : RuledOut
unfolding everything
ruled_out = record {
  conjugation = refl;
  older_axis = refl;
  across_a_measurement = refl;
  minus_four = refl;
  children_first = refl;
  whole_sums = refl;
  exchange_goes_on = refl;
  second_with_third = refl;
  options_to_rules = refl;
  named_to_rules = refl;
  order_to_rules = refl;
  at_once_all = refl;
  lazy_all = refl;
  lazy_behind = refl;
  each_begins_at_once = refl;
  no_lower_stops = refl;
  four_rounds = refl;
  streams_apart = refl;
  colon = refl;
}
