-- The options that a run goes by: all but the limit, which a run does not know, and the rounds, which it counts down. Assumes nothing.
use Rattle.std.specs.Prelude.{Bool, true, false, ℕ, eqb}
use Rattle.model.specs.declared.Lazy.{Lazy}
use Rattle.model.specs.declared.Lazy.TheVariants.{Off, On, From}
use Rattle.model.specs.declared.Absorption.{Absorption}
use Rattle.model.specs.declared.Absorption.TheVariants.{Off as off, AtOnce as at_once, Lazy as lazy}
use Rattle.model.specs.declared.Strategy.{Strategy}
use Rattle.model.specs.declared.Options.{Options}
use Rattle.model.specs.declared.ExchangeRules.{ExchangeRules}
use Rattle.model.specs.Lists.{when◌then◌else◌}

-- what becomes of even rotations: "Absorption off: even angles stay", absorbed at their turn, "Lazy: even rotations wait"
abbrev pub is_on : Absorption → Bool
is_on off = false
is_on at_once = true
is_on lazy = true

abbrev pub is_at_once : Absorption → Bool
is_at_once off = false
is_at_once at_once = true
is_at_once lazy = false

abbrev pub is_lazy : Absorption → Bool
is_lazy off = false
is_lazy at_once = false
is_lazy lazy = true

pub record Rules : Type 0 where
  pub lookback : ℕ
  pub exchange : ExchangeRules
  -- what becomes of even rotations now
  pub absorption : Absorption
  -- the setting that may change it within a stream; 02, M-112: "All streams of a run use the same named place"
  pub lazy : Lazy
  pub strategy : Strategy
  pub depth : Bool

-- at the start of a stream; 02, M-112: "Even rotations before it are absorbed at their turn"
abbrev pub absorption_by : Lazy → Absorption
absorption_by Off = at_once
absorption_by On = lazy
absorption_by (From n) = at_once

unfoldable pub absorption_of : Options → Absorption
absorption_of o = when o.clifford_to_frame then absorption_by o.lazy_cliffords else off

abbrev pub exchange_rules_of : Options → ExchangeRules
exchange_rules_of o = record {
  window = o.window;
  candidates = o.candidates;
  eager = o.eager_swaps;
  second_first = o.second_exchange_first;
}

unfoldable pub rules_of : Options → Rules
rules_of o = record {
  lookback = o.lookback;
  exchange = exchange_rules_of o;
  absorption = absorption_of o;
  lazy = o.lazy_cliffords;
  strategy = o.strategy;
  depth = o.measure_depth;
}

-- ---- 02, M-112: "Change to lazy absorption during a job"

-- "A rewriting may name one measurement or conditional rotation by its place in the input, counted from 0, in place of the lazy setting.";
-- "If the named operation drops out in packing": it does not, since only plain rotations do, and 16 refuses their places
abbrev pub names : Lazy → ℕ → Bool
names Off o = false
names On o = false
names (From n) o = eqb o n

-- "from the next operation on they wait, as the lazy setting has it"; "Absorption off: even angles stay"
abbrev pub to_lazy : Absorption → Absorption
to_lazy off = off
to_lazy at_once = lazy
to_lazy lazy = lazy

abbrev pub with_absorption : Absorption → Rules → Rules
with_absorption m r = record {
  lookback = r.lookback;
  exchange = r.exchange;
  absorption = m;
  lazy = r.lazy;
  strategy = r.strategy;
  depth = r.depth;
}

-- the rules behind operation o, a barrier
unfoldable pub after_barrier : ℕ → Rules → Rules
after_barrier o r = with_absorption (when names r.lazy o then to_lazy r.absorption else r.absorption) r
