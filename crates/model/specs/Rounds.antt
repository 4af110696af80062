-- 01, "optimize.rs", Merge strategy, and "litinski.rs": the passes, and how many rounds of them there are. l is the width. Assumes nothing.
use Rattle.std.specs.Prelude.{Bool, true, false, not, ◌&&◌, List, ℕ, zero, suc, ◌+◌, eqb, leb}
use Rattle.model.specs.declared.Strategy.{Strategy}
use Rattle.model.specs.declared.Strategy.TheVariants.{Merge, Litinski}
use Rattle.model.specs.Lists.{when◌then◌else◌, any_of}
use Rattle.model.specs.Rules.{is_on, Rules}
use Rattle.model.specs.Words.{Store}
use Rattle.model.specs.Packing.{SignedAxis}
use Rattle.model.specs.Items.{Item, is_even_rotation, t_count, drop_zeros, rewrite_segments}
use Rattle.model.specs.Stream.{stream, carry_rows, begin}
use Rattle.model.specs.Exchange.{swaps}
use Rattle.model.specs.Layering.{layer_segment}

-- what the passes work on
pub record Work : Type 0 where
  pub store : Store
  pub items : List Item
  -- the frame rows that are roots
  pub rows : List SignedAxis
  pub merges : ℕ
  pub swaps : ℕ
  pub absorbed : ℕ

-- ---- the passes

-- a stream: "Zeros are removed at the end; frame rows are carried if anything was absorbed, else kept."
unfoldable pub stream_pass : ℕ → Rules → Bool → Work → Work
stream_pass l r merging w =
    let p = stream l r merging (begin w.store) w.items in
    let c = carry_rows l p w.rows in
    record {
      store = c.pass.store;
      items = drop_zeros p.out;
      rows = c.rows;
      merges = w.merges + p.merges;
      swaps = w.swaps;
      absorbed = w.absorbed + p.absorbed;
    }

-- an exchange in each segment. "Window 0: none."
unfoldable pub exchange_pass : ℕ → Rules → Work → Work
exchange_pass l r w =
    let s = rewrite_segments (swaps l w.store.axes r.exchange) w.items in
    when eqb r.exchange.window 0 then w else
    record { store = w.store; items = s.items; rows = w.rows; merges = w.merges; swaps = w.swaps + s.changes; absorbed = w.absorbed }

-- layers in each segment
unfoldable pub layering_pass : ℕ → Work → Work
layering_pass l w =
    let s = rewrite_segments (layer_segment l w.store.axes) w.items in
    record { store = w.store; items = s.items; rows = w.rows; merges = w.merges + s.changes; swaps = w.swaps; absorbed = w.absorbed }

-- ---- "Merge strategy: rounds of stream and exchange"

unfoldable pub merge_round : ℕ → Rules → Work → Work
merge_round l r w = exchange_pass l r (stream_pass l r true w)

-- the T-count that the round before left
pub data RoundBefore : Type 0 where
  no_round : RoundBefore
  t_count_was : ℕ → RoundBefore

abbrev pub not_lower : RoundBefore → ℕ → Bool
not_lower no_round t = false
not_lower (t_count_was s) t = leb s t

-- "until a round has no exchange and no lower T-count than the round before (the first never stops them)": w before the round, v after it
unfoldable pub goes_on : RoundBefore → Work → Work → Bool
goes_on before w v = not (eqb v.swaps w.swaps && not_lower before (t_count v.items))

unfoldable pub rounds_from : ℕ → Rules → ℕ → Bool → RoundBefore → Work → Work
rounds_from l r zero going before w = w
rounds_from l r (suc k) false before w = w
rounds_from l r (suc k) true before w =
    let v = merge_round l r w in
    rounds_from l r k (goes_on before w v) (t_count_was (t_count v.items)) v

-- "then one more stream if rounds > 0, absorption is on and an even rotation remains"
unfoldable pub closing_stream : ℕ → Rules → ℕ → Work → Work
closing_stream l r zero w = w
closing_stream l r (suc k) w = when is_on r.absorption && any_of is_even_rotation w.items then stream_pass l r true w else w

unfoldable pub merge_rounds : ℕ → Rules → ℕ → Work → Work
merge_rounds l r rounds w = closing_stream l r rounds (rounds_from l r rounds true no_round w)

-- ---- Litinski: "each round layers every segment, ends the work if nothing merged, else streams again. Streams here do not merge."

unfoldable pub litinski_from : ℕ → Rules → ℕ → Work → Work
litinski_from l r zero w = w
litinski_from l r (suc k) w =
    let v = layering_pass l w in
    let next = litinski_from l r k (stream_pass l r false v) in
    when eqb v.merges w.merges then v else next

-- "Rounds 0 does nothing. Otherwise a stream; then each round .."
unfoldable pub litinski_rounds : ℕ → Rules → ℕ → Work → Work
litinski_rounds l r zero w = w
litinski_rounds l r (suc k) w = litinski_from l r (suc k) (stream_pass l r false w)

-- ---- by the strategy

unfoldable pub passes : Strategy → ℕ → Rules → ℕ → Work → Work
passes Merge l r rounds w = merge_rounds l r rounds w
passes Litinski l r rounds w = litinski_rounds l r rounds w
