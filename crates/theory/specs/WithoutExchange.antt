-- Where no exchange is tried, at window 0 and in Litinski's strategy, the exchange's settings have no say. Assumes nothing.
use Rattle.std.specs.Prelude.{◌≡◌, refl, ◌⊎◌, Bool, List, [], ◌∷◌, ℕ}
use Rattle.std.proofs.Math.Path.{sym}
use Rattle.std.proofs.Common.{ap₂, ◌∙◌, eq-eqb}
use Rattle.std.proofs.Math.Logic.{inl, inr, ⊎_elim}
use Rattle.model.specs.declared.ExchangeRules.{ExchangeRules}
use Rattle.model.specs.declared.Options.{Options}
use Rattle.model.specs.declared.Strategy.TheVariants.{Litinski}
use Rattle.model.specs.Rules.{Rules, absorption_of, exchange_rules_of, rules_of, after_barrier}
use Rattle.model.specs.Program.{Job, program_of}
use Rattle.model.specs.Items.{Item, rotation, barrier}
use Rattle.model.specs.Stream.{Pass, rules_after, stream_item, stream, begin}
use Rattle.model.specs.Rounds.{stream_pass, exchange_pass}
use Rattle.model.specs.Run.{run}
use Rattle.model.specs.Checking.{Lent, bad_option, checking}
use Rattle.model.specs.Rewriting.{after_run, rewriting}
use Rattle.theory.specs.Cases.{if_true}
use Rattle.theory.specs.SamePasses.{item_same, SamePasses, run_same_passes, ending_same}

-- the same rules with other settings of the exchange
abbrev pub with_exchange : ExchangeRules → Rules → Rules
with_exchange x r = record {
  lookback = r.lookback;
  exchange = x;
  absorption = r.absorption;
  lazy = r.lazy;
  strategy = r.strategy;
  depth = r.depth;
}

-- no exchange is tried by these rules, nor with those settings
abbrev pub NoExchange : ExchangeRules → Rules → Type 0
NoExchange x r = (r.strategy ≡ Litinski) ⊎ ((x.window ≡ 0) × (r.exchange.window ≡ 0))

-- a stream does not look at them, nor does what becomes of its rules behind an item
after_same : (x : ExchangeRules) (r : Rules) (i : Item) → rules_after (with_exchange x r) i ≡ with_exchange x (rules_after r i)
unfolding after_barrier
after_same x r (rotation t) = refl
after_same x r (barrier o a s) = refl

stream_same : (l : ℕ) (x : ExchangeRules) (r : Rules) (merging : Bool) (p : Pass) (is : List Item)
    → stream l (with_exchange x r) merging p is ≡ stream l r merging p is
unfolding stream
stream_same l x r merging p [] = refl
stream_same l x r merging p (i ∷ is) =
    ap₂ (λ (s : Rules) (q : Pass). stream l s merging q is) (after_same x r i) (item_same l r (with_exchange x r) refl refl merging p i)
    ∙ stream_same l x (rules_after r i) merging (stream_item l r merging p i) is

same_passes : (l : ℕ) (x : ExchangeRules) (r : Rules) → NoExchange x r → SamePasses l r (with_exchange x r)
same_passes l x r none = record {
  strategy = refl;
  absorption = refl;
  streams = λ merging w. unfold stream_pass in (rw (stream_same l x r merging (begin w.store) w.items) refl);
  exchanges = ⊎_elim inl (λ (closed : (x.window ≡ 0) × (r.exchange.window ≡ 0)). inr (λ w. unfold exchange_pass in
      (if_true _ _ (eq-eqb x.window 0 closed.0) ∙ sym (if_true _ _ (eq-eqb r.exchange.window 0 closed.1))))) none;
}

-- ---- a call

-- the same options in an order of ties
abbrev pub in_order : Bool → Options → Options
in_order b o = record {
  lookback = o.lookback;
  window = o.window;
  candidates = o.candidates;
  rounds = o.rounds;
  clifford_to_frame = o.clifford_to_frame;
  eager_swaps = o.eager_swaps;
  second_exchange_first = b;
  lazy_cliffords = o.lazy_cliffords;
  strategy = o.strategy;
  measure_depth = o.measure_depth;
  max_packed_words = o.max_packed_words;
}

-- one reply in either order
pub reply_in_order : (b : Bool) (o : Options) (j : Job) (s : Lent) → (o.strategy ≡ Litinski) ⊎ (o.window ≡ 0)
    → rewriting (in_order b o) j s ≡ rewriting o j s
unfolding rewriting after_run absorption_of rules_of checking bad_option
reply_in_order b o j s none =
    let p = program_of j in
    let ended : run (rules_of (in_order b o)) o.rounds p ≡ run (rules_of o) o.rounds p =
    run_same_passes (rules_of o) _ o.rounds p
    (same_passes _ (exchange_rules_of (in_order b o)) (rules_of o) (⊎_elim inl (λ e. inr (e, e)) none)) in
    rw (ended, ending_same (rules_of o) (rules_of (in_order b o)) refl p s (run (rules_of o) o.rounds p).ending) refl
