-- Where absorption is off the lazy setting has no say beyond refusal 16. Assumes nothing.
use Rattle.std.specs.Prelude.{◌≡◌, Bool, false, ◌||◌, ℕ}
use Rattle.std.proofs.Math.Path.{refl, ap, ap₂}
use Rattle.std.proofs.Common.{sym, ◌∙◌}
use Rattle.std.proofs.Math.Logic.{inr}
use mathlib.Core.List.{List, [], ◌∷◌}
use Rattle.model.specs.declared.Lazy.{Lazy}
use Rattle.model.specs.declared.Lazy.TheVariants.{Off}
use Rattle.model.specs.declared.Absorption.{Absorption}
use Rattle.model.specs.declared.Absorption.TheVariants.{Off as off}
use Rattle.model.specs.declared.Options.{Options}
use Rattle.model.specs.Answers.{Accepted, CountOutside, OptionOutside, SliceShort}
use Rattle.model.specs.Lists.{when◌then◌else◌}
use Rattle.model.specs.Rules.{Rules, absorption_of, rules_of, names, to_lazy, with_absorption, after_barrier}
use Rattle.model.specs.Program.{Job, program_of}
use Rattle.model.specs.Items.{Item, rotation, barrier}
use Rattle.model.specs.Stream.{Pass, rules_after, stream_item, stream, begin}
use Rattle.model.specs.Rounds.{stream_pass, exchange_pass}
use Rattle.model.specs.Run.{run}
use Rattle.model.specs.Checking.{Lent, bad_count, bad_option, program_short, lent_short, checking}
use Rattle.model.specs.Rewriting.{after_run, rewriting}
use Rattle.theory.specs.Cases.{by_if, if_false}
use Rattle.theory.specs.Checked.{not_refused, unnamed_records, checking_program}
use Rattle.theory.specs.SamePasses.{item_same, SamePasses, run_same_passes, ending_same}

-- the same rules by another lazy setting
abbrev with_lazy : Lazy → Rules → Rules
with_lazy setting r = record {
  lookback = r.lookback;
  exchange = r.exchange;
  absorption = r.absorption;
  lazy = setting;
  strategy = r.strategy;
  depth = r.depth;
}

-- no barrier changes rules by which even angles stay
pub stays_off : (r : Rules) (i : Item) → r.absorption ≡ off → rules_after r i ≡ r
unfolding after_barrier
stays_off r (rotation t) e = refl
stays_off r (barrier o a s) e =
    ap (λ (m : Absorption). with_absorption m r)
    (by_if (λ (m : Absorption). m ≡ r.absorption) (names r.lazy o) (to_lazy r.absorption) r.absorption (ap to_lazy e ∙ sym e) refl)

module _ (l : ℕ) (setting : Lazy) (r : Rules) (is_off : r.absorption ≡ off) where
  stream_same : (merging : Bool) (p : Pass) (is : List Item) → stream l (with_lazy setting r) merging p is ≡ stream l r merging p is
  unfolding stream
  stream_same merging p [] = refl
  stream_same merging p (i ∷ is) =
      ap₂ (λ (s : Rules) (q : Pass). stream l s merging q is) (stays_off (with_lazy setting r) i is_off)
      (item_same l r (with_lazy setting r) refl refl merging p i)
      ∙ stream_same merging (stream_item l r merging p i) is
      ∙ ap (λ (s : Rules). stream l s merging (stream_item l r merging p i) is) (sym (stays_off r i is_off))

  same_passes : SamePasses l r (with_lazy setting r)
  same_passes = record {
    strategy = refl;
    absorption = refl;
    streams = λ merging w. unfold stream_pass in (rw (stream_same merging (begin w.store) w.items) refl);
    exchanges = inr (λ w. unfold exchange_pass in refl);
  }

-- ---- a call

-- the same options by another lazy setting
abbrev pub lazily : Lazy → Options → Options
lazily setting o = record {
  lookback = o.lookback;
  window = o.window;
  candidates = o.candidates;
  rounds = o.rounds;
  clifford_to_frame = o.clifford_to_frame;
  eager_swaps = o.eager_swaps;
  second_exchange_first = o.second_exchange_first;
  lazy_cliffords = setting;
  strategy = o.strategy;
  measure_depth = o.measure_depth;
  max_packed_words = o.max_packed_words;
}

-- what Checking passes it passes without a name
pub passes_unnamed : (o : Options) (j : Job) (s : Lent) → checking o j s ≡ Accepted → checking (lazily Off o) j s ≡ Accepted
unfolding checking bad_option
passes_unnamed o j s h =
    let a = not_refused (bad_count j.counts) CountOutside _ refl h in
    let b = not_refused (bad_option o) OptionOutside _ refl a.1 in
    let c = not_refused (program_short j || lent_short j.counts s o.max_packed_words) SliceShort _ refl b.1 in
    if_false _ _ a.0 ∙ if_false _ _ b.0 ∙ if_false _ _ c.0 ∙ unnamed_records j ∙ checking_program o j s (unfold checking in h)

rules_unnamed : (o : Options) → o.clifford_to_frame ≡ false → rules_of (lazily Off o) ≡ with_lazy Off (rules_of o)
unfolding rules_of absorption_of when◌then◌else◌
rules_unnamed o e = rw e refl

-- so a call that it passes replies as one that names nothing
pub reply_unnamed : (o : Options) (j : Job) (s : Lent) → o.clifford_to_frame ≡ false → checking o j s ≡ Accepted
    → rewriting (lazily Off o) j s ≡ rewriting o j s
unfolding rewriting after_run
reply_unnamed o j s e h =
    let p = program_of j in
    let ended : run (rules_of (lazily Off o)) o.rounds p ≡ run (rules_of o) o.rounds p =
    ap (λ (r : Rules). run r o.rounds p) (rules_unnamed o e) ∙ run_same_passes (rules_of o) _ o.rounds p
    (same_passes _ Off (rules_of o) (unfold rules_of absorption_of in (if_false _ off e))) in
    rw (
      h,
      passes_unnamed o j s h,
      ended,
      ending_same (rules_of o) (rules_of (lazily Off o)) (unfold rules_of in refl) p s
          (run (rules_of o) o.rounds p).ending,
    ) refl
