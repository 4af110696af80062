-- Rules that give the same passes give the same run, and the same reply. Assumes nothing.
use Rattle.std.specs.Prelude.{◌≡◌, ◌⊎◌, Bool, ◌&&◌}
use Rattle.std.proofs.Math.Path.{refl, ap, ap₂, subst}
use Rattle.std.proofs.Common.{sym, ◌∙◌, inl, inr}
use Rattle.std.proofs.Math.Bool.{true, false}
use Prim.Native.Nat.{ℕ, zero, suc}
use Rattle.std.proofs.Math.Dec.{eqb}
use Rattle.pauli.specs.Word.{width}
use Rattle.model.specs.declared.Strategy.{Strategy}
use Rattle.model.specs.declared.Strategy.TheVariants.{Merge, Litinski}
use Rattle.model.specs.declared.Absorption.{Absorption}
use Rattle.model.specs.Lists.{when◌then◌else◌, any_of, is_even}
use Rattle.model.specs.Rules.{is_on, is_at_once, Rules}
use Rattle.model.specs.Program.{Program}
use Rattle.model.specs.Items.{with_sign, Item, rotation, barrier, is_even_rotation, t_count}
use Rattle.model.specs.Stream.{Place, nowhere, at, Pass, absorb, carry_rotation, merge_or_put_out, take_rotation, stream_item}
use Rattle.model.specs.Rounds.{Work, stream_pass, exchange_pass, layering_pass, merge_round, RoundBefore, t_count_was, goes_on, rounds_from, closing_stream}
use Rattle.model.specs.Rounds.{merge_rounds, litinski_from, litinski_rounds, passes}
use Rattle.model.specs.Run.{start_of, Ending, non_hermitian, finished, end_of, finished_run, run}
use Rattle.model.specs.Results.{depth_of, counters_of}
use Rattle.model.specs.Checking.{Lent}
use Rattle.model.specs.Rewriting.{accepted, after_ending}

-- ---- an item: a stream looks at the lookback and at what becomes of even rotations, and at nothing else

module _ (l : ℕ) (r r' : Rules) (lookback : r'.lookback ≡ r.lookback) (absorption : r'.absorption ≡ r.absorption) where
  put_same : (p : Pass) (a k : ℕ) (j : Place) → merge_or_put_out l r' p a k j ≡ merge_or_put_out l r p a k j
  unfolding merge_or_put_out
  put_same p a k nowhere = refl
  put_same p a k (at j) = rw (lookback, absorption) refl

  take_same : (merging : Bool) (p : Pass) (a k : ℕ) → take_rotation l r' merging p a k ≡ take_rotation l r merging p a k
  unfolding take_rotation
  take_same merging p a k =
      ap₂ (λ (m : Absorption) (q : Pass). when is_at_once m && is_even k then absorb l p a k else q) absorption
      (put_same p a k (when merging then p.last a else nowhere))

  pub item_same : (merging : Bool) (p : Pass) (i : Item) → stream_item l r' merging p i ≡ stream_item l r merging p i
  unfolding stream_item
  item_same merging p (rotation t) =
      ap (λ (m : Absorption). let c = carry_rotation l m p t.axis in
      take_rotation l r' merging c.pass c.axis (with_sign c.turns t.angle)) absorption
      ∙ (let c = carry_rotation l r.absorption p t.axis in take_same merging c.pass c.axis (with_sign c.turns t.angle))
  item_same merging p (barrier o a s) = rw absorption refl

-- ---- the passes

module _ (l : ℕ) (r r' : Rules) (streams : (merging : Bool) (w : Work) → stream_pass l r' merging w ≡ stream_pass l r merging w) where
  litinski_from_same : (k : ℕ) (w : Work) → litinski_from l r' k w ≡ litinski_from l r k w
  unfolding litinski_from
  litinski_from_same zero w = refl
  litinski_from_same (suc k) w =
      let v = layering_pass l w in
      ap (λ (u : Work). when eqb v.merges w.merges then v else u)
      (litinski_from_same k (stream_pass l r' false v) ∙ ap (litinski_from l r k) (streams false v))

  litinski_same : (k : ℕ) (w : Work) → litinski_rounds l r' k w ≡ litinski_rounds l r k w
  unfolding litinski_rounds
  litinski_same zero w = refl
  litinski_same (suc k) w = litinski_from_same (suc k) (stream_pass l r' false w) ∙ ap (litinski_from l r (suc k)) (streams false w)

  module _ (on : is_on r'.absorption ≡ is_on r.absorption) where
    module _ (exchanges : (w : Work) → exchange_pass l r' w ≡ exchange_pass l r w) where
      round_same : (w : Work) → merge_round l r' w ≡ merge_round l r w
      unfolding merge_round
      round_same w = exchanges (stream_pass l r' true w) ∙ ap (exchange_pass l r) (streams true w)

      rounds_same : (k : ℕ) (going : Bool) (before : RoundBefore) (w : Work)
          → rounds_from l r' k going before w ≡ rounds_from l r k going before w
      unfolding rounds_from
      rounds_same zero going before w = refl
      rounds_same (suc k) false before w = refl
      rounds_same (suc k) true before w =
          let v = merge_round l r' w in
          rounds_same k (goes_on before w v) (t_count_was (t_count v.items)) v
          ∙ ap (λ (u : Work). rounds_from l r k (goes_on before w u) (t_count_was (t_count u.items)) u) (round_same w)

      closing_same : (k : ℕ) (w : Work) → closing_stream l r' k w ≡ closing_stream l r k w
      unfolding closing_stream
      closing_same zero w = refl
      closing_same (suc k) w =
          ap₂ (λ (b : Bool) (u : Work). when b && any_of is_even_rotation w.items then u else w) on (streams true w)

      merge_same : (k : ℕ) (w : Work) → merge_rounds l r' k w ≡ merge_rounds l r k w
      unfolding merge_rounds
      merge_same k w = closing_same k _ ∙ ap (closing_stream l r k) (rounds_same k true _ w)

    pub passes_same : (s : Strategy) → (s ≡ Litinski) ⊎ ((w : Work) → exchange_pass l r' w ≡ exchange_pass l r w) → (k : ℕ) (w : Work)
        → passes s l r' k w ≡ passes s l r k w
    unfolding passes
    passes_same s (inl e) k w = subst (λ (t : Strategy). passes t l r' k w ≡ passes t l r k w) (sym e) (litinski_same k w)
    passes_same Merge (inr exchanges) k w = merge_same exchanges k w
    passes_same Litinski (inr exchanges) k w = litinski_same k w

-- ---- the run, and the reply

-- the rules share the strategy, and what a run by them is made of
pub record SamePasses (l : ℕ) (r r' : Rules) : Type 0 where
  pub strategy : r'.strategy ≡ r.strategy
  pub absorption : is_on r'.absorption ≡ is_on r.absorption
  pub streams : (merging : Bool) (w : Work) → stream_pass l r' merging w ≡ stream_pass l r merging w
  pub exchanges : (r.strategy ≡ Litinski) ⊎ ((w : Work) → exchange_pass l r' w ≡ exchange_pass l r w)

pub run_same_passes : (r r' : Rules) (rounds : ℕ) (p : Program) → SamePasses (width p.qubits) r r' → run r' rounds p ≡ run r rounds p
unfolding run finished_run end_of
run_same_passes r r' rounds p e =
    let l = width p.qubits in
    let ended : passes r'.strategy l r' rounds (start_of p) ≡ passes r.strategy l r rounds (start_of p) =
    ap (λ (s : Strategy). passes s l r' rounds (start_of p)) e.strategy
    ∙ passes_same l r r' e.streams e.absorption r.strategy e.exchanges rounds (start_of p) in
    rw ended refl

-- a reply is made of the run, and of whether depths are measured
pub ending_same : (r r' : Rules) → r'.depth ≡ r.depth → (p : Program) (s : Lent) (e : Ending) → after_ending r' p s e ≡ after_ending r p s e
unfolding after_ending accepted counters_of depth_of
ending_same r r' d p s non_hermitian = refl
ending_same r r' d p s (finished f) = rw d refl
