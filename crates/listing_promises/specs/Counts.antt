-- The counters of a run by Rust's defaults, which absorb at once and exchange nothing: a merge and an absorption at most for each item of a
-- stream. Assumes nothing.
use Rattle.std.proofs.Math.Path.{◌≡◌, refl, subst}
use Rattle.std.proofs.Common.{sym, eq-eqb}
use Rattle.std.specs.Prelude.{Bool}
use Rattle.std.proofs.Math.Bool.{true, false}
use mathlib.Core.List.{List, [], ◌∷◌}
use Prim.Native.Nat.{ℕ, zero, suc, ◌+◌, ◌*◌, ◌≤◌}
use Rattle.std.proofs.Math.Nat.{suc-mul}
use native.Mathlib.Omega.{arith}
use Rattle.std.proofs.Math.ListN.{length}
use Rattle.pauli.specs.Word.{width}
use Rattle.model.specs.Lists.{when◌then◌else◌}
use Rattle.model.specs.Program.{Program}
use Rattle.model.specs.Interface.{defaults_at}
use Rattle.model.specs.declared.Lazy.TheVariants.{Off}
use Rattle.model.specs.declared.Absorption.{Absorption}
use Rattle.model.specs.declared.Absorption.TheVariants.{Off as off, AtOnce as at_once, Lazy as lazy}
use Rattle.model.specs.Rules.{Rules, absorption_of, rules_of, after_barrier}
use Rattle.model.specs.Items.{Item, rotation, barrier}
use Rattle.model.specs.Stream.{Place, nowhere, at, Pass, with_last, count_merge, set_angle, put_out, leave_zero, put_out_rotation, carry_axis, absorb}
use Rattle.model.specs.Stream.{absorb_all_waiting, carry_rotation, merge_at, merge_or_put_out, take_rotation, rules_after, stream_item, stream, begin}
use Rattle.model.specs.Rounds.{Work, stream_pass, exchange_pass, merge_round, RoundBefore, no_round, rounds_from, closing_stream, merge_rounds, passes}
use Rattle.model.specs.Run.{start_of, end_of}
use Rattle.theory.specs.Cases.{by_if, if_true}
use Rattle.theory.specs.Checked.{Fine}
use Rattle.run_wellformed.specs.Points.{WellFormed, stream_pass_formed, start_formed}

-- ---- one stream

-- at most n merges, and n rotations absorbed
pub record Few (n : ℕ) (p : Pass) : Type 0 where
  pub merges : p.merges ≤ n
  pub absorbed : p.absorbed ≤ n

-- without a named place the rules stay
rules_stay : (r : Rules) (i : Item) → r.lazy ≡ Off → rules_after r i ≡ r
unfolding after_barrier when◌then◌else◌
rules_stay r (rotation t) e = refl
rules_stay r (barrier o a s) e = rw e refl

module _ (l : ℕ) (r : Rules) (once : r.absorption ≡ at_once) (unnamed : r.lazy ≡ Off) where
  carried_few : (m : Absorption) → m ≡ at_once → (n : ℕ) (p : Pass) (a : ℕ) → Few n p → Few n (carry_rotation l m p a).pass
  unfolding carry_rotation carry_axis
  carried_few off e n p a h = record { merges = h.merges; absorbed = h.absorbed }
  carried_few at_once e n p a h = record { merges = h.merges; absorbed = h.absorbed }
  carried_few lazy e n p a h = absurd (let z : ◌≡◌ {A = ℕ} 0 1 = cc in omega arith)

  none_wait : (m : Absorption) → m ≡ at_once → (n : ℕ) (p : Pass) → Few n p → Few n (absorb_all_waiting l m p)
  unfolding absorb_all_waiting
  none_wait off e n p h = h
  none_wait at_once e n p h = h
  none_wait lazy e n p h = absurd (let z : ◌≡◌ {A = ℕ} 0 1 = cc in omega arith)

  merged_few : (m : Absorption) (n : ℕ) (p : Pass) (j a k : ℕ) → Few n p → Few (suc n) (merge_at l m (count_merge p) j a k)
  unfolding merge_at count_merge leave_zero with_last set_angle absorb
  merged_few m n p j a k h =
      by_if (Few (suc n)) _ _ _ (record { merges = omega (arith, h.merges); absorbed = omega (arith, h.absorbed) })
      (by_if (Few (suc n)) _ _ _ (record { merges = omega (arith, h.merges); absorbed = omega (arith, h.absorbed) })
      (record { merges = omega (arith, h.merges); absorbed = omega (arith, h.absorbed) }))

  put_few : (n : ℕ) (p : Pass) (a k : ℕ) → Few n p → Few (suc n) (put_out_rotation p a k)
  unfolding put_out_rotation put_out with_last
  put_few n p a k h = record { merges = omega (arith, h.merges); absorbed = omega (arith, h.absorbed) }

  placed_few : (n : ℕ) (p : Pass) (a k : ℕ) (j : Place) → Few n p → Few (suc n) (merge_or_put_out l r p a k j)
  unfolding merge_or_put_out
  placed_few n p a k nowhere h = put_few n p a k h
  placed_few n p a k (at j) h = by_if (Few (suc n)) _ _ _ (merged_few r.absorption n p j a _ h) (put_few n p a k h)

  taken_few : (merging : Bool) (n : ℕ) (p : Pass) (a k : ℕ) → Few n p → Few (suc n) (take_rotation l r merging p a k)
  unfolding take_rotation absorb
  taken_few merging n p a k h =
      by_if (Few (suc n)) _ _ _ (record { merges = omega (arith, h.merges); absorbed = omega (arith, h.absorbed) })
      (placed_few n p a k (when merging then p.last a else nowhere) h)

  item_few : (merging : Bool) (n : ℕ) (p : Pass) (i : Item) → Few n p → Few (suc n) (stream_item l r merging p i)
  unfolding stream_item put_out with_last
  item_few merging n p (rotation t) h = taken_few merging n _ _ _ (carried_few r.absorption once n p t.axis h)
  item_few merging n p (barrier o a s) h =
      let g = none_wait r.absorption once n p h in
      unfold carry_axis in (record { merges = omega (arith, g.merges); absorbed = omega (arith, g.absorbed) })

  stream_few : (merging : Bool) (n : ℕ) (p : Pass) (is : List Item) → Few n p → Few (n + length is) (stream l r merging p is)
  unfolding stream
  stream_few merging n p [] h =
      let g = none_wait r.absorption once n p h in
      record { merges = omega (arith, g.merges); absorbed = omega (arith, g.absorbed) }
  stream_few merging n p (i ∷ is) h =
      let q = stream_item l r merging p i in
      let g = subst (λ (s : Rules). Few (suc n + length is) (stream l s merging q is)) (sym (rules_stay r i unnamed))
      (stream_few merging (suc n) q is (item_few merging n p i h)) in
      record { merges = omega (arith, g.merges); absorbed = omega (arith, g.absorbed) }

  -- ---- the passes: at most b items, and n of each counted so far

  record Counted (b n : ℕ) (w : Work) : Type 0 where
    formed : WellFormed l b w
    merges : w.merges ≤ n
    absorbed : w.absorbed ≤ n
    swaps : w.swaps ≡ 0

  streamed : (merging : Bool) (b n : ℕ) (w : Work) → Counted b n w → Counted b (n + b) (stream_pass l r merging w)
  streamed merging b n w h =
      let g = stream_few merging 0 (begin w.store) w.items (unfold begin in (record { merges = omega arith; absorbed = omega arith })) in
      record {
        formed = stream_pass_formed l b r merging w h.formed;
        merges = unfold stream_pass in (omega (arith, g.merges, h.merges, h.formed.short));
        absorbed = unfold stream_pass in (omega (arith, g.absorbed, h.absorbed, h.formed.short));
        swaps = unfold stream_pass in h.swaps;
      }

  -- "Window 0: none."
  module _ (none : r.exchange.window ≡ 0) where
    rounded : (k b n : ℕ) (going : Bool) (before : RoundBefore) (w : Work) → Counted b n w → Counted b (n + k * b) (rounds_from l r k going before w)
    unfolding rounds_from merge_round exchange_pass
    rounded zero b n going before w h =
        record { formed = h.formed; merges = omega (arith, h.merges); absorbed = omega (arith, h.absorbed); swaps = h.swaps }
    rounded (suc k) b n false before w h =
        let e = suc-mul k b in
        record { formed = h.formed; merges = omega (arith, h.merges); absorbed = omega (arith, h.absorbed); swaps = h.swaps }
    rounded (suc k) b n true before w h =
        let v = stream_pass l r true w in
        let g = subst (Counted b (n + b)) (sym (if_true v _ (eq-eqb r.exchange.window 0 none))) (streamed true b n w h) in
        let x = rounded k b (n + b) _ _ _ g in
        let e = suc-mul k b in
        record { formed = x.formed; merges = omega (arith, x.merges); absorbed = omega (arith, x.absorbed); swaps = x.swaps }

    closed : (k b n : ℕ) (w : Work) → Counted b n w → Counted b (n + b) (closing_stream l r k w)
    unfolding closing_stream
    closed zero b n w h = record { formed = h.formed; merges = omega (arith, h.merges); absorbed = omega (arith, h.absorbed); swaps = h.swaps }
    closed (suc k) b n w h =
        by_if (Counted b (n + b)) _ _ _ (streamed true b n w h)
        (record { formed = h.formed; merges = omega (arith, h.merges); absorbed = omega (arith, h.absorbed); swaps = h.swaps })

-- ---- a run by Rust's defaults: 8 rounds and one more stream

pub record DefaultCounts (n : ℕ) (w : Work) : Type 0 where
  pub merges : w.merges ≤ 9 * n
  pub absorbed : w.absorbed ≤ 9 * n
  pub swaps : w.swaps ≡ 0

pub default_counts : (limit : ℕ) (p : Program) → Fine p
    → DefaultCounts (length p.operations) (end_of (rules_of (defaults_at limit)) 8 p)
unfolding rules_of absorption_of end_of passes merge_rounds when◌then◌else◌
default_counts limit p fine =
    let l = width p.qubits in
    let r = rules_of (defaults_at limit) in
    let b = length p.operations in
    let first : Counted l r refl refl b 0 (start_of p) = record {
      formed = start_formed p fine;
      merges = unfold start_of in (omega arith);
      absorbed = unfold start_of in (omega arith);
      swaps = unfold start_of in refl;
    } in
    let h = closed l r refl refl refl 8 b (0 + 8 * b) (rounds_from l r 8 true no_round (start_of p))
    (rounded l r refl refl refl 8 b 0 true no_round (start_of p) first) in
    record { merges = omega (arith, h.merges); absorbed = omega (arith, h.absorbed); swaps = h.swaps }
