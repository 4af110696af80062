-- 02, M-112: what waits, by what becomes of even rotations. Where they are absorbed at once none waits, so lazy absorption may begin behind any
-- barrier. Assumes nothing.
use Rattle.std.specs.Prelude.{◌≡◌, Bool, false, not, ◌&&◌, ℕ, ◌+◌, ◌%◌, ◌<◌, eqb, length}
use Rattle.std.proofs.Math.Path.{refl}
use Rattle.std.proofs.Common.{sym, ap, ◌∙◌, arith}
use mathlib.Core.List.{List, [], ◌∷◌}
use Rattle.model.specs.Lists.{is_even}
use Rattle.model.specs.declared.Absorption.{Absorption}
use Rattle.model.specs.declared.Absorption.TheVariants.{Off as off, AtOnce as at_once, Lazy as lazy}
use Rattle.model.specs.Rules.{is_at_once, names, to_lazy, Rules, after_barrier}
use Rattle.model.specs.Words.{Store}
use Rattle.model.specs.Items.{rot, Item, rotation, barrier, with_sign, is_clifford}
use Rattle.model.specs.Stream.{Place, nowhere, at, Pass, with_last, count_merge, set_angle, put_out, cleared_last, leave_zero, put_out_rotation, can_reach}
use Rattle.model.specs.Stream.{angle_at, rules_after, carry_axis, absorb, absorb_all_waiting, carry_rotation, merge_at, merge_or_put_out}
use Rattle.model.specs.Stream.{take_rotation, stream_item, begin}
use Rattle.theory.specs.Cases.{by_if, on_if}
use Rattle.theory.specs.Every.{Every, every_one}
use Rattle.theory.specs.StreamState.{without_angles, axis_of, AllIn, Sound, stream_item_stepped}
use Rattle.words_wellformed.specs.PassWords.{rules_behind, after_items}
use Rattle.words_wellformed.specs.RunWords.{TurnsItem}
use Rattle.run_wellformed.specs.StreamSteps.{every_set}
use Rattle.run_wellformed.specs.WaitingItems.{Still, still_waits}
use Rattle.run_wellformed.specs.Waiting.{Waiting, nowhere_at, all_in_more, begin_waiting, stream_item_waiting}

-- ---- the invariant

-- of the state of a stream
abbrev pub WaitsAs : ℕ → Absorption → Pass → Type 0
WaitsAs l off p = Unit {0}
WaitsAs l at_once p = Every Still p.out
WaitsAs l lazy p = Waiting l p

-- where even rotations wait
pub waits_lazy : (l : ℕ) (m : Absorption) (p : Pass) → WaitsAs l m p → m ≡ lazy → Waiting l p
waits_lazy l off p h e = let z : ◌≡◌ {A = ℕ} 0 1 = cc in absurd (omega arith)
waits_lazy l at_once p h e = let z : ◌≡◌ {A = ℕ} 0 1 = cc in absurd (omega arith)
waits_lazy l lazy p h e = h

-- at the start
pub begin_waits : (l : ℕ) (m : Absorption) (st : Store) → WaitsAs l m (begin st)
begin_waits l off st = tt
begin_waits l at_once st = unfold begin in tt
begin_waits l lazy st = begin_waiting l st

-- ---- absorbed at once: what is put out is odd, or a zero

odd_still : (k : ℕ) → is_even k ≡ false → is_clifford k ≡ false
odd_still k e = ap (λ (b : Bool). b && not (eqb k 0)) e

module _ (l : ℕ) where
  abbrev StillOut : Pass → Type 0
  StillOut p = Every Still p.out

  merge_at_still : (p : Pass) (j a k : ℕ) → StillOut p → StillOut (merge_at l at_once p j a k)
  unfolding merge_at leave_zero set_angle with_last absorb
  merge_at_still p j a k h =
      on_if StillOut (is_at_once at_once && is_clifford k) (leave_zero j a (absorb l p a k)) _
      (λ e. every_set Still p.out j (rotation (rot a 0)) h refl)
      (λ e. by_if StillOut _ _ _ (every_set Still p.out j (rotation (rot a 0)) h refl) (every_set Still p.out j (rotation (rot a k)) h e))

  put_out_rotation_still : (p : Pass) (a k : ℕ) → is_even k ≡ false → StillOut p → StillOut (put_out_rotation p a k)
  unfolding put_out_rotation put_out with_last
  put_out_rotation_still p a k e h = every_one Still p.out (rotation (rot a k)) h (odd_still k e)

  module _ (r : Rules) (at_once_lem : r.absorption ≡ at_once) where
    merge_or_put_out_still : (p : Pass) (a k : ℕ) (place : Place) → is_even k ≡ false → StillOut p → StillOut (merge_or_put_out l r p a k place)
    unfolding merge_or_put_out
    merge_or_put_out_still p a k nowhere e h = put_out_rotation_still p a k e h
    merge_or_put_out_still p a k (at j) e h =
        by_if StillOut (can_reach l r.lookback p.store.axes p.out j a)
        (merge_at l r.absorption (count_merge p) j a ((angle_at p.out j + k) % 8)) (put_out_rotation p a k)
        (rw at_once_lem (merge_at_still (count_merge p) j a _ (unfold count_merge in h))) (put_out_rotation_still p a k e h)

    take_rotation_still : (merging : Bool) (p : Pass) (a k : ℕ) → StillOut p → StillOut (take_rotation l r merging p a k)
    unfolding take_rotation
    take_rotation_still merging p a k h =
        on_if StillOut (is_at_once r.absorption && is_even k) (absorb l p a k) _ (λ e. unfold absorb in h)
        (λ e. merge_or_put_out_still p a k _ (sym (ap (λ (m : Absorption). is_at_once m && is_even k) at_once_lem) ∙ e) h)

    -- each item keeps it
    pub stream_item_still : (merging : Bool) (p : Pass) (i : Item) → StillOut p → StillOut (stream_item l r merging p i)
    unfolding stream_item
    stream_item_still merging p (rotation t) h =
        let c = carry_rotation l r.absorption p t.axis in
        take_rotation_still merging c.pass c.axis (with_sign c.turns t.angle) carried
      where
        carried : StillOut (carry_rotation l r.absorption p t.axis).pass
        carried = rw at_once_lem (unfold carry_rotation carry_axis in h)
    stream_item_still merging p (barrier o a s) h =
        unfold put_out with_last in (every_one Still (carry_axis l (absorb_all_waiting l r.absorption p) a).out (barrier o _ _) carried tt)
      where
        carried : StillOut (carry_axis l (absorb_all_waiting l r.absorption p) a)
        carried = rw at_once_lem (unfold absorb_all_waiting carry_axis in h)

-- ---- behind a barrier

shapes_inside : (m : ℕ) (xs : List Item) → AllIn m (without_angles xs) → AllIn m xs
unfolding without_angles
shapes_inside m [] h = tt
shapes_inside m (rotation r ∷ xs) h = (h.0, shapes_inside m xs h.1)
shapes_inside m (barrier o a s ∷ xs) h = (h.0, shapes_inside m xs h.1)

module _ (l : ℕ) where
  -- none waits, and `last` is cleared: rotations may begin to wait
  to_lazy_waits : (m : Absorption) (q : Pass) → Sound q → q.last ≡ cleared_last → WaitsAs l m q → WaitsAs l (to_lazy m) q
  to_lazy_waits off q s c h = tt
  to_lazy_waits at_once q s c h = record {
    inside = shapes_inside _ q.out s.ids;
    commute = still_waits l q.store.axes q.out h;
    names = λ a j e. nowhere_at j (sym (ap (λ (f : ℕ → Place). f a) c) ∙ e);
  }
  to_lazy_waits lazy q s c h = h

  barrier_clears : (r : Rules) (merging : Bool) (p : Pass) (o a s : ℕ) → (stream_item l r merging p (barrier o a s)).last ≡ cleared_last
  unfolding stream_item put_out with_last
  barrier_clears r merging p o a s = refl

  module _ (r : Rules) (merging : Bool) (p : Pass) (i : Item) (turns : TurnsItem i) (inside : axis_of i < length p.store.axes) where
    item_waits : (m : Absorption) → r.absorption ≡ m → WaitsAs l m p → WaitsAs l m (stream_item l r merging p i)
    item_waits off e h = tt
    item_waits at_once e h = stream_item_still l r e merging p i h
    item_waits lazy e h = stream_item_waiting l r e merging p i turns inside h

  -- each item keeps it, and the rules behind it
  pub stream_item_waits : (r : Rules) (merging : Bool) (p : Pass) (i : Item) → TurnsItem i → axis_of i < length p.store.axes → Sound p
      → WaitsAs l r.absorption p → WaitsAs l (rules_after r i).absorption (stream_item l r merging p i)
  unfolding after_barrier
  stream_item_waits r merging p (rotation t) b c s h = item_waits r merging p (rotation t) b c r.absorption refl h
  stream_item_waits r merging p (barrier o a t) b c s h =
      let q = stream_item l r merging p (barrier o a t) in
      let k = item_waits r merging p (barrier o a t) b c r.absorption refl h in
      by_if (λ (m : Absorption). WaitsAs l m q) (names r.lazy o) (to_lazy r.absorption) r.absorption
      (to_lazy_waits r.absorption q (stream_item_stepped l r merging p (barrier o a t) s c).sound (barrier_clears r merging p o a t) k) k

  -- rules behind an item that absorb at once did so before it
  pub still_after : (r : Rules) (merging : Bool) (p : Pass) (i : Item) → (r.absorption ≡ at_once → Every Still p.out)
      → (rules_after r i).absorption ≡ at_once → Every Still (stream_item l r merging p i).out
  unfolding after_barrier
  still_after r merging p i h e = let f = was_at_once i e in stream_item_still l r f merging p i (h f)
    where
      from_lazy : (m : Absorption) → to_lazy m ≡ at_once → m ≡ at_once
      from_lazy off f = f
      from_lazy at_once f = refl
      from_lazy lazy f = f

      was_at_once : (i : Item) → (rules_after r i).absorption ≡ at_once → r.absorption ≡ at_once
      was_at_once (rotation t) f = f
      was_at_once (barrier o a s) f =
          by_if (λ (m : Absorption). m ≡ at_once → r.absorption ≡ at_once) (names r.lazy o) (to_lazy r.absorption) r.absorption
          (from_lazy r.absorption) (λ g. g) f

  -- after any items
  pub after_items_waits : (r : Rules) (merging : Bool) (p : Pass) (is : List Item) → Every TurnsItem is → AllIn (length p.store.axes) is
      → Sound p → WaitsAs l r.absorption p → WaitsAs l (rules_behind r is).absorption (after_items l r merging p is)
  unfolding rules_behind after_items
  after_items_waits r merging p [] b c s h = h
  after_items_waits r merging p (i ∷ is) b c s h =
      let q = stream_item l r merging p i in
      let g = stream_item_stepped l r merging p i s c.0 in
      after_items_waits (rules_after r i) merging q is b.1 (all_in_more _ _ is g.grow.longer c.1) g.sound
      (stream_item_waits r merging p i b.0 c.0 s h)
