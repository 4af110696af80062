-- What the steps of a stream keep holds at its every point; F takes in the angles 2, 4 and 6 alone. Assumes nothing.
use Rattle.std.specs.Prelude.{◌≡◌, Bool, ◌&&◌, set}
use Rattle.std.proofs.Common.{sym, subst, add-zero}
use mathlib.Core.List.{List, [], ◌∷◌}
use Prim.Native.Nat.{ℕ, zero, suc, ◌+◌, ◌≤◌, ◌<◌}
use native.Mathlib.Omega.{arith}
use Rattle.std.proofs.Math.ListN.{length}
use Rattle.model.specs.Lists.{is_even}
use Rattle.model.specs.declared.Absorption.{Absorption}
use Rattle.model.specs.declared.Absorption.TheVariants.{Off as off, AtOnce as at_once, Lazy as lazy}
use Rattle.model.specs.Rules.{is_at_once, Rules}
use Rattle.model.specs.Items.{rot, Item, rotation, barrier, is_clifford}
use Rattle.model.specs.Words.{word_of}
use Rattle.model.specs.Packing.{SignedAxis}
use Rattle.model.specs.Clifford.{Images, Touched, absorb_word}
use Rattle.model.specs.Stream.{Place, nowhere, at, Pass, with_last, count_merge, set_angle, put_out, cleared_last, leave_zero, Rowed}
use Rattle.model.specs.Stream.{carry_axis, absorb, absorb_waiting_at, absorb_waiting, absorb_all_waiting, absorb_blocking, carry_rotation, merge_at}
use Rattle.model.specs.Stream.{put_out_rotation}
use Rattle.model.specs.Stream.{merge_or_put_out, take_rotation, rules_after, stream_item, stream, carry_rows_from, carry_rows}
use Rattle.theory.specs.Cases.{by_if, on_if, and_left, and_right}
use Rattle.theory.specs.Every.{Every, every_one}
use Rattle.words_wellformed.specs.PassWords.{rules_behind, after_items, stream_after}
use Rattle.words_wellformed.specs.RunWords.{TurnsItem}
use Rattle.run_wellformed.specs.CliffordAngles.{SmallItem, CliffordAngle, even_angle, clifford_angle}
use Rattle.run_wellformed.specs.CliffordAngles.{with_sign_turns}

-- ---- what the steps keep

-- P n p: what is known of the state p after n items were read
pub record KeptBySteps (l : ℕ) (P : ℕ → Pass → Type 0) : Type 0 where
  -- an item was read, and left nothing in the output
  pub more : (n : ℕ) (p : Pass) → P n p → P (suc n) p
  pub carries : (n : ℕ) (p : Pass) (a : ℕ) → P n p → P n (carry_axis l p a)
  -- F takes in an angle of 2, 4 or 6
  pub absorbs : (n : ℕ) (p : Pass) (a k : ℕ) → CliffordAngle k → P n p → P n (absorb l p a k)
  pub zeroes : (n : ℕ) (p : Pass) (j a : ℕ) → P n p → P n (leave_zero j a p)
  pub counts : (n : ℕ) (p : Pass) → P n p → P n (count_merge p)
  -- a place gets an angle of 0 to 7
  pub turns : (n : ℕ) (p : Pass) (j a k : ℕ) → k ≤ 7 → P n p → P n (set_angle j a k p)
  -- what is put out counts for the item that was read
  pub puts : (n : ℕ) (p : Pass) (a k : ℕ) → k ≤ 7 → P n p → P (suc n) (put_out_rotation p a k)
  pub bars : (n : ℕ) (p : Pass) (o a s : ℕ) → P n p → P (suc n) (put_out (barrier o a s) (with_last cleared_last p))

module _ (l : ℕ) (P : ℕ → Pass → Type 0) (kept : KeptBySteps l P) where
  -- one item of the output, absorbed if it waits and is picked
  pub absorb_waiting_at_by : (n : ℕ) (picks : ℕ → Bool) (p : Pass) (j : ℕ) (i : Item) → SmallItem i → P n p → P n (absorb_waiting_at l picks p j i)
  unfolding absorb_waiting_at
  absorb_waiting_at_by n picks p j (rotation r) b h =
      on_if (P n) (is_clifford r.angle && picks r.axis) (leave_zero j r.axis (absorb l p r.axis r.angle)) p
      (λ e. kept.zeroes n _ j r.axis (kept.absorbs n p r.axis r.angle (clifford_angle r.angle b (and_left _ (picks r.axis) e)) h))
      (λ e. h)
  absorb_waiting_at_by n picks p j (barrier o a s) b h = h

  -- the items from a place on
  pub absorb_waiting_by : (n : ℕ) (picks : ℕ → Bool) (p : Pass) (j : ℕ) (is : List Item) → Every SmallItem is → P n p
      → P n (absorb_waiting l picks p j is)
  unfolding absorb_waiting
  absorb_waiting_by n picks p j [] b h = h
  absorb_waiting_by n picks p j (i ∷ is) b h =
      absorb_waiting_by n picks (absorb_waiting_at l picks p j i) (suc j) is b.1 (absorb_waiting_at_by n picks p j i b.0 h)

  -- P says that the angles of the output are 0 to 7
  module _ (small : (n : ℕ) (p : Pass) → P n p → Every SmallItem p.out) where
    -- all that wait
    pub absorb_all_waiting_by : (n : ℕ) (m : Absorption) (p : Pass) → P n p → P n (absorb_all_waiting l m p)
    unfolding absorb_all_waiting
    absorb_all_waiting_by n off p h = h
    absorb_all_waiting_by n at_once p h = h
    absorb_all_waiting_by n lazy p h = absorb_waiting_by n _ p 0 p.out (small n p h) h

    -- those that anticommute with the next rotation
    pub absorb_blocking_by : (n : ℕ) (p : Pass) (a : ℕ) → P n p → P n (absorb_blocking l p a)
    unfolding absorb_blocking
    absorb_blocking_by n p a h = let g = kept.carries n p a h in absorb_waiting_by n _ (carry_axis l p a) 0 _ (small n (carry_axis l p a) g) g

    -- a rotation, carried
    pub carry_rotation_by : (n : ℕ) (m : Absorption) (p : Pass) (a : ℕ) → P n p → P n (carry_rotation l m p a).pass
    unfolding carry_rotation
    carry_rotation_by n off p a h = kept.carries n p a h
    carry_rotation_by n at_once p a h = kept.carries n p a h
    carry_rotation_by n lazy p a h = kept.carries n (absorb_blocking l p a) a (absorb_blocking_by n p a h)

    -- it merges
    pub merge_at_by : (n : ℕ) (m : Absorption) (p : Pass) (j a k : ℕ) → k ≤ 7 → P n p → P n (merge_at l m p j a k)
    unfolding merge_at
    merge_at_by n m p j a k b h =
        on_if (P n) (is_at_once m && is_clifford k) (leave_zero j a (absorb l p a k)) _
        (λ e. kept.zeroes n _ j a (kept.absorbs n p a k (clifford_angle k b (and_right (is_at_once m) (is_clifford k) e)) h))
        (λ e. by_if (P n) _ _ _ (kept.zeroes n p j a h) (kept.turns n p j a k b h))

    -- or is put out
    pub merge_or_put_out_by : (n : ℕ) (r : Rules) (p : Pass) (a k : ℕ) (j : Place) → k ≤ 7 → P n p → P (suc n) (merge_or_put_out l r p a k j)
    unfolding merge_or_put_out
    merge_or_put_out_by n r p a k nowhere b h = kept.puts n p a k b h
    merge_or_put_out_by n r p a k (at j) b h =
        by_if (P (suc n)) _ _ _
        (kept.more n _ (merge_at_by n r.absorption (count_merge p) j a _ (omega arith) (kept.counts n p h))) (kept.puts n p a k b h)

    -- or is absorbed at once
    pub take_rotation_by : (n : ℕ) (r : Rules) (merging : Bool) (p : Pass) (a k : ℕ) → 0 < k → k ≤ 7 → P n p
        → P (suc n) (take_rotation l r merging p a k)
    unfolding take_rotation
    take_rotation_by n r merging p a k z b h =
        on_if (P (suc n)) (is_at_once r.absorption && is_even k) (absorb l p a k) _
        (λ e. kept.more n _ (kept.absorbs n p a k (even_angle k z b (and_right (is_at_once r.absorption) (is_even k) e)) h))
        (λ e. merge_or_put_out_by n r p a k _ b h)

    -- one item is read
    pub stream_item_by : (n : ℕ) (r : Rules) (merging : Bool) (p : Pass) (i : Item) → TurnsItem i → P n p → P (suc n) (stream_item l r merging p i)
    unfolding stream_item
    stream_item_by n r merging p (rotation t) b h =
        let c = carry_rotation l r.absorption p t.axis in
        let k = with_sign_turns c.turns t.angle b.0 b.1 in
        take_rotation_by n r merging c.pass c.axis _ k.0 k.1 (carry_rotation_by n r.absorption p t.axis h)
    stream_item_by n r merging p (barrier o a s) b h =
        kept.bars n _ o _ _ (kept.carries n (absorb_all_waiting l r.absorption p) a (absorb_all_waiting_by n r.absorption p h))

    -- any items are read
    pub after_items_by : (n : ℕ) (r : Rules) (merging : Bool) (p : Pass) (is : List Item) → Every TurnsItem is → P n p
        → P (n + length is) (after_items l r merging p is)
    unfolding after_items
    after_items_by n r merging p [] b h = rw (add-zero n) h
    after_items_by n r merging p (i ∷ is) b h =
        let e : n + suc (length is) ≡ suc n + length is = omega arith in
        rw e (after_items_by (suc n) (rules_after r i) merging (stream_item l r merging p i) is b.1 (stream_item_by n r merging p i b.0 h))

    -- the stream ends
    pub stream_by : (n : ℕ) (r : Rules) (merging : Bool) (p : Pass) (is : List Item) → Every TurnsItem is → P n p
        → P (n + length is) (stream l r merging p is)
    stream_by n r merging p is b h =
        subst (P (n + length is)) (sym (stream_after l r merging p is))
        (absorb_all_waiting_by (n + length is) (rules_behind r is).absorption (after_items l r merging p is) (after_items_by n r merging p is b h))

  -- the rest of the frame rows is carried
  pub carry_rows_from_by : (n : ℕ) (p : Pass) (done rows : List SignedAxis) → P n p → P n (carry_rows_from l p done rows).pass
  unfolding carry_rows_from
  carry_rows_from_by n p done [] h = h
  carry_rows_from_by n p done (f ∷ rest) h = carry_rows_from_by n (carry_axis l p f.axis) _ rest (kept.carries n p f.axis h)

  -- the frame rows are carried, or kept
  pub carry_rows_by : (n : ℕ) (p : Pass) (rows : List SignedAxis) → P n p → P n (carry_rows l p rows).pass
  unfolding carry_rows
  carry_rows_by n p rows h = by_if (λ (x : Rowed). P n x.pass) _ _ _ h (carry_rows_from_by n p [] rows h)

-- ---- angles of the output are 0 to 7

-- a replaced element
pub every_set : {A : Type 0} (R : A → Type 0) (xs : List A) (j : ℕ) (x : A) → Every R xs → R x → Every R (set xs j x)
every_set R [] j x h g = tt
every_set R (y ∷ ys) zero x h g = (g, h.1)
every_set R (y ∷ ys) (suc j) x h g = (h.0, every_set R ys j x h.1 g)

-- whatever number of items was read
abbrev pub Small : ℕ → Pass → Type 0
Small n p = Every SmallItem p.out

-- each step keeps them
pub small_kept : (l : ℕ) → KeptBySteps l Small
unfolding carry_axis absorb leave_zero with_last count_merge set_angle put_out_rotation put_out
small_kept l = record {
  more = λ n p h. h;
  carries = λ n p a h. h;
  absorbs = λ n p a k c h. h;
  zeroes = λ n p j a h. every_set SmallItem p.out j (rotation (rot a 0)) h (omega arith);
  counts = λ n p h. h;
  turns = λ n p j a k b h. every_set SmallItem p.out j (rotation (rot a k)) h b;
  puts = λ n p a k b h. every_one SmallItem p.out (rotation (rot a k)) h b;
  bars = λ n p o a s h. every_one SmallItem p.out (barrier o a s) h (omega arith);
}

-- ---- F is made of the angles 2, 4 and 6 alone

-- images that came of absorbing such angles about stored axes, one after the other
pub data Absorbed (l : ℕ) : List Images → Type 0 where
  unmoved : Absorbed l []
  absorbing : (t : Touched) (a k : ℕ) → CliffordAngle k → Absorbed l t.held → Absorbed l (absorb_word l t (word_of t.store.axes a) k).held

-- each step keeps that
pub absorbed_kept : (l : ℕ) → KeptBySteps l (λ n p. Absorbed l p.held)
unfolding carry_axis absorb leave_zero with_last count_merge set_angle put_out_rotation put_out
absorbed_kept l = record {
  more = λ n p h. h;
  carries = λ n p a h. h;
  absorbs = λ n p a k c h. absorbing (record { store = p.store; held = p.held }) a k c h;
  zeroes = λ n p j a h. h;
  counts = λ n p h. h;
  turns = λ n p j a k b h. h;
  puts = λ n p a k b h. h;
  bars = λ n p o a s h. h;
}
