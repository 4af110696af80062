-- A stream puts out no more than it reads, by any measure of angles. Assumes nothing.
use Rattle.std.specs.Prelude.{Bool, ℕ, suc, ◌+◌, ◌%◌, ◌≤◌}
use mathlib.Core.List.{List, [], ◌∷◌}
use Rattle.std.proofs.Common.{le_refl}
use native.Mathlib.Omega.{arith}
use Rattle.model.specs.Lists.{sum_of}
use Rattle.model.specs.declared.Absorption.{Absorption}
use Rattle.model.specs.declared.Absorption.TheVariants.{Off as off, AtOnce as at_once, Lazy as lazy}
use Rattle.model.specs.Rules.{Rules}
use Rattle.model.specs.Items.{rot, Item, rotation, barrier, with_sign, angle_of, stays, drop_zeros}
use Rattle.model.specs.Stream.{Place, nowhere, at, Pass, with_last, count_merge, set_angle, put_out, cleared_last, leave_zero, put_out_rotation, angle_at}
use Rattle.model.specs.Stream.{axis_image}
use Rattle.model.specs.Stream.{image_id, carry_axis, absorb, absorb_waiting_at, absorb_waiting, absorb_all_waiting, absorb_blocking, carry_rotation}
use Rattle.model.specs.Stream.{merge_at}
use Rattle.model.specs.Stream.{merge_or_put_out, take_rotation, rules_after, stream_item, stream, begin}
use Rattle.model.specs.Rounds.{Work, stream_pass}
use Rattle.theory.specs.Cases.{by_if}
use Rattle.theory.specs.Lists.{sum_of_one, sum_of_set}
use Rattle.theory.specs.Measure.{Measure, size_of, size_of_nil, size_of_keep}

module _ (m : ℕ → ℕ) (law : Measure m) where
  -- q's output measures at most e more than p's
  abbrev pub Adds : ℕ → Pass → Pass → Type 0
  Adds e p q = size_of m q.out ≤ size_of m p.out + e

  adds_zero : (p : Pass) → Adds 0 p p
  adds_zero p = omega arith

  adds_chain : (p q r : Pass) → Adds 0 p q → Adds 0 q r → Adds 0 p r
  adds_chain p q r h g = omega arith

  with_sign_adds : (s k : ℕ) → m (with_sign s k) ≤ m k
  unfolding with_sign
  with_sign_adds s k = by_if (λ (x : ℕ). m x ≤ m k) _ _ _ (le_refl _) (law.sign k)

  put_out_adds : (p : Pass) (i : Item) → Adds (m (angle_of i)) p (put_out i p)
  unfolding put_out size_of
  put_out_adds p i = omega (arith, sum_of_one (λ (i : Item). m (angle_of i)) p.out i)

  -- place j gets angle k
  set_angle_adds : (p : Pass) (j a k e : ℕ) → m k ≤ m (angle_at p.out j) + e → Adds e p (set_angle j a k p)
  unfolding set_angle size_of angle_at
  set_angle_adds p j a k e h = sum_of_set (λ (i : Item). m (angle_of i)) p.out j (rotation (rot a k)) (rotation (rot 0 0)) e h

  -- or none
  leave_zero_adds : (p : Pass) (j a e : ℕ) → Adds e p (leave_zero j a p)
  unfolding leave_zero with_last
  leave_zero_adds p j a e = set_angle_adds _ j a 0 e (omega (arith, law.least (angle_at p.out j)))

  module _ (l : ℕ) where
    absorb_waiting_at_adds : (picks : ℕ → Bool) (p : Pass) (j : ℕ) (i : Item) → Adds 0 p (absorb_waiting_at l picks p j i)
    unfolding absorb_waiting_at
    absorb_waiting_at_adds picks p j (rotation r) =
        by_if (Adds 0 p) _ _ _ (unfold absorb in (leave_zero_adds _ j r.axis 0)) (adds_zero p)
    absorb_waiting_at_adds picks p j (barrier o a s) = adds_zero p

    absorb_waiting_adds : (picks : ℕ → Bool) (p : Pass) (j : ℕ) (is : List Item) → Adds 0 p (absorb_waiting l picks p j is)
    unfolding absorb_waiting
    absorb_waiting_adds picks p j [] = adds_zero p
    absorb_waiting_adds picks p j (i ∷ is) =
        omega (arith, absorb_waiting_at_adds picks p j i, absorb_waiting_adds picks (absorb_waiting_at l picks p j i) (suc j) is)

    absorb_all_waiting_adds : (when : Absorption) (p : Pass) → Adds 0 p (absorb_all_waiting l when p)
    unfolding absorb_all_waiting
    absorb_all_waiting_adds off p = adds_zero p
    absorb_all_waiting_adds at_once p = adds_zero p
    absorb_all_waiting_adds lazy p = absorb_waiting_adds _ p 0 p.out

    carry_axis_adds : (p : Pass) (a : ℕ) → Adds 0 p (carry_axis l p a)
    unfolding carry_axis
    carry_axis_adds p a = adds_zero p

    absorb_blocking_adds : (p : Pass) (a : ℕ) → Adds 0 p (absorb_blocking l p a)
    unfolding absorb_blocking
    absorb_blocking_adds p a =
        adds_chain p (carry_axis l p a) (absorb_blocking l p a) (carry_axis_adds p a) (absorb_waiting_adds _ (carry_axis l p a) 0 _)

    carry_rotation_adds : (when : Absorption) (p : Pass) (a : ℕ) → Adds 0 p (carry_rotation l when p a).pass
    unfolding carry_rotation
    carry_rotation_adds off p a = carry_axis_adds p a
    carry_rotation_adds at_once p a = carry_axis_adds p a
    carry_rotation_adds lazy p a =
        adds_chain p (absorb_blocking l p a) (carry_rotation l lazy p a).pass (absorb_blocking_adds p a) (carry_axis_adds (absorb_blocking l p a) a)

    absorb_adds : (p : Pass) (a k : ℕ) → Adds 0 p (absorb l p a k)
    unfolding absorb
    absorb_adds p a k = adds_zero p

    merge_at_adds : (when : Absorption) (p : Pass) (j a k e : ℕ) → m k ≤ m (angle_at p.out j) + e → Adds e p (merge_at l when p j a k)
    unfolding merge_at
    merge_at_adds when p j a k e h =
        by_if (Adds e p) _ _ _ (unfold absorb in (leave_zero_adds _ j a e))
        (by_if (Adds e p) _ _ _ (leave_zero_adds p j a e) (set_angle_adds p j a k e h))

    put_out_rotation_adds : (p : Pass) (a k : ℕ) → Adds (m k) p (put_out_rotation p a k)
    unfolding put_out_rotation
    put_out_rotation_adds p a k = unfold with_last in (put_out_adds _ (rotation (rot a k)))

    merge_or_put_out_adds : (r : Rules) (p : Pass) (a k : ℕ) (j : Place) → Adds (m k) p (merge_or_put_out l r p a k j)
    unfolding merge_or_put_out
    merge_or_put_out_adds r p a k nowhere = put_out_rotation_adds p a k
    merge_or_put_out_adds r p a k (at j) =
        by_if (Adds (m k) p) _ _ _ (unfold count_merge in (merge_at_adds r.absorption _ j a _ (m k) (law.merge (angle_at p.out j) k)))
        (put_out_rotation_adds p a k)

    take_rotation_adds : (r : Rules) (b : Bool) (p : Pass) (a k : ℕ) → Adds (m k) p (take_rotation l r b p a k)
    unfolding take_rotation
    take_rotation_adds r b p a k = by_if (Adds (m k) p) _ _ _ (omega (arith, absorb_adds p a k)) (merge_or_put_out_adds r p a k _)

    -- an item adds at most its own measure
    pub stream_item_adds : (r : Rules) (b : Bool) (p : Pass) (i : Item) → Adds (m (angle_of i)) p (stream_item l r b p i)
    unfolding stream_item with_last
    stream_item_adds r b p (rotation t) =
        let c = carry_rotation l r.absorption p t.axis in
        omega (
          arith,
          carry_rotation_adds r.absorption p t.axis,
          take_rotation_adds r b c.pass c.axis (with_sign c.turns t.angle),
          with_sign_adds c.turns t.angle,
        )
    stream_item_adds r b p (barrier o a s) =
        let q = absorb_all_waiting l r.absorption p in
        omega (
          arith,
          absorb_all_waiting_adds r.absorption p,
          carry_axis_adds q a,
          put_out_adds (with_last cleared_last (carry_axis l q a))
              (barrier o (image_id l (carry_axis l q a) a) (((axis_image l (carry_axis l q a) a).turns + s) % 4)),
        )

    -- a stream puts out at most what it reads
    pub stream_adds : (r : Rules) (b : Bool) (p : Pass) (is : List Item) → Adds (size_of m is) p (stream l r b p is)
    unfolding stream size_of sum_of
    stream_adds r b p [] = absorb_all_waiting_adds r.absorption p
    stream_adds r b p (i ∷ is) = omega (arith, stream_item_adds r b p i, stream_adds (rules_after r i) b (stream_item l r b p i) is)

  -- ---- the theorem

  -- a streaming pass
  pub stream_pass_no_more : (l : ℕ) (r : Rules) (b : Bool) (w : Work) → size_of m (stream_pass l r b w).items ≤ size_of m w.items
  unfolding stream_pass begin drop_zeros
  stream_pass_no_more l r b w =
      let p = stream l r b (begin w.store) w.items in
      omega (arith, size_of_keep m stays p.out, stream_adds l r b (begin w.store) w.items, size_of_nil m)
