-- With absorption off a stream that merges carries no axis and keeps its store: rotations merge or are put out as they come. Assumes nothing.
use Rattle.std.specs.Prelude.{◌≡◌, ◌&&◌, ℕ, suc, ◌+◌, ◌%◌, ◌<◌, eqb, length, set}
use Rattle.std.proofs.Math.Path.{refl, sym, ap, ap₂}
use Rattle.std.proofs.Common.{◌∙◌, zero-add}
use Rattle.std.proofs.Math.Bool.{true}
use mathlib.Core.List.{List, [], ◌∷◌, ◌++◌}
use Rattle.model.specs.declared.Absorption.{Absorption}
use Rattle.model.specs.declared.Absorption.TheVariants.{Off as off}
use Rattle.model.specs.Lists.{when◌then◌else◌, is_even}
use Rattle.model.specs.Rules.{is_at_once, Rules}
use Rattle.model.specs.Words.{Value, as_value, id_of, word_of, Store, intern}
use Rattle.model.specs.Clifford.{image_words}
use Rattle.model.specs.Items.{rot, Item, rotation, barrier, with_sign}
use Rattle.model.specs.Stream.{Place, nowhere, at, Pass, pass_with_store, with_last, count_merge, set_angle, put_out, set_last, cleared_last}
use Rattle.model.specs.Stream.{leave_zero, put_out_rotation, can_reach, angle_at, Carried, axis_image, image_id, carry_axis, carried}
use Rattle.model.specs.Stream.{absorb, absorb_all_waiting, carry_rotation, merge_at, merge_or_put_out, take_rotation, stream_item, stream}
use Rattle.theory.specs.Cases.{of_if}
use Rattle.theory.specs.Every.{Every}
use Rattle.theory.specs.Ids.{intern_old}
use Rattle.theory.specs.StreamState.{axis_of}
use Rattle.theory.specs.WithoutAbsorption.{stays_off}
use Rattle.words_wellformed.specs.StoredWords.{StoredWords}
use Rattle.words_wellformed.specs.Carrying.{word_image_none}
use Rattle.cutting.specs.Renaming.{within_self}

-- ---- the plain stream

-- what is put out, `last`, and the merges
pub record Puts : Type 0 where
  pub out : List Item
  pub last : ℕ → Place
  pub merges : ℕ

-- a rotation about a "is put out and `last` set"
unfoldable pub put_rot : Puts → ℕ → ℕ → Puts
put_rot x a k = record {
  out = x.out ++ (rotation (rot a k) ∷ []);
  last = set_last a (at (length x.out)) x.last;
  merges = x.merges;
}

-- place j, a rotation about a, gets angle k. "A zero .. clears `last` for its axis"
unfoldable pub merge_rot : Puts → ℕ → ℕ → ℕ → Puts
merge_rot x j a k =
    when eqb k 0 then record { out = set x.out j (rotation (rot a 0)); last = set_last a nowhere x.last; merges = suc x.merges } else
    record { out = set x.out j (rotation (rot a k)); last = x.last; merges = suc x.merges }

module _ (l lookback : ℕ) (axes : List (List ℕ)) where
  -- "if `last` names place j for its axis and j can be reached, it merges there; else it is put out"
  unfoldable pub merge_or_put : Puts → ℕ → ℕ → Place → Puts
  merge_or_put x a k nowhere = put_rot x a k
  merge_or_put x a k (at j) =
      when can_reach l lookback axes x.out j a then merge_rot x j a ((angle_at x.out j + k) % 8) else put_rot x a k

  -- "A barrier clears `last`."
  unfoldable pub put_item : Puts → Item → Puts
  put_item x (rotation r) = merge_or_put x r.axis r.angle (x.last r.axis)
  put_item x (barrier o a s) = record { out = x.out ++ (barrier o a (s % 4) ∷ []); last = cleared_last; merges = x.merges }

  unfoldable pub put_items : Puts → List Item → Puts
  put_items x [] = x
  put_items x (i ∷ is) = put_items (put_item x i) is

  pub put_items_append : (x : Puts) (is js : List Item) → put_items x (is ++ js) ≡ put_items (put_items x is) js
  unfolding put_items
  put_items_append x [] js = refl
  put_items_append x (i ∷ is) js = put_items_append (put_item x i) is js

-- nothing is put out yet
abbrev pub nothing_out : Puts
nothing_out = record { out = []; last = cleared_last; merges = 0 }

-- ---- a stream with absorption off is the plain one

-- a stream's state with this store, whose F is the identity
abbrev pub pass_of : Store → Puts → Pass
pass_of st x = record { store = st; held = []; out = x.out; last = x.last; merges = x.merges; absorbed = 0 }

module _ (l : ℕ) (st : Store) (stored : StoredWords l st.axes) where
  -- an axis's image is its own word
  image_same : (x : Puts) (a : ℕ) → a < length st.axes → axis_image l (pass_of st x) a ≡ as_value (word_of st.axes a)
  unfolding axis_image
  image_same x a h = word_image_none l (word_of st.axes a) (stored.words a h)

  -- which is stored
  store_same : (a n : ℕ) → a < length st.axes → intern l n st (word_of st.axes a) ≡ st
  store_same a n h = intern_old l n st (word_of st.axes a) (within_self l st.axes stored a h)

  carry_same : (x : Puts) (a : ℕ) → a < length st.axes → carry_axis l (pass_of st x) a ≡ pass_of st x
  unfolding carry_axis
  carry_same x a h =
      ap (λ (v : Value). pass_with_store (intern l (image_words l []) st v.word) (pass_of st x)) (image_same x a h)
      ∙ ap (λ (s : Store). pass_with_store s (pass_of st x)) (store_same a (image_words l []) h)

  -- so an axis is carried to itself
  carried_same : (x : Puts) (a : ℕ) → a < length st.axes → carried l (pass_of st x) a ≡ record { pass = pass_of st x; axis = a; turns = 0 }
  unfolding image_id
  carried_same x a h =
      ap (λ (q : Pass). record { pass = q; axis = image_id l q a; turns = (axis_image l q a).turns }) (carry_same x a h)
      ∙ ap (λ (v : Value). record { pass = pass_of st x; axis = id_of st.axes v.word; turns = v.turns }) (image_same x a h)
      ∙ ap (λ (n : ℕ). record { pass = pass_of st x; axis = n; turns = 0 }) (stored.distinct a h)

  module _ (r : Rules) (is_off : r.absorption ≡ off) where
    merge_same : (x : Puts) (j a k : ℕ) → merge_at l off (count_merge (pass_of st x)) j a k ≡ pass_of st (merge_rot x j a k)
    unfolding merge_at count_merge merge_rot leave_zero set_angle with_last when◌then◌else◌
    merge_same x j a k = sym (of_if (pass_of st) (eqb k 0) _ _)

    take_same : (x : Puts) (a k : ℕ) (place : Place)
        → merge_or_put_out l r (pass_of st x) a k place ≡ pass_of st (merge_or_put l r.lookback st.axes x a k place)
    unfolding merge_or_put_out merge_or_put put_out_rotation put_rot put_out with_last
    take_same x a k nowhere = refl
    take_same x a k (at j) =
        ap (λ (y : Pass). when can_reach l r.lookback st.axes x.out j a then y else pass_of st (put_rot x a k))
        (ap (λ (m : Absorption). merge_at l m (count_merge (pass_of st x)) j a ((angle_at x.out j + k) % 8)) is_off
        ∙ merge_same x j a ((angle_at x.out j + k) % 8))
        ∙ sym (of_if (pass_of st) (can_reach l r.lookback st.axes x.out j a) _ _)

    -- a rotation is carried to itself
    rotation_carried : (x : Puts) (a : ℕ) → a < length st.axes
        → carry_rotation l r.absorption (pass_of st x) a ≡ record { pass = pass_of st x; axis = a; turns = 0 }
    unfolding carry_rotation
    rotation_carried x a h = ap (λ (m : Absorption). carry_rotation l m (pass_of st x) a) is_off ∙ carried_same x a h

    -- so is a barrier, for which nothing waits
    barrier_carried : (x : Puts) (a : ℕ) → a < length st.axes
        → carried l (absorb_all_waiting l r.absorption (pass_of st x)) a ≡ record { pass = pass_of st x; axis = a; turns = 0 }
    unfolding absorb_all_waiting
    barrier_carried x a h = ap (λ (m : Absorption). carried l (absorb_all_waiting l m (pass_of st x)) a) is_off ∙ carried_same x a h

    took_same : (x : Puts) (a k : ℕ)
        → take_rotation l r true (pass_of st x) a (with_sign 0 k) ≡ pass_of st (merge_or_put l r.lookback st.axes x a k (x.last a))
    unfolding take_rotation with_sign when◌then◌else◌
    took_same x a k =
        ap (λ (m : Absorption). when is_at_once m && is_even k then absorb l (pass_of st x) a k else merge_or_put_out l r (pass_of st x) a k (x.last a))
        is_off
        ∙ take_same x a k (x.last a)

    item_same : (x : Puts) (i : Item) → axis_of i < length st.axes
        → stream_item l r true (pass_of st x) i ≡ pass_of st (put_item l r.lookback st.axes x i)
    unfolding stream_item put_item put_out with_last
    item_same x (rotation t) h =
        ap (λ (c : Carried). take_rotation l r true c.pass c.axis (with_sign c.turns t.angle)) (rotation_carried x t.axis h)
        ∙ took_same x t.axis t.angle
    item_same x (barrier o a s) h =
        ap (λ (c : Carried). put_out (barrier o c.axis ((c.turns + s) % 4)) (with_last cleared_last c.pass)) (barrier_carried x a h)
        ∙ ap (λ (n : ℕ). pass_of st (record { out = x.out ++ (barrier o a (n % 4) ∷ []); last = cleared_last; merges = x.merges })) (zero-add s)

    -- all items
    pub stream_same : (x : Puts) (is : List Item) → Every (λ i. axis_of i < length st.axes) is
        → stream l r true (pass_of st x) is ≡ pass_of st (put_items l r.lookback st.axes x is)
    unfolding stream put_items
    stream_same x [] h = unfold absorb_all_waiting in (rw is_off refl)
    stream_same x (i ∷ is) h =
        ap₂ (λ (s : Rules) (p : Pass). stream l s true p is) (stays_off r i is_off) (item_same x i h.0)
        ∙ stream_same (put_item l r.lookback st.axes x i) is h.1
