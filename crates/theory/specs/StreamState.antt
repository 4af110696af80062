-- The stream's state: output ids are in range; `last` names a rotation of its own axis in the present segment; barriers stay. Assumes nothing.
use Rattle.std.proofs.Math.Path.{◌≡◌, refl, ap}
use Rattle.std.proofs.Common.{sym, ◌∙◌, le_trans, arith, eqb-true}
use Rattle.std.specs.Prelude.{Bool, ℕ, zero, suc, ◌≤◌, ◌<◌, eqb, length, drop, set}
use mathlib.Core.List.{List, [], ◌∷◌, ◌++◌, map, append_assoc, append-nil}
use Rattle.std.proofs.Math.ListN.{get_or}
use Rattle.model.specs.Lists.{when◌then◌else◌, keep}
use Rattle.model.specs.declared.Absorption.{Absorption}
use Rattle.model.specs.declared.Absorption.TheVariants.{Off as off, AtOnce as at_once, Lazy as lazy}
use Rattle.model.specs.Rules.{Rules}
use Rattle.model.specs.Words.{Store, tested}
use Rattle.model.specs.Packing.{SignedAxis}
use Rattle.model.specs.Clifford.{Touched, touch, touch_all, absorb_word}
use Rattle.model.specs.Items.{Rot, rot, Item, rotation, barrier, is_nonzero, stays, drop_zeros}
use Rattle.model.specs.Stream.{Place, nowhere, at, Pass, with_last, count_merge, set_angle, put_out, set_last, cleared_last, leave_zero, put_out_rotation}
use Rattle.model.specs.Stream.{Rowed}
use Rattle.model.specs.Stream.{axis_image, image_id, carry_axis, absorb, absorb_waiting_at, absorb_waiting, absorb_all_waiting, absorb_blocking}
use Rattle.model.specs.Stream.{carry_rotation}
use Rattle.model.specs.Stream.{merge_at}
use Rattle.model.specs.Stream.{merge_or_put_out, take_rotation, rules_after, stream_item, stream, carry_rows_from, carry_rows, begin}
use Rattle.model.specs.Rounds.{Work, stream_pass}
use Rattle.theory.specs.Cases.{by_if, on_if}
use Rattle.theory.specs.Every.{Every}
use Rattle.theory.specs.Lists.{drop_head}
use Rattle.theory.specs.Ids.{id_in, Grows, grows_refl, grows_trans, grows_eq, intern_grows}

-- ---- an item without its angle

-- a rotation at angle 0
abbrev pub without_angle : Item → Item
without_angle (rotation r) = rotation (rot r.axis 0)
without_angle (barrier o a s) = barrier o a s

-- each item without its angle
unfoldable pub without_angles : List Item → List Item
without_angles is = map without_angle is

-- no item: a place outside
abbrev pub outside : Item
outside = barrier 0 0 0

without_angles_append : (xs ys : List Item) → without_angles (xs ++ ys) ≡ without_angles xs ++ without_angles ys
unfolding without_angles
without_angles_append [] ys = refl
without_angles_append (x ∷ xs) ys = ap (λ (r : List Item). without_angle x ∷ r) (without_angles_append xs ys)

without_angles_length : (xs : List Item) → length (without_angles xs) ≡ length xs
unfolding without_angles
without_angles_length [] = refl
without_angles_length (x ∷ xs) = ap suc (without_angles_length xs)

without_angles_cons : (x : Item) (xs : List Item) → without_angles (x ∷ xs) ≡ without_angle x ∷ without_angles xs
unfolding without_angles
without_angles_cons x xs = refl

-- a place keeps its shape, whatever angle it gets
without_angles_set : (xs : List Item) (j : ℕ) (x : Item) → get_or (without_angles xs) j outside ≡ without_angle x
    → without_angles (set xs j x) ≡ without_angles xs
unfolding without_angles
without_angles_set [] j x h = refl
without_angles_set (y ∷ ys) zero x h = ap (λ (i : Item). i ∷ map without_angle ys) (sym h)
without_angles_set (y ∷ ys) (suc j) x h = ap (λ (r : List Item). without_angle y ∷ r) (without_angles_set ys j x h)

-- ---- ids in range

-- an item's axis
abbrev pub axis_of : Item → ℕ
axis_of (rotation r) = r.axis
axis_of (barrier o a s) = a

-- every axis is one of m
abbrev pub AllIn : ℕ → List Item → Type 0
AllIn m = Every (λ (i : Item). axis_of i < m)

all_in_more : (m k : ℕ) (xs : List Item) → m ≤ k → AllIn m xs → AllIn k xs
all_in_more m k [] h a = tt
all_in_more m k (x ∷ xs) h a = (le_trans a.0 h, all_in_more m k xs h a.1)

all_in_one : (m : ℕ) (xs : List Item) (x : Item) → AllIn m xs → axis_of x < m → AllIn m (xs ++ (x ∷ []))
all_in_one m [] x a h = (h, tt)
all_in_one m (y ∷ ys) x a h = (a.0, all_in_one m ys x a.1 h)

-- ---- what `last` may name

-- all items are rotations
abbrev pub AllRotations : List Item → Type 0
AllRotations [] = Unit {0}
AllRotations (rotation r ∷ xs) = AllRotations xs
AllRotations (barrier o a s ∷ xs) = ⊥

-- place j has a rotation about a, and no barrier stands after it
abbrev pub Names : List Item → ℕ → ℕ → Type 0
Names sh a j = (get_or sh j outside ≡ rotation (rot a 0)) × AllRotations (drop j sh)

rotations_one : (xs : List Item) (r : Rot) → AllRotations xs → AllRotations (xs ++ (rotation r ∷ []))
rotations_one [] r h = tt
rotations_one (rotation x ∷ xs) r h = rotations_one xs r h
rotations_one (barrier o a s ∷ xs) r h = absurd h

-- a rotation is put out
names_one : (xs : List Item) (r : Rot) (a j : ℕ) → Names xs a j → Names (xs ++ (rotation r ∷ [])) a j
names_one [] r a j h = let z : ◌≡◌ {A = ℕ} 0 1 = let e : outside ≡ rotation (rot a 0) = h.0 in cc in absurd (omega arith)
names_one (x ∷ xs) r a zero h = (h.0, rotations_one (x ∷ xs) r h.1)
names_one (x ∷ xs) r a (suc j) h = names_one xs r a j h

names_new : (xs : List Item) (a : ℕ) → Names (xs ++ (rotation (rot a 0) ∷ [])) a (length xs)
names_new [] a = (refl, tt)
names_new (x ∷ xs) a = names_new xs a

-- ---- the invariant

-- the output's axes are stored, and `last` names only such rotations
pub record Sound (p : Pass) : Type 0 where
  pub ids : AllIn (length p.store.axes) (without_angles p.out)
  pub names : (a j : ℕ) → p.last a ≡ at j → Names (without_angles p.out) a j

-- the store grows, nothing else
grown : (p q : Pass) → Sound p → Grows p.store.axes q.store.axes → without_angles q.out ≡ without_angles p.out
    → q.last ≡ p.last → Sound q
grown p q s g e f = record {
  ids = rw e (all_in_more _ _ (without_angles p.out) g.longer s.ids);
  names = λ a j h. rw e (s.names a j (sym (ap (λ (g : ℕ → Place). g a) f) ∙ h));
}

-- the same with `last` cleared for one axis
cleared : (p q : Pass) (a : ℕ) → Sound p → Grows p.store.axes q.store.axes → without_angles q.out ≡ without_angles p.out
    → q.last ≡ set_last a nowhere p.last
    → Sound q
unfolding set_last
cleared p q a s g e f = record {
  ids = rw e (all_in_more _ _ (without_angles p.out) g.longer s.ids);
  names = λ b j h. rw e (s.names b j (go b j (sym (ap (λ (g : ℕ → Place). g b) f) ∙ h)));
}
  where
    go : (b j : ℕ) → (when eqb b a then nowhere else p.last b) ≡ at j → p.last b ≡ at j
    go b j =
        on_if (λ (x : Place). x ≡ at j → p.last b ≡ at j) (eqb b a) nowhere (p.last b)
        (λ e h. let z : ◌≡◌ {A = ℕ} 0 1 = cc in absurd (omega arith))
        (λ e h. h)

-- ---- the steps

touch_axes : (l : ℕ) (t : Touched) (q : ℕ) → (touch l t q).store.axes ≡ t.store.axes
unfolding touch tested
touch_axes l t q = by_if (λ (x : Touched). x.store.axes ≡ t.store.axes) _ _ _ refl refl

touch_all_axes : (l : ℕ) (t : Touched) (qs : List ℕ) → (touch_all l t qs).store.axes ≡ t.store.axes
unfolding touch_all
touch_all_axes l t [] = refl
touch_all_axes l t (q ∷ qs) = touch_all_axes l (touch l t q) qs ∙ touch_axes l t q

-- sound again, and the output has the same shapes
pub record Kept (p q : Pass) : Type 0 where
  pub sound : Sound q
  pub shaped : without_angles q.out ≡ without_angles p.out
  pub grow : Grows p.store.axes q.store.axes

kept_refl : (p : Pass) → Sound p → Kept p p
kept_refl p s = record { sound = s; shaped = refl; grow = grows_refl _ }

kept_trans : (p q r : Pass) → Kept p q → (Sound q → Kept q r) → Kept p r
kept_trans p q r h g = let k = g h.sound in record { sound = k.sound; shaped = k.shaped ∙ h.shaped; grow = grows_trans h.grow k.grow }

module _ (l : ℕ) where
  -- absorbing stores no axis
  pub absorb_axes : (p : Pass) (a k : ℕ) → (absorb l p a k).store.axes ≡ p.store.axes
  unfolding absorb absorb_word
  absorb_axes p a k = touch_all_axes l _ _

  absorb_kept : (p : Pass) (a k : ℕ) → Sound p → Kept p (absorb l p a k)
  absorb_kept p a k s =
      record {
        sound = grown p (absorb l p a k) s (grows_eq (absorb_axes p a k)) out last;
        shaped = out;
        grow = grows_eq
            (absorb_axes p a k);
      }
    where
      out : without_angles (absorb l p a k).out ≡ without_angles p.out
      out = unfold absorb in refl

      last : (absorb l p a k).last ≡ p.last
      last = unfold absorb in refl

  -- place j, a rotation about a, becomes a zero
  leave_zero_kept : (p : Pass) (j a : ℕ) → Sound p → get_or (without_angles p.out) j outside ≡ rotation (rot a 0) → Kept p (leave_zero j a p)
  unfolding leave_zero set_angle with_last
  leave_zero_kept p j a s h =
      let e : without_angles (set p.out j (rotation (rot a 0))) ≡ without_angles p.out = without_angles_set p.out j (rotation (rot a 0)) h in
      record { sound = cleared p _ a s (grows_refl _) e refl; shaped = e; grow = grows_refl _ }

  -- and is absorbed first
  absorbed_kept : (p : Pass) (j a k : ℕ) → Sound p → get_or (without_angles p.out) j outside ≡ rotation (rot a 0)
      → Kept p (leave_zero j a (absorb l p a k))
  absorbed_kept p j a k s h =
      let b = absorb_kept p a k s in
      kept_trans p (absorb l p a k) _ b (λ t. leave_zero_kept (absorb l p a k) j a t (rw b.shaped h))

  absorb_waiting_at_kept : (picks : ℕ → Bool) (p : Pass) (j : ℕ) (i : Item) → Sound p → get_or (without_angles p.out) j outside ≡ without_angle i
      → Kept p (absorb_waiting_at l picks p j i)
  unfolding absorb_waiting_at
  absorb_waiting_at_kept picks p j (rotation r) s h =
      by_if (Kept p) _ _ _ (absorbed_kept p j r.axis r.angle s h) (kept_refl p s)
  absorb_waiting_at_kept picks p j (barrier o a t) s h = kept_refl p s

  absorb_waiting_kept : (picks : ℕ → Bool) (p : Pass) (j : ℕ) (is : List Item) → Sound p → drop j (without_angles p.out) ≡ without_angles is
      → Kept p (absorb_waiting l picks p j is)
  unfolding absorb_waiting
  absorb_waiting_kept picks p j [] s h = kept_refl p s
  absorb_waiting_kept picks p j (i ∷ is) s h =
      let d = drop_head (without_angles p.out) j (without_angle i) outside (without_angles is) (h ∙ without_angles_cons i is) in
      let k = absorb_waiting_at_kept picks p j i s d.0 in
      kept_trans p (absorb_waiting_at l picks p j i) _ k
      (λ t. absorb_waiting_kept picks (absorb_waiting_at l picks p j i) (suc j) is t (rw k.shaped d.1))

  absorb_all_waiting_kept : (m : Absorption) (p : Pass) → Sound p → Kept p (absorb_all_waiting l m p)
  unfolding absorb_all_waiting
  absorb_all_waiting_kept off p s = kept_refl p s
  absorb_all_waiting_kept at_once p s = kept_refl p s
  absorb_all_waiting_kept lazy p s = absorb_waiting_kept _ p 0 p.out s refl

  -- carrying keeps the state sound
  pub carry_axis_kept : (p : Pass) (a : ℕ) → Sound p → Kept p (carry_axis l p a)
  carry_axis_kept p a s = record { sound = grown p (carry_axis l p a) s grow out last; shaped = out; grow = grow }
    where
      grow : Grows p.store.axes (carry_axis l p a).store.axes
      grow = unfold carry_axis in (intern_grows l _ p.store _)

      out : without_angles (carry_axis l p a).out ≡ without_angles p.out
      out = unfold carry_axis in refl

      last : (carry_axis l p a).last ≡ p.last
      last = unfold carry_axis in refl

  absorb_blocking_kept : (p : Pass) (a : ℕ) → Sound p → Kept p (absorb_blocking l p a)
  unfolding absorb_blocking
  absorb_blocking_kept p a s =
      kept_trans p (carry_axis l p a) _ (carry_axis_kept p a s) (λ t. absorb_waiting_kept _ (carry_axis l p a) 0 (carry_axis l p a).out t refl)

  carry_rotation_kept : (m : Absorption) (p : Pass) (a : ℕ) → Sound p → Kept p (carry_rotation l m p a).pass
  unfolding carry_rotation
  carry_rotation_kept off p a s = carry_axis_kept p a s
  carry_rotation_kept at_once p a s = carry_axis_kept p a s
  carry_rotation_kept lazy p a s = kept_trans p (absorb_blocking l p a) _ (absorb_blocking_kept p a s) (carry_axis_kept (absorb_blocking l p a) a)

  -- ---- the carried axis has an id

  pub axis_image_carried : (p : Pass) (a : ℕ) → a < length p.store.axes → axis_image l (carry_axis l p a) a ≡ axis_image l p a
  unfolding axis_image carry_axis
  axis_image_carried p a h = rw ((intern_grows l _ p.store _).keeps a h) refl

  -- the carried axis has an id in range
  pub carried_id : (p : Pass) (a : ℕ) → a < length p.store.axes → image_id l (carry_axis l p a) a < length (carry_axis l p a).store.axes
  unfolding image_id
  carried_id p a h = rw (axis_image_carried p a h) (unfold carry_axis in (id_in l _ p.store _))

  carry_rotation_id : (m : Absorption) (p : Pass) (a : ℕ) → Sound p → a < length p.store.axes
      → (carry_rotation l m p a).axis < length (carry_rotation l m p a).pass.store.axes
  unfolding carry_rotation
  carry_rotation_id off p a s h = carried_id p a h
  carry_rotation_id at_once p a s h = carried_id p a h
  carry_rotation_id lazy p a s h = carried_id (absorb_blocking l p a) a (le_trans h (absorb_blocking_kept p a s).grow.longer)

-- ---- barriers

-- the barriers' operations, in order
unfoldable pub barriers_of : List Item → List ℕ
barriers_of [] = []
barriers_of (rotation r ∷ xs) = barriers_of xs
barriers_of (barrier o a s ∷ xs) = o ∷ barriers_of xs

-- those of two lists
pub barriers_of_append : (xs ys : List Item) → barriers_of (xs ++ ys) ≡ barriers_of xs ++ barriers_of ys
unfolding barriers_of
barriers_of_append [] ys = refl
barriers_of_append (rotation r ∷ xs) ys = barriers_of_append xs ys
barriers_of_append (barrier o a s ∷ xs) ys = ap (λ (r : List ℕ). o ∷ r) (barriers_of_append xs ys)

barriers_of_shapes : (xs : List Item) → barriers_of (without_angles xs) ≡ barriers_of xs
unfolding barriers_of without_angles
barriers_of_shapes [] = refl
barriers_of_shapes (rotation r ∷ xs) = barriers_of_shapes xs
barriers_of_shapes (barrier o a s ∷ xs) = ap (λ (r : List ℕ). o ∷ r) (barriers_of_shapes xs)

-- sound again, the store has grown, the barriers are those before and `more`
pub record Stepped (more : List ℕ) (p q : Pass) : Type 0 where
  pub sound : Sound q
  pub grow : Grows p.store.axes q.store.axes
  pub barriers : barriers_of q.out ≡ barriers_of p.out ++ more

kept_stepped : (p q : Pass) → Kept p q → Stepped [] p q
kept_stepped p q k = record {
  sound = k.sound;
  grow = k.grow;
  barriers = sym (barriers_of_shapes q.out) ∙ ap barriers_of k.shaped ∙ barriers_of_shapes p.out ∙ sym (append-nil (barriers_of p.out));
}

after_kept : (more : List ℕ) (p q r : Pass) → Kept p q → Stepped more q r → Stepped more p r
after_kept more p q r k t = record {
  sound = t.sound;
  grow = grows_trans k.grow t.grow;
  barriers =
      t.barriers ∙ ap (λ (x : List ℕ). x ++ more) (sym (barriers_of_shapes q.out) ∙ ap barriers_of k.shaped ∙ barriers_of_shapes p.out);
}

module _ (l : ℕ) where
  put_out_rotation_stepped : (p : Pass) (a k : ℕ) → Sound p → a < length p.store.axes → Stepped [] p (put_out_rotation p a k)
  unfolding put_out_rotation put_out with_last set_last
  put_out_rotation_stepped p a k s h = record {
    sound = record {
      ids = rw out (all_in_one _ (without_angles p.out) (rotation (rot a 0)) s.ids h);
      names =
          λ b j. on_if (λ (x : Place). x ≡ at j → Names (without_angles (p.out ++ (rotation (rot a k) ∷ []))) b j) (eqb b a)
          (at (length p.out)) (p.last b)
          (λ e f. new b j (eqb-true b a e) f) (λ e f. rw out (names_one (without_angles p.out) (rot a 0) b j (s.names b j f)));
    };
    grow = grows_refl _;
    barriers = barriers_of_append p.out (rotation (rot a k) ∷ []) ∙ unfold barriers_of in refl;
  }
    where
      out : without_angles (p.out ++ (rotation (rot a k) ∷ [])) ≡ without_angles p.out ++ (rotation (rot a 0) ∷ [])
      out = without_angles_append p.out (rotation (rot a k) ∷ []) ∙ unfold without_angles in refl

      new : (b j : ℕ) → b ≡ a → at (length p.out) ≡ at j → Names (without_angles (p.out ++ (rotation (rot a k) ∷ []))) b j
      new b j e f =
          let g : length (without_angles p.out) ≡ j = without_angles_length p.out ∙ (let x : length p.out ≡ j = cc in x) in
          rw (out, e, ← g) (names_new (without_angles p.out) a)

  merge_at_kept : (m : Absorption) (p : Pass) (j a k : ℕ) → Sound p → p.last a ≡ at j → Kept p (merge_at l m p j a k)
  unfolding merge_at
  merge_at_kept m p j a k s h =
      let own = (s.names a j h).0 in
      by_if (Kept p) _ _ _ (absorbed_kept l p j a k s own)
      (by_if (Kept p) _ _ _ (leave_zero_kept l p j a s own) (angled own))
    where
      angled : get_or (without_angles p.out) j outside ≡ rotation (rot a 0) → Kept p (set_angle j a k p)
      angled own =
          let e : without_angles (set_angle j a k p).out ≡ without_angles p.out = unfold set_angle in
          (without_angles_set p.out j (rotation (rot a k)) own) in
          record {
            sound = grown p (set_angle j a k p) s (unfold set_angle in (grows_refl _)) e (unfold set_angle in refl);
            shaped = e;
            grow = unfold set_angle in (grows_refl _);
          }

  count_merge_kept : (p : Pass) → Sound p → Kept p (count_merge p)
  unfolding count_merge
  count_merge_kept p s = record { sound = grown p (count_merge p) s (grows_refl _) refl refl; shaped = refl; grow = grows_refl _ }

  merge_or_put_out_stepped : (r : Rules) (p : Pass) (a k : ℕ) (pl : Place) → Sound p → a < length p.store.axes
      → ((j : ℕ) → pl ≡ at j → p.last a ≡ at j)
      → Stepped [] p (merge_or_put_out l r p a k pl)
  unfolding merge_or_put_out
  merge_or_put_out_stepped r p a k nowhere s h f = put_out_rotation_stepped p a k s h
  merge_or_put_out_stepped r p a k (at j) s h f =
      by_if (Stepped [] p) _ _ _
      (after_kept [] p (count_merge p) _ (count_merge_kept p s)
      (kept_stepped (count_merge p) _
      (merge_at_kept r.absorption (count_merge p) j a _ (count_merge_kept p s).sound (unfold count_merge in (f j refl)))))
      (put_out_rotation_stepped p a k s h)

  take_rotation_stepped : (r : Rules) (merging : Bool) (p : Pass) (a k : ℕ) → Sound p → a < length p.store.axes
      → Stepped [] p (take_rotation l r merging p a k)
  unfolding take_rotation
  take_rotation_stepped r merging p a k s h =
      by_if (Stepped [] p) _ _ _ (kept_stepped p (absorb l p a k) (absorb_kept l p a k s))
      (merge_or_put_out_stepped r p a k (when merging then p.last a else nowhere) s h
      (λ j. by_if (λ (x : Place). x ≡ at j → p.last a ≡ at j) merging (p.last a) nowhere (λ e. e)
      (λ e. let z : ◌≡◌ {A = ℕ} 0 1 = cc in absurd (omega arith))))

  barrier_stepped : (p : Pass) (o a s : ℕ) → Sound p → a < length p.store.axes
      → Stepped (o ∷ []) p (put_out (barrier o a s) (with_last cleared_last p))
  unfolding put_out with_last
  barrier_stepped p o a s t h = record {
    sound =
        record {
          ids = rw out (all_in_one _ (without_angles p.out) (barrier o a s) t.ids h);
          names = λ b j e. let z : ◌≡◌ {A = ℕ} 0 1 = cc in absurd (omega arith);
        };
    grow = grows_refl _;
    barriers = barriers_of_append p.out (barrier o a s ∷ []) ∙ unfold barriers_of in refl;
  }
    where
      out : without_angles (p.out ++ (barrier o a s ∷ [])) ≡ without_angles p.out ++ (barrier o a s ∷ [])
      out = without_angles_append p.out (barrier o a s ∷ []) ∙ unfold without_angles in refl

  -- an item keeps the state sound and adds its barrier
  pub stream_item_stepped : (r : Rules) (merging : Bool) (p : Pass) (i : Item) → Sound p → axis_of i < length p.store.axes
      → Stepped (barriers_of (i ∷ [])) p (stream_item l r merging p i)
  unfolding stream_item barriers_of
  stream_item_stepped r merging p (rotation t) s h =
      after_kept [] p (carry_rotation l r.absorption p t.axis).pass _ (carry_rotation_kept l r.absorption p t.axis s)
      (take_rotation_stepped r merging (carry_rotation l r.absorption p t.axis).pass _ _ (carry_rotation_kept l r.absorption p t.axis s).sound
      (carry_rotation_id l r.absorption p t.axis s h))
  stream_item_stepped r merging p (barrier o a t) s h =
      let k = absorb_all_waiting_kept l r.absorption p s in
      let q = absorb_all_waiting l r.absorption p in
      let c = carry_axis_kept l q a k.sound in
      after_kept (o ∷ []) p (carry_axis l q a) _ (kept_trans p q (carry_axis l q a) k (λ u. c))
      (barrier_stepped (carry_axis l q a) o _ _ c.sound (carried_id l q a (le_trans h k.grow.longer)))

  -- a stream keeps the state sound and puts out the barriers that it reads
  pub stream_stepped : (r : Rules) (merging : Bool) (p : Pass) (is : List Item) → Sound p → AllIn (length p.store.axes) is
      → Stepped (barriers_of is) p (stream l r merging p is)
  unfolding stream
  stream_stepped r merging p [] s h =
      unfold barriers_of in (kept_stepped p (absorb_all_waiting l r.absorption p) (absorb_all_waiting_kept l r.absorption p s))
  stream_stepped r merging p (i ∷ is) s h =
      let a = stream_item_stepped r merging p i s h.0 in
      let q = stream_item l r merging p i in
      let b = stream_stepped (rules_after r i) merging q is a.sound (all_in_more _ _ is a.grow.longer h.1) in
      record {
        sound = b.sound;
        grow = grows_trans a.grow b.grow;
        barriers =
            b.barriers ∙ ap (λ (x : List ℕ). x ++ barriers_of is) a.barriers ∙ append_assoc (barriers_of p.out) (barriers_of (i ∷ []))
            (barriers_of is)
            ∙ ap (λ (x : List ℕ). barriers_of p.out ++ x) (sym (barriers_of_append (i ∷ []) is));
      }

-- a pass begins sound
pub begin_sound : (s : Store) → Sound (begin s)
unfolding begin
begin_sound s = record { ids = unfold without_angles in tt; names = λ a j e. let z : ◌≡◌ {A = ℕ} 0 1 = cc in absurd (omega arith) }

barriers_of_drop_zeros : (is : List Item) → barriers_of (drop_zeros is) ≡ barriers_of is
unfolding drop_zeros keep when◌then◌else◌ barriers_of
barriers_of_drop_zeros [] = refl
barriers_of_drop_zeros (rotation r ∷ is) =
    by_if (λ (x : List Item). barriers_of x ≡ barriers_of is) (is_nonzero r) (rotation r ∷ keep stays is) (keep stays is) (barriers_of_drop_zeros is)
    (barriers_of_drop_zeros is)
barriers_of_drop_zeros (barrier o a s ∷ is) = ap (λ (x : List ℕ). o ∷ x) (barriers_of_drop_zeros is)

-- ---- a whole stream

-- a streaming pass keeps the barriers
pub stream_pass_barriers : (l : ℕ) (r : Rules) (merging : Bool) (w : Work) → AllIn (length w.store.axes) w.items
    → barriers_of (stream_pass l r merging w).items ≡ barriers_of w.items
unfolding stream_pass
stream_pass_barriers l r merging w h =
    barriers_of_drop_zeros _ ∙ (stream_stepped l r merging (begin w.store) w.items (begin_sound w.store) (unfold begin in h)).barriers
    ∙ unfold begin barriers_of in refl

all_in_shapes : (m : ℕ) (xs : List Item) → AllIn m (without_angles xs) → AllIn m xs
unfolding without_angles
all_in_shapes m [] h = tt
all_in_shapes m (rotation r ∷ xs) h = (h.0, all_in_shapes m xs h.1)
all_in_shapes m (barrier o a s ∷ xs) h = (h.0, all_in_shapes m xs h.1)

all_in_keep : (m : ℕ) (f : Item → Bool) (xs : List Item) → AllIn m xs → AllIn m (keep f xs)
unfolding keep
all_in_keep m f [] h = tt
all_in_keep m f (x ∷ xs) h = by_if (AllIn m) _ _ _ (h.0, all_in_keep m f xs h.1) (all_in_keep m f xs h.1)

module _ (l : ℕ) where
  carry_axis_grows : (p : Pass) (a : ℕ) → Grows p.store.axes (carry_axis l p a).store.axes
  unfolding carry_axis
  carry_axis_grows p a = intern_grows l _ p.store _

  carry_rows_from_grows : (p : Pass) (done rows : List SignedAxis) → Grows p.store.axes (carry_rows_from l p done rows).pass.store.axes
  unfolding carry_rows_from
  carry_rows_from_grows p done [] = grows_refl _
  carry_rows_from_grows p done (f ∷ rest) = grows_trans (carry_axis_grows p f.axis) (carry_rows_from_grows (carry_axis l p f.axis) _ rest)

  carry_rows_grows : (p : Pass) (rows : List SignedAxis) → Grows p.store.axes (carry_rows l p rows).pass.store.axes
  unfolding carry_rows
  carry_rows_grows p rows =
      by_if (λ (x : Rowed). Grows p.store.axes x.pass.store.axes) _ _ _ (grows_refl _) (carry_rows_from_grows p [] rows)

-- the work's axes are in range
abbrev pub InRange : Work → Type 0
InRange w = AllIn (length w.store.axes) w.items

-- and leaves stored axes only
pub stream_pass_range : (l : ℕ) (r : Rules) (merging : Bool) (w : Work) → InRange w → InRange (stream_pass l r merging w)
unfolding stream_pass drop_zeros
stream_pass_range l r merging w h =
    let q = stream l r merging (begin w.store) w.items in
    let t = stream_stepped l r merging (begin w.store) w.items (begin_sound w.store) (unfold begin in h) in
    all_in_more _ _ (keep stays q.out) (carry_rows_grows l q w.rows).longer
    (all_in_keep _ stays q.out (all_in_shapes _ q.out t.sound.ids))
