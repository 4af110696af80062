-- A word that commutes with every item of a stream is not moved by what the stream absorbs. Assumes nothing.
use Rattle.std.specs.Prelude.{◌≡◌, Bool, ◌&&◌, ℕ, suc, ◌≤◌, ◌<◌, length}
use Rattle.std.proofs.Math.Path.{refl, ap}
use Rattle.std.proofs.Common.{sym, ◌∙◌, le_trans, arith}
use mathlib.Core.List.{List, [], ◌∷◌}
use Rattle.pauli.specs.Word.{IsWord, symplectic}
use Rattle.pauli.specs.ProductLaws.{symplectic_comm}
use Rattle.model.specs.Lists.{is_even}
use Rattle.model.specs.declared.Absorption.{Absorption}
use Rattle.model.specs.declared.Absorption.TheVariants.{Off as off, AtOnce as at_once, Lazy as lazy}
use Rattle.model.specs.Rules.{is_at_once, Rules}
use Rattle.model.specs.Words.{Value, as_value, word_of, Store}
use Rattle.model.specs.Clifford.{absorb_image, word_image}
use Rattle.model.specs.Items.{rot, Item, rotation, barrier, is_clifford}
use Rattle.model.specs.Stream.{Place, nowhere, at, Pass, with_last, count_merge, set_angle, put_out, leave_zero, axis_image}
use Rattle.model.specs.Stream.{image_id, carry_axis, absorb, absorb_waiting_at, absorb_waiting, absorb_all_waiting, absorb_blocking, carry_rotation}
use Rattle.model.specs.Stream.{merge_at}
use Rattle.model.specs.Stream.{put_out_rotation, merge_or_put_out, take_rotation, rules_after, stream_item, stream, begin}
use Rattle.theory.specs.Cases.{by_if, on_if, and_left, and_right}
use Rattle.theory.specs.Every.{Every, every_one, every_set, every_weaken}
use Rattle.theory.specs.Ids.{id_word, Grows, grows_refl, grows_trans, grows_eq, intern_grows}
use Rattle.theory.specs.StreamState.{axis_of, absorb_axes, carried_id}
use Rattle.words_wellformed.specs.StoredWords.{StoredWords, intern_stored}
use Rattle.words_wellformed.specs.HeldImages.{IsQuarters, HeldImages, none_held, absorb_image_commuting, absorb_word_images, word_image_signed}
use Rattle.words_wellformed.specs.Carrying.{word_image_absorbed, word_image_none, word_image_symplectic}
use Rattle.words_wellformed.specs.PassWords.{rules_behind, after_items, stream_after}
use Rattle.words_wellformed.specs.RunWords.{TurnsItem}
use Rattle.run_wellformed.specs.CliffordAngles.{SmallItem, CliffordAngle, two, four, six, even_angle, clifford_angle}
use Rattle.run_wellformed.specs.CliffordAngles.{with_sign_turns}

-- an angle that F takes in
quarters : {k : ℕ} → CliffordAngle k → IsQuarters k
quarters two = record { even = refl; some = omega arith; small = omega arith }
quarters four = record { even = refl; some = omega arith; small = omega arith }
quarters six = record { even = refl; some = omega arith; small = omega arith }

module _ (l : ℕ) (v : List ℕ) where
  -- the axis with id a is there, and commutes with v
  abbrev pub FreeAxis : List (List ℕ) → ℕ → Type 0
  FreeAxis axes a = (a < length axes) × (symplectic l v (word_of axes a) ≡ 0)

  -- so for an item's axis
  abbrev pub FreeItem : List (List ℕ) → Item → Type 0
  FreeItem axes i = FreeAxis axes (axis_of i)

  -- what a stream is given
  abbrev pub FreeTurn : List (List ℕ) → Item → Type 0
  FreeTurn axes i = FreeItem axes i × TurnsItem i

  -- what it puts out
  abbrev pub FreePut : List (List ℕ) → Item → Type 0
  FreePut axes i = FreeItem axes i × SmallItem i

  -- more axes
  pub free_more : {xs ys : List (List ℕ)} → Grows xs ys → (a : ℕ) → FreeAxis xs a → FreeAxis ys a
  free_more g a h = (le_trans h.0 g.longer, ap (symplectic l v) (g.keeps a h.0) ∙ h.1)

  put_more : {xs ys : List (List ℕ)} → Grows xs ys → (i : Item) → FreePut xs i → FreePut ys i
  put_more g i h = (free_more g (axis_of i) h.0, h.1)

  turn_more : {xs ys : List (List ℕ)} → Grows xs ys → (i : Item) → FreeTurn xs i → FreeTurn ys i
  turn_more g i h = (free_more g (axis_of i) h.0, h.1)

  -- F leaves v as it is, and what was put out commutes with v
  pub record Unmoved (p : Pass) : Type 0 where
    pub stored : StoredWords l p.store.axes
    pub images : HeldImages l (Unit {0}) p.held
    pub same : word_image l p.held v ≡ as_value v
    pub output : Every (FreePut p.store.axes) p.out

  -- so it is again, and no axis is lost
  pub record StaysUnmoved (p q : Pass) : Type 0 where
    pub unmoved : Unmoved q
    pub grow : Grows p.store.axes q.store.axes

  module _ (word : IsWord l v) where
    stays_refl : (p : Pass) → Unmoved p → StaysUnmoved p p
    stays_refl p u = record { unmoved = u; grow = grows_refl _ }

    stays_trans : (p q r : Pass) → StaysUnmoved p q → (Unmoved q → StaysUnmoved q r) → StaysUnmoved p r
    stays_trans p q r h g = let k = g h.unmoved in record { unmoved = k.unmoved; grow = grows_trans h.grow k.grow }

    -- the same store and images, another output
    re_output : (p q : Pass) → Unmoved p → q.store ≡ p.store → q.held ≡ p.held → Every (FreePut p.store.axes) q.out → StaysUnmoved p q
    re_output p q u e f h = record {
      unmoved = record { stored = rw e u.stored; images = rw f u.images; same = rw f u.same; output = rw e h };
      grow = rw e (grows_refl _);
    }

    -- ---- carrying: v is its own image, and images commute as the words do

    image_free : (p : Pass) (a : ℕ) → Unmoved p → FreeAxis p.store.axes a → symplectic l v (axis_image l p a).word ≡ 0
    unfolding axis_image
    image_free p a u h =
        let w = word_of p.store.axes a in
        ap (λ (x : Value). symplectic l x.word (word_image l p.held w).word) (sym u.same)
        ∙ word_image_symplectic l (Unit {0}) p.held u.images v w word (u.stored.words a h.0) ∙ h.1

    carry_axis_stays : (p : Pass) (a : ℕ) → Unmoved p → StaysUnmoved p (carry_axis l p a)
    unfolding carry_axis
    carry_axis_stays p a u =
        let grow = intern_grows l _ p.store (axis_image l p a).word in
        record {
          unmoved = record {
            stored = intern_stored l _ p.store _ u.stored
                (unfold axis_image in (word_image_signed l (Unit {0}) p.held u.images (word_of p.store.axes a)).word);
            images = u.images;
            same = u.same;
            output = every_weaken (FreePut p.store.axes) _ (put_more grow) p.out u.output;
          };
          grow = grow;
        }

    -- the image's axis commutes with v too
    carried_free : (p : Pass) (a : ℕ) → Unmoved p → FreeAxis p.store.axes a
        → FreeAxis (carry_axis l p a).store.axes (image_id l (carry_axis l p a) a)
    carried_free p a u h =
        let q = carry_axis l p a in
        let g = carry_axis_stays p a u in
        let b = carried_id l p a h.0 in
        let e : word_of q.store.axes (image_id l q a) ≡ (axis_image l q a).word =
        unfold image_id in (id_word q.store.axes (axis_image l q a).word b) in
        (b, ap (symplectic l v) e ∙ image_free q a g.unmoved (free_more g.grow a h))

    -- ---- absorbing an axis that commutes with v

    absorb_stays : (p : Pass) (a k : ℕ) → Unmoved p → FreeAxis p.store.axes a → CliffordAngle k → StaysUnmoved p (absorb l p a k)
    absorb_stays p a k u h c =
        let b = word_of p.store.axes a in
        record {
          unmoved = record {
            stored = rw (absorb_axes l p a k) u.stored;
            images = unfold absorb in (absorb_word_images l (Unit {0}) (record { store = p.store; held = p.held }) b k
                (u.stored.words a h.0) (λ t. quarters c) u.images);
            same = unfold absorb in (word_image_absorbed l (Unit {0}) (record { store = p.store; held = p.held }) u.images b k
                (u.stored.words a h.0) (quarters c) v
                ∙ ap (absorb_image l b k) u.same ∙ absorb_image_commuting l b k (as_value v) (symplectic_comm l b v ∙ h.1));
            output = rw (absorb_axes l p a k) (unfold absorb in u.output);
          };
          grow = grows_eq (absorb_axes l p a k);
        }

    leave_zero_stays : (p : Pass) (j a : ℕ) → Unmoved p → FreeAxis p.store.axes a → StaysUnmoved p (leave_zero j a p)
    leave_zero_stays p j a u h =
        re_output p (leave_zero j a p) u (unfold leave_zero set_angle with_last in refl) (unfold leave_zero set_angle with_last in refl)
        (unfold leave_zero set_angle with_last in (every_set (FreePut p.store.axes) p.out j (rotation (rot a 0)) u.output (h, omega arith)))

    absorbed_stays : (p : Pass) (j a k : ℕ) → Unmoved p → FreeAxis p.store.axes a → CliffordAngle k
        → StaysUnmoved p (leave_zero j a (absorb l p a k))
    absorbed_stays p j a k u h c =
        let g = absorb_stays p a k u h c in
        stays_trans p (absorb l p a k) _ g (λ t. leave_zero_stays (absorb l p a k) j a t (free_more g.grow a h))

    absorb_waiting_at_stays : (picks : ℕ → Bool) (p : Pass) (j : ℕ) (i : Item) → Unmoved p → FreePut p.store.axes i
        → StaysUnmoved p (absorb_waiting_at l picks p j i)
    unfolding absorb_waiting_at
    absorb_waiting_at_stays picks p j (rotation r) u h =
        on_if (StaysUnmoved p) (is_clifford r.angle && picks r.axis) _ _
        (λ e. absorbed_stays p j r.axis r.angle u h.0
        (clifford_angle r.angle h.1 (and_left (is_clifford r.angle) (picks r.axis) e)))
        (λ e. stays_refl p u)
    absorb_waiting_at_stays picks p j (barrier o a s) u h = stays_refl p u

    absorb_waiting_stays : (picks : ℕ → Bool) (p : Pass) (j : ℕ) (is : List Item) → Unmoved p → Every (FreePut p.store.axes) is
        → StaysUnmoved p (absorb_waiting l picks p j is)
    unfolding absorb_waiting
    absorb_waiting_stays picks p j [] u h = stays_refl p u
    absorb_waiting_stays picks p j (i ∷ is) u h =
        let q = absorb_waiting_at l picks p j i in
        let g = absorb_waiting_at_stays picks p j i u h.0 in
        stays_trans p q _ g (λ t. absorb_waiting_stays picks q (suc j) is t
        (every_weaken (FreePut p.store.axes) (FreePut q.store.axes) (put_more g.grow) is h.1))

    -- all that wait are absorbed
    pub absorb_all_waiting_stays : (m : Absorption) (p : Pass) → Unmoved p → StaysUnmoved p (absorb_all_waiting l m p)
    unfolding absorb_all_waiting
    absorb_all_waiting_stays off p u = stays_refl p u
    absorb_all_waiting_stays at_once p u = stays_refl p u
    absorb_all_waiting_stays lazy p u = absorb_waiting_stays _ p 0 p.out u u.output

    absorb_blocking_stays : (p : Pass) (a : ℕ) → Unmoved p → StaysUnmoved p (absorb_blocking l p a)
    unfolding absorb_blocking
    absorb_blocking_stays p a u =
        let q = carry_axis l p a in
        stays_trans p q _ (carry_axis_stays p a u) (λ t. absorb_waiting_stays _ q 0 q.out t t.output)

    carry_rotation_stays : (m : Absorption) (p : Pass) (a : ℕ) → Unmoved p → StaysUnmoved p (carry_rotation l m p a).pass
    unfolding carry_rotation
    carry_rotation_stays off p a u = carry_axis_stays p a u
    carry_rotation_stays at_once p a u = carry_axis_stays p a u
    carry_rotation_stays lazy p a u = stays_trans p (absorb_blocking l p a) _ (absorb_blocking_stays p a u) (carry_axis_stays (absorb_blocking l p a) a)

    carry_rotation_free : (m : Absorption) (p : Pass) (a : ℕ) → Unmoved p → FreeAxis p.store.axes a
        → FreeAxis (carry_rotation l m p a).pass.store.axes (carry_rotation l m p a).axis
    unfolding carry_rotation
    carry_rotation_free off p a u h = carried_free p a u h
    carry_rotation_free at_once p a u h = carried_free p a u h
    carry_rotation_free lazy p a u h =
        let g = absorb_blocking_stays p a u in
        carried_free (absorb_blocking l p a) a g.unmoved (free_more g.grow a h)

    -- ---- a rotation, carried

    merge_at_stays : (m : Absorption) (p : Pass) (j a k : ℕ) → Unmoved p → FreeAxis p.store.axes a → k ≤ 7
        → StaysUnmoved p (merge_at l m p j a k)
    unfolding merge_at
    merge_at_stays m p j a k u h small =
        on_if (StaysUnmoved p) (is_at_once m && is_clifford k) _ _
        (λ e. absorbed_stays p j a k u h (clifford_angle k small (and_right (is_at_once m) (is_clifford k) e)))
        (λ e. by_if (StaysUnmoved p) _ _ _ (leave_zero_stays p j a u h)
        (re_output p (set_angle j a k p) u (unfold set_angle in refl) (unfold set_angle in refl)
        (unfold set_angle in (every_set (FreePut p.store.axes) p.out j (rotation (rot a k)) u.output (h, small)))))

    put_out_rotation_stays : (p : Pass) (a k : ℕ) → Unmoved p → FreeAxis p.store.axes a → k ≤ 7 → StaysUnmoved p (put_out_rotation p a k)
    unfolding put_out_rotation put_out with_last
    put_out_rotation_stays p a k u h small =
        re_output p _ u refl refl (every_one (FreePut p.store.axes) p.out (rotation (rot a k)) u.output (h, small))

    merge_or_put_out_stays : (r : Rules) (p : Pass) (a k : ℕ) (place : Place) → Unmoved p → FreeAxis p.store.axes a → k ≤ 7
        → StaysUnmoved p (merge_or_put_out l r p a k place)
    unfolding merge_or_put_out
    merge_or_put_out_stays r p a k nowhere u h small = put_out_rotation_stays p a k u h small
    merge_or_put_out_stays r p a k (at j) u h small =
        by_if (StaysUnmoved p) _ _ _
        (stays_trans p (count_merge p) _ counted (λ t. merge_at_stays r.absorption (count_merge p) j a _ t (unfold count_merge in h) (omega arith)))
        (put_out_rotation_stays p a k u h small)
      where
        counted : StaysUnmoved p (count_merge p)
        counted = unfold count_merge in (re_output p _ u refl refl u.output)

    take_rotation_stays : (r : Rules) (merging : Bool) (p : Pass) (a k : ℕ) → Unmoved p → FreeAxis p.store.axes a → 0 < k → k ≤ 7
        → StaysUnmoved p (take_rotation l r merging p a k)
    unfolding take_rotation
    take_rotation_stays r merging p a k u h some small =
        on_if (StaysUnmoved p) (is_at_once r.absorption && is_even k) _ _
        (λ e. absorb_stays p a k u h (even_angle k some small (and_right (is_at_once r.absorption) (is_even k) e)))
        (λ e. merge_or_put_out_stays r p a k _ u h small)

    -- ---- the stream

    -- an item that commutes with v
    pub stream_item_stays : (r : Rules) (merging : Bool) (p : Pass) (i : Item) → Unmoved p → FreeTurn p.store.axes i
        → StaysUnmoved p (stream_item l r merging p i)
    unfolding stream_item
    stream_item_stays r merging p (rotation t) u h =
        let c = carry_rotation l r.absorption p t.axis in
        let k = with_sign_turns c.turns t.angle h.1.0 h.1.1 in
        stays_trans p c.pass _ (carry_rotation_stays r.absorption p t.axis u)
        (λ w. take_rotation_stays r merging c.pass _ _ w (carry_rotation_free r.absorption p t.axis u h.0) k.0 k.1)
    stream_item_stays r merging p (barrier o a s) u h =
        let q = absorb_all_waiting l r.absorption p in
        let first = absorb_all_waiting_stays r.absorption p u in
        let c = carry_axis l q a in
        stays_trans p c _ (stays_trans p q c first (carry_axis_stays q a)) (λ t. unfold put_out with_last in (re_output c _ t refl refl
        (every_one (FreePut c.store.axes) c.out _ t.output
        (carried_free q a first.unmoved (free_more first.grow a h.0), omega arith))))

    -- any items that commute with v
    pub after_items_stays : (r : Rules) (merging : Bool) (p : Pass) (is : List Item) → Unmoved p → Every (FreeTurn p.store.axes) is
        → StaysUnmoved p (after_items l r merging p is)
    unfolding after_items
    after_items_stays r merging p [] u h = stays_refl p u
    after_items_stays r merging p (i ∷ is) u h =
        let q = stream_item l r merging p i in
        let g = stream_item_stays r merging p i u h.0 in
        stays_trans p q _ g (λ t. after_items_stays (rules_after r i) merging q is t
        (every_weaken (FreeTurn p.store.axes) (FreeTurn q.store.axes) (turn_more g.grow) is h.1))

    -- and at the end of the stream
    pub stream_stays : (r : Rules) (merging : Bool) (p : Pass) (is : List Item) → Unmoved p → Every (FreeTurn p.store.axes) is
        → StaysUnmoved p (stream l r merging p is)
    stream_stays r merging p is u h =
        let q = after_items l r merging p is in
        rw (stream_after l r merging p is) (stays_trans p q _ (after_items_stays r merging p is u h)
        (absorb_all_waiting_stays (rules_behind r is).absorption q))

    -- F begins with nothing
    pub begin_unmoved : (st : Store) → StoredWords l st.axes → Unmoved (begin st)
    unfolding begin
    begin_unmoved st h = record { stored = h; images = none_held l (Unit {0}); same = word_image_none l v word; output = tt }
