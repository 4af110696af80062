-- A stream keeps its axes words, each stored once, its images words with signs, and the ids and signs of what it puts out. Assumes nothing.
use Rattle.std.specs.Prelude.{◌≡◌, Bool, true, false, not, ◌&&◌, ℕ, suc, ◌+◌, ◌%◌, ◌≤◌, ◌<◌, eqb, length}
use Rattle.std.proofs.Math.Path.{refl}
use Rattle.std.proofs.lemmas.Bool.{false≢true, eqb-false}
use mathlib.Core.List.{List, [], ◌∷◌, ◌++◌}
use Rattle.std.proofs.Common.{le_refl, le_trans, arith}
use Rattle.model.specs.Lists.{is_even, is_odd}
use Rattle.model.specs.declared.Absorption.{Absorption}
use Rattle.model.specs.declared.Absorption.TheVariants.{Off as off, AtOnce as at_once, Lazy as lazy}
use Rattle.model.specs.Rules.{is_at_once, Rules}
use Rattle.model.specs.Words.{word_of, Store}
use Rattle.model.specs.Packing.{SignedAxis}
use Rattle.model.specs.Items.{rot, Item, rotation, barrier, with_sign, is_clifford}
use Rattle.model.specs.Stream.{Place, nowhere, at, Pass, with_last, count_merge, set_angle, put_out, leave_zero, Rowed, axis_image}
use Rattle.model.specs.Stream.{image_id, carry_axis, absorb, absorb_waiting_at, absorb_waiting, absorb_all_waiting, absorb_blocking, carry_rotation}
use Rattle.model.specs.Stream.{merge_at}
use Rattle.model.specs.Stream.{put_out_rotation, merge_or_put_out, take_rotation, rules_after, stream_item, stream, carry_rows_from, carry_rows, begin}
use Rattle.theory.specs.Cases.{by_if, on_if}
use Rattle.theory.specs.Every.{Every, every_one, every_set, every_weaken}
use Rattle.theory.specs.Ids.{intern_grows}
use Rattle.theory.specs.StreamState.{absorb_axes, carried_id}
use Rattle.words_wellformed.specs.StoredWords.{StoredWords, intern_stored}
use Rattle.words_wellformed.specs.HeldImages.{IsSign, sign_add, IsQuarters, SignedWord, HeldImages, none_held, absorb_word_images}
use Rattle.words_wellformed.specs.HeldImages.{word_image_signed}

-- ---- items and rows, where there are m axes

-- what a stream puts out; a zero is not yet removed
abbrev pub WellPut : Type 0 → ℕ → Item → Type 0
WellPut Angles m (rotation r) = (r.axis < m) × (Angles → r.angle ≤ 7)
WellPut Angles m (barrier o a s) = (a < m) × (Angles → IsSign s)

-- what a stream is given: no angle is 0
abbrev pub WellItem : Type 0 → ℕ → Item → Type 0
WellItem Angles m (rotation r) = (r.axis < m) × (Angles → (0 < r.angle) × (r.angle ≤ 7))
WellItem Angles m (barrier o a s) = (a < m) × (Angles → IsSign s)

-- a frame row's axis
abbrev pub WellRow : Type 0 → ℕ → SignedAxis → Type 0
WellRow Angles m f = (f.axis < m) × (Angles → IsSign f.sign)

-- more axes
put_more : (Angles : Type 0) (m k : ℕ) → m ≤ k → (i : Item) → WellPut Angles m i → WellPut Angles k i
put_more Angles m k h (rotation r) w = (le_trans w.0 h, w.1)
put_more Angles m k h (barrier o a s) w = (le_trans w.0 h, w.1)

item_more : (Angles : Type 0) (m k : ℕ) → m ≤ k → (i : Item) → WellItem Angles m i → WellItem Angles k i
item_more Angles m k h (rotation r) w = (le_trans w.0 h, w.1)
item_more Angles m k h (barrier o a s) w = (le_trans w.0 h, w.1)

-- of a whole list
pub items_more : (Angles : Type 0) (m k : ℕ) (is : List Item) → m ≤ k → Every (WellItem Angles m) is → Every (WellItem Angles k) is
items_more Angles m k is h = every_weaken (WellItem Angles m) (WellItem Angles k) (item_more Angles m k h) is

pub rows_more : (Angles : Type 0) (m k : ℕ) (rows : List SignedAxis) → m ≤ k → Every (WellRow Angles m) rows → Every (WellRow Angles k) rows
rows_more Angles m k rows h = every_weaken (WellRow Angles m) (WellRow Angles k) (λ f w. (le_trans w.0 h, w.1)) rows

-- ---- angles

-- a sign taken into an angle
with_sign_item : (sign k : ℕ) → (0 < k) × (k ≤ 7) → (0 < with_sign sign k) × (with_sign sign k ≤ 7)
unfolding with_sign
with_sign_item sign k h = by_if (λ (x : ℕ). (0 < x) × (x ≤ 7)) _ _ _ h (omega arith, omega arith)

not_odd : (k : ℕ) → is_even k ≡ true → k % 2 ≡ 0
not_odd k h = go (is_odd k) refl h
  where
    go : (t : Bool) → is_odd k ≡ t → not t ≡ true → k % 2 ≡ 0
    go true e f = absurd (false≢true f)
    go false e f = let n : k % 2 ≡ 1 → ⊥ = eqb-false (k % 2) 1 e in omega arith

both_true : (x y : Bool) → (x && y) ≡ true → (x ≡ true) × (y ≡ true)
both_true true y h = (refl, h)
both_true false y h = absurd (false≢true h)

clifford_quarters : (k : ℕ) → is_clifford k ≡ true → k ≤ 7 → IsQuarters k
clifford_quarters k h b =
    let t = both_true (is_even k) (not (eqb k 0)) h in
    record { even = not_odd k t.0; some = nonzero (eqb k 0) refl t.1; small = b }
  where
    nonzero : (t : Bool) → eqb k 0 ≡ t → not t ≡ true → 0 < k
    nonzero true e f = absurd (false≢true f)
    nonzero false e f = let n : k ≡ 0 → ⊥ = eqb-false k 0 e in omega arith

-- ---- a pass

-- the rules behind some items
unfoldable pub rules_behind : Rules → List Item → Rules
rules_behind r [] = r
rules_behind r (i ∷ is) = rules_behind (rules_after r i) is

-- the stream's state after some items
unfoldable pub after_items : ℕ → Rules → Bool → Pass → List Item → Pass
after_items l r merging p [] = p
after_items l r merging p (i ∷ is) = after_items l (rules_after r i) merging (stream_item l r merging p i) is

-- after all of them, what still waits is absorbed
pub stream_after : (l : ℕ) (r : Rules) (merging : Bool) (p : Pass) (is : List Item)
    → stream l r merging p is ≡ absorb_all_waiting l (rules_behind r is).absorption (after_items l r merging p is)
unfolding stream rules_behind after_items
stream_after l r merging p [] = refl
stream_after l r merging p (i ∷ is) = stream_after l (rules_after r i) merging (stream_item l r merging p i) is

-- axes are words, each stored once; images are words with signs; the output's ids are in range
pub record WellPass (l : ℕ) (Angles : Type 0) (p : Pass) : Type 0 where
  pub stored : StoredWords l p.store.axes
  pub images : HeldImages l Angles p.held
  pub output : Every (WellPut Angles (length p.store.axes)) p.out

-- it is well again, and no axis is lost
pub record Continues (l : ℕ) (Angles : Type 0) (p q : Pass) : Type 0 where
  pub well : WellPass l Angles q
  pub longer : length p.store.axes ≤ length q.store.axes

module _ (l : ℕ) (Angles : Type 0) where
  abbrev Well : Pass → Type 0
  Well = WellPass l Angles

  abbrev Goes : Pass → Pass → Type 0
  Goes = Continues l Angles

  goes_refl : (p : Pass) → Well p → Goes p p
  goes_refl p w = record { well = w; longer = le_refl _ }

  goes_trans : (p q r : Pass) → Goes p q → (Well q → Goes q r) → Goes p r
  goes_trans p q r h g = let k = g h.well in record { well = k.well; longer = le_trans h.longer k.longer }

  -- the same store and images, another output
  re_output : (p q : Pass) → Well p → q.store ≡ p.store → q.held ≡ p.held → Every (WellPut Angles (length p.store.axes)) q.out
      → Goes p q
  re_output p q w e f h = record {
    well = record {
      stored = rw e w.stored;
      images = rw f w.images;
      output = rw e h;
    };
    longer = rw e (le_refl _);
  }

  -- a carried axis's image is a word with a sign
  pub axis_image_signed : (p : Pass) (a : ℕ) → Well p → SignedWord l Angles (axis_image l p a)
  unfolding axis_image
  axis_image_signed p a w = word_image_signed l Angles p.held w.images (word_of p.store.axes a)

  -- the image is stored
  pub carry_axis_well : (p : Pass) (a : ℕ) → Well p → Goes p (carry_axis l p a)
  unfolding carry_axis
  carry_axis_well p a w =
      let longer = (intern_grows l _ p.store (axis_image l p a).word).longer in
      record {
        well = record {
          stored = intern_stored l _ p.store _ w.stored (axis_image_signed p a w).word;
          images = w.images;
          output = every_weaken (WellPut Angles (length p.store.axes)) _ (put_more Angles _ _ longer) p.out w.output;
        };
        longer = longer;
      }

  -- F takes in an axis by an angle of 2, 4 or 6
  pub absorb_well : (p : Pass) (a k : ℕ) → Well p → a < length p.store.axes → (Angles → IsQuarters k) → Goes p (absorb l p a k)
  absorb_well p a k w h quarters = record {
    well = record {
      stored = rw (absorb_axes l p a k) w.stored;
      images = unfold absorb in (absorb_word_images l Angles (record { store = p.store; held = p.held }) (word_of p.store.axes a) k
          (w.stored.words a h) quarters w.images);
      output = rw (absorb_axes l p a k) (unfold absorb in w.output);
    };
    longer = rw (absorb_axes l p a k) (le_refl _);
  }

  -- place j becomes a zero
  leave_zero_well : (p : Pass) (j a : ℕ) → Well p → a < length p.store.axes → Goes p (leave_zero j a p)
  leave_zero_well p j a w h =
      re_output p (leave_zero j a p) w (unfold leave_zero set_angle with_last in refl) (unfold leave_zero set_angle with_last in refl)
      (unfold leave_zero set_angle with_last in (every_set (WellPut Angles (length p.store.axes)) p.out j (rotation (rot a 0)) w.output
      (h, λ g. omega arith)))

  -- and is absorbed first
  absorbed_well : (p : Pass) (j a k : ℕ) → Well p → a < length p.store.axes → (Angles → IsQuarters k) → Goes p (leave_zero j a (absorb l p a k))
  absorbed_well p j a k w h quarters =
      goes_trans p (absorb l p a k) _ (absorb_well p a k w h quarters) (λ v. leave_zero_well (absorb l p a k) j a v (rw (absorb_axes l p a k) h))

  -- one item of the output
  pub absorb_waiting_at_well : (picks : ℕ → Bool) (p : Pass) (j : ℕ) (i : Item) → Well p → WellPut Angles (length p.store.axes) i
      → Goes p (absorb_waiting_at l picks p j i)
  unfolding absorb_waiting_at
  absorb_waiting_at_well picks p j (rotation r) w h =
      on_if (Goes p) (is_clifford r.angle && picks r.axis) _ _
      (λ e. absorbed_well p j r.axis r.angle w h.0
      (λ g. clifford_quarters r.angle (both_true (is_clifford r.angle) (picks r.axis) e).0 (h.1 g)))
      (λ e. goes_refl p w)
  absorb_waiting_at_well picks p j (barrier o a s) w h = goes_refl p w

  absorb_waiting_well : (picks : ℕ → Bool) (p : Pass) (j : ℕ) (is : List Item) → Well p → Every (WellPut Angles (length p.store.axes)) is
      → Goes p (absorb_waiting l picks p j is)
  unfolding absorb_waiting
  absorb_waiting_well picks p j [] w h = goes_refl p w
  absorb_waiting_well picks p j (i ∷ is) w h =
      let q = absorb_waiting_at l picks p j i in
      let g = absorb_waiting_at_well picks p j i w h.0 in
      goes_trans p q _ g (λ v. absorb_waiting_well picks q (suc j) is v
      (every_weaken (WellPut Angles (length p.store.axes)) (WellPut Angles (length q.store.axes))
      (put_more Angles _ _ g.longer) is h.1))

  -- "all are absorbed at a barrier or the end"
  pub absorb_all_waiting_well : (m : Absorption) (p : Pass) → Well p → Goes p (absorb_all_waiting l m p)
  unfolding absorb_all_waiting
  absorb_all_waiting_well off p w = goes_refl p w
  absorb_all_waiting_well at_once p w = goes_refl p w
  absorb_all_waiting_well lazy p w = absorb_waiting_well _ p 0 p.out w w.output

  -- those that anticommute with the next rotation
  pub absorb_blocking_well : (p : Pass) (a : ℕ) → Well p → Goes p (absorb_blocking l p a)
  unfolding absorb_blocking
  absorb_blocking_well p a w =
      let q = carry_axis l p a in
      goes_trans p q _ (carry_axis_well p a w) (λ v. absorb_waiting_well _ q 0 q.out v v.output)

  -- "and that rotation is carried again"
  pub carry_rotation_well : (m : Absorption) (p : Pass) (a : ℕ) → Well p → Goes p (carry_rotation l m p a).pass
  unfolding carry_rotation
  carry_rotation_well off p a w = carry_axis_well p a w
  carry_rotation_well at_once p a w = carry_axis_well p a w
  carry_rotation_well lazy p a w = goes_trans p (absorb_blocking l p a) _ (absorb_blocking_well p a w) (carry_axis_well (absorb_blocking l p a) a)

  -- the carried axis has an id
  carry_rotation_id : (m : Absorption) (p : Pass) (a : ℕ) → Well p → a < length p.store.axes
      → (carry_rotation l m p a).axis < length (carry_rotation l m p a).pass.store.axes
  unfolding carry_rotation
  carry_rotation_id off p a w h = carried_id l p a h
  carry_rotation_id at_once p a w h = carried_id l p a h
  carry_rotation_id lazy p a w h = carried_id l (absorb_blocking l p a) a (le_trans h (absorb_blocking_well p a w).longer)

  -- ---- a rotation, carried

  merge_at_well : (m : Absorption) (p : Pass) (j a k : ℕ) → Well p → a < length p.store.axes → k ≤ 7 → Goes p (merge_at l m p j a k)
  unfolding merge_at
  merge_at_well m p j a k w h small =
      on_if (Goes p) (is_at_once m && is_clifford k) _ _
      (λ e. absorbed_well p j a k w h (λ g. clifford_quarters k (both_true (is_at_once m) (is_clifford k) e).1 small))
      (λ e. by_if (Goes p) _ _ _ (leave_zero_well p j a w h)
      (re_output p (set_angle j a k p) w (unfold set_angle in refl) (unfold set_angle in refl)
      (unfold set_angle in (every_set (WellPut Angles (length p.store.axes)) p.out j (rotation (rot a k)) w.output (h, λ g. small)))))

  put_out_rotation_well : (p : Pass) (a k : ℕ) → Well p → a < length p.store.axes → (Angles → k ≤ 7) → Goes p (put_out_rotation p a k)
  unfolding put_out_rotation put_out with_last
  put_out_rotation_well p a k w h small =
      re_output p _ w refl refl (every_one (WellPut Angles (length p.store.axes)) p.out (rotation (rot a k)) w.output (h, small))

  merge_or_put_out_well : (r : Rules) (p : Pass) (a k : ℕ) (place : Place) → Well p → a < length p.store.axes → (Angles → k ≤ 7)
      → Goes p (merge_or_put_out l r p a k place)
  unfolding merge_or_put_out
  merge_or_put_out_well r p a k nowhere w h small = put_out_rotation_well p a k w h small
  merge_or_put_out_well r p a k (at j) w h small =
      by_if (Goes p) _ _ _
      (goes_trans p (count_merge p) _ counted (λ v. merge_at_well r.absorption (count_merge p) j a _ v (unfold count_merge in h) (omega arith)))
      (put_out_rotation_well p a k w h small)
    where
      counted : Goes p (count_merge p)
      counted = unfold count_merge in (re_output p _ w refl refl w.output)

  take_rotation_well : (r : Rules) (merging : Bool) (p : Pass) (a k : ℕ) → Well p → a < length p.store.axes → (Angles → (0 < k) × (k ≤ 7))
      → Goes p (take_rotation l r merging p a k)
  unfolding take_rotation
  take_rotation_well r merging p a k w h angle =
      on_if (Goes p) (is_at_once r.absorption && is_even k) _ _
      (λ e. absorb_well p a k w h (λ g. record {
        even = not_odd k (both_true (is_at_once r.absorption) (is_even k) e).1;
        some = (angle g).0;
        small = (angle g).1;
      }))
      (λ e. merge_or_put_out_well r p a k _ w h (λ g. (angle g).1))

  -- ---- the stream

  -- a rotation or a barrier
  pub stream_item_well : (r : Rules) (merging : Bool) (p : Pass) (i : Item) → Well p → WellItem Angles (length p.store.axes) i
      → Goes p (stream_item l r merging p i)
  unfolding stream_item
  stream_item_well r merging p (rotation t) w h =
      let q = (carry_rotation l r.absorption p t.axis).pass in
      goes_trans p q _ (carry_rotation_well r.absorption p t.axis w)
      (λ v. take_rotation_well r merging q _ _ v (carry_rotation_id r.absorption p t.axis w h.0) (λ g. with_sign_item _ t.angle (h.1 g)))
  stream_item_well r merging p (barrier o a s) w h =
      let q = absorb_all_waiting l r.absorption p in
      let first = absorb_all_waiting_well r.absorption p w in
      let c = carry_axis l q a in
      let next = carry_axis_well q a first.well in
      goes_trans p c _ (goes_trans p q c first (λ v. next)) (λ v. unfold put_out with_last in (re_output c _ v refl refl
      (every_one (WellPut Angles (length c.store.axes)) c.out _ v.output
      (carried_id l q a (le_trans h.0 first.longer), λ g. sign_add _ s ((axis_image_signed c a v).sign g) (h.1 g)))))

  -- at every point of a stream
  pub after_items_well : (r : Rules) (merging : Bool) (p : Pass) (is : List Item) → Well p → Every (WellItem Angles (length p.store.axes)) is
      → Goes p (after_items l r merging p is)
  unfolding after_items
  after_items_well r merging p [] w h = goes_refl p w
  after_items_well r merging p (i ∷ is) w h =
      let q = stream_item l r merging p i in
      let g = stream_item_well r merging p i w h.0 in
      goes_trans p q _ g (λ v. after_items_well (rules_after r i) merging q is v (items_more Angles _ _ is g.longer h.1))

  -- and at its end
  pub stream_well : (r : Rules) (merging : Bool) (p : Pass) (is : List Item) → Well p → Every (WellItem Angles (length p.store.axes)) is
      → Goes p (stream l r merging p is)
  stream_well r merging p is w h =
      let q = after_items l r merging p is in
      rw (stream_after l r merging p is) (goes_trans p q _ (after_items_well r merging p is w h)
      (absorb_all_waiting_well (rules_behind r is).absorption q))

  -- ---- rows

  -- the pass goes on, and the rows are in range, with signs
  pub record WellRowed (p : Pass) (x : Rowed) : Type 0 where
    pub pass : Goes p x.pass
    pub rows : Every (WellRow Angles (length x.pass.store.axes)) x.rows

  carry_rows_from_well : (p : Pass) (done rows : List SignedAxis) → Well p → Every (WellRow Angles (length p.store.axes)) done
      → Every (WellRow Angles (length p.store.axes)) rows → WellRowed p (carry_rows_from l p done rows)
  unfolding carry_rows_from
  carry_rows_from_well p done [] w d h = record { pass = goes_refl p w; rows = d }
  carry_rows_from_well p done (f ∷ rest) w d h =
      let q = carry_axis l p f.axis in
      let g = carry_axis_well p f.axis w in
      let row : SignedAxis = record { axis = image_id l q f.axis; sign = ((axis_image l q f.axis).turns + f.sign) % 4 } in
      let x = carry_rows_from_well q (done ++ (row ∷ [])) rest g.well
      (every_one (WellRow Angles (length q.store.axes)) done row (rows_more Angles _ _ done g.longer d)
      (carried_id l p f.axis h.0.0, λ a. sign_add _ f.sign ((axis_image_signed q f.axis g.well).sign a) (h.0.1 a)))
      (rows_more Angles _ _ rest g.longer h.1) in
      record { pass = goes_trans p q _ g (λ v. x.pass); rows = x.rows }

  -- carried, or kept
  pub carry_rows_well : (p : Pass) (rows : List SignedAxis) → Well p → Every (WellRow Angles (length p.store.axes)) rows
      → WellRowed p (carry_rows l p rows)
  unfolding carry_rows
  carry_rows_well p rows w h = by_if (WellRowed p) _ _ _ (record { pass = goes_refl p w; rows = h }) (carry_rows_from_well p [] rows w tt h)

  -- a pass begins well, where the store is
  pub begin_well : (s : Store) → StoredWords l s.axes → Well (begin s)
  unfolding begin
  begin_well s h = record { stored = h; images = none_held l Angles; output = tt }
