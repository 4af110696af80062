-- A stream follows the items that it reads: what it puts out, then F, has their effect. Assumes nothing.
use Rattle.std.specs.Prelude.{◌≡◌, Bool, true, ℕ, ◌+◌, ◌%◌, ◌≤◌, ◌<◌, length}
use Rattle.std.proofs.Math.Path.{refl, subst}
use Rattle.std.proofs.Common.{sym}
use mathlib.Core.List.{List, [], ◌∷◌, ◌++◌, append_assoc, append-nil}
use Rattle.std.proofs.Math.Nat.{le_trans}
use Rattle.model.specs.Program.{Operation}
use Rattle.model.specs.declared.Absorption.{Absorption}
use Rattle.model.specs.declared.Absorption.TheVariants.{Off as off, AtOnce as at_once, Lazy as lazy}
use Rattle.model.specs.Rules.{Rules}
use Rattle.model.specs.Words.{word_of, Store}
use Rattle.model.specs.Items.{Rot, Item, rotation, barrier, with_sign}
use Rattle.model.specs.Stream.{Pass, Carried, with_last, put_out, cleared_last, axis_image, image_id, carry_axis, absorb_all_waiting, absorb_blocking, carry_rotation}
use Rattle.model.specs.Stream.{take_rotation}
use Rattle.model.specs.Stream.{rules_after, stream_item, stream, begin}
use Rattle.theory.specs.Every.{Every}
use Rattle.theory.specs.Ids.{id_word, Grows, grows_refl, grows_trans, grows_eq, intern_grows}
use Rattle.theory.specs.StreamState.{axis_of, Sound, carry_axis_kept, carried_id, stream_item_stepped, begin_sound}
use Rattle.words_wellformed.specs.HeldImages.{IsSign}
use Rattle.words_wellformed.specs.StoredWords.{StoredWords}
use Rattle.words_wellformed.specs.PassWords.{WellItem, WellPass, items_more, rules_behind, after_items, stream_after, carry_axis_well, absorb_all_waiting_well}
use Rattle.words_wellformed.specs.PassWords.{absorb_blocking_well}
use Rattle.words_wellformed.specs.PassWords.{carry_rotation_well, stream_item_well, begin_well}
use Rattle.words_wellformed.specs.RunWords.{TurnsItem}
use Rattle.run_wellformed.specs.CliffordAngles.{with_sign_turns}
use Rattle.run_wellformed.specs.Waiting.{Waiting, absorb_waiting_axes, absorb_blocking_axes, carry_rotation_waiting}
use Rattle.run_wellformed.specs.Waiting.{waiting_sound}
use Rattle.run_wellformed.specs.Changing.{WaitsAs, waits_lazy, begin_waits, stream_item_waits}
use Rattle.effect.specs.Effect.{Op}
use Rattle.effect.proofs.Clifford.{carry, Sim, sim_push}
use Rattle.effect.specs.Packed.{Packed, packed}
use Rattle.items_effect.specs.Ops.{item_op}
use Rattle.stream_effect.specs.Follows.{word_at, barrier_at, ops_of, turn_at, ops_of_append, op_of_grows, Follows, Streamed, Pending}
use Rattle.stream_effect.specs.Follows.{begin_follows}
use Rattle.stream_effect.specs.Follows.{follows_same, carried_turn, carried_barrier}
use Rattle.stream_effect.specs.Steps.{carry_axis_follows, absorb_all_waiting_follows, carry_rotation_follows}
use Rattle.stream_effect.specs.Merges.{take_rotation_follows}

module _ (l : ℕ) (operations : List Operation) where
  abbrev W : Type 0
  W = Packed l

  abbrev Well : Pass → Type 0
  Well = WellPass l (Unit {0})

  abbrev S : List (Op W) → Pass → Type 0
  S X p = Streamed l operations X p

  abbrev op : List (List ℕ) → Item → Op W
  op axes i = item_op (word_at l operations axes) (barrier_at l operations axes) i

  -- ---- what is known of the carried state

  carry_rotation_sound : (m : Absorption) (p : Pass) (a : ℕ) → Sound p → (m ≡ lazy → Waiting l p) → Sound (carry_rotation l m p a).pass
  carry_rotation_sound off p a s wait = unfold carry_rotation in (carry_axis_kept l p a s).sound
  carry_rotation_sound at_once p a s wait = unfold carry_rotation in (carry_axis_kept l p a s).sound
  carry_rotation_sound lazy p a s wait = waiting_sound l (carry_rotation l lazy p a).pass (carry_rotation_waiting l p a (wait refl))

  carry_rotation_id : (m : Absorption) (p : Pass) (a : ℕ) → Well p → a < length p.store.axes
      → image_id l (carry_rotation l m p a).pass a < length (carry_rotation l m p a).pass.store.axes
  unfolding carry_rotation
  carry_rotation_id off p a w h = carried_id l p a h
  carry_rotation_id at_once p a w h = carried_id l p a h
  carry_rotation_id lazy p a w h = carried_id l (absorb_blocking l p a) a (le_trans h (absorb_blocking_well l (Unit {0}) p a w).longer)

  -- the axes grow
  pub carry_axis_grows : (p : Pass) (a : ℕ) → Grows p.store.axes (carry_axis l p a).store.axes
  unfolding carry_axis
  carry_axis_grows p a = intern_grows l _ p.store _

  abbrev image_in : Pass → ℕ → Carried
  image_in q a = record { pass = q; axis = image_id l q a; turns = (axis_image l q a).turns }

  -- its id and turns are those of its image, which is stored
  carry_rotation_is : (m : Absorption) (p : Pass) (a : ℕ) → carry_rotation l m p a ≡ image_in (carry_rotation l m p a).pass a
  unfolding carry_rotation
  carry_rotation_is off p a = refl
  carry_rotation_is at_once p a = refl
  carry_rotation_is lazy p a = refl

  carry_rotation_grows : (m : Absorption) (p : Pass) (a : ℕ) → Grows p.store.axes (carry_rotation l m p a).pass.store.axes
  unfolding carry_rotation
  carry_rotation_grows off p a = carry_axis_grows p a
  carry_rotation_grows at_once p a = carry_axis_grows p a
  carry_rotation_grows lazy p a =
      let e : (absorb_blocking l p a).store.axes ≡ (carry_axis l p a).store.axes = absorb_blocking_axes l p a in
      grows_trans (carry_axis_grows p a) (grows_trans (grows_eq e) (carry_axis_grows (absorb_blocking l p a) a))

  absorb_all_waiting_grows : (m : Absorption) (p : Pass) → Grows p.store.axes (absorb_all_waiting l m p).store.axes
  unfolding absorb_all_waiting
  absorb_all_waiting_grows off p = grows_refl _
  absorb_all_waiting_grows at_once p = grows_refl _
  absorb_all_waiting_grows lazy p = grows_eq (absorb_waiting_axes l (λ b. true) p 0 p.out)

  -- the id of an image names its word, once it is stored
  pub image_put : (p : Pass) (a : ℕ) → image_id l p a < length p.store.axes → word_of p.store.axes (image_id l p a) ≡ (axis_image l p a).word
  unfolding image_id
  image_put p a h = id_word p.store.axes (axis_image l p a).word h

  -- ---- an item comes, and is carried

  come : (X : List (Op W)) (p : Pass) (x y : Op W) (h : S X p) → carry (packed l) h.F x ≡ y
      → Follows l operations (X ++ (x ∷ [])) (ops_of l operations p.store.axes p.out ++ (y ∷ [])) p
  come X p x y h e = record {
    F = h.F;
    holds = h.holds;
    unmoved = h.unmoved;
    sim = subst (λ (z : Op W). Sim (packed l) (X ++ (x ∷ [])) (ops_of l operations p.store.axes p.out ++ (z ∷ [])) h.F) e
        (sim_push (packed l) X (ops_of l operations p.store.axes p.out) h.F x h.sim);
  }

  module _ (X : List (Op W)) (q : Pass) (a : ℕ) (w : Well q) (inside : a < length q.store.axes)
      (id : image_id l q a < length q.store.axes) (h : S X q) where
    rotation_comes : (k : ℕ) → k ≤ 7
        → Pending l operations (X ++ (turn_at l operations q.store.axes a k ∷ [])) q (image_id l q a) (with_sign (axis_image l q a).turns k)
    rotation_comes k b =
        come X q (turn_at l operations q.store.axes a k)
        (turn_at l operations q.store.axes (image_id l q a) (with_sign (axis_image l q a).turns k)) h
        (carried_turn l operations q h.F h.holds w.stored a inside (image_put q a id) k b)

    barrier_comes : (o s : ℕ) → IsSign s
        → Follows l operations (X ++ (barrier_at l operations q.store.axes o a s ∷ []))
        (ops_of l operations q.store.axes q.out ++
        (barrier_at l operations q.store.axes o (image_id l q a) (((axis_image l q a).turns + s) % 4) ∷ [])) q
    barrier_comes o s i =
        come X q (barrier_at l operations q.store.axes o a s)
        (barrier_at l operations q.store.axes o (image_id l q a) (((axis_image l q a).turns + s) % 4)) h
        (carried_barrier l operations q h.F h.holds w.stored a inside (image_put q a id) o s i)

  -- a barrier is put out
  put_barrier_follows : (X : List (Op W)) (p : Pass) (o a s : ℕ)
      → Follows l operations X (ops_of l operations p.store.axes p.out ++ (barrier_at l operations p.store.axes o a s ∷ [])) p
      → S X (put_out (barrier o a s) (with_last cleared_last p))
  put_barrier_follows X p o a s h =
      subst (λ (Y : List (Op W)). Follows l operations X Y (put_out (barrier o a s) (with_last cleared_last p))) (sym out)
      (follows_same l operations X (ops_of l operations p.store.axes p.out ++ (barrier_at l operations p.store.axes o a s ∷ [])) p
      (put_out (barrier o a s) (with_last cleared_last p)) (unfold put_out with_last in refl) (unfold put_out with_last in refl) h)
    where
      out : ops_of l operations (put_out (barrier o a s) (with_last cleared_last p)).store.axes
          (put_out (barrier o a s) (with_last cleared_last p)).out
          ≡ ops_of l operations p.store.axes p.out ++ (barrier_at l operations p.store.axes o a s ∷ [])
      out = unfold put_out with_last in (ops_of_append l operations p.store.axes p.out (barrier o a s ∷ []))

  -- ---- one item is read

  module _ (r : Rules) (merging : Bool) (X : List (Op W)) (p : Pass) (w : Well p) (s : Sound p) (wait : r.absorption ≡ lazy → Waiting l p)
      (h : S X p) where
    rotation_follows : (t : Rot) → t.axis < length p.store.axes → 0 < t.angle → t.angle ≤ 7
        → S (X ++ (turn_at l operations p.store.axes t.axis t.angle ∷ [])) (stream_item l r merging p (rotation t))
    unfolding stream_item
    rotation_follows t b z n =
        let m = r.absorption in
        let q = (carry_rotation l m p t.axis).pass in
        let goes = carry_rotation_well l (Unit {0}) m p t.axis w in
        let id = carry_rotation_id m p t.axis w b in
        let k = with_sign (axis_image l q t.axis).turns t.angle in
        let small = with_sign_turns (axis_image l q t.axis).turns t.angle z n in
        subst (λ (c : Carried). S (X ++ (turn_at l operations p.store.axes t.axis t.angle ∷ []))
        (take_rotation l r merging c.pass c.axis (with_sign c.turns t.angle))) (sym (carry_rotation_is m p t.axis))
        (subst (λ (x : Op W). S (X ++ (x ∷ [])) (take_rotation l r merging q (image_id l q t.axis) k))
        (op_of_grows l operations p.store.axes q.store.axes (carry_rotation_grows m p t.axis) (rotation t) (b, tt))
        (take_rotation_follows l operations (X ++ (turn_at l operations q.store.axes t.axis t.angle ∷ [])) r merging q
        (image_id l q t.axis) k
        goes.well (carry_rotation_sound m p t.axis s wait) id small.0 small.1
        (rotation_comes X q t.axis goes.well (le_trans b goes.longer) id
        (carry_rotation_follows l operations X m p t.axis w wait h) t.angle n)))

    barrier_follows : (o a t : ℕ) → a < length p.store.axes → IsSign t
        → S (X ++ (barrier_at l operations p.store.axes o a t ∷ [])) (stream_item l r merging p (barrier o a t))
    unfolding stream_item
    barrier_follows o a t b i =
        let m = r.absorption in
        let q = absorb_all_waiting l m p in
        let first = absorb_all_waiting_well l (Unit {0}) m p w in
        let c = carry_axis l q a in
        let next = carry_axis_well l (Unit {0}) q a first.well in
        let d = le_trans b first.longer in
        subst (λ (x : Op W). S (X ++ (x ∷ [])) (put_out (barrier o (image_id l c a) (((axis_image l c a).turns + t) % 4)) (with_last cleared_last c)))
        (op_of_grows l operations p.store.axes c.store.axes (grows_trans (absorb_all_waiting_grows m p) (carry_axis_grows q a))
        (barrier o a t) (b, tt))
        (put_barrier_follows (X ++ (barrier_at l operations c.store.axes o a t ∷ [])) c o (image_id l c a) (((axis_image l c a).turns + t) % 4)
        (barrier_comes X c a next.well (le_trans d next.longer) (carried_id l q a d)
        (carry_axis_follows l operations X q a first.well (absorb_all_waiting_follows l operations X m p w wait h)) o t i))

  -- ---- all items are read

  turns_item : (m : ℕ) (i : Item) → WellItem (Unit {0}) m i → TurnsItem i
  turns_item m (rotation t) h = h.1 tt
  turns_item m (barrier o a s) h = tt

  inside_item : (m : ℕ) (i : Item) → WellItem (Unit {0}) m i → axis_of i < m
  inside_item m (rotation t) h = h.0
  inside_item m (barrier o a s) h = h.0

  module _ (merging : Bool) (axes : List (List ℕ)) where
    -- the state p after some items about the first axes, and the rules behind them
    record Reads (r : Rules) (X : List (Op W)) (p : Pass) : Type 0 where
      grow : Grows axes p.store.axes
      well : Well p
      sound : Sound p
      waits : WaitsAs l r.absorption p
      follows : S X p

    one_follows : (r : Rules) (X : List (Op W)) (p : Pass) (i : Item) → WellItem (Unit {0}) (length p.store.axes) i → Reads r X p
        → S (X ++ (op p.store.axes i ∷ [])) (stream_item l r merging p i)
    one_follows r X p (rotation t) h k =
        rotation_follows r merging X p k.well k.sound (waits_lazy l r.absorption p k.waits) k.follows t h.0 (h.1 tt).0
        (h.1 tt).1
    one_follows r X p (barrier o a s) h k =
        barrier_follows r merging X p k.well k.sound (waits_lazy l r.absorption p k.waits) k.follows o a s h.0 (h.1 tt)

    stream_item_reads : (r : Rules) (X : List (Op W)) (p : Pass) (i : Item) → WellItem (Unit {0}) (length axes) i → Reads r X p
        → Reads (rules_after r i) (X ++ (op axes i ∷ [])) (stream_item l r merging p i)
    stream_item_reads r X p i h k =
        let more = (items_more (Unit {0}) (length axes) (length p.store.axes) (i ∷ []) k.grow.longer (h, tt)).0 in
        let b = inside_item (length p.store.axes) i more in
        let stepped = stream_item_stepped l r merging p i k.sound b in
        record {
          grow = grows_trans k.grow stepped.grow;
          well = (stream_item_well l (Unit {0}) r merging p i k.well more).well;
          sound = stepped.sound;
          waits = stream_item_waits l r merging p i (turns_item (length axes) i h) b k.sound k.waits;
          follows =
              subst (λ (x : Op W). S (X ++ (x ∷ [])) (stream_item l r merging p i))
              (op_of_grows l operations axes p.store.axes k.grow i (inside_item (length axes) i h, tt)) (one_follows r X p i more k);
        }

    after_items_reads : (r : Rules) (X : List (Op W)) (p : Pass) (is : List Item) → Every (WellItem (Unit {0}) (length axes)) is → Reads r X p
        → Reads (rules_behind r is) (X ++ ops_of l operations axes is) (after_items l r merging p is)
    unfolding rules_behind after_items
    after_items_reads r X p [] h k = subst (λ (Y : List (Op W)). Reads r Y p) (sym (append-nil X)) k
    after_items_reads r X p (i ∷ is) h k =
        let q = stream_item l r merging p i in
        subst (λ (Y : List (Op W)). Reads (rules_behind (rules_after r i) is) Y (after_items l (rules_after r i) merging q is))
        (append_assoc X (op axes i ∷ []) (ops_of l operations axes is))
        (after_items_reads (rules_after r i) (X ++ (op axes i ∷ [])) q is h.1 (stream_item_reads r X p i h.0 k))

  -- a whole stream
  pub stream_follows : (r : Rules) (merging : Bool) (st : Store) (is : List Item) → StoredWords l st.axes
      → Every (WellItem (Unit {0}) (length st.axes)) is
      → S (ops_of l operations st.axes is) (stream l r merging (begin st) is)
  stream_follows r merging st is stored h =
      subst (S (ops_of l operations st.axes is)) (sym (stream_after l r merging (begin st) is))
      (absorb_all_waiting_follows l operations (ops_of l operations st.axes is) (rules_behind r is).absorption
      (after_items l r merging (begin st) is) k.well (waits_lazy l (rules_behind r is).absorption _ k.waits) k.follows)
    where
      k : Reads merging st.axes (rules_behind r is) (ops_of l operations st.axes is) (after_items l r merging (begin st) is)
      k = after_items_reads merging st.axes r [] (begin st) is h (record {
        grow = unfold begin in (grows_refl st.axes);
        well = begin_well l (Unit {0}) st stored;
        sound = begin_sound st;
        waits = begin_waits l r.absorption st;
        follows = begin_follows l operations st;
      })
