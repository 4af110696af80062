-- The state of a stream follows what it has read: what it put out, then F, has the effect of that. Assumes nothing.
use Rattle.std.specs.Prelude.{◌≡◌, refl, List, [], ◌∷◌, ◌++◌, ℕ, ◌+◌, ◌*◌, ◌%◌, ◌≤◌, ◌<◌, pos, length}
use Rattle.std.proofs.Common.{sym, ◌∙◌, subst, arith}
use Rattle.std.proofs.Math.Path.{ap}
use Rattle.std.proofs.lemmas.List.{map-append}
use Rattle.groups.specs.Eighth.{eighth}
use Rattle.model.specs.Program.{Operation}
use Rattle.model.specs.Words.{Value, word_of}
use Rattle.model.specs.Items.{rot, Item, rotation, barrier, with_sign}
use Rattle.model.specs.Results.{operation_at}
use Rattle.model.specs.Stream.{Pass, axis_image, image_id, absorb, begin}
use Rattle.theory.specs.Every.{Every}
use Rattle.theory.specs.Ids.{Grows}
use Rattle.theory.specs.StreamState.{AllIn}
use Rattle.words_wellformed.specs.HeldImages.{IsSign}
use Rattle.words_wellformed.specs.StoredWords.{StoredWords}
use Rattle.run_wellformed.specs.CliffordAngles.{CliffordAngle, two, four, six}
use Rattle.effect.specs.Phase.{q0, count}
use Rattle.effect.specs.Effect.{Op, plain}
use Rattle.effect.specs.Effect as Effect
use Rattle.effect.proofs.Equal.{≈-sym, ≈-trans, ≈-after}
use Rattle.effect.proofs.Clifford.{Cliff, nothing, absorbed, carry, Sim, sim_start, sim_replace, sim_move}
use Rattle.effect.specs.Packed.{Packed, packed}
use Rattle.effect.proofs.Bridge as Bridge
use Rattle.effect.proofs.Bridge.{value_of, Even, even_angle, ImagesOf, holds_start, holds_absorb, holds_image}
use Rattle.items_effect.specs.Ops.{item_op, item_ops}
use Rattle.packing_effect.specs.Source.{sign_of, op_about, axis_word, barrier_op}
use Rattle.stream_effect.specs.PackedAxes.{packed_word, packed_word_is, packed_word_own}
use Rattle.stream_effect.specs.Slide.{Lets, lift, merge_end}
use Rattle.stream_effect.specs.Carry.{carry_turn, carry_about}

even_of : {k : ℕ} → CliffordAngle k → Even k
even_of two = Bridge.two
even_of four = Bridge.four
even_of six = Bridge.six

module _ (l : ℕ) (operations : List Operation) where
  abbrev W : Type 0
  W = Packed l

  infix 20 ◌≈◌
  abbrev ◌≈◌ : List (Op W) → List (Op W) → Type 0
  X ≈ Y = Effect.◌≈◌ (packed l) X Y

  -- an axis's word, and items as operations
  abbrev pub word_at : List (List ℕ) → ℕ → W
  word_at axes a = axis_word (packed_word l) axes a

  abbrev pub barrier_at : List (List ℕ) → ℕ → ℕ → ℕ → Op W
  barrier_at axes = barrier_op (packed_word l) operations axes

  abbrev pub ops_of : List (List ℕ) → List Item → List (Op W)
  ops_of axes is = item_ops (word_at axes) (barrier_at axes) is

  -- a rotation by k about axis a
  abbrev pub turn_at : List (List ℕ) → ℕ → ℕ → Op W
  turn_at axes a k = plain (eighth (pos k)) (word_at axes a)

  pub ops_of_append : (axes : List (List ℕ)) (xs ys : List Item) → ops_of axes (xs ++ ys) ≡ ops_of axes xs ++ ops_of axes ys
  ops_of_append axes xs ys = map-append (item_op (word_at axes) (barrier_at axes)) xs ys

  -- more axes change no operation
  pub op_of_grows : (xs ys : List (List ℕ)) → Grows xs ys → (i : Item) → AllIn (length xs) (i ∷ [])
      → item_op (word_at ys) (barrier_at ys) i ≡ item_op (word_at xs) (barrier_at xs) i
  op_of_grows xs ys g (rotation r) h = ap (λ (w : List ℕ). plain (eighth (pos r.angle)) (packed_word l w)) (g.keeps r.axis h.0)
  op_of_grows xs ys g (barrier o a s) h =
      ap (λ (w : List ℕ). op_about (operation_at operations o).kind (sign_of s) (packed_word l w) (operation_at operations o).angle
      (operation_at operations o).outcome)
      (g.keeps a h.0)

  -- more axes change no operation
  pub ops_of_grows : (xs ys : List (List ℕ)) → Grows xs ys → (is : List Item) → AllIn (length xs) is → ops_of ys is ≡ ops_of xs is
  ops_of_grows xs ys g [] h = refl
  ops_of_grows xs ys g (i ∷ is) h =
      ap (λ (p : Op W). p ∷ ops_of ys is) (op_of_grows xs ys g i (h.0, tt))
      ∙ ap (λ (L : List (Op W)). item_op (word_at xs) (barrier_at xs) i ∷ L) (ops_of_grows xs ys g is h.1)

  -- ---- the invariant

  -- X was read and Y put out; the images that p holds are those of F; frame rows are kept if nothing was absorbed, which asks for the rest
  pub record Follows (X Y : List (Op W)) (p : Pass) : Type 0 where
    pub F : Cliff (packed l)
    pub holds : ImagesOf l p.held F
    pub unmoved : p.absorbed ≡ 0 → (P : W) → F.im P ≡ (q0, P)
    pub sim : Sim (packed l) X Y F

  -- the output that stands in p
  abbrev pub Streamed : List (Op W) → Pass → Type 0
  Streamed X p = Follows X (ops_of p.store.axes p.out) p

  -- a rotation by k about axis a has come and is neither put out nor absorbed
  abbrev pub Pending : List (Op W) → Pass → ℕ → ℕ → Type 0
  Pending X p a k = Follows X (ops_of p.store.axes p.out ++ (turn_at p.store.axes a k ∷ [])) p

  pub begin_follows : (st : _) → Streamed [] (begin st)
  unfolding begin nothing
  begin_follows st = record { F = nothing (packed l); holds = holds_start l; unmoved = λ e P. refl; sim = sim_start (packed l) }

  -- what is put out is replaced
  pub follows_replaced : (X Y Y' : List (Op W)) (p : Pass) → Y ≈ Y' → Follows X Y p → Follows X Y' p
  follows_replaced X Y Y' p e h =
      record { F = h.F; holds = h.holds; unmoved = h.unmoved; sim = sim_replace (packed l) X Y Y' h.F e h.sim }

  -- the same F
  pub follows_same : (X Y : List (Op W)) (p q : Pass) → q.held ≡ p.held → q.absorbed ≡ p.absorbed → Follows X Y p → Follows X Y q
  follows_same X Y p q e f h = record { F = h.F; holds = rw e h.holds; unmoved = λ z. h.unmoved (sym f ∙ z); sim = h.sim }

  -- the stored word of an axis
  pub word_at_is : (axes : List (List ℕ)) (a : ℕ) (h : length (word_of axes a) ≡ 2 * l) → word_at axes a ≡ (word_of axes a, h)
  word_at_is axes a h = packed_word_is l (word_of axes a) h

  -- the rotation that has come is absorbed
  pub follows_absorb : (X Y : List (Op W)) (p : Pass) (a k : ℕ) → StoredWords l p.store.axes → a < length p.store.axes → CliffordAngle k
      → Follows X (Y ++ (turn_at p.store.axes a k ∷ [])) p → Follows X Y (absorb l p a k)
  unfolding absorb
  follows_absorb X Y p a k stored b c h =
      let w = stored.words a b in
      let B : W = (word_of p.store.axes a, w.long) in
      let e = word_at_is p.store.axes a w.long in
      let x = even_of c in
      record {
        F = absorbed (packed l) h.F (eighth (pos k)) B (even_angle x);
        holds = holds_absorb l (record { store = p.store; held = p.held }) h.F B x w h.holds;
        unmoved = λ z. absurd (omega arith);
        sim = sim_move (packed l) X Y h.F (eighth (pos k)) B (even_angle x)
            (subst (λ (Q : W). Sim (packed l) X (Y ++ (plain (eighth (pos k)) Q ∷ [])) h.F) e h.sim);
      }

  -- ---- an item comes

  module _ (p : Pass) (F : Cliff (packed l)) (holds : ImagesOf l p.held F) (stored : StoredWords l p.store.axes) (a : ℕ)
      (inside : a < length p.store.axes) (put : word_of p.store.axes (image_id l p a) ≡ (axis_image l p a).word) where
    abbrev axes : List (List ℕ)
    axes = p.store.axes

    image : axis_image l p a ≡ value_of l (F.im (word_at axes a))
    unfolding axis_image
    image =
        holds_image l p.held F holds (word_of axes a) (stored.words a inside)
        ∙ ap (λ (P : W). value_of l (F.im P)) (sym (word_at_is axes a (stored.words a inside).long))

    -- the axis's image is stored, with its turns
    pub image_word : word_at axes (image_id l p a) ≡ (F.im (word_at axes a)).1
    image_word =
        ap (packed_word l) (put ∙ ap (λ (v : Value). v.word) image) ∙ packed_word_own l (F.im (word_at axes a)).1

    pub image_turns : (axis_image l p a).turns ≡ count (F.im (word_at axes a)).0
    image_turns = ap (λ (v : Value). v.turns) image

    -- a rotation, carried
    pub carried_turn : (k : ℕ) → k ≤ 7 → carry (packed l) F (turn_at axes a k) ≡ turn_at axes (image_id l p a) (with_sign (axis_image l p a).turns k)
    carried_turn k b =
        carry_turn (packed l) F (word_at axes a) k b
        ∙ ap (λ (P : W). plain (eighth (pos (with_sign (count (F.im (word_at axes a)).0) k))) P) (sym image_word)
        ∙ ap (λ (t : ℕ). turn_at axes (image_id l p a) (with_sign t k)) (sym image_turns)

    -- a barrier, carried
    pub carried_barrier : (o s : ℕ) → IsSign s
        → carry (packed l) F (barrier_at axes o a s) ≡ barrier_at axes o (image_id l p a) (((axis_image l p a).turns + s) % 4)
    carried_barrier o s i =
        let op = operation_at operations o in
        carry_about (packed l) F op.kind s i (word_at axes a) op.angle op.outcome
        ∙ ap (λ (P : W). op_about op.kind (sign_of ((count (F.im (word_at axes a)).0 + s) % 4)) P op.angle op.outcome) (sym image_word)
        ∙ ap (λ (t : ℕ). barrier_at axes o (image_id l p a) ((t + s) % 4)) (sym image_turns)

  -- ---- a rotation of the output goes to its end, and leaves a zero

  pub follows_lift : (X : List (Op W)) (p : Pass) (axes : List (List ℕ)) (front back : List Item) (a k : ℕ)
      → Every (Lets (packed l) (word_at axes) (barrier_at axes) (word_at axes a)) back
      → Follows X (ops_of axes (front ++ (rotation (rot a k) ∷ back))) p
      → Follows X (ops_of axes (front ++ (rotation (rot a 0) ∷ back)) ++ (turn_at axes a k ∷ [])) p
  follows_lift X p axes front back a k s h =
      follows_replaced X (ops_of axes (front ++ (rotation (rot a k) ∷ back)))
      (ops_of axes (front ++ (rotation (rot a 0) ∷ back)) ++ (turn_at axes a k ∷ [])) p
      (lift (packed l) (word_at axes) (barrier_at axes) front back a k s) h

  -- back to its place, with the angle that it has now
  pub follows_lower : (X : List (Op W)) (p : Pass) (axes : List (List ℕ)) (front back : List Item) (a k : ℕ)
      → Every (Lets (packed l) (word_at axes) (barrier_at axes) (word_at axes a)) back
      → Follows X (ops_of axes (front ++ (rotation (rot a 0) ∷ back)) ++ (turn_at axes a k ∷ [])) p
      → Follows X (ops_of axes (front ++ (rotation (rot a k) ∷ back))) p
  follows_lower X p axes front back a k s h =
      let Y = ops_of axes (front ++ (rotation (rot a k) ∷ back)) in
      let Z = ops_of axes (front ++ (rotation (rot a 0) ∷ back)) ++ (turn_at axes a k ∷ []) in
      follows_replaced X Z Y p (≈-sym (packed l) Y Z (lift (packed l) (word_at axes) (barrier_at axes) front back a k s)) h

  -- the rotation that has come merges with one of the output, at its end
  pub follows_merge : (X : List (Op W)) (p : Pass) (axes : List (List ℕ)) (front back : List Item) (a k m : ℕ)
      → Every (Lets (packed l) (word_at axes) (barrier_at axes) (word_at axes a)) back
      → Follows X (ops_of axes (front ++ (rotation (rot a k) ∷ back)) ++ (turn_at axes a m ∷ [])) p
      → Follows X (ops_of axes (front ++ (rotation (rot a 0) ∷ back)) ++ (turn_at axes a ((k + m) % 8) ∷ [])) p
  follows_merge X p axes front back a k m s h =
      let P = word_at axes a in
      let Y = ops_of axes (front ++ (rotation (rot a k) ∷ back)) in
      let Z = ops_of axes (front ++ (rotation (rot a 0) ∷ back)) in
      let now = turn_at axes a m ∷ [] in
      let both = (Z ++ (turn_at axes a k ∷ [])) ++ now in
      let sum = Z ++ (turn_at axes a ((k + m) % 8) ∷ []) in
      follows_replaced X (Y ++ now) sum p
      (≈-trans (packed l) (Y ++ now) both sum
      (≈-after (packed l) Y (Z ++ (turn_at axes a k ∷ [])) now (lift (packed l) (word_at axes) (barrier_at axes) front back a k s))
      (merge_end (packed l) (word_at axes) (barrier_at axes) Z P k m)) h
