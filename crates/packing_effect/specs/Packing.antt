-- The packed program has the effect of the program that was handed in. Assumes nothing.
use Rattle.std.specs.Prelude.{◌≡◌, Bool, true, false, ◌||◌, eqb, pos}
use Rattle.std.proofs.Math.Path.{refl, ap, subst}
use Rattle.std.proofs.Common.{sym, ◌∙◌, ap₂, inl, inr, zero-add, add-zero, eqb-true}
use mathlib.Core.List.{List, [], ◌∷◌, ◌++◌, map, map-map}
use Prim.Native.Nat.{ℕ, suc, ◌+◌, ◌≤◌, ◌<◌}
use native.Mathlib.Omega.{arith}
use Rattle.std.proofs.Math.ListN.{length}
use Rattle.groups.specs.Eighth.{Eighth, eighth}
use Rattle.pauli.specs.Word.{width, is_identity, identity}
use Rattle.model.specs.Lists.{is_odd}
use Rattle.model.specs.Program.{Kind, rotate, measure, conditional, Operation, PauliRef, Program}
use Rattle.model.specs.Words.{word_of}
use Rattle.model.specs.Roots.{root_rows, operation_root, roots}
use Rattle.model.specs.Packing.{packed, values_of, SignedAxis, signed_axis}
use Rattle.model.specs.Items.{rot, Item, rotation, with_sign}
use Rattle.model.specs.Results.{operation_at}
use Rattle.model.specs.Run.{item_of, items_from, start_of}
use Rattle.theory.specs.Cases.{on_if}
use Rattle.theory.specs.Every.{Every}
use Rattle.theory.specs.PackedRoots.{In}
use Rattle.theory.specs.Checked.{NodeIn, SmallAngle, Fine}
use Rattle.effect.specs.Words.{Setting}
use Rattle.effect.specs.Effect.{Op, plain}
use Rattle.effect.specs.Effect as Effect
use Rattle.effect.proofs.Equal.{≈-refl, ≈-sym, ≈-trans, ≈-cons, ≈-after, drop_zero, drop_unit}
use Rattle.items_effect.specs.Ops.{item_ops, item_ops_append}
use Rattle.packing_effect.specs.Source.{sign_of, signed_angle, op_about, source_op, source_ops, source_row, axis_word, barrier_op, packed_row}
use Rattle.packing_effect.specs.Signs.{with_sign_angle}
use Rattle.packing_effect.specs.Roots.{in_left, root_axis, root_word, root_sign, root_even, root_identity, root_rows_are}

module _ (H : Setting) (word : List ℕ → H.words.W) (p : Program) where
  open H use {words as Ws}
  open Ws use {W, unit}

  infix 20 ◌≈◌
  abbrev ◌≈◌ : List (Op W) → List (Op W) → Type 0
  X ≈ Y = Effect.◌≈◌ H X Y

  abbrev axes : List (List ℕ)
  axes = (packed p).store.axes

  abbrev axis : ℕ → W
  axis = axis_word word axes

  abbrev ops : List Item → List (Op W)
  ops items = item_ops axis (barrier_op word p.operations axes) items

  -- what is known of an operation's axis: an identity is the unit, the sign is 0 or 2 quarter turns
  record Known (f : SignedAxis) : Type 0 where
    none : is_identity (word_of axes f.axis) ≡ true → axis f.axis ≡ unit
    small : f.sign < 4
    even : is_odd f.sign ≡ false

  -- ---- one operation

  -- the operation about the axis with its sign
  abbrev about : SignedAxis → Operation → Kind → Op W
  about f op kind = op_about kind (sign_of f.sign) (axis f.axis) op.angle op.outcome

  -- "Rotations with angle 0 or an identity axis drop out", the others take their sign into the angle
  rotation_effect : (i : ℕ) (f : SignedAxis) (k : ℕ) → Known f → k ≤ 7
      → ops (item_of axes i rotate f k) ≈ (plain (signed_angle (sign_of f.sign) k) (axis f.axis) ∷ [])
  unfolding item_of
  rotation_effect i f k known h =
      on_if (λ (items : List Item). ops items ≈ source) _ [] (rotation (rot f.axis s) ∷ []) (λ t. ≈-sym H source [] (gone (eqb s 0) refl t))
      (λ t. subst (λ (d : Eighth). (plain (eighth (pos s)) P ∷ []) ≈ (plain d P ∷ [])) signed (≈-refl H (plain (eighth (pos s)) P ∷ [])))
    where
      P : W
      P = axis f.axis

      s : ℕ
      s = with_sign f.sign k

      e : Eighth
      e = signed_angle (sign_of f.sign) k

      source : List (Op W)
      source = plain e P ∷ []

      signed : eighth (pos s) ≡ e
      signed = with_sign_angle f.sign k known.small known.even h

      gone : (z : Bool) → eqb s 0 ≡ z → z || is_identity (word_of axes f.axis) ≡ true → source ≈ []
      gone true z t =
          subst (λ (d : Eighth). (plain d P ∷ []) ≈ []) (ap (λ (n : ℕ). eighth (pos n)) (sym (eqb-true s 0 z)) ∙ signed) (drop_zero H P)
      gone false z t = subst (λ (Q : W). (plain e Q ∷ []) ≈ []) (sym (known.none t)) (drop_unit H e)

  -- operation i of the program has its item, or none
  item_of_effect : (i : ℕ) (f : SignedAxis) (op : Operation) (kind : Kind) → operation_at p.operations i ≡ op → op.kind ≡ kind → Known f
      → op.angle ≤ 7 → ops (item_of axes i kind f op.angle) ≈ (about f op kind ∷ [])
  unfolding item_of
  item_of_effect i f op kind at is known h = go kind is
    where
      stands : (kind : Kind) → op.kind ≡ kind
          → (about f (operation_at p.operations i) (operation_at p.operations i).kind ∷ []) ≈ (about f op kind ∷ [])
      stands kind is =
          subst (λ (x : Operation). (about f x x.kind ∷ []) ≈ (about f op kind ∷ [])) (sym at)
          (subst (λ (y : Kind). (about f op y ∷ []) ≈ (about f op kind ∷ [])) (sym is) (≈-refl H (about f op kind ∷ [])))

      go : (kind : Kind) → op.kind ≡ kind → ops (item_of axes i kind f op.angle) ≈ (about f op kind ∷ [])
      go rotate is = rotation_effect i f op.angle known h
      go measure is = stands measure is
      go conditional is = stands conditional is

  -- ---- all of them

  -- one operation, then the others
  then_effect : (item items : List Item) (x y : Op W) (Y : List (Op W)) → ops item ≈ (x ∷ []) → x ≡ y → ops items ≈ Y
      → ops (item ++ items) ≈ (y ∷ Y)
  then_effect item items x y Y one same rest =
      subst (λ (X : List (Op W)). X ≈ (y ∷ Y)) (sym (item_ops_append axis (barrier_op word p.operations axes) item items))
      (≈-trans H (ops item ++ ops items) (x ∷ ops items) (y ∷ Y) (≈-after H (ops item) (x ∷ []) (ops items) one)
      (subst (λ (z : Op W). (x ∷ ops items) ≈ (z ∷ Y)) same (≈-cons H x (ops items) Y rest)))

  module _ (identity_unit : word (identity (width p.qubits)) ≡ unit) (fine : Fine p) (kept : (packed p).refused ≡ false) where
    module _ (r : PauliRef) (root : In r (roots p)) (inside : r.node < length p.nodes) where
      known : Known (root_axis p r)
      known =
          let even = root_even p fine kept r root inside in
          record { none = λ t. ap word (root_identity p fine kept r root inside t) ∙ identity_unit; small = even.0; even = even.1 }

    -- from operation i on
    items_from_effect : (i : ℕ) (rest : List Operation) → ((j : ℕ) → operation_at p.operations (j + i) ≡ operation_at rest j)
        → Every (NodeIn (length p.nodes)) rest → Every SmallAngle rest → ((r : PauliRef) → In r (map operation_root rest) → In r (roots p))
        → ops (items_from axes (values_of p) i rest) ≈ map (source_op word p) rest
    unfolding items_from
    items_from_effect i [] at nodes angles root = ≈-refl H []
    items_from_effect i (op ∷ rest) at nodes angles root =
        let r = operation_root op in
        let f = root_axis p r in
        let here = root r (inl refl) in
        let inside : r.node < length p.nodes = unfold operation_root in nodes.0 in
        let first : operation_at p.operations i ≡ op = subst (λ (n : ℕ). operation_at p.operations n ≡ op) (zero-add i) (at 0) in
        then_effect (item_of axes i op.kind f op.angle) (items_from axes (values_of p) (suc i) rest) (about f op op.kind)
        (source_op word p op)
        (map (source_op word p) rest) (item_of_effect i f op op.kind first refl (known r here inside) angles.0)
        (ap₂ (λ (s : ℕ) (w : List ℕ). op_about op.kind (sign_of s) (word w) op.angle op.outcome) (root_sign p fine kept r here inside)
        (root_word p fine kept r here inside))
        (items_from_effect (suc i) rest (λ j. ap (λ (n : ℕ). operation_at p.operations n) (shift j) ∙ at (suc j)) nodes.1 angles.1
        (λ x k. root x (inr k)))
      where
        shift : (j : ℕ) → j + suc i ≡ suc j + i
        shift j = omega arith

    -- the work that a run starts with, and the program that was handed in
    pub start_of_effect : item_ops (axis_word word (start_of p).store.axes) (barrier_op word p.operations (start_of p).store.axes)
        (start_of p).items
        ≈ source_ops word p
    unfolding start_of
    start_of_effect =
        items_from_effect 0 p.operations (λ j. ap (λ (n : ℕ). operation_at p.operations n) (add-zero j)) fine.operations fine.angles
        (λ r k. unfold roots in (in_left r (map operation_root p.operations) (root_rows p) k))

-- the frame rows that are roots
pub start_of_rows : {W : Type 0} (word : List ℕ → W) (p : Program) → Fine p → (packed p).refused ≡ false
    → map (packed_row word (start_of p).store.axes) (start_of p).rows ≡ map (source_row word p) (root_rows p)
unfolding start_of
start_of_rows word p fine kept =
    map-map (packed_row word (packed p).store.axes) (signed_axis (packed p).store.axes (values_of p)) (root_rows p) ∙ root_rows_are p fine kept word
