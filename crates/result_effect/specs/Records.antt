-- The operations' records of a result mean the items of the work that they are read from, at every point of a run. Assumes nothing.
use Rattle.std.specs.Prelude.{◌≡◌, false, List, [], ◌∷◌, map, ℕ, zero, suc, ◌≤◌, pos, drop}
use Rattle.std.proofs.Math.Path.{refl}
use Rattle.std.proofs.Common.{sym, ap, ap₂, subst, arith}
use Rattle.groups.specs.Eighth.{Eighth, eighth}
use Rattle.pauli.specs.Word.{width}
use Rattle.model.specs.Lists.{when◌then◌else◌}
use Rattle.model.specs.Program.{Kind, rotate, measure, conditional, Operation, Program}
use Rattle.model.specs.Rules.{Rules}
use Rattle.model.specs.Words.{Value}
use Rattle.model.specs.Roots.{operation_root}
use Rattle.model.specs.Packing.{packed, SignedAxis, signed_axis}
use Rattle.model.specs.Items.{Item, rotation, barrier, with_sign}
use Rattle.model.specs.Rounds.{Work}
use Rattle.model.specs.Run.{item_of, items_from, start_of, end_of}
use Rattle.model.specs.Results.{sign_field, no_operation, operation_at, barrier_record, item_record, operation_results}
use Rattle.theory.specs.Cases.{by_if}
use Rattle.theory.specs.Every.{Every, every_append}
use Rattle.theory.specs.Lists.{drop_head}
use Rattle.theory.specs.StreamState.{barriers_of, barriers_of_append}
use Rattle.theory.specs.Checked.{angles_small, Fine}
use Rattle.words_wellformed.specs.HeldImages.{IsSign}
use Rattle.words_wellformed.specs.Wellformed.{ItemSign}
use Rattle.run_wellformed.specs.Points.{Reached, passes_reached}
use Rattle.run_wellformed.specs.RunWellFormed.{point_steady}
use Rattle.run_wellformed.specs.Signs.{point_signs}
use Rattle.effect.specs.Phase.{Sgn}
use Rattle.effect.specs.Effect.{Op, measured, conditional as given_outcome}
use Rattle.items_effect.specs.Ops.{item_op, item_ops}
use Rattle.packing_effect.specs.Source.{sign_of, signed_angle, op_about, axis_word, barrier_op}
use Rattle.packing_effect.specs.Signs.{with_sign_angle}
use Rattle.result_effect.specs.Definitions.{sign_read, result_op_of_kind, result_op, result_ops}

-- ---- what is asked of a barrier

-- "Measurements and conditional rotations are barriers"
abbrev pub Stops : Kind → Type 0
Stops rotate = ⊥
Stops measure = Unit {0}
Stops conditional = Unit {0}

-- operation o is a measurement or a conditional rotation
abbrev pub StopsAt : List Operation → ℕ → Type 0
StopsAt ops o = Stops (operation_at ops o).kind

-- a barrier's operation is one, with an angle of at most 7, and its sign is 0 or 2 quarter turns
abbrev pub ItemStands : List Operation → Item → Type 0
ItemStands ops (rotation r) = Unit {0}
ItemStands ops (barrier o a s) = StopsAt ops o × ((operation_at ops o).angle ≤ 7) × IsSign s

-- ---- one record

-- a sign as it is written is read as it was
sign_read_lem : (s : ℕ) → IsSign s → sign_read (sign_field s) ≡ sign_of s
unfolding sign_read when◌then◌else◌
sign_read_lem zero h = refl
sign_read_lem (suc zero) h = absurd (omega arith)
sign_read_lem (suc (suc zero)) h = refl
sign_read_lem (suc (suc (suc s))) h = absurd (omega arith)

-- a sign taken into the angle
angle_read : (s k : ℕ) → IsSign s → k ≤ 7 → eighth (pos (with_sign s k)) ≡ signed_angle (sign_of s) k
angle_read zero k h b = with_sign_angle 0 k (omega arith) refl b
angle_read (suc zero) k h b = absurd (omega arith)
angle_read (suc (suc zero)) k h b = with_sign_angle 2 k (omega arith) refl b
angle_read (suc (suc (suc s))) k h b = absurd (omega arith)

module _ {W : Type 0} (word : List ℕ → W) (ops : List Operation) (axes : List (List ℕ)) where
  -- what an item stands for
  abbrev stands : Item → Op W
  stands = item_op (axis_word word axes) (barrier_op word ops axes)

  item_record_lem : (i : Item) → ItemStands ops i → result_op word axes (item_record ops i) ≡ stands i
  unfolding result_op result_op_of_kind item_record barrier_record
  item_record_lem (rotation r) h = refl
  item_record_lem (barrier o a s) h = go (operation_at ops o).kind h.0
    where
      op : Operation
      op = operation_at ops o

      go : (kind : Kind) → Stops kind
          → result_op word axes (barrier_record op kind a s) ≡ op_about kind (sign_of s) (axis_word word axes a) op.angle op.outcome
      go rotate k = absurd k
      go measure k = ap (λ (t : Sgn). measured t (axis_word word axes a) op.outcome) (sign_read_lem s h.2)
      go conditional k = ap (λ (e : Eighth). given_outcome e (axis_word word axes a) op.outcome) (angle_read s op.angle h.2 h.1)

  items_records : (is : List Item) → Every (ItemStands ops) is → map (result_op word axes) (map (item_record ops) is) ≡ map stands is
  items_records [] h = refl
  items_records (i ∷ is) h = ap₂ (λ (x : Op W) (xs : List (Op W)). x ∷ xs) (item_record_lem i h.0) (items_records is h.1)

-- the records of a work's operations mean its items
pub operation_results_ops : {W : Type 0} (word : List ℕ → W) (p : Program) (w : Work) → Every (ItemStands p.operations) w.items
    → result_ops word w.store.axes (operation_results p w)
    ≡ item_ops (axis_word word w.store.axes) (barrier_op word p.operations w.store.axes) w.items
unfolding result_ops operation_results
operation_results_ops word p w h = items_records word p.operations w.store.axes w.items h

-- ---- the barriers of a run

-- each comes from a measurement or a conditional rotation
item_of_stops : (ops : List Operation) (axes : List (List ℕ)) (i : ℕ) (kind : Kind) (f : SignedAxis) (k : ℕ) → (operation_at ops i).kind ≡ kind
    → Every (StopsAt ops) (barriers_of (item_of axes i kind f k))
unfolding item_of barriers_of
item_of_stops ops axes i rotate f k e = by_if (λ (is : List Item). Every (StopsAt ops) (barriers_of is)) _ [] _ tt tt
item_of_stops ops axes i measure f k e = (rw e tt, tt)
item_of_stops ops axes i conditional f k e = (rw e tt, tt)

items_from_stops : (ops : List Operation) (axes : List (List ℕ)) (vs : List Value) (i : ℕ) (rest : List Operation) → drop i ops ≡ rest
    → Every (StopsAt ops) (barriers_of (items_from axes vs i rest))
unfolding items_from
items_from_stops ops axes vs i [] h = unfold barriers_of in tt
items_from_stops ops axes vs i (op ∷ rest) h =
    let d = drop_head ops i op no_operation rest h in
    let f = signed_axis axes vs (operation_root op) in
    let one = item_of axes i op.kind f op.angle in
    let others = items_from axes vs (suc i) rest in
    subst (Every (StopsAt ops)) (sym (barriers_of_append one others))
    (every_append (StopsAt ops) (barriers_of one) (barriers_of others)
    (item_of_stops ops axes i op.kind f op.angle (ap (λ (x : Operation). x.kind) d.0)) (items_from_stops ops axes vs (suc i) rest d.1))

-- the start's come from measurements and conditional rotations
pub start_stops : (p : Program) → Every (StopsAt p.operations) (barriers_of (start_of p).items)
unfolding start_of
start_stops p = items_from_stops p.operations _ _ 0 p.operations refl

stand_together : (ops : List Operation) → ((o : ℕ) → (operation_at ops o).angle ≤ 7) → (is : List Item) → Every (StopsAt ops) (barriers_of is)
    → Every ItemSign is → Every (ItemStands ops) is
unfolding barriers_of
stand_together ops small [] h k = tt
stand_together ops small (rotation r ∷ is) h k = (tt, stand_together ops small is h k.1)
stand_together ops small (barrier o a s ∷ is) h k = ((h.0, small o, k.0), stand_together ops small is h.1 k.1)

module _ (p : Program) (fine : Fine p) (hermitian : (packed p).refused ≡ false) (r : Rules) where
  -- at every point of a run a barrier stands for a measurement or a conditional rotation of the program, with a sign
  pub point_stands : {v : Work} → Reached (width p.qubits) r (start_of p) v → Every (ItemStands p.operations) v.items
  point_stands {v} h =
      stand_together p.operations (angles_small p.operations fine.angles) v.items
      (subst (Every (StopsAt p.operations)) (sym (point_steady p fine r hermitian h).barriers) (start_stops p))
      (point_signs p fine hermitian r h).items

  module _ {W : Type 0} (word : List ℕ → W) where
    -- so at every point the records mean the items
    pub point_ops : {v : Work} → Reached (width p.qubits) r (start_of p) v
        → result_ops word v.store.axes (operation_results p v)
        ≡ item_ops (axis_word word v.store.axes) (barrier_op word p.operations v.store.axes) v.items
    point_ops {v} h = operation_results_ops word p v (point_stands h)

    -- and at the end
    pub end_ops : (rounds : ℕ) → result_ops word (end_of r rounds p).store.axes (operation_results p (end_of r rounds p))
        ≡ item_ops (axis_word word (end_of r rounds p).store.axes) (barrier_op word p.operations (end_of r rounds p).store.axes)
        (end_of r rounds p).items
    unfolding end_of
    end_ops rounds = point_ops (passes_reached (width p.qubits) r (start_of p) r.strategy rounds)
