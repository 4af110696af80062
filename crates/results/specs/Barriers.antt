-- Barriers are measurements and conditional rotations of the program. Assumes nothing.
use Rattle.std.specs.Prelude.{◌≡◌, false, List, [], ◌∷◌, ℕ, zero, suc, ◌+◌, ◌≤◌, ◌<◌, length, get_or}
use Rattle.std.proofs.Common.{ap, subst, add-zero, zero-add, arith}
use Rattle.model.specs.Program.{Kind, rotate, measure, conditional, is_rotate, Operation, Program}
use Rattle.model.specs.Words.{Value}
use Rattle.model.specs.Roots.{operation_root}
use Rattle.model.specs.Packing.{packed, values_of, SignedAxis, signed_axis}
use Rattle.model.specs.Items.{Item, rotation, barrier}
use Rattle.model.specs.Run.{item_of, items_from, start_of}
use Rattle.model.specs.Results.{no_operation, operation_at}
use Rattle.theory.specs.Cases.{by_if}
use Rattle.theory.specs.Every.{Every, every_append}
use Rattle.theory.specs.StreamState.{barriers_of, barriers_of_append}

-- operation o is one
abbrev pub BarrierOf : List Operation → ℕ → Type 0
BarrierOf ops o = (o < length ops) × (is_rotate (operation_at ops o).kind ≡ false)

item_barriers : (ops : List Operation) (axes : List (List ℕ)) (o : ℕ) (kind : Kind) (f : SignedAxis) (k : ℕ) → o < length ops
    → (operation_at ops o).kind ≡ kind → Every (BarrierOf ops) (barriers_of (item_of axes o kind f k))
unfolding item_of barriers_of
item_barriers ops axes o rotate f k h e = by_if (λ (is : List Item). Every (BarrierOf ops) (barriers_of is)) _ _ _ tt tt
item_barriers ops axes o measure f k h e = ((h, ap is_rotate e), tt)
item_barriers ops axes o conditional f k h e = ((h, ap is_rotate e), tt)

items_barriers : (ops : List Operation) (axes : List (List ℕ)) (vs : List Value) (o : ℕ) (rest : List Operation)
    → o + length rest ≤ length ops
    → ((j : ℕ) → j < length rest → operation_at ops (o + j) ≡ get_or rest j no_operation)
    → Every (BarrierOf ops) (barriers_of (items_from axes vs o rest))
unfolding items_from barriers_of
items_barriers ops axes vs o [] h e = tt
items_barriers ops axes vs o (op ∷ rest) h e =
    let f = signed_axis axes vs (operation_root op) in
    let i = item_of axes o op.kind f op.angle in
    let here : operation_at ops o ≡ op = rw add-zero at (e 0 (omega arith)) in
    rw (barriers_of_append i (items_from axes vs (suc o) rest))
    (every_append (BarrierOf ops) (barriers_of i) (barriers_of (items_from axes vs (suc o) rest))
    (item_barriers ops axes o op.kind f op.angle (omega arith) (ap (λ (x : Operation). x.kind) here))
    (items_barriers ops axes vs (suc o) rest (omega arith)
    (λ j l. let z : suc o + j ≡ o + suc j = omega arith in rw z (e (suc j) (omega arith)))))

-- those of the start
pub start_barriers : (p : Program) → Every (BarrierOf p.operations) (barriers_of (start_of p).items)
unfolding start_of
start_barriers p =
    items_barriers p.operations (packed p).store.axes (values_of p) 0 p.operations (omega arith)
    (λ j l. ap (operation_at p.operations) (zero-add j))

-- a barrier among items
pub barrier_among : (P : ℕ → Type 0) (is : List Item) (i o a s : ℕ) (d : Item) → Every P (barriers_of is) → i < length is
    → get_or is i d ≡ barrier o a s → P o
unfolding barriers_of
barrier_among P [] i o a s d h l e = absurd (omega arith)
barrier_among P (rotation r ∷ is) zero o a s d h l e = let z : ◌≡◌ {A = ℕ} 0 1 = cc in absurd (omega arith)
barrier_among P (rotation r ∷ is) (suc i) o a s d h l e = barrier_among P is i o a s d h (omega arith) e
barrier_among P (barrier x b t ∷ is) zero o a s d h l e = let z : x ≡ o = cc in subst P z h.0
barrier_among P (barrier x b t ∷ is) (suc i) o a s d h l e = barrier_among P is i o a s d h.1 (omega arith) e
