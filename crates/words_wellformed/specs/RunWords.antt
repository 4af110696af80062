-- At every point of a run the axes are words, each stored once, ids are in range, and signs are 0 or 2 quarter turns. Assumes nothing.
use Rattle.std.specs.Prelude.{◌≡◌, refl, Bool, not, ◌||◌, eqb}
use Rattle.std.proofs.Math.Bool.{true, false}
use Rattle.std.proofs.Common.{true≢false}
use Rattle.std.proofs.lemmas.Bool.{false≢true, eqb-false}
use mathlib.Core.List.{List, [], ◌∷◌, ◌++◌, map}
use Prim.Native.Nat.{ℕ, zero, suc, ◌+◌, ◌%◌, ◌≤◌, ◌<◌}
use native.Mathlib.Omega.{arith}
use Rattle.std.proofs.Math.ListN.{length}
use Rattle.pauli.specs.Word.{width, is_identity}
use Rattle.model.specs.declared.Strategy.{Strategy}
use Rattle.model.specs.declared.Strategy.TheVariants.{Merge, Litinski}
use Rattle.model.specs.Lists.{keep, is_odd}
use Rattle.model.specs.Program.{Kind, rotate, measure, conditional, Operation, PauliRef, Program}
use Rattle.model.specs.Rules.{Rules}
use Rattle.model.specs.Words.{Value, word_of}
use Rattle.model.specs.Value.{value_at}
use Rattle.model.specs.Roots.{root_rows, operation_root, roots}
use Rattle.model.specs.Packing.{values_of, packed, SignedAxis, signed_axis}
use Rattle.model.specs.Items.{Rot, Item, rotation, barrier, with_sign, is_nonzero, stays, drop_zeros, Segment}
use Rattle.model.specs.Items.{rewrite_segments}
use Rattle.model.specs.Stream.{stream, begin}
use Rattle.model.specs.Exchange.{swaps}
use Rattle.model.specs.Layering.{layer_segment}
use Rattle.model.specs.Rounds.{Work, stream_pass, exchange_pass, layering_pass, merge_round, RoundBefore, no_round, rounds_from, closing_stream}
use Rattle.model.specs.Rounds.{merge_rounds}
use Rattle.model.specs.Rounds.{litinski_from}
use Rattle.model.specs.Rounds.{litinski_rounds, passes}
use Rattle.model.specs.Run.{item_of, items_from, start_of}
use Rattle.theory.specs.Cases.{by_if, on_if}
use Rattle.theory.specs.Every.{Every, every_append, every_map, every_left, every_right, every_weaken, every_unmap}
use Rattle.theory.specs.Segments.{rewrite_segments_every}
use Rattle.theory.specs.SegmentAxes.{Has, swaps_has, layer_segment_has}
use Rattle.theory.specs.PackedRoots.{Rooted, packed_rooted}
use Rattle.theory.specs.Checked.{SmallAngle, Fine}
use Rattle.theory.specs.Hermitian.{in_every, every_in, roots_in}
use Rattle.words_wellformed.specs.StoredWords.{StoredWords}
use Rattle.words_wellformed.specs.PackedWords.{packed_stored}
use Rattle.words_wellformed.specs.HeldImages.{IsSign}
use Rattle.words_wellformed.specs.PassWords.{WellPut, WellItem, WellRow, items_more, rows_more, WellPass, after_items, after_items_well}
use Rattle.words_wellformed.specs.PassWords.{stream_well, carry_rows_well, begin_well}

-- ---- work

-- axes are words, each stored once; ids are in range; angles and signs are what they should be, given `Angles`
pub record WellWork (l : ℕ) (Angles : Type 0) (w : Work) : Type 0 where
  pub stored : StoredWords l w.store.axes
  pub items : Every (WellItem Angles (length w.store.axes)) w.items
  pub rows : Every (WellRow Angles (length w.store.axes)) w.rows

-- ---- a stream

nonzero : (k : ℕ) → not (eqb k 0) ≡ true → 0 < k
nonzero k h = go (eqb k 0) refl h
  where
    go : (t : Bool) → eqb k 0 ≡ t → not t ≡ true → 0 < k
    go true e f = absurd (false≢true f)
    go false e f = let n : k ≡ 0 → ⊥ = eqb-false k 0 e in omega arith

-- "Zeros are removed"
drop_zeros_well : (Angles : Type 0) (m : ℕ) (is : List Item) → Every (WellPut Angles m) is → Every (WellItem Angles m) (drop_zeros is)
unfolding drop_zeros keep
drop_zeros_well Angles m [] h = tt
drop_zeros_well Angles m (rotation r ∷ is) h =
    let rest = drop_zeros_well Angles m is h.1 in
    on_if (Every (WellItem Angles m)) (is_nonzero r) (rotation r ∷ keep stays is) (keep stays is)
    (λ e. ((h.0.0, λ g. (nonzero r.angle e, h.0.1 g)), rest)) (λ e. rest)
drop_zeros_well Angles m (barrier o a s ∷ is) h =
    let rest = drop_zeros_well Angles m is h.1 in
    by_if (Every (WellItem Angles m)) true (barrier o a s ∷ keep stays is) (keep stays is) (h.0, rest) rest

module _ (l : ℕ) (Angles : Type 0) where
  abbrev Well : Work → Type 0
  Well = WellWork l Angles

  -- at every point of a pass: after the items of any front part
  pub pass_well : (r : Rules) (merging : Bool) (w : Work) (front back : List Item) → w.items ≡ front ++ back → Well w
      → WellPass l Angles (after_items l r merging (begin w.store) front)
  pass_well r merging w front back e h =
      (after_items_well l Angles r merging (begin w.store) front (begin_well l Angles w.store h.stored)
      (unfold begin in (every_left (WellItem Angles (length w.store.axes)) front back (rw e at h.items)))).well

  -- a whole stream, with its rows
  pub stream_pass_well : (r : Rules) (merging : Bool) (w : Work) → Well w → Well (stream_pass l r merging w)
  unfolding stream_pass
  stream_pass_well r merging w h =
      let s = begin w.store in
      let p = stream l r merging s w.items in
      let g = stream_well l Angles r merging s w.items (begin_well l Angles w.store h.stored) (unfold begin in h.items) in
      let longer : length w.store.axes ≤ length p.store.axes = unfold begin in g.longer in
      let c = carry_rows_well l Angles p w.rows g.well (rows_more Angles _ _ w.rows longer h.rows) in
      record {
        stored = c.pass.well.stored;
        items = items_more Angles _ _ (drop_zeros p.out) c.pass.longer (drop_zeros_well Angles _ p.out g.well.output);
        rows = c.rows;
      }

-- ---- exchange and layering

-- a rotation that is there to turn: its angle is 1 to 7
abbrev pub Turns : Rot → Type 0
Turns r = (0 < r.angle) × (r.angle ≤ 7)

-- so for the rotations among items
abbrev pub TurnsItem : Item → Type 0
TurnsItem (rotation r) = Turns r
TurnsItem (barrier o a s) = Unit {0}

-- what the crate of angles shows: exchange and layering leave angles 1 to 7
pub record AnglesStay (l : ℕ) (r : Rules) : Type 0 where
  pub exchange : (w : Work) → Every TurnsItem w.items → Every TurnsItem (exchange_pass l r w).items
  pub layering : (w : Work) → Every TurnsItem w.items → Every TurnsItem (layering_pass l w).items

-- an item apart from its angle
abbrev InPlace : Type 0 → ℕ → Item → Type 0
InPlace Angles m (rotation r) = r.axis < m
InPlace Angles m (barrier o a s) = (a < m) × (Angles → IsSign s)

item_place : (Angles : Type 0) (m : ℕ) (i : Item) → WellItem Angles m i → InPlace Angles m i
item_place Angles m (rotation r) h = h.0
item_place Angles m (barrier o a s) h = h

items_angles : (Angles : Type 0) (m : ℕ) (is : List Item) → Every (WellItem Angles m) is → Angles → Every TurnsItem is
items_angles Angles m [] h g = tt
items_angles Angles m (rotation r ∷ is) h g = (h.0.1 g, items_angles Angles m is h.1 g)
items_angles Angles m (barrier o a s ∷ is) h g = (tt, items_angles Angles m is h.1 g)

items_whole : (Angles : Type 0) (m : ℕ) (is : List Item) → Every (InPlace Angles m) is → (Angles → Every TurnsItem is)
    → Every (WellItem Angles m) is
items_whole Angles m [] h f = tt
items_whole Angles m (rotation r ∷ is) h f = ((h.0, λ g. (f g).0), items_whole Angles m is h.1 (λ g. (f g).1))
items_whole Angles m (barrier o a s ∷ is) h f = (h.0, items_whole Angles m is h.1 (λ g. (f g).1))

-- segments are rewritten; barriers stay
rewrite_segments_placed : (Angles : Type 0) (m : ℕ) (f : List Rot → Segment)
    → ((rots : List Rot) → Every (Has (λ a. a < m)) rots → Every (Has (λ a. a < m)) (f rots).rots)
    → (is : List Item) → Every (InPlace Angles m) is → Every (InPlace Angles m) (rewrite_segments f is).items
rewrite_segments_placed Angles m = rewrite_segments_every (Has (λ a. a < m)) (InPlace Angles m) (λ r b. b) (λ r b. b)

module _ (l : ℕ) (r : Rules) (Angles : Type 0) (stay : Angles → AnglesStay l r) where
  -- an exchange changes no word
  pub exchange_pass_well : (w : Work) → WellWork l Angles w → WellWork l Angles (exchange_pass l r w)
  exchange_pass_well w h = record {
    stored = unfold exchange_pass in (by_if (λ (v : Work). StoredWords l v.store.axes) _ _ _ h.stored h.stored);
    items = items_whole Angles _ (exchange_pass l r w).items placed (λ g. (stay g).exchange w (items_angles Angles _ w.items h.items g));
    rows = unfold exchange_pass in (by_if (λ (v : Work). Every (WellRow Angles (length v.store.axes)) v.rows) _ _ _ h.rows h.rows);
  }
    where
      before : Every (InPlace Angles (length w.store.axes)) w.items
      before =
          every_weaken (WellItem Angles (length w.store.axes)) (InPlace Angles (length w.store.axes)) (item_place Angles _)
          w.items h.items

      placed : Every (InPlace Angles (length (exchange_pass l r w).store.axes)) (exchange_pass l r w).items
      placed =
          unfold exchange_pass in (by_if (λ (v : Work). Every (InPlace Angles (length v.store.axes)) v.items) _ _ _ before
          (rewrite_segments_placed Angles _ (swaps l w.store.axes r.exchange)
          (swaps_has _ l w.store.axes r.exchange) w.items before))

  -- nor does layering
  pub layering_pass_well : (w : Work) → WellWork l Angles w → WellWork l Angles (layering_pass l w)
  layering_pass_well w h = record {
    stored = unfold layering_pass in h.stored;
    items = items_whole Angles _ (layering_pass l w).items placed (λ g. (stay g).layering w (items_angles Angles _ w.items h.items g));
    rows = unfold layering_pass in h.rows;
  }
    where
      placed : Every (InPlace Angles (length (layering_pass l w).store.axes)) (layering_pass l w).items
      placed =
          unfold layering_pass in
          (rewrite_segments_placed Angles _ (layer_segment l w.store.axes) (layer_segment_has _ l w.store.axes) w.items
          (every_weaken (WellItem Angles (length w.store.axes)) (InPlace Angles (length w.store.axes)) (item_place Angles _)
          w.items h.items))

  -- ---- rounds

  rounds_from_well : (k : ℕ) (going : Bool) (before : RoundBefore) (w : Work) → WellWork l Angles w
      → WellWork l Angles (rounds_from l r k going before w)
  unfolding rounds_from merge_round
  rounds_from_well zero going before w h = h
  rounds_from_well (suc k) false before w h = h
  rounds_from_well (suc k) true before w h =
      rounds_from_well k _ _ (exchange_pass l r (stream_pass l r true w))
      (exchange_pass_well (stream_pass l r true w) (stream_pass_well l Angles r true w h))

  closing_stream_well : (k : ℕ) (w : Work) → WellWork l Angles w → WellWork l Angles (closing_stream l r k w)
  unfolding closing_stream
  closing_stream_well zero w h = h
  closing_stream_well (suc k) w h = by_if (WellWork l Angles) _ _ _ (stream_pass_well l Angles r true w h) h

  litinski_from_well : (k : ℕ) (w : Work) → WellWork l Angles w → WellWork l Angles (litinski_from l r k w)
  unfolding litinski_from
  litinski_from_well zero w h = h
  litinski_from_well (suc k) w h =
      let v = layering_pass_well w h in
      by_if (WellWork l Angles) _ _ _ v
      (litinski_from_well k (stream_pass l r false (layering_pass l w)) (stream_pass_well l Angles r false (layering_pass l w) v))

  -- by both strategies
  pub passes_well : (s : Strategy) (rounds : ℕ) (w : Work) → WellWork l Angles w → WellWork l Angles (passes s l r rounds w)
  unfolding passes merge_rounds litinski_rounds
  passes_well Merge rounds w h = closing_stream_well rounds (rounds_from l r rounds true no_round w) (rounds_from_well rounds true no_round w h)
  passes_well Litinski zero w h = h
  passes_well Litinski (suc k) w h = litinski_from_well (suc k) (stream_pass l r false w) (stream_pass_well l Angles r false w h)

-- ---- the start

either_false : (x y : Bool) → (x || y) ≡ false → x ≡ false
either_false true y h = absurd (true≢false h)
either_false false y h = refl

with_sign_small : (sign k : ℕ) → k ≤ 7 → with_sign sign k ≤ 7
unfolding with_sign
with_sign_small sign k h = by_if (λ (x : ℕ). x ≤ 7) _ _ _ h (omega arith)

even_sign : (n : ℕ) → is_odd n ≡ false → IsSign (n % 4)
even_sign n h = let e : n % 2 ≡ 1 → ⊥ = eqb-false (n % 2) 1 h in record { below = omega arith; even = omega arith }

-- what packing shows of a root
abbrev pub RootIn : List (List ℕ) → List Value → PauliRef → Type 0
RootIn axes vs r = Rooted axes (value_at vs r.node) r

module _ (Angles : Type 0) (axes : List (List ℕ)) (vs : List Value) where
  signed_axis_well : (r : PauliRef) → RootIn axes vs r → WellRow Angles (length axes) (signed_axis axes vs r)
  unfolding signed_axis
  signed_axis_well r h = (h.stored, λ g. even_sign ((value_at vs r.node).turns + r.phase) h.even)

  item_of_well : (o : ℕ) (kind : Kind) (f : SignedAxis) (k : ℕ) → WellRow Angles (length axes) f → k ≤ 7
      → Every (WellItem Angles (length axes)) (item_of axes o kind f k)
  unfolding item_of
  item_of_well o rotate f k h small =
      on_if (Every (WellItem Angles (length axes))) (eqb (with_sign f.sign k) 0 || is_identity (word_of axes f.axis)) [] _ (λ e. tt)
      (λ e. ((h.0, λ g. (angle (eqb-false _ 0 (either_false (eqb (with_sign f.sign k) 0) _ e)), with_sign_small f.sign k small)), tt))
    where
      angle : (with_sign f.sign k ≡ 0 → ⊥) → 0 < with_sign f.sign k
      angle n = omega arith
  item_of_well o measure f k h small = (h, tt)
  item_of_well o conditional f k h small = (h, tt)

  items_from_well : (o : ℕ) (ops : List Operation) → Every (λ (x : Operation). RootIn axes vs (operation_root x)) ops → Every SmallAngle ops
      → Every (WellItem Angles (length axes)) (items_from axes vs o ops)
  unfolding items_from
  items_from_well o [] h small = tt
  items_from_well o (op ∷ ops) h small =
      every_append (WellItem Angles (length axes)) (item_of axes o op.kind (signed_axis axes vs (operation_root op)) op.angle) _
      (item_of_well o op.kind (signed_axis axes vs (operation_root op)) op.angle (signed_axis_well (operation_root op) h.0) small.0)
      (items_from_well (suc o) ops h.1 small.1)

-- every root is stored, and its total phase is even
roots_rooted : (p : Program) → Fine p → (packed p).refused ≡ false → Every (RootIn (packed p).store.axes (values_of p)) (roots p)
roots_rooted p f h =
    in_every (RootIn (packed p).store.axes (values_of p)) (roots p)
    (λ r k. packed_rooted p f.ordered h r k (every_in (λ (x : PauliRef). x.node < length p.nodes) (roots p) (roots_in p f) r k))

-- every operation's, for one
pub operations_rooted : (p : Program) → Fine p → (packed p).refused ≡ false
    → Every (λ (x : Operation). RootIn (packed p).store.axes (values_of p) (operation_root x)) p.operations
unfolding roots
operations_rooted p f h =
    let Rooted = RootIn (packed p).store.axes (values_of p) in
    every_unmap Rooted operation_root p.operations (every_left Rooted (map operation_root p.operations) (root_rows p) (roots_rooted p f h))

-- the work that a run starts with
pub start_well : (p : Program) (Angles : Type 0) → Fine p → (packed p).refused ≡ false → WellWork (width p.qubits) Angles (start_of p)
unfolding start_of
start_well p Angles f h = record {
  stored = packed_stored p f;
  items = items_from_well Angles axes vs 0 p.operations (operations_rooted p f h) f.angles;
  rows = every_map (RootIn axes vs) (WellRow Angles (length axes)) (signed_axis axes vs) (signed_axis_well Angles axes vs) (root_rows p)
      (every_right (RootIn axes vs) (map operation_root p.operations) (root_rows p) (unfold roots in (roots_rooted p f h)));
}
  where
    axes : List (List ℕ)
    axes = (packed p).store.axes

    vs : List Value
    vs = values_of p
