-- Every point of a run: angles are 1 to 7, there are at most as many items as operations, the axes are within the sums tested. Assumes nothing.
use Rattle.std.specs.Prelude.{◌≡◌, refl, Bool, ◌||◌, List, [], ◌∷◌, eqb, length}
use Rattle.std.proofs.Common.{◌∙◌, le_refl, zero-add, arith, length-append, length-set}
use Rattle.std.proofs.Math.Bool.{true, false}
use Prim.Native.Nat.{ℕ, zero, suc, ◌≤◌}
use Rattle.std.proofs.Math.Nat.{le_trans}
use Rattle.std.proofs.lemmas.Bool.{eqb-false, not-true}
use Rattle.pauli.specs.Word.{width, is_identity}
use Rattle.model.specs.declared.Strategy.{Strategy}
use Rattle.model.specs.declared.Strategy.TheVariants.{Merge, Litinski}
use Rattle.model.specs.Lists.{keep}
use Rattle.model.specs.Program.{Kind, rotate, measure, conditional, Operation, Program}
use Rattle.model.specs.Rules.{Rules}
use Rattle.model.specs.Words.{Value, word_of, Store}
use Rattle.model.specs.Roots.{operation_root}
use Rattle.model.specs.Packing.{SignedAxis, signed_axis}
use Rattle.model.specs.Items.{rot, Item, rotation, barrier, with_sign, is_nonzero, stays, drop_zeros}
use Rattle.model.specs.Stream.{Pass, with_last, count_merge, set_angle, put_out, leave_zero, carry_axis, absorb, put_out_rotation, stream}
use Rattle.model.specs.Stream.{carry_rows, begin}
use Rattle.model.specs.Exchange.{swaps}
use Rattle.model.specs.Layering.{layer_segment}
use Rattle.model.specs.Rounds.{Work, stream_pass, exchange_pass, layering_pass, merge_round, RoundBefore, no_round, rounds_from, closing_stream}
use Rattle.model.specs.Rounds.{merge_rounds}
use Rattle.model.specs.Rounds.{litinski_from}
use Rattle.model.specs.Rounds.{litinski_rounds, passes}
use Rattle.model.specs.Run.{item_of, items_from, start_of}
use Rattle.theory.specs.Cases.{by_if, on_if}
use Rattle.theory.specs.Every.{Every, every_append}
use Rattle.theory.specs.StreamState.{InRange}
use Rattle.theory.specs.Segments.{swaps_by, layer_segment_by, rewrite_segments_every}
use Rattle.theory.specs.Steady.{Steady, stream_pass_steady, exchange_pass_steady, layering_pass_steady}
use Rattle.theory.specs.Checked.{SmallAngle, Fine}
use Rattle.words_wellformed.specs.PassWords.{after_items}
use Rattle.words_wellformed.specs.RunWords.{Turns, TurnsItem}
use Rattle.run_wellformed.specs.CliffordAngles.{SmallItem, turns_merging, with_sign_small}
use Rattle.run_wellformed.specs.StreamSteps.{KeptBySteps, after_items_by, stream_by, small_kept, Absorbed, unmoved}
use Rattle.run_wellformed.specs.StreamSteps.{absorbed_kept}
use Rattle.run_wellformed.specs.Memory.{StoreFits, packed_store, PassFits, fits_kept, begin_fits, carry_rows_fits, pass_store}
use Rattle.run_wellformed.specs.SegmentLengths.{keep_length, swaps_length, layer_segment_length, rewrite_segments_length}

-- ---- a stream puts out at most as many items as it reads

-- an item that is read puts out one at most
pub length_kept : (l : ℕ) → KeptBySteps l (λ n p. length p.out ≤ n)
unfolding carry_axis absorb leave_zero with_last count_merge set_angle put_out_rotation put_out
length_kept l = record {
  more = λ n p h. omega arith;
  carries = λ n p a h. h;
  absorbs = λ n p a k c h. h;
  zeroes = λ n p j a h. omega (arith, length-set p.out j (rotation (rot a 0)));
  counts = λ n p h. h;
  turns = λ n p j a k b h. omega (arith, length-set p.out j (rotation (rot a k)));
  puts = λ n p a k b h. omega (arith, length-append p.out (rotation (rot a k) ∷ []));
  bars = λ n p o a s h. omega (arith, length-append p.out (barrier o a s ∷ []));
}

-- ---- the points of a run: the start, and what each pass leaves of a point

-- any pass may follow any other: more points than one run has
pub data Reached (l : ℕ) (r : Rules) (w : Work) : Work → Type 0 where
  start : Reached l r w w
  streamed : {v : Work} (merging : Bool) → Reached l r w v → Reached l r w (stream_pass l r merging v)
  exchanged : {v : Work} → Reached l r w v → Reached l r w (exchange_pass l r v)
  layered : {v : Work} → Reached l r w v → Reached l r w (layering_pass l v)

module _ (l : ℕ) (r : Rules) (w : Work) where
  rounds_from_reached : (k : ℕ) (going : Bool) (b : RoundBefore) (v : Work) → Reached l r w v → Reached l r w (rounds_from l r k going b v)
  unfolding rounds_from merge_round
  rounds_from_reached zero going b v h = h
  rounds_from_reached (suc k) false b v h = h
  rounds_from_reached (suc k) true b v h = rounds_from_reached k _ _ (exchange_pass l r (stream_pass l r true v)) (exchanged (streamed true h))

  closing_stream_reached : (k : ℕ) (v : Work) → Reached l r w v → Reached l r w (closing_stream l r k v)
  unfolding closing_stream
  closing_stream_reached zero v h = h
  closing_stream_reached (suc k) v h = by_if (Reached l r w) _ _ _ (streamed true h) h

  litinski_from_reached : (k : ℕ) (v : Work) → Reached l r w v → Reached l r w (litinski_from l r k v)
  unfolding litinski_from
  litinski_from_reached zero v h = h
  litinski_from_reached (suc k) v h =
      by_if (Reached l r w) _ _ _ (layered h) (litinski_from_reached k (stream_pass l r false (layering_pass l v)) (streamed false (layered h)))

  -- the end of the passes is a point of the run
  pub passes_reached : (s : Strategy) (k : ℕ) → Reached l r w (passes s l r k w)
  unfolding passes merge_rounds litinski_rounds
  passes_reached Merge k = closing_stream_reached k (rounds_from l r k true no_round w) (rounds_from_reached k true no_round w start)
  passes_reached Litinski zero = start
  passes_reached Litinski (suc k) = litinski_from_reached (suc k) (stream_pass l r false w) (streamed false start)

-- ---- what holds at every point of a stream that has read n items

pub record StreamFormed (l n : ℕ) (p : Pass) : Type 0 where
  -- angles are 0 to 7
  pub small : Every SmallItem p.out
  -- no more was put out than was read
  pub short : length p.out ≤ n
  -- axes and images are within the sums that were tested
  pub fits : PassFits l p
  -- F took in the angles 2, 4 and 6 alone
  pub absorbed : Absorbed l p.held

-- each step keeps all four
pub formed_kept : (l : ℕ) → KeptBySteps l (StreamFormed l)
formed_kept l =
    let s = small_kept l in
    let t = length_kept l in
    let f = fits_kept l in
    let g = absorbed_kept l in
    record {
      more = λ n p h. record { small = h.small; short = t.more n p h.short; fits = h.fits; absorbed = h.absorbed };
      carries = λ n p a h. record {
        small = s.carries n p a h.small;
        short = t.carries n p a h.short;
        fits = f.carries n p a h.fits;
        absorbed = g.carries n p a h.absorbed;
      };
      absorbs = λ n p a k c h. record {
        small = s.absorbs n p a k c h.small;
        short = t.absorbs n p a k c h.short;
        fits = f.absorbs n p a k c h.fits;
        absorbed = g.absorbs n p a k c h.absorbed;
      };
      zeroes = λ n p j a h. record {
        small = s.zeroes n p j a h.small;
        short = t.zeroes n p j a h.short;
        fits = f.zeroes n p j a h.fits;
        absorbed = g.zeroes n p j a h.absorbed;
      };
      counts = λ n p h. record {
        small = s.counts n p h.small;
        short = t.counts n p h.short;
        fits = f.counts n p h.fits;
        absorbed = g.counts n p h.absorbed;
      };
      turns = λ n p j a k b h. record {
        small = s.turns n p j a k b h.small;
        short = t.turns n p j a k b h.short;
        fits = f.turns n p j a k b h.fits;
        absorbed = g.turns n p j a k b h.absorbed;
      };
      puts = λ n p a k b h. record {
        small = s.puts n p a k b h.small;
        short = t.puts n p a k b h.short;
        fits = f.puts n p a k b h.fits;
        absorbed = g.puts n p a k b h.absorbed;
      };
      bars = λ n p o a c h. record {
        small = s.bars n p o a c h.small;
        short = t.bars n p o a c h.short;
        fits = f.bars n p o a c h.fits;
        absorbed = g.bars n p o a c h.absorbed;
      };
    }

module _ (l : ℕ) (r : Rules) (merging : Bool) where
  -- at the start
  pub begin_formed : (st : Store) → StoreFits l st → StreamFormed l 0 (begin st)
  begin_formed st h = record {
    small = unfold begin in tt;
    short = unfold begin in (le_refl _);
    fits = begin_fits l st h;
    absorbed = unfold begin in unmoved;
  }

  -- after any items
  pub after_items_formed : (st : Store) (is : List Item) → Every TurnsItem is → StoreFits l st
      → StreamFormed l (length is) (after_items l r merging (begin st) is)
  after_items_formed st is b h =
      let g = after_items_by l (StreamFormed l) (formed_kept l) (λ n p g. g.small) 0 r merging (begin st) is b (begin_formed st h) in
      rw (zero-add (length is)) at g

  -- and at the end
  pub stream_formed : (st : Store) (is : List Item) → Every TurnsItem is → StoreFits l st
      → StreamFormed l (length is) (stream l r merging (begin st) is)
  stream_formed st is b h =
      let g = stream_by l (StreamFormed l) (formed_kept l) (λ n p g. g.small) 0 r merging (begin st) is b (begin_formed st h) in
      rw (zero-add (length is)) at g

-- ---- what holds at every point of a run: at most n items

pub record WellFormed (l n : ℕ) (w : Work) : Type 0 where
  -- angles are 1 to 7
  pub turns : Every TurnsItem w.items
  pub short : length w.items ≤ n
  -- the axes are within the sums that were tested
  pub fits : StoreFits l w.store

nonzero_turns : (is : List Item) → Every SmallItem is → Every TurnsItem (drop_zeros is)
unfolding drop_zeros keep
nonzero_turns [] h = tt
nonzero_turns (rotation r ∷ is) h =
    on_if (Every TurnsItem) (is_nonzero r) (rotation r ∷ keep stays is) (keep stays is)
    (λ e. ((let n = eqb-false r.angle 0 (not-true _ e) in omega arith, h.0), nonzero_turns is h.1)) (λ e. nonzero_turns is h.1)
nonzero_turns (barrier o a s ∷ is) h =
    by_if (Every TurnsItem) _ (barrier o a s ∷ keep stays is) _ (tt, nonzero_turns is h.1) (nonzero_turns is h.1)

module _ (l n : ℕ) (r : Rules) where
  -- a stream, its zeros removed and the rows carried
  pub stream_pass_formed : (merging : Bool) (w : Work) → WellFormed l n w → WellFormed l n (stream_pass l r merging w)
  unfolding stream_pass drop_zeros
  stream_pass_formed merging w h =
      let p = stream l r merging (begin w.store) w.items in
      let g = stream_formed l r merging w.store w.items h.turns h.fits in
      record {
        turns = nonzero_turns p.out g.small;
        short = omega (arith, keep_length stays p.out, g.short, h.short);
        fits = pass_store l (carry_rows l p w.rows).pass (carry_rows_fits l p w.rows g.fits);
      }

  -- an exchange in each segment
  pub exchange_pass_formed : (w : Work) → WellFormed l n w → WellFormed l n (exchange_pass l r w)
  unfolding exchange_pass
  exchange_pass_formed w h =
      let f = swaps l w.store.axes r.exchange in
      let kept = swaps_by _ Turns turns_merging l w.store.axes r.exchange in
      by_if (WellFormed l n) _ _ _ h
      (record {
        turns = rewrite_segments_every Turns TurnsItem (λ r k. k) (λ r k. k) f kept w.items h.turns;
        short = le_trans (rewrite_segments_length f (swaps_length l w.store.axes r.exchange) w.items) h.short;
        fits = h.fits;
      })

  -- layers in each segment
  pub layering_pass_formed : (w : Work) → WellFormed l n w → WellFormed l n (layering_pass l w)
  unfolding layering_pass
  layering_pass_formed w h =
      let f = layer_segment l w.store.axes in
      let kept = layer_segment_by _ Turns turns_merging l w.store.axes in
      record {
        turns = rewrite_segments_every Turns TurnsItem (λ r k. k) (λ r k. k) f kept w.items h.turns;
        short = le_trans (rewrite_segments_length f (layer_segment_length l w.store.axes) w.items) h.short;
        fits = h.fits;
      }

  -- so every point
  pub reached_formed : {w v : Work} → Reached l r w v → WellFormed l n w → WellFormed l n v
  reached_formed start h = h
  reached_formed (streamed {v} merging g) h = stream_pass_formed merging v (reached_formed g h)
  reached_formed (exchanged {v} g) h = exchange_pass_formed v (reached_formed g h)
  reached_formed (layered {v} g) h = layering_pass_formed v (reached_formed g h)

-- ---- axes in range and barriers, at every point

module _ (l : ℕ) (r : Rules) where
  -- the axes of a point are in range, and its barriers are those of the start, in order
  pub reached_steady : {w v : Work} → Reached l r w v → InRange w → Steady w v
  reached_steady start h = record { range = h; barriers = refl }
  reached_steady (streamed {v} merging g) h =
      let k = reached_steady g h in
      let s = stream_pass_steady l r merging v k.range in
      record { range = s.range; barriers = s.barriers ∙ k.barriers }
  reached_steady (exchanged {v} g) h =
      let k = reached_steady g h in
      let s = exchange_pass_steady l r v k.range in
      record { range = s.range; barriers = s.barriers ∙ k.barriers }
  reached_steady (layered {v} g) h =
      let k = reached_steady g h in
      let s = layering_pass_steady l v k.range in
      record { range = s.range; barriers = s.barriers ∙ k.barriers }

-- ---- the start

or_left : (x y : Bool) → x || y ≡ false → x ≡ false
or_left true y h = h
or_left false y h = refl

item_of_turns : (axes : List (List ℕ)) (o : ℕ) (kind : Kind) (f : SignedAxis) (k : ℕ) → k ≤ 7 → Every TurnsItem (item_of axes o kind f k)
unfolding item_of
item_of_turns axes o rotate f k b =
    on_if (Every TurnsItem) (eqb (with_sign f.sign k) 0 || is_identity (word_of axes f.axis)) []
    (rotation (rot f.axis (with_sign f.sign k)) ∷ [])
    (λ e. tt)
    (λ e. (
      (
        let n = eqb-false (with_sign f.sign k) 0 (or_left _ (is_identity (word_of axes f.axis)) e) in omega arith,
        with_sign_small
            f.sign k b,
      ),
      tt,
    ))
item_of_turns axes o measure f k b = (tt, tt)
item_of_turns axes o conditional f k b = (tt, tt)

item_of_length : (axes : List (List ℕ)) (o : ℕ) (kind : Kind) (f : SignedAxis) (k : ℕ) → length (item_of axes o kind f k) ≤ 1
unfolding item_of
item_of_length axes o rotate f k = by_if (λ (x : List Item). length x ≤ 1) _ [] _ (omega arith) (le_refl _)
item_of_length axes o measure f k = le_refl _
item_of_length axes o conditional f k = le_refl _

items_from_turns : (axes : List (List ℕ)) (vs : List Value) (o : ℕ) (ops : List Operation) → Every SmallAngle ops
    → Every TurnsItem (items_from axes vs o ops)
unfolding items_from
items_from_turns axes vs o [] h = tt
items_from_turns axes vs o (op ∷ ops) h =
    every_append TurnsItem (item_of axes o op.kind (signed_axis axes vs (operation_root op)) op.angle) (items_from axes vs (suc o) ops)
    (item_of_turns axes o op.kind (signed_axis axes vs (operation_root op)) op.angle h.0) (items_from_turns axes vs (suc o) ops h.1)

items_from_length : (axes : List (List ℕ)) (vs : List Value) (o : ℕ) (ops : List Operation) → length (items_from axes vs o ops) ≤ length ops
unfolding items_from
items_from_length axes vs o [] = le_refl _
items_from_length axes vs o (op ∷ ops) =
    let one = item_of axes o op.kind (signed_axis axes vs (operation_root op)) op.angle in
    omega (
      arith,
      length-append one (items_from axes vs (suc o) ops),
      item_of_length axes o op.kind (signed_axis axes vs (operation_root op)) op.angle,
      items_from_length axes vs (suc o) ops,
    )

-- the start of a program that Checking passes
pub start_formed : (p : Program) → Fine p → WellFormed (width p.qubits) (length p.operations) (start_of p)
unfolding start_of
start_formed p fine = record {
  turns = items_from_turns _ _ 0 p.operations fine.angles;
  short = items_from_length _ _ 0 p.operations;
  fits = packed_store p;
}
