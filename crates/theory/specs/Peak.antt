-- The peak never falls: one lemma for each loop of the model. Assumes nothing.
use Rattle.std.specs.Prelude.{Bool, true, false, ℕ, zero, suc, ◌≤◌}
use mathlib.Core.List.{List, [], ◌∷◌}
use Rattle.std.proofs.Math.Nat.{le_refl, le_trans}
use Rattle.std.proofs.Common.{arith}
use Rattle.pauli.specs.Word.{width}
use Rattle.model.specs.Lists.{when◌then◌else◌}
use Rattle.model.specs.declared.Strategy.{Strategy}
use Rattle.model.specs.declared.Strategy.TheVariants.{Merge, Litinski}
use Rattle.model.specs.Program.{Node, identity, letter, product, PauliRef, Program}
use Rattle.model.specs.declared.Absorption.{Absorption}
use Rattle.model.specs.declared.Absorption.TheVariants.{Off as off, AtOnce as at_once, Lazy as lazy}
use Rattle.model.specs.Rules.{Rules}
use Rattle.model.specs.Words.{Value, Store, tested, intern}
use Rattle.model.specs.Packing.{Pack, use_node, use_children, take_slot, pack_root, pack_roots, pack_node, pack_from, packed, SignedAxis}
use Rattle.model.specs.Clifford.{Touched, touch, touch_all, absorb_word}
use Rattle.model.specs.Items.{Item, rotation, barrier}
use Rattle.model.specs.Stream.{Place, nowhere, at, Pass, with_last, count_merge, set_angle, put_out, leave_zero, put_out_rotation, Rowed, carry_axis}
use Rattle.model.specs.Stream.{absorb}
use Rattle.model.specs.Stream.{absorb_waiting_at, absorb_waiting, absorb_all_waiting, absorb_blocking, carry_rotation, merge_at, merge_or_put_out}
use Rattle.model.specs.Stream.{take_rotation}
use Rattle.model.specs.Stream.{rules_after, stream_item, stream, carry_rows_from, carry_rows, begin}
use Rattle.model.specs.Rounds.{Work, stream_pass, exchange_pass, layering_pass, merge_round, rounds_from, closing_stream, merge_rounds, litinski_from}
use Rattle.model.specs.Rounds.{litinski_rounds}
use Rattle.model.specs.Rounds.{passes}
use Rattle.model.specs.Run.{start_of, Run, end_of, finished_run, run}
use Rattle.theory.specs.Cases.{by_if}

-- ---- storing and testing

-- testing a sum
pub tested_rises : (s : ℕ) (st : Store) → st.peak ≤ (tested s st).peak
unfolding tested
tested_rises s st = omega arith

-- storing a word
pub intern_rises : (l extra : ℕ) (st : Store) (w : List ℕ) → st.peak ≤ (intern l extra st w).peak
unfolding intern
intern_rises l extra st w = by_if (λ (x : Store). st.peak ≤ x.peak) _ _ _ (le_refl _) (omega arith)

-- ---- packing

abbrev Packs : Pack → Pack → Type 0
Packs p q = p.store.peak ≤ q.store.peak

-- using a node's children
pub use_children_rises : (node : Node) (p : Pack) → Packs p (use_children node p)
unfolding use_children use_node
use_children_rises identity p = le_refl _
use_children_rises (letter q c) p = le_refl _
use_children_rises (product a u b v) p = le_refl _

-- taking a slot
pub take_slot_rises : (l : ℕ) (p : Pack) → Packs p (take_slot l p)
unfolding take_slot
take_slot_rises l p = by_if (Packs p) _ _ _ (le_refl _) (tested_rises _ p.store)

-- a root
pub pack_root_rises : (l n : ℕ) (v : Value) (p : Pack) (r : PauliRef) → Packs p (pack_root l n v p r)
unfolding pack_root use_node
pack_root_rises l n v p r = by_if (Packs p) _ _ _ (le_refl _) (intern_rises l _ p.store v.word)

pack_roots_rises : (l n : ℕ) (v : Value) (p : Pack) (rs : List PauliRef) → Packs p (pack_roots l n v p rs)
unfolding pack_roots
pack_roots_rises l n v p [] = le_refl _
pack_roots_rises l n v p (r ∷ rs) = le_trans (by_if (Packs p) _ _ _ (le_refl _) (pack_root_rises l n v p r)) (pack_roots_rises l n v (when p.refused then p else pack_root l n v p r) rs)

pack_node_rises : (l : ℕ) (rs : List PauliRef) (vs : List Value) (n : ℕ) (node : Node) (p : Pack) → Packs p (pack_node l rs vs n node p)
unfolding pack_node
pack_node_rises l rs vs n node p =
    by_if (Packs p) _ _ _ (le_refl _)
    (le_trans (use_children_rises node p) (le_trans (take_slot_rises l (use_children node p)) (pack_roots_rises l n _ _ _)))

-- packing, from any node on
pub pack_from_rises : (l : ℕ) (rs : List PauliRef) (vs : List Value) (n : ℕ) (nodes : List Node) (p : Pack) → Packs p (pack_from l rs vs n nodes p)
unfolding pack_from
pack_from_rises l rs vs n [] p = le_refl _
pack_from_rises l rs vs n (node ∷ rest) p = le_trans (pack_node_rises l rs vs n node p) (pack_from_rises l rs vs (suc n) rest _)

-- ---- a pass

touch_rises : (l : ℕ) (t : Touched) (q : ℕ) → t.store.peak ≤ (touch l t q).store.peak
unfolding touch
touch_rises l t q = by_if (λ (x : Touched). t.store.peak ≤ x.store.peak) _ _ _ (le_refl _) (tested_rises _ t.store)

-- touching qubits
pub touch_all_rises : (l : ℕ) (t : Touched) (qs : List ℕ) → t.store.peak ≤ (touch_all l t qs).store.peak
unfolding touch_all
touch_all_rises l t [] = le_refl _
touch_all_rises l t (q ∷ qs) = le_trans (touch_rises l t q) (touch_all_rises l (touch l t q) qs)

-- q's peak is at least p's
abbrev pub Rises : Pass → Pass → Type 0
Rises p q = p.store.peak ≤ q.store.peak

module _ (l : ℕ) where
  -- absorbing
  pub absorb_rises : (p : Pass) (a k : ℕ) → Rises p (absorb l p a k)
  unfolding absorb absorb_word
  absorb_rises p a k = touch_all_rises l _ _

  -- carrying an axis
  pub carry_axis_rises : (p : Pass) (a : ℕ) → Rises p (carry_axis l p a)
  unfolding carry_axis
  carry_axis_rises p a = intern_rises l _ p.store _

  absorb_waiting_at_rises : (picks : ℕ → Bool) (p : Pass) (j : ℕ) (i : Item) → Rises p (absorb_waiting_at l picks p j i)
  unfolding absorb_waiting_at leave_zero set_angle with_last
  absorb_waiting_at_rises picks p j (rotation r) = by_if (Rises p) _ _ _ (absorb_rises p r.axis r.angle) (le_refl _)
  absorb_waiting_at_rises picks p j (barrier o a s) = le_refl _

  -- absorbing what waits
  pub absorb_waiting_rises : (picks : ℕ → Bool) (p : Pass) (j : ℕ) (is : List Item) → Rises p (absorb_waiting l picks p j is)
  unfolding absorb_waiting
  absorb_waiting_rises picks p j [] = le_refl _
  absorb_waiting_rises picks p j (i ∷ is) = le_trans (absorb_waiting_at_rises picks p j i) (absorb_waiting_rises picks (absorb_waiting_at l picks p j i) (suc j) is)

  absorb_all_waiting_rises : (m : Absorption) (p : Pass) → Rises p (absorb_all_waiting l m p)
  unfolding absorb_all_waiting
  absorb_all_waiting_rises off p = le_refl _
  absorb_all_waiting_rises at_once p = le_refl _
  absorb_all_waiting_rises lazy p = absorb_waiting_rises _ p 0 p.out

  absorb_blocking_rises : (p : Pass) (a : ℕ) → Rises p (absorb_blocking l p a)
  unfolding absorb_blocking
  absorb_blocking_rises p a = le_trans (carry_axis_rises p a) (absorb_waiting_rises _ _ 0 _)

  carry_rotation_rises : (m : Absorption) (p : Pass) (a : ℕ) → Rises p (carry_rotation l m p a).pass
  unfolding carry_rotation
  carry_rotation_rises off p a = carry_axis_rises p a
  carry_rotation_rises at_once p a = carry_axis_rises p a
  carry_rotation_rises lazy p a = le_trans (absorb_blocking_rises p a) (carry_axis_rises _ a)

  merge_at_rises : (m : Absorption) (p : Pass) (j a k : ℕ) → Rises p (merge_at l m p j a k)
  unfolding merge_at leave_zero set_angle with_last
  merge_at_rises m p j a k = by_if (Rises p) _ _ _ (absorb_rises p a k) (by_if (Rises p) _ _ _ (le_refl _) (le_refl _))

  merge_or_put_out_rises : (r : Rules) (p : Pass) (a k : ℕ) (j : Place) → Rises p (merge_or_put_out l r p a k j)
  unfolding merge_or_put_out put_out_rotation put_out with_last count_merge
  merge_or_put_out_rises r p a k nowhere = le_refl _
  merge_or_put_out_rises r p a k (at j) = by_if (Rises p) _ _ _ (merge_at_rises r.absorption _ j a _) (le_refl _)

  pub take_rotation_rises : (r : Rules) (b : Bool) (p : Pass) (a k : ℕ) → Rises p (take_rotation l r b p a k)
  unfolding take_rotation
  take_rotation_rises r b p a k = by_if (Rises p) _ _ _ (absorb_rises p a k) (merge_or_put_out_rises r p a k _)

  -- an item of a stream
  pub stream_item_rises : (r : Rules) (b : Bool) (p : Pass) (i : Item) → Rises p (stream_item l r b p i)
  unfolding stream_item put_out with_last
  stream_item_rises r b p (rotation t) = le_trans (carry_rotation_rises r.absorption p t.axis) (take_rotation_rises r b _ _ _)
  stream_item_rises r b p (barrier o a s) = le_trans (absorb_all_waiting_rises r.absorption p) (carry_axis_rises _ a)

  -- a stream, from any state on
  pub stream_rises : (r : Rules) (b : Bool) (p : Pass) (is : List Item) → Rises p (stream l r b p is)
  unfolding stream
  stream_rises r b p [] = absorb_all_waiting_rises r.absorption p
  stream_rises r b p (i ∷ is) = le_trans (stream_item_rises r b p i) (stream_rises (rules_after r i) b (stream_item l r b p i) is)

  -- carrying rows, from any row on
  pub carry_rows_from_rises : (p : Pass) (done rows : List SignedAxis) → Rises p (carry_rows_from l p done rows).pass
  unfolding carry_rows_from
  carry_rows_from_rises p done [] = le_refl _
  carry_rows_from_rises p done (f ∷ rest) = le_trans (carry_axis_rises p f.axis) (carry_rows_from_rises (carry_axis l p f.axis) _ rest)

  -- carrying the rows
  pub carry_rows_rises : (p : Pass) (rows : List SignedAxis) → Rises p (carry_rows l p rows).pass
  unfolding carry_rows
  carry_rows_rises p rows = by_if (λ (x : Rowed). Rises p x.pass) _ _ _ (le_refl _) (carry_rows_from_rises p [] rows)

-- ---- the run

-- v's peak is at least w's
abbrev pub Works : Work → Work → Type 0
Works w v = w.store.peak ≤ v.store.peak

-- a streaming pass
pub stream_pass_rises : (l : ℕ) (r : Rules) (b : Bool) (w : Work) → Works w (stream_pass l r b w)
unfolding stream_pass begin
stream_pass_rises l r b w = le_trans (stream_rises l r b _ w.items) (carry_rows_rises l _ w.rows)

-- an exchange
pub exchange_pass_rises : (l : ℕ) (r : Rules) (w : Work) → Works w (exchange_pass l r w)
unfolding exchange_pass
exchange_pass_rises l r w = by_if (Works w) _ _ _ (le_refl _) (le_refl _)

-- rounds, from any round on
pub rounds_from_rises : (l : ℕ) (r : Rules) (k : ℕ) (going : Bool) (b : _) (w : Work) → Works w (rounds_from l r k going b w)
unfolding rounds_from merge_round
rounds_from_rises l r zero going b w = le_refl _
rounds_from_rises l r (suc k) false b w = le_refl _
rounds_from_rises l r (suc k) true b w =
    le_trans (stream_pass_rises l r true w) (le_trans (exchange_pass_rises l r _) (rounds_from_rises l r k _ _ _))

-- the closing stream
pub closing_stream_rises : (l : ℕ) (r : Rules) (k : ℕ) (w : Work) → Works w (closing_stream l r k w)
unfolding closing_stream
closing_stream_rises l r zero w = le_refl _
closing_stream_rises l r (suc k) w = by_if (Works w) _ _ _ (stream_pass_rises l r true w) (le_refl _)

-- Litinski's rounds, from any round on
pub litinski_from_rises : (l : ℕ) (r : Rules) (k : ℕ) (w : Work) → Works w (litinski_from l r k w)
unfolding litinski_from layering_pass
litinski_from_rises l r zero w = le_refl _
litinski_from_rises l r (suc k) w =
    by_if (Works w) _ _ _ (le_refl _) (le_trans (stream_pass_rises l r false (layering_pass l w)) (litinski_from_rises l r k _))

-- all passes
pub passes_rises : (s : Strategy) (l : ℕ) (r : Rules) (k : ℕ) (w : Work) → Works w (passes s l r k w)
unfolding passes merge_rounds litinski_rounds
passes_rises Merge l r k w =
    le_trans (rounds_from_rises l r k true _ w) (closing_stream_rises l r k _)
passes_rises Litinski l r zero w = le_refl _
passes_rises Litinski l r (suc k) w = le_trans (stream_pass_rises l r false w) (litinski_from_rises l r (suc k) _)

-- a run: the peak of its packing is at most its own
pub run_rises : (r : Rules) (k : ℕ) (p : Program) → (packed p).store.peak ≤ (run r k p).peak
unfolding run finished_run end_of start_of
run_rises r k p = by_if (λ (x : Run). (packed p).store.peak ≤ x.peak) _ _ _ (le_refl _) (passes_rises r.strategy (width p.qubits) r k _)
