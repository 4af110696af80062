-- What is allocated stays within the sums that were tested: slots and axes in packing, axes and images in a pass. Assumes nothing.
use Rattle.std.specs.Prelude.{◌≡◌, refl, List, [], ◌∷◌, ◌++◌, ℕ, suc, ◌+◌, ◌*◌, ◌/◌, ◌≤◌, ◌<◌}
use Rattle.std.proofs.Common.{sym, ◌∙◌, le_trans, one-mul, zero-mul, mul_assoc, mul_left_comm, le-div_iff_mul-le, arith, length-append}
use Rattle.std.proofs.Math.Nat.{add-mul}
use Rattle.std.proofs.Math.ListN.{length}
use Rattle.std.proofs.lemmas.List.{length-map}
use Rattle.pauli.specs.Word.{width}
use Rattle.model.specs.Lists.{when◌then◌else◌}
use Rattle.model.specs.Program.{Node, identity, letter, product, PauliRef, Program}
use Rattle.model.specs.Words.{Value, word_of, Store, tested, intern, support}
use Rattle.model.specs.Value.{value_at}
use Rattle.model.specs.Roots.{roots}
use Rattle.model.specs.Packing.{roots_at, Pack, use_node, use_children, take_slot, pack_root, pack_roots, pack_node, pack_from, empty_pack, values_of}
use Rattle.model.specs.Packing.{packed}
use Rattle.model.specs.Packing.{SignedAxis}
use Rattle.model.specs.Clifford.{Images, absorb_images, image_words, own_images, Touched, touch, touch_all, absorb_word}
use Rattle.model.specs.Stream.{Pass, with_last, count_merge, set_angle, put_out, leave_zero, carry_axis, absorb, put_out_rotation}
use Rattle.model.specs.Stream.{carry_rows}
use Rattle.model.specs.Stream.{begin}
use Rattle.theory.specs.Cases.{by_if}
use Rattle.run_wellformed.specs.StreamSteps.{KeptBySteps, carry_rows_by}

-- ---- the store

-- the words of the axes are within the sums that were tested
abbrev pub StoreFits : ℕ → Store → Type 0
StoreFits l st = length st.axes * (2 * l) ≤ st.peak

-- with the other words that an intern counts
pub intern_fits : (l others : ℕ) (st : Store) (w : List ℕ) → length st.axes * (2 * l) + others ≤ st.peak
    → length (intern l others st w).axes * (2 * l) + others ≤ (intern l others st w).peak
unfolding intern
intern_fits l others st w h =
    by_if (λ (x : Store). length x.axes * (2 * l) + others ≤ x.peak) _ _ _ h
    (rw (length-append st.axes (w ∷ []), add-mul (length st.axes) 1 (2 * l), one-mul (2 * l)) (omega arith))

-- ---- packing

-- "(slots with the new one + axes) × 2l", "stored + 2l + all slot words": slots and axes are within the sums that were tested
abbrev pub PackFits : ℕ → Pack → Type 0
PackFits l p = (p.slots + length p.store.axes) * (2 * l) ≤ p.store.peak

-- a use frees a slot, and allocates none
pub use_children_fits : (l : ℕ) (node : Node) (p : Pack) → PackFits l p → PackFits l (use_children node p)
unfolding use_children use_node
use_children_fits l identity p h = h
use_children_fits l (letter q c) p h = h
use_children_fits l (product a u b v) p h = h

-- a new slot was tested with the axes stored then
pub take_slot_fits : (l : ℕ) (p : Pack) → PackFits l p → PackFits l (take_slot l p)
unfolding take_slot tested
take_slot_fits l p h = by_if (PackFits l) _ _ _ h (omega arith)

-- a new axis was tested with all slot words
pub pack_root_fits : (l n : ℕ) (v : Value) (p : Pack) (r : PauliRef) → PackFits l p → PackFits l (pack_root l n v p r)
unfolding pack_root use_node
pack_root_fits l n v p r h =
    by_if (PackFits l) _ _ _ h
    (let s = intern l (p.slots * (2 * l)) p.store v.word in
    let e = add-mul p.slots (length p.store.axes) (2 * l) in
    let f = add-mul p.slots (length s.axes) (2 * l) in
    omega (arith, intern_fits l (p.slots * (2 * l)) p.store v.word (omega arith)))

-- the roots at a node
pub pack_roots_fits : (l n : ℕ) (v : Value) (p : Pack) (rs : List PauliRef) → PackFits l p → PackFits l (pack_roots l n v p rs)
unfolding pack_roots
pack_roots_fits l n v p [] h = h
pack_roots_fits l n v p (r ∷ rs) h =
    pack_roots_fits l n v (when p.refused then p else pack_root l n v p r) rs (by_if (PackFits l) p.refused p (pack_root l n v p r) h (pack_root_fits l n v p r h))

-- a node's turn
pub pack_node_fits : (l : ℕ) (rs : List PauliRef) (vs : List Value) (n : ℕ) (node : Node) (p : Pack) → PackFits l p
    → PackFits l (pack_node l rs vs n node p)
unfolding pack_node
pack_node_fits l rs vs n node p h =
    by_if (PackFits l) _ _ _ h
    (pack_roots_fits l n (value_at vs n) (take_slot l (use_children node p)) (roots_at n rs)
    (take_slot_fits l (use_children node p) (use_children_fits l node p h)))

-- at every point of packing: from node n on
pub pack_from_fits : (l : ℕ) (rs : List PauliRef) (vs : List Value) (n : ℕ) (nodes : List Node) (p : Pack) → PackFits l p
    → PackFits l (pack_from l rs vs n nodes p)
unfolding pack_from
pack_from_fits l rs vs n [] p h = h
pack_from_fits l rs vs n (node ∷ rest) p h = pack_from_fits l rs vs (suc n) rest (pack_node l rs vs n node p) (pack_node_fits l rs vs n node p h)

-- at first there is nothing
pub empty_pack_fits : (l : ℕ) (nodes : List Node) (rs : List PauliRef) → PackFits l (empty_pack nodes rs)
unfolding empty_pack
empty_pack_fits l nodes rs = omega (arith, zero-mul (2 * l))

-- and when all is packed
pub packed_fits : (p : Program) → PackFits (width p.qubits) (packed p)
unfolding packed
packed_fits p = pack_from_fits (width p.qubits) (roots p) (values_of p) 0 p.nodes _ (empty_pack_fits (width p.qubits) p.nodes (roots p))

-- what packing leaves to the passes
pub packed_store : (p : Program) → StoreFits (width p.qubits) (packed p).store
packed_store p =
    omega (arith, packed_fits p, add-mul (packed p).slots (length (packed p).store.axes) (2 * width p.qubits))

-- ---- a pass

-- axes and images are within the sums that were tested
abbrev pub TouchedFits : ℕ → Touched → Type 0
TouchedFits l t = length t.store.axes * (2 * l) + image_words l t.held ≤ t.store.peak

image_words_one : (l : ℕ) (held : List Images) (h : Images) → image_words l (held ++ (h ∷ [])) ≡ image_words l held + 6 * l
unfolding image_words
image_words_one l held h = rw (length-append held (h ∷ []), add-mul (length held) 1 (6 * l), one-mul (6 * l)) refl

-- a first touch was tested with the axes and the images
pub touch_fits : (l : ℕ) (t : Touched) (q : ℕ) → TouchedFits l t → TouchedFits l (touch l t q)
unfolding touch tested
touch_fits l t q h = by_if (TouchedFits l) _ _ _ h (omega (arith, image_words_one l t.held (own_images l q)))

-- the qubits of a word
pub touch_all_fits : (l : ℕ) (t : Touched) (qs : List ℕ) → TouchedFits l t → TouchedFits l (touch_all l t qs)
unfolding touch_all
touch_all_fits l t [] h = h
touch_all_fits l t (q ∷ qs) h = touch_all_fits l (touch l t q) qs (touch_fits l t q h)

-- an absorption touches; then it holds as many images as before
pub absorb_word_fits : (l : ℕ) (t : Touched) (b : List ℕ) (k : ℕ) → TouchedFits l t → TouchedFits l (absorb_word l t b k)
unfolding absorb_word image_words
absorb_word_fits l t b k h =
    let touched = touch_all l t (support l b) in
    rw (length-map touched.held (absorb_images l b k)) (unfold image_words in (touch_all_fits l t (support l b) (unfold image_words in h)))

-- the same of the state of a pass
abbrev pub PassFits : ℕ → Pass → Type 0
PassFits l p = length p.store.axes * (2 * l) + image_words l p.held ≤ p.store.peak

-- at every point of a stream (StreamSteps)
pub fits_kept : (l : ℕ) → KeptBySteps l (λ n p. PassFits l p)
unfolding carry_axis absorb leave_zero with_last count_merge set_angle put_out_rotation put_out
fits_kept l = record {
  more = λ n p h. h;
  carries = λ n p a h. intern_fits l (image_words l p.held) p.store _ h;
  absorbs = λ n p a k c h. absorb_word_fits l (record { store = p.store; held = p.held }) (word_of p.store.axes a) k h;
  zeroes = λ n p j a h. h;
  counts = λ n p h. h;
  turns = λ n p j a k b h. h;
  puts = λ n p a k b h. h;
  bars = λ n p o a s h. h;
}

-- when the frame rows were carried, or kept
pub carry_rows_fits : (l : ℕ) (p : Pass) (rows : List SignedAxis) → PassFits l p → PassFits l (carry_rows l p rows).pass
carry_rows_fits l p rows h = carry_rows_by l (λ n p. PassFits l p) (fits_kept l) 0 p rows h

-- at the start of a pass no image is held
pub begin_fits : (l : ℕ) (st : Store) → StoreFits l st → PassFits l (begin st)
unfolding begin image_words
begin_fits l st h = omega (arith, zero-mul (6 * l))

-- what a pass leaves
pub pass_store : (l : ℕ) (p : Pass) → PassFits l p → StoreFits l p.store
pass_store l p h = omega arith

-- ---- within the limit: what the layout of memory needs

-- a word has two numbers at least
pub width_positive : (q : ℕ) → 0 < width q
unfolding width
width_positive q = omega arith

double_positive : (l : ℕ) → 0 < l → 0 < 2 * l
double_positive l h = omega arith

-- three images of 2 × l words are 6 × l words
three_images : (h l : ℕ) → 3 * h * (2 * l) ≡ h * (6 * l)
three_images h l = let e : 6 * l ≡ 3 * (2 * l) = omega arith in rw e (mul_assoc 3 h (2 * l) ∙ sym (mul_left_comm h 3 (2 * l)))

module _ (l limit : ℕ) (positive : 0 < l) where
  -- the axes stored
  pub axes_within : (st : Store) → StoreFits l st → st.peak ≤ limit → length st.axes ≤ limit / (2 * l)
  axes_within st h b = (le-div_iff_mul-le (double_positive l positive)).1 (le_trans h b)

  -- slots and axes together
  pub slots_and_axes_within : (p : Pack) → PackFits l p → p.store.peak ≤ limit → p.slots + length p.store.axes ≤ limit / (2 * l)
  slots_and_axes_within p h b = (le-div_iff_mul-le (double_positive l positive)).1 (le_trans h b)

  -- an axis is 2 × l words, a held qubit three images of 2 × l words each
  pub images_and_axes_within : (p : Pass) → PassFits l p → p.store.peak ≤ limit
      → 3 * length p.held + length p.store.axes ≤ limit / (2 * l)
  unfolding image_words
  images_and_axes_within p h b =
      let e = add-mul (3 * length p.held) (length p.store.axes) (2 * l) in
      (le-div_iff_mul-le (double_positive l positive)).1 (omega (arith, three_images (length p.held) l))
