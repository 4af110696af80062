-- What the functions over slots leave, shown from what their callees leave. Assumes nothing.
use Rattle.std.specs.Prelude.{◌≡◌, ℕ, ◌+◌, ◌-◌, ◌*◌, ◌/◌, ◌%◌, ◌≤◌, ◌<◌, max, take, drop, replicate, Ok, Err}
use Rattle.std.proofs.Math.Path.{refl, sym, ap}
use Rattle.std.proofs.Common.{◌∙◌, subst, inr, add-mul, one-mul, arith}
use Rattle.std.proofs.Math.Bool.{true, false}
use mathlib.Core.List.{List, [], ◌∷◌}
use Rattle.std.proofs.Math.Nat.{add-zero}
use Rattle.std.proofs.Math.Dec.{eqb}
use Rattle.std.proofs.Math.ListN.{length, get_or, set}
use borrow.Author.Tests.{lt-ltb, le-ltb, eq-eqb, ne_eqb}
use borrow.Rule.Slice.PartMut.{put_mid}
use Rattle.bits.specs.Remainder.{same4}
use Rattle.store.specs.Part.{part, put, zeros_lent}
use Rattle.store.specs.Row.{row, Written}
use Rattle.store.specs.Copy.{CopyPre}
use Rattle.pauli.specs.Word.{identity as identity_word}
use Rattle.pauli.specs.Letter.{single}
use Rattle.pauli.specs.ProductLaws.{phase_lt}
use Rattle.product.specs.Product.{StoredPre, StoredProduct}
use Rattle.model.specs.Lists.{when◌then◌else◌, all_of, any_of, member}
use Rattle.model.specs.Words.{Value, as_value, scaled, multiply}
use Rattle.model.specs.Value.{node_value}
use Rattle.theory.specs.Cases.{by_if, if_true, if_false}
use Rattle.layout.specs.declared.Shape.{Shape}
use Rattle.layout.specs.Rows.{row_count, uses_row, node_slot, node_phase, free_row, written_row}
use Rattle.layout.specs.Only.{Only, only_none, only_then, only_of, only_written}
use Rattle.layout.specs.Words.{scratch_place, slot_place, slot_ends}
use Rattle.records.specs.declared.NodeRecord.{NodeRecord}
use Rattle.records.specs.declared.Factor.{Factor}
use Rattle.records.specs.declared.NodeRecord.TheVariants.{Identity, Letter, Product}
use Rattle.records.specs.Records.{node_said}
use Rattle.packing.specs.declared.Slots.{Slots}
use Rattle.packing.specs.declared.ValueHeld.{ValueHeld}
use Rattle.model.specs.Interface.{expansion_limit}
use Rattle.packing.specs.Values.{slot_of, phase_of, HeldPre, held_at, held_value, EvaluatePre, value_of_record, Evaluated, uses_of}
use Rattle.packing.specs.Values.{ReleasePre, Released, BothUsed, ChildrenPre, ReleasedAs, ChildrenReleased, taken, KeepPre, Kept}

-- ---- what is held of a node

module _ (z : Shape) (xs : List ℕ) (n : ℕ) where
  pub held_fits : (s : ℕ) → HeldPre z xs n → s ≡ slot_of xs z.u n → s * (2 * z.l) + 2 * z.l ≤ z.limit
  held_fits s pre e = rw e pre.slot

  pub held_is : (s a p : ℕ) → s ≡ slot_of xs z.u n → a ≡ slot_place z.limit z.l s → p ≡ phase_of xs z.u n
      → ◌≡◌ {A = ValueHeld} (record { at = a; phase = p }) (held_at z xs n)
  unfolding held_at
  held_is s a p e f g = λ i. record { at = (f ∙ ap (slot_place z.limit z.l) e) i; phase = g i }

  pub held_place : {h : ValueHeld} → h ≡ held_at z xs n → h.at ≡ slot_place z.limit z.l (slot_of xs z.u n)
  unfolding held_at
  held_place e = ap (λ (x : ValueHeld). x.at) e

  pub held_phase : {h : ValueHeld} → h ≡ held_at z xs n → h.phase ≡ phase_of xs z.u n
  unfolding held_at
  held_phase e = ap (λ (x : ValueHeld). x.phase) e

  -- its word ends within the limit
  held_ends : {h : ValueHeld} → HeldPre z xs n → h ≡ held_at z xs n → h.at + 2 * z.l ≤ z.limit
  held_ends pre e = omega (arith, held_place e, slot_ends z.limit z.l (slot_of xs z.u n) pre.slot)

-- ---- evaluation

module _ (z : Shape) (x : NodeRecord) (ws xs : List ℕ) where
  value_identity : x ≡ Identity → value_of_record z ws xs x ≡ as_value (identity_word z.l)
  unfolding value_of_record node_value
  value_identity e = ap (λ (y : NodeRecord). node_value z.l (held_value z ws xs) (node_said y)) e

  value_letter : {q c : ℕ} → x ≡ Letter q c → value_of_record z ws xs x ≡ as_value (single z.l q c)
  unfolding value_of_record node_value
  value_letter e = ap (λ (y : NodeRecord). node_value z.l (held_value z ws xs) (node_said y)) e

  -- the scratch word is a value's
  evaluated : {ws' : List ℕ} {e : ℕ} (v : Value) → value_of_record z ws xs x ≡ v → ws' ≡ put ws (scratch_place z.limit) v.word
      → e ≡ v.turns → Evaluated z x ws xs ws' e
  evaluated v is p q = record {
    words = p ∙ ap (λ (y : Value). put ws (scratch_place z.limit) y.word) (sym is);
    turns = q ∙ ap (λ (y : Value). y.turns) (sym is);
  }

  -- zeros came back for the scratch word, which is at o
  pub evaluated_identity : (w : List ℕ) (o : ℕ) → o ≡ scratch_place z.limit → x ≡ Identity → z.limit + 2 * z.l ≤ length ws
      → w ≡ replicate (length (take (o + 2 * z.l - o) (drop o ws))) 0
      → Evaluated z x ws xs (put_mid o (o + 2 * z.l - o) ws w) 0
  evaluated_identity w o s k h e =
      evaluated (as_value (identity_word z.l)) (value_identity k)
      (zeros_lent ws o (2 * z.l) w (omega arith) e ∙ ap (λ (i : ℕ). put ws i (identity_word z.l)) s) refl

  pub evaluated_letter : {q c : ℕ} (ws' : List ℕ) (o : ℕ) → o ≡ scratch_place z.limit → x ≡ Letter q c
      → ws' ≡ put ws o (single z.l q c)
      → Evaluated z x ws xs ws' 0
  evaluated_letter {q} {c} ws' o s k e =
      evaluated (as_value (single z.l q c)) (value_letter k)
      (e ∙ ap (λ (i : ℕ). put ws i (single z.l q c)) s) refl

-- the phases of a product, remainder by remainder
turns_sum : (e a p b q : ℕ) → (e + a + p % 4 + b + q % 4) % 4 ≡ ((a + p) % 4 + (b + q) % 4 + e) % 4
turns_sum e a p b q =
    same4 (e + a + p % 4 + b + q % 4) ((a + p) % 4 + (b + q) % 4 + e) (p / 4 + q / 4) ((a + p) / 4 + (b + q) / 4) (omega arith)

module _ {z : Shape} {l r : Factor} {ws xs : List ℕ} (a b : ValueHeld) (o : ℕ) where
  -- the words of both children, and the scratch word, for `product_in`
  pub stored_pre : EvaluatePre z (Product l r) ws xs → a ≡ held_at z xs l.node → b ≡ held_at z xs r.node
      → o ≡ scratch_place z.limit
      → StoredPre z.l ws a.at b.at o
  stored_pre pre e f g =
      let p : a.at + 2 * z.l ≤ z.limit = held_ends z xs l.node pre.inputs.0.held e in
      let q : b.at + 2 * z.l ≤ z.limit = held_ends z xs r.node pre.inputs.1.held f in
      let s : z.limit + 2 * z.l ≤ length ws = pre.scratch in
      rw g (record { p_in = omega arith; q_in = omega arith; o_in = s; p_clear = inr (inr p); q_clear = inr (inr q) })

  -- all that is summed is small
  pub phases_small : {ws' : List ℕ} {e : ℕ} → EvaluatePre z (Product l r) ws xs → a ≡ held_at z xs l.node → b ≡ held_at z xs r.node
      → StoredProduct z.l ws a.at b.at o ws' e → (e < 4) × (a.phase < 4) × (b.phase < 4)
  phases_small pre g h s = (
    omega (arith, s.phased.turns, phase_lt z.l (part ws a.at (2 * z.l)) (part ws b.at (2 * z.l))),
    omega (arith, held_phase z xs l.node g, pre.inputs.0.phase),
    omega (arith, held_phase z xs r.node h, pre.inputs.1.phase),
  )

  pub evaluated_product : {ws' : List ℕ} {e : ℕ} → a ≡ held_at z xs l.node
      → b ≡ held_at z xs r.node → o ≡ scratch_place z.limit → StoredProduct z.l ws a.at b.at o ws' e
      → Evaluated z (Product l r) ws xs ws' ((e + a.phase + l.phase % 4 + b.phase + r.phase % 4) % 4)
  unfolding multiply scaled held_value value_of_record node_value
  evaluated_product p q c s =
      let u = held_place z xs l.node p in
      let v = held_place z xs r.node q in
      evaluated z (Product l r) ws xs (multiply z.l (scaled l.phase (held_value z ws xs l.node))
      (scaled r.phase (held_value z ws xs r.node)))
      refl
      (s.store ∙ rw (c, u, v) refl)
      (rw (s.phased.turns, held_phase z xs l.node p, held_phase z xs r.node q, u, v)
      (turns_sum _ _ l.phase _ r.phase))

-- ---- giving up a use

module _ {s t : List ℕ} {u free n : ℕ} (k : ℕ) (pre : ReleasePre s u free n) (is : k ≡ uses_of s u n)
    (w : Written s u uses_row n (k - 1) t) where
  only_uses : Only (uses_row ∷ []) u s t
  only_uses = only_written pre.long (omega arith) pre.node w

  less_used : row t u uses_row ≡ set (row s u uses_row) n (uses_of s u n - 1)
  less_used = written_row pre.long (omega arith) pre.node w ∙ ap (λ (i : ℕ). set (row s u uses_row) n (i - 1)) is

  -- it is still used
  pub released_still : (k - 1 ≡ 0 → ⊥) → Released s u free n free t
  unfolding all_of member any_of
  released_still more =
      let f : eqb (uses_of s u n) 1 ≡ false = ne_eqb (uses_of s u n) 1 (λ e. more (omega arith)) in
      record {
        only = only_of (uses_row ∷ free_row ∷ []) refl only_uses;
        uses = less_used;
        count = sym (ap (λ (i : ℕ). free + i) (if_false 1 0 f) ∙ add-zero free);
        stack = only_uses.rows free_row (omega arith) refl ∙ sym (if_false _ _ f);
      }

  -- it was the last use: the slot is free
  pub released_last : {v : List ℕ} (x : ℕ) → x ≡ slot_of t u n → Written t u free_row free x v → k - 1 ≡ 0
      → Released s u free n (free + 1) v
  unfolding all_of member any_of
  released_last {v} x e y none =
      let long : row_count * u ≤ length t = omega (arith, pre.long, w.long) in
      let one : uses_of s u n ≡ 1 = omega (arith, pre.used) in
      let f : eqb (uses_of s u n) 1 ≡ true = eq-eqb (uses_of s u n) 1 one in
      let o : Only (free_row ∷ []) u t v = only_written long (omega arith) pre.room y in
      let slot : x ≡ slot_of s u n = e ∙ ap (λ (r : List ℕ). get_or r n 0) (only_uses.rows node_slot (omega arith) refl) in
      record {
        only = only_then (only_of (uses_row ∷ free_row ∷ []) refl only_uses) (only_of (uses_row ∷ free_row ∷ []) refl o);
        uses = o.rows uses_row (omega arith) refl ∙ less_used;
        count = sym (ap (λ (i : ℕ). free + i) (if_true 1 0 f));
        stack =
            written_row long (omega arith) pre.room y
            ∙ ap (λ (r : List ℕ). set r free x) (only_uses.rows free_row (omega arith) refl)
            ∙ ap (set (row s u free_row) free) slot
            ∙ sym (if_true _ _ f);
      }

released_none : (s : List ℕ) (u free : ℕ) (x : NodeRecord) → ((a b : Factor) → x ≡ Product a b → ⊥) → ReleasedAs s u free x free s
released_none s u free Identity other = (refl, refl)
released_none s u free (Letter q c) other = (refl, refl)
released_none s u free (Product a b) other = absurd (other a b refl)

pub children_none : {s : List ℕ} {u free : ℕ} {x : NodeRecord} → ((a b : Factor) → x ≡ Product a b → ⊥) → ChildrenReleased s u free x free s
children_none {s} {u} {free} {x} other = record { only = only_none _ u s; released = released_none s u free x other }

module _ {s : List ℕ} {u free : ℕ} {x : NodeRecord} {a b : Factor} (k : x ≡ Product a b) where
  both_used : ChildrenPre s u free x → BothUsed s u free a.node b.node
  both_used pre = rw k at pre.used

  pub first_pre : ChildrenPre s u free x → ReleasePre s u free a.node
  first_pre pre =
      let both = both_used pre in
      record { long = pre.long; node = both.first; room = omega (arith, both.room); used = both.first_used }

  pub second_pre : (r : ℕ) {t : List ℕ} → ChildrenPre s u free x → Released s u free a.node r t → ReleasePre t u r b.node
  second_pre r {t} pre one =
      let both = both_used pre in
      let most : (when eqb (uses_of s u a.node) 1 then 1 else 0) ≤ 1 = by_if (λ (i : ℕ). i ≤ 1) _ _ _ (omega arith) (omega arith) in
      record {
        long = omega (arith, pre.long, one.only.long);
        node = both.second;
        room = omega (arith, both.room, one.count);
        used = rw one.uses both.second_used;
      }

  pub children_both : (m r : ℕ) {v t : List ℕ} → Released s u free a.node m v → Released v u m b.node r t
      → ChildrenReleased s u free x r t
  children_both m r {v} {t} one two = record {
    only = only_then one.only two.only;
    released = subst (λ (y : NodeRecord). ReleasedAs s u free y r t) (sym k)
        (record { between = m; store = v; first = one; second = two });
  }

-- ---- taking a slot

-- the sum, as the code works it out
sum_is : (l s a : ℕ) → (s + 1 + a) * (2 * l) ≡ s * (2 * l) + 2 * l + a * (2 * l)
sum_is l s a = omega (arith, add-mul (s + 1) a (2 * l), add-mul s 1 (2 * l), one-mul (2 * l))

module _ (z : Shape) (xs : List ℕ) (st : Slots) where
  pub taken_free : (s : ℕ) → 0 < st.free → s ≡ get_or (row xs z.u free_row) (st.free - 1) 0
      → Ok (record { axes = st.axes; peak = st.peak; slots = st.slots; free = st.free - 1; taken = s }) ≡ taken z xs st
  unfolding taken
  taken_free s h e =
      ap (λ (i : ℕ). Ok (record { axes = st.axes; peak = st.peak; slots = st.slots; free = st.free - 1; taken = i })) e
      ∙ sym (if_true _ _ (lt-ltb 0 st.free h))

  pub taken_limit : st.free ≤ 0 → z.limit < st.slots * (2 * z.l) + 2 * z.l + st.axes * (2 * z.l) → Err expansion_limit ≡ taken z xs st
  unfolding taken
  taken_limit h k =
      sym (if_false _ _ (le-ltb 0 st.free h) ∙ if_true _ _ (lt-ltb z.limit _ (rw (sum_is z.l st.slots st.axes) k)))

  pub taken_new : st.free ≤ 0 → st.slots * (2 * z.l) + 2 * z.l + st.axes * (2 * z.l) ≤ z.limit
      → (q : ℕ) → q ≡ max st.peak (st.slots * (2 * z.l) + 2 * z.l + st.axes * (2 * z.l))
      → Ok (record { axes = st.axes; peak = q; slots = st.slots + 1; free = 0; taken = st.slots }) ≡ taken z xs st
  unfolding taken
  taken_new h k q e =
      let sum = sum_is z.l st.slots st.axes in
      ap (λ (i : ℕ). Ok (record { axes = st.axes; peak = i; slots = st.slots + 1; free = 0; taken = st.slots }))
      (e ∙ ap (max st.peak) (sym sum))
      ∙ sym (if_false _ _ (le-ltb 0 st.free h) ∙ if_false _ _ (le-ltb z.limit _ (rw sum k)))

-- ---- keeping a value

module _ {z : Shape} {n s : ℕ} {ws xs : List ℕ} (pre : KeepPre z n s ws xs) where
  pub keep_apart : (o a : ℕ) → o ≡ scratch_place z.limit → a ≡ slot_place z.limit z.l s → CopyPre ws o a (2 * z.l)
  keep_apart o a c e =
      let p : a + 2 * z.l ≤ z.limit = omega (arith, slot_ends z.limit z.l s pre.slot) in
      let h : z.limit + 2 * z.l ≤ length ws = pre.scratch in
      rw c (record { source = h; target = omega arith; apart = inr p })

  pub kept : {e : ℕ} {ws' t xs' : List ℕ} (o a : ℕ) → o ≡ scratch_place z.limit → a ≡ slot_place z.limit z.l s
      → ws' ≡ put ws a (part ws o (2 * z.l)) → Written xs z.u node_slot n s t → Written t z.u node_phase n e xs'
      → Kept z n s e ws xs ws' xs'
  unfolding all_of member any_of
  kept {e} {ws'} {t} {xs'} o a b p q v w =
      let long : row_count * z.u ≤ length t = omega (arith, pre.long, v.long) in
      let c : Only (node_slot ∷ []) z.u xs t = only_written pre.long (omega arith) pre.node v in
      let d : Only (node_phase ∷ []) z.u t xs' = only_written long (omega arith) pre.node w in
      record {
        words = q ∙ rw (b, p) refl;
        only = only_then (only_of (node_slot ∷ node_phase ∷ []) refl c) (only_of (node_slot ∷ node_phase ∷ []) refl d);
        slot = d.rows node_slot (omega arith) refl ∙ written_row pre.long (omega arith) pre.node v;
        phase =
            written_row long (omega arith) pre.node w
            ∙ ap (λ (r : List ℕ). set r n e) (c.rows node_phase (omega arith) refl);
      }
