-- Slots while a node takes one and its word is laid there. Assumes nothing.
use Rattle.std.specs.Prelude.{◌≡◌, ◌≢◌, List, ℕ, suc, ◌+◌, ◌*◌, ◌≤◌, ◌<◌, length, get_or, set}
use Rattle.std.proofs.Common.{sym, ap, ◌∙◌, inr, arith, get_or-set_same, get_or-set_other}
use Rattle.std.proofs.Math.Decide.{ℕ_discrete}
use Rattle.store.specs.Part.{part, put, part_put_same, part_put_apart}
use Rattle.model.specs.Words.{Value}
use Rattle.layout.specs.Words.{slot_place, slot_in, slots_apart}
use Rattle.packing.specs.Holding.{SlotsHold}

-- words that stay where the slots are
pub slots_words : {l limit b slots free : ℕ} {value : ℕ → Value} {uses slot_row phase_row stack ws ws' : List ℕ}
    → ((s : ℕ) → s < slots → part ws' (slot_place limit l s) (2 * l) ≡ part ws (slot_place limit l s) (2 * l))
    → SlotsHold l limit b slots free value uses slot_row phase_row stack ws
    → SlotsHold l limit b slots free value uses slot_row phase_row stack ws'
slots_words {slot_row = slot_row} f s = record {
  slot = s.slot;
  word = λ m a u. f (get_or slot_row m 0) (s.slot m a u) ∙ s.word m a u;
  turns = s.turns;
  one = s.one;
  free_slot = s.free_slot;
  free_one = s.free_one;
  free_other = s.free_other;
}

-- a word laid behind the slots
pub slots_scratch : {l limit b slots free : ℕ} {value : ℕ → Value} {uses slot_row phase_row stack ws : List ℕ} (w : List ℕ)
    → slots * (2 * l) ≤ limit → limit + length w ≤ length ws → SlotsHold l limit b slots free value uses slot_row phase_row stack ws
    → SlotsHold l limit b slots free value uses slot_row phase_row stack (put ws limit w)
slots_scratch {l} {limit} {slots = slots} {ws = ws} w h k =
    slots_words (λ s a.
    let i = slot_in limit l slots h s a in
    part_put_apart ws limit w (slot_place limit l s) (2 * l) k (omega arith) (inr i))

-- slot s is no used node's and no more among the free ones: a node may take it
pub record Takes (b slots free : ℕ) (uses slot_row stack : List ℕ) (s slots' free' : ℕ) : Type 0 where
  pub inside : s < slots'
  pub more : slots ≤ slots'
  pub fewer : free' ≤ free
  pub no_node : (m : ℕ) → m < b → 0 < get_or uses m 0 → get_or slot_row m 0 ≢ s
  pub not_free : (i : ℕ) → i < free' → s ≢ get_or stack i 0

module _ {l limit n slots free slots' free' s e : ℕ} {value : ℕ → Value} {uses slot_row phase_row stack ws w : List ℕ} where
  -- node n takes it: its word is w, its phase e
  pub slots_kept : slots' * (2 * l) ≤ limit → limit ≤ length ws → n < length slot_row → n < length phase_row
      → e ≡ (value n).turns → w ≡ (value n).word → length w ≡ 2 * l
      → Takes n slots free uses slot_row stack s slots' free' → SlotsHold l limit n slots free value uses slot_row phase_row stack ws
      → SlotsHold l limit (suc n) slots' free' value uses (set slot_row n s) (set phase_row n e) stack (put ws (slot_place limit l s) w)
  slots_kept h b sl pl te we wl t k = record {
    slot = λ m a u. slot_of_lem m a u (ℕ_discrete m n);
    word = λ m a u. word_of m a u (ℕ_discrete m n);
    turns = λ m a u. turns_of m a u (ℕ_discrete m n);
    one = λ m c a d u v. one_of m c a d u v (ℕ_discrete m n) (ℕ_discrete c n);
    free_slot = λ i a. omega (arith, k.free_slot i (omega (arith, t.fewer)), t.more);
    free_one = λ i j a c. k.free_one i j (omega (arith, t.fewer)) (omega (arith, t.fewer));
    free_other = λ m i a u c. other_of m i a u c (ℕ_discrete m n);
  }
    where
      own : get_or (set slot_row n s) n 0 ≡ s
      own = get_or-set_same slot_row n s 0 sl

      others : (m : ℕ) → m ≢ n → get_or (set slot_row n s) m 0 ≡ get_or slot_row m 0
      others m ne = get_or-set_other slot_row n m s 0 ne

      fits : slot_place limit l s + 2 * l ≤ limit
      fits = slot_in limit l slots' h s t.inside

      slot_of_lem : (m : ℕ) → m < suc n → 0 < get_or uses m 0 → Dec (m ≡ n) → get_or (set slot_row n s) m 0 < slots'
      slot_of_lem m a u (yes z) = rw (z, own) t.inside
      slot_of_lem m a u (no ne) = rw (others m ne) (omega (arith, k.slot m (omega arith) u, t.more))

      word_of : (m : ℕ) → m < suc n → 0 < get_or uses m 0 → Dec (m ≡ n)
          → part (put ws (slot_place limit l s) w) (slot_place limit l (get_or (set slot_row n s) m 0)) (2 * l) ≡ (value m).word
      word_of m a u (yes z) = rw (z, own) (part_put_same ws (slot_place limit l s) (2 * l) w (omega (arith, fits)) wl ∙ we)
      word_of m a u (no ne) =
          let c : m < n = omega arith in
          let d : get_or slot_row m 0 < slots' = omega (arith, k.slot m c u, t.more) in
          let i = slot_in limit l slots' h (get_or slot_row m 0) d in
          let apart = slots_apart limit l slots' h s (get_or slot_row m 0) t.inside d (λ q. t.no_node m c u (sym q)) in
          rw (others m ne)
          (part_put_apart ws (slot_place limit l s) w (slot_place limit l (get_or slot_row m 0)) (2 * l) (omega (arith, fits, wl)) (omega arith)
          (rw wl apart) ∙ k.word m c u)

      turns_of : (m : ℕ) → m < suc n → 0 < get_or uses m 0 → Dec (m ≡ n) → get_or (set phase_row n e) m 0 ≡ (value m).turns
      turns_of m a u (yes z) = rw z (get_or-set_same phase_row n e 0 pl ∙ te)
      turns_of m a u (no ne) = get_or-set_other phase_row n m e 0 ne ∙ k.turns m (omega arith) u

      one_of : (m c : ℕ) → m < suc n → c < suc n → 0 < get_or uses m 0 → 0 < get_or uses c 0 → Dec (m ≡ n) → Dec (c ≡ n)
          → get_or (set slot_row n s) m 0 ≡ get_or (set slot_row n s) c 0 → m ≡ c
      one_of m c a d u v (yes y) (yes z) q = y ∙ sym z
      one_of m c a d u v (yes y) (no z) q =
          absurd (t.no_node c (omega arith) v (sym (others c z) ∙ sym q ∙ ap (λ (i : ℕ). get_or (set slot_row n s) i 0) y ∙ own))
      one_of m c a d u v (no y) (yes z) q =
          absurd (t.no_node m (omega arith) u (sym (others m y) ∙ q ∙ ap (λ (i : ℕ). get_or (set slot_row n s) i 0) z ∙ own))
      one_of m c a d u v (no y) (no z) q = k.one m c (omega arith) (omega arith) u v (sym (others m y) ∙ q ∙ others c z)

      other_of : (m i : ℕ) → m < suc n → 0 < get_or uses m 0 → i < free' → Dec (m ≡ n) → get_or (set slot_row n s) m 0 ≢ get_or stack i 0
      other_of m i a u c (yes z) q = t.not_free i c (sym own ∙ ap (λ (j : ℕ). get_or (set slot_row n s) j 0) (sym z) ∙ q)
      other_of m i a u c (no ne) q = k.free_other m i (omega arith) u (omega (arith, t.fewer)) (sym (others m ne) ∙ q)

module _ {l limit b slots free : ℕ} {value : ℕ → Value} {uses slot_row phase_row stack ws : List ℕ}
    (k : SlotsHold l limit b slots free value uses slot_row phase_row stack ws) where
  -- the slot freed last
  pub takes_free : (f : ℕ) → free ≡ suc f → Takes b slots free uses slot_row stack (get_or stack f 0) slots f
  takes_free f e = record {
    inside = k.free_slot f (omega arith);
    more = omega arith;
    fewer = omega arith;
    no_node = λ m a u. k.free_other m f a u (omega arith);
    not_free = λ i a q. absurd (let z = k.free_one f i (omega arith) (omega arith) q in omega arith);
  }

  -- a new one
  pub takes_new : Takes b slots free uses slot_row stack slots (slots + 1) 0
  takes_new = record {
    inside = omega arith;
    more = omega arith;
    fewer = omega arith;
    no_node = λ m a u q. absurd (omega (arith, k.slot m a u));
    not_free = λ i a. absurd (omega arith);
  }
