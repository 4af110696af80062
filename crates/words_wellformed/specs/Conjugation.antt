-- Conjugation multiplies: absorbing a word changes a product as it changes its factors, phases included. Assumes nothing.
use Rattle.std.specs.Prelude.{◌≡◌, Bool, true, false, ℕ, ◌+◌, ◌*◌, ◌/◌, ◌%◌, ◌≤◌, eqb, length}
use Rattle.std.proofs.Math.Path.{refl, ap, ap₂}
use Rattle.std.proofs.Common.{sym, ◌∙◌, arith}
use Rattle.std.proofs.Math.Bool.{not}
use mathlib.Core.List.{List}
use Rattle.std.proofs.lemmas.Bool.{eqb-false}
use Rattle.pauli.specs.Word.{xor_words, phase, symplectic, anticommutes}
use Rattle.pauli.specs.ProductLaws.{xor_words_comm, xor_words_assoc, xor_words_twice, symplectic_xor}
use Rattle.pauli.specs.ProductLaws.{anticommutes_true, anticommutes_false, anticommutes_one, phase_lt, phase_swap, phase_cocycle, phase_conjugate}
use Rattle.model.specs.Words.{Value, as_value, scaled, multiply}
use Rattle.model.specs.Clifford.{absorb_image}
use Rattle.theory.specs.Cases.{if_true, if_false}
use Rattle.words_wellformed.specs.HeldImages.{IsQuarters, absorb_image_commuting}

-- a value is its turns and its word
pub value_eq : {u v : Value} → u.turns ≡ v.turns → u.word ≡ v.word → u ≡ v
value_eq e f = ap₂ (λ (t : ℕ) (w : List ℕ). record { turns = t; word = w }) e f

-- ---- remainders by 4

add4 : (x y z : ℕ) → y % 4 ≡ z % 4 → (x + y) % 4 ≡ (x + z) % 4
add4 x y z h = omega arith

-- two half turns cancel
cancel4 : (x y m c z : ℕ) → (x + c) % 4 ≡ 2 → (c + z) % 4 ≡ (y + m) % 4 → (x + y + m + 2) % 4 ≡ z % 4
cancel4 x y m c z h k =
    let e : x + y + m + 2 ≡ x + 2 + (y + m) = omega arith in
    let f : x + 2 + (c + z) ≡ z + 2 + (x + c) = omega arith in
    ap (λ (n : ℕ). n % 4) e ∙ add4 (x + 2) (y + m) (c + z) (sym k) ∙ ap (λ (n : ℕ). n % 4) f ∙ add4 (z + 2) (x + c) 2 h ∙ last
  where
    last : (z + 2 + 2) % 4 ≡ z % 4
    last = omega arith

-- ---- the phases of a conjugated product

module _ (l : ℕ) (b p q : List ℕ) where
  -- b with the left factor: (BP)Q is B(PQ)
  left_phase : (phase l b p + phase l (xor_words b p) q) % 4 ≡ (phase l p q + phase l b (xor_words p q)) % 4
  left_phase = phase_cocycle l b p q

  -- b with the right factor, past a left one that commutes with it
  right_phase : symplectic l b p ≡ 0 → (phase l b q + phase l p (xor_words b q)) % 4 ≡ (phase l p q + phase l b (xor_words p q)) % 4
  right_phase h =
      let e : phase l p b ≡ phase l b p = sym (phase_swap l b p) ∙ commuting in
      let f : phase l (xor_words p b) q ≡ phase l (xor_words b p) q = ap (λ (w : List ℕ). phase l w q) (xor_words_comm p b) in
      sym (phase_cocycle l p b q) ∙ ap₂ (λ (x y : ℕ). (x + y) % 4) e f ∙ left_phase
    where
      commuting : (phase l b p + 2 * symplectic l b p) % 4 ≡ phase l b p
      commuting = omega (arith, phase_lt l b p)

  -- b with both: BPBQ is PQ with the sign that BP = -PB gives
  both_phase : length b ≤ length p → symplectic l b p ≡ 1
      → (phase l b p + phase l b q + phase l (xor_words b p) (xor_words b q) + 2) % 4 ≡ phase l p q % 4
  both_phase n h =
      let back : xor_words (xor_words b p) b ≡ p = xor_words_comm (xor_words b p) b ∙ xor_words_twice b p n in
      let around : (phase l (xor_words b p) b + phase l p q) % 4 ≡ (phase l b q + phase l (xor_words b p) (xor_words b q)) % 4
      = ap (λ (w : List ℕ). (phase l (xor_words b p) b + phase l w q) % 4) (sym back) ∙ phase_cocycle l (xor_words b p) b q in
      cancel4 (phase l b p) (phase l b q) _ (phase l (xor_words b p) b) (phase l p q) (phase_conjugate l b p n ∙ ap (λ (x : ℕ). 2 * x) h) around

  both_word : length b ≤ length p → xor_words (xor_words b p) (xor_words b q) ≡ xor_words p q
  both_word n =
      ap (λ (w : List ℕ). xor_words w (xor_words b q)) (xor_words_comm b p) ∙ xor_words_assoc p b (xor_words b q)
      ∙ ap (xor_words p) (sym (xor_words_assoc b b q)) ∙ sym (xor_words_assoc p (xor_words b b) q)
      ∙ ap (λ (w : List ℕ). xor_words w q) (sym (xor_words_assoc p b b) ∙ ap (λ (w : List ℕ). xor_words w b) (xor_words_comm p b)
      ∙ xor_words_comm (xor_words b p) b ∙ xor_words_twice b p n)

-- ---- the turns of a conjugated product: t and s are the factors' turns, c is half the angle

left_turns : (t s x y u z c : ℕ) → (u + z) % 4 ≡ (x + y) % 4
    → ((0 + (t + s + x) % 4 + y) % 4 + c) % 4 ≡ (((0 + t + u) % 4 + c) % 4 + s + z) % 4
left_turns t s x y u z c h = one ∙ add4 (t + s + c) (x + y) (u + z) (sym h) ∙ sym two
  where
    one : ((0 + (t + s + x) % 4 + y) % 4 + c) % 4 ≡ (t + s + c + (x + y)) % 4
    one = omega arith

    two : (((0 + t + u) % 4 + c) % 4 + s + z) % 4 ≡ (t + s + c + (u + z)) % 4
    two = omega arith

right_turns : (t s x y u z c : ℕ) → (u + z) % 4 ≡ (x + y) % 4
    → ((0 + (t + s + x) % 4 + y) % 4 + c) % 4 ≡ (t + ((0 + s + u) % 4 + c) % 4 + z) % 4
right_turns t s x y u z c h = one ∙ add4 (t + s + c) (x + y) (u + z) (sym h) ∙ sym two
  where
    one : ((0 + (t + s + x) % 4 + y) % 4 + c) % 4 ≡ (t + s + c + (x + y)) % 4
    one = omega arith

    two : (t + ((0 + s + u) % 4 + c) % 4 + z) % 4 ≡ (t + s + c + (u + z)) % 4
    two = omega arith

both_turns : (t s x u w z c : ℕ) → c % 2 ≡ 1 → (u + w + z + 2) % 4 ≡ x % 4
    → (t + s + x) % 4 ≡ (((0 + t + u) % 4 + c) % 4 + ((0 + s + w) % 4 + c) % 4 + z) % 4
both_turns t s x u w z c odd h = add4 (t + s) x (u + w + z + 2) (sym h) ∙ sym (two ∙ add4 (t + s + u + w + z) (c + c) 2 twice ∙ three)
  where
    flat : (a d : ℕ) → ((0 + a + d) % 4 + c) % 4 ≡ (a + d + c) % 4
    flat a d = omega arith

    pair : (a d : ℕ) → (a % 4 + d % 4 + z) % 4 ≡ (a + d + z) % 4
    pair a d = omega arith

    order : t + u + c + (s + w + c) + z ≡ t + s + u + w + z + (c + c)
    order = omega arith

    two : (((0 + t + u) % 4 + c) % 4 + ((0 + s + w) % 4 + c) % 4 + z) % 4 ≡ (t + s + u + w + z + (c + c)) % 4
    two = ap₂ (λ (m n : ℕ). (m + n + z) % 4) (flat t u) (flat s w) ∙ pair (t + u + c) (s + w + c) ∙ ap (λ (n : ℕ). n % 4) order

    twice : (c + c) % 4 ≡ 2 % 4
    twice = omega arith

    three : (t + s + u + w + z + 2) % 4 ≡ (t + s + (u + w + z + 2)) % 4
    three = omega arith

-- ---- absorbing, by cases

module _ (l : ℕ) (b : List ℕ) (k : ℕ) (quarters : IsQuarters k) where
  abbrev Turned : Value → Value
  Turned u = scaled (k / 2) (multiply l (as_value b) u)

  -- "k = 4 gives -P"
  absorbs_opposite : (u : Value) → anticommutes l b u.word ≡ true → eqb k 4 ≡ true → absorb_image l b k u ≡ scaled 2 u
  unfolding absorb_image
  absorbs_opposite u h e = if_false _ _ (ap not h) ∙ if_true _ _ e

  -- "k = 2 gives iBP, k = -2 gives -iBP"
  absorbs_turned : (u : Value) → anticommutes l b u.word ≡ true → eqb k 4 ≡ false → absorb_image l b k u ≡ Turned u
  unfolding absorb_image
  absorbs_turned u h e = if_false _ _ (ap not h) ∙ if_false _ _ e

  module _ (u v : Value) (long : length b ≤ length u.word) where
    -- one factor anticommutes with b
    left_opposite : scaled 2 (multiply l u v) ≡ multiply l (scaled 2 u) v
    unfolding scaled multiply
    left_opposite = value_eq (omega arith) refl

    right_opposite : scaled 2 (multiply l u v) ≡ multiply l u (scaled 2 v)
    unfolding scaled multiply
    right_opposite = value_eq (omega arith) refl

    left_turned : Turned (multiply l u v) ≡ multiply l (Turned u) v
    unfolding scaled multiply
    left_turned =
        value_eq (left_turns u.turns v.turns _ _ _ _ (k / 2) (left_phase l b u.word v.word))
        (sym (xor_words_assoc b u.word v.word))

    right_turned : symplectic l b u.word ≡ 0 → Turned (multiply l u v) ≡ multiply l u (Turned v)
    unfolding scaled multiply
    right_turned h =
        value_eq (right_turns u.turns v.turns _ _ _ _ (k / 2) (right_phase l b u.word v.word h))
        (sym (xor_words_assoc b u.word v.word) ∙ ap (λ (w : List ℕ). xor_words w v.word) (xor_words_comm b u.word)
        ∙ xor_words_assoc u.word b v.word)

    -- both do
    both_opposite : multiply l u v ≡ multiply l (scaled 2 u) (scaled 2 v)
    unfolding scaled multiply
    both_opposite = value_eq (omega arith) refl

    both_turned : symplectic l b u.word ≡ 1 → (k ≡ 4 → ⊥) → multiply l u v ≡ multiply l (Turned u) (Turned v)
    unfolding scaled multiply
    both_turned h n =
        value_eq (both_turns u.turns v.turns _ _ _ _ (k / 2) (omega arith) (both_phase l b u.word v.word long h))
        (sym (both_word l b u.word v.word long))

    -- the image of a product is the product of the images, with its phase
    pub absorb_image_multiply : absorb_image l b k (multiply l u v) ≡ multiply l (absorb_image l b k u) (absorb_image l b k v)
    absorb_image_multiply = go (anticommutes l b u.word) refl (anticommutes l b v.word) refl (eqb k 4) refl
      where
        -- whether b commutes with the product
        product : (m n : ℕ) → symplectic l b u.word ≡ m → symplectic l b v.word ≡ n → symplectic l b (multiply l u v).word ≡ (m + n) % 2
        product m n e f = unfold multiply in (symplectic_xor l b u.word v.word) ∙ ap₂ (λ (x y : ℕ). (x + y) % 2) e f

        one : (x : Value) → anticommutes l b x.word ≡ true → symplectic l b x.word ≡ 1
        one x = anticommutes_true l b x.word

        none : (x : Value) → anticommutes l b x.word ≡ false → symplectic l b x.word ≡ 0
        none x = anticommutes_false l b x.word

        moves : symplectic l b (multiply l u v).word ≡ 1 → anticommutes l b (multiply l u v).word ≡ true
        moves = anticommutes_one l b (multiply l u v).word

        stays : (x : Value) → symplectic l b x.word ≡ 0 → absorb_image l b k x ≡ x
        stays = absorb_image_commuting l b k

        go : (x : Bool) → anticommutes l b u.word ≡ x → (y : Bool) → anticommutes l b v.word ≡ y → (z : Bool) → eqb k 4 ≡ z
            → absorb_image l b k (multiply l u v) ≡ multiply l (absorb_image l b k u) (absorb_image l b k v)
        go false e false f z g =
            stays (multiply l u v) (product 0 0 (none u e) (none v f)) ∙ sym (ap₂ (multiply l) (stays u (none u e)) (stays v (none v f)))
        go true e false f true g =
            absorbs_opposite (multiply l u v) (moves (product 1 0 (one u e) (none v f))) g ∙ left_opposite
            ∙ sym (ap₂ (multiply l) (absorbs_opposite u e g) (stays v (none v f)))
        go true e false f false g =
            absorbs_turned (multiply l u v) (moves (product 1 0 (one u e) (none v f))) g ∙ left_turned
            ∙ sym (ap₂ (multiply l) (absorbs_turned u e g) (stays v (none v f)))
        go false e true f true g =
            absorbs_opposite (multiply l u v) (moves (product 0 1 (none u e) (one v f))) g ∙ right_opposite
            ∙ sym (ap₂ (multiply l) (stays u (none u e)) (absorbs_opposite v f g))
        go false e true f false g =
            absorbs_turned (multiply l u v) (moves (product 0 1 (none u e) (one v f))) g ∙ right_turned (none u e)
            ∙ sym (ap₂ (multiply l) (stays u (none u e)) (absorbs_turned v f g))
        go true e true f true g =
            stays (multiply l u v) (product 1 1 (one u e) (one v f)) ∙ both_opposite ∙ sym
            (ap₂ (multiply l) (absorbs_opposite u e g) (absorbs_opposite v f g))
        go true e true f false g =
            stays (multiply l u v) (product 1 1 (one u e) (one v f)) ∙ both_turned (one u e) (eqb-false k 4 g)
            ∙ sym (ap₂ (multiply l) (absorbs_turned u e g) (absorbs_turned v f g))
