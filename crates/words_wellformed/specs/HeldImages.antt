-- F's images: they are words with a sign, and commute or anticommute as the letters do whose images they are. So a carried word has a sign too.
-- The signs rest on the absorbed angles being 2, 4 and 6: that is asked as `Angles`, a premise of every sign, so that the rest stands without it.
-- Assumes nothing.
use Rattle.std.specs.Prelude.{◌≡◌, ◌⊎◌, Bool, ◌||◌, eqb}
use Rattle.std.proofs.Math.Path.{refl, ap, ap₂}
use Rattle.std.proofs.Common.{sym, ◌∙◌, inl, inr, arith, eqb-true, eq-eqb}
use Rattle.std.proofs.Math.Bool.{true, false, not}
use mathlib.Core.List.{List, [], ◌∷◌, ◌++◌, map}
use Prim.Native.Nat.{ℕ, zero, suc, ◌+◌, ◌*◌, ◌/◌, ◌%◌, ◌≤◌, ◌<◌}
use Rattle.std.proofs.lemmas.Bool.{eqb-false}
use Rattle.bits.specs.Digit.{Digit, off, on}
use Rattle.bits.specs.Bit.{bit_digit}
use Rattle.pauli.specs.Word.{IsWord, identity, xor_words, phase, symplectic, anticommutes}
use Rattle.pauli.specs.Letter.{letter_of, letter_at, single, other, acts}
use Rattle.pauli.specs.ProductLaws.{phase_odd, symplectic_comm, symplectic_identity, anticommutes_true, anticommutes_none}
use Rattle.pauli.specs.LetterLaws.{single_word, xor_words_word, identity_word}
use Rattle.model.specs.Lists.{when◌then◌else◌, any_of}
use Rattle.model.specs.Words.{Value, as_value, scaled, multiply, support}
use Rattle.model.specs.Clifford.{Images, absorb_image, absorb_images, is_held, own_images, Touched, touch, touch_all, absorb_word, image_of, letter_image}
use Rattle.model.specs.Clifford.{multiply_images, word_image}
use Rattle.theory.specs.Cases.{by_if, on_if, if_true, if_false}
use Rattle.theory.specs.Every.{Every, every_one, every_map}
use Rattle.words_wellformed.specs.SupportQubits.{support_all, support_each, Rising, rising_le, support_rising}
use Rattle.words_wellformed.specs.Commuting.{single_commutes, singles_commute, xor_symplectic, quarter_turned, quarter_turned_symplectic}

-- ---- signs, angles, letters

-- 0 or 2 quarter turns
pub record IsSign (n : ℕ) : Type 0 where
  pub below : n < 4
  pub even : n % 2 ≡ 0

-- as it says
pub sign_cases : (n : ℕ) → IsSign n → (n ≡ 0) ⊎ (n ≡ 2)
sign_cases zero s = inl refl
sign_cases (suc zero) s = absurd (omega arith)
sign_cases (suc (suc zero)) s = inr refl
sign_cases (suc (suc (suc n))) s = absurd (omega arith)

-- a word without a sign
pub no_sign : IsSign 0
no_sign = record { below = omega arith; even = refl }

-- signs multiply
pub sign_add : (m n : ℕ) → IsSign m → IsSign n → IsSign ((m + n) % 4)
sign_add m n a b = record { below = omega arith; even = omega arith }

-- an angle that can be absorbed: 2, 4 or 6 eighths
pub record IsQuarters (k : ℕ) : Type 0 where
  pub even : k % 2 ≡ 0
  pub some : 0 < k
  pub small : k ≤ 7

-- X, Y or Z
pub record IsXYZ (c : ℕ) : Type 0 where
  pub some : 0 < c
  pub small : c ≤ 3

pub letter_small : {x z : ℕ} → Digit x → Digit z → letter_of x z ≤ 3
letter_small off off = omega arith
letter_small off on = omega arith
letter_small on off = omega arith
letter_small on on = omega arith

-- a letter that acts is not I
acting : (c : ℕ) → other c ≡ 1 → 0 < c
acting zero h = absurd (omega arith)
acting (suc c) h = omega arith

-- and the other way round: a letter that does not act is I
pub idle : (c : ℕ) → (other c ≡ 1 → ⊥) → c ≡ 0
idle zero h = refl
idle (suc c) h = absurd (h refl)

-- the letter of a qubit that the word acts on
pub acts_letter : (l : ℕ) (w : List ℕ) (q : ℕ) → acts l w q ≡ 1 → IsXYZ (letter_at l w q)
acts_letter l w q h = record { some = acting (letter_at l w q) h; small = letter_small (bit_digit _ (q % 64)) (bit_digit _ (q % 64)) }

-- ---- one image

-- a word, with a sign
pub record SignedWord (l : ℕ) (Angles : Type 0) (v : Value) : Type 0 where
  pub word : IsWord l v.word
  pub sign : Angles → IsSign v.turns

-- a word by itself
pub plain_signed : (l : ℕ) (Angles : Type 0) (w : List ℕ) → IsWord l w → SignedWord l Angles (as_value w)
plain_signed l Angles w h = record { word = h; sign = λ a. no_sign }

-- the product of two that commute
pub multiply_signed : (l : ℕ) (Angles : Type 0) (u v : Value) → SignedWord l Angles u → SignedWord l Angles v
    → symplectic l u.word v.word ≡ 0
    → SignedWord l Angles (multiply l u v)
unfolding multiply
multiply_signed l Angles u v a b h = record {
  word = xor_words_word l u.word v.word a.word b.word;
  sign = λ g. even (a.sign g) (b.sign g);
}
  where
    even : IsSign u.turns → IsSign v.turns → IsSign ((u.turns + v.turns + phase l u.word v.word) % 4)
    even s t = record { below = omega arith; even = omega (arith, phase_odd l u.word v.word) }

-- ---- absorbing angle k about the word b

module _ (l : ℕ) (b : List ℕ) (k : ℕ) where
  -- its word: for k = 4 as it is, else turned
  pub absorb_image_word : (p : Value) → (absorb_image l b k p).word ≡ (when eqb k 4 then p.word else quarter_turned l b p.word)
  unfolding absorb_image quarter_turned when◌then◌else◌ scaled multiply
  absorb_image_word p = go (anticommutes l b p.word) (eqb k 4)
    where
      go : (t u : Bool) → (when not t then p else when u then scaled 2 p else scaled (k / 2) (multiply l (as_value b) p)).word
          ≡ (when u then p.word else when t then xor_words b p.word else p.word)
      go true true = refl
      go true false = refl
      go false true = refl
      go false false = refl

  -- what commutes with b stays
  pub absorb_image_commuting : (p : Value) → symplectic l b p.word ≡ 0 → absorb_image l b k p ≡ p
  unfolding absorb_image
  absorb_image_commuting p h = if_true _ _ (ap not (anticommutes_none l b p.word h))

  -- images commute or anticommute as before
  pub absorb_image_symplectic : (p q : Value)
      → symplectic l (absorb_image l b k p).word (absorb_image l b k q).word ≡ symplectic l p.word q.word
  unfolding when◌then◌else◌
  absorb_image_symplectic p q = ap₂ (symplectic l) (absorb_image_word p) (absorb_image_word q) ∙ go (eqb k 4)
    where
      go : (t : Bool) → symplectic l (when t then p.word else quarter_turned l b p.word) (when t then q.word else quarter_turned l b q.word)
          ≡ symplectic l p.word q.word
      go true = refl
      go false = quarter_turned_symplectic l b p.word q.word

  module _ (Angles : Type 0) (word : IsWord l b) (quarters : Angles → IsQuarters k) where
    -- "k = 2 gives iBP": B and P anticommute, so the phase of BP is odd
    turned_signed : (p : Value) → SignedWord l Angles p → anticommutes l b p.word ≡ true → (k ≡ 4 → ⊥)
        → SignedWord l Angles (scaled (k / 2) (multiply l (as_value b) p))
    unfolding scaled multiply
    turned_signed p s h n = record {
      word = xor_words_word l b p.word word s.word;
      sign = λ g. even (s.sign g) (quarters g);
    }
      where
        even : IsSign p.turns → IsQuarters k → IsSign (((0 + p.turns + phase l b p.word) % 4 + k / 2) % 4)
        even t u = record { below = omega arith; even = omega (arith, phase_odd l b p.word, anticommutes_true l b p.word h) }

    -- an image keeps a sign
    pub absorb_image_signed : (p : Value) → SignedWord l Angles p → SignedWord l Angles (absorb_image l b k p)
    unfolding absorb_image
    absorb_image_signed p s =
        on_if (SignedWord l Angles) (not (anticommutes l b p.word)) _ _ (λ e. s)
        (λ e. on_if (SignedWord l Angles) (eqb k 4) _ _ (λ f. opposite) (λ f. turned_signed p s (flip _ e) (eqb-false k 4 f)))
      where
        opposite : SignedWord l Angles (scaled 2 p)
        opposite =
            unfold scaled in (record
            { word = s.word; sign = λ g. sign_add p.turns 2 (s.sign g) (record { below = omega arith; even = refl }) })

        flip : (t : Bool) → not t ≡ false → t ≡ true
        flip true e = refl
        flip false e = let z : ◌≡◌ {A = ℕ} 0 1 = cc in absurd (omega arith)

-- ---- all images

-- the images of a held qubit's X, Y and Z
pub record QubitImages (l : ℕ) (Angles : Type 0) (h : Images) : Type 0 where
  pub inside : h.qubit < 64 * l
  pub x : SignedWord l Angles h.x
  pub y : SignedWord l Angles h.y
  pub z : SignedWord l Angles h.z

-- F: every held image is a word with a sign, and the images of all letters, held or not, commute or anticommute as the letters do
pub record HeldImages (l : ℕ) (Angles : Type 0) (held : List Images) : Type 0 where
  pub each : Every (QubitImages l Angles) held
  pub relations : (q c r d : ℕ) → q < 64 * l → IsXYZ c → r < 64 * l → IsXYZ d
      → symplectic l (letter_image l held q c).word (letter_image l held r d).word ≡ symplectic l (single l q c) (single l r d)

module _ (l : ℕ) (Angles : Type 0) where
  -- the identity
  pub none_held : HeldImages l Angles []
  unfolding letter_image
  none_held = record { each = tt; relations = λ q c r d a b e f. refl }

  image_of_signed : (c : ℕ) (h : Images) → QubitImages l Angles h → SignedWord l Angles (image_of c h)
  unfolding image_of
  image_of_signed zero h s = s.x
  image_of_signed (suc zero) h s = s.x
  image_of_signed (suc (suc zero)) h s = s.y
  image_of_signed (suc (suc (suc c))) h s = s.z

  -- the image of any letter, held or not
  pub letter_image_signed : (held : List Images) (q c : ℕ) → Every (QubitImages l Angles) held → q < 64 * l
      → SignedWord l Angles (letter_image l held q c)
  unfolding letter_image
  letter_image_signed [] q c s b = plain_signed l Angles (single l q c) (single_word l q c b)
  letter_image_signed (h ∷ held) q c s b = by_if (SignedWord l Angles) _ _ _ (image_of_signed c h s.0) (letter_image_signed held q c s.1 b)

-- ---- touching changes no letter's image

own_image : (l q c : ℕ) → IsXYZ c → image_of c (own_images l q) ≡ as_value (single l q c)
unfolding image_of own_images
own_image l q zero h = absurd (omega arith)
own_image l q (suc zero) h = refl
own_image l q (suc (suc zero)) h = refl
own_image l q (suc (suc (suc zero))) h = refl
own_image l q (suc (suc (suc (suc c)))) h = absurd (omega arith)

letter_image_touched : (l : ℕ) (held : List Images) (r q c : ℕ) → IsXYZ c
    → letter_image l (held ++ (own_images l r ∷ [])) q c ≡ letter_image l held q c
unfolding letter_image
letter_image_touched l [] r q c h =
    on_if (λ (v : Value). v ≡ as_value (single l q c)) (eqb (own_images l r).qubit q) (image_of c (own_images l r)) _
    (λ e. own_image l r c h ∙ ap (λ (i : ℕ). as_value (single l i c)) (eqb-true r q (unfold own_images in e))) (λ e. refl)
letter_image_touched l (h ∷ held) r q c x = ap (λ (v : Value). when eqb h.qubit q then image_of c h else v) (letter_image_touched l held r q c x)

-- the letters' images after touching
pub touch_all_letter : (l : ℕ) (t : Touched) (qs : List ℕ) (q c : ℕ) → IsXYZ c
    → letter_image l (touch_all l t qs).held q c ≡ letter_image l t.held q c
unfolding touch_all
touch_all_letter l t [] q c h = refl
touch_all_letter l t (r ∷ qs) q c h = touch_all_letter l (touch l t r) qs q c h ∙ touch_letter
  where
    touch_letter : letter_image l (touch l t r).held q c ≡ letter_image l t.held q c
    touch_letter =
        unfold touch in (by_if (λ (x : Touched). letter_image l x.held q c ≡ letter_image l t.held q c) _ _ _ refl
        (letter_image_touched l t.held r q c h))

module _ (l : ℕ) (Angles : Type 0) where
  own_signed : (q : ℕ) → q < 64 * l → QubitImages l Angles (own_images l q)
  unfolding own_images
  own_signed q b = record {
    inside = b;
    x = plain_signed l Angles (single l q 1) (single_word l q 1 b);
    y = plain_signed l Angles (single l q 2) (single_word l q 2 b);
    z = plain_signed l Angles (single l q 3) (single_word l q 3 b);
  }

  touch_signed : (t : Touched) (q : ℕ) → q < 64 * l → Every (QubitImages l Angles) t.held → Every (QubitImages l Angles) (touch l t q).held
  unfolding touch
  touch_signed t q b s =
      by_if (λ (x : Touched). Every (QubitImages l Angles) x.held) _ _ _ s
      (every_one (QubitImages l Angles) t.held (own_images l q) s (own_signed q b))

  touch_all_signed : (t : Touched) (qs : List ℕ) → Every (λ q. q < 64 * l) qs → Every (QubitImages l Angles) t.held
      → Every (QubitImages l Angles) (touch_all l t qs).held
  unfolding touch_all
  touch_all_signed t [] b s = s
  touch_all_signed t (q ∷ qs) b s = touch_all_signed (touch l t q) qs b.1 (touch_signed t q b.0 s)

-- ---- touched qubits are held

is_held_more : (held more : List Images) (q : ℕ) → is_held q held ≡ true → is_held q (held ++ more) ≡ true
unfolding is_held any_of
is_held_more [] more q h = let z : ◌≡◌ {A = ℕ} 0 1 = cc in absurd (omega arith)
is_held_more (x ∷ held) more q h = go (eqb x.qubit q) h (is_held_more held more q)
  where
    go : (t : Bool) → (t || any_of (λ (y : Images). eqb y.qubit q) held) ≡ true
        → (any_of (λ (y : Images). eqb y.qubit q) held ≡ true → any_of (λ (y : Images). eqb y.qubit q) (held ++ more) ≡ true)
        → (t || any_of (λ (y : Images). eqb y.qubit q) (held ++ more)) ≡ true
    go true e ih = refl
    go false e ih = ih e

is_held_last : (l : ℕ) (held : List Images) (q : ℕ) → is_held q (held ++ (own_images l q ∷ [])) ≡ true
unfolding is_held any_of own_images
is_held_last l [] q = rw (eq-eqb q q refl) refl
is_held_last l (x ∷ held) q = go (eqb x.qubit q) (is_held_last l held q)
  where
    go : (t : Bool) {u : Bool} → u ≡ true → (t || u) ≡ true
    go true e = refl
    go false e = e

touch_more : (l : ℕ) (t : Touched) (r q : ℕ) → is_held q t.held ≡ true → is_held q (touch l t r).held ≡ true
unfolding touch
touch_more l t r q h = by_if (λ (x : Touched). is_held q x.held ≡ true) _ _ _ h (is_held_more t.held _ q h)

touch_holds : (l : ℕ) (t : Touched) (q : ℕ) → is_held q (touch l t q).held ≡ true
unfolding touch
touch_holds l t q = on_if (λ (x : Touched). is_held q x.held ≡ true) _ _ _ (λ e. e) (λ e. is_held_last l t.held q)

touch_all_more : (l : ℕ) (t : Touched) (qs : List ℕ) (q : ℕ) → is_held q t.held ≡ true → is_held q (touch_all l t qs).held ≡ true
unfolding touch_all
touch_all_more l t [] q h = h
touch_all_more l t (r ∷ qs) q h = touch_all_more l (touch l t r) qs q (touch_more l t r q h)

-- all that were touched
pub touch_all_holds : (l : ℕ) (t : Touched) (qs : List ℕ) → Every (λ q. is_held q (touch_all l t qs).held ≡ true) qs
unfolding touch_all
touch_all_holds l t [] = tt
touch_all_holds l t (q ∷ qs) = (touch_all_more l (touch l t q) qs q (touch_holds l t q), touch_all_holds l (touch l t q) qs)

-- ---- absorbing changes each letter's image by itself

image_of_absorbed : (l : ℕ) (b : List ℕ) (k c : ℕ) (h : Images) → image_of c (absorb_images l b k h) ≡ absorb_image l b k (image_of c h)
unfolding image_of absorb_images
image_of_absorbed l b k zero h = refl
image_of_absorbed l b k (suc zero) h = refl
image_of_absorbed l b k (suc (suc zero)) h = refl
image_of_absorbed l b k (suc (suc (suc c))) h = refl

-- also where the qubit is not held, if its letters commute with b
letter_image_absorbed : (l : ℕ) (b : List ℕ) (k : ℕ) (held : List Images) (q c : ℕ) → (is_held q held ≡ false → symplectic l b (single l q c) ≡ 0)
    → letter_image l (map (absorb_images l b k) held) q c ≡ absorb_image l b k (letter_image l held q c)
unfolding letter_image
letter_image_absorbed l b k [] q c h = sym (absorb_image_commuting l b k (as_value (single l q c)) (h (unfold is_held any_of in refl)))
letter_image_absorbed l b k (x ∷ held) q c h =
    let ih = letter_image_absorbed l b k held q c in
    go (eqb x.qubit q) refl ih
  where
    go : (t : Bool) → eqb x.qubit q ≡ t
        → ((is_held q held ≡ false → symplectic l b (single l q c) ≡ 0)
        → letter_image l (map (absorb_images l b k) held) q c ≡ absorb_image l b k (letter_image l held q c))
        → (when eqb (absorb_images l b k x).qubit q then image_of c (absorb_images l b k x) else letter_image l (map (absorb_images l b k) held) q c)
        ≡ absorb_image l b k (when eqb x.qubit q then image_of c x else letter_image l held q c)
    go true e ih =
        if_true _ _ (unfold absorb_images in e) ∙ image_of_absorbed l b k c x ∙ ap (absorb_image l b k) (sym (if_true _ _ e))
    go false e ih =
        if_false _ _ (unfold absorb_images in e) ∙ ih (λ f. h (unfold is_held any_of in (rw e f))) ∙ ap (absorb_image l b k) (sym (if_false _ _ e))

-- F takes in angle k about b: that is what becomes of every letter's image
pub absorb_word_letter : (l : ℕ) (t : Touched) (b : List ℕ) (k q c : ℕ) → q < 64 * l → IsXYZ c
    → letter_image l (absorb_word l t b k).held q c ≡ absorb_image l b k (letter_image l t.held q c)
absorb_word_letter l t b k q c h xyz =
    unfold absorb_word in (letter_image_absorbed l b k held q c apart) ∙ ap (absorb_image l b k) (touch_all_letter l t (support l b) q c xyz)
  where
    held : List Images
    held = (touch_all l t (support l b)).held

    -- b acts on held qubits only
    apart : is_held q (touch_all l t (support l b)).held ≡ false → symplectic l b (single l q c) ≡ 0
    apart free =
        symplectic_comm l b (single l q c) ∙ single_commutes l q c b h (idle (letter_at l b q)
        (λ e. let taken = support_each l b (λ i. is_held i (touch_all l t (support l b)).held ≡ true) (touch_all_holds l t (support l b)) q h e in
        let z : ◌≡◌ {A = ℕ} 0 1 = cc in omega arith))

module _ (l : ℕ) (Angles : Type 0) where
  absorb_images_signed : (b : List ℕ) (k : ℕ) → IsWord l b → (Angles → IsQuarters k) → (h : Images) → QubitImages l Angles h
      → QubitImages l Angles (absorb_images l b k h)
  unfolding absorb_images
  absorb_images_signed b k word quarters h s = record {
    inside = s.inside;
    x = absorb_image_signed l b k Angles word quarters h.x s.x;
    y = absorb_image_signed l b k Angles word quarters h.y s.y;
    z = absorb_image_signed l b k Angles word quarters h.z s.z;
  }

  -- F takes in a word
  pub absorb_word_images : (t : Touched) (b : List ℕ) (k : ℕ) → IsWord l b → (Angles → IsQuarters k) → HeldImages l Angles t.held
      → HeldImages l Angles (absorb_word l t b k).held
  absorb_word_images t b k word quarters s = record {
    each =
        unfold absorb_word in (every_map (QubitImages l Angles) (QubitImages l Angles) (absorb_images l b k) (absorb_images_signed b k word quarters)
        (touch_all l t (support l b)).held
        (touch_all_signed l Angles t (support l b) (support_all l b (λ q. q < 64 * l) (λ q h e. h)) s.each));
    relations = λ q c r d bq hc br hd.
        ap₂ (λ (u v : Value). symplectic l u.word v.word) (absorb_word_letter l t b k q c bq hc) (absorb_word_letter l t b k r d br hd)
        ∙ absorb_image_symplectic l b k (letter_image l t.held q c) (letter_image l t.held r d) ∙ s.relations q c r d bq hc br hd;
  }

  -- ---- a word carried through F

  module _ (held : List Images) (images : HeldImages l Angles held) (w : List ℕ) where
    -- v commutes with the images of all letters from qubit lo on
    abbrev Passes : Value → ℕ → Type 0
    Passes v lo = (q c : ℕ) → lo ≤ q → q < 64 * l → IsXYZ c → symplectic l v.word (letter_image l held q c).word ≡ 0

    passes_more : (v : Value) (lo q c : ℕ) → lo ≤ q → q < 64 * l → IsXYZ c → Passes v lo → Passes (multiply l v (letter_image l held q c)) (suc q)
    unfolding multiply
    passes_more v lo q c a b hc pass r d e f hd =
        let z = images.relations q c r d b hc f hd ∙ singles_commute l q c r d b f (λ same. omega arith) in
        omega (arith, xor_symplectic l (letter_image l held r d).word v.word (letter_image l held q c).word, pass r d (omega arith) f hd)

    multiply_images_signed : (v : Value) (lo : ℕ) (qs : List ℕ) → Rising lo (64 * l) qs → Every (λ q. acts l w q ≡ 1) qs
        → SignedWord l Angles v → Passes v lo → SignedWord l Angles (multiply_images l held w v qs)
    unfolding multiply_images
    multiply_images_signed v lo [] rise act s pass = s
    multiply_images_signed v lo (q ∷ qs) rise act s pass =
        let b : q < 64 * l = rising_le (suc q) (64 * l) qs rise.1 in
        let c = letter_at l w q in
        let xyz = acts_letter l w q act.0 in
        multiply_images_signed (multiply l v (letter_image l held q c)) (suc q) qs rise.1 act.1
        (multiply_signed l Angles v (letter_image l held q c) s (letter_image_signed l Angles held q c images.each b) (pass q c rise.0 b xyz))
        (passes_more v lo q c rise.0 b xyz pass)

    -- its image is a word with a sign
    pub word_image_signed : SignedWord l Angles (word_image l held w)
    unfolding word_image
    word_image_signed =
        multiply_images_signed (as_value (identity l)) 0 (support l w) (support_rising l w) (support_all l w (λ q. acts l w q ≡ 1) (λ q h e. e))
        (plain_signed l Angles (identity l) (identity_word l))
        (λ q c a b xyz. symplectic_identity l _ (letter_image_signed l Angles held q c images.each b).word.long)
