-- Carrying a word through F is carrying it through what F took in, one after the other: nothing leaves it as it is, and absorbing changes its
-- image as it changes the held images. Carried words commute or anticommute as the words do. Assumes nothing.
use Rattle.std.specs.Prelude.{◌≡◌, ◌⊎◌, ℕ, suc, ◌+◌, ◌*◌, ◌%◌, ◌≤◌, ◌<◌}
use Rattle.std.proofs.Math.Path.{refl, sym, ap, ap₂}
use Rattle.std.proofs.Common.{◌∙◌, inl, inr, arith}
use mathlib.Core.List.{List, [], ◌∷◌}
use Rattle.std.proofs.Math.Decide.{ℕ_discrete}
use Rattle.std.proofs.Math.ListN.{length}
use Rattle.pauli.specs.Word.{IsWord, identity, xor_words, phase, symplectic}
use Rattle.pauli.specs.Letter.{letter_at, single, acts}
use Rattle.pauli.specs.ProductLaws.{symplectic_comm, symplectic_xor, symplectic_identity}
use Rattle.pauli.specs.LetterLaws.{letters_ext, letter_mul, letter_xor, single_letter, single_elsewhere, single_word, xor_words_word, identity_word}
use Rattle.pauli.specs.LetterLaws.{identity_letter}
use Rattle.model.specs.Words.{Value, as_value, multiply, support}
use Rattle.model.specs.Clifford.{Images, absorb_image, Touched, absorb_word, letter_image, multiply_images, word_image}
use Rattle.theory.specs.Every.{Every}
use Rattle.words_wellformed.specs.SupportQubits.{support_all, support_each, Rising, rising_le, support_rising}
use Rattle.words_wellformed.specs.Commuting.{mul_one, apart_phase, xor_symplectic}
use Rattle.words_wellformed.specs.HeldImages.{IsQuarters, IsXYZ, idle, acts_letter, absorb_image_commuting, HeldImages, letter_image_signed}
use Rattle.words_wellformed.specs.HeldImages.{absorb_word_letter, word_image_signed}
use Rattle.words_wellformed.specs.Conjugation.{value_eq, absorb_image_multiply}

-- ---- absorbing

module _ (l : ℕ) (Angles : Type 0) (t : Touched) (images : HeldImages l Angles t.held) (b : List ℕ) (k : ℕ) where
  module _ (word : IsWord l b) (quarters : IsQuarters k) (w : List ℕ) where
    multiply_images_absorbed : (u : Value) (qs : List ℕ) → IsWord l u.word → Every (λ q. (q < 64 * l) × (acts l w q ≡ 1)) qs
        → multiply_images l (absorb_word l t b k).held w (absorb_image l b k u) qs ≡ absorb_image l b k (multiply_images l t.held w u qs)
    unfolding multiply_images
    multiply_images_absorbed u [] h act = refl
    multiply_images_absorbed u (q ∷ qs) h act =
        let c = letter_at l w q in
        let v = letter_image l t.held q c in
        let long : length b ≤ length u.word = omega (arith, word.long, h.long) in
        ap (λ (x : Value). multiply_images l (absorb_word l t b k).held w x qs)
        (ap (multiply l (absorb_image l b k u)) (absorb_word_letter l t b k q c act.0.0 (acts_letter l w q act.0.1))
        ∙ sym (absorb_image_multiply l b k quarters u v long))
        ∙ multiply_images_absorbed (multiply l u v) qs
        (unfold multiply in (xor_words_word l u.word v.word h
        (letter_image_signed l Angles t.held q c images.each act.0.0).word)) act.1

    -- the image of a word changes as the held images do
    pub word_image_absorbed : word_image l (absorb_word l t b k).held w ≡ absorb_image l b k (word_image l t.held w)
    unfolding word_image
    word_image_absorbed =
        ap (λ (u : Value). multiply_images l (absorb_word l t b k).held w u (support l w))
        (sym (absorb_image_commuting l b k (as_value (identity l)) (symplectic_comm l b (identity l) ∙ symplectic_identity l b word.long)))
        ∙ multiply_images_absorbed (as_value (identity l)) (support l w) (identity_word l)
        (support_all l w (λ q. (q < 64 * l) × (acts l w q ≡ 1)) (λ q h e. (h, e)))

-- ---- F the identity: a word is the product of its letters

-- v is x with the letters of w on the qubits qs
record Laid (l : ℕ) (w x : List ℕ) (qs : List ℕ) (v : Value) : Type 0 where
  turns : v.turns ≡ 0
  word : IsWord l v.word
  laid : Every (λ q. letter_at l v.word q ≡ letter_at l w q) qs
  others : (i : ℕ) → i < 64 * l → Every (λ q. q ≡ i → ⊥) qs → letter_at l v.word i ≡ letter_at l x i

rising_above : (lo hi : ℕ) (qs : List ℕ) (i : ℕ) → i < lo → Rising lo hi qs → Every (λ q. q ≡ i → ⊥) qs
rising_above lo hi [] i b h = tt
rising_above lo hi (q ∷ qs) i b h = (λ e. omega arith, rising_above (suc q) hi qs i (omega arith) h.1)

-- plain words whose product has no phase
multiply_plain : (l : ℕ) (x y : List ℕ) → phase l x y ≡ 0 → multiply l (as_value x) (as_value y) ≡ as_value (xor_words x y)
unfolding multiply
multiply_plain l x y h = value_eq (rw h refl) refl

-- letter c on qubit q behind x
module _ (l : ℕ) (x : List ℕ) (q c : ℕ) (inside : q < 64 * l) where
  more_elsewhere : (i : ℕ) → i < 64 * l → (i ≡ q → ⊥) → letter_at l (xor_words x (single l q c)) i ≡ letter_at l x i
  more_elsewhere i k n =
      letter_xor l x (single l q c) i ∙ ap (letter_mul (letter_at l x i)) (single_elsewhere l q c inside i k n) ∙ mul_one (letter_at l x i)

  more_here : letter_at l x q ≡ 0 → c < 4 → letter_at l (xor_words x (single l q c)) q ≡ c
  more_here free small = letter_xor l x (single l q c) q ∙ ap₂ letter_mul free (single_letter l q c inside small)

  more_multiply : IsWord l x → letter_at l x q ≡ 0 → multiply l (as_value x) (as_value (single l q c)) ≡ as_value (xor_words x (single l q c))
  more_multiply h free =
      multiply_plain l x (single l q c) (apart_phase l x (single l q c) h (λ i k. apart i k (ℕ_discrete i q)) (single_word l q c inside))
    where
      apart : (i : ℕ) → i < 64 * l → Dec (i ≡ q) → (letter_at l x i ≡ 0) ⊎ (letter_at l (single l q c) i ≡ 0)
      apart i k (yes f) = inl (rw f free)
      apart i k (no n) = inr (single_elsewhere l q c inside i k n)

module _ (l : ℕ) (w : List ℕ) where
  laid_from : (x : List ℕ) (lo : ℕ) (qs : List ℕ) → IsWord l x → ((i : ℕ) → lo ≤ i → i < 64 * l → letter_at l x i ≡ 0)
      → Rising lo (64 * l) qs → Every (λ q. acts l w q ≡ 1) qs → Laid l w x qs (multiply_images l [] w (as_value x) qs)
  unfolding multiply_images letter_image
  laid_from x lo [] h free rise act = record { turns = refl; word = h; laid = tt; others = λ i b n. refl }
  laid_from x lo (q ∷ qs) h free rise act =
      let b : q < 64 * l = rising_le (suc q) (64 * l) qs rise.1 in
      let c = letter_at l w q in
      let xyz = acts_letter l w q act.0 in
      let none = free q rise.0 b in
      let ih = laid_from (xor_words x (single l q c)) (suc q) qs (xor_words_word l x (single l q c) h (single_word l q c b))
      (λ i a k. more_elsewhere l x q c b i k (λ f. omega arith) ∙ free i (omega arith) k) rise.1 act.1 in
      rw (more_multiply l x q c b h none) (record {
        turns = ih.turns;
        word = ih.word;
        laid = (ih.others q b (rising_above (suc q) (64 * l) qs q (omega arith) rise.1) ∙ more_here l x q c b none (omega arith), ih.laid);
        others = λ i k n. ih.others i k n.1 ∙ more_elsewhere l x q c b i k (λ f. n.0 (sym f));
      })

  -- carried through the identity, a word is itself
  pub word_image_none : IsWord l w → word_image l [] w ≡ as_value w
  unfolding word_image
  word_image_none h = value_eq all.turns (letters_ext l _ w all.word h (λ i b. letter i b (ℕ_discrete (acts l w i) 1)))
    where
      all : Laid l w (identity l) (support l w) (multiply_images l [] w (as_value (identity l)) (support l w))
      all =
          laid_from (identity l) 0 (support l w) (identity_word l) (λ i a b. identity_letter l i) (support_rising l w)
          (support_all l w (λ q. acts l w q ≡ 1) (λ q b e. e))

      letter : (i : ℕ) → i < 64 * l → Dec (acts l w i ≡ 1)
          → letter_at l (multiply_images l [] w (as_value (identity l)) (support l w)).word i ≡ letter_at l w i
      letter i b (yes e) =
          support_each l w (λ q. letter_at l (multiply_images l [] w (as_value (identity l)) (support l w)).word q ≡ letter_at l w q)
          all.laid i b e
      letter i b (no n) =
          all.others i b (support_all l w (λ q. q ≡ i → ⊥) (λ q k e f. n (rw f at e)))
          ∙ identity_letter l i ∙ sym (idle (letter_at l w i) n)

-- ---- carried words commute or anticommute as the words do

module _ (l : ℕ) (Angles : Type 0) (held : List Images) (images : HeldImages l Angles held) where
  -- u stands to every letter's image as v stands to the letter
  abbrev Alike : Value → Value → Type 0
  Alike u v = (q c : ℕ) → q < 64 * l → IsXYZ c → symplectic l u.word (letter_image l held q c).word ≡ symplectic l v.word (single l q c)

  abbrev Acted : List ℕ → ℕ → Type 0
  Acted w q = (q < 64 * l) × (acts l w q ≡ 1)

  alike_multiply : (w : List ℕ) (u v : Value) (qs : List ℕ) → Every (Acted w) qs → Alike u v
      → Alike (multiply_images l held w u qs) (multiply_images l [] w v qs)
  unfolding multiply_images
  alike_multiply w u v [] act h = h
  alike_multiply w u v (q ∷ qs) act h = alike_multiply w (multiply l u (letter_image l held q (letter_at l w q))) (multiply l v (letter_image l [] q (letter_at l w q))) qs act.1 more
    where
      more : Alike (multiply l u (letter_image l held q (letter_at l w q))) (multiply l v (letter_image l [] q (letter_at l w q)))
      more r d b hd =
          unfold multiply letter_image in (xor_symplectic l (letter_image l held r d).word u.word (letter_image l held q (letter_at l w q)).word
          ∙ ap₂ (λ (m n : ℕ). (m + n) % 2) (h r d b hd)
          (images.relations q (letter_at l w q) r d act.0.0 (acts_letter l w q act.0.1) b hd)
          ∙ sym (xor_symplectic l (single l r d) v.word (single l q (letter_at l w q))))

  alike_symplectic : (w : List ℕ) (u v x y : Value) (qs : List ℕ) → Every (Acted w) qs → Alike u v
      → symplectic l u.word x.word ≡ symplectic l v.word y.word
      → symplectic l u.word (multiply_images l held w x qs).word ≡ symplectic l v.word (multiply_images l [] w y qs).word
  unfolding multiply_images
  alike_symplectic w u v x y [] act h e = e
  alike_symplectic w u v x y (q ∷ qs) act h e = alike_symplectic w u v (multiply l x (letter_image l held q (letter_at l w q))) (multiply l y (letter_image l [] q (letter_at l w q))) qs act.1 h more
    where
      more : symplectic l u.word (multiply l x (letter_image l held q (letter_at l w q))).word
          ≡ symplectic l v.word (multiply l y (letter_image l [] q (letter_at l w q))).word
      more =
          unfold multiply letter_image in (symplectic_xor l u.word x.word (letter_image l held q (letter_at l w q)).word
          ∙ ap₂ (λ (m n : ℕ). (m + n) % 2) e (h q (letter_at l w q) act.0.0 (acts_letter l w q act.0.1))
          ∙ sym (symplectic_xor l v.word y.word (single l q (letter_at l w q))))

  acted : (w : List ℕ) → Every (Acted w) (support l w)
  acted w = support_all l w (Acted w) (λ q h e. (h, e))

  -- both begin with the identity, which commutes with all
  image_alike : (w : List ℕ) → Alike (word_image l held w) (word_image l [] w)
  unfolding word_image
  image_alike w =
      alike_multiply w (as_value (identity l)) (as_value (identity l)) (support l w) (acted w) (λ q c b xyz.
      symplectic_identity l _ (letter_image_signed l Angles held q c images.each b).word.long
      ∙ sym (symplectic_identity l (single l q c) (single_word l q c b).long))

  image_symplectic : (w : List ℕ) (u v : Value) → Alike u v → IsWord l u.word → IsWord l v.word
      → symplectic l u.word (word_image l held w).word ≡ symplectic l v.word (word_image l [] w).word
  unfolding word_image
  image_symplectic w u v h hu hv =
      alike_symplectic w u v (as_value (identity l)) (as_value (identity l)) (support l w) (acted w) h
      (against u.word hu ∙ sym (against v.word hv))
    where
      against : (x : List ℕ) → IsWord l x → symplectic l x (identity l) ≡ 0
      against x k = symplectic_comm l x (identity l) ∙ symplectic_identity l x k.long

  -- a carried word stands to a letter's image as the word does to the letter
  pub word_image_letter : (w : List ℕ) → IsWord l w → (q c : ℕ) → q < 64 * l → IsXYZ c
      → symplectic l (word_image l held w).word (letter_image l held q c).word ≡ symplectic l w (single l q c)
  word_image_letter w h q c b xyz =
      image_alike w q c b xyz ∙ ap (λ (v : Value). symplectic l v.word (single l q c)) (word_image_none l w h)

  -- F keeps which words commute
  pub word_image_symplectic : (v w : List ℕ) → IsWord l v → IsWord l w
      → symplectic l (word_image l held v).word (word_image l held w).word ≡ symplectic l v w
  word_image_symplectic v w hv hw =
      image_symplectic w (word_image l held v) (word_image l [] v) (image_alike v) (word_image_signed l Angles held images v).word
      (rw (word_image_none l v hv) hv)
      ∙ ap₂ (λ (x y : Value). symplectic l x.word y.word) (word_image_none l v hv) (word_image_none l w hw)
