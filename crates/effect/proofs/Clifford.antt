-- F, the Clifford that a pass has absorbed, and the pass's invariant. Assumes nothing.
use Rattle.std.specs.Prelude.{◌≡◌, List, [], ◌∷◌, ◌++◌, map, Bool, true, false}
use Rattle.std.proofs.Math.Path.{refl, sym, ap, ap₂}
use Rattle.std.proofs.Common.{◌∙◌, arith, length-append}
use Prim.Native.Nat.{ℕ, suc, ◌+◌}
use Rattle.std.proofs.Math.ListN.{length}
use Rattle.groups.specs.Abelian.{Ab, map_pow2, dbl, pow2, pow2_add, pow2_plus, pow2_swap}
use Rattle.groups.specs.Normaliser.{at, ◌⊞◌, ab, cancel2}
use Rattle.groups.specs.Root.{Root}
use Rattle.groups.specs.Eighth.{Eighth, is_even_e}
use Rattle.groups.proofs.Real.{IsReal, comp_real, id_real}
use Rattle.effect.specs.Phase.{Quarter, q0, Quarterᵃ, odd, ◌⊞₄◌, even_add, Sgn, ◌·ˢ◌, σ, τ, τ-add}
use Rattle.effect.specs.Words.{Setting}
use Rattle.effect.specs.Effect.{Op, plain, measured, conditional, sums, sums_root, times, rotate, measure, signed, step, effect, word, pmul}
use Rattle.effect.specs.Effect.{product, complex_sums, front, effect_from, ◌≈◌}
use Rattle.effect.proofs.Generators.{bracket_j, bracket_a}
use Rattle.effect.proofs.Operators.{rotate_real, sgn, sgn_real, sgn_map, sgn_mul, effect_real, effect_append}
use Rattle.effect.specs.Conjugation.{conj, turned}
use Rattle.effect.proofs.Conjugation.{conj_even, rotate_times, Carries, pass_rotate, pass_given, pass_measure, signed_mul}
use Rattle.effect.proofs.Image.{image, image_mul, image_unit, phased_mul}
use Rattle.effect.proofs.Single.{rotate_even}
use Rattle.effect.proofs.Frame.{product_map, front_add, front_pow2}

module _ (H : Setting) where
  open H use {words as Ws}
  open Ws use {W, ◌⊕◌, ph, unit}

  infixl 65 ◌⊕◌
  abbrev S : Ab
  S = sums H

  abbrev Sr : Root S
  Sr = sums_root H

  open S use {C}

  -- ---- what has been absorbed: a map of sums, how often 2 was put in, the images of words with their phases

  pub record Cliff : Type 0 where
    pub Φ : C → C
    pub real : IsReal S Sr Φ
    pub count : ℕ
    pub im : W → Quarter × W
    pub im_even : (P : W) → odd (im P).0 ≡ false
    pub im_J : (P : W) → Carries H Φ σ P (im P).0 (im P).1
    pub im_A : (P : W) → Carries H Φ τ P (im P).0 (im P).1
    pub im_unit : im unit ≡ (q0, unit)
    pub im_mul : (P Q : W) → ((im (P ⊕ Q)).0 ⊞₄ ph P Q, (im (P ⊕ Q)).1) ≡ pmul H (im P) (im Q)
    pub im_word : (Q : W) → Φ (word H Q) ≡ pow2 S count (sgn H (τ (im Q).0) (word H (im Q).1))

  unfoldable pub nothing : Cliff
  unfolding pow2
  nothing = record {
    Φ = λ f. f;
    real = id_real S Sr;
    count = 0;
    im = λ P. (q0, P);
    im_even = λ P. refl;
    im_J = λ P f. refl;
    im_A = λ P f. refl;
    im_unit = refl;
    im_mul = λ P Q. refl;
    im_word = λ Q. refl;
  }

  -- ---- the even rotation by e about B, put in front of F

  module _ (F : Cliff) (e : Eighth) (B : W) (h : is_even_e e ≡ true) where
    unfoldable pub next_im : W → Quarter × W
    next_im P = image H e B (F.im P)

    pub next_times : (χ : Quarter → Sgn) → ((P : W) → Carries H (rotate H e B) χ P (conj H e B P).0 (conj H e B P).1)
        → ((P : W) → Carries H F.Φ χ P (F.im P).0 (F.im P).1)
        → (P : W) → Carries H (λ f. rotate H e B (F.Φ f)) χ P (next_im P).0 (next_im P).1
    unfolding next_im image
    next_times χ r l P f =
        ap (rotate H e B) (l P f) ∙ sgn_map H (rotate H e B) (rotate_real H e B).0 (τ t) (times H χ P' (F.Φ f))
        ∙ ap (sgn H (τ t)) (r P' (F.Φ f)) ∙ sgn_mul H (τ t) (τ c.0) g ∙ ap (λ s. sgn H s g) (τ-add t c.0 (F.im_even P))
      where
        t : Quarter
        t = (F.im P).0

        P' : W
        P' = (F.im P).1

        c : Quarter × W
        c = conj H e B P'

        g : C
        g = times H χ c.1 (rotate H e B (F.Φ f))

    -- the phase of a product, moved through an image
    pub next_mul : (P Q : W) → ((next_im (P ⊕ Q)).0 ⊞₄ ph P Q, (next_im (P ⊕ Q)).1) ≡ pmul H (next_im P) (next_im Q)
    unfolding next_im image
    next_mul P Q =
        (λ i. (shift i, c.1)) ∙ ap (image H e B) (F.im_mul P Q) ∙ image_mul H e B (F.im P) (F.im Q)
      where
        t : Quarter
        t = (F.im (P ⊕ Q)).0

        c : Quarter × W
        c = conj H e B (F.im (P ⊕ Q)).1

        shift : (t ⊞₄ c.0) ⊞₄ ph P Q ≡ (t ⊞₄ ph P Q) ⊞₄ c.0
        shift = ab Quarterᵃ (t ∷ c.0 ∷ ph P Q ∷ []) ((at 0 ⊞ at 1) ⊞ at 2) ((at 0 ⊞ at 2) ⊞ at 1) refl

    pub next_word : (Q : W) → rotate H e B (F.Φ (word H Q)) ≡ pow2 S (suc F.count) (sgn H (τ (next_im Q).0) (word H (next_im Q).1))
    unfolding next_im image pow2
    next_word Q =
        ap (rotate H e B) (F.im_word Q) ∙ map_pow2 S (rotate H e B) (rotate_real H e B).0 F.count (sgn H (τ t) (word H Q'))
        ∙ ap (pow2 S F.count) moved ∙ pow2_add S F.count y y
      where
        t : Quarter
        t = (F.im Q).0

        Q' : W
        Q' = (F.im Q).1

        c : Quarter × W
        c = conj H e B Q'

        y : C
        y = sgn H (τ (t ⊞₄ c.0)) (word H c.1)

        signs : sgn H (τ t) (sgn H (τ c.0) (word H c.1)) ≡ y
        signs = sgn_mul H (τ t) (τ c.0) (word H c.1) ∙ ap (λ s. sgn H s (word H c.1)) (τ-add t c.0 (F.im_even Q))

        moved : rotate H e B (sgn H (τ t) (word H Q')) ≡ dbl S y
        moved =
            sgn_map H (rotate H e B) (rotate_real H e B).0 (τ t) (word H Q') ∙ ap (sgn H (τ t)) (rotate_even H e B Q' h)
            ∙ (sgn_real H (τ t)).0 (sgn H (τ c.0) (word H c.1)) (sgn H (τ c.0) (word H c.1)) ∙ ap (dbl S) signs

    unfoldable pub absorbed : Cliff
    unfolding next_im image
    absorbed = record {
      Φ = λ f. rotate H e B (F.Φ f);
      real = comp_real S Sr (rotate H e B) F.Φ (rotate_real H e B) F.real;
      count = suc F.count;
      im = next_im;
      im_even = λ P. even_add (F.im P).0 (conj H e B (F.im P).1).0 (F.im_even P) (conj_even H e B (F.im P).1);
      im_J = next_times σ (λ P. rotate_times H σ (bracket_j H) e B P h) F.im_J;
      im_A = next_times τ (λ P. rotate_times H τ (bracket_a H) e B P h) F.im_A;
      im_unit = ap (image H e B) F.im_unit ∙ image_unit H e B;
      im_mul = next_mul;
      im_word = next_word;
    }

  pub absorbed_im : (F : Cliff) (e : Eighth) (B : W) (h : is_even_e e ≡ true) (P : W) → (absorbed F e B h).im P ≡ image H e B (F.im P)
  unfolding absorbed next_im
  absorbed_im F e B h P = refl

  -- ---- carrying through F

  -- a word with a phase
  unfoldable pub carry_row : Cliff → Quarter × W → Quarter × W
  carry_row F a = (a.0 ⊞₄ (F.im a.1).0, (F.im a.1).1)

  pub carry_row_mul : (F : Cliff) (a b : Quarter × W) → carry_row F (pmul H a b) ≡ pmul H (carry_row F a) (carry_row F b)
  unfolding carry_row
  carry_row_mul F a b = phased_mul H F.im F.im_mul a b

  pub carry_row_unit : (F : Cliff) → carry_row F (q0, unit) ≡ (q0, unit)
  unfolding carry_row
  carry_row_unit F = ap (λ a. (q0 ⊞₄ a.0, a.1)) F.im_unit

  -- an operation
  unfoldable pub carry : Cliff → Op W → Op W
  carry F (plain k P) = plain (turned H (F.im P).0 k) (F.im P).1
  carry F (measured s P m) = measured (τ (F.im P).0 ·ˢ s) (F.im P).1 m
  carry F (conditional k P m) = conditional (turned H (F.im P).0 k) (F.im P).1 m

  pub carry_step : (F : Cliff) (o : ℕ → Bool) (p : Op W) (f : C) → F.Φ (step H o p f) ≡ step H o (carry F p) (F.Φ f)
  unfolding step carry
  carry_step F o (plain k P) f = pass_rotate H F.Φ F.real P (F.im P).1 (F.im P).0 (F.im_even P) (F.im_J P) k f
  carry_step F o (measured s P m) f =
      pass_measure H F.Φ F.real P (F.im P).1 (F.im P).0 (F.im_even P) (F.im_A P) (signed H (o m) s) f
      ∙ ap (λ z. measure H z (F.im P).1 (F.Φ f)) (signed_mul H (o m) s (τ (F.im P).0))
  carry_step F o (conditional k P m) f =
      pass_given H F.Φ F.real P (F.im P).1 (o m) (F.im P).0 (F.im_even P) (F.im_J P) k f

  -- ---- the stream's invariant: the pass has read X, put out Y, and absorbed F

  abbrev pub Sim : List (Op W) → List (Op W) → Cliff → Type 0
  Sim X Y F = (o : ℕ → Bool) (f : C) → pow2 S (length Y + F.count) (effect H o X f) ≡ pow2 S (length X) (effect H o Y (F.Φ f))

  pub sim_start : Sim [] [] nothing
  unfolding nothing effect
  sim_start o f = refl

  snoc : (o : ℕ → Bool) (X : List (Op W)) (p : Op W) (f : C) → effect H o (X ++ (p ∷ [])) f ≡ effect H o X (step H o p f)
  unfolding effect
  snoc o X p f = effect_append H o X (p ∷ []) f

  snoc_length : (X : List (Op W)) (p : Op W) → length (X ++ (p ∷ [])) ≡ suc (length X)
  snoc_length X p = omega (arith, length-append X (p ∷ []))

  -- it puts an operation out
  pub sim_push : (X Y : List (Op W)) (F : Cliff) (p : Op W) → Sim X Y F → Sim (X ++ (p ∷ [])) (Y ++ (carry F p ∷ [])) F
  unfolding pow2
  sim_push X Y F p h o f =
      let n : length (Y ++ (carry F p ∷ [])) + F.count ≡ suc (length Y + F.count) = omega (arith, snoc_length Y (carry F p)) in
      ap₂ (pow2 S) n (snoc o X p f)
      ∙ ap (dbl S) (h o (step H o p f) ∙ ap (λ g. pow2 S (length X) (effect H o Y g)) (carry_step F o p f))
      ∙ sym (ap₂ (pow2 S) (snoc_length X p) (snoc o Y (carry F p) (F.Φ f)))

  -- it replaces what it put out
  pub sim_replace : (X Y Y' : List (Op W)) (F : Cliff) → ◌≈◌ H Y Y' → Sim X Y F → Sim X Y' F
  sim_replace X Y Y' F e h o f = cancel2 S Sr.torsion y (pow2 S (y' + F.count) EX) (pow2 S x (E Y')) twice
    where
      x : ℕ
      x = length X

      y : ℕ
      y = length Y

      y' : ℕ
      y' = length Y'

      EX : C
      EX = effect H o X f

      E : List (Op W) → C
      E L = effect H o L (F.Φ f)

      regroup : pow2 S y (pow2 S (y' + F.count) EX) ≡ pow2 S y' (pow2 S (y + F.count) EX)
      regroup =
          let n : y + (y' + F.count) ≡ y' + (y + F.count) = omega arith in
          sym (pow2_plus S y (y' + F.count) EX) ∙ ap (λ m. pow2 S m EX) n ∙ pow2_plus S y' (y + F.count) EX

      twice : pow2 S y (pow2 S (y' + F.count) EX) ≡ pow2 S y (pow2 S x (E Y'))
      twice =
          regroup ∙ ap (pow2 S y') (h o f) ∙ pow2_swap S y' x (E Y) ∙ ap (pow2 S x) (e o (F.Φ f)) ∙ pow2_swap S x y (E Y')

  -- it absorbs an even rotation at the end of what it put out
  pub sim_move : (X Y : List (Op W)) (F : Cliff) (e : Eighth) (B : W) (k : is_even_e e ≡ true)
      → Sim X (Y ++ (plain e B ∷ [])) F → Sim X Y (absorbed F e B k)
  unfolding absorbed step
  sim_move X Y F e B k h o f =
      ap (λ n. pow2 S n (effect H o X f)) (omega (arith, snoc_length Y (plain e B))) ∙ h o f
      ∙ ap (pow2 S (length X)) (snoc o Y (plain e B) (F.Φ f))

  -- ---- at the end the rows are carried: the result has the source's effect, for every choice of outcomes and every list of rows

  pub finish : (X Y : List (Op W)) (F : Cliff) → Sim X Y F → (o : ℕ → Bool) (rows : List (Quarter × W))
      → pow2 (complex_sums H) (length Y) (effect_from H o X rows) ≡ pow2 (complex_sums H) (length X) (effect_from H o Y (map (carry_row F) rows))
  unfolding effect_from carry_row
  finish X Y F h o rows =
      sym (front_pow2 H t (length Y) (E X (word H Q))) ∙ ap (front H t) real_part ∙ front_pow2 H t (length X) (sgn H s (E Y (word H Q')))
      ∙ ap (pow2 (complex_sums H) (length X))
      (front_add H t (F.im Q).0 (F.im_even Q) (E Y (word H Q')) ∙ ap (λ a. front H a.0 (E Y (word H a.1))) (sym images))
    where
      t : Quarter
      t = (product H rows).0

      Q : W
      Q = (product H rows).1

      Q' : W
      Q' = (F.im Q).1

      s : Sgn
      s = τ (F.im Q).0

      E : List (Op W) → C → C
      E = effect H o

      y : C
      y = sgn H s (E Y (word H Q'))

      images : product H (map (carry_row F) rows) ≡ (t ⊞₄ (F.im Q).0, Q')
      images = product_map H (carry_row F) (carry_row_unit F) (carry_row_mul F) rows

      out : E Y (F.Φ (word H Q)) ≡ pow2 S F.count y
      out =
          ap (E Y) (F.im_word Q) ∙ map_pow2 S (E Y) (effect_real H o Y).0 F.count (sgn H s (word H Q'))
          ∙ ap (pow2 S F.count) (sgn_map H (E Y) (effect_real H o Y).0 s (word H Q'))

      real_part : pow2 S (length Y) (E X (word H Q)) ≡ pow2 S (length X) y
      real_part =
          cancel2 S Sr.torsion F.count (pow2 S (length Y) (E X (word H Q))) (pow2 S (length X) y)
          (pow2_swap S F.count (length Y) (E X (word H Q)) ∙ sym (pow2_plus S (length Y) F.count (E X (word H Q)))
          ∙ h o (word H Q) ∙ ap (pow2 S (length X)) out ∙ pow2_swap S (length X) F.count y)
