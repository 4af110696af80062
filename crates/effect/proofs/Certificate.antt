-- 01, "Two groups, each of axes that commute with one another, exchange if, for each product word, the signed sum of angle products over
-- anticommuting pairs is zero". Assumes nothing.
use Rattle.std.specs.Prelude.{◌≡◌, Bool, pos, ◌+ℤ◌, ◌*ℤ◌}
use Rattle.std.proofs.Math.Path.{refl, sym, ap, ap₂, fun_ext}
use Rattle.std.proofs.Common.{◌∙◌, length-append}
use mathlib.Core.List.{List, [], ◌∷◌, ◌++◌}
use Prim.Native.Nat.{ℕ, zero, suc, ◌≤◌}
use native.Mathlib.Omega.{arith}
use Rattle.std.proofs.Math.Nat as NatL
use Rattle.std.proofs.Math.IntN.{ℤ}
use Rattle.std.proofs.Math.ListN.{length}
use Rattle.groups.specs.Abelian.{Ab, nsm, zsm, zsm_add, zsm_mul, zsm_of_add, zsm_zer, zer_add, neg_add_cancel, swap_mid, map_zer, map_zsm, pow2}
use Rattle.groups.specs.Root.{Root, at, ◌⊞◌, lin}
use Rattle.groups.specs.Eighth.{eighth}
use Rattle.groups.proofs.Real.{Gen, rot, rots, total, total_real, Commuting}
use Rattle.groups.proofs.Real as Real
use Rattle.effect.specs.Phase.{Sgn, nil, plus, minus, toℤ, σ}
use Rattle.effect.specs.Words.{Setting}
use Rattle.effect.specs.Signs.{act, act_zsm}
use Rattle.effect.specs.Effect.{Op, pick, sums, sums_root, J, step, effect, ◌≈◌}
use Rattle.effect.proofs.Generators.{times_add, times_real, J_cube, times_comm, bracket_j}
use Rattle.effect.proofs.Operators.{rotate_is, effect_append}
use Rattle.effect.specs.Certificate as Tested

module _ (H : Setting) where
  open H use {words as Ws, same, coeff as K}
  open Ws use {W, ◌⊕◌, ph}

  infixl 65 ◌⊕◌
  abbrev S : Ab
  S = sums H

  abbrev Sr : Root S
  Sr = sums_root H

  open S use {C, zer, add as ◌⊹◌, neg, add_assoc, add_comm, add_zer}

  infixl 60 ◌⊹◌
  -- what is tested, of these words
  abbrev row : ℤ × W → List (ℤ × W) → List (ℤ × W)
  row = Tested.row H

  abbrev products : List (ℤ × W) → List (ℤ × W) → List (ℤ × W)
  products = Tested.products H

  abbrev weight : W → List (ℤ × W) → ℤ
  weight = Tested.weight H

  abbrev Balanced : List (ℤ × W) → Type 0
  Balanced = Tested.Balanced H

  abbrev CommuteAll : W → List (ℤ × W) → Type 0
  CommuteAll = Tested.CommuteAll H

  abbrev Group : List (ℤ × W) → Type 0
  Group = Tested.Group H

  abbrev turns : List (ℤ × W) → List (Op W)
  turns = Tested.turns H

  -- ---- the sum of k J over a list of numbers with words

  abbrev gen : ℤ × W → Gen S Sr
  gen a = record { k = a.0; J = J H a.1; real = times_real H σ a.1; cube = J_cube H a.1 }

  gens : List (ℤ × W) → List (Gen S Sr)
  gens [] = []
  gens (a ∷ L) = gen a ∷ gens L

  abbrev sum : List (ℤ × W) → C → C
  sum L = total S Sr (gens L)

  -- one summand
  abbrev term : ℤ × W → C → C
  term a f = zsm S a.0 (J H a.1 f)

  sum_append : (L M : List (ℤ × W)) (f : C) → sum (L ++ M) f ≡ sum L f ⊹ sum M f
  unfolding gens total
  sum_append [] M f = sym (zer_add S (sum M f))
  sum_append (a ∷ L) M f = ap (λ t. term a f ⊹ t) (sum_append L M f) ∙ sym (add_assoc (term a f) (sum L f) (sum M f))

  sum_of_add : (L : List (ℤ × W)) (f g : C) → sum L (f ⊹ g) ≡ sum L f ⊹ sum L g
  sum_of_add L = (total_real S Sr (gens L)).0

  -- ---- the commutator of two sums is the sum over the products

  act_fun : (s : Sgn) (g : C) → (λ R. act K s (g R)) ≡ act S s g
  act_fun nil g = refl
  act_fun plus g = refl
  act_fun minus g = refl

  bracket_sum : (P Q : W) (f : C) → J H P (J H Q f) ≡ J H Q (J H P f) ⊹ zsm S (toℤ (σ (ph P Q))) (J H (P ⊕ Q) f)
  bracket_sum P Q f =
      sym (neg_add_cancel S pq qp) ∙ ap (λ t. t ⊹ qp) (fun_ext (bracket_j H P Q f) ∙ act_fun s both ∙ act_zsm S s both)
      ∙ add_comm (zsm S (toℤ s) both) qp
    where
      s : Sgn
      s = σ (ph P Q)

      pq : C
      pq = J H P (J H Q f)

      qp : C
      qp = J H Q (J H P f)

      both : C
      both = J H (P ⊕ Q) f

  zsm_comm : (a b : ℤ) (f : C) → zsm S a (zsm S b f) ≡ zsm S b (zsm S a f)
  zsm_comm a b f = map_zsm S (zsm S a) (zsm_of_add S a) b f

  J_zsm : (P : W) (k : ℤ) (f : C) → J H P (zsm S k f) ≡ zsm S k (J H P f)
  J_zsm P k f = map_zsm S (J H P) (times_add H σ P) k f

  one_pair : (k l : ℤ) (P Q : W) (f : C) → zsm S k (J H P (zsm S l (J H Q f)))
      ≡ zsm S l (J H Q (zsm S k (J H P f))) ⊹ zsm S (toℤ (σ (ph P Q)) *ℤ (k *ℤ l)) (J H (P ⊕ Q) f)
  one_pair k l P Q f =
      ap (zsm S k) (J_zsm P l (J H Q f)) ∙ zsm_mul S k l (J H P (J H Q f)) ∙ ap (zsm S (k *ℤ l)) (bracket_sum P Q f)
      ∙ zsm_of_add S (k *ℤ l) qp (zsm S s both) ∙ ap₂ ◌⊹◌ (sym back) (zsm_comm (k *ℤ l) s both ∙ zsm_mul S s (k *ℤ l) both)
    where
      s : ℤ
      s = toℤ (σ (ph P Q))

      qp : C
      qp = J H Q (J H P f)

      both : C
      both = J H (P ⊕ Q) f

      back : zsm S l (J H Q (zsm S k (J H P f))) ≡ zsm S (k *ℤ l) qp
      back = ap (zsm S l) (J_zsm Q k (J H P f)) ∙ zsm_comm l k qp ∙ zsm_mul S k l qp

  row_comm : (a : ℤ × W) (B : List (ℤ × W)) (f : C) → term a (sum B f) ≡ sum B (term a f) ⊹ sum (row a B) f
  unfolding gens total Tested.row
  row_comm a [] f = ap (zsm S a.0) (map_zer S (J H a.1) (times_add H σ a.1)) ∙ zsm_zer S a.0 ∙ sym (add_zer zer)
  row_comm a (b ∷ B) f =
      ap (zsm S a.0) (times_add H σ a.1 (term b f) (sum B f)) ∙ zsm_of_add S a.0 (J H a.1 (term b f)) (J H a.1 (sum B f))
      ∙ ap₂ ◌⊹◌ (one_pair a.0 b.0 a.1 b.1 f) (row_comm a B f)
      ∙ swap_mid S (term b (term a f)) (term (toℤ (σ (ph a.1 b.1)) *ℤ (a.0 *ℤ b.0), a.1 ⊕ b.1) f) (sum B (term a f)) (sum (row a B) f)

  sum_comm : (A B : List (ℤ × W)) (f : C) → sum A (sum B f) ≡ sum B (sum A f) ⊹ sum (products A B) f
  unfolding gens total Tested.products
  sum_comm [] B f = sym (add_zer (sum B zer) ∙ map_zer S (sum B) (sum_of_add B))
  sum_comm (a ∷ A) B f =
      ap₂ ◌⊹◌ (row_comm a B f) (sum_comm A B f)
      ∙ swap_mid S (sum B (term a f)) (sum (row a B) f) (sum B (sum A f)) (sum (products A B) f)
      ∙ ap₂ ◌⊹◌ (sym (sum_of_add B (term a f) (sum A f))) (sym (sum_append (row a B) (products A B) f))

  -- ---- a balanced list has sum zero: take out one word after the other

  without : W → List (ℤ × W) → List (ℤ × W)
  without P [] = []
  without P (a ∷ L) = pick (same a.1 P) (without P L) (a ∷ without P L)

  split : (P : W) (L : List (ℤ × W)) (f : C) → sum L f ≡ zsm S (weight P L) (J H P f) ⊹ sum (without P L) f
  unfolding gens total Tested.weight without zsm nsm
  split P [] f = sym (add_zer zer)
  split P (a ∷ L) f = go (same a.1 P) (split P L f)
    where
      w : ℤ
      w = weight P L

      rest : C
      rest = sum (without P L) f

      j : C
      j = J H P f

      go : (d : Dec (a.1 ≡ P)) → sum L f ≡ zsm S w j ⊹ rest
          → term a f ⊹ sum L f ≡ zsm S (pick d (a.0 +ℤ w) w) j ⊹ sum (pick d (without P L) (a ∷ without P L)) f
      go (yes e) ih =
          ap₂ (λ Q t. term (a.0, Q) f ⊹ t) e ih ∙ sym (add_assoc (zsm S a.0 j) (zsm S w j) rest)
          ∙ ap (λ t. t ⊹ rest) (sym (zsm_add S a.0 w j))
      go (no e) ih =
          ap (λ t. term a f ⊹ t) ih ∙ lin S Sr (term a f ∷ zsm S w j ∷ rest ∷ []) (at 0 ⊞ (at 1 ⊞ at 2)) (at 1 ⊞ (at 0 ⊞ at 2)) refl

  without_length : (P : W) (L : List (ℤ × W)) → length (without P L) ≤ length L
  unfolding without
  without_length P [] = omega arith
  without_length P (a ∷ L) = go (same a.1 P) (without_length P L)
    where
      go : (d : Dec (a.1 ≡ P)) → length (without P L) ≤ length L → length (pick d (without P L) (a ∷ without P L)) ≤ suc (length L)
      go (yes e) ih = omega arith
      go (no e) ih = omega arith

  without_same : (P : W) (L : List (ℤ × W)) → weight P (without P L) ≡ pos 0
  unfolding Tested.weight without
  without_same P [] = refl
  without_same P (a ∷ L) = go (same a.1 P) refl (without_same P L)
    where
      w : ℤ
      w = weight P (without P L)

      go : (d : Dec (a.1 ≡ P)) → same a.1 P ≡ d → w ≡ pos 0 → weight P (pick d (without P L) (a ∷ without P L)) ≡ pos 0
      go (yes e) h ih = ih
      go (no e) h ih = ap (λ d. pick d (a.0 +ℤ w) w) h ∙ ih

  without_other : (P Q : W) → ¬ (Q ≡ P) → (L : List (ℤ × W)) → weight Q (without P L) ≡ weight Q L
  unfolding Tested.weight without
  without_other P Q n [] = refl
  without_other P Q n (a ∷ L) = go (same a.1 P) (same a.1 Q) refl (without_other P Q n L)
    where
      w : ℤ
      w = weight Q (without P L)

      go : (d : Dec (a.1 ≡ P)) (d' : Dec (a.1 ≡ Q)) → same a.1 Q ≡ d' → w ≡ weight Q L
          → weight Q (pick d (without P L) (a ∷ without P L)) ≡ pick d' (a.0 +ℤ weight Q L) (weight Q L)
      go (yes e) (yes e') h ih = absurd (n (sym e' ∙ e))
      go (yes e) (no e') h ih = ih
      go (no e) (yes e') h ih = ap (λ d. pick d (a.0 +ℤ w) w) h ∙ ap (λ t. a.0 +ℤ t) ih
      go (no e) (no e') h ih = ap (λ d. pick d (a.0 +ℤ w) w) h ∙ ih

  balanced_without : (P : W) (L : List (ℤ × W)) → Balanced L → Balanced (without P L)
  balanced_without P L h Q = go (same Q P)
    where
      go : Dec (Q ≡ P) → weight Q (without P L) ≡ pos 0
      go (yes e) = ap (λ t. weight t (without P L)) e ∙ without_same P L
      go (no e) = without_other P Q e L ∙ h Q

  -- the first word goes out with every like one
  without_first : (a : ℤ × W) (L : List (ℤ × W)) → length (without a.1 (a ∷ L)) ≤ length L
  unfolding without
  without_first a L = go (same a.1 a.1)
    where
      go : (d : Dec (a.1 ≡ a.1)) → length (pick d (without a.1 L) (a ∷ without a.1 L)) ≤ length L
      go (yes e) = without_length a.1 L
      go (no e) = absurd (e refl)

  balanced_sum : (n : ℕ) (L : List (ℤ × W)) → length L ≤ n → Balanced L → (f : C) → sum L f ≡ zer
  unfolding gens total zsm nsm
  balanced_sum zero [] b h f = refl
  balanced_sum zero (a ∷ L) b h f = absurd (omega arith)
  balanced_sum (suc n) [] b h f = refl
  balanced_sum (suc n) (a ∷ L) b h f =
      let rest = without a.1 (a ∷ L) in
      let none = balanced_sum n rest (omega (arith, without_first a L)) (balanced_without a.1 (a ∷ L) h) f in
      split a.1 (a ∷ L) f ∙ ap₂ (λ s t. zsm S s (J H a.1 f) ⊹ t) (h a.1) none ∙ add_zer zer

  -- ---- the theorem

  all_comm : (P : W) (L : List (ℤ × W)) → CommuteAll P L → (f : C) → J H P (sum L f) ≡ sum L (J H P f)
  unfolding gens total
  all_comm P [] h f = map_zer S (J H P) (times_add H σ P)
  all_comm P (a ∷ L) h f =
      times_add H σ P (term a f) (sum L f)
      ∙ ap₂ ◌⊹◌ (J_zsm P a.0 (J H a.1 f) ∙ ap (zsm S a.0) (times_comm H σ (bracket_j H) P a.1 h.0 f)) (all_comm P L h.1 f)

  group_comm : (L : List (ℤ × W)) → Group L → Commuting S Sr (gens L)
  unfolding gens
  group_comm [] h = tt
  group_comm (a ∷ L) h = (all_comm a.1 L h.0, group_comm L h.1)

  turns_rots : (o : ℕ → Bool) (L : List (ℤ × W)) (f : C) → effect H o (turns L) f ≡ rots S Sr (gens L) f
  unfolding Tested.turns gens rots effect step
  turns_rots o [] f = refl
  turns_rots o (a ∷ L) f =
      rotate_is H (eighth a.0) a.1 (effect H o (turns L) f) ∙ ap (rot S Sr (eighth a.0) (J H a.1)) (turns_rots o L f)

  pub exchange : (A B : List (ℤ × W)) → Group A → Group B → Balanced (products A B) → ◌≈◌ H (turns A ++ turns B) (turns B ++ turns A)
  exchange A B GA GB h o f = ap₂ (pow2 S) len (forth A B ∙ swapped ∙ sym (forth B A))
    where
      len : length (turns B ++ turns A) ≡ length (turns A ++ turns B)
      len =
          length-append (turns B) (turns A) ∙ NatL.add_comm (length (turns B)) (length (turns A))
          ∙ sym (length-append (turns A) (turns B))

      forth : (A B : List (ℤ × W)) → effect H o (turns A ++ turns B) f ≡ rots S Sr (gens A) (rots S Sr (gens B) f)
      forth A B =
          effect_append H o (turns A) (turns B) f ∙ turns_rots o A (effect H o (turns B) f)
          ∙ ap (rots S Sr (gens A)) (turns_rots o B f)

      comm : (g : C) → sum A (sum B g) ≡ sum B (sum A g)
      comm g =
          let none = balanced_sum (length (products A B)) (products A B) (omega arith) h g in
          sum_comm A B g ∙ ap (λ t. sum B (sum A g) ⊹ t) none ∙ add_zer (sum B (sum A g))

      swapped : rots S Sr (gens A) (rots S Sr (gens B) f) ≡ rots S Sr (gens B) (rots S Sr (gens A) f)
      swapped = Real.exchange S Sr (gens A) (gens B) (group_comm A GA) (group_comm B GB) comm f
