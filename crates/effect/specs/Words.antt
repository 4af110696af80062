-- Words with their products, and what the effect is taken over. Assumes nothing.
use Rattle.std.specs.Prelude.{◌≡◌}
use Rattle.groups.specs.Abelian.{Ab}
use Rattle.groups.specs.Root.{Root}
use Rattle.effect.specs.Phase.{Quarter, q0, odd, neg4, xor, ◌⊞₄◌}

-- "PQ = i^e R": e is ph P Q, R is P ⊕ Q
pub record Words : Type 1 where
  pub W : Type 0
  pub ◌⊕◌ : W → W → W
  pub ph : W → W → Quarter
  pub unit : W
  pub ⊕-unit : (P : W) → ◌⊕◌ unit P ≡ P
  pub ph_unit : (P : W) → ph unit P ≡ q0
  pub ⊕-assoc : (P Q R : W) → ◌⊕◌ (◌⊕◌ P Q) R ≡ ◌⊕◌ P (◌⊕◌ Q R)
  pub ⊕-comm : (P Q : W) → ◌⊕◌ P Q ≡ ◌⊕◌ Q P
  pub ⊕-cancel : (P Q : W) → ◌⊕◌ P (◌⊕◌ P Q) ≡ Q
  pub ph_swap : (P Q : W) → ph Q P ≡ neg4 (ph P Q)
  pub ph_cancel : (P Q : W) → ph P (◌⊕◌ P Q) ≡ neg4 (ph P Q)
  pub ph_mul : (P Q R : W) → ph P (◌⊕◌ Q R) ≡ (ph P Q ⊞₄ ph (◌⊕◌ P Q) R) ⊞₄ neg4 (ph Q R)
  pub ph_odd : (P Q R : W) → odd (ph (◌⊕◌ P Q) R) ≡ xor (odd (ph P R)) (odd (ph Q R))

-- words that can be told apart, coefficients with √2, the coefficient 1
pub record Setting : Type 1 where
  pub words : Words
  pub same : (P Q : words.W) → Dec (P ≡ Q)
  pub coeff : Ab
  pub root : Root coeff
  pub one : coeff.C
