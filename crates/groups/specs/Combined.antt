-- Pairs and functions as abelian groups. Assumes nothing.
use Rattle.std.specs.Prelude.{◌≡◌, refl, ℕ, zero, suc, ℤ, pos, negsuc}
use Rattle.std.proofs.Common.{ap}
use Rattle.groups.specs.Abelian.{Ab, nsm, zsm, dbl, pow2}

infixr 40 ◌×ᵃ◌ ◌⇒ᵃ◌
-- pairs
abbrev pub ◌×ᵃ◌ : Ab → Ab → Ab
K ×ᵃ L = record {
  C = K.C × L.C;
  zer = (K.zer, L.zer);
  add = λ x y. (K.add x.0 y.0, L.add x.1 y.1);
  neg = λ x. (K.neg x.0, L.neg x.1);
  add_assoc = λ x y z i. (K.add_assoc x.0 y.0 z.0 i, L.add_assoc x.1 y.1 z.1 i);
  add_comm = λ x y i. (K.add_comm x.0 y.0 i, L.add_comm x.1 y.1 i);
  add_zer = λ x i. (K.add_zer x.0 i, L.add_zer x.1 i);
  add_neg = λ x i. (K.add_neg x.0 i, L.add_neg x.1 i);
}

-- functions
abbrev pub ◌⇒ᵃ◌ : Type 0 → Ab → Ab
W ⇒ᵃ K = record {
  C = W → K.C;
  zer = λ w. K.zer;
  add = λ x y w. K.add (x w) (y w);
  neg = λ x w. K.neg (x w);
  add_assoc = λ x y z i w. K.add_assoc (x w) (y w) (z w) i;
  add_comm = λ x y i w. K.add_comm (x w) (y w) i;
  add_zer = λ x i w. K.add_zer (x w) i;
  add_neg = λ x i w. K.add_neg (x w) i;
}

pub nsm_pair : (K L : Ab) (n : ℕ) (x : K.C × L.C) → nsm (K ×ᵃ L) n x ≡ (nsm K n x.0, nsm L n x.1)
unfolding nsm
nsm_pair K L zero x = refl
nsm_pair K L (suc n) x = ap (λ t. (K ×ᵃ L).add t x) (nsm_pair K L n x)

pub nsm_fun : (W : Type 0) (K : Ab) (n : ℕ) (x : W → K.C) (w : W) → nsm (W ⇒ᵃ K) n x w ≡ nsm K n (x w)
unfolding nsm
nsm_fun W K zero x w = refl
nsm_fun W K (suc n) x w = ap (λ t. K.add t (x w)) (nsm_fun W K n x w)

pub zsm_pair : (K L : Ab) (m : ℤ) (x : K.C × L.C) → zsm (K ×ᵃ L) m x ≡ (zsm K m x.0, zsm L m x.1)
unfolding zsm
zsm_pair K L (pos n) x = nsm_pair K L n x
zsm_pair K L (negsuc n) x = ap (K ×ᵃ L).neg (nsm_pair K L (suc n) x)

pub pow2_pair : (K L : Ab) (n : ℕ) (x : K.C × L.C) → pow2 (K ×ᵃ L) n x ≡ (pow2 K n x.0, pow2 L n x.1)
unfolding pow2
pow2_pair K L zero x = refl
pow2_pair K L (suc n) x = ap (dbl (K ×ᵃ L)) (pow2_pair K L n x)
