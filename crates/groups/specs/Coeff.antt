-- Coefficients a + b √2 with whole a and b, and functions to them. Assumes nothing.
use Rattle.std.specs.Prelude.{◌≡◌, refl, ℕ, zero, suc, ◌+◌, ℤ, pos, negsuc, neg_ℤ, ◌+ℤ◌}
use Rattle.std.proofs.Common.{sym, ◌∙◌, ap, arith}
use Rattle.std.proofs.Math.Path.{fun_ext}
use Rattle.std.proofs.Math.IntN.{+ℤ_assoc, +ℤ_comm, +ℤ_idr, +ℤ_idl, +ℤ_invr}
use Rattle.groups.specs.Abelian.{Ab, nsm, swap_mid}
use Rattle.groups.specs.Normaliser.{NoTorsion}
use Rattle.groups.specs.Root.{Root}
use Rattle.groups.specs.Combined.{◌×ᵃ◌, ◌⇒ᵃ◌, nsm_fun, nsm_pair}

abbrev pub ℤᵃ : Ab
ℤᵃ = record { C = ℤ; zer = pos 0; add = ◌+ℤ◌; neg = neg_ℤ; add_assoc = +ℤ_assoc; add_comm = +ℤ_comm; add_zer = +ℤ_idr; add_neg = +ℤ_invr }

nsm_pos : (n a : ℕ) → (b : ℕ) × (nsm ℤᵃ n (pos a) ≡ pos b)
unfolding nsm
nsm_pos zero a = (0, refl)
nsm_pos (suc n) a = let h = nsm_pos n a in (h.0 + a, ap (λ t. t +ℤ pos a) h.1)

nsm_negsuc : (n a : ℕ) → (b : ℕ) × (nsm ℤᵃ (suc n) (negsuc a) ≡ negsuc b)
unfolding nsm
nsm_negsuc zero a = (a, +ℤ_idl (negsuc a))
nsm_negsuc (suc n) a = let h = nsm_negsuc n a in (suc (h.0 + a), ap (λ t. t +ℤ negsuc a) h.1)

pub ℤ-torsion : NoTorsion ℤᵃ
unfolding nsm
ℤ-torsion n (pos zero) h = refl
ℤ-torsion n (pos (suc a)) h =
    let k = nsm_pos n (suc a) in
    let e : ◌≡◌ {A = ℤ} (pos (k.0 + suc a)) (pos 0) = sym (ap (λ t. t +ℤ pos (suc a)) k.1) ∙ h in
    let z : ◌≡◌ {A = ℕ} (k.0 + suc a) 0 = cc in
    absurd (omega arith)
ℤ-torsion n (negsuc a) h =
    let k = nsm_negsuc n a in
    let e : ◌≡◌ {A = ℤ} (negsuc k.0) (pos 0) = sym k.1 ∙ h in
    cc

pub pair_torsion : (K L : Ab) → NoTorsion K → NoTorsion L → NoTorsion (K ×ᵃ L)
pair_torsion K L ta tb n x h = λ i. (ta n x.0 (ap (λ t. t.0) e) i, tb n x.1 (ap (λ t. t.1) e) i)
  where
    e : ◌≡◌ {A = K.C × L.C} (nsm K (suc n) x.0, nsm L (suc n) x.1) (K.zer, L.zer)
    e = sym (nsm_pair K L (suc n) x) ∙ h

-- a + b √2
abbrev pub Coeff : Ab
Coeff = ℤᵃ ×ᵃ ℤᵃ

abbrev pub coeff_root : Root Coeff
coeff_root = record {
  r = λ a. (a.1 +ℤ a.1, a.0);
  r_add = λ a b i. (swap_mid ℤᵃ a.1 b.1 a.1 b.1 i, a.0 +ℤ b.0);
  r_r = λ a. refl;
  torsion = pair_torsion ℤᵃ ℤᵃ ℤ-torsion ℤ-torsion;
}

abbrev pub fun_root : (W : Type 0) (K : Ab) → Root K → Root (W ⇒ᵃ K)
fun_root W K Mr = record {
  r = λ f w. Mr.r (f w);
  r_add = λ f g i w. Mr.r_add (f w) (g w) i;
  r_r = λ f i w. Mr.r_r (f w) i;
  torsion = λ n f h. fun_ext (λ w. Mr.torsion n (f w) (sym (nsm_fun W K (suc n) f w) ∙ ap (λ t. t w) h));
}
