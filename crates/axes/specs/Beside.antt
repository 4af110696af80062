-- What stands beside an axis in the number store, but for the index (`Chains`): where words are longer than one number, a signature
-- within which its support lies. Assumes nothing.
use Rattle.std.specs.Prelude.{◌≡◌, Bool, true, false, ◌&&◌, List, ℕ, ◌+◌, ◌*◌, ◌≤◌, ◌<◌, ltb, get_or}
use Rattle.std.proofs.Math.Path.{sym}
use Rattle.std.proofs.Common.{ap, subst, arith, eqb-true, ltb-true, le-ltb, lt-ltb}
use Rattle.std.specs.Int.Bits.{bit_and}
use Rattle.std.proofs.Math.Dec.{eqb}
use Rattle.store.specs.Wide.{wide_at}
use Rattle.pauli.specs.Word.{anticommutes}
use Rattle.pauli.specs.SupportLaws.{SupportWithin, apart_commute}
use Rattle.model.specs.Lists.{any_of, member}
use Rattle.theory.specs.Cases.{neither, and_left, and_right}
use Rattle.layout.specs.Rows.{axes_rows, signature_row, fork_row, behind_row}
use Rattle.layout.specs.Only.{Only, last_kept}
use Rattle.layout.specs.Wide.{wide_kept}

-- beside axis a, whose word is w
pub record Beside (l u : ℕ) (xs : List ℕ) (a : ℕ) (w : List ℕ) : Type 0 where
  pub signature : 1 < l → SupportWithin l (wide_at xs u signature_row a) w

-- beside axis a nothing changes
pub record SameBeside (u : ℕ) (xs ys : List ℕ) (a : ℕ) : Type 0 where
  pub signature : wide_at ys u signature_row a ≡ wide_at xs u signature_row a

pub same_beside : {l u a : ℕ} {xs ys w : List ℕ} → SameBeside u xs ys a → Beside l u xs a w → Beside l u ys a w
same_beside {l} {w = w} s b = record {
  signature = λ h. subst (λ (n : ℕ). SupportWithin l n w) (sym s.signature) (b.signature h);
}

-- other rows are written
pub only_beside : {rs xs ys : List ℕ} {u : ℕ} → Only rs u xs ys → any_of (λ r. member r rs) axes_rows ≡ false → (a : ℕ) → SameBeside u xs ys a
unfolding any_of
only_beside {rs} {u = u} o e a =
    let low = neither (member signature_row rs) _ e in
    let high = neither (member (signature_row + 1) rs) _ low.1 in
    record { signature = wide_kept signature_row o (omega arith) low.0 high.0 a }

-- and nothing of the index
pub only_index : {rs xs ys : List ℕ} {u : ℕ} → Only rs u xs ys → any_of (λ r. member r rs) axes_rows ≡ false
    → (i : ℕ) → fork_row * u ≤ i → get_or ys i 0 ≡ get_or xs i 0
unfolding any_of
only_index {rs} o e =
    let low = neither (member signature_row rs) _ e in
    let high = neither (member (signature_row + 1) rs) _ low.1 in
    let fork = neither (member fork_row rs) _ high.1 in
    last_kept o fork.0 (neither (member behind_row rs) _ fork.1).0

-- ---- signatures that are apart

-- where words are longer than one number: signatures s and t have no bit in common
unfoldable pub is_apart : ℕ → ℕ → ℕ → Bool
is_apart l s t = ltb 1 l && eqb (bit_and s t) 0

module _ (l s t : ℕ) where
  pub apart_narrow : l ≤ 1 → false ≡ is_apart l s t
  unfolding is_apart
  apart_narrow h = sym (ap (λ (b : Bool). b && eqb (bit_and s t) 0) (le-ltb 1 l h))

  pub apart_wide : 1 < l → eqb (bit_and s t) 0 ≡ is_apart l s t
  unfolding is_apart
  apart_wide h = sym (ap (λ (b : Bool). b && eqb (bit_and s t) 0) (lt-ltb 1 l h))

-- words within them commute
pub apart_commutes : {l s t : ℕ} {p q : List ℕ} → (1 < l → SupportWithin l s p) → (1 < l → SupportWithin l t q) → is_apart l s t ≡ true
    → anticommutes l p q ≡ false
unfolding is_apart
apart_commutes {l} {s} {t} f g h =
    let more : 1 < l = ltb-true 1 l (and_left _ _ h) in
    apart_commute (f more) (g more) (eqb-true _ _ (and_right (ltb 1 l) _ h))
