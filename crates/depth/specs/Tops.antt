-- The highest level so far of each bit of a signature, and walks over a signature's bits. Assumes nothing.
use Rattle.std.specs.Prelude.{◌≡◌, ◌⊎◌, List, [], ◌∷◌, ℕ, ◌*◌, ◌^◌, ◌≤◌, ◌<◌, min, max, length, get_or, set}
use Rattle.std.proofs.Math.Path.{sym}
use Rattle.std.proofs.Common.{ap, ◌∙◌, subst, inl, inr, ⊎_elim}
use native.Mathlib.Omega.{arith}
use Rattle.std.proofs.Math.Decide.{ℕ_discrete}
use Rattle.std.proofs.Math.Dec.{ltb}
use borrow.Author.Tests.{lt-ltb, le-ltb, ltb-true}
use Rattle.bits.specs.Bit.{bit}
use Rattle.bits.specs.SetBits.{Among, places, places_have}
use Rattle.store.specs.Row.{row, Written}
use Rattle.model.specs.Lists.{when◌then◌else◌}
use Rattle.theory.specs.Cases.{if_true, if_false, on_if}
use Rattle.layout.specs.Rows.{row_count, level_top, written_row, entry_own, entry_other}
use Rattle.layout.specs.Only.{Only, only_none, only_then, only_written}

-- where bit k has its entry: bits for which a row is too short share the first
unfoldable pub top_place : ℕ → ℕ → ℕ
top_place u k = when ltb k u then k else 0

unfoldable pub top_of : List ℕ → ℕ → ℕ → ℕ
top_of s u k = get_or (row s u level_top) (top_place u k) 0

module _ (u k : ℕ) where
  pub top_own : k < u → k ≡ top_place u k
  unfolding top_place
  top_own h = sym (if_true _ _ (lt-ltb k u h))

  pub top_shared : u ≤ k → 0 ≡ top_place u k
  unfolding top_place
  top_shared h = sym (if_false _ _ (le-ltb k u h))

  -- it is there
  pub top_in : 0 < u → {p : ℕ} → p ≡ top_place u k → p < u
  unfolding top_place
  top_in h {p} e =
      let lt : (when ltb k u then k else 0) < u = on_if (λ (n : ℕ). n < u) (ltb k u) k 0 (λ t. ltb-true k u t) (λ t. h) in
      omega arith

pub top_read : (s : List ℕ) (u k : ℕ) {p r : ℕ} → r ≡ get_or (row s u level_top) p 0 → p ≡ top_place u k → r ≡ top_of s u k
unfolding top_of
top_read s u k e f = e ∙ ap (λ (n : ℕ). get_or (row s u level_top) n 0) f

-- the rows are there, and have an entry
pub record BitPre (u : ℕ) (s : List ℕ) : Type 0 where
  pub long : row_count * u ≤ length s
  pub some : 0 < u

-- ---- bit by bit

-- each bit of sig is among the places that are left, or P holds of it
pub record BitsLeft (P : ℕ → Type 0) (sig : ℕ) (ps : List ℕ) : Type 0 where
  pub left : (k : ℕ) → bit sig k ≡ 1 → Among k ps ⊎ P k

pub bits_first : {P : ℕ → Type 0} {sig v : ℕ} → sig < 2 ^ 64 → v ≡ sig → BitsLeft P sig (places v)
bits_first {sig = sig} h e = record { left = λ k f. inl (subst (λ (n : ℕ). Among k (places n)) (sym e) (places_have sig k h f)) }

-- the lowest bit's turn: what held still holds
bits_next : {P Q : ℕ → Type 0} {sig p : ℕ} {ps rest : List ℕ} → ps ≡ p ∷ rest → BitsLeft P sig ps → ((k : ℕ) → P k → Q k) → Q p
    → BitsLeft Q sig rest
bits_next {P} {Q} {p = p} {ps} {rest} lowest b more own = record {
  left = λ k e. ⊎_elim
      (λ (x : Among k ps). ⊎_elim (λ (y : k ≡ p). inr (subst Q (sym y) own)) (λ (y : Among k rest). inl y) (subst (Among k) lowest x))
      (λ (x : P k). inr (more k x)) (b.left k e);
}

bits_end : {P : ℕ → Type 0} {sig : ℕ} {ps : List ℕ} → ps ≡ [] → BitsLeft P sig ps → (k : ℕ) → bit sig k ≡ 1 → P k
bits_end {P} {ps = ps} none b k e = ⊎_elim (λ (x : Among k ps). absurd (subst (Among k) none x)) (λ (x : P k). x) (b.left k e)

-- ---- the bound

-- no bit of sig has a higher level, but for levels above what is reached
pub record BoundOf (u : ℕ) (s : List ℕ) (sig reached r : ℕ) : Type 0 where
  pub bits : (k : ℕ) → bit sig k ≡ 1 → min (top_of s u k) reached ≤ r
  pub most : r ≤ reached

-- the bits that were looked at have no higher level
abbrev pub LowerThan : ℕ → List ℕ → ℕ → ℕ → Type 0
LowerThan u s most k = top_of s u k ≤ most

module _ (u : ℕ) (s : List ℕ) {sig : ℕ} where
  pub bound_turn : {most p top m : ℕ} {ps rest : List ℕ} → ps ≡ p ∷ rest → BitsLeft (LowerThan u s most) sig ps → top ≡ top_of s u p
      → m ≡ max most top → BitsLeft (LowerThan u s m) sig rest
  bound_turn lowest b e f = bits_next lowest b (λ k h. omega arith) (omega arith)

  pub bound_end : {most reached r : ℕ} {ps : List ℕ} → ps ≡ [] → BitsLeft (LowerThan u s most) sig ps → r ≡ min most reached
      → BoundOf u s sig reached r
  bound_end {most} none b e = record { bits = λ k h. omega (arith, bits_end none b k h); most = omega arith }

-- ---- levels are raised

pub record OneRaised (u : ℕ) (s : List ℕ) (k v : ℕ) (t : List ℕ) : Type 0 where
  pub only : Only (level_top ∷ []) u s t
  pub up : (j : ℕ) → top_of s u j ≤ top_of t u j
  pub own : v ≤ top_of t u k

pub raised_not : {u : ℕ} {s : List ℕ} {k v : ℕ} {top : ℕ} → top ≡ top_of s u k → v ≤ top → OneRaised u s k v s
raised_not e h = record { only = only_none _ _ _; up = λ j. omega arith; own = omega arith }

pub raised_one : {u : ℕ} {s t : List ℕ} {k v p : ℕ} {top : ℕ} → BitPre u s → top ≡ top_of s u k → top < v → p ≡ top_place u k
    → Written s u level_top p v t → OneRaised u s k v t
unfolding top_of
raised_one {u} {s} {t} {k} {v} {p} pre e h f w =
    let here = top_in u k pre.some f in
    let changed = written_row pre.long (omega arith) here w in
    let own = entry_own s u level_top p v changed pre.long (omega arith) here in
    record {
      only = only_written pre.long (omega arith) here w;
      up = λ j. go j own changed (ℕ_discrete (top_place u j) p);
      own = omega (arith, ap (λ (n : ℕ). get_or (row t u level_top) n 0) f);
    }
  where
    go : (j : ℕ) → get_or (row t u level_top) p 0 ≡ v → row t u level_top ≡ set (row s u level_top) p v → Dec (top_place u j ≡ p)
        → get_or (row s u level_top) (top_place u j) 0 ≤ get_or (row t u level_top) (top_place u j) 0
    go j own changed (yes q) =
        omega (arith, ap (λ (n : ℕ). get_or (row t u level_top) n 0) q, ap (λ (n : ℕ). get_or (row s u level_top) n 0) (q ∙ f))
    go j own changed (no q) = omega (arith, entry_other s u level_top p v changed (top_place u j) q)

pub record Raised (u : ℕ) (s : List ℕ) (sig v : ℕ) (t : List ℕ) : Type 0 where
  pub only : Only (level_top ∷ []) u s t
  pub up : (j : ℕ) → top_of s u j ≤ top_of t u j
  pub own : (k : ℕ) → bit sig k ≡ 1 → v ≤ top_of t u k

-- all bits but those that are left
pub record RaisedTo (u : ℕ) (s : List ℕ) (sig v : ℕ) (ps t : List ℕ) : Type 0 where
  pub only : Only (level_top ∷ []) u s t
  pub up : (j : ℕ) → top_of s u j ≤ top_of t u j
  pub bits : BitsLeft (λ k. v ≤ top_of t u k) sig ps

module _ {u : ℕ} {s : List ℕ} {sig v : ℕ} where
  pub raise_start : {w : ℕ} → sig < 2 ^ 64 → w ≡ sig → RaisedTo u s sig v (places w) s
  raise_start h e = record { only = only_none _ _ _; up = λ j. omega arith; bits = bits_first h e }

  module _ {ps t : List ℕ} (a : RaisedTo u s sig v ps t) where
    pub raise_pre : BitPre u s → BitPre u t
    raise_pre pre = record { long = omega (arith, pre.long, a.only.long); some = pre.some }

    pub raise_turn : {p : ℕ} {rest x : List ℕ} → ps ≡ p ∷ rest → OneRaised u t p v x → RaisedTo u s sig v rest x
    raise_turn lowest w = record {
      only = only_then a.only w.only;
      up = λ j. omega (arith, a.up j, w.up j);
      bits = bits_next lowest a.bits (λ k h. omega (arith, w.up k)) w.own;
    }

    pub raise_end : ps ≡ [] → Raised u s sig v t
    raise_end none = record { only = a.only; up = a.up; own = bits_end none a.bits }
