-- A row of the number store after clear_row, and two rows: their first entries are 0. Assumes nothing.
use Rattle.std.specs.Prelude.{◌≡◌, true, false, List, [], ◌∷◌, ℕ, ◌*◌, ◌≤◌, ◌<◌, length, get_or, replicate}
use Rattle.std.proofs.Common.{sym, ap, ◌∙◌, arith}
use Rattle.std.proofs.lemmas.List.{length-replicate, get_or-replicate}
use Rattle.store.specs.Part.{put}
use Rattle.store.specs.Row.{row}
use Rattle.model.specs.Lists.{all_of, member}
use Rattle.layout.specs.Rows.{row_count, entries_at, entries_cleared}
use Rattle.layout.specs.Only.{Only, only_of, only_then, only_put}

module _ (s : List ℕ) {t : List ℕ} (u r n : ℕ) (long : row_count * u ≤ length s) (l : r < row_count) (fits : n ≤ u)
    (e : t ≡ put s (r * u) (replicate n 0)) where
  pub cleared_only : Only (r ∷ []) u s t
  cleared_only = only_put (replicate n 0) long l (omega (arith, length-replicate {A = ℕ} n 0)) e

  pub cleared_at : (i : ℕ) → i < n → get_or (row t u r) i 0 ≡ 0
  cleared_at i b =
      sym (entries_at t u r n (omega (arith, cleared_only.long)) l fits i b)
      ∙ ap (λ (xs : List ℕ). get_or xs i 0) (entries_cleared s u r n long l fits e)
      ∙ get_or-replicate n i 0 0 b

-- row q is cleared, then row r
module _ (s : List ℕ) {a t : List ℕ} (u q n r m : ℕ) (long : row_count * u ≤ length s) (lq : q < row_count) (lr : r < row_count)
    (nq : n ≤ u) (nr : m ≤ u) (other : member q (r ∷ []) ≡ false)
    (e : a ≡ put s (q * u) (replicate n 0)) (d : t ≡ put a (r * u) (replicate m 0)) where
  first : Only (q ∷ []) u s a
  first = cleared_only s u q n long lq nq e

  first_long : row_count * u ≤ length a
  first_long = omega (arith, long, first.long)

  second : Only (r ∷ []) u a t
  second = cleared_only a u r m first_long lr nr d

  pub both_only : (rs : List ℕ) → all_of (λ x. member x rs) (q ∷ []) ≡ true → all_of (λ x. member x rs) (r ∷ []) ≡ true → Only rs u s t
  both_only rs f g = only_then (only_of rs f first) (only_of rs g second)

  pub both_first : (i : ℕ) → i < n → get_or (row t u q) i 0 ≡ 0
  both_first i b = ap (λ (xs : List ℕ). get_or xs i 0) (second.rows q lq other) ∙ cleared_at s u q n long lq nq e i b

  pub both_second : (i : ℕ) → i < m → get_or (row t u r) i 0 ≡ 0
  both_second = cleared_at a u r m first_long lr nr d
