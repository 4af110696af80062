-- 64-bit numbers in two rows of the number store: what writing one leaves, and where they stay. Assumes nothing.
use Rattle.std.specs.Prelude.{◌≡◌, Bool, false, ◌&&◌, ◌≢◌, ℕ, ◌+◌, ◌*◌, ◌/◌, ◌%◌, ◌≤◌, ◌<◌, length, get_or, set}
use Rattle.std.proofs.Common.{ap, ◌∙◌}
use Rattle.std.proofs.Math.Path.{ap₂}
use Rattle.std.proofs.Math.Bool.{true}
use mathlib.Core.List.{List, [], ◌∷◌}
use native.Mathlib.Omega.{arith}
use Rattle.store.specs.Row.{row, row_set_other}
use Rattle.store.specs.Wide.{wide_at, WrittenWide}
use Rattle.model.specs.Lists.{all_of, member}
use Rattle.layout.specs.Rows.{row_count, written_row, entry_own, entry_other}
use Rattle.layout.specs.Only.{Only, only_then, only_of, only_written}

-- both rows are as they were
pub wide_kept : {rs : List ℕ} {u : ℕ} {s t : List ℕ} (r : ℕ) → Only rs u s t → r + 1 < row_count → member r rs ≡ false
    → member (r + 1) rs ≡ false → (i : ℕ) → wide_at t u r i ≡ wide_at s u r i
unfolding wide_at
wide_kept r o h a b i =
    ap₂ (λ (x y : List ℕ). get_or x i 0 * 4294967296 + get_or y i 0) (o.rows _ h b) (o.rows _ (omega arith) a)

module _ {s t : List ℕ} {u r i v : ℕ} (long : row_count * u ≤ length s) (rows : r + 1 < row_count) (here : i < u)
    (w : WrittenWide s u r i v t) where
  long_between : row_count * u ≤ length w.between
  long_between = omega (arith, w.low.long)

  -- each row, after both halves are written
  low_row : row t u r ≡ set (row s u r) i (v % 4294967296)
  low_row =
      ap (λ (x : List ℕ). row x u r) w.high.store
      ∙ row_set_other w.between u row_count (r + 1) i (v / 4294967296) r long_between (omega arith) here (omega arith)
      ∙ written_row long (omega arith) here w.low

  high_row : row t u (r + 1) ≡ set (row s u (r + 1)) i (v / 4294967296)
  high_row =
      written_row long_between rows here w.high
      ∙ ap (λ (x : List ℕ). set x i (v / 4294967296))
      (ap (λ (x : List ℕ). row x u (r + 1)) w.low.store
      ∙ row_set_other s u row_count r i (v % 4294967296) (r + 1) long rows here (omega arith))

  pub wide_own : wide_at t u r i ≡ v
  unfolding wide_at
  wide_own =
      ap₂ (λ (x y : ℕ). x * 4294967296 + y)
      (entry_own s u (r + 1) i (v / 4294967296) high_row long rows here)
      (entry_own s u r i (v % 4294967296) low_row long (omega arith) here)
      ∙ omega arith

  pub wide_other : (j : ℕ) → j ≢ i → wide_at t u r j ≡ wide_at s u r j
  unfolding wide_at
  wide_other j n =
      ap₂ (λ (x y : ℕ). x * 4294967296 + y)
      (entry_other s u (r + 1) i (v / 4294967296) high_row j n)
      (entry_other s u r i (v % 4294967296) low_row j n)

  -- a list of rows in which both stand
  pub wide_only : (rs : List ℕ) → member r rs ≡ true → member (r + 1) rs ≡ true → Only rs u s t
  unfolding all_of
  wide_only rs a b = only_then (one a (only_written long (omega arith) here w.low)) (one b (only_written long_between rows here w.high))
    where
      one : {k : ℕ} {x y : List ℕ} → member k rs ≡ true → Only (k ∷ []) u x y → Only rs u x y
      one e o = only_of rs (ap (λ (x : Bool). x && true) e) o
