-- A 64-bit number in two rows of the number store: entry i of row r is its low half, that of row r + 1 its high half. Assumes nothing.
use Rattle.std.specs.Prelude.{List, ℕ, ◌+◌, ◌*◌, ◌/◌, ◌%◌, get_or}
use Rattle.store.specs.Row.{row, Written}

unfoldable pub wide_at : List ℕ → ℕ → ℕ → ℕ → ℕ
wide_at s u r i = get_or (row s u (r + 1)) i 0 * 4294967296 + get_or (row s u r) i 0

-- what writing one leaves
pub record WrittenWide (s : List ℕ) (u r i v : ℕ) (s' : List ℕ) : Type 0 where
  pub between : List ℕ
  pub low : Written s u r i (v % 4294967296) between
  pub high : Written between u (r + 1) i (v / 4294967296) s'
