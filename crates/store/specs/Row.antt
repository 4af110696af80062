-- A store cut into rows of u numbers: row r starts at r * u, its entry i is at r * u + i. Assumes nothing.
-- Where r is a numeral every bound is linear, and `omega arith` shows it; these laws hold for any r.
use Rattle.std.specs.Prelude.{◌≡◌, refl, ◌≢◌, ◌⊎◌, ℕ, ◌+◌, ◌*◌, ◌≤◌, ◌<◌, List, length, get_or, set}
use Rattle.std.proofs.Common.{inl, inr, suc-mul, mul-le-mul_right, arith, length-set}
use Rattle.std.proofs.Math.Decide.{dec_lt}
use Rattle.store.specs.Part.{part, put, Apart, part_length, part_at, part_set_in, part_set_out, part_put_apart}

unfoldable pub row : List ℕ → ℕ → ℕ → List ℕ
row s u r = part s (r * u) u

-- the store with v for entry i of row r
unfoldable pub set_entry : List ℕ → ℕ → ℕ → ℕ → ℕ → List ℕ
set_entry s u r i v = set s (r * u + i) v

-- what writing an entry leaves
pub record Written (s : List ℕ) (u r i v : ℕ) (s' : List ℕ) : Type 0 where
  pub store : s' ≡ set_entry s u r i v
  pub long : length s' ≡ length s

-- row r ends where row r + 1 begins, and a later row begins no earlier
pub row_in : (u m r : ℕ) → r < m → r * u + u ≤ m * u
row_in u m r l = omega (arith, suc-mul r u, mul-le-mul_right u l)

rows_apart : (u r k : ℕ) → k ≢ r → Apart (r * u) u (k * u) u
rows_apart u r k n = go (dec_lt r k)
  where
    go : Dec (r < k) → Apart (r * u) u (k * u) u
    go (yes lo) = inl (row_in u k r lo)
    go (no hi) = inr (row_in u r k (let z : k < r = omega arith in z))

-- ---- reading

pub row_length : (s : List ℕ) (u m r : ℕ) → m * u ≤ length s → r < m → length (row s u r) ≡ u
unfolding row
row_length s u m r h l = part_length s (r * u) u (omega (arith, row_in u m r l))

pub row_at : (s : List ℕ) (u r i : ℕ) → i < u → get_or (row s u r) i 0 ≡ get_or s (r * u + i) 0
unfolding row
row_at s u r i l = part_at s (r * u) u i l

-- ---- writing an entry

pub written : (s : List ℕ) (u r i v : ℕ) → Written s u r i v (set s (r * u + i) v)
unfolding set_entry
written s u r i v = record { store = refl; long = length-set s (r * u + i) v }

pub row_set : (s : List ℕ) (u m r i v : ℕ) → m * u ≤ length s → r < m → i < u → row (set_entry s u r i v) u r ≡ set (row s u r) i v
unfolding row set_entry
row_set s u m r i v h l k = part_set_in s (r * u) u i v (omega (arith, row_in u m r l)) k

pub row_set_other : (s : List ℕ) (u m r i v k : ℕ) → m * u ≤ length s → k < m → i < u → k ≢ r → row (set_entry s u r i v) u k ≡ row s u k
unfolding row set_entry
row_set_other s u m r i v k h l a n = part_set_out s (k * u) u (r * u + i) v (omega (arith, row_in u m k l)) (go (rows_apart u r k n))
  where
    go : Apart (r * u) u (k * u) u → (r * u + i < k * u) ⊎ (k * u + u ≤ r * u + i)
    go (inl lo) = inl (omega arith)
    go (inr hi) = inr (omega arith)

-- ---- writing a row from its start

pub row_put_other : (s : List ℕ) (u m r : ℕ) (w : List ℕ) (k : ℕ) → m * u ≤ length s → r < m → k < m → length w ≤ u → k ≢ r
    → row (put s (r * u) w) u k ≡ row s u k
unfolding row
row_put_other s u m r w k h l a e n =
    part_put_apart s (r * u) w (k * u) u (omega (arith, row_in u m r l)) (omega (arith, row_in u m k a)) (go (rows_apart u r k n))
  where
    go : Apart (r * u) u (k * u) u → Apart (r * u) (length w) (k * u) u
    go (inl lo) = inl (omega arith)
    go (inr hi) = inr hi
