-- A list of places in row WAITING: which it names, and that it rises. Assumes nothing.
use Rattle.std.specs.Prelude.{◌≡◌, List, ℕ, zero, suc, ◌*◌, ◌≤◌, ◌<◌, length, get_or}
use Rattle.std.proofs.Common.{◌∙◌, arith}
use Rattle.store.specs.Row.{row, Written}
use Rattle.layout.specs.Rows.{row_count, waiting_row, written_row, entry_own, entry_other}

-- place i of the list
abbrev pub place_in : ℕ → List ℕ → ℕ → ℕ
place_in u xs i = get_or (row xs u waiting_row) i 0

-- j is one of places a to n
pub record Named (f : ℕ → ℕ) (a n j : ℕ) : Type 0 where
  pub index : ℕ
  pub low : a ≤ index
  pub high : index < n
  pub here : f index ≡ j

-- places a to n rise, and are below an end
pub record Rising (f : ℕ → ℕ) (a n end : ℕ) : Type 0 where
  pub below : (i : ℕ) → a ≤ i → i < n → f i < end
  pub rises : (i k : ℕ) → a ≤ i → i < k → k < n → f i < f k

-- there are no more of them than places below the end
at_least : {f : ℕ → ℕ} {n end : ℕ} → Rising f 0 n end → (i : ℕ) → i < n → i ≤ f i
at_least h zero b = omega arith
at_least h (suc i) b = omega (arith, at_least h i (omega arith), h.rises i (suc i) (omega arith) (omega arith) b)

pub rising_few : {f : ℕ → ℕ} (n : ℕ) {end : ℕ} → Rising f 0 n end → n ≤ end
rising_few zero h = omega arith
rising_few (suc n) h = omega (arith, at_least h n (omega arith), h.below n (omega arith) (omega arith))

-- the same places, read elsewhere
module _ {f g : ℕ → ℕ} {a n : ℕ} (same : (i : ℕ) → a ≤ i → i < n → g i ≡ f i) where
  pub rising_as : {end : ℕ} → Rising f a n end → Rising g a n end
  rising_as h = record {
    below = λ i b c. omega (arith, same i b c, h.below i b c);
    rises = λ i k b c d. omega (arith, same i b (omega arith), same k (omega arith) d, h.rises i k b c d);
  }

  pub named_as : {j : ℕ} → Named f a n j → Named g a n j
  named_as h = record { index = h.index; low = h.low; high = h.high; here = same h.index h.low h.high ∙ h.here }

-- ---- a place is written

module _ {xs xs' : List ℕ} {u i v : ℕ} (long : row_count * u ≤ length xs) (inside : i < u) (wrote : Written xs u waiting_row i v xs') where
  pub place_own : place_in u xs' i ≡ v
  place_own = entry_own xs u waiting_row i v (written_row long (omega arith) inside wrote) long (omega arith) inside

  pub place_other : (k : ℕ) → (k ≡ i → ⊥) → place_in u xs' k ≡ place_in u xs k
  place_other k n = entry_other xs u waiting_row i v (written_row long (omega arith) inside wrote) k n
