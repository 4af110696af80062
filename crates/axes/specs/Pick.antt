-- By what the index goes: a word's numbers added, which pick its chain, and its hash, by whose digits a chain forks. Assumes nothing.
use Rattle.std.specs.Prelude.{◌≡◌, List, ℕ, zero, suc, ◌+◌, ◌*◌, ◌/◌, ◌%◌, ◌^◌, ◌<◌, length}
use Rattle.std.proofs.Common.{sym, ◌∙◌, add-one, arith}
use Rattle.std.proofs.Math.Path.{ap}
use Rattle.std.proofs.Math.ListN.{get_or}
use Rattle.layout.specs.Index.{head_count}

-- the first n numbers of a word, added modulo 2^64
unfoldable pub total_to : List ℕ → ℕ → ℕ
total_to w zero = 0
total_to w (suc n) = (total_to w n + get_or w n 0) % 2 ^ 64

-- 02: "A chain is picked from the words added modulo 2^64, then the remainder by 1,024."
unfoldable pub pick_of : List ℕ → ℕ
pick_of w = total_to w (length w) % head_count

pub pick_low : (w : List ℕ) → pick_of w < head_count
unfolding pick_of
pick_low w = omega arith

-- a number's halves of 32 bits, each times an odd number, added modulo 2^64
unfoldable pub mixed : ℕ → ℕ
mixed h = (h % 4294967296 * 2654435769 + h / 4294967296 * 2246822519) % 2 ^ 64

-- the hash of the first n numbers of a word: every number goes into it, by its place
unfoldable pub hash_to : List ℕ → ℕ → ℕ
hash_to w zero = 0
hash_to w (suc n) = (mixed (hash_to w n) + get_or w n 0) % 2 ^ 64

-- the number by whose binary digits a chain forks, lowest first: the upper half, since a product's lowest digits hang on few of its factors'
unfoldable pub digits_by : ℕ → ℕ
digits_by h = mixed h / 4294967296

abbrev pub digits_of : List ℕ → ℕ
digits_of w = digits_by (hash_to w (length w))

-- one number more
module _ (w : List ℕ) (n : ℕ) where
  pub total_more : {s r : ℕ} → s ≡ total_to w n → r ≡ (s + get_or w n 0) % 2 ^ 64 → r ≡ total_to w (n + 1)
  unfolding total_to
  total_more e f = f ∙ ap (λ (k : ℕ). (k + get_or w n 0) % 2 ^ 64) e ∙ ap (total_to w) (sym (add-one n))

  pub hash_more : {h m r : ℕ} → h ≡ hash_to w n → m ≡ mixed h → r ≡ (m + get_or w n 0) % 2 ^ 64 → r ≡ hash_to w (n + 1)
  unfolding hash_to
  hash_more e f g = g ∙ ap (λ (k : ℕ). (k + get_or w n 0) % 2 ^ 64) (f ∙ ap mixed e) ∙ ap (hash_to w) (sym (add-one n))
