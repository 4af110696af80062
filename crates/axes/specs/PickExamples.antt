-- Chains and digits of small words, by computing. Assumes nothing.
use Rattle.std.specs.Prelude.{◌≡◌, refl, List, [], ◌∷◌, ◌≢◌, ℕ}
use Rattle.std.proofs.Common.{arith}
use Rattle.axes.specs.Pick.{total_to, pick_of, mixed, hash_to, digits_by, digits_of}

-- one number for x, one for z
abbrev word : ℕ → ℕ → List ℕ
word x z = x ∷ z ∷ []

pub record Picked : Type 0 where
  -- X of qubit 0, Z of qubit 1, Y of qubit 2
  pub few : pick_of (word 5 6) ≡ 11
  -- "added modulo 2^64"
  pub wraps : total_to (word 18446744073709551615 3) 2 ≡ 2
  -- "then the remainder by 1,024": X of qubit 0 and of qubit 10
  pub last : pick_of (word 1023 0) ≡ 1023
  pub remainder : pick_of (word 1025 0) ≡ 1
  -- no letter on the ten lowest qubits: chain 0, whatever the letters are
  pub lumped : pick_of (word 1024 0) ≡ pick_of (word 3072 7168)
  -- X and Z exchanged on one support: one sum, other digits
  pub same_sum : pick_of (word 1 2) ≡ pick_of (word 2 1)
  pub other_digits : digits_of (word 1 2) ≢ digits_of (word 2 1)
  -- the same at two numbers each, where the first numbers are alike too
  pub same_wide : pick_of (1 ∷ 2 ∷ 0 ∷ 1 ∷ []) ≡ pick_of (1 ∷ 1 ∷ 0 ∷ 2 ∷ [])
  pub other_wide : digits_of (1 ∷ 2 ∷ 0 ∷ 1 ∷ []) ≢ digits_of (1 ∷ 1 ∷ 0 ∷ 2 ∷ [])

pub picked : Picked
unfolding total_to pick_of mixed hash_to digits_by
picked = record {
  few = refl;
  wraps = refl;
  last = refl;
  remainder = refl;
  lumped = refl;
  same_sum = refl;
  other_digits = λ e. absurd (omega arith);
  same_wide = refl;
  other_wide = λ e. absurd (omega arith);
}
