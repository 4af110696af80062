-- 01, "words.rs": the support signature, a bit for each bucket of qubits that a word acts on. Assumes nothing.
use Rattle.std.specs.Prelude.{List, ℕ, zero, suc, ◌*◌, ◌/◌, ◌^◌}
use Rattle.std.specs.Int.Bits.{bit_or}
use Rattle.pauli.specs.Letter.{acts}

-- "Support bucket of q is q div l"
abbrev pub bucket : ℕ → ℕ → ℕ
bucket l q = q / l

-- the buckets of the first n qubits
unfoldable pub signature_to : ℕ → List ℕ → ℕ → ℕ
signature_to l p zero = 0
signature_to l p (suc q) = bit_or (signature_to l p q) (acts l p q * 2 ^ bucket l q)

unfoldable pub signature : ℕ → List ℕ → ℕ
signature l p = signature_to l p (64 * l)
