-- Refusal 11 of Listing, each by a small text, and texts at each bound; all bytes are literal. Assumes nothing.
use Rattle.std.specs.Prelude.{◌≡◌, refl, List, [], ◌++◌, ℕ, zero, suc}
use Prim.Native.String.{String}
use Rattle.model.specs.Listing.{listing}
use Rattle.model.specs.Everything.{everything}
use Rattle.runs.specs.Shown.{bytes}

-- no qubits, the identity node, no operations, limit 0
abbrev head : List ℕ
head = bytes "       0       1       0       0\n"

abbrev node : List ℕ
node = bytes "       0       0       0       0       0\n"

-- one qubit: the head with m operations, nodes I and X, the rows
abbrev listed : List ℕ → List ℕ → List ℕ
listed first operations =
    first ++ (node ++ (bytes "       1       0       1       0       0\n"
    ++ (operations ++ (bytes "       0       0       1       0\n" ++ bytes "       0       1       1       0\n"))))

abbrev one_operation : List ℕ
one_operation = bytes "       1       2       1     100\n"

-- an answer, then eight zeros
abbrev answered : String → List ℕ
answered answer = bytes answer ++ bytes "       0       0       0       0       0       0       0       0\n"

-- a line n times
abbrev repeated : ℕ → List ℕ → List ℕ
repeated zero line = []
repeated (suc n) line = line ++ repeated n line

-- node 0, the identity, and m rotations about it
abbrev rotations : ℕ → List ℕ
rotations m = node ++ repeated m (bytes "       1       0       0       1      -1      -1\n")

-- a node 0 that is not the identity, and rows: the answer is 4 where it is not 11
abbrev bad_node : ℕ → List ℕ
bad_node rows = bytes "       1       0       1       0       0\n" ++ repeated rows (bytes "       0       0       0       0\n")

pub record Texts : Type 0 where
  pub nothing_to_do : listing (head ++ node) ≡ answered "       0"
  pub empty : listing [] ≡ answered "      11"
  -- "a line has the wrong length"
  pub no_last_newline : listing (head ++ bytes "       0       0       0       0       0") ≡ answered "      11"
  pub short_line : listing (head ++ bytes "       0       0       0       0\n") ≡ answered "      11"
  pub long_line : listing (head ++ bytes "       0       0       0       0       0 \n") ≡ answered "      11"
  -- "a field is no number (digits without leading zeros, or -1)"
  pub blank_field : listing (head ++ bytes "       0       0       0       0        \n") ≡ answered "      11"
  pub leading_zero : listing (head ++ bytes "       0       0       0       0      00\n") ≡ answered "      11"
  pub letter_field : listing (head ++ bytes "       0       0       0       0       x\n") ≡ answered "      11"
  pub left_justified : listing (head ++ bytes "       0       0       0       00       \n") ≡ answered "      11"
  pub colon : listing (head ++ bytes "       0       0       0       0       :\n") ≡ answered "      11"
  pub slash : listing (head ++ bytes "       0       0       0       0       /\n") ≡ answered "      11"
  pub minus_two : listing (head ++ bytes "       0       0       0       0      -2\n") ≡ answered "      11"
  -- "-1 stands elsewhere than in a plain rotation's outcome or any target"
  pub minus_in_node : listing (head ++ bytes "       0       0       0       0      -1\n") ≡ answered "      11"
  pub minus_in_angle : listing (listed one_operation (bytes "       1       1       0      -1      -1      -1\n")) ≡ answered "      11"
  pub minus_in_outcome : listing (listed one_operation (bytes "       2       1       0       0      -1      -1\n")) ≡ answered "      11"
  -- "an outcome or target is above 65,534"
  pub large_target : listing (listed one_operation (bytes "       2       1       0       0       0   65535\n")) ≡ answered "      11"
  pub large_outcome : listing (listed one_operation (bytes "       1       1       0       0   65535      -1\n")) ≡ answered "      11"
  -- 65,534 itself is read and printed
  pub largest_outcome : listing (listed one_operation (bytes "       2       1       0       0   65534   65534\n"))
      ≡ bytes "       0       0       0       0       0       0       1       1       4\n"
      ++ (bytes "       2       0       1       0   65534   65534\n"
      ++ (bytes "       0       0      -1       0\n" ++ (bytes "       0       1      -1       0\n" ++ bytes "       0       0       1\n")))
  -- "there are more than 64 qubits, 128 nodes or 128 operations, the limit is above 256, or lines are missing or left over"
  pub qubits_64 : listing (bytes "      64       1       0       0\n" ++ bad_node 128) ≡ answered "       4"
  pub qubits_65 : listing (bytes "      65       1       0       0\n" ++ bad_node 130) ≡ answered "      11"
  pub nodes_128 : listing (bytes "       0     128       0       0\n" ++ repeated 128 node) ≡ answered "       0"
  pub nodes_129 : listing (bytes "       0     129       0       0\n" ++ repeated 129 node) ≡ answered "      11"
  pub operations_128 : listing (bytes "       0       1     128       4\n" ++ rotations 128)
      ≡ bytes "       0     128       0       0       0       0       0       1       4\n"
  pub operations_129 : listing (bytes "       0       1     129       4\n" ++ rotations 129) ≡ answered "      11"
  pub limit_256 : listing (bytes "       0       1       0     256\n" ++ node) ≡ answered "       0"
  pub limit_257 : listing (bytes "       0       1       0     257\n" ++ node) ≡ answered "      11"
  pub line_missing : listing head ≡ answered "      11"
  pub line_left : listing (head ++ (node ++ node)) ≡ answered "      11"
  pub row_left : listing (head ++ (node ++ bytes "       0       0       0       0\n")) ≡ answered "      11"
  -- "then as rewriting"
  pub one : listing (bytes "       0       0       0       0\n") ≡ answered "       1"
  pub four : listing (head ++ bytes "       1       0       1       0       0\n") ≡ answered "       4"
  pub seven : listing (listed one_operation (bytes "       1       1       0       8      -1      -1\n")) ≡ answered "       7"
  pub nine : listing (listed one_operation (bytes "       1       1       1       1      -1      -1\n")) ≡ answered "       9"

pub texts : Texts
unfolding everything
texts = record {
  nothing_to_do = refl;
  empty = refl;
  no_last_newline = refl;
  short_line = refl;
  long_line = refl;
  blank_field = refl;
  leading_zero = refl;
  letter_field = refl;
  left_justified = refl;
  colon = refl;
  slash = refl;
  minus_two = refl;
  minus_in_node = refl;
  minus_in_angle = refl;
  minus_in_outcome = refl;
  large_target = refl;
  large_outcome = refl;
  largest_outcome = refl;
  qubits_64 = refl;
  qubits_65 = refl;
  nodes_128 = refl;
  nodes_129 = refl;
  operations_128 = refl;
  operations_129 = refl;
  limit_256 = refl;
  limit_257 = refl;
  line_missing = refl;
  line_left = refl;
  row_left = refl;
  one = refl;
  four = refl;
  seven = refl;
  nine = refl;
}
