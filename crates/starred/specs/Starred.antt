-- 01, "Starred examples": one table, each entry by computing. Assumes nothing.
use Rattle.std.specs.Prelude.{◌≡◌, refl, true, false, List, [], ◌∷◌, ◌++◌, ℕ, ◌^◌, pos, negsuc, get_or}
use Rattle.std.proofs.Math.Option.{Option, none, some}
use Rattle.angle.specs.Angle.{signed_angle, eighths_of}
use Rattle.pauli.specs.Word.{width}
use Rattle.pauli.specs.Letter.{single}
use Rattle.pauli.specs.Support.{signature, signature_to}
use Rattle.model.specs.declared.Strategy.TheVariants.{Merge}
use Rattle.model.specs.Answers.{NonHermitianAxis}
use Rattle.model.specs.Program.{Program}
use Rattle.model.specs.declared.Absorption.TheVariants.{AtOnce as at_once}
use Rattle.model.specs.Rules.{Rules}
use Rattle.model.specs.Words.{Value, multiply}
use Rattle.model.specs.Clifford.{absorb_image}
use Rattle.model.specs.Run.{run, answer_of}
use Rattle.model.specs.Listing.{listing}
use Rattle.model.specs.Everything.{everything}
use Rattle.runs.specs.Shown.{I, product, rotate, row, program, rules, rotated, kept, Shown, non_hermitian_at, shows, shown, bytes}
use Rattle.runs.specs.Shown.{X as leaf_x, Z as leaf_z}

-- i ^ e times a word of one qubit or two
abbrev value : ℕ → List ℕ → Value
value e w = record { turns = e; word = w }

abbrev X : List ℕ
X = 1 ∷ 0 ∷ []

abbrev Y : List ℕ
Y = 1 ∷ 1 ∷ []

abbrev Z : List ℕ
Z = 0 ∷ 1 ∷ []

abbrev XX : List ℕ
XX = 3 ∷ 0 ∷ []

abbrev YY : List ℕ
YY = 3 ∷ 3 ∷ []

abbrev ZZ : List ℕ
ZZ = 0 ∷ 3 ∷ []

-- ---- the jobs

-- Rust's defaults, but for the lookback
abbrev rust_rules : ℕ → Rules
rust_rules lookback = rules lookback 0 16 at_once true Merge false

-- one qubit: nodes I, X, Z, XZ; the frame is X, Z
abbrev one : List (List ℕ) → Program
one operations = program 1 (I ∷ leaf_x 0 ∷ leaf_z 0 ∷ product 1 0 2 0 ∷ []) operations (row 0 0 1 0 ∷ row 0 1 2 0 ∷ [])

-- two qubits: nodes I, X0, Z0, X1, Z1
abbrev two : List (List ℕ) → Program
two operations =
    program 2 (I ∷ leaf_x 0 ∷ leaf_z 0 ∷ leaf_x 1 ∷ leaf_z 1 ∷ []) operations (row 0 0 1 0 ∷ row 0 1 2 0 ∷ row 1 0 3 0 ∷ row 1 1 4 0 ∷ [])

-- angle 1 about three nodes
abbrev three : ℕ → ℕ → ℕ → List (List ℕ)
three a b c = rotate a 0 1 ∷ rotate b 0 1 ∷ rotate c 0 1 ∷ []

-- the T-count that a run leaves
abbrev t_after : Shown → Option ℕ
t_after (non_hermitian_at peak) = none
t_after (shows peak operations rows axes counters) = some (get_or counters 1 0)

-- 01's listing behind its first line
abbrev listed : List ℕ
listed =
    (bytes "       0       0       0       0       0\n"
    ++ (bytes "       1       0       3       0       0\n"
    ++ (bytes "       1       0       1       0       0\n"
    ++ (bytes "       1       1       0       1      -1      -1\n"
    ++ (bytes "       1       1       0       1      -1      -1\n"
    ++ (bytes "       2       2       0       0       0      -1\n"
    ++ (bytes "       0       0       2       0\n"
    ++ bytes "       0       1       1       0\n")))))))

-- what it prints, the ninth field being M-103's
abbrev result : List ℕ
result =
    (bytes "       0       2       0       1       0       1       1       3      12\n"
    ++ (bytes "       2       2      -1       0       0      -1\n"
    ++ (bytes "       0       0       2      -1\n"
    ++ (bytes "       0       1       0       1\n"
    ++ (bytes "       0       0       3\n"
    ++ (bytes "       1       0       1\n"
    ++ bytes "       2       0       2\n"))))))

-- ---- the table

pub record Starred : Type 0 where
  -- "XY phase 1, Z; XZ 3, Y; ZX 1, Y"
  pub x_y : multiply 1 (value 0 X) (value 0 Y) ≡ value 1 Z
  pub x_z : multiply 1 (value 0 X) (value 0 Z) ≡ value 3 Y
  pub z_x : multiply 1 (value 0 Z) (value 0 X) ≡ value 1 Y
  -- "XX times ZZ: 2, YY"
  pub xx_zz : multiply 1 (value 0 XX) (value 0 ZZ) ≡ value 2 YY
  -- "-4 gives 4, 5 gives -3, -5 gives 3"
  pub minus_four : signed_angle (eighths_of (negsuc 3)) ≡ pos 4
  pub five : signed_angle (eighths_of (pos 5)) ≡ negsuc 2
  pub minus_five : signed_angle (eighths_of (negsuc 4)) ≡ pos 3
  -- "Absorbing Z: k = 2 takes X to -Y, -2 to Y, 4 to -X"
  pub absorb_2 : absorb_image 1 Z 2 (value 0 X) ≡ value 2 Y
  pub absorb_6 : absorb_image 1 Z 6 (value 0 X) ≡ value 0 Y
  pub absorb_4 : absorb_image 1 Z 4 (value 0 X) ≡ value 2 X
  -- "65 qubits: qubit 1 in bucket 0, 64 in 32": the one bit of the signature of a letter there
  pub bucket_1 : signature (width 65) (single (width 65) 1 1) ≡ 2 ^ 0
  pub bucket_64 : signature (width 65) (single (width 65) 64 3) ≡ 2 ^ 32
  -- "The listing; limit 11 answers 10"
  pub listing_12 : listing (bytes "       1       3       3      12\n" ++ listed) ≡ result
  pub listing_11 : listing (bytes "       1       3       3      11\n" ++ listed)
      ≡ bytes "      10       0       0       0       0       0       0       0       0\n"
  -- "Z0, Z1, Z0, angles 1: lookback 1 leaves T-count 1, lookback 0 leaves 3"
  pub reach_1 : t_after (shown (rust_rules 1) 8 (two (three 2 4 2))) ≡ some 1
  pub reach_0 : t_after (shown (rust_rules 0) 8 (two (three 2 4 2))) ≡ some 3
  -- "Z0, X0, Z0: 3"
  pub between : t_after (shown (rust_rules 1048576) 8 (two (three 2 1 2))) ≡ some 3
  -- "Root X with phase 1 answers 9; product (X, Z) with phase 1 is Y"
  pub odd_phase : answer_of 1048576 (run (rust_rules 1048576) 8 (one (rotate 1 1 1 ∷ []))) ≡ NonHermitianAxis
  pub product_y : shown (rust_rules 1048576) 8 (one (rotate 3 1 1 ∷ []))
      ≡ shows 10 (rotated 2 1 ∷ []) (kept 0 0 ∷ kept 0 1 ∷ []) (X ∷ Z ∷ Y ∷ [])
      (1 ∷ 1 ∷ 0 ∷ 0 ∷ 0 ∷ 1 ∷ 1 ∷ 0 ∷ 0 ∷ 1 ∷ 1 ∷ 10 ∷ [])
  -- "No operations: nothing, all rows kept"
  pub nothing : shown (rust_rules 1048576) 8 (one [])
      ≡ shows 0 [] (kept 0 0 ∷ kept 0 1 ∷ []) [] (0 ∷ 0 ∷ 0 ∷ 0 ∷ 0 ∷ 0 ∷ 0 ∷ 0 ∷ 0 ∷ 0 ∷ 0 ∷ 0 ∷ [])

pub starred : Starred
unfolding everything signature signature_to
starred = record {
  x_y = refl;
  x_z = refl;
  z_x = refl;
  xx_zz = refl;
  minus_four = refl;
  five = refl;
  minus_five = refl;
  absorb_2 = refl;
  absorb_6 = refl;
  absorb_4 = refl;
  bucket_1 = refl;
  bucket_64 = refl;
  listing_12 = refl;
  listing_11 = refl;
  reach_1 = refl;
  reach_0 = refl;
  between = refl;
  odd_phase = refl;
  product_y = refl;
  nothing = refl;
}
