-- How long a column, a line and a text are. Assumes nothing.
use Rattle.std.specs.Prelude.{◌≡◌, refl, ℕ, zero, suc, ◌+◌, ◌-◌, ◌*◌, ◌/◌, ◌%◌, ◌≤◌, eqb, length, replicate}
use Rattle.std.proofs.Common.{sym, ap, ap₂, ◌∙◌, arith, length-append}
use mathlib.Core.List.{List, [], ◌∷◌, ◌++◌, map, flatten, append-nil, append_assoc}
use Rattle.std.proofs.lemmas.List.{length-replicate}
use Rattle.model.specs.Program.{minus_one}
use Rattle.model.specs.Listing.{columns, decimal, column, line_of, text_of}
use Rattle.theory.specs.Cases.{by_if}

-- the bytes of a line of n fields
abbrev pub line_bytes : ℕ → ℕ
line_bytes n = n * columns + 1

-- ---- a column

-- blanks in front of t
abbrev pub padded : List ℕ → List ℕ
padded t = replicate (columns - length t) 32 ++ t

decimal_length : (k n : ℕ) (after : List ℕ) → length (decimal k n after) ≤ k + length after
unfolding decimal
decimal_length zero n after = omega arith
decimal_length (suc k) n after =
    by_if (λ (t : List ℕ). length t ≤ suc k + length after) (eqb (n / 10) 0) _ _ (omega arith)
    (omega (arith, decimal_length k (n / 10) ((48 + n % 10) ∷ after)))

pub column_length : (n : ℕ) → length (column n) ≡ columns
unfolding column
column_length n =
    by_if (λ (t : List ℕ). length (padded t) ≡ columns) (eqb n minus_one) (45 ∷ 49 ∷ []) (decimal columns n []) refl
    (omega (
      arith,
      decimal_length columns n [],
      length-append (replicate (columns - length (decimal columns n [])) 32) (decimal columns n []),
      length-replicate {A = ℕ} (columns - length (decimal columns n [])) 32,
    ))

-- ---- a line

pub columns_length : (ns : List ℕ) → length (flatten (map column ns)) ≡ length ns * columns
unfolding flatten
columns_length [] = refl
columns_length (n ∷ ns) =
    length-append (column n) (flatten (map column ns))
    ∙ ap₂ (λ (a b : ℕ). a + b) (column_length n) (columns_length ns) ∙
    (let e : columns + length ns * columns ≡ suc (length ns) * columns = omega arith in e)

pub line_length : (ns : List ℕ) → length (line_of ns) ≡ line_bytes (length ns)
unfolding line_of
line_length ns = length-append (flatten (map column ns)) (10 ∷ []) ∙ ap (λ (k : ℕ). k + 1) (columns_length ns)

-- ---- a text

pub text_append : (a b : List (List ℕ)) → text_of (a ++ b) ≡ text_of a ++ text_of b
unfolding text_of flatten
text_append [] b = refl
text_append (x ∷ a) b = ap (λ (t : List ℕ). line_of x ++ t) (text_append a b) ∙ sym (append_assoc (line_of x) (text_of a) (text_of b))

pub text_one : (x : List ℕ) → text_of (x ∷ []) ≡ line_of x
unfolding text_of flatten
text_one x = append-nil (line_of x)

-- a column for each field, a newline for each line
pub text_size : (ls : List (List ℕ)) → length (text_of ls) ≡ length (flatten ls) * columns + length ls
unfolding text_of flatten
text_size [] = refl
text_size (x ∷ ls) =
    length-append (line_of x) (text_of ls) ∙ ap₂ (λ (a b : ℕ). a + b) (line_length x) (text_size ls)
    ∙ (let e : line_bytes (length x) + (length (flatten ls) * columns + length ls) ≡ length (x ++ flatten ls) * columns + suc (length ls)
    = omega (arith, length-append x (flatten ls)) in e)
