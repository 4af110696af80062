-- A number's digits, read back. Assumes nothing.
use Rattle.std.specs.Prelude.{◌≡◌, refl, ◌⊎◌, Bool, true, false, ◌&&◌, ℕ, zero, suc, ◌+◌, ◌-◌, ◌*◌, ◌/◌, ◌%◌, ◌^◌, ◌≤◌, ◌<◌, eqb, leb, length, replicate}
use Rattle.std.proofs.Common.{sym, ap, ap₂, ◌∙◌, pow-suc, arith, eq-eqb, ne_eqb, eqb-true, le-leb}
use Rattle.std.proofs.Math.Logic.{inl, inr}
use Rattle.std.proofs.Math.Option.{some}
use mathlib.Core.List.{List, [], ◌∷◌, ◌++◌}
use Rattle.std.proofs.Math.Decide.{ℕ_discrete}
use Rattle.std.proofs.lemmas.Bool.{eqb-false}
use Rattle.model.specs.Lists.{when◌then◌else◌, is_empty}
use Rattle.model.specs.Program.{minus_one}
use Rattle.model.specs.Listing.{columns, digits_from, numeral, unpadded, decimal, column}
use Rattle.theory.specs.Cases.{by_if, on_if, if_true, if_false}
use Rattle.theory.specs.Every.{Every, every_append}
use Rattle.listing_columns.specs.Columns.{padded}

-- a number that its column holds: all of its digits, or -1
abbrev pub InColumn : ℕ → Type 0
InColumn n = (n < 10 ^ columns) ⊎ (n ≡ minus_one)

-- ---- one digit

digit_test : (b : ℕ) → 48 ≤ b → b ≤ 57 → leb 48 b && leb b 57 ≡ true
digit_test b h k = ap₂ (λ (x y : Bool). x && y) (le-leb 48 b h) (le-leb b 57 k)

one_digit : (v n : ℕ) (after : List ℕ) → digits_from v ((48 + n % 10) ∷ after) ≡ digits_from (10 * v + n % 10) after
unfolding digits_from
one_digit v n after =
    if_true _ _ (digit_test (48 + n % 10) (omega arith) (omega arith))
    ∙ ap (λ (k : ℕ). digits_from k after) (let e : 10 * v + (48 + n % 10 - 48) ≡ 10 * v + n % 10 = omega arith in e)

tenth : (n k : ℕ) → n < 10 ^ suc k → n / 10 < 10 ^ k
tenth n k h = let e : 10 ^ suc k ≡ 10 ^ k * 10 = pow-suc 10 k in omega arith

-- ---- all digits

-- k digits are enough for n: they are read as n
pub digits_read : (k n : ℕ) (after : List ℕ) → n < 10 ^ k → digits_from 0 (decimal k n after) ≡ digits_from n after
unfolding decimal
digits_read zero n after h = ap (λ (v : ℕ). digits_from v after) (let e : 0 ≡ n = omega arith in e)
digits_read (suc k) n after h =
    on_if (λ (t : List ℕ). digits_from 0 t ≡ digits_from n after) (eqb (n / 10) 0) _ _
    (λ e. one_digit 0 n after ∙ ap (λ (v : ℕ). digits_from v after) (small e))
    (λ e. digits_read k (n / 10) ((48 + n % 10) ∷ after) (tenth n k h) ∙ one_digit (n / 10) n after
    ∙ ap (λ (v : ℕ). digits_from v after) (let p : 10 * (n / 10) + n % 10 ≡ n = omega arith in p))
  where
    small : eqb (n / 10) 0 ≡ true → 10 * 0 + n % 10 ≡ n
    small e = let z = eqb-true (n / 10) 0 e in omega arith

-- ---- the first digit

-- digits begin with a digit, and with 0 only where it is the only one
record Begun (n : ℕ) (after digits : List ℕ) : Type 0 where
  first : ℕ
  others : List ℕ
  is : digits ≡ first ∷ others
  low : 48 ≤ first
  alone : n ≡ 0 → others ≡ after
  above : 0 < n → 48 < first

one_begun : (n : ℕ) (after : List ℕ) → n / 10 ≡ 0 → Begun n after ((48 + n % 10) ∷ after)
one_begun n after z =
    record { first = 48 + n % 10; others = after; is = refl; low = omega arith; alone = λ p. refl; above = λ p. omega arith }

begun : (k n : ℕ) (after : List ℕ) → n < 10 ^ suc k → Begun n after (decimal (suc k) n after)
unfolding decimal
begun zero n after h =
    on_if (Begun n after) (eqb (n / 10) 0) _ _ (λ e. one_begun n after (eqb-true (n / 10) 0 e))
    (λ e. absurd (eqb-false (n / 10) 0 e (omega arith)))
begun (suc k) n after h =
    on_if (Begun n after) (eqb (n / 10) 0) _ _ (λ e. one_begun n after (eqb-true (n / 10) 0 e))
    (λ e.
    let z = eqb-false (n / 10) 0 e in
    let b = begun k (n / 10) ((48 + n % 10) ∷ after) (tenth n (suc k) h) in
    record {
      first = b.first;
      others = b.others;
      is = b.is;
      low = b.low;
      alone = λ p. absurd (z (omega arith));
      above = λ p. b.above (omega arith);
    })

-- ---- a column

numeral_is : (b : ℕ) (rest : List ℕ) → 48 ≤ b → (rest ≡ []) ⊎ (48 < b) → numeral (b ∷ rest) ≡ digits_from 0 (b ∷ rest)
unfolding numeral
numeral_is b [] h k = refl
numeral_is b (c ∷ rest) h (inl e) = absurd (let z : ◌≡◌ {A = ℕ} 0 1 = cc in omega arith)
numeral_is b (c ∷ rest) h (inr k) =
    if_false _ _ (ne_eqb b 48 (λ e. omega arith))
    ∙ if_false _ _ (ap (λ (x : Bool). x && eqb c 49 && is_empty rest) (ne_eqb b 45 (λ e. omega arith)))

unpadded_blanks : (m : ℕ) (d : List ℕ) → unpadded (replicate m 32 ++ d) ≡ unpadded d
unfolding unpadded when◌then◌else◌
unpadded_blanks zero d = refl
unpadded_blanks (suc m) d = unpadded_blanks m d

unpadded_none : (b : ℕ) (rest : List ℕ) → 32 < b → unpadded (b ∷ rest) ≡ b ∷ rest
unfolding unpadded
unpadded_none b rest h = if_false _ _ (ne_eqb b 32 (λ e. omega arith))

decimal_read : (n : ℕ) → n < 10 ^ columns → numeral (unpadded (decimal columns n [])) ≡ some n
decimal_read n h =
    let b = begun (columns - 1) n [] h in
    ap (λ (d : List ℕ). numeral (unpadded d)) b.is
    ∙ ap numeral (unpadded_none b.first b.others (omega (arith, b.low)))
    ∙ numeral_is b.first b.others b.low (zero_or (ℕ_discrete n 0) b)
    ∙ ap (digits_from 0) (sym b.is)
    ∙ digits_read columns n [] h
    ∙ (unfold digits_from in refl)
  where
    zero_or : Dec (n ≡ 0) → (b : Begun n [] (decimal columns n [])) → (b.others ≡ []) ⊎ (48 < b.first)
    zero_or (yes e) b = inl (b.alone e)
    zero_or (no e) b = inr (b.above (omega arith))

minus_read : (n : ℕ) → n ≡ minus_one → numeral (unpadded (column n)) ≡ some n
unfolding column when◌then◌else◌
minus_read n e =
    ap (λ (d : List ℕ). numeral (unpadded (padded d))) (if_true _ (decimal columns n []) (eq-eqb n minus_one e))
    ∙ (unfold numeral unpadded is_empty in (ap some (sym e)))

-- a column is read as the number that was printed
pub column_read : (n : ℕ) → InColumn n → numeral (unpadded (column n)) ≡ some n
unfolding column
column_read n (inr e) = minus_read n e
column_read n (inl h) = go (ℕ_discrete n minus_one)
  where
    go : Dec (n ≡ minus_one) → numeral (unpadded (column n)) ≡ some n
    go (yes e) = minus_read n e
    go (no e) =
        ap (λ (d : List ℕ). numeral (unpadded (padded d))) (if_false _ (decimal columns n []) (ne_eqb n minus_one e))
        ∙ ap numeral (unpadded_blanks (columns - length (decimal columns n [])) (decimal columns n [])) ∙ decimal_read n h

-- ---- no newline is in a column

abbrev pub NoNewline : ℕ → Type 0
NoNewline b = eqb b 10 ≡ false

decimal_bytes : (k n : ℕ) (after : List ℕ) → Every NoNewline after → Every NoNewline (decimal k n after)
unfolding decimal
decimal_bytes zero n after h = h
decimal_bytes (suc k) n after h =
    let d : NoNewline (48 + n % 10) = ne_eqb (48 + n % 10) 10 (λ e. omega arith) in
    by_if (Every NoNewline) (eqb (n / 10) 0) _ _ (d, h) (decimal_bytes k (n / 10) ((48 + n % 10) ∷ after) (d, h))

blank_bytes : (m : ℕ) → Every NoNewline (replicate m 32)
blank_bytes zero = tt
blank_bytes (suc m) = (refl, blank_bytes m)

pub column_bytes : (n : ℕ) → Every NoNewline (column n)
unfolding column
column_bytes n =
    by_if (λ (d : List ℕ). Every NoNewline (padded d)) (eqb n minus_one) (45 ∷ 49 ∷ []) (decimal columns n [])
    (every_append NoNewline (replicate (columns - 2) 32) (45 ∷ 49 ∷ []) (blank_bytes (columns - 2)) (refl, (refl, tt)))
    (every_append NoNewline (replicate (columns - length (decimal columns n [])) 32) (decimal columns n [])
    (blank_bytes (columns - length (decimal columns n []))) (decimal_bytes columns n [] tt))
