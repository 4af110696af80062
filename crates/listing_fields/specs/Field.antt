-- What the bytes of a field say, one step of each loop over them. Assumes nothing.
use Rattle.std.specs.Prelude.{◌≡◌, refl, Bool, true, false, not, ◌&&◌, cond, List, [], ◌∷◌, ℕ, suc, ◌+◌, ◌-◌, ◌*◌, ◌^◌, ◌≤◌, ◌<◌, eqb, leb, length, get_or, take, drop}
use Rattle.std.proofs.Common.{sym, ap, ◌∙◌, pow-suc, add-one, arith, length-drop, drop_of_length-le, drop-cons, take_all, eq-eqb, ne_eqb, leb-true}
use Rattle.std.proofs.Math.Option.{none, some}
use Rattle.std.specs.Prelude.{Option}
use Rattle.std.proofs.lemmas.Bool.Decides.{nat_tests}
use Rattle.std.specs.Char.{is_ascii_digit}
use Rattle.std.specs.List.{position, position_or_len}
use Rattle.std.specs.Option.{unwrap_or}
use Rattle.std.proofs.lemmas.List.Sums.{prefix_len-le-length}
use Rattle.model.specs.Lists.{when◌then◌else◌, is_empty}
use Rattle.model.specs.Program.{minus_one}
use Rattle.model.specs.Listing.{digits_from, numeral, unpadded}
use Rattle.theory.specs.Cases.{if_true, if_false, and_right}

-- ---- what is left of a line from byte i on: shut, so that a use determines what it stands over

unfoldable pub past : List ℕ → ℕ → List ℕ
past f i = drop i f

pub past_none : (f : List ℕ) → f ≡ past f 0
unfolding past
past_none f = refl

pub past_next : (f : List ℕ) (i : ℕ) → i < length f → past f i ≡ get_or f i 0 ∷ past f (i + 1)
unfolding past
past_next f i l = rw add-one (drop-cons f i 0 l)

pub past_end : (f : List ℕ) (i : ℕ) → length f ≤ i → past f i ≡ []
unfolding past
past_end f i l = drop_of_length-le f l

-- ---- blanks

abbrev pub no_blank : ℕ → Bool
no_blank b = not (eqb b 32)

-- the blanks end at the first byte that is none
pub blanks_end : (f : List ℕ) → unpadded f ≡ drop (position_or_len no_blank f) f
unfolding unpadded
blanks_end [] = refl
blanks_end (b ∷ f) =
    let n = position_or_len no_blank f in
    let next : drop (1 + n) (b ∷ f) ≡ drop n f = ap (λ (k : ℕ). drop k (b ∷ f)) (let e : 1 + n ≡ suc n = omega arith in e) in
    elim (eqb b 32) as (λ t. (when t then unpadded f else b ∷ f) ≡ drop (cond (not (not t)) (1 + n) 0) (b ∷ f)) [
      | true ↦ if_true (unpadded f) (b ∷ f) refl ∙ blanks_end f ∙ sym next
      | false ↦ if_false (unpadded f) (b ∷ f) refl
    ]

-- the first place, or the end
pub position_end : (p : ℕ → Bool) (f : List ℕ) {o : Option ℕ} → o ≡ position p f → unwrap_or o (length f) ≡ position_or_len p f
position_end p f e = ap (λ o. unwrap_or o (length f)) e ∙ (let n = prefix_len-le-length (λ x. not (p x)) f in grind (arith, nat_tests))

-- the bytes behind the blanks
pub tail_cut : (f : List ℕ) (a : ℕ) → take (length f - a) (drop a f) ≡ drop a f
tail_cut f a = take_all (length f - a) (drop a f) (omega (arith, length-drop a f))

-- ---- digits

pub digits_more : (f : List ℕ) (i v : ℕ) → i < length f → is_ascii_digit (get_or f i 0) ≡ true
    → digits_from v (past f i) ≡ digits_from (v * 10 + (get_or f i 0 - 48)) (past f (i + 1))
unfolding digits_from
digits_more f i v l e =
    ap (digits_from v) (past_next f i l) ∙ if_true _ _ e
    ∙ ap (λ (n : ℕ). digits_from n (past f (i + 1))) (let p : 10 * v + (get_or f i 0 - 48) ≡ v * 10 + (get_or f i 0 - 48) = omega arith in p)

pub digits_bad : (f : List ℕ) (i v : ℕ) → i < length f → is_ascii_digit (get_or f i 0) ≡ false → digits_from v (past f i) ≡ none
unfolding digits_from
digits_bad f i v l e = ap (digits_from v) (past_next f i l) ∙ if_false _ _ e

pub digits_end : (f : List ℕ) (i v : ℕ) → length f ≤ i → digits_from v (past f i) ≡ some v
unfolding digits_from
digits_end f i v l = ap (digits_from v) (past_end f i l)

-- i digits are below 10 ^ i
pub digits_below : (i v b : ℕ) → v < 10 ^ i → is_ascii_digit b ≡ true → v * 10 + (b - 48) < 10 ^ (i + 1)
digits_below i v b h e = let m = leb-true b 57 (and_right (leb 48 b) (leb b 57) e) in rw (add-one, pow-suc) (omega arith)

-- ---- a numeral

pub numeral_none : (f : List ℕ) → length f ≡ 0 → none ≡ numeral f
unfolding numeral
numeral_none [] e = refl
numeral_none (b ∷ f) e = absurd (omega arith)

pub numeral_zero : (f : List ℕ) → 2 ≤ length f → get_or f 0 0 ≡ 48 → none ≡ numeral f
unfolding numeral
numeral_zero [] h e = absurd (omega arith)
numeral_zero (b ∷ []) h e = absurd (omega arith)
numeral_zero (b ∷ c ∷ f) h e = sym (if_true _ _ (eq-eqb b 48 e))

pub numeral_minus : (f : List ℕ) → length f ≡ 2 → get_or f 0 0 ≡ 45 → get_or f 1 0 ≡ 49 → some minus_one ≡ numeral f
unfolding numeral is_empty when◌then◌else◌
numeral_minus [] h d e = absurd (omega arith)
numeral_minus (b ∷ []) h d e = absurd (omega arith)
numeral_minus (b ∷ c ∷ []) h d e = rw (d, e) refl
numeral_minus (b ∷ c ∷ a ∷ f) h d e = absurd (omega arith)

pub ruleset refused_or_minus = (numeral_none, numeral_zero, numeral_minus)

-- no zero in front of another digit, and not -1
pub numeral_digits : (f : List ℕ) → 0 < length f → (2 ≤ length f → get_or f 0 0 ≡ 48 → ⊥)
    → (length f ≡ 2 → get_or f 0 0 ≡ 45 → get_or f 1 0 ≡ 49 → ⊥) → digits_from 0 f ≡ numeral f
unfolding numeral is_empty
numeral_digits [] h z m = absurd (omega arith)
numeral_digits (b ∷ []) h z m = refl
numeral_digits (b ∷ c ∷ f) h z m = sym (if_false _ _ (ne_eqb b 48 (z (omega arith))) ∙ if_false _ _ (no_minus f refl))
  where
    no_minus : (g : List ℕ) → f ≡ g → eqb b 45 && eqb c 49 && is_empty g ≡ false
    no_minus [] e = let n : length (b ∷ c ∷ f) ≡ 2 = ap (λ (t : List ℕ). length (b ∷ c ∷ t)) e in let k = m n in grind (arith, nat_tests)
    no_minus (a ∷ g) e = grind (arith, nat_tests)
