-- Where the first line ends, and the record that it is. Assumes nothing.
use Rattle.std.specs.Prelude.{◌≡◌, refl, ◌==◌, Bool, true, false, not, cond, List, [], ◌∷◌, ℕ, suc, ◌+◌, eqb, ltb, length, take, drop, position}
use Rattle.std.specs.Prelude as Std
use Rattle.std.specs.List.{position_or_len}
use Rattle.std.proofs.Math.Path.{sym, ap}
use Rattle.std.proofs.Common.{◌∙◌, ap₂, arith, lt-ltb}
use Rattle.std.proofs.lemmas.Option.{cond_some}
use Rattle.std.proofs.lemmas.Bool.Decides.{nat_tests}
use Rattle.model.specs.Lists.{when◌then◌else◌}
use Rattle.std.proofs.Math.Option.{Option, none, some, bind, map}
use Rattle.model.specs.Listing.{fields_from}
use Rattle.theory.specs.Cases.{if_true, if_false}
use Rattle.listing_read.specs.Lines.{Cut, cut, longer, cut_line}
use Rattle.listing_read.specs.Records.{Taken, taken, one_record}

-- ---- the end of a line

abbrev newline : ℕ → Bool
newline b = b == 10

abbrev cut_at : List ℕ → ℕ → Option Cut
cut_at text e = cond (ltb e (length text)) (some (cut (take e text) (drop (e + 1) text))) none

longer_test : (e n : ℕ) → ltb (suc e) (suc n) ≡ ltb e n
longer_test e n = grind (arith, nat_tests)

line_cut : (text : List ℕ) → cut_line text ≡ cut_at text (position_or_len newline text)
unfolding cut_line
line_cut [] = refl
line_cut (b ∷ s) =
    let e = position_or_len newline s in
    let next : 1 + e ≡ suc e = omega arith in
    elim (eqb b 10) as (λ t. (when t then some (cut [] s) else map (longer (b ∷ [])) (cut_line s))
    ≡ cut_at (b ∷ s) (cond (not t) (1 + e) 0)) [
      | true ↦ if_true (some (cut [] s)) (map (longer (b ∷ [])) (cut_line s)) refl ∙ sym (first_test s)
      | false ↦ if_false (some (cut [] s)) (map (longer (b ∷ [])) (cut_line s)) refl ∙ ap (map (longer (b ∷ []))) (line_cut s)
          ∙ behind b s e ∙ ap (cut_at (b ∷ s)) (sym next)
    ]
  where
    first_test : (s : List ℕ) → cond (ltb 0 (suc (length s))) (some (cut [] s)) none ≡ some (cut [] s)
    first_test s = ap (λ (t : Bool). cond t (some (cut [] s)) none) (lt-ltb 0 (suc (length s)) (omega arith))

    behind : (b : ℕ) (s : List ℕ) (e : ℕ) → map (longer (b ∷ [])) (cut_at s e) ≡ cut_at (b ∷ s) (suc e)
    behind b s e =
        go (ltb e (length s)) ∙ sym (ap₂ (λ (t : Bool) (k : ℕ). cond t (some (cut (b ∷ take e s) (drop k (b ∷ s)))) none) (longer_test e (length s))
        (let k : suc e + 1 ≡ suc (e + 1) = omega arith in k))
      where
        go : (t : Bool) → map (longer (b ∷ [])) (cond t (some (cut (take e s) (drop (e + 1) s))) none) ≡ cond t (some (cut (b ∷ take e s) (drop (e + 1) s))) none
        go true = refl
        go false = refl

pub cut_found : (text : List ℕ) (e : ℕ) → position newline text ≡ Std.Some e → some (cut (take e text) (drop (e + 1) text)) ≡ cut_line text
cut_found text e p =
    let c = cond_some (ltb (position_or_len newline text) (length text)) (position_or_len newline text) e p in
    sym (line_cut text ∙ rw (c.0, c.1) refl)

pub cut_missing : (text : List ℕ) → position newline text ≡ Std.None → none ≡ cut_line text
cut_missing text p = sym (line_cut text ∙ go (ltb (position_or_len newline text) (length text)) refl p)
  where
    go : (t : Bool) → ltb (position_or_len newline text) (length text) ≡ t → cond t (Std.Some (position_or_len newline text)) Std.None ≡ Std.None → cut_at text (position_or_len newline text) ≡ none
    go true e q = absurd (cc)
    go false e q = rw e refl

-- ---- a record's line

module _ (n : ℕ) (fits : List ℕ → Option (List ℕ)) (text : List ℕ) where
  abbrev record_of : Option Cut → Option Taken
  record_of x = bind x (λ c. map (λ r. taken r c.rest) (bind (fields_from n c.line) fits))

  pub no_line : none ≡ cut_line text → none ≡ one_record n fits text
  unfolding one_record bind
  no_line e = ap record_of e

  pub line_read : (line rest : List ℕ) (x : Option (List ℕ)) → some (cut line rest) ≡ cut_line text → x ≡ bind (fields_from n line) fits
      → map (λ r. taken r rest) x ≡ one_record n fits text
  unfolding one_record bind
  line_read line rest x e p = ap (map (λ r. taken r rest)) p ∙ ap record_of e
