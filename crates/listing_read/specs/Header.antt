-- A text's first line. Assumes nothing.
use Rattle.std.specs.Prelude.{◌≡◌, refl, Bool, true, false, ◌||◌, List, [], ◌∷◌, ℕ, ◌≤◌, ltb, length, get_or, Result, Ok, Err}
use Rattle.std.specs.Result.{IsErr}
use Rattle.std.proofs.Common.{sym, ap, ◌∙◌, arith, ltb-false, Bor}
use Rattle.std.proofs.Math.Option.{Option, none, some, bind}
use Rattle.model.specs.Program.{field_of}
use Rattle.model.specs.Listing.{Read, too_large, read}
use Rattle.theory.specs.Cases.{if_true, if_false, neither}
use Rattle.listing_fields.specs.declared.BadText.{BadText}
use Rattle.listing_read.specs.declared.Text.{Text}
use Rattle.listing_read.specs.Records.{Taken, taken, one_record, allowed, records_of, read_bytes}
use Rattle.listing_read.specs.LineByLine.{read_is}
use Rattle.listing_read.specs.Views.{Headed}

-- ---- the first line's four fields

pub four : (h : List ℕ) {a b c d : ℕ} → length h ≡ 4 → a ≡ get_or h 0 0 → b ≡ get_or h 1 0 → c ≡ get_or h 2 0 → d ≡ get_or h 3 0
    → (a ∷ b ∷ c ∷ d ∷ []) ≡ h
four [] e p q r s = absurd (omega arith)
four (x ∷ []) e p q r s = absurd (omega arith)
four (x ∷ y ∷ []) e p q r s = absurd (omega arith)
four (x ∷ y ∷ z ∷ []) e p q r s = absurd (omega arith)
four (x ∷ y ∷ z ∷ w ∷ []) e p q r s = rw (p, q, r, s) refl
four (x ∷ y ∷ z ∷ w ∷ v ∷ h) e p q r s = absurd (omega arith)

pub same_taken : {h h' s : List ℕ} {x : Option Taken} → h ≡ h' → some (taken h' s) ≡ x → some (taken h s) ≡ x
same_taken {h} {h'} {s} e p = ap (λ (t : List ℕ). some (taken t s)) e ∙ p

-- a first line that `tooLarge` does not refuse
pub record Small (h : List ℕ) : Type 0 where
  pub qubits : field_of h 0 ≤ 64
  pub nodes : field_of h 1 ≤ 128
  pub operations : field_of h 2 ≤ 128
  pub limit : field_of h 3 ≤ 256

pub not_too_large : (h : List ℕ) {b : Bool} → b ≡ too_large h → b ≡ false → Small h
not_too_large h e t =
    let n₃ = neither (ltb 64 (field_of h 0) || ltb 128 (field_of h 1) || ltb 128 (field_of h 2)) (ltb 256 (field_of h 3)) (sym e ∙ t) in
    let n₂ = neither (ltb 64 (field_of h 0) || ltb 128 (field_of h 1)) (ltb 128 (field_of h 2)) n₃.0 in
    let n₁ = neither (ltb 64 (field_of h 0)) (ltb 128 (field_of h 1)) n₂.0 in
    record {
      qubits = ltb-false 64 (field_of h 0) n₁.0;
      nodes = ltb-false 128 (field_of h 1) n₁.1;
      operations = ltb-false 128 (field_of h 2) n₂.1;
      limit = ltb-false 256 (field_of h 3) n₃.1;
    }

pub header_allowed : (h : List ℕ) {b : Bool} (x : Option (List ℕ)) → some h ≡ x → b ≡ too_large h → b ≡ false → some h ≡ bind x allowed
unfolding bind
header_allowed h x p e t = sym (if_false none (some h) (sym e ∙ t)) ∙ ap (λ y. bind y allowed) p

pub header_refused : (h : List ℕ) {b : Bool} (x : Option (List ℕ)) → some h ≡ x → b ≡ too_large h → b ≡ true → none ≡ bind x allowed
unfolding bind
header_refused h x p e t = sym (if_true none (some h) (sym e ∙ t)) ∙ ap (λ y. bind y allowed) p

-- ---- the first line, and what is read behind it

-- a first line that is refused
pub not_headed : (r : Result (Text × Bor (List ℕ)) BadText) {x : Option Taken} → IsErr r → none ≡ x → Headed r x
not_headed (Ok p) e q = absurd (let z : ◌≡◌ {A = Bool} false true = e in cc)
not_headed (Err b) e q = record { read = q; small = tt }

pub read_header : (text : List ℕ) (x : Option Read) (h s : List ℕ) → some (taken h s) ≡ one_record 4 allowed text → x ≡ records_of h s
    → x ≡ read text
unfolding read_bytes bind
read_header text x h s e p = p ∙ ap (λ y. bind y (λ a. records_of a.values a.rest)) e ∙ sym (read_is text)

pub no_header : (text : List ℕ) → none ≡ one_record 4 allowed text → none ≡ read text
unfolding read_bytes bind
no_header text e = ap (λ y. bind y (λ a. records_of a.values a.rest)) e ∙ sym (read_is text)
