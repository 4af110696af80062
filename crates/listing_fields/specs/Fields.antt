-- The fields of a line, one step of the loop over them. Assumes nothing.
use Rattle.std.specs.Prelude.{◌≡◌, refl, Bool, true, false, List, [], ◌∷◌, ◌++◌, ℕ, zero, suc, ◌+◌, ◌-◌, ◌*◌, ◌/◌, ◌%◌, ◌<◌, ltb, length, drop, set, Result, Ok, Err}
use Rattle.std.proofs.Math.Path.{sym, ap}
use Rattle.std.proofs.Common.{ap₂, ◌∙◌, append_assoc, append-nil, arith, length-drop, drop_of_length-le, drop-drop, take-suc-set, take_all, ltb-false, le-ltb}
use Rattle.std.proofs.Math.Option.{Option, none, some, bind, map}
use Rattle.std.proofs.Math.Numerals.{add-one}
use Rattle.std.proofs.Math.ListN.{take}
use Rattle.std.specs.Result.{IsErr}
use Rattle.model.specs.Lists.{when◌then◌else◌, is_empty}
use Rattle.model.specs.Listing.{columns, numeral, unpadded, fields_from}
use Rattle.theory.specs.Cases.{on_if, if_false}
use Rattle.listing_fields.specs.declared.BadText.{BadText}
use Rattle.listing_fields.specs.Views.{values_of}

none_mapped : {A B : Type 0} (f : A → B) (x : Option A) → x ≡ none → map f x ≡ none
none_mapped f x e = ap (map f) e

pub fields_length : (n : ℕ) (line : List ℕ) → (length line ≡ n * columns → ⊥) → fields_from n line ≡ none
unfolding fields_from is_empty bind
fields_length zero [] h = absurd (h (omega arith))
fields_length zero (b ∷ line) h = if_false _ _ refl
fields_length (suc n) line h =
    on_if (λ x. x ≡ none) (ltb (length line) columns) none _ (λ e. refl)
    (λ e.
    let l = ltb-false (length line) columns e in
    let d = length-drop columns line in
    go (numeral (unpadded (take columns line))) (fields_length n (drop columns line) (λ f. h (omega arith))))
  where
    go : (x : Option ℕ) → fields_from n (drop columns line) ≡ none
        → bind x (λ v. map (λ vs. v ∷ vs) (fields_from n (drop columns line))) ≡ none
    go none e = refl
    go (some v) e = none_mapped _ _ e

-- a line that is no whole number of columns, or another number of them
pub part_column : (n : ℕ) (line : List ℕ) → (length line % columns ≡ 0 → ⊥) → none ≡ fields_from n line
part_column n line h = sym (fields_length n line (λ e. h (omega arith)))

pub other_columns : (n : ℕ) (line : List ℕ) → (length line / columns ≡ n → ⊥) → none ≡ fields_from n line
other_columns n line h = sym (fields_length n line (λ e. h (omega arith)))

-- what is left of a line of n fields before field i
unfoldable pub fields_left : ℕ → ℕ → List ℕ → Option (List ℕ)
fields_left n i line = fields_from (n - i) (drop (i * columns) line)

-- the whole, with the first i fields in `to`
unfoldable pub fields_after : ℕ → List ℕ → ℕ → List ℕ → Option (List ℕ)
fields_after n line i to = map (λ vs. take i to ++ vs) (fields_left n i line)

pub fields_first : (n : ℕ) (line to : List ℕ) → fields_from n line ≡ fields_after n line 0 to
unfolding fields_left fields_after
fields_first n line to = go (fields_from n line) (ap (λ (k : ℕ). fields_from k line) (let p : n ≡ n - 0 = omega arith in p))
  where
    go : (x : Option (List ℕ)) {y : Option (List ℕ)} → x ≡ y → x ≡ map (λ vs. vs) y
    go none e = ap (map (λ vs. vs)) e
    go (some vs) e = ap (map (λ vs. vs)) e

left_step : (n i : ℕ) (line : List ℕ) → length line ≡ n * columns → i < n
    → fields_left n i line ≡ bind (numeral (unpadded (take (i * columns + columns - i * columns) (drop (i * columns) line))))
    (λ v. map (λ vs. v ∷ vs) (fields_left n (i + 1) line))
unfolding fields_left fields_from
left_step n i line e l =
    let d = length-drop (i * columns) line in
    ap (λ (k : ℕ). fields_from k (drop (i * columns) line)) (let p : n - i ≡ suc (n - (i + 1)) = omega arith in p)
    ∙ if_false _ _ (le-ltb (length (drop (i * columns) line)) columns (omega arith))
    ∙ ap₂ (λ (k : ℕ) (t : List ℕ). bind (numeral (unpadded (take k (drop (i * columns) line))))
    (λ v. map (λ vs. v ∷ vs) (fields_from (n - (i + 1)) t)))
    (let p : columns ≡ i * columns + columns - i * columns = omega arith in p)
    (drop-drop columns (i * columns) line ∙ ap (λ (k : ℕ). drop k line)
    (let p : i * columns + columns ≡ (i + 1) * columns = omega arith in p))

module _ (n i : ℕ) (line to : List ℕ) (x : Option (List ℕ)) (e : length line ≡ n * columns) (l : i < n) (p : x ≡ fields_after n line i to)
  where
    pub fields_bad : {v : Option ℕ} → v ≡ numeral (unpadded (take (i * columns + columns - i * columns) (drop (i * columns) line)))
        → v ≡ none → none ≡ x
    unfolding bind fields_after
    fields_bad q z =
        sym (p ∙ ap (map (λ vs. take i to ++ vs))
        (left_step n i line e l ∙ ap (λ y. bind y (λ v. map (λ vs. v ∷ vs) (fields_left n (i + 1) line))) (sym q ∙ z)))

    pub fields_more : (v : ℕ) {w : Option ℕ} → i < length to
        → w ≡ numeral (unpadded (take (i * columns + columns - i * columns) (drop (i * columns) line))) → w ≡ some v
        → x ≡ fields_after n line (i + 1) (set to i v)
    unfolding bind fields_after
    fields_more v b q z =
        p ∙ ap (map (λ vs. take i to ++ vs))
        (left_step n i line e l ∙ ap (λ y. bind y (λ v. map (λ vs. v ∷ vs) (fields_left n (i + 1) line))) (sym q ∙ z))
        ∙ go (fields_left n (i + 1) line)
      where
        front : take (i + 1) (set to i v) ≡ take i to ++ (v ∷ [])
        front = rw add-one (take-suc-set to i v b)

        go : (y : Option (List ℕ)) → map (λ vs. take i to ++ vs) (map (λ vs. v ∷ vs) y)
            ≡ map (λ vs. take (i + 1) (set to i v) ++ vs) y
        go none = refl
        go (some vs) = ap some (sym (append_assoc (take i to) (v ∷ []) vs) ∙ ap (λ (t : List ℕ). t ++ vs) (sym front))

pub fields_end : (n i : ℕ) (line to : List ℕ) (x : Option (List ℕ)) → length line ≡ n * columns → length to ≡ n → i ≡ n
    → x ≡ fields_after n line i to → some to ≡ x
unfolding fields_after fields_left fields_from is_empty when◌then◌else◌
fields_end n i line to x e f l p =
    sym (p ∙ ap (λ (k : ℕ). map (λ vs. take k to ++ vs) (fields_from (n - k) (drop (k * columns) line))) l
    ∙ ap₂ (λ (k : ℕ) (t : List ℕ). map (λ vs. take n to ++ vs) (fields_from k t)) (let q : n - n ≡ 0 = omega arith in q)
    (drop_of_length-le line {i = n * columns} (omega arith))
    ∙ ap some (append-nil (take n to) ∙ take_all n to (omega arith)))

-- ---- what an answer says

-- a refusal that is handed on
pub refused : (r : Result Unit BadText) (vs : List ℕ) {x : Option (List ℕ)} → IsErr r → none ≡ x → values_of r vs ≡ x
refused (Ok done) vs e p = absurd (let z : ◌≡◌ {A = Bool} false true = e in cc)
refused (Err b) vs e p = p

pub none_bound : {x : Option (List ℕ)} (f : List ℕ → Option (List ℕ)) → none ≡ x → none ≡ bind x f
unfolding bind
none_bound f e = ap (λ y. bind y f) e
