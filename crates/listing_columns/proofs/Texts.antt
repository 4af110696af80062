-- What is read back from a printed text is what was printed. Assumes nothing.
use Rattle.std.specs.Prelude.{◌≡◌, refl, Bool, ℕ, ◌/◌, ◌≤◌, length, take, drop}
use Rattle.std.proofs.Common.{sym, ap, ap₂, ◌∙◌, arith, length-append, take_at, drop_at, le-ltb}
use Rattle.std.proofs.Math.Option
use Rattle.std.proofs.Math.Option.{Option, none, some, bind, get_or}
use mathlib.Core.List.{List, [], ◌∷◌, ◌++◌, map, flatten, append-nil, append_assoc}
use Rattle.model.specs.Lists.{when◌then◌else◌, is_empty}
use Rattle.model.specs.Listing.{columns, lines_from, numeral, unpadded, fields_from, column, line_of, text_of}
use Rattle.theory.specs.Cases.{if_false}
use Rattle.theory.specs.Every.{Every, every_append}
use Rattle.listing_columns.specs.Back.{fields_back, each_back, text_back, lines_back}
use Rattle.listing_columns.specs.Digits.{InColumn, column_read, NoNewline, column_bytes}
use Rattle.listing_columns.specs.Columns.{column_length, columns_length}

-- ---- a line's fields

-- the bytes of a line, without its newline
abbrev columns_of : List ℕ → List ℕ
columns_of ns = flatten (map column ns)

fields_read : (ns : List ℕ) → Every InColumn ns → fields_from (length ns) (columns_of ns) ≡ some ns
unfolding fields_from flatten is_empty when◌then◌else◌ bind
fields_read [] h = refl
fields_read (n ∷ ns) h =
    let rest = columns_of ns in
    let long : columns ≤ length (column n ++ rest) = omega (arith, length-append (column n) rest, column_length n) in
    let one : take columns (column n ++ rest) ≡ column n = take_at (column n) rest columns (column_length n) in
    let others : drop columns (column n ++ rest) ≡ rest = drop_at (column n) rest columns (column_length n) in
    if_false none _ (le-ltb (length (column n ++ rest)) columns long)
    ∙ ap₂ (λ (c r : List ℕ). bind (numeral (unpadded c)) (λ v. Option.map (λ vs. v ∷ vs) (fields_from (length ns) r))) one others
    ∙ ap₂ (λ (x : Option ℕ) (y : Option (List ℕ)). bind x (λ v. Option.map (λ vs. v ∷ vs) y)) (column_read n h.0) (fields_read ns h.1)

pub fields_back_lem : (ns : List ℕ) → Every InColumn ns → fields_back (columns_of ns) ≡ some ns
unfolding fields_back
fields_back_lem ns h =
    ap (λ (k : ℕ). fields_from k (columns_of ns)) (let e : length (columns_of ns) / columns ≡ length ns = omega (arith, columns_length ns) in e)
    ∙ fields_read ns h

each_back_lem : (ls : List (List ℕ)) → Every (Every InColumn) ls → each_back (map columns_of ls) ≡ some ls
unfolding each_back bind
each_back_lem [] h = refl
each_back_lem (x ∷ ls) h =
    ap₂ (λ (a : Option (List ℕ)) (b : Option (List (List ℕ))). bind a (λ ns. Option.map (λ rest. ns ∷ rest) b)) (fields_back_lem x h.0)
    (each_back_lem ls h.1)

-- ---- a text's lines

columns_bytes : (ns : List ℕ) → Every NoNewline (columns_of ns)
unfolding flatten
columns_bytes [] = tt
columns_bytes (n ∷ ns) = every_append NoNewline (column n) (columns_of ns) (column_bytes n) (columns_bytes ns)

one_line : (done : List (List ℕ)) (line bs rest : List ℕ) → Every NoNewline bs
    → lines_from done line (bs ++ (10 ∷ rest)) ≡ lines_from (done ++ ((line ++ bs) ∷ [])) [] rest
unfolding lines_from when◌then◌else◌
one_line done line [] rest h = ap (λ (t : List ℕ). lines_from (done ++ (t ∷ [])) [] rest) (sym (append-nil line))
one_line done line (b ∷ bs) rest h =
    ap (λ (t : Bool). lines_from (when t then done ++ (line ∷ []) else done) (when t then [] else line ++ (b ∷ [])) (bs ++ (10 ∷ rest))) h.0
    ∙ one_line done (line ++ (b ∷ [])) bs rest h.1
    ∙ ap (λ (t : List ℕ). lines_from (done ++ (t ∷ [])) [] rest) (append_assoc line (b ∷ []) bs)

lines_read : (done ls : List (List ℕ)) → lines_from done [] (text_of ls) ≡ some (done ++ map columns_of ls)
unfolding text_of flatten line_of
lines_read done [] = unfold lines_from is_empty when◌then◌else◌ in (ap some (sym (append-nil done)))
lines_read done (x ∷ ls) =
    ap (lines_from done []) (append_assoc (columns_of x) (10 ∷ []) (text_of ls))
    ∙ one_line done [] (columns_of x) (text_of ls) (columns_bytes x)
    ∙ lines_read (done ++ (columns_of x ∷ [])) ls
    ∙ ap some (append_assoc done (columns_of x ∷ []) (map columns_of ls))

-- ---- the law

-- every field in its column: the text is read as the lines that were printed
pub text_back_lem : (ls : List (List ℕ)) → Every (Every InColumn) ls → text_back (text_of ls) ≡ some ls
unfolding text_back bind
text_back_lem ls h = ap (λ (x : Option (List (List ℕ))). bind x each_back) (lines_read [] ls) ∙ each_back_lem ls h

pub lines_back_lem : (ls : List (List ℕ)) → Every (Every InColumn) ls → lines_back (text_of ls) ≡ ls
unfolding lines_back
lines_back_lem ls h = ap (λ (x : Option (List (List ℕ))). get_or x []) (text_back_lem ls h)
