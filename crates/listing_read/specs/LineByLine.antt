-- The model's `read` is reading line by line. Assumes nothing.
use Rattle.std.specs.Prelude.{◌≡◌, Bool, ◌||◌, ℕ, zero, suc, ◌+◌, ◌*◌, ◌≤◌, length, take, drop}
use Rattle.std.proofs.Math.Path.{refl, sym, ap}
use Rattle.std.proofs.Common.{◌∙◌, arith, drop_of_length-le, drop-drop, take_all, le-leb, leb-true, eqb-true}
use Rattle.std.proofs.Math.Bool.{true, false, not}
use Rattle.std.proofs.Math.Option.{Option, none, some, bind, map}
use mathlib.Core.List.{List, [], ◌∷◌, ◌++◌}
use Rattle.std.proofs.Math.Dec.{eqb, leb, leb-suc-suc}
use Rattle.std.proofs.Math.ListN.{length-drop}
use Rattle.std.proofs.lemmas.Bool.{lt-leb, eqb-false}
use Rattle.model.specs.Lists.{when◌then◌else◌, is_empty}
use Rattle.model.specs.Program.{field_of}
use Rattle.model.specs.Listing.{fields_from, slice_of, plain_line, operation_line, Read, read_of, too_large, too_much, read_body, read_lines, read}
use Rattle.theory.specs.Cases.{on_if, by_if, if_true, if_false}
use Rattle.listing_read.specs.Lines.{Cut, cut_line, lines_in, when_cut, lines_are}
use Rattle.listing_read.specs.Records.{Taken, taken, behind, one_record, records_in, allowed, closed, records_of, read_bytes}

bind_none : {A B : Type 0} (x : Option A) → bind {B = B} x (λ a. none) ≡ none
unfolding bind
bind_none none = refl
bind_none (some a) = refl

-- ---- k lines of n fields, as the model has them

module _ {X : Type 0} (n : ℕ) (fits : List ℕ → Option (List ℕ)) where
  -- the first k lines as records, if there are as many; `more` is what is made of the others
  unfoldable sliced : ℕ → (List ℕ → List (List ℕ) → Option X) → List (List ℕ) → Option X
  sliced k more ls = when leb k (length ls) then bind (slice_of n fits (take k ls)) (λ vs. more vs (drop k ls)) else none

  module _ (k : ℕ) (more : List ℕ → List (List ℕ) → Option X) where
    sliced_some : (ls : List (List ℕ)) → k ≤ length ls → sliced k more ls ≡ bind (slice_of n fits (take k ls)) (λ vs. more vs (drop k ls))
    unfolding sliced
    sliced_some ls h = if_true _ _ (le-leb k (length ls) h)

    all_none : (ls : List (List ℕ)) (x : Option (List ℕ)) → ((vs : List ℕ) → more vs ls ≡ none) → bind x (λ vs. more vs ls) ≡ none
    unfolding bind
    all_none ls none f = refl
    all_none ls (some vs) f = f vs

    sliced_none : (ls : List (List ℕ)) → (k ≤ length ls → (vs : List ℕ) → more vs (drop k ls) ≡ none) → sliced k more ls ≡ none
    unfolding sliced
    sliced_none ls h =
        on_if (λ x. x ≡ none) (leb k (length ls)) _ none (λ e. all_none (drop k ls) _ (h (leb-true k (length ls) e))) (λ e. refl)

    no_line : sliced (suc k) more [] ≡ none
    unfolding sliced
    no_line = if_false _ none (lt-leb (suc k) 0 (omega arith))

    -- a line that is no record
    bad_line : (line : List ℕ) → bind (fields_from n line) fits ≡ none → (x : Option (List (List ℕ)))
        → bind (map (λ ls. line ∷ ls) x) (sliced (suc k) more) ≡ none
    unfolding bind sliced slice_of
    bad_line line e none = refl
    bad_line line e (some ls) = rw e (by_if (λ x. x ≡ none) (leb (suc k) (suc (length ls))) none none refl refl)

    put_first : (v : List ℕ) (ls : List (List ℕ)) (y : Option (List ℕ))
        → bind (map (λ rs. v ++ rs) y) (λ vs. more vs ls) ≡ bind y (λ vs. more (v ++ vs) ls)
    unfolding bind
    put_first v ls none = refl
    put_first v ls (some vs) = refl

    -- a line whose record is v
    good_line : (line v : List ℕ) → bind (fields_from n line) fits ≡ some v → (x : Option (List (List ℕ)))
        → bind (map (λ ls. line ∷ ls) x) (sliced (suc k) more) ≡ bind x (sliced k (λ vs. more (v ++ vs)))
    unfolding bind sliced slice_of
    good_line line v e none = refl
    good_line line v e (some ls) =
        rw (e, leb-suc-suc k (length ls))
        (ap (λ (y : Option X). when leb k (length ls) then y else none) (put_first v (drop k ls) (slice_of n fits (take k ls))))

-- what is made of k records and of the lines behind them
abbrev after : {X : Type 0} → (List ℕ → List (List ℕ) → Option X) → Taken → Option X
after more t = bind (lines_in t.rest) (more t.values)

shifted : {X : Type 0} (more : List ℕ → List (List ℕ) → Option X) (v : List ℕ) (x : Option Taken)
    → bind (map (behind v) x) (after more) ≡ bind x (after (λ vs. more (v ++ vs)))
unfolding bind
shifted more v none = refl
shifted more v (some t) = refl

no_records : {X : Type 0} (n : ℕ) (fits : List ℕ → Option (List ℕ)) (more : List ℕ → List (List ℕ) → Option X) (x : Option (List (List ℕ)))
    → bind x (sliced n fits 0 more) ≡ bind x (more [])
unfolding bind sliced slice_of
no_records n fits more none = refl
no_records n fits more (some ls) = if_true _ _ (le-leb 0 (length ls) (omega arith))

-- k records, line by line
records_are : {X : Type 0} (n : ℕ) (fits : List ℕ → Option (List ℕ)) (k : ℕ) (s : List ℕ) (more : List ℕ → List (List ℕ) → Option X)
    → bind (lines_in s) (sliced n fits k more) ≡ bind (records_in n fits k s) (after more)
unfolding records_in one_record bind
records_are n fits zero s more = no_records n fits more (lines_in s)
records_are {X} n fits (suc k) s more =
    ap (λ x. bind x (sliced n fits (suc k) more)) (lines_are s)
    ∙ go (λ t m. records_are n fits k t m) (cut_line s)
  where
    line : ((t : List ℕ) (m : List ℕ → List (List ℕ) → Option X) → bind (lines_in t) (sliced n fits k m)
        ≡ bind (records_in n fits k t) (after m))
        → (c : Cut) (v : Option (List ℕ)) → bind (fields_from n c.line) fits ≡ v
        → bind (when_cut s (some c)) (sliced n fits (suc k) more)
        ≡ bind (bind (map (λ r. taken r c.rest) v) (λ a. map (behind a.values) (records_in n fits k a.rest)))
        (after more)
    line ih c none e = bad_line n fits k more c.line e (lines_in c.rest)
    line ih c (some v) e =
        good_line n fits k more c.line v e (lines_in c.rest) ∙ ih c.rest (λ vs. more (v ++ vs))
        ∙ sym (shifted more v (records_in n fits k c.rest))

    go : ((t : List ℕ) (m : List ℕ → List (List ℕ) → Option X) → bind (lines_in t) (sliced n fits k m)
        ≡ bind (records_in n fits k t) (after m))
        → (x : Option Cut) → bind (when_cut s x) (sliced n fits (suc k) more)
        ≡ bind (bind (bind x (λ c. map (λ r. taken r c.rest) (bind (fields_from n c.line) fits)))
        (λ a. map (behind a.values) (records_in n fits k a.rest))) (after more)
    go ih none = on_if (λ y. bind y (sliced n fits (suc k) more) ≡ none) (is_empty s) (some []) none (λ f. no_line n fits k more) (λ f. refl)
    go ih (some c) = line ih c (bind (fields_from n c.line) fits) refl

-- ---- the lines behind the first, h

no_cut : (c : Cut) → cut_line [] ≡ some c → ⊥
unfolding cut_line
no_cut c e = let z : ◌≡◌ {A = ℕ} 0 1 = cc in omega arith

module _ (h : List ℕ) where
  unfoldable ended : List ℕ → List ℕ → List ℕ → List (List ℕ) → Option Read
  ended ns os rs ls = when is_empty ls then some (read_of h ns os rs) else none

  unfoldable rows_of : List ℕ → List ℕ → List (List ℕ) → Option Read
  rows_of ns os = sliced 4 plain_line (2 * field_of h 0) (ended ns os)

  unfoldable operations_of : List ℕ → List (List ℕ) → Option Read
  operations_of ns = sliced 6 operation_line (field_of h 2) (rows_of ns)

  unfoldable nodes_of : List (List ℕ) → Option Read
  nodes_of = sliced 5 plain_line (field_of h 1) operations_of

  some_line : (ns os rs line : List ℕ) (x : Option (List (List ℕ))) → bind (map (λ ls. line ∷ ls) x) (ended ns os rs) ≡ none
  unfolding bind ended is_empty when◌then◌else◌
  some_line ns os rs line none = refl
  some_line ns os rs line (some ls) = refl

  nothing_left : (s : List ℕ) (ns os rs : List ℕ) → bind (lines_in s) (ended ns os rs) ≡ closed h ns os (taken rs s)
  unfolding bind ended is_empty when◌then◌else◌
  nothing_left s ns os rs = ap (λ x. bind x (ended ns os rs)) (lines_are s) ∙ go s (cut_line s) refl
    where
      go : (t : List ℕ) (x : Option Cut) → cut_line t ≡ x → bind (when_cut t x) (ended ns os rs) ≡ closed h ns os (taken rs t)
      go [] none e = refl
      go (b ∷ t) none e = refl
      go [] (some c) e = absurd (no_cut c e)
      go (b ∷ t) (some c) e = some_line ns os rs c.line (lines_in c.rest)

  rows_bytes : (ns os : List ℕ) (x : Option Taken) → bind x (after (ended ns os)) ≡ bind x (closed h ns os)
  unfolding bind
  rows_bytes ns os none = refl
  rows_bytes ns os (some t) = nothing_left t.rest ns os t.values

  operations_bytes : (ns : List ℕ) (x : Option Taken)
      → bind x (after (rows_of ns)) ≡ bind x (λ b. bind (records_in 4 plain_line (2 * field_of h 0) b.rest) (closed h ns b.values))
  unfolding bind rows_of
  operations_bytes ns none = refl
  operations_bytes ns (some t) =
      records_are 4 plain_line (2 * field_of h 0) t.rest (ended ns t.values)
      ∙ rows_bytes ns t.values (records_in 4 plain_line (2 * field_of h 0) t.rest)

  nodes_bytes : (x : Option Taken) → bind x (after operations_of)
      ≡ bind x (λ a. bind (records_in 6 operation_line (field_of h 2) a.rest) (λ b.
      bind (records_in 4 plain_line (2 * field_of h 0) b.rest) (closed h a.values b.values)))
  unfolding bind operations_of
  nodes_bytes none = refl
  nodes_bytes (some t) =
      records_are 6 operation_line (field_of h 2) t.rest (rows_of t.values)
      ∙ operations_bytes t.values (records_in 6 operation_line (field_of h 2) t.rest)

  -- the bytes behind the first line
  body_bytes : (s : List ℕ) → bind (lines_in s) nodes_of ≡ records_of h s
  unfolding nodes_of records_of
  body_bytes s = records_are 5 plain_line (field_of h 1) s operations_of ∙ nodes_bytes (records_in 5 plain_line (field_of h 1) s)

  -- ---- the model's body: as many lines as the first line says, no more and no fewer

  abbrev total : ℕ
  total = field_of h 1 + field_of h 2 + 2 * field_of h 0

  abbrev row_lines : List ℕ → List ℕ → List (List ℕ) → Option Read
  row_lines ns os ls = map (read_of h ns os) (slice_of 4 plain_line ls)

  abbrev body : List (List ℕ) → Option Read
  body ls =
      bind (slice_of 5 plain_line (take (field_of h 1) ls)) (λ ns.
      bind (slice_of 6 operation_line (take (field_of h 2) (drop (field_of h 1) ls)))
      (λ os. row_lines ns os (drop (field_of h 1 + field_of h 2) ls)))

  last_rows : (ns os : List ℕ) (x : Option (List ℕ)) → bind x (λ rs. ended ns os rs []) ≡ map (read_of h ns os) x
  unfolding bind ended is_empty when◌then◌else◌
  last_rows ns os none = refl
  last_rows ns os (some rs) = refl

  rows_exact : (ns os : List ℕ) (ls : List (List ℕ)) → length ls ≡ 2 * field_of h 0 → rows_of ns os ls ≡ row_lines ns os ls
  unfolding rows_of
  rows_exact ns os ls e =
      sliced_some 4 plain_line (2 * field_of h 0) (ended ns os) ls (omega arith)
      ∙ ap (λ t. bind (slice_of 4 plain_line t) (λ rs. ended ns os rs (drop (2 * field_of h 0) ls)))
      (take_all (2 * field_of h 0) ls (omega arith))
      ∙ ap (λ t. bind (slice_of 4 plain_line ls) (λ rs. ended ns os rs t)) (drop_of_length-le ls {i = 2 * field_of h 0} (omega arith))
      ∙ last_rows ns os (slice_of 4 plain_line ls)

  operations_exact : (ns : List ℕ) (ls : List (List ℕ)) → length ls ≡ 2 * field_of h 0 → (x : Option (List ℕ))
      → bind x (λ os. rows_of ns os ls) ≡ bind x (λ os. row_lines ns os ls)
  unfolding bind
  operations_exact ns ls e none = refl
  operations_exact ns ls e (some os) = rows_exact ns os ls e

  nodes_exact : (ls : List (List ℕ)) → length ls ≡ field_of h 2 + 2 * field_of h 0 → (x : Option (List ℕ)) → bind x (λ ns. operations_of ns ls)
      ≡ bind x (λ ns. bind (slice_of 6 operation_line (take (field_of h 2) ls)) (λ os. row_lines ns os (drop (field_of h 2) ls)))
  unfolding bind operations_of
  nodes_exact ls e none = refl
  nodes_exact ls e (some ns) =
      sliced_some 6 operation_line (field_of h 2) (rows_of ns) ls (omega arith)
      ∙ operations_exact ns (drop (field_of h 2) ls) (simp length-drop (omega arith)) (slice_of 6 operation_line (take (field_of h 2) ls))

  exact : (ls : List (List ℕ)) → length ls ≡ total → nodes_of ls ≡ body ls
  unfolding nodes_of
  exact ls e =
      sliced_some 5 plain_line (field_of h 1) operations_of ls (omega arith)
      ∙ nodes_exact (drop (field_of h 1) ls) (simp length-drop (omega arith)) (slice_of 5 plain_line (take (field_of h 1) ls))
      ∙ ap (λ t. bind (slice_of 5 plain_line (take (field_of h 1) ls)) (λ ns.
      bind (slice_of 6 operation_line (take (field_of h 2) (drop (field_of h 1) ls))) (λ os. row_lines ns os t)))
      (drop-drop (field_of h 2) (field_of h 1) ls)

  left_over : (ns os rs : List ℕ) (t : List (List ℕ)) → (length t ≡ 0 → ⊥) → ended ns os rs t ≡ none
  unfolding ended is_empty when◌then◌else◌
  left_over ns os rs [] f = absurd (f refl)
  left_over ns os rs (x ∷ t) f = refl

  counted : (ls : List (List ℕ)) → field_of h 1 ≤ length ls → field_of h 2 ≤ length (drop (field_of h 1) ls)
      → 2 * field_of h 0 ≤ length (drop (field_of h 2) (drop (field_of h 1) ls))
      → length (drop (2 * field_of h 0) (drop (field_of h 2) (drop (field_of h 1) ls))) ≡ 0 → length ls ≡ total
  counted ls a b c z =
      let d₁ = length-drop (field_of h 1) ls in
      let d₂ = length-drop (field_of h 2) (drop (field_of h 1) ls) in
      let d₃ = length-drop (2 * field_of h 0) (drop (field_of h 2) (drop (field_of h 1) ls)) in
      omega arith

  other : (ls : List (List ℕ)) → (length ls ≡ total → ⊥) → nodes_of ls ≡ none
  unfolding nodes_of operations_of rows_of
  other ls ne =
      sliced_none 5 plain_line (field_of h 1) operations_of ls (λ a ns.
      sliced_none 6 operation_line (field_of h 2) (rows_of ns) (drop (field_of h 1) ls) (λ b os.
      sliced_none 4 plain_line (2 * field_of h 0) (ended ns os) (drop (field_of h 2) (drop (field_of h 1) ls)) (λ c rs.
      left_over ns os rs _ (λ z. ne (counted ls a b c z)))))

  body_is : (ls : List (List ℕ)) → read_body ls h ≡ (when too_large h then none else nodes_of ls)
  unfolding read_body too_much when◌then◌else◌
  body_is ls = go (too_large h) (eqb (length ls) total) refl
    where
      go : (a b : Bool) → eqb (length ls) total ≡ b → (when a || not b then none else body ls) ≡ (when a then none else nodes_of ls)
      go true b e = refl
      go false true e = sym (exact ls (eqb-true (length ls) total e))
      go false false e = sym (other ls (eqb-false (length ls) total e))

-- ---- the whole

heads : (line : List ℕ) (x : Option (List (List ℕ))) (f : Option (List ℕ)) → fields_from 4 line ≡ f
    → bind (map (λ ls. line ∷ ls) x) read_lines ≡ bind f (λ h. bind x (λ ls. read_body ls h))
unfolding bind read_lines
heads line none none e = refl
heads line none (some h) e = refl
heads line (some ls) none e = rw e refl
heads line (some ls) (some h) e = rw e refl

bodies : (h : List ℕ) (x : Option (List (List ℕ))) → bind x (λ ls. read_body ls h) ≡ bind x (λ ls. when too_large h then none else nodes_of h ls)
unfolding bind
bodies h none = refl
bodies h (some ls) = body_is h ls

header_allowed : (h s : List ℕ) (b : Bool) → bind (lines_in s) (λ ls. when b then none else nodes_of h ls)
    ≡ bind (map (λ r. taken r s) (when b then none else some h)) (λ a. records_of a.values a.rest)
unfolding bind when◌then◌else◌
header_allowed h s true = bind_none (lines_in s)
header_allowed h s false = body_bytes h s

behind_header : (s : List ℕ) (f : Option (List ℕ)) → bind f (λ h. bind (lines_in s) (λ ls. read_body ls h))
    ≡ bind (map (λ r. taken r s) (bind f allowed)) (λ a. records_of a.values a.rest)
unfolding bind
behind_header s none = refl
behind_header s (some h) = bodies h (lines_in s) ∙ header_allowed h s (too_large h)

-- the model's `read`, line by line
pub read_is : (text : List ℕ) → read text ≡ read_bytes text
unfolding read read_bytes one_record bind read_lines lines_in
read_is text = ap (λ x. bind x read_lines) (lines_are text) ∙ go (cut_line text)
  where
    go : (x : Option Cut) → bind (when_cut text x) read_lines
        ≡ bind (bind x (λ c. map (λ r. taken r c.rest) (bind (fields_from 4 c.line) allowed)))
        (λ a. records_of a.values a.rest)
    go none = on_if (λ y. bind y read_lines ≡ none) (is_empty text) (some []) none (λ e. refl) (λ e. refl)
    go (some c) = heads c.line (lines_in c.rest) (fields_from 4 c.line) refl ∙ behind_header c.rest (fields_from 4 c.line)
