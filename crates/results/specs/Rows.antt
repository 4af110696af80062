-- The frame rows that come out, written one behind the other. Assumes nothing.
use Rattle.std.specs.Prelude.{◌≡◌, ◌⊎◌, refl, Bool, true, false, not, ◌&&◌, ℕ, suc, ◌+◌, ◌*◌, ◌/◌, ◌%◌, ◌≤◌, ◌<◌, eqb, length}
use Rattle.std.proofs.Common.{sym, inl, inr, eq-eqb, ap₂, ◌∙◌, subst, true≢false, length-append}
use Rattle.std.proofs.Math.Path.{ap}
use mathlib.Core.List.{List, [], ◌∷◌, ◌++◌, map, flatten}
use native.Mathlib.Omega.{arith}
use Rattle.store.specs.Part.{put, put_length}
use Rattle.store.specs.From.{list_from, from_none, from_more, from_same, flatten_one}
use Rattle.model.specs.Lists.{when◌then◌else◌, keep}
use Rattle.model.specs.Program.{PauliRef, Program}
use Rattle.model.specs.Roots.{is_root}
use Rattle.model.specs.Packing.{SignedAxis}
use Rattle.model.specs.Rounds.{Work}
use Rattle.model.specs.Results.{sign_field, kept_row, given_row, row_record, axes_left, row_results_from, row_results}
use Rattle.model.specs.Rewriting.{then_zeros}
use Rattle.theory.specs.Cases.{by_if, if_true, if_false}
use Rattle.layout.specs.declared.Shape.{Shape}
use Rattle.layout.specs.Rows.{row_count, no_axis}
use Rattle.work.specs.declared.Root.{Root}
use Rattle.work.specs.Rows.{root_at, root_said, is_given, rows_in, given_in}
use Rattle.work.specs.RowPut.{RootPre}
use Rattle.work.specs.Work.{FrameIn}
use Rattle.results.specs.declared.RowResult.{RowResult}
use Rattle.results.specs.Put.{put_front, put_behind}
use Rattle.results.specs.Zeros.{zeroed_from, laid_zeroed}

-- "rows (qubit, row, id, sign; ..)"
abbrev pub row_fields : RowResult → List ℕ
row_fields r = r.qubit ∷ r.half ∷ r.axis ∷ r.sign ∷ []

-- row i, whose axis and sign are f: "kept is -1, 0, for a row that is no root, and for all rows if no pass absorbed anything"
unfoldable pub row_here : Bool → SignedAxis → ℕ → List ℕ
row_here changed f i = when changed && is_given f then given_row i f else kept_row i

-- ---- one row

pub row_given : (changed : Bool) (f : SignedAxis) (i : ℕ) (r : RowResult) → changed && not (eqb f.axis no_axis) ≡ true
    → r.qubit ≡ i / 2 → r.half ≡ i % 2 → r.axis ≡ f.axis → r.sign ≡ sign_field f.sign → row_fields r ≡ row_here changed f i
unfolding row_here is_given given_row
row_given changed f i r t a b c d = rw (a, b, c, d) (sym (if_true _ _ t))

pub row_kept : (changed : Bool) (f : SignedAxis) (i : ℕ) (r : RowResult) → changed && not (eqb f.axis no_axis) ≡ false
    → r.qubit ≡ i / 2 → r.half ≡ i % 2 → r.axis ≡ no_axis → r.sign ≡ 0 → row_fields r ≡ row_here changed f i
unfolding row_here is_given kept_row
row_kept changed f i r t a b c d = rw (a, b, c, d) (sym (if_false _ _ t))

-- the code's two ways to the same
pub not_given : (changed : Bool) (a : ℕ) → ((changed ≡ true) × (a ≡ no_axis)) ⊎ (changed ≡ false) → changed && not (eqb a no_axis) ≡ false
not_given changed a (inl e) = rw e.0 (ap not (eq-eqb a no_axis e.1))
not_given changed a (inr e) = rw e refl

row_four : (changed : Bool) (f : SignedAxis) (i : ℕ) → length (row_here changed f i) ≡ 4
unfolding row_here given_row kept_row
row_four changed f i = by_if (λ (x : List ℕ). length x ≡ 4) (changed && is_given f) _ _ refl refl

-- row i of the shape's, as memory has it
abbrev pub row_in : Bool → Shape → List ℕ → ℕ → List ℕ
row_in changed z xs i = row_here changed (root_at xs z.u (z.operations + i)) i

pub record RowPre (z : Shape) (xs : List ℕ) (i : ℕ) (to : List ℕ) : Type 0 where
  pub root : RootPre xs z.u (z.operations + i)
  pub small : i < 8192
  pub room : 4 * i + 4 ≤ length to

pub row_laid : (changed : Bool) (z : Shape) (xs : List ℕ) (i : ℕ) (f : Root) (r : RowResult) (at : ℕ) (to t : List ℕ)
    → root_said f ≡ root_at xs z.u (z.operations + i) → row_fields r ≡ row_here changed (root_said f) i → t ≡ put to at (row_fields r)
    → t ≡ put to at (row_in changed z xs i)
row_laid changed z xs i f r at to t a b c = c ∙ ap (put to at) (b ∙ ap (λ (x : SignedAxis). row_here changed x i) a)

-- ---- all of them

pub record RowsPre (z : Shape) (xs to : List ℕ) : Type 0 where
  pub long : row_count * z.u ≤ length xs
  pub fits : z.operations + 2 * z.qubits < z.u
  pub few : z.qubits ≤ 4096
  pub room : 8 * z.qubits ≤ length to

unfoldable pub rows_to : Bool → Shape → List ℕ → ℕ → List ℕ
rows_to changed z xs i = flatten (list_from (row_in changed z xs) 0 i)

-- the first i rows are written
pub record RowsLaid (changed : Bool) (z : Shape) (xs : List ℕ) (i : ℕ) (to t : List ℕ) : Type 0 where
  pub long : length t ≡ length to
  pub laid : t ≡ put to 0 (rows_to changed z xs i)
  pub four : length (rows_to changed z xs i) ≡ 4 * i

module _ (changed : Bool) (z : Shape) (xs : List ℕ) where
  rows_none : rows_to changed z xs 0 ≡ []
  unfolding rows_to flatten
  rows_none = ap flatten (from_none (row_in changed z xs) 0 0 refl)

  rows_more : (i : ℕ) → rows_to changed z xs (i + 1) ≡ rows_to changed z xs i ++ row_in changed z xs i
  unfolding rows_to
  rows_more i =
      let e : 0 + i ≡ i = omega arith in
      ap flatten (from_more (row_in changed z xs) 0 i)
      ∙ flatten_one (list_from (row_in changed z xs) 0 i) (row_in changed z xs (0 + i))
      ∙ ap (λ (j : ℕ). flatten (list_from (row_in changed z xs) 0 i) ++ row_in changed z xs j) e

  pub row_none : (to : List ℕ) → RowsLaid changed z xs 0 to to
  row_none to = record { long = refl; laid = sym (ap (put to 0) rows_none ∙ put_front to []); four = ap length rows_none }

  module _ {to : List ℕ} (pre : RowsPre z xs to) {i : ℕ} {t : List ℕ} (w : RowsLaid changed z xs i to t) (h : i < 2 * z.qubits) where
    pub row_needs : RowPre z xs i t
    row_needs =
        let a = pre.fits in
        let b = pre.few in
        let c = pre.room in
        let d = w.long in
        record { root = record { long = pre.long; here = omega arith }; small = omega arith; room = omega arith }

    pub row_more : {v : List ℕ} → v ≡ put t (4 * i) (row_in changed z xs i) → RowsLaid changed z xs (i + 1) to v
    row_more {v} e =
        let r = row_in changed z xs i in
        let a = w.four in
        let b : length r ≡ 4 = row_four changed (root_at xs z.u (z.operations + i)) i in
        let c = pre.room in
        let d = w.long in
        record {
          long = ap length e ∙ put_length t (4 * i) r (omega arith) ∙ w.long;
          laid =
              e ∙ ap₂ (λ (x : List ℕ) (m : ℕ). put x m r) w.laid (sym a) ∙ put_behind to (rows_to changed z xs i) r (omega arith)
              ∙ ap (put to 0) (sym (rows_more i));
          four = ap length (rows_more i) ∙ length-append (rows_to changed z xs i) r ∙ omega arith;
        }

  pub row_all : {i k : ℕ} {to t : List ℕ} → i ≡ k → RowsLaid changed z xs i to t → RowsLaid changed z xs k to t
  row_all {to = to} {t} e w = subst (λ (m : ℕ). RowsLaid changed z xs m to t) e w

  -- and zeros behind them
  pub rows_written : {to t v : List ℕ} → RowsPre z xs to → RowsLaid changed z xs (2 * z.qubits) to t → v ≡ zeroed_from t (8 * z.qubits)
      → v ≡ then_zeros to (rows_to changed z xs (2 * z.qubits))
  rows_written {to} {t} {v} pre w e =
      let a = w.four in
      let b = pre.room in
      e ∙ ap (λ (x : List ℕ). zeroed_from x (8 * z.qubits)) w.laid
      ∙ laid_zeroed to (rows_to changed z xs (2 * z.qubits)) (8 * z.qubits) (omega arith) (omega arith)

-- ---- they are the model's

-- all kept
kept_all : (p : Program) (rows : List PauliRef) (i : ℕ) (f : ℕ → SignedAxis)
    → row_results_from p i rows [] ≡ list_from (λ k. row_here false (f k) k) i (length rows)
unfolding row_results_from list_from row_here row_record axes_left when◌then◌else◌
kept_all p [] i f = refl
kept_all p (r ∷ rows) i f = go (is_root p r) (kept_all p rows (suc i) f)
  where
    go : (b : Bool) → row_results_from p (suc i) rows [] ≡ list_from (λ k. row_here false (f k) k) (suc i) (length rows)
        → row_record b i [] ∷ row_results_from p (suc i) rows (axes_left b [])
        ≡ (when false then given_row i (f i) else kept_row i) ∷ list_from (λ k. row_here false (f k) k) (suc i) (length rows)
    go true ih = ap (λ (t : List (List ℕ)). kept_row i ∷ t) ih
    go false ih = ap (λ (t : List (List ℕ)). kept_row i ∷ t) ih

-- each root's own
given_all : (p : Program) (rows : List PauliRef) (i : ℕ) (f : ℕ → SignedAxis)
    → list_from (λ k. is_given (f k)) i (length rows) ≡ map (is_root p) rows
    → row_results_from p i rows (keep is_given (list_from f i (length rows))) ≡ list_from (λ k. row_here true (f k) k) i (length rows)
unfolding row_results_from list_from row_here row_record axes_left when◌then◌else◌ keep
given_all p [] i f g = refl
given_all p (r ∷ rows) i f g = go (is_root p r) (is_given (f i)) head refl (given_all p rows (suc i) f tail)
  where
    head : is_given (f i) ≡ is_root p r
    head = cc

    tail : list_from (λ k. is_given (f k)) (suc i) (length rows) ≡ map (is_root p) rows
    tail = cc

    rest : List SignedAxis
    rest = keep is_given (list_from f (suc i) (length rows))

    go : (b c : Bool) → c ≡ b → is_given (f i) ≡ c
        → row_results_from p (suc i) rows rest ≡ list_from (λ k. row_here true (f k) k) (suc i) (length rows)
        → row_record b i (when c then f i ∷ rest else rest) ∷ row_results_from p (suc i) rows (axes_left b (when c then f i ∷ rest else rest))
        ≡ (when c then given_row i (f i) else kept_row i) ∷ list_from (λ k. row_here true (f k) k) (suc i) (length rows)
    go true true e n ih = ap (λ (t : List (List ℕ)). given_row i (f i) ∷ t) ih
    go false false e n ih = ap (λ (t : List (List ℕ)). kept_row i ∷ t) ih
    go true false e n ih = absurd (true≢false (sym e))
    go false true e n ih = absurd (true≢false e)

-- a list from i on, by the places behind an offset
shifted : {A : Type 0} (f : ℕ → A) (o n : ℕ) → list_from f o n ≡ list_from (λ k. f (o + k)) 0 n
shifted f o n = from_same f (λ k. f (o + k)) o 0 n (λ j l. let e : o + j ≡ o + (0 + j) = omega arith in ap f e)

-- the rows that the code writes are the model's
pub rows_are : (p : Program) (z : Shape) (w : Work) (xs : List ℕ) (changed : Bool) → FrameIn z p w.rows xs
    → changed ≡ not (eqb w.absorbed 0) → length p.rows ≡ 2 * z.qubits
    → rows_to changed z xs (2 * z.qubits) ≡ flatten (row_results p w)
unfolding rows_to row_results rows_in given_in
rows_are p z w xs changed f e l = ap flatten (go (eqb w.absorbed 0) refl)
  where
    roots : ℕ → SignedAxis
    roots k = root_at xs z.u (z.operations + k)

    given : list_from (λ k. is_given (roots k)) 0 (length p.rows) ≡ map (is_root p) p.rows
    given =
        ap (list_from (λ k. is_given (roots k)) 0) l
        ∙ sym (shifted (λ k. is_given (root_at xs z.u k)) z.operations (2 * z.qubits)) ∙ f.given

    rows : keep is_given (list_from roots 0 (length p.rows)) ≡ w.rows
    rows =
        ap (λ (n : ℕ). keep is_given (list_from roots 0 n)) l
        ∙ ap (keep is_given) (sym (shifted (root_at xs z.u) z.operations (2 * z.qubits))) ∙ f.rows

    go : (b : Bool) → eqb w.absorbed 0 ≡ b
        → list_from (row_in changed z xs) 0 (2 * z.qubits) ≡ row_results_from p 0 p.rows (when eqb w.absorbed 0 then [] else w.rows)
    go true c =
        ap₂ (λ (x : Bool) (n : ℕ). list_from (row_in x z xs) 0 n) (e ∙ ap not c) (sym l)
        ∙ sym (kept_all p p.rows 0 roots)
        ∙ ap (row_results_from p 0 p.rows) (sym (if_true _ _ c))
    go false c =
        ap₂ (λ (x : Bool) (n : ℕ). list_from (row_in x z xs) 0 n) (e ∙ ap not c) (sym l)
        ∙ sym (given_all p p.rows 0 roots given)
        ∙ ap (row_results_from p 0 p.rows) (rows ∙ sym (if_false _ _ c))
