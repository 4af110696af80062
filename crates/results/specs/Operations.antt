-- The operations that come out, written one behind the other. Assumes nothing.
use Rattle.std.specs.Prelude.{◌≡◌, refl, ℕ, ◌+◌, ◌*◌, ◌≤◌, ◌<◌, length}
use Rattle.std.proofs.Common.{sym, ap, ap₂, ◌∙◌, subst, arith, length-append}
use mathlib.Core.List.{List, [], ◌++◌, map, flatten}
use Rattle.store.specs.Part.{put, put_length}
use Rattle.store.specs.From.{flatten_one}
use Rattle.model.specs.Rewriting.{then_zeros}
use Rattle.model.specs.Results.{item_record}
use Rattle.layout.specs.Rows.{items_row}
use Rattle.records.specs.Operations.{operations_in}
use Rattle.items.specs.declared.Tagged.{Tagged}
use Rattle.items.specs.View.{tagged_at, item_said, view_in, items_in, view_none, view_more, view_map}
use Rattle.results.specs.declared.OperationResult.{OperationResult}
use Rattle.results.specs.Record.{operation_fields, RecordMade, ItemPre, ItemsPre, items_item, TagsTo}
use Rattle.results.specs.Put.{put_front, put_behind}
use Rattle.results.specs.Zeros.{zeroed_from, zeroed_length, laid_zeroed}

-- ---- one operation

pub record OperationPre (os xs : List ℕ) (u i : ℕ) (to : List ℕ) : Type 0 where
  pub item : ItemPre os xs u i
  pub room : 6 * i + 6 ≤ length to

-- x's record stands at a place
pub record OperationLaid (os : List ℕ) (x : Tagged) (at : ℕ) (to t : List ℕ) : Type 0 where
  pub long : length t ≡ length to
  pub laid : (count : ℕ) → x.tag ≤ count → t ≡ put to at (item_record (operations_in count os) (item_said x))
  pub six : (count : ℕ) → x.tag ≤ count → length (item_record (operations_in count os) (item_said x)) ≡ 6

pub operation_laid : (os : List ℕ) (x : Tagged) (at : ℕ) (to t : List ℕ) (r : OperationResult) → RecordMade os x r → at + 6 ≤ length to
    → t ≡ put to at (operation_fields r) → OperationLaid os x at to t
operation_laid os x at to t r m h e = record {
  long = ap length e ∙ put_length to at (operation_fields r) h;
  laid = λ count l. e ∙ ap (put to at) (m count l);
  six = λ count l. sym (ap length (m count l));
}

-- ---- all of them

pub record WritePre (os xs : List ℕ) (u k : ℕ) (to : List ℕ) : Type 0 where
  pub items : ItemsPre os xs u k
  pub room : 6 * k ≤ length to

-- an item's record
abbrev pub record_said : ℕ → List ℕ → Tagged → List ℕ
record_said count os x = item_record (operations_in count os) (item_said x)

-- those of the first i items
unfoldable pub records_to : ℕ → List ℕ → List ℕ → ℕ → ℕ → List ℕ
records_to count os xs u i = flatten (view_in (record_said count os) xs u items_row 0 i)

-- they are the model's
pub records_are : (count : ℕ) (os xs : List ℕ) (u i : ℕ)
    → records_to count os xs u i ≡ flatten (map (item_record (operations_in count os)) (items_in xs u items_row 0 i))
unfolding records_to
records_are count os xs u i = ap flatten (sym (view_map item_said xs u items_row (item_record (operations_in count os)) 0 i))

-- the first i operations are written
pub record OperationsLaid (os xs : List ℕ) (u i : ℕ) (to t : List ℕ) : Type 0 where
  pub long : length t ≡ length to
  pub laid : (count : ℕ) → TagsTo xs u i count → t ≡ put to 0 (records_to count os xs u i)
  pub six : (count : ℕ) → TagsTo xs u i count → length (records_to count os xs u i) ≡ 6 * i

records_none : (count : ℕ) (os xs : List ℕ) (u : ℕ) → records_to count os xs u 0 ≡ []
unfolding records_to flatten
records_none count os xs u = ap flatten (view_none (record_said count os) xs u items_row 0 0 refl)

records_more : (count : ℕ) (os xs : List ℕ) (u i : ℕ)
    → records_to count os xs u (i + 1) ≡ records_to count os xs u i ++ record_said count os (tagged_at xs u items_row i)
unfolding records_to
records_more count os xs u i =
    let z : 0 + i ≡ i = omega arith in
    ap flatten (view_more (record_said count os) xs u items_row 0 i)
    ∙ flatten_one (view_in (record_said count os) xs u items_row 0 i) (record_said count os (tagged_at xs u items_row (0 + i)))
    ∙ ap (λ (j : ℕ). flatten (view_in (record_said count os) xs u items_row 0 i) ++ record_said count os (tagged_at xs u items_row j)) z

pub laid_none : (os xs : List ℕ) (u : ℕ) (to : List ℕ) → OperationsLaid os xs u 0 to to
laid_none os xs u to = record {
  long = refl;
  laid = λ count h. sym (ap (put to 0) (records_none count os xs u) ∙ put_front to []);
  six = λ count h. ap length (records_none count os xs u);
}

module _ {os xs : List ℕ} {u k : ℕ} {to : List ℕ} (pre : WritePre os xs u k to) {i : ℕ} {t : List ℕ} (w : OperationsLaid os xs u i to t)
    (h : i < k) where
  pub laid_needs : OperationPre os xs u i t
  laid_needs =
      let b = pre.room in
      let c = w.long in
      record { item = items_item pre.items i h; room = omega arith }

  pub laid_more : {v : List ℕ} → OperationLaid os (tagged_at xs u items_row i) (6 * i) t v → OperationsLaid os xs u (i + 1) to v
  laid_more {v} p = record {
    long = p.long ∙ w.long;
    laid = λ count g. lay count (λ j l. g j (omega arith)) (g i (omega arith));
    six = λ count g.
        let a = w.six count (λ j l. g j (omega arith)) in
        let b = p.six count (g i (omega arith)) in
        ap length (records_more count os xs u i) ∙ length-append (records_to count os xs u i) _ ∙ omega arith;
  }
    where
      lay : (count : ℕ) → TagsTo xs u i count → (tagged_at xs u items_row i).tag ≤ count → v ≡ put to 0 (records_to count os xs u (i + 1))
      lay count f g =
          let e = records_to count os xs u i in
          let r = record_said count os (tagged_at xs u items_row i) in
          let a : length e ≡ 6 * i = w.six count f in
          let b : length r ≡ 6 = p.six count g in
          let c = pre.room in
          p.laid count g
          ∙ ap₂ (λ (x : List ℕ) (m : ℕ). put x m r) (w.laid count f) (sym a)
          ∙ put_behind to e r (omega arith)
          ∙ ap (put to 0) (sym (records_more count os xs u i))

pub laid_all : {os xs : List ℕ} {u i k : ℕ} {to t : List ℕ} → i ≡ k → OperationsLaid os xs u i to t → OperationsLaid os xs u k to t
laid_all {os} {xs} {u} {to = to} {t} e w = subst (λ (m : ℕ). OperationsLaid os xs u m to t) e w

-- ---- and zeros behind them

-- results, then zeros
pub record ResultsWritten (os xs : List ℕ) (u k : ℕ) (to t : List ℕ) : Type 0 where
  pub long : length t ≡ length to
  pub results : (count : ℕ) → TagsTo xs u k count
      → t ≡ then_zeros to (flatten (map (item_record (operations_in count os)) (items_in xs u items_row 0 k)))

pub results_written : {os xs : List ℕ} {u k : ℕ} {to t v : List ℕ} → WritePre os xs u k to → OperationsLaid os xs u k to t
    → v ≡ zeroed_from t (6 * k) → ResultsWritten os xs u k to v
results_written {os} {xs} {u} {k} {to} {t} {v} pre w e = record {
  long = let a = w.long in let b = pre.room in ap length e ∙ zeroed_length t (6 * k) (omega arith) ∙ w.long;
  results = λ count g.
      let a = w.six count g in
      let b = pre.room in
      e
      ∙ ap (λ (x : List ℕ). zeroed_from x (6 * k)) (w.laid count g)
      ∙ laid_zeroed to (records_to count os xs u k) (6 * k) (omega arith) (sym a)
      ∙ ap (then_zeros to) (records_are count os xs u k);
}
