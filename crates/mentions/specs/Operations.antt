-- mark_operations: what it demands and leaves. Assumes nothing.
use Rattle.std.specs.Prelude.{◌≡◌, refl, Bool, ◌||◌, List, [], ◌∷◌, ℕ, zero, suc, ◌+◌, ◌*◌, ◌≤◌, ◌<◌, length, set}
use Rattle.std.proofs.Common.{sym, ap, ap₂, ◌∙◌, arith, length-set}
use Rattle.std.proofs.Math.Bool.{or-false, or_assoc}
use Rattle.store.specs.Row.{row, Written}
use Rattle.store.specs.Chunk.{chunk_in}
use Rattle.records.specs.declared.OperationRecord.{OperationRecord}
use Rattle.records.specs.Records.{operation_record}
use Rattle.layout.specs.Rows.{row_count, mark, written_row}
use Rattle.layout.specs.Only.{Only, only_none, only_then, only_written}
use Rattle.mentions.specs.Marks.{some_below, some_marked, marked_more}

-- operation i's node
abbrev pub node_of_operation : List ℕ → ℕ → ℕ
node_of_operation os i = (operation_record os i).node

-- each operation has its record, and its node an entry in a row
pub record OperationsPre (os : List ℕ) (u count : ℕ) (xs : List ℕ) : Type 0 where
  pub numbers_long : row_count * u ≤ length xs
  pub operations_long : count * 6 ≤ length os
  pub inside : (i : ℕ) → i < count → node_of_operation os i < u

-- marks with a 1 at the node of each of the first i operations
unfoldable pub marked_by : List ℕ → ℕ → List ℕ → List ℕ
marked_by os zero xs = xs
marked_by os (suc i) xs = set (marked_by os i xs) (node_of_operation os i) 1

-- row MARK has a 1 at their nodes
pub record MarkedOperations (os : List ℕ) (u count : ℕ) (s t : List ℕ) : Type 0 where
  pub only : Only (mark ∷ []) u s t
  pub marks : row t u mark ≡ marked_by os count (row s u mark)

-- ---- the loop

pub marked_none : (os : List ℕ) (u : ℕ) (s : List ℕ) → MarkedOperations os u 0 s s
unfolding marked_by
marked_none os u s = record { only = only_none (mark ∷ []) u s; marks = refl }

-- the record that was read
pub operation_there : {os : List ℕ} {u count i : ℕ} {xs : List ℕ} → OperationsPre os u count xs → i < count → i * 6 + 6 ≤ length os
operation_there {os} {u} {count} {i} h b = omega (arith, chunk_in 6 count i b, h.operations_long)

pub node_inside : {os : List ℕ} {u count i : ℕ} {xs : List ℕ} → OperationsPre os u count xs → i < count
    → (x : OperationRecord) → x ≡ operation_record os i → x.node < u
node_inside {os} {u} {count} {i} h b x here = rw here (h.inside i b)

pub marked_next : {os : List ℕ} {u count i : ℕ} {s t v : List ℕ} → OperationsPre os u count s → i < count → MarkedOperations os u i s t
    → (x : OperationRecord) → x ≡ operation_record os i → Written t u mark x.node 1 v → MarkedOperations os u (i + 1) s v
unfolding marked_by
marked_next {os} {u} {count} {i} {s} {t} {v} h b m x here w =
    let inside = node_inside h b x here in
    let long : row_count * u ≤ length t = (let e = m.only.long in let l = h.numbers_long in omega arith) in
    let e : i + 1 ≡ suc i = omega arith in
    rw e (record {
      only = only_then m.only (only_written long (omega arith) inside w);
      marks =
          written_row long (omega arith) inside w
          ∙ ap₂ (λ (xs : List ℕ) (j : ℕ). set xs j 1) m.marks (ap (λ (r : OperationRecord). r.node) here);
    })

pub marked_all : {os : List ℕ} {u count i : ℕ} {s t : List ℕ} → count ≡ i → MarkedOperations os u i s t → MarkedOperations os u count s t
marked_all e m = rw e m

-- ---- what the marks say

marked_by_length : (os : List ℕ) (i : ℕ) (xs : List ℕ) → length (marked_by os i xs) ≡ length xs
unfolding marked_by
marked_by_length os zero xs = refl
marked_by_length os (suc i) xs = length-set (marked_by os i xs) (node_of_operation os i) 1 ∙ marked_by_length os i xs

-- a marked node passes f: it was marked, or it is an operation's
pub marked_by_lem : (os : List ℕ) (i n : ℕ) (xs : List ℕ) (f : ℕ → Bool) → n ≤ length xs → ((j : ℕ) → j < i → node_of_operation os j < n)
    → some_marked n (marked_by os i xs) f ≡ some_marked n xs f || some_below i (λ j. f (node_of_operation os j))
unfolding marked_by some_below
marked_by_lem os zero n xs f l h = sym (or-false (some_marked n xs f))
marked_by_lem os (suc i) n xs f l h =
    let m = node_of_operation os i in
    marked_more n m (marked_by os i xs) f (h i (omega arith))
    (let z = h i (omega arith) in omega (arith, marked_by_length os i xs))
    ∙ ap (λ (b : Bool). b || f m) (marked_by_lem os i n xs f l (λ j b. h j (omega arith)))
    ∙ or_assoc (some_marked n xs f) (some_below i (λ j. f (node_of_operation os j))) (f m)
