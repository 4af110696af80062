-- A program's roots are its kept references; the links between a node's roots, and how many of them are left. Assumes nothing.
use Rattle.std.specs.Prelude.{◌≡◌, get_or}
use Rattle.std.proofs.Math.Path.{refl, sym, ap}
use Rattle.std.proofs.Common.{◌∙◌, le_refl, add-zero, get_or-append-add, lt-ltb, le-ltb, eq-eqb, eqb-true}
use Rattle.std.proofs.Math.Bool.{true, false}
use mathlib.Core.List.{List, map, ◌++◌}
use Prim.Native.Nat.{ℕ, zero, suc, ◌+◌, ◌-◌, ◌≤◌, ◌<◌}
use native.Mathlib.Omega.{arith}
use Rattle.std.proofs.Math.Decide.{ℕ_discrete}
use Rattle.std.proofs.Math.Dec.{eqb}
use Rattle.std.proofs.Math.ListN.{length, length-append, get_or-append}
use Rattle.std.proofs.lemmas.List.{length-map}
use Rattle.model.specs.Lists.{when◌then◌else◌, keep, count_of, numbers_from}
use Rattle.model.specs.Program.{PauliRef, Program}
use Rattle.model.specs.Roots.{is_root, root_rows, operation_root, roots}
use Rattle.model.specs.Packing.{roots_at}
use Rattle.theory.specs.Lists.{keep_map, keep_both, keep_count, count_le, numbers_length, kept_front, kept_behind}
use Rattle.theory.specs.Cases.{on_if, if_true, if_false, and_left, and_right}
use Rattle.packing_states.specs.References.{references, no_reference, reference_at, total, is_root_at, root_of, link_within, link_from}

-- ---- the roots

module _ (p : Program) where
  abbrev operation_roots : List PauliRef
  operation_roots = map operation_root p.operations

  operation_roots_length : length operation_roots ≡ length p.operations
  operation_roots_length = length-map p.operations operation_root

  -- operations, then frame rows
  pub total_sum : total p ≡ length p.operations + length p.rows
  unfolding total references
  total_sum = omega (arith, length-append operation_roots p.rows, operation_roots_length)

  -- operation k is reference k
  pub operation_at : (k : ℕ) → k < length p.operations → reference_at p k ≡ get_or operation_roots k no_reference
  unfolding reference_at references
  operation_at k h = get_or-append operation_roots p.rows no_reference k (omega (arith, operation_roots_length))

  -- frame row k stands behind the operations
  pub row_behind : (k : ℕ) → reference_at p (length p.operations + k) ≡ get_or p.rows k no_reference
  unfolding reference_at references
  row_behind k = rw (sym operation_roots_length) (get_or-append-add operation_roots p.rows k no_reference)

  -- where they are counted from 0 on: an operation is a root
  pub operation_kept : (k : ℕ) → k < length operation_roots
      → (is_root_at p (k + 0) ≡ true) × (reference_at p (k + 0) ≡ get_or operation_roots k no_reference)
  unfolding is_root_at
  operation_kept k h =
      let in_all : k < length p.operations = omega (arith, operation_roots_length) in
      rw (add-zero k) (rw (lt-ltb k (length p.operations) in_all) refl, operation_at k in_all)

  -- a frame row stands behind them
  pub row_at : (k : ℕ) → reference_at p (k + (length operation_roots + 0)) ≡ get_or p.rows k no_reference
  row_at k =
      let e : k + (length operation_roots + 0) ≡ length p.operations + k = omega (arith, operation_roots_length) in
      rw e (row_behind k)

  -- and is a root where the model keeps it
  pub row_kept : (k : ℕ) → is_root_at p (k + (length operation_roots + 0)) ≡ is_root p (get_or p.rows k no_reference)
  unfolding is_root_at is_root
  row_kept k = rw (le-ltb (k + (length operation_roots + 0)) (length p.operations) (omega (arith, operation_roots_length)), row_at k) refl

  -- "Roots are operations, then the frame rows"
  roots_are : roots p ≡ map (reference_at p) (keep (is_root_at p) (numbers_from 0 (total p)))
  unfolding roots root_rows total references
  roots_are =
      let long = length-append operation_roots p.rows in
      sym (kept_front (reference_at p) (is_root_at p) no_reference operation_roots 0 (length p.rows) _ long operation_kept
      ∙ ap (λ (rows : List PauliRef). operation_roots ++ rows)
      (kept_behind (reference_at p) (is_root_at p) no_reference (is_root p) p.rows (length operation_roots + 0)
      (λ k h. (row_kept k, row_at k))))

  -- those of node n
  pub roots_of : (n : ℕ) → roots_at n (roots p) ≡ map (reference_at p) (keep (root_of p n) (numbers_from 0 (total p)))
  unfolding roots_at root_of
  roots_of n =
      ap (keep (λ (r : PauliRef). eqb r.node n)) roots_are
      ∙ keep_map (λ (r : PauliRef). eqb r.node n) (reference_at p) (keep (is_root_at p) (numbers_from 0 (total p)))
      ∙ ap (map (reference_at p)) (keep_both (is_root_at p) (λ j. eqb (reference_at p j).node n) (numbers_from 0 (total p)))

  -- how many they are
  roots_of_count : (n : ℕ) → length (roots_at n (roots p)) ≡ count_of (root_of p n) (numbers_from 0 (total p))
  roots_of_count n =
      ap length (roots_of n) ∙ length-map (keep (root_of p n) (numbers_from 0 (total p))) (reference_at p) ∙ keep_count (root_of p n) _

-- ---- which node a root is of

-- a root of node n is a root, and its node is n
pub root_is : (p : Program) (n j : ℕ) → root_of p n j ≡ true → (is_root_at p j ≡ true) × ((reference_at p j).node ≡ n)
unfolding root_of
root_is p n j e = (and_left (is_root_at p j) _ e, eqb-true _ n (and_right (is_root_at p j) _ e))

-- and the other way round
pub its_root : (p : Program) (n j : ℕ) → is_root_at p j ≡ true → (reference_at p j).node ≡ n → root_of p n j ≡ true
unfolding root_of
its_root p n j r e = rw (r, eq-eqb (reference_at p j).node n e) refl

-- ---- how many roots of node n stand from reference j on

unfoldable pub roots_from : Program → ℕ → ℕ → ℕ
roots_from p n j = count_of (root_of p n) (numbers_from j (total p - j))

-- one of them is left: as many numbers as from the next one on, and one more
rest_length : (j t : ℕ) → j < t → t - j ≡ suc (t - suc j)
rest_length j t h = omega arith

module _ (p : Program) (n : ℕ) where
  -- none at the end
  pub roots_from_end : roots_from p n (total p) ≡ 0
  unfolding roots_from count_of numbers_from
  roots_from_end = let e : total p - total p ≡ 0 = omega arith in rw e refl

  -- one reference more
  pub roots_from_step : (j : ℕ) → j < total p → roots_from p n j ≡ (when root_of p n j then 1 else 0) + roots_from p n (suc j)
  unfolding roots_from count_of numbers_from
  roots_from_step j h = rw (rest_length j (total p) h) refl

  -- all of the node's roots
  pub roots_from_all : roots_from p n 0 ≡ length (roots_at n (roots p))
  unfolding roots_from
  roots_from_all = let e : total p - 0 ≡ total p = omega arith in rw e (sym (roots_of_count p n))

  -- at most all references from j on
  pub roots_from_le : (j : ℕ) → roots_from p n j ≤ total p - j
  unfolding roots_from
  roots_from_le j = omega (arith, count_le (root_of p n) (numbers_from j (total p - j)), numbers_length j (total p - j))

  falling : (k j i : ℕ) → j + k ≡ i → i ≤ total p → roots_from p n i ≤ roots_from p n j
  falling zero j i e h = let z : j ≡ i = omega arith in rw z (le_refl _)
  falling (suc k) j i e h = omega (arith, falling k (suc j) i (omega arith) h, roots_from_step j (omega arith))

  -- where none is left, no reference is a root of the node
  pub roots_from_none : roots_from p n 0 ≡ 0 → (j : ℕ) → j < total p → root_of p n j ≡ false
  roots_from_none z j h =
      on_if (λ (k : ℕ). k ≡ 0 → root_of p n j ≡ false) (root_of p n j) 1 0 (λ e k. absurd (omega arith)) (λ e k. e)
      (omega (arith, falling j 0 j (omega arith) (omega arith), roots_from_step j h))

-- ---- links

module _ (p : Program) (n : ℕ) where
  -- no link at the end
  pub link_end : link_from p n (total p) ≡ 0
  unfolding link_from link_within
  link_end = let e : total p - total p ≡ 0 = omega arith in rw e refl

  -- the reference is itself a root
  pub link_here : (j : ℕ) → j < total p → root_of p n j ≡ true → link_from p n j ≡ suc j
  unfolding link_from link_within
  link_here j h e = rw (rest_length j (total p) h) (if_true (suc j) _ e)

  -- or is not
  pub link_past : (j : ℕ) → j < total p → root_of p n j ≡ false → link_from p n j ≡ link_from p n (suc j)
  unfolding link_from link_within
  link_past j h e = rw (rest_length j (total p) h) (if_false (suc j) _ e)

  none_within : (k j : ℕ) → link_within p n k j ≡ 0 → (i : ℕ) → j ≤ i → i < j + k → root_of p n i ≡ false
  unfolding link_within
  none_within zero j h i a b = absurd (omega arith)
  none_within (suc k) j h i a b =
      on_if (λ (link : ℕ). link ≡ 0 → root_of p n i ≡ false) (root_of p n j) (suc j) (link_within p n k (suc j)) (λ e z. absurd (omega arith))
      (λ e z. go (ℕ_discrete j i) e (λ c. none_within k (suc j) z i c (omega arith))) h
    where
      go : Dec (j ≡ i) → root_of p n j ≡ false → (suc j ≤ i → root_of p n i ≡ false) → root_of p n i ≡ false
      go (yes e) f later = rw e at f
      go (no ne) f later = later (omega arith)

  -- no link: no root from here on
  pub link_none : (j : ℕ) → link_from p n j ≡ 0 → (i : ℕ) → j ≤ i → i < total p → root_of p n i ≡ false
  unfolding link_from
  link_none j h i a b = none_within (total p - j) j h i a (omega arith)

  abbrev First : ℕ → ℕ → ℕ → Type 0
  First j t r = (j ≤ r) × (r < t) × (root_of p n r ≡ true) × ((i : ℕ) → j ≤ i → i < r → root_of p n i ≡ false)

  some_within : (k j t r : ℕ) → j + k ≡ t → link_within p n k j ≡ suc r → First j t r
  unfolding link_within
  some_within zero j t r e h = absurd (omega arith)
  some_within (suc k) j t r e h =
      on_if (λ (link : ℕ). link ≡ suc r → First j t r) (root_of p n j) (suc j) (link_within p n k (suc j)) (λ f z. here f (omega arith))
      (λ f z. later f (some_within k (suc j) t r (omega arith) z)) h
    where
      here : root_of p n j ≡ true → j ≡ r → First j t r
      here f z = (omega arith, omega arith, rw z at f, λ i a b. absurd (omega arith))

      later : root_of p n j ≡ false → First (suc j) t r → First j t r
      later f (a, b, c, d) = (omega arith, b, c, λ i u v. go i u v (ℕ_discrete j i))
        where
          go : (i : ℕ) → j ≤ i → i < r → Dec (j ≡ i) → root_of p n i ≡ false
          go i u v (yes z) = rw z at f
          go i u v (no ne) = d i (omega arith) v

  -- a link: the first root from here on
  pub link_some : (j r : ℕ) → link_from p n j ≡ suc r
      → (j ≤ r) × (r < total p) × (root_of p n r ≡ true) × ((i : ℕ) → j ≤ i → i < r → root_of p n i ≡ false)
  unfolding link_from
  link_some j r h = go (some_within (total p - j) j (j + (total p - j)) r refl h)
    where
      go : First j (j + (total p - j)) r → First j (total p) r
      go (a, b, c, d) = (a, omega arith, c, d)
