-- The states of packing: the last is the packed program, peaks rise, refusals stay, what is no root changes nothing. Assumes nothing.
use Rattle.std.specs.Prelude.{◌≡◌, Bool, List, [], ◌∷◌, map, get_or, drop}
use Rattle.std.proofs.Math.Path.{refl, sym}
use Rattle.std.proofs.Common.{◌∙◌, le_refl, le_trans, drop-cons}
use Rattle.std.proofs.Math.Bool.{true, false}
use Prim.Native.Nat.{ℕ, zero, suc, ◌+◌, ◌-◌, ◌≤◌, ◌<◌}
use native.Mathlib.Omega.{arith}
use Rattle.std.proofs.Math.ListN.{length}
use Rattle.std.proofs.Math.Seq.{drop-length}
use borrow.Author.Tests.{eq-eqb, ne_eqb}
use Rattle.pauli.specs.Word.{width}
use Rattle.model.specs.Lists.{when◌then◌else◌, keep, numbers_from}
use Rattle.model.specs.Program.{identity, PauliRef, Program}
use Rattle.model.specs.Roots.{roots}
use Rattle.model.specs.Packing.{roots_at, Pack, pack_root, pack_roots, pack_node, pack_from, values_of, packed}
use Rattle.theory.specs.Cases.{by_if, if_true, if_false, or_right}
use Rattle.theory.specs.Lists.{keep_taken, keep_left}
use Rattle.theory.specs.Peak.{pack_root_rises, pack_from_rises}
use Rattle.packing_states.specs.References.{reference_at, total, root_of, link_from}
use Rattle.packing_states.specs.ReferenceLaws.{roots_of, link_none, link_some}
use Rattle.packing_states.specs.States.{node_at, value_of, before, slotted, pack_reference, within}

-- ---- one reference's turn

module _ (p : Program) (n : ℕ) where
  -- it is no root of the node
  pub skip_reference : (j : ℕ) → root_of p n j ≡ false → within p n (suc j) ≡ within p n j
  unfolding within pack_reference
  skip_reference j e = if_false _ _ e

  step_root : (j : ℕ) → root_of p n j ≡ true → within p n (suc j)
      ≡ (when (within p n j).refused then within p n j else pack_root (width p.qubits) n (value_of p n) (within p n j) (reference_at p j))
  unfolding within pack_reference
  step_root j e = if_true _ _ e

  -- it is one
  pub pack_reference_lem : (j : ℕ) → root_of p n j ≡ true → (within p n j).refused ≡ false
      → within p n (suc j) ≡ pack_root (width p.qubits) n (value_of p n) (within p n j) (reference_at p j)
  pack_reference_lem j e f = step_root j e ∙ if_false _ _ f

  -- a refusal came before
  stay_reference : (j : ℕ) → (within p n j).refused ≡ true → within p n (suc j) ≡ within p n j
  unfolding within pack_reference
  stay_reference j f = by_if (λ (k : Pack). k ≡ within p n j) (root_of p n j) _ _ (if_true _ _ f) refl

  -- ---- all references' turns

  abbrev roots_after : ℕ → ℕ → List PauliRef
  roots_after k j = map (reference_at p) (keep (root_of p n) (numbers_from j k))

  roots_within : (k j t : ℕ) → j + k ≡ t → pack_roots (width p.qubits) n (value_of p n) (within p n j) (roots_after k j) ≡ within p n t
  unfolding numbers_from keep pack_roots
  roots_within zero j t e = let z : j ≡ t = omega arith in rw z refl
  roots_within (suc k) j t e = go (root_of p n j) refl (roots_within k (suc j) t (omega arith))
    where
      go : (b : Bool) → root_of p n j ≡ b
          → pack_roots (width p.qubits) n (value_of p n) (within p n (suc j)) (roots_after k (suc j)) ≡ within p n t
          → pack_roots (width p.qubits) n (value_of p n) (within p n j) (roots_after (suc k) j) ≡ within p n t
      go true f ih = rw (keep_taken (root_of p n) j (numbers_from (suc j) k) f) (rw (step_root j f) at ih)
      go false f ih = rw (keep_left (root_of p n) j (numbers_from (suc j) k) f, ← skip_reference j f) ih

  -- the references' turns are those of the node's roots
  within_all : within p n (total p) ≡ pack_roots (width p.qubits) n (value_of p n) (slotted p n) (roots_at n (roots p))
  unfolding within
  within_all = sym (rw (roots_of p n) (roots_within (total p) 0 (total p) (omega arith)))

  still : (k j t : ℕ) → j + k ≡ t → ((i : ℕ) → j ≤ i → i < t → root_of p n i ≡ false) → within p n t ≡ within p n j
  still zero j t e h = let z : t ≡ j = omega arith in rw z refl
  still (suc k) j t e h = still k (suc j) t (omega arith) (λ i a b. h i (omega arith) b) ∙ skip_reference j (h j (le_refl _) (omega arith))

  -- no link: the node's turn is over
  pub within_none : (j : ℕ) → link_from p n j ≡ 0 → j ≤ total p → within p n (total p) ≡ within p n j
  within_none j h b = still (total p - j) j (total p) (omega arith) (link_none p n j h)

  -- a link: nothing happens up to the reference that it names
  pub within_next : (j r : ℕ) → link_from p n j ≡ suc r → within p n r ≡ within p n j
  within_next j r h = let s = link_some p n j r h in still (r - j) j r (omega (arith, s.0)) s.3

-- ---- one node's turn

module _ (p : Program) where
  -- a node that is not used has no turn
  pub before_unused : (n : ℕ) → get_or (before p n).uses n 0 ≡ 0 → before p (suc n) ≡ before p n
  unfolding before pack_node
  before_unused n h = if_true _ _ (or_right (before p n).refused _ (eq-eqb _ 0 h))

  stay_node : (n : ℕ) → (before p n).refused ≡ true → before p (suc n) ≡ before p n
  unfolding before pack_node
  stay_node n h = if_true _ _ (rw h refl)

  -- a used node's turn ends after its last reference
  pub before_used : (n : ℕ) → (before p n).refused ≡ false → 0 < get_or (before p n).uses n 0 → before p (suc n) ≡ within p n (total p)
  unfolding before pack_node slotted value_of
  before_used n f u =
      if_false _ _ (rw (f, ne_eqb (get_or (before p n).uses n 0) 0 (λ z. omega arith)) refl) ∙ sym (within_all p n)

  -- ---- all nodes' turns

  from_node : (k n : ℕ) → n + k ≡ length p.nodes
      → pack_from (width p.qubits) (roots p) (values_of p) n (drop n p.nodes) (before p n) ≡ before p (length p.nodes)
  unfolding pack_from before node_at
  from_node zero n e = let z : n ≡ length p.nodes = omega arith in rw (z, drop-length p.nodes) refl
  from_node (suc k) n e =
      let h : n < length p.nodes = omega arith in
      rw (drop-cons p.nodes n identity h) (from_node k (suc n) (omega arith))

  -- the state after the last node's turn is the packed program
  pub before_all : before p (length p.nodes) ≡ packed p
  unfolding packed before
  before_all = sym (from_node (length p.nodes) 0 (omega arith))

-- ---- as the turns go on: the peak never falls, a refusal stays

rising : (f : ℕ → ℕ) → ((i : ℕ) → f i ≤ f (suc i)) → (k n m : ℕ) → n + k ≡ m → f n ≤ f m
rising f h zero n m e = let z : n ≡ m = omega arith in rw z (le_refl _)
rising f h (suc k) n m e = le_trans (h n) (rising f h k (suc n) m (omega arith))

frozen : (f : ℕ → Pack) → ((i : ℕ) → (f i).refused ≡ true → f (suc i) ≡ f i)
    → (k n m : ℕ) → n + k ≡ m → (f n).refused ≡ true → f m ≡ f n
frozen f h zero n m e r = let z : m ≡ n = omega arith in rw z refl
frozen f h (suc k) n m e r = frozen f h k (suc n) m (omega arith) (rw (h n r) r) ∙ h n r

module _ (p : Program) where
  before_rises : (n : ℕ) → (before p n).store.peak ≤ (before p (suc n)).store.peak
  unfolding before pack_from
  before_rises n = pack_from_rises (width p.qubits) (roots p) (values_of p) n (node_at p n ∷ []) (before p n)

  -- the peak never falls
  pub peak_before : (n m : ℕ) → n ≤ m → (before p n).store.peak ≤ (before p m).store.peak
  peak_before n m h = rising (λ i. (before p i).store.peak) before_rises (m - n) n m (omega arith)

  -- "refused" is the end of packing
  pub refused_before : (n m : ℕ) → (before p n).refused ≡ true → n ≤ m → before p m ≡ before p n
  refused_before n m r h = frozen (before p) (stay_node p) (m - n) n m (omega arith) r

  within_rises : (n j : ℕ) → (within p n j).store.peak ≤ (within p n (suc j)).store.peak
  unfolding within pack_reference
  within_rises n j = by_if Higher _ _ _ (by_if Higher _ _ _ (le_refl _) (pack_root_rises _ n _ (within p n j) _)) (le_refl _)
    where
      Higher : Pack → Type 0
      Higher k = (within p n j).store.peak ≤ k.store.peak

  -- and the same within a node's turn
  pub peak_within : (n j i : ℕ) → j ≤ i → (within p n j).store.peak ≤ (within p n i).store.peak
  peak_within n j i h = rising (λ x. (within p n x).store.peak) (within_rises n) (i - j) j i (omega arith)

  -- a refusal ends the node's turn
  pub refused_within : (n j i : ℕ) → (within p n j).refused ≡ true → j ≤ i → within p n i ≡ within p n j
  refused_within n j i r h = frozen (within p n) (stay_reference p n) (i - j) j i (omega arith) r
