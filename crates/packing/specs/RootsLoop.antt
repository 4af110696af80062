-- A node's roots, from link to link: what pack_roots' loop keeps. Assumes nothing.
use Rattle.std.specs.Prelude.{◌≡◌, refl, true, false, List, ℕ, suc, ◌+◌, ◌-◌, ◌*◌, ◌≤◌, ◌<◌, length, get_or, Option, None, Some, Result, Ok, Err}
use Rattle.std.proofs.Common.{sym, ap, ◌∙◌, true≢false, inl, inr, add-one, arith}
use Rattle.std.proofs.Math.Decide.{dec_lt}
use Rattle.store.specs.Row.{row}
use Rattle.model.specs.Program.{Program}
use Rattle.model.specs.Packing.{Pack}
use Rattle.layout.specs.declared.Shape.{Shape}
use Rattle.layout.specs.Rows.{row_count, first_root, next_root}
use Rattle.packing_states.specs.References.{reference_at, total, is_root_at, root_of, link_from}
use Rattle.packing_states.specs.ReferenceLaws.{root_is, its_root, link_none, link_some}
use Rattle.packing_states.specs.States.{within}
use Rattle.packing_states.specs.StateLaws.{within_none, within_next}
use Rattle.packing_states.specs.Uses.{root_used}
use Rattle.packing.specs.declared.Slots.{Slots}
use Rattle.interning.specs.Find.{entry_of}
use Rattle.packing_answer.specs.declared.PackingRefusal.{PackingRefusal}
use Rattle.packing.specs.Phases.{PhasePre, phase_in}
use Rattle.packing_states.specs.SomeProgram.{SomeProgram}
use Rattle.packing.specs.Holding.{Done, Holding, holding_done, Turned, refused_later, RootAt, RootsAt}
use Rattle.packing.specs.RestKept.{RestKept, rest_none, rest_then, rest_granted}

-- ---- between two links

-- references that are no roots of the node change nothing
past : {p : Program} {z : Shape} {b n i : ℕ} {k : Pack} {st : Slots} {ws xs : List ℕ} (t : ℕ)
    → ((j : ℕ) → i ≤ j → j < t → root_of p n j ≡ false) → Holding p z b n i k st ws xs → Holding p z b n t k st ws xs
past {p} {n = n} {i} t none = holding_done (λ j b r d. earlier j r d)
  where
    before_i : (j : ℕ) → is_root_at p j ≡ true → (reference_at p j).node ≡ n → j < t → Dec (j < i) → Done p n i j
    before_i j r e a (yes c) = inr (e, c)
    before_i j r e a (no c) = absurd (true≢false (sym (its_root p n j r e) ∙ none j (omega arith) a))

    earlier : (j : ℕ) → is_root_at p j ≡ true → Done p n t j → Done p n i j
    earlier j r (inl a) = inl a
    earlier j r (inr (e, a)) = before_i j r e a (dec_lt j i)

-- root r of node n is to be packed
pub record BeforeRoot (p : Program) (z : Shape) (n r : ℕ) (st : Slots) (ws xs : List ℕ) : Type 0 where
  pub reference : r < total p
  pub root : root_of p n r ≡ true
  pub holding : Holding p z (suc n) n r (within p n r) st ws xs

-- the link names the next root, and none at the end
pub record AtLink (p : Program) (z : Shape) (n : ℕ) (link : Option ℕ) (st : Slots) (ws xs : List ℕ) : Type 0 where
  pub end : link ≡ None → Holding p z (suc n) n (total p) (within p n (total p)) st ws xs
  pub some : (r : ℕ) → link ≡ Some r → BeforeRoot p z n r st ws xs

module _ {p : Program} {z : Shape} {n : ℕ} {st : Slots} {ws xs : List ℕ} where
  at_link : (j : ℕ) (link : Option ℕ) → j ≤ total p → entry_of link ≡ link_from p n j → Holding p z (suc n) n j (within p n j) st ws xs
      → AtLink p z n link st ws xs
  at_link j link b e h = record {
    end = λ f.
        let g : link_from p n j ≡ 0 = sym e ∙ ap entry_of f in
        rw (within_none p n j g b) (past (total p) (link_none p n j g) h);
    some = λ r f.
        let g : link_from p n j ≡ suc r = sym e ∙ ap entry_of f ∙ add-one r in
        let s = link_some p n j r g in
        record { reference = s.1; root = s.2; holding = rw (within_next p n j r g) (past r s.3 h) };
  }

-- ---- the loop

-- what is left of both stores, and where the loop is for each program that they hold
pub record Along (z : Shape) (placed : Slots) (n : ℕ) (os rs ws₀ xs₀ ws xs : List ℕ) (st : Slots) (link : Option ℕ) : Type 0 where
  pub rest : RestKept z ws₀ xs₀ ws xs
  pub at : (p : Program) → RootsAt p z placed n os rs ws₀ xs₀ → AtLink p z n link st ws xs

-- how many references stand from the linked one on
unfoldable pub references_left : ℕ → Option ℕ → ℕ
references_left t None = 0
references_left t (Some r) = t - r

fall : (t r : ℕ) (link : Option ℕ) → r < t → ((s : ℕ) → link ≡ Some s → r < s) → references_left t link < references_left t (Some r)
unfolding references_left
fall t r None b h = omega arith
fall t r (Some s) b h = omega (arith, h s refl)

module _ {z : Shape} {placed : Slots} {n : ℕ} {os rs ws₀ xs₀ : List ℕ} where
  -- it starts at the node's first link
  pub along_first : (link : Option ℕ) → entry_of link ≡ get_or (row xs₀ z.u first_root) n 0 → Along z placed n os rs ws₀ xs₀ ws₀ xs₀ placed link
  unfolding within
  along_first link e = record {
    rest = rest_none z ws₀ xs₀;
    at = λ p a. at_link 0 link (omega arith) (e ∙ a.holding.linked.first n a.node) a.holding;
  }

  -- the node has its first link
  pub first_there : SomeProgram (λ p. RootsAt p z placed n os rs ws₀ xs₀)
      → (row_count * z.u ≤ length xs₀) × (first_root < row_count) × (n < z.u)
  first_there s = let g = s.it.granted in (g.numbers_long, omega arith, omega (arith, s.it.node, g.sized.row))

  module _ {ws xs : List ℕ} {st : Slots} {link : Option ℕ} {r : ℕ} (a : Along z placed n os rs ws₀ xs₀ ws xs st link) (l : link ≡ Some r) where
    -- the linked root has its phase
    pub phase_there : SomeProgram (λ p. RootsAt p z placed n os rs ws₀ xs₀) → PhasePre z.operations os rs r
    phase_there s =
        let w = s.it.program.references in
        let b = ((a.at s.program s.it).some r l).reference in
        record {
          operation = λ h. omega (arith, s.it.operations_long);
          row = λ h. omega (arith, s.it.rows_long);
        }

    root_at : (p : Program) (phase : ℕ) → RootsAt p z placed n os rs ws₀ xs₀ → phase ≡ phase_in z.operations os rs r
        → RootAt p z st n r phase ws xs
    root_at p phase h e =
        let b = (a.at p h).some r l in
        record {
          granted = rest_granted h.granted a.rest;
          program = h.program;
          node = h.node;
          reference = b.reference;
          root = b.root;
          phase_is = e ∙ h.phases r b.reference;
          used = root_used p h.program.fine n (omega (arith, h.program.nodes, h.node)) h.going h.used r
              b.reference b.root b.holding.going;
          holding = b.holding;
        }

    -- it can be packed
    pub root_there : (phase : ℕ) → SomeProgram (λ p. RootsAt p z placed n os rs ws₀ xs₀) → phase ≡ phase_in z.operations os rs r
        → SomeProgram (λ p. RootAt p z st n r phase ws xs)
    root_there phase s e = record { program = s.program; it = root_at s.program phase s.it e }

    -- it has its next link, whatever packing it left
    pub next_there : {ws' xs' : List ℕ} → SomeProgram (λ p. RootsAt p z placed n os rs ws₀ xs₀) → RestKept z ws xs ws' xs'
        → (row_count * z.u ≤ length xs') × (next_root < row_count) × (r < z.u)
    next_there s k =
        let g = rest_granted s.it.granted (rest_then a.rest k) in
        (g.numbers_long, omega arith, omega (arith, ((a.at s.program s.it).some r l).reference, s.it.program.references, g.sized.row))

    -- and has been
    module _ {step : Result Slots PackingRefusal} {phase : ℕ} {ws' xs' : List ℕ} (e : phase ≡ phase_in z.operations os rs r) (k : RestKept z ws xs ws' xs')
        (t : (p : Program) → RootAt p z st n r phase ws xs → Turned p z (suc n) n (suc r) (within p n (suc r)) step ws' xs') where
      next_holding : (p : Program) → RootsAt p z placed n os rs ws₀ xs₀ → (st' : Slots) → step ≡ Ok st'
          → Holding p z (suc n) n (suc r) (within p n (suc r)) st' ws' xs'
      next_holding p h st' f = rw f at (t p (root_at p phase h e))

      next_is : (p : Program) → RootsAt p z placed n os rs ws₀ xs₀ → (st' : Slots) → step ≡ Ok st'
          → get_or (row xs' z.u next_root) r 0 ≡ link_from p n (suc r)
      next_is p h st' f =
          let b = (a.at p h).some r l in
          let s = root_is p n r b.root in
          (next_holding p h st' f).linked.next r (omega arith) b.reference s.0 ∙ ap (λ (m : ℕ). link_from p m (suc r)) s.1

      -- the next link
      pub along_next : (st' : Slots) (link' : Option ℕ) → step ≡ Ok st' → entry_of link' ≡ get_or (row xs' z.u next_root) r 0
          → Along z placed n os rs ws₀ xs₀ ws' xs' st' link'
      along_next st' link' f g = record {
        rest = rest_then a.rest k;
        at = λ p h. at_link (suc r) link' ((a.at p h).some r l).reference (g ∙ next_is p h st' f) (next_holding p h st' f);
      }

      -- it is a later one
      pub next_later : SomeProgram (λ p. RootsAt p z placed n os rs ws₀ xs₀) → (st' : Slots) (link' : Option ℕ) → step ≡ Ok st'
          → entry_of link' ≡ get_or (row xs' z.u next_root) r 0
          → references_left (z.operations + 2 * z.qubits) link' < references_left (z.operations + 2 * z.qubits) link
      next_later s st' link' f g =
          let p = s.program in
          let b = ((a.at p s.it).some r l).reference in
          let w = s.it.program.references in
          rw l (fall (z.operations + 2 * z.qubits) r link' (omega arith)
          (λ m i. (link_some p n (suc r) m (sym (next_is p s.it st' f) ∙ sym g ∙ ap entry_of i ∙ add-one m)).0))

      -- a refusal ends the node's turn
      pub along_refused : (refusal : PackingRefusal) → step ≡ Err refusal → RestKept z ws₀ xs₀ ws' xs'
          × ((p : Program) → RootsAt p z placed n os rs ws₀ xs₀
          → Turned p z (suc n) n (total p) (within p n (total p)) (Err refusal) ws' xs')
      along_refused refusal f = (
        rest_then a.rest k,
        λ p h. refused_later p z n (suc r) (total p) refusal ((a.at p h).some r l).reference (rw f at (t p (root_at p phase h e))),
      )

  -- the last link
  pub along_end : {ws xs : List ℕ} {st : Slots} {link : Option ℕ} → Along z placed n os rs ws₀ xs₀ ws xs st link → link ≡ None
      → RestKept z ws₀ xs₀ ws xs
      × ((p : Program) → RootsAt p z placed n os rs ws₀ xs₀ → Turned p z (suc n) n (total p) (within p n (total p)) (Ok st) ws xs)
  along_end a e = (a.rest, λ p h. (a.at p h).end e)
