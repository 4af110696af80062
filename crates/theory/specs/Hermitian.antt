-- 9 exactly where a root's total phase is odd; 0 exactly where there is none and the limit is no smaller than the peak. Assumes nothing.
use Rattle.std.specs.Prelude.{◌≡◌, refl, ◌↔◌, Bool, ℕ, suc, ◌+◌, ◌≤◌, ◌<◌, eqb, length}
use Rattle.std.proofs.Common.{sym, ap, ◌∙◌, subst, inl, inr, ⊎_elim, arith}
use Rattle.std.proofs.Math.Bool.{true, false}
use mathlib.Core.List.{List, [], ◌∷◌, map}
use Rattle.std.proofs.Math.Dec.{ltb}
use borrow.Author.Tests.{eqb-true, ltb-true, ltb-false}
use Rattle.pauli.specs.Word.{width}
use Rattle.model.specs.declared.Options.{Options}
use Rattle.model.specs.Answers.{Accepted, ExpansionLimit}
use Rattle.model.specs.Lists.{when◌then◌else◌, keep, is_odd}
use Rattle.model.specs.Program.{Job, Node, PauliRef, Program, program_of}
use Rattle.model.specs.Rules.{rules_of}
use Rattle.model.specs.Words.{Value}
use Rattle.model.specs.Value.{value_at}
use Rattle.model.specs.Roots.{is_root, root_rows, operation_root, roots}
use Rattle.model.specs.Packing.{roots_at, Pack, with_refusal, use_node, use_children, take_slot, pack_root, pack_roots, pack_node, pack_from, empty_pack}
use Rattle.model.specs.Packing.{values_of}
use Rattle.model.specs.Packing.{packed}
use Rattle.model.specs.Run.{Ending, non_hermitian, finished, Run, end_answer, answer_of}
use Rattle.model.specs.Checking.{Lent, checking}
use Rattle.model.specs.Rewriting.{rewriting}
use Rattle.theory.specs.Cases.{by_if, on_if, if_false}
use Rattle.theory.specs.Every.{Every, every_append, every_keep, every_map}
use Rattle.theory.specs.PackedRoots.{In, children_keep, packed_rooted, slot_refused}
use Rattle.theory.specs.Checked.{NodeIn, RowIn, Fine, checked_fine}
use Rattle.theory.specs.Replies.{run_of, limit_of, run_answer}
use Rattle.theory.specs.Limit.{within_answer, beyond_answer}
use Rattle.theory.specs.AcceptedRun.{hermitian_ending}
use Rattle.theory.specs.TCountCalls.{accepted_within, accepted_hermitian}

-- a root's total phase is even
abbrev pub EvenRoot : List Value → PauliRef → Type 0
EvenRoot vs r = is_odd ((value_at vs r.node).turns + r.phase) ≡ false

-- every root's is
abbrev pub Hermitian : Program → Type 0
Hermitian p = Every (EvenRoot (values_of p)) (roots p)

-- ---- even roots are not refused

abbrev EvenAt : Value → PauliRef → Type 0
EvenAt v r = is_odd (v.turns + r.phase) ≡ false

pack_root_even : (l n : ℕ) (v : Value) (p : Pack) (r : PauliRef) → EvenAt v r → (pack_root l n v p r).refused ≡ p.refused
unfolding pack_root use_node
pack_root_even l n v p r h = ap (λ (q : Pack). q.refused) (if_false (with_refusal p) _ h)

pack_roots_even : (l n : ℕ) (v : Value) (p : Pack) (rs : List PauliRef) → Every (EvenAt v) rs → p.refused ≡ false
    → (pack_roots l n v p rs).refused ≡ false
unfolding pack_roots
pack_roots_even l n v p [] h e = e
pack_roots_even l n v p (r ∷ rs) h e =
    pack_roots_even l n v (when p.refused then p else pack_root l n v p r) rs h.1
    (by_if (λ (q : Pack). q.refused ≡ false) p.refused p (pack_root l n v p r) e (pack_root_even l n v p r h.0 ∙ e))

-- the roots at node n have its value
roots_at_even : (vs : List Value) (n : ℕ) (rs : List PauliRef) → Every (EvenRoot vs) rs → Every (EvenAt (value_at vs n)) (roots_at n rs)
unfolding roots_at keep
roots_at_even vs n [] h = tt
roots_at_even vs n (r ∷ rs) h =
    on_if (Every (EvenAt (value_at vs n))) (eqb r.node n) (r ∷ keep (λ (x : PauliRef). eqb x.node n) rs) _
    (λ e. (subst (λ (i : ℕ). EvenAt (value_at vs i) r) (eqb-true r.node n e) h.0, roots_at_even vs n rs h.1))
    (λ e. roots_at_even vs n rs h.1)

module _ (l : ℕ) (rs : List PauliRef) (vs : List Value) (even : Every (EvenRoot vs) rs) where
  pack_node_even : (n : ℕ) (node : Node) (p : Pack) → p.refused ≡ false → (pack_node l rs vs n node p).refused ≡ false
  unfolding pack_node
  pack_node_even n node p e =
      by_if (λ (q : Pack). q.refused ≡ false) _ _ _ e
      (pack_roots_even l n (value_at vs n) (take_slot l (use_children node p)) (roots_at n rs) (roots_at_even vs n rs even)
      (slot_refused l (use_children node p) ∙ (children_keep node p).1.1 ∙ e))

  pack_from_even : (n : ℕ) (nodes : List Node) (p : Pack) → p.refused ≡ false → (pack_from l rs vs n nodes p).refused ≡ false
  unfolding pack_from
  pack_from_even n [] p e = e
  pack_from_even n (node ∷ rest) p e = pack_from_even (suc n) rest (pack_node l rs vs n node p) (pack_node_even n node p e)

-- 9 does not refuse a program whose roots are all even
pub hermitian_packed : (p : Program) → Hermitian p → (packed p).refused ≡ false
unfolding packed
hermitian_packed p h =
    pack_from_even (width p.qubits) (roots p) (values_of p) h 0 p.nodes (empty_pack p.nodes (roots p)) (unfold empty_pack in refl)

-- ---- and the others are

pub in_every : (P : PauliRef → Type 0) (rs : List PauliRef) → ((r : PauliRef) → In r rs → P r) → Every P rs
in_every P [] f = tt
in_every P (r ∷ rs) f = (f r (inl refl), in_every P rs (λ x k. f x (inr k)))

pub every_in : (P : PauliRef → Type 0) (rs : List PauliRef) → Every P rs → (r : PauliRef) → In r rs → P r
every_in P [] h r k = absurd k
every_in P (x ∷ rs) h r k = ⊎_elim (λ (e : x ≡ r). subst P e h.0) (λ (y : In r rs). every_in P rs h.1 r y) k

-- every root is at a node
pub roots_in : (p : Program) → Fine p → Every (RowIn (length p.nodes)) (roots p)
unfolding roots root_rows operation_root
roots_in p f =
    every_append (RowIn (length p.nodes)) (map operation_root p.operations) (keep (is_root p) p.rows)
    (every_map (NodeIn (length p.nodes)) (RowIn (length p.nodes)) operation_root (λ o h. h) p.operations f.operations)
    (every_keep (RowIn (length p.nodes)) (is_root p) p.rows f.rows)

-- and only such a program: a fine program that 9 does not refuse has even roots only
pub packed_hermitian : (p : Program) → Fine p → (packed p).refused ≡ false → Hermitian p
packed_hermitian p f h =
    in_every (EvenRoot (values_of p)) (roots p)
    (λ r k. (packed_rooted p f.ordered h r k (every_in (RowIn (length p.nodes)) (roots p) (roots_in p f) r k)).even)

-- ---- a call is accepted exactly if ..

-- a call that passes Checking is accepted exactly if the limit is no smaller than the peak and no root is non-Hermitian
pub accepted_exactly : (o : Options) (j : Job) (s : Lent) → checking o j s ≡ Accepted
    → ((rewriting o j s).answer ≡ Accepted) ↔ (((run_of o j).peak ≤ limit_of o) × Hermitian (program_of j))
accepted_exactly o j s c = (
  λ a. (accepted_within o j s a, packed_hermitian (program_of j) (checked_fine o j s c) (accepted_hermitian o j s a)),
  λ h. run_answer o j s c ∙ within_answer (limit_of o) (run_of o j) h.0
      ∙ ap end_answer (hermitian_ending (rules_of o) o.rounds (program_of j) (hermitian_packed (program_of j) h.1)),
)

-- 10 comes exactly where the limit is smaller than the peak, which does not depend on the limit
pub limit_exactly : (o : Options) (j : Job) (s : Lent) → checking o j s ≡ Accepted
    → ((rewriting o j s).answer ≡ ExpansionLimit) ↔ (limit_of o < (run_of o j).peak)
limit_exactly o j s c =
    (λ a. over (limit_of o) (run_of o j) (sym (run_answer o j s c) ∙ a), λ h. run_answer o j s c ∙ beyond_answer (limit_of o) (run_of o j) h)
  where
    ends : (e : Ending) → end_answer e ≡ ExpansionLimit → ⊥
    ends non_hermitian h = let z : ◌≡◌ {A = ℕ} 0 1 = cc in omega arith
    ends (finished f) h = let z : ◌≡◌ {A = ℕ} 0 1 = cc in omega arith

    over : (limit : ℕ) (r : Run) → answer_of limit r ≡ ExpansionLimit → limit < r.peak
    over limit r h = unfold answer_of in (go (ltb limit r.peak) refl)
      where
        go : (t : Bool) → ltb limit r.peak ≡ t → limit < r.peak
        go true e = ltb-true limit r.peak e
        go false e = absurd (ends r.ending (sym (within_answer limit r (ltb-false limit r.peak e)) ∙ h))
