-- 02, M-112: "If the named operation drops out in packing, ..": it never does, since only plain rotations do. So each stream of a run comes to
-- it, and changes there. Assumes nothing.
use Rattle.std.specs.Prelude.{◌≡◌, refl, ◌⊎◌, true, false, ◌||◌, List, [], ◌∷◌, ◌++◌, ℕ, zero, suc, ◌+◌, ◌<◌, eqb, ltb, leb, length, get_or, take}
use Rattle.std.proofs.Common.{sym, ◌∙◌, subst, inl, inr, true≢false, arith, eq-eqb, ne_eqb, leb-false}
use Rattle.std.proofs.Math.Path.{ap}
use Rattle.std.proofs.Math.Decide.{ℕ_discrete}
use Rattle.std.proofs.lemmas.List.{length-map}
use Rattle.std.proofs.Math.ListN.{get_or-map}
use Rattle.pauli.specs.Word.{width}
use Rattle.model.specs.declared.Lazy.{Lazy}
use Rattle.model.specs.declared.Lazy.TheVariants.{From}
use Rattle.model.specs.declared.Options.{Options}
use Rattle.model.specs.Answers.{Accepted, BadPlace, BadOperation}
use Rattle.model.specs.Program.{field_of, Job, operation_records, Kind, rotate, measure, conditional, kind_of, Operation, operation_of, Program, program_of}
use Rattle.model.specs.Checking.{Lent, and_then, bad_operation, measured, check_operation, check_operations, check_nodes, check_program}
use Rattle.model.specs.Checking.{bad_place, check_place, check_records, checking}
use Rattle.model.specs.declared.Absorption.{Absorption}
use Rattle.model.specs.declared.Absorption.TheVariants.{Off as off, AtOnce as at_once, Lazy as lazy}
use Rattle.model.specs.Rules.{names, to_lazy, absorption_by, Rules, absorption_of, rules_of, after_barrier}
use Rattle.model.specs.Words.{Value}
use Rattle.model.specs.Roots.{operation_root}
use Rattle.model.specs.Packing.{packed, SignedAxis, signed_axis}
use Rattle.model.specs.Items.{Item, rotation, barrier}
use Rattle.model.specs.Stream.{rules_after}
use Rattle.model.specs.Rounds.{Work}
use Rattle.model.specs.Run.{item_of, items_from, start_of}
use Rattle.model.specs.Results.{no_operation, operation_at}
use Rattle.theory.specs.Cases.{by_if, neither, if_true, if_false}
use Rattle.theory.specs.Every.{Every, every_at}
use Rattle.theory.specs.Checked.{both_accepted, not_refused, checked_fine, checking_records}
use Rattle.theory.specs.StreamState.{barriers_of, barriers_of_append}
use Rattle.words_wellformed.specs.PassWords.{rules_behind}
use Rattle.run_wellformed.specs.Points.{Reached}
use Rattle.run_wellformed.specs.RunWellFormed.{point_steady}

-- n is one of them
abbrev pub Among : ℕ → List ℕ → Type 0
Among n [] = ⊥
Among n (x ∷ xs) = (n ≡ x) ⊎ Among n xs

among_left : (n : ℕ) (xs ys : List ℕ) → Among n xs → Among n (xs ++ ys)
among_left n [] ys h = absurd h
among_left n (x ∷ xs) ys (inl e) = inl e
among_left n (x ∷ xs) ys (inr h) = inr (among_left n xs ys h)

among_right : (n : ℕ) (xs ys : List ℕ) → Among n ys → Among n (xs ++ ys)
among_right n [] ys h = h
among_right n (x ∷ xs) ys h = inr (among_right n xs ys h)

-- ---- "Measurements and conditional rotations are barriers."

item_barrier : (axes : List (List ℕ)) (o : ℕ) (kind : Kind) (f : SignedAxis) (k : ℕ) → (kind ≡ rotate → ⊥)
    → barriers_of (item_of axes o kind f k) ≡ o ∷ []
unfolding item_of barriers_of
item_barrier axes o rotate f k n = absurd (n refl)
item_barrier axes o measure f k n = refl
item_barrier axes o conditional f k n = refl

items_barriers : (axes : List (List ℕ)) (vs : List Value) (o i : ℕ) (ops : List Operation) → i < length ops
    → ((operation_at ops i).kind ≡ rotate → ⊥) → Among (o + i) (barriers_of (items_from axes vs o ops))
unfolding items_from
items_barriers axes vs o i [] h n = absurd (omega arith)
items_barriers axes vs o zero (op ∷ ops) h n =
    let first = item_of axes o op.kind (signed_axis axes vs (operation_root op)) op.angle in
    subst (Among (o + 0)) (sym (barriers_of_append first (items_from axes vs (suc o) ops)))
    (among_left (o + 0) (barriers_of first) _ (subst (Among (o + 0)) (sym (item_barrier axes o op.kind _ _ n)) (inl (omega arith))))
items_barriers axes vs o (suc i) (op ∷ ops) h n =
    let first = item_of axes o op.kind (signed_axis axes vs (operation_root op)) op.angle in
    let e : suc o + i ≡ o + suc i = omega arith in
    subst (Among (o + suc i)) (sym (barriers_of_append first (items_from axes vs (suc o) ops)))
    (among_right (o + suc i) (barriers_of first) _
    (subst (λ (m : ℕ). Among m (barriers_of (items_from axes vs (suc o) ops))) e (items_barriers axes vs (suc o) i ops (omega arith) n)))

-- operation n is among the barriers that the passes start from
pub start_named : (p : Program) (n : ℕ) → n < length p.operations → ((operation_at p.operations n).kind ≡ rotate → ⊥)
    → Among n (barriers_of (start_of p).items)
unfolding start_of
start_named p n h k =
    subst (λ (m : ℕ). Among m (barriers_of (start_of p).items)) (let e : 0 + n ≡ n = omega arith in e) (items_barriers _ _ 0 n p.operations h k)

-- ---- the rules behind a stream's items

-- by rules r a stream of these items changes to lazy absorption behind operation n
pub record ChangesAt (r : Rules) (n : ℕ) (is : List Item) : Type 0 where
  pub before : List Item
  pub axis : ℕ
  pub sign : ℕ
  pub after : List Item
  pub items : is ≡ before ++ (barrier n axis sign ∷ after)
  -- "Even rotations before it are absorbed at their turn"
  pub at_once_lem : (k : ℕ) → (rules_behind r (take k before)).absorption ≡ at_once
  -- "from the next operation on they wait, as the lazy setting has it"
  pub waits : (k : ℕ) → (rules_behind r (before ++ (barrier n axis sign ∷ take k after))).absorption ≡ lazy

stays_lazy : (r : Rules) (is : List Item) → r.absorption ≡ lazy → (rules_behind r is).absorption ≡ lazy
unfolding rules_behind after_barrier
stays_lazy r [] e = e
stays_lazy r (rotation t ∷ is) e = stays_lazy r is e
stays_lazy r (barrier o a s ∷ is) e =
    stays_lazy (after_barrier o r) is
    (by_if (λ (m : Absorption). m ≡ lazy) (names r.lazy o) (to_lazy r.absorption) r.absorption (ap to_lazy e) e)

-- an item before it
changes_later : (r : Rules) (n : ℕ) (i : Item) (is : List Item) → r.absorption ≡ at_once → ChangesAt (rules_after r i) n is → ChangesAt r n (i ∷ is)
unfolding rules_behind
changes_later r n i is m h = record {
  before = i ∷ h.before;
  axis = h.axis;
  sign = h.sign;
  after = h.after;
  items = ap (λ (xs : List Item). i ∷ xs) h.items;
  at_once_lem = so;
  waits = h.waits;
}
  where
    so : (k : ℕ) → (rules_behind r (take k (i ∷ h.before))).absorption ≡ at_once
    so zero = m
    so (suc k) = h.at_once_lem k

changes_at : (r : Rules) (n : ℕ) (is : List Item) → r.lazy ≡ From n → r.absorption ≡ at_once → Among n (barriers_of is) → ChangesAt r n is
unfolding rules_behind after_barrier barriers_of
changes_at r n [] c m h = absurd h
changes_at r n (rotation t ∷ is) c m h = changes_later r n (rotation t) is m (changes_at r n is c m h)
changes_at r n (barrier o a s ∷ is) c m h =
    go (ℕ_discrete o n) h (λ f g. changes_at (after_barrier o r) n is c (if_false _ _ (named ∙ ne_eqb o n f) ∙ m) g)
  where
    named : names r.lazy o ≡ eqb o n
    named = ap (λ (setting : Lazy). names setting o) c

    none : (k : ℕ) → (rules_behind r (take k [])).absorption ≡ at_once
    none zero = m
    none (suc k) = m

    go : Dec (o ≡ n) → (n ≡ o) ⊎ Among n (barriers_of is) → ((o ≡ n → ⊥) → Among n (barriers_of is) → ChangesAt (after_barrier o r) n is)
        → ChangesAt r n (barrier o a s ∷ is)
    go (yes e) g later = record {
      before = [];
      axis = a;
      sign = s;
      after = is;
      items = ap (λ (i : ℕ). barrier i a s ∷ is) e;
      at_once_lem = none;
      waits = λ k. stays_lazy (after_barrier n r) (take k is)
          (if_true _ _ (ap (λ (setting : Lazy). names setting n) c ∙ eq-eqb n n refl) ∙ ap to_lazy m);
    }
    go (no f) (inl e) later = absurd (f (sym e))
    go (no f) (inr g) later = changes_later r n (barrier o a s) is m (later f g)

-- ---- a place that Checking passes

-- a record of kind 0 is refused by 7
kinds_checked : (n : ℕ) (seen : List ℕ) (rs : List (List ℕ)) → check_operations n seen rs ≡ Accepted
    → Every (λ (r : List ℕ). eqb (field_of r 0) 0 ≡ false) rs
unfolding check_operations check_operation bad_operation
kinds_checked n seen [] h = tt
kinds_checked n seen (r ∷ rs) h =
    let a = both_accepted (check_operation n seen r) (check_operations n (measured seen r) rs) h in
    let b = (not_refused (bad_operation r) BadOperation _ refl a.0).0 in
    let c = (neither (eqb (field_of r 0) 0 || ltb 3 (field_of r 0) || ltb 7 (field_of r 3)) _ (neither _ _ b).0).0 in
    ((neither _ _ (neither (eqb (field_of r 0) 0 || ltb 3 (field_of r 0)) _ c).0).0, kinds_checked n (measured seen r) rs a.1)

-- so one that is not a plain rotation is a barrier
kind_of_lem : (k : ℕ) → eqb k 0 ≡ false → eqb k 1 ≡ false → kind_of k ≡ rotate → ⊥
kind_of_lem zero e f h = true≢false e
kind_of_lem (suc zero) e f h = true≢false f
kind_of_lem (suc (suc zero)) e f h = let z : ◌≡◌ {A = ℕ} 0 1 = cc in omega arith
kind_of_lem (suc (suc (suc k))) e f h = let z : ◌≡◌ {A = ℕ} 0 1 = cc in omega arith

-- the named place of a call that Checking passes holds a barrier
pub named_inside : (o : Options) (j : Job) (s : Lent) (n : ℕ) → o.lazy_cliffords ≡ From n → checking o j s ≡ Accepted
    → (n < length (program_of j).operations) × ((operation_at (program_of j).operations n).kind ≡ rotate → ⊥)
unfolding check_records check_place bad_place check_program program_of no_operation operation_of
named_inside o j s n e h =
    let rs = operation_records j in
    let a = both_accepted (check_program j) (check_place (From n) rs)
    (subst (λ (setting : Lazy). and_then (check_program j) (check_place setting rs) ≡ Accepted) e (checking_records o j s h)) in
    let b = neither (leb (length rs) n) (eqb (field_of (get_or rs n []) 0) 1) (not_refused (bad_place n rs) BadPlace Accepted refl a.1).0 in
    let inside = leb-false (length rs) n b.0 in
    let c = both_accepted (check_nodes _ 0 _) _ a.0 in
    let d = both_accepted (check_operations j.counts.nodes [] rs) _ c.1 in
    let kinds = every_at (λ (r : List ℕ). eqb (field_of r 0) 0 ≡ false) rs [] n (kinds_checked j.counts.nodes [] rs d.0) inside in (
      omega (arith, inside, length-map rs operation_of),
      λ f. kind_of_lem (field_of (get_or rs n []) 0) kinds b.1 (sym (ap (λ (x : Operation). x.kind) (get_or-map operation_of rs n [])) ∙ f),
    )

-- each stream of a run changes behind it: no pass loses a barrier
pub stream_changes : (o : Options) (j : Job) (s : Lent) (n : ℕ) → o.lazy_cliffords ≡ From n → o.clifford_to_frame ≡ true
    → checking o j s ≡ Accepted → (packed (program_of j)).refused ≡ false
    → {v : Work} → Reached (width (program_of j).qubits) (rules_of o) (start_of (program_of j)) v → ChangesAt (rules_of o) n v.items
stream_changes o j s n e on passed hermitian {v} h =
    let p = program_of j in
    let a = named_inside o j s n e passed in
    changes_at (rules_of o) n v.items (unfold rules_of in e)
    (unfold rules_of absorption_of in (if_true (absorption_by o.lazy_cliffords) off on ∙ ap absorption_by e))
    (subst (Among n) (sym (point_steady p (checked_fine o j s passed) (rules_of o) hermitian h).barriers) (start_named p n a.0 a.1))
