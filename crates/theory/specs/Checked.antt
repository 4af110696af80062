-- What a Checking that passes says of the program. Assumes nothing.
use Rattle.std.specs.Prelude.{◌≡◌, refl, Bool, true, false, not, ◌||◌, List, [], ◌∷◌, map, ℕ, zero, suc, ◌/◌, ◌%◌, ◌≤◌, ◌<◌, eqb, ltb, leb, length, get_or, Ok, Err}
use Rattle.std.proofs.Common.{sym, ap, ◌∙◌, true≢false, arith, eqb-true, ne_eqb, ltb-false, leb-false}
use Rattle.std.proofs.lemmas.List.{length-map}
use Rattle.store.specs.Chunk.{chunks, chunks_length}
use Rattle.model.specs.declared.Lazy.TheVariants.{Off}
use Rattle.model.specs.declared.Options.{Options}
use Rattle.model.specs.declared.Refusal.{Refusal}
use Rattle.model.specs.declared.Refusal.TheVariants as refusals
use Rattle.model.specs.Answers.{Answer, Accepted, CountOutside, OptionOutside, SliceShort, BadNode, BadQubit, BadReference, BadOperation, BadOutcome}
use Rattle.model.specs.Answers.{NonHermitianAxis, ExpansionLimit, BadText, BadPlace}
use Rattle.model.specs.Lists.{when◌then◌else◌}
use Rattle.model.specs.Interface.{refusal_number, number_of, accepts}
use Rattle.model.specs.Program.{field_of, Job, node_records, operation_records, row_records, Node, identity, letter, product, node_of_kind, node_of}
use Rattle.model.specs.Program.{Operation}
use Rattle.model.specs.Program.{operation_of, PauliRef, row_of, Program, program_of}
use Rattle.model.specs.Results.{no_operation, operation_at}
use Rattle.model.specs.Checking.{Lent, and_then, bad_count, bad_option, bad_product, check_node_of_kind, check_node, check_nodes, bad_operation}
use Rattle.model.specs.Checking.{bad_reference, measured, check_operation, check_operations, bad_row, check_row, check_rows, check_program}
use Rattle.model.specs.Checking.{check_place, check_records, checking}
use Rattle.theory.specs.Cases.{on_if, neither}
use Rattle.theory.specs.Every.{Every}
use Rattle.theory.specs.ByNode.{ChildrenBefore, Ordered}

-- ---- answers

-- by number; 12 to 15 are no answers
answers : List Answer
answers =
    Accepted ∷ CountOutside ∷ OptionOutside ∷ SliceShort ∷ BadNode ∷ BadQubit ∷ BadReference ∷ BadOperation ∷ BadOutcome ∷ NonHermitianAxis ∷
    ExpansionLimit ∷ BadText ∷ Accepted ∷ Accepted ∷ Accepted ∷ Accepted ∷ BadPlace ∷ []

numbered : (a : Answer) → get_or answers (number_of a) Accepted ≡ a
unfolding answers
numbered (Ok u) = refl
numbered (Err r) = go r
  where
    go : (x : Refusal) → get_or answers (refusal_number x) Accepted ≡ Err x
    go refusals.CountOutside = refl
    go refusals.OptionOutside = refl
    go refusals.SliceShort = refl
    go refusals.BadNode = refl
    go refusals.BadQubit = refl
    go refusals.BadReference = refl
    go refusals.BadOperation = refl
    go refusals.BadOutcome = refl
    go refusals.NonHermitianAxis = refl
    go refusals.ExpansionLimit = refl
    go refusals.BadText = refl
    go refusals.BadPlace = refl

-- no two have one number
pub same_number : (a b : Answer) → number_of a ≡ number_of b → a ≡ b
same_number a b e = sym (numbered a) ∙ ap (λ (n : ℕ). get_or answers n Accepted) e ∙ numbered b

-- 0 is the number of no refusal
pub refuses : (r : Refusal) → accepts (Err r) ≡ false
refuses r = ne_eqb (refusal_number r) 0 (λ e. let f : Err r ≡ Accepted = same_number (Err r) Accepted e in cc)

-- the work goes on only after 0
pub accepts_only : (a : Answer) → accepts a ≡ true → a ≡ Accepted
accepts_only a h = same_number a Accepted (eqb-true (number_of a) 0 h)

-- 0 is the number of acceptance
pub answered : (j : Answer) (a : Answer) (n : ℕ) → a ≡ j → n ≡ number_of a → n ≡ 0 → j ≡ Accepted
answered j a n e f z = accepts_only j (ap (λ (k : ℕ). eqb k 0) (ap number_of (sym e) ∙ sym f ∙ z))

-- an answer with another number is another answer
pub not_accepted : (a : Answer) → accepts a ≡ false → a ≡ Accepted → ⊥
not_accepted a e h = true≢false (ap accepts (sym h) ∙ e)

-- two checks one after the other pass if both do
pub both_accepted : (a b : Answer) → and_then a b ≡ Accepted → (a ≡ Accepted) × (b ≡ Accepted)
unfolding and_then
both_accepted a b =
    on_if (λ (x : Answer). x ≡ Accepted → (a ≡ Accepted) × (b ≡ Accepted)) (accepts a) b a
    (λ e h. (accepts_only a e, h)) (λ e h. absurd (not_accepted a e h))

-- a refusal that did not come
pub not_refused : (t : Bool) (a b : Answer) → accepts a ≡ false → (when t then a else b) ≡ Accepted → (t ≡ false) × (b ≡ Accepted)
unfolding when◌then◌else◌
not_refused true a b n h = absurd (not_accepted a n h)
not_refused false a b n h = (refl, h)

-- ---- nodes

-- a leaf's qubit is below the count, its letter one of I X Y Z
abbrev pub LeafIn : ℕ → Node → Type 0
LeafIn q identity = Unit {0}
LeafIn q (letter x c) = (x < q) × (c ≤ 3)
LeafIn q (product a p b r) = Unit {0}

node_checked : (q i k : ℕ) (r : List ℕ) → check_node_of_kind q i k r ≡ Accepted → ChildrenBefore i (node_of_kind k r) × LeafIn q (node_of_kind k r)
unfolding check_node_of_kind bad_product node_of_kind
node_checked q i zero r h = (tt, tt)
node_checked q zero (suc zero) r h = absurd (not_accepted BadNode refl h)
node_checked q (suc i) (suc zero) r h =
    let a = not_refused (ltb 3 (field_of r 2)) BadNode _ refl h in
    let b = not_refused (leb q (field_of r 1)) BadQubit Accepted refl a.1 in
    (tt, (leb-false q (field_of r 1) b.0, ltb-false 3 (field_of r 2) a.0))
node_checked q zero (suc (suc k)) r h = absurd (not_accepted BadNode refl h)
node_checked q (suc i) (suc (suc zero)) r h =
    let a = (not_refused _ BadNode Accepted refl h).0 in
    let b = neither (ltb 3 (field_of r 2) || ltb 3 (field_of r 4) || leb (suc i) (field_of r 1)) (leb (suc i) (field_of r 3)) a in
    let c = neither (ltb 3 (field_of r 2) || ltb 3 (field_of r 4)) (leb (suc i) (field_of r 1)) b.0 in
    ((leb-false (suc i) (field_of r 1) c.1, leb-false (suc i) (field_of r 3) b.1), tt)
node_checked q (suc i) (suc (suc (suc k))) r h = absurd (not_accepted BadNode refl h)

nodes_checked : (q i : ℕ) (rs : List (List ℕ)) → check_nodes q i rs ≡ Accepted → Ordered i (map node_of rs) × Every (LeafIn q) (map node_of rs)
unfolding check_nodes check_node node_of
nodes_checked q i [] h = (tt, tt)
nodes_checked q i (r ∷ rs) h =
    let b = both_accepted _ _ h in
    let one = node_checked q i (field_of r 0) r b.0 in
    let rest = nodes_checked q (suc i) rs b.1 in
    ((one.0, rest.0), (one.1, rest.1))

-- ---- operations and rows

-- an operation's node is one of n
abbrev pub NodeIn : ℕ → Operation → Type 0
NodeIn n o = o.node < n

-- its angle is at most 7
abbrev pub SmallAngle : Operation → Type 0
SmallAngle o = o.angle ≤ 7

-- a reference's node is one of n
abbrev pub RowIn : ℕ → PauliRef → Type 0
RowIn n r = r.node < n

operations_checked : (n : ℕ) (seen : List ℕ) (rs : List (List ℕ)) → check_operations n seen rs ≡ Accepted
    → Every (NodeIn n) (map operation_of rs) × Every SmallAngle (map operation_of rs)
unfolding check_operations check_operation operation_of bad_reference bad_operation
operations_checked n seen [] h = (tt, tt)
operations_checked n seen (r ∷ rs) h =
    let b = both_accepted _ _ h in
    let c = not_refused _ BadOperation _ refl b.0 in
    let d = not_refused _ BadReference _ refl c.1 in
    let e = neither (leb n (field_of r 1)) (ltb 3 (field_of r 2)) d.0 in
    let f = neither (eqb (field_of r 0) 0 || ltb 3 (field_of r 0) || ltb 7 (field_of r 3) || ltb 65535 (field_of r 5)) _ c.0 in
    let g = neither (eqb (field_of r 0) 0 || ltb 3 (field_of r 0) || ltb 7 (field_of r 3)) (ltb 65535 (field_of r 5)) f.0 in
    let a = neither (eqb (field_of r 0) 0 || ltb 3 (field_of r 0)) (ltb 7 (field_of r 3)) g.0 in
    let rest = operations_checked n (measured seen r) rs b.1 in
    ((leb-false n (field_of r 1) e.0, rest.0), (ltb-false 7 (field_of r 3) a.1, rest.1))

rows_checked : (n i : ℕ) (rs : List (List ℕ)) → check_rows n i rs ≡ Accepted → Every (RowIn n) (map row_of rs)
unfolding check_rows check_row bad_row bad_reference row_of
rows_checked n i [] h = tt
rows_checked n i (r ∷ rs) h =
    let b = both_accepted _ _ h in
    let c = (not_refused _ BadReference Accepted refl b.0).0 in
    let d = (neither (not (eqb (field_of r 0) (i / 2)) || not (eqb (field_of r 1) (i % 2))) _ c).1 in
    (leb-false n (field_of r 2) (neither (leb n (field_of r 2)) (ltb 3 (field_of r 3)) d).0, rows_checked n (suc i) rs b.1)

-- so every angle is at most 7, also outside the program
pub angles_small : (ops : List Operation) → Every SmallAngle ops → (o : ℕ) → (operation_at ops o).angle ≤ 7
unfolding no_operation
angles_small [] h o = omega arith
angles_small (x ∷ ops) h zero = h.0
angles_small (x ∷ ops) h (suc o) = angles_small ops h.1 o

-- as many as were counted
pub records_length : {A : Type 0} (f : List ℕ → A) (w n : ℕ) (s : List ℕ) → length (map f (chunks w n s)) ≡ n
records_length f w n s = length-map (chunks w n s) f ∙ chunks_length w n s

-- a program has as many nodes as its counts say
pub nodes_length : (j : Job) → length (program_of j).nodes ≡ j.counts.nodes
unfolding program_of
nodes_length j = records_length node_of 5 j.counts.nodes j.nodes

-- ---- together

-- children before products, leaves on qubits, operations and rows at nodes, angles at most 7
pub record Fine (p : Program) : Type 0 where
  pub ordered : Ordered 0 p.nodes
  pub leaves : Every (LeafIn p.qubits) p.nodes
  pub operations : Every (NodeIn (length p.nodes)) p.operations
  pub angles : Every SmallAngle p.operations
  pub rows : Every (RowIn (length p.nodes)) p.rows

-- what the records of a program say when Checking finds nothing wrong with them
pub program_fine : (j : Job) → check_program j ≡ Accepted → Fine (program_of j)
unfolding check_program program_of
program_fine j h =
    let nodes = check_nodes j.counts.qubits 0 (node_records j) in
    let operations = check_operations j.counts.nodes [] (operation_records j) in
    let rows = check_rows j.counts.nodes 0 (row_records j) in
    let a = both_accepted nodes (and_then operations rows) h in
    let b = both_accepted operations rows a.1 in
    let c = nodes_checked j.counts.qubits 0 _ a.0 in
    let d = operations_checked j.counts.nodes [] _ b.0 in
    let long = nodes_length j in
    record {
      ordered = c.0;
      leaves = c.1;
      operations = rw long d.0;
      angles = d.1;
      rows = rw long (rows_checked j.counts.nodes 0 _ b.1);
    }

-- options of the domain: the others', and the limit's
pub options_fit : (o : Options) → bad_option o ≡ false
    → (ltb 255 o.rounds || ltb 1048576 o.lookback || ltb 1048576 o.window || ltb 1048576 o.candidates ≡ false)
    × (o.max_packed_words ≤ 1048576)
unfolding bad_option
options_fit o h =
    let others = ltb 255 o.rounds || ltb 1048576 o.lookback || ltb 1048576 o.window || ltb 1048576 o.candidates in
    let a = neither others (ltb 1048576 o.max_packed_words) h in
    (a.0, ltb-false _ _ a.1)

pub limit_fits : (o : Options) → bad_option o ≡ false → o.max_packed_words ≤ 1048576
limit_fits o h = (options_fit o h).1

-- Checking passes only after the options passed
pub checking_options : (o : Options) (j : Job) (s : Lent) → checking o j s ≡ Accepted → bad_option o ≡ false
unfolding checking
checking_options o j s h =
    let a = not_refused (bad_count j.counts) CountOutside _ refl h in
    (not_refused (bad_option o) OptionOutside _ refl a.1).0

-- and after the records and the named place passed
pub checking_records : (o : Options) (j : Job) (s : Lent) → checking o j s ≡ Accepted → check_records o.lazy_cliffords j ≡ Accepted
unfolding checking
checking_records o j s h =
    let a = not_refused (bad_count j.counts) CountOutside _ refl h in
    let b = not_refused (bad_option o) OptionOutside _ refl a.1 in
    (not_refused _ SliceShort (check_records o.lazy_cliffords j) refl b.1).1

-- without a named place 16 refuses nothing
pub unnamed_records : (j : Job) → check_records Off j ≡ check_program j
unfolding check_records check_place and_then
unnamed_records j =
    on_if (λ (x : Answer). x ≡ check_program j) (accepts (check_program j)) Accepted (check_program j)
    (λ e. sym (accepts_only (check_program j) e)) (λ e. refl)

-- so all three kinds of records passed
pub checking_program : (o : Options) (j : Job) (s : Lent) → checking o j s ≡ Accepted → check_program j ≡ Accepted
unfolding check_records
checking_program o j s h = (both_accepted (check_program j) _ (checking_records o j s h)).0

-- a program that Checking passes is fine
pub checked_fine : (o : Options) (j : Job) (s : Lent) → checking o j s ≡ Accepted → Fine (program_of j)
checked_fine o j s h = program_fine j (checking_program o j s h)
