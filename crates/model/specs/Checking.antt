-- 01, "Turning work down", Checking: the answers 0 to 8 in the stated order, then 16. Assumes nothing.
use Rattle.std.specs.Prelude.{Bool, not, ◌&&◌, ◌||◌, List, [], ◌∷◌, ℕ, zero, suc, ◌+◌, ◌*◌, ◌/◌, ◌%◌, eqb, ltb, leb, length, get_or}
use Rattle.pauli.specs.Word.{width, phase}
use Rattle.model.specs.declared.Lazy.{Lazy}
use Rattle.model.specs.declared.Lazy.TheVariants.{Off, On, From}
use Rattle.model.specs.declared.Options.{Options}
use Rattle.model.specs.declared.Counts.{Counts}
use Rattle.model.specs.Answers.{Answer, Accepted, CountOutside, OptionOutside, SliceShort, BadNode, BadQubit, BadReference, BadOperation, BadOutcome}
use Rattle.model.specs.Answers.{BadPlace}
use Rattle.model.specs.Lists.{when◌then◌else◌, member}
use Rattle.model.specs.Interface.{accepts}
use Rattle.model.specs.Program.{field_of, largest_outcome, no_outcome, Job, node_records, operation_records, row_records}

-- the lent slices that a call may write: two work stores, two for results
pub record Lent : Type 0 where
  pub words : List ℕ
  pub numbers : List ℕ
  pub operations : List ℕ
  pub rows : List ℕ

-- the first refusal stands
unfoldable pub and_then : Answer → Answer → Answer
and_then a b = when accepts a then b else a

-- "1 a count is outside the domain": "0 to 4,096 qubits; 1 to 65,535 nodes; 0 to 65,535 operations"
unfoldable pub bad_count : Counts → Bool
bad_count c = ltb 4096 c.qubits || ltb c.nodes 1 || ltb 65535 c.nodes || ltb 65535 c.operations

-- "2 an option is": "rounds 0 to 255; lookback, window, candidates and word limit 0 to 1,048,576"
unfoldable pub bad_option : Options → Bool
bad_option o =
    ltb 255 o.rounds || ltb 1048576 o.lookback || ltb 1048576 o.window || ltb 1048576 o.candidates
    || ltb 1048576 o.max_packed_words

-- ---- "3 a slice is short"

-- "words below limit + 16 × l"
unfoldable pub words_asked : ℕ → ℕ → ℕ
words_asked l limit = limit + 16 * l

-- "numbers below 24 × (nodes + operations + 2 × qubits + limit div (2 × l) + 1)";
-- 02, M-102: "The number store of refusal 3 grows by 1,024 plus limit div (2 × l)"
unfoldable pub numbers_asked : ℕ → Counts → ℕ → ℕ
numbers_asked l c limit = 24 * (c.nodes + c.operations + 2 * c.qubits + limit / (2 * l) + 1) + (1024 + limit / (2 * l))

-- "a program slice below its count of records"
unfoldable pub program_short : Job → Bool
program_short j =
    ltb (length j.nodes) (5 * j.counts.nodes) || ltb (length j.operations) (6 * j.counts.operations)
    || ltb (length j.rows) (8 * j.counts.qubits)

-- "results below operations or 2 × qubits records"
unfoldable pub lent_short : Counts → Lent → ℕ → Bool
lent_short c s limit =
    ltb (length s.words) (words_asked (width c.qubits) limit) || ltb (length s.numbers) (numbers_asked (width c.qubits) c limit)
    || ltb (length s.operations) (6 * c.operations) || ltb (length s.rows) (8 * c.qubits)

-- ---- nodes

-- node i, a product: its "phase is unknown, or a child is not below its product"
unfoldable pub bad_product : ℕ → List ℕ → Bool
bad_product i r = ltb 3 (field_of r 2) || ltb 3 (field_of r 4) || leb i (field_of r 1) || leb i (field_of r 3)

-- "4 node 0 is not the identity, kind, letter or phase is unknown, or a child is not below its product; 5 the qubit is not below the count":
-- node i, by its kind, of q qubits
unfoldable pub check_node_of_kind : ℕ → ℕ → ℕ → List ℕ → Answer
check_node_of_kind q i zero r = Accepted
check_node_of_kind q zero (suc k) r = BadNode
check_node_of_kind q (suc i) (suc zero) r = when ltb 3 (field_of r 2) then BadNode else when leb q (field_of r 1) then BadQubit else Accepted
check_node_of_kind q (suc i) (suc (suc zero)) r = when bad_product (suc i) r then BadNode else Accepted
check_node_of_kind q (suc i) (suc (suc (suc k))) r = BadNode

unfoldable pub check_node : ℕ → ℕ → List ℕ → Answer
check_node q i r = check_node_of_kind q i (field_of r 0) r

-- "Then nodes rising": from node i on
unfoldable pub check_nodes : ℕ → ℕ → List (List ℕ) → Answer
check_nodes q i [] = Accepted
check_nodes q i (r ∷ rest) = and_then (check_node q i r) (check_nodes q (suc i) rest)

-- ---- operations

-- "7 kind unknown, angle above 7, target above 65,535, or outcome above 65,534 unless it is a plain rotation"
unfoldable pub bad_operation : List ℕ → Bool
bad_operation r =
    eqb (field_of r 0) 0 || ltb 3 (field_of r 0) || ltb 7 (field_of r 3) || ltb no_outcome (field_of r 5)
    || (not (eqb (field_of r 0) 1) && ltb largest_outcome (field_of r 4))

-- "6 node or phase out of range": n nodes
unfoldable pub bad_reference : ℕ → ℕ → ℕ → Bool
bad_reference n node phase = leb n node || ltb 3 phase

-- "8 an outcome measured before, or a condition not measured earlier"
unfoldable pub bad_outcome : List ℕ → List ℕ → Bool
bad_outcome seen r = (eqb (field_of r 0) 2 && member (field_of r 4) seen) || (eqb (field_of r 0) 3 && not (member (field_of r 4) seen))

-- the outcomes measured so far
unfoldable pub measured : List ℕ → List ℕ → List ℕ
measured seen r = when eqb (field_of r 0) 2 then field_of r 4 ∷ seen else seen

unfoldable pub check_operation : ℕ → List ℕ → List ℕ → Answer
check_operation n seen r =
    when bad_operation r then BadOperation else
    when bad_reference n (field_of r 1) (field_of r 2) then BadReference else
    when bad_outcome seen r then BadOutcome else Accepted

-- "Then each operation"
unfoldable pub check_operations : ℕ → List ℕ → List (List ℕ) → Answer
check_operations n seen [] = Accepted
check_operations n seen (r ∷ rest) = and_then (check_operation n seen r) (check_operations n (measured seen r) rest)

-- ---- "Then frame rows: 6, also for a row out of turn (qubits rising from 0, x before z)"

unfoldable pub bad_row : ℕ → ℕ → List ℕ → Bool
bad_row n i r = not (eqb (field_of r 0) (i / 2)) || not (eqb (field_of r 1) (i % 2)) || bad_reference n (field_of r 2) (field_of r 3)

unfoldable pub check_row : ℕ → ℕ → List ℕ → Answer
check_row n i r = when bad_row n i r then BadReference else Accepted

unfoldable pub check_rows : ℕ → ℕ → List (List ℕ) → Answer
check_rows n i [] = Accepted
check_rows n i (r ∷ rest) = and_then (check_row n i r) (check_rows n (suc i) rest)

-- ---- all of it

unfoldable pub check_program : Job → Answer
check_program j =
    and_then (check_nodes j.counts.qubits 0 (node_records j))
    (and_then (check_operations j.counts.nodes [] (operation_records j)) (check_rows j.counts.nodes 0 (row_records j)))

-- 02, M-112: "16 the place is outside the program or holds a plain rotation"
unfoldable pub bad_place : ℕ → List (List ℕ) → Bool
bad_place n rs = leb (length rs) n || eqb (field_of (get_or rs n []) 0) 1

unfoldable pub check_place : Lazy → List (List ℕ) → Answer
check_place Off rs = Accepted
check_place On rs = Accepted
check_place (From n) rs = when bad_place n rs then BadPlace else Accepted

-- 16 is "tested last among the checks"
unfoldable pub check_records : Lazy → Job → Answer
check_records setting j = and_then (check_program j) (check_place setting (operation_records j))

unfoldable pub checking : Options → Job → Lent → Answer
checking o j s =
    when bad_count j.counts then CountOutside else
    when bad_option o then OptionOutside else
    when program_short j || lent_short j.counts s o.max_packed_words then SliceShort else
    check_records o.lazy_cliffords j
