-- Refusals 1 to 8 of Checking, each by a small job, and which comes first; and what a call of Rewriting leaves in memory. Assumes nothing.
use Rattle.std.specs.Prelude.{◌≡◌, refl, true, false, List, [], ◌∷◌, ◌++◌, ℕ, replicate}
use Rattle.pauli.specs.Word.{width}
use Rattle.model.specs.declared.Strategy.TheVariants.{Merge}
use Rattle.model.specs.declared.Lazy.TheVariants.{Off}
use Rattle.model.specs.declared.Options.{Options}
use Rattle.model.specs.Answers.{Answer, Accepted, CountOutside, OptionOutside, SliceShort, BadNode, BadQubit, BadReference, BadOperation, BadOutcome}
use Rattle.model.specs.Answers.{NonHermitianAxis, ExpansionLimit}
use Rattle.model.specs.Interface.{defaults_at, no_counters}
use Rattle.model.specs.Program.{Job}
use Rattle.model.specs.Checking.{Lent, words_asked, numbers_asked, checking}
use Rattle.model.specs.Rewriting.{rewriting}
use Rattle.model.specs.Everything.{everything}
use Rattle.runs.specs.Shown.{I, X, Z, product, rotate, measure, conditional, row, job, measured-, given+, given-, all_counters}

-- Rust's defaults at limit 12
abbrev options : Options
options = defaults_at 12

-- lookback, window, candidates, rounds
abbrev sized : ℕ → ℕ → ℕ → ℕ → Options
sized lookback window candidates rounds = record {
  lookback = lookback;
  window = window;
  candidates = candidates;
  rounds = rounds;
  clifford_to_frame = true;
  eager_swaps = true;
  second_exchange_first = false;
  lazy_cliffords = Off;
  strategy = Merge;
  measure_depth = false;
  max_packed_words = 0;
}

abbrev with_rounds : ℕ → Options
with_rounds n = sized 0 0 0 n

abbrev with_sizes : ℕ → ℕ → ℕ → Options
with_sizes lookback window candidates = sized lookback window candidates 8

-- slices of sevens
abbrev lengths : ℕ → ℕ → ℕ → ℕ → Lent
lengths w n o r = record { words = replicate w 7; numbers = replicate n 7; operations = replicate o 7; rows = replicate r 7 }

abbrev lent : ℕ → Lent
lent n = lengths n n n n

-- one qubit: nodes I, X, Z; the frame is X, Z
abbrev job1 : List (List ℕ) → List (List ℕ) → Job
job1 nodes operations = job 1 nodes operations (row 0 0 1 0 ∷ row 0 1 2 0 ∷ [])

abbrev nodes : List (List ℕ)
nodes = I ∷ X 0 ∷ Z 0 ∷ []

abbrev check : Job → Answer
check j = checking options j (lent 1500)

abbrev check_nodes_of : List (List ℕ) → Answer
check_nodes_of ns = check (job1 ns [])

abbrev check_ops : List (List ℕ) → Answer
check_ops ops = check (job1 nodes ops)

abbrev counted : ℕ → ℕ → ℕ → Job
counted q n m = record { counts = record { qubits = q; nodes = n; operations = m }; nodes = []; operations = []; rows = [] }

pub record Refused : Type 0 where
  pub none_wrong : check_ops (rotate 1 0 1 ∷ measure 2 0 5 65535 ∷ conditional 1 2 3 5 ∷ []) ≡ Accepted
  -- 1
  pub too_many_qubits : check (counted 4097 1 0) ≡ CountOutside
  pub no_node : check (counted 1 0 0) ≡ CountOutside
  pub too_many_nodes : check (counted 1 65536 0) ≡ CountOutside
  pub too_many_operations : check (counted 1 1 65536) ≡ CountOutside
  -- the last counts that 1 lets through: the slices are short
  pub qubits_4096 : check (counted 4096 1 0) ≡ SliceShort
  pub nodes_65535 : check (counted 1 65535 0) ≡ SliceShort
  pub operations_65535 : check (counted 1 1 65535) ≡ SliceShort
  -- 2, after 1
  pub too_many_rounds : checking (with_rounds 256) (job1 nodes []) (lent 1500) ≡ OptionOutside
  pub rounds_255 : checking (with_rounds 255) (job1 nodes []) (lent 1500) ≡ Accepted
  pub largest_options : checking (with_sizes 1048576 1048576 1048576) (job1 nodes []) (lent 1500) ≡ Accepted
  pub large_lookback : checking (with_sizes 1048577 0 0) (job1 nodes []) (lent 1500) ≡ OptionOutside
  pub large_window : checking (with_sizes 0 1048577 0) (job1 nodes []) (lent 1500) ≡ OptionOutside
  pub large_candidates : checking (with_sizes 0 0 1048577) (job1 nodes []) (lent 1500) ≡ OptionOutside
  pub largest_limit : checking (defaults_at 1048576) (job1 nodes []) (lent 1500) ≡ SliceShort
  pub large_limit : checking (defaults_at 1048577) (job1 nodes []) (lent 1500) ≡ OptionOutside
  pub count_before_option : checking (with_rounds 256) (counted 1 0 0) (lent 1500) ≡ CountOutside
  -- 3, after 2: 28 words and 24 × (3 + 0 + 2 + 6 + 1) + 1,024 + 6 numbers are asked
  pub enough : checking options (job1 nodes []) (lengths 28 1318 0 8) ≡ Accepted
  pub few_words : checking options (job1 nodes []) (lengths 27 1318 0 8) ≡ SliceShort
  pub few_numbers : checking options (job1 nodes []) (lengths 28 1317 0 8) ≡ SliceShort
  pub few_rows : checking options (job1 nodes []) (lengths 28 1318 0 7) ≡ SliceShort
  pub few_operations : checking options (job1 nodes (rotate 1 0 1 ∷ [])) (lengths 28 1342 5 8) ≡ SliceShort
  pub program_cut : check (counted 1 1 0) ≡ SliceShort
  -- at 65 qubits, where l is 2: 100 + 16 × 2, and 24 × (3 + 4 + 130 + 25 + 1) + 1,024 + 25
  pub words_of_65 : words_asked (width 65) 100 ≡ 132
  pub numbers_of_65 : numbers_asked (width 65) (record { qubits = 65; nodes = 3; operations = 4 }) 100 ≡ 4961
  -- 4
  pub node_0 : check_nodes_of (X 0 ∷ X 0 ∷ Z 0 ∷ []) ≡ BadNode
  pub unknown_kind : check_nodes_of (I ∷ X 0 ∷ (3 ∷ 0 ∷ 0 ∷ 0 ∷ 0 ∷ []) ∷ []) ≡ BadNode
  pub unknown_letter : check_nodes_of (I ∷ X 0 ∷ (1 ∷ 0 ∷ 4 ∷ 0 ∷ 0 ∷ []) ∷ []) ≡ BadNode
  pub unknown_phase : check_nodes_of (I ∷ X 0 ∷ product 1 0 1 4 ∷ []) ≡ BadNode
  pub first_unknown_phase : check_nodes_of (I ∷ X 0 ∷ product 1 4 1 0 ∷ []) ≡ BadNode
  pub own_child : check_nodes_of (I ∷ X 0 ∷ product 1 0 2 0 ∷ []) ≡ BadNode
  pub own_first_child : check_nodes_of (I ∷ X 0 ∷ product 2 0 1 0 ∷ []) ≡ BadNode
  -- 5, after 4 of the same node
  pub no_qubit : check_nodes_of (I ∷ X 1 ∷ Z 0 ∷ []) ≡ BadQubit
  pub letter_before_qubit : check_nodes_of (I ∷ (1 ∷ 1 ∷ 4 ∷ 0 ∷ 0 ∷ []) ∷ Z 0 ∷ []) ≡ BadNode
  -- 7
  pub unknown_operation : check_ops ((4 ∷ 1 ∷ 0 ∷ 0 ∷ 0 ∷ 0 ∷ []) ∷ []) ≡ BadOperation
  pub large_angle : check_ops ((2 ∷ 1 ∷ 0 ∷ 8 ∷ 0 ∷ 0 ∷ []) ∷ []) ≡ BadOperation
  pub large_target : check_ops ((1 ∷ 1 ∷ 0 ∷ 0 ∷ 0 ∷ 65536 ∷ []) ∷ []) ≡ BadOperation
  pub large_outcome : check_ops (measure 1 0 65535 0 ∷ []) ≡ BadOperation
  pub largest_outcome : check_ops (measure 1 0 65534 65535 ∷ []) ≡ Accepted
  pub unused_outcome : check_ops ((1 ∷ 1 ∷ 0 ∷ 0 ∷ 70000 ∷ 0 ∷ []) ∷ []) ≡ Accepted
  -- 6, after 7
  pub no_such_node : check_ops (rotate 3 0 1 ∷ []) ≡ BadReference
  pub no_such_phase : check_ops (rotate 1 4 1 ∷ []) ≡ BadReference
  pub angle_before_node : check_ops (rotate 3 0 8 ∷ []) ≡ BadOperation
  pub row_out_of_turn : check (job 1 nodes [] (row 0 1 2 0 ∷ row 0 0 1 0 ∷ [])) ≡ BadReference
  pub row_without_node : check (job 1 nodes [] (row 0 0 3 0 ∷ row 0 1 2 0 ∷ [])) ≡ BadReference
  pub row_without_phase : check (job 1 nodes [] (row 0 0 1 4 ∷ row 0 1 2 0 ∷ [])) ≡ BadReference
  -- 8, after 6
  pub measured_twice : check_ops (measure 1 0 5 0 ∷ measure 2 0 5 0 ∷ []) ≡ BadOutcome
  pub measured_later : check_ops (conditional 1 0 1 5 ∷ measure 1 0 5 0 ∷ []) ≡ BadOutcome
  pub node_before_outcome : check_ops (conditional 3 0 1 5 ∷ []) ≡ BadReference
  -- nodes before operations, operations before rows
  pub nodes_before_operations : check (job1 (X 0 ∷ X 0 ∷ Z 0 ∷ []) (rotate 1 0 8 ∷ [])) ≡ BadNode
  pub operations_before_rows : check (job 1 nodes (rotate 1 0 8 ∷ []) (row 0 1 2 0 ∷ row 0 0 1 0 ∷ [])) ≡ BadOperation

pub refused_as_stated : Refused
unfolding everything
refused_as_stated = record {
  none_wrong = refl;
  too_many_qubits = refl;
  no_node = refl;
  too_many_nodes = refl;
  too_many_operations = refl;
  qubits_4096 = refl;
  nodes_65535 = refl;
  operations_65535 = refl;
  too_many_rounds = refl;
  rounds_255 = refl;
  largest_options = refl;
  large_lookback = refl;
  large_window = refl;
  large_candidates = refl;
  largest_limit = refl;
  large_limit = refl;
  count_before_option = refl;
  enough = refl;
  few_words = refl;
  few_numbers = refl;
  few_rows = refl;
  few_operations = refl;
  program_cut = refl;
  words_of_65 = refl;
  numbers_of_65 = refl;
  node_0 = refl;
  unknown_kind = refl;
  unknown_letter = refl;
  unknown_phase = refl;
  first_unknown_phase = refl;
  own_child = refl;
  own_first_child = refl;
  no_qubit = refl;
  letter_before_qubit = refl;
  unknown_operation = refl;
  large_angle = refl;
  large_target = refl;
  large_outcome = refl;
  largest_outcome = refl;
  unused_outcome = refl;
  no_such_node = refl;
  no_such_phase = refl;
  angle_before_node = refl;
  row_out_of_turn = refl;
  row_without_node = refl;
  row_without_phase = refl;
  measured_twice = refl;
  measured_later = refl;
  node_before_outcome = refl;
  nodes_before_operations = refl;
  operations_before_rows = refl;
}

-- ---- what a call leaves

-- 01's listing
abbrev listed : Job
listed = job 1 (I ∷ Z 0 ∷ X 0 ∷ []) (rotate 1 0 1 ∷ rotate 1 0 1 ∷ measure 2 0 0 65535 ∷ []) (row 0 0 2 0 ∷ row 0 1 1 0 ∷ [])

-- just long enough, and one number more in each slice
abbrev slices : Lent
slices = lengths 29 1391 19 9

pub record AfterCalls : Type 0 where
  -- "Acceptance (0): results, then zeros; axis words, then zeros; number store zero."
  pub accepted_words : (rewriting options listed slices).lent.words ≡ 0 ∷ 1 ∷ 1 ∷ 0 ∷ 1 ∷ 1 ∷ replicate 23 0
  pub accepted_numbers : (rewriting options listed slices).lent.numbers ≡ replicate 1391 0
  pub accepted_operations : (rewriting options listed slices).lent.operations ≡ measured- 2 0 65535 ++ replicate 13 0
  pub accepted_rows : (rewriting options listed slices).lent.rows ≡ given- 0 0 2 ++ (given+ 0 1 0 ++ (0 ∷ []))
  pub accepted_counters : all_counters (rewriting options listed slices).counters ≡ 2 ∷ 0 ∷ 1 ∷ 0 ∷ 1 ∷ 2 ∷ 0 ∷ 0 ∷ 0 ∷ 2 ∷ 0 ∷ 12 ∷ []
  -- "operations, axes": as its listing has them
  pub accepted_operations_and_axes : ((rewriting options listed slices).operations ≡ 1) × ((rewriting options listed slices).axes ≡ 3)
  -- 10: the work stores are zero, the results as they were, the counters 0
  pub ten : rewriting (defaults_at 11) listed slices ≡ record {
    answer = ExpansionLimit;
    counters = no_counters;
    operations = 0;
    axes = 0;
    lent = record { words = replicate 29 0; numbers = replicate 1391 0; operations = replicate 19 7; rows = replicate 9 7 };
  }
  -- 9: the same
  pub nine : rewriting options (job1 nodes (rotate 1 1 1 ∷ [])) slices ≡ record {
    answer = NonHermitianAxis;
    counters = no_counters;
    operations = 0;
    axes = 0;
    lent = record { words = replicate 29 0; numbers = replicate 1391 0; operations = replicate 19 7; rows = replicate 9 7 };
  }
  -- 8: nothing is written
  pub eight : rewriting options (job1 nodes (conditional 1 0 1 0 ∷ [])) slices
      ≡ record { answer = BadOutcome; counters = no_counters; operations = 0; axes = 0; lent = slices }

pub after_calls : AfterCalls
unfolding everything
after_calls = record {
  accepted_words = refl;
  accepted_numbers = refl;
  accepted_operations = refl;
  accepted_rows = refl;
  accepted_counters = refl;
  accepted_operations_and_axes = (refl, refl);
  ten = refl;
  nine = refl;
  eight = refl;
}
