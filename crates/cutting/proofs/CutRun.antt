-- 02, M-113, about runs: with absorption off, the merge strategy and one round, the runs of a program cut directly after a measurement add up.
-- Assumes nothing.
use Rattle.std.specs.Prelude.{◌≡◌, refl, ℕ, ◌+◌, ◌<◌, ltb, length}
use Rattle.std.proofs.Common.{sym, ◌∙◌, zero-add, arith, length-append, get_or-append-add, lt-ltb, le-ltb}
use Rattle.std.proofs.Math.Path.{ap, ap₂}
use mathlib.Core.List.{List, [], ◌∷◌, ◌++◌, map, map-append}
use Rattle.std.proofs.Math.Decide.{dec_lt}
use Rattle.std.proofs.Math.ListN.{get_or-append, get_or-eq_default}
use Rattle.pauli.specs.Word.{width}
use Rattle.model.specs.declared.Strategy.{Strategy}
use Rattle.model.specs.Lists.{when◌then◌else◌}
use Rattle.model.specs.Program.{measure, Operation, Program}
use Rattle.model.specs.Rules.{Rules}
use Rattle.model.specs.Words.{Value, word_of}
use Rattle.model.specs.Roots.{operation_root}
use Rattle.model.specs.Packing.{packed, values_of, signed_axis}
use Rattle.model.specs.Items.{Item, barrier}
use Rattle.model.specs.Rounds.{Work, passes}
use Rattle.model.specs.Run.{items_from, start_of, end_of}
use Rattle.model.specs.Results.{no_operation, operation_at, item_record, operation_results}
use Rattle.theory.specs.Cases.{if_true, if_false}
use Rattle.theory.specs.Every.{Every, every_weaken}
use Rattle.words_wellformed.specs.StoredWords.{StoredWords}
use Rattle.words_wellformed.specs.PackedWords.{packed_stored}
use Rattle.words_wellformed.specs.Wellformed.{work_ids}
use Rattle.words_wellformed.specs.RunWords.{RootIn, operations_rooted, start_well}
use Rattle.run_wellformed.specs.Points.{passes_reached}
use Rattle.result_effect.specs.Records.{ItemStands, point_stands}
use Rattle.cutting.specs.Renaming.{Renames, renamed, Within, into, into_renames, stored_front, stored_behind, within_self}
use Rattle.cutting.specs.Round.{Rounded, renamed_round, round_of, one_round, round_same}
use Rattle.cutting.specs.CutRound.{both_rounds, round_cut}
use Rattle.cutting.specs.CutItems.{OperationStored, items_renamed, items_append, items_measured}
use Rattle.cutting.specs.Worded.{WordedOperation, worded, worded_all}
use Rattle.cutting.proofs.Worded.{items_worded}
use Rattle.cutting.specs.CutRun.{with_operations, MergesOnly, Runs, worded_end, AddsUp}

-- ---- one run

module _ (r : Rules) (rules : MergesOnly r) (p : Program) (runs : Runs p) where
  abbrev axes_of : List (List ℕ)
  axes_of = (packed p).store.axes

  abbrev start_items : List Item
  start_items = items_from axes_of (values_of p) 0 p.operations

  abbrev ended : Rounded
  ended = round_of (width p.qubits) r axes_of start_items

  -- its end: the packed axes, and a round of the items
  end_is : end_of r 1 p
      ≡ record {
        store = (packed p).store;
        items = ended.items;
        rows = (start_of p).rows;
        merges = 0 + ended.merges;
        swaps = 0 + ended.swaps;
        absorbed = 0 + 0;
      }
  unfolding end_of passes start_of
  end_is =
      let well = start_well p (Unit {0}) runs.fine runs.hermitian in
      ap (λ (s : Strategy). passes s (width p.qubits) r 1 (start_of p)) rules.strategy
      ∙ one_round (width p.qubits) r rules.absorption (start_of p) well.stored
      (work_ids (width p.qubits) (Unit {0}) (start_of p) well).items

  pub end_axes : (end_of r 1 p).store.axes ≡ (packed p).store.axes
  end_axes = ap (λ (w : Work). w.store.axes) end_is

  end_items : (end_of r 1 p).items ≡ ended.items
  end_items = ap (λ (w : Work). w.items) end_is

  end_swaps : (end_of r 1 p).swaps ≡ ended.swaps
  end_swaps = ap (λ (w : Work). w.swaps) end_is ∙ zero-add ended.swaps

  end_merges : (end_of r 1 p).merges ≡ ended.merges
  end_merges = ap (λ (w : Work). w.merges) end_is ∙ zero-add ended.merges

  -- its axes are words, each stored once
  stored : StoredWords (width p.qubits) axes_of
  stored = packed_stored p runs.fine

  -- every operation's axis is stored
  operations_stored : Every (OperationStored axes_of (values_of p)) p.operations
  unfolding operation_root
  operations_stored =
      every_weaken (λ (op : Operation). RootIn axes_of (values_of p) (operation_root op)) (OperationStored axes_of (values_of p)) (λ op h. h.stored)
      p.operations (operations_rooted p runs.fine runs.hermitian)

  stands : Every (ItemStands p.operations) ended.items
  stands =
      rw (← end_items)
      (unfold end_of in
      (point_stands p runs.fine runs.hermitian r (passes_reached (width p.qubits) r (start_of p) r.strategy 1)))

  module _ (C : List (List ℕ)) (within : Within axes_of C) where
    renames : Renames axes_of C (into axes_of C)
    renames = into_renames (width p.qubits) axes_of C stored within

    -- what comes out says what the renamed items say
    results_renamed : (τ : ℕ → ℕ) (ops : List Operation) → ((o : ℕ) → operation_at ops (τ o) ≡ operation_at p.operations o)
        → worded_all C (map (item_record ops) (map (renamed (into axes_of C) τ) ended.items))
        ≡ worded_all (end_of r 1 p).store.axes (operation_results p (end_of r 1 p))
    unfolding operation_results
    results_renamed τ ops there =
        items_worded axes_of C (into axes_of C) τ renames p.operations ops there ended.items stands
        ∙ ap₂ (λ (axes : List (List ℕ)) (is : List Item). worded_all axes (map (item_record p.operations) is)) (sym end_axes) (sym end_items)

-- ---- indices of operations in the whole

-- those of the earlier part stay; an index outside it goes to one outside the whole, so that records agree at every index
first_index : List Operation → List Operation → ℕ → ℕ
first_index xs ys o = when ltb o (length xs) then o else length xs + length ys + o

module _ (xs ys : List Operation) where
  first_inside : (o : ℕ) → o < length xs → first_index xs ys o ≡ o
  unfolding first_index
  first_inside o h = if_true _ _ (lt-ltb o (length xs) h)

  first_outside : (o : ℕ) → ¬ (o < length xs) → first_index xs ys o ≡ length xs + length ys + o
  unfolding first_index
  first_outside o h = if_false _ _ (le-ltb o (length xs) (omega arith))

  first_there : (o : ℕ) → operation_at (xs ++ ys) (first_index xs ys o) ≡ operation_at xs o
  first_there o = go (dec_lt o (length xs))
    where
      go : Dec (o < length xs) → operation_at (xs ++ ys) (first_index xs ys o) ≡ operation_at xs o
      go (yes h) = ap (operation_at (xs ++ ys)) (first_inside o h) ∙ get_or-append xs ys no_operation o h
      go (no n) =
          ap (operation_at (xs ++ ys)) (first_outside o n)
          ∙ get_or-eq_default (xs ++ ys) no_operation (omega (arith, length-append xs ys))
          ∙ sym (get_or-eq_default xs no_operation (omega arith))

-- ---- the cut

module _ (r : Rules) (rules : MergesOnly r) (p : Program) (before : List Operation) (m : Operation) (measured : m.kind ≡ measure)
    (later : List Operation) where
  abbrev ops : List Operation
  ops = before ++ (m ∷ [])

  abbrev whole : Program
  whole = with_operations p (ops ++ later)

  abbrev part : Program
  part = with_operations p ops

  abbrev rest : Program
  rest = with_operations p later

  module _ (w : Runs whole) (f : Runs part) (s : Runs rest) where
    abbrev l : ℕ
    l = width p.qubits

    abbrev vs : List Value
    vs = values_of p

    abbrev W : List (List ℕ)
    W = (packed whole).store.axes

    abbrev A : List (List ℕ)
    A = (packed part).store.axes

    abbrev B : List (List ℕ)
    B = (packed rest).store.axes

    -- one store for all three
    abbrev C : List (List ℕ)
    C = W ++ (A ++ B)

    within_whole : Within W C
    within_whole a h = stored_front W (A ++ B) (word_of W a) (within_self l W (stored r rules whole w) a h)

    within_part : Within A C
    within_part a h =
        stored_behind W (A ++ B) (word_of A a) (stored_front A B (word_of A a) (within_self l A (stored r rules part f) a h))

    within_rest : Within B C
    within_rest a h =
        stored_behind W (A ++ B) (word_of B a) (stored_behind A B (word_of B a) (within_self l B (stored r rules rest s) a h))

    abbrev τ₁ : ℕ → ℕ
    τ₁ = first_index ops later

    abbrev τ₂ : ℕ → ℕ
    τ₂ o = length ops + o

    whole_items : map (renamed (into W C) (λ o. o)) (items_from W vs 0 (ops ++ later)) ≡ items_from C vs 0 (ops ++ later)
    whole_items = items_renamed W C within_whole vs (λ o. o) 0 0 (ops ++ later) (operations_stored r rules whole w) (λ i b. refl)

    part_items : map (renamed (into A C) τ₁) (items_from A vs 0 ops) ≡ items_from C vs 0 ops
    part_items =
        items_renamed A C within_part vs τ₁ 0 0 ops (operations_stored r rules part f)
        (λ i b. ap τ₁ (zero-add i) ∙ first_inside ops later i b ∙ sym (zero-add i))

    rest_items : map (renamed (into B C) τ₂) (items_from B vs 0 later) ≡ items_from C vs (length ops) later
    rest_items =
        items_renamed B C within_rest vs τ₂ 0 (length ops) later (operations_stored r rules rest s)
        (λ i b. ap τ₂ (zero-add i))

    both_items : map (renamed (into W C) (λ o. o)) (items_from W vs 0 (ops ++ later))
        ≡ map (renamed (into A C) τ₁) (items_from A vs 0 ops) ++ map (renamed (into B C) τ₂) (items_from B vs 0 later)
    both_items =
        whole_items
        ∙ items_append C vs 0 ops later
        ∙ ap₂ (λ (x y : List Item). x ++ y) (sym part_items)
        (ap (λ (n : ℕ). items_from C vs n later) (zero-add (length ops)) ∙ sym rest_items)

    -- the rounds
    abbrev whole_round : Rounded
    whole_round = round_of l r W (items_from W vs 0 (ops ++ later))

    abbrev part_round : Rounded
    part_round = round_of l r A (items_from A vs 0 ops)

    abbrev rest_round : Rounded
    rest_round = round_of l r B (items_from B vs 0 later)

    abbrev both_renamed : Rounded
    both_renamed = both_rounds (renamed_round (into A C) τ₁ part_round) (renamed_round (into B C) τ₂ rest_round)

    rounds_cut : round_of l r C (map (renamed (into A C) τ₁) (items_from A vs 0 ops) ++ map (renamed (into B C) τ₂) (items_from B vs 0 later))
        ≡ both_renamed
    rounds_cut =
        let axis = (signed_axis A vs (operation_root m)).axis in
        let sign = (signed_axis A vs (operation_root m)).sign in
        let b : Item = barrier (0 + length before) axis sign in
        let e : items_from A vs 0 ops ≡ items_from A vs 0 before ++ (b ∷ []) = items_measured A vs 0 before m measured in
        rw e
        (round_cut l r A B C (into A C) τ₁ (renames r rules part f C within_part) (into B C) τ₂ (renames r rules rest s C within_rest)
        (items_from A vs 0 before) (0 + length before) axis sign (items_from B vs 0 later))

    rounds : renamed_round (into W C) (λ o. o) whole_round ≡ both_renamed
    rounds =
        sym (round_same l r W C (into W C) (λ o. o) (renames r rules whole w C within_whole) (items_from W vs 0 (ops ++ later)))
        ∙ ap (round_of l r C) both_items ∙ rounds_cut

    operations_cut : worded_end r whole ≡ worded_end r part ++ worded_end r rest
    operations_cut =
        sym (results_renamed r rules whole w C within_whole (λ o. o) (ops ++ later) (λ o. refl))
        ∙ ap (λ (x : Rounded). worded_all C (map (item_record (ops ++ later)) x.items)) rounds
        ∙ ap (worded_all C)
        (map-append (item_record (ops ++ later)) (map (renamed (into A C) τ₁) part_round.items) (map (renamed (into B C) τ₂) rest_round.items))
        ∙ map-append (worded C) (map (item_record (ops ++ later)) (map (renamed (into A C) τ₁) part_round.items))
        (map (item_record (ops ++ later)) (map (renamed (into B C) τ₂) rest_round.items))
        ∙ ap₂ (λ (x y : List WordedOperation). x ++ y)
        (results_renamed r rules part f C within_part τ₁ (ops ++ later) (first_there ops later))
        (results_renamed r rules rest s C within_rest τ₂ (ops ++ later) (λ o. get_or-append-add ops later o no_operation))

    -- the three runs of the request
    pub run_cut : AddsUp r (with_operations p ((before ++ (m ∷ [])) ++ later)) (with_operations p (before ++ (m ∷ []))) (with_operations p later)
    run_cut = record {
      operations = operations_cut;
      swaps = end_swaps r rules whole w ∙ ap (λ (x : Rounded). x.swaps) rounds
          ∙ ap₂ ◌+◌ (sym (end_swaps r rules part f)) (sym (end_swaps r rules rest s));
      merges = end_merges r rules whole w ∙ ap (λ (x : Rounded). x.merges) rounds
          ∙ ap₂ ◌+◌ (sym (end_merges r rules part f)) (sym (end_merges r rules rest s));
    }
