-- The run keeps the effect: the results have the effect of the program that was handed in. Assumes nothing.
use Rattle.std.specs.Prelude.{◌≡◌, refl, Bool, true, false, ℕ, ◌-◌, eqb, length}
use Rattle.std.proofs.Common.{sym, ◌∙◌, ap, ap₂, arith, eqb-true}
use mathlib.Core.List.{List, [], map}
use Rattle.std.proofs.lemmas.List.{length-map}
use Rattle.groups.specs.Abelian.{Ab, pow2}
use Rattle.pauli.specs.Word.{width}
use Rattle.model.specs.Program.{Program}
use Rattle.model.specs.Rules.{Rules}
use Rattle.model.specs.Packing.{packed}
use Rattle.model.specs.Rounds.{Work}
use Rattle.model.specs.Run.{start_of, end_of}
use Rattle.model.specs.Results.{operation_results, row_results}
use Rattle.theory.specs.Cases.{if_false}
use Rattle.theory.specs.Checked.{Fine}
use Rattle.run_wellformed.specs.Points.{passes_reached}
use Rattle.run_wellformed.specs.RunWellFormed.{results_length}
use Rattle.effect.specs.Effect.{complex_sums, effect_from}
use Rattle.effect.specs.Packed as PackedWords
use Rattle.packing_effect.specs.Source.{source_op, source_ops, source_row}
use Rattle.stream_effect.specs.PackedAxes.{packed_word}
use Rattle.result_effect.specs.Definitions.{result_op, result_ops, result_rows, work_rows_from, work_rows}
use Rattle.result_effect.specs.Records.{end_ops}
use Rattle.result_effect.specs.Rows.{work_rows_kept, end_rows}
use Rattle.run_effect.specs.Same.{picked, SameEffect, same_less}
use Rattle.run_effect.specs.Points.{point_rows, Keeps, point_keeps}

-- ---- the two effects, as sums with complex coefficients: for a choice o of outcomes and the frame rows with the indices ns, multiplied in order

abbrev pub Effects : Program → Ab
Effects p = complex_sums (PackedWords.packed (width p.qubits))

-- that of the program that was handed in: its operations and rows by the plain values of their nodes
abbrev pub source_effect : (p : Program) → (ℕ → Bool) → List ℕ → (Effects p).C
source_effect p o ns =
    let l = width p.qubits in
    effect_from (PackedWords.packed l) o (source_ops (packed_word l) p)
    (picked (PackedWords.packed l) ns (map (source_row (packed_word l) p) p.rows))

-- that of a result: its axis words, its operations' and its rows' records; a kept row is the source's
abbrev pub result_effect : (p : Program) → List (List ℕ) → List (List ℕ) → List (List ℕ) → (ℕ → Bool) → List ℕ → (Effects p).C
result_effect p axes operations rows o ns =
    let l = width p.qubits in
    effect_from (PackedWords.packed l) o (result_ops (packed_word l) axes operations)
    (picked (PackedWords.packed l) ns (result_rows (packed_word l) p axes rows))

module _ (p : Program) (fine : Fine p) (hermitian : (packed p).refused ≡ false) (r : Rules) (rounds : ℕ) where
  abbrev l : ℕ
  l = width p.qubits

  abbrev end : Work
  end = end_of r rounds p

  keeps : Keeps p fine hermitian r end
  unfolding end_of
  keeps = point_keeps p fine hermitian r (passes_reached l r (start_of p) r.strategy rounds)

  -- "kept .. for all rows if no pass absorbed anything"
  end_frame : work_rows (packed_word l) p end ≡ point_rows p fine hermitian r end
  end_frame = go (eqb end.absorbed 0) refl
    where
      go : (b : Bool) → eqb end.absorbed 0 ≡ b → work_rows (packed_word l) p end ≡ point_rows p fine hermitian r end
      go true e =
          let none = eqb-true end.absorbed 0 e in
          work_rows_kept (packed_word l) p end none ∙ sym (keeps.kept none)
      go false e = unfold work_rows in (ap (work_rows_from (packed_word l) p end.store.axes p.rows) (if_false [] end.rows e))

  -- "Effects are equal after factors 2 for the difference in operation count": for every program that Checking passes (`Fine`, see
  -- `checked-fine`) and that has no non-Hermitian root, every setting, every choice of outcomes and every list of frame rows multiplied in order
  pub run_keeps_effect : (o : ℕ → Bool) (ns : List ℕ)
      → pow2 (Effects p) (length p.operations - length (operation_results p end))
      (result_effect p end.store.axes (operation_results p end) (row_results p end) o ns) ≡ source_effect p o ns
  run_keeps_effect o ns =
      ap₂ (λ (m n : ℕ). pow2 (Effects p) (m - n) (result_effect p end.store.axes (operation_results p end) (row_results p end) o ns))
      (sym source) (sym result)
      ∙ same_less (PackedWords.packed l) (source_ops (packed_word l) p) (result_ops (packed_word l) end.store.axes (operation_results p end))
      (map (source_row (packed_word l) p) p.rows) (result_rows (packed_word l) p end.store.axes (row_results p end))
      (omega (arith, source, result, results_length p fine r rounds)) same o ns
    where
      source : length (source_ops (packed_word l) p) ≡ length p.operations
      source = length-map p.operations (source_op (packed_word l) p)

      result : length (result_ops (packed_word l) end.store.axes (operation_results p end)) ≡ length (operation_results p end)
      result = unfold result_ops in (length-map (operation_results p end) (result_op (packed_word l) end.store.axes))

      same : SameEffect (PackedWords.packed l) (source_ops (packed_word l) p) (map (source_row (packed_word l) p) p.rows)
          (result_ops (packed_word l) end.store.axes (operation_results p end))
          (result_rows (packed_word l) p end.store.axes (row_results p end))
      same =
          rw (end_ops p fine hermitian r (packed_word l) rounds, end_rows p fine hermitian r (packed_word l) rounds ∙ end_frame) keeps.effect
