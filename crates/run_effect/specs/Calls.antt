-- Every accepted call of Rewriting, and every accepted listing, keeps the effect. Assumes nothing.
use Rattle.std.specs.Prelude.{◌≡◌, Bool, List, ℕ, ◌-◌, length}
use Rattle.std.proofs.Common.{sym, ◌∙◌, ap, ap₂}
use Rattle.std.proofs.Math.Option.{some}
use Rattle.groups.specs.Abelian.{pow2}
use Rattle.pauli.specs.Word.{width}
use Rattle.model.specs.Answers.{Accepted}
use Rattle.model.specs.Program.{Program, program_of}
use Rattle.model.specs.Rules.{rules_of}
use Rattle.model.specs.Packing.{packed}
use Rattle.model.specs.Results.{operation_results}
use Rattle.model.specs.Listing.{Read}
use Rattle.theory.specs.ListingCalls.{options_of, listing_answer, listed_fine, listed_hermitian}
use Rattle.effect.specs.Effect.{effect_from}
use Rattle.effect.specs.Packed as PackedWords
use Rattle.stream_effect.specs.PackedAxes.{packed_word}
use Rattle.result_effect.specs.Definitions.{operations_read, rows_read}
use Rattle.result_effect.specs.Records.{end_ops}
use Rattle.result_effect.specs.Rows.{end_rows}
use Rattle.result_effect.specs.Listing.{listed_end, listed_first, listed_rest, listed_count, listed_axes, listed_ops}
use Rattle.result_effect.specs.Listing.{listed_frame}
use Rattle.run_effect.specs.Same.{picked}
use Rattle.run_effect.specs.RunEffect.{Effects, source_effect, result_effect, run_keeps_effect}

-- an accepted listing: what it prints has the effect of the program that it read
module _ (t : Read) (yes' : listing_answer (some t) ≡ Accepted) where
  abbrev p : Program
  p = program_of t.job

  pub listing_keeps_effect : (outcomes : ℕ → Bool) (ns : List ℕ)
      → pow2 (Effects (program_of t.job))
      (length (program_of t.job).operations - length (operations_read (listed_first t yes') (listed_rest t yes')))
      (result_effect (program_of t.job) (listed_axes t yes') (operations_read (listed_first t yes') (listed_rest t yes'))
      (rows_read (program_of t.job).qubits (listed_first t yes') (listed_rest t yes')) outcomes ns)
      ≡ source_effect (program_of t.job) outcomes ns
  listing_keeps_effect outcomes ns =
      let l = width p.qubits in
      let H = PackedWords.packed l in
      let r = rules_of (options_of t) in
      let fine = listed_fine t yes' in
      let hermitian = listed_hermitian t yes' in
      let ops = listed_ops t yes' (packed_word l) ∙ sym (end_ops p fine hermitian r (packed_word l) 8) in
      let rows = listed_frame t yes' (packed_word l) ∙ sym (end_rows p fine hermitian r (packed_word l) 8) in
      let printed =
      result_effect p (listed_axes t yes') (operations_read (listed_first t yes') (listed_rest t yes'))
      (rows_read p.qubits (listed_first t yes') (listed_rest t yes')) outcomes ns in
      ap (λ (n : ℕ). pow2 (Effects p) (length p.operations - n) printed) (listed_count t yes')
      ∙ ap₂ (λ X Y. pow2 (Effects p) (length p.operations - length (operation_results p (listed_end t yes')))
      (effect_from H outcomes X (picked H ns Y))) ops rows
      ∙ run_keeps_effect p fine hermitian r 8 outcomes ns
