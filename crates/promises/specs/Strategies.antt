-- The work at the end of a call's run, by the strategy and the rounds of its options. Assumes nothing.
use Rattle.std.specs.Prelude.{◌≡◌}
use Rattle.std.proofs.Math.Path.{refl, ap}
use Rattle.std.proofs.Common.{◌∙◌}
use Rattle.pauli.specs.Word.{width}
use Rattle.model.specs.declared.Strategy.{Strategy}
use Rattle.model.specs.declared.Strategy.TheVariants.{Merge, Litinski}
use Rattle.model.specs.declared.Options.{Options}
use Rattle.model.specs.Program.{Job, program_of}
use Rattle.model.specs.Rules.{rules_of}
use Rattle.model.specs.Rounds.{Work, rounds_from, closing_stream, merge_rounds, litinski_rounds, passes}
use Rattle.model.specs.Run.{start_of, end_of}

-- what 01's passes give of this job, from the packed program on
abbrev pub end_work : Options → Job → Work
end_work o j = end_of (rules_of o) o.rounds (program_of j)

module _ (o : Options) (j : Job) where
  abbrev from : Strategy → Work
  from m = passes m (width j.counts.qubits) (rules_of o) o.rounds (start_of (program_of j))

  -- the merge strategy
  pub merge_end : o.strategy ≡ Merge
      → end_work o j ≡ merge_rounds (width j.counts.qubits) (rules_of o) o.rounds (start_of (program_of j))
  unfolding end_of rules_of program_of passes
  merge_end e = ap from e

  -- Litinski's
  pub litinski_end : o.strategy ≡ Litinski
      → end_work o j ≡ litinski_rounds (width j.counts.qubits) (rules_of o) o.rounds (start_of (program_of j))
  unfolding end_of rules_of program_of passes
  litinski_end e = ap from e

  -- no rounds, by either
  pub no_rounds_end : o.rounds ≡ 0 → end_work o j ≡ start_of (program_of j)
  unfolding end_of passes merge_rounds litinski_rounds rounds_from closing_stream
  no_rounds_end e =
      ap (λ k. passes (rules_of o).strategy (width (program_of j).qubits) (rules_of o) k (start_of (program_of j))) e
      ∙ go (rules_of o).strategy
    where
      go : (m : Strategy) → passes m (width (program_of j).qubits) (rules_of o) 0 (start_of (program_of j)) ≡ start_of (program_of j)
      go Merge = refl
      go Litinski = refl
