-- The passes, by the strategy. Assumes nothing.
use Rattle.std.specs.Prelude.{◌≡◌, List, ℕ, Result}
use Rattle.std.proofs.Common.{sym, subst}
use Rattle.model.specs.declared.Options.{Options}
use Rattle.model.specs.Program.{Program}
use Rattle.model.specs.Rules.{rules_of}
use Rattle.model.specs.declared.Strategy.{Strategy}
use Rattle.model.specs.declared.Strategy.TheVariants.{Merge, Litinski}
use Rattle.model.specs.Rounds.{Work, merge_rounds, litinski_rounds, passes}
use Rattle.layout.specs.declared.Shape.{Shape}
use Rattle.model.specs.declared.ExpansionLimit.{ExpansionLimit}
use Rattle.steps.specs.declared.State.{State}
use Rattle.points.specs.Points.{EndedAs}

pub passes_merge : (o : Options) (w : Work) {z : Shape} {r : Result State ExpansionLimit} {ws xs : List ℕ} {p : Program} → o.strategy ≡ Merge
    → EndedAs z 511 r ws xs p (merge_rounds z.l (rules_of o) o.rounds w)
    → EndedAs z 511 r ws xs p (passes o.strategy z.l (rules_of o) o.rounds w)
unfolding passes
passes_merge o w {z} {r} {ws} {xs} {p} e h =
    subst (λ (s : Strategy). EndedAs z 511 r ws xs p (passes s z.l (rules_of o) o.rounds w)) (sym e) h

pub passes_litinski : (o : Options) (w : Work) {z : Shape} {r : Result State ExpansionLimit} {ws xs : List ℕ} {p : Program} → o.strategy ≡ Litinski
    → EndedAs z 511 r ws xs p (litinski_rounds z.l (rules_of o) o.rounds w)
    → EndedAs z 511 r ws xs p (passes o.strategy z.l (rules_of o) o.rounds w)
unfolding passes
passes_litinski o w {z} {r} {ws} {xs} {p} e h =
    subst (λ (s : Strategy). EndedAs z 511 r ws xs p (passes s z.l (rules_of o) o.rounds w)) (sym e) h
