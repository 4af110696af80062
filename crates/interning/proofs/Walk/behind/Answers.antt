-- The link by the next digit. Assumes nothing.
use Rattle.std.proofs.Common.{ℕ, ◌+◌, ap, ◌∙◌, refl, eq-eqb, ne_eqb}
use Rattle.axes.specs.Chains.{next_even, next_odd}
use Rattle.interning.proofs.Walk.behind.Goals as goal
use Rattle.interning.proofs.Walk.behind.Goals.{then-self-eq0, else-self-eq0}

pub returns : goal.returns
returns c =
    let a = c.args in
    record {
      place = elim c.if-self-eq0.branch [
        | then-self-eq0 w ↦ ap (λ (n : ℕ). n + a.b) (w.links-is ∙ w.links_at-links.ensures) ∙ next_even a.z.u a.b a.self.digits (eq-eqb _ _ w.if-self-eq0.true)
        | else-self-eq0 w ↦ ap (λ (n : ℕ). n + a.b) w.links-is ∙ next_odd a.z.u a.b a.self.digits (ne_eqb _ _ w.if-self-eq0.false)
      ];
      digits = refl;
    }
