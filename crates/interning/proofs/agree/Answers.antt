-- Both answer the scan's id. Assumes nothing.
use Rattle.std.proofs.Common.{ℕ, ◌≡◌, ◌∙◌, refl, sym, true, eqb, eq-eqb}
use Rattle.std.specs.Prelude.{Option, Some, None}
use Rattle.std.specs.Option.{option_eq}
use Rattle.interning.specs.Find.{found_stored}
use Rattle.interning.proofs.agree.Goals as goal

same_option : (a b : Option ℕ) → a ≡ b → option_eq eqb a b ≡ true
same_option None None e = refl
same_option (Some x) (Some y) e = eq-eqb x y cc
same_option None (Some y) e = cc
same_option (Some x) None e = cc

pub returns : goal.returns
returns c =
    c.eq.ensures ∙ same_option _ _ (c.ok.ensures.value ∙ found_stored _ _ _ _ c.find.result c.find.ensures ∙ sym c.scan.ensures)
