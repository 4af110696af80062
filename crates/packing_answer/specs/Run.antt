-- Packing refuses where the run does: with the run's answer, whatever the passes would do after it. Assumes nothing.
use Rattle.std.specs.Prelude.{◌≡◌, refl, Bool, true, false, ℕ, ltb, length, Err}
use Rattle.std.proofs.Common.{sym, ap, ◌∙◌, lt_of_lt_of_le, ltb-true, ltb-false}
use Rattle.model.specs.Program.{Program}
use Rattle.model.specs.Rules.{Rules}
use Rattle.model.specs.Run.{non_hermitian, run, answer_of}
use Rattle.model.specs.Packing.{packed}
use Rattle.theory.specs.Cases.{if_true, if_false}
use Rattle.theory.specs.Limit.{within_answer, beyond_answer}
use Rattle.theory.specs.Peak.{run_rises}
use Rattle.packing_answer.specs.declared.PackingRefusal.{PackingRefusal}
use Rattle.packing_answer.specs.Answer.{packed_with, packed_answer, packing_answer}

-- 9 and 10 come at the model's moment: a refusal of packing is the answer of every run
pub run_refused : (r : Rules) (rounds : ℕ) (p : Program) (limit : ℕ) (e : PackingRefusal) → packed_answer limit (packed p) ≡ Err e
    → answer_of limit (run r rounds p) ≡ packing_answer (Err e)
unfolding packed_answer run
run_refused r rounds p limit e h = go (ltb limit (packed p).store.peak) refl (packed p).refused refl ∙ ap packing_answer h
  where
    go : (a : Bool) → ltb limit (packed p).store.peak ≡ a → (b : Bool) → (packed p).refused ≡ b
        → answer_of limit (run r rounds p) ≡ packing_answer (packed_answer limit (packed p))
    go true f b g =
        beyond_answer limit (run r rounds p) (lt_of_lt_of_le (ltb-true limit (packed p).store.peak f) (run_rises r rounds p))
        ∙ sym (ap packing_answer (if_true _ _ f))
    go false f true g =
        ap (answer_of limit) (if_true _ _ g)
        ∙ within_answer limit (record { peak = (packed p).store.peak; ending = non_hermitian }) (ltb-false limit (packed p).store.peak f)
        ∙ sym (ap packing_answer (if_false _ _ f ∙ if_true _ _ g))
    go false f false g =
        let no : packed_with (length (packed p).store.axes) (packed p).store.peak ≡ Err e = sym (if_false _ _ f ∙ if_false _ _ g) ∙ h in cc
