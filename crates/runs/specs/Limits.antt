-- The four places where a word sum is tested: at the sum itself the run is accepted, at one less it is refused by 10. Assumes nothing.
use Rattle.std.specs.Prelude.{◌≡◌, refl, true, false, List, [], ◌∷◌, ℕ, ◌-◌}
use Rattle.model.specs.declared.Strategy.TheVariants.{Merge}
use Rattle.model.specs.Answers.{Answer, Accepted, ExpansionLimit}
use Rattle.model.specs.Program.{Program}
use Rattle.model.specs.declared.Absorption.TheVariants.{AtOnce as at_once}
use Rattle.model.specs.Rules.{Rules}
use Rattle.model.specs.Run.{Run, run, answer_of}
use Rattle.model.specs.Everything.{everything}
use Rattle.runs.specs.Shown.{I, X, Y, Z, product, rotate, row, program, rules}

-- the answers at a limit and at the one below it
abbrev around : ℕ → Run → List Answer
around limit r = answer_of limit r ∷ answer_of (limit - 1) r ∷ []

abbrev accepted_refused : List Answer
accepted_refused = Accepted ∷ ExpansionLimit ∷ []

-- one qubit, whose rows mention none
abbrev one : List (List ℕ) → List (List ℕ) → Program
one nodes operations = program 1 nodes operations (row 0 0 0 0 ∷ row 0 1 0 0 ∷ [])

abbrev rust : Rules
rust = rules 1048576 0 16 at_once true Merge false

-- pack's slot check: X is stored; then Y and Z are held at once, (2 slots + 1 axis) × 2; their product is X again
at_a_slot : around 6 (run rust 0 (one (I ∷ X 0 ∷ Y 0 ∷ Z 0 ∷ product 2 0 3 3 ∷ []) (rotate 1 0 1 ∷ rotate 4 0 1 ∷ []))) ≡ accepted_refused
unfolding everything
at_a_slot = refl

-- pack's intern: 0 stored + 2 + 1 slot × 2
at_a_stored_root : around 4 (run rust 0 (one (I ∷ X 0 ∷ []) (rotate 1 0 1 ∷ []))) ≡ accepted_refused
unfolding everything
at_a_stored_root = refl

-- a pass's intern: Z:2 is absorbed and takes X to Y: 2 stored × 2 + 2 + 6 words of images
at_a_carried_axis : around 12 (run rust 1 (one (I ∷ X 0 ∷ Z 0 ∷ []) (rotate 2 0 2 ∷ rotate 1 0 1 ∷ []))) ≡ accepted_refused
unfolding everything
at_a_carried_axis = refl

-- a pass's touch: Z:2 is absorbed: 1 stored × 2 + 6
at_a_touch : around 8 (run rust 1 (one (I ∷ Z 0 ∷ []) (rotate 1 0 2 ∷ []))) ≡ accepted_refused
unfolding everything
at_a_touch = refl
