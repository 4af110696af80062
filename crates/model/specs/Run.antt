-- 01, "words.rs" and "Turning work down": a run, from the program to its end, without a word limit. Assumes nothing.
use Rattle.std.specs.Prelude.{◌||◌, List, [], ◌∷◌, ◌++◌, map, ℕ, suc, eqb, ltb}
use Rattle.pauli.specs.Word.{width, is_identity}
use Rattle.model.specs.Answers.{Answer, Accepted, NonHermitianAxis, ExpansionLimit}
use Rattle.model.specs.Lists.{when◌then◌else◌}
use Rattle.model.specs.Program.{Kind, rotate, measure, conditional, Operation, Program}
use Rattle.model.specs.Rules.{Rules}
use Rattle.model.specs.Words.{Value, word_of}
use Rattle.model.specs.Roots.{root_rows, operation_root}
use Rattle.model.specs.Packing.{values_of, packed, SignedAxis, signed_axis}
use Rattle.model.specs.Items.{rot, Item, rotation, barrier, with_sign}
use Rattle.model.specs.Rounds.{Work, passes}

-- ---- from the packed program to the work

-- operation o, with its axis and angle. "Rotations with angle 0 or an identity axis drop out. Measurements and conditional rotations are
-- barriers."
unfoldable pub item_of : List (List ℕ) → ℕ → Kind → SignedAxis → ℕ → List Item
item_of axes o rotate f k =
    when eqb (with_sign f.sign k) 0 || is_identity (word_of axes f.axis) then [] else rotation (rot f.axis (with_sign f.sign k)) ∷ []
item_of axes o measure f k = barrier o f.axis f.sign ∷ []
item_of axes o conditional f k = barrier o f.axis f.sign ∷ []

unfoldable pub items_from : List (List ℕ) → List Value → ℕ → List Operation → List Item
items_from axes vs o [] = []
items_from axes vs o (op ∷ rest) =
    item_of axes o op.kind (signed_axis axes vs (operation_root op)) op.angle ++ items_from axes vs (suc o) rest

unfoldable pub start_of : Program → Work
start_of p =
    let s = (packed p).store in
    record {
      store = s;
      items = items_from s.axes (values_of p) 0 p.operations;
      rows = map (signed_axis s.axes (values_of p)) (root_rows p);
      merges = 0;
      swaps = 0;
      absorbed = 0;
    }

-- ---- the run

pub record Finished : Type 0 where
  pub start : Work
  pub end : Work

pub data Ending : Type 0 where
  non_hermitian : Ending
  finished : Finished → Ending

-- the largest word sum that was tested, 0 if none was, and how the run ended
pub record Run : Type 0 where
  pub peak : ℕ
  pub ending : Ending

-- the work at the end of a run whose roots are all Hermitian
unfoldable pub end_of : Rules → ℕ → Program → Work
end_of r rounds p = passes r.strategy (width p.qubits) r rounds (start_of p)

unfoldable pub finished_run : Rules → ℕ → Program → Run
finished_run r rounds p =
    let end = end_of r rounds p in
    record { peak = end.store.peak; ending = finished (record { start = start_of p; end = end }) }

unfoldable pub run : Rules → ℕ → Program → Run
run r rounds p =
    let whole = finished_run r rounds p in
    when (packed p).refused then record { peak = (packed p).store.peak; ending = non_hermitian } else whole

-- ---- "9 a root's total phase is odd; 10 a tested word sum exceeds the limit"

-- what a run comes to under a limit: the first sum above it ends the work, whatever the ending
abbrev pub under_limit : {A : Type 0} → ℕ → Run → A → (Ending → A) → A
under_limit limit r exceeded ended = when ltb limit r.peak then exceeded else ended r.ending

abbrev pub end_answer : Ending → Answer
end_answer non_hermitian = NonHermitianAxis
end_answer (finished f) = Accepted

unfoldable pub answer_of : ℕ → Run → Answer
answer_of limit r = under_limit limit r ExpansionLimit end_answer
