-- 01, "Effect" and "words.rs": the operations of the program that was handed in, and those that its packed items stand for. Assumes nothing.
use Rattle.std.specs.Prelude.{List, map, ℕ, zero, suc, pos, neg_ℤ}
use Rattle.groups.specs.Eighth.{Eighth, e0, eighth}
use Rattle.pauli.specs.Word.{width}
use Rattle.model.specs.Program.{Kind, rotate, measure, conditional, Operation, PauliRef, Program}
use Rattle.model.specs.Words.{Value, scaled, word_of}
use Rattle.model.specs.Value.{plain_value}
use Rattle.model.specs.Roots.{operation_root}
use Rattle.model.specs.Packing.{SignedAxis}
use Rattle.model.specs.Results.{operation_at}
use Rattle.effect.specs.Phase.{Quarter, quarter, Sgn, nil, plus, minus}
use Rattle.effect.specs.Effect.{Op, plain, measured, conditional as given_outcome}

-- ---- an operation about a word with a sign

-- "a phase counts quarter turns modulo 4": 0 of them are 1, 2 are -1; "9 a root's total phase is odd" refuses the others
abbrev pub sign_of : ℕ → Sgn
sign_of zero = plus
sign_of (suc zero) = nil
sign_of (suc (suc zero)) = minus
sign_of (suc (suc (suc t))) = nil

-- "Rotation k about P" asks for iPQ times 2sin(kπ/4): about -P that is rotation -k about P
abbrev pub signed_angle : Sgn → ℕ → Eighth
signed_angle nil k = e0
signed_angle plus k = eighth (pos k)
signed_angle minus k = eighth (neg_ℤ (pos k))

-- "kind 1 rotate, 2 measure, 3 conditional": an operation about s P, with its angle k and its outcome m
abbrev pub op_about : {W : Type 0} → Kind → Sgn → W → ℕ → ℕ → Op W
op_about rotate s P k m = plain (signed_angle s k) P
op_about measure s P k m = measured s P m
op_about conditional s P k m = given_outcome (signed_angle s k) P m

-- ---- the program that was handed in

-- a node and a phase: the node's plain value, a product of its children's, times i^phase
abbrev pub plain_ref : Program → PauliRef → Value
plain_ref p r = scaled r.phase (plain_value (width p.qubits) p.nodes r.node)

module _ {W : Type 0} (word : List ℕ → W) where
  abbrev pub source_op : Program → Operation → Op W
  source_op p o =
      let v = plain_ref p (operation_root o) in
      op_about o.kind (sign_of v.turns) (word v.word) o.angle o.outcome

  abbrev pub source_ops : Program → List (Op W)
  source_ops p = map (source_op p) p.operations

  -- a frame row: "its phase kept in front"
  abbrev pub source_row : Program → PauliRef → Quarter × W
  source_row p r = (quarter (plain_ref p r).turns, word (plain_ref p r).word)

  -- ---- the packed program: axes by id

  abbrev pub axis_word : List (List ℕ) → ℕ → W
  axis_word axes a = word (word_of axes a)

  -- "Measurements and conditional rotations are barriers": a barrier stands for operation o about axis a with sign s
  abbrev pub barrier_op : List Operation → List (List ℕ) → ℕ → ℕ → ℕ → Op W
  barrier_op ops axes o a s =
      op_about (operation_at ops o).kind (sign_of s) (axis_word axes a) (operation_at ops o).angle (operation_at ops o).outcome

  abbrev pub packed_row : List (List ℕ) → SignedAxis → Quarter × W
  packed_row axes f = (quarter f.sign, axis_word axes f.axis)
