-- The words of a run, group A of its well-formedness: what holds at the end of every run of a checked program whose roots are Hermitian.
-- `AnglesStay`, that exchange and layering leave angles 1 to 7, is asked for the signs only. Assumes nothing.
use Rattle.std.specs.Prelude.{◌≡◌, refl, false, ℕ, ◌<◌, length}
use Rattle.pauli.specs.Word.{width, IsWord}
use Rattle.model.specs.declared.Options.{Options}
use Rattle.model.specs.Answers.{Accepted}
use Rattle.model.specs.Program.{Job, Program, program_of}
use Rattle.model.specs.Rules.{Rules, rules_of}
use Rattle.model.specs.Words.{id_of, word_of}
use Rattle.model.specs.Packing.{packed, SignedAxis}
use Rattle.model.specs.Items.{Item, rotation, barrier}
use Rattle.model.specs.Rounds.{Work}
use Rattle.model.specs.Run.{start_of, end_of}
use Rattle.model.specs.Checking.{Lent}
use Rattle.model.specs.Rewriting.{rewriting}
use Rattle.theory.specs.Every.{Every, every_weaken}
use Rattle.theory.specs.StreamState.{axis_of}
use Rattle.theory.specs.Checked.{Fine, checked_fine}
use Rattle.theory.specs.Replies.{ran}
use Rattle.theory.specs.TCountCalls.{accepted_hermitian}
use Rattle.words_wellformed.specs.HeldImages.{IsSign}
use Rattle.words_wellformed.specs.PassWords.{WellItem, WellRow}
use Rattle.words_wellformed.specs.RunWords.{WellWork, AnglesStay, passes_well, start_well}

-- ---- what is said of items and rows

-- a barrier's sign
abbrev pub ItemSign : Item → Type 0
ItemSign (rotation r) = Unit {0}
ItemSign (barrier o a s) = IsSign s

-- a row's sign
abbrev pub RowSign : SignedAxis → Type 0
RowSign f = IsSign f.sign

item_sign : (Angles : Type 0) (m : ℕ) → Angles → (i : Item) → WellItem Angles m i → ItemSign i
item_sign Angles m g (rotation r) h = tt
item_sign Angles m g (barrier o a s) h = h.1 g

item_axis : (Angles : Type 0) (m : ℕ) (i : Item) → WellItem Angles m i → axis_of i < m
item_axis Angles m (rotation r) h = h.0
item_axis Angles m (barrier o a s) h = h.0

-- the signs of a work
pub record SignsEven (w : Work) : Type 0 where
  pub items : Every ItemSign w.items
  pub rows : Every RowSign w.rows

-- the ids of a work
pub record IdsInRange (w : Work) : Type 0 where
  pub items : Every (λ i. axis_of i < length w.store.axes) w.items
  pub rows : Every (λ (f : SignedAxis). f.axis < length w.store.axes) w.rows

-- they are there where the angles are 1 to 7
pub work_signs : (l : ℕ) (Angles : Type 0) (w : Work) → WellWork l Angles w → Angles → SignsEven w
work_signs l Angles w h g = record {
  items = every_weaken (WellItem Angles _) ItemSign (item_sign Angles _ g) w.items h.items;
  rows = every_weaken (WellRow Angles _) RowSign (λ f k. k.1 g) w.rows h.rows;
}

-- in any case
pub work_ids : (l : ℕ) (Angles : Type 0) (w : Work) → WellWork l Angles w → IdsInRange w
work_ids l Angles w h = record {
  items = every_weaken (WellItem Angles _) (λ i. axis_of i < length w.store.axes) (item_axis Angles _) w.items h.items;
  rows = every_weaken (WellRow Angles _) (λ (f : SignedAxis). f.axis < length w.store.axes) (λ f k. k.0) w.rows h.rows;
}

-- ---- a run

module _ (r : Rules) (rounds : ℕ) (p : Program) (fine : Fine p) (hermitian : (packed p).refused ≡ false) where
  -- the work at the end is well-formed
  pub end_well : WellWork (width p.qubits) (AnglesStay (width p.qubits) r) (end_of r rounds p)
  unfolding end_of
  end_well = passes_well (width p.qubits) r _ (λ g. g) r.strategy rounds (start_of p) (start_well p _ fine hermitian)

  -- every axis is a word
  pub end_words : (a : ℕ) → a < length (end_of r rounds p).store.axes → IsWord (width p.qubits) (word_of (end_of r rounds p).store.axes a)
  end_words = end_well.stored.words

  -- no word is stored twice
  pub end_distinct : (a : ℕ) → a < length (end_of r rounds p).store.axes
      → id_of (end_of r rounds p).store.axes (word_of (end_of r rounds p).store.axes a) ≡ a
  end_distinct = end_well.stored.distinct

  -- the ids of operations and rows are those of axes
  pub end_ids : IdsInRange (end_of r rounds p)
  end_ids = work_ids (width p.qubits) _ (end_of r rounds p) end_well

  -- and their signs are 0 or 2 quarter turns
  pub end_signs : AnglesStay (width p.qubits) r → SignsEven (end_of r rounds p)
  end_signs = work_signs (width p.qubits) _ (end_of r rounds p) end_well

-- ---- a call that is accepted

-- what its results are read from is well-formed
pub accepted_well : (o : Options) (j : Job) (s : Lent) → (rewriting o j s).answer ≡ Accepted
    → WellWork (width (program_of j).qubits) (AnglesStay (width (program_of j).qubits) (rules_of o)) (end_of (rules_of o) o.rounds (program_of j))
accepted_well o j s h =
    end_well (rules_of o) o.rounds (program_of j) (checked_fine o j s (ran o j s Accepted h refl)) (accepted_hermitian o j s h)
