-- 02, M-113: what renaming leaves of the operations that come out, words in place of ids. Assumes nothing.
use Rattle.std.specs.Prelude.{◌≡◌, refl, ℕ}
use Rattle.std.proofs.Math.Path.{ap}
use Rattle.std.proofs.Common.{ap₂, ◌∙◌}
use mathlib.Core.List.{List, [], ◌∷◌, map}
use Rattle.model.specs.Program.{Kind, rotate, measure, conditional, Operation}
use Rattle.model.specs.Items.{Item, rotation, barrier}
use Rattle.model.specs.Results.{operation_at, barrier_record, item_record}
use Rattle.theory.specs.Every.{Every}
use Rattle.result_effect.specs.Records.{Stops, ItemStands}
use Rattle.cutting.specs.Renaming.{Renames, renamed}
use Rattle.cutting.specs.Worded.{WordedOperation, with_word, worded, worded_all}

-- ---- renamed

module _ (A C : List (List ℕ)) (ρ τ : ℕ → ℕ) (h : Renames A C ρ) (ops ops' : List Operation)
    (there : (o : ℕ) → operation_at ops' (τ o) ≡ operation_at ops o) where
  barrier_worded : (op : Operation) (kind : Kind) (a s : ℕ) → Stops kind
      → worded C (barrier_record op kind (ρ a) s) ≡ worded A (barrier_record op kind a s)
  unfolding with_word barrier_record
  barrier_worded op rotate a s k = absurd k
  barrier_worded op measure a s k = ap (λ (w : List ℕ). with_word w (barrier_record op measure a s)) (h.words a)
  barrier_worded op conditional a s k = ap (λ (w : List ℕ). with_word w (barrier_record op conditional a s)) (h.words a)

  item_worded : (i : Item) → ItemStands ops i → worded C (item_record ops' (renamed ρ τ i)) ≡ worded A (item_record ops i)
  unfolding with_word item_record
  item_worded (rotation r) k = ap (λ (w : List ℕ). with_word w (item_record ops (rotation r))) (h.words r.axis)
  item_worded (barrier o a s) k =
      ap (λ (op : Operation). worded C (barrier_record op op.kind (ρ a) s)) (there o)
      ∙ barrier_worded (operation_at ops o) (operation_at ops o).kind a s k.0

  -- renamed items say what the items say
  pub items_worded : (is : List Item) → Every (ItemStands ops) is
      → worded_all C (map (item_record ops') (map (renamed ρ τ) is)) ≡ worded_all A (map (item_record ops) is)
  items_worded [] k = refl
  items_worded (i ∷ is) k = ap₂ (λ (x : WordedOperation) (xs : List WordedOperation). x ∷ xs) (item_worded i k.0) (items_worded is k.1)
