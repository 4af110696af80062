-- What the code leaves is the model's layering pass. Assumes nothing.
use Rattle.std.specs.Prelude.{◌≡◌, List, ℕ, ◌+◌}
use Rattle.std.proofs.Common.{sym, ap, ap₂, ◌∙◌}
use Rattle.model.specs.Items.{Item, Rewritten, rewrite_segments}
use Rattle.model.specs.Layering.{layer_segment}
use Rattle.model.specs.Rounds.{Work, layering_pass}
use Rattle.layout.specs.Rows.{items_row}
use Rattle.axes.specs.declared.Sizes.{Sizes}
use Rattle.axes.specs.Held.{HoldsAxes}
use Rattle.items.specs.View.{items_in}
use Rattle.layering.specs.declared.Layering.{Layering}
use Rattle.layering.specs.Demands.{LayeredAs}

-- the stores hold the axes and the items of w before
pub layered_pass : {z : Sizes} {ws s : List ℕ} {count : ℕ} {r : Layering} {t : List ℕ} → LayeredAs z ws s count r t
    → (w : Work) → HoldsAxes z ws s w.store.axes → w.items ≡ items_in s z.u items_row 0 count
    → layering_pass z.l w ≡ record {
      store = w.store;
      items = items_in t z.u items_row 0 r.out;
      rows = w.rows;
      merges = w.merges + r.merged;
      swaps = w.swaps;
      absorbed = w.absorbed;
    }
unfolding layering_pass
layered_pass {z} a w h e =
    ap (λ (q : Rewritten). record {
      store = w.store;
      items = q.items;
      rows = w.rows;
      merges = w.merges + q.changes;
      swaps = w.swaps;
      absorbed = w.absorbed;
    })
    (ap₂ (λ (axes : List (List ℕ)) (items : List Item). rewrite_segments (layer_segment z.l axes) items) (sym h.are) e ∙ a.layered)
