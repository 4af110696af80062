-- T-depth, where it is measured: the model's, and what it leaves of the work in memory. Assumes nothing.
use Rattle.std.specs.Prelude.{◌≡◌, Bool, true, false, List, ℕ}
use Rattle.std.proofs.Math.Path.{refl, ap, ap₂}
use Rattle.std.proofs.Common.{sym, ◌∙◌, subst, arith}
use Rattle.pauli.specs.Word.{width}
use Rattle.model.specs.declared.Options.{Options}
use Rattle.model.specs.Lists.{when◌then◌else◌, any_of, member}
use Rattle.model.specs.Program.{Program}
use Rattle.model.specs.Rules.{rules_of}
use Rattle.model.specs.Items.{Item}
use Rattle.model.specs.Depth.{t_depth}
use Rattle.model.specs.Rounds.{Work}
use Rattle.model.specs.Results.{depth_of}
use Rattle.theory.specs.Cases.{if_true, if_false}
use Rattle.layout.specs.declared.Shape.{Shape}
use Rattle.layout.specs.Rows.{items_row}
use Rattle.layout.specs.Only.{Only, only_none}
use Rattle.axes.specs.declared.Sizes.{Sizes}
use Rattle.axes.specs.Held.{sizes_of, stored_axes, held_rows}
use Rattle.items.specs.View.{item_said, items_in, view_other}
use Rattle.work.specs.Work.{WorkIn, frame_other}
use Rattle.depth.specs.Lists.{level_rows}
use Rattle.depth.specs.Demands.{DepthPre, DepthOf}

-- 0 where it is off
abbrev depth_if : Bool → ℕ → List (List ℕ) → List Item → ℕ
depth_if on l axes items = when on then t_depth l axes items else 0

pub record DepthAs (z : Sizes) (on : Bool) (ws xs : List ℕ) (count r : ℕ) (ys : List ℕ) : Type 0 where
  pub only : Only level_rows z.u xs ys
  pub depth : r ≡ depth_if on z.l (stored_axes z ws) (items_in xs z.u items_row 0 count)

pub depth_asked : {z s : Sizes} {ws xs : List ℕ} {count : ℕ} → s ≡ z → DepthPre z ws xs count → DepthPre s ws xs count
depth_asked {ws = ws} {xs = xs} {count = count} e h = subst (λ (n : Sizes). DepthPre n ws xs count) (sym e) h

pub depth_on : {z : Sizes} {on : Bool} {ws xs : List ℕ} {count r : ℕ} {ys : List ℕ} {s : Sizes} → on ≡ true → s ≡ z
    → DepthOf s ws xs count r ys → DepthAs z on ws xs count r ys
depth_on {ws = ws} {xs = xs} {count = count} {r = r} {ys = ys} e f d =
    let g = subst (λ (n : Sizes). DepthOf n ws xs count r ys) f d in
    record { only = g.only; depth = g.depth ∙ sym (if_true _ _ e) }

pub depth_off : {z : Sizes} {on : Bool} {ws xs : List ℕ} {count : ℕ} → on ≡ false → DepthAs z on ws xs count 0 xs
depth_off e = record { only = only_none _ _ _; depth = sym (if_false _ _ e) }

-- ---- of the work in memory

module _ {z : Shape} {p : Program} {w : Work} {n k peak : ℕ} {ws xs : List ℕ} (work : WorkIn z p w n k peak ws xs) where
  -- its levels stand in rows of their own
  pub work_kept : {ys : List ℕ} → Only level_rows z.u xs ys → WorkIn z p w n k peak ws ys
  unfolding member any_of
  work_kept o = record {
    axes = held_rows work.axes o refl;
    peak_is = work.peak_is;
    within = work.within;
    items = view_other o items_row (omega arith) refl item_said 0 k ∙ work.items;
    fits = work.fits;
    frame = frame_other o refl work.frame;
  }

  pub depth_is : (o : Options) → z.l ≡ width p.qubits → {r : ℕ} {ys : List ℕ}
      → DepthAs (sizes_of z n) o.measure_depth ws xs k r ys → r ≡ depth_of (rules_of o) p w
  unfolding depth_of rules_of
  depth_is o e d =
      let on = o.measure_depth in
      d.depth
      ∙ ap₂ (depth_if on z.l) work.axes.are work.items
      ∙ ap (λ (l : ℕ). depth_if on l w.store.axes w.items) e
