-- At the end of a run: what counting asks is granted, and what it counts are 01's counters. Assumes nothing.
use Rattle.std.specs.Prelude.{◌≡◌, refl, ℕ, ◌+◌, ◌<◌}
use Rattle.std.proofs.Math.Path.{sym, ap}
use Rattle.std.proofs.Common.{ap₂, ◌∙◌, arith}
use mathlib.Core.List.{List, [], ◌∷◌, map}
use Rattle.std.proofs.Math.ListN.{length, get_or}
use Rattle.model.specs.Lists.{count_of, sum_of}
use Rattle.model.specs.Program.{Operation, Program}
use Rattle.model.specs.Words.{word_of}
use Rattle.model.specs.Value.{value_at}
use Rattle.model.specs.Packing.{values_of}
use Rattle.model.specs.Items.{rot, Item, rotation, is_rotation}
use Rattle.model.specs.Rounds.{Work}
use Rattle.model.specs.Results.{item_record, operation_results, source_t_count, result_t_count, source_rotations, source_weight, item_weight}
use Rattle.theory.specs.Every.{Every, every_at}
use Rattle.theory.specs.StreamState.{axis_of, AllIn, barriers_of}
use Rattle.layout.specs.declared.Shape.{Shape}
use Rattle.layout.specs.Rows.{items_row}
use Rattle.layout.specs.Shape.{Granted}
use Rattle.axes.specs.View.{axes_of}
use Rattle.axes.specs.Held.{sizes_of, HoldsAxes, held_count, held_axis}
use Rattle.records.specs.Operations.{operations_in, operation_here}
use Rattle.records.specs.Given.{Given, program_in, operations_in_lem, width_in}
use Rattle.items.specs.declared.Tagged.{Tagged}
use Rattle.items.specs.View.{tagged_at, item_said, said_axis, items_in, view_at_0, view_length}
use Rattle.work.specs.Rows.{root_at}
use Rattle.work.specs.Work.{WorkIn}
use Rattle.results.specs.Barriers.{BarrierOf}
use Rattle.results.specs.Ended.{items_pre, tags_small}
use Rattle.counters.specs.Total.{total}
use Rattle.counters.specs.After.{TCountAfter}
use Rattle.counters.specs.Weight.{WeightPre, WeightAfter, AxesTo, weight_said, weights_are}
use Rattle.counters.specs.SourceWeight.{SourcePre, RootsTo, WeightBefore, source_said, source_weight_lem}

sum_same : {A : Type 0} (f g : A → ℕ) (xs : List A) → ((x : A) → f x ≡ g x) → sum_of f xs ≡ sum_of g xs
unfolding sum_of
sum_same f g [] h = refl
sum_same f g (x ∷ xs) h = ap₂ (λ (a b : ℕ). a + b) (h x) (sum_same f g xs h)

-- ---- before

module _ (z : Shape) (ns os rs : List ℕ) where
  pub t_before_is : {m : ℕ} → m ≡ source_t_count (operations_in z.operations os) → m ≡ source_t_count (program_in z ns os rs).operations
  t_before_is e = e ∙ ap source_t_count (sym (operations_in_lem z ns os rs))

  pub rotations_before_is : {m : ℕ} → m ≡ source_rotations (operations_in z.operations os)
      → m ≡ source_rotations (program_in z ns os rs).operations
  rotations_before_is e = e ∙ ap source_rotations (sym (operations_in_lem z ns os rs))

-- the stores hold axes, and among them is every operation's
module _ {z : Shape} {ns os rs : List ℕ} (given : Given z ns os rs) {ws xs : List ℕ} (granted : Granted z ws xs)
    {n : ℕ} {axes : List (List ℕ)} (held : HoldsAxes (sizes_of z n) ws xs axes) (roots : RootsTo xs z.u z.operations n) where
  pub source_pre : SourcePre z os ws xs
  source_pre =
      let a = granted.sized.row in
      record {
        long = granted.numbers_long;
        fits = omega arith;
        small = granted.sized.operations;
        few = granted.sized.few;
        records = given.operations_long;
        words = λ i h. held_axis held (root_at xs z.u i).axis (roots i h);
      }

  -- every operation's axis is its node's word
  pub weight_before_is : {m : ℕ}
      → ((i : ℕ) → i < z.operations → word_of axes (root_at xs z.u i).axis
      ≡ (value_at (values_of (program_in z ns os rs)) (operation_here os i).node).word)
      → WeightBefore os ws xs z.u z.l z.operations m → m ≡ source_weight (program_in z ns os rs)
  weight_before_is words b =
      let p = program_in z ns os rs in
      b n roots
      ∙ ap₂ (λ (k : ℕ) (a : List (List ℕ)). total (source_said k a os xs z.u) 0 z.operations) (width_in ns os rs granted) held.are
      ∙ source_weight_lem p axes os xs z.u z.operations (operations_in_lem z ns os rs) words

-- ---- after

module _ {z : Shape} {ns os rs : List ℕ} (given : Given z ns os rs) {w : Work} {n k peak : ℕ} {ws xs : List ℕ}
    (granted : Granted z ws xs) (work : WorkIn z (program_in z ns os rs) w n k peak ws xs)
    (barriers : Every (BarrierOf (program_in z ns os rs).operations) (barriers_of w.items)) where
  abbrev p : Program
  p = program_in z ns os rs

  pub t_after_is : {m : ℕ} → TCountAfter os xs z.u k m → m ≡ result_t_count (operation_results p w)
  unfolding operation_results
  t_after_is e =
      e z.operations (tags_small given granted work barriers)
      ∙ ap (λ (ops : List Operation). result_t_count (map (item_record ops) (items_in xs z.u items_row 0 k)))
      (sym (operations_in_lem z ns os rs))
      ∙ ap (λ (is : List Item). result_t_count (map (item_record p.operations) is)) work.items

  pub rotations_after_is : {m : ℕ} → m ≡ count_of is_rotation (items_in xs z.u items_row 0 k) → m ≡ count_of is_rotation w.items
  rotations_after_is e = e ∙ ap (count_of is_rotation) work.items

  module _ (range : AllIn (length w.store.axes) w.items) where
    entry_axis : AxesTo xs z.u k n
    unfolding item_said
    entry_axis i h =
        let x : Tagged = tagged_at xs z.u items_row i in
        let d : Item = rotation (rot 0 0) in
        let l : i < length w.items = omega (arith, sym (ap length work.items) ∙ view_length item_said xs z.u items_row 0 k) in
        let a = every_at (λ (y : Item). axis_of y < length w.store.axes) w.items d i range l in
        let e : get_or w.items i d ≡ item_said x =
        sym (ap (λ (is : List Item). get_or is i d) work.items) ∙ view_at_0 item_said xs z.u items_row k i d h in
        let f : axis_of (get_or w.items i d) ≡ x.axis = ap axis_of e ∙ said_axis x in
        omega (arith, a, f, held_count work.axes)

    pub weight_pre : WeightPre os ws xs z.u z.l k
    weight_pre =
        let a = work.fits in
        let b = granted.sized.operations in
        record {
          items = items_pre given granted work barriers;
          small = omega arith;
          few = granted.sized.few;
          words = λ i h. held_axis work.axes (tagged_at xs z.u items_row i).axis (entry_axis i h);
        }

    pub weight_after_is : {m : ℕ} → WeightAfter os ws xs z.u z.l k m → m ≡ sum_of (item_weight p w) w.items
    weight_after_is e =
        e z.operations n (tags_small given granted work barriers) entry_axis
        ∙ ap (λ (ops : List Operation). sum_of (weight_said z.l ops (axes_of z.l n ws)) (items_in xs z.u items_row 0 k))
        (sym (operations_in_lem z ns os rs))
        ∙ ap (λ (axes : List (List ℕ)). sum_of (weight_said z.l p.operations axes) (items_in xs z.u items_row 0 k)) work.axes.are
        ∙ ap (sum_of (weight_said z.l p.operations w.store.axes)) work.items
        ∙ ap (λ (m : ℕ). sum_of (weight_said m p.operations w.store.axes) w.items) (width_in ns os rs granted)
        ∙ sum_same _ _ w.items (weights_are p w)
