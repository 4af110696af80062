-- 01, "words.rs": a frame row that is no root is kept as it is. That is right: no stream of the run moves it. Assumes nothing.
use Rattle.std.specs.Prelude.{◌≡◌, Bool, false, ℕ, suc, ◌<◌, length}
use Rattle.std.proofs.Math.Path.{ap}
use Rattle.std.proofs.Common.{◌∙◌}
use mathlib.Core.List.{List, [], ◌∷◌, map}
use Rattle.pauli.specs.Word.{width, IsWord, symplectic}
use Rattle.model.specs.Lists.{keep}
use Rattle.model.specs.Program.{Kind, rotate, measure, conditional, Operation, PauliRef, Program}
use Rattle.model.specs.Rules.{Rules}
use Rattle.model.specs.Words.{Value, as_value}
use Rattle.model.specs.Value.{value_at}
use Rattle.model.specs.Roots.{is_root, root_rows, operation_root, roots}
use Rattle.model.specs.Packing.{values_of, packed, SignedAxis, signed_axis}
use Rattle.model.specs.Clifford.{word_image}
use Rattle.model.specs.Items.{Item, stays, drop_zeros}
use Rattle.model.specs.Stream.{Pass, Rowed, carry_axis, stream, carry_rows_from, carry_rows, begin}
use Rattle.model.specs.Exchange.{swaps}
use Rattle.model.specs.Layering.{layer_segment}
use Rattle.model.specs.Rounds.{Work, stream_pass, exchange_pass, layering_pass}
use Rattle.model.specs.Run.{item_of, items_from, start_of}
use Rattle.theory.specs.Cases.{by_if}
use Rattle.theory.specs.Every.{Every, every_append, every_keep, every_left, every_weaken, every_unmap}
use Rattle.theory.specs.Ids.{id_word, Grows, grows_refl, grows_trans, intern_grows}
use Rattle.theory.specs.StreamState.{axis_of}
use Rattle.theory.specs.SegmentAxes.{swaps_has, layer_segment_has, rewrite_segments_in}
use Rattle.theory.specs.PackedRoots.{In, Rooted, packed_rooted}
use Rattle.theory.specs.Checked.{RowIn, Fine}
use Rattle.theory.specs.Hermitian.{in_every, every_in, roots_in}
use Rattle.words_wellformed.specs.StoredWords.{StoredWords}
use Rattle.words_wellformed.specs.RunWords.{TurnsItem}
use Rattle.run_wellformed.specs.Points.{Reached, start, streamed, exchanged, layered, reached_formed, start_formed}
use Rattle.run_wellformed.specs.Signs.{point_well}
use Rattle.kept_rows.specs.Mentions.{node_word, row_commutes}
use Rattle.kept_rows.specs.Unmoved.{FreeAxis, FreeItem, FreeTurn, FreePut, free_more, Unmoved, stream_stays, begin_unmoved}

-- ---- the rows carried at a stream's end lose no axis

module _ (l : ℕ) where
  carry_rows_from_grows : (p : Pass) (done rows : List SignedAxis) → Grows p.store.axes (carry_rows_from l p done rows).pass.store.axes
  unfolding carry_rows_from
  carry_rows_from_grows p done [] = grows_refl _
  carry_rows_from_grows p done (f ∷ rest) = grows_trans one (carry_rows_from_grows (carry_axis l p f.axis) _ rest)
    where
      one : Grows p.store.axes (carry_axis l p f.axis).store.axes
      one = unfold carry_axis in (intern_grows l _ p.store _)

  carry_rows_grows : (p : Pass) (rows : List SignedAxis) → Grows p.store.axes (carry_rows l p rows).pass.store.axes
  unfolding carry_rows
  carry_rows_grows p rows =
      by_if (λ (x : Rowed). Grows p.store.axes x.pass.store.axes) _ _ _ (grows_refl _) (carry_rows_from_grows p [] rows)

-- ---- the passes: items that commute with v become items that commute with v

-- every item of the work has an axis, which commutes with v
abbrev pub FreeWork : ℕ → List ℕ → Work → Type 0
FreeWork l v w = Every (FreeItem l v w.store.axes) w.items

module _ (l : ℕ) (v : List ℕ) (word : IsWord l v) where
  both : (axes : List (List ℕ)) (is : List Item) → Every (FreeItem l v axes) is → Every TurnsItem is → Every (FreeTurn l v axes) is
  both axes [] h t = tt
  both axes (i ∷ is) h t = ((h.0, t.0), both axes is h.1 t.1)

  module _ (r : Rules) where
    -- at the end of a stream v is as it was, and what was put out commutes with it
    pub stream_unmoved : (merging : Bool) (w : Work) → StoredWords l w.store.axes → Every TurnsItem w.items → FreeWork l v w
        → Unmoved l v (stream l r merging (begin w.store) w.items)
    stream_unmoved merging w s t h =
        (stream_stays l v word r merging (begin w.store) w.items (begin_unmoved l v word w.store s)
        (unfold begin in (both w.store.axes w.items h t))).unmoved

    stream_pass_free : (merging : Bool) (w : Work) → StoredWords l w.store.axes → Every TurnsItem w.items → FreeWork l v w
        → FreeWork l v (stream_pass l r merging w)
    unfolding stream_pass drop_zeros
    stream_pass_free merging w s t h =
        let p = stream l r merging (begin w.store) w.items in
        let c = (carry_rows l p w.rows).pass in
        every_weaken (FreePut l v p.store.axes) (FreeItem l v c.store.axes)
        (λ i k. free_more l v (carry_rows_grows l p w.rows) (axis_of i) k.0) (keep stays p.out)
        (every_keep (FreePut l v p.store.axes) stays p.out (stream_unmoved merging w s t h).output)

    exchange_pass_free : (w : Work) → FreeWork l v w → FreeWork l v (exchange_pass l r w)
    unfolding exchange_pass
    exchange_pass_free w h =
        let axes = w.store.axes in
        by_if (FreeWork l v) _ _ _ h
        (rewrite_segments_in (FreeAxis l v axes) (swaps l axes r.exchange)
        (swaps_has (FreeAxis l v axes) l axes r.exchange) w.items h)

    layering_pass_free : (w : Work) → FreeWork l v w → FreeWork l v (layering_pass l w)
    unfolding layering_pass
    layering_pass_free w h =
        let axes = w.store.axes in
        rewrite_segments_in (FreeAxis l v axes) (layer_segment l axes) (layer_segment_has (FreeAxis l v axes) l axes) w.items h

-- ---- the start: items have the axes of operations

module _ (l : ℕ) (v : List ℕ) (axes : List (List ℕ)) where
  item_of_free : (o : ℕ) (kind : Kind) (f : SignedAxis) (k : ℕ) → FreeAxis l v axes f.axis → Every (FreeItem l v axes) (item_of axes o kind f k)
  unfolding item_of
  item_of_free o rotate f k h = by_if (Every (FreeItem l v axes)) _ [] _ tt (h, tt)
  item_of_free o measure f k h = (h, tt)
  item_of_free o conditional f k h = (h, tt)

  items_from_free : (vs : List Value) (o : ℕ) (ops : List Operation)
      → Every (λ (x : Operation). Rooted axes (value_at vs (operation_root x).node) (operation_root x)) ops
      → Every (λ (x : Operation). symplectic l v (value_at vs x.node).word ≡ 0) ops → Every (FreeItem l v axes) (items_from axes vs o ops)
  unfolding items_from
  items_from_free vs o [] h c = tt
  items_from_free vs o (op ∷ ops) h c =
      every_append (FreeItem l v axes) (item_of axes o op.kind (signed_axis axes vs (operation_root op)) op.angle) _
      (item_of_free o op.kind (signed_axis axes vs (operation_root op)) op.angle root) (items_from_free vs (suc o) ops h.1 c.1)
    where
      root : FreeAxis l v axes (signed_axis axes vs (operation_root op)).axis
      root =
          unfold signed_axis operation_root in (
            h.0.stored,
            ap (symplectic l v) (id_word axes (value_at vs op.node).word h.0.stored) ∙ c.0,
          )

-- ---- a run

module _ (p : Program) (fine : Fine p) (hermitian : (packed p).refused ≡ false) (f : PauliRef) (inside : f.node < length p.nodes)
    (kept : is_root p f ≡ false) where
  abbrev l : ℕ
  l = width p.qubits

  abbrev row : List ℕ
  row = (value_at (values_of p) f.node).word

  abbrev RootIn : PauliRef → Type 0
  RootIn r = Rooted (packed p).store.axes (value_at (values_of p) r.node) r

  all_rooted : Every RootIn (roots p)
  all_rooted =
      in_every RootIn (roots p)
      (λ r k. packed_rooted p fine.ordered hermitian r k (every_in (RowIn (length p.nodes)) (roots p) (roots_in p fine) r k))

  start_free : FreeWork l row (start_of p)
  unfolding start_of
  start_free =
      items_from_free l row (packed p).store.axes (values_of p) 0 p.operations
      (every_unmap RootIn operation_root p.operations
      (every_left RootIn (map operation_root p.operations) (root_rows p) (unfold roots in all_rooted)))
      (row_commutes p fine f inside kept)

  module _ (r : Rules) where
    point_turns : {w : Work} → Reached (width p.qubits) r (start_of p) w → Every TurnsItem w.items
    point_turns h = (reached_formed l (length p.operations) r h (start_formed p fine)).turns

    -- at every point of the run, every item commutes with the row
    pub point_free : {w : Work} → Reached (width p.qubits) r (start_of p) w
        → FreeWork (width p.qubits) (value_at (values_of p) f.node).word w
    point_free start = start_free
    point_free (streamed {v} merging h) =
        stream_pass_free l row (node_word p fine f.node inside) r merging v (point_well p fine hermitian r h).stored (point_turns h)
        (point_free h)
    point_free (exchanged {v} h) = exchange_pass_free l row (node_word p fine f.node inside) r v (point_free h)
    point_free (layered {v} h) = layering_pass_free l row (node_word p fine f.node inside) r v (point_free h)

    -- the state at the end of a stream
    point_unmoved : {w : Work} → Reached (width p.qubits) r (start_of p) w → (merging : Bool)
        → Unmoved (width p.qubits) (value_at (values_of p) f.node).word (stream (width p.qubits) r merging (begin w.store) w.items)
    point_unmoved {w} h merging =
        stream_unmoved l row (node_word p fine f.node inside) r merging w (point_well p fine hermitian r h).stored (point_turns h)
        (point_free h)

-- a frame row that is no root is not moved by any stream of the run
pub row_unmoved : (p : Program) → Fine p → (packed p).refused ≡ false → (r : Rules) (f : PauliRef) → In f p.rows → is_root p f ≡ false
    → {v : Work} → Reached (width p.qubits) r (start_of p) v → (merging : Bool)
    → word_image (width p.qubits) (stream (width p.qubits) r merging (begin v.store) v.items).held
    (value_at (values_of p) f.node).word
    ≡ as_value (value_at (values_of p) f.node).word
row_unmoved p fine hermitian r f has kept h merging =
    (point_unmoved p fine hermitian f (every_in (RowIn (length p.nodes)) p.rows fine.rows f has) kept r h merging).same
