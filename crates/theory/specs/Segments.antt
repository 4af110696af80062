-- Exchange and layering leave rotations of the kind that they are given, and barriers as they are. Assumes nothing.
use Rattle.std.specs.Prelude.{◌≡◌, Bool, length}
use Rattle.std.proofs.Math.Path.{refl, sym, ap}
use Rattle.std.proofs.Common.{◌∙◌}
use Rattle.std.proofs.Math.Bool.{true, false}
use Rattle.std.proofs.Math.Option
use Rattle.std.proofs.Math.Option.{Option, none, some, get_or}
use mathlib.Core.List.{List, [], ◌∷◌, ◌++◌, map, append_assoc, append-nil}
use Prim.Native.Nat.{ℕ, zero, suc, ◌+◌, ◌%◌}
use Rattle.model.specs.declared.ExchangeRules.{ExchangeRules}
use Rattle.model.specs.Lists.{keep}
use Rattle.model.specs.Items.{Rot, rot, Item, rotation, barrier, is_nonzero, drop_zero_rots, Segment, end_segment, rewrite_from, rewrite_segments}
use Rattle.model.specs.Exchange.{merge_back, merge_locally, improves, Start, starts, End, ends, Triple, with_ends, with_starts, triples, Swap, swap_of}
use Rattle.model.specs.Exchange.{try_exchange, first_with_second, second_with_third, try_triple, RunEnd, run_end_from, Swapping, next_start, run_end, swap_step}
use Rattle.model.specs.Exchange.{swaps_from, swaps}
use Rattle.model.specs.Layering.{merge_into, Layers, Shift, join_layer, join_layers, move_rotation, move_rotations, sweep_from, sweep, drop_zero_layers}
use Rattle.model.specs.Layering.{sweeps_from, height, layer_segment}
use Rattle.theory.specs.Cases.{by_if, on_if}
use Rattle.theory.specs.TieOrder.{try_triple_either}
use Rattle.theory.specs.Every.{Every, every_append, every_one, every_take, every_keep, every_reverse, every_flatten, every_map}
use Rattle.theory.specs.StreamState.{barriers_of, barriers_of_append}

-- rotations have S while they merge, and R once zeros are removed
pub record KeptByMerging (S R : Rot → Type 0) : Type 0 where
  pub weaken : (r : Rot) → R r → S r
  pub merge : (d r : Rot) → S d → S r → S (rot d.axis ((d.angle + r.angle) % 8))
  pub nonzero : (r : Rot) → S r → is_nonzero r ≡ true → R r

module _ (S R : Rot → Type 0) (kept : KeptByMerging S R) where
  abbrev pub AllS : List Rot → Type 0
  AllS = Every S

  abbrev pub AllR : List Rot → Type 0
  AllR = Every R

  weaken_all : (rs : List Rot) → AllR rs → AllS rs
  weaken_all [] h = tt
  weaken_all (r ∷ rs) h = (kept.weaken r h.0, weaken_all rs h.1)

  drop_zero_rots_by : (rs : List Rot) → AllS rs → AllR (drop_zero_rots rs)
  unfolding drop_zero_rots keep
  drop_zero_rots_by [] h = tt
  drop_zero_rots_by (r ∷ rs) h =
      on_if AllR (is_nonzero r) (r ∷ keep is_nonzero rs) (keep is_nonzero rs)
      (λ e. (kept.nonzero r h.0 e, drop_zero_rots_by rs h.1)) (λ e. drop_zero_rots_by rs h.1)

  -- ---- a trial of the exchange

  abbrev Found : Option (List Rot) → Type 0
  Found none = Unit {0}
  Found (some ds) = AllS ds

  behind : (d : Rot) (o : Option (List Rot)) → S d → Found o → Found (Option.map (λ ds. d ∷ ds) o)
  behind d none h k = tt
  behind d (some ds) h k = (h, k)

  found_or : (o : Option (List Rot)) (ds : List Rot) → Found o → AllS ds → AllS (get_or o ds)
  found_or none ds h k = k
  found_or (some es) ds h k = h

  module _ (l : ℕ) (axes : List (List ℕ)) where
    merge_back_by : (done : List Rot) (r : Rot) → AllS done → S r → Found (merge_back l axes done r)
    unfolding merge_back
    merge_back_by [] r h g = tt
    merge_back_by (d ∷ before) r h g =
        let further = behind d (merge_back l axes before r) h.0 (merge_back_by before r h.1 g) in
        by_if Found _ _ _ further (by_if Found _ _ _ (kept.merge d r h.0 g, h.1) (by_if Found _ _ _ tt further))

    merge_locally_by : (done rest : List Rot) → AllS done → AllS rest → AllS (merge_locally l axes done rest)
    unfolding merge_locally
    merge_locally_by done [] h k = every_reverse S done h
    merge_locally_by done (r ∷ rest) h k =
        merge_locally_by (get_or (merge_back l axes done r) (r ∷ done)) rest
        (found_or (merge_back l axes done r) (r ∷ done) (merge_back_by done r h k.0) (k.0, h)) k.1

    abbrev Improved : Option (List Rot) → Type 0
    Improved none = Unit {0}
    Improved (some new) = AllR new

    improves_by : (eager : Bool) (trial old : List Rot) → AllR trial → Improved (improves l axes eager trial old)
    unfolding improves
    improves_by eager trial old h =
        by_if Improved _ _ _ (drop_zero_rots_by (merge_locally l axes [] trial) (merge_locally_by [] trial tt (weaken_all trial h))) tt

  -- ---- cuts and triples

  abbrev StartR : Start → Type 0
  StartR s = AllR s.skipped × AllR s.suffix

  starts_by : (before rest : List Rot) → AllR before → AllR rest → Every StartR (starts before rest)
  unfolding starts
  starts_by before [] h k = tt
  starts_by before (r ∷ rest) h k = ((h, k), starts_by (before ++ (r ∷ [])) rest (every_one R before r h k.0) k.1)

  abbrev EndR : End → Type 0
  EndR e = AllR e.prefix × AllR e.remainder

  ends_by : (before rest : List Rot) → AllR before → AllR rest → Every EndR (ends before rest)
  unfolding ends
  ends_by before [] h k = tt
  ends_by before (r ∷ rest) h k =
      let one = every_one R before r h k.0 in
      every_one EndR (ends (before ++ (r ∷ [])) rest) (record { prefix = before ++ (r ∷ []); remainder = rest })
      (ends_by (before ++ (r ∷ [])) rest one k.1) (one, k.1)

  abbrev TripleR : Triple → Type 0
  TripleR t = AllR t.skipped × AllR t.first × AllR t.second × AllR t.third × AllR t.remainder

  with_ends_by : (b : List Rot) (s : Start) (es : List End) → AllR b → StartR s → Every EndR es → Every TripleR (with_ends b s es)
  unfolding with_ends
  with_ends_by b s [] hb hs he = tt
  with_ends_by b s (e ∷ es) hb hs he = ((hs.0, hs.1, hb, he.0.0, he.0.1), with_ends_by b s es hb hs he.1)

  with_starts_by : (b : List Rot) (ss : List Start) (es : List End) → AllR b → Every StartR ss → Every EndR es → Every TripleR (with_starts b ss es)
  unfolding with_starts
  with_starts_by b [] es hb hs he = tt
  with_starts_by b (s ∷ ss) es hb hs he =
      every_append TripleR (with_ends b s es) (with_starts b ss es) (with_ends_by b s es hb hs.0 he) (with_starts_by b ss es hb hs.1 he)

  triples_by : (candidates : ℕ) (a b c : List Rot) → AllR a → AllR b → AllR c → Every TripleR (triples candidates a b c)
  unfolding triples
  triples_by candidates a b c ha hb hc =
      every_take TripleR (suc candidates) (with_starts b (starts [] a) (ends [] c))
      (with_starts_by b (starts [] a) (ends [] c) hb (starts_by [] a tt ha) (ends_by [] c tt hc))

  -- ---- swaps

  abbrev SwapR : Option Swap → Type 0
  SwapR none = Unit {0}
  SwapR (some s) = AllR s.skipped × AllR s.new × AllR s.remainder

  module _ (l : ℕ) (axes : List (List ℕ)) (rules : ExchangeRules) where
    made_by : (t : Triple) (o : Option (List Rot)) → TripleR t → Improved l axes o → SwapR (Option.map (swap_of t) o)
    made_by t none h g = tt
    made_by t (some new) h g = (h.0, g, h.4)

    try_exchange_by : (t : Triple) (g h trial : List Rot) → TripleR t → AllR trial → SwapR (try_exchange l axes rules t g h trial)
    unfolding try_exchange
    try_exchange_by t g h trial k f =
        let old = t.first ++ (t.second ++ t.third) in
        by_if SwapR _ _ _ (made_by t (improves l axes rules.eager trial old) k (improves_by l axes rules.eager trial old f)) tt

    first_with_second_by : (t : Triple) → TripleR t → SwapR (first_with_second l axes rules t)
    unfolding first_with_second
    first_with_second_by t k =
        try_exchange_by t _ _ _ k (every_append R t.second (t.first ++ t.third) k.2 (every_append R t.first t.third k.1 k.3))

    second_with_third_by : (t : Triple) → TripleR t → SwapR (second_with_third l axes rules t)
    unfolding second_with_third
    second_with_third_by t k =
        try_exchange_by t _ _ _ k (every_append R t.first (t.third ++ t.second) k.1 (every_append R t.third t.second k.3 k.2))

    try_triple_by : (ts : List Triple) → Every TripleR ts → SwapR (try_triple l axes rules ts)
    try_triple_by = try_triple_either l axes rules SwapR TripleR tt first_with_second_by second_with_third_by

  abbrev RunEndR : RunEnd → Type 0
  RunEndR x = AllR x.run × AllR x.rest

  run_end_from_by : (l : ℕ) (axes : List (List ℕ)) (window : ℕ) (taken rest : List Rot) → AllR taken → AllR rest
      → RunEndR (run_end_from l axes window taken rest)
  unfolding run_end_from
  run_end_from_by l axes window taken [] h k = (h, tt)
  run_end_from_by l axes window taken (r ∷ rest) h k =
      by_if RunEndR _ _ _ (run_end_from_by l axes window (taken ++ (r ∷ [])) rest (every_one R taken r h k.0) k.1) (h, k)

  abbrev SwappingR : Swapping → Type 0
  SwappingR s = AllR s.done × AllR s.rest

  next_start_by : (first third : RunEnd) (s : Swapping) (o : Option Swap) → RunEndR first → RunEndR third → SwappingR s → SwapR o
      → SwappingR (next_start first third s o)
  unfolding next_start
  next_start_by first third s none ha hc hs ho = (every_append R s.done first.run hs.0 ha.0, ha.1)
  next_start_by first third s (some x) ha hc hs ho = (
    every_append R s.done (x.skipped ++ x.new) hs.0 (every_append R x.skipped x.new ho.0 ho.1),
    every_append R x.remainder third.rest ho.2 hc.1,
  )

  module _ (l : ℕ) (axes : List (List ℕ)) (rules : ExchangeRules) where
    run_end_by : (rest : List Rot) → AllR rest → RunEndR (run_end l axes rules.window rest)
    unfolding run_end
    run_end_by rest h = run_end_from_by l axes rules.window [] rest tt h

    -- a swap, or none
    swap_step_by : (s : Swapping) → Every R s.done × Every R s.rest
        → Every R (swap_step l axes rules s).done × Every R (swap_step l axes rules s).rest
    unfolding swap_step
    swap_step_by s h =
        let run = run_end l axes rules.window in
        let first = run s.rest in
        let second = run first.rest in
        let third = run second.rest in
        let ha = run_end_by s.rest h.1 in
        let hb = run_end_by first.rest ha.1 in
        let hc = run_end_by second.rest hb.1 in
        let ts = triples rules.candidates first.run second.run third.run in
        next_start_by first third s (try_triple l axes rules ts) ha hc h
        (try_triple_by l axes rules ts (triples_by rules.candidates first.run second.run third.run ha.0 hb.0 hc.0))

    -- all swaps of a segment
    swaps_from_by : (k : ℕ) (s : Swapping) → Every R s.done × Every R s.rest
        → Every R (swaps_from l axes rules k s).done × Every R (swaps_from l axes rules k s).rest
    unfolding swaps_from
    swaps_from_by zero s h = h
    swaps_from_by (suc k) s h = by_if SwappingR _ _ _ h (swaps_from_by k (swap_step l axes rules s) (swap_step_by s h))

    -- an exchange leaves rotations of the kind it is given
    pub swaps_by : (rots : List Rot) → Every R rots → Every R (swaps l axes rules rots).rots
    unfolding swaps
    swaps_by rots h =
        let s : Swapping = record { done = []; found = 0; rest = rots } in
        let e = swaps_from l axes rules (length rots) s in
        let k = swaps_from_by (length rots) s (tt, h) in
        every_append R e.done e.rest k.0 k.1

  -- ---- layers: zeros leave at a sweep's end, and there is one sweep at least

  abbrev pub LayersS : List (List Rot) → Type 0
  LayersS = Every AllS

  -- a rotation merges into a layer, or is laid behind it
  pub merge_into_by : (layer : List Rot) (r : Rot) → AllS layer → S r → AllS (merge_into layer r)
  unfolding merge_into
  merge_into_by [] r h k = (k, tt)
  merge_into_by (x ∷ layer) r h k =
      by_if AllS _ _ (x ∷ merge_into layer r) (kept.merge x r h.0 k, h.1) (h.0, merge_into_by layer r h.1 k)

  module _ (l : ℕ) (axes : List (List ℕ)) where
    abbrev pub JoinedS : Layers → Type 0
    JoinedS s = LayersS s.done × AllS s.layer

    -- a rotation joins the last layer, or opens one
    pub join_layer_by : (s : Layers) (r : Rot) → JoinedS s → S r → JoinedS (join_layer l axes s r)
    unfolding join_layer
    join_layer_by s r h k =
        by_if JoinedS _ _ _ (h.0, merge_into_by s.layer r h.1 k) (every_one AllS s.done s.layer h.0 h.1, (k, tt))

    pub join_layers_by : (s : Layers) (rs : List Rot) → JoinedS s → AllS rs → JoinedS (join_layers l axes s rs)
    unfolding join_layers
    join_layers_by s [] h k = h
    join_layers_by s (r ∷ rs) h k = join_layers_by (join_layer l axes s r) rs (join_layer_by s r h k.0) k.1

    abbrev pub ShiftS : Shift → Type 0
    ShiftS s = AllS s.layer × AllS s.stay

    -- a rotation moves to the layer before, or stays
    pub move_rotation_by : (s : Shift) (r : Rot) → ShiftS s → S r → ShiftS (move_rotation l axes s r)
    unfolding move_rotation
    move_rotation_by s r h k = by_if ShiftS _ _ _ (merge_into_by s.layer r h.0 k, h.1) (h.0, every_one S s.stay r h.1 k)

    pub move_rotations_by : (s : Shift) (rs : List Rot) → ShiftS s → AllS rs → ShiftS (move_rotations l axes s rs)
    unfolding move_rotations
    move_rotations_by s [] h k = h
    move_rotations_by s (r ∷ rs) h k = move_rotations_by (move_rotation l axes s r) rs (move_rotation_by s r h k.0) k.1

    -- a sweep leaves layers of the kind
    pub sweep_from_by : (layer : List Rot) (n : ℕ) (b : Bool) (ls : List (List Rot)) → AllS layer → LayersS ls
        → LayersS (sweep_from l axes layer n b ls).layers
    unfolding sweep_from
    sweep_from_by layer n b [] h k = (h, tt)
    sweep_from_by layer n b (next ∷ ls) h k =
        let s : Shift = record { layer = layer; stay = []; merged = n; moved = b } in
        let q = move_rotations l axes s next in
        let g = move_rotations_by s next (h, tt) k.0 in
        (g.0, sweep_from_by q.stay q.merged q.moved ls g.1 k.1)

    pub sweep_by : (n : ℕ) (ls : List (List Rot)) → LayersS ls → LayersS (sweep l axes n ls).layers
    unfolding sweep
    sweep_by n [] h = tt
    sweep_by n (layer ∷ ls) h = sweep_from_by layer n false ls h.0 h.1

    -- zeros leave at its end
    pub zeros_by : (ls : List (List Rot)) → LayersS ls → Every AllR (map drop_zero_rots ls)
    zeros_by [] h = tt
    zeros_by (layer ∷ ls) h = (drop_zero_rots_by layer h.0, zeros_by ls h.1)

    weaken_layers : (ls : List (List Rot)) → Every AllR ls → LayersS ls
    weaken_layers [] h = tt
    weaken_layers (layer ∷ ls) h = (weaken_all layer h.0, weaken_layers ls h.1)

    -- after a sweep
    swept_by : (n : ℕ) (ls : List (List Rot)) → LayersS ls → Every AllR (drop_zero_layers (sweep l axes n ls).layers)
    unfolding drop_zero_layers
    swept_by n ls h = every_keep AllR _ (map drop_zero_rots (sweep l axes n ls).layers) (zeros_by (sweep l axes n ls).layers (sweep_by n ls h))

    sweeps_from_by : (k : ℕ) (going : Bool) (n : ℕ) (ls : List (List Rot)) → Every AllR ls → AllR (sweeps_from l axes k going n ls).rots
    unfolding sweeps_from
    sweeps_from_by zero going n ls h = every_flatten R ls h
    sweeps_from_by (suc k) false n ls h = every_flatten R ls h
    sweeps_from_by (suc k) true n ls h =
        let s = sweep l axes n ls in
        sweeps_from_by k s.moved s.merged (drop_zero_layers s.layers) (swept_by n ls (weaken_layers ls h))

    -- and so does layering
    pub layer_segment_by : (rots : List Rot) → Every R rots → Every R (layer_segment l axes rots).rots
    unfolding layer_segment sweeps_from
    layer_segment_by [] h = tt
    layer_segment_by (r ∷ rest) h =
        let z : Layers = record { done = []; layer = r ∷ []; merged = 0 } in
        let s = join_layers l axes z rest in
        let g = join_layers_by z rest (tt, (kept.weaken r h.0, tt)) (weaken_all rest h.1) in
        let ls = s.done ++ (s.layer ∷ []) in
        let t = sweep l axes s.merged ls in
        sweeps_from_by (height ls) t.moved t.merged (drop_zero_layers t.layers)
        (swept_by s.merged ls (every_one AllS s.done s.layer g.0 g.1))

-- ---- segments: an item is of kind I, a rotation of it is one of kind R

module _ (R : Rot → Type 0) (I : Item → Type 0) (into : (r : Rot) → R r → I (rotation r)) (from : (r : Rot) → I (rotation r) → R r) where
  module _ (f : List Rot → Segment) (stays : (segment : List Rot) → Every R segment → Every R (f segment).rots) where
    end_segment_every : (done : List Item) (segment : List Rot) → Every I done → Every R segment → Every I (end_segment f done segment)
    unfolding end_segment
    end_segment_every done segment h k =
        every_append I done (map rotation (f segment).rots) h (every_map R I rotation into (f segment).rots (stays segment k))

    rewrite_from_every : (done : List Item) (segment : List Rot) (c : ℕ) (is : List Item) → Every I done → Every R segment → Every I is
        → Every I (rewrite_from f done segment c is).items
    unfolding rewrite_from
    rewrite_from_every done segment c [] h k g = end_segment_every done segment h k
    rewrite_from_every done segment c (rotation r ∷ is) h k g =
        rewrite_from_every done (segment ++ (r ∷ [])) c is h (every_one R segment r k (from r g.0)) g.1
    rewrite_from_every done segment c (barrier o a s ∷ is) h k g =
        rewrite_from_every (end_segment f done segment ++ (barrier o a s ∷ [])) [] (c + (f segment).changes) is
        (every_one I (end_segment f done segment) (barrier o a s) (end_segment_every done segment h k) g.0) tt g.1

    -- what keeps the kind in each segment keeps it in all items
    pub rewrite_segments_every : (is : List Item) → Every I is → Every I (rewrite_segments f is).items
    unfolding rewrite_segments
    rewrite_segments_every is h = rewrite_from_every [] [] 0 is tt tt h

-- ---- barriers

rotations_barriers : (rs : List Rot) → barriers_of (map rotation rs) ≡ []
unfolding barriers_of
rotations_barriers [] = refl
rotations_barriers (r ∷ rs) = rotations_barriers rs

module _ (f : List Rot → Segment) where
  end_segment_barriers : (done : List Item) (seg : List Rot) → barriers_of (end_segment f done seg) ≡ barriers_of done
  unfolding end_segment
  end_segment_barriers done seg =
      barriers_of_append done (map rotation (f seg).rots) ∙ ap (λ (x : List ℕ). barriers_of done ++ x) (rotations_barriers (f seg).rots)
      ∙ append-nil
      (barriers_of done)

  rewrite_from_barriers : (done : List Item) (seg : List Rot) (c : ℕ) (is : List Item) → barriers_of
      (rewrite_from f done seg c is).items ≡ barriers_of done ++ barriers_of is
  unfolding rewrite_from barriers_of
  rewrite_from_barriers done seg c [] = end_segment_barriers done seg ∙ sym (append-nil (barriers_of done))
  rewrite_from_barriers done seg c (rotation r ∷ is) = rewrite_from_barriers done (seg ++ (r ∷ [])) c is
  rewrite_from_barriers done seg c (barrier o a s ∷ is) =
      rewrite_from_barriers (end_segment f done seg ++ (barrier o a s ∷ [])) [] (c + (f seg).changes) is
      ∙ ap (λ (x : List ℕ). x ++ barriers_of is)
      (barriers_of_append (end_segment f done seg) (barrier o a s ∷ []) ∙ ap (λ (x : List ℕ). x ++ (o ∷ [])) (end_segment_barriers done seg))
      ∙ append_assoc (barriers_of done) (o ∷ []) (barriers_of is)

  -- the barriers that come out are those that went in, in order
  pub rewrite_segments_barriers : (is : List Item) → barriers_of (rewrite_segments f is).items ≡ barriers_of is
  unfolding rewrite_segments
  rewrite_segments_barriers is = rewrite_from_barriers [] [] 0 is ∙ unfold barriers_of in refl
