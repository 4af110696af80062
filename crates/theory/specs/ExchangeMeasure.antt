-- An exchange leaves no more than was there, by any measure of angles. Assumes nothing.
use Rattle.std.specs.Prelude.{◌≡◌, Bool, length}
use Rattle.std.proofs.Math.Path.{refl}
use Rattle.std.proofs.Common.{sym, ◌∙◌, le_trans}
use Rattle.std.proofs.Math.Option
use Rattle.std.proofs.Math.Option.{Option, none, some, get_or}
use mathlib.Core.List.{List, [], ◌∷◌, ◌++◌, map}
use Prim.Native.Nat.{ℕ, zero, suc, ◌+◌, ◌%◌, ◌≤◌}
use Rattle.std.proofs.Math.Nat.{le_refl}
use native.Mathlib.Omega.{arith}
use Rattle.model.specs.Lists.{sum_of}
use Rattle.model.specs.declared.ExchangeRules.{ExchangeRules}
use Rattle.model.specs.Rules.{Rules}
use Rattle.model.specs.Items.{Rot, rot, Item, rotation, barrier, is_nonzero, drop_zero_rots, Segment, end_segment, rewrite_from, rewrite_segments}
use Rattle.model.specs.Exchange.{merge_back, merge_locally, improves, Start, starts, End, ends, Triple, with_ends, with_starts, triples, Swap, swap_of}
use Rattle.model.specs.Exchange.{try_exchange, first_with_second, second_with_third, try_triple, RunEnd, run_end_from, run_end, Swapping, next_start, swap_step}
use Rattle.model.specs.Exchange.{swaps_from, swaps}
use Rattle.model.specs.Rounds.{Work, exchange_pass}
use Rattle.theory.specs.Cases.{by_if}
use Rattle.theory.specs.TieOrder.{try_triple_either}
use Rattle.theory.specs.Every.{Every, every_append, every_take}
use Rattle.theory.specs.Measure.{Measure, size_of, size_of_rots, size_of_nil, size_of_append, size_of_rotations, rots_nil, rots_append, rots_one}
use Rattle.theory.specs.Measure.{rots_cons}
use Rattle.theory.specs.Measure.{rots_keep, rots_reverse}

module _ (m : ℕ → ℕ) (law : Measure m) where
  -- the measure of what a swap leaves
  unfoldable pub t_swap : Swap → ℕ
  t_swap s = size_of_rots m s.skipped + size_of_rots m s.new + size_of_rots m s.remainder

  -- of a triple
  unfoldable pub t_triple : Triple → ℕ
  t_triple t = size_of_rots m t.skipped + (size_of_rots m t.first + size_of_rots m t.second + size_of_rots m t.third) + size_of_rots m t.remainder

  -- a swap that leaves at most n
  abbrev pub AtMost : ℕ → Option Swap → Type 0
  AtMost n none = Unit {0}
  AtMost n (some s) = t_swap s ≤ n

  abbrev Below : ℕ → Option (List Rot) → Type 0
  Below n none = Unit {0}
  Below n (some new) = size_of_rots m new ≤ n

  -- ---- local merging

  behind_no_more : (d : Rot) (n : ℕ) (o : Option (List Rot)) → Below n o → Below (m d.angle + n) (Option.map (λ ds. d ∷ ds) o)
  behind_no_more d n none h = tt
  behind_no_more d n (some ds) h = omega (arith, rots_cons m d ds)

  merge_back_no_more : (l : ℕ) (axes : List (List ℕ)) (done : List Rot) (r : Rot)
      → Below (size_of_rots m done + m r.angle) (merge_back l axes done r)
  unfolding merge_back
  merge_back_no_more l axes [] r = tt
  merge_back_no_more l axes (d ∷ before) r =
      let n = size_of_rots m before + m r.angle in
      let e : m d.angle + n ≡ size_of_rots m (d ∷ before) + m r.angle = omega (arith, rots_cons m d before) in
      let further = rw e at (behind_no_more d n (merge_back l axes before r) (merge_back_no_more l axes before r)) in
      let joined = rot d.axis ((d.angle + r.angle) % 8) in
      by_if (Below (size_of_rots m (d ∷ before) + m r.angle)) _ _ _ further
      (by_if (Below (size_of_rots m (d ∷ before) + m r.angle)) _ _ _
      (omega (arith, rots_cons m joined before, rots_cons m d before, law.merge d.angle r.angle))
      (by_if (Below (size_of_rots m (d ∷ before) + m r.angle)) _ none _ tt further))

  get_d_no_more : (n : ℕ) (o : Option (List Rot)) (ds : List Rot) → Below n o → size_of_rots m ds ≤ n → size_of_rots m (get_or o ds) ≤ n
  get_d_no_more n none ds h k = k
  get_d_no_more n (some es) ds h k = h

  merge_locally_no_more : (l : ℕ) (axes : List (List ℕ)) (done rest : List Rot) → size_of_rots m
      (merge_locally l axes done rest) ≤ size_of_rots m done + size_of_rots m rest
  unfolding merge_locally
  merge_locally_no_more l axes done [] = omega (arith, rots_reverse m done)
  merge_locally_no_more l axes done (r ∷ rest) =
      let next = get_or (merge_back l axes done r) (r ∷ done) in
      let h : size_of_rots m next ≤ size_of_rots m done + m r.angle
      = get_d_no_more _ (merge_back l axes done r) (r ∷ done) (merge_back_no_more l axes done r) (omega (arith, rots_cons m r done)) in
      omega (arith, merge_locally_no_more l axes next rest, rots_cons m r rest)

  improves_no_more : (l : ℕ) (axes : List (List ℕ)) (eager : Bool) (trial old : List Rot)
      → Below (size_of_rots m trial) (improves l axes eager trial old)
  unfolding improves drop_zero_rots
  improves_no_more l axes eager trial old =
      by_if (Below (size_of_rots m trial)) _ _ none
      (omega (arith, rots_keep m is_nonzero (merge_locally l axes [] trial), merge_locally_no_more l axes [] trial, rots_nil m)) tt

  made_no_more : (t : Triple) (trial : List Rot) → size_of_rots m trial ≡ size_of_rots m t.first + size_of_rots m t.second + size_of_rots m t.third
      → (o : Option (List Rot)) → Below (size_of_rots m trial) o → AtMost (t_triple t) (Option.map (swap_of t) o)
  unfolding t_swap t_triple
  made_no_more t trial e none h = tt
  made_no_more t trial e (some new) h = omega arith

  -- ---- all cuts of a triple have one measure

  abbrev StartOf : ℕ → Start → Type 0
  StartOf n s = size_of_rots m s.skipped + size_of_rots m s.suffix ≡ n

  abbrev EndOf : ℕ → End → Type 0
  EndOf n e = size_of_rots m e.prefix + size_of_rots m e.remainder ≡ n

  starts_same : (n : ℕ) (before rest : List Rot) → size_of_rots m before + size_of_rots m rest ≡ n → Every (StartOf n) (starts before rest)
  unfolding starts
  starts_same n before [] h = tt
  starts_same n before (r ∷ rest) h = (h, starts_same n (before ++ (r ∷ [])) rest (omega (arith, rots_one m before r, rots_cons m r rest)))

  ends_same : (n : ℕ) (before rest : List Rot) → size_of_rots m before + size_of_rots m rest ≡ n → Every (EndOf n) (ends before rest)
  unfolding ends
  ends_same n before [] h = tt
  ends_same n before (r ∷ rest) h =
      let e : size_of_rots m (before ++ (r ∷ [])) + size_of_rots m rest ≡ n = omega (arith, rots_one m before r, rots_cons m r rest) in
      every_append (EndOf n) (ends (before ++ (r ∷ [])) rest) _ (ends_same n (before ++ (r ∷ [])) rest e) (e, tt)

  abbrev Counts : ℕ → Triple → Type 0
  Counts n t = t_triple t ≡ n

  with_ends_same : (i k : ℕ) (b : List Rot) (s : Start) (es : List End) → StartOf i s → Every (EndOf k) es
      → Every (Counts (i + size_of_rots m b + k)) (with_ends b s es)
  unfolding with_ends t_triple
  with_ends_same i k b s [] hs he = tt
  with_ends_same i k b s (e ∷ es) hs he = (omega (arith, he.0), with_ends_same i k b s es hs he.1)

  with_starts_same : (i k : ℕ) (b : List Rot) (ss : List Start) (es : List End) → Every (StartOf i) ss → Every (EndOf k) es
      → Every (Counts (i + size_of_rots m b + k)) (with_starts b ss es)
  unfolding with_starts
  with_starts_same i k b [] es hs he = tt
  with_starts_same i k b (s ∷ ss) es hs he =
      every_append (Counts (i + size_of_rots m b + k)) (with_ends b s es) _ (with_ends_same i k b s es hs.0 he)
      (with_starts_same i k b ss es hs.1 he)

  triples_same : (candidates : ℕ) (a b c : List Rot) → Every (Counts (size_of_rots m a + size_of_rots m b + size_of_rots m c)) (triples candidates a b c)
  unfolding triples
  triples_same candidates a b c =
      let from = starts_same (size_of_rots m a) [] a (omega (arith, rots_nil m)) in
      let to = ends_same (size_of_rots m c) [] c (omega (arith, rots_nil m)) in
      every_take (Counts (size_of_rots m a + size_of_rots m b + size_of_rots m c)) (suc candidates) (with_starts b (starts [] a) (ends [] c))
      (with_starts_same (size_of_rots m a) (size_of_rots m c) b (starts [] a) (ends [] c) from to)

  module _ (l : ℕ) (axes : List (List ℕ)) (rules : ExchangeRules) where
    try_exchange_no_more : (t : Triple) (g h trial : List Rot)
        → size_of_rots m trial ≡ size_of_rots m t.first + size_of_rots m t.second + size_of_rots m t.third
        → AtMost (t_triple t) (try_exchange l axes rules t g h trial)
    unfolding try_exchange
    try_exchange_no_more t g h trial e =
        let old = t.first ++ (t.second ++ t.third) in
        by_if (AtMost (t_triple t)) _ _ _
        (made_no_more t trial e (improves l axes rules.eager trial old) (improves_no_more l axes rules.eager trial old)) tt

    first_with_second_no_more : (n : ℕ) (t : Triple) → Counts n t → AtMost n (first_with_second l axes rules t)
    unfolding first_with_second
    first_with_second_no_more n t h =
        let low : AtMost (t_triple t) (first_with_second l axes rules t) = try_exchange_no_more t _ _ _
        (omega (arith, rots_append m t.second (t.first ++ t.third), rots_append m t.first t.third)) in
        rw h at low

    second_with_third_no_more : (n : ℕ) (t : Triple) → Counts n t → AtMost n (second_with_third l axes rules t)
    unfolding second_with_third
    second_with_third_no_more n t h =
        let low : AtMost (t_triple t) (second_with_third l axes rules t) = try_exchange_no_more t _ _ _
        (omega (arith, rots_append m t.first (t.third ++ t.second), rots_append m t.third t.second)) in
        rw h at low

    try_triple_no_more : (n : ℕ) (ts : List Triple) → Every (Counts n) ts → AtMost n (try_triple l axes rules ts)
    try_triple_no_more n = try_triple_either l axes rules (AtMost n) (Counts n) tt (first_with_second_no_more n) (second_with_third_no_more n)

  -- ---- swaps

  -- the measure of a run and the rest
  size_of_run_end : RunEnd → ℕ
  size_of_run_end x = size_of_rots m x.run + size_of_rots m x.rest

  run_end_from_same : (l : ℕ) (axes : List (List ℕ)) (window : ℕ) (taken rest : List Rot)
      → size_of_run_end (run_end_from l axes window taken rest) ≡ size_of_rots m taken + size_of_rots m rest
  unfolding run_end_from size_of_run_end
  run_end_from_same l axes window taken [] = refl
  run_end_from_same l axes window taken (r ∷ rest) =
      let e : size_of_rots m (taken ++ (r ∷ [])) + size_of_rots m rest ≡ size_of_rots m taken + size_of_rots m (r ∷ rest) = omega
      (arith, rots_one m taken r, rots_cons m r rest) in
      by_if (λ (x : RunEnd). size_of_rots m x.run + size_of_rots m x.rest ≡ size_of_rots m taken + size_of_rots m (r ∷ rest)) _ _ _
      (run_end_from_same l axes window (taken ++ (r ∷ [])) rest ∙ e) refl

  -- what is done and what is left of a segment
  done_and_left : Swapping → ℕ
  done_and_left s = size_of_rots m s.done + size_of_rots m s.rest

  next_start_no_more : (first third : RunEnd) (s : Swapping) (n : ℕ) (o : Option Swap) → AtMost n o
      → size_of_rots m s.rest ≡ size_of_rots m first.run + size_of_rots m first.rest
      → n + size_of_rots m third.rest ≤ size_of_rots m s.rest → done_and_left (next_start first third s o) ≤ done_and_left s
  unfolding next_start t_swap done_and_left
  next_start_no_more first third s n none h e f = omega (arith, rots_append m s.done first.run)
  next_start_no_more first third s n (some x) h e f =
      omega (arith, rots_append m s.done (x.skipped ++ x.new), rots_append m x.skipped x.new, rots_append m x.remainder third.rest)

  module _ (l : ℕ) (axes : List (List ℕ)) (rules : ExchangeRules) where
    run_end_same : (rots : List Rot) → size_of_run_end (run_end l axes rules.window rots) ≡ size_of_rots m rots
    unfolding run_end
    run_end_same rots = omega (arith, run_end_from_same l axes rules.window [] rots, rots_nil m)

    swap_step_no_more : (s : Swapping) → done_and_left (swap_step l axes rules s) ≤ done_and_left s
    unfolding swap_step size_of_run_end
    swap_step_no_more s =
        let first = run_end l axes rules.window s.rest in
        let second = run_end l axes rules.window first.rest in
        let third = run_end l axes rules.window second.rest in
        next_start_no_more first third s (size_of_rots m first.run + size_of_rots m second.run + size_of_rots m third.run) _
        (try_triple_no_more l axes rules _ _ (triples_same rules.candidates first.run second.run third.run))
        (sym (run_end_same s.rest)) (omega (arith, run_end_same s.rest, run_end_same first.rest, run_end_same second.rest))

    swaps_from_no_more : (k : ℕ) (s : Swapping) → done_and_left (swaps_from l axes rules k s) ≤ done_and_left s
    unfolding swaps_from
    swaps_from_no_more zero s = le_refl _
    swaps_from_no_more (suc k) s =
        by_if (λ (x : Swapping). done_and_left x ≤ done_and_left s) _ _ _ (le_refl _) (le_trans (swaps_from_no_more k _) (swap_step_no_more s))

    -- the swaps of a segment
    pub swaps_no_more : (rots : List Rot) → size_of_rots m (swaps l axes rules rots).rots ≤ size_of_rots m rots
    unfolding swaps done_and_left
    swaps_no_more rots =
        let s : Swapping = record { done = []; found = 0; rest = rots } in
        let e = swaps_from l axes rules (length rots) s in
        omega (arith, rots_append m e.done e.rest, swaps_from_no_more (length rots) s, rots_nil m)

  -- ---- segments

  module _ (f : List Rot → Segment) (low : (seg : List Rot) → size_of_rots m (f seg).rots ≤ size_of_rots m seg) where
    end_segment_no_more : (done : List Item) (seg : List Rot) → size_of m (end_segment f done seg) ≤ size_of m done + size_of_rots m seg
    unfolding end_segment
    end_segment_no_more done seg = omega (arith, size_of_append m done (map rotation (f seg).rots), size_of_rotations m (f seg).rots, low seg)

    rewrite_from_no_more : (done : List Item) (seg : List Rot) (c : ℕ) (is : List Item)
        → size_of m (rewrite_from f done seg c is).items ≤ size_of m done + size_of_rots m seg + size_of m is
    unfolding rewrite_from size_of sum_of
    rewrite_from_no_more done seg c [] = omega (arith, end_segment_no_more done seg)
    rewrite_from_no_more done seg c (rotation r ∷ is) = omega (arith, rewrite_from_no_more done (seg ++ (r ∷ [])) c is, rots_one m seg r)
    rewrite_from_no_more done seg c (barrier o a s ∷ is) =
        omega (
          arith,
          rewrite_from_no_more (end_segment f done seg ++ (barrier o a s ∷ [])) [] (c + (f seg).changes) is,
          end_segment_no_more done seg,
          size_of_append m (end_segment f done seg) (barrier o a s ∷ []),
          rots_nil m,
        )

    -- a rewrite of segments that raises none
    pub rewrite_segments_no_more : (is : List Item) → size_of m (rewrite_segments f is).items ≤ size_of m is
    unfolding rewrite_segments
    rewrite_segments_no_more is = omega (arith, rewrite_from_no_more [] [] 0 is, size_of_nil m, rots_nil m)

  -- an exchange pass
  pub exchange_pass_no_more : (l : ℕ) (r : Rules) (w : Work) → size_of m (exchange_pass l r w).items ≤ size_of m w.items
  unfolding exchange_pass
  exchange_pass_no_more l r w =
      by_if (λ (x : Work). size_of m x.items ≤ size_of m w.items) _ _ _ (le_refl _)
      (rewrite_segments_no_more _ (swaps_no_more l w.store.axes r.exchange) w.items)
