-- Exchange and layering make no segment longer; a trial is no longer than what it replaces. Assumes nothing.
use Rattle.std.specs.Prelude.{◌≡◌, refl, Bool}
use Rattle.std.proofs.Common.{sym}
use Rattle.std.proofs.Math.Bool.{true, false}
use Rattle.std.proofs.Math.Option
use Rattle.std.proofs.Math.Option.{Option, none, some, get_or}
use mathlib.Core.List.{List, [], ◌∷◌, ◌++◌, map, flatten}
use Prim.Native.Nat.{ℕ, zero, suc, ◌+◌, ◌≤◌}
use Rattle.std.proofs.Math.Nat.{le_refl, le_trans}
use native.Mathlib.Omega.{arith}
use Rattle.std.proofs.Math.ListN.{length, length-append, length-map, length-reverse}
use Rattle.model.specs.declared.ExchangeRules.{ExchangeRules}
use Rattle.model.specs.Lists.{keep, sum_of}
use Rattle.model.specs.Items.{Rot, Item, rotation, barrier, is_nonzero, drop_zero_rots, Segment, end_segment, rewrite_from, rewrite_segments}
use Rattle.model.specs.Exchange.{merge_back, merge_locally, improves, Start, starts, End, ends, Triple, with_ends, with_starts, triples, Swap, swap_of}
use Rattle.model.specs.Exchange.{try_exchange, first_with_second, second_with_third, try_triple, RunEnd, run_end_from, Swapping, next_start, run_end, swap_step}
use Rattle.model.specs.Exchange.{swaps_from, swaps}
use Rattle.model.specs.Layering.{merge_into, Layers, Shift, join_layer, join_layers, move_rotation, move_rotations, sweep_from, sweep, drop_zero_layers}
use Rattle.model.specs.Layering.{sweeps_from}
use Rattle.model.specs.Layering.{height, layer_segment}
use Rattle.theory.specs.Cases.{by_if}
use Rattle.theory.specs.TieOrder.{try_triple_either}
use Rattle.theory.specs.Every.{Every, every_append, every_one, every_take}
use Rattle.theory.specs.Lists.{sum_of_one, sum_of_keep, keep_count, count_le}

one_more : {A : Type 0} (xs : List A) (x : A) → length (xs ++ (x ∷ [])) ≡ suc (length xs)
one_more xs x = omega (arith, length-append xs (x ∷ []))

-- what is kept is no longer
pub keep_length : {A : Type 0} (f : A → Bool) (xs : List A) → length (keep f xs) ≤ length xs
keep_length f xs = rw (keep_count f xs) (count_le f xs)

drop_zero_rots_length : (rs : List Rot) → length (drop_zero_rots rs) ≤ length rs
unfolding drop_zero_rots
drop_zero_rots_length rs = keep_length is_nonzero rs

-- ---- a trial

abbrev Longest : ℕ → Option (List Rot) → Type 0
Longest m none = Unit {0}
Longest m (some ds) = length ds ≤ m

behind : (m : ℕ) (d : Rot) (o : Option (List Rot)) → Longest m o → Longest (suc m) (Option.map (λ ds. d ∷ ds) o)
behind m d none h = tt
behind m d (some ds) h = omega arith

found_or : (m : ℕ) (o : Option (List Rot)) (ds : List Rot) → Longest m o → length ds ≤ suc m → length (get_or o ds) ≤ suc m
found_or m none ds h k = k
found_or m (some es) ds h k = omega arith

module _ (l : ℕ) (axes : List (List ℕ)) where
  -- a merge leaves as many as there were
  pub merge_back_length : (done : List Rot) (r : Rot) → Longest (length done) (merge_back l axes done r)
  unfolding merge_back
  merge_back_length [] r = tt
  merge_back_length (d ∷ before) r =
      let further = behind (length before) d (merge_back l axes before r) (merge_back_length before r) in
      by_if (Longest (suc (length before))) _ _ _ further
      (by_if (Longest (suc (length before))) _ _ _ (le_refl _) (by_if (Longest (suc (length before))) _ _ _ tt further))

  -- each rotation of a trial adds one at most
  pub merge_back_one : (done : List Rot) (r : Rot) → length (get_or (merge_back l axes done r) (r ∷ done)) ≤ suc (length done)
  merge_back_one done r = found_or (length done) (merge_back l axes done r) (r ∷ done) (merge_back_length done r) (le_refl _)

  -- a trial, merged locally, is no longer than it was
  pub merge_locally_length : (done rest : List Rot) → length (merge_locally l axes done rest) ≤ length done + length rest
  unfolding merge_locally
  merge_locally_length done [] = omega (arith, length-reverse done)
  merge_locally_length done (r ∷ rest) =
      omega (arith, merge_locally_length (get_or (merge_back l axes done r) (r ∷ done)) rest, merge_back_one done r)

  -- nor is what is kept of it
  pub improves_length : (eager : Bool) (trial old : List Rot) → Longest (length trial) (improves l axes eager trial old)
  unfolding improves
  improves_length eager trial old =
      by_if (Longest (length trial)) _ _ _ (omega (arith, drop_zero_rots_length (merge_locally l axes [] trial), merge_locally_length [] trial)) tt

-- ---- cuts and triples

abbrev StartOf : ℕ → Start → Type 0
StartOf m s = length s.skipped + length s.suffix ≡ m

abbrev EndOf : ℕ → End → Type 0
EndOf m e = length e.prefix + length e.remainder ≡ m

starts_length : (m : ℕ) (before rest : List Rot) → length before + length rest ≡ m → Every (StartOf m) (starts before rest)
unfolding starts
starts_length m before [] h = tt
starts_length m before (r ∷ rest) h = (h, starts_length m (before ++ (r ∷ [])) rest (omega (arith, one_more before r)))

ends_length : (m : ℕ) (before rest : List Rot) → length before + length rest ≡ m → Every (EndOf m) (ends before rest)
unfolding ends
ends_length m before [] h = tt
ends_length m before (r ∷ rest) h =
    let e : length (before ++ (r ∷ [])) + length rest ≡ m = omega (arith, one_more before r) in
    every_one (EndOf m) (ends (before ++ (r ∷ [])) rest) _ (ends_length m (before ++ (r ∷ [])) rest e) e

-- all triples that are tried are cut from the same rotations
pub record Covers (m : ℕ) (t : Triple) : Type 0 where
  pub whole : length t.skipped + (length t.first + length t.second + length t.third) + length t.remainder ≡ m

with_ends_length : (i k : ℕ) (b : List Rot) (s : Start) (es : List End) → StartOf i s → Every (EndOf k) es
    → Every (Covers (i + length b + k)) (with_ends b s es)
unfolding with_ends
with_ends_length i k b s [] hs he = tt
with_ends_length i k b s (e ∷ es) hs he = (record { whole = omega (arith, he.0) }, with_ends_length i k b s es hs he.1)

with_starts_length : (i k : ℕ) (b : List Rot) (ss : List Start) (es : List End) → Every (StartOf i) ss → Every (EndOf k) es
    → Every (Covers (i + length b + k)) (with_starts b ss es)
unfolding with_starts
with_starts_length i k b [] es hs he = tt
with_starts_length i k b (s ∷ ss) es hs he =
    every_append (Covers (i + length b + k)) (with_ends b s es) _ (with_ends_length i k b s es hs.0 he) (with_starts_length i k b ss es hs.1 he)

-- the triples of three runs
pub triples_length : (candidates : ℕ) (a b c : List Rot) → Every (Covers (length a + length b + length c)) (triples candidates a b c)
unfolding triples
triples_length candidates a b c =
    let from = starts_length (length a) [] a (omega arith) in
    let to = ends_length (length c) [] c (omega arith) in
    every_take (Covers (length a + length b + length c)) (suc candidates) (with_starts b (starts [] a) (ends [] c))
    (with_starts_length (length a) (length c) b (starts [] a) (ends [] c) from to)

-- ---- swaps

-- what a swap leaves is no longer than m
abbrev Leaves : ℕ → Option Swap → Type 0
Leaves m none = Unit {0}
Leaves m (some s) = length s.skipped + length s.new + length s.remainder ≤ m

-- both orders of the groups
three_one : (a b c : List Rot) → length (b ++ (a ++ c)) ≡ length a + length b + length c
three_one a b c = omega (arith, length-append b (a ++ c), length-append a c)

three_two : (a b c : List Rot) → length (a ++ (c ++ b)) ≡ length a + length b + length c
three_two a b c = omega (arith, length-append a (c ++ b), length-append c b)

module _ (l : ℕ) (axes : List (List ℕ)) (rules : ExchangeRules) where
  -- a trial is no longer than what it replaces
  made_length : (m : ℕ) (t : Triple) (trial : List Rot) (o : Option (List Rot)) → Covers m t
      → length trial ≡ length t.first + length t.second + length t.third
      → Longest (length trial) o → Leaves m (Option.map (swap_of t) o)
  made_length m t trial none c e h = tt
  made_length m t trial (some new) c e h = omega arith

  try_exchange_length : (m : ℕ) (t : Triple) (g h trial : List Rot) → Covers m t → length trial ≡ length t.first + length t.second + length t.third
      → Leaves m (try_exchange l axes rules t g h trial)
  unfolding try_exchange
  try_exchange_length m t g h trial c e =
      let old = t.first ++ (t.second ++ t.third) in
      by_if (Leaves m) _ _ _
      (made_length m t trial (improves l axes rules.eager trial old) c e (improves_length l axes rules.eager trial old)) tt

  try_triple_length : (m : ℕ) (ts : List Triple) → Every (Covers m) ts → Leaves m (try_triple l axes rules ts)
  unfolding first_with_second second_with_third
  try_triple_length m =
      try_triple_either l axes rules (Leaves m) (Covers m) tt
      (λ t c. try_exchange_length m t _ _ _ c (three_one t.first t.second t.third))
      (λ t c. try_exchange_length m t _ _ _ c (three_two t.first t.second t.third))

abbrev RunEndOf : ℕ → RunEnd → Type 0
RunEndOf m x = length x.run + length x.rest ≡ m

run_end_from_length : (l : ℕ) (axes : List (List ℕ)) (window : ℕ) (taken rest : List Rot)
    → RunEndOf (length taken + length rest) (run_end_from l axes window taken rest)
unfolding run_end_from
run_end_from_length l axes window taken [] = refl
run_end_from_length l axes window taken (r ∷ rest) =
    by_if (RunEndOf (length taken + suc (length rest))) _ _ _
    (omega (arith, run_end_from_length l axes window (taken ++ (r ∷ [])) rest, one_more taken r)) refl

-- what is done and what is left of a segment
abbrev pub swap_length : Swapping → ℕ
swap_length s = length s.done + length s.rest

next_start_length : (first third : RunEnd) (s : Swapping) (m : ℕ) (o : Option Swap) → Leaves m o
    → length first.run + length first.rest ≡ length s.rest
    → m + length third.rest ≤ length s.rest → swap_length (next_start first third s o) ≤ swap_length s
unfolding next_start
next_start_length first third s m none h e f = omega (arith, length-append s.done first.run)
next_start_length first third s m (some x) h e f =
    omega (arith, length-append s.done (x.skipped ++ x.new), length-append x.skipped x.new, length-append x.remainder third.rest)

module _ (l : ℕ) (axes : List (List ℕ)) (rules : ExchangeRules) where
  -- a run and what comes after it
  pub run_end_length : (rots : List Rot)
      → length (run_end l axes rules.window rots).run + length (run_end l axes rules.window rots).rest ≡ length rots
  unfolding run_end
  run_end_length rots = omega (arith, run_end_from_length l axes rules.window [] rots)

  -- a swap, or none
  pub swap_step_length : (s : Swapping) → swap_length (swap_step l axes rules s) ≤ swap_length s
  unfolding swap_step
  swap_step_length s =
      let run = run_end l axes rules.window in
      let first = run s.rest in
      let second = run first.rest in
      let third = run second.rest in
      let m = length first.run + length second.run + length third.run in
      next_start_length first third s m _
      (try_triple_length l axes rules m _ (triples_length rules.candidates first.run second.run third.run))
      (run_end_length s.rest) (omega (arith, run_end_length s.rest, run_end_length first.rest, run_end_length second.rest))

  -- all swaps of a segment
  pub swaps_from_length : (k : ℕ) (s : Swapping) → swap_length (swaps_from l axes rules k s) ≤ swap_length s
  unfolding swaps_from
  swaps_from_length zero s = le_refl _
  swaps_from_length (suc k) s =
      by_if (λ (x : Swapping). swap_length x ≤ swap_length s) _ _ _ (le_refl _) (le_trans (swaps_from_length k _) (swap_step_length s))

  -- an exchange makes no segment longer
  pub swaps_length : (rots : List Rot) → length (swaps l axes rules rots).rots ≤ length rots
  unfolding swaps
  swaps_length rots =
      let s : Swapping = record { done = []; found = 0; rest = rots } in
      let e = swaps_from l axes rules (length rots) s in
      omega (arith, length-append e.done e.rest, swaps_from_length (length rots) s)

-- ---- layers

-- a rotation that joins a layer adds one at most
pub merge_into_length : (layer : List Rot) (r : Rot) → length (merge_into layer r) ≤ suc (length layer)
unfolding merge_into
merge_into_length [] r = le_refl _
merge_into_length (x ∷ layer) r =
    by_if (λ (y : List Rot). length y ≤ suc (suc (length layer))) _ _ _ (omega arith) (omega (arith, merge_into_length layer r))

-- the rotations of all layers
unfoldable pub size_of : List (List Rot) → ℕ
size_of = sum_of length

size_one : (ls : List (List Rot)) (layer : List Rot) → size_of (ls ++ (layer ∷ [])) ≡ size_of ls + length layer
unfolding size_of
size_one ls layer = sum_of_one length ls layer

size_cons : (layer : List Rot) (ls : List (List Rot)) → size_of (layer ∷ ls) ≡ length layer + size_of ls
unfolding size_of sum_of
size_cons layer ls = refl

size_nil : size_of [] ≡ 0
unfolding size_of sum_of
size_nil = refl

size_keep : (f : List Rot → Bool) (ls : List (List Rot)) → size_of (keep f ls) ≤ size_of ls
unfolding size_of
size_keep f ls = sum_of_keep length f ls

-- layers, laid end to end
pub size_flatten : (ls : List (List Rot)) → length (flatten ls) ≡ size_of ls
unfolding flatten
size_flatten [] = sym size_nil
size_flatten (layer ∷ ls) = omega (arith, length-append layer (flatten ls), size_flatten ls, size_cons layer ls)

module _ (l : ℕ) (axes : List (List ℕ)) where
  -- a rotation joins the last layer or opens one
  pub join_layer_length : (s : Layers) (r : Rot)
      → size_of (join_layer l axes s r).done + length (join_layer l axes s r).layer ≤ suc (size_of s.done + length s.layer)
  unfolding join_layer
  join_layer_length s r =
      by_if (λ (x : Layers). size_of x.done + length x.layer ≤ suc (size_of s.done + length s.layer)) _ _ _
      (omega (arith, merge_into_length s.layer r)) (omega (arith, size_one s.done s.layer))

  -- all rotations of a segment do
  pub join_layers_length : (s : Layers) (rs : List Rot)
      → size_of (join_layers l axes s rs).done + length (join_layers l axes s rs).layer ≤ size_of s.done + length s.layer + length rs
  unfolding join_layers
  join_layers_length s [] = omega arith
  join_layers_length s (r ∷ rs) = omega (arith, join_layer_length s r, join_layers_length (join_layer l axes s r) rs)

  -- a rotation moves to the layer before or stays
  pub move_rotation_length : (s : Shift) (r : Rot)
      → length (move_rotation l axes s r).layer + length (move_rotation l axes s r).stay ≤ suc (length s.layer + length s.stay)
  unfolding move_rotation
  move_rotation_length s r =
      by_if (λ (x : Shift). length x.layer + length x.stay ≤ suc (length s.layer + length s.stay)) _ _ _
      (omega (arith, merge_into_length s.layer r)) (omega (arith, one_more s.stay r))

  -- all rotations of a layer do
  pub move_rotations_length : (s : Shift) (rs : List Rot)
      → length (move_rotations l axes s rs).layer + length (move_rotations l axes s rs).stay ≤ length s.layer + length s.stay + length rs
  unfolding move_rotations
  move_rotations_length s [] = omega arith
  move_rotations_length s (r ∷ rs) = omega (arith, move_rotation_length s r, move_rotations_length (move_rotation l axes s r) rs)

  -- the rest of a sweep
  pub sweep_from_length : (layer : List Rot) (m : ℕ) (b : Bool) (ls : List (List Rot))
      → size_of (sweep_from l axes layer m b ls).layers ≤ length layer + size_of ls
  unfolding sweep_from
  sweep_from_length layer m b [] = omega (arith, size_cons layer [], size_nil)
  sweep_from_length layer m b (next ∷ ls) =
      let s : Shift = record { layer = layer; stay = []; merged = m; moved = b } in
      let q = move_rotations l axes s next in
      let r = sweep_from l axes q.stay q.merged q.moved ls in
      omega (
        arith,
        move_rotations_length s next,
        sweep_from_length q.stay q.merged q.moved ls,
        size_cons q.layer r.layers,
        size_cons next ls,
      )

  -- a sweep
  pub sweep_length : (m : ℕ) (ls : List (List Rot)) → size_of (sweep l axes m ls).layers ≤ size_of ls
  unfolding sweep
  sweep_length m [] = le_refl _
  sweep_length m (layer ∷ ls) = omega (arith, sweep_from_length layer m false ls, size_cons layer ls)

  zeros_length : (ls : List (List Rot)) → size_of (map drop_zero_rots ls) ≤ size_of ls
  zeros_length [] = le_refl _
  zeros_length (layer ∷ ls) =
      omega (arith, zeros_length ls, drop_zero_rots_length layer, size_cons layer ls, size_cons (drop_zero_rots layer) (map drop_zero_rots ls))

  -- zeros leave
  pub drop_zero_layers_length : (ls : List (List Rot)) → size_of (drop_zero_layers ls) ≤ size_of ls
  unfolding drop_zero_layers
  drop_zero_layers_length ls = le_trans (size_keep _ (map drop_zero_rots ls)) (zeros_length ls)

  -- the rest of the sweeps
  pub sweeps_from_length : (k : ℕ) (going : Bool) (m : ℕ) (ls : List (List Rot)) → length (sweeps_from l axes k going m ls).rots ≤ size_of ls
  unfolding sweeps_from
  sweeps_from_length zero going m ls = omega (arith, size_flatten ls)
  sweeps_from_length (suc k) false m ls = omega (arith, size_flatten ls)
  sweeps_from_length (suc k) true m ls =
      let s = sweep l axes m ls in
      omega (arith, sweeps_from_length k s.moved s.merged (drop_zero_layers s.layers), drop_zero_layers_length s.layers, sweep_length m ls)

  -- layering makes no segment longer
  pub layer_segment_length : (rots : List Rot) → length (layer_segment l axes rots).rots ≤ length rots
  unfolding layer_segment
  layer_segment_length [] = le_refl _
  layer_segment_length (r ∷ rest) =
      let z : Layers = record { done = []; layer = r ∷ []; merged = 0 } in
      let s = join_layers l axes z rest in
      let ls = s.done ++ (s.layer ∷ []) in
      omega (
        arith,
        sweeps_from_length (suc (height ls)) true s.merged ls,
        size_one s.done s.layer,
        join_layers_length z rest,
        size_nil,
      )

-- ---- segments

module _ (f : List Rot → Segment) (shorter : (segment : List Rot) → length (f segment).rots ≤ length segment) where
  end_segment_length : (done : List Item) (segment : List Rot) → length (end_segment f done segment) ≤ length done + length segment
  unfolding end_segment
  end_segment_length done segment =
      omega (arith, length-append done (map rotation (f segment).rots), length-map (f segment).rots rotation, shorter segment)

  -- the rest of the segments
  pub rewrite_from_length : (done : List Item) (segment : List Rot) (c : ℕ) (is : List Item)
      → length (rewrite_from f done segment c is).items ≤ length done + length segment + length is
  unfolding rewrite_from
  rewrite_from_length done segment c [] = omega (arith, end_segment_length done segment)
  rewrite_from_length done segment c (rotation r ∷ is) = omega (arith, rewrite_from_length done (segment ++ (r ∷ [])) c is, one_more segment r)
  rewrite_from_length done segment c (barrier o a s ∷ is) =
      omega (
        arith,
        rewrite_from_length (end_segment f done segment ++ (barrier o a s ∷ [])) [] (c + (f segment).changes) is,
        end_segment_length done segment,
        one_more (end_segment f done segment) (barrier o a s),
      )

  -- where no segment gets longer, nor do the items
  pub rewrite_segments_length : (is : List Item) → length (rewrite_segments f is).items ≤ length is
  unfolding rewrite_segments
  rewrite_segments_length is = omega (arith, rewrite_from_length [] [] 0 is)
