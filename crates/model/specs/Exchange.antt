-- 01, "optimize.rs", Exchange: `swaps`, `try_triple`, `improves` and `generators_commute`. Assumes nothing.
use Rattle.std.specs.Prelude.{Bool, false, not, ◌&&◌, ◌||◌, List, [], ◌∷◌, ◌++◌, reverse, ℕ, zero, suc, ◌+◌, ◌%◌, eqb, ltb, leb, ℤ, pos, negsuc, neg_ℤ, ◌+ℤ◌, ◌*ℤ◌, length, take}
use Rattle.std.proofs.Math.Option.{Option, none, some, or_else, map, get_or}
use Rattle.store.specs.Equal.{same_list}
use Rattle.angle.specs.Angle.{signed_angle}
use Rattle.pauli.specs.Word.{xor_words, phase}
use Rattle.model.specs.declared.ExchangeRules.{ExchangeRules}
use Rattle.model.specs.Lists.{when◌then◌else◌, all_of, any_of, is_empty, is_odd}
use Rattle.model.specs.Words.{word_of, anticommute}
use Rattle.model.specs.Items.{Rot, rot, t_count_rots, drop_zero_rots, Segment}

-- ---- `generators_commute`: "for each product word, the signed sum of angle products over anticommuting pairs is zero"

-- a product word, and the signed product of two angles
pub record Term : Type 0 where
  pub word : List ℕ
  pub amount : ℤ

-- the terms of one product word, added up
unfoldable pub signed_sum : List ℕ → List Term → ℤ
signed_sum w [] = pos 0
signed_sum w (t ∷ ts) = let rest = signed_sum w ts in when same_list t.word w then t.amount +ℤ rest else rest

abbrev pub is_zero : ℤ → Bool
is_zero (pos k) = eqb k 0
is_zero (negsuc k) = false

unfoldable pub all_sums_zero : List Term → Bool
all_sums_zero ts = all_of (λ (t : Term). is_zero (signed_sum t.word ts)) ts

module _ (l : ℕ) (axes : List (List ℕ)) where
  -- for PQ = iR the product of the signed angles, for PQ = -iR its opposite
  unfoldable pub term_of : Rot → Rot → Term
  term_of a b =
      let p = word_of axes a.axis in
      let q = word_of axes b.axis in
      let v = signed_angle a.angle *ℤ signed_angle b.angle in
      record { word = xor_words p q; amount = when eqb (phase l p q) 1 then v else neg_ℤ v }

  unfoldable pub terms_with : Rot → List Rot → List Term
  terms_with a [] = []
  terms_with a (b ∷ bs) = let rest = terms_with a bs in when anticommute l axes a.axis b.axis then term_of a b ∷ rest else rest

  -- "over anticommuting pairs"
  unfoldable pub terms : List Rot → List Rot → List Term
  terms [] bs = []
  terms (a ∷ rest) bs = terms_with a bs ++ terms rest bs

  -- "Two groups, each of axes that commute with one another, exchange if .."
  unfoldable pub generators_commute : List Rot → List Rot → Bool
  generators_commute as' bs = all_sums_zero (terms as' bs)

-- ---- `improves`: a trial is merged locally, and kept if it is better

-- as the Rust says it: fewer T, or, with eager swaps, no more T and fewer rotations
unfoldable pub is_better : Bool → List Rot → List Rot → Bool
is_better eager new old =
    ltb (t_count_rots new) (t_count_rots old) || (eager && leb (t_count_rots new) (t_count_rots old) && ltb (length new) (length old))

module _ (l : ℕ) (axes : List (List ℕ)) where
  -- r goes back through the rotations before it, the newest first: it merges into an equal axis, unless one between them anticommutes with it
  unfoldable pub merge_back : List Rot → Rot → Option (List Rot)
  merge_back [] r = none
  merge_back (d ∷ before) r =
      let further = map (λ ds. d ∷ ds) (merge_back before r) in
      when eqb d.angle 0 then further else
      when eqb d.axis r.axis then some (rot d.axis ((d.angle + r.angle) % 8) ∷ before) else
      when anticommute l axes d.axis r.axis then none else further

  unfoldable pub merge_locally : List Rot → List Rot → List Rot
  merge_locally done [] = reverse done
  merge_locally done (r ∷ rest) = merge_locally (get_or (merge_back done r) (r ∷ done)) rest

  unfoldable pub improves : Bool → List Rot → List Rot → Option (List Rot)
  improves eager trial old = let new = drop_zero_rots (merge_locally [] trial) in when is_better eager new old then some new else none

-- ---- `try_triple`: the first is cut to a suffix, the third to a prefix

-- a start: what of the first is skipped, and a suffix that is not empty
pub record Start : Type 0 where
  pub skipped : List Rot
  pub suffix : List Rot

-- "starts rising"
unfoldable pub starts : List Rot → List Rot → List Start
starts before [] = []
starts before (r ∷ rest) = record { skipped = before; suffix = r ∷ rest } ∷ starts (before ++ (r ∷ [])) rest

-- an end: a prefix of the third that is not empty, and what of the third remains behind it
pub record End : Type 0 where
  pub prefix : List Rot
  pub remainder : List Rot

-- "ends falling": the longest prefix first
unfoldable pub ends : List Rot → List Rot → List End
ends before [] = []
ends before (r ∷ rest) = ends (before ++ (r ∷ [])) rest ++ (record { prefix = before ++ (r ∷ []); remainder = rest } ∷ [])

-- skipped | first | second | third | remainder
pub record Triple : Type 0 where
  pub skipped : List Rot
  pub first : List Rot
  pub second : List Rot
  pub third : List Rot
  pub remainder : List Rot

unfoldable pub with_ends : List Rot → Start → List End → List Triple
with_ends b start [] = []
with_ends b start (end ∷ rest) =
    record { skipped = start.skipped; first = start.suffix; second = b; third = end.prefix; remainder = end.remainder } ∷ with_ends b start rest

unfoldable pub with_starts : List Rot → List Start → List End → List Triple
with_starts b [] es = []
with_starts b (start ∷ rest) es = with_ends b start es ++ with_starts b rest es

-- "at most 1 + candidates pairs" of a start and an end
unfoldable pub triples : ℕ → List Rot → List Rot → List Rot → List Triple
triples candidates a b c = take (suc candidates) (with_starts b (starts [] a) (ends [] c))

-- the first and the third share an axis; without eager swaps, at odd angles
unfoldable pub is_useful : Bool → Rot → Bool
is_useful eager r = eager || is_odd r.angle

unfoldable pub share_axis : Bool → List Rot → List Rot → Bool
share_axis eager a c = any_of (λ (x : Rot). is_useful eager x && any_of (λ (y : Rot). is_useful eager y && eqb x.axis y.axis) c) a

-- a triple replaced: what was skipped, the new rotations, and what of the third remains behind them
pub record Swap : Type 0 where
  pub skipped : List Rot
  pub new : List Rot
  pub remainder : List Rot

abbrev pub swap_of : Triple → List Rot → Swap
swap_of t new = record { skipped = t.skipped; new = new; remainder = t.remainder }

module _ (l : ℕ) (axes : List (List ℕ)) (rules : ExchangeRules) where
  -- groups g and h exchange, which gives the trial
  unfoldable pub try_exchange : Triple → List Rot → List Rot → List Rot → Option Swap
  try_exchange t g h trial =
      when generators_commute l axes g h then map (swap_of t) (improves l axes rules.eager trial (t.first ++ (t.second ++ t.third))) else none

  unfoldable pub first_with_second : Triple → Option Swap
  first_with_second t = try_exchange t t.first t.second (t.second ++ (t.first ++ t.third))

  unfoldable pub second_with_third : Triple → Option Swap
  second_with_third t = try_exchange t t.second t.third (t.first ++ (t.third ++ t.second))

  -- "first with second before second with third"; 02, M-107: "Where both exchanges improve a triple at one start and end, take second with
  -- third. A new setting chooses this order of ties"
  unfoldable pub try_exchanges : Triple → Option Swap
  try_exchanges t =
      let first = first_with_second t in
      let second = second_with_third t in
      when rules.second_first then or_else second first else or_else first second

  -- the first of the cuts of a triple that gives a swap
  unfoldable pub try_triple : List Triple → Option Swap
  try_triple [] = none
  try_triple (t ∷ rest) =
      let later = try_triple rest in
      or_else (when share_axis rules.eager t.first t.third then try_exchanges t else none) later

-- ---- `run_end`: the longest run of at most `window` rotations that commute with one another

-- the run, and the rest of the segment
pub record RunEnd : Type 0 where
  pub run : List Rot
  pub rest : List Rot

module _ (l : ℕ) (axes : List (List ℕ)) (window : ℕ) where
  unfoldable pub run_end_from : List Rot → List Rot → RunEnd
  run_end_from taken [] = record { run = taken; rest = [] }
  run_end_from taken (r ∷ rest) =
      let longer = run_end_from (taken ++ (r ∷ [])) rest in
      when ltb (length taken) window && all_of (λ (x : Rot). not (anticommute l axes x.axis r.axis)) taken then longer else
      record { run = taken; rest = r ∷ rest }

  unfoldable pub run_end : List Rot → RunEnd
  run_end rots = run_end_from [] rots

  -- no third run is left
  unfoldable pub no_triple : List Rot → Bool
  no_triple rots = is_empty (run_end rots).rest || is_empty (run_end (run_end rots).rest).rest

-- ---- `swaps`

-- what of a segment is done, how many swaps were made, and the rest of it
pub record Swapping : Type 0 where
  pub done : List Rot
  pub found : ℕ
  pub rest : List Rot

-- first and third are runs: after a swap the next start is the end of the replaced part, after none the start of the second run
unfoldable pub next_start : RunEnd → RunEnd → Swapping → Option Swap → Swapping
next_start first third s none = record { done = s.done ++ first.run; found = s.found; rest = first.rest }
next_start first third s (some x) = record {
  done = s.done ++ (x.skipped ++ x.new);
  found = suc s.found;
  rest = x.remainder ++ third.rest;
}

module _ (l : ℕ) (axes : List (List ℕ)) (rules : ExchangeRules) where
  unfoldable pub swap_step : Swapping → Swapping
  swap_step s =
      let first = run_end l axes rules.window s.rest in
      let second = run_end l axes rules.window first.rest in
      let third = run_end l axes rules.window second.rest in
      next_start first third s (try_triple l axes rules (triples rules.candidates first.run second.run third.run))

  unfoldable pub swaps_from : ℕ → Swapping → Swapping
  swaps_from zero s = s
  swaps_from (suc fuel) s = let next = swaps_from fuel (swap_step s) in when no_triple l axes rules.window s.rest then s else next

  -- each start is beyond the one before, so as many starts as rotations are enough
  unfoldable pub swaps : List Rot → Segment
  swaps rots =
      let s = swaps_from (length rots) (record { done = []; found = 0; rest = rots }) in
      record { rots = s.done ++ s.rest; changes = s.found }
