-- An exchange of renamed rotations is the renamed exchange: it asks of ids only whether they are equal, and of words. Assumes nothing.
use Rattle.std.specs.Prelude.{◌≡◌, Bool, ◌&&◌, eqb, length, take}
use Rattle.std.proofs.Math.Path.{refl, sym, ap, ap₂}
use Rattle.std.proofs.Common.{◌∙◌}
use Rattle.std.proofs.Math.Bool.{true, false, not, ◌||◌}
use Rattle.std.proofs.Math.Option
use Rattle.std.proofs.Math.Option.{Option, none, some, or_else, get_or}
use mathlib.Core.List.{List, [], ◌∷◌, ◌++◌, map, map-append}
use Prim.Native.Nat.{ℕ, zero, suc, ◌+◌, ◌%◌}
use Rattle.std.proofs.Math.Dec.{ltb}
use Rattle.std.proofs.Math.ListN.{length-map}
use Rattle.pauli.specs.Word.{anticommutes}
use Rattle.model.specs.declared.ExchangeRules.{ExchangeRules}
use Rattle.model.specs.Lists.{when◌then◌else◌, all_of, is_empty}
use Rattle.model.specs.Words.{anticommute}
use Rattle.model.specs.Items.{Rot, rot, is_nonzero, t_count_rots, drop_zero_rots}
use Rattle.model.specs.Exchange.{Term, term_of, terms_with, terms, generators_commute, all_sums_zero, is_better, merge_back, merge_locally, improves}
use Rattle.model.specs.Exchange.{Start, starts, End, ends, Triple, with_ends, with_starts, triples, is_useful, share_axis, Swap, swap_of}
use Rattle.model.specs.Exchange.{try_exchange, first_with_second, second_with_third, try_exchanges, try_triple, RunEnd, run_end_from, run_end, no_triple}
use Rattle.model.specs.Exchange.{Swapping, next_start, swap_step, swaps_from, swaps}
use Rattle.theory.specs.Cases.{of_if, of_else}
use Rattle.theory.specs.Lists.{sum_of_map, keep_map}
use Rattle.cutting.specs.Lists.{map_reverse, map_take, map_empty, map_all, map_any}
use Rattle.cutting.specs.Renaming.{Renames, renamed_rot}

module _ (l : ℕ) (A C : List (List ℕ)) (ρ : ℕ → ℕ) (h : Renames A C ρ) where
  abbrev ren : Rot → Rot
  ren = renamed_rot ρ

  abbrev rens : List Rot → List Rot
  rens = map ren

  -- ---- `generators_commute`

  pub anti_same : (a b : ℕ) → anticommute l C (ρ a) (ρ b) ≡ anticommute l A a b
  unfolding anticommute
  anti_same a b = ap₂ (anticommutes l) (h.words a) (h.words b)

  term_same : (a b : Rot) → term_of l C (ren a) (ren b) ≡ term_of l A a b
  unfolding term_of
  term_same a b = rw (h.words a.axis, h.words b.axis) refl

  terms_with_same : (a : Rot) (bs : List Rot) → terms_with l C (ren a) (rens bs) ≡ terms_with l A a bs
  unfolding terms_with
  terms_with_same a [] = refl
  terms_with_same a (b ∷ bs) =
      ap (λ (t : Bool). when t then term_of l C (ren a) (ren b) ∷ terms_with l C (ren a) (rens bs) else terms_with l C (ren a) (rens bs))
      (anti_same a.axis b.axis)
      ∙ ap₂ (λ (x : Term) (xs : List Term). when anticommute l A a.axis b.axis then x ∷ xs else xs) (term_same a b) (terms_with_same a bs)

  terms_same : (xs bs : List Rot) → terms l C (rens xs) (rens bs) ≡ terms l A xs bs
  unfolding terms
  terms_same [] bs = refl
  terms_same (a ∷ xs) bs = ap₂ (λ (x y : List Term). x ++ y) (terms_with_same a bs) (terms_same xs bs)

  generators_same : (xs bs : List Rot) → generators_commute l C (rens xs) (rens bs) ≡ generators_commute l A xs bs
  unfolding generators_commute
  generators_same xs bs = ap all_sums_zero (terms_same xs bs)

  -- ---- `improves`

  t_count_same : (xs : List Rot) → t_count_rots (rens xs) ≡ t_count_rots xs
  unfolding t_count_rots
  t_count_same xs = sum_of_map (λ (r : Rot). r.angle % 2) ren xs

  better_same : (eager : Bool) (new old : List Rot) → is_better eager (rens new) (rens old) ≡ is_better eager new old
  unfolding is_better
  better_same eager new old = rw (t_count_same new, t_count_same old, length-map new ren, length-map old ren) refl

  -- what merging back gives, by what it meets in the rotation before
  met_same : (d r : Rot) (ds : List Rot) (zero' here blocked : Bool) (x : Option (List Rot))
      → (when zero' then Option.map (λ xs. ren d ∷ xs) (Option.map rens x) else
      when here then some (rot (ρ d.axis) ((d.angle + r.angle) % 8) ∷ rens ds) else
      when blocked then none else Option.map (λ xs. ren d ∷ xs) (Option.map rens x))
      ≡ Option.map rens (when zero' then Option.map (λ xs. d ∷ xs) x else
      when here then some (rot d.axis ((d.angle + r.angle) % 8) ∷ ds) else
      when blocked then none else Option.map (λ xs. d ∷ xs) x)
  unfolding when◌then◌else◌
  met_same d r ds true here blocked none = refl
  met_same d r ds true here blocked (some x) = refl
  met_same d r ds false true blocked x = refl
  met_same d r ds false false true x = refl
  met_same d r ds false false false none = refl
  met_same d r ds false false false (some x) = refl

  merge_back_same : (ds : List Rot) (r : Rot) → merge_back l C (rens ds) (ren r) ≡ Option.map rens (merge_back l A ds r)
  unfolding merge_back
  merge_back_same [] r = refl
  merge_back_same (d ∷ ds) r =
      rw (merge_back_same ds r, h.same d.axis r.axis, anti_same d.axis r.axis)
      (met_same d r ds (eqb d.angle 0) (eqb d.axis r.axis) (anticommute l A d.axis r.axis) (merge_back l A ds r))

  or_laid : (x : Option (List Rot)) (ds : List Rot) → get_or (Option.map rens x) (rens ds) ≡ rens (get_or x ds)
  or_laid none ds = refl
  or_laid (some x) ds = refl

  merge_locally_same : (done rest : List Rot) → merge_locally l C (rens done) (rens rest) ≡ rens (merge_locally l A done rest)
  unfolding merge_locally
  merge_locally_same done [] = map_reverse ren done
  merge_locally_same done (r ∷ rest) =
      ap (λ (x : List Rot). merge_locally l C x (rens rest))
      (ap (λ (x : Option (List Rot)). get_or x (rens (r ∷ done))) (merge_back_same done r) ∙ or_laid (merge_back l A done r) (r ∷ done))
      ∙ merge_locally_same (get_or (merge_back l A done r) (r ∷ done)) rest

  drop_zero_rots_same : (xs : List Rot) → drop_zero_rots (rens xs) ≡ rens (drop_zero_rots xs)
  unfolding drop_zero_rots
  drop_zero_rots_same xs = keep_map is_nonzero ren xs

  improves_same : (eager : Bool) (trial old : List Rot)
      → improves l C eager (rens trial) (rens old) ≡ Option.map rens (improves l A eager trial old)
  unfolding improves
  improves_same eager trial old =
      let new = drop_zero_rots (merge_locally l A [] trial) in
      ap (λ (x : List Rot). when is_better eager x (rens old) then some x else none)
      (ap drop_zero_rots (merge_locally_same [] trial) ∙ drop_zero_rots_same (merge_locally l A [] trial))
      ∙ ap (λ (b : Bool). when b then some (rens new) else none) (better_same eager new old)
      ∙ sym (of_if (Option.map rens) (is_better eager new old) (some new) none)

  -- ---- `try_triple`

  abbrev ren_start : Start → Start
  ren_start s = record { skipped = rens s.skipped; suffix = rens s.suffix }

  starts_same : (before rest : List Rot) → starts (rens before) (rens rest) ≡ map ren_start (starts before rest)
  unfolding starts
  starts_same before [] = refl
  starts_same before (r ∷ rest) =
      ap (λ (xs : List Start). ren_start (record { skipped = before; suffix = r ∷ rest }) ∷ xs)
      (ap (λ (x : List Rot). starts x (rens rest)) (sym (map-append ren before (r ∷ []))) ∙ starts_same (before ++ (r ∷ [])) rest)

  abbrev ren_end : End → End
  ren_end e = record { prefix = rens e.prefix; remainder = rens e.remainder }

  ends_same : (before rest : List Rot) → ends (rens before) (rens rest) ≡ map ren_end (ends before rest)
  unfolding ends
  ends_same before [] = refl
  ends_same before (r ∷ rest) =
      ap (λ (x : List Rot). ends x (rens rest) ++ (record { prefix = x; remainder = rens rest } ∷ [])) (sym (map-append ren before (r ∷ [])))
      ∙ ap (λ (xs : List End). xs ++ (ren_end (record { prefix = before ++ (r ∷ []); remainder = rest }) ∷ []))
      (ends_same (before ++ (r ∷ [])) rest)
      ∙ sym (map-append ren_end (ends (before ++ (r ∷ [])) rest) (record { prefix = before ++ (r ∷ []); remainder = rest } ∷ []))

  abbrev ren_triple : Triple → Triple
  ren_triple t = record {
    skipped = rens t.skipped;
    first = rens t.first;
    second = rens t.second;
    third = rens t.third;
    remainder = rens t.remainder;
  }

  with_ends_same : (b : List Rot) (s : Start) (es : List End) → with_ends (rens b) (ren_start s) (map ren_end es) ≡ map ren_triple (with_ends b s es)
  unfolding with_ends
  with_ends_same b s [] = refl
  with_ends_same b s (e ∷ es) =
      let t : Triple =
      record { skipped = s.skipped; first = s.suffix; second = b; third = e.prefix; remainder = e.remainder } in
      ap (λ (ts : List Triple). ren_triple t ∷ ts) (with_ends_same b s es)

  with_starts_same : (b : List Rot) (ss : List Start) (es : List End)
      → with_starts (rens b) (map ren_start ss) (map ren_end es) ≡ map ren_triple (with_starts b ss es)
  unfolding with_starts
  with_starts_same b [] es = refl
  with_starts_same b (s ∷ ss) es =
      ap₂ (λ (x y : List Triple). x ++ y) (with_ends_same b s es) (with_starts_same b ss es)
      ∙ sym (map-append ren_triple (with_ends b s es) (with_starts b ss es))

  triples_same : (candidates : ℕ) (a b c : List Rot)
      → triples candidates (rens a) (rens b) (rens c) ≡ map ren_triple (triples candidates a b c)
  unfolding triples
  triples_same candidates a b c =
      ap (take (suc candidates))
      (ap₂ (with_starts (rens b)) (starts_same [] a) (ends_same [] c) ∙ with_starts_same b (starts [] a) (ends [] c))
      ∙ map_take ren_triple (suc candidates) (with_starts b (starts [] a) (ends [] c))

  share_axis_same : (eager : Bool) (a c : List Rot) → share_axis eager (rens a) (rens c) ≡ share_axis eager a c
  unfolding share_axis is_useful
  share_axis_same eager a c =
      map_any ren _ _ (λ x. ap (λ (b : Bool). is_useful eager x && b)
      (map_any ren _ _ (λ y. ap (λ (b : Bool). is_useful eager y && b) (h.same x.axis y.axis)) c)) a

  abbrev ren_swap : Swap → Swap
  ren_swap s = record { skipped = rens s.skipped; new = rens s.new; remainder = rens s.remainder }

  made_same : (t : Triple) (x : Option (List Rot))
      → Option.map (swap_of (ren_triple t)) (Option.map rens x) ≡ Option.map ren_swap (Option.map (swap_of t) x)
  made_same t none = refl
  made_same t (some x) = refl

  -- three groups, one behind the other
  three : (a b c : List Rot) → rens a ++ (rens b ++ rens c) ≡ rens (a ++ (b ++ c))
  three a b c = ap (λ (x : List Rot). rens a ++ x) (sym (map-append ren b c)) ∙ sym (map-append ren a (b ++ c))

  module _ (rules : ExchangeRules) where
    try_exchange_same : (t : Triple) (g k trial : List Rot)
        → try_exchange l C rules (ren_triple t) (rens g) (rens k) (rens trial) ≡ Option.map ren_swap (try_exchange l A rules t g k trial)
    unfolding try_exchange
    try_exchange_same t g k trial =
        let old = t.first ++ (t.second ++ t.third) in
        ap₂ (λ (b : Bool) (x : Option (List Rot)). when b then Option.map (swap_of (ren_triple t)) x else none) (generators_same g k)
        (ap (improves l C rules.eager (rens trial)) (three t.first t.second t.third) ∙ improves_same rules.eager trial old)
        ∙ ap (λ (x : Option Swap). when generators_commute l A g k then x else none) (made_same t (improves l A rules.eager trial old))
        ∙ sym (of_if (Option.map ren_swap) (generators_commute l A g k) (Option.map (swap_of t) (improves l A rules.eager trial old)) none)

    first_same : (t : Triple) → first_with_second l C rules (ren_triple t) ≡ Option.map ren_swap (first_with_second l A rules t)
    unfolding first_with_second
    first_same t =
        ap (try_exchange l C rules (ren_triple t) (rens t.first) (rens t.second)) (three t.second t.first t.third)
        ∙ try_exchange_same t t.first t.second (t.second ++ (t.first ++ t.third))

    second_same : (t : Triple) → second_with_third l C rules (ren_triple t) ≡ Option.map ren_swap (second_with_third l A rules t)
    unfolding second_with_third
    second_same t =
        ap (try_exchange l C rules (ren_triple t) (rens t.second) (rens t.third)) (three t.first t.third t.second)
        ∙ try_exchange_same t t.second t.third (t.first ++ (t.third ++ t.second))

    try_exchanges_same : (t : Triple)
        → try_exchanges l C rules (ren_triple t) ≡ Option.map ren_swap (try_exchanges l A rules t)
    unfolding try_exchanges
    try_exchanges_same t =
        let x = first_with_second l A rules t in
        let y = second_with_third l A rules t in
        ap₂ (λ (u v : Option Swap). when rules.second_first then or_else v u else or_else u v) (first_same t) (second_same t)
        ∙ ap₂ (λ (u v : Option Swap). when rules.second_first then u else v) (sym (of_else ren_swap y x)) (sym (of_else ren_swap x y))
        ∙ sym (of_if (Option.map ren_swap) rules.second_first (or_else y x) (or_else x y))

    try_triple_same : (ts : List Triple)
        → try_triple l C rules (map ren_triple ts) ≡ Option.map ren_swap (try_triple l A rules ts)
    unfolding try_triple
    try_triple_same [] = refl
    try_triple_same (t ∷ ts) =
        let one = when share_axis rules.eager t.first t.third then try_exchanges l A rules t else none in
        ap₂ (λ (u v : Option Swap). or_else u v)
        (ap₂ (λ (b : Bool) (u : Option Swap). when b then u else none) (share_axis_same rules.eager t.first t.third) (try_exchanges_same t)
        ∙ sym (of_if (Option.map ren_swap) (share_axis rules.eager t.first t.third) (try_exchanges l A rules t) none))
        (try_triple_same ts)
        ∙ sym (of_else ren_swap one (try_triple l A rules ts))

  -- ---- `run_end`

  abbrev ren_run : RunEnd → RunEnd
  ren_run x = record { run = rens x.run; rest = rens x.rest }

  module _ (window : ℕ) where
    joins_same : (taken : List Rot) (r : Rot)
        → (ltb (length (rens taken)) window && all_of (λ (x : Rot). not (anticommute l C x.axis (ρ r.axis))) (rens taken))
        ≡ (ltb (length taken) window && all_of (λ (x : Rot). not (anticommute l A x.axis r.axis)) taken)
    joins_same taken r =
        ap₂ ◌&&◌ (ap (λ (n : ℕ). ltb n window) (length-map taken ren))
        (map_all ren _ _ (λ x. ap not (anti_same x.axis r.axis)) taken)

    run_end_from_same : (taken rest : List Rot) → run_end_from l C window (rens taken) (rens rest) ≡ ren_run (run_end_from l A window taken rest)
    unfolding run_end_from
    run_end_from_same taken [] = refl
    run_end_from_same taken (r ∷ rest) =
        let joins = ltb (length taken) window && all_of (λ (x : Rot). not (anticommute l A x.axis r.axis)) taken in
        ap₂ (λ (b : Bool) (x : RunEnd). when b then x else record { run = rens taken; rest = rens (r ∷ rest) }) (joins_same taken r)
        (ap (λ (x : List Rot). run_end_from l C window x (rens rest)) (sym (map-append ren taken (r ∷ [])))
        ∙ run_end_from_same (taken ++ (r ∷ [])) rest)
        ∙ sym (of_if ren_run joins (run_end_from l A window (taken ++ (r ∷ [])) rest) (record { run = taken; rest = r ∷ rest }))

    run_end_same : (rots : List Rot) → run_end l C window (rens rots) ≡ ren_run (run_end l A window rots)
    unfolding run_end
    run_end_same rots = run_end_from_same [] rots

    rest_same : (rots : List Rot) → (run_end l C window (rens rots)).rest ≡ rens (run_end l A window rots).rest
    rest_same rots = ap (λ (x : RunEnd). x.rest) (run_end_same rots)

    no_triple_same : (rots : List Rot) → no_triple l C window (rens rots) ≡ no_triple l A window rots
    unfolding no_triple
    no_triple_same rots =
        let second = (run_end l A window rots).rest in
        ap₂ ◌||◌ (ap is_empty (rest_same rots) ∙ map_empty ren second)
        (ap is_empty (ap (λ (x : List Rot). (run_end l C window x).rest) (rest_same rots) ∙ rest_same second)
        ∙ map_empty ren (run_end l A window second).rest)

  -- ---- `swaps`

  abbrev ren_swapping : Swapping → Swapping
  ren_swapping s = record { done = rens s.done; found = s.found; rest = rens s.rest }

  next_start_same : (first third : RunEnd) (s : Swapping) (o : Option Swap)
      → next_start (ren_run first) (ren_run third) (ren_swapping s) (Option.map ren_swap o) ≡ ren_swapping (next_start first third s o)
  unfolding next_start
  next_start_same first third s none =
      ap (λ (x : List Rot). record { done = x; found = s.found; rest = rens first.rest }) (sym (map-append ren s.done first.run))
  next_start_same first third s (some x) =
      ap₂ (λ (d r : List Rot). record { done = d; found = suc s.found; rest = r }) (three s.done x.skipped x.new)
      (sym (map-append ren x.remainder third.rest))

  module _ (rules : ExchangeRules) where
    abbrev window : ℕ
    window = rules.window

    abbrev candidates : ℕ
    candidates = rules.candidates

    swap_step_same : (s : Swapping)
        → swap_step l C rules (ren_swapping s) ≡ ren_swapping (swap_step l A rules s)
    unfolding swap_step
    swap_step_same s =
        let first = run_end l A window s.rest in
        let second = run_end l A window first.rest in
        let third = run_end l A window second.rest in
        let two = ap (run_end l C window) (rest_same window s.rest) ∙ run_end_same window first.rest in
        let three' = ap (λ (x : RunEnd). run_end l C window x.rest) two ∙ run_end_same window second.rest in
        let next : RunEnd → RunEnd → RunEnd → Swapping = λ x y z.
        next_start x z (ren_swapping s) (try_triple l C rules (triples candidates x.run y.run z.run)) in
        ap₂ (λ (x y : RunEnd). next x y (run_end l C window (run_end l C window (run_end l C window (rens s.rest)).rest).rest))
        (run_end_same window s.rest) two
        ∙ ap (next (ren_run first) (ren_run second)) three'
        ∙ ap (next_start (ren_run first) (ren_run third) (ren_swapping s))
        (ap (try_triple l C rules) (triples_same candidates first.run second.run third.run)
        ∙ try_triple_same rules (triples candidates first.run second.run third.run))
        ∙ next_start_same first third s (try_triple l A rules (triples candidates first.run second.run third.run))

    swaps_from_same : (k : ℕ) (s : Swapping)
        → swaps_from l C rules k (ren_swapping s)
        ≡ ren_swapping (swaps_from l A rules k s)
    unfolding swaps_from
    swaps_from_same zero s = refl
    swaps_from_same (suc k) s =
        let next = swap_step l A rules s in
        ap₂ (λ (b : Bool) (x : Swapping). when b then ren_swapping s else x) (no_triple_same window s.rest)
        (ap (swaps_from l C rules k) (swap_step_same s) ∙ swaps_from_same k next)
        ∙ sym (of_if ren_swapping (no_triple l A window s.rest) s (swaps_from l A rules k next))

    -- the exchanges of a segment, renamed
    pub swaps_same : (rots : List Rot)
        → swaps l C rules (map (renamed_rot ρ) rots)
        ≡ record {
          rots = map (renamed_rot ρ) (swaps l A rules rots).rots;
          changes = (swaps l A rules rots).changes;
        }
    unfolding swaps
    swaps_same rots =
        let s : Swapping = record { done = []; found = 0; rest = rots } in
        let e = swaps_from l A rules (length rots) s in
        ap (λ (x : Swapping). record { rots = x.done ++ x.rest; changes = x.found })
        (ap (λ (n : ℕ). swaps_from l C rules n (ren_swapping s)) (length-map rots ren) ∙ swaps_from_same (length rots) s)
        ∙ ap (λ (x : List Rot). record { rots = x; changes = e.found }) (sym (map-append ren e.done e.rest))
