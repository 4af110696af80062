-- 01, Exchange: the swaps of a segment keep its effect. Assumes nothing.
use Rattle.std.specs.Prelude.{◌≡◌, Bool, true, length}
use Rattle.std.proofs.Common.{sym, ◌∙◌, ap₂}
use Rattle.std.proofs.Math.Path.{ap}
use Rattle.std.proofs.Math.Option.{Option, none, some, map, get_or}
use mathlib.Core.List.{List, [], ◌∷◌, ◌++◌, append_assoc}
use Prim.Native.Nat.{ℕ, zero, suc, ◌+◌, ◌%◌, ◌<◌}
use native.Mathlib.Omega.{arith}
use Rattle.model.specs.declared.ExchangeRules.{ExchangeRules}
use Rattle.model.specs.Items.{Rot, is_nonzero, drop_zero_rots}
use Rattle.model.specs.Exchange.{generators_commute, merge_back, merge_locally, improves, Triple, triples, Swap, swap_of, try_exchange, first_with_second}
use Rattle.model.specs.Exchange.{second_with_third, try_triple, RunEnd, Swapping, next_start, run_end, swap_step, swaps_from, swaps}
use Rattle.theory.specs.Cases.{by_if, on_if}
use Rattle.theory.specs.TieOrder.{try_triple_either}
use Rattle.theory.specs.Every.{Every, every_append, every_keep, every_reverse, every_left, every_right}
use Rattle.effect.specs.Words.{Setting}
use Rattle.items_effect.specs.Rotations.{≋-refl, ≋-sym, ≋-trans, ≋-before, ≋-after, ≋-along, ≋-eq, drop_zero_rots_effect}
use Rattle.items_effect.specs.Rotations as Rotations
use Rattle.items_effect.specs.AxisWords.{AxisWords, Sound}
use Rattle.exchange_effect.specs.Merging.{merge_locally_effect}
use Rattle.exchange_effect.specs.Certified.{certificate}
use Rattle.exchange_effect.specs.Runs.{has_axes, IsRun, run_left, run_right, RunOf, run_end_run, TripleOf, triples_of}

module _ (H : Setting) (l : ℕ) (axes : List (List ℕ)) (A : AxisWords H l axes) where
  infix 20 ◌≋◌
  abbrev ◌≋◌ : List Rot → List Rot → Type 0
  g ≋ h = Rotations.◌≋◌ H A.word g h

  abbrev S : Rot → Type 0
  S r = Sound axes r

  abbrev Run : List Rot → Type 0
  Run g = IsRun H l axes A g

  -- ---- merging leaves stored axes and angles below 8

  abbrev SoundIf : Option (List Rot) → Type 0
  SoundIf none = Unit {0}
  SoundIf (some g) = Every S g

  behind_sound : (d : Rot) (o : Option (List Rot)) → S d → SoundIf o → SoundIf (map (λ ds. d ∷ ds) o)
  behind_sound d none h k = tt
  behind_sound d (some ds) h k = (h, k)

  next_sound : (o : Option (List Rot)) (ds : List Rot) → SoundIf o → Every S ds → Every S (get_or o ds)
  next_sound none ds h k = k
  next_sound (some es) ds h k = h

  merge_back_sound : (done : List Rot) (r : Rot) → Every S done → SoundIf (merge_back l axes done r)
  unfolding merge_back
  merge_back_sound [] r h = tt
  merge_back_sound (d ∷ before) r h =
      let further = behind_sound d (merge_back l axes before r) h.0 (merge_back_sound before r h.1) in
      let small : (d.angle + r.angle) % 8 < 8 = omega arith in
      by_if SoundIf _ _ _ further (by_if SoundIf _ _ _ ((h.0.0, small), h.1) (by_if SoundIf _ _ _ tt further))

  pub merge_locally_sound : (done rest : List Rot) → Every S done → Every S rest → Every S (merge_locally l axes done rest)
  unfolding merge_locally
  merge_locally_sound done [] h k = every_reverse S done h
  merge_locally_sound done (r ∷ rest) h k =
      let o = merge_back l axes done r in
      merge_locally_sound (get_or o (r ∷ done)) rest (next_sound o (r ∷ done) (merge_back_sound done r h) (k.0, h)) k.1

  -- ---- `improves`

  abbrev Improved : List Rot → Option (List Rot) → Type 0
  Improved trial none = Unit {0}
  Improved trial (some new) = (new ≋ trial) × Every S new

  improves_effect : (eager : Bool) (trial old : List Rot) → Every S trial → Improved trial (improves l axes eager trial old)
  unfolding improves
  improves_effect eager trial old h = by_if (Improved trial) _ _ _ (same, sound) tt
    where
      merged : List Rot
      merged = merge_locally l axes [] trial

      same : drop_zero_rots merged ≋ trial
      same =
          ≋-trans H A.word (drop_zero_rots merged) merged trial (drop_zero_rots_effect H A.word merged)
          (merge_locally_effect H l axes A trial (has_axes axes trial h))

      sound : Every S (drop_zero_rots merged)
      sound = unfold drop_zero_rots in every_keep S is_nonzero merged (merge_locally_sound [] trial tt h)

  -- ---- `try_triple`

  -- a swap keeps the effect of the rotations that it replaces
  abbrev Kept : List Rot → Option Swap → Type 0
  Kept whole none = Unit {0}
  Kept whole (some x) = ((x.skipped ++ (x.new ++ x.remainder)) ≋ whole) × Every S x.skipped × Every S x.new × Every S x.remainder

  abbrev inner : Triple → List Rot
  inner t = t.first ++ (t.second ++ t.third)

  abbrev outer : Triple → List Rot
  outer t = t.skipped ++ (inner t ++ t.remainder)

  -- the parts of a triple: runs, and sound rotations around them
  abbrev Parts : Triple → Type 0
  Parts t = Every S t.skipped × Run t.first × Run t.second × Run t.third × Every S t.remainder

  made_kept : (t : Triple) (trial : List Rot) → Parts t → trial ≋ inner t
      → (o : Option (List Rot)) → Improved trial o → Kept (outer t) (map (swap_of t) o)
  made_kept t trial p e none h = tt
  made_kept t trial p e (some new) h = (
    ≋-before H A.word t.skipped (new ++ t.remainder) (inner t ++ t.remainder)
        (≋-after H A.word new (inner t) t.remainder (≋-trans H A.word new trial (inner t) h.0 e)),
    p.0,
    h.1,
    p.4,
  )

  module _ (rules : ExchangeRules) where
    try_exchange_kept : (t : Triple) (g h trial : List Rot) → Parts t → Every S trial → (generators_commute l axes g h ≡ true → trial ≋ inner t)
        → Kept (outer t) (try_exchange l axes rules t g h trial)
    unfolding try_exchange
    try_exchange_kept t g h trial p k same =
        on_if (Kept (outer t)) _ _ _
        (λ e. made_kept t trial p (same e) (improves l axes rules.eager trial (inner t)) (improves_effect rules.eager trial (inner t) k))
        (λ e. tt)

    first_with_second_kept : (t : Triple) → Parts t → Kept (outer t) (first_with_second l axes rules t)
    unfolding first_with_second
    first_with_second_kept t p =
        let a = t.first in
        let b = t.second in
        let c = t.third in
        try_exchange_kept t a b (b ++ (a ++ c)) p (every_append S b (a ++ c) p.2.0 (every_append S a c p.1.0 p.3.0))
        (λ e. ≋-along H A.word (sym (append_assoc b a c)) (sym (append_assoc a b c))
        (≋-after H A.word (b ++ a) (a ++ b) c
        (≋-sym H A.word (a ++ b) (b ++ a) (certificate H l axes A a b p.1.0 p.2.0 p.1.1 p.2.1 e))))

    second_with_third_kept : (t : Triple) → Parts t → Kept (outer t) (second_with_third l axes rules t)
    unfolding second_with_third
    second_with_third_kept t p =
        let a = t.first in
        let b = t.second in
        let c = t.third in
        try_exchange_kept t b c (a ++ (c ++ b)) p (every_append S a (c ++ b) p.1.0 (every_append S c b p.3.0 p.2.0))
        (λ e. ≋-before H A.word a (c ++ b) (b ++ c)
        (≋-sym H A.word (b ++ c) (c ++ b) (certificate H l axes A b c p.2.0 p.3.0 p.2.1 p.3.1 e)))

    module _ (a b c : List Rot) (ra : Run a) (rb : Run b) (rc : Run c) where
      parts_of : (t : Triple) → TripleOf a b c t → Parts t
      parts_of t h =
          let front = rw (sym h.0) at ra in
          let back = rw (sym h.2) at rc in (
            every_left S t.skipped t.first front.0,
            run_right H l axes A t.skipped t.first front,
            rw h.1 rb,
            run_left H l axes A t.third t.remainder back,
            every_right S t.third t.remainder back.0,
          )

      outer_of : (t : Triple) → TripleOf a b c t → outer t ≡ a ++ (b ++ c)
      outer_of t h =
          let regroup : outer t ≡ (t.skipped ++ t.first) ++ (t.second ++ (t.third ++ t.remainder)) = simp append_assoc in
          regroup ∙ ap₂ (λ (x y : List Rot). x ++ y) h.0 (ap₂ (λ (x y : List Rot). x ++ y) h.1 h.2)

      pub try_triple_effect : (candidates : ℕ) → Kept (a ++ (b ++ c)) (try_triple l axes rules (triples candidates a b c))
      try_triple_effect candidates =
          try_triple_either l axes rules (Kept (a ++ (b ++ c))) (TripleOf a b c) tt
          (λ t h. rw (outer_of t h) at (first_with_second_kept t (parts_of t h)))
          (λ t h. rw (outer_of t h) at (second_with_third_kept t (parts_of t h)))
          (triples candidates a b c) (triples_of candidates a b c)

  -- ---- `swaps`

  -- what is done and what is left keep the effect of what was there
  abbrev pub Swapped : List Rot → Swapping → Type 0
  Swapped whole s = Rotations.◌≋◌ H A.word (s.done ++ s.rest) whole × Every (Sound axes) s.done × Every (Sound axes) s.rest

  next_start_swapped : (first third : RunEnd) (s : Swapping) (m : List Rot) (o : Option Swap) → Kept m o → Every S s.done
      → RunOf H l axes A s.rest first → Every S third.rest → m ++ third.rest ≡ s.rest
      → Swapped (s.done ++ s.rest) (next_start first third s o)
  unfolding next_start
  next_start_swapped first third s m none k h f t e = (
    ≋-eq H A.word ((s.done ++ first.run) ++ first.rest) (s.done ++ s.rest)
        (append_assoc s.done first.run first.rest ∙ ap (λ (x : List Rot). s.done ++ x) f.2),
    every_append S s.done first.run h f.0.0,
    f.1,
  )
  next_start_swapped first third s m (some x) k h f t e = (
    ≋-along H A.word regroup (ap (λ (y : List Rot). s.done ++ y) (sym e)) replaced,
    every_append S s.done (x.skipped ++ x.new) h (every_append S x.skipped x.new k.1 k.2),
    every_append S x.remainder third.rest k.3 t,
  )
    where
      swapped : List Rot
      swapped = x.skipped ++ (x.new ++ x.remainder)

      regroup : (s.done ++ (x.skipped ++ x.new)) ++ (x.remainder ++ third.rest) ≡ s.done ++ (swapped ++ third.rest)
      regroup = simp append_assoc

      replaced : (s.done ++ (swapped ++ third.rest)) ≋ (s.done ++ (m ++ third.rest))
      replaced =
          ≋-before H A.word s.done (swapped ++ third.rest) (m ++ third.rest) (≋-after H A.word swapped m third.rest k.0)

  module _ (rules : ExchangeRules) where
    abbrev run : List Rot → RunEnd
    run g = run_end l axes rules.window g

    pub swap_step_effect : (s : Swapping) → Every S s.done → Every S s.rest
        → Swapped (s.done ++ s.rest) (swap_step l axes rules s)
    unfolding swap_step
    swap_step_effect s h k =
        next_start_swapped first third s (a ++ (b ++ c)) (try_triple l axes rules (triples rules.candidates a b c))
        (try_triple_effect rules a b c r1.0 r2.0 r3.0 rules.candidates) h r1 r3.1 whole
      where
        first : RunEnd
        first = run s.rest

        second : RunEnd
        second = run first.rest

        third : RunEnd
        third = run second.rest

        a : List Rot
        a = first.run

        b : List Rot
        b = second.run

        c : List Rot
        c = third.run

        r1 : RunOf H l axes A s.rest first
        r1 = run_end_run H l axes A rules.window s.rest k

        r2 : RunOf H l axes A first.rest second
        r2 = run_end_run H l axes A rules.window first.rest r1.1

        r3 : RunOf H l axes A second.rest third
        r3 = run_end_run H l axes A rules.window second.rest r2.1

        whole : (a ++ (b ++ c)) ++ third.rest ≡ s.rest
        whole =
            let regroup : (a ++ (b ++ c)) ++ third.rest ≡ a ++ (b ++ (c ++ third.rest)) = simp append_assoc in
            regroup ∙ ap (λ (x : List Rot). a ++ (b ++ x)) r3.2 ∙ ap (λ (x : List Rot). a ++ x) r2.2 ∙ r1.2

    pub swaps_from_effect : (k : ℕ) (s : Swapping) → Every S s.done → Every S s.rest
        → Swapped (s.done ++ s.rest) (swaps_from l axes rules k s)
    unfolding swaps_from
    swaps_from_effect zero s h g = (≋-refl H A.word (s.done ++ s.rest), h, g)
    swaps_from_effect (suc k) s h g =
        let next = swap_step l axes rules s in
        let one = swap_step_effect s h g in
        let end = swaps_from l axes rules k next in
        let more = swaps_from_effect k next one.1 one.2 in
        by_if (Swapped (s.done ++ s.rest)) _ _ _ (≋-refl H A.word (s.done ++ s.rest), h, g)
        (≋-trans H A.word (end.done ++ end.rest) (next.done ++ next.rest) (s.done ++ s.rest) more.0 one.0, more.1, more.2)

    -- where the swaps of a segment end
    abbrev last : List Rot → Swapping
    last rots = swaps_from l axes rules (length rots) (record { done = []; found = 0; rest = rots })

    swapped : (rots : List Rot) → Every S rots → Swapped rots (last rots)
    swapped rots h = swaps_from_effect (length rots) (record { done = []; found = 0; rest = rots }) tt h

    -- the swaps of a segment keep its effect
    pub swaps_effect : (rots : List Rot) → Every (Sound axes) rots → Rotations.◌≋◌ H A.word (swaps l axes rules rots).rots rots
    unfolding swaps
    swaps_effect rots h = (swapped rots h).0
