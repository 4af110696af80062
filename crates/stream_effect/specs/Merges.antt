-- A rotation that has come merges, is absorbed or is put out: each follows what was read. Assumes nothing.
use Rattle.std.specs.Prelude.{◌≡◌, Bool, ◌&&◌, ℕ, suc, ◌+◌, ◌-◌, ◌%◌, ◌≤◌, ◌<◌, leb, length, drop, set}
use Rattle.std.proofs.Math.Path.{refl, subst}
use Rattle.std.proofs.Common.{sym, ◌∙◌, ap, arith, eqb-true}
use Rattle.std.proofs.Math.Bool.{true}
use mathlib.Core.List.{List, [], ◌∷◌, ◌++◌}
use Rattle.std.proofs.Math.Dec.{eqb}
use Rattle.std.proofs.Math.Seq.{set-append_seam}
use Rattle.model.specs.Program.{Operation}
use Rattle.model.specs.Lists.{when◌then◌else◌, all_of, is_even}
use Rattle.model.specs.declared.Absorption.{Absorption}
use Rattle.model.specs.Rules.{is_at_once, Rules}
use Rattle.model.specs.Items.{rot, Item, rotation, is_clifford}
use Rattle.model.specs.Stream.{Place, nowhere, at, Pass, with_last, count_merge, set_angle, leave_zero, put_out_rotation, lets_pass, can_reach, angle_at}
use Rattle.model.specs.Stream.{absorb, merge_at}
use Rattle.model.specs.Stream.{merge_or_put_out, take_rotation}
use Rattle.theory.specs.Cases.{on_if, by_if, and_right}
use Rattle.theory.specs.Every.{Every, every_right}
use Rattle.theory.specs.StreamState.{AllIn, Sound, absorb_axes}
use Rattle.words_wellformed.specs.PassWords.{WellPass}
use Rattle.run_wellformed.specs.CliffordAngles.{clifford_angle, even_angle}
use Rattle.run_wellformed.specs.WaitingItems.{Passes, all_pass}
use Rattle.effect.specs.Effect.{Op}
use Rattle.effect.specs.Packed.{Packed, packed}
use Rattle.stream_effect.specs.Slide.{Lets, zero_end}
use Rattle.stream_effect.specs.Split.{Split, names_split, passes_lets}
use Rattle.stream_effect.specs.Follows.{word_at, barrier_at, ops_of, turn_at, Follows, Streamed, Pending}
use Rattle.stream_effect.specs.Follows.{follows_replaced, follows_same, follows_absorb, follows_lower, follows_merge}
use Rattle.stream_effect.specs.Steps.{put_inside, put_out_rotation_follows}

module _ (l : ℕ) (operations : List Operation) where
  abbrev W : Type 0
  W = Packed l

  abbrev Well : Pass → Type 0
  Well = WellPass l (Unit {0})

  abbrev S : List (Op W) → Pass → Type 0
  S X p = Streamed l operations X p

  -- ---- a merge at the place that `last` names

  module _ (X : List (Op W)) (p : Pass) (j a : ℕ) (w : Well p) (split : Split p.out a j)
      (passes : Every (Passes l p.store.axes a) split.back) where
    abbrev axes : List (List ℕ)
    axes = p.store.axes

    inside : AllIn (length axes) (rotation (rot a split.angle) ∷ split.back)
    inside =
        every_right (λ (i : Item). _) split.front (rotation (rot a split.angle) ∷ split.back)
        (subst (AllIn (length axes)) split.whole (put_inside _ p.out w.output))

    lets : Every (Lets (packed l) (word_at l operations axes) (barrier_at l operations axes) (word_at l operations axes a)) split.back
    lets = passes_lets l axes w.stored (barrier_at l operations axes) a inside.0 split.back inside.1 passes

    -- the output with angle k at the place
    abbrev placed : ℕ → List Item
    placed k = split.front ++ (rotation (rot a k) ∷ split.back)

    placed_set : (k : ℕ) → set p.out j (rotation (rot a k)) ≡ placed k
    placed_set k =
        ap (λ (n : ℕ). set p.out n (rotation (rot a k))) (sym split.place)
        ∙ ap (λ (is : List Item). set is (length split.front) (rotation (rot a k))) split.whole
        ∙ set-append_seam split.front (rotation (rot a split.angle)) split.back (rotation (rot a k))

    -- merged, and at the end
    abbrev Merged : ℕ → Type 0
    Merged k = Follows l operations X (ops_of l operations axes (placed 0) ++ (turn_at l operations axes a k ∷ [])) p

    merged : (k : ℕ) → Pending l operations X p a k → Merged ((split.angle + k) % 8)
    merged k h =
        follows_merge l operations X p axes split.front split.back a split.angle k lets
        (subst (λ (is : List Item). Follows l operations X (ops_of l operations axes is ++ (turn_at l operations axes a k ∷ [])) p) split.whole h)

    -- it is absorbed, and the place left as a zero
    merged_absorbed : (k : ℕ) → k ≤ 7 → is_clifford k ≡ true → Merged k → S X (leave_zero j a (absorb l p a k))
    merged_absorbed k b c h =
        let q = leave_zero j a (absorb l p a k) in
        subst (λ (Y : List (Op W)). Follows l operations X Y q) (sym out)
        (follows_same l operations X (ops_of l operations axes (placed 0)) (absorb l p a k) q (unfold leave_zero set_angle with_last in refl)
        (unfold leave_zero set_angle with_last in refl)
        (follows_absorb l operations X (ops_of l operations axes (placed 0)) p a k w.stored inside.0 (clifford_angle k b c) h))
      where
        out : ops_of l operations (leave_zero j a (absorb l p a k)).store.axes (leave_zero j a (absorb l p a k)).out
            ≡ ops_of l operations axes (placed 0)
        out =
            unfold leave_zero set_angle with_last in
            (ap (λ (x : List (List ℕ)). ops_of l operations x (set (absorb l p a k).out j (rotation (rot a 0)))) (absorb_axes l p a k)
            ∙ unfold absorb in (ap (ops_of l operations axes) (placed_set 0)))

    -- it is gone
    merged_zero : (k : ℕ) → k ≡ 0 → Merged k → S X (leave_zero j a p)
    unfolding leave_zero set_angle with_last
    merged_zero k e h =
        subst (λ (is : List Item). Follows l operations X (ops_of l operations axes is) (leave_zero j a p)) (sym out)
        (follows_same l operations X (ops_of l operations axes (placed 0)) p (leave_zero j a p) (unfold leave_zero set_angle with_last in refl)
        (unfold leave_zero set_angle with_last in refl)
        (follows_replaced l operations X (ops_of l operations axes (placed 0) ++ (turn_at l operations axes a 0 ∷ []))
        (ops_of l operations axes (placed 0)) p
        (zero_end (packed l) (word_at l operations axes) (barrier_at l operations axes) (ops_of l operations axes (placed 0))
        (word_at l operations axes a))
        (subst Merged e h)))
      where
        out : (leave_zero j a p).out ≡ placed 0
        out = unfold leave_zero set_angle with_last in (placed_set 0)

    -- it stays
    merged_set : (k : ℕ) → Merged k → S X (set_angle j a k p)
    unfolding set_angle
    merged_set k h =
        subst (λ (is : List Item). Follows l operations X (ops_of l operations axes is) (set_angle j a k p)) (sym out)
        (follows_same l operations X (ops_of l operations axes (placed k)) p (set_angle j a k p) (unfold set_angle in refl) (unfold set_angle in refl)
        (follows_lower l operations X p axes split.front split.back a k lets h))
      where
        out : (set_angle j a k p).out ≡ placed k
        out = unfold set_angle in (placed_set k)

    -- place j gets the sum of the angles
    merge_at_follows : (m : Absorption) (k : ℕ) → Pending l operations X p a k → S X (merge_at l m p j a ((split.angle + k) % 8))
    unfolding merge_at
    merge_at_follows m k h =
        let n = (split.angle + k) % 8 in
        let g = merged k h in
        on_if (S X) (is_at_once m && is_clifford n) (leave_zero j a (absorb l p a n)) (when eqb n 0 then leave_zero j a p else set_angle j a n p)
        (λ e. merged_absorbed n (omega arith) (and_right (is_at_once m) (is_clifford n) e) g)
        (λ e. on_if (S X) (eqb n 0) (leave_zero j a p) (set_angle j a n p) (λ z. merged_zero n (eqb-true n 0 z) g) (λ z. merged_set n g))

  -- ---- "it merges there; else it is put out and `last` set"

  counted_well : (p : Pass) → Well p → Well (count_merge p)
  unfolding count_merge
  counted_well p w = record { stored = w.stored; images = w.images; output = w.output }

  counted_follows : (X : List (Op W)) (p : Pass) (a k : ℕ) → Pending l operations X p a k → Pending l operations X (count_merge p) a k
  unfolding count_merge
  counted_follows X p a k h =
      follows_same l operations X (ops_of l operations p.store.axes p.out ++ (turn_at l operations p.store.axes a k ∷ [])) p
      (count_merge p) refl refl h

  merge_follows : (X : List (Op W)) (r : Rules) (p : Pass) (j a k : ℕ) → Well p → Sound p → p.last a ≡ at j
      → can_reach l r.lookback p.store.axes p.out j a ≡ true → Pending l operations X p a k
      → S X (merge_at l r.absorption (count_merge p) j a ((angle_at p.out j + k) % 8))
  merge_follows X r p j a k w s e c h =
      subst (λ (n : ℕ). S X (merge_at l r.absorption (count_merge p) j a ((n + k) % 8))) (sym split.angled)
      (unfold count_merge in (merge_at_follows X (count_merge p) j a (counted_well p w) split passes r.absorption k (counted_follows X p a k h)))
    where
      split : Split p.out a j
      split = names_split p.out a j (s.names a j e)

      reached : all_of (lets_pass l p.store.axes a) (drop (suc j) p.out) ≡ true
      reached = unfold can_reach in (and_right (leb (length p.out - j - 1) r.lookback) _ c)

      passes : Every (Passes l p.store.axes a) split.back
      passes =
          all_pass l p.store.axes a split.back split.rotations
          (subst (λ (is : List Item). all_of (lets_pass l p.store.axes a) is ≡ true) split.later reached)

  merge_or_put_out_follows : (X : List (Op W)) (r : Rules) (p : Pass) (a k : ℕ) (place : Place) → Well p → Sound p
      → ((j : ℕ) → place ≡ at j → p.last a ≡ at j) → Pending l operations X p a k → S X (merge_or_put_out l r p a k place)
  unfolding merge_or_put_out
  merge_or_put_out_follows X r p a k nowhere w s f h = put_out_rotation_follows l operations X p a k h
  merge_or_put_out_follows X r p a k (at j) w s f h =
      on_if (S X) (can_reach l r.lookback p.store.axes p.out j a)
      (merge_at l r.absorption (count_merge p) j a ((angle_at p.out j + k) % 8)) (put_out_rotation p a k)
      (λ c. merge_follows X r p j a k w s (f j refl) c h) (λ c. put_out_rotation_follows l operations X p a k h)

  -- "An even rotation is absorbed. Otherwise .."
  pub take_rotation_follows : (X : List (Op W)) (r : Rules) (merging : Bool) (p : Pass) (a k : ℕ) → Well p → Sound p → a < length p.store.axes
      → 0 < k → k ≤ 7 → Pending l operations X p a k → S X (take_rotation l r merging p a k)
  unfolding take_rotation
  take_rotation_follows X r merging p a k w s b z n h =
      on_if (S X) (is_at_once r.absorption && is_even k) (absorb l p a k) (merge_or_put_out l r p a k (when merging then p.last a else nowhere))
      (λ e. absorbed (and_right (is_at_once r.absorption) (is_even k) e))
      (λ e. merge_or_put_out_follows X r p a k (when merging then p.last a else nowhere) w s
      (λ j. by_if (λ (x : Place). x ≡ at j → p.last a ≡ at j) merging (p.last a) nowhere (λ f. f) (λ f. nowhere_at j f)) h)
    where
      absorbed : is_even k ≡ true → S X (absorb l p a k)
      absorbed e =
          subst (λ (x : List (List ℕ)). Follows l operations X (ops_of l operations x (absorb l p a k).out) (absorb l p a k))
          (sym (absorb_axes l p a k))
          (unfold absorb in
          (follows_absorb l operations X (ops_of l operations p.store.axes p.out) p a k w.stored b (even_angle k z n e) h))

      nowhere_at : (j : ℕ) → nowhere ≡ at j → p.last a ≡ at j
      nowhere_at j e = let z : ◌≡◌ {A = ℕ} 0 1 = cc in absurd (omega arith)
