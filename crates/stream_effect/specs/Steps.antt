-- Each step of a stream follows what it reads. Assumes nothing.
use Rattle.std.specs.Prelude.{◌≡◌, Bool, true, ◌&&◌, ℕ, suc, ◌≤◌, length, set}
use Rattle.std.proofs.Math.Path.{refl, ap, subst}
use Rattle.std.proofs.Common.{sym, ◌∙◌, arith}
use mathlib.Core.List.{List, [], ◌∷◌, ◌++◌, append_assoc}
use Rattle.std.proofs.Math.ListN.{length-append}
use Rattle.std.proofs.Math.Seq.{set-append_seam}
use Rattle.model.specs.Program.{Operation}
use Rattle.model.specs.declared.Absorption.{Absorption}
use Rattle.model.specs.declared.Absorption.TheVariants.{Off as off, AtOnce as at_once, Lazy as lazy}
use Rattle.model.specs.Items.{rot, Item, rotation, barrier, is_clifford}
use Rattle.model.specs.Stream.{Pass, with_last, set_angle, put_out, leave_zero, put_out_rotation}
use Rattle.model.specs.Stream.{carry_axis, absorb, absorb_waiting_at, absorb_waiting, absorb_all_waiting, absorb_blocking, carry_rotation}
use Rattle.theory.specs.Cases.{on_if, and_left}
use Rattle.theory.specs.Every.{Every, every_right}
use Rattle.theory.specs.Ids.{Grows, intern_grows}
use Rattle.theory.specs.StreamState.{AllIn, absorb_axes}
use Rattle.words_wellformed.specs.PassWords.{WellPut, WellPass, carry_axis_well, absorb_waiting_at_well, absorb_blocking_well}
use Rattle.run_wellformed.specs.CliffordAngles.{clifford_angle}
use Rattle.run_wellformed.specs.WaitingItems.{zeroed, Passes, Waits, waits_seam}
use Rattle.run_wellformed.specs.Waiting.{Waiting, at_seam, carry_axis_waiting, absorb_waiting_at_out, absorb_waiting_at_waiting}
use Rattle.effect.specs.Effect.{Op}
use Rattle.effect.specs.Packed.{Packed}
use Rattle.stream_effect.specs.Split.{passes_lets}
use Rattle.stream_effect.specs.Follows.{barrier_at, ops_of, turn_at, ops_of_append, ops_of_grows, Follows, Streamed, Pending}
use Rattle.stream_effect.specs.Follows.{follows_same, follows_absorb, follows_lift}

-- ids of an output in range
pub put_inside : (m : ℕ) (is : List Item) → Every (WellPut (Unit {0}) m) is → AllIn m is
put_inside m [] h = tt
put_inside m (rotation r ∷ is) h = (h.0.0, put_inside m is h.1)
put_inside m (barrier o a s ∷ is) h = (h.0.0, put_inside m is h.1)

module _ (l : ℕ) (operations : List Operation) where
  abbrev W : Type 0
  W = Packed l

  abbrev Well : Pass → Type 0
  Well = WellPass l (Unit {0})

  abbrev S : List (Op W) → Pass → Type 0
  S X p = Streamed l operations X p

  -- ---- carrying an axis

  pub carry_axis_follows : (X : List (Op W)) (p : Pass) (a : ℕ) → Well p → S X p → S X (carry_axis l p a)
  carry_axis_follows X p a w h =
      let g : Grows p.store.axes (carry_axis l p a).store.axes = unfold carry_axis in (intern_grows l _ p.store _) in
      let e = ops_of_grows l operations p.store.axes (carry_axis l p a).store.axes g p.out (put_inside _ p.out w.output) in
      let f : ops_of l operations (carry_axis l p a).store.axes (carry_axis l p a).out ≡ ops_of l operations (carry_axis l p a).store.axes p.out
      = unfold carry_axis in refl in
      subst (λ (Y : List (Op W)). Follows l operations X Y (carry_axis l p a)) (sym (f ∙ e))
      (follows_same l operations X (ops_of l operations p.store.axes p.out) p (carry_axis l p a) (unfold carry_axis in refl)
      (unfold carry_axis in refl) h)

  -- ---- the waiting rotations that are picked are absorbed

  -- the rotation at the place after `front`
  absorbed_place : (X : List (Op W)) (p : Pass) (front : List Item) (a k : ℕ) (back : List Item) → p.out ≡ front ++ (rotation (rot a k) ∷ back)
      → Well p → k ≤ 7 → is_clifford k ≡ true → Every (Passes l p.store.axes a) back
      → S X p → S X (leave_zero (length front) a (absorb l p a k))
  absorbed_place X p front a k back e w b c passes h =
      subst (λ (Y : List (Op W)). Follows l operations X Y q) (sym out)
      (follows_same l operations X (ops_of l operations axes zeroed) (absorb l p a k) q (unfold leave_zero set_angle with_last in refl)
      (unfold leave_zero set_angle with_last in refl)
      (follows_absorb l operations X (ops_of l operations axes zeroed) p a k w.stored inside.0 (clifford_angle k b c)
      (follows_lift l operations X p axes front back a k
      (passes_lets l axes w.stored (barrier_at l operations axes) a inside.0 back inside.1 passes)
      (subst (λ (is : List Item). Follows l operations X (ops_of l operations axes is) p) e h))))
    where
      axes : List (List ℕ)
      axes = p.store.axes

      q : Pass
      q = leave_zero (length front) a (absorb l p a k)

      zeroed : List Item
      zeroed = front ++ (rotation (rot a 0) ∷ back)

      inside : AllIn (length p.store.axes) (rotation (rot a k) ∷ back)
      inside =
          every_right (λ (i : Item). _) front (rotation (rot a k) ∷ back)
          (subst (AllIn (length p.store.axes)) e (put_inside _ p.out w.output))

      out : ops_of l operations q.store.axes q.out ≡ ops_of l operations axes zeroed
      out =
          unfold leave_zero set_angle with_last in
          (ap (λ (x : List (List ℕ)). ops_of l operations x (set (absorb l p a k).out (length front) (rotation (rot a 0)))) (absorb_axes l p a k)
          ∙ unfold absorb in (ap (λ (is : List Item). ops_of l operations axes (set is (length front) (rotation (rot a 0)))) e
          ∙ ap (ops_of l operations axes) (set-append_seam front (rotation (rot a k)) back (rotation (rot a 0)))))

  -- one item of the output
  absorb_waiting_at_follows : (X : List (Op W)) (picks : ℕ → Bool) (p : Pass) (front : List Item) (i : Item) (is : List Item)
      → p.out ≡ front ++ (i ∷ is)
      → Well p → Waiting l p → S X p → S X (absorb_waiting_at l picks p (length front) i)
  unfolding absorb_waiting_at
  absorb_waiting_at_follows X picks p front (rotation r) is e w wait h =
      on_if (S X) (is_clifford r.angle && picks r.axis) (leave_zero (length front) r.axis (absorb l p r.axis r.angle)) p
      (λ c. let even = and_left (is_clifford r.angle) (picks r.axis) c in
      absorbed_place X p front r.axis r.angle is e w (small.1 tt) even
      (waits_seam l p.store.axes front r is (subst (Waits l p.store.axes) e wait.commute) even) h)
      (λ c. h)
    where
      small : WellPut (Unit {0}) (length p.store.axes) (rotation r)
      small =
          (every_right (WellPut (Unit {0}) (length p.store.axes)) front (rotation r ∷ is)
          (subst (Every (WellPut (Unit {0}) (length p.store.axes))) e w.output)).0
  absorb_waiting_at_follows X picks p front (barrier o a s) is e w wait h = h

  -- the output from the place after `front` on is `is`
  record From (X : List (Op W)) (p : Pass) (front is : List Item) : Type 0 where
    out : p.out ≡ front ++ is
    well : Well p
    wait : Waiting l p
    follows : S X p

  absorb_waiting_at_from : (X : List (Op W)) (picks : ℕ → Bool) (p : Pass) (front : List Item) (i : Item) (is : List Item) → From X p front (i ∷ is)
      → From X (absorb_waiting_at l picks p (length front) i) (front ++ (zeroed picks i ∷ [])) is
  absorb_waiting_at_from X picks p front i is h = record {
    out = absorb_waiting_at_out l picks p front i is h.out ∙ sym (append_assoc front (zeroed picks i ∷ []) is);
    well = (absorb_waiting_at_well l (Unit {0}) picks p (length front) i h.well one).well;
    wait = absorb_waiting_at_waiting l picks p (length front) i (at_seam p front i is h.out) h.wait;
    follows = absorb_waiting_at_follows X picks p front i is h.out h.well h.wait h.follows;
  }
    where
      one : WellPut (Unit {0}) (length p.store.axes) i
      one =
          (every_right (WellPut (Unit {0}) (length p.store.axes)) front (i ∷ is)
          (subst (Every (WellPut (Unit {0}) (length p.store.axes))) h.out h.well.output)).0

  -- those from the place after `front` on
  absorb_waiting_follows : (X : List (Op W)) (picks : ℕ → Bool) (p : Pass) (j : ℕ) (front is : List Item) → length front ≡ j → From X p front is
      → S X (absorb_waiting l picks p j is)
  unfolding absorb_waiting
  absorb_waiting_follows X picks p j front [] e h = h.follows
  absorb_waiting_follows X picks p j front (i ∷ is) e h =
      absorb_waiting_follows X picks (absorb_waiting_at l picks p j i) (suc j) (front ++ (zeroed picks i ∷ [])) is
      (omega (arith, length-append front (zeroed picks i ∷ [])))
      (subst (λ (n : ℕ). From X (absorb_waiting_at l picks p n i) (front ++ (zeroed picks i ∷ [])) is) e
      (absorb_waiting_at_from X picks p front i is h))

  -- "all are absorbed at a barrier or the end"
  pub absorb_all_waiting_follows : (X : List (Op W)) (m : Absorption) (p : Pass) → Well p → (m ≡ lazy → Waiting l p) → S X p
      → S X (absorb_all_waiting l m p)
  unfolding absorb_all_waiting
  absorb_all_waiting_follows X off p w wait h = h
  absorb_all_waiting_follows X at_once p w wait h = h
  absorb_all_waiting_follows X lazy p w wait h =
      absorb_waiting_follows X (λ b. true) p 0 [] p.out refl (record { out = refl; well = w; wait = wait refl; follows = h })

  -- "those that anticommute with the next rotation are absorbed first, in order"
  absorb_blocking_follows : (X : List (Op W)) (p : Pass) (a : ℕ) → Well p → Waiting l p → S X p → S X (absorb_blocking l p a)
  unfolding absorb_blocking
  absorb_blocking_follows X p a w wait h =
      absorb_waiting_follows X _ (carry_axis l p a) 0 [] (carry_axis l p a).out refl (record {
        out = refl;
        well = (carry_axis_well l (Unit {0}) p a w).well;
        wait = carry_axis_waiting l p a wait;
        follows = carry_axis_follows X p a w h;
      })

  -- "and that rotation is carried again from its original axis"
  pub carry_rotation_follows : (X : List (Op W)) (m : Absorption) (p : Pass) (a : ℕ) → Well p → (m ≡ lazy → Waiting l p) → S X p
      → S X (carry_rotation l m p a).pass
  unfolding carry_rotation
  carry_rotation_follows X off p a w wait h = carry_axis_follows X p a w h
  carry_rotation_follows X at_once p a w wait h = carry_axis_follows X p a w h
  carry_rotation_follows X lazy p a w wait h =
      carry_axis_follows X (absorb_blocking l p a) a (absorb_blocking_well l (Unit {0}) p a w).well (absorb_blocking_follows X p a w (wait refl) h)

  -- ---- a rotation that has come

  -- it is put out
  pub put_out_rotation_follows : (X : List (Op W)) (p : Pass) (a k : ℕ) → Pending l operations X p a k → S X (put_out_rotation p a k)
  put_out_rotation_follows X p a k h =
      subst (λ (Y : List (Op W)). Follows l operations X Y (put_out_rotation p a k)) (sym out)
      (follows_same l operations X (ops_of l operations p.store.axes p.out ++ (turn_at l operations p.store.axes a k ∷ [])) p
      (put_out_rotation p a k)
      (unfold put_out_rotation put_out with_last in refl) (unfold put_out_rotation put_out with_last in refl) h)
    where
      out : ops_of l operations (put_out_rotation p a k).store.axes (put_out_rotation p a k).out
          ≡ ops_of l operations p.store.axes p.out ++ (turn_at l operations p.store.axes a k ∷ [])
      out = unfold put_out_rotation put_out with_last in (ops_of_append l operations p.store.axes p.out (rotation (rot a k) ∷ []))
