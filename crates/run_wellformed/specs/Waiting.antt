-- Lazy mode: a rotation that waits commutes with every later nonzero one of the output, and none waits before a barrier. Assumes nothing.
use Rattle.std.specs.Prelude.{◌≡◌, ◌&&◌, eqb, leb, drop}
use Rattle.std.proofs.Math.Path.{refl, sym, ap, subst}
use Rattle.std.proofs.Common.{◌∙◌, le_trans, arith, length-append}
use Rattle.std.proofs.Math.Bool.{Bool, true, false}
use Rattle.std.proofs.lemmas.Bool.{false≢true}
use mathlib.Core.List.{List, [], ◌∷◌, ◌++◌, map, append_assoc}
use Prim.Native.Nat.{ℕ, zero, suc, ◌+◌, ◌-◌, ◌%◌, ◌≤◌, ◌<◌}
use Rattle.std.proofs.Math.ListN.{length, set}
use Rattle.std.proofs.Math.Seq.{set-append_seam}
use borrow.Author.Tests.{eqb-true, eqb-false}
use Rattle.pauli.specs.Word.{symplectic, anticommutes}
use Rattle.pauli.specs.ProductLaws.{symplectic_comm, anticommutes_false}
use Rattle.model.specs.Lists.{when◌then◌else◌, is_even}
use Rattle.model.specs.declared.Absorption.{Absorption}
use Rattle.model.specs.declared.Absorption.TheVariants.{Lazy as lazy}
use Rattle.model.specs.Rules.{is_at_once, Rules}
use Rattle.model.specs.Words.{Value, word_of, Store}
use Rattle.model.specs.Clifford.{absorb_word, word_image}
use Rattle.model.specs.Items.{Rot, rot, Item, rotation, barrier, with_sign, is_clifford}
use Rattle.model.specs.Stream.{Place, nowhere, at, Pass, with_last, count_merge, set_angle, put_out, set_last, cleared_last, leave_zero, can_reach}
use Rattle.model.specs.Stream.{angle_at}
use Rattle.model.specs.Stream.{axis_image, image_id, carry_axis, absorb, absorb_waiting_at, absorb_waiting, absorb_all_waiting, absorb_blocking}
use Rattle.model.specs.Stream.{Carried, carry_rotation}
use Rattle.model.specs.Stream.{merge_at}
use Rattle.model.specs.Stream.{put_out_rotation, merge_or_put_out, take_rotation, stream_item, begin}
use Rattle.theory.specs.Cases.{by_if, on_if, and_left, and_right}
use Rattle.theory.specs.Every.{Every, every_one}
use Rattle.theory.specs.Ids.{id_word, Grows, intern_grows}
use Rattle.theory.specs.StreamState.{without_angles, axis_of, AllIn, AllRotations, Names, Sound, absorb_axes, carried_id}
use Rattle.words_wellformed.specs.RunWords.{TurnsItem}
use Rattle.run_wellformed.specs.CliffordAngles.{and_false, with_sign_turns}
use Rattle.run_wellformed.specs.CarriedImages.{absorbed_image}
use Rattle.run_wellformed.specs.WaitingItems.{no_zero, Still, zeroed, zeroed_still, Passes, Waits, waits_zero, Yields, Mutual, waits_mutual}
use Rattle.run_wellformed.specs.WaitingItems.{waits_one, still_waits, waits_grows, yields_grows}
use Rattle.run_wellformed.specs.WaitingItems.{Live, About, live_about, live_zero, live_turn, live_one, live_new, live_later, waits_turn}
use Rattle.run_wellformed.specs.WaitingItems.{all_pass}

-- ---- the invariant

-- of the state of a stream in lazy mode
pub record Waiting (l : ℕ) (p : Pass) : Type 0 where
  pub inside : AllIn (length p.store.axes) p.out
  pub commute : Waits l p.store.axes p.out
  -- `last` names a nonzero rotation of its own axis in the present segment
  pub names : (a j : ℕ) → p.last a ≡ at j → Live p.out a j

-- more axes
pub all_in_more : (m k : ℕ) (xs : List Item) → m ≤ k → AllIn m xs → AllIn k xs
all_in_more m k [] h a = tt
all_in_more m k (x ∷ xs) h a = (le_trans a.0 h, all_in_more m k xs h a.1)

all_in_set : (m : ℕ) (xs : List Item) (j : ℕ) (x : Item) → AllIn m xs → axis_of x < m → AllIn m (set xs j x)
all_in_set m [] j x h b = tt
all_in_set m (y ∷ ys) zero x h b = (b, h.1)
all_in_set m (y ∷ ys) (suc j) x h b = (h.0, all_in_set m ys j x h.1 b)

all_in_one : (m : ℕ) (xs : List Item) (x : Item) → AllIn m xs → axis_of x < m → AllIn m (xs ++ (x ∷ []))
all_in_one m [] x a h = (h, tt)
all_in_one m (y ∷ ys) x a h = (a.0, all_in_one m ys x a.1 h)

all_in_about : (m : ℕ) (xs : List Item) (a j : ℕ) → AllIn m xs → About xs a j → a < m
all_in_about m [] a j h g = absurd g
all_in_about m (rotation r ∷ xs) a zero h g = rw g at h.0
all_in_about m (barrier o b s ∷ xs) a zero h g = absurd g
all_in_about m (x ∷ xs) a (suc j) h g = all_in_about m xs a j h.1 g

append_one : (front : List Item) (x : Item) (is : List Item) → (front ++ (x ∷ [])) ++ is ≡ front ++ (x ∷ is)
append_one front x is = append_assoc front (x ∷ []) is

one_more : (front : List Item) (x : Item) → length (front ++ (x ∷ [])) ≡ suc (length front)
one_more front x = omega (arith, length-append front (x ∷ []))

about_seam : (front : List Item) (r : Rot) (is : List Item) → About (front ++ (rotation r ∷ is)) r.axis (length front)
about_seam [] r is = refl
about_seam (x ∷ front) r is = about_seam front r is

-- the item at the place after `front`
pub at_seam : (p : Pass) (front : List Item) (i : Item) (is : List Item) → p.out ≡ front ++ (i ∷ is) → (r : Rot) → i ≡ rotation r
    → About p.out r.axis (length front)
at_seam p front i is e r f = rw (e, f) (about_seam front r is)

-- a place is not nowhere
pub nowhere_at : {A : Type 0} (j : ℕ) → nowhere ≡ at j → A
nowhere_at j e = let z : ◌≡◌ {A = ℕ} 0 1 = cc in absurd (omega arith)

module _ (l : ℕ) where
  -- ---- carrying and absorbing

  carry_axis_grows : (p : Pass) (a : ℕ) → Grows p.store.axes (carry_axis l p a).store.axes
  unfolding carry_axis
  carry_axis_grows p a = intern_grows l _ p.store _

  -- the axes grow
  pub carry_axis_waiting : (p : Pass) (a : ℕ) → Waiting l p → Waiting l (carry_axis l p a)
  carry_axis_waiting p a h = record {
    inside = unfold carry_axis in (all_in_more _ _ p.out (carry_axis_grows p a).longer h.inside);
    commute = unfold carry_axis in (waits_grows l _ _ (carry_axis_grows p a) p.out h.inside h.commute);
    names = unfold carry_axis in h.names;
  }

  -- F changes alone
  pub absorb_waiting_lem : (p : Pass) (a k : ℕ) → Waiting l p → Waiting l (absorb l p a k)
  absorb_waiting_lem p a k h = record {
    inside = unfold absorb in (rw (axes_same p a k) h.inside);
    commute = unfold absorb in (rw (axes_same p a k) h.commute);
    names = unfold absorb in h.names;
  }
    where
      axes_same : (p : Pass) (a k : ℕ)
          → (absorb_word l (record { store = p.store; held = p.held }) (word_of p.store.axes a) k).store.axes ≡ p.store.axes
      axes_same p a k = unfold absorb in (absorb_axes l p a k)

  -- ---- a place becomes a zero

  -- a zero is passed by all, and waits for none
  pub leave_zero_waiting : (p : Pass) (j a : ℕ) → About p.out a j → Waiting l p → Waiting l (leave_zero j a p)
  unfolding leave_zero set_angle with_last set_last
  leave_zero_waiting p j a g h = record {
    inside = all_in_set _ p.out j (rotation (rot a 0)) h.inside (all_in_about _ p.out a j h.inside g);
    commute = waits_zero l p.store.axes p.out j a h.commute;
    names = λ b i. on_if (λ (x : Place). x ≡ at i → Live (set p.out j (rotation (rot a 0))) b i) (eqb b a) nowhere (p.last b)
        (λ e f. nowhere_at i f) (λ e f. live_zero p.out a j b i g (eqb-false b a e) (h.names b i f));
  }

  -- ---- the waiting rotations that are picked are absorbed, in order

  absorb_out : (p : Pass) (a k : ℕ) → (absorb l p a k).out ≡ p.out
  unfolding absorb
  absorb_out p a k = refl

  -- one item of the output
  pub absorb_waiting_at_waiting : (picks : ℕ → Bool) (p : Pass) (j : ℕ) (i : Item)
      → (is_rot : (r : Rot) → i ≡ rotation r → About p.out r.axis j)
      → Waiting l p → Waiting l (absorb_waiting_at l picks p j i)
  unfolding absorb_waiting_at
  absorb_waiting_at_waiting picks p j (rotation r) g h =
      let place : About (absorb l p r.axis r.angle).out r.axis j = rw (absorb_out p r.axis r.angle) (g r refl) in
      by_if (Waiting l) _ _ _ (leave_zero_waiting (absorb l p r.axis r.angle) j r.axis place (absorb_waiting_lem p r.axis r.angle h)) h
  absorb_waiting_at_waiting picks p j (barrier o a s) g h = h

  -- what stands in the output then
  pub absorb_waiting_at_out : (picks : ℕ → Bool) (p : Pass) (front : List Item) (i : Item) (is : List Item) → p.out ≡ front ++ (i ∷ is)
      → (absorb_waiting_at l picks p (length front) i).out ≡ front ++ (zeroed picks i ∷ is)
  unfolding absorb_waiting_at zeroed leave_zero set_angle with_last
  absorb_waiting_at_out picks p front (rotation r) is e = go (is_clifford r.angle && picks r.axis)
    where
      go : (t : Bool) → (when t then leave_zero (length front) r.axis (absorb l p r.axis r.angle) else p).out
          ≡ front ++ ((when t then rotation (rot r.axis 0) else rotation r) ∷ is)
      go true =
          unfold when◌then◌else◌ leave_zero set_angle with_last absorb in
          (ap (λ (x : List Item). set x (length front) (rotation (rot r.axis 0))) e ∙ set-append_seam front (rotation r) is
          (rotation (rot r.axis 0)))
      go false = unfold when◌then◌else◌ in e
  absorb_waiting_at_out picks p front (barrier o a s) is e = e

  -- from the place after `front` on
  pub absorb_waiting_out : (picks : ℕ → Bool) (p : Pass) (front is : List Item) → p.out ≡ front ++ is
      → (absorb_waiting l picks p (length front) is).out ≡ front ++ map (zeroed picks) is
  unfolding absorb_waiting
  absorb_waiting_out picks p front [] e = e
  absorb_waiting_out picks p front (i ∷ is) e =
      let q = absorb_waiting_at l picks p (length front) i in
      let x = zeroed picks i in
      let f : q.out ≡ (front ++ (x ∷ [])) ++ is = absorb_waiting_at_out picks p front i is e ∙ sym (append_one front x is) in
      rw (one_more front x) at (absorb_waiting_out picks q (front ++ (x ∷ [])) is f) ∙ append_one front x (map (zeroed picks) is)

  -- and the output is still as it must be
  pub absorb_waiting_waiting : (picks : ℕ → Bool) (p : Pass) (front is : List Item) → p.out ≡ front ++ is
      → Waiting l p → Waiting l (absorb_waiting l picks p (length front) is)
  unfolding absorb_waiting
  absorb_waiting_waiting picks p front [] e h = h
  absorb_waiting_waiting picks p front (i ∷ is) e h =
      let q = absorb_waiting_at l picks p (length front) i in
      let x = zeroed picks i in
      let f : q.out ≡ (front ++ (x ∷ [])) ++ is = absorb_waiting_at_out picks p front i is e ∙ sym (append_one front x is) in
      let g : Waiting l q = absorb_waiting_at_waiting picks p (length front) i (at_seam p front i is e) h in
      rw (one_more front x) at (absorb_waiting_waiting picks q (front ++ (x ∷ [])) is f g)

  absorb_waiting_at_axes : (picks : ℕ → Bool) (p : Pass) (j : ℕ) (i : Item) → (absorb_waiting_at l picks p j i).store.axes ≡ p.store.axes
  unfolding absorb_waiting_at leave_zero set_angle with_last
  absorb_waiting_at_axes picks p j (rotation r) =
      by_if (λ (q : Pass). q.store.axes ≡ p.store.axes) _ _ _ (absorb_axes l p r.axis r.angle) refl
  absorb_waiting_at_axes picks p j (barrier o a s) = refl

  -- no axis is stored
  pub absorb_waiting_axes : (picks : ℕ → Bool) (p : Pass) (j : ℕ) (is : List Item) → (absorb_waiting l picks p j is).store.axes ≡ p.store.axes
  unfolding absorb_waiting
  absorb_waiting_axes picks p j [] = refl
  absorb_waiting_axes picks p j (i ∷ is) = absorb_waiting_axes picks (absorb_waiting_at l picks p j i) (suc j) is ∙ absorb_waiting_at_axes picks p j i

  -- ---- a word that commutes with all that wait cannot tell what was absorbed

  module _ (v w : List ℕ) where
    absorb_image : (p : Pass) (a k : ℕ) → symplectic l v (word_of p.store.axes a) ≡ 0
        → symplectic l v (word_image l (absorb l p a k).held w).word ≡ symplectic l v (word_image l p.held w).word
    unfolding absorb
    absorb_image p a k e = absorbed_image l v (word_of p.store.axes a) e k (record { store = p.store; held = p.held }) w

    absorb_waiting_at_image : (picks : ℕ → Bool) (p : Pass) (j : ℕ) (i : Item) → Yields l p.store.axes v i
        → symplectic l v (word_image l (absorb_waiting_at l picks p j i).held w).word ≡ symplectic l v (word_image l p.held w).word
    unfolding absorb_waiting_at leave_zero set_angle with_last
    absorb_waiting_at_image picks p j (rotation r) y =
        on_if (λ (q : Pass). symplectic l v (word_image l q.held w).word ≡ symplectic l v (word_image l p.held w).word)
        (is_clifford r.angle && picks r.axis) _ p
        (λ e. absorb_image p r.axis r.angle (y (and_left (is_clifford r.angle) (picks r.axis) e))) (λ e. refl)
    absorb_waiting_at_image picks p j (barrier o a s) y = refl

    -- the image of w, after the absorption of those that wait
    pub absorb_waiting_image : (picks : ℕ → Bool) (p : Pass) (j : ℕ) (is : List Item) → Every (Yields l p.store.axes v) is
        → symplectic l v (word_image l (absorb_waiting l picks p j is).held w).word ≡ symplectic l v (word_image l p.held w).word
    unfolding absorb_waiting
    absorb_waiting_image picks p j [] y = refl
    absorb_waiting_image picks p j (i ∷ is) y =
        absorb_waiting_image picks (absorb_waiting_at l picks p j i) (suc j) is (rw (absorb_waiting_at_axes picks p j i) y.1)
        ∙ absorb_waiting_at_image picks p j i y.0

  -- ---- what is put out commutes with all that wait

  -- those that anticommute with v are absorbed; then v has become v'
  module _ (axes : List (List ℕ)) (picks : ℕ → Bool) (v v' : List ℕ) (out : List Item)
      (spared : (b : ℕ) → picks b ≡ false → symplectic l (word_of axes b) v ≡ 0)
      (moved : (u : List ℕ) → Every (Yields l axes u) out → symplectic l u v' ≡ symplectic l u v) where
    zeroed_yields : (is : List Item) → Every (Mutual l axes out) is → Every (Yields l axes v') (map (zeroed picks) is)
    unfolding zeroed
    zeroed_yields [] m = tt
    zeroed_yields (rotation r ∷ is) m = (
      on_if (Yields l axes v') (is_clifford r.angle && picks r.axis) (rotation (rot r.axis 0)) (rotation r) (λ e f. no_zero f)
          (λ e f. symplectic_comm l v' (word_of axes r.axis) ∙ moved (word_of axes r.axis) (m.0 f)
          ∙ spared r.axis (and_false (is_clifford r.angle) (picks r.axis) e f)),
      zeroed_yields is m.1,
    )
    zeroed_yields (barrier o a s ∷ is) m = (tt, zeroed_yields is m.1)

  -- a carried axis has its image's word
  carried_image : (p : Pass) (a : ℕ) → a < length p.store.axes → axis_image l (carry_axis l p a) a ≡ axis_image l p a
  unfolding axis_image carry_axis
  carried_image p a h = rw ((intern_grows l _ p.store _).keeps a h) refl

  -- the word of the id that a carried axis gets
  pub carried_word : (p : Pass) (a : ℕ) → a < length p.store.axes
      → word_of (carry_axis l p a).store.axes (image_id l (carry_axis l p a) a) ≡ (axis_image l p a).word
  unfolding image_id
  carried_word p a h =
      id_word (carry_axis l p a).store.axes (axis_image l (carry_axis l p a) a).word (unfold image_id in (carried_id l p a h))
      ∙ ap (λ (v : Value). v.word) (carried_image p a h)

  -- those that anticommute with the next rotation are absorbed
  pub absorb_blocking_waiting : (p : Pass) (a : ℕ) → Waiting l p → Waiting l (absorb_blocking l p a)
  unfolding absorb_blocking
  absorb_blocking_waiting p a h = absorb_waiting_waiting _ (carry_axis l p a) [] (carry_axis l p a).out refl (carry_axis_waiting p a h)

  -- only the image of that rotation was stored
  pub absorb_blocking_axes : (p : Pass) (a : ℕ) → (absorb_blocking l p a).store.axes ≡ (carry_axis l p a).store.axes
  unfolding absorb_blocking
  absorb_blocking_axes p a = absorb_waiting_axes _ (carry_axis l p a) 0 (carry_axis l p a).out

  absorb_blocking_in : (p : Pass) (a : ℕ) → a < length p.store.axes → a < length (absorb_blocking l p a).store.axes
  absorb_blocking_in p a b = rw (absorb_blocking_axes p a) (le_trans b (carry_axis_grows p a).longer)

  -- then the rotation's image commutes with all that still wait
  pub absorb_blocking_yields : (p : Pass) (a : ℕ) → a < length p.store.axes → Waiting l p
      → Every (Yields l (absorb_blocking l p a).store.axes (axis_image l (absorb_blocking l p a) a).word) (absorb_blocking l p a).out
  unfolding absorb_blocking
  absorb_blocking_yields p a b h =
      let q = carry_axis l p a in
      let axes = q.store.axes in
      let picks : ℕ → Bool = λ c. anticommutes l (word_of axes c) (axis_image l p a).word in
      let s = absorb_waiting l picks q 0 q.out in
      subst (λ (x : List (List ℕ)). Every (Yields l x (axis_image l s a).word) s.out) (sym (absorb_waiting_axes picks q 0 q.out))
      (subst (Every (Yields l axes (axis_image l s a).word)) (sym (absorb_waiting_out picks q [] q.out refl))
      (zeroed_yields axes picks (axis_image l p a).word (axis_image l s a).word q.out
      (λ c e. anticommutes_false l (word_of axes c) (axis_image l p a).word e)
      (λ u y. image_moved picks u y)
      q.out (waits_mutual l axes q.out (carry_axis_waiting p a h).commute)))
    where
      image_moved : (picks : ℕ → Bool) (u : List ℕ) → Every (Yields l (carry_axis l p a).store.axes u) (carry_axis l p a).out
          → symplectic l u (axis_image l (absorb_waiting l picks (carry_axis l p a) 0 (carry_axis l p a).out) a).word ≡ symplectic l u
          (axis_image l p a).word
      image_moved picks u y =
          unfold axis_image in
          (rw (absorb_waiting_axes picks (carry_axis l p a) 0 (carry_axis l p a).out)
          (absorb_waiting_image u (word_of (carry_axis l p a).store.axes a) picks (carry_axis l p a) 0 (carry_axis l p a).out y
          ∙ unfold carry_axis in (rw ((intern_grows l _ p.store _).keeps a b) refl)))

  -- and the rotation is carried again
  pub carry_rotation_waiting : (p : Pass) (a : ℕ) → Waiting l p → Waiting l (carry_rotation l lazy p a).pass
  unfolding carry_rotation
  carry_rotation_waiting p a h = carry_axis_waiting (absorb_blocking l p a) a (absorb_blocking_waiting p a h)

  -- the rotation, carried again, commutes with all that still wait
  pub carry_rotation_yields : (p : Pass) (a : ℕ) → a < length p.store.axes → Waiting l p
      → Every (Yields l (carry_rotation l lazy p a).pass.store.axes
      (word_of (carry_rotation l lazy p a).pass.store.axes (carry_rotation l lazy p a).axis))
      (carry_rotation l lazy p a).pass.out
  unfolding carry_rotation
  carry_rotation_yields p a b h =
      let s = absorb_blocking l p a in
      rw (carried_word s a (absorb_blocking_in p a b))
      (unfold carry_axis in
      (yields_grows l s.store.axes _ (carry_axis_grows s a) (axis_image l s a).word s.out (absorb_blocking_waiting p a h).inside
      (absorb_blocking_yields p a b h)))

  -- ---- a rotation merges, or is put out

  -- the place that `last` names gets an angle that is not 0
  pub set_angle_waiting : (p : Pass) (j a k : ℕ) → Live p.out a j → 0 < k
      → (is_clifford k ≡ true → Every (Passes l p.store.axes a) (drop (suc j) p.out))
      → Waiting l p → Waiting l (set_angle j a k p)
  unfolding set_angle
  set_angle_waiting p j a k g n f h =
      let place = live_about p.out a j g in
      record {
        inside = all_in_set _ p.out j (rotation (rot a k)) h.inside (all_in_about _ p.out a j h.inside place);
        commute = waits_turn l p.store.axes p.out a j k g f h.commute;
        names = λ b i e. live_turn p.out a j k b i place n (h.names b i e);
      }

  -- a merge at that place
  pub merge_at_waiting : (p : Pass) (j a k : ℕ) → p.last a ≡ at j
      → (is_clifford k ≡ true → Every (Passes l p.store.axes a) (drop (suc j) p.out))
      → Waiting l p → Waiting l (merge_at l lazy p j a k)
  unfolding merge_at
  merge_at_waiting p j a k e f h =
      let live = h.names a j e in
      on_if (Waiting l) (is_at_once lazy && is_clifford k) (leave_zero j a (absorb l p a k)) _ (λ t. absurd (false≢true t))
      (λ t. on_if (Waiting l) (eqb k 0) (leave_zero j a p) (set_angle j a k p) (λ z. leave_zero_waiting p j a (live_about p.out a j live) h)
      (λ z. set_angle_waiting p j a k live (let n = eqb-false k 0 z in omega arith) f h))

  -- a rotation that commutes with all that wait is put out
  pub put_out_rotation_waiting : (p : Pass) (a k : ℕ) → a < length p.store.axes → 0 < k
      → Every (Yields l p.store.axes (word_of p.store.axes a)) p.out
      → Waiting l p → Waiting l (put_out_rotation p a k)
  unfolding put_out_rotation put_out with_last set_last
  put_out_rotation_waiting p a k b n y h = record {
    inside = all_in_one _ p.out (rotation (rot a k)) h.inside b;
    commute = waits_one l p.store.axes p.out a k h.commute y;
    names = λ c i. on_if (λ (x : Place). x ≡ at i → Live (p.out ++ (rotation (rot a k) ∷ [])) c i) (eqb c a) (at (length p.out)) (p.last c)
        (λ e f. new c i (eqb-true c a e) f) (λ e f. live_one p.out (rot a k) c i (h.names c i f));
  }
    where
      new : (c i : ℕ) → c ≡ a → at (length p.out) ≡ at i → Live (p.out ++ (rotation (rot a k) ∷ [])) c i
      new c i e f = let g : length p.out ≡ i = cc in rw (e, ← g) (live_new p.out a k n)

  module _ (r : Rules) (is_lazy_lem : r.absorption ≡ lazy) where
    -- the rotation merges where it can be reached, else it is put out
    pub merge_or_put_out_waiting : (p : Pass) (a k : ℕ) (place : Place) → a < length p.store.axes → 0 < k
        → Every (Yields l p.store.axes (word_of p.store.axes a)) p.out → ((j : ℕ) → place ≡ at j → p.last a ≡ at j)
        → Waiting l p → Waiting l (merge_or_put_out l r p a k place)
    unfolding merge_or_put_out
    merge_or_put_out_waiting p a k nowhere b n y f h = put_out_rotation_waiting p a k b n y h
    merge_or_put_out_waiting p a k (at j) b n y f h =
        on_if (Waiting l) (can_reach l r.lookback p.store.axes p.out j a)
        (merge_at l r.absorption (count_merge p) j a ((angle_at p.out j + k) % 8)) _
        (λ e. rw is_lazy_lem (merge_at_waiting (count_merge p) j a _ (unfold count_merge in (f j refl))
        (λ c. unfold count_merge in (reached e)) (counted h)))
        (λ e. put_out_rotation_waiting p a k b n y h)
      where
        reached : can_reach l r.lookback p.store.axes p.out j a ≡ true → Every (Passes l p.store.axes a) (drop (suc j) p.out)
        reached e =
            all_pass l p.store.axes a (drop (suc j) p.out) (live_later p.out a j (h.names a j (f j refl)))
            (unfold can_reach in (and_right (leb (length p.out - j - 1) r.lookback) _ e))

        counted : Waiting l p → Waiting l (count_merge p)
        counted g =
            record {
              inside = unfold count_merge in g.inside;
              commute = unfold count_merge in g.commute;
              names = unfold count_merge in
                  g.names;
            }

    -- nothing is absorbed at once
    pub take_rotation_waiting : (merging : Bool) (p : Pass) (a k : ℕ) → a < length p.store.axes → 0 < k
        → Every (Yields l p.store.axes (word_of p.store.axes a)) p.out → Waiting l p → Waiting l (take_rotation l r merging p a k)
    unfolding take_rotation
    take_rotation_waiting merging p a k b n y h =
        on_if (Waiting l) (is_at_once r.absorption && is_even k) (absorb l p a k) _
        (λ e. absurd (false≢true (sym (ap is_at_once is_lazy_lem) ∙ and_left (is_at_once r.absorption) (is_even k) e)))
        (λ e. merge_or_put_out_waiting p a k (when merging then p.last a else nowhere) b n y
        (λ j. by_if (λ (x : Place). x ≡ at j → p.last a ≡ at j) merging (p.last a) nowhere (λ f. f) (λ f. nowhere_at j f)) h)

  -- ---- at a barrier and at the end none waits

  -- all that wait are absorbed
  pub absorb_all_waiting_waiting : (p : Pass) → Waiting l p → Waiting l (absorb_all_waiting l lazy p)
  unfolding absorb_all_waiting
  absorb_all_waiting_waiting p h = absorb_waiting_waiting (λ b. true) p [] p.out refl h

  -- so none waits
  pub absorb_all_waiting_still : (p : Pass) → Every Still (absorb_all_waiting l lazy p).out
  unfolding absorb_all_waiting
  absorb_all_waiting_still p = subst (Every Still) (sym (absorb_waiting_out (λ b. true) p [] p.out refl)) (zeroed_still p.out)

  absorb_all_waiting_axes : (p : Pass) → (absorb_all_waiting l lazy p).store.axes ≡ p.store.axes
  unfolding absorb_all_waiting
  absorb_all_waiting_axes p = absorb_waiting_axes (λ b. true) p 0 p.out

  -- and a barrier may be put out
  pub barrier_waiting : (p : Pass) (o a s : ℕ) → a < length p.store.axes → Every Still p.out → Waiting l p
      → Waiting l (put_out (barrier o a s) (with_last cleared_last p))
  unfolding put_out with_last
  barrier_waiting p o a s b still h = record {
    inside = all_in_one _ p.out (barrier o a s) h.inside b;
    commute = still_waits l p.store.axes (p.out ++ (barrier o a s ∷ [])) (every_one Still p.out (barrier o a s) still tt);
    names = λ c i e. nowhere_at i e;
  }

  -- ---- the theorems

  -- at the start
  pub begin_waiting : (st : Store) → Waiting l (begin st)
  unfolding begin
  begin_waiting st = record { inside = tt; commute = tt; names = λ a j e. nowhere_at j e }

  module _ (r : Rules) (is_lazy_lem : r.absorption ≡ lazy) (merging : Bool) where
    -- each item keeps it
    pub stream_item_waiting : (p : Pass) (i : Item) → TurnsItem i → axis_of i < length p.store.axes → Waiting l p
        → Waiting l (stream_item l r merging p i)
    unfolding stream_item
    stream_item_waiting p (rotation t) b c h =
        subst (λ (m : Absorption). Waiting l (after m)) (sym is_lazy_lem)
        (take_rotation_waiting r is_lazy_lem merging (carried lazy).pass (carried lazy).axis _ carried_in
        (with_sign_turns (carried lazy).turns t.angle b.0 b.1).0
        (carry_rotation_yields p t.axis c h) (carry_rotation_waiting p t.axis h))
      where
        carried : Absorption → Carried
        carried m = carry_rotation l m p t.axis

        after : Absorption → Pass
        after m =
            take_rotation l r merging (carried m).pass (carried m).axis (with_sign (carried m).turns t.angle)

        carried_in : (carry_rotation l lazy p t.axis).axis < length (carry_rotation l lazy p t.axis).pass.store.axes
        carried_in = unfold carry_rotation in (carried_id l (absorb_blocking l p t.axis) t.axis (absorb_blocking_in p t.axis c))
    stream_item_waiting p (barrier o a s) b c h =
        rw is_lazy_lem
        (let q = absorb_all_waiting l lazy p in
        let d : a < length q.store.axes = rw (absorb_all_waiting_axes p) c in
        barrier_waiting (carry_axis l q a) o _ _ (carried_id l q a d) (unfold carry_axis in (absorb_all_waiting_still p))
        (carry_axis_waiting q a (absorb_all_waiting_waiting p h)))

-- ---- it says what theory's `Sound` says

turns_shapes : (xs : List Item) → AllRotations xs → AllRotations (without_angles xs)
unfolding without_angles
turns_shapes [] h = tt
turns_shapes (rotation r ∷ xs) h = turns_shapes xs h
turns_shapes (barrier o a s ∷ xs) h = absurd h

live_names : (out : List Item) (a j : ℕ) → Live out a j → Names (without_angles out) a j
unfolding without_angles
live_names [] a j h = absurd h
live_names (rotation r ∷ xs) a zero h = (ap (λ (b : ℕ). rotation (rot b 0)) h.0, turns_shapes xs h.2)
live_names (barrier o b s ∷ xs) a zero h = absurd h
live_names (x ∷ xs) a (suc j) h = live_names xs a j h

inside_shapes : (m : ℕ) (xs : List Item) → AllIn m xs → AllIn m (without_angles xs)
unfolding without_angles
inside_shapes m [] h = tt
inside_shapes m (rotation r ∷ xs) h = (h.0, inside_shapes m xs h.1)
inside_shapes m (barrier o a s ∷ xs) h = (h.0, inside_shapes m xs h.1)

-- ids are in range, and `last` names a rotation of its own axis in the present segment
pub waiting_sound : (l : ℕ) (p : Pass) → Waiting l p → Sound p
waiting_sound l p h = record { ids = inside_shapes _ p.out h.inside; names = λ a j e. live_names p.out a j (h.names a j e) }
