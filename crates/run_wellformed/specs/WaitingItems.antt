-- Rotations that wait: what an output must be like for each to be absorbed from where it stands, and what keeps it so. Assumes nothing.
use Rattle.std.specs.Prelude.{◌≡◌, refl, Bool, true, false, not, ◌&&◌, ◌||◌, ℕ, zero, suc, ◌<◌, eqb, length, get_or, drop, set}
use Rattle.std.proofs.Common.{sym, ◌∙◌, true≢false, arith, eqb-true}
use Rattle.std.proofs.lemmas.Bool.{false≢true}
use mathlib.Core.List.{List, [], ◌∷◌, ◌++◌, map}
use Rattle.pauli.specs.Word.{symplectic}
use Rattle.pauli.specs.ProductLaws.{symplectic_comm, symplectic_self, anticommutes_false}
use Rattle.model.specs.Lists.{when◌then◌else◌, all_of}
use Rattle.model.specs.Words.{word_of, anticommute}
use Rattle.model.specs.Items.{Rot, rot, Item, rotation, barrier, is_clifford}
use Rattle.model.specs.Stream.{lets_pass}
use Rattle.theory.specs.Cases.{on_if, and_left, and_right}
use Rattle.theory.specs.Every.{Every}
use Rattle.theory.specs.Ids.{Grows}
use Rattle.theory.specs.StreamState.{outside, AllIn, AllRotations}
use Rattle.run_wellformed.specs.CliffordAngles.{clifford_nonzero}
use Rattle.run_wellformed.specs.StreamSteps.{every_set}
use Rattle.run_wellformed.specs.CarriedImages.{every_implies}

-- a zero does not wait
pub no_zero : {A : Type 0} → is_clifford 0 ≡ true → A
no_zero e = absurd (omega (arith, clifford_nonzero 0 e))

-- an item that does not wait
abbrev pub Still : Item → Type 0
Still (rotation r) = is_clifford r.angle ≡ false
Still (barrier o a s) = Unit {0}

-- a rotation that waits and whose axis is picked is absorbed, and leaves a zero
unfoldable pub zeroed : (ℕ → Bool) → Item → Item
zeroed picks (rotation r) = when is_clifford r.angle && picks r.axis then rotation (rot r.axis 0) else rotation r
zeroed picks (barrier o a s) = barrier o a s

-- none waits once all were picked
pub zeroed_still : (is : List Item) → Every Still (map (zeroed (λ b. true)) is)
unfolding zeroed
zeroed_still [] = tt
zeroed_still (rotation r ∷ is) = (
  on_if Still (is_clifford r.angle && true) (rotation (rot r.axis 0)) (rotation r) (λ e. refl) (λ e. all_false (is_clifford r.angle) e),
  zeroed_still is,
)
  where
    all_false : (b : Bool) → b && true ≡ false → b ≡ false
    all_false true h = h
    all_false false h = refl
zeroed_still (barrier o a s ∷ is) = (tt, zeroed_still is)

-- ---- a rotation that waits commutes with every later nonzero rotation, and no barrier stands after it

module _ (l : ℕ) (axes : List (List ℕ)) where
  -- a rotation about axis a may pass the item
  abbrev pub Passes : ℕ → Item → Type 0
  Passes a (rotation t) = 0 < t.angle → symplectic l (word_of axes a) (word_of axes t.axis) ≡ 0
  Passes a (barrier o b s) = ⊥

  -- every rotation that waits may pass all items after it
  abbrev pub Waits : List Item → Type 0
  Waits [] = Unit {0}
  Waits (rotation r ∷ rest) = (is_clifford r.angle ≡ true → Every (Passes r.axis) rest) × Waits rest
  Waits (barrier o a s ∷ rest) = Waits rest

  -- by places
  passes_at : (a : ℕ) (xs : List Item) (j : ℕ) (t : Rot) → Every (Passes a) xs → get_or xs j outside ≡ rotation t → 0 < t.angle
      → symplectic l (word_of axes a) (word_of axes t.axis) ≡ 0
  passes_at a [] j t h e n = let z : ◌≡◌ {A = ℕ} 0 1 = let f : outside ≡ rotation t = e in cc in absurd (omega arith)
  passes_at a (rotation x ∷ xs) zero t h e n =
      let f : x ≡ t = cc in
      rw f at h.0 n
  passes_at a (barrier o b s ∷ xs) zero t h e n = absurd h.0
  passes_at a (x ∷ xs) (suc j) t h e n = passes_at a xs j t h.1 e n

  -- places i < j: a rotation that waits at i commutes with a nonzero one at j
  pub waits_commute : (out : List Item) (i j : ℕ) (r t : Rot) → Waits out → i < j → get_or out i outside ≡ rotation r → is_clifford r.angle ≡ true
      → get_or out j outside ≡ rotation t → 0 < t.angle → symplectic l (word_of axes r.axis) (word_of axes t.axis) ≡ 0
  waits_commute [] i j r t h b e c f n = let z : ◌≡◌ {A = ℕ} 0 1 = let g : outside ≡ rotation r = e in cc in absurd (omega arith)
  waits_commute (x ∷ xs) i zero r t h b e c f n = absurd (omega arith)
  waits_commute (rotation x ∷ xs) zero (suc j) r t h b e c f n =
      let g : x ≡ r = cc in
      passes_at r.axis xs j t (rw g at h.0 c) f n
  waits_commute (barrier o a s ∷ xs) zero (suc j) r t h b e c f n = let z : ◌≡◌ {A = ℕ} 0 1 = cc in absurd (omega arith)
  waits_commute (rotation x ∷ xs) (suc i) (suc j) r t h b e c f n = waits_commute xs i j r t h.1 (omega arith) e c f n
  waits_commute (barrier o a s ∷ xs) (suc i) (suc j) r t h b e c f n = waits_commute xs i j r t h (omega arith) e c f n

  stops_none : (a : ℕ) (xs : List Item) (j o b s : ℕ) → Every (Passes a) xs → j < length xs → get_or xs j outside ≡ barrier o b s → ⊥
  stops_none a [] j o b s h n e = omega arith
  stops_none a (rotation x ∷ xs) zero o b s h n e = let z : ◌≡◌ {A = ℕ} 0 1 = cc in omega arith
  stops_none a (barrier o' b' s' ∷ xs) zero o b s h n e = h.0
  stops_none a (x ∷ xs) (suc j) o b s h n e = stops_none a xs j o b s h.1 (omega arith) e

  -- none waits before a barrier
  pub waits_barrier : (out : List Item) (i j : ℕ) (r : Rot) (o b s : ℕ) → Waits out → i < j → get_or out i outside ≡ rotation r
      → is_clifford r.angle ≡ true → j < length out → get_or out j outside ≡ barrier o b s → ⊥
  waits_barrier [] i j r o b s h lt e c n f = omega arith
  waits_barrier (x ∷ xs) i zero r o b s h lt e c n f = omega arith
  waits_barrier (rotation x ∷ xs) zero (suc j) r o b s h lt e c n f =
      let g : x ≡ r = cc in
      stops_none r.axis xs j o b s (rw g at h.0 c) (omega arith) f
  waits_barrier (barrier o' a s' ∷ xs) zero (suc j) r o b s h lt e c n f = let z : ◌≡◌ {A = ℕ} 0 1 = cc in omega arith
  waits_barrier (rotation x ∷ xs) (suc i) (suc j) r o b s h lt e c n f = waits_barrier xs i j r o b s h.1 (omega arith) e c (omega arith) f
  waits_barrier (barrier o' a s' ∷ xs) (suc i) (suc j) r o b s h lt e c n f = waits_barrier xs i j r o b s h (omega arith) e c (omega arith) f

  -- what comes after a rotation that waits, so that it is absorbed from where it stands
  pub waits_seam : (front : List Item) (r : Rot) (is : List Item) → Waits (front ++ (rotation r ∷ is)) → is_clifford r.angle ≡ true
      → Every (Passes r.axis) is
  waits_seam [] r is h e = h.0 e
  waits_seam (rotation x ∷ front) r is h e = waits_seam front r is h.1 e
  waits_seam (barrier o a s ∷ front) r is h e = waits_seam front r is h e

  -- ---- a place becomes a zero

  -- a zero waits for none and lets all pass
  pub waits_zero : (out : List Item) (j a : ℕ) → Waits out → Waits (set out j (rotation (rot a 0)))
  waits_zero [] j a h = tt
  waits_zero (rotation r ∷ xs) zero a h = (λ e. no_zero e, h.1)
  waits_zero (barrier o b s ∷ xs) zero a h = (λ e. no_zero e, h)
  waits_zero (rotation r ∷ xs) (suc j) a h =
      (λ e. every_set (Passes r.axis) xs j (rotation (rot a 0)) (h.0 e) (λ n. absurd (omega arith)), waits_zero xs j a h.1)
  waits_zero (barrier o b s ∷ xs) (suc j) a h = waits_zero xs j a h

  -- ---- rotations that wait commute with one another

  -- the word v commutes with the item, if that waits
  abbrev pub Yields : List ℕ → Item → Type 0
  Yields v (rotation r) = is_clifford r.angle ≡ true → symplectic l v (word_of axes r.axis) ≡ 0
  Yields v (barrier o a s) = Unit {0}

  passes_yields : (a : ℕ) (i : Item) → Passes a i → Yields (word_of axes a) i
  passes_yields a (rotation t) h = λ e. h (clifford_nonzero t.angle e)
  passes_yields a (barrier o b s) h = tt

  -- the item, if it waits, commutes with all of the output that wait
  abbrev pub Mutual : List Item → Item → Type 0
  Mutual out (rotation r) = is_clifford r.angle ≡ true → Every (Yields (word_of axes r.axis)) out
  Mutual out (barrier o a s) = Unit {0}

  -- one more in front, which lets all others pass if it waits
  mutual_more : (r : Rot) (out is : List Item) → (is_clifford r.angle ≡ true → Every (Passes r.axis) is) → Every (Mutual out) is
      → Every (Mutual (rotation r ∷ out)) is
  mutual_more r out [] h g = tt
  mutual_more r out (rotation t ∷ is) h g = (
    λ e. (λ f. symplectic_comm l (word_of axes t.axis) (word_of axes r.axis) ∙ (h f).0 (clifford_nonzero t.angle e), g.0 e),
    mutual_more r out is (λ f. (h f).1) g.1,
  )
  mutual_more r out (barrier o a s ∷ is) h g = (tt, mutual_more r out is (λ f. (h f).1) g.1)

  mutual_barrier : (o a s : ℕ) (out is : List Item) → Every (Mutual out) is → Every (Mutual (barrier o a s ∷ out)) is
  mutual_barrier o a s out [] g = tt
  mutual_barrier o a s out (rotation t ∷ is) g = (λ e. (tt, g.0 e), mutual_barrier o a s out is g.1)
  mutual_barrier o a s out (barrier o' b s' ∷ is) g = (tt, mutual_barrier o a s out is g.1)

  -- so do all of an output that is as it must be
  pub waits_mutual : (out : List Item) → Waits out → Every (Mutual out) out
  waits_mutual [] h = tt
  waits_mutual (rotation r ∷ xs) h = (
    λ e. (
      (λ f. symplectic_self l (word_of axes r.axis)),
      every_implies (Passes r.axis) (Yields (word_of axes r.axis)) (passes_yields r.axis) xs (h.0 e),
    ),
    mutual_more r xs xs h.0 (waits_mutual xs h.1),
  )
  waits_mutual (barrier o a s ∷ xs) h = (tt, mutual_barrier o a s xs xs (waits_mutual xs h))

  -- ---- one more is put out

  passes_one : (a : ℕ) (xs : List Item) (i : Item) → Every (Passes a) xs → Passes a i → Every (Passes a) (xs ++ (i ∷ []))
  passes_one a [] i h k = (k, tt)
  passes_one a (x ∷ xs) i h k = (h.0, passes_one a xs i h.1 k)

  -- a rotation that commutes with all that wait
  pub waits_one : (out : List Item) (a k : ℕ) → Waits out → Every (Yields (word_of axes a)) out → Waits (out ++ (rotation (rot a k) ∷ []))
  waits_one [] a k h y = (λ e. tt, tt)
  waits_one (rotation r ∷ xs) a k h y = (
    λ e. passes_one r.axis xs (rotation (rot a k)) (h.0 e) (λ n. symplectic_comm l (word_of axes r.axis) (word_of axes a) ∙ y.0 e),
    waits_one xs a k h.1 y.1,
  )
  waits_one (barrier o b s ∷ xs) a k h y = waits_one xs a k h y.1

  -- none waits
  pub still_waits : (out : List Item) → Every Still out → Waits out
  still_waits [] h = tt
  still_waits (rotation r ∷ xs) h = (λ e. absurd (true≢false (sym e ∙ h.0)), still_waits xs h.1)
  still_waits (barrier o a s ∷ xs) h = still_waits xs h.1

-- the axes grow
module _ (l : ℕ) (xs ys : List (List ℕ)) (grow : Grows xs ys) where
  passes_grows : (a : ℕ) (out : List Item) → a < length xs → AllIn (length xs) out → Every (Passes l xs a) out → Every (Passes l ys a) out
  passes_grows a [] b h k = tt
  passes_grows a (rotation t ∷ out) b h k =
      (λ n. rw (grow.keeps a b, grow.keeps t.axis h.0) (k.0 n), passes_grows a out b h.1 k.1)
  passes_grows a (barrier o c s ∷ out) b h k = absurd k.0

  -- the words of axes in range stay
  pub waits_grows : (out : List Item) → AllIn (length xs) out → Waits l xs out → Waits l ys out
  waits_grows [] h k = tt
  waits_grows (rotation r ∷ out) h k = (λ e. passes_grows r.axis out h.0 h.1 (k.0 e), waits_grows out h.1 k.1)
  waits_grows (barrier o a s ∷ out) h k = waits_grows out h.1 k

  -- and with them what a word commutes with
  pub yields_grows : (v : List ℕ) (out : List Item) → AllIn (length xs) out → Every (Yields l xs v) out → Every (Yields l ys v) out
  yields_grows v [] h k = tt
  yields_grows v (rotation r ∷ out) h k = (λ e. rw (grow.keeps r.axis h.0) (k.0 e), yields_grows v out h.1 k.1)
  yields_grows v (barrier o a s ∷ out) h k = (tt, yields_grows v out h.1 k.1)

-- ---- what `last` names

-- a rotation about a that is not zero, and rotations alone after it
abbrev pub LiveHead : Item → List Item → ℕ → Type 0
LiveHead (rotation r) xs a = (r.axis ≡ a) × (0 < r.angle) × AllRotations xs
LiveHead (barrier o b s) xs a = ⊥

-- place j is such a rotation
abbrev pub Live : List Item → ℕ → ℕ → Type 0
Live [] a j = ⊥
Live (x ∷ xs) a zero = LiveHead x xs a
Live (x ∷ xs) a (suc j) = Live xs a j

-- place j is a rotation about a
abbrev pub AboutHead : Item → ℕ → Type 0
AboutHead (rotation r) a = r.axis ≡ a
AboutHead (barrier o b s) a = ⊥

-- at place j of a list
abbrev pub About : List Item → ℕ → ℕ → Type 0
About [] a j = ⊥
About (x ∷ xs) a zero = AboutHead x a
About (x ∷ xs) a (suc j) = About xs a j

-- a place that `last` names is about its axis
pub live_about : (out : List Item) (a j : ℕ) → Live out a j → About out a j
live_about [] a j h = h
live_about (rotation r ∷ xs) a zero h = h.0
live_about (barrier o b s ∷ xs) a zero h = h
live_about (x ∷ xs) a (suc j) h = live_about xs a j h

turns_set : (xs : List Item) (j : ℕ) (r : Rot) → AllRotations xs → AllRotations (set xs j (rotation r))
turns_set [] j r h = tt
turns_set (rotation x ∷ xs) zero r h = h
turns_set (rotation x ∷ xs) (suc j) r h = turns_set xs j r h
turns_set (barrier o a s ∷ xs) j r h = absurd h

-- rotations, and one more
pub turns_one : (xs : List Item) (r : Rot) → AllRotations xs → AllRotations (xs ++ (rotation r ∷ []))
turns_one [] r h = tt
turns_one (rotation x ∷ xs) r h = turns_one xs r h
turns_one (barrier o a s ∷ xs) r h = absurd h

-- the place of another axis becomes a zero
pub live_zero : (out : List Item) (a j b i : ℕ) → About out a j → (b ≡ a → ⊥) → Live out b i → Live (set out j (rotation (rot a 0))) b i
live_zero [] a j b i h n k = k
live_zero (rotation r ∷ xs) a zero b zero h n k = absurd (n (sym k.0 ∙ h))
live_zero (barrier o c s ∷ xs) a zero b zero h n k = absurd h
live_zero (x ∷ xs) a zero b (suc i) h n k = k
live_zero (rotation r ∷ xs) a (suc j) b zero h n k = (k.0, k.1, turns_set xs j (rot a 0) k.2)
live_zero (barrier o c s ∷ xs) a (suc j) b zero h n k = k
live_zero (x ∷ xs) a (suc j) b (suc i) h n k = live_zero xs a j b i h n k

-- a place gets another angle that is not 0
pub live_turn : (out : List Item) (a j k b i : ℕ) → About out a j → 0 < k → Live out b i → Live (set out j (rotation (rot a k))) b i
live_turn [] a j k b i h n g = g
live_turn (rotation r ∷ xs) a zero k b zero h n g = (sym h ∙ g.0, n, g.2)
live_turn (barrier o c s ∷ xs) a zero k b zero h n g = absurd h
live_turn (x ∷ xs) a zero k b (suc i) h n g = g
live_turn (rotation r ∷ xs) a (suc j) k b zero h n g = (g.0, g.1, turns_set xs j (rot a k) g.2)
live_turn (barrier o c s ∷ xs) a (suc j) k b zero h n g = g
live_turn (x ∷ xs) a (suc j) k b (suc i) h n g = live_turn xs a j k b i h n g

-- a rotation is put out behind it
pub live_one : (out : List Item) (r : Rot) (b i : ℕ) → Live out b i → Live (out ++ (rotation r ∷ [])) b i
live_one [] r b i h = absurd h
live_one (rotation x ∷ xs) r b zero h = (h.0, h.1, turns_one xs r h.2)
live_one (barrier o c s ∷ xs) r b zero h = h
live_one (x ∷ xs) r b (suc i) h = live_one xs r b i h

-- a rotation that is put out is one
pub live_new : (out : List Item) (a k : ℕ) → 0 < k → Live (out ++ (rotation (rot a k) ∷ [])) a (length out)
live_new [] a k h = (refl, h, tt)
live_new (x ∷ xs) a k h = live_new xs a k h

-- rotations alone come after it
pub live_later : (out : List Item) (a j : ℕ) → Live out a j → AllRotations (drop (suc j) out)
live_later [] a j h = absurd h
live_later (rotation r ∷ xs) a zero h = h.2
live_later (barrier o b s ∷ xs) a zero h = absurd h
live_later (x ∷ xs) a (suc j) h = live_later xs a j h

-- ---- a merge at the place that `last` names

module _ (l : ℕ) (axes : List (List ℕ)) where
  -- whoever may pass that place commutes with its axis
  passes_live : (b : ℕ) (xs : List Item) (a j : ℕ) → Every (Passes l axes b) xs → Live xs a j → symplectic l (word_of axes b) (word_of axes a) ≡ 0
  passes_live b [] a j h g = absurd g
  passes_live b (rotation r ∷ xs) a zero h g = rw g.0 at (h.0 g.1)
  passes_live b (barrier o c s ∷ xs) a zero h g = absurd g
  passes_live b (x ∷ xs) a (suc j) h g = passes_live b xs a j h.1 g

  -- its angle changes: where it comes to wait, it may pass all later ones
  pub waits_turn : (out : List Item) (a j k : ℕ) → Live out a j → (is_clifford k ≡ true → Every (Passes l axes a) (drop (suc j) out))
      → Waits l axes out → Waits l axes (set out j (rotation (rot a k)))
  waits_turn [] a j k g f h = tt
  waits_turn (rotation r ∷ xs) a zero k g f h = (f, h.1)
  waits_turn (barrier o b s ∷ xs) a zero k g f h = absurd g
  waits_turn (rotation r ∷ xs) a (suc j) k g f h = (
    λ e. every_set (Passes l axes r.axis) xs j (rotation (rot a k)) (h.0 e) (λ n. passes_live r.axis xs a j (h.0 e) g),
    waits_turn xs a j k g f h.1,
  )
  waits_turn (barrier o b s ∷ xs) a (suc j) k g f h = waits_turn xs a j k g f h

  -- what "every later nonzero output commutes with it" tests
  lets_pass_lem : (a : ℕ) (t : Rot) → lets_pass l axes a (rotation t) ≡ true → Passes l axes a (rotation t)
  lets_pass_lem a t e n =
      symplectic_comm l (word_of axes a) (word_of axes t.axis) ∙ go (eqb t.angle 0) refl (anticommute l axes t.axis a) refl e
    where
      go : (z : Bool) → eqb t.angle 0 ≡ z → (c : Bool) → anticommute l axes t.axis a ≡ c → z || not c ≡ true
          → symplectic l (word_of axes t.axis) (word_of axes a) ≡ 0
      go true ez c ec h = absurd (omega (arith, eqb-true t.angle 0 ez))
      go false ez true ec h = absurd (false≢true h)
      go false ez false ec h = anticommutes_false l _ _ (unfold anticommute in ec)

  -- and what it says of all later items
  pub all_pass : (a : ℕ) (xs : List Item) → AllRotations xs → all_of (lets_pass l axes a) xs ≡ true → Every (Passes l axes a) xs
  unfolding all_of
  all_pass a [] t e = tt
  all_pass a (rotation r ∷ xs) t e = (
    lets_pass_lem a r (and_left (lets_pass l axes a (rotation r)) (all_of (lets_pass l axes a) xs) e),
    all_pass a xs t (and_right (lets_pass l axes a (rotation r)) (all_of (lets_pass l axes a) xs) e),
  )
  all_pass a (barrier o b s ∷ xs) t e = absurd t
