-- Where an axis is in a part of a list. Assumes nothing.
use Rattle.std.specs.Prelude.{◌≡◌, ◌≢◌, ℕ, zero, suc, ◌+◌, ◌-◌, ◌≤◌, ◌<◌, Option, None, Some}
use Rattle.std.specs.Option.{MatchOption}
use Rattle.std.proofs.Common.{sym, arith, eq-eqb, ne_eqb}
use Rattle.std.proofs.Math.Path.{ap}
use mathlib.Core.List.{List, ◌∷◌}
use Rattle.model.specs.Items.{Rot}
use Rattle.items.specs.View.{tagged_at, rot_said, rot_at, rots_in, view_none, view_next}
use Rattle.layering_states.specs.Places.{place_of, place_none, place_here, place_later}

module _ (u : ℕ) (s : List ℕ) (b from end a : ℕ) where
  -- what is left of the list from place j on
  abbrev left : ℕ → List Rot
  left j = rots_in s u b j (end - j)

  -- the first from `from` on, if it is before `end`
  abbrev pub IsPlace : Option ℕ → Type 0
  IsPlace r =
      let j = from + place_of (rots_in s u b from (end - from)) a in
      MatchOption r (end ≡ j) (λ i. (i < end) × (i ≡ j))

  -- the axis at place k is another
  abbrev Other : ℕ → Type 0
  Other k = (tagged_at s u b k).axis ≢ a

  next : {j : ℕ} → j < end → left j ≡ rot_at s u b j ∷ left (j + 1)
  next {j} h = view_next rot_said s u b j end h

  -- it is not among the first d
  passed : (d : ℕ) → from + d ≤ end → ((k : ℕ) → from ≤ k → k < from + d → Other k)
      → from + place_of (left from) a ≡ from + d + place_of (left (from + d)) a
  unfolding rot_said
  passed zero h n = let e : from + 0 ≡ from = omega arith in ap (λ (j : ℕ). j + place_of (left j) a) (sym e)
  passed (suc d) h n =
      let j = from + d in
      let f : from + suc d ≡ j + 1 = omega arith in
      let y = place_later (rot_at s u b j) (left (j + 1)) a (ne_eqb (tagged_at s u b j).axis a (n j (omega arith) (omega arith))) in
      omega (
        arith,
        passed d (omega arith) (λ k l g. n k l (omega arith)),
        ap (λ (x : List Rot). place_of x a) (next (let l : j < end = omega arith in l)),
        y,
        ap (λ (i : ℕ). i + place_of (left i) a) f,
      )

  pub first_place : (r : Option ℕ) → from ≤ end
      → MatchOption r ((k : ℕ) → from ≤ k → k < end → Other k)
      (λ i. (from ≤ i) × (i < end) × ((tagged_at s u b i).axis ≡ a) × ((k : ℕ) → from ≤ k → k < i → Other k))
      → IsPlace r
  unfolding rot_said
  first_place None h n =
      let e : from + (end - from) ≡ end = omega arith in
      let z = view_none rot_said s u b end (end - end) (omega arith) in
      omega (
        arith,
        passed (end - from) (omega arith) (λ k l g. n k l (omega arith)),
        ap (λ (i : ℕ). i + place_of (left i) a) e,
        ap (λ (x : List Rot). place_of x a) z,
        place_none a,
      )
  first_place (Some i) h m =
      let e : from + (i - from) ≡ i = omega (arith, m.0) in
      let z = place_here (rot_at s u b i) (left (i + 1)) a (eq-eqb (tagged_at s u b i).axis a m.2) in (
        m.1,
        omega (
          arith,
          passed (i - from) (omega (arith, m.0, m.1)) (λ k l g. m.3 k l (omega (arith, m.0))),
          ap (λ (j : ℕ). j + place_of (left j) a) e,
          ap (λ (x : List Rot). place_of x a) (next m.1),
          z,
        ),
      )
