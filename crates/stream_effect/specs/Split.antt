-- The output around the place that `last` names, and what a rotation about its axis passes. Assumes nothing.
use Rattle.std.specs.Prelude.{◌≡◌, refl, length, drop}
use Rattle.std.proofs.Math.Path.{ap}
use Rattle.std.proofs.Common.{inl, inr, arith}
use mathlib.Core.List.{List, [], ◌∷◌, ◌++◌}
use Prim.Native.Nat.{ℕ, zero, suc, ◌<◌}
use Rattle.model.specs.Words.{word_of}
use Rattle.model.specs.Items.{Rot, rot, Item, rotation, barrier}
use Rattle.model.specs.Stream.{angle_at}
use Rattle.theory.specs.Every.{Every}
use Rattle.theory.specs.StreamState.{without_angles, outside, axis_of, AllIn, AllRotations, Names}
use Rattle.words_wellformed.specs.StoredWords.{StoredWords}
use Rattle.run_wellformed.specs.WaitingItems.{Passes}
use Rattle.effect.specs.Effect.{Op}
use Rattle.effect.specs.Packed.{packed}
use Rattle.packing_effect.specs.Source.{axis_word}
use Rattle.stream_effect.specs.PackedAxes.{packed_word, packed_commute}
use Rattle.stream_effect.specs.Slide.{Lets}

-- ---- the place

-- place j of the output is a rotation about a, with rotations alone behind it
pub record Split (out : List Item) (a j : ℕ) : Type 0 where
  pub front : List Item
  pub angle : ℕ
  pub back : List Item
  pub whole : out ≡ front ++ (rotation (rot a angle) ∷ back)
  pub place : length front ≡ j
  pub rotations : AllRotations back
  pub angled : angle_at out j ≡ angle
  pub later : drop (suc j) out ≡ back

rotations_only : (xs : List Item) → AllRotations (without_angles xs) → AllRotations xs
unfolding without_angles
rotations_only [] h = tt
rotations_only (rotation r ∷ xs) h = rotations_only xs h
rotations_only (barrier o a s ∷ xs) h = absurd h

same_axis : (r : Rot) (a : ℕ) → rotation (rot r.axis 0) ≡ rotation (rot a 0) → r.axis ≡ a
same_axis r a e = ap axis_of e

-- what `last` names
pub names_split : (out : List Item) (a j : ℕ) → Names (without_angles out) a j → Split out a j
unfolding without_angles angle_at
names_split [] a j h = let z : ◌≡◌ {A = ℕ} 0 1 = let e : outside ≡ rotation (rot a 0) = h.0 in cc in absurd (omega arith)
names_split (rotation r ∷ xs) a zero h =
    let e : r.axis ≡ a = same_axis r a h.0 in
    record {
      front = [];
      angle = r.angle;
      back = xs;
      whole = ap (λ (b : ℕ). rotation (rot b r.angle) ∷ xs) e;
      place = refl;
      rotations = rotations_only xs (unfold without_angles in h.1);
      angled = refl;
      later = refl;
    }
names_split (barrier o b s ∷ xs) a zero h = absurd h.1
names_split (x ∷ xs) a (suc j) h =
    let s = names_split xs a j (unfold without_angles in h) in
    record {
      front = x ∷ s.front;
      angle = s.angle;
      back = s.back;
      whole = ap (λ (ys : List Item). x ∷ ys) s.whole;
      place = ap suc s.place;
      rotations = s.rotations;
      angled = unfold angle_at in s.angled;
      later = s.later;
    }

-- ---- what passes slides

module _ (l : ℕ) (axes : List (List ℕ)) (stored : StoredWords l axes) (barrier_op : ℕ → ℕ → ℕ → Op (packed l).words.W) where
  pub passes_lets : (a : ℕ) → a < length axes → (is : List Item) → AllIn (length axes) is → Every (Passes l axes a) is
      → Every (Lets (packed l) (axis_word (packed_word l) axes) barrier_op (axis_word (packed_word l) axes a)) is
  passes_lets a b [] i h = tt
  passes_lets a b (rotation t ∷ is) i h = (one t.angle refl, passes_lets a b is i.1 h.1)
    where
      one : (k : ℕ) → t.angle ≡ k → Lets (packed l) (axis_word (packed_word l) axes) barrier_op (axis_word (packed_word l) axes a) (rotation t)
      one zero e = inl e
      one (suc k) e =
          inr (packed_commute l (word_of axes a) (word_of axes t.axis) (stored.words a b).long (stored.words t.axis i.0).long
          (h.0 (omega arith)))
  passes_lets a b (barrier o c s ∷ is) i h = absurd h.0
