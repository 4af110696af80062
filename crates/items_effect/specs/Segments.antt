-- `rewrite_segments`: what keeps the effect of every segment keeps the effect of the items. Assumes nothing.
use Rattle.std.specs.Prelude.{◌≡◌, ℕ, ◌+◌}
use mathlib.Core.List.{List, [], ◌∷◌, ◌++◌, map, append_assoc, append-nil}
use Rattle.model.specs.Items.{Rot, Item, rotation, barrier, Segment, end_segment, rewrite_from, rewrite_segments}
use Rattle.theory.specs.Every.{Every, every_one}
use Rattle.effect.specs.Words.{Setting}
use Rattle.effect.specs.Effect.{Op}
use Rattle.effect.specs.Effect as Effect
use Rattle.effect.proofs.Equal.{≈-trans, ≈-before, ≈-after}
use Rattle.items_effect.specs.Ops.{rot_ops, rot_ops_append, item_ops, item_ops_append, item_ops_rotations}
use Rattle.items_effect.specs.Rotations as Rotations

-- what holds of every rotation among items
abbrev pub OnRotation : (Rot → Type 0) → Item → Type 0
OnRotation P (rotation r) = P r
OnRotation P (barrier o a s) = Unit {0}

-- barriers mean what `barrierOp` says
module _ (H : Setting) (word : ℕ → H.words.W) (barrier_op : ℕ → ℕ → ℕ → Op H.words.W) where
  abbrev turns : List Rot → List (Op H.words.W)
  turns g = rot_ops word g

  abbrev ops : List Item → List (Op H.words.W)
  ops is = item_ops word barrier_op is

  module _ (P : Rot → Type 0) (f : List Rot → Segment) (keeps : (seg : List Rot) → Every P seg → Rotations.◌≋◌ H word (f seg).rots seg) where
    end_segment_effect : (done : List Item) (seg : List Rot) → Every P seg → Effect.◌≈◌ H (ops (end_segment f done seg)) (ops done ++ turns seg)
    unfolding end_segment
    end_segment_effect done seg h =
        rw (item_ops_append word barrier_op done (map rotation (f seg).rots), item_ops_rotations word barrier_op (f seg).rots)
        (≈-before H (ops done) (turns (f seg).rots) (turns seg) (keeps seg h))

    rewrite_from_effect : (done : List Item) (seg : List Rot) (c : ℕ) (is : List Item) → Every P seg → Every (OnRotation P) is
        → Effect.◌≈◌ H (ops (rewrite_from f done seg c is).items) ((ops done ++ turns seg) ++ ops is)
    unfolding rewrite_from
    rewrite_from_effect done seg c [] h k = rw append-nil (end_segment_effect done seg h)
    rewrite_from_effect done seg c (rotation r ∷ is) h k =
        let one : (ops done ++ turns (seg ++ (r ∷ []))) ++ ops is ≡ (ops done ++ turns seg) ++ ops (rotation r ∷ is)
        = simp (rot_ops_append word seg (r ∷ []), append_assoc) in
        rw one at (rewrite_from_effect done (seg ++ (r ∷ [])) c is (every_one P seg r h k.0) k.1)
    rewrite_from_effect done seg c (barrier o a s ∷ is) h k =
        let b = barrier_op o a s ∷ [] in
        let ended = end_segment f done seg in
        let next = ended ++ (barrier o a s ∷ []) in
        let one : (ops next ++ []) ++ ops is ≡ ops ended ++ (b ++ ops is)
        = simp (item_ops_append word barrier_op ended (barrier o a s ∷ []), append-nil, append_assoc) in
        let ih = rewrite_from_effect next [] (c + (f seg).changes) is tt k.1 in
        ≈-trans H (ops (rewrite_from f next [] (c + (f seg).changes) is).items) (ops ended ++ (b ++ ops is))
        ((ops done ++ turns seg) ++ (b ++ ops is)) (rw one at ih)
        (≈-after H (ops ended) (ops done ++ turns seg) (b ++ ops is) (end_segment_effect done seg h))

    -- each segment keeps its effect, so the items do, whatever the barriers mean
    pub rewrite_segments_effect : (is : List Item) → Every (OnRotation P) is
        → Effect.◌≈◌ H (item_ops word barrier_op (rewrite_segments f is).items) (item_ops word barrier_op is)
    unfolding rewrite_segments
    rewrite_segments_effect is h = rewrite_from_effect [] [] 0 is tt h
