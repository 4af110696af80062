-- Within a layer all rotations commute; a rotation that moves commutes with the layer it enters and with those it leaves. Assumes nothing.
use Rattle.std.specs.Prelude.{◌≡◌, Bool, not, length}
use Rattle.std.proofs.Math.Path.{refl, ap, subst}
use Rattle.std.proofs.Common.{sym, ◌∙◌}
use Rattle.std.proofs.Math.Bool.{true, false}
use mathlib.Core.List.{List, [], ◌∷◌, ◌++◌, map, flatten, append_assoc, append-nil}
use Prim.Native.Nat.{ℕ, zero, suc, ◌+◌, ◌<◌}
use Rattle.model.specs.Lists.{when◌then◌else◌, keep, is_empty}
use Rattle.model.specs.Items.{Rot, is_nonzero, drop_zero_rots}
use Rattle.model.specs.Layering.{merge_into, merges_in, Layers, Shift, commutes_with_all, join_layer, join_layers, move_rotation, move_rotations}
use Rattle.model.specs.Layering.{sweep_from}
use Rattle.model.specs.Layering.{sweep}
use Rattle.model.specs.Layering.{drop_zero_layers, sweeps_from, height, layer_segment}
use Rattle.theory.specs.Cases.{by_if, on_if}
use Rattle.theory.specs.Every.{Every, every_one, every_keep}
use Rattle.effect.specs.Words.{Setting}
use Rattle.items_effect.specs.Rotations.{Commutes, commutes_sym, ≋-refl, ≋-eq, ≋-trans, ≋-before, ≋-after, moves, drop_zero_rots_effect}
use Rattle.items_effect.specs.Rotations as Rotations
use Rattle.items_effect.specs.AxisWords.{AxisWords, HasAxis, commutes_all}
use Rattle.layering_effect.specs.Merging.{merge_into_every, merge_into_effect}

-- without one element, the others keep what they have
every_without : {A : Type 0} (P : A → Type 0) (xs ys : List A) (r : A) → Every P (xs ++ (r ∷ ys)) → Every P (xs ++ ys)
every_without P [] ys r h = h.1
every_without P (x ∷ xs) ys r h = (h.0, every_without P xs ys r h.1)

every_middle : {A : Type 0} (P : A → Type 0) (xs ys : List A) (r : A) → Every P (xs ++ (r ∷ ys)) → P r
every_middle P [] ys r h = h.0
every_middle P (x ∷ xs) ys r h = every_middle P xs ys r h.1

flatten_one : {A : Type 0} (ls : List (List A)) (xs : List A) → flatten (ls ++ (xs ∷ [])) ≡ flatten ls ++ xs
unfolding flatten
flatten_one [] xs = append-nil xs
flatten_one {A} (l ∷ ls) xs = ap (λ (ys : List A). l ++ ys) (flatten_one ls xs) ∙ sym (append_assoc l (flatten ls) xs)

module _ (H : Setting) (l : ℕ) (axes : List (List ℕ)) (A : AxisWords H l axes) where
  abbrev word : ℕ → H.words.W
  word = A.word

  infix 20 ◌≋◌
  abbrev ◌≋◌ : List Rot → List Rot → Type 0
  xs ≋ ys = Rotations.◌≋◌ H word xs ys

  abbrev CommutesWith : Rot → Rot → Type 0
  CommutesWith = Commutes H word

  abbrev Stored : Rot → Type 0
  Stored = HasAxis axes

  -- each with every later one
  abbrev pub AllCommute : List Rot → Type 0
  AllCommute [] = Unit {0}
  AllCommute (x ∷ xs) = Every (CommutesWith x) xs × AllCommute xs

  -- what is kept of every layer: its axes are stored, its rotations commute
  abbrev pub Layer : List Rot → Type 0
  Layer xs = Every (HasAxis axes) xs × AllCommute xs

  -- ---- the test says that a rotation commutes with all of a layer

  clear : (layer : List Rot) (r : Rot) → Every Stored layer → Stored r → commutes_with_all l axes layer r ≡ true → Every (CommutesWith r) layer
  unfolding commutes_with_all
  clear layer r h k e = commutes_all H l axes A layer r h k e

  -- ---- what leaves a layer a layer

  -- one leaves: the others still commute, and it commutes with those before it
  commute_without : (xs ys : List Rot) (r : Rot) → AllCommute (xs ++ (r ∷ ys)) → AllCommute (xs ++ ys)
  commute_without [] ys r h = h.1
  commute_without (x ∷ xs) ys r h = (every_without (CommutesWith x) xs ys r h.0, commute_without xs ys r h.1)

  commute_before : (xs ys : List Rot) (r : Rot) → AllCommute (xs ++ (r ∷ ys)) → Every (CommutesWith r) xs
  commute_before [] ys r h = tt
  commute_before (x ∷ xs) ys r h = (commutes_sym H word x r (every_middle (CommutesWith x) xs ys r h.0), commute_before xs ys r h.1)

  layer_without : (xs ys : List Rot) (r : Rot) → Layer (xs ++ (r ∷ ys)) → Layer (xs ++ ys)
  layer_without xs ys r h = (every_without Stored xs ys r h.0, commute_without xs ys r h.1)

  commute_keep : (f : Rot → Bool) (xs : List Rot) → AllCommute xs → AllCommute (keep f xs)
  unfolding keep
  commute_keep f [] h = tt
  commute_keep f (x ∷ xs) h =
      by_if AllCommute (f x) (x ∷ keep f xs) (keep f xs) (every_keep (CommutesWith x) f xs h.0, commute_keep f xs h.1)
      (commute_keep f xs h.1)

  -- a rotation that commutes with all of a layer is laid into it
  commute_into : (layer : List Rot) (r : Rot) → AllCommute layer → Every (CommutesWith r) layer → AllCommute (merge_into layer r)
  unfolding merge_into
  commute_into [] r h k = (tt, tt)
  commute_into (x ∷ layer) r h k =
      by_if AllCommute _ _ (x ∷ merge_into layer r) (h.0, h.1) (
        merge_into_every (λ (a : ℕ). CommutesWith x (record { axis = a; angle = 0 })) layer r h.0 (commutes_sym H word r x k.0),
        commute_into layer r h.1 k.1,
      )

  layer_into : (layer : List Rot) (r : Rot) → Layer layer → Stored r → Every (CommutesWith r) layer → Layer (merge_into layer r)
  layer_into layer r h k c = (merge_into_every (λ (a : ℕ). a < length axes) layer r h.0 k, commute_into layer r h.1 c)

  -- ---- "A rotation joins the last layer if it commutes with all of it, else opens one"

  -- every layer is one, the last too
  abbrev Joined : Layers → Type 0
  Joined s = Every Layer s.done × Layer s.layer

  -- all rotations laid so far
  abbrev laid : Layers → List Rot
  laid s = flatten s.done ++ s.layer

  join_layer_effect : (s : Layers) (r : Rot) → Joined s → Stored r
      → Joined (join_layer l axes s r) × (laid (join_layer l axes s r) ≋ laid s ++ (r ∷ []))
  unfolding join_layer
  join_layer_effect s r h k =
      on_if (λ (t : Layers). Joined t × (laid t ≋ laid s ++ (r ∷ []))) (commutes_with_all l axes s.layer r) joins opens joining (λ e. opening)
    where
      joins : Layers
      joins = record { done = s.done; layer = merge_into s.layer r; merged = s.merged + merges_in s.layer r }

      opens : Layers
      opens = record { done = s.done ++ (s.layer ∷ []); layer = r ∷ []; merged = s.merged }

      joining : commutes_with_all l axes s.layer r ≡ true → Joined joins × (laid joins ≋ laid s ++ (r ∷ []))
      joining e =
          let c = clear s.layer r h.1.0 k e in (
            (h.0, layer_into s.layer r h.1 k c),
            subst (λ (ys : List Rot). laid joins ≋ ys) (sym (append_assoc (flatten s.done) s.layer (r ∷ [])))
                (≋-before H word (flatten s.done) (merge_into s.layer r) (s.layer ++ (r ∷ [])) (merge_into_effect H word s.layer r c)),
          )

      opening : Joined opens × (laid opens ≋ laid s ++ (r ∷ []))
      opening = (
        (every_one Layer s.done s.layer h.0 h.1, ((k, tt), (tt, tt))),
        ≋-eq H word (laid opens) (laid s ++ (r ∷ [])) (ap (λ (ys : List Rot). ys ++ (r ∷ [])) (flatten_one s.done s.layer)),
      )

  join_layers_effect : (s : Layers) (rs : List Rot) → Joined s → Every Stored rs
      → Joined (join_layers l axes s rs) × (laid (join_layers l axes s rs) ≋ laid s ++ rs)
  unfolding join_layers
  join_layers_effect s [] h k = (h, ≋-eq H word (laid s) (laid s ++ []) (sym (append-nil (laid s))))
  join_layers_effect s (r ∷ rs) h k =
      let t = join_layer l axes s r in
      let one = join_layer_effect s r h k.0 in
      let rest = join_layers_effect t rs one.0 k.1 in (
        rest.0,
        ≋-trans H word (laid (join_layers l axes t rs)) (laid t ++ rs) (laid s ++ (r ∷ rs)) rest.1
            (subst (λ (ys : List Rot). laid t ++ rs ≋ ys) (append_assoc (laid s) (r ∷ []) rs)
            (≋-after H word (laid t) (laid s ++ (r ∷ [])) rs one.1)),
      )

  -- ---- "Sweeps then move rotations to the layer before": those that stay and those still to come are one layer

  abbrev Shifted : Shift → List Rot → Type 0
  Shifted s next = Layer s.layer × Layer (s.stay ++ next)

  -- the layer, then those that stay
  abbrev both : Shift → List Rot
  both s = s.layer ++ s.stay

  move_rotation_effect : (s : Shift) (r : Rot) (next : List Rot) → Shifted s (r ∷ next)
      → Shifted (move_rotation l axes s r) next × (both (move_rotation l axes s r) ≋ both s ++ (r ∷ []))
  unfolding move_rotation
  move_rotation_effect s r next h =
      on_if (λ (t : Shift). Shifted t next × (both t ≋ both s ++ (r ∷ []))) (commutes_with_all l axes s.layer r) enters keeps entering
      (λ e. staying)
    where
      enters : Shift
      enters = record { layer = merge_into s.layer r; stay = s.stay; merged = s.merged + merges_in s.layer r; moved = true }

      keeps : Shift
      keeps = record { layer = s.layer; stay = s.stay ++ (r ∷ []); merged = s.merged; moved = s.moved }

      entering : commutes_with_all l axes s.layer r ≡ true → Shifted enters next × (both enters ≋ both s ++ (r ∷ []))
      entering e =
          let k = every_middle Stored s.stay next r h.1.0 in
          let c = clear s.layer r h.0.0 k e in (
            (layer_into s.layer r h.0 k c, layer_without s.stay next r h.1),
            ≋-trans H word (both enters) (s.layer ++ (r ∷ s.stay)) (both s ++ (r ∷ []))
                (subst (λ (ys : List Rot). both enters ≋ ys) (append_assoc s.layer (r ∷ []) s.stay)
                (≋-after H word (merge_into s.layer r) (s.layer ++ (r ∷ [])) s.stay (merge_into_effect H word s.layer r c)))
                (moves H word r s.layer s.stay (commute_before s.stay next r h.1.1)),
          )

      staying : Shifted keeps next × (both keeps ≋ both s ++ (r ∷ []))
      staying = (
        (h.0, subst Layer (sym (append_assoc s.stay (r ∷ []) next)) h.1),
        ≋-eq H word (both keeps) (both s ++ (r ∷ [])) (sym (append_assoc s.layer s.stay (r ∷ []))),
      )

  move_rotations_effect : (s : Shift) (next : List Rot) → Shifted s next
      → Shifted (move_rotations l axes s next) [] × (both (move_rotations l axes s next) ≋ both s ++ next)
  unfolding move_rotations
  move_rotations_effect s [] h = (h, ≋-eq H word (both s) (both s ++ []) (sym (append-nil (both s))))
  move_rotations_effect s (r ∷ next) h =
      let t = move_rotation l axes s r in
      let one = move_rotation_effect s r next h in
      let rest = move_rotations_effect t next one.0 in (
        rest.0,
        ≋-trans H word (both (move_rotations l axes t next)) (both t ++ next) (both s ++ (r ∷ next)) rest.1
            (subst (λ (ys : List Rot). both t ++ next ≋ ys) (append_assoc (both s) (r ∷ []) next)
            (≋-after H word (both t) (both s ++ (r ∷ [])) next one.1)),
      )

  sweep_from_effect : (layer : List Rot) (m : ℕ) (b : Bool) (ls : List (List Rot)) → Layer layer → Every Layer ls
      → Every Layer (sweep_from l axes layer m b ls).layers × (flatten (sweep_from l axes layer m b ls).layers ≋ layer ++ flatten ls)
  unfolding sweep_from flatten
  sweep_from_effect layer m b [] h k = ((h, tt), ≋-refl H word (layer ++ []))
  sweep_from_effect layer m b (next ∷ ls) h k =
      let s : Shift = record { layer = layer; stay = []; merged = m; moved = b } in
      let t = move_rotations l axes s next in
      let one = move_rotations_effect s next (h, k.0) in
      let stay : Layer t.stay = subst Layer (append-nil t.stay) one.0.1 in
      let rest = sweep_from_effect t.stay t.merged t.moved ls stay k.1 in
      let swept = flatten (sweep_from l axes t.stay t.merged t.moved ls).layers in
      let after = ≋-after H word (both t) (both s ++ next) (flatten ls) one.1 in
      let start : (both s ++ next) ++ flatten ls ≡ layer ++ (next ++ flatten ls) =
      ap (λ (ys : List Rot). (ys ++ next) ++ flatten ls) (append-nil layer) ∙ append_assoc layer next (flatten ls) in (
        (one.0.0, rest.0),
        ≋-trans H word (t.layer ++ swept) (t.layer ++ (t.stay ++ flatten ls)) (layer ++ (next ++ flatten ls))
            (≋-before H word t.layer swept (t.stay ++ flatten ls) rest.1)
            (subst (λ (xs : List Rot). xs ≋ layer ++ (next ++ flatten ls)) (append_assoc t.layer t.stay (flatten ls))
            (subst (λ (ys : List Rot). both t ++ flatten ls ≋ ys) start after)),
      )

  sweep_effect : (m : ℕ) (ls : List (List Rot)) → Every Layer ls
      → Every Layer (sweep l axes m ls).layers × (flatten (sweep l axes m ls).layers ≋ flatten ls)
  unfolding sweep flatten
  sweep_effect m [] h = (tt, ≋-refl H word [])
  sweep_effect m (layer ∷ ls) h = sweep_from_effect layer m false ls h.0 h.1

  -- ---- "zeros leave at a sweep's end", and with them layers that are empty

  -- an empty layer has no rotations
  flatten_kept : (ls : List (List Rot)) → flatten (keep (λ layer. not (is_empty layer)) ls) ≡ flatten ls
  unfolding keep flatten is_empty when◌then◌else◌
  flatten_kept [] = refl
  flatten_kept ([] ∷ ls) = flatten_kept ls
  flatten_kept ((r ∷ layer) ∷ ls) = ap (λ (ys : List Rot). r ∷ (layer ++ ys)) (flatten_kept ls)

  zeros_effect : (ls : List (List Rot)) → Every Layer ls → Every Layer (map drop_zero_rots ls) × (flatten (map drop_zero_rots ls) ≋ flatten ls)
  unfolding flatten
  zeros_effect [] h = (tt, ≋-refl H word [])
  zeros_effect (layer ∷ ls) h =
      let rest = zeros_effect ls h.1 in
      let zs = flatten (map drop_zero_rots ls) in (
        (unfold drop_zero_rots in (every_keep Stored is_nonzero layer h.0.0, commute_keep is_nonzero layer h.0.1), rest.0),
        ≋-trans H word (drop_zero_rots layer ++ zs) (layer ++ zs) (layer ++ flatten ls)
            (≋-after H word (drop_zero_rots layer) layer zs (drop_zero_rots_effect H word layer)) (≋-before H word layer zs (flatten ls) rest.1),
      )

  drop_zero_layers_effect : (ls : List (List Rot)) → Every Layer ls → Every Layer (drop_zero_layers ls) × (flatten (drop_zero_layers ls) ≋ flatten ls)
  unfolding drop_zero_layers
  drop_zero_layers_effect ls h =
      let z = zeros_effect ls h in (
        every_keep Layer _ (map drop_zero_rots ls) z.0,
        subst (λ (xs : List Rot). xs ≋ flatten ls) (sym (flatten_kept (map drop_zero_rots ls))) z.1,
      )

  -- ---- "until none moves"

  sweeps_from_effect : (k : ℕ) (going : Bool) (m : ℕ) (ls : List (List Rot)) → Every Layer ls → (sweeps_from l axes k going m ls).rots ≋ flatten ls
  unfolding sweeps_from
  sweeps_from_effect zero going m ls h = ≋-refl H word (flatten ls)
  sweeps_from_effect (suc k) false m ls h = ≋-refl H word (flatten ls)
  sweeps_from_effect (suc k) true m ls h =
      let s = sweep l axes m ls in
      let swept = sweep_effect m ls h in
      let z = drop_zero_layers_effect s.layers swept.0 in
      let zs = drop_zero_layers s.layers in
      let rots = (sweeps_from l axes k s.moved s.merged zs).rots in
      ≋-trans H word rots (flatten zs) (flatten ls) (sweeps_from_effect k s.moved s.merged zs z.0)
      (≋-trans H word (flatten zs) (flatten s.layers) (flatten ls) z.1 swept.1)

  -- layering a segment keeps its effect
  pub layer_segment_effect : (rots : List Rot) → Every (HasAxis axes) rots → (layer_segment l axes rots).rots ≋ rots
  unfolding layer_segment
  layer_segment_effect [] h = ≋-refl H word []
  layer_segment_effect (r ∷ rest) h =
      let z : Layers = record { done = []; layer = r ∷ []; merged = 0 } in
      let s = join_layers l axes z rest in
      let j = join_layers_effect z rest (tt, ((h.0, tt), (tt, tt))) h.1 in
      let ls = s.done ++ (s.layer ∷ []) in
      let rots = (sweeps_from l axes (suc (height ls)) true s.merged ls).rots in
      let start : laid z ++ rest ≡ r ∷ rest = unfold flatten in refl in
      ≋-trans H word rots (flatten ls) (r ∷ rest)
      (sweeps_from_effect (suc (height ls)) true s.merged ls (every_one Layer s.done s.layer j.0.0 j.0.1))
      (subst (λ (xs : List Rot). xs ≋ (r ∷ rest)) (sym (flatten_one s.done s.layer)) (subst (λ (ys : List Rot). laid s ≋ ys) start j.1))
