-- 01, Exchange: a trial that is merged locally keeps its effect. Assumes nothing.
use Rattle.std.specs.Prelude.{◌≡◌, false, ℕ, ◌+◌, ◌%◌}
use Rattle.std.proofs.Math.Path.{refl}
use Rattle.std.proofs.Common.{sym, ◌∙◌, ap, eqb-true}
use Rattle.std.proofs.Math.Option.{Option, none, some, map, get_or}
use mathlib.Core.List.{List, [], ◌∷◌, ◌++◌, reverse, append_assoc, append-nil, reverse-cons}
use Rattle.model.specs.Words.{anticommute}
use Rattle.model.specs.Items.{Rot, rot}
use Rattle.model.specs.Exchange.{merge_back, merge_locally}
use Rattle.theory.specs.Cases.{on_if}
use Rattle.theory.specs.Every.{Every}
use Rattle.effect.specs.Words.{Setting}
use Rattle.items_effect.specs.Rotations.{≋-sym, ≋-trans, ≋-before, ≋-after, ≋-along, ≋-eq, zero_nothing, commutes_sym, moves, merges}
use Rattle.items_effect.specs.Rotations as Rotations
use Rattle.items_effect.specs.AxisWords.{AxisWords, HasAxis, commutes_one}

module _ (H : Setting) (l : ℕ) (axes : List (List ℕ)) (A : AxisWords H l axes) where
  infix 20 ◌≋◌
  abbrev ◌≋◌ : List Rot → List Rot → Type 0
  g ≋ h = Rotations.◌≋◌ H A.word g h

  -- ---- two rotations

  -- two about one axis are one
  pub merge_two : (d r : Rot) → d.axis ≡ r.axis → (rot d.axis ((d.angle + r.angle) % 8) ∷ []) ≋ (d ∷ r ∷ [])
  merge_two d r e = merges H A.word d r [] e tt

  -- two that commute change places
  pub swap_two : (d r : Rot) → HasAxis axes d → HasAxis axes r → anticommute l axes d.axis r.axis ≡ false
      → (d ∷ r ∷ []) ≋ (r ∷ d ∷ [])
  swap_two d r hd hr e = moves H A.word d [] (r ∷ []) (commutes_sym H A.word r d (commutes_one H l axes A d r hd hr e), tt)

  -- a zero is passed over, whatever its axis
  pub pass_zero : (d r : Rot) → d.angle ≡ 0 → (d ∷ r ∷ []) ≋ (r ∷ d ∷ [])
  pass_zero d r e =
      let none = zero_nothing H A.word d e in
      ≋-trans H A.word (d ∷ r ∷ []) (r ∷ []) (r ∷ d ∷ []) (≋-after H A.word (d ∷ []) [] (r ∷ []) none)
      (≋-sym H A.word (r ∷ d ∷ []) (r ∷ []) (≋-before H A.word (r ∷ []) (d ∷ []) [] none))

  -- ---- `mergeBack`: what is done stands newest first

  -- ds is what is done with r added
  abbrev Next : List Rot → Rot → List Rot → Type 0
  Next done r ds = (reverse ds ≋ (reverse done ++ (r ∷ []))) × Every (HasAxis axes) ds

  abbrev Merged : List Rot → Rot → Option (List Rot) → Type 0
  Merged done r none = Unit {0}
  Merged done r (some ds) = Next done r ds

  -- r has gone back over d
  behind : (d : Rot) (before : List Rot) (r : Rot) → HasAxis axes d → (d ∷ r ∷ []) ≋ (r ∷ d ∷ [])
      → (o : Option (List Rot)) → Merged before r o → Merged (d ∷ before) r (map (λ ds. d ∷ ds) o)
  behind d before r h e none k = tt
  behind d before r h e (some ds) k = (≋-along H A.word (reverse-cons d ds) whole passed, (h, k.1))
    where
      older : List Rot
      older = reverse before

      whole : reverse (d ∷ before) ++ (r ∷ []) ≡ older ++ (d ∷ r ∷ [])
      whole = ap (λ (x : List Rot). x ++ (r ∷ [])) (reverse-cons d before) ∙ append_assoc older (d ∷ []) (r ∷ [])

      moved : (reverse ds ++ (d ∷ [])) ≋ (older ++ (r ∷ d ∷ []))
      moved =
          ≋-along H A.word {g = reverse ds ++ (d ∷ [])} refl (sym (append_assoc older (r ∷ []) (d ∷ [])))
          (≋-after H A.word (reverse ds) (older ++ (r ∷ [])) (d ∷ []) k.0)

      passed : (reverse ds ++ (d ∷ [])) ≋ (older ++ (d ∷ r ∷ []))
      passed =
          ≋-trans H A.word (reverse ds ++ (d ∷ [])) (older ++ (r ∷ d ∷ [])) (older ++ (d ∷ r ∷ [])) moved
          (≋-sym H A.word (older ++ (d ∷ r ∷ [])) (older ++ (r ∷ d ∷ [])) (≋-before H A.word older (d ∷ r ∷ []) (r ∷ d ∷ []) e))

  merge_back_effect : (done : List Rot) (r : Rot) → Every (HasAxis axes) done → HasAxis axes r → Merged done r (merge_back l axes done r)
  unfolding merge_back
  merge_back_effect [] r h k = tt
  merge_back_effect (d ∷ before) r h k =
      let ih = merge_back_effect before r h.1 k in
      let further : (d ∷ r ∷ []) ≋ (r ∷ d ∷ []) → Merged (d ∷ before) r (map (λ ds. d ∷ ds) (merge_back l axes before r))
      = λ e. behind d before r h.0 e (merge_back l axes before r) ih in
      on_if (Merged (d ∷ before) r) _ _ _ (λ e. further (pass_zero d r (eqb-true d.angle 0 e)))
      (λ e. on_if (Merged (d ∷ before) r) _ _ _ (λ f. (merged (eqb-true d.axis r.axis f), (h.0, h.1)))
      (λ f. on_if (Merged (d ∷ before) r) _ _ _ (λ g. tt) (λ g. further (swap_two d r h.0 k g))))
    where
      new : Rot
      new = rot d.axis ((d.angle + r.angle) % 8)

      merged : d.axis ≡ r.axis → reverse (new ∷ before) ≋ (reverse (d ∷ before) ++ (r ∷ []))
      merged e =
          ≋-along H A.word (reverse-cons new before)
          (ap (λ (x : List Rot). x ++ (r ∷ [])) (reverse-cons d before) ∙ append_assoc (reverse before) (d ∷ []) (r ∷ []))
          (≋-before H A.word (reverse before) (new ∷ []) (d ∷ r ∷ []) (merge_two d r e))

  -- ---- `mergeLocally`

  -- merged, or put after the others
  next_effect : (done : List Rot) (r : Rot) → Every (HasAxis axes) done → HasAxis axes r
      → (o : Option (List Rot)) → Merged done r o → Next done r (get_or o (r ∷ done))
  next_effect done r h k none m = (≋-eq H A.word (reverse (r ∷ done)) (reverse done ++ (r ∷ [])) (reverse-cons r done), (k, h))
  next_effect done r h k (some ds) m = m

  merge_locally_from : (done rest : List Rot) → Every (HasAxis axes) done → Every (HasAxis axes) rest
      → merge_locally l axes done rest ≋ (reverse done ++ rest)
  unfolding merge_locally
  merge_locally_from done [] h k = ≋-eq H A.word (reverse done) (reverse done ++ []) (sym (append-nil (reverse done)))
  merge_locally_from done (r ∷ rest) h k =
      let next = get_or (merge_back l axes done r) (r ∷ done) in
      let n = next_effect done r h k.0 (merge_back l axes done r) (merge_back_effect done r h k.0) in
      ≋-trans H A.word (merge_locally l axes next rest) (reverse next ++ rest) (reverse done ++ (r ∷ rest))
      (merge_locally_from next rest n.1 k.1)
      (≋-along H A.word {g = reverse next ++ rest} refl (sym (append_assoc (reverse done) (r ∷ []) rest))
      (≋-after H A.word (reverse next) (reverse done ++ (r ∷ [])) rest n.0))

  pub merge_locally_effect : (trial : List Rot) → Every (HasAxis axes) trial → merge_locally l axes [] trial ≋ trial
  merge_locally_effect trial h = merge_locally_from [] trial tt h
