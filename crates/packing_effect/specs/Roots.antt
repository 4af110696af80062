-- A root's id and sign are the word and the phase of its plain value. Assumes nothing.
use Rattle.std.specs.Prelude.{◌≡◌, refl, true, false, ℕ, ◌+◌, ◌*◌, ◌%◌, ◌<◌}
use Rattle.std.proofs.Common.{sym, ◌∙◌, ap₂, inl, inr, ⊎_elim}
use Rattle.std.proofs.Math.Path.{ap}
use mathlib.Core.List.{List, [], ◌∷◌, ◌++◌, map}
use native.Mathlib.Omega.{arith}
use Rattle.std.proofs.Math.ListN.{length, replicate}
use Rattle.store.specs.Equal.{same_true}
use Rattle.pauli.specs.Word.{width, is_identity, identity}
use Rattle.pauli.specs.LetterLaws.{width_holds}
use Rattle.model.specs.Lists.{is_odd}
use Rattle.model.specs.Program.{PauliRef, Program}
use Rattle.model.specs.Words.{Value, scaled, word_of}
use Rattle.model.specs.Value.{plain_value, value_at}
use Rattle.model.specs.Roots.{is_root, root_rows, operation_root, roots}
use Rattle.model.specs.Packing.{packed, values_of, SignedAxis, signed_axis}
use Rattle.theory.specs.Every.{Every, every_keep}
use Rattle.theory.specs.Ids.{id_word}
use Rattle.theory.specs.PackedRoots.{In, Rooted, packed_rooted}
use Rattle.theory.specs.PlainValue.{plain_value_lem}
use Rattle.theory.specs.Checked.{RowIn, Fine}
use Rattle.effect.specs.Phase.{Quarter, quarter}
use Rattle.packing_effect.specs.Values.{plain_length}
use Rattle.packing_effect.specs.Source.{plain_ref, source_row, packed_row}
use Rattle.packing_effect.specs.Signs.{even_mod4}

pub in_left : (r : PauliRef) (xs ys : List PauliRef) → In r xs → In r (xs ++ ys)
in_left r [] ys k = absurd k
in_left r (x ∷ xs) ys k = ⊎_elim (λ (e : x ≡ r). inl e) (λ (y : In r xs). inr (in_left r xs ys y)) k

in_right : (r : PauliRef) (xs ys : List PauliRef) → In r ys → In r (xs ++ ys)
in_right r [] ys k = k
in_right r (x ∷ xs) ys k = inr (in_right r xs ys k)

-- a root as packing leaves it
abbrev pub root_axis : Program → PauliRef → SignedAxis
root_axis p r = signed_axis (packed p).store.axes (values_of p) r

module _ (p : Program) (fine : Fine p) (kept : (packed p).refused ≡ false) where
  abbrev axes : List (List ℕ)
  axes = (packed p).store.axes

  abbrev l : ℕ
  l = width p.qubits

  module _ (r : PauliRef) (root : In r (roots p)) (inside : r.node < length p.nodes) where
    rooted : Rooted axes (value_at (values_of p) r.node) r
    rooted = packed_rooted p fine.ordered kept r root inside

    plain_is : plain_value l p.nodes r.node ≡ value_at (values_of p) r.node
    plain_is = plain_value_lem l p.nodes fine.ordered r.node inside

    pub root_word : word_of axes (root_axis p r).axis ≡ (plain_ref p r).word
    unfolding signed_axis scaled
    root_word = id_word axes (value_at (values_of p) r.node).word rooted.stored ∙ ap (λ (v : Value). v.word) (sym plain_is)

    pub root_sign : (root_axis p r).sign ≡ (plain_ref p r).turns
    unfolding signed_axis scaled
    root_sign = ap (λ (v : Value). (v.turns + r.phase) % 4) (sym plain_is)

    -- 0 or 2 quarter turns
    pub root_even : ((root_axis p r).sign < 4) × (is_odd (root_axis p r).sign ≡ false)
    unfolding signed_axis
    root_even = (omega arith, even_mod4 ((value_at (values_of p) r.node).turns + r.phase) rooted.even)

    -- an identity axis is the identity of the program's width
    pub root_identity : is_identity (word_of axes (root_axis p r).axis) ≡ true → word_of axes (root_axis p r).axis ≡ identity l
    unfolding is_identity scaled
    root_identity e =
        let w = word_of axes (root_axis p r).axis in
        let plain = plain_length l p.nodes fine.ordered p.qubits (width_holds p.qubits) fine.leaves r.node inside in
        let long : length w ≡ 2 * l = ap (λ (x : List ℕ). length x) root_word ∙ plain in
        same_true w (replicate (length w) 0) e ∙ ap (λ (n : ℕ). replicate n 0) long

  -- ---- frame rows: those that are roots have the source's words and phases

  module _ {W : Type 0} (word : List ℕ → W) where
    rows_are : (rs : List PauliRef) → Every (RowIn (length p.nodes)) rs → ((r : PauliRef) → In r rs → In r (roots p))
        → map (λ r. packed_row word axes (root_axis p r)) rs ≡ map (source_row word p) rs
    rows_are [] b root = refl
    rows_are (r ∷ rs) b root =
        ap₂ (λ (x : Quarter × W) (ys : List (Quarter × W)). x ∷ ys)
        (ap₂ (λ (s : ℕ) (w : List ℕ). (quarter s, word w)) (root_sign r (root r (inl refl)) b.0) (root_word r (root r (inl refl)) b.0))
        (rows_are rs b.1 (λ x k. root x (inr k)))

    pub root_rows_are : map (λ r. packed_row word axes (root_axis p r)) (root_rows p) ≡ map (source_row word p) (root_rows p)
    unfolding root_rows
    root_rows_are =
        rows_are (root_rows p) (every_keep (RowIn (length p.nodes)) (is_root p) p.rows fine.rows)
        (λ r k. unfold roots in (in_right r (map operation_root p.operations) (root_rows p) k))
