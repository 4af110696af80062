-- The items of a program's start: renamed into a larger store, and cut behind a measurement. Assumes nothing.
use Rattle.std.specs.Prelude.{◌≡◌, Bool, ◌||◌}
use Rattle.std.proofs.Math.Path.{refl, sym, ap, ap₂}
use Rattle.std.proofs.Common.{◌∙◌}
use mathlib.Core.List.{List, [], ◌∷◌, ◌++◌, map, map-append, append_assoc}
use Prim.Native.Nat.{ℕ, suc, ◌+◌, ◌<◌}
use native.Mathlib.Omega.{arith}
use Rattle.std.proofs.Math.Dec.{eqb}
use Rattle.std.proofs.Math.ListN.{length}
use Rattle.pauli.specs.Word.{is_identity}
use Rattle.model.specs.Lists.{when◌then◌else◌}
use Rattle.model.specs.Program.{Kind, rotate, measure, conditional, Operation}
use Rattle.model.specs.Words.{Value, id_of, word_of}
use Rattle.model.specs.Value.{value_at}
use Rattle.model.specs.Roots.{operation_root}
use Rattle.model.specs.Packing.{signed_axis}
use Rattle.model.specs.Items.{Item, rot, rotation, barrier, with_sign}
use Rattle.model.specs.Run.{item_of, items_from}
use Rattle.theory.specs.Cases.{of_if}
use Rattle.theory.specs.Every.{Every}
use Rattle.theory.specs.Ids.{Stored, id_word}
use Rattle.cutting.specs.Renaming.{renamed, Within, into, into_id}

-- an operation's axis is stored
abbrev pub OperationStored : List (List ℕ) → List Value → Operation → Type 0
OperationStored axes vs op = Stored axes (value_at vs op.node).word

-- ---- renamed

module _ (A C : List (List ℕ)) (within : Within A C) (vs : List Value) (τ : ℕ → ℕ) where
  abbrev ren : Item → Item
  ren = renamed (into A C) τ

  module _ (op : Operation) (h : OperationStored A vs op) where
    abbrev word : List ℕ
    word = (value_at vs op.node).word

    there : Stored C word
    there = rw (id_word A word h) at (within (id_of A word) h)

    identity_same : is_identity (word_of A (id_of A word)) ≡ is_identity (word_of C (id_of C word))
    identity_same = ap is_identity (id_word A word h ∙ sym (id_word C word there))

    item_renamed : (o o' : ℕ) (kind : Kind) (k : ℕ) → τ o ≡ o'
        → map ren (item_of A o kind (signed_axis A vs (operation_root op)) k) ≡ item_of C o' kind (signed_axis C vs (operation_root op)) k
    unfolding item_of signed_axis operation_root
    item_renamed o o' rotate k e =
        let angle = with_sign (signed_axis A vs (operation_root op)).sign k in
        of_if (map ren) (eqb angle 0 || is_identity (word_of A (id_of A word))) [] (rotation (rot (id_of A word) angle) ∷ [])
        ∙ ap₂ (λ (b : Bool) (n : ℕ). when b then [] else rotation (rot n angle) ∷ []) (ap (λ (b : Bool). eqb angle 0 || b) identity_same)
        (into_id A C word h)
    item_renamed o o' measure k e =
        ap₂ (λ (x n : ℕ). barrier x n (signed_axis A vs (operation_root op)).sign ∷ []) e (into_id A C word h)
    item_renamed o o' conditional k e =
        ap₂ (λ (x n : ℕ). barrier x n (signed_axis A vs (operation_root op)).sign ∷ []) e (into_id A C word h)

  -- the items of operations o, o + 1, .., whose indices become o', o' + 1, ..
  pub items_renamed : (o o' : ℕ) (ops : List Operation) → Every (OperationStored A vs) ops
      → ((i : ℕ) → i < length ops → τ (o + i) ≡ o' + i)
      → map (renamed (into A C) τ) (items_from A vs o ops) ≡ items_from C vs o' ops
  unfolding items_from
  items_renamed o o' [] h f = refl
  items_renamed o o' (op ∷ ops) h f =
      map-append ren (item_of A o op.kind (signed_axis A vs (operation_root op)) op.angle) (items_from A vs (suc o) ops)
      ∙ ap₂ (λ (x y : List Item). x ++ y) (item_renamed op h.0 o o' op.kind op.angle (at_first (f 0 (omega arith))))
      (items_renamed (suc o) (suc o') ops h.1 (λ i b. next i (f (suc i) (omega arith))))
    where
      at_first : τ (o + 0) ≡ o' + 0 → τ o ≡ o'
      at_first e = ap τ (let d : o ≡ o + 0 = omega arith in d) ∙ e ∙ omega arith

      next : (i : ℕ) → τ (o + suc i) ≡ o' + suc i → τ (suc o + i) ≡ suc o' + i
      next i e = ap τ (let d : suc o + i ≡ o + suc i = omega arith in d) ∙ e ∙ omega arith

-- ---- cut

module _ (axes : List (List ℕ)) (vs : List Value) where
  -- two lists of operations, one behind the other
  pub items_append : (o : ℕ) (xs ys : List Operation)
      → items_from axes vs o (xs ++ ys) ≡ items_from axes vs o xs ++ items_from axes vs (o + length xs) ys
  unfolding items_from
  items_append o [] ys = ap (λ (n : ℕ). items_from axes vs n ys) (let d : o ≡ o + 0 = omega arith in d)
  items_append o (x ∷ xs) ys =
      let one = item_of axes o x.kind (signed_axis axes vs (operation_root x)) x.angle in
      ap (λ (is : List Item). one ++ is)
      (items_append (suc o) xs ys
      ∙ ap (λ (n : ℕ). items_from axes vs (suc o) xs ++ items_from axes vs n ys)
      (let d : suc o + length xs ≡ o + suc (length xs) = omega arith in d))
      ∙ sym (append_assoc one (items_from axes vs (suc o) xs) (items_from axes vs (o + suc (length xs)) ys))

  -- a measurement at the end is a barrier at the end
  pub items_measured : (o : ℕ) (xs : List Operation) (m : Operation) → m.kind ≡ measure
      → items_from axes vs o (xs ++ (m ∷ []))
      ≡ items_from axes vs o xs
      ++ (barrier (o + length xs) (signed_axis axes vs (operation_root m)).axis (signed_axis axes vs (operation_root m)).sign ∷ [])
  unfolding items_from item_of
  items_measured o xs m e =
      items_append o xs (m ∷ [])
      ∙ ap (λ (kind : Kind). items_from axes vs o xs ++ (item_of axes (o + length xs) kind (signed_axis axes vs (operation_root m)) m.angle ++ [])) e
