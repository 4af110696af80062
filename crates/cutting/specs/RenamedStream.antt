-- A plain stream of renamed items, behind a part that is done and whose barrier has cleared `last`, puts out behind it the renamed items that
-- the stream by itself puts out. Assumes nothing.
use Rattle.std.specs.Prelude.{◌≡◌, refl, Bool, true, false, not, ◌||◌, eqb, get_or, set}
use Rattle.std.proofs.Math.Path.{sym, ap, ap₂}
use Rattle.std.proofs.Common.{◌∙◌, length-append, get_or-append-add}
use Rattle.std.proofs.Math.Bool.{◌&&◌}
use mathlib.Core.List.{List, [], ◌∷◌, ◌++◌, map, map-append, append_assoc}
use Prim.Native.Nat.{ℕ, zero, suc, ◌+◌, ◌-◌, ◌%◌}
use native.Mathlib.Omega.{arith}
use Rattle.std.proofs.Math.Dec.{leb}
use Rattle.std.proofs.Math.ListN.{length, drop}
use Rattle.std.proofs.lemmas.List.{length-map}
use Rattle.std.proofs.Math.Seq.{drop-append-add}
use Rattle.model.specs.Lists.{when◌then◌else◌, all_of}
use Rattle.model.specs.Items.{rot, Item, rotation, barrier, angle_of}
use Rattle.model.specs.Stream.{Place, nowhere, at, set_last, lets_pass, can_reach, angle_at}
use Rattle.theory.specs.Cases.{of_if}
use Rattle.cutting.specs.Lists.{map_drop, map_set, map_all, set_behind}
use Rattle.cutting.specs.Renaming.{Renames, renamed}
use Rattle.cutting.specs.RenamedExchange.{anti_same}
use Rattle.cutting.specs.PlainStream.{Puts, put_rot, merge_rot, merge_or_put, put_item, put_items}

-- a place behind n items
abbrev pub behind : ℕ → Place → Place
behind n nowhere = nowhere
behind n (at j) = at (n + j)

-- two choices by one test
both_if : {A B : Type 0} (R : A → B → Type 0) (b : Bool) {x y : A} {u v : B} → R x u → R y v → R (when b then x else y) (when b then u else v)
unfolding when◌then◌else◌
both_if R true h k = h
both_if R false h k = k

module _ (l lookback : ℕ) (A C : List (List ℕ)) (ρ τ : ℕ → ℕ) (h : Renames A C ρ) (base : List Item) (m : ℕ) where
  abbrev rens : List Item → List Item
  rens = map (renamed ρ τ)

  -- y is x, renamed, behind what is done
  pub record Follows (x y : Puts) : Type 0 where
    pub out : y.out ≡ base ++ map (renamed ρ τ) x.out
    pub last : (a : ℕ) → y.last (ρ a) ≡ behind (length base) (x.last a)
    pub merges : y.merges ≡ m + x.merges

  out_length : (xs : List Item) → length (base ++ rens xs) ≡ length base + length xs
  out_length xs = length-append base (rens xs) ∙ ap (λ (n : ℕ). length base + n) (length-map xs (renamed ρ τ))

  out_one : (xs : List Item) (i : Item) → (base ++ rens xs) ++ (renamed ρ τ i ∷ []) ≡ base ++ rens (xs ++ (i ∷ []))
  out_one xs i =
      append_assoc base (rens xs) (renamed ρ τ i ∷ []) ∙ ap (λ (r : List Item). base ++ r) (sym (map-append (renamed ρ τ) xs (i ∷ [])))

  out_set : (xs : List Item) (j : ℕ) (i : Item) → set (base ++ rens xs) (length base + j) (renamed ρ τ i) ≡ base ++ rens (set xs j i)
  out_set xs j i =
      set_behind base (rens xs) j (renamed ρ τ i) ∙ ap (λ (r : List Item). base ++ r) (map_set (renamed ρ τ) xs j i)

  -- ---- `last`

  set_last_lem : (a : ℕ) (place : Place) (f g : ℕ → Place) → ((b : ℕ) → g (ρ b) ≡ behind (length base) (f b)) → (b : ℕ)
      → set_last (ρ a) (behind (length base) place) g (ρ b) ≡ behind (length base) (set_last a place f b)
  unfolding set_last
  set_last_lem a place f g k b =
      ap₂ (λ (t : Bool) (p : Place). when t then behind (length base) place else p) (h.same b a) (k b)
      ∙ sym (of_if (behind (length base)) (eqb b a) place (f b))

  -- ---- reach

  passes_same : (a : ℕ) (i : Item) → lets_pass l C (ρ a) (renamed ρ τ i) ≡ lets_pass l A a i
  passes_same a (rotation r) = ap (λ (b : Bool). eqb r.angle 0 || not b) (anti_same l A C ρ h r.axis a)
  passes_same a (barrier o b s) = refl

  reach_same : (xs : List Item) (j a : ℕ)
      → can_reach l lookback C (base ++ rens xs) (length base + j) (ρ a) ≡ can_reach l lookback A xs j a
  unfolding can_reach
  reach_same xs j a =
      ap₂ ◌&&◌
      (ap (λ (n : ℕ). leb n lookback)
      (let e : length (base ++ rens xs) - (length base + j) - 1 ≡ length xs - j - 1 = omega (arith, out_length xs) in e))
      (ap (all_of (lets_pass l C (ρ a)))
      (ap (λ (n : ℕ). drop n (base ++ rens xs)) (let e : suc (length base + j) ≡ length base + suc j = omega arith in e)
      ∙ drop-append-add base (rens xs) (suc j) ∙ map_drop (renamed ρ τ) (suc j) xs)
      ∙ map_all (renamed ρ τ) (lets_pass l C (ρ a)) (lets_pass l A a) (passes_same a) (drop (suc j) xs))

  angle_kept : (i : Item) → angle_of (renamed ρ τ i) ≡ angle_of i
  angle_kept (rotation r) = refl
  angle_kept (barrier o a s) = refl

  angle_mapped : (xs : List Item) (j : ℕ) (d : Item) → angle_of (get_or (rens xs) j d) ≡ angle_of (get_or xs j d)
  angle_mapped [] j d = refl
  angle_mapped (x ∷ xs) zero d = angle_kept x
  angle_mapped (x ∷ xs) (suc j) d = angle_mapped xs j d

  angle_same : (xs : List Item) (j : ℕ) → angle_at (base ++ rens xs) (length base + j) ≡ angle_at xs j
  unfolding angle_at
  angle_same xs j =
      ap angle_of (get_or-append-add base (rens xs) j (rotation (rot 0 0))) ∙ angle_mapped xs j (rotation (rot 0 0))

  -- ---- a step

  module _ {x y : Puts} (f : Follows x y) where
    put_follows : (a k : ℕ) → Follows (put_rot x a k) (put_rot y (ρ a) k)
    unfolding put_rot
    put_follows a k = record {
      out = ap (λ (o : List Item). o ++ (rotation (rot (ρ a) k) ∷ [])) f.out ∙ out_one x.out (rotation (rot a k));
      last = λ b. ap (λ (n : ℕ). set_last (ρ a) (at n) y.last (ρ b)) (ap length f.out ∙ out_length x.out)
          ∙ set_last_lem a (at (length x.out)) x.last y.last f.last b;
      merges = f.merges;
    }

    set_follows : (j a k : ℕ) → set y.out (length base + j) (rotation (rot (ρ a) k)) ≡ base ++ rens (set x.out j (rotation (rot a k)))
    set_follows j a k =
        ap (λ (o : List Item). set o (length base + j) (rotation (rot (ρ a) k))) f.out ∙ out_set x.out j (rotation (rot a k))

    merges_follow : suc y.merges ≡ m + suc x.merges
    merges_follow = omega (arith, f.merges)

    merge_follows : (j a k : ℕ) → Follows (merge_rot x j a k) (merge_rot y (length base + j) (ρ a) k)
    unfolding merge_rot
    merge_follows j a k =
        both_if Follows (eqb k 0)
        (record { out = set_follows j a 0; last = set_last_lem a nowhere x.last y.last f.last; merges = merges_follow })
        (record { out = set_follows j a k; last = f.last; merges = merges_follow })

    take_follows : (a k : ℕ) (place : Place)
        → Follows (merge_or_put l lookback A x a k place) (merge_or_put l lookback C y (ρ a) k (behind (length base) place))
    unfolding merge_or_put
    take_follows a k nowhere = put_follows a k
    take_follows a k (at j) =
        let reach = ap (λ (o : List Item). can_reach l lookback C o (length base + j) (ρ a)) f.out ∙ reach_same x.out j a in
        let angle = ap (λ (o : List Item). angle_at o (length base + j)) f.out ∙ angle_same x.out j in
        rw (reach, angle)
        (both_if Follows (can_reach l lookback A x.out j a) (merge_follows j a ((angle_at x.out j + k) % 8)) (put_follows a k))

    item_follows : (i : Item) → Follows (put_item l lookback A x i) (put_item l lookback C y (renamed ρ τ i))
    unfolding put_item
    item_follows (rotation r) = rw (f.last r.axis) (take_follows r.axis r.angle (x.last r.axis))
    item_follows (barrier o a s) = record {
      out = ap (λ (q : List Item). q ++ (barrier (τ o) (ρ a) (s % 4) ∷ [])) f.out ∙ out_one x.out (barrier o a (s % 4));
      last = λ b. refl;
      merges = f.merges;
    }

  -- all items
  pub items_follow : {x y : Puts} (is : List Item) → Follows x y
      → Follows (put_items l lookback A x is) (put_items l lookback C y (map (renamed ρ τ) is))
  unfolding put_items
  items_follow [] f = f
  items_follow {x = x} {y = y} (i ∷ is) f =
      items_follow {x = put_item l lookback A x i} {y = put_item l lookback C y (renamed ρ τ i)} is (item_follows f i)
