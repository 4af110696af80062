-- Two products, number by number. Assumes nothing.
use mathlib.Core.Path.{◌≡◌, sym, ap, ◌∙◌}
use mathlib.Core.List.{List}
use mathlib.Core.Bool.{Bool, true, false}
use Rattle.std.specs.Bool.{MatchBool}
use Rattle.std.specs.List.{AllWithin, HoldsAt, range_with_len}
use Rattle.std.proofs.lemmas.List.FromFn.{length-range_with_len, get_or-range_with_len}
use Rattle.std.proofs.Common.{subst, zero-add}
use Prim.Native.Nat.{ℕ, ◌<◌}
use native.Mathlib.Omega.{arith}
use lib.Bits.{bit_xor}
use lib.ListN.{length, get_or}
use lib.Seq.{ext_get_or}
use Rattle.store.specs.Equal.{same_list, same_refl, same_false}
use Rattle.pauli.specs.Word.{xor_words}
use Rattle.pauli.specs.ProductLaws.{xor_words_at, xor_words_length}
use Rattle.product.specs.Product.{FourPre}

module _ (p q r s : List ℕ) where
  -- the numbers at j differ
  pub products_differ : (j : ℕ) → (bit_xor (get_or p j 0) (get_or q j 0) ≡ bit_xor (get_or r j 0) (get_or s j 0) → ⊥)
      → false ≡ same_list (xor_words p q) (xor_words r s)
  products_differ j n =
      sym (same_false _ _ (λ e. n (sym (xor_words_at p q j) ∙ ap (λ (t : List ℕ). get_or t j 0) e ∙ xor_words_at r s j)))

  -- none differ
  pub products_same : FourPre p q r s
      → ((j : ℕ) → j < length p → bit_xor (get_or p j 0) (get_or q j 0) ≡ bit_xor (get_or r j 0) (get_or s j 0))
      → true ≡ same_list (xor_words p q) (xor_words r s)
  products_same h f =
      let n = xor_words_length p q (sym h.q_long) in
      let m = xor_words_length r s (h.r_long ∙ sym h.s_long) ∙ h.r_long in
      let e = ext_get_or 0 (xor_words p q) (xor_words r s) (n ∙ sym m)
      (λ j b. xor_words_at p q j ∙ f j (omega (arith, n)) ∙ sym (xor_words_at r s j)) in
      sym (ap (same_list _) (sym e) ∙ same_refl _)

  -- the two products' numbers at j
  abbrev pub Agree : ℕ → Type 0
  Agree j = bit_xor (get_or p j 0) (get_or q j 0) ≡ bit_xor (get_or r j 0) (get_or s j 0)

  -- what is answered after a look at each of p's places, or at all up to one that differs
  pub answered : FourPre p q r s → (b : Bool)
      → MatchBool b (AllWithin Agree (range_with_len 0 (length p)) 0 (length (range_with_len 0 (length p))))
      ((k : ℕ) × (k < length (range_with_len 0 (length p))) × HoldsAt (λ j. Agree j → ⊥) (range_with_len 0 (length p)) k)
      → b ≡ same_list (xor_words p q) (xor_words r s)
  answered h true all =
      let n = length-range_with_len 0 (length p) in
      products_same h (λ j b. subst Agree (get_or-range_with_len 0 (length p) j 0 b ∙ zero-add j) (all j 0 (omega arith) (omega arith)))
  answered h false some = products_differ _ (some.2 0)
