-- What the stores hold is held in one way: two proofs of it are equal. Assumes nothing.
use Rattle.std.specs.Prelude.{◌≡◌, List, ℕ, ◌+◌, ◌/◌, ◌<◌, get_or}
use Rattle.std.specs.Coded.{le_prop}
use Rattle.std.proofs.Common.{subst, arith}
use Rattle.std.proofs.Props.{props}
use Rattle.axes.specs.declared.Sizes.{Sizes}
use Rattle.axes.specs.Chains.{next_place, Meets, here, on}
use Rattle.axes.specs.Held.{Stored}

module _ {u : ℕ} {xs : List ℕ} {a : ℕ} where
  -- a walk that goes on over an axis does so over no other
  on_same : {e h : ℕ} (b c : ℕ) → b ≡ c → (p : e ≡ b + 1) (lt : b < a) (m : Meets u xs a (get_or xs (next_place u b h) 0) (h / 2))
      → ((n : Meets u xs a (get_or xs (next_place u b h) 0) (h / 2)) → m ≡ n)
      → (q : e ≡ c + 1) (less : c < a) (n : Meets u xs a (get_or xs (next_place u c h) 0) (h / 2))
      → on {h = h} b p lt m ≡ on {h = h} c q less n
  on_same {e} {h} b c r p lt m same =
      let equal : IsProp (e ≡ b + 1) = hlevel props in
      subst (λ (k : ℕ). (q : e ≡ k + 1) (less : k < a) (n : Meets u xs a (get_or xs (next_place u k h) 0) (h / 2))
      → on {h = h} b p lt m ≡ on {h = h} k q less n) r
      (λ q less n i. on b (equal p q i) (le_prop lt less i) (same n i))

  pub meets_prop : {e h : ℕ} → IsProp (Meets u xs a e h)
  meets_prop {e} (here p) (here q) = let equal : IsProp (e ≡ a + 1) = hlevel props in λ i. here (equal p q i)
  meets_prop (here p) (on b q lt n) = absurd (omega arith)
  meets_prop (on b p lt m) (here q) = absurd (omega arith)
  meets_prop (on b p lt m) (on c q less n) = on_same b c (omega arith) p lt m (λ k. meets_prop m k) q less n

pub stored_prop : (z : Sizes) (ws xs : List ℕ) → IsProp (Stored z ws xs)
stored_prop z ws xs = hlevel (props, meets_prop)
