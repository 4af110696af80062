-- A part of a store copied to another place of it, which it does not meet. Assumes nothing.
use Rattle.std.specs.Prelude.{◌≡◌, List, ℕ, ◌+◌, ◌-◌, ◌≤◌, ◌++◌, length, take, drop}
use Rattle.std.specs.List.{copy_within}
use Rattle.std.proofs.Common.{sym, ap, ◌∙◌, arith, append_assoc}
use Rattle.store.specs.Part.{part, put, Apart, part_length}

-- what copying demands
pub record CopyPre (s : List ℕ) (from to n : ℕ) : Type 0 where
  pub source : from + n ≤ length s
  pub target : to + n ≤ length s
  pub apart : Apart from n to n

-- the library's copy lays the part at its new place
pub copied : (s : List ℕ) (from to n : ℕ) → from + n ≤ length s → copy_within s from (from + n) to ≡ put s to (part s from n)
unfolding part put
copied s from to n h =
    let e : from + n - from ≡ n = omega arith in
    append_assoc (take to s) _ _
    ∙ ap (λ (k : ℕ). take to s ++ (take k (drop from s) ++ drop (to + k) s)) e
    ∙ ap (λ (k : ℕ). take to s ++ (take n (drop from s) ++ drop (to + k) s)) (sym (part_length s from n h))
