-- A loop that writes a slice from the end, one element a turn: at place i, the first i elements are still those of d, the others
-- those of the target t: `mix d t i` is that list. Assumes nothing.
use Rattle.std.specs.Prelude.{◌≡◌, refl, ℕ, zero, suc, ◌+◌, ◌-◌, ◌≤◌, ◌<◌, List, [], ◌∷◌, ◌++◌, length, get_or, set, take, drop, replicate}
use Rattle.std.proofs.Common.{sym, ap, ◌∙◌, arith, le_of_suc-le-suc, not-suc-le-zero, add-one, append-nil, drop_of_length-le, take_all}
use Rattle.std.proofs.lemmas.List.{length-replicate, get_or-replicate}

unfoldable pub mix : List ℕ → List ℕ → ℕ → List ℕ
mix t d i = take i t ++ drop i d

pub mix_none : (t d : List ℕ) → mix t d 0 ≡ d
unfolding mix
mix_none t d = refl

pub mix_all : (t d : List ℕ) (i : ℕ) → length t ≤ i → length d ≤ i → mix t d i ≡ t
unfolding mix
mix_all t d i h k = rw (take_all i t h, drop_of_length-le d k) (append-nil t)

-- ---- a turn

one_less : (d t : List ℕ) (i : ℕ) → length d ≡ length t → i < length d → set (mix d t (suc i)) i (get_or t i 0) ≡ mix d t i
unfolding mix
one_less [] [] i e l = absurd (not-suc-le-zero l)
one_less [] (y ∷ t) i e l = absurd (not-suc-le-zero l)
one_less (x ∷ d) [] i e l = absurd (let z : ⊥ = omega arith in z)
one_less (x ∷ d) (y ∷ t) zero e l = refl
one_less (x ∷ d) (y ∷ t) (suc i) e l = ap (λ (r : List ℕ). x ∷ r) (one_less d t i (omega arith) (le_of_suc-le-suc l))

pub mix_down : (d t : List ℕ) (i v : ℕ) → length d ≡ length t → i < length d → v ≡ get_or t i 0 → set (mix d t (i + 1)) i v ≡ mix d t i
mix_down d t i v e l p = rw (p, add-one) (one_less d t i e l)

-- ---- the same, as a loop's invariant hands it over: the list x is known by an equation

pub down : (x d t : List ℕ) (i v : ℕ) → x ≡ mix d t (i + 1) → length d ≡ length t → i < length d → v ≡ get_or t i 0 → set x i v ≡ mix d t i
down x d t i v p e l q = ap (λ (y : List ℕ). set y i v) p ∙ mix_down d t i v e l q

-- ---- a fill with one value, from the end down to i; shut, so that a use determines what it stands over

unfoldable pub filled_from : List ℕ → ℕ → ℕ → List ℕ
filled_from d v i = mix d (replicate (length d) v) i

pub fill_none : (d : List ℕ) (v : ℕ) → d ≡ filled_from d v (length d)
unfolding filled_from
fill_none d v =
    let n : length (replicate (length d) v) ≡ length d = length-replicate (length d) v in
    sym (mix_all d (replicate (length d) v) (length d) (omega arith) (omega arith))

pub fill_more : (x d : List ℕ) (i v : ℕ) → x ≡ filled_from d v i → 0 < i → i ≤ length d → set x (i - 1) v ≡ filled_from d v (i - 1)
unfolding filled_from
fill_more x d i v p h l =
    let e : i - 1 + 1 ≡ i = omega arith in
    down x d (replicate (length d) v) (i - 1) v (rw e p) (sym (length-replicate (length d) v)) (omega arith)
    (sym (get_or-replicate (length d) (i - 1) v 0 (omega arith)))

pub fill_all : (x d : List ℕ) (i v : ℕ) → x ≡ filled_from d v i → i ≡ 0 → x ≡ replicate (length d) v
unfolding filled_from
fill_all x d i v p e = p ∙ ap (mix d (replicate (length d) v)) e ∙ mix_none d (replicate (length d) v)
