-- Marks: entries that are not 0; some number below n passes a test. Assumes nothing.
use Rattle.std.specs.Prelude.{◌≡◌, refl, Bool, true, false, ◌&&◌, ◌||◌, List, [], ◌∷◌, ℕ, zero, suc, ◌<◌, eqb, length, get_or, set}
use Rattle.std.proofs.Math.Path.{sym}
use Rattle.std.proofs.Common.{ap, ap₂, ◌∙◌, arith, get_or-set_same, get_or-set_other, eq-eqb, ne_eqb}
use Rattle.std.proofs.Math.Bool.{not, or-false, or_assoc, or_comm, and-or_distrib_right}
use Rattle.std.proofs.Math.Decide.{ℕ_discrete}
use Rattle.model.specs.Lists.{any_of}

-- ---- marks

-- entry i is not 0
unfoldable pub is_set : List ℕ → ℕ → Bool
is_set xs i = not (eqb (get_or xs i 0) 0)

pub set_zero : (xs : List ℕ) (i : ℕ) → get_or xs i 0 ≡ 0 → is_set xs i ≡ false
unfolding is_set
set_zero xs i e = ap not (eq-eqb (get_or xs i 0) 0 e)

pub set_nonzero : (xs : List ℕ) (i : ℕ) → (get_or xs i 0 ≡ 0 → ⊥) → is_set xs i ≡ true
unfolding is_set
set_nonzero xs i n = ap not (ne_eqb (get_or xs i 0) 0 n)

-- entry i is marked
pub marked_at : (xs : List ℕ) (i j : ℕ) → i < length xs → is_set (set xs i 1) j ≡ eqb j i || is_set xs j
marked_at xs i j h = go (ℕ_discrete j i)
  where
    go : Dec (j ≡ i) → is_set (set xs i 1) j ≡ eqb j i || is_set xs j
    go (yes e) =
        rw e (set_nonzero (set xs i 1) i (λ z. let o = get_or-set_same xs i 1 0 h in omega arith)
        ∙ sym (ap (λ (b : Bool). b || is_set xs i) (eq-eqb i i refl)))
    go (no n) = unfold is_set in
        (ap (λ (v : ℕ). not (eqb v 0)) (get_or-set_other xs i j 1 0 n)
        ∙ sym (ap (λ (b : Bool). b || not (eqb (get_or xs j 0) 0)) (ne_eqb j i n)))

-- ---- some number below n

unfoldable pub some_below : ℕ → (ℕ → Bool) → Bool
some_below zero f = false
some_below (suc n) f = some_below n f || f n

-- tests that agree below n
pub some_same : (n : ℕ) (f g : ℕ → Bool) → ((m : ℕ) → m < n → f m ≡ g m) → some_below n f ≡ some_below n g
unfolding some_below
some_same zero f g h = refl
some_same (suc n) f g h = ap₂ ◌||◌ (some_same n f g (λ m b. h m (omega arith))) (h n (omega arith))

pub some_none : (n : ℕ) (f : ℕ → Bool) → ((m : ℕ) → m < n → f m ≡ false) → some_below n f ≡ false
unfolding some_below
some_none zero f h = refl
some_none (suc n) f h = ap₂ ◌||◌ (some_none n f (λ m b. h m (omega arith))) (h n (omega arith))

-- number 0 first, then the others
some_front : (n : ℕ) (f : ℕ → Bool) → some_below (suc n) f ≡ f 0 || some_below n (λ m. f (suc m))
unfolding some_below
some_front zero f = sym (or-false (f 0))
some_front (suc n) f = ap (λ (b : Bool). b || f (suc n)) (some_front n f) ∙ or_assoc (f 0) (some_below n (λ m. f (suc m))) (f (suc n))

-- some entry of a list passes
pub some_any : {A : Type 0} (g : A → Bool) (xs : List A) (d : A) → any_of g xs ≡ some_below (length xs) (λ j. g (get_or xs j d))
unfolding any_of some_below
some_any g [] d = refl
some_any g (x ∷ xs) d = ap (λ (b : Bool). g x || b) (some_any g xs d) ∙ sym (some_front (length xs) (λ j. g (get_or (x ∷ xs) j d)))

-- ---- a mark more

-- some marked number below n passes f
unfoldable pub some_marked : ℕ → List ℕ → (ℕ → Bool) → Bool
some_marked n xs f = some_below n (λ m. is_set xs m && f m)

both_split : (a b c d : Bool) → a || b || (c || d) ≡ a || c || (b || d)
both_split true b c d = refl
both_split false true true d = refl
both_split false true false d = refl
both_split false false c d = refl

-- one of two tests passes
some_or : (n : ℕ) (f g : ℕ → Bool) → some_below n (λ m. f m || g m) ≡ some_below n f || some_below n g
unfolding some_below
some_or zero f g = refl
some_or (suc n) f g = ap (λ (b : Bool). b || (f n || g n)) (some_or n f g) ∙ both_split (some_below n f) (some_below n g) (f n) (g n)

-- a test of a only
some_one : (n a : ℕ) (f : ℕ → Bool) → a < n → some_below n (λ m. eqb m a && f m) ≡ f a
unfolding some_below
some_one zero a f h = absurd (omega arith)
some_one (suc n) a f h = go (ℕ_discrete n a) (some_one n a f)
  where
    go : Dec (n ≡ a) → (a < n → some_below n (λ m. eqb m a && f m) ≡ f a) → some_below n (λ m. eqb m a && f m) || eqb n a && f n ≡ f a
    go (yes e) ih =
        ap₂ ◌||◌ (some_none n (λ m. eqb m a && f m) (λ m b. ap (λ (t : Bool). t && f m) (ne_eqb m a (λ k. omega arith))))
        (ap (λ (t : Bool). t && f n) (eq-eqb n a e))
        ∙ ap f e
    go (no k) ih = ap₂ ◌||◌ (ih (omega arith)) (ap (λ (t : Bool). t && f n) (ne_eqb n a k)) ∙ or-false (f a)

-- marking a below n adds what f says of a
pub marked_more : (n a : ℕ) (xs : List ℕ) (f : ℕ → Bool) → a < n → a < length xs → some_marked n (set xs a 1) f ≡ some_marked n xs f || f a
unfolding some_marked
marked_more n a xs f h l =
    some_same n _ (λ m. eqb m a && f m || is_set xs m && f m)
    (λ m b. ap (λ (t : Bool). t && f m) (marked_at xs a m l) ∙ and-or_distrib_right (eqb m a) (is_set xs m) (f m))
    ∙ some_or n (λ m. eqb m a && f m) (λ m. is_set xs m && f m)
    ∙ ap (λ (b : Bool). b || some_below n (λ m. is_set xs m && f m)) (some_one n a f h)
    ∙ or_comm (f a) (some_below n (λ m. is_set xs m && f m))
