-- A store of words of k numbers each, one after the other: `chunks k n s` is the list of the first n. Assumes nothing.
use Rattle.std.specs.Prelude.{◌≡◌, refl, ℕ, zero, suc, ◌+◌, ◌*◌, ◌≤◌, ◌<◌, List, [], ◌∷◌, ◌++◌, length, get_or, take, drop}
use Rattle.std.proofs.Common.{sym, ap, ap₂, ◌∙◌, inr, suc-mul, zero-mul, le_of_suc-le-suc, not-suc-le-zero, mul-le-mul_right, add-one, arith, drop-drop, ext_get_or}
use Rattle.store.specs.Part.{part, put, part_put_apart, part_put_same}

unfoldable pub chunks : ℕ → ℕ → List ℕ → List (List ℕ)
chunks k zero s = []
chunks k (suc n) s = take k s ∷ chunks k n (drop k s)

pub chunks_length : (k n : ℕ) (s : List ℕ) → length (chunks k n s) ≡ n
unfolding chunks
chunks_length k zero s = refl
chunks_length k (suc n) s = ap suc (chunks_length k n (drop k s))

-- the place behind k and i words
next_place : (k i : ℕ) → k + i * k ≡ suc i * k
next_place k i = omega (arith, suc-mul i k)

-- word i stands at i * k
pub chunks_at : (k n : ℕ) (s : List ℕ) (i : ℕ) → i < n → get_or (chunks k n s) i [] ≡ part s (i * k) k
unfolding chunks part
chunks_at k zero s i l = absurd (not-suc-le-zero l)
chunks_at k (suc n) s zero l = ap (λ (t : ℕ). take k (drop t s)) (sym (zero-mul k))
chunks_at k (suc n) s (suc i) l =
    chunks_at k n (drop k s) i (le_of_suc-le-suc l)
    ∙ ap (take k) (drop-drop (i * k) k s ∙ ap (λ (t : ℕ). drop t s) (next_place k i))

-- a word below the n-th ends where the n-th begins
pub chunk_in : (k n i : ℕ) → i < n → i * k + k ≤ n * k
chunk_in k n i l = omega (arith, suc-mul i k, mul-le-mul_right k l)

pub chunks_ext : (k n : ℕ) (s t : List ℕ) → ((i : ℕ) → i < n → part s (i * k) k ≡ part t (i * k) k) → chunks k n s ≡ chunks k n t
chunks_ext k n s t f =
    let a : length (chunks k n s) ≡ n = chunks_length k n s in
    let b : length (chunks k n t) ≡ n = chunks_length k n t in
    ext_get_or [] (chunks k n s) (chunks k n t) (a ∙ sym b)
    (λ i l. let m : i < n = omega arith in chunks_at k n s i m ∙ f i m ∙ sym (chunks_at k n t i m))

-- ---- one word more

chunks_suc : (k n : ℕ) (s : List ℕ) → chunks k (suc n) s ≡ chunks k n s ++ (part s (n * k) k ∷ [])
unfolding chunks part
chunks_suc k zero s = ap (λ (t : ℕ). take k (drop t s) ∷ []) (sym (zero-mul k))
chunks_suc k (suc n) s =
    ap (λ (t : List (List ℕ)). take k s ∷ t) (chunks_suc k n (drop k s))
    ∙ ap (λ (t : List ℕ). take k s ∷ (chunks k n (drop k s) ++ (take k t ∷ [])))
    (drop-drop (n * k) k s ∙ ap (λ (t : ℕ). drop t s) (next_place k n))

pub chunks_snoc : (k n : ℕ) (s : List ℕ) → chunks k (n + 1) s ≡ chunks k n s ++ (part s (n * k) k ∷ [])
chunks_snoc k n s = rw add-one (chunks_suc k n s)

-- what is laid behind the words leaves them
pub chunks_apart : (k n : ℕ) (s : List ℕ) (b : ℕ) (w : List ℕ) → b + length w ≤ length s → n * k ≤ b → chunks k n (put s b w) ≡ chunks k n s
chunks_apart k n s b w h l =
    chunks_ext k n (put s b w) s
    (λ i m. part_put_apart s b w (i * k) k h (omega (arith, chunk_in k n i m)) (inr (omega (arith, chunk_in k n i m))))

-- a word laid behind the last
pub chunks_put : (k n : ℕ) (s w : List ℕ) → n * k + k ≤ length s → length w ≡ k
    → chunks k (n + 1) (put s (n * k) w) ≡ chunks k n s ++ (w ∷ [])
chunks_put k n s w h e =
    chunks_snoc k n (put s (n * k) w)
    ∙ ap₂ (λ (a : List (List ℕ)) (b : List ℕ). a ++ (b ∷ []))
    (chunks_apart k n s (n * k) w (omega arith) (omega arith)) (part_put_same s (n * k) k w h e)
