-- Zeros: from a place of a slice on, behind results, everywhere. Assumes nothing.
use Rattle.std.specs.Prelude.{◌≡◌, refl, List, ◌++◌, ℕ, ◌+◌, ◌-◌, ◌≤◌, length, take, drop, replicate}
use Rattle.std.proofs.Common.{ap, ◌∙◌, subst, append-nil, arith, length-append, drop_of_length-le, length-take-le, take_at}
use Rattle.std.proofs.lemmas.List.{length-replicate}
use borrow.Rule.Slice.PartMut.{put_mid}
use Rattle.store.specs.Part.{put, put_length, zeros_lent}
use Rattle.model.specs.Rewriting.{then_zeros, zeros}
use Rattle.results.specs.Put.{put_front}

-- s with zeros from place a on
unfoldable pub zeroed_from : List ℕ → ℕ → List ℕ
zeroed_from s a = take a s ++ replicate (length s - a) 0

pub zeroed_length : (s : List ℕ) (a : ℕ) → a ≤ length s → length (zeroed_from s a) ≡ length s
unfolding zeroed_from
zeroed_length s a h =
    let e : length {A = ℕ} (replicate (length s - a) 0) ≡ length s - a = length-replicate (length s - a) 0 in
    length-append (take a s) (replicate (length s - a) 0) ∙ omega (arith, length-take-le a s h)

zeroed_at : (s : List ℕ) (a m : ℕ) (w : List ℕ) → a + m ≡ length s → w ≡ replicate (length (take (a + m - a) (drop a s))) 0
    → put_mid a (a + m - a) s w ≡ zeroed_from s a
unfolding zeroed_from put
zeroed_at s a m w e p =
    let f : m ≡ length s - a = omega arith in
    let g : length s ≤ a + length {A = ℕ} (replicate m 0) = omega (arith, length-replicate {A = ℕ} m 0) in
    zeros_lent s a m w (omega arith) p
    ∙ ap (λ (x : List ℕ). take a s ++ (replicate m 0 ++ x)) (drop_of_length-le s g)
    ∙ ap (λ (x : List ℕ). take a s ++ x) (append-nil (replicate m 0))
    ∙ ap (λ (k : ℕ). take a s ++ replicate k 0) f

-- what the borrow checker says of a part that is lent and comes back as zeros
pub zeroed_lent : (s : List ℕ) (a n : ℕ) (w : List ℕ) → n ≡ length s → a ≤ n → w ≡ replicate (length (take (n - a) (drop a s))) 0
    → put_mid a (n - a) s w ≡ zeroed_from s a
zeroed_lent s a n w e h p =
    let f : a + (n - a) ≡ n = omega arith in
    subst (λ (k : ℕ). w ≡ replicate (length (take (k - a) (drop a s))) 0 → put_mid a (k - a) s w ≡ zeroed_from s a) f
    (λ q. zeroed_at s a (n - a) w (omega arith) q) p

-- behind what is laid at the front: 01's "results, then zeros"
pub laid_zeroed : (s w : List ℕ) (a : ℕ) → length w ≤ length s → a ≡ length w → zeroed_from (put s 0 w) a ≡ then_zeros s w
unfolding zeroed_from then_zeros
laid_zeroed s w a h e =
    let k : length (put s 0 w) ≡ length s = put_length s 0 w (omega arith) in
    rw (e, k) (ap (λ (x : List ℕ). x ++ replicate (length s - length w) 0)
    (ap (take (length w)) (put_front s w) ∙ take_at w (drop (length w) s) (length w) refl))

-- from the start: a refusal's words
pub zeroed_whole : (s : List ℕ) → zeroed_from s 0 ≡ zeros s
unfolding zeroed_from zeros
zeroed_whole s = ap (λ (n : ℕ). replicate n 0) (let e : length s - 0 ≡ length s = omega arith in e)

-- what a slice is filled with depends on its length alone
pub then_same : (s t xs : List ℕ) → length t ≡ length s → then_zeros t xs ≡ then_zeros s xs
unfolding then_zeros
then_same s t xs e = rw e refl

pub zeros_same : (s t : List ℕ) → length t ≡ length s → zeros t ≡ zeros s
unfolding zeros
zeros_same s t e = rw e refl
