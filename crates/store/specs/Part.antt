-- A part of a store: `part s b n` is the n elements from b on; `put s b w` is s with w laid at b. Assumes nothing.
use Rattle.std.specs.Prelude.{◌≡◌, refl, ◌⊎◌, List, ◌++◌, set, take, replicate}
use Rattle.std.proofs.Common.{sym, ◌∙◌, subst, ⊎_elim, length-set, length-take, length-append, length-drop, ext_get_or, get_or-set_same, get_or-set_other, drop-drop}
use Rattle.std.proofs.Math.Path.{ap}
use Prim.Native.Nat.{ℕ, ◌+◌, ◌-◌, ◌≤◌, ◌<◌}
use native.Mathlib.Omega.{arith}
use Rattle.std.proofs.Math.Decide.{dec_lt, ℕ_discrete}
use borrow.Rule.Slice.PartMut.{put_mid}
use Rattle.std.proofs.Math.ListN.{length, get_or, drop, get_or-append}
use Rattle.std.proofs.lemmas.List.{length-replicate}
use Rattle.std.proofs.Math.Seq.{length-take-le, get_or-append-add, get_or-take, get_or-drop}

unfoldable pub part : List ℕ → ℕ → ℕ → List ℕ
part s b n = take n (drop b s)

unfoldable pub put : List ℕ → ℕ → List ℕ → List ℕ
put s b w = take b s ++ (w ++ drop (b + length w) s)

-- the n elements from b and the m from c do not meet
abbrev pub Apart : ℕ → ℕ → ℕ → ℕ → Type 0
Apart b n c m = (b + n ≤ c) ⊎ (c + m ≤ b)

-- ---- lengths and elements

pub part_length : (s : List ℕ) (b n : ℕ) → b + n ≤ length s → length (part s b n) ≡ n
unfolding part
part_length s b n h = simp (length-take, length-drop) (omega arith)

pub part_at : (s : List ℕ) (b n i : ℕ) → i < n → get_or (part s b n) i 0 ≡ get_or s (b + i) 0
unfolding part
part_at s b n i h = rw (get_or-take, get_or-drop)

pub put_length : (s : List ℕ) (b : ℕ) (w : List ℕ) → b + length w ≤ length s → length (put s b w) ≡ length s
unfolding put
put_length s b w h = simp (length-append, length-take, length-drop) (omega arith)

module _ (s : List ℕ) (b : ℕ) (w : List ℕ) (fits : b ≤ length s) where
  pub put_in : (i : ℕ) → i < length w → get_or (put s b w) (b + i) 0 ≡ get_or w i 0
  unfolding put
  put_in i l =
      ap (λ (k : ℕ). get_or (put s b w) (k + i) 0) (sym (length-take-le b s fits))
      ∙ get_or-append-add (take b s) (w ++ drop (b + length w) s) i 0
      ∙ get_or-append w (drop (b + length w) s) 0 i l

  pub put_below : (j : ℕ) → j < b → get_or (put s b w) j 0 ≡ get_or s j 0
  unfolding put
  put_below j l =
      get_or-append (take b s) (w ++ drop (b + length w) s) 0 j (omega (arith, length-take-le b s fits))
      ∙ get_or-take b s j 0 l

  pub put_above : (j : ℕ) → b + length w ≤ j → get_or (put s b w) j 0 ≡ get_or s j 0
  unfolding put
  put_above j l =
      let k : ℕ = j - (b + length w) in
      let e : j ≡ length (take b s) + (length w + k) = omega (arith, length-take-le b s fits) in
      let f : b + length w + k ≡ j = omega arith in
      ap (λ (m : ℕ). get_or (put s b w) m 0) e
      ∙ get_or-append-add (take b s) (w ++ drop (b + length w) s) (length w + k) 0
      ∙ get_or-append-add w (drop (b + length w) s) k 0
      ∙ get_or-drop (b + length w) s k 0
      ∙ ap (λ (m : ℕ). get_or s m 0) f

-- ---- where an index stands to a part

data Spot (b n : ℕ) : ℕ → Type 0 where
  below : {j : ℕ} → j < b → Spot b n j
  inside : (i : ℕ) → i < n → Spot b n (b + i)
  above : {j : ℕ} → b + n ≤ j → Spot b n j

spot : (b n j : ℕ) → Spot b n j
spot b n j = go (dec_lt j b) (dec_lt j (b + n))
  where
    go : Dec (j < b) → Dec (j < b + n) → Spot b n j
    go (yes l) d = below l
    go (no l) (yes m) = subst (λ (k : ℕ). Spot b n k) (let e : b + (j - b) ≡ j = omega arith in e) (inside (j - b) (omega arith))
    go (no l) (no m) = above {j = j} (omega arith)

-- ---- a list is the put, or the part, if its elements are

pub put_ext : (s : List ℕ) (b : ℕ) (w t : List ℕ) → b + length w ≤ length s → length t ≡ length s
    → ((j : ℕ) → j < b → get_or t j 0 ≡ get_or s j 0)
    → ((i : ℕ) → i < length w → get_or t (b + i) 0 ≡ get_or w i 0)
    → ((j : ℕ) → b + length w ≤ j → get_or t j 0 ≡ get_or s j 0)
    → t ≡ put s b w
put_ext s b w t h e lo mid hi = ext_get_or 0 t (put s b w) (e ∙ sym (put_length s b w h)) (λ j l. go (spot b (length w) j))
  where
    go : {j : ℕ} → Spot b (length w) j → get_or t j 0 ≡ get_or (put s b w) j 0
    go (below {j} l) = lo j l ∙ sym (put_below s b w (omega arith) j l)
    go (inside i l) = mid i l ∙ sym (put_in s b w (omega arith) i l)
    go (above {j} l) = hi j l ∙ sym (put_above s b w (omega arith) j l)

pub part_ext : (s : List ℕ) (b n : ℕ) (w : List ℕ) → b + n ≤ length s → length w ≡ n
    → ((i : ℕ) → i < n → get_or s (b + i) 0 ≡ get_or w i 0) → part s b n ≡ w
part_ext s b n w h e f =
    let k : length (part s b n) ≡ n = part_length s b n h in
    ext_get_or 0 (part s b n) w (k ∙ sym e) (λ i l. part_at s b n i (omega arith) ∙ f i (omega arith))

-- ---- a put, then a part

pub put_part : (s : List ℕ) (b n : ℕ) → b + n ≤ length s → put s b (part s b n) ≡ s
put_part s b n h =
    let e : length (part s b n) ≡ n = part_length s b n h in
    sym (put_ext s b (part s b n) s (omega arith) refl (λ j m. refl) (λ i m. sym (part_at s b n i (omega arith))) (λ j m. refl))

pub part_put_same : (s : List ℕ) (b n : ℕ) (w : List ℕ) → b + n ≤ length s → length w ≡ n → part (put s b w) b n ≡ w
part_put_same s b n w h e =
    part_ext (put s b w) b n w (omega (arith, put_length s b w (omega arith))) e (λ i l. put_in s b w (omega arith) i (omega arith))

-- an index in a part that stands apart is not written
pub put_apart : (s : List ℕ) (b : ℕ) (w : List ℕ) (c m i : ℕ) → b ≤ length s → Apart b (length w) c m → i < m
    → get_or (put s b w) (c + i) 0 ≡ get_or s (c + i) 0
put_apart s b w c m i h d l =
    ⊎_elim (λ lo. put_above s b w h (c + i) (omega arith)) (λ hi. put_below s b w h (c + i) (omega arith)) d

pub part_put_apart : (s : List ℕ) (b : ℕ) (w : List ℕ) (c m : ℕ) → b + length w ≤ length s → c + m ≤ length s
    → Apart b (length w) c m → part (put s b w) c m ≡ part s c m
part_put_apart s b w c m h k d =
    part_ext (put s b w) c m (part s c m) (omega (arith, put_length s b w h)) (part_length s c m k)
    (λ i l. put_apart s b w c m i (omega arith) d l ∙ sym (part_at s c m i l))

-- ---- a store of one element

-- inside a part it is a store in the part's own list
pub put_set : (s : List ℕ) (b : ℕ) (w : List ℕ) (i v : ℕ) → b + length w ≤ length s → i < length w
    → set (put s b w) (b + i) v ≡ put s b (set w i v)
put_set s b w i v h l =
    let n : length (set w i v) ≡ length w = length-set w i v in
    let long : length (put s b w) ≡ length s = put_length s b w h in
    put_ext s b (set w i v) (set (put s b w) (b + i) v) (omega arith) (length-set (put s b w) (b + i) v ∙ long)
    (λ j m. get_or-set_other (put s b w) (b + i) j v 0 (omega arith) ∙ put_below s b w (omega arith) j m)
    (λ k m. go k (omega arith) (ℕ_discrete k i))
    (λ j m. get_or-set_other (put s b w) (b + i) j v 0 (omega arith) ∙ put_above s b w (omega arith) j (omega arith))
  where
    go : (k : ℕ) → k < length w → Dec (k ≡ i) → get_or (set (put s b w) (b + i) v) (b + k) 0 ≡ get_or (set w i v) k 0
    go k m (yes e) =
        ap (λ (t : ℕ). get_or (set (put s b w) (b + i) v) (b + t) 0) e
        ∙ get_or-set_same (put s b w) (b + i) v 0 (omega (arith, put_length s b w h))
        ∙ sym (get_or-set_same w i v 0 l)
        ∙ ap (λ (t : ℕ). get_or (set w i v) t 0) (sym e)
    go k m (no ne) =
        get_or-set_other (put s b w) (b + i) (b + k) v 0 (λ e. ne (omega arith))
        ∙ put_in s b w (omega arith) k m
        ∙ sym (get_or-set_other w i k v 0 ne)

pub set_put : (s : List ℕ) (b n i v : ℕ) → b + n ≤ length s → i < n → set s (b + i) v ≡ put s b (set (part s b n) i v)
set_put s b n i v h l =
    let e : length (part s b n) ≡ n = part_length s b n h in
    ap (λ (t : List ℕ). set t (b + i) v) (sym (put_part s b n h)) ∙ put_set s b (part s b n) i v (omega arith) (omega arith)

pub part_set_in : (s : List ℕ) (b n i v : ℕ) → b + n ≤ length s → i < n → part (set s (b + i) v) b n ≡ set (part s b n) i v
part_set_in s b n i v h l =
    ap (λ (t : List ℕ). part t b n) (set_put s b n i v h l)
    ∙ part_put_same s b n (set (part s b n) i v) h (length-set (part s b n) i v ∙ part_length s b n h)

pub part_set_out : (s : List ℕ) (b n j v : ℕ) → b + n ≤ length s → (j < b) ⊎ (b + n ≤ j) → part (set s j v) b n ≡ part s b n
part_set_out s b n j v h d =
    part_ext (set s j v) b n (part s b n) (omega (arith, length-set s j v)) (part_length s b n h)
    (λ i l. get_or-set_other s j (b + i) v 0 (λ e. ⊎_elim (λ lo. omega arith) (λ hi. omega arith) d) ∙ sym (part_at s b n i l))

-- ---- what the borrow checker says of a part that is lent, `&s[b..b + n]` and `&mut s[b..b + n]`

pub part_cut : (s : List ℕ) (b n : ℕ) → take (b + n - b) (drop b s) ≡ part s b n
unfolding part
part_cut s b n = ap (λ (k : ℕ). take k (drop b s)) (let e : b + n - b ≡ n = omega arith in e)

-- the part came back as w, which is v by what the callee ensures
pub put_lent : (s : List ℕ) (b n : ℕ) (w v : List ℕ) → w ≡ v → length v ≡ n → put_mid b (b + n - b) s w ≡ put s b v
unfolding put
put_lent s b n w v p e =
    ap (λ (t : List ℕ). take b s ++ (t ++ drop (b + n - b) (drop b s))) p
    ∙ ap (λ (t : List ℕ). take b s ++ (v ++ t))
    (drop-drop (b + n - b) b s ∙ ap (λ (k : ℕ). drop k s) (let f : b + (b + n - b) ≡ b + length v = omega arith in f))

-- the part came back as zeros
pub zeros_lent : (s : List ℕ) (b n : ℕ) (w : List ℕ) → b + n ≤ length s → w ≡ replicate (length (take (b + n - b) (drop b s))) 0
    → put_mid b (b + n - b) s w ≡ put s b (replicate n 0)
zeros_lent s b n w h p =
    let e : length (take (b + n - b) (drop b s)) ≡ n = ap length (part_cut s b n) ∙ part_length s b n h in
    put_lent s b n w (replicate n 0) (p ∙ ap (λ (k : ℕ). replicate k 0) e) (length-replicate n 0)
