-- The word store: axes from the start, axis id at id * 2l; slots counted down from the limit; 16 * l words of scratch behind the limit.
-- Assumes nothing.
use Rattle.std.specs.Prelude.{◌≡◌, refl, List, ◌≢◌, ◌⊎◌, ℕ, ◌+◌, ◌-◌, ◌*◌, ◌≤◌, ◌<◌, length, get_or, set}
use Rattle.std.proofs.Common.{sym, ◌∙◌, length-set, get_or-set_other}
use Rattle.std.proofs.Math.Logic.{inl, inr}
use Rattle.std.proofs.Math.Decide.{dec_lt}
use native.Mathlib.Omega.{arith}
use Rattle.store.specs.Part.{Apart, part, put, part_length, part_at, part_ext, put_length, put_below, put_above}
use Rattle.store.specs.Chunk.{chunk_in}

-- where axis id has its word
abbrev pub axis_place : ℕ → ℕ → ℕ
axis_place l id = id * (2 * l)

-- where the scratch words begin
abbrev pub scratch_place : ℕ → ℕ
scratch_place limit = limit

-- 01: "words below limit + 16 × l" are too few
abbrev pub scratch_widths : ℕ
scratch_widths = 16

-- where slot s has its word
unfoldable pub slot_place : ℕ → ℕ → ℕ → ℕ
slot_place limit l s = limit - (s * (2 * l) + 2 * l)

-- a slot that fits the limit ends within it
pub slot_ends : (limit l s : ℕ) → s * (2 * l) + 2 * l ≤ limit → slot_place limit l s + 2 * l ≤ limit
unfolding slot_place
slot_ends limit l s h = omega arith

-- word s, a slot or an axis, is among n
pub slots_le : (l s n : ℕ) → s < n → s * (2 * l) + 2 * l ≤ n * (2 * l)
slots_le l s n h = chunk_in (2 * l) n s h

module _ (limit l n : ℕ) (h : n * (2 * l) ≤ limit) where
  -- a slot of n ends within the limit
  pub slot_in : (s : ℕ) → s < n → slot_place limit l s + 2 * l ≤ limit
  slot_in s k = slot_ends limit l s (omega (arith, slots_le l s n k))

  -- it is among the n * 2l words that end at the limit
  pub slot_counted : (s : ℕ) → s < n → limit ≤ slot_place limit l s + n * (2 * l)
  unfolding slot_place
  slot_counted s k = omega (arith, slots_le l s n k)

  -- two slots do not meet
  pub slots_apart : (s t : ℕ) → s < n → t < n → s ≢ t → Apart (slot_place limit l s) (2 * l) (slot_place limit l t) (2 * l)
  unfolding slot_place
  slots_apart s t a b e = go (dec_lt s t)
    where
      go : Dec (s < t) → Apart (limit - (s * (2 * l) + 2 * l)) (2 * l) (limit - (t * (2 * l) + 2 * l)) (2 * l)
      go (yes c) = inr (omega (arith, slots_le l s t c, slots_le l t n b))
      go (no c) = inl (omega (arith, slots_le l t s (let z : t < s = omega arith in z), slots_le l s n a))

  -- nothing that ends before the slots meets one
  pub slot_behind : (s b : ℕ) → s < n → b + n * (2 * l) ≤ limit → b ≤ slot_place limit l s
  unfolding slot_place
  slot_behind s b k m = omega (arith, slots_le l s n k)

-- ---- what lies behind a place is unchanged

pub record KeptFrom (b : ℕ) (s t : List ℕ) : Type 0 where
  pub long : length t ≡ length s
  pub kept : (i : ℕ) → b ≤ i → get_or t i 0 ≡ get_or s i 0

pub kept_none : (b : ℕ) (s : List ℕ) → KeptFrom b s s
kept_none b s = record { long = refl; kept = λ i h. refl }

pub kept_then : {b : ℕ} {s t v : List ℕ} → KeptFrom b s t → KeptFrom b t v → KeptFrom b s v
kept_then a c = record { long = c.long ∙ a.long; kept = λ i h. c.kept i h ∙ a.kept i h }

-- nor from a later place on
pub kept_later : {b c : ℕ} {s t : List ℕ} → b ≤ c → KeptFrom b s t → KeptFrom c s t
kept_later h k = record { long = k.long; kept = λ i m. k.kept i (omega arith) }

-- the parts behind it are as they were
pub kept_part : {b : ℕ} {s t : List ℕ} → KeptFrom b s t → (a m : ℕ) → b ≤ a → a + m ≤ length s → part t a m ≡ part s a m
kept_part {s = s} {t} k a m h l =
    part_ext t a m (part s a m) (omega (arith, k.long)) (part_length s a m l)
    (λ i c. k.kept (a + i) (omega arith) ∙ sym (part_at s a m i c))

-- a word laid before the place
pub kept_put : (b : ℕ) (s : List ℕ) (a : ℕ) (w : List ℕ) → a + length w ≤ b → b ≤ length s → KeptFrom b s (put s a w)
kept_put b s a w h k = record {
  long = put_length s a w (omega arith);
  kept = λ i m. put_above s a w (omega arith) i (omega arith);
}

-- ---- only what lies between two places is changed

-- t is s but for places from a to b
pub record OnlyWords (a b : ℕ) (s t : List ℕ) : Type 0 where
  pub long : length t ≡ length s
  pub below : (i : ℕ) → i < a → get_or t i 0 ≡ get_or s i 0
  pub above : (i : ℕ) → b ≤ i → get_or t i 0 ≡ get_or s i 0

pub words_none : (a b : ℕ) (s : List ℕ) → OnlyWords a b s s
words_none a b s = record { long = refl; below = λ i h. refl; above = λ i h. refl }

pub words_then : {a b : ℕ} {s t v : List ℕ} → OnlyWords a b s t → OnlyWords a b t v → OnlyWords a b s v
words_then x y = record {
  long = y.long ∙ x.long;
  below = λ i h. y.below i h ∙ x.below i h;
  above = λ i h. y.above i h ∙ x.above i h;
}

-- more may change
pub words_in : {a b : ℕ} (c d : ℕ) {s t : List ℕ} → c ≤ a → b ≤ d → OnlyWords a b s t → OnlyWords c d s t
words_in c d h k x = record { long = x.long; below = λ i m. x.below i (omega arith); above = λ i m. x.above i (omega arith) }

-- nothing from the second place on
pub words_kept : {a b : ℕ} {s t : List ℕ} → OnlyWords a b s t → KeptFrom b s t
words_kept x = record { long = x.long; kept = x.above }

pub words_put : (a b : ℕ) (s : List ℕ) (p : ℕ) (w : List ℕ) → a ≤ p → p + length w ≤ b → p + length w ≤ length s → OnlyWords a b s (put s p w)
words_put a b s p w h k m = record {
  long = put_length s p w m;
  below = λ i c. put_below s p w (omega arith) i (omega arith);
  above = λ i c. put_above s p w (omega arith) i (omega arith);
}

pub words_set : (a b : ℕ) (s : List ℕ) (p v : ℕ) → a ≤ p → p < b → OnlyWords a b s (set s p v)
words_set a b s p v h k = record {
  long = length-set s p v;
  below = λ i c. get_or-set_other s p i v 0 (omega arith);
  above = λ i c. get_or-set_other s p i v 0 (omega arith);
}

-- a part that ends before, or begins behind
pub words_part : {a b : ℕ} {s t : List ℕ} → OnlyWords a b s t → (c m : ℕ) → c + m ≤ length s → (c + m ≤ a) ⊎ (b ≤ c) → part t c m ≡ part s c m
words_part {a} {b} {s} {t} x c m h k = part_ext t c m (part s c m) (omega (arith, x.long)) (part_length s c m h) (λ i e. go k i e)
  where
    go : (c + m ≤ a) ⊎ (b ≤ c) → (i : ℕ) → i < m → get_or t (c + i) 0 ≡ get_or (part s c m) i 0
    go (inl d) i e = x.below (c + i) (omega arith) ∙ sym (part_at s c m i e)
    go (inr d) i e = x.above (c + i) (omega arith) ∙ sym (part_at s c m i e)
