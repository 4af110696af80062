-- A place comes into the list where it belongs, and not twice. Assumes nothing.
use Rattle.std.specs.Prelude.{◌≡◌, refl, List, [], ◌∷◌, ℕ, ◌+◌, ◌-◌, ◌*◌, ◌^◌, ◌≤◌, ◌<◌, eqb, length, get_or, ◌||◌}
use Rattle.std.proofs.Common.{sym, ap, ◌∙◌, arith, eq-eqb, ne_eqb, eqb-true, true≢false}
use mathlib.Core.Bool.{Bool, true, false}
use Rattle.std.proofs.Math.Decide.{ℕ_discrete, dec_lt}
use Rattle.std.proofs.lemmas.Bool.{eqb-false}
use Rattle.std.specs.List.{CopiedTo, SameBelow, SameFrom}
use Rattle.store.specs.Part.{part_ext}
use Rattle.store.specs.Row.{row, Written, row_in, row_length, row_at}
use Rattle.model.specs.Lists.{when◌then◌else◌, member, any_of}
use Rattle.theory.specs.Cases.{if_true, if_false}
use Rattle.layout.specs.Rows.{row_count, waiting_row}
use Rattle.layout.specs.Only.{Only, only_none, only_then, only_written}
use Rattle.waiting.specs.Places.{place_in, Named, Rising, place_own, place_other}

-- ---- where it belongs

-- the last of the first r places is not above j, places r to n are
pub record UpTo (u n j : ℕ) (xs : List ℕ) (r : ℕ) : Type 0 where
  pub few : r ≤ n
  pub last : 0 < r → place_in u xs (r - 1) ≤ j
  pub above : (i : ℕ) → r ≤ i → i < n → j < place_in u xs i

-- the last of the first n places is j
unfoldable pub is_last : ℕ → ℕ → ℕ → List ℕ → Bool
is_last u n j xs = when eqb n 0 then false else eqb (place_in u xs (n - 1)) j

pub last_none : (u n j : ℕ) (xs : List ℕ) → n ≡ 0 → false ≡ is_last u n j xs
unfolding is_last
last_none u n j xs e = sym (if_true _ _ (eq-eqb n 0 e))

pub last_some : (u n j : ℕ) (xs : List ℕ) {v : ℕ} → (n ≡ 0 → ⊥) → v ≡ place_in u xs (n - 1) → eqb v j ≡ is_last u n j xs
unfolding is_last
last_some u n j xs e f = ap (λ (x : ℕ). eqb x j) f ∙ sym (if_false _ _ (ne_eqb n 0 e))

last_is : (u n j : ℕ) (xs : List ℕ) → is_last u n j xs ≡ true → (0 < n) × (place_in u xs (n - 1) ≡ j)
last_is u n j xs e = go (ℕ_discrete n 0)
  where
    go : Dec (n ≡ 0) → (0 < n) × (place_in u xs (n - 1) ≡ j)
    go (yes f) = absurd (mathlib.Core.Bool.false≢true (last_none u n j xs f ∙ e))
    go (no f) = (omega arith, eqb-true (place_in u xs (n - 1)) j (last_some u n j xs f refl ∙ e))

last_not : (u n j : ℕ) (xs : List ℕ) → is_last u n j xs ≡ false → 0 < n → (place_in u xs (n - 1) ≡ j → ⊥)
last_not u n j xs e h = eqb-false (place_in u xs (n - 1)) j (last_some u n j xs (omega arith) refl ∙ e)

-- while they are looked at from the end: those from i on are above j
pub record Above (u n j : ℕ) (xs : List ℕ) (i : ℕ) : Type 0 where
  pub few : i ≤ n
  pub above : (k : ℕ) → i ≤ k → k < n → j < place_in u xs k

pub above_first : (u n j : ℕ) (xs : List ℕ) → Above u n j xs n
above_first u n j xs = record { few = omega arith; above = λ k b c. absurd (omega arith) }

module _ {u n j : ℕ} {xs : List ℕ} {i v : ℕ} (a : Above u n j xs i) (read : v ≡ place_in u xs (i - 1)) where
  pub above_ends : v ≤ j → 0 < i → UpTo u n j xs (i - 1 + 1)
  above_ends h some =
      let e : i - 1 + 1 ≡ i = omega arith in
      rw e (record { few = a.few; last = λ b. omega arith; above = a.above })

  pub above_next : j < v → 0 < i → Above u n j xs (i - 1)
  above_next h b = record { few = omega (arith, a.few); above = λ k c d. go k c d (ℕ_discrete k (i - 1)) }
    where
      go : (k : ℕ) → i - 1 ≤ k → k < n → Dec (k ≡ i - 1) → j < place_in u xs k
      go k c d (yes e) = rw e (omega arith)
      go k c d (no e) = a.above k (omega arith) d

pub above_all : {u n j : ℕ} {xs : List ℕ} {i : ℕ} → Above u n j xs i → i ≤ 0 → UpTo u n j xs 0
above_all a e = record { few = omega arith; last = λ b. absurd (omega arith); above = λ k b c. a.above k (omega arith) c }

-- ---- room for it

-- places a to n have moved up by one
pub record MovedUp (u a n : ℕ) (xs xs' : List ℕ) : Type 0 where
  pub only : Only (waiting_row ∷ []) u xs xs'
  pub kept : (k : ℕ) → k < a → place_in u xs' k ≡ place_in u xs k
  pub moved : (k : ℕ) → a ≤ k → k < n → place_in u xs' (k + 1) ≡ place_in u xs k

-- a row that is not this
other_row : (r : ℕ) → member r (waiting_row ∷ []) ≡ false → r ≡ waiting_row → ⊥
unfolding member any_of
other_row r n e = true≢false (sym (ap (λ (t : Bool). t || false) (eq-eqb r waiting_row e)) ∙ n)

-- by one copy, from b on, where the row begins
module _ {u a n b : ℕ} (xs xs' : List ℕ) (long : row_count * u ≤ length xs) (low : a ≤ n) (fits : n < u) (row_b : b ≡ waiting_row * u)
    (same : length xs' ≡ length xs) (copied : CopiedTo xs xs' (b + a) (b + a + 1) (b + n - (b + a)))
    (below : SameBelow xs xs' (b + a + 1)) (from : SameFrom xs xs' (b + a + 1 + (b + n - (b + a)))) where
  kept_row : (r : ℕ) → r < row_count → Dec (r < waiting_row) → (r ≡ waiting_row → ⊥) → row xs' u r ≡ row xs u r
  unfolding row
  kept_row r h d e =
      part_ext xs' (r * u) u (row xs u r) (omega (arith, row_in u row_count r h, long, same)) (row_length xs u row_count r long h)
      (λ i l. outside d i l ∙ sym (row_at xs u r i l))
    where
      outside : Dec (r < waiting_row) → (i : ℕ) → i < u → get_or xs' (r * u + i) 0 ≡ get_or xs (r * u + i) 0
      outside (yes c) i l = below (r * u + i) 0 (omega (arith, row_in u waiting_row r c, row_b))
      outside (no c) i l = from (r * u + i) 0 (omega (arith, row_in u r waiting_row (let k : waiting_row < r = omega arith in k), row_b))

  pub moved_up : MovedUp u a n xs xs'
  moved_up = record {
    only = record {
      long = same;
      rows = λ r h m. kept_row r h (dec_lt r waiting_row) (other_row r m);
      behind = λ m i h. from i 0 (omega (arith, row_in u row_count waiting_row (let k : waiting_row < row_count = omega arith in k), row_b));
    };
    kept = λ k c. place xs' k (omega arith) ∙ below (b + k) 0 (omega arith) ∙ sym (place xs k (omega arith));
    moved = λ k c d.
        place xs' (k + 1) (omega arith) ∙ copied (b + (k + 1)) 0 (omega arith) (omega arith)
        ∙ ap (λ (x : ℕ). get_or xs x 0) (let e : b + a + (b + (k + 1) - (b + a + 1)) ≡ b + k = omega arith in e)
        ∙ sym (place xs k (omega arith));
  }
    where
      place : (ys : List ℕ) (k : ℕ) → k < u → place_in u ys k ≡ get_or ys (b + k) 0
      place ys k h = row_at ys u waiting_row k h ∙ ap (λ (x : ℕ). get_or ys (x + k) 0) (sym row_b)

-- ---- the place is in the list

pub record InsertPre (u n j : ℕ) (xs : List ℕ) : Type 0 where
  pub numbers_long : row_count * u ≤ length xs
  pub space : n < u
  pub small : j < 2 ^ 32

-- r places then: all that were there, and j, rising if they rose
pub record Inserted (u n j : ℕ) (xs xs' : List ℕ) (r : ℕ) : Type 0 where
  pub only : Only (waiting_row ∷ []) u xs xs'
  pub rising : (end : ℕ) → Rising (place_in u xs) 0 n end → j < end → Rising (place_in u xs') 0 r end
  pub others : (k : ℕ) → Named (place_in u xs) 0 n k → Named (place_in u xs') 0 r k
  pub own : Named (place_in u xs') 0 r j

module _ {u n j : ℕ} {xs : List ℕ} (pre : InsertPre u n j xs) {at : ℕ} (up : UpTo u n j xs at) where
  -- it is there
  pub insert_there : {t : Bool} → t ≡ is_last u at j xs → t ≡ true → Inserted u n j xs xs n
  insert_there e f =
      let l = last_is u at j xs (sym e ∙ f) in
      record {
        only = only_none (waiting_row ∷ []) u xs;
        rising = λ end h b. h;
        others = λ k h. h;
        own = record { index = at - 1; low = omega arith; high = omega (arith, l.0, up.few); here = l.1 };
      }

  module _ {xs₁ xs₂ : List ℕ} (moved : MovedUp u at n xs xs₁) (wrote : Written xs₁ u waiting_row at j xs₂) where
    long₁ : row_count * u ≤ length xs₁
    long₁ = omega (arith, pre.numbers_long, moved.only.long)

    at_in : at < u
    at_in = omega (arith, up.few, pre.space)

    here : place_in u xs₂ at ≡ j
    here = place_own long₁ at_in wrote

    before : (k : ℕ) → k < at → place_in u xs₂ k ≡ place_in u xs k
    before k b = place_other long₁ at_in wrote k (omega arith) ∙ moved.kept k b

    behind : (k : ℕ) → at ≤ k → k < n → place_in u xs₂ (k + 1) ≡ place_in u xs k
    behind k b c = place_other long₁ at_in wrote (k + 1) (omega arith) ∙ moved.moved k b c

    -- by its place before
    behind_as : (k : ℕ) → at < k → k < n + 1 → place_in u xs₂ k ≡ place_in u xs (k - 1)
    behind_as k b c =
        ap (place_in u xs₂) (let e : k ≡ k - 1 + 1 = omega arith in e) ∙ behind (k - 1) (omega arith) (omega arith)

    pub insert_new : {t : Bool} → t ≡ is_last u at j xs → t ≡ false → Inserted u n j xs xs₂ (n + 1)
    insert_new e f = record {
      only = only_then moved.only (only_written long₁ (omega arith) at_in wrote);
      rising = λ end h b. record {
        below = λ i c d. low end h b i d (ℕ_discrete i at) (dec_lt i at);
        rises = λ i k c d g. rises end h i k d g (ℕ_discrete i at) (dec_lt i at) (ℕ_discrete k at) (dec_lt k at);
      };
      others = λ k h. other k h (dec_lt h.index at);
      own = record { index = at; low = omega arith; high = omega (arith, up.few); here = here };
    }
      where
        -- places before it are below it
        lower : (end : ℕ) → Rising (place_in u xs) 0 n end → (i : ℕ) → i < at → place_in u xs i < j
        lower end h i b = go (ℕ_discrete i (at - 1))
          where
            not : place_in u xs (at - 1) ≡ j → ⊥
            not = last_not u at j xs (sym e ∙ f) (omega arith)

            last : place_in u xs (at - 1) < j
            last = let n : place_in u xs (at - 1) ≡ j → ⊥ = not in omega (arith, up.last (omega arith))

            go : Dec (i ≡ at - 1) → place_in u xs i < j
            go (yes g) = rw g last
            go (no g) = omega (arith, last, h.rises i (at - 1) (omega arith) (omega arith) (omega (arith, up.few)))

        low : (end : ℕ) → Rising (place_in u xs) 0 n end → j < end → (i : ℕ) → i < n + 1 → Dec (i ≡ at) → Dec (i < at)
            → place_in u xs₂ i < end
        low end h b i d (yes g) l = rw g (omega (arith, here))
        low end h b i d (no g) (yes l) = omega (arith, before i l, h.below i (omega arith) (omega (arith, up.few)))
        low end h b i d (no g) (no l) = omega (arith, behind_as i (omega arith) d, h.below (i - 1) (omega arith) (omega arith))

        rises : (end : ℕ) → Rising (place_in u xs) 0 n end → (i k : ℕ) → i < k → k < n + 1 → Dec (i ≡ at) → Dec (i < at) → Dec (k ≡ at)
            → Dec (k < at)
            → place_in u xs₂ i < place_in u xs₂ k
        rises end h i k d g (yes a) b (yes c) m = absurd (omega arith)
        rises end h i k d g (yes a) b (no c) m =
            rw a (omega (arith, here, behind_as k (omega arith) g, up.above (k - 1) (omega arith) (omega arith)))
        rises end h i k d g (no a) (yes b) (yes c) m = rw c (omega (arith, here, before i b, lower end h i b))
        rises end h i k d g (no a) (yes b) (no c) (yes m) =
            omega (arith, before i b, before k m, h.rises i k (omega arith) d (omega (arith, up.few)))
        rises end h i k d g (no a) (yes b) (no c) (no m) =
            omega (arith, before i b, behind_as k (omega arith) g, lower end h i b, up.above (k - 1) (omega arith) (omega arith))
        rises end h i k d g (no a) (no b) c m =
            omega (
              arith,
              behind_as i (omega arith) (omega arith),
              behind_as k (omega arith) g,
              h.rises (i - 1) (k - 1) (omega arith) (omega arith) (omega arith),
            )

        other : (k : ℕ) (h : Named (place_in u xs) 0 n k) → Dec (h.index < at) → Named (place_in u xs₂) 0 (n + 1) k
        other k h (yes b) =
            record { index = h.index; low = omega arith; high = omega (arith, h.high); here = before h.index b ∙ h.here }
        other k h (no b) = record {
          index = h.index + 1;
          low = omega arith;
          high = omega (arith, h.high);
          here = behind h.index (omega arith) h.high ∙ h.here;
        }
