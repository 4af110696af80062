-- The rotations of a segment by level: lists from the oldest on, the union of their signatures, and what a new rotation adds. Assumes nothing.
use Rattle.std.specs.Prelude.{◌≡◌, false, ◌≢◌, List, [], ◌∷◌, ℕ, ◌+◌, ◌-◌, ◌*◌, ◌≤◌, ◌<◌, max, length, get_or, set}
use Rattle.std.proofs.Math.Path.{refl, ap}
use Rattle.std.proofs.Common.{sym, ◌∙◌, subst, arith}
use Rattle.std.proofs.Math.Decide.{ℕ_discrete, dec_lt, dec_le}
use Rattle.std.specs.Int.Bits.{bit_and, bit_or}
use Rattle.bits.specs.Digit.{min_none}
use Rattle.bits.specs.Bit.{bit, bit_bit_and, bit_bit_or, bit_lt, bit_digit, bit_ext, zero_bit}
use Rattle.store.specs.Row.{row, Written}
use Rattle.store.specs.Wide.{wide_at, WrittenWide}
use Rattle.pauli.specs.SupportLaws.{SupportWithin, apart_commute}
use Rattle.model.specs.Lists.{all_of, any_of, member}
use Rattle.model.specs.Words.{word_of, anticommute}
use Rattle.layout.specs.Rows.{row_count, level_oldest, level_newest, level_next, level_signature, level_top}
use Rattle.layout.specs.Rows.{written_row, entry_own, entry_other}
use Rattle.layout.specs.Only.{Only, only_of, only_then, only_written}
use Rattle.layout.specs.Shape.{longest_row}
use Rattle.layout.specs.Wide.{wide_kept, wide_own, wide_other, wide_only}
use Rattle.depth.specs.Tops.{top_place, top_of, BoundOf, Raised}

-- the rows that T-depth writes
abbrev pub level_rows : List ℕ
level_rows = level_signature ∷ (level_signature + 1) ∷ level_top ∷ level_oldest ∷ level_newest ∷ level_next ∷ []

-- the oldest rotation of level v
unfoldable pub oldest_at : List ℕ → ℕ → ℕ → ℕ
oldest_at s u v = get_or (row s u level_oldest) (v - 1) 0

-- the newest
unfoldable pub newest_at : List ℕ → ℕ → ℕ → ℕ
newest_at s u v = get_or (row s u level_newest) (v - 1) 0

-- the next newer one of the same level, behind item j
unfoldable pub next_at : List ℕ → ℕ → ℕ → ℕ
next_at s u j = get_or (row s u level_next) j 0

-- within which the supports of level v lie
unfoldable pub union_at : List ℕ → ℕ → ℕ → ℕ
union_at s u v = wide_at s u level_signature (v - 1)

-- ---- one item is entered

pub record BegunPre (u : ℕ) (s : List ℕ) (v : ℕ) : Type 0 where
  pub long : row_count * u ≤ length s
  pub high : 0 < v
  pub level : v ≤ u

-- what stands in memory of a level, if it is among those reached
pub record IfBegun (reached v x r : ℕ) : Type 0 where
  pub new : reached < v → r ≡ 0
  pub old : v ≤ reached → r ≡ x

pub record PutPre (u : ℕ) (s : List ℕ) (reached v i : ℕ) : Type 0 where
  pub begun : BegunPre u s v
  pub here : i < u
  pub short : u ≤ longest_row
  pub later : v ≤ reached → newest_at s u v < i

-- the newest so far names item i, or the level begins with it
pub record Linked (u : ℕ) (s : List ℕ) (reached v i : ℕ) (t : List ℕ) : Type 0 where
  pub only : Only (level_oldest ∷ level_next ∷ []) u s t
  pub oldest : reached < v → oldest_at t u v ≡ i
  pub oldests : (w : ℕ) → 0 < w → (w ≡ v → v ≤ reached) → oldest_at t u w ≡ oldest_at s u w
  pub linked : v ≤ reached → next_at t u (newest_at s u v) ≡ i
  pub nexts : (j : ℕ) → (v ≤ reached → j ≢ newest_at s u v) → next_at t u j ≡ next_at s u j

pub record PutLast (u : ℕ) (s : List ℕ) (reached v i : ℕ) (t : List ℕ) : Type 0 where
  pub only : Only (level_oldest ∷ level_newest ∷ level_next ∷ []) u s t
  pub oldest : reached < v → oldest_at t u v ≡ i
  pub oldests : (w : ℕ) → 0 < w → (w ≡ v → v ≤ reached) → oldest_at t u w ≡ oldest_at s u w
  pub newest : newest_at t u v ≡ i
  pub newests : (w : ℕ) → 0 < w → w ≢ v → newest_at t u w ≡ newest_at s u w
  pub next : next_at t u i ≡ u
  pub linked : v ≤ reached → next_at t u (newest_at s u v) ≡ i
  pub nexts : (j : ℕ) → j ≢ i → (v ≤ reached → j ≢ newest_at s u v) → next_at t u j ≡ next_at s u j

pub record Joined (u : ℕ) (s : List ℕ) (reached v sig : ℕ) (t : List ℕ) : Type 0 where
  pub only : Only (level_signature ∷ (level_signature + 1) ∷ []) u s t
  pub own : (k : ℕ) → bit sig k ≡ 1 → bit (union_at t u v) k ≡ 1
  pub kept : v ≤ reached → (k : ℕ) → bit (union_at s u v) k ≡ 1 → bit (union_at t u v) k ≡ 1
  pub others : (w : ℕ) → 0 < w → w ≢ v → union_at t u w ≡ union_at s u w

pub record Entered (u : ℕ) (s : List ℕ) (reached v i sig : ℕ) (t : List ℕ) : Type 0 where
  pub only : Only level_rows u s t
  pub oldest : reached < v → oldest_at t u v ≡ i
  pub oldests : (w : ℕ) → 0 < w → (w ≡ v → v ≤ reached) → oldest_at t u w ≡ oldest_at s u w
  pub newest : newest_at t u v ≡ i
  pub newests : (w : ℕ) → 0 < w → w ≢ v → newest_at t u w ≡ newest_at s u w
  pub next : next_at t u i ≡ u
  pub linked : v ≤ reached → next_at t u (newest_at s u v) ≡ i
  pub nexts : (j : ℕ) → j ≢ i → (v ≤ reached → j ≢ newest_at s u v) → next_at t u j ≡ next_at s u j
  pub own : (k : ℕ) → bit sig k ≡ 1 → bit (union_at t u v) k ≡ 1
  pub kept : v ≤ reached → (k : ℕ) → bit (union_at s u v) k ≡ 1 → bit (union_at t u v) k ≡ 1
  pub others : (w : ℕ) → 0 < w → w ≢ v → union_at t u w ≡ union_at s u w
  pub tops : (k : ℕ) → bit sig k ≡ 1 → v ≤ top_of t u k
  pub up : (k : ℕ) → top_of s u k ≤ top_of t u k

pub begun_new : {reached v x : ℕ} → reached < v → IfBegun reached v x 0
begun_new h = record { new = λ _. refl; old = λ k. absurd (omega arith) }

pub begun_old : {reached v x r : ℕ} → v ≤ reached → r ≡ x → IfBegun reached v x r
begun_old h e = record { new = λ k. absurd (omega arith); old = λ _. e }

-- a row of none that change
oldest_kept : {rs : List ℕ} {u : ℕ} {s t : List ℕ} → Only rs u s t → member level_oldest rs ≡ false → (v : ℕ) → oldest_at t u v ≡ oldest_at s u v
unfolding oldest_at
oldest_kept o e v = ap (λ (r : List ℕ). get_or r (v - 1) 0) (o.rows level_oldest (omega arith) e)

newest_kept : {rs : List ℕ} {u : ℕ} {s t : List ℕ} → Only rs u s t → member level_newest rs ≡ false → (v : ℕ) → newest_at t u v ≡ newest_at s u v
unfolding newest_at
newest_kept o e v = ap (λ (r : List ℕ). get_or r (v - 1) 0) (o.rows level_newest (omega arith) e)

next_kept : {rs : List ℕ} {u : ℕ} {s t : List ℕ} → Only rs u s t → member level_next rs ≡ false → (j : ℕ) → next_at t u j ≡ next_at s u j
unfolding next_at
next_kept o e j = ap (λ (r : List ℕ). get_or r j 0) (o.rows level_next (omega arith) e)

union_kept : {rs : List ℕ} {u : ℕ} {s t : List ℕ} → Only rs u s t → member level_signature rs ≡ false → member (level_signature + 1) rs ≡ false
    → (v : ℕ) → union_at t u v ≡ union_at s u v
unfolding union_at
union_kept o a b v = wide_kept level_signature o (omega arith) a b (v - 1)

top_kept : {rs : List ℕ} {u : ℕ} {s t : List ℕ} → Only rs u s t → member level_top rs ≡ false → (k : ℕ) → top_of t u k ≡ top_of s u k
unfolding top_of
top_kept {u = u} o e k = ap (λ (r : List ℕ). get_or r (top_place u k) 0) (o.rows level_top (omega arith) e)

-- the level begins
pub link_new : {u reached v i : ℕ} {s t : List ℕ} → PutPre u s reached v i → reached < v → Written s u level_oldest (v - 1) i t
    → Linked u s reached v i t
unfolding oldest_at all_of member any_of
link_new {u} {reached} {v} {i} {s} {t} pre h w =
    let row_in : level_oldest < row_count = omega arith in
    let at : v - 1 < u = omega (arith, pre.begun.level, pre.begun.high) in
    let only = only_written pre.begun.long row_in at w in
    let changed = written_row pre.begun.long row_in at w in
    record {
      only = only_of _ refl only;
      oldest = λ _. entry_own s u level_oldest (v - 1) i changed pre.begun.long row_in at;
      oldests = λ x p n.
          entry_other s u level_oldest (v - 1) i changed (x - 1) (λ e. absurd (omega (arith, pre.begun.high, n (omega (arith, pre.begun.high)))));
      linked = λ k. absurd (omega arith);
      nexts = λ j n. next_kept only refl j;
    }

-- it goes on
pub link_old : {u reached v i newest : ℕ} {s t : List ℕ} → PutPre u s reached v i → v ≤ reached
    → newest ≡ get_or (row s u level_newest) (v - 1) 0 → Written s u level_next newest i t → Linked u s reached v i t
unfolding newest_at next_at all_of member any_of
link_old {u} {reached} {v} {i} {newest} {s} {t} pre h e w =
    let row_in : level_next < row_count = omega arith in
    let at : newest < u = omega (arith, pre.later h, pre.here, e) in
    let only = only_written pre.begun.long row_in at w in
    let changed = written_row pre.begun.long row_in at w in
    record {
      only = only_of _ refl only;
      oldest = λ k. absurd (omega arith);
      oldests = λ x p n. oldest_kept only refl x;
      linked = λ _. ap (λ (j : ℕ). get_or (row t u level_next) j 0) (sym e) ∙ entry_own s u level_next newest i changed pre.begun.long row_in at;
      nexts = λ j n. entry_other s u level_next newest i changed j (λ k. n h (k ∙ e));
    }

pub put_last : {u reached v i : ℕ} {s a b t : List ℕ} → PutPre u s reached v i → Linked u s reached v i a
    → Written a u level_next i u b → Written b u level_newest (v - 1) i t → PutLast u s reached v i t
unfolding newest_at next_at all_of member any_of
put_last {u} {reached} {v} {i} {s} {a} {b} {t} pre k f g =
    let long : row_count * u ≤ length a = omega (arith, pre.begun.long, k.only.long) in
    let long' : row_count * u ≤ length b = omega (arith, long, f.long) in
    let x : level_next < row_count = omega arith in
    let y : level_newest < row_count = omega arith in
    let at : v - 1 < u = omega (arith, pre.begun.level, pre.begun.high) in
    let first = only_written long x pre.here f in
    let second = only_written long' y at g in
    let nexts : row t u level_next ≡ set (row a u level_next) i u = second.rows level_next x refl ∙ written_row long x pre.here f in
    let newests : row t u level_newest ≡ set (row s u level_newest) (v - 1) i =
    written_row long' y at g
    ∙ ap (λ (q : List ℕ). set q (v - 1) i) (first.rows level_newest y refl ∙ k.only.rows level_newest y refl) in
    record {
      only = only_then (only_of _ refl k.only) (only_then (only_of _ refl first) (only_of _ refl second));
      oldest = λ h. oldest_kept second refl v ∙ oldest_kept first refl v ∙ k.oldest h;
      oldests = λ w p n. oldest_kept second refl w ∙ oldest_kept first refl w ∙ k.oldests w p n;
      newest = entry_own s u level_newest (v - 1) i newests pre.begun.long y at;
      newests = λ w p n. entry_other s u level_newest (v - 1) i newests (w - 1) (λ e. n (omega (arith, pre.begun.high)));
      next = entry_own a u level_next i u nexts long x pre.here;
      linked = λ h. entry_other a u level_next i u nexts _ (λ e. omega (arith, pre.later h)) ∙ k.linked h;
      nexts = λ j n m. entry_other a u level_next i u nexts j n ∙ k.nexts j m;
    }

pub joined : {u reached v all sig : ℕ} {s t : List ℕ} → BegunPre u s v → IfBegun reached v (union_at s u v) all
    → WrittenWide s u level_signature (v - 1) (bit_or all sig) t → Joined u s reached v sig t
unfolding union_at member any_of
joined {u} {reached} {v} {all} {sig} {s} {t} pre b w =
    let at : v - 1 < u = omega (arith, pre.level, pre.high) in
    let rows : level_signature + 1 < row_count = omega arith in
    let is : (k : ℕ) → bit (wide_at t u level_signature (v - 1)) k ≡ max (bit all k) (bit sig k) =
    λ k. ap (λ (n : ℕ). bit n k) (wide_own pre.long rows at w) ∙ bit_bit_or all sig k in
    record {
      only = wide_only pre.long rows at w _ refl refl;
      own = λ k e. omega (arith, is k, bit_lt all k);
      kept = λ h k e. omega (arith, is k, bit_lt sig k, ap (λ (n : ℕ). bit n k) (b.old h));
      others = λ x p n. wide_other pre.long rows at w (x - 1) (λ e. n (omega (arith, pre.high)));
    }

module _ {u reached v i sig : ℕ} {s a b t : List ℕ} (f : PutLast u s reached v i a) (g : Joined u a reached v sig b)
    (h : Raised u b sig v t) where
  pub entered : Entered u s reached v i sig t
  unfolding member any_of all_of
  entered =
      let both : Only level_rows u a t = only_then (only_of level_rows refl g.only) (only_of level_rows refl h.only) in
      let oldest_same : (w : ℕ) → oldest_at t u w ≡ oldest_at a u w = λ w. oldest_kept h.only refl w ∙ oldest_kept g.only refl w in
      let newest_same : (w : ℕ) → newest_at t u w ≡ newest_at a u w = λ w. newest_kept h.only refl w ∙ newest_kept g.only refl w in
      let next_same : (j : ℕ) → next_at t u j ≡ next_at a u j = λ j. next_kept h.only refl j ∙ next_kept g.only refl j in
      let union_before : (w : ℕ) → union_at a u w ≡ union_at s u w = λ w. union_kept f.only refl refl w in
      let union_after : (w : ℕ) → union_at t u w ≡ union_at b u w = λ w. union_kept h.only refl refl w in
      let on : (x y k : ℕ) → x ≡ y → bit y k ≡ 1 → bit x k ≡ 1 = λ x y k e o. ap (λ (n : ℕ). bit n k) e ∙ o in
      record {
        only = only_then (only_of level_rows refl f.only) both;
        oldest = λ c. oldest_same v ∙ f.oldest c;
        oldests = λ w p n. oldest_same w ∙ f.oldests w p n;
        newest = newest_same v ∙ f.newest;
        newests = λ w p n. newest_same w ∙ f.newests w p n;
        next = next_same i ∙ f.next;
        linked = λ c. next_same (newest_at s u v) ∙ f.linked c;
        nexts = λ j n m. next_same j ∙ f.nexts j n m;
        own = λ k e. on _ _ k (union_after v) (g.own k e);
        kept = λ c k e. on _ _ k (union_after v) (g.kept c k (on _ _ k (union_before v) e));
        others = λ w p n. union_after w ∙ g.others w p n ∙ union_before w;
        tops = h.own;
        up = λ k. omega (arith, h.up k, top_kept g.only refl k, top_kept f.only refl k);
      }

-- ---- the lists of a segment, whose rotations' levels are lev

-- p is the first of level v among those from a place up to i; u where there is none
pub record First (lev : ℕ → ℕ) (u from v i p : ℕ) : Type 0 where
  pub after : from ≤ p
  pub below : p < u → p < i
  pub level : p < u → lev p ≡ v
  pub none : (j : ℕ) → from ≤ j → j < p → j < i → lev j ≡ v → ⊥

-- p is the last of them
pub record Newest (lev : ℕ → ℕ) (start v i p : ℕ) : Type 0 where
  pub after : start ≤ p
  pub below : p < i
  pub level : lev p ≡ v
  pub none : (j : ℕ) → p < j → j < i → lev j ≡ v → ⊥

-- axis a is known at level v: some signature within which its support lies is part of the level's, and each of its bits has this level
pub record Placed (l : ℕ) (axes : List (List ℕ)) (u : ℕ) (s : List ℕ) (a v : ℕ) : Type 0 where
  pub sig : ℕ
  pub within : SupportWithin l sig (word_of axes a)
  pub union : (k : ℕ) → bit sig k ≡ 1 → bit (union_at s u v) k ≡ 1
  pub tops : (k : ℕ) → bit sig k ≡ 1 → v ≤ top_of s u k

-- before item i: each rotation whose level is above low stands in the list of its level, and is known there
pub record Listed (l : ℕ) (axes : List (List ℕ)) (axis lev : ℕ → ℕ) (low start reached u : ℕ) (s : List ℕ) (i : ℕ) : Type 0 where
  pub oldests : (v : ℕ) → low < v → v ≤ reached → First lev u start v i (oldest_at s u v)
  pub newests : (v : ℕ) → low < v → v ≤ reached → Newest lev start v i (newest_at s u v)
  pub nexts : (j : ℕ) → start ≤ j → j < i → low < lev j → First lev u (j + 1) (lev j) i (next_at s u j)
  pub placed : (j : ℕ) → start ≤ j → j < i → low < lev j → Placed l axes u s (axis j) (lev j)
  pub most : (j : ℕ) → start ≤ j → j < i → lev j ≤ reached

module _ (l : ℕ) (axes : List (List ℕ)) (axis lev : ℕ → ℕ) (low start u : ℕ) where
  -- a segment begins
  pub listed_none : (s : List ℕ) (i : ℕ) → i ≤ start → Listed l axes axis lev low start low u s i
  listed_none s i h = record {
    oldests = λ v a b. absurd (omega arith);
    newests = λ v a b. absurd (omega arith);
    nexts = λ j a b c. absurd (omega arith);
    placed = λ j a b c. absurd (omega arith);
    most = λ j a b. absurd (omega arith);
  }

  module _ {reached : ℕ} {s : List ℕ} {i : ℕ} (h : Listed l axes axis lev low start reached u s i) where
    -- item i is of another level
    first_more : {from v p : ℕ} → lev i ≢ v → First lev u from v i p → First lev u from v (i + 1) p
    first_more {from} {v} {p} n w = record {
      after = w.after;
      below = λ a. omega (arith, w.below a);
      level = w.level;
      none = λ j a b c e. go j a b c e (ℕ_discrete j i);
    }
      where
        go : (j : ℕ) → from ≤ j → j < p → j < i + 1 → lev j ≡ v → Dec (j ≡ i) → ⊥
        go j a b c e (yes k) = n (ap lev (sym k) ∙ e)
        go j a b c e (no k) = w.none j a b (omega arith) e

    newest_more : {v p : ℕ} → lev i ≢ v → Newest lev start v i p → Newest lev start v (i + 1) p
    newest_more {v} {p} n w = record {
      after = w.after;
      below = omega (arith, w.below);
      level = w.level;
      none = λ j a b e. go j a b e (ℕ_discrete j i);
    }
      where
        go : (j : ℕ) → p < j → j < i + 1 → lev j ≡ v → Dec (j ≡ i) → ⊥
        go j a b e (yes k) = n (ap lev (sym k) ∙ e)
        go j a b e (no k) = w.none j a (omega arith) e

    -- one of the level stands before item i
    first_same : {from v p m : ℕ} → from ≤ m → m < i → lev m ≡ v → First lev u from v i p → First lev u from v (i + 1) p
    first_same {from} {v} {p} {m} a b e w = record {
      after = w.after;
      below = λ c. omega (arith, w.below c);
      level = w.level;
      none = λ j c d f g. w.none j c d (omega (arith, reached_there (dec_lt m p))) g;
    }
      where
        reached_there : Dec (m < p) → p ≤ m
        reached_there (yes k) = absurd (w.none m a k b e)
        reached_there (no k) = omega arith

    -- item i has no level above low
    pub listed_low : lev i ≤ low → low ≤ reached → Listed l axes axis lev low start reached u s (i + 1)
    listed_low k b = record {
      oldests = λ v c d. first_more (omega arith) (h.oldests v c d);
      newests = λ v c d. newest_more (omega arith) (h.newests v c d);
      nexts = λ j c d e. first_more (omega arith) (h.nexts j c (below j d e) e);
      placed = λ j c d e. h.placed j c (below j d e) e;
      most = λ j c d. up j c d (ℕ_discrete j i);
    }
      where
        below : (j : ℕ) → j < i + 1 → low < lev j → j < i
        below j d e = go (ℕ_discrete j i)
          where
            go : Dec (j ≡ i) → j < i
            go (yes q) = absurd (omega (arith, ap lev q))
            go (no q) = omega arith

        up : (j : ℕ) → start ≤ j → j < i + 1 → Dec (j ≡ i) → lev j ≤ reached
        up j c d (yes q) = omega (arith, ap lev q)
        up j c d (no q) = h.most j c (omega arith)

    -- item i is entered at its level, at most one above those reached
    module _ {v sig : ℕ} {t : List ℕ} (order : start ≤ i) (here : i < u) (e : lev i ≡ v) (high : low < v) (next : v ≤ reached + 1)
        (within : SupportWithin l sig (word_of axes (axis i))) (w : Entered u s reached v i sig t) where
      -- the newest so far, where there is one
      last : v ≤ reached → Newest lev start v i (newest_at s u v)
      last k = h.newests v high k

      oldest_own : Dec (reached < v) → First lev u start v (i + 1) (oldest_at t u v)
      oldest_own (yes q) =
          subst (First lev u start v (i + 1)) (sym (w.oldest q))
          (record {
            after = order;
            below = λ _. omega arith;
            level = λ _. e;
            none = λ j a b c d. omega (arith, h.most j a b);
          })
      oldest_own (no q) =
          let k : v ≤ reached = omega arith in
          subst (First lev u start v (i + 1)) (sym (w.oldests v (omega arith) (λ _. k)))
          (first_same (last k).after (last k).below (last k).level (h.oldests v high k))

      oldests_more : (x : ℕ) → low < x → x ≤ max reached v → Dec (x ≡ v) → First lev u start x (i + 1) (oldest_at t u x)
      oldests_more x a b (yes q) =
          subst (λ (y : ℕ). First lev u start y (i + 1) (oldest_at t u y)) (sym q) (oldest_own (dec_lt reached v))
      oldests_more x a b (no q) =
          subst (First lev u start x (i + 1)) (sym (w.oldests x (omega arith) (λ z. absurd (q z))))
          (first_more (λ z. q (omega arith)) (h.oldests x a (omega arith)))

      newest_own : {p : ℕ} → p ≡ i → Newest lev start v (i + 1) p
      newest_own {p} q = record {
        after = omega arith;
        below = omega arith;
        level = ap lev q ∙ e;
        none = λ j a b d. absurd (omega arith);
      }

      newests_more : (x : ℕ) → low < x → x ≤ max reached v → Dec (x ≡ v) → Newest lev start x (i + 1) (newest_at t u x)
      newests_more x a b (yes q) = subst (λ (y : ℕ). Newest lev start y (i + 1) (newest_at t u y)) (sym q) (newest_own w.newest)
      newests_more x a b (no q) =
          subst (Newest lev start x (i + 1)) (sym (w.newests x (omega arith) q))
          (newest_more (λ z. q (omega arith)) (h.newests x a (omega arith)))

      -- none is behind item i
      next_own : First lev u (i + 1) (lev i) (i + 1) (next_at t u i)
      next_own =
          subst (First lev u (i + 1) (lev i) (i + 1)) (sym w.next)
          (record {
            after = omega arith;
            below = λ a. absurd (omega arith);
            level = λ a. absurd (omega arith);
            none = λ j a b c d. absurd (omega arith);
          })

      -- item i is behind the newest so far
      next_linked : (j : ℕ) → v ≤ reached → j ≡ newest_at s u v → First lev u (j + 1) (lev j) (i + 1) (next_at t u j)
      next_linked j k q =
          let own : lev j ≡ v = ap lev q ∙ (last k).level in
          subst (First lev u (j + 1) (lev j) (i + 1)) (sym (ap (next_at t u) q ∙ w.linked k))
          (record {
            after = omega (arith, (last k).below);
            below = λ _. omega arith;
            level = λ _. e ∙ sym own;
            none = λ m a b c d. (last k).none m (omega arith) b (d ∙ own);
          })

      -- all others stay
      next_same : (j : ℕ) → start ≤ j → j < i → low < lev j → (v ≤ reached → j ≢ newest_at s u v) → Dec (lev j ≡ v)
          → First lev u (j + 1) (lev j) (i + 1) (next_at t u j)
      next_same j a b c n (yes q) =
          let k : v ≤ reached = omega (arith, h.most j a b) in
          subst (First lev u (j + 1) (lev j) (i + 1)) (sym (w.nexts j (omega arith) n))
          (first_same (omega (arith, before k (dec_lt (newest_at s u v) j))) (last k).below ((last k).level ∙ sym q) (h.nexts j a b c))
        where
          before : v ≤ reached → Dec (newest_at s u v < j) → j < newest_at s u v
          before k (yes m) = absurd ((last k).none j m b q)
          before k (no m) = omega (arith, n k)
      next_same j a b c n (no q) =
          subst (First lev u (j + 1) (lev j) (i + 1)) (sym (w.nexts j (omega arith) n)) (first_more (λ z. q (sym z ∙ e)) (h.nexts j a b c))

      next_before : (j : ℕ) → start ≤ j → j < i → low < lev j → Dec (v ≤ reached) → Dec (j ≡ newest_at s u v)
          → First lev u (j + 1) (lev j) (i + 1) (next_at t u j)
      next_before j a b c (yes k) (yes q) = next_linked j k q
      next_before j a b c (yes k) (no q) = next_same j a b c (λ _. q) (ℕ_discrete (lev j) v)
      next_before j a b c (no k) q = next_same j a b c (λ z. absurd (k z)) (ℕ_discrete (lev j) v)

      nexts_more : (j : ℕ) → start ≤ j → j < i + 1 → low < lev j → Dec (j ≡ i) → First lev u (j + 1) (lev j) (i + 1) (next_at t u j)
      nexts_more j a b c (yes q) = subst (λ (y : ℕ). First lev u (y + 1) (lev y) (i + 1) (next_at t u y)) (sym q) next_own
      nexts_more j a b c (no q) = next_before j a (omega arith) c (dec_le v reached) (ℕ_discrete j (newest_at s u v))

      -- earlier ones stay
      union_more : {x : ℕ} → low < x → x ≤ reached → (k : ℕ) → bit (union_at s u x) k ≡ 1 → Dec (x ≡ v) → bit (union_at t u x) k ≡ 1
      union_more {x} a b k o (yes q) =
          ap (λ (y : ℕ). bit (union_at t u y) k) q ∙ w.kept (omega arith) k (ap (λ (y : ℕ). bit (union_at s u y) k) (sym q) ∙ o)
      union_more {x} a b k o (no q) = ap (λ (y : ℕ). bit y k) (w.others x (omega arith) q) ∙ o

      placed_more : (j : ℕ) → start ≤ j → j < i + 1 → low < lev j → Dec (j ≡ i) → Placed l axes u t (axis j) (lev j)
      placed_more j a b c (yes q) =
          subst (λ (y : ℕ). Placed l axes u t (axis y) (lev y)) (sym q)
          (subst (Placed l axes u t (axis i)) (sym e) (record { sig = sig; within = within; union = w.own; tops = w.tops }))
      placed_more j a b c (no q) =
          let here : j < i = omega arith in
          let before = h.placed j a here c in
          record {
            sig = before.sig;
            within = before.within;
            union = λ k o. union_more c (h.most j a here) k (before.union k o) (ℕ_discrete (lev j) v);
            tops = λ k o. omega (arith, before.tops k o, w.up k);
          }

      most_more : (j : ℕ) → start ≤ j → j < i + 1 → Dec (j ≡ i) → lev j ≤ max reached v
      most_more j a b (yes q) = omega (arith, ap lev q)
      most_more j a b (no q) = omega (arith, h.most j a (omega arith))

      pub listed_more : Listed l axes axis lev low start (max reached v) u t (i + 1)
      listed_more = record {
        oldests = λ x a b. oldests_more x a b (ℕ_discrete x v);
        newests = λ x a b. newests_more x a b (ℕ_discrete x v);
        nexts = λ j a b c. nexts_more j a b c (ℕ_discrete j i);
        placed = λ j a b c. placed_more j a b c (ℕ_discrete j i);
        most = λ j a b. most_more j a b (ℕ_discrete j i);
      }

-- ---- what signatures tell

disjoint : (x y : ℕ) → ((k : ℕ) → bit x k ≡ 1 → bit y k ≡ 1 → ⊥) → bit_and x y ≡ 0
disjoint x y h = bit_ext _ 0 (λ k. bit_bit_and x y k ∙ min_none (bit_digit x k) (bit_digit y k) (h k) ∙ sym (zero_bit k))

module _ {l : ℕ} {axes : List (List ℕ)} {u : ℕ} {s : List ℕ} {a v sig : ℕ} (b : ℕ) (p : Placed l axes u s a v)
    (q : SupportWithin l sig (word_of axes b)) where
  -- an axis that shares no bit with the level's signatures commutes
  pub union_apart : bit_and (union_at s u v) sig ≡ 0 → anticommute l axes a b ≡ false
  unfolding anticommute
  union_apart e =
      let no : (k : ℕ) → bit p.sig k ≡ 1 → bit sig k ≡ 1 → ⊥ = λ k x y.
      omega (arith, p.union k x, bit_bit_and (union_at s u v) sig k, ap (λ (n : ℕ). bit n k) e, zero_bit k) in
      apart_commute p.within q (disjoint _ _ no)

  -- so does one whose bits have no level as high
  pub bound_apart : {reached r : ℕ} → BoundOf u s sig reached r → v ≤ reached → r < v → anticommute l axes a b ≡ false
  unfolding anticommute
  bound_apart w h k =
      let no : (n : ℕ) → bit p.sig n ≡ 1 → bit sig n ≡ 1 → ⊥ = λ n x y. omega (arith, p.tops n x, w.bits n y) in
      apart_commute p.within q (disjoint _ _ no)
