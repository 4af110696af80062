-- A word's id, by a scan and by its chain. In a scan, "no axis so far is w" is the number fact `a ≤ id_of axes w`. Assumes nothing.
use Rattle.std.specs.Prelude.{◌≡◌, ℕ, zero, suc, ◌+◌, ◌-◌, ◌*◌, ◌/◌, ◌%◌, ◌<◌, ◌≤◌, Bool, true, false, ◌≢◌, List, length, slice_index, slice_index_or, refl, nat_lt, Option, Some, None, Result, Ok, Err}
use Rattle.std.specs.Result.{result_ok}
use Rattle.std.proofs.Common.{sym, ◌∙◌, ⊎_elim, eq-or-lt_of_le, arith, lt-ltb, le-ltb}
use Rattle.std.proofs.Math.Path.{ap, subst}
use Rattle.std.proofs.Math.Decide.{dec_lt}
use Rattle.store.specs.Equal.{same_list, said_same, said_other}
use Rattle.model.specs.Lists.{when◌then◌else◌}
use Rattle.model.specs.Words.{id_of, word_of}
use Rattle.theory.specs.Cases.{if_true, if_false}
use Rattle.theory.specs.Ids.{id_le, id_first, id_word}
use Rattle.layout.specs.Rows.{fork_row}
use Rattle.layout.specs.Index.{head_count, heads_place, links_place}
use Rattle.axes.specs.View.{axes_of, axes_length}
use Rattle.axes.specs.Pick.{pick_of, pick_low, hash_to, total_to, digits_by, digits_of}
use Rattle.axes.specs.Chains.{next_place, next_is, Meets, Walked, meets_some, meets_from, meets_next}
use Rattle.axes.specs.Chains.Walked.{start, step}
use Rattle.axes.specs.declared.Sizes.{Sizes}
use Rattle.axes.specs.Held.{stored_axes, Stored}
use Rattle.interning.specs.declared.Sums.{Sums}
use Rattle.interning.specs.declared.Walk.{Walk}

module _ (l n : ℕ) (s w : List ℕ) where
  -- p, which is axis a, was compared with w: it is w
  pub id_here : (a : ℕ) {r : Bool} {p : List ℕ} → a ≤ id_of (axes_of l n s) w → a < n
      → r ≡ same_list p w → r ≡ true → p ≡ word_of (axes_of l n s) a → a ≡ id_of (axes_of l n s) w
  id_here a h k f t e =
      let g : id_of (axes_of l n s) w ≤ a = id_first (axes_of l n s) w a (omega (arith, axes_length l n s)) (said_same f t e) in
      omega arith

  -- it is another word
  pub id_next : (a : ℕ) {r : Bool} {p : List ℕ} → a ≤ id_of (axes_of l n s) w → a < n
      → r ≡ same_list p w → r ≡ false → p ≡ word_of (axes_of l n s) a → a + 1 ≤ id_of (axes_of l n s) w
  id_next a h k f t e =
      ⊎_elim
      (λ (q : a ≡ id_of (axes_of l n s) w).
      absurd (said_other f t e (ap (word_of (axes_of l n s)) q ∙ id_word (axes_of l n s) w (omega (arith, axes_length l n s)))))
      (λ (b : a < id_of (axes_of l n s) w). omega arith)
      (eq-or-lt_of_le h)

  -- no axis is w
  pub id_none : n ≤ id_of (axes_of l n s) w → n ≡ id_of (axes_of l n s) w
  id_none h = omega (arith, id_le (axes_of l n s) w, axes_length l n s)

-- the id of w among the axes, if it is one of them
unfoldable pub stored_id : List (List ℕ) → List ℕ → Option ℕ
stored_id axes w = when nat_lt (id_of axes w) (length axes) then Some (id_of axes w) else None

module _ (l n : ℕ) (s w : List ℕ) where
  -- by its number: axis a is w, or no axis is
  pub stored_here : {a : ℕ} → a ≡ id_of (axes_of l n s) w → a < n → Some a ≡ stored_id (axes_of l n s) w
  unfolding stored_id
  stored_here e h =
      ap Some e ∙ sym (if_true _ _ (lt-ltb _ _ (omega (arith, axes_length l n s))))

  pub stored_none : n ≡ id_of (axes_of l n s) w → None ≡ stored_id (axes_of l n s) w
  unfolding stored_id
  stored_none e = sym (if_false _ _ (le-ltb _ _ (omega (arith, axes_length l n s))))

-- ---- by its chain

-- a word's numbers added, and its hash
pub record SumsOf (w : List ℕ) (s : Sums) : Type 0 where
  pub total : s.total ≡ total_to w (length w)
  pub hash : s.hash ≡ hash_to w (length w)

-- the walk for a word with these sums begins at the head of its chain
pub record FirstAt (z : Sizes) (s : Sums) (r : Walk) : Type 0 where
  pub place : r.place ≡ heads_place z.u + s.total % head_count
  pub digits : r.digits ≡ digits_by s.hash

-- a walk goes on behind axis b
pub record Behind (z : Sizes) (v : Walk) (b : ℕ) (r : Walk) : Type 0 where
  pub place : r.place ≡ next_place z.u b v.digits
  pub digits : r.digits ≡ v.digits / 2

-- the index's entry for an axis, and for none
abbrev pub entry_of : Option ℕ → ℕ
entry_of None = 0
entry_of (Some a) = a + 1

-- the walk for w, which is no axis, ends at place p: no axis is named there
pub record EndsAt (z : Sizes) (xs w : List ℕ) (p : ℕ) : Type 0 where
  pub digits : ℕ
  pub walk : Walked z.u z.axes xs (heads_place z.u + pick_of w) (digits_of w) p digits
  pub free : slice_index_or xs p 0 ≡ 0

-- a is the scan's id of w, which is an axis
pub record IsAxis (z : Sizes) (ws w : List ℕ) (a : ℕ) : Type 0 where
  pub id_is : a ≡ id_of (stored_axes z ws) w
  pub stored : a < z.axes

-- w is no axis, and the next one belongs at the end of its walk
pub record IsNone (z : Sizes) (ws xs w : List ℕ) (place : ℕ) : Type 0 where
  pub none : z.axes ≡ id_of (stored_axes z ws) w
  pub ends : EndsAt z xs w place

abbrev pub FoundAs : Sizes → List ℕ → List ℕ → List ℕ → Result ℕ ℕ → Type 0
FoundAs z ws xs w (Ok a) = IsAxis z ws w a
FoundAs z ws xs w (Err place) = IsNone z ws xs w place

-- it is the scan's answer
pub found_stored : (z : Sizes) (ws xs w : List ℕ) (r : Result ℕ ℕ) → FoundAs z ws xs w r → result_ok r ≡ stored_id (stored_axes z ws) w
found_stored z ws xs w (Ok a) h = stored_here z.l z.axes ws w h.id_is h.stored
found_stored z ws xs w (Err place) h = stored_none z.l z.axes ws w h.none

-- the walk for w stands at a place; if w is an axis, it meets that
pub record Walking (z : Sizes) (ws xs w : List ℕ) (v : Walk) : Type 0 where
  pub walk : Walked z.u z.axes xs (heads_place z.u + pick_of w) (digits_of w) v.place v.digits
  pub most : slice_index xs v.place ≤ z.axes
  pub meets : id_of (stored_axes z ws) w < z.axes → Meets z.u xs (id_of (stored_axes z ws) w) (slice_index xs v.place) v.digits

-- how many axes a walk may still come to
unfoldable pub left : ℕ → ℕ → ℕ
left n zero = 0
left n (suc e) = suc n - e

pub left_less : (n e f : ℕ) → e ≢ 0 → e ≤ n → f ≤ n → (0 < f → e < f) → left n f < left n e
unfolding left
left_less n zero f s a b r = absurd (s refl)
left_less n (suc e) zero s a b r = omega arith
left_less n (suc e) (suc f) s a b r = let k : suc e < suc f = r (omega arith) in omega arith

module _ {z : Sizes} {ws xs : List ℕ} (h : Stored z ws xs) where
  abbrev id : List ℕ → ℕ
  id w = id_of (stored_axes z ws) w

  count : length (stored_axes z ws) ≡ z.axes
  count = axes_length z.l z.axes ws

  -- heads and links are in the store
  pub index_in : links_place z.u + z.axes ≤ length xs
  index_in = omega (arith, h.index_long, h.fit.links z.axes h.within)

  pub first_in : {s : Sums} {r : Walk} → FirstAt z s r → r.place < length xs
  first_in f = omega (arith, index_in, f.place)

  -- a place to which a walk comes is in the index
  pub walked_in : {c d p k : ℕ} → c < head_count → Walked z.u z.axes xs (heads_place z.u + c) d p k
      → (fork_row * z.u ≤ p) × (p < length xs)
  walked_in {c} {p = p} low (start e f) = (omega arith, omega (arith, h.index_long, h.fit.links z.axes h.within))
  walked_in low (step {h = g} b v e lt f _) =
      let long = h.index_long in
      let links = h.fit.links z.axes h.within in
      let rows = h.fit.rows z.axes h.within in
      ⊎_elim (λ k. (omega arith, omega arith)) (λ k. (omega arith, omega arith)) (next_is z.u b g)

  -- it begins
  pub walking_first : (w : List ℕ) {s : Sums} {r : Walk} → SumsOf w s → FirstAt z s r → Walking z ws xs w r
  unfolding pick_of
  walking_first w {s} {r} e f = record {
    walk = start at (f.digits ∙ ap digits_by e.hash);
    most = omega (arith, ap (λ (p : ℕ). slice_index xs p) at, h.index.heads (pick_of w) (pick_low w));
    meets = λ b.
        let v : word_of (stored_axes z ws) (id w) ≡ w = id_word (stored_axes z ws) w (omega (arith, count)) in
        let m = subst (λ (y : List ℕ). Meets z.u xs (id w) (slice_index xs (heads_place z.u + pick_of y)) (digits_of y)) v (h.index.met (id w) b) in
        rw (at, f.digits, e.hash) m;
  }
    where
      at : r.place ≡ heads_place z.u + pick_of w
      at = f.place ∙ ap (λ (n : ℕ). heads_place z.u + n % head_count) e.total

  module _ {w : List ℕ} {v : Walk} (g : Walking z ws xs w v) where
    pub walking_in : v.place < length xs
    walking_in = (walked_in (pick_low w) g.walk).1

    -- it names no axis
    pub walking_end : 0 ≡ slice_index xs v.place → IsNone z ws xs w v.place
    walking_end e = record {
      none = go (dec_lt (id w) z.axes);
      ends = record { digits = v.digits; walk = g.walk; free = sym e };
    }
      where
        go : Dec (id w < z.axes) → z.axes ≡ id w
        go (yes b) = absurd (omega (arith, meets_some (g.meets b)))
        go (no b) = omega (arith, id_le (stored_axes z ws) w, count)

    -- it names axis a
    module _ {a : ℕ} (named : a + 1 ≡ slice_index xs v.place) where
      pub walking_axis : a < z.axes
      walking_axis = omega (arith, g.most)

      -- which is w
      pub walking_here : {s : Bool} {p : List ℕ} → s ≡ same_list p w → s ≡ true → p ≡ word_of (stored_axes z ws) a
          → IsAxis z ws w a
      walking_here f t e =
          let first : id w ≤ a = id_first (stored_axes z ws) w a (omega (arith, count, walking_axis)) (said_same f t e) in
          let last : a ≤ id w = meets_from (rw (sym named) at (g.meets (omega (arith, walking_axis)))) in
          record { id_is = omega arith; stored = walking_axis }

      -- another
      pub walking_next : {s : Bool} {p : List ℕ} {r : Walk} → s ≡ same_list p w → s ≡ false → p ≡ word_of (stored_axes z ws) a
          → Behind z v a r → Walking z ws xs w r × (left z.axes (slice_index xs r.place) < left z.axes (slice_index xs v.place))
      walking_next {r = r} f t e k =
          let link = h.index.links a v.digits walking_axis in
          let same : slice_index xs r.place ≡ slice_index_or xs (next_place z.u a v.digits) 0 = ap (λ (p : ℕ). slice_index xs p) k.place in (
            record {
              walk = step a g.walk (sym named) walking_axis k.place k.digits;
              most = omega (arith, link.most);
              meets = λ b.
                  let other : a ≢ id w = λ q.
                  said_other f t e (ap (word_of (stored_axes z ws)) q ∙ id_word (stored_axes z ws) w (omega (arith, count))) in
                  rw (same, k.digits) (meets_next (rw (sym named) at (g.meets b)) other);
            },
            left_less z.axes (slice_index xs v.place) (slice_index xs r.place) (omega arith) g.most (omega (arith, link.most))
                (λ n. omega (arith, link.rises (omega arith))),
          )
