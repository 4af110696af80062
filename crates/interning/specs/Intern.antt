-- What storing a word answers and leaves, by the model's `intern`. Assumes nothing.
use Rattle.std.specs.Prelude.{◌≡◌, ℕ, ◌+◌, ◌*◌, ◌<◌, ◌≤◌, max, List, [], ◌∷◌, ◌++◌, length, nat_lt, slice_index, slice_index_or, refl, Result, Ok, Err}
use Rattle.std.proofs.Math.Path.{sym, ap}
use Rattle.std.proofs.Common.{◌∙◌, subst, suc-mul, add-one, arith, length-append, lt-ltb, le-ltb}
use Rattle.store.specs.Part.{put, part_length}
use Rattle.store.specs.Wide.{wide_at}
use Rattle.pauli.specs.SupportLaws.{SupportWithin}
use Rattle.model.specs.Lists.{when◌then◌else◌, member, any_of, all_of}
use Rattle.model.specs.Words.{id_of, Store, intern}
use Rattle.theory.specs.Cases.{if_true, if_false}
use Rattle.theory.specs.Ids.{intern_old}
use Rattle.layout.specs.Rows.{axes_rows, signature_row, fork_row}
use Rattle.layout.specs.Index.{heads_place}
use Rattle.layout.specs.Only.{Only, only_none, only_of, only_then, last_kept}
use Rattle.layout.specs.Wide.{wide_kept}
use Rattle.layout.specs.Words.{axis_place}
use Rattle.axes.specs.View.{word_at, axes_length}
use Rattle.axes.specs.Pick.{pick_of, pick_low, digits_of}
use Rattle.axes.specs.Beside.{Beside, SameBeside}
use Rattle.axes.specs.Chains.{Index, Walked, index_kept, walked_kept, walked_other, index_more}
use Rattle.axes.specs.declared.Sizes.{Sizes}
use Rattle.axes.specs.Held.{stored_axes, Stored}
use Rattle.interning.specs.Beside.{BesidePre, BesidePut}
use Rattle.interning.specs.Find.{EndsAt, walked_in}
use Rattle.interning.specs.Link.{LinkPre, LinkPut, Entered}
use Rattle.interning.specs.declared.StoredAxis.{StoredAxis}
use Rattle.model.specs.declared.ExpansionLimit.{ExpansionLimit}
use Rattle.model.specs.Interface.{expansion_limit}

-- the words that are counted when one is stored behind n axes
abbrev pub sum_with : ℕ → ℕ → ℕ → ℕ
sum_with l others n = axis_place l n + 2 * l + others

pub one_more : (l n : ℕ) → axis_place l (n + 1) ≡ axis_place l n + 2 * l
one_more l n = rw (add-one n) (omega (arith, suc-mul n (2 * l)))

-- what storing demands: the word stands behind the limit, or among the other words that are counted, which end at the limit; no sum that
-- was tested is above it
pub record InternPre (z : Sizes) (others peak : ℕ) (ws xs : List ℕ) (at : ℕ) : Type 0 where
  pub held : Stored z ws xs
  pub counted : others ≤ z.limit
  pub tested : peak ≤ z.limit
  pub word_in : at + 2 * z.l ≤ length ws
  pub behind : z.limit ≤ at + others

-- the model's store: these axes, and the largest sum that was tested
abbrev pub store_with : ℕ → List (List ℕ) → Store
store_with peak axes = record { axes = axes; peak = peak }

-- a word's axis in the store st' that it is in, where st was the store before
abbrev axis_of : Store → Store → List ℕ → StoredAxis
axis_of st st' w = record { id = id_of st.axes w; axes = length st'.axes; peak = st'.peak }

-- refused where the sum that `intern` tests exceeds the limit
unfoldable pub intern_answer : ℕ → ℕ → ℕ → Store → List ℕ → Result StoredAxis ExpansionLimit
intern_answer l others limit st w = when nat_lt limit (intern l others st w).peak then Err expansion_limit else Ok (axis_of st (intern l others st w) w)

-- the word store by the answer: a new word is laid behind the n axes
unfoldable pub laid_by : Result StoredAxis ExpansionLimit → ℕ → ℕ → List ℕ → List ℕ → List ℕ
laid_by (Ok a) l n s w = when nat_lt a.id n then s else put s (axis_place l n) w
laid_by (Err e) l n s w = s

-- answer and word store are the model's
pub record Answered (z : Sizes) (others peak : ℕ) (ws : List ℕ) (at : ℕ) (r : Result StoredAxis ExpansionLimit) (ws' : List ℕ) : Type 0 where
  pub answer : r ≡ intern_answer z.l others z.limit (store_with peak (stored_axes z ws)) (word_at z.l ws at)
  pub words : ws' ≡ laid_by r z.l z.axes ws (word_at z.l ws at)

-- of the number store only what stands beside a new axis changes, and where its chain ends
pub record Stores (z : Sizes) (others peak : ℕ) (ws xs : List ℕ) (at : ℕ) (r : Result StoredAxis ExpansionLimit) (ws' xs' : List ℕ) : Type 0 where
  pub answered : Answered z others peak ws at r ws'
  pub numbers : Only axes_rows z.u xs xs'
  pub kept : (a : ℕ) → a < z.axes → SameBeside z.u xs xs' a
  pub new : (a : StoredAxis) → r ≡ Ok a → z.axes ≤ a.id → Beside z.l z.u xs' z.axes (word_at z.l ws at)
  pub index : (a : StoredAxis) → r ≡ Ok a
      → Index pick_of digits_of z.u a.axes xs' (intern z.l others (store_with peak (stored_axes z ws)) (word_at z.l ws at)).axes

-- ---- the model's `intern` of a new word

pub intern_new : (l others : ℕ) (st : Store) (w : List ℕ) → length st.axes ≤ id_of st.axes w
    → intern l others st w ≡ record { axes = st.axes ++ (w ∷ []); peak = max st.peak (sum_with l others (length st.axes)) }
unfolding intern
intern_new l others st w h = if_false _ _ (le-ltb _ _ h)

-- ---- the answer and the word store, case by case

module _ (l others limit : ℕ) (st : Store) (w : List ℕ) where
  answer_axis : (st' : Store) → intern l others st w ≡ st' → st'.peak ≤ limit → Ok (axis_of st st' w) ≡ intern_answer l others limit st w
  unfolding intern_answer
  answer_axis st' e h =
      ap (λ (x : Store). Ok (axis_of st x w)) (sym e)
      ∙ sym (if_false _ _ (le-ltb limit (intern l others st w).peak (omega (arith, ap (λ (x : Store). x.peak) e))))

  answer_limit : limit < (intern l others st w).peak → Err expansion_limit ≡ intern_answer l others limit st w
  unfolding intern_answer
  answer_limit h = sym (if_true _ _ (lt-ltb limit (intern l others st w).peak h))

module _ (a : StoredAxis) (l n : ℕ) (s w : List ℕ) where
  laid_old : a.id < n → laid_by (Ok a) l n s w ≡ s
  unfolding laid_by
  laid_old h = if_true _ _ (lt-ltb _ _ h)

  laid_new : n ≤ a.id → laid_by (Ok a) l n s w ≡ put s (axis_place l n) w
  unfolding laid_by
  laid_new h = if_false _ _ (le-ltb _ _ h)

-- ---- what the code answers, from the id that it found of the word that it read

module _ (z : Sizes) (others peak : ℕ) (ws : List ℕ) (at id : ℕ) {p : List ℕ} (found : id ≡ id_of (stored_axes z ws) p)
    (read : p ≡ word_at z.l ws at) where
  abbrev st : Store
  st = store_with peak (stored_axes z ws)

  abbrev w : List ℕ
  w = word_at z.l ws at

  id_of_lem : id ≡ id_of (stored_axes z ws) w
  id_of_lem = found ∙ ap (id_of (stored_axes z ws)) read

  count : length (stored_axes z ws) ≡ z.axes
  count = axes_length z.l z.axes ws

  -- the code's numbers are those of the model's store
  same_axis : (st' : Store) {n q : ℕ} → n ≡ length st'.axes → q ≡ st'.peak
      → ◌≡◌ {A = StoredAxis} (record { id = id; axes = n; peak = q }) (axis_of st st' w)
  same_axis st' e f = rw (id_of_lem, e, f) refl

  pub answered_old : peak ≤ z.limit → id < z.axes → Answered z others peak ws at (Ok (record { id = id; axes = z.axes; peak = peak })) ws
  answered_old k h = record {
    answer =
        ap Ok (same_axis st (sym count) refl)
        ∙ answer_axis z.l others z.limit st w st (intern_old z.l others st w (omega (arith, id_of_lem, count))) k;
    words = sym (laid_old _ z.l z.axes ws w h);
  }

  -- a new word, behind the axes, which end at b
  module _ {b : ℕ} (end : b ≡ axis_place z.l z.axes) (new : z.axes ≤ id) where
    abbrev next : Store
    next = record { axes = stored_axes z ws ++ (w ∷ []); peak = max peak (b + 2 * z.l + others) }

    stored_next : intern z.l others st w ≡ next
    stored_next =
        intern_new z.l others st w (omega (arith, id_of_lem, count))
        ∙ ap (λ (m : ℕ). store_with (max peak (m + 2 * z.l + others)) (stored_axes z ws ++ (w ∷ [])))
        (ap (axis_place z.l) count ∙ sym end)

    pub answered_limit : z.limit < b + 2 * z.l + others → Answered z others peak ws at (Err expansion_limit) ws
    unfolding laid_by
    answered_limit k = record {
      answer = answer_limit z.l others z.limit st w (omega (arith, ap (λ (x : Store). x.peak) stored_next));
      words = refl;
    }

    pub answered_new : {q : ℕ} → peak ≤ z.limit → b + 2 * z.l + others ≤ z.limit → q ≡ max peak (b + 2 * z.l + others)
        → (t : List ℕ) → t ≡ put ws b w → Answered z others peak ws at (Ok (record { id = id; axes = z.axes + 1; peak = q })) t
    answered_new k m f t e = record {
      answer =
          ap Ok (same_axis next (sym (length-append (stored_axes z ws) (w ∷ []) ∙ ap (λ (n : ℕ). n + 1) count)) f)
          ∙ answer_axis z.l others z.limit st w next stored_next (omega arith);
      words = e ∙ ap (λ (i : ℕ). put ws i w) end ∙ sym (laid_new _ z.l z.axes ws w new);
    }

-- the word is stored
pub stores_old : {z : Sizes} {others peak : ℕ} {ws xs : List ℕ} {at : ℕ} {a : StoredAxis} {ws' : List ℕ} → Stored z ws xs
    → Answered z others peak ws at (Ok a) ws' → a.id ≡ id_of (stored_axes z ws) (word_at z.l ws at) → a.id < z.axes
    → a.axes ≡ z.axes → Stores z others peak ws xs at (Ok a) ws' xs
stores_old {z} {others} {peak} {ws} {xs} {at} {a} s k e h n =
    let st = store_with peak (stored_axes z ws) in
    let same = intern_old z.l others st (word_at z.l ws at) (omega (arith, axes_length z.l z.axes ws)) in
    record {
      answered = k;
      numbers = only_none axes_rows z.u xs;
      kept = λ i _. record { signature = refl };
      new = λ b f g. let x : a ≡ b = cc in absurd (omega (arith, ap (λ (y : StoredAxis). y.id) x));
      index = λ b f.
          let x : a ≡ b = cc in
          let m : z.axes ≡ b.axes = sym n ∙ ap (λ (y : StoredAxis). y.axes) x in
          rw (sym m, same) s.index;
    }

-- it is refused
pub stores_limit : {z : Sizes} {others peak : ℕ} {ws xs : List ℕ} {at : ℕ} {ws' : List ℕ} → Answered z others peak ws at (Err expansion_limit) ws'
    → Stores z others peak ws xs at (Err expansion_limit) ws' xs
stores_limit {z} {xs = xs} k = record {
  answered = k;
  numbers = only_none axes_rows z.u xs;
  kept = λ i h. record { signature = refl };
  new = λ a e. never e;
  index = λ a e. never e;
}
  where
    never : {a : StoredAxis} {A : Type 0} → Err expansion_limit ≡ Ok a → A
    never e = let f : ◌≡◌ {A = ℕ} 0 1 = cc in absurd (omega arith)

-- a new axis: its own beside it, and its chain goes on to it
pub stores_new : {z : Sizes} {others peak : ℕ} {ws xs : List ℕ} {at : ℕ} {a : StoredAxis} {ws' xs' p : List ℕ} {q : ℕ} → Stored z ws xs
    → Answered z others peak ws at (Ok a) ws' → a.id ≡ id_of (stored_axes z ws) p → z.axes ≤ a.id → a.axes ≡ z.axes + 1
    → p ≡ word_at z.l ws at → EndsAt z xs p q → Entered z q xs p xs'
    → Stores z others peak ws xs at (Ok a) ws' xs'
unfolding member any_of all_of
stores_new {z} {others} {peak} {ws} {xs} {at} {a} {xs' = xs'} {p} {q} s k e h n read ends entered =
    record {
      answered = k;
      numbers = only_then (only_of axes_rows refl wrote.numbers) (only_of axes_rows refl link.numbers);
      kept = λ i b. record { signature = signature i ∙ (wrote.others i (omega arith)).signature };
      new = λ b f g. subst (Beside z.l z.u xs' z.axes) read
          (record { signature = λ w. subst (λ (m : ℕ). SupportWithin z.l m p) (sym (signature z.axes)) (wrote.own.signature w) });
      index = λ b f.
          let x : a ≡ b = cc in
          let m : z.axes + 1 ≡ b.axes = sym n ∙ ap (λ (y : StoredAxis). y.axes) x in
          rw (sym m, more, sym read) (index_more (s.fit.rows z.axes s.within) free link.linked pick_low before count walk);
    }
  where
    xs₁ : List ℕ
    xs₁ = entered.between

    wrote : BesidePut z xs p xs₁
    wrote = entered.beside

    link : LinkPut z q xs₁ xs'
    link = entered.link

    signature : (i : ℕ) → wide_at xs' z.u signature_row i ≡ wide_at xs₁ z.u signature_row i
    signature = wide_kept signature_row link.numbers (omega arith) refl refl

    count : length (stored_axes z ws) ≡ z.axes
    count = axes_length z.l z.axes ws

    more : (intern z.l others (store_with peak (stored_axes z ws)) (word_at z.l ws at)).axes ≡ stored_axes z ws ++ (word_at z.l ws at ∷ [])
    more =
        ap (λ (x : Store). x.axes)
        (intern_new z.l others (store_with peak (stored_axes z ws)) (word_at z.l ws at) (rw (sym read) (omega (arith, count))))

    -- signatures are no part of the index
    same : (i : ℕ) → fork_row * z.u ≤ i → slice_index xs₁ i ≡ slice_index xs i
    same = last_kept wrote.numbers refl refl

    before : Index pick_of digits_of z.u z.axes xs₁ (stored_axes z ws)
    before = index_kept same s.index

    free : slice_index_or xs₁ q 0 ≡ 0
    free = same q (walked_in s (pick_low p) ends.walk).0 ∙ ends.free

    walk : Walked z.u z.axes xs₁ (heads_place z.u + pick_of p) (digits_of p) q ends.digits
    walk = walked_kept same (omega arith) ends.walk

-- there is one answer, and one word store
pub answered_one : {z : Sizes} {others peak : ℕ} {ws : List ℕ} {at : ℕ} {r q : Result StoredAxis ExpansionLimit} {ws₁ ws₂ : List ℕ}
    → Answered z others peak ws at r ws₁ → Answered z others peak ws at q ws₂ → (r ≡ q) × (ws₁ ≡ ws₂)
answered_one {z} {ws = ws} {at = at} a b =
    let e = a.answer ∙ sym b.answer in
    (e, a.words ∙ ap (λ (x : Result StoredAxis ExpansionLimit). laid_by x z.l z.axes ws (word_at z.l ws at)) e ∙ sym b.words)

-- the next axis has its entry, and the word that was read is a word
pub beside_there : {z : Sizes} {others peak : ℕ} {ws xs : List ℕ} {at b : ℕ} {p : List ℕ} → InternPre z others peak ws xs at
    → b ≡ axis_place z.l z.axes → b + 2 * z.l + others ≤ z.limit → p ≡ word_at z.l ws at → BesidePre z xs p
beside_there {z} {ws = ws} {at = at} pre end fits read = record {
  numbers_long = pre.held.numbers_long;
  entry = pre.held.fit.rows z.axes pre.held.within;
  word = ap length read ∙ part_length ws at (2 * z.l) pre.word_in;
  narrow = pre.held.fit.narrow;
}

-- the end of the word's walk is in the store, and is no link of the next axis
pub link_there : {z : Sizes} (others : ℕ) {ws xs p : List ℕ} {b q : ℕ} → Stored z ws xs → b ≡ axis_place z.l z.axes
    → b + 2 * z.l + others ≤ z.limit → EndsAt z xs p q → LinkPre z q xs
link_there {z} others {p = p} s end fits ends =
    let row = s.fit.rows z.axes s.within in
    let at = walked_in s (pick_low p) ends.walk in
    record {
      numbers_long = s.numbers_long;
      link_in = omega (arith, s.index_long, s.fit.links (z.axes + 1) (omega (arith, one_more z.l z.axes)));
      fork_in = omega (arith, s.numbers_long);
      entry = row;
      small = omega (arith, s.fit.small);
      place_low = at.0;
      place_in = at.1;
      other = walked_other row (pick_low p) ends.walk;
    }
