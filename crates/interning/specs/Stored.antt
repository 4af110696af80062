-- What an answer of `intern` means for the model's store `st`, whose axes the stores hold. Assumes nothing.
use Rattle.std.specs.Prelude.{◌≡◌, ℕ, ◌+◌, ◌-◌, ◌*◌, ◌<◌, ◌≤◌, max, List, [], ◌∷◌, ◌++◌, length, refl, Result, Ok, Err}
use Rattle.std.proofs.Common.{sym, ap, ◌∙◌, subst, arith}
use Rattle.std.proofs.Math.Decide.{dec_lt}
use Rattle.std.proofs.Math.ListN.{get_or-append}
use Rattle.std.proofs.lemmas.List.{get_or_at}
use Rattle.store.specs.Part.{put, put_length, part_length}
use Rattle.model.specs.Words.{id_of, word_of, Store, intern}
use Rattle.theory.specs.Ids.{id_le, intern_old}
use Rattle.layout.specs.Rows.{axes_rows}
use Rattle.layout.specs.Only.{Only}
use Rattle.layout.specs.Words.{axis_place, KeptFrom, kept_none, kept_put}
use Rattle.axes.specs.View.{word_at, axes_length, axes_put}
use Rattle.axes.specs.Pick.{pick_of, digits_of}
use Rattle.axes.specs.Beside.{Beside, SameBeside, same_beside}
use Rattle.axes.specs.Chains.{Index}
use Rattle.axes.specs.declared.Sizes.{Sizes}
use Rattle.axes.specs.Held.{with_axes, stored_axes, HoldsAxes, held_count}
use Rattle.interning.specs.Intern.{sum_with, one_more, store_with, InternPre, Stores, Answered, answered_old, answered_limit}
use Rattle.interning.specs.Intern.{intern_new, answered_new, answered_one}
use Rattle.interning.specs.declared.StoredAxis.{StoredAxis}
use Rattle.model.specs.declared.ExpansionLimit.{ExpansionLimit}

-- what a word's axis means to the caller: the stores hold the model's axes, so many, the largest tested sum is the model's and within
-- the limit, axes and the other words still fit in it, and the other words that are counted, those behind the limit, and the rows that
-- axes do not keep, are as they were
pub record HasAxis (z : Sizes) (others : ℕ) (ws xs : List ℕ) (st : Store) (w : List ℕ) (a : StoredAxis) (ws' xs' : List ℕ) : Type 0 where
  pub id_is : a.id ≡ id_of st.axes w
  pub held : HoldsAxes (with_axes a.axes z) ws' xs' (intern z.l others st w).axes
  pub peak_is : (intern z.l others st w).peak ≡ a.peak
  pub fits : a.peak ≤ z.limit
  pub room : axis_place z.l z.axes + others ≤ z.limit → axis_place z.l a.axes + others ≤ z.limit
  pub kept : KeptFrom (z.limit - others) ws ws'
  pub numbers : Only axes_rows z.u xs xs'

-- what a refusal means
pub record NoRoom (z : Sizes) (others : ℕ) (ws xs : List ℕ) (st : Store) (w : List ℕ) (ws' xs' : List ℕ) : Type 0 where
  pub exceeds : z.limit < (intern z.l others st w).peak
  pub kept : ws' ≡ ws
  pub numbers : Only axes_rows z.u xs xs'

-- what an answer of `intern` means
abbrev pub InternedAs : Sizes → ℕ → List ℕ → List ℕ → Store → List ℕ → Result StoredAxis ExpansionLimit → List ℕ → List ℕ → Type 0
InternedAs z others ws xs st w (Ok a) ws' xs' = HasAxis z others ws xs st w a ws' xs'
InternedAs z others ws xs st w (Err e) ws' xs' = NoRoom z others ws xs st w ws' xs'

module _ (z : Sizes) (others : ℕ) (ws xs : List ℕ) (at : ℕ) (st : Store) (pre : InternPre z others st.peak ws xs at)
    (h : HoldsAxes z ws xs st.axes) where
  found : id_of st.axes (word_at z.l ws at) ≡ id_of (stored_axes z ws) (word_at z.l ws at)
  found = ap (λ (axes : List (List ℕ)). id_of axes (word_at z.l ws at)) (sym h.are)

  module _ {xs' : List ℕ} (o : Only axes_rows z.u xs xs') (same : (a : ℕ) → a < z.axes → SameBeside z.u xs xs' a) where
    -- beside the axes that there were
    beside_old : (a : ℕ) → a < z.axes → Beside z.l z.u xs' a (word_of st.axes a)
    beside_old a b = same_beside (same a b) (h.beside a b)

    -- and beside the new one
    beside_more : Beside z.l z.u xs' z.axes (word_at z.l ws at) → (a : ℕ) → a < z.axes + 1 → Dec (a < z.axes)
        → Beside z.l z.u xs' a (word_of (st.axes ++ (word_at z.l ws at ∷ [])) a)
    beside_more own a i (yes b) =
        let e = get_or-append st.axes (word_at z.l ws at ∷ []) [] a (omega (arith, held_count h)) in
        subst (Beside z.l z.u xs' a) (sym e) (beside_old a b)
    beside_more own a i (no b) =
        let e : a ≡ z.axes = omega arith in
        let f = get_or_at st.axes (word_at z.l ws at) [] [] z.axes (held_count h) in
        rw e (subst (Beside z.l z.u xs' z.axes) (sym f) own)

    -- the index of n axes, as the code leaves it
    abbrev IndexLeft : ℕ → Type 0
    IndexLeft n =
        Index pick_of digits_of z.u n xs' (intern z.l others (store_with st.peak (stored_axes z ws)) (word_at z.l ws at)).axes

    -- and by the store's name for the axes
    index_as : {n : ℕ} → IndexLeft n → Index pick_of digits_of z.u n xs' (intern z.l others st (word_at z.l ws at)).axes
    index_as {n} x =
        subst (λ (axes : List (List ℕ)).
        Index pick_of digits_of z.u n xs' (intern z.l others (store_with st.peak axes) (word_at z.l ws at)).axes) h.are x

    old : IndexLeft z.axes → (id : ℕ) → id ≡ id_of (stored_axes z ws) (word_at z.l ws at) → id < z.axes
        → HasAxis z others ws xs st (word_at z.l ws at) (record { id = id; axes = z.axes; peak = st.peak }) ws xs'
    old index id e b =
        let k = intern_old z.l others st (word_at z.l ws at) (omega (arith, held_count h, found)) in
        record {
          id_is = e ∙ sym found;
          held = record {
            are = h.are ∙ sym (ap (λ (x : Store). x.axes) k);
            within = h.within;
            words_long = h.words_long;
            numbers_long = omega (arith, h.numbers_long, o.long);
            fit = record { rows = h.fit.rows; links = h.fit.links; narrow = h.fit.narrow; small = h.fit.small };
            index_long = omega (arith, h.index_long, o.long);
            beside = λ a i. subst (λ (x : Store). Beside z.l z.u xs' a (word_of x.axes a)) (sym k) (beside_old a (omega arith));
            index = index_as index;
          };
          peak_is = ap (λ (x : Store). x.peak) k;
          fits = pre.tested;
          room = λ r. r;
          kept = kept_none (z.limit - others) ws;
          numbers = o;
        }

    new : IndexLeft (z.axes + 1) → Beside z.l z.u xs' z.axes (word_at z.l ws at) → (id : ℕ)
        → id ≡ id_of (stored_axes z ws) (word_at z.l ws at) → id ≡ z.axes
        → sum_with z.l others z.axes ≤ z.limit
        → HasAxis z others ws xs st (word_at z.l ws at)
        (record { id = id; axes = z.axes + 1; peak = max st.peak (sum_with z.l others z.axes) })
        (put ws (axis_place z.l z.axes) (word_at z.l ws at)) xs'
    new index own id e f b =
        let k = intern_new z.l others st (word_at z.l ws at) (omega (arith, held_count h, found)) in
        let g : length (word_at z.l ws at) ≡ 2 * z.l = part_length ws at (2 * z.l) pre.word_in in
        let sum : sum_with z.l others (length st.axes) ≡ sum_with z.l others z.axes = ap (sum_with z.l others) (held_count h) in
        record {
          id_is = e ∙ sym found;
          held = record {
            are =
                axes_put z.l z.axes ws (word_at z.l ws at) (omega (arith, h.words_long)) g
                ∙ ap (λ (axes : List (List ℕ)). axes ++ (word_at z.l ws at ∷ [])) h.are
                ∙ sym (ap (λ (x : Store). x.axes) k);
            within = omega (arith, one_more z.l z.axes);
            words_long =
                omega (arith, h.words_long, put_length ws (axis_place z.l z.axes) (word_at z.l ws at) (omega (arith, h.words_long)));
            numbers_long = omega (arith, h.numbers_long, o.long);
            fit = record { rows = h.fit.rows; links = h.fit.links; narrow = h.fit.narrow; small = h.fit.small };
            index_long = omega (arith, h.index_long, o.long);
            beside = λ a i. subst (λ (x : Store). Beside z.l z.u xs' a (word_of x.axes a)) (sym k)
                (beside_more own a (omega arith) (dec_lt a z.axes));
            index = index_as index;
          };
          peak_is = ap (λ (x : Store). x.peak) k ∙ ap (max st.peak) sum;
          fits = omega (arith, pre.tested);
          room = λ _. omega (arith, one_more z.l z.axes);
          kept =
              kept_put (z.limit - others) ws (axis_place z.l z.axes) (word_at z.l ws at) (omega arith) (omega (arith, h.words_long));
          numbers = o;
        }

    none : id_of (stored_axes z ws) (word_at z.l ws at) ≡ z.axes → z.limit < sum_with z.l others z.axes
        → NoRoom z others ws xs st (word_at z.l ws at) ws xs'
    none e b =
        let k = intern_new z.l others st (word_at z.l ws at) (omega (arith, held_count h, found)) in
        let sum : sum_with z.l others (length st.axes) ≡ sum_with z.l others z.axes = ap (sum_with z.l others) (held_count h) in
        record { exceeds = omega (arith, ap (λ (x : Store). x.peak) k, sum); kept = refl; numbers = o }

  pub interned_is : {r : Result StoredAxis ExpansionLimit} {ws' xs' : List ℕ} → Stores z others st.peak ws xs at r ws' xs'
      → InternedAs z others ws xs st (word_at z.l ws at) r ws' xs'
  interned_is {r} {ws'} {xs'} s =
      go (dec_lt (id_of (stored_axes z ws) (word_at z.l ws at)) z.axes) (dec_lt z.limit (sum_with z.l others z.axes))
    where
      -- there is one answer
      so : {q : Result StoredAxis ExpansionLimit} {vs : List ℕ} → Answered z others st.peak ws at q vs
          → (r ≡ q → InternedAs z others ws xs st (word_at z.l ws at) q vs xs')
          → InternedAs z others ws xs st (word_at z.l ws at) r ws' xs'
      so k m = let e = answered_one s.answered k in rw (e.0, e.1) (m e.0)

      last : (id_of (stored_axes z ws) (word_at z.l ws at) < z.axes → ⊥) → id_of (stored_axes z ws) (word_at z.l ws at) ≡ z.axes
      last a = omega (arith, id_le (stored_axes z ws) (word_at z.l ws at), axes_length z.l z.axes ws)

      go : Dec (id_of (stored_axes z ws) (word_at z.l ws at) < z.axes) → Dec (z.limit < sum_with z.l others z.axes)
          → InternedAs z others ws xs st (word_at z.l ws at) r ws' xs'
      go (yes a) d = so (answered_old z others _ ws at _ refl refl pre.tested a) (λ e. old s.numbers s.kept (s.index _ e) _ refl a)
      go (no a) (yes b) = so (answered_limit z others _ ws at _ refl refl refl (omega arith) b) (λ e. none s.numbers s.kept (last a) b)
      go (no a) (no b) =
          so (answered_new z others _ ws at _ refl refl refl (omega arith) pre.tested (omega arith) refl _ refl)
          (λ e. new s.numbers s.kept (s.index _ e) (s.new _ e (omega arith)) _ refl (last a) (omega arith))
