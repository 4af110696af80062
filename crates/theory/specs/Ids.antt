-- Stored axes: a word's id is in range and gives the word back; old ids keep their words. Assumes nothing.
use Rattle.std.specs.Prelude.{◌≡◌, refl, Bool, true, false, List, [], ◌∷◌, ◌++◌, ℕ, zero, suc, ◌+◌, ◌≤◌, ◌<◌, length}
use Rattle.std.proofs.Common.{sym, ap, ◌∙◌, le_refl, le_trans, arith, length-append, ltb-true, lt-ltb}
use Rattle.std.proofs.Math.ListN.{get_or-append}
use Rattle.store.specs.Equal.{same_list, same_refl, same_true}
use Rattle.model.specs.Lists.{when◌then◌else◌}
use Rattle.model.specs.Words.{id_of, word_of, Store, intern}
use Rattle.theory.specs.Cases.{by_if, on_if, if_true, if_false}

-- ---- ids

-- an id is at most the number of axes
pub id_le : (axes : List (List ℕ)) (w : List ℕ) → id_of axes w ≤ length axes
unfolding id_of
id_le [] w = le_refl _
id_le (a ∷ axes) w = by_if (λ (n : ℕ). n ≤ suc (length axes)) _ _ _ (omega arith) (omega (arith, id_le axes w))

-- an id in range gives its word back
pub id_word : (axes : List (List ℕ)) (w : List ℕ) → id_of axes w < length axes → word_of axes (id_of axes w) ≡ w
unfolding id_of
id_word [] w h = absurd (omega arith)
id_word (a ∷ axes) w h =
    on_if (λ (n : ℕ). n < suc (length axes) → word_of (a ∷ axes) n ≡ w) _ _ _ (λ e k. same_true a w e) (λ e k. id_word axes w (omega arith)) h

-- a word stored at the end has the id that it was to get
pub id_append : (axes : List (List ℕ)) (w : List ℕ) → id_of (axes ++ (w ∷ [])) w ≡ id_of axes w
unfolding id_of
id_append [] w = rw (same_refl w) (if_true _ _ refl)
id_append (a ∷ axes) w = ap (λ (n : ℕ). when same_list a w then 0 else suc n) (id_append axes w)

-- storing a word does not change what its id is
pub id_stored : (l extra : ℕ) (st : Store) (w : List ℕ) → id_of (intern l extra st w).axes w ≡ id_of st.axes w
unfolding intern
id_stored l extra st w = by_if (λ (x : Store). id_of x.axes w ≡ id_of st.axes w) _ _ _ refl (id_append st.axes w)

-- a word that is there is not stored again
pub intern_old : (l extra : ℕ) (st : Store) (w : List ℕ) → id_of st.axes w < length st.axes → intern l extra st w ≡ st
unfolding intern
intern_old l extra st w h = if_true _ _ (lt-ltb _ _ h)

-- a word that was interned has an id in range
pub id_in : (l extra : ℕ) (st : Store) (w : List ℕ) → id_of (intern l extra st w).axes w < length (intern l extra st w).axes
unfolding intern
id_in l extra st w =
    on_if (λ (x : Store). id_of x.axes w < length x.axes) _ _ _ (λ e. ltb-true _ _ e)
    (λ e. let n : length (st.axes ++ (w ∷ [])) ≡ length st.axes + 1 = length-append st.axes (w ∷ []) in
    omega (arith, id_append st.axes w, id_le st.axes w))

-- ---- growing

-- ys has every word of xs at its place
pub record Grows (xs ys : List (List ℕ)) : Type 0 where
  pub longer : length xs ≤ length ys
  pub keeps : (i : ℕ) → i < length xs → word_of ys i ≡ word_of xs i

-- nothing added
pub grows_refl : (xs : List (List ℕ)) → Grows xs xs
grows_refl xs = record { longer = le_refl _; keeps = λ i h. refl }

-- more and more added
pub grows_trans : {xs ys zs : List (List ℕ)} → Grows xs ys → Grows ys zs → Grows xs zs
grows_trans g h = record { longer = le_trans g.longer h.longer; keeps = λ i b. h.keeps i (le_trans b g.longer) ∙ g.keeps i b }

-- the same axes
pub grows_eq : {xs ys : List (List ℕ)} → ys ≡ xs → Grows xs ys
grows_eq e = rw e (grows_refl _)

-- interning adds at most one word, at the end
pub intern_grows : (l extra : ℕ) (st : Store) (w : List ℕ) → Grows st.axes (intern l extra st w).axes
unfolding intern
intern_grows l extra st w =
    by_if (λ (x : Store). Grows st.axes x.axes) _ _ _ (grows_refl _)
    (record { longer = omega (arith, length-append st.axes (w ∷ [])); keeps = λ i h. get_or-append st.axes (w ∷ []) [] i h })

-- ---- words that are stored stay so

-- a word is stored
abbrev pub Stored : List (List ℕ) → List ℕ → Type 0
Stored axes w = id_of axes w < length axes

-- the first place at which a word stands is its id
pub id_first : (ys : List (List ℕ)) (w : List ℕ) (i : ℕ) → i < length ys → word_of ys i ≡ w → id_of ys w ≤ i
unfolding id_of
id_first [] w i h e = absurd (omega arith)
id_first (y ∷ ys) w zero h e = let f : same_list y w ≡ true = rw e (same_refl w) in rw (if_true 0 (suc (id_of ys w)) f) (le_refl _)
id_first (y ∷ ys) w (suc i) h e = by_if (λ (n : ℕ). n ≤ suc i) _ _ _ (omega arith) (omega (arith, id_first ys w i (omega arith) e))

-- a stored word stays stored
pub stored_keeps : (xs ys : List (List ℕ)) (w : List ℕ) → Grows xs ys → Stored xs w → Stored ys w
stored_keeps xs ys w g h =
    let b : id_of xs w < length ys = le_trans h g.longer in
    omega (arith, id_first ys w (id_of xs w) b (g.keeps (id_of xs w) h ∙ id_word xs w h))

-- a word that is stored keeps its id where another is stored behind
id_behind : (axes : List (List ℕ)) (v w : List ℕ) → Stored axes w → id_of (axes ++ (v ∷ [])) w ≡ id_of axes w
unfolding id_of
id_behind [] v w h = absurd (omega arith)
id_behind (a ∷ axes) v w h = go (same_list a w) refl (λ s. id_behind axes v w s)
  where
    go : (b : Bool) → same_list a w ≡ b → (Stored axes w → id_of (axes ++ (v ∷ [])) w ≡ id_of axes w)
        → (when same_list a w then 0 else suc (id_of (axes ++ (v ∷ [])) w)) ≡ (when same_list a w then 0 else suc (id_of axes w))
    go true e ih = if_true 0 _ e ∙ sym (if_true 0 _ e)
    go false e ih =
        let s : (when same_list a w then 0 else suc (id_of axes w)) ≡ suc (id_of axes w) = if_false 0 _ e in
        ap (λ (n : ℕ). when same_list a w then 0 else suc n) (ih (omega arith))

-- so storing a word changes no stored word's id
pub id_keeps : (l others : ℕ) (st : Store) (v w : List ℕ) → Stored st.axes w → id_of (intern l others st v).axes w ≡ id_of st.axes w
unfolding intern
id_keeps l others st v w h = by_if (λ (x : Store). id_of x.axes w ≡ id_of st.axes w) _ _ _ refl (id_behind st.axes v w h)
