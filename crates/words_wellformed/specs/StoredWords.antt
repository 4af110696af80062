-- Stored axes are words, and no word is stored twice. Assumes nothing.
use Rattle.std.specs.Prelude.{◌≡◌, List, [], ◌∷◌, ◌++◌, ℕ, suc, ◌+◌, ◌≤◌, ◌<◌, length}
use Rattle.std.proofs.Common.{ap, ◌∙◌, arith, length-append, ltb-false}
use Rattle.std.proofs.Math.Decide.{dec_lt}
use Rattle.std.proofs.Math.ListN.{get_or-append}
use Rattle.std.proofs.Math.Seq.{get_or-append_seam}
use Rattle.store.specs.Equal.{same_list}
use Rattle.pauli.specs.Word.{IsWord}
use Rattle.model.specs.Lists.{when◌then◌else◌}
use Rattle.model.specs.Words.{id_of, word_of, Store, intern}
use Rattle.theory.specs.Cases.{on_if, if_true, if_false}
use Rattle.theory.specs.Ids.{id_le, id_append}

-- every axis is a word of l numbers in each plane, and an axis's word has that axis's id
pub record StoredWords (l : ℕ) (axes : List (List ℕ)) : Type 0 where
  pub words : (a : ℕ) → a < length axes → IsWord l (word_of axes a)
  pub distinct : (a : ℕ) → a < length axes → id_of axes (word_of axes a) ≡ a

-- before packing
pub none_stored : (l : ℕ) → StoredWords l []
none_stored l = record { words = λ a h. absurd (omega arith); distinct = λ a h. absurd (omega arith) }

-- a stored word keeps its id
pub id_kept : (axes more : List (List ℕ)) (w : List ℕ) → id_of axes w < length axes → id_of (axes ++ more) w ≡ id_of axes w
unfolding id_of
id_kept [] more w h = absurd (omega arith)
id_kept (a ∷ axes) more w h =
    on_if (λ (n : ℕ). n < suc (length axes) → (when same_list a w then 0 else suc (id_of (axes ++ more) w)) ≡ n) (same_list a w) _ _
    (λ e k. if_true _ _ e) (λ e k. if_false _ _ e ∙ ap suc (id_kept axes more w (omega arith))) h

-- a word that is not there is stored at the end
one_more : (l : ℕ) (axes : List (List ℕ)) (w : List ℕ) → StoredWords l axes → IsWord l w → length axes ≤ id_of axes w
    → StoredWords l (axes ++ (w ∷ []))
one_more l axes w s h new = record {
  words = go (IsWord l) s.words h;
  distinct = λ a b. id a b (dec_lt a (length axes));
}
  where
    long : length (axes ++ (w ∷ [])) ≡ length axes + 1
    long = length-append axes (w ∷ [])

    last : (a : ℕ) → a < length (axes ++ (w ∷ [])) → ¬ (a < length axes) → a ≡ length axes
    last a b n = omega (arith, long)

    at_end : word_of (axes ++ (w ∷ [])) (length axes) ≡ w
    at_end = get_or-append_seam axes w [] []

    go : (P : List ℕ → Type 0) → ((a : ℕ) → a < length axes → P (word_of axes a)) → P w → (a : ℕ) → a < length (axes ++ (w ∷ []))
        → P (word_of (axes ++ (w ∷ [])) a)
    go P old k a b = case (dec_lt a (length axes))
      where
        case : Dec (a < length axes) → P (word_of (axes ++ (w ∷ [])) a)
        case (yes c) = rw (get_or-append axes (w ∷ []) [] a c) (old a c)
        case (no n) = rw (last a b n, at_end) k

    id : (a : ℕ) → a < length (axes ++ (w ∷ [])) → Dec (a < length axes) → id_of (axes ++ (w ∷ [])) (word_of (axes ++ (w ∷ [])) a) ≡ a
    id a b (yes c) =
        let e = s.distinct a c in
        rw (get_or-append axes (w ∷ []) [] a c) (id_kept axes (w ∷ []) (word_of axes a) (omega arith) ∙ e)
    id a b (no n) = rw (last a b n, at_end) (id_append axes w ∙ omega (arith, id_le axes w))

-- storing a word keeps both
pub intern_stored : (l others : ℕ) (st : Store) (w : List ℕ) → StoredWords l st.axes → IsWord l w → StoredWords l (intern l others st w).axes
unfolding intern
intern_stored l others st w s h =
    on_if (λ (x : Store). StoredWords l x.axes) _ _ _ (λ e. s) (λ e. one_more l st.axes w s h (ltb-false _ _ e))
