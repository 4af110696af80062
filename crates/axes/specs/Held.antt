-- What both stores hold of the axes: the one thing that packing and the passes carry of them. Assumes nothing.
use Rattle.std.specs.Prelude.{◌≡◌, refl, Bool, true, false, List, [], ℕ, ◌+◌, ◌*◌, ◌≤◌, ◌<◌, length, get_or}
use Rattle.std.proofs.Common.{sym, ap, ◌∙◌, subst, arith}
use Rattle.store.specs.Chunk.{chunks}
use Rattle.store.specs.Wide.{wide_at}
use Rattle.model.specs.Lists.{any_of, member}
use Rattle.model.specs.Words.{word_of, anticommute}
use Rattle.layout.specs.declared.Shape.{Shape}
use Rattle.layout.specs.Rows.{row_count, axes_rows, signature_row, behind_row}
use Rattle.layout.specs.Index.{head_count, heads_place, index_length}
use Rattle.layout.specs.Only.{Only}
use Rattle.layout.specs.Words.{axis_place, slots_le, OnlyWords}
use Rattle.layout.specs.Shape.{longest_row, Granted}
use Rattle.axes.specs.declared.Sizes.{Sizes}
use Rattle.axes.specs.View.{axes_of, axes_length, axes_words, axis_word, read_long}
use Rattle.axes.specs.Pick.{pick_of, digits_of}
use Rattle.axes.specs.Beside.{Beside, same_beside, only_beside, only_index, is_apart, apart_commutes}
use Rattle.axes.specs.Chains.{Index, index_kept, index_none}

-- a run's sizes with n axes
abbrev pub sizes_of : Shape → ℕ → Sizes
sizes_of z n = record { u = z.u; l = z.l; limit = z.limit; axes = n }

-- the same sizes with another number of axes
abbrev pub with_axes : ℕ → Sizes → Sizes
with_axes n z = record { u = z.u; l = z.l; limit = z.limit; axes = n }

-- the axes that are stored
abbrev pub stored_axes : Sizes → List ℕ → List (List ℕ)
stored_axes z ws = axes_of z.l z.axes ws

-- a row has an entry for each word that the limit has room for, behind the rows there is a link for it, and signatures can be worked out
pub record SizesFit (z : Sizes) : Type 0 where
  pub rows : (n : ℕ) → axis_place z.l n ≤ z.limit → n < z.u
  pub links : (n : ℕ) → axis_place z.l n ≤ z.limit → head_count + n ≤ index_length z.l z.limit
  pub narrow : z.l ≤ 64
  pub small : z.u ≤ longest_row

-- the stores hold these axes, as many as z counts, within the limit
pub record HoldsAxes (z : Sizes) (ws xs : List ℕ) (axes : List (List ℕ)) : Type 0 where
  pub are : stored_axes z ws ≡ axes
  pub within : axis_place z.l z.axes ≤ z.limit
  pub words_long : z.limit ≤ length ws
  pub numbers_long : row_count * z.u ≤ length xs
  pub fit : SizesFit z
  pub index_long : row_count * z.u + index_length z.l z.limit ≤ length xs
  pub beside : (a : ℕ) → a < z.axes → Beside z.l z.u xs a (word_of axes a)
  pub index : Index pick_of digits_of z.u z.axes xs axes

-- the stores hold some axes: those that are stored
abbrev pub Stored : Sizes → List ℕ → List ℕ → Type 0
Stored z ws xs = HoldsAxes z ws xs (stored_axes z ws)

module _ {z : Sizes} {ws xs : List ℕ} {axes : List (List ℕ)} (h : HoldsAxes z ws xs axes) where
  -- the same axes by another name
  pub held_as : {others : List (List ℕ)} → axes ≡ others → HoldsAxes z ws xs others
  held_as e = subst (HoldsAxes z ws xs) e h

  pub held_stored : Stored z ws xs
  held_stored = held_as (sym h.are)

  pub held_count : length axes ≡ z.axes
  held_count = ap length (sym h.are) ∙ axes_length z.l z.axes ws

  -- an axis has its word in the store
  pub held_axis : (a : ℕ) → a < z.axes → axis_place z.l a + 2 * z.l ≤ length ws
  held_axis a b = omega (arith, h.within, h.words_long, slots_le z.l a z.axes b)

  -- the word that is read as an axis is as long as a word
  pub held_long : (a : ℕ) → a < z.axes → {p : List ℕ} → p ≡ word_of (stored_axes z ws) a → length p ≡ 2 * z.l
  held_long a b e = read_long z.l ws a (λ n k. e ∙ axis_word z.l z.axes ws a b ∙ sym (axis_word z.l n ws a k)) (held_axis a b)

  -- and its entry in a row
  pub held_entry : (a : ℕ) → a < z.axes → a < z.u
  held_entry a b = omega (arith, h.fit.rows z.axes h.within)

  -- other rows of the number store are written
  pub held_rows : {rs ys : List ℕ} → Only rs z.u xs ys → any_of (λ r. member r rs) axes_rows ≡ false → HoldsAxes z ws ys axes
  held_rows o e = record {
    are = h.are;
    within = h.within;
    words_long = h.words_long;
    numbers_long = omega (arith, h.numbers_long, o.long);
    fit = h.fit;
    index_long = omega (arith, h.index_long, o.long);
    beside = λ a b. same_beside (only_beside o e a) (h.beside a b);
    index = index_kept (only_index o e) h.index;
  }

  -- words behind the axes are written
  pub held_words : {a b : ℕ} {vs : List ℕ} → OnlyWords a b ws vs → axis_place z.l z.axes ≤ a → HoldsAxes z vs xs axes
  held_words {a} {b} {vs} o k = record {
    are = axes_words o z.l z.axes k (omega (arith, h.within, h.words_long)) ∙ h.are;
    within = h.within;
    words_long = omega (arith, h.words_long, o.long);
    numbers_long = h.numbers_long;
    fit = h.fit;
    index_long = h.index_long;
    beside = h.beside;
    index = h.index;
  }

-- axes whose signatures are apart commute
pub apart_axes : {z : Sizes} {ws xs : List ℕ} (h : Stored z ws xs) (a b : ℕ) → a < z.axes → b < z.axes → {r : Bool}
    → r ≡ is_apart z.l (wide_at xs z.u signature_row a) (wide_at xs z.u signature_row b) → r ≡ true
    → anticommute z.l (stored_axes z ws) a b ≡ false
unfolding anticommute
apart_axes h a b c d e t = apart_commutes (h.beside a c).signature (h.beside b d).signature (sym e ∙ t)

-- every chain is empty
pub record NoChains (u : ℕ) (xs : List ℕ) : Type 0 where
  pub clear : (c : ℕ) → c < head_count → get_or xs (heads_place u + c) 0 ≡ 0

-- rows are written
pub no_chains_rows : {rs xs ys : List ℕ} {u : ℕ} → Only rs u xs ys → member behind_row rs ≡ false → NoChains u xs → NoChains u ys
no_chains_rows {u = u} o e n = record { clear = λ c b. o.behind e (heads_place u + c) (omega arith) ∙ n.clear c b }

-- stores as long as granted hold no axes, whatever else is in them
pub held_none : {z : Shape} {ws xs : List ℕ} → Granted z ws xs → NoChains z.u xs → HoldsAxes (sizes_of z 0) ws xs []
unfolding axes_of chunks
held_none g n = record {
  are = refl;
  within = omega arith;
  words_long = omega (arith, g.words_long);
  numbers_long = g.numbers_long;
  fit = record { rows = g.sized.words_row; links = g.sized.words_links; narrow = g.sized.few; small = g.sized.u_small };
  index_long = g.index_long;
  beside = λ a b. absurd (omega arith);
  index = index_none n.clear;
}
