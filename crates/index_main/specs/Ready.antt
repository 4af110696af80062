-- Stores that hold the axes so far, and have room for a word of one number in each plane behind the limit. Assumes nothing.
use Rattle.std.specs.Prelude.{◌≡◌, refl, false, List, ℕ, ◌+◌, ◌*◌, ◌≤◌, length, Option, None, Some, Result, Ok}
use Rattle.std.proofs.Common.{sym, ◌∙◌, subst, arith}
use Rattle.pauli.specs.Word.{width}
use Rattle.model.specs.Words.{Store}
use Rattle.model.specs.declared.Counts.{Counts}
use Rattle.model.specs.Checking.{bad_count}
use Rattle.layout.specs.declared.Shape.{Shape}
use Rattle.layout.specs.Words.{OnlyWords}
use Rattle.layout.specs.Index.{index_length}
use Rattle.layout.specs.Shape.{shape_of, row_length, sized_by, Granted}
use Rattle.axes.specs.View.{word_at}
use Rattle.axes.specs.declared.Sizes.{Sizes}
use Rattle.axes.specs.Held.{with_axes, sizes_of, stored_axes, Stored, held_words, held_stored, held_none}
use Rattle.interning.specs.declared.StoredAxis.{StoredAxis}
use Rattle.model.specs.declared.ExpansionLimit.{ExpansionLimit}
use Rattle.interning.specs.Intern.{store_with, InternPre, Stores}
use Rattle.interning.specs.Stored.{InternedAs, interned_is}
use Rattle.interning.specs.Link.{ChainsCleared}

-- a word stands behind the limit, and can be looked for
pub record WordBehind (z : Sizes) (ws xs : List ℕ) : Type 0 where
  pub held : Stored z ws xs
  pub word_in : z.limit + 2 * z.l ≤ length ws

-- it can be laid and stored, too
pub record Ready (z : Sizes) (peak : ℕ) (ws xs : List ℕ) : Type 0 where
  pub behind : WordBehind z ws xs
  pub tested : peak ≤ z.limit
  pub narrow : z.l ≡ 1

-- so can the next, once one is
abbrev pub ReadyAfter : Sizes → Option StoredAxis → List ℕ → List ℕ → Type 0
ReadyAfter z (Some a) ws xs = Ready (with_axes a.axes z) a.peak ws xs
ReadyAfter z None ws xs = Unit {0}

-- a word is laid
pub ready_laid : {z : Sizes} {peak a : ℕ} {ws vs xs : List ℕ} → Ready z peak ws xs → OnlyWords z.limit a ws vs → Ready z peak vs xs
ready_laid h o = record {
  behind = record {
    held = held_stored (held_words h.behind.held o h.behind.held.within);
    word_in = omega (arith, h.behind.word_in, o.long);
  };
  tested = h.tested;
  narrow = h.narrow;
}

-- it may be stored
pub ready_intern : {z : Sizes} {peak : ℕ} {ws xs : List ℕ} → Ready z peak ws xs → InternPre z 0 peak ws xs z.limit
ready_intern h = record {
  held = h.behind.held;
  counted = omega arith;
  tested = h.tested;
  word_in = h.behind.word_in;
  behind = omega arith;
}

-- it is
pub ready_after : {z : Sizes} {peak : ℕ} {ws xs ws' xs' : List ℕ} {r : Result StoredAxis ExpansionLimit} {a : StoredAxis} → Ready z peak ws xs
    → Stores z 0 peak ws xs z.limit r ws' xs' → r ≡ Ok a → Ready (with_axes a.axes z) a.peak ws' xs'
ready_after {z} {peak} {ws} {xs} {ws'} {xs'} h s e =
    let has = subst As e (interned_is z 0 ws xs z.limit st (ready_intern h) h.behind.held s) in
    record {
      behind = record { held = held_stored has.held; word_in = omega (arith, h.behind.word_in, has.kept.long) };
      tested = has.fits;
      narrow = h.narrow;
    }
  where
    st : Store
    st = store_with peak (stored_axes z ws)

    As : Result StoredAxis ExpansionLimit → Type 0
    As q = InternedAs z 0 ws xs st (word_at z.l ws z.limit) q ws' xs'

-- ---- before the first word: what refusal 3 asks for one node on 64 qubits and a limit of 64 words

abbrev small : Counts
small = record { qubits = 64; nodes = 1; operations = 0 }

pub small_counts : bad_count small ≡ false
unfolding bad_count
small_counts = refl

-- the shape's numbers
pub record Small (z : Shape) : Type 0 where
  pub u : z.u ≡ 162
  pub l : z.l ≡ 1
  pub limit : z.limit ≡ 64
  pub index : index_length z.l z.limit ≡ 1056

small_shape : Small (shape_of small 64)
unfolding shape_of row_length width index_length
small_shape = record { u = refl; l = refl; limit = refl; index = refl }

pub small_is : {z : Shape} → z ≡ shape_of small 64 → Small z
small_is e = rw e small_shape

-- stores as long, whose chains are cleared
pub ready_none : {z : Shape} {y : Sizes} {ws xs xs' : List ℕ} → z ≡ shape_of small 64 → y ≡ sizes_of z 0 → length ws ≡ 80 → length xs ≡ 4944
    → ChainsCleared z.u xs xs' → Ready y 0 ws xs'
ready_none {z} {y} {ws} {xs} {xs'} e f a b c = subst (λ (x : Sizes). Ready x 0 ws xs') (sym f) (record {
  behind = record { held = held_stored (held_none granted c.none); word_in = omega (arith, s.l, s.limit) };
  tested = omega arith;
  narrow = s.l;
})
  where
    s : Small z
    s = small_is e

    long : length xs' ≡ 4944
    long = c.numbers.long ∙ b

    granted : Granted z ws xs'
    granted = record {
      sized = sized_by small 64 small_counts (omega arith) e;
      words_long = omega (arith, s.l, s.limit);
      numbers_long = omega (arith, s.u, long);
      index_long = omega (arith, s.u, s.index, long);
    }
