-- Carrying an axis through F: its image is stored, and has its id. Assumes nothing.
use Rattle.std.specs.Prelude.{◌≡◌, refl, ℕ, ◌+◌, ◌*◌, ◌%◌, ◌≤◌, ◌<◌, ◌-◌, length, Result, Ok, Err}
use Rattle.std.proofs.Math.Path.{subst, sym, ap, ap₂}
use Rattle.std.proofs.Common.{◌∙◌, arith}
use mathlib.Core.List.{List, [], ◌∷◌}
use Rattle.std.proofs.Math.ListN.{get_or}
use Rattle.bits.specs.Bit.{bit}
use Rattle.model.specs.Words.{Value, word_of, as_value, Store, id_of, intern}
use Rattle.model.specs.Clifford.{Images, Touched, image_words, word_image}
use Rattle.model.specs.Lists.{any_of, member}
use Rattle.theory.specs.Ids.{id_stored, intern_old, id_in}
use Rattle.layout.specs.declared.Shape.{Shape}
use Rattle.layout.specs.Rows.{f_slot, f_phase, axes_rows}
use Rattle.layout.specs.Only.{Only, only_none}
use Rattle.layout.specs.Words.{axis_place, slot_place, scratch_place, KeptFrom, slot_in, kept_none, kept_then, kept_later, words_kept}
use Rattle.layout.specs.Words.{kept_part, slot_counted}
use Rattle.axes.specs.View.{word_at}
use Rattle.axes.specs.Held.{sizes_of, held_count, held_stored}
use Rattle.model.specs.declared.ExpansionLimit.{ExpansionLimit}
use Rattle.model.specs.Interface.{expansion_limit}
use Rattle.interning.specs.declared.StoredAxis.{StoredAxis}
use Rattle.axes.specs.declared.Sizes.{Sizes}
use Rattle.interning.specs.Intern.{InternPre, Stores}
use Rattle.interning.specs.Stored.{HasAxis, NoRoom, InternedAs, interned_is}
use Rattle.steps.specs.declared.State.{State}
use Rattle.steps.specs.State.{with_image}
use Rattle.words_wellformed.specs.Carrying.{word_image_none}
use Rattle.words_wellformed.specs.Conjugation.{value_eq}
use Rattle.words_wellformed.specs.StoredWords.{StoredWords}
use Rattle.clifford.specs.Holds.{image_in, mask_place, Holds, AxisAt, holds_behind, axis_in}
use Rattle.carrying.specs.Fixed.{NoneMarked, fixed_image}
use Rattle.carrying.specs.Letters.{axis_word, CarryAt, WordCarried}
use Rattle.carrying.specs.Scratch.{scratch_value}

length_zero : {A : Type 0} (xs : List A) → length xs ≡ 0 → xs ≡ []
length_zero [] e = refl
length_zero (x ∷ xs) e = absurd (omega arith)

-- the image of axis a, and the store once it is in
unfoldable pub image_of_axis : ℕ → Touched → ℕ → Value
image_of_axis l t a = word_image l t.held (word_of t.store.axes a)

unfoldable pub carried_store : ℕ → Touched → ℕ → Store
carried_store l t a = intern l (image_words l t.held) t.store (image_of_axis l t a).word

-- id is an axis, and every axis is a word that is stored once
pub record CarryPre (z : Shape) (st : State) (id : ℕ) (ws xs : List ℕ) (t : Touched) : Type 0 where
  pub axis : AxisAt z st.axes st.slots st.peak id ws xs t
  pub stored : StoredWords z.l t.store.axes

-- what carrying leaves of both stores: where an axis is stored, rows that are kept for axes may change
pub record LeftCarried (z : Shape) (ws xs ws' xs' : List ℕ) : Type 0 where
  pub words : KeptFrom (mask_place z) ws ws'
  pub numbers : Only axes_rows z.u xs xs'

pub left_fixed : (z : Shape) (ws xs : List ℕ) → LeftCarried z ws xs ws xs
left_fixed z ws xs = record { words = kept_none _ ws; numbers = only_none axes_rows z.u xs }

-- what the state after a step from st means: the image is stored, with its id and its turns, and all else is st
pub record CarriedTo (z : Shape) (st : State) (id : ℕ) (t : Touched) (ws xs : List ℕ) (s : State) : Type 0 where
  pub id_is : s.id ≡ id_of (carried_store z.l t id).axes (image_of_axis z.l t id).word
  pub id_in : s.id < s.axes
  pub turns_are : s.turns ≡ (image_of_axis z.l t id).turns
  pub small : s.turns < 4
  pub holds : Holds z s.axes st.slots s.peak ws xs (record { store = carried_store z.l t id; held = t.held })
  pub same : s ≡ with_image s.axes s.peak s.id s.turns st

-- what an answer means: the image is stored, or the model's peak is above the limit
pub record CarriedAs (z : Shape) (st : State) (id : ℕ) (t : Touched) (r : Result State ExpansionLimit) (ws xs : List ℕ) : Type 0 where
  pub to : (s : State) → r ≡ Ok s → CarriedTo z st id t ws xs s
  pub refused : r ≡ Err expansion_limit → z.limit < (carried_store z.l t id).peak

pub as_to : {z : Shape} {st s : State} {n p a e id : ℕ} {t : Touched} {ws xs : List ℕ} → s ≡ with_image n p a e st
    → CarriedTo z st id t ws xs (with_image n p a e st) → CarriedAs z st id t (Ok s) ws xs
as_to {z} {st} {s} {id = id} {t} {ws} {xs} f h = record {
  to = λ k e. let g : s ≡ k = cc in subst (CarriedTo z st id t ws xs) (sym f ∙ g) h;
  refused = λ e. let g : ◌≡◌ {A = ℕ} 0 1 = cc in absurd (omega arith);
}

pub as_refused : {z : Shape} {st : State} {id : ℕ} {t : Touched} {ws xs : List ℕ} → z.limit < (carried_store z.l t id).peak
    → CarriedAs z st id t (Err expansion_limit) ws xs
as_refused h = record {
  to = λ k e. let f : ◌≡◌ {A = ℕ} 0 1 = cc in absurd (omega arith);
  refused = λ e. h;
}

module _ {z : Shape} {st : State} {id : ℕ} {ws xs : List ℕ} {t : Touched} (h : CarryPre z st id ws xs t) where
  axes_count : length t.store.axes ≡ st.axes
  axes_count = held_count h.axis.at.holds.axes

  id_count : id < length t.store.axes
  id_count = omega (arith, axes_count, h.axis.id_in)

  pub carry_at : CarryAt z id ws xs t
  carry_at = record {
    held = record { axes = st.axes; slots = st.slots; peak = st.peak; at = h.axis.at; id_in = h.axis.id_in };
    inside = h.axis.inside;
  }

  pub carry_words : (axis_place z.l id + 2 * z.l ≤ z.limit) × (z.limit + 16 * z.l ≤ length ws)
  carry_words = (axis_in h.axis.at.holds h.axis.id_in, h.axis.at.granted.words_long)

  pub carry_numbers : (st.slots * (6 * z.l) ≤ 1048576) × (z.limit ≤ 1048576) × (z.l ≤ 64)
  carry_numbers =
      let r = h.axis.at.holds.room in
      let s = h.axis.at.granted.sized in
      (omega (arith, s.limit), s.limit, s.few)

  -- F leaves it: it has its id, and nothing is stored
  unmoved_to : {s : State} → word_image z.l t.held (axis_word id t) ≡ as_value (axis_word id t)
      → s ≡ with_image st.axes st.peak id 0 st → CarriedAs z st id t (Ok s) ws xs
  unfolding image_of_axis carried_store
  unmoved_to image with_image_lem =
      as_to with_image_lem (record {
        id_is = sym (ap₂ (λ (store : Store) (v : Value). id_of store.axes v.word) same image ∙ h.stored.distinct id id_count);
        id_in = h.axis.id_in;
        turns_are = sym (ap (λ (v : Value). v.turns) image);
        small = omega arith;
        holds =
            subst (λ (store : Store). Holds z st.axes st.slots st.peak ws xs (record { store = store; held = t.held })) (sym same)
            h.axis.at.holds;
        same = refl;
      })
    where
      same : intern z.l (image_words z.l t.held) t.store (word_image z.l t.held (axis_word id t)).word ≡ t.store
      same =
          ap (λ (v : Value). intern z.l (image_words z.l t.held) t.store v.word) image
          ∙ intern_old z.l (image_words z.l t.held) t.store (axis_word id t)
          (omega (arith, h.stored.distinct id id_count, id_count))

  -- no qubit that it acts on is held
  pub fixed_to : {a b : ℕ} {s : State} → a ≡ axis_place z.l id → b ≡ mask_place z → NoneMarked z.l ws a b z.l
      → s ≡ with_image st.axes st.peak id 0 st → CarriedAs z st id t (Ok s) ws xs
  fixed_to {a} place mask marked =
      unmoved_to (fixed_image carry_at (h.stored.words id id_count) place (subst (λ (x : ℕ). NoneMarked z.l ws a x z.l) mask marked))

  -- none is held at all
  pub identity_to : {s : State} → st.slots ≡ 0 → s ≡ with_image st.axes st.peak id 0 st → CarriedAs z st id t (Ok s) ws xs
  identity_to none =
      let empty : t.held ≡ [] = length_zero t.held (h.axis.at.holds.count ∙ none) in
      unmoved_to (ap (λ (held : List Images). word_image z.l held (axis_word id t)) empty ∙ word_image_none z.l (axis_word id t) (h.stored.words id id_count))

  -- it is worked out behind the limit
  module _ {ws₁ : List ℕ} {e : ℕ} (word : WordCarried z id ws t ws₁ e) where
    now_holds : Holds z st.axes st.slots st.peak ws₁ xs t
    now_holds = holds_behind word.words h.axis.at.holds

    long₁ : z.limit + 16 * z.l ≤ length ws₁
    long₁ = omega (arith, h.axis.at.granted.words_long, word.words.long)

    the_word : word_at z.l ws₁ z.limit ≡ (image_of_axis z.l t id).word
    unfolding image_of_axis scratch_value
    the_word = ap (λ (v : Value). v.word) word.value

    -- whatever words are counted besides the axes
    pub intern_there : {o others : ℕ} {y : Sizes} → o ≡ scratch_place z.limit → y ≡ sizes_of z st.axes → others ≤ z.limit
        → InternPre y others st.peak ws₁ xs o
    intern_there e f counted = rw f (record {
      held = held_stored now_holds.axes;
      counted = counted;
      tested = now_holds.peak_in;
      word_in = omega (arith, long₁);
      behind = omega arith;
    })

    others_are : image_words z.l t.held ≡ st.slots * (6 * z.l)
    unfolding image_words
    others_are = ap (λ (x : ℕ). x * (6 * z.l)) h.axis.at.holds.count

    store_is : carried_store z.l t id ≡ intern z.l (st.slots * (6 * z.l)) t.store (word_at z.l ws₁ z.limit)
    unfolding carried_store
    store_is = ap₂ (λ (x : ℕ) (w : List ℕ). intern z.l x t.store w) others_are (sym the_word)

    images_in : st.slots * (6 * z.l) ≤ z.limit
    images_in = omega (arith, h.axis.at.holds.room)

    module _ {r : Result StoredAxis ExpansionLimit} {ws₂ xs₂ : List ℕ} {o : ℕ} {y : Sizes} (scratch : o ≡ scratch_place z.limit) (sizes : y ≡ sizes_of z st.axes)
        (said : Stores y (st.slots * (6 * z.l)) st.peak ws₁ xs o r ws₂ xs₂) where
      -- of the model's store
      said_of : Stores (sizes_of z st.axes) (st.slots * (6 * z.l)) t.store.peak ws₁ xs z.limit r ws₂ xs₂
      said_of = rw now_holds.peak_is (rw (scratch, sizes) at said)

      -- what the answer means
      meant : InternedAs (sizes_of z st.axes) (st.slots * (6 * z.l)) ws₁ xs t.store (word_at z.l ws₁ z.limit) r ws₂ xs₂
      meant =
          interned_is (sizes_of z st.axes) (st.slots * (6 * z.l)) ws₁ xs z.limit t.store
          (rw now_holds.peak_is (intern_there refl refl images_in)) now_holds.axes said_of

      module _ (f : r ≡ Err expansion_limit) where
        no_room : NoRoom (sizes_of z st.axes) (st.slots * (6 * z.l)) ws₁ xs t.store (word_at z.l ws₁ z.limit) ws₂ xs₂
        no_room =
            subst (λ (x : Result StoredAxis ExpansionLimit). InternedAs (sizes_of z st.axes) (st.slots * (6 * z.l)) ws₁ xs t.store
            (word_at z.l ws₁ z.limit) x ws₂ xs₂) f meant

        pub limit_left : LeftCarried z ws xs ws₂ xs₂
        limit_left = record { words = rw no_room.kept (words_kept word.words); numbers = no_room.numbers }

        pub carry_limit : CarriedAs z st id t (Err expansion_limit) ws₂ xs₂
        carry_limit = as_refused (rw store_is no_room.exceeds)

      module _ {a : StoredAxis} (f : r ≡ Ok a) where
        has : HasAxis (sizes_of z st.axes) (st.slots * (6 * z.l)) ws₁ xs t.store (word_at z.l ws₁ z.limit) a ws₂ xs₂
        has =
            subst (λ (x : Result StoredAxis ExpansionLimit). InternedAs (sizes_of z st.axes) (st.slots * (6 * z.l)) ws₁ xs t.store
            (word_at z.l ws₁ z.limit) x ws₂ xs₂) f meant

        kept₂ : KeptFrom (z.limit - st.slots * (6 * z.l)) ws₁ ws₂
        kept₂ = has.kept

        pub carry_left : LeftCarried z ws xs ws₂ xs₂
        carry_left = record { words = kept_then (words_kept word.words) (kept_later (omega arith) kept₂); numbers = has.numbers }

        image_same : (i : ℕ) → i < 3 * st.slots → image_in z ws₂ xs₂ i ≡ image_in z ws₁ xs i
        unfolding image_in member any_of
        image_same i b =
            let room : 3 * st.slots * (2 * z.l) ≤ z.limit = omega (arith, now_holds.room) in
            value_eq (ap (λ (s : List ℕ). get_or s i 0) (has.numbers.rows f_phase (omega arith) refl))
            (kept_part kept₂ (slot_place z.limit z.l i) (2 * z.l)
            (omega (arith, slot_counted z.limit z.l (3 * st.slots) room i b))
            (omega (arith, slot_in z.limit z.l (3 * st.slots) room i b, long₁)))

        next_holds : Holds z a.axes st.slots a.peak ws₂ xs₂ (record {
          store = intern z.l (st.slots * (6 * z.l)) t.store (word_at z.l ws₁ z.limit);
          held = t.held;
        })
        unfolding member any_of
        next_holds = record {
          axes = has.held;
          peak_is = has.peak_is;
          peak_in = has.fits;
          count = h.axis.at.holds.count;
          room = has.room now_holds.room;
          slots = λ q b. ap (λ (s : List ℕ). get_or s q 0) (has.numbers.rows f_slot (omega arith) refl) ∙ h.axis.at.holds.slots q b;
          images = λ i b. image_same i b ∙ now_holds.images i b;
          owners = now_holds.owners;
          mask = λ q b g. ap (λ (x : ℕ). bit x (q % 64)) (kept₂.kept _ (omega arith)) ∙ now_holds.mask q b g;
        }

        new_in : a.id < a.axes
        new_in =
            let k = id_in z.l (st.slots * (6 * z.l)) t.store (word_at z.l ws₁ z.limit) in
            let old = id_stored z.l (st.slots * (6 * z.l)) t.store (word_at z.l ws₁ z.limit) in
            omega (arith, k, old, has.id_is, held_count has.held)

        pub carry_to : {s : State} → s ≡ with_image a.axes a.peak a.id e st → CarriedAs z st id t (Ok s) ws₂ xs₂
        unfolding image_of_axis
        carry_to with_image_lem =
            as_to with_image_lem (record {
              id_is =
                  has.id_is ∙ sym (id_stored z.l (st.slots * (6 * z.l)) t.store (word_at z.l ws₁ z.limit))
                  ∙ ap₂ (λ (store : Store) (w : List ℕ). id_of store.axes w) (sym store_is) the_word;
              id_in = new_in;
              turns_are = unfold scratch_value in (ap (λ (v : Value). v.turns) word.value);
              small = word.small;
              holds =
                  subst (λ (store : Store). Holds z a.axes st.slots a.peak ws₂ xs₂ (record { store = store; held = t.held }))
                  (sym store_is) next_holds;
              same = refl;
            })
