-- Absorbing: the axis's qubits are touched, then images change, as the model's `absorbWord` has it. With B = F(A) an image F(P) anticommutes
-- with B exactly where P does with A, so only images of the letters on A's qubits can change. Assumes nothing.
use Rattle.std.specs.Prelude.{◌≡◌, Bool, true, false, ℕ, zero, suc, ◌+◌, ◌*◌, ◌/◌, ◌%◌, ◌≤◌, ◌<◌, ◌-◌, ◌^◌, Option, Some, Result, Ok, Err}
use Rattle.std.proofs.Common.{subst, ◌∙◌, true≢false, arith}
use Rattle.std.proofs.Math.Path.{refl, sym, ap}
use mathlib.Core.List.{List, map}
use Rattle.std.proofs.Math.ListN.{get_or, length-map}
use Rattle.bits.specs.Bit.{bit}
use Rattle.pauli.specs.Word.{symplectic}
use Rattle.pauli.specs.Letter.{letter_at, single}
use Rattle.pauli.specs.ProductLaws.{symplectic_comm}
use Rattle.model.specs.Words.{Value, word_of, support}
use Rattle.model.specs.Clifford.{Touched, absorb_image, touch_all, absorb_images, absorb_word, letter_image}
use Rattle.model.specs.Lists.{all_of, any_of, member}
use Rattle.theory.specs.Cases.{if_true, if_false}
use Rattle.theory.specs.Every.{Every}
use Rattle.layout.specs.declared.Shape.{Shape}
use Rattle.layout.specs.Rows.{f_slot}
use Rattle.layout.specs.Only.{only_of}
use Rattle.layout.specs.Words.{axis_place, slots_le, kept_later, words_kept}
use Rattle.layout.specs.Shape.{Granted}
use Rattle.axes.specs.View.{word_at, axis_word}
use Rattle.axes.specs.Held.{held_rows, held_words}
use Rattle.words_wellformed.specs.HeldImages.{IsQuarters, IsXYZ, idle, absorb_image_commuting, touch_all_letter}
use Rattle.words_wellformed.specs.Commuting.{single_commutes}
use Rattle.words_wellformed.specs.Inside.{Inside, inside_support}
use Rattle.words_wellformed.specs.SupportQubits.{support_each}
use Rattle.steps.specs.declared.State.{State}
use Rattle.model.specs.declared.ExpansionLimit.{ExpansionLimit}
use Rattle.model.specs.Interface.{expansion_limit}
use Rattle.clifford_states.specs.Slots.{slot_of, qubit_at, slot_qubit, slot_absorbed, image_absorbed, qubit_absorbed, letter_held}
use Rattle.clifford_states.specs.SetBits.{touch_all_axes}
use Rattle.clifford.specs.Holds.{image_in, Holds, SomeTouched, f_rows, LeftF, TouchedAs, as_next, as_limit, left_then, granted_left, AxisAt, axis_in}
use Rattle.absorbing.specs.Turning.{TurnsPre, ImagesTurned}
use Rattle.absorbing.specs.Qubits.{slot_in, changed, TurnedFor, ActedPre, member_all}

-- F carries axis a to axis id: id stands to the image of every letter as a stands to the letter
pub record CarriesTo (z : Shape) (n a id : ℕ) (t : Touched) : Type 0 where
  pub a_in : a < n
  pub inside : Inside z.l z.qubits (word_of t.store.axes a)
  pub commute : (q c : ℕ) → q < 64 * z.l → IsXYZ c
      → symplectic z.l (word_of t.store.axes id) (letter_image z.l t.held q c).word
      ≡ symplectic z.l (word_of t.store.axes a) (single z.l q c)

-- angle k, which is 2, 4 or 6, about axis id, and where it is known the axis that F carries to it
pub record AbsorbAt (z : Shape) (n m p id k : ℕ) (source : Option ℕ) (ws xs : List ℕ) (t : Touched) : Type 0 where
  pub axis : AxisAt z n m p id ws xs t
  pub quarters : IsQuarters k
  pub known : (a : ℕ) → source ≡ Some a → CarriesTo z n a id t

-- ---- the images of an axis's qubits are all that can change

module _ {z : Shape} {n m p id k : ℕ} {source : Option ℕ} {ws xs : List ℕ} {t : Touched} (h : AbsorbAt z n m p id k source ws xs t) where
  holds : Holds z n m p ws xs t
  holds = h.axis.at.holds

  granted : Granted z ws xs
  granted = h.axis.at.granted

  images_entry : 3 * m < z.u
  images_entry = granted.sized.words_row (3 * m) (omega (arith, holds.room))

  pub images_small : 3 * m < 1187839
  images_small = omega (arith, images_entry, granted.sized.u_small)

  pub axis_here : axis_place z.l id + 2 * z.l < 2 ^ 64
  axis_here = omega (arith, axis_in holds h.axis.id_in, granted.sized.limit)

  axis_is : word_at z.l ws (axis_place z.l id) ≡ word_of t.store.axes id
  axis_is =
      sym (axis_word z.l n ws id h.axis.id_in) ∙ ap (λ (axes : List (List ℕ)). word_of axes id) holds.axes.are

  module _ {b : ℕ} (place : b ≡ axis_place z.l id) where
    pub turns_there : TurnsPre z (3 * m) b k ws xs
    turns_there = record {
      slots = omega (arith, holds.room);
      words_long = omega (arith, granted.words_long);
      numbers_long = granted.numbers_long;
      entry = omega (arith, images_entry);
      small = granted.sized.u_small;
      word = omega (arith, place, holds.room, slots_le z.l id n h.axis.id_in);
      quarters = h.quarters;
    }

    module _ {a : ℕ} (of : source ≡ Some a) where
      from : CarriesTo z n a id t
      from = h.known a of

      pub source_here : axis_place z.l a + 2 * z.l < 2 ^ 64
      source_here = omega (arith, axis_in holds from.a_in, granted.sized.limit)

      source_is : word_at z.l ws (axis_place z.l a) ≡ word_of t.store.axes a
      source_is =
          sym (axis_word z.l n ws a from.a_in) ∙ ap (λ (axes : List (List ℕ)). word_of axes a) holds.axes.are

      slot_some : (q : ℕ) → q < z.qubits → (s : ℕ) → slot_in z xs q ≡ suc s → (qubit_at t.held s ≡ q) × (slot_of q t.held ≡ 1 + s)
      slot_some q b s e =
          let f : slot_of q t.held ≡ 1 + s = sym (holds.slots q b) ∙ e ∙ (let g : suc s ≡ 1 + s = omega arith in g) in
          (slot_qubit 0 q t.held s f, f)

      slot_few : (q v : ℕ) → q < z.qubits → slot_in z xs q ≡ v → v ≤ m
      slot_few q zero b e = omega arith
      slot_few q (suc s) b e =
          omega (arith, (letter_held z.l 0 s t.held q 0 (omega arith) (slot_some q b s e).1).0, holds.count)

      pub acted_pre : {at : ℕ} → at ≡ axis_place z.l a → ActedPre z m at b k ws xs
      acted_pre {at} there = record {
        at = record {
          turns = turns_there;
          row_long = omega (arith, granted.sized.row);
          slots = λ q c. slot_few q (slot_in z xs q) c refl;
          apart = λ q r c d some e. same q r (slot_in z xs q) c d refl some e;
        };
        few = granted.sized.few;
        word = omega (arith, there, holds.room, slots_le z.l a n from.a_in);
        qubits = subst (λ (w : List ℕ). Every (λ q. q < z.qubits) (support z.l w)) (sym (ap (word_at z.l ws) there ∙ source_is))
            (inside_support from.inside);
      }
        where
          same : (q r v : ℕ) → q < z.qubits → r < z.qubits → slot_in z xs q ≡ v → (slot_in z xs q ≡ 0 → ⊥) → slot_in z xs q ≡ slot_in z xs r → q ≡ r
          same q r zero c d e some f = absurd (some e)
          same q r (suc s) c d e some f = sym (slot_some q c s e).0 ∙ (slot_some r d s (sym f ∙ e)).0

      -- an image of another qubit commutes with the axis
      others_stay : (q c s : ℕ) → q < 64 * z.l → c < 3 → slot_of q t.held ≡ 1 + s → member q (support z.l (word_of t.store.axes a)) ≡ false
          → absorb_image z.l (word_of t.store.axes id) k (image_in z ws xs (3 * s + c)) ≡ image_in z ws xs (3 * s + c)
      others_stay q c s b d e out =
          let found = letter_held z.l 0 s t.held q c d e in
          let image : letter_image z.l t.held q (suc c) ≡ image_in z ws xs (3 * s + c)
          = found.1 ∙ sym (holds.images (3 * s + c) (omega (arith, found.0, holds.count))) in
          absorb_image_commuting z.l (word_of t.store.axes id) k (image_in z ws xs (3 * s + c))
          (ap (λ (v : Value). symplectic z.l (word_of t.store.axes id) v.word) (sym image)
          ∙ from.commute q (suc c) b (record { some = omega arith; small = omega arith })
          ∙ symplectic_comm z.l (word_of t.store.axes a) (single z.l q (suc c))
          ∙ single_commutes z.l q (suc c) (word_of t.store.axes a) b (idle (letter_at z.l (word_of t.store.axes a) q)
          (λ f. true≢false (sym (support_each z.l (word_of t.store.axes a)
          (λ r. member r (support z.l (word_of t.store.axes a)) ≡ true) (member_all (support z.l (word_of t.store.axes a))) q b f)
          ∙ out))))

      pub acted_all : {at : ℕ} {ws' xs' : List ℕ} → at ≡ axis_place z.l a
          → TurnedFor z m b k (support z.l (word_at z.l ws at)) ws xs ws' xs' → ImagesTurned z (3 * m) b k ws xs ws' xs'
      acted_all {at} {ws'} {xs'} there turned = record {
        done = λ j c. each j (j / 3) (j % 3) (omega arith) (omega arith) (omega arith);
        words = turned.words;
        numbers = turned.numbers;
      }
        where
          word_a : word_at z.l ws at ≡ word_of t.store.axes a
          word_a = ap (word_at z.l ws) there ∙ source_is

          word_b : word_at z.l ws b ≡ word_of t.store.axes id
          word_b = ap (word_at z.l ws) place ∙ axis_is

          each : (j s c : ℕ) → j ≡ 3 * s + c → s < m → c < 3
              → image_in z ws' xs' j ≡ absorb_image z.l (word_at z.l ws b) k (image_in z ws xs j)
          each j s c e here c3 =
              let o = holds.owners s here in
              let q = qubit_at t.held s in
              let slot : slot_in z xs q ≡ suc s = holds.slots q o.inside ∙ o.slot ∙ (let g : 1 + s ≡ suc s = omega arith in g) in
              rw e (turned.images q o.inside s slot c c3 ∙ go q o.inside o.slot (member q (support z.l (word_at z.l ws at))) refl)
            where
              go : (q : ℕ) → q < z.qubits → slot_of q t.held ≡ 1 + s → (x : Bool) → member q (support z.l (word_at z.l ws at)) ≡ x
                  → changed z b k (support z.l (word_at z.l ws at)) ws xs q (3 * s + c)
                  ≡ absorb_image z.l (word_at z.l ws b) k (image_in z ws xs (3 * s + c))
              go q d f true m = if_true _ _ m
              go q d f false m =
                  if_false _ _ m
                  ∙ sym (ap (λ (w : List ℕ). absorb_image z.l w k (image_in z ws xs (3 * s + c))) word_b
                  ∙ others_stay q c s (omega (arith, granted.sized.bits)) c3 f
                  (ap (λ (w : List ℕ). member q (support z.l w)) (sym word_a) ∙ m))

-- what the call that touches leaves
abbrev pub AxisLeft : Shape → State → ℕ → List ℕ → List ℕ → Result State ExpansionLimit → List ℕ → List ℕ → Type 0
AxisLeft z st id ws xs r ws' xs' =
    LeftF z ws xs ws' xs'
    × ((t : Touched) → AxisAt z st.axes st.slots st.peak id ws xs t
    → TouchedAs z st r ws' xs' (touch_all z.l t (support z.l (word_of t.store.axes id))))

-- ---- the images change

module _ {z : Shape} {n m p b k : ℕ} {ws xs ws' xs' : List ℕ} {t : Touched} (h : Holds z n m p ws xs t)
    (turned : ImagesTurned z (3 * m) b k ws xs ws' xs') where
  images_behind : axis_place z.l n ≤ z.limit - 3 * m * (2 * z.l)
  images_behind = omega (arith, h.room)

  pub turned_holds : Holds z n m p ws' xs' (record { store = t.store; held = map (absorb_images z.l (word_at z.l ws b) k) t.held })
  unfolding member any_of
  turned_holds = record {
    axes = held_rows (held_words h.axes turned.words images_behind) turned.numbers refl;
    peak_is = h.peak_is;
    peak_in = h.peak_in;
    count = length-map t.held (absorb_images z.l (word_at z.l ws b) k) ∙ h.count;
    room = h.room;
    slots = λ q c.
        ap (λ (r : List ℕ). get_or r q 0) (turned.numbers.rows f_slot (omega arith) refl) ∙ h.slots q c
        ∙ sym (slot_absorbed 1 q z.l (word_at z.l ws b) k t.held);
    images = λ i c.
        turned.done i c ∙ ap (absorb_image z.l (word_at z.l ws b) k) (h.images i c)
        ∙ sym (image_absorbed z.l (word_at z.l ws b) k t.held i (omega (arith, h.count)));
    owners = λ s c.
        let same = qubit_absorbed z.l (word_at z.l ws b) k t.held s in
        record {
          inside = rw same (h.owners s c).inside;
          slot = rw same (slot_absorbed 1 (qubit_at t.held s) z.l (word_at z.l ws b) k t.held ∙ (h.owners s c).slot);
        };
    mask = λ q c e.
        ap (λ (x : ℕ). bit x (q % 64)) (turned.words.above _ (omega arith))
        ∙ h.mask q c (λ f. e (slot_absorbed 1 q z.l (word_at z.l ws b) k t.held ∙ f));
  }

  pub turned_left : LeftF z ws xs ws' xs'
  unfolding all_of member any_of
  turned_left = record {
    words = kept_later (omega arith) (words_kept turned.words);
    numbers = only_of f_rows refl turned.numbers;
  }

-- ---- both steps

module _ {z : Shape} {st : State} {id k : ℕ} {source : Option ℕ} {ws xs ws₁ xs₁ : List ℕ} {r : Result State ExpansionLimit} (touched : AxisLeft z st id ws xs r ws₁ xs₁) where
  pub absorb_limit : r ≡ Err expansion_limit → (t : Touched) → AbsorbAt z st.axes st.slots st.peak id k source ws xs t
      → TouchedAs z st (Err expansion_limit) ws₁ xs₁ (absorb_word z.l t (word_of t.store.axes id) k)
  unfolding absorb_word
  absorb_limit e t h = as_limit ((touched.1 t h.axis).refused e)

  module _ {s : State} (e : r ≡ Ok s) where
    module _ {t : Touched} (h : AbsorbAt z st.axes st.slots st.peak id k source ws xs t) where
      abbrev now : Touched
      now = touch_all z.l t (support z.l (word_of t.store.axes id))

      now_holds : Holds z s.axes s.slots s.peak ws₁ xs₁ (touch_all z.l t (support z.l (word_of t.store.axes id)))
      now_holds = (touched.1 t h.axis).held s e

      same_axes : (touch_all z.l t (support z.l (word_of t.store.axes id))).store.axes ≡ t.store.axes
      same_axes = touch_all_axes z.l t (support z.l (word_of t.store.axes id))

      as_many : s.axes ≡ st.axes
      as_many = ap (λ (x : State). x.axes) ((touched.1 t h.axis).kept s e)

      -- touching changes no letter's image, and no axis
      still_known : (a : ℕ) → source ≡ Some a
          → CarriesTo z s.axes a id (touch_all z.l t (support z.l (word_of t.store.axes id)))
      still_known a f =
          let c = h.known a f in
          record {
            a_in = omega (arith, c.a_in, as_many);
            inside = rw same_axes c.inside;
            commute = λ q d b xyz.
                rw same_axes (ap (λ (v : Value). symplectic z.l (word_of t.store.axes id) v.word)
                (touch_all_letter z.l t (support z.l (word_of t.store.axes id)) q d xyz) ∙ c.commute q d b xyz);
          }

      pub now_at : AbsorbAt z s.axes s.slots s.peak id k source ws₁ xs₁
          (touch_all z.l t (support z.l (word_of t.store.axes id)))
      now_at = record {
        axis = record {
          at = record { granted = granted_left h.axis.at.granted touched.0; holds = now_holds };
          id_in = omega (arith, h.axis.id_in, as_many);
          inside = rw same_axes h.axis.inside;
        };
        quarters = h.quarters;
        known = still_known;
      }

    pub absorb_turns : SomeTouched (λ (t : Touched). AbsorbAt z st.axes st.slots st.peak id k source ws xs t)
        → SomeTouched (λ (t : Touched). AbsorbAt z s.axes s.slots s.peak id k source ws₁ xs₁ t)
    absorb_turns some = record { state = now some.it; it = now_at some.it }

    module _ {ws₂ xs₂ : List ℕ} (turned : ImagesTurned z (3 * s.slots) (axis_place z.l id) k ws₁ xs₁ ws₂ xs₂) where
      pub absorb_left : SomeTouched (λ (t : Touched). AbsorbAt z st.axes st.slots st.peak id k source ws xs t) → LeftF z ws xs ws₂ xs₂
      absorb_left some = left_then touched.0 (turned_left (now_holds some.it) turned)

      pub absorb_holds : (t : Touched) → AbsorbAt z st.axes st.slots st.peak id k source ws xs t
          → TouchedAs z st (Ok s) ws₂ xs₂ (absorb_word z.l t (word_of t.store.axes id) k)
      unfolding absorb_word
      absorb_holds t h =
          let word : word_at z.l ws₁ (axis_place z.l id) ≡ word_of t.store.axes id
          = axis_is (now_at h) ∙ ap (λ (axes : List (List ℕ)). word_of axes id) (same_axes h) in
          as_next ((touched.1 t h.axis).kept s e) (rw word at (turned_holds (now_holds h) turned))
