-- F begins as the identity. Assumes nothing.
use Rattle.std.specs.Prelude.{◌≡◌, refl, List, [], ◌∷◌, ℕ, ◌+◌, ◌*◌, ◌≤◌, length, replicate}
use Rattle.std.proofs.Common.{arith}
use Rattle.std.proofs.lemmas.List.{length-replicate}
use Rattle.store.specs.Part.{put}
use Rattle.model.specs.Words.{Store}
use Rattle.model.specs.Lists.{all_of, any_of, member}
use Rattle.layout.specs.declared.Shape.{Shape}
use Rattle.layout.specs.Rows.{f_slot}
use Rattle.layout.specs.Only.{Only, only_of}
use Rattle.layout.specs.Words.{OnlyWords, words_put, words_kept}
use Rattle.layout.specs.Shape.{Granted}
use Rattle.layout.specs.Cleared.{cleared_only, cleared_at}
use Rattle.axes.specs.Held.{sizes_of, HoldsAxes, held_rows, held_words}
use Rattle.clifford_states.specs.Slots.{slot_from}
use Rattle.clifford.specs.Holds.{mask_place, Holds, f_rows, LeftF}

-- F is the identity: whatever axes there are
pub record Begun (z : Shape) (ws xs ws' xs' : List ℕ) : Type 0 where
  pub left : LeftF z ws xs ws' xs'
  pub begun : (n : ℕ) (st : Store) → HoldsAxes (sizes_of z n) ws xs st.axes → st.peak ≤ z.limit
      → Holds z n 0 st.peak ws' xs' (record { store = st; held = [] })

pub begin_holds : {z : Shape} {ws xs ws' xs' : List ℕ} {a : ℕ} → Granted z ws xs → a ≡ z.limit + 4 * z.l
    → ws' ≡ put ws a (replicate z.l 0) → xs' ≡ put xs (f_slot * z.u) (replicate z.qubits 0) → Begun z ws xs ws' xs'
unfolding slot_from all_of member any_of
begin_holds {z} {ws} {xs} {ws'} {xs'} {a} g e f k = record {
  left = record { words = words_kept behind; numbers = only_of f_rows refl cleared };
  begun = λ n st h fits. record {
    axes = held_rows (held_words h behind (omega (arith, h.within))) cleared refl;
    peak_is = refl;
    peak_in = fits;
    count = refl;
    room = omega (arith, h.within);
    slots = λ i b. cleared_at xs z.u f_slot z.qubits g.numbers_long (omega arith) (omega (arith, g.sized.row)) k i b;
    images = λ i b. absurd (omega arith);
    owners = λ s b. absurd (omega arith);
    mask = λ i b n. absurd (n refl);
  };
}
  where
    cleared : Only (f_slot ∷ []) z.u xs xs'
    cleared = cleared_only xs z.u f_slot z.qubits g.numbers_long (omega arith) (omega (arith, g.sized.row)) k

    long : length {A = ℕ} (replicate z.l 0) ≡ z.l
    long = length-replicate z.l 0

    behind : OnlyWords (mask_place z) (mask_place z + z.l) ws ws'
    behind =
        rw (f, e) (words_put _ _ ws (mask_place z) (replicate z.l 0) (omega arith) (omega (arith, long))
        (omega (arith, long, g.words_long)))
