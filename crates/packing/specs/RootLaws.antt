-- Before a root's turn: what memory holds of its node, the root's sign, the model's next state, what `intern` answers. Assumes nothing.
use Rattle.std.specs.Prelude.{◌≡◌, true, false, List, ℕ, suc, ◌+◌, ◌*◌, ◌%◌, ◌<◌, Result, Ok, Err}
use Rattle.std.proofs.Common.{sym, ap, ◌∙◌, subst, subst₂, arith, eq-eqb, ne_eqb}
use Rattle.std.proofs.Math.Path.{ap₂}
use Rattle.model.specs.Lists.{is_odd}
use Rattle.model.specs.Program.{Program}
use Rattle.model.specs.Words.{Store, intern}
use Rattle.model.specs.Packing.{with_store, with_refusal, use_node, pack_root}
use Rattle.theory.specs.Cases.{if_true, if_false}
use Rattle.axes.specs.View.{word_at}
use Rattle.axes.specs.Held.{sizes_of, held_stored}
use Rattle.interning.specs.Intern.{InternPre, Stores}
use Rattle.interning.specs.Stored.{HasAxis, NoRoom, InternedAs, interned_is}
use Rattle.axes.specs.declared.Sizes.{Sizes}
use Rattle.interning.specs.declared.StoredAxis.{StoredAxis}
use Rattle.model.specs.declared.ExpansionLimit.{ExpansionLimit}
use Rattle.model.specs.Interface.{expansion_limit}
use Rattle.layout.specs.declared.Shape.{Shape}
use Rattle.layout.specs.Words.{slot_place, slot_in, slot_counted}
use Rattle.packing_states.specs.References.{reference_at}
use Rattle.packing_states.specs.States.{value_of, within}
use Rattle.packing_states.specs.StateLaws.{pack_reference_lem}
use Rattle.packing.specs.declared.Slots.{Slots}
use Rattle.packing.specs.declared.ValueHeld.{ValueHeld}
use Rattle.packing.specs.Holding.{RootAt}
use Rattle.packing.specs.Bounds.{slots_fit, nodes_in_lem, width_is, held_pre}
use Rattle.packing.specs.Values.{slot_of, HeldPre, held_at}
use Rattle.packing.specs.ValueLaws.{held_place, held_phase}
use Rattle.packing.specs.NodeValues.{value_turns}

-- ---- signs

sum_mod : (a b : ℕ) → (a + b % 4) % 4 ≡ (a + b) % 4
sum_mod a b = omega arith

mod_odd : (a : ℕ) → (a % 4) % 2 ≡ a % 2
mod_odd a = omega arith

-- ---- roots

-- the model's store once the root's word is stored
abbrev pub root_store : Program → Shape → Slots → ℕ → ℕ → Store
root_store p z st n j = intern z.l (st.slots * (2 * z.l)) (within p n j).store (value_of p n).word

-- what the axis of the root's word means
abbrev pub RootHasAxis : Program → Shape → Slots → ℕ → ℕ → List ℕ → List ℕ → StoredAxis → List ℕ → List ℕ → Type 0
RootHasAxis p z st n j ws xs a ws' xs' =
    HasAxis (sizes_of z st.axes) (st.slots * (2 * z.l)) ws xs (within p n j).store (value_of p n).word a ws' xs'

-- what its refusal means
abbrev pub RootNoRoom : Program → Shape → Slots → ℕ → ℕ → List ℕ → List ℕ → List ℕ → List ℕ → Type 0
RootNoRoom p z st n j ws xs ws' xs' =
    NoRoom (sizes_of z st.axes) (st.slots * (2 * z.l)) ws xs (within p n j).store (value_of p n).word ws' xs'

-- ---- before the root's turn

module _ {p : Program} {z : Shape} {st : Slots} {n j phase : ℕ} {ws xs : List ℕ} (h : RootAt p z st n j phase ws xs) where
  slot_below : slot_of xs z.u n < st.slots
  slot_below = h.holding.held.slot n (omega arith) h.used

  -- the reference has its entry in a row
  pub reference_in : j < z.u
  reference_in = omega (arith, h.reference, h.program.references, h.granted.sized.row)

  pub node_in : n < z.u
  node_in = omega (arith, h.node, nodes_in_lem h.granted)

  pub node_held : HeldPre z xs n
  node_held = held_pre h.granted h.holding n (omega arith) h.node h.used

  module _ {v : ValueHeld} (e : v ≡ held_at z xs n) where
    held_turns : v.phase ≡ (value_of p n).turns
    held_turns = held_phase z xs n e ∙ h.holding.held.turns n (omega arith) h.used

    pub held_small : v.phase < 4
    held_small = omega (arith, held_turns, value_turns p h.program.fine n (omega (arith, h.node, h.program.nodes)))

    held_word : word_at z.l ws v.at ≡ (value_of p n).word
    held_word = ap (word_at z.l ws) (held_place z xs n e) ∙ h.holding.held.word n (omega arith) h.used

    sizes_pre : InternPre (sizes_of z st.axes) (st.slots * (2 * z.l)) (within p n j).store.peak ws xs v.at
    sizes_pre =
        let s = slot_of xs z.u n in
        let at : v.at ≡ slot_place z.limit z.l s = held_place z xs n e in
        record {
          held = held_stored h.holding.axes;
          counted = slots_fit h.holding;
          tested = h.holding.fits;
          word_in = omega (arith, at, h.granted.words_long, slot_in z.limit z.l st.slots (slots_fit h.holding) s slot_below);
          behind = omega (arith, at, slot_counted z.limit z.l st.slots (slots_fit h.holding) s slot_below);
        }

    pub intern_pre : {sizes : Sizes} → sizes ≡ sizes_of z st.axes → InternPre sizes (st.slots * (2 * z.l)) st.peak ws xs v.at
    intern_pre f = rw (f, sym h.holding.peak) sizes_pre

    -- the root's total phase
    pub phase_total : (v.phase + phase % 4) % 4 ≡ ((value_of p n).turns + (reference_at p j).phase) % 4
    phase_total = sum_mod v.phase phase ∙ ap₂ (λ (a b : ℕ). (a + b) % 4) held_turns h.phase_is

    pub odd_root : ((v.phase + phase % 4) % 4) % 2 ≡ 1 → is_odd ((value_of p n).turns + (reference_at p j).phase) ≡ true
    odd_root o =
        eq-eqb _ 1 (sym (mod_odd ((value_of p n).turns + (reference_at p j).phase)) ∙ ap (λ (a : ℕ). a % 2) (sym phase_total) ∙ o)

    pub even_root : (((v.phase + phase % 4) % 4) % 2 ≡ 1 → ⊥) → is_odd ((value_of p n).turns + (reference_at p j).phase) ≡ false
    even_root o =
        ne_eqb _ 1 (λ q. o (ap (λ (a : ℕ). a % 2) phase_total ∙ mod_odd ((value_of p n).turns + (reference_at p j).phase) ∙ q))

  -- the model's next state: refused, or with the word stored and a use given up
  pub refused_next : is_odd ((value_of p n).turns + (reference_at p j).phase) ≡ true → within p n (suc j) ≡ with_refusal (within p n j)
  unfolding pack_root
  refused_next e = pack_reference_lem p n j h.root h.holding.going ∙ if_true _ _ e

  pub stored_next : is_odd ((value_of p n).turns + (reference_at p j).phase) ≡ false
      → within p n (suc j) ≡ use_node n (with_store (root_store p z st n j) (within p n j))
  unfolding pack_root
  stored_next e =
      pack_reference_lem p n j h.root h.holding.going ∙ if_false _ _ e
      ∙ ap₂ (λ (l s : ℕ). use_node n (with_store (intern l (s * (2 * l)) (within p n j).store (value_of p n).word) (within p n j)))
      (width_is h.granted h.program) h.holding.slots

  -- ---- the answer of `intern`

  module _ {v : ValueHeld} (e : v ≡ held_at z xs n) {sizes : Sizes} (f : sizes ≡ sizes_of z st.axes) {r : Result StoredAxis ExpansionLimit} {ws' xs' : List ℕ}
      (s : Stores sizes (st.slots * (2 * z.l)) st.peak ws xs v.at r ws' xs') where
    stored_as : InternedAs (sizes_of z st.axes) (st.slots * (2 * z.l)) ws xs (within p n j).store (value_of p n).word r ws' xs'
    stored_as =
        subst (λ (w : List ℕ). InternedAs (sizes_of z st.axes) (st.slots * (2 * z.l)) ws xs (within p n j).store w r ws' xs')
        (held_word e)
        (interned_is _ _ ws xs v.at (within p n j).store (sizes_pre e) h.holding.axes
        (subst₂ (λ (y : Sizes) (q : ℕ). Stores y (st.slots * (2 * z.l)) q ws xs v.at r ws' xs') f (sym h.holding.peak) s))

    pub root_has_axis : {a : StoredAxis} → r ≡ Ok a → RootHasAxis p z st n j ws xs a ws' xs'
    root_has_axis q = rw q at stored_as

    pub root_no_room : r ≡ Err expansion_limit → RootNoRoom p z st n j ws xs ws' xs'
    root_no_room q = rw q at stored_as
