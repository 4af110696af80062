-- The axis that a waiting rotation was carried from, looked up: F is asked whether it carries it there. Assumes nothing.
use Rattle.std.specs.Prelude.{◌≡◌, refl, Bool, true, List, ℕ, ◌*◌, ◌≤◌, ◌<◌, length, Option, Some, None, Result}
use Rattle.std.proofs.Common.{subst, arith}
use Rattle.model.specs.declared.Absorption.{Absorption}
use Rattle.model.specs.Clifford.{word_image}
use Rattle.model.specs.Stream.{Pass}
use Rattle.layout.specs.declared.Shape.{Shape}
use Rattle.layout.specs.Rows.{row_count, carried_from}
use Rattle.layout.specs.Words.{OnlyWords, kept_then, kept_later, words_kept}
use Rattle.layout.specs.Shape.{granted_same}
use Rattle.clifford.specs.Holds.{mask_place}
use Rattle.model.specs.declared.ExpansionLimit.{ExpansionLimit}
use Rattle.absorbing.specs.Absorbing.{CarriesTo}
use Rattle.carrying.specs.Letters.{axis_word}
use Rattle.carrying.specs.Carries.{CarriesAt}
use Rattle.steps.specs.declared.State.{State}
use Rattle.stream_states.specs.States.{held_of, PassAt}
use Rattle.stream_states.specs.Output.{pass_behind}
use Rattle.stream_states.specs.Known.{axes_count, out_few}
use Rattle.merging.specs.Steps.{LeftAbsorbed}
use Rattle.merging.specs.Taking.{MergedAt}
use Rattle.merging.specs.Sources.{source_known}

pub record SourceAt (z : Shape) (st : State) (id : ℕ) (ws xs : List ℕ) (m : Absorption) (n : ℕ) (p : Pass) : Type 0 where
  pub at : PassAt z m n st ws xs p
  pub id_in : id < st.axes

-- none is told
pub none_told : {A : Type 0} (b : ℕ) → None ≡ Some b → A
none_told b e = let f : ◌≡◌ {A = ℕ} 0 1 = cc in absurd (omega arith)

module _ {z : Shape} {st : State} {a id : ℕ} {ws xs : List ℕ} {m : Absorption} {n : ℕ} {p : Pass} (h : SourceAt z st id ws xs m n p)
    (here : a < st.axes) where
  pub carries_at : CarriesAt z a id ws xs (held_of p)
  carries_at = record {
    carry = record {
      held = record {
        axes = st.axes;
        slots = st.slots;
        peak = st.peak;
        at = record { granted = h.at.granted; holds = h.at.holds.clifford };
        id_in = here;
      };
      inside = h.at.fine.inside.axes.words a (omega (arith, axes_count h.at.holds));
    };
    other = record {
      axes = st.axes;
      slots = st.slots;
      peak = st.peak;
      at = record { granted = h.at.granted; holds = h.at.holds.clifford };
      id_in = h.id_in;
    };
  }

  pub told : {r : Bool} → (r ≡ true → (word_image z.l p.held (axis_word a (held_of p))).word ≡ axis_word id (held_of p)) → r ≡ true
      → (b : ℕ) → Some a ≡ Some b → CarriesTo z st.axes b id (held_of p)
  told said e b f =
      let g : a ≡ b = cc in
      subst (λ (x : ℕ). CarriesTo z st.axes x id (held_of p)) g (source_known h.at a id here (said e))

-- ---- a rotation that waits

module _ {z : Shape} {st : State} {j id k : ℕ} {ws xs : List ℕ} {m : Absorption} {n : ℕ} {p : Pass} (h : MergedAt z st j id k None ws xs m n p) where
  pub waiting_read : (row_count * z.u ≤ length xs) × (carried_from < row_count) × (j < z.u)
  waiting_read = (h.at.at.granted.numbers_long, omega arith, omega (arith, h.place, out_few h.at.at))

  pub waiting_source : SourceAt z st id ws xs m n p
  waiting_source = record { at = h.at.at; id_in = h.at.id_in }

  -- with the source that was found
  pub with_source : {source : Option ℕ} {ws₁ : List ℕ} → OnlyWords z.limit (mask_place z) ws ws₁
      → ((b : ℕ) → source ≡ Some b → CarriesTo z st.axes b id (held_of p)) → MergedAt z st j id k source ws₁ xs m n p
  with_source only known = record {
    at = record {
      at = record {
        granted = granted_same h.at.at.granted only.long refl;
        holds = pass_behind only h.at.at.holds;
        fine = h.at.at.fine;
        space = h.at.at.space;
      };
      id_in = h.at.id_in;
      quarters = h.at.quarters;
      few = h.at.few;
      known = known;
    };
    place = h.place;
  }

-- what is left of the words
pub behind_left : {z : Shape} {st : State} {ws xs ws₁ : List ℕ} {r : Result State ExpansionLimit} {ws' xs' : List ℕ} → OnlyWords z.limit (mask_place z) ws ws₁
    → LeftAbsorbed z st ws₁ xs r ws' xs' → LeftAbsorbed z st ws xs r ws' xs'
behind_left only left = record {
  words = kept_then (kept_later (omega arith) (words_kept only)) left.words;
  numbers = left.numbers;
  list = left.list;
}
