-- 02, M-112: the rules and the state behind an item: behind the named barrier even rotations begin to wait. Assumes nothing.
use Rattle.std.specs.Prelude.{◌≡◌, refl, Bool, false, ◌&&◌, List, [], ◌∷◌, ℕ, ◌-◌, eqb, get_or}
use Rattle.std.proofs.Math.Path.{sym, ap, ap₂, subst}
use Rattle.std.proofs.Common.{◌∙◌, ◌⊎◌, inl, inr, true≢false, arith}
use Rattle.std.proofs.Math.Bool.{true}
use Rattle.model.specs.Lists.{when◌then◌else◌}
use Rattle.model.specs.declared.Lazy.{Lazy}
use Rattle.model.specs.declared.Lazy.TheVariants.{Off, On, From}
use Rattle.model.specs.declared.Absorption.{Absorption}
use Rattle.model.specs.declared.Absorption.TheVariants.{Off as off, AtOnce as at_once, Lazy as lazy}
use Rattle.model.specs.Rules.{is_at_once, names, to_lazy, Rules, after_barrier}
use Rattle.model.specs.Items.{Item, rotation, barrier}
use Rattle.model.specs.Stream.{Pass, rules_after}
use Rattle.theory.specs.Cases.{by_if, on_if, if_true, if_false, and_left}
use Rattle.theory.specs.Every.{Every, every_at}
use Rattle.theory.specs.StreamState.{outside}
use Rattle.layout.specs.declared.Shape.{Shape}
use Rattle.layout.specs.Rows.{out_row, waiting_row}
use Rattle.layout.specs.Only.{only_none}
use Rattle.items.specs.declared.Tagged.{Tagged}
use Rattle.items.specs.View.{item_said, item_at, said_rotation, said_other, view_at_0}
use Rattle.run_wellformed.specs.WaitingItems.{Still}
use Rattle.steps.specs.declared.State.{State}
use Rattle.steps.specs.State.{with_waiting}
use Rattle.stream_states.specs.declared.StreamRules.{StreamRules}
use Rattle.stream_states.specs.States.{is_waiting, Waits, HoldsPass, RulesAs}
use Rattle.stream_states.specs.Output.{list_forgotten, with_list}
use Rattle.stream_states.specs.Known.{out_long}

-- ---- what the code does

-- whether an item is the barrier that the setting names
unfoldable pub named_item : Lazy → Item → Bool
named_item setting (rotation t) = false
named_item setting (barrier o a s) = names setting o

-- behind item x even rotations begin to wait
unfoldable pub begins_at : StreamRules → Tagged → Bool
begins_at c x = is_at_once c.absorption && named_item c.lazy (item_said x)

abbrev pub rules_then : Bool → StreamRules → StreamRules
rules_then begin c = record {
  lookback = c.lookback;
  absorption = when begin then lazy else c.absorption;
  lazy = c.lazy;
  merge = c.merge;
}

-- none is named yet
unfoldable pub state_then : Bool → State → State
state_then begin st = when begin then with_waiting 0 st else st

-- no item is, where the setting names none
pub named_unset : {setting : Lazy} (i : Item) → (setting ≡ Off) ⊎ (setting ≡ On) → false ≡ named_item setting i
unfolding named_item
named_unset (rotation t) e = refl
named_unset (barrier o a s) (inl e) = ap (λ (x : Lazy). names x o) (sym e)
named_unset (barrier o a s) (inr e) = ap (λ (x : Lazy). names x o) (sym e)

-- whether x is named, by the setting
module _ (setting : Lazy) (x : Tagged) where
  pub named_rotation : x.tag ≡ 0 → false ≡ named_item setting (item_said x)
  unfolding named_item
  named_rotation e = ap (named_item setting) (sym (said_rotation x e))

  module _ (n : x.tag ≡ 0 → ⊥) where
    by_setting : {s : Lazy} → setting ≡ s → names s (x.tag - 1) ≡ named_item setting (item_said x)
    unfolding named_item
    by_setting e = ap₂ named_item (sym e) (sym (said_other x n))

    pub named_from : {place : ℕ} → setting ≡ From place → eqb (x.tag - 1) place ≡ named_item setting (item_said x)
    named_from e = by_setting e

-- and whether they are absorbed at once
module _ (c : StreamRules) (x : Tagged) {b : Bool} (told : b ≡ is_at_once c.absorption) where
  pub not_begins : b ≡ false → false ≡ begins_at c x
  unfolding begins_at
  not_begins e = ap (λ (t : Bool). t && named_item c.lazy (item_said x)) (sym e ∙ told)

  pub begins_named : b ≡ true → {named : Bool} → named ≡ named_item c.lazy (item_said x) → named ≡ begins_at c x
  unfolding begins_at
  begins_named e f = f ∙ ap (λ (t : Bool). t && named_item c.lazy (item_said x)) (sym e ∙ told)

-- the rules and the state, by whether even rotations begin to wait
pub rules_kept : (c : StreamRules) {begin : Bool} → begin ≡ false → c ≡ rules_then begin c
unfolding when◌then◌else◌
rules_kept c e = ap (λ (b : Bool). rules_then b c) (sym e)

pub rules_begun : (c : StreamRules) {begin : Bool} → begin ≡ true
    → ◌≡◌ {A = StreamRules} (record { lookback = c.lookback; absorption = lazy; lazy = c.lazy; merge = c.merge }) (rules_then begin c)
unfolding when◌then◌else◌
rules_begun c e = ap (λ (b : Bool). rules_then b c) (sym e)

pub state_kept : (st : State) {begin : Bool} → begin ≡ false → st ≡ state_then begin st
unfolding state_then
state_kept st e = sym (if_false (with_waiting 0 st) st e)

pub state_begun : (st : State) {begin : Bool} {s : State} → begin ≡ true → s ≡ with_waiting 0 st → s ≡ state_then begin st
unfolding state_then
state_begun st e f = f ∙ sym (if_true (with_waiting 0 st) st e)

-- it counts nothing
pub then_merges : (begin : Bool) (st : State) → (state_then begin st).merges ≡ st.merges
unfolding state_then
then_merges begin st = by_if (λ (s : State). s.merges ≡ st.merges) begin (with_waiting 0 st) st refl refl

pub then_absorbed : (begin : Bool) (st : State) → (state_then begin st).absorbed ≡ st.absorbed
unfolding state_then
then_absorbed begin st = by_if (λ (s : State). s.absorbed ≡ st.absorbed) begin (with_waiting 0 st) st refl refl

-- ---- it is the model's `rulesAfter`

item_absorption : (g : Rules) (i : Item)
    → (rules_after g i).absorption ≡ (when named_item g.lazy i then to_lazy g.absorption else g.absorption)
unfolding after_barrier named_item when◌then◌else◌
item_absorption g (rotation t) = refl
item_absorption g (barrier o a s) = refl

item_others : (g : Rules) (i : Item) → ((rules_after g i).lookback ≡ g.lookback) × ((rules_after g i).lazy ≡ g.lazy)
unfolding after_barrier
item_others g (rotation t) = (refl, refl)
item_others g (barrier o a s) = (refl, refl)

-- only where they are absorbed at once does it change anything
begun_is : (m : Absorption) (named : Bool) → (when is_at_once m && named then lazy else m) ≡ (when named then to_lazy m else m)
unfolding when◌then◌else◌
begun_is off true = refl
begun_is off false = refl
begun_is at_once true = refl
begun_is at_once false = refl
begun_is lazy true = refl
begun_is lazy false = refl

at_once_only : (m : Absorption) → is_at_once m ≡ true → m ≡ at_once
at_once_only off e = absurd (true≢false (sym e))
at_once_only at_once e = refl
at_once_only lazy e = absurd (true≢false (sym e))

module _ {c : StreamRules} {g : Rules} (said : RulesAs c g) (x : Tagged) where
  pub rules_then_lem : RulesAs (rules_then (begins_at c x) c) (rules_after g (item_said x))
  rules_then_lem = record {
    lookback = said.lookback ∙ sym (item_others g (item_said x)).0;
    absorption = unfold begins_at in (begun_is c.absorption (named_item c.lazy (item_said x)))
        ∙ ap₂ (λ (m : Absorption) (s : Lazy). when named_item s (item_said x) then to_lazy m else m) said.absorption said.lazy
        ∙ sym (item_absorption g (item_said x));
    lazy = said.lazy ∙ sym (item_others g (item_said x)).1;
  }

  -- ---- and the state holds on

  pub state_then_lem : {z : Shape} {st : State} {ws xs : List ℕ} {q : Pass} → HoldsPass z g.absorption st ws xs q
      → (g.absorption ≡ at_once → Every Still q.out)
      → HoldsPass z (rules_after g (item_said x)).absorption (state_then (begins_at c x) st) ws xs q
  unfolding state_then begins_at
  state_then_lem {z} {st} {ws} {xs} {q} h still =
      on_if (λ (s : State). HoldsPass z (rules_after g (item_said x)).absorption s ws xs q) (begins_at c x) (with_waiting 0 st) st
      (λ e. with_list 0 (only_none (waiting_row ∷ []) z.u xs) (list_forgotten h) (λ l. none (still (at_once_lem e))))
      (λ e. subst (λ (m : Absorption). HoldsPass z m st ws xs q)
      (sym said.absorption ∙ sym (if_false lazy c.absorption e) ∙ rules_then_lem.absorption) h)
    where
      at_once_lem : begins_at c x ≡ true → g.absorption ≡ at_once
      at_once_lem e = sym said.absorption ∙ at_once_only c.absorption (and_left (is_at_once c.absorption) _ e)

      waits_not : (i : Item) → Still i → is_waiting i ≡ true → ⊥
      waits_not (rotation r) s w = true≢false (sym w ∙ s)
      waits_not (barrier o a t) s w = true≢false (sym w)

      none : Every Still q.out → Waits z xs 0 st.out
      none s = record {
        rising = record { below = λ i d e. absurd (omega arith); rises = λ i k d e f. absurd (omega arith) };
        all = λ j b w. absurd (waits_not (item_at xs z.u out_row j)
            (subst Still (ap (λ (is : List Item). get_or is j outside) h.out_is ∙ view_at_0 item_said xs z.u out_row st.out j outside b)
            (every_at Still q.out outside j s (omega (arith, b, out_long h)))) w);
      }
