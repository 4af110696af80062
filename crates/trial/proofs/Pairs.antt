-- A pair of exchanges tried, one and then the other: what an edit of `exchange_of` refutes. Assumes nothing.
use Rattle.std.proofs.Math.Path.{◌≡◌, refl, sym}
use Rattle.std.proofs.Common.{◌∙◌}
use Rattle.std.specs.Prelude.{Bool, true, false, not, Option as Told, Some, None}
use Rattle.std.specs.Option.{is_some}
use Rattle.std.proofs.lemmas.Bool.{false≢true, true≢false}
use Rattle.std.proofs.Math.Option.{Option, none, some, or_else}
use mathlib.Core.List.{List}
use Prim.Native.Nat.{ℕ}
use native.Mathlib.Omega.{arith}
use Rattle.model.specs.declared.ExchangeRules.{ExchangeRules}
use Rattle.model.specs.Items.{Rot}
use Rattle.model.specs.Exchange.{share_axis}
use Rattle.theory.specs.Cases.{if_true, if_false}
use Rattle.layout.specs.Only.{only_none, only_then}
use Rattle.axes.specs.declared.Sizes.{Sizes}
use Rattle.certificate.specs.Groups.{group_in}
use Rattle.trial.specs.declared.ThreeGroups.{ThreeGroups}
use Rattle.trial.specs.Trying.{said}
use Rattle.trial.specs.Kept.{KeptRight, start_kept, end_kept}
use Rattle.trial.specs.Laying.{ThreeGroupsPre, PairPre, first_part, third_part, exchange_of, exchanged, pair_of, ExchangeTried, exchange_same, PairTried, parts_kept, none_tried, tried_as}

exchange_kept : {z : Sizes} {ws xs ys : List ℕ} {t : ThreeGroups} {o : Option (List Rot)} {r : Told ℕ} → ThreeGroupsPre z ws xs t
    → (second : Bool) → ExchangeTried z ws xs t (exchange_of t second) o r ys → (lo hi : ℕ)
    → KeptRight z ws xs lo t.second t.third hi → KeptRight z ws ys lo t.second t.third hi
unfolding exchange_of
exchange_kept {t = t} h true x lo hi k = end_kept h.second_order x.tried.only k t.end h.third_some x.one
exchange_kept {t = t} h false x lo hi k = start_kept h.second_order x.tried.only k t.first h.first_some x.one

-- the other exchange may be tried then
pub pair_kept : {z : Sizes} {ws xs ys : List ℕ} {t : ThreeGroups} {o : Option (List Rot)} {r : Told ℕ} → PairPre z ws xs t
    → (second : Bool) → ExchangeTried z ws xs t (exchange_of t second) o r ys → PairPre z ws ys t
pair_kept {t = t} h second x =
    record { parts = parts_kept h.parts x.tried.only; kept = exchange_kept h.parts second x t.first t.end h.kept }

module _ {z : Sizes} {ws xs : List ℕ} {t : ThreeGroups} (h : PairPre z ws xs t) (rules : ExchangeRules) {b : Bool}
    (test : b ≡ share_axis rules.eager (group_in z xs (first_part t)) (group_in z xs (third_part t))) where
  abbrev one : Option (List Rot)
  one = exchanged z rules.eager ws xs t (exchange_of t rules.second_first)

  abbrev other : Option (List Rot)
  other = exchanged z rules.eager ws xs t (exchange_of t (not rules.second_first))

  pub pair_none : b ≡ false → PairTried z ws xs t (pair_of z rules ws xs t) None xs
  unfolding pair_of
  pair_none f = record { tried = none_tried (only_none _ _ _) (sym (if_false _ _ (sym test ∙ f))); kept = λ lo hi k. k }

  -- the exchange that is tried first improves
  pub pair_one : b ≡ true → {r : Told ℕ} {ys : List ℕ} → ExchangeTried z ws xs t (exchange_of t rules.second_first) one r ys
      → is_some r ≡ true → PairTried z ws xs t (pair_of z rules ws xs t) r ys
  pair_one f {r} {ys} x e = record {
    tried = tried_as (found r one e (sym x.tried.answer) ∙ sym (unfold pair_of in (if_true _ _ (sym test ∙ f)))) x.tried;
    kept = exchange_kept h.parts rules.second_first x;
  }
    where
      found : (q : Told ℕ) (o : Option (List Rot)) → is_some q ≡ true → o ≡ said z.u ys q → o ≡ or_else o other
      found None o k d = absurd (false≢true k)
      found (Some n) none k d = unfold or_else said in (absurd (not_some d))
        where
          not_some : none ≡ said z.u ys (Some n) → ⊥
          not_some q = unfold said in (let w : ◌≡◌ {A = ℕ} 0 1 = cc in omega arith)
      found (Some n) (some rs) k d = unfold or_else in refl

  -- it does not
  pub pair_other : b ≡ true → {r q : Told ℕ} {ys vs : List ℕ} → ExchangeTried z ws xs t (exchange_of t rules.second_first) one r ys
      → is_some r ≡ false
      → ExchangeTried z ws ys t (exchange_of t (not rules.second_first))
      (exchanged z rules.eager ws ys t (exchange_of t (not rules.second_first))) q vs
      → PairTried z ws xs t (pair_of z rules ws xs t) q vs
  unfolding pair_of
  pair_other f {r} {q} {ys} x e y = record {
    tried = record {
      answer = y.tried.answer ∙ exchange_same z rules.eager ws t _ x.tried.only ∙ left ∙ sym (if_true _ _ (sym test ∙ f));
      rots = y.tried.rots;
      fewer = y.tried.fewer;
      only = only_then x.tried.only y.tried.only;
    };
    kept = λ lo hi k.
        exchange_kept (parts_kept h.parts x.tried.only) (not rules.second_first) y lo hi
        (exchange_kept h.parts rules.second_first x lo hi k);
  }
    where
      nothing : (o : Told ℕ) → is_some o ≡ false → said z.u ys o ≡ none
      nothing None k = unfold said in refl
      nothing (Some n) k = absurd (true≢false k)

      left : other ≡ or_else one other
      left = rw (sym x.tried.answer ∙ nothing r e) (unfold or_else in refl)
