-- Row KEPT cleared for three runs: nothing is kept, which is right. Assumes nothing.
use Rattle.std.specs.Prelude.{◌≡◌, List, [], ◌∷◌, ℕ, ◌+◌, ◌-◌, ◌*◌, ◌≤◌, ◌<◌, length, get_or, set}
use Rattle.std.proofs.Common.{ap, ◌∙◌, arith}
use Rattle.std.proofs.Math.Decide.{ℕ_discrete}
use Rattle.store.specs.Row.{row, Written}
use Rattle.layout.specs.Rows.{row_count, kept_row, written_row, entry_own, entry_other}
use Rattle.layout.specs.Only.{Only, only_none, only_then, only_written}
use Rattle.axes.specs.declared.Sizes.{Sizes}
use Rattle.trial.specs.Kept.{says_none}
use Rattle.trial.specs.declared.ThreeGroups.{ThreeGroups}
use Rattle.triples.specs.Pairs.{RunsPre, RunsKept}

-- places from `from` up to e of a row
pub record ForgetPre (xs : List ℕ) (u from e : ℕ) : Type 0 where
  pub long : row_count * u ≤ length xs
  pub order : from ≤ e
  pub end_in : e ≤ u

-- nothing is kept there
pub record Forgotten (xs : List ℕ) (u from e : ℕ) (ys : List ℕ) : Type 0 where
  pub none_kept : (i : ℕ) → from ≤ i → i < e → get_or (row ys u kept_row) i 0 ≡ 0
  pub only : Only (kept_row ∷ []) u xs ys

pub forgotten_none : (xs : List ℕ) (u from : ℕ) → Forgotten xs u from from xs
forgotten_none xs u from = record { none_kept = λ i a b. absurd (omega arith); only = only_none _ _ _ }

module _ {xs : List ℕ} {u from e : ℕ} (h : ForgetPre xs u from e) {ys : List ℕ} {i : ℕ} (f : Forgotten xs u from i ys) where
  pub forgotten_long : row_count * u ≤ length ys
  forgotten_long = omega (arith, f.only.long, h.long)

  -- one place more
  pub forgotten_more : {vs : List ℕ} → i < e → Written ys u kept_row i 0 vs → Forgotten xs u from (i + 1) vs
  forgotten_more {vs} k w = record {
    none_kept = λ j a b. at j a b (ℕ_discrete j i);
    only = only_then f.only (only_written forgotten_long (omega arith) inside w);
  }
    where
      inside : i < u
      inside = omega (arith, h.end_in)

      new : row vs u kept_row ≡ set (row ys u kept_row) i 0
      new = written_row forgotten_long (omega arith) inside w

      at : (j : ℕ) → from ≤ j → j < i + 1 → Dec (j ≡ i) → get_or (row vs u kept_row) j 0 ≡ 0
      at j a b (yes d) =
          ap (λ (n : ℕ). get_or (row vs u kept_row) n 0) d ∙ entry_own ys u kept_row i 0 new forgotten_long (omega arith) inside
      at j a b (no d) = entry_other ys u kept_row i 0 new j d ∙ f.none_kept j a (omega arith)

-- at the end
pub forgotten_all : {xs ys : List ℕ} {u from e i : ℕ} → Forgotten xs u from i ys → e ≤ i → Forgotten xs u from e ys
forgotten_all f h = record { none_kept = λ j a b. f.none_kept j a (omega arith); only = f.only }

-- ---- three runs

module _ {z : Sizes} {ws xs : List ℕ} {r : ThreeGroups} (h : RunsPre z ws xs r) where
  pub runs_forget : ForgetPre xs z.u r.first r.end
  runs_forget =
      let a = h.first_order in
      let b = h.second_order in
      let c = h.third_order in
      record { long = h.stored.numbers_long; order = omega arith; end_in = h.rots.end_in }

  pub forgotten_right : {ys : List ℕ} → Forgotten xs z.u r.first r.end ys → RunsKept z ws ys r
  forgotten_right f =
      let a = h.first_order in
      let b = h.second_order in
      let c = h.third_order in
      record {
        starts = λ s m n. says_none _ (f.none_kept s m (omega arith));
        ends = λ e m n. says_none _ (f.none_kept (e - 1) (omega arith) (omega arith));
      }
