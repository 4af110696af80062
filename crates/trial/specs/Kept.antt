-- Answers of the certificate, kept by place in row KEPT: 0 is that it was not asked for. Assumes nothing.
use Rattle.std.specs.Prelude.{◌≡◌, refl, Bool, true, false, ◌≢◌, List, [], ◌∷◌, ℕ, ◌-◌, ◌≤◌, ◌<◌, get_or, Option, Some, None, unwrap_or, if◌then◌else◌, ◌==◌}
use Rattle.std.proofs.Common.{sym, ap, ◌∙◌, arith, ne_eqb}
use Rattle.std.proofs.Math.Decide.{ℕ_discrete}
use Rattle.store.specs.Row.{row, Written}
use Rattle.model.specs.Lists.{any_of, member}
use Rattle.model.specs.Exchange.{generators_commute}
use Rattle.layout.specs.Rows.{trial_row, kept_row, written_row, entry_own, entry_other}
use Rattle.layout.specs.Only.{Only, only_none, only_written}
use Rattle.items.specs.View.{item_rows}
use Rattle.axes.specs.declared.Sizes.{Sizes}
use Rattle.axes.specs.Held.{stored_axes, Stored}
use Rattle.certificate.specs.declared.Group.{Group}
use Rattle.certificate.specs.Groups.{GroupsPre, group_in}
use Rattle.trial.specs.Plain.{exchange_rows}
use Rattle.trial.specs.Trying.{items_same}

-- 0 for none, 1 for yes, 2 for no
abbrev pub kept_number : Option Bool → ℕ
kept_number None = 0
kept_number (Some true) = 1
kept_number (Some false) = 2

-- what a number stands for
abbrev pub kept_answer : ℕ → Option Bool
kept_answer k = if k == 1 then Some true else (if k == 2 then Some false else None)

-- what is kept at a place
abbrev pub kept_at : Sizes → List ℕ → ℕ → ℕ
kept_at z xs i = get_or (row xs z.u kept_row) i 0

-- a number that is kept for the answer b
pub record Says (k : ℕ) (b : Bool) : Type 0 where
  pub yes : k ≡ 1 → b ≡ true
  pub no : k ≡ 2 → b ≡ false

says_number : (b : Bool) → Says (kept_number (Some b)) b
says_number true = record { yes = λ e. refl; no = λ e. absurd (omega arith) }
says_number false = record { yes = λ e. absurd (omega arith); no = λ e. refl }

-- the answer that a number stands for
says_answer : {k : ℕ} {a b : Bool} → kept_answer k ≡ Some a → Says k b → a ≡ b
says_answer {k} {a} {b} e s = go (ℕ_discrete k 1) (ℕ_discrete k 2)
  where
    same : {c : Bool} → Some c ≡ Some a → c ≡ a
    same d = ap (λ (o : Option Bool). unwrap_or o false) d

    some_not : {c : Bool} → Some c ≡ None → ⊥
    some_not d = cc

    go : Dec (k ≡ 1) → Dec (k ≡ 2) → a ≡ b
    go (yes d) n = sym (same (rw d at e)) ∙ sym (s.yes d)
    go (no m) (yes d) = sym (same (rw d at e)) ∙ sym (s.no d)
    go (no m) (no n) = absurd (some_not (sym (rw (ne_eqb k 1 m, ne_eqb k 2 n) at e)))

-- it was not asked for
pub says_none : {k : ℕ} (b : Bool) → k ≡ 0 → Says k b
says_none b h = record { yes = λ e. absurd (omega arith); no = λ e. absurd (omega arith) }

says_as : {k k' : ℕ} {b b' : Bool} → k ≡ k' → b ≡ b' → Says k b → Says k' b'
says_as e d s = record { yes = λ h. sym d ∙ s.yes (e ∙ h); no = λ h. sym d ∙ s.no (e ∙ h) }

-- whether the generators of two groups commute
abbrev pub commute_in : Sizes → List ℕ → List ℕ → Group → Group → Bool
commute_in z ws xs g h = generators_commute z.l (stored_axes z ws) (group_in z xs g) (group_in z xs h)

-- two groups, and the place where it is kept
pub record KeptPre (z : Sizes) (ws xs : List ℕ) (left right : Group) (place : ℕ) : Type 0 where
  pub stored : Stored z ws xs
  pub groups : GroupsPre z xs left right
  pub here : place < z.u
  pub kept : Says (kept_at z xs place) (commute_in z ws xs left right)

-- of the row KEPT, place alone is written, and what stands there is kept for the answer b
pub record KeptOne (z : Sizes) (xs : List ℕ) (place : ℕ) (b : Bool) (ys : List ℕ) : Type 0 where
  pub own : Says (kept_at z ys place) b
  pub others : (i : ℕ) → i ≢ place → kept_at z ys i ≡ kept_at z xs i

-- the answer, and what is kept then
pub record AnswerKept (z : Sizes) (ws xs : List ℕ) (left right : Group) (place : ℕ) (r : Bool) (ys : List ℕ) : Type 0 where
  pub answer : r ≡ commute_in z ws xs left right
  pub one : KeptOne z xs place (commute_in z ws xs left right) ys
  pub only : Only (kept_row ∷ []) z.u xs ys

module _ {z : Sizes} {ws xs : List ℕ} {left right : Group} {place : ℕ} (h : KeptPre z ws xs left right place) where
  -- nothing is written
  kept_same : {r : Bool} → r ≡ commute_in z ws xs left right → AnswerKept z ws xs left right place r xs
  kept_same e = record { answer = e; one = record { own = h.kept; others = λ i n. refl }; only = only_none _ _ _ }

  pub kept_told : {k : ℕ} {r : Option Bool} {a : Bool} → k ≡ kept_at z xs place → r ≡ kept_answer k → r ≡ Some a
      → AnswerKept z ws xs left right place a xs
  kept_told e d f = kept_same (says_answer (sym (d ∙ ap kept_answer e) ∙ f) h.kept)

  -- the answer is written
  pub kept_new : {r : Bool} {v : ℕ} {ys : List ℕ} → r ≡ commute_in z ws xs left right → v ≡ kept_number (Some r)
      → Written xs z.u kept_row place v ys → AnswerKept z ws xs left right place r ys
  kept_new {r} {v} {ys} e d w =
      let long = h.stored.numbers_long in
      let new = written_row long (omega arith) h.here w in
      record {
        answer = e;
        one = record {
          own = says_as (sym (entry_own xs z.u kept_row place v new long (omega arith) h.here ∙ d)) e (says_number r);
          others = λ i n. entry_other xs z.u kept_row place v new i n;
        };
        only = only_written long (omega arith) h.here w;
      }

-- rows TRIAL are written then
pub one_through : {z : Sizes} {xs vs ys : List ℕ} {place : ℕ} {b : Bool} → KeptOne z xs place b vs → Only (item_rows trial_row) z.u vs ys
    → KeptOne z xs place b ys
unfolding member any_of
one_through {z} {xs} {vs} {ys} k o = record {
  own = says_as (sym (same _)) refl k.own;
  others = λ i n. same i ∙ k.others i n;
}
  where
    same : (i : ℕ) → kept_at z ys i ≡ kept_at z vs i
    same i = ap (λ (r : List ℕ). get_or r i 0) (o.rows kept_row (omega arith) refl)

-- ---- all that is kept for three groups

abbrev pub span : ℕ → ℕ → Group
span b e = record { from = b; «end» = e }

-- for the starts from lo on, the items up to `second` with the second group; for the ends up to hi, that group with the items from `third` on
pub record KeptRight (z : Sizes) (ws xs : List ℕ) (lo second third hi : ℕ) : Type 0 where
  pub starts : (s : ℕ) → lo ≤ s → s < second → Says (kept_at z xs s) (commute_in z ws xs (span s second) (span second third))
  pub ends : (e : ℕ) → third < e → e ≤ hi → Says (kept_at z xs (e - 1)) (commute_in z ws xs (span second third) (span third e))

-- fewer starts and ends
pub kept_part : {z : Sizes} {ws xs : List ℕ} {lo second third hi : ℕ} (a b : ℕ) → lo ≤ a → b ≤ hi → KeptRight z ws xs lo second third hi
    → KeptRight z ws xs a second third b
kept_part a b h k r = record { starts = λ s m n. r.starts s (omega arith) n; ends = λ e m n. r.ends e m (omega arith) }

commute_same : (z : Sizes) (ws : List ℕ) {xs ys : List ℕ} (g h : Group) → Only exchange_rows z.u xs ys
    → commute_in z ws xs g h ≡ commute_in z ws ys g h
commute_same z ws g h o = sym (rw (items_same o g.from g.end, items_same o h.from h.end) refl)

module _ {z : Sizes} {ws xs ys : List ℕ} {lo second third hi : ℕ} (order : second ≤ third) (o : Only exchange_rows z.u xs ys)
    (r : KeptRight z ws xs lo second third hi) where
  -- the answer for start s is kept
  pub start_kept : (s : ℕ) → s < second → KeptOne z xs s (commute_in z ws xs (span s second) (span second third)) ys
      → KeptRight z ws ys lo second third hi
  start_kept s b k = record {
    starts = λ i m n. start i m n (ℕ_discrete i s);
    ends = λ e m n.
        says_as (sym (k.others (e - 1) (λ d. omega arith))) (commute_same z ws (span second third) (span third e) o) (r.ends e m n);
  }
    where
      start : (i : ℕ) → lo ≤ i → i < second → Dec (i ≡ s)
          → Says (kept_at z ys i) (commute_in z ws ys (span i second) (span second third))
      start i m n (yes d) =
          rw d (says_as refl (commute_same z ws (span s second) (span second third) o) k.own)
      start i m n (no d) =
          says_as (sym (k.others i d)) (commute_same z ws (span i second) (span second third) o) (r.starts i m n)

  -- for end e
  pub end_kept : (e : ℕ) → third < e → KeptOne z xs (e - 1) (commute_in z ws xs (span second third) (span third e)) ys
      → KeptRight z ws ys lo second third hi
  end_kept e b k = record {
    starts = λ i m n.
        says_as (sym (k.others i (λ d. omega arith))) (commute_same z ws (span i second) (span second third) o) (r.starts i m n);
    ends = λ i m n. end_at i m n (ℕ_discrete i e);
  }
    where
      end_at : (i : ℕ) → third < i → i ≤ hi → Dec (i ≡ e)
          → Says (kept_at z ys (i - 1)) (commute_in z ws ys (span second third) (span third i))
      end_at i m n (yes d) =
          rw d (says_as refl (commute_same z ws (span second third) (span third e) o) k.own)
      end_at i m n (no d) =
          says_as (sym (k.others (i - 1) (λ f. d (omega arith)))) (commute_same z ws (span second third) (span third i) o) (r.ends i m n)
