-- What `all` and `any` answer over a range, and what the closure may be asked there. Assumes nothing.
use Rattle.std.specs.Prelude.{◌≡◌, refl, Bool, true, false, ◌&&◌, ◌||◌, List, [], ◌∷◌, length, ℕ, zero, suc, ◌+◌, ◌-◌, ◌≤◌, ◌<◌, Option, Some, MatchOption}
use Rattle.std.proofs.Common.{sym, ap, ◌∙◌, subst, arith}
use Rattle.std.specs.Fn.{Called}
use Rattle.std.specs.Iterator.{Yields, YieldsThen, CallableAtEachTurn}
use Rattle.std.specs.Bool.{MatchBool, ⊤}
use Rattle.std.specs.List.{FoldsTo, range_with_len, list_all, list_any, HoldsAt, AllWithin}
use Rattle.std.specs.declared.ops.Range.{Range}
use Rattle.std.proofs.iter.Yields.{nat_range_steps}
use Rattle.std.proofs.lemmas.Iterator.{YieldsList-from_range, cases_from_any}
use Rattle.std.proofs.lemmas.Iterator.Search.{all_from_yields_List, any_from_yields_List}
use Rattle.std.proofs.lemmas.List.FromFn.{length-range_with_len, get_or-range_with_len}
use denote.Param.Members.{Mut}

-- ---- the answer: t says what the closure answers at a place, `left` what the places from one on answer together

module _ (t left : ℕ → Bool) (e : ℕ) where
  all_turns : ((x : ℕ) → x < e → left x ≡ t x && left (x + 1)) → ((x : ℕ) → e ≤ x → left x ≡ true)
      → (n q : ℕ) → e - q ≡ n → list_all t (range_with_len q n) ≡ left q
  all_turns turn done zero q h = sym (done q (omega arith))
  all_turns turn done (suc n) q h =
      ap (λ (b : Bool). t q && b) (all_turns turn done n (q + 1) (omega arith)) ∙ sym (turn q (omega arith))

  any_turns : ((x : ℕ) → x < e → left x ≡ t x || left (x + 1)) → ((x : ℕ) → e ≤ x → left x ≡ false)
      → (n q : ℕ) → e - q ≡ n → list_any t (range_with_len q n) ≡ left q
  any_turns turn done zero q h = sym (done q (omega arith))
  any_turns turn done (suc n) q h =
      ap (λ (b : Bool). t q || b) (any_turns turn done n (q + 1) (omega arith)) ∙ sym (turn q (omega arith))

module _ {F : Type 0} {g : Mut F (ℕ × Unit {0}) Bool} {s : Range ℕ} (u : Range ℕ) (f : F) (r : Bool) (t left : ℕ → Bool) where
  pub all_over : (xs : List ℕ) × (o : Option ℕ) × (j : F) × YieldsThen nat_range_steps s xs o u
      × FoldsTo (λ p x q. Called g p (x, tt) true q) f xs j
      × MatchOption o (r ≡ true) (λ x. (r ≡ false) × ((h : F) × Called g j (x, tt) false h))
      → ((x : ℕ) (b : Bool) (q : F) → Called g f (x, tt) b q → (q ≡ f) × (b ≡ t x))
      → ((x : ℕ) → x < s.end → left x ≡ t x && left (x + 1)) → ((x : ℕ) → s.end ≤ x → left x ≡ true) → r ≡ left s.start
  all_over ran says turn done =
      all_from_yields_List t u f r ran (YieldsList-from_range s.start s.end _ refl refl) says
      ∙ all_turns t left s.end turn done (s.end - s.start) s.start refl

  pub any_over : (xs : List ℕ) × (o : Option ℕ) × (j : F) × YieldsThen nat_range_steps s xs o u
      × FoldsTo (λ p x q. Called g p (x, tt) false q) f xs j
      × MatchOption o (r ≡ false) (λ x. (r ≡ true) × ((h : F) × Called g j (x, tt) true h))
      → ((x : ℕ) (b : Bool) (q : F) → Called g f (x, tt) b q → (q ≡ f) × (b ≡ t x))
      → ((x : ℕ) → x < s.end → left x ≡ t x || left (x + 1)) → ((x : ℕ) → s.end ≤ x → left x ≡ false) → r ≡ left s.start
  any_over ran says turn done =
      any_from_yields_List t u f r ran (YieldsList-from_range s.start s.end _ refl refl) says
      ∙ any_turns t left s.end turn done (s.end - s.start) s.start refl

-- where `any` answers with true, a place at which the closure does
pub any_found : {F : Type 0} {g : Mut F (ℕ × Unit {0}) Bool} {s : Range ℕ} (u : Range ℕ) (f : F) (r : Bool) (Yes : ℕ → Type 0)
    → (xs : List ℕ) × (o : Option ℕ) × (j : F) × YieldsThen nat_range_steps s xs o u
    × FoldsTo (λ p x q. Called g p (x, tt) false q) f xs j
    × MatchOption o (r ≡ false) (λ x. (r ≡ true) × ((h : F) × Called g j (x, tt) true h))
    → ((x : ℕ) (q : F) → Called g f (x, tt) true q → Yes x) → ((x : ℕ) (q : F) → Called g f (x, tt) false q → q ≡ f)
    → r ≡ true → (x : ℕ) × (s.start ≤ x) × (x < s.end) × Yes x
any_found {s = s} u f r Yes ran says stays e =
    let n = s.end - s.start in
    let found = subst (λ (b : Bool). MatchBool b ((k : ℕ) × (k < length (range_with_len s.start n)) × HoldsAt Yes (range_with_len s.start n) k)
    (AllWithin (λ _. ⊤) (range_with_len s.start n) 0 (length (range_with_len s.start n)))) e
    (cases_from_any u f r Yes (λ _. ⊤) ran (YieldsList-from_range s.start s.end _ refl refl) says (λ x q k. (stays x q k, tt))) in
    let within : found.0 < n = omega (arith, found.1, length-range_with_len s.start n) in
    let at = get_or-range_with_len s.start n found.0 0 within in
    (s.start + found.0, omega arith, omega arith, subst Yes at (found.2 0))

-- ---- the closure may be asked at a place where Past holds, which each answer carries on to the next

module _ {P : Type 0} (R : P → ℕ → P → Type 0) (Q : P → ℕ → Type 0) (p : P) (Past : ℕ → Type 0) (e : ℕ)
    (stays : (x : ℕ) (q : P) → R p x q → q ≡ p) (more : (x : ℕ) (q : P) → x < e → Past x → R p x q → Past (x + 1))
    (may : (x : ℕ) → x < e → Past x → Q p x) where
  in_turn : (xs : List ℕ) (s t : Range ℕ) (q : P) (x : ℕ) (u : Range ℕ) → s.end ≡ e → Past s.start → Yields nat_range_steps s xs t
      → FoldsTo R p xs q → nat_range_steps t (Some x) u → Q q x
  in_turn [] s t q x u d h y c k =
      let at : x ≡ s.start = k.1.1 ∙ sym (ap (λ (i : Range ℕ). i.start) y) in
      let here : x < e = omega (arith, k.1.0, ap (λ (i : Range ℕ). i.end) y) in
      subst (λ (m : P). Q m x) c (may x here (subst Past (sym at) h))
  in_turn (z ∷ zs) s t q x u d h y c k =
      let here : z < e = omega (arith, y.1.1.0, y.1.1.1) in
      let next : z + 1 ≡ y.0.start = omega (arith, y.1.1.1, y.1.1.2) in
      in_turn zs y.0 t q x u (y.1.0 ∙ d) (subst Past next (more z c.0 here (subst Past (sym y.1.1.1) h) c.1)) y.2
      (subst (λ (m : P). FoldsTo R m zs q) (stays z c.0 c.1) c.2) k

pub serves_in_turn : {P : Type 0} {R : P → ℕ → P → Type 0} {Q : P → ℕ → Type 0} {s : Range ℕ} {p : P} (Past : ℕ → Type 0)
    → ((x : ℕ) (q : P) → R p x q → q ≡ p) → ((x : ℕ) (q : P) → x < s.end → Past x → R p x q → Past (x + 1))
    → ((x : ℕ) → x < s.end → Past x → Q p x) → Past s.start → CallableAtEachTurn nat_range_steps R Q s p
serves_in_turn {R = R} {Q} {s} {p} Past stays more may h = record {
  at = λ xs t q x u y c k. in_turn R Q p Past s.end stays more may xs s t q x u refl h y c k;
}
