-- The reply of a call of Rewriting by its answer's number. Assumes nothing.
use Rattle.std.specs.Prelude.{◌≡◌, ◌⊎◌, ◌↔◌, Bool, true, false, ◌&&◌, ◌||◌, ℕ, ◌≤◌, eqb, ltb, leb}
use Rattle.std.proofs.Math.Path.{refl, ap}
use Rattle.std.proofs.Common.{sym, ◌∙◌, subst, inl, inr, ⊎_elim, true≢false, arith, ltb-true, ltb-false, leb-true, le-leb, eqb-true, ne_eqb}
use Rattle.std.proofs.lemmas.Bool.{lt-leb}
use Rattle.model.specs.declared.Lazy.{Lazy}
use Rattle.model.specs.declared.Lazy.TheVariants.{Off, On, From}
use Rattle.model.specs.declared.Options.{Options}
use Rattle.model.specs.Answers.{Answer, Accepted, CountOutside, OptionOutside, SliceShort, NonHermitianAxis, ExpansionLimit, BadPlace}
use Rattle.model.specs.declared.Counters.{Counters}
use Rattle.model.specs.Interface.{number_of, accepts, of_checking}
use Rattle.model.specs.Program.{Job, operation_records, program_of}
use Rattle.model.specs.Rules.{rules_of}
use Rattle.model.specs.Run.{Ending, non_hermitian, finished, end_answer}
use Rattle.model.specs.Checking.{Lent, and_then, bad_count, bad_option, program_short, lent_short, check_program, bad_place, check_place, check_records}
use Rattle.model.specs.Checking.{checking}
use Rattle.model.specs.Rewriting.{Reply, refused, stopped, after_ending, rewriting, Called}
use Rattle.theory.specs.Cases.{on_if, if_true, if_false, and_right}
use Rattle.theory.specs.Checked.{accepts_only, not_refused, unnamed_records}
use Rattle.theory.specs.Called.{answer_is}
use Rattle.theory.specs.Replies.{run_of, limit_of, refused_reply, beyond_limit, within_limit, stopped_answer, refused_answer, ending_answer, records_not_3}
use Rattle.theory.specs.Replies.{run_answer, Checks, program_low, checking_checks, ran}
use Rattle.theory.specs.Limit.{within, within_answer}
use Rattle.theory.specs.WithoutAbsorption.{lazily}
use Rattle.theory.specs.Hermitian.{Hermitian, accepted_exactly}

-- ---- the four ways to reply

-- Checking refused; a tested sum was above the limit; a root was non-Hermitian; or the work was done
pub data Replied (o : Options) (j : Job) (s : Lent) (x : Reply) : Type 0 where
  by_checking : x ≡ refused (checking o j s) s → Replied o j s x
  by_limit : x ≡ stopped ExpansionLimit s → Replied o j s x
  by_root : x ≡ stopped NonHermitianAxis s → Replied o j s x
  done : x.answer ≡ Accepted → Replied o j s x

module _ (o : Options) (j : Job) (s : Lent) where
  ended : (e : Ending) {x : Reply} → x ≡ after_ending (rules_of o) (program_of j) s e → Replied o j s x
  ended non_hermitian h = by_root (h ∙ unfold after_ending in refl)
  ended (finished f) h = done (ap (λ (y : Reply). y.answer) h ∙ ending_answer (rules_of o) (program_of j) s (finished f))

  ran_so : checking o j s ≡ Accepted → (b : Bool) → ltb (limit_of o) (run_of o j).peak ≡ b → Replied o j s (rewriting o j s)
  ran_so c true e = by_limit (beyond_limit o j s c (ltb-true (limit_of o) (run_of o j).peak e))
  ran_so c false e = ended (run_of o j).ending (within_limit o j s c (ltb-false (limit_of o) (run_of o j).peak e))

  -- every reply is one of them
  pub reply_of : Replied o j s (rewriting o j s)
  reply_of = go (accepts (checking o j s)) refl
    where
      go : (b : Bool) → accepts (checking o j s) ≡ b → Replied o j s (rewriting o j s)
      go true e = ran_so (accepts_only (checking o j s) e) (ltb (limit_of o) (run_of o j).peak) refl
      go false e = by_checking (refused_reply o j s (checking o j s) refl e)

-- a stopped reply's answer
answer_of : (a : Answer) (s : Lent) {x : Reply} → x ≡ stopped a s → x.answer ≡ a
answer_of a s e = ap (λ (y : Reply). y.answer) e ∙ stopped_answer a s

-- a stopped reply's number
number_of_lem : (a : Answer) (s : Lent) {x : Reply} → x ≡ stopped a s → number_of x.answer ≡ number_of a
number_of_lem a s e = ap number_of (answer_of a s e)

-- a number is Checking's: 1 to 8, or 16
pub of_checking_lem : (n : ℕ) → of_checking n ≡ true → (n ≤ 8) ⊎ (n ≡ 16)
of_checking_lem n h = go (leb 1 n && leb n 8) refl h
  where
    go : (b : Bool) → leb 1 n && leb n 8 ≡ b → b || eqb n 16 ≡ true → (n ≤ 8) ⊎ (n ≡ 16)
    go true e f = inl (leb-true n 8 (and_right (leb 1 n) (leb n 8) e))
    go false e f = inr (eqb-true n 16 f)

-- 1 to 8 are
pub of_low : (n : ℕ) → 1 ≤ n → n ≤ 8 → of_checking n ≡ true
of_low n h k = rw (le-leb 1 n h, le-leb n 8 k) refl

-- 9 and 10 are not
pub not_of_checking : (n : ℕ) → 9 ≤ n → n ≤ 10 → of_checking n ≡ false
not_of_checking n h k = rw (le-leb 1 n (omega arith), lt-leb n 8 (omega arith), ne_eqb n 16 (λ e. omega arith)) refl

-- a reply that Checking refused
checks : (o : Options) (j : Job) (s : Lent) {x : Reply} → x ≡ refused (checking o j s) s → Checks x.answer
checks o j s e = subst Checks (sym (ap (λ (y : Reply). y.answer) e ∙ refused_answer (checking o j s) s)) (checking_checks o j s)

-- a number that is not Checking's
not_checks : {k n : ℕ} → k ≡ n → of_checking n ≡ false → of_checking k ≡ true → ⊥
not_checks e f h = true≢false (sym h ∙ ap of_checking e ∙ f)

module _ {o : Options} {j : Job} {s : Lent} {x : Reply} where
  -- 0 to 10, or 16
  pub number_low : Replied o j s x → (number_of x.answer ≤ 10) ⊎ (number_of x.answer ≡ 16)
  number_low (by_checking e) = go (accepts x.answer) refl (checks o j s e)
    where
      go : (b : Bool) → accepts x.answer ≡ b → b || of_checking (number_of x.answer) ≡ true
          → (number_of x.answer ≤ 10) ⊎ (number_of x.answer ≡ 16)
      go true f h = inl (omega (arith, eqb-true (number_of x.answer) 0 f))
      go false f h = ⊎_elim (λ (k : number_of x.answer ≤ 8). inl (omega (arith, k))) inr (of_checking_lem (number_of x.answer) h)
  number_low (by_limit e) = inl (omega (arith, number_of_lem ExpansionLimit s e))
  number_low (by_root e) = inl (omega (arith, number_of_lem NonHermitianAxis s e))
  number_low (done e) = inl (omega (arith, ap number_of e))

  -- Checking's numbers
  pub number_checking : Replied o j s x → of_checking (number_of x.answer) ≡ true → x ≡ refused (checking o j s) s
  number_checking (by_checking e) h = e
  number_checking (by_limit e) h = absurd (not_checks (number_of_lem ExpansionLimit s e) refl h)
  number_checking (by_root e) h = absurd (not_checks (number_of_lem NonHermitianAxis s e) refl h)
  number_checking (done e) h = absurd (not_checks (ap number_of e) refl h)

  -- 9 and 10 stop the work
  pub number_stopped : Replied o j s x → 9 ≤ number_of x.answer → number_of x.answer ≤ 10 → x ≡ stopped x.answer s
  number_stopped (by_checking e) h k =
      absurd (true≢false (sym (checks o j s e) ∙ rw (ne_eqb (number_of x.answer) 0 (λ f. omega arith)) (not_of_checking (number_of x.answer) h k)))
  number_stopped (by_limit e) h k = e ∙ ap (λ (a : Answer). stopped a s) (sym (answer_of ExpansionLimit s e))
  number_stopped (by_root e) h k = e ∙ ap (λ (a : Answer). stopped a s) (sym (answer_of NonHermitianAxis s e))
  number_stopped (done e) h k = absurd (omega (arith, ap number_of e))

-- a call's reply is one of them
pub called_of : {o : Options} {j : Job} {s : Lent} {a : Answer} {c : Counters} {m n : ℕ} {t : Lent} → Called o j s a c m n t
    → Replied o j s (record { answer = a; counters = c; operations = m; axes = n; lent = t })
called_of {o} {j} {s} call = rw call.replied (reply_of o j s)

-- 0 and 9 come after Checking has passed
pub passed_checking : {o : Options} {j : Job} {s : Lent} {a : Answer} {c : Counters} {m n : ℕ} {t : Lent} → Called o j s a c m n t
    → (a ≡ Accepted) ⊎ (a ≡ NonHermitianAxis) → checking o j s ≡ Accepted
passed_checking {o} {j} {s} call (inl e) = ran o j s Accepted (answer_is call ∙ e) refl
passed_checking {o} {j} {s} call (inr e) = ran o j s NonHermitianAxis (answer_is call ∙ e) refl

-- a run that Checking let through answers 9 exactly where the limit is no smaller than the peak and a root is non-Hermitian
pub nine_exactly : (o : Options) (j : Job) (s : Lent) → checking o j s ≡ Accepted
    → ((rewriting o j s).answer ≡ NonHermitianAxis) ↔ (((run_of o j).peak ≤ limit_of o) × (Hermitian (program_of j) → ⊥))
nine_exactly o j s c = (there, λ h. back h.0 h.1)
  where
    there : (rewriting o j s).answer ≡ NonHermitianAxis → ((run_of o j).peak ≤ limit_of o) × (Hermitian (program_of j) → ⊥)
    there e =
        let le = within (limit_of o) (run_of o j) (λ f. let k = run_answer o j s c in let z : ◌≡◌ {A = ℕ} 0 1 = cc in omega arith) in
        (le, λ h. let k = (accepted_exactly o j s c).1 (le, h) in let z : ◌≡◌ {A = ℕ} 0 1 = cc in omega arith)

    back : (run_of o j).peak ≤ limit_of o → (Hermitian (program_of j) → ⊥) → (rewriting o j s).answer ≡ NonHermitianAxis
    back le odd = run_answer o j s c ∙ within_answer (limit_of o) (run_of o j) le ∙ go (run_of o j).ending refl
      where
        go : (e : Ending) → (run_of o j).ending ≡ e → end_answer e ≡ NonHermitianAxis
        go non_hermitian f = refl
        go (finished g) f =
            absurd (odd ((accepted_exactly o j s c).0
            (run_answer o j s c ∙ within_answer (limit_of o) (run_of o j) le ∙ ap end_answer f)).1)

-- ---- 3 comes exactly where counts and options are within the domain and a slice is short; 02, M-102: of the number store, `numbersAsked`

pub record ShortRefused (o : Options) (j : Job) (s : Lent) : Type 0 where
  pub counts : bad_count j.counts ≡ false
  pub options : bad_option o ≡ false
  pub short : program_short j || lent_short j.counts s o.max_packed_words ≡ true

-- its three fields, of which an edit refutes one
pub three_parts : (o : Options) (j : Job) (s : Lent) → number_of (checking o j s) ≡ 3
    → (bad_count j.counts ≡ false) × (bad_option o ≡ false) × (program_short j || lent_short j.counts s o.max_packed_words ≡ true)
unfolding checking bad_option
three_parts o j s =
    on_if P (bad_count j.counts) CountOutside _ (λ e h. absurd (omega (arith, h)))
    (λ a. on_if P (bad_option o) OptionOutside _ (λ e h. absurd (omega (arith, h)))
    (λ b. on_if P (program_short j || lent_short j.counts s o.max_packed_words) SliceShort _
    (λ e h. (a, b, e))
    (λ e h. absurd (records_not_3 o.lazy_cliffords j h))))
  where
    P : Answer → Type 0
    P a = number_of a ≡ 3
        → (bad_count j.counts ≡ false) × (bad_option o ≡ false) × (program_short j || lent_short j.counts s o.max_packed_words ≡ true)

pub short_from : (o : Options) (j : Job) (s : Lent) → bad_count j.counts ≡ false → bad_option o ≡ false
    → program_short j || lent_short j.counts s o.max_packed_words ≡ true → checking o j s ≡ SliceShort
unfolding checking
short_from o j s counts options short = if_false _ _ counts ∙ if_false _ _ options ∙ if_true _ _ short

pub three_where : (o : Options) (j : Job) (s : Lent) → number_of (checking o j s) ≡ 3 → ShortRefused o j s
three_where o j s h = let p = three_parts o j s h in record { counts = p.0; options = p.1; short = p.2 }

pub short_where : (o : Options) (j : Job) (s : Lent) → ShortRefused o j s → checking o j s ≡ SliceShort
short_where o j s h = short_from o j s h.counts h.options h.short

-- ---- 02, M-112: 16 comes from a named place alone, exactly where it is bad and all other checks pass

pub record PlaceRefused (o : Options) (j : Job) (s : Lent) : Type 0 where
  pub place : ℕ
  pub named : o.lazy_cliffords ≡ From place
  pub bad : bad_place place (operation_records j) ≡ true
  -- without the name Checking passes the call
  pub others : checking (lazily Off o) j s ≡ Accepted

module _ (o : Options) (j : Job) (s : Lent) where
  abbrev short : Bool
  short = program_short j || lent_short j.counts s o.max_packed_words

  pub sixteen_where : number_of (checking o j s) ≡ 16 → PlaceRefused o j s
  unfolding checking bad_option check_records and_then check_place
  sixteen_where =
      on_if P (bad_count j.counts) CountOutside _ (λ e h. absurd (omega (arith, h)))
      (λ a. on_if P (bad_option o) OptionOutside _ (λ e h. absurd (omega (arith, h)))
      (λ b. on_if P short SliceShort _ (λ e h. absurd (omega (arith, h)))
      (λ c. on_if P (accepts (check_program j)) (check_place o.lazy_cliffords (operation_records j)) (check_program j)
      (λ e. place o.lazy_cliffords refl
      (if_false _ _ a ∙ if_false _ _ b ∙ if_false _ _ c ∙ unnamed_records j ∙ accepts_only (check_program j) e))
      (λ e h. absurd (omega (arith, h, program_low j))))))
    where
      P : Answer → Type 0
      P a = number_of a ≡ 16 → PlaceRefused o j s

      place : (setting : Lazy) → o.lazy_cliffords ≡ setting → checking (lazily Off o) j s ≡ Accepted
          → P (check_place setting (operation_records j))
      place Off e f h = absurd (omega (arith, h))
      place On e f h = absurd (omega (arith, h))
      place (From n) e f h =
          on_if P (bad_place n (operation_records j)) BadPlace Accepted
          (λ b g. record { place = n; named = e; bad = b; others = f }) (λ b g. absurd (omega (arith, g))) h

  pub refused_where : PlaceRefused o j s → checking o j s ≡ BadPlace
  unfolding checking bad_option check_records and_then check_place
  refused_where h =
      let a = not_refused (bad_count j.counts) CountOutside _ refl h.others in
      let b = not_refused (bad_option o) OptionOutside _ refl a.1 in
      let c = not_refused short SliceShort (check_records Off j) refl b.1 in
      if_false _ _ a.0 ∙ if_false _ _ b.0 ∙ if_false _ _ c.0 ∙ ap (λ (setting : Lazy). check_records setting j) h.named
      ∙ if_true _ _ (ap accepts (sym (unnamed_records j) ∙ c.1)) ∙ if_true _ _ h.bad
