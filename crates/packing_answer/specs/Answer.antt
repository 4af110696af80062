-- How packing ends, by the model's packed program. Assumes nothing.
use Rattle.std.specs.Prelude.{◌≡◌, Bool, ℕ, ◌≤◌, ◌<◌, length, Result, Ok, Err}
use Rattle.std.proofs.Math.Path.{refl, sym, ap₂}
use Rattle.std.proofs.Common.{ap, ◌∙◌}
use Rattle.std.proofs.Math.Bool.{true, false}
use Rattle.std.proofs.Math.Dec.{ltb}
use borrow.Author.Tests.{lt-ltb, le-ltb, ltb-false}
use Rattle.model.specs.Answers.{Answer}
use Rattle.model.specs.Answers as answers
use Rattle.model.specs.Lists.{when◌then◌else◌}
use Rattle.model.specs.Packing.{Pack}
use Rattle.theory.specs.Cases.{if_true, if_false}
use Rattle.packing_answer.specs.declared.PackedAxes.{PackedAxes}
use Rattle.packing_answer.specs.declared.PackingRefusal.{PackingRefusal}
use Rattle.packing_answer.specs.declared.PackingRefusal.TheVariants.{NonHermitianAxis, ExpansionLimit}

-- packing is accepted with so many axes, the largest sum that was tested beside
abbrev pub packed_with : ℕ → ℕ → Result PackedAxes PackingRefusal
packed_with n q = Ok (record { count = n; peak = q })

-- "9 a root's total phase is odd; 10 a tested word sum exceeds the limit": the first sum above the limit ends the work
unfoldable pub packed_answer : ℕ → Pack → Result PackedAxes PackingRefusal
packed_answer limit k =
    when ltb limit k.store.peak then Err ExpansionLimit
    else when k.refused then Err NonHermitianAxis else packed_with (length k.store.axes) k.store.peak

-- 01's answer
abbrev pub packing_answer : Result PackedAxes PackingRefusal → Answer
packing_answer (Ok a) = answers.Accepted
packing_answer (Err NonHermitianAxis) = answers.NonHermitianAxis
packing_answer (Err ExpansionLimit) = answers.ExpansionLimit

-- ---- the end, by what the packed program is

-- where it is accepted, q being the largest sum that was tested
pub record AcceptedSo (limit : ℕ) (k : Pack) (q : ℕ) : Type 0 where
  pub within : k.store.peak ≤ limit
  pub going : k.refused ≡ false
  pub peak_is : k.store.peak ≡ q

module _ (limit : ℕ) (k : Pack) where
  pub answer_limit : limit < k.store.peak → Err ExpansionLimit ≡ packed_answer limit k
  unfolding packed_answer
  answer_limit h = sym (if_true _ _ (lt-ltb limit k.store.peak h))

  pub answer_odd : k.store.peak ≤ limit → k.refused ≡ true → Err NonHermitianAxis ≡ packed_answer limit k
  unfolding packed_answer
  answer_odd h r = sym (if_false _ _ (le-ltb limit k.store.peak h) ∙ if_true _ _ r)

  pub answer_axes : k.store.peak ≤ limit → k.refused ≡ false → (n q : ℕ) → length k.store.axes ≡ n → k.store.peak ≡ q
      → packed_with n q ≡ packed_answer limit k
  unfolding packed_answer
  answer_axes h r n q e f = sym (if_false _ _ (le-ltb limit k.store.peak h) ∙ if_false _ _ r ∙ ap₂ packed_with e f)

  -- accepted: no sum above the limit, no root refused
  pub accepted_so : {n q : ℕ} → packed_with n q ≡ packed_answer limit k → AcceptedSo limit k q
  unfolding packed_answer
  accepted_so {n} {q} e = go (ltb limit k.store.peak) refl k.refused refl
    where
      go : (a : Bool) → ltb limit k.store.peak ≡ a → (b : Bool) → k.refused ≡ b → AcceptedSo limit k q
      go true f b g = let no : packed_with n q ≡ Err ExpansionLimit = e ∙ if_true _ _ f in cc
      go false f true g = let no : packed_with n q ≡ Err NonHermitianAxis = e ∙ if_false _ _ f ∙ if_true _ _ g in cc
      go false f false g =
          let whole : packed_with n q ≡ packed_with (length k.store.axes) k.store.peak = e ∙ if_false _ _ f ∙ if_false _ _ g in
          let same : ◌≡◌ {A = PackedAxes} (record { count = length k.store.axes; peak = k.store.peak }) (record { count = n; peak = q }) = cc in
          record { within = ltb-false limit k.store.peak f; going = g; peak_is = ap (λ (a : PackedAxes). a.peak) same }
