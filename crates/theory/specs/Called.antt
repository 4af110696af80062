-- What a call of Rewriting answered, counted and left, one by one. Assumes nothing.
use Rattle.std.specs.Prelude.{◌≡◌, ℕ}
use Rattle.std.proofs.Common.{sym, ap, subst}
use Rattle.model.specs.declared.Options.{Options}
use Rattle.model.specs.Answers.{Answer}
use Rattle.model.specs.declared.Counters.{Counters}
use Rattle.model.specs.Program.{Job}
use Rattle.model.specs.Checking.{Lent}
use Rattle.model.specs.Rewriting.{Reply, rewriting, Called}

module _ {o : Options} {j : Job} {s : Lent} {a : Answer} {c : Counters} {m n : ℕ} {t : Lent} (call : Called o j s a c m n t) where
  pub answer_is : (rewriting o j s).answer ≡ a
  answer_is = sym (ap (λ (x : Reply). x.answer) call.replied)

  pub counters_are : (rewriting o j s).counters ≡ c
  counters_are = sym (ap (λ (x : Reply). x.counters) call.replied)

  pub operations_are : (rewriting o j s).operations ≡ m
  operations_are = sym (ap (λ (x : Reply). x.operations) call.replied)

  pub axes_are : (rewriting o j s).axes ≡ n
  axes_are = sym (ap (λ (x : Reply). x.axes) call.replied)

  pub lent_is : (rewriting o j s).lent ≡ t
  lent_is = sym (ap (λ (x : Reply). x.lent) call.replied)

-- equal options and an equal job make the same call
pub called_at : {o o' : Options} {j j' : Job} {s : Lent} {a : Answer} {c : Counters} {m n : ℕ} {t : Lent} → o ≡ o' → j ≡ j'
    → Called o j s a c m n t → Called o' j' s a c m n t
called_at {o} {o'} {j} {j'} {s} {a} {c} {m} {n} {t} e f call =
    subst (λ (k : Job). Called o' k s a c m n t) f (subst (λ (x : Options). Called x j s a c m n t) e call)
