-- What the exported functions are handed, answer and leave, by the model. Assumes nothing.
use Rattle.std.specs.Prelude.{◌≡◌, refl, Bool, true, false, List, [], ◌∷◌, ℕ, replicate, Result, Ok, Err}
use Rattle.std.proofs.Common.{sym, ap, ap₂, ◌∙◌}
use Rattle.model.specs.declared.Refusal.{Refusal}
use Rattle.model.specs.Answers.{Answer}
use Rattle.model.specs.declared.Counters.{Counters}
use Rattle.model.specs.declared.Counts.{Counts}
use Rattle.model.specs.declared.Lazy.{Lazy}
use Rattle.model.specs.declared.Lazy.TheVariants.{Off, On, From}
use Rattle.model.specs.declared.Options.{Options}
use Rattle.model.specs.declared.Strategy.{Strategy}
use Rattle.model.specs.declared.Strategy.TheVariants.{Merge, Litinski}
use Rattle.model.specs.Lists.{when◌then◌else◌}
use Rattle.model.specs.Interface.{refusal_number, number_of}
use Rattle.model.specs.Program.{Job}
use Rattle.model.specs.Checking.{Lent, checking}
use Rattle.model.specs.Rewriting.{rewriting, Called}
use Rattle.theory.specs.Called.{answer_is, counters_are, operations_are, axes_are, lent_is, called_at}
use Rattle.checking.specs.Call.{job_of}
use Rattle.optimize.specs.declared.Rewritten.{Rewritten}
use Rattle.optimize.specs.Call.{CalledBy}
use Rattle.listing_call.specs.Call.{ListingReply, listing_call, ListingCalled}
use Rattle.listing.specs.declared.Listed.{Listed}

-- the counts that a call hands in
abbrev pub counts_of : ℕ → ℕ → ℕ → Counts
counts_of q n o = record { qubits = q; nodes = n; operations = o }

unfoldable pub strategy_of : Bool → Strategy
strategy_of true = Litinski
strategy_of false = Merge

-- whether even rotations wait, whether an operation is named, and its place; 02, M-112: "in place of the lazy setting"
unfoldable pub lazy_of : Bool → Bool → ℕ → Lazy
lazy_of z true n = From n
lazy_of z false n = when z then On else Off

-- the options: lookback, window, candidates, rounds, absorption, exchanges at no loss, second exchange first, lazy, whether an operation is
-- named and its place, Litinski's strategy, T-depth, word limit
abbrev pub options_of : ℕ → ℕ → ℕ → ℕ → Bool → Bool → Bool → Bool → Bool → ℕ → Bool → Bool → ℕ → Options
options_of k w c r f e x z b n s d m = record {
  lookback = k;
  window = w;
  candidates = c;
  rounds = r;
  clifford_to_frame = f;
  eager_swaps = e;
  second_exchange_first = x;
  lazy_cliffords = lazy_of z b n;
  strategy = strategy_of s;
  measure_depth = d;
  max_packed_words = m;
}

-- ---- what a call of Rewriting counts

-- the counters, operations and axes: a listing's first line but for its last field, then the counters that it has not, then that field
unfoldable pub counted_by : Counters → ℕ → ℕ → List ℕ
counted_by c operations axes =
    c.t_before
    ∷ c.t_after
    ∷ c.merges
    ∷ c.swaps
    ∷ c.cliffords_to_frame
    ∷ operations
    ∷ axes
    ∷ c.rotations_before
    ∷ c.rotations_after
    ∷ c.t_depth_before
    ∷ c.t_depth_after
    ∷ c.weight_before
    ∷ c.weight_after
    ∷ c.packed_words
    ∷ []

-- number, counts and lent slices of a call are those of the model's `rewriting`
pub record ExportedCall (o : Options) (j : Job) (s : Lent) (r : ℕ) (counted : List ℕ) (s' : Lent) : Type 0 where
  pub answer : r ≡ number_of (rewriting o j s).answer
  pub counts : counted ≡ counted_by (rewriting o j s).counters (rewriting o j s).operations (rewriting o j s).axes
  pub lent : s' ≡ (rewriting o j s).lent

-- number, size, output and lent slices of a call are those of `listingCall`, 01's Listing
pub record ExportedListing (text out : List ℕ) (s : Lent) (r size : ℕ) (out' : List ℕ) (s' : Lent) : Type 0 where
  pub answer : r ≡ number_of (listing_call text out s).answer
  pub printed : size ≡ (listing_call text out s).size
  pub output : out' ≡ (listing_call text out s).output
  pub lent : s' ≡ (listing_call text out s).lent

-- what a call leaves, in numbers
exported : {o : Options} {j : Job} {s : Lent} {a : Answer} {k : Counters} {m l : ℕ} {s' : Lent} {r : ℕ} {counted : List ℕ} → Called o j s a k m l s'
    → r ≡ number_of a → counted ≡ counted_by k m l → ExportedCall o j s r counted s'
exported call a d = record {
  answer = a ∙ ap number_of (sym (answer_is call));
  counts = d ∙ rw (← counters_are call, ← operations_are call, ← axes_are call) refl;
  lent = sym (lent_is call);
}

-- ---- as the code has them: counts and options worked out

module _ {c c' : Counts} {o o' : Options} (n p q : List ℕ) (s : Lent) (e : c ≡ c') (f : o ≡ o') where
  pub check_number : {a : Answer} {r : ℕ} → a ≡ checking o (job_of c n p q) s → r ≡ number_of a
      → r ≡ number_of (checking o' (job_of c' n p q) s)
  check_number g h = h ∙ ap number_of (g ∙ ap₂ (λ (x : Counts) (y : Options). checking y (job_of x n p q) s) e f)

  at : (x : Result Rewritten Refusal) {s' : Lent} → CalledBy o (job_of c n p q) s x s' → CalledBy o' (job_of c' n p q) s x s'
  at x call = called_at f (ap (λ (y : Counts). job_of y n p q) e) call

  pub exported_call : {x : Rewritten} {s' : Lent} {counted : List ℕ} → CalledBy o (job_of c n p q) s (Ok x) s'
      → counted ≡ counted_by x.counters x.operations x.axes → ExportedCall o' (job_of c' n p q) s 0 counted s'
  exported_call {x} call d = exported (at (Ok x) call) refl d

  pub exported_refusal : {e : Refusal} {s' : Lent} {r : ℕ} → CalledBy o (job_of c n p q) s (Err e) s' → r ≡ refusal_number e
      → ExportedCall o' (job_of c' n p q) s r (replicate 14 0) s'
  unfolding counted_by
  exported_refusal {e} call a = exported (at (Err e) call) a refl

pub exported_listing : {text out : List ℕ} {s : Lent} {l : Listed} {out' : List ℕ} {s' : Lent} {r size : ℕ}
    → ListingCalled text out s l.answer l.size out' s' → r ≡ number_of l.answer → size ≡ l.size
    → ExportedListing text out s r size out' s'
exported_listing k a z = record {
  answer = a ∙ ap (λ (x : ListingReply). number_of x.answer) k.replied;
  printed = z ∙ ap (λ (x : ListingReply). x.size) k.replied;
  output = ap (λ (x : ListingReply). x.output) k.replied;
  lent = ap (λ (x : ListingReply). x.lent) k.replied;
}
