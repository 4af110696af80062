-- Both T-counts, and the lengths. Assumes nothing.
use Rattle.std.proofs.Common.{◌≡◌, refl, sym, ap, ◌∙◌, Bool, true, false, ◌&&◌, ◌||◌, inl, inr, lt-ltb, le-ltb, le-leb, leb}
use Rattle.std.proofs.lemmas.Bool.{lt-leb}
use Rattle.trial.specs.Trying.{better_said}
use Rattle.trial.proofs.better.Goals as goal
use Rattle.trial.proofs.better.Goals.{then-eager, else-eager}

-- the last test decides
last : (a k b : Bool) → a ≡ false → k ≡ true → b ≡ a || (k && b)
last a k b e d = rw (e, d) refl

-- it is not asked for
neither : (a k b : Bool) → a ≡ false → k ≡ false → k ≡ a || (k && b)
neither a k b e d = rw (e, d) refl

pub returns-then-t-old : goal.returns-then-t-old
returns-then-t-old c =
    let h = better_said _ _ _ _ _ c.args.eager c.t_count_rots-t.ensures c.t_count_rots-old.ensures in
    let e = lt-ltb _ _ c.if-t-old.true in
    rw e (rw e at h)

pub returns-then-t-old-2 : goal.returns-then-t-old-2
returns-then-t-old-2 c =
    let d = c.if-t-old-2.true in
    let l = leb c.t_count_rots-t.result c.t_count_rots-old.result in
    last _ _ _ (le-ltb _ _ c.if-t-old.false) (ap (λ (k : Bool). k && l) d.0 ∙ le-leb _ _ d.1)
    ∙ better_said _ _ _ _ _ c.args.eager c.t_count_rots-t.ensures c.t_count_rots-old.ensures

pub returns-else-t-old-2 : goal.returns-else-t-old-2
returns-else-t-old-2 c =
    let l = leb c.t_count_rots-t.result c.t_count_rots-old.result in
    let none : c.args.eager && l ≡ false = elim c.if-t-old-2.either [ inl p ↦ ap (λ (k : Bool). k && l) p.0 ∙ lt-leb _ _ p.1 | inr q ↦ ap (λ (k : Bool). k && l) q ] in
    elim c.if-eager.branch [
      | then-eager w ↦ w.t-11-is ∙ sym (ap (λ (k : Bool). k && l) w.if-eager.true)
      | else-eager w ↦ w.t-11-is ∙ w.if-eager.false ∙ sym (ap (λ (k : Bool). k && l) w.if-eager.false)
    ]
    ∙ neither _ _ _ (le-ltb _ _ c.if-t-old.false) none
    ∙ better_said _ _ _ _ _ c.args.eager c.t_count_rots-t.ensures c.t_count_rots-old.ensures
