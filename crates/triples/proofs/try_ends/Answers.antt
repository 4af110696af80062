-- The loop's invariant: the ends from `last` down are left. Assumes nothing.
use Rattle.std.proofs.Common.{◌≡◌, refl, ◌+◌, ◌-◌, ap, ◌∙◌, arith}
use Rattle.layout.specs.Only.{only_none, only_then}
use Rattle.triples.specs.Pairs.{ends_at, runs_kept, parts_pre, search_none, ends_begin, ends_fallen, end_next, end_found}
use Rattle.triples.proofs.try_ends.Goals as goal

pub loop-last-init : goal.loop-last-init
loop-last-init c = record { long = refl; only = only_none _ _ _; same = ends_begin c.args.z _ _ _ _ _ _; kept = c.requires.3 }

pub try_pair-requires : goal.try_pair-requires
try_pair-requires c =
    parts_pre (runs_kept c.requires.0 c.loop-last.invariant.only) c.loop-last.invariant.kept c.requires.1 c.requires.2
    (omega (arith, c.max-lowest.ensures)) (omega arith)

pub returns-in-Some : goal.returns-in-Some
returns-in-Some c =
    let i = c.loop-last.invariant in
    let last = c.loop-last.last - 1 in
    let e : c.loop-last.last ≡ last + 1 = omega arith in
    record {
      searched = end_found c.args.z _ _ _ _ _ _ last (omega (arith, c.max-lowest.ensures, c.saturating_sub.ensures)) (omega arith)
          c.requires.1 c.requires.2 (i.same ∙ ap (ends_at c.args.z _ _ _ _ _ _) e) i.only c.try_pair.ensures.tried c.in-Some.is;
      kept = c.try_pair.ensures.kept _ _ i.kept;
    }

pub loop-last-preserved : goal.loop-last-preserved
loop-last-preserved c =
    let i = c.loop-last.invariant in
    let last = c.loop-last.last - 1 in
    let e : c.loop-last.last ≡ last + 1 = omega arith in
    record {
      long = c.try_pair.ensures.tried.only.long ∙ i.long;
      only = only_then i.only c.try_pair.ensures.tried.only;
      same = i.same ∙ ap (ends_at c.args.z _ _ _ _ _ _) e
          ∙ end_next c.args.z _ _ _ _ _ _ last (omega (arith, c.max-lowest.ensures, c.saturating_sub.ensures)) (omega arith)
          i.only c.try_pair.ensures.tried c.in_default.is;
      kept = c.try_pair.ensures.kept _ _ i.kept;
    }

pub returns : goal.returns
returns c = record {
  searched = search_none c.loop-last.invariant.only
      (c.loop-last.invariant.same
      ∙ ends_fallen c.args.z _ _ _ _ _ _ _ (omega (arith, c.max-lowest.ensures, c.saturating_sub.ensures, c.loop-last-test.false)));
  kept = c.loop-last.invariant.kept;
}
