-- The loop's invariant: the starts from s on are left, and `left` pairs. Assumes nothing.
use Rattle.std.proofs.Common.{refl, sym, ap, ◌∙◌}
use Rattle.layout.specs.Only.{only_none, only_then}
use Rattle.triples.specs.Pairs.{starts_of, runs_kept, search_none, search_begins, starts_done, starts_next, starts_found}
use Rattle.triples.proofs.try_starts.Goals as goal

pub loop-s-init : goal.loop-s-init
loop-s-init c = record {
  long = refl;
  only = only_none _ _ _;
  same = search_begins c.args.z _ _ _ _ c.requires.0.first_order;
  kept = c.requires.2;
}

pub try_ends-found-requires : goal.try_ends-found-requires
try_ends-found-requires c =
    (runs_kept c.requires.0 c.loop-s.invariant.only, c.loop-s.auto.s, c.loop-s-test.true, c.loop-s.invariant.kept)

pub returns-then-is_some : goal.returns-then-is_some
returns-then-is_some c =
    starts_found _ _ _ _ _ _ _ c.loop-s-test.true c.requires.0.third_order c.loop-s.invariant.same c.loop-s.invariant.only
    c.try_ends-found.ensures.searched (sym c.is_some.ensures ∙ c.if-is_some.true)

pub loop-s-preserved : goal.loop-s-preserved
loop-s-preserved c = record {
  long = c.try_ends-found.ensures.searched.only.long ∙ c.loop-s.invariant.long;
  only = only_then c.loop-s.invariant.only c.try_ends-found.ensures.searched.only;
  same = c.loop-s.invariant.same
      ∙ starts_next _ _ _ _ _ _ _ c.loop-s-test.true c.requires.0.third_order c.loop-s.invariant.only c.try_ends-found.ensures.searched
      (sym c.is_some.ensures ∙ c.if-is_some.false)
      ∙ ap (starts_of c.args.z _ _ _ _ _) (sym c.saturating_sub-left.ensures);
  kept = c.try_ends-found.ensures.kept;
}

pub returns : goal.returns
returns c = search_none c.loop-s.invariant.only (c.loop-s.invariant.same ∙ starts_done c.args.z _ _ _ _ _ _ c.loop-s-test.false)
