-- The loop is along the node's links. Assumes nothing.
use Rattle.packing.specs.RootsLoop.{along_first, phase_there, root_there}
use Rattle.packing.specs.RootsLoop.{along_next, next_later, along_refused}
use Rattle.std.proofs.lemmas.Result.{err_from_is_err_and}
use Rattle.packing.proofs.pack_roots.Goals as goal

pub loop-next-init : goal.loop-next-init
loop-next-init c = along_first _ c.linked_at-next.ensures

pub reference_phase-phase-requires : goal.reference_phase-phase-requires
reference_phase-phase-requires c = phase_there c.loop-next.invariant c.in-Some.is c.requires

pub pack_root-requires : goal.pack_root-requires
pack_root-requires c = root_there c.loop-next.invariant c.in-Some.is _ c.requires c.reference_phase-phase.ensures

pub returns-in_err-st : goal.returns-in_err-st
returns-in_err-st c =
    let refused = err_from_is_err_and c.from_residual.result c.from_residual.ensures.1 in
    rw (refused.1, refused.2) (along_refused c.loop-next.invariant c.in-Some.is c.reference_phase-phase.ensures c.pack_root.ensures.0
    c.pack_root.ensures.1 _ c.in_err-st.was)

pub loop-next-smaller : goal.loop-next-smaller
loop-next-smaller c =
    next_later c.loop-next.invariant c.in-Some.is c.reference_phase-phase.ensures c.pack_root.ensures.0
    c.pack_root.ensures.1 c.requires _ _ c.in_ok-st.was c.linked_at-next-in-Some.ensures

pub loop-next-preserved : goal.loop-next-preserved
loop-next-preserved c =
    along_next c.loop-next.invariant c.in-Some.is c.reference_phase-phase.ensures c.pack_root.ensures.0
    c.pack_root.ensures.1 _ _ c.in_ok-st.was c.linked_at-next-in-Some.ensures
