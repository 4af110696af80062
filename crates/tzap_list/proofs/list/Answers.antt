-- What is printed lies in the output.
use Rattle.std.proofs.Common.{sym, length-take-le, arith}
use Rattle.listing_call.specs.Rooms.{called_fits}
use Rattle.tzap_list.proofs.list.Goals as goal

pub slice_bounds-output-end : goal.slice_bounds-output-end
slice_bounds-output-end g c = omega (arith, called_fits c.listing-listed.ensures, c.listing-listed.auto.output)

pub slice_bounds-write_all-end : goal.slice_bounds-write_all-end
slice_bounds-write_all-end g c =
    sym (length-take-le _ _ (omega (arith, called_fits c.listing-listed.ensures, c.listing-listed.auto.output)))
