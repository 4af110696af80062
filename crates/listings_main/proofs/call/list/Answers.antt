-- The text lies in the output.
use Rattle.std.proofs.Common.{arith}
use Rattle.listing_call.specs.Rooms.{called_fits}
use Rattle.listings_main.proofs.call.list.Goals as goal

pub returns : goal.returns
returns c = omega (arith, called_fits c.listing.ensures, c.listing.auto.output)
