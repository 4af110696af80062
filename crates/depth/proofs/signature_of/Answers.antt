-- Stored beside the axis where words are longer than one number, else worked out. Assumes nothing.
use Rattle.axes.specs.Held.{held_long}
use Rattle.depth.specs.Turns.{signature_read, signature_made}
use native.Mathlib.Omega.{arith}
use Rattle.depth.proofs.signature_of.Goals as goal

pub returns-then-z-gt1 : goal.returns-then-z-gt1
returns-then-z-gt1 c = signature_read c.args.axes.stored c.requires c.if-z-gt1.true c.read_wide.ensures

pub support_signature-requires : goal.support_signature-requires
support_signature-requires c = (held_long c.args.axes.stored _ c.requires c.axis.ensures, omega (arith, c.args.axes.stored.fit.narrow))

pub returns : goal.returns
returns c = signature_made c.axis.ensures c.support_signature.ensures
