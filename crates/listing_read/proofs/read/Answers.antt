-- The first line, then the records behind it. Assumes nothing.
use Rattle.listing_read.specs.Body.{refused}
use Rattle.listing_read.specs.Header.{read_header, no_header}
use Rattle.listing_read.proofs.read.Goals as goal

pub returns-in_err-said : goal.returns-in_err-said
returns-in_err-said c = refused _ _ _ _ c.from_residual.ensures.0 (no_header _ c.in_err-said.ensures.read)

pub returns : goal.returns
returns c = read_header _ _ _ _ c.in_ok-said.ensures.read c.body.ensures
