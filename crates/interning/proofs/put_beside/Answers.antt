-- Where words are longer than one number the signature is written. Assumes nothing.
use Rattle.interning.specs.Beside.{put_signature}
use Rattle.interning.proofs.put_beside.Goals as goal

pub returns : goal.returns
returns c = put_signature c.requires c.support_signature-signature.ensures c.write_wide.ensures
