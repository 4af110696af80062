-- A part is lent, and comes back as the fields. Assumes nothing.
use mathlib.Core.Path.{refl}
use Rattle.store.specs.Part.{put_lent}
use Rattle.results.proofs.put_fields.Goals as goal

pub returns : goal.returns
returns c = put_lent _ _ _ _ _ c.copy_from_slice.ensures.after refl
