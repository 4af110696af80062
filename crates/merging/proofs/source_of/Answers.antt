-- A number that is no axis, or whose image is another word, tells nothing. Assumes nothing.
use Rattle.stream_states.specs.States.{held_of}
use Rattle.merging.specs.LookedUp.{carries_at, told}
use Rattle.merging.proofs.source_of.Goals as goal

pub carries-requires : goal.carries-requires
carries-requires c = record { state = held_of c.requires.pass; it = carries_at c.requires.it c.if-a-st.true }

pub returns-then-carries : goal.returns-then-carries
returns-then-carries c = (
  c.carries.ensures.0,
  λ m n p h. told h c.if-a-st.true
      (c.carries.ensures.1 (held_of p) (carries_at h c.if-a-st.true)) c.if-carries.true,
)
