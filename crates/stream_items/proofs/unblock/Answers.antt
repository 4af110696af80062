-- None blocks where absorption is off, or at once. Assumes nothing.
use mathlib.Core.Path.{sym, ◌∙◌}
use Rattle.stream_states.specs.States.{left_none}
use Rattle.stream_items.specs.Items.{unblock_none, blocking_there, unblock_as}
use Rattle.stream_items.proofs.unblock.Goals as goal

pub returns-then-not-is_lazy : goal.returns-then-not-is_lazy
returns-then-not-is_lazy c = (left_none _ _ _, λ m n p h. unblock_none h (sym c.is_lazy.ensures ∙ c.if-not-is_lazy.true))

pub absorb_blocking-requires : goal.absorb_blocking-requires
absorb_blocking-requires c = record {
  absorption = c.requires.absorption;
  items = c.requires.items;
  pass = c.requires.pass;
  it = blocking_there c.requires.it
      (sym c.is_lazy.ensures ∙ c.if-not-is_lazy.false);
}

pub returns : goal.returns
returns c = (
  c.absorb_blocking.ensures.0,
  λ m n p h.
      let waits = sym c.is_lazy.ensures ∙ c.if-not-is_lazy.false in
      unblock_as h waits (c.absorb_blocking.ensures.1 n p (blocking_there h waits)),
)
