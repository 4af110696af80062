-- None waits where absorption is off, or at once. Assumes nothing.
use mathlib.Core.Path.{sym, ◌∙◌}
use Rattle.stream_states.specs.States.{left_none}
use Rattle.stream_items.specs.Items.{none_waits, all_there, all_as}
use Rattle.stream_items.proofs.absorb_all.Goals as goal

pub returns-then-not-is_lazy : goal.returns-then-not-is_lazy
returns-then-not-is_lazy c = (left_none _ _ _, λ m n p h. none_waits h (sym c.is_lazy.ensures ∙ c.if-not-is_lazy.true))

pub absorb_waiting-requires : goal.absorb_waiting-requires
absorb_waiting-requires c = record {
  absorption = c.requires.absorption;
  items = c.requires.items;
  pass = c.requires.pass;
  it = all_there c.requires.it
      (sym c.is_lazy.ensures ∙ c.if-not-is_lazy.false);
}

pub returns : goal.returns
returns c = (
  c.absorb_waiting.ensures.0,
  λ m n p h. all_as h (sym c.is_lazy.ensures ∙ c.if-not-is_lazy.false)
      (c.absorb_waiting.ensures.1 n p (all_there h (sym c.is_lazy.ensures ∙ c.if-not-is_lazy.false))),
)
