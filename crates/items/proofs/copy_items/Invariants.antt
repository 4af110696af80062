-- The loop's invariant: i entries are copied. Assumes nothing.
use Prim.Native.Nat.{◌≤◌}
use Rattle.items.specs.Copy.{ItemsCopied}
use Rattle.items.proofs.copy_items.Given as goal

abbrev pub invariant-loop-i : goal.invariant-loop-i
invariant-loop-i l = (l.i ≤ l.n) × ItemsCopied l.initial.numbers l.u l.c l.from l.d l.to l.i l.numbers
