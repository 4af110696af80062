-- A fact of some program: what a function demands that does not see the whole program. Assumes nothing.
use Rattle.model.specs.Program.{Program}

pub record SomeProgram (P : Program → Type 0) : Type 0 where
  pub program : Program
  pub it : P program
