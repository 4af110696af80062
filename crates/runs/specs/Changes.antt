-- 02, M-112: calls of Rewriting that name an operation, by computing. Rust is not compared on them: what comes out was found by an independent
-- reading of 01 and 02, and by the Rust with the setting put in (oracle/requests). Assumes nothing.
use Rattle.std.specs.Prelude.{◌≡◌, refl, true, false, [], ◌∷◌}
use Rattle.model.specs.declared.Strategy.TheVariants.{Merge, Litinski}
use Rattle.model.specs.declared.Lazy.TheVariants.{Off, On, From}
use Rattle.model.specs.Program.{Job}
use Rattle.model.specs.Everything.{everything}
use Rattle.runs.specs.Shown.{I, X, Y, Z, product, rotate, measure, conditional, row, job, rotated, measured+, measured-, conditioned}
use Rattle.runs.specs.Options.{options, called, leaves, refused_by, ◌room◌}

-- X:1 Z:2 Y:1, a measurement of Z, X:1 Z:2 Y:1
abbrev twice : Job
twice = job 1 (I ∷ X 0 ∷ Z 0 ∷ Y 0 ∷ [])
    (rotate 1 0 1 ∷ rotate 2 0 2 ∷ rotate 3 0 1 ∷ measure 2 0 0 65535 ∷ rotate 1 0 1 ∷ rotate 2 0 2 ∷ rotate 3 0 1 ∷ [])
    (row 0 0 1 0 ∷ row 0 1 2 0 ∷ [])

-- XX:1 YY:1 ZI:1 IZ:1 YY:3 IX:1 XX:1, a measurement of ZI
abbrev rounds : Job
rounds = job 2 (I ∷ X 0 ∷ Z 0 ∷ Y 0 ∷ X 1 ∷ Z 1 ∷ Y 1 ∷ product 1 0 4 0 ∷ product 3 0 6 0 ∷ [])
    (rotate 7 0 1 ∷ rotate 8 0 1 ∷ rotate 2 0 1 ∷ rotate 5 0 1 ∷ rotate 8 0 3 ∷ rotate 4 0 1 ∷ rotate 7 0 1 ∷ measure 2 0 0 65535 ∷ [])
    (row 0 0 1 0 ∷ row 0 1 2 0 ∷ row 1 0 4 0 ∷ row 1 1 5 0 ∷ [])

-- a measurement of Y, Y:7 Y:2 Z:4 Y:7 X:2 Z:1
abbrev again : Job
again = job 1 (I ∷ X 0 ∷ Z 0 ∷ Y 0 ∷ [])
    (measure 3 0 0 65535 ∷ rotate 3 0 7 ∷ rotate 3 0 2 ∷ rotate 2 0 4 ∷ rotate 3 0 7 ∷ rotate 1 0 2 ∷ rotate 2 0 1 ∷ [])
    (row 0 0 1 0 ∷ row 0 1 2 0 ∷ [])

-- a measurement of X, Y:1 Z:2 Z:2 Y:7, a measurement of X
abbrev between : Job
between = job 1 (I ∷ X 0 ∷ Z 0 ∷ Y 0 ∷ [])
    (measure 1 0 0 65535 ∷ rotate 3 0 1 ∷ rotate 2 0 2 ∷ rotate 2 0 2 ∷ rotate 3 0 7 ∷ measure 1 0 1 65535 ∷ [])
    (row 0 0 1 0 ∷ row 0 1 2 0 ∷ [])

-- Z:4, a measurement of Y, X:1 if it was 1, X:7 Z:2 Y:1
abbrev behind : Job
behind = job 1 (I ∷ X 0 ∷ Z 0 ∷ Y 0 ∷ [])
    (rotate 2 0 4 ∷ measure 3 0 0 65535 ∷ conditional 1 0 1 0 ∷ rotate 1 0 7 ∷ rotate 2 0 2 ∷ rotate 3 0 1 ∷ [])
    (row 0 0 1 0 ∷ row 0 1 2 0 ∷ [])

-- a measurement of Z, Z:7 Y:2 X:1, Y:1 if it was 1, X:7 Z:2 Y:1
abbrev conditioned_behind : Job
conditioned_behind = job 1 (I ∷ X 0 ∷ Z 0 ∷ Y 0 ∷ [])
    (measure 2 0 0 65535 ∷ rotate 2 0 7 ∷ rotate 3 0 2 ∷ rotate 1 0 1 ∷ conditional 3 0 1 0 ∷ rotate 1 0 7 ∷ rotate 2 0 2 ∷ rotate 3 0 1 ∷ [])
    (row 0 0 1 0 ∷ row 0 1 2 0 ∷ [])

-- at once: T 0
at_once_lem : called (options 0 0 16 1 true true Off Merge false 64) twice
    ≡ leaves (4 ∷ 0 ∷ 2 ∷ 0 ∷ 4 ∷ 6 ∷ 0 ∷ 0 ∷ 0 ∷ 6 ∷ 0 ∷ 12 ∷ [])
    ((measured+ 2 0 65535 ∷ []) room 6)
unfolding everything
at_once_lem = refl

-- lazy: T 4
lazily : called (options 0 0 16 1 true true On Merge false 64) twice
    ≡ leaves (4 ∷ 4 ∷ 0 ∷ 0 ∷ 2 ∷ 6 ∷ 4 ∷ 0 ∷ 0 ∷ 6 ∷ 4 ∷ 12 ∷ [])
    ((rotated 0 1 ∷ rotated 0 1 ∷ measured+ 1 0 65535 ∷ rotated 2 7 ∷ rotated 2 7 ∷ []) room 2)
unfolding everything
lazily = refl

-- lazy behind the measurement: T 2; refuses a change that comes never, at the start, or with F cleared
lazy_behind : called (options 0 0 16 1 true true (From 3) Merge false 64) twice
    ≡ leaves (4 ∷ 2 ∷ 1 ∷ 0 ∷ 3 ∷ 6 ∷ 2 ∷ 0 ∷ 0 ∷ 6 ∷ 2 ∷ 12 ∷ [])
    ((measured+ 2 0 65535 ∷ rotated 1 1 ∷ rotated 1 1 ∷ []) room 4)
unfolding everything
lazy_behind = refl

-- absorption off: the name changes nothing
off_and_named : called (options 0 0 16 1 false true (From 3) Merge false 64) twice
    ≡ leaves (4 ∷ 4 ∷ 0 ∷ 0 ∷ 0 ∷ 6 ∷ 6 ∷ 0 ∷ 0 ∷ 6 ∷ 6 ∷ 8 ∷ [])
    ((rotated 0 1 ∷ rotated 1 2 ∷ rotated 2 1 ∷ measured+ 1 0 65535 ∷ rotated 0 1 ∷ rotated 1 2 ∷ rotated 2 1 ∷ []) room 0)
unfolding everything
off_and_named = refl

-- Litinski's streams do not merge, so a place leaves what either setting leaves
litinski : called (options 0 0 16 8 true true (From 3) Litinski false 64) twice
    ≡ leaves (4 ∷ 0 ∷ 2 ∷ 0 ∷ 4 ∷ 6 ∷ 0 ∷ 0 ∷ 0 ∷ 6 ∷ 0 ∷ 12 ∷ [])
    ((measured+ 2 0 65535 ∷ []) room 6)
unfolding everything
litinski = refl

litinski_at_once : called (options 0 0 16 8 true true Off Litinski false 64) twice
    ≡ leaves (4 ∷ 0 ∷ 2 ∷ 0 ∷ 4 ∷ 6 ∷ 0 ∷ 0 ∷ 0 ∷ 6 ∷ 0 ∷ 12 ∷ [])
    ((measured+ 2 0 65535 ∷ []) room 6)
unfolding everything
litinski_at_once = refl

-- each stream begins at once again: T 3; it would be 5 with later streams lazy throughout
anew : called (options 1 4 16 2 true true (From 7) Merge false 64) rounds
    ≡ leaves (7 ∷ 3 ∷ 1 ∷ 1 ∷ 2 ∷ 7 ∷ 3 ∷ 0 ∷ 0 ∷ 11 ∷ 3 ∷ 28 ∷ [])
    ((rotated 1 1 ∷ rotated 3 1 ∷ rotated 2 7 ∷ measured- 6 0 65535 ∷ []) room 4)
unfolding everything
anew = refl

-- each stream changes: 3 merges; 2 if the first alone did
again_lazy : called (options 0 2 16 3 true true (From 0) Merge false 64) again
    ≡ leaves (3 ∷ 1 ∷ 3 ∷ 0 ∷ 2 ∷ 6 ∷ 1 ∷ 0 ∷ 0 ∷ 6 ∷ 1 ∷ 12 ∷ [])
    ((measured+ 2 0 65535 ∷ rotated 2 1 ∷ []) room 5)
unfolding everything
again_lazy = refl

-- the named barrier alone counts: T 0
second_named : called (options 0 0 16 1 true true (From 5) Merge false 64) between
    ≡ leaves (2 ∷ 0 ∷ 1 ∷ 0 ∷ 3 ∷ 4 ∷ 0 ∷ 0 ∷ 0 ∷ 4 ∷ 0 ∷ 12 ∷ [])
    ((measured+ 0 0 65535 ∷ measured- 1 1 65535 ∷ []) room 4)
unfolding everything
second_named = refl

-- T 2
first_named : called (options 0 0 16 1 true true (From 0) Merge false 64) between
    ≡ leaves (2 ∷ 2 ∷ 1 ∷ 0 ∷ 1 ∷ 4 ∷ 2 ∷ 0 ∷ 0 ∷ 4 ∷ 2 ∷ 12 ∷ [])
    ((measured+ 0 0 65535 ∷ rotated 2 1 ∷ rotated 2 1 ∷ measured- 0 1 65535 ∷ []) room 2)
unfolding everything
first_named = refl

-- barriers behind it do not end the change: T 3
goes_on : called (options 0 0 16 1 true true (From 1) Merge false 64) behind
    ≡ leaves (3 ∷ 3 ∷ 0 ∷ 0 ∷ 2 ∷ 4 ∷ 2 ∷ 0 ∷ 0 ∷ 5 ∷ 3 ∷ 12 ∷ [])
    ((measured- 2 0 65535 ∷ conditioned 0 7 0 ∷ rotated 0 1 ∷ rotated 0 7 ∷ []) room 2)
unfolding everything
goes_on = refl

-- a conditional rotation is named: T 3; at once 1, lazy and behind the measurement 5
conditional_named : called (options 0 0 16 1 true true (From 4) Merge false 64) conditioned_behind
    ≡ leaves (5 ∷ 3 ∷ 1 ∷ 0 ∷ 2 ∷ 6 ∷ 2 ∷ 0 ∷ 0 ∷ 7 ∷ 3 ∷ 12 ∷ [])
    ((measured+ 1 0 65535 ∷ conditioned 2 1 0 ∷ rotated 1 7 ∷ rotated 1 1 ∷ []) room 4)
unfolding everything
conditional_named = refl

measurement_named : called (options 0 0 16 1 true true (From 0) Merge false 64) conditioned_behind
    ≡ leaves (5 ∷ 5 ∷ 0 ∷ 0 ∷ 2 ∷ 6 ∷ 4 ∷ 0 ∷ 0 ∷ 7 ∷ 5 ∷ 12 ∷ [])
    ((measured+ 1 0 65535 ∷ rotated 1 7 ∷ rotated 1 1 ∷ conditioned 2 1 0 ∷ rotated 1 7 ∷ rotated 1 1 ∷ []) room 2)
unfolding everything
measurement_named = refl

-- 16: outside the program
outside : called (options 1048576 0 16 8 true true (From 7) Merge false 64) twice ≡ refused_by 16
unfolding everything
outside = refl

-- 16: a plain rotation
plain : called (options 1048576 0 16 8 true true (From 0) Merge false 64) twice ≡ refused_by 16
unfolding everything
plain = refl

-- also where absorption is off
plain_off : called (options 1048576 0 16 8 false true (From 0) Merge false 64) twice ≡ refused_by 16
unfolding everything
plain_off = refl

-- after the rows: 6 where the last row has phase 4
rows_first : called (options 1048576 0 16 8 true true (From 7) Merge false 64)
    (job 1 (I ∷ X 0 ∷ Z 0 ∷ []) (rotate 1 0 1 ∷ []) (row 0 0 1 0 ∷ row 0 1 2 4 ∷ [])) ≡ refused_by 6
unfolding everything
rows_first = refl
