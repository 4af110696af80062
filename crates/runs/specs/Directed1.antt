-- Written by compared.py: the oracle's directed cases, with what the Rust makes of each. Assumes nothing.
use Rattle.std.specs.Prelude.{◌≡◌, refl, true, false, [], ◌∷◌}
use Rattle.model.specs.declared.Strategy.TheVariants.{Merge}
use Rattle.model.specs.declared.Absorption.TheVariants.{Off as off, AtOnce as at_once, Lazy as lazy}
use Rattle.model.specs.Everything.{everything}
use Rattle.runs.specs.Shown.{I, X, Y, Z, product, rotate, measure, conditional, row, program, rules, rotated, measured+, measured-}
use Rattle.runs.specs.Shown.{conditioned, kept, given+, given-, non_hermitian_at, shows}
use Rattle.runs.specs.Outcome.{limit_exceeded, within, outcome}

-- lazy: absorbing a waiting rotation clears `last` of its axis even where it names a newer place
job_0 : outcome 4096 (rules 1 0 16 lazy true Merge false) 1 (program 3
    (I ∷ Z 0 ∷ Z 1 ∷ Z 2 ∷ X 0 ∷ X 0 ∷ Z 0 ∷ X 1 ∷ Z 1 ∷ X 2 ∷ Z 2 ∷ [])
    (rotate 1 0 2 ∷ rotate 2 0 1 ∷ rotate 3 0 1 ∷ rotate 1 0 1 ∷ rotate 4 0 1 ∷ rotate 4 0 7 ∷ rotate 1 0 1 ∷ [])
    (row 0 0 5 0 ∷ row 0 1 6 0 ∷ row 1 0 7 0 ∷ row 1 1 8 0 ∷ row 2 0 9 0 ∷ row 2 1 10 0 ∷ []))
    ≡ within (shows 20
    (rotated 1 1 ∷ rotated 2 1 ∷ rotated 0 1 ∷ rotated 0 1 ∷ [])
    (given- 0 0 6 ∷ given+ 0 1 0 ∷ given+ 1 0 4 ∷ given+ 1 1 1 ∷ given+ 2 0 5 ∷ given+ 2 1 2 ∷ [])
    ((0 ∷ 1 ∷ []) ∷ (0 ∷ 2 ∷ []) ∷ (0 ∷ 4 ∷ []) ∷ (1 ∷ 0 ∷ []) ∷ (2 ∷ 0 ∷ []) ∷ (4 ∷ 0 ∷ []) ∷ (1 ∷ 1 ∷ [])
    ∷ [])
    (6 ∷ 4 ∷ 1 ∷ 0 ∷ 1 ∷ 7 ∷ 4 ∷ 0 ∷ 0 ∷ 7 ∷ 4 ∷ 20 ∷ []))
unfolding everything
job_0 = refl

-- stop rule: a round with an exchange goes on though the T-count is no lower
job_1 : outcome 4096 (rules 0 1 0 off true Merge false) 3 (program 2
    (I ∷ Y 1 ∷ Y 0 ∷ X 0 ∷ Z 0 ∷ X 1 ∷ Z 1 ∷ [])
    (rotate 1 0 7 ∷ rotate 2 0 1 ∷ rotate 1 0 2 ∷ rotate 2 0 2 ∷ rotate 1 0 1 ∷ [])
    (row 0 0 3 0 ∷ row 0 1 4 0 ∷ row 1 0 5 0 ∷ row 1 1 6 0 ∷ []))
    ≡ within (shows 14
    (rotated 1 3 ∷ rotated 0 2 ∷ [])
    (kept 0 0 ∷ kept 0 1 ∷ kept 1 0 ∷ kept 1 1 ∷ [])
    ((2 ∷ 2 ∷ []) ∷ (1 ∷ 1 ∷ []) ∷ (1 ∷ 0 ∷ []) ∷ (0 ∷ 1 ∷ []) ∷ (2 ∷ 0 ∷ []) ∷ (0 ∷ 2 ∷ []) ∷ [])
    (3 ∷ 1 ∷ 0 ∷ 3 ∷ 0 ∷ 5 ∷ 2 ∷ 0 ∷ 0 ∷ 5 ∷ 2 ∷ 14 ∷ []))
unfolding everything
job_1 = refl

-- stop rule: the same with longer runs
job_2 : outcome 4096 (rules 0 2 0 off true Merge false) 3 (program 2
    (I ∷ Y 0 ∷ X 1 ∷ product 1 0 2 0 ∷ Y 1 ∷ Z 0 ∷ Z 1 ∷ X 0 ∷ Z 0 ∷ X 1 ∷ Z 1 ∷ [])
    (rotate 3 0 1 ∷ rotate 4 0 1 ∷ rotate 3 0 6 ∷ rotate 5 0 4 ∷ rotate 6 0 1 ∷ rotate 6 0 7 ∷ rotate 5 0 4
    ∷ rotate 3 0 2 ∷ rotate 4 0 1 ∷ [])
    (row 0 0 7 0 ∷ row 0 1 8 0 ∷ row 1 0 9 0 ∷ row 1 1 10 0 ∷ []))
    ≡ within (shows 16
    (rotated 0 1 ∷ rotated 1 2 ∷ [])
    (kept 0 0 ∷ kept 0 1 ∷ kept 1 0 ∷ kept 1 1 ∷ [])
    ((3 ∷ 1 ∷ []) ∷ (2 ∷ 2 ∷ []) ∷ (0 ∷ 1 ∷ []) ∷ (0 ∷ 2 ∷ []) ∷ (1 ∷ 0 ∷ []) ∷ (2 ∷ 0 ∷ []) ∷ [])
    (5 ∷ 1 ∷ 3 ∷ 1 ∷ 0 ∷ 9 ∷ 2 ∷ 0 ∷ 0 ∷ 12 ∷ 3 ∷ 16 ∷ []))
unfolding everything
job_2 = refl

-- local merging in a trial stops at an anticommuting rotation (exchange of first with second)
job_3 : outcome 4096 (rules 1 3 16 at_once true Merge false) 1 (program 3
    (I ∷ X 0 ∷ X 1 ∷ product 1 0 2 0 ∷ Y 0 ∷ Y 1 ∷ product 4 0 5 0 ∷ X 2 ∷ Z 0 ∷ Z 1 ∷ Z 0 ∷ Z 1
    ∷ product 10 0 11 0 ∷ X 0 ∷ Z 0 ∷ X 1 ∷ Z 1 ∷ X 2 ∷ Z 2 ∷ [])
    (rotate 3 0 1 ∷ rotate 6 0 1 ∷ rotate 7 0 1 ∷ rotate 8 0 1 ∷ rotate 9 0 1 ∷ rotate 12 0 1 ∷ rotate 8 0 1 ∷ rotate 7 0 1 ∷ [])
    (row 0 0 13 0 ∷ row 0 1 14 0 ∷ row 1 0 15 0 ∷ row 1 1 16 0 ∷ row 2 0 17 0 ∷ row 2 1 18 0 ∷ []))
    ≡ within (shows 26
    (rotated 3 1 ∷ rotated 4 1 ∷ rotated 5 1 ∷ rotated 0 1 ∷ rotated 1 1 ∷ rotated 3 1 ∷ [])
    (given+ 0 0 6 ∷ given+ 0 1 3 ∷ given+ 1 0 7 ∷ given+ 1 1 4 ∷ given+ 2 0 2 ∷ given+ 2 1 9 ∷ [])
    ((3 ∷ 0 ∷ []) ∷ (3 ∷ 3 ∷ []) ∷ (4 ∷ 0 ∷ []) ∷ (0 ∷ 1 ∷ []) ∷ (0 ∷ 2 ∷ []) ∷ (0 ∷ 3 ∷ []) ∷ (1 ∷ 0 ∷ [])
    ∷ (2 ∷ 0 ∷ []) ∷ (0 ∷ 4 ∷ []) ∷ (4 ∷ 4 ∷ []) ∷ [])
    (8 ∷ 6 ∷ 0 ∷ 1 ∷ 1 ∷ 8 ∷ 6 ∷ 0 ∷ 0 ∷ 11 ∷ 9 ∷ 26 ∷ []))
unfolding everything
job_3 = refl

-- local merging, exchanges only where the T-count falls
job_4 : outcome 4096 (rules 0 3 16 at_once false Merge false) 1 (program 3
    (I ∷ X 0 ∷ X 1 ∷ product 1 0 2 0 ∷ Y 0 ∷ Y 1 ∷ product 4 0 5 0 ∷ X 2 ∷ Z 0 ∷ Z 1 ∷ Z 0 ∷ Z 1
    ∷ product 10 0 11 0 ∷ X 0 ∷ Z 0 ∷ X 1 ∷ Z 1 ∷ X 2 ∷ Z 2 ∷ [])
    (rotate 3 0 1 ∷ rotate 6 0 1 ∷ rotate 7 0 1 ∷ rotate 8 0 1 ∷ rotate 9 0 1 ∷ rotate 12 0 1 ∷ rotate 8 0 1 ∷ rotate 7 0 1 ∷ [])
    (row 0 0 13 0 ∷ row 0 1 14 0 ∷ row 1 0 15 0 ∷ row 1 1 16 0 ∷ row 2 0 17 0 ∷ row 2 1 18 0 ∷ []))
    ≡ within (shows 26
    (rotated 3 1 ∷ rotated 4 1 ∷ rotated 5 1 ∷ rotated 0 1 ∷ rotated 1 1 ∷ rotated 3 1 ∷ [])
    (given+ 0 0 6 ∷ given+ 0 1 3 ∷ given+ 1 0 7 ∷ given+ 1 1 4 ∷ given+ 2 0 2 ∷ given+ 2 1 9 ∷ [])
    ((3 ∷ 0 ∷ []) ∷ (3 ∷ 3 ∷ []) ∷ (4 ∷ 0 ∷ []) ∷ (0 ∷ 1 ∷ []) ∷ (0 ∷ 2 ∷ []) ∷ (0 ∷ 3 ∷ []) ∷ (1 ∷ 0 ∷ [])
    ∷ (2 ∷ 0 ∷ []) ∷ (0 ∷ 4 ∷ []) ∷ (4 ∷ 4 ∷ []) ∷ [])
    (8 ∷ 6 ∷ 0 ∷ 1 ∷ 1 ∷ 8 ∷ 6 ∷ 0 ∷ 0 ∷ 11 ∷ 9 ∷ 26 ∷ []))
unfolding everything
job_4 = refl

-- one round leaves T 2
job_5 : outcome 4096 (rules 1048576 0 16 at_once true Merge false) 1 (program 1
    (I ∷ X 0 ∷ Z 0 ∷ X 0 ∷ Z 0 ∷ [])
    (rotate 1 0 1 ∷ rotate 2 0 1 ∷ rotate 1 0 1 ∷ rotate 1 0 7 ∷ rotate 2 0 7 ∷ rotate 1 0 1 ∷ [])
    (row 0 0 3 0 ∷ row 0 1 4 0 ∷ []))
    ≡ within (shows 6
    (rotated 0 1 ∷ rotated 0 1 ∷ [])
    (kept 0 0 ∷ kept 0 1 ∷ [])
    ((1 ∷ 0 ∷ []) ∷ (0 ∷ 1 ∷ []) ∷ [])
    (6 ∷ 2 ∷ 2 ∷ 0 ∷ 0 ∷ 6 ∷ 2 ∷ 0 ∷ 0 ∷ 6 ∷ 2 ∷ 6 ∷ []))
unfolding everything
job_5 = refl

-- two rounds leave T 0
job_6 : outcome 4096 (rules 1048576 0 16 at_once true Merge false) 2 (program 1
    (I ∷ X 0 ∷ Z 0 ∷ X 0 ∷ Z 0 ∷ [])
    (rotate 1 0 1 ∷ rotate 2 0 1 ∷ rotate 1 0 1 ∷ rotate 1 0 7 ∷ rotate 2 0 7 ∷ rotate 1 0 1 ∷ [])
    (row 0 0 3 0 ∷ row 0 1 4 0 ∷ []))
    ≡ within (shows 12
    []
    (given+ 0 0 0 ∷ given+ 0 1 2 ∷ [])
    ((1 ∷ 0 ∷ []) ∷ (0 ∷ 1 ∷ []) ∷ (1 ∷ 1 ∷ []) ∷ [])
    (6 ∷ 0 ∷ 3 ∷ 0 ∷ 1 ∷ 6 ∷ 0 ∷ 0 ∷ 0 ∷ 6 ∷ 0 ∷ 12 ∷ []))
unfolding everything
job_6 = refl

-- the smallest exchange: T 5 to 3
job_7 : outcome 4096 (rules 1048576 2 16 at_once true Merge false) 8 (program 2
    (I ∷ X 0 ∷ X 1 ∷ product 1 0 2 0 ∷ Y 0 ∷ Y 1 ∷ product 4 0 5 0 ∷ Z 0 ∷ Z 1 ∷ X 0 ∷ Z 0 ∷ X 1 ∷ Z 1 ∷ [])
    (rotate 3 0 1 ∷ rotate 6 0 1 ∷ rotate 7 0 1 ∷ rotate 8 0 1 ∷ rotate 3 0 1 ∷ [])
    (row 0 0 9 0 ∷ row 0 1 10 0 ∷ row 1 0 11 0 ∷ row 1 1 12 0 ∷ []))
    ≡ within (shows 28
    (rotated 2 1 ∷ rotated 3 1 ∷ rotated 1 1 ∷ [])
    (given+ 0 0 4 ∷ given+ 0 1 6 ∷ given+ 1 0 5 ∷ given+ 1 1 7 ∷ [])
    ((3 ∷ 0 ∷ []) ∷ (3 ∷ 3 ∷ []) ∷ (0 ∷ 1 ∷ []) ∷ (0 ∷ 2 ∷ []) ∷ (1 ∷ 0 ∷ []) ∷ (2 ∷ 0 ∷ []) ∷ (3 ∷ 1 ∷ [])
    ∷ (3 ∷ 2 ∷ []) ∷ [])
    (5 ∷ 3 ∷ 0 ∷ 1 ∷ 1 ∷ 5 ∷ 3 ∷ 0 ∷ 0 ∷ 8 ∷ 4 ∷ 28 ∷ []))
unfolding everything
job_7 = refl

-- one round: largest sum 8
job_8 : outcome 8 (rules 0 5 16 at_once true Merge false) 1 (program 1
    (I ∷ Y 0 ∷ Z 0 ∷ X 0 ∷ Z 0 ∷ [])
    (rotate 1 0 1 ∷ rotate 2 2 1 ∷ rotate 2 0 1 ∷ rotate 1 0 1 ∷ [])
    (row 0 0 3 0 ∷ row 0 1 4 0 ∷ []))
    ≡ within (shows 8
    (rotated 0 1 ∷ rotated 0 1 ∷ [])
    (kept 0 0 ∷ kept 0 1 ∷ [])
    ((1 ∷ 1 ∷ []) ∷ (0 ∷ 1 ∷ []) ∷ (1 ∷ 0 ∷ []) ∷ [])
    (4 ∷ 2 ∷ 1 ∷ 0 ∷ 0 ∷ 4 ∷ 2 ∷ 0 ∷ 0 ∷ 4 ∷ 2 ∷ 8 ∷ []))
unfolding everything
job_8 = refl

-- two rounds: limit 8 is too small
job_9 : outcome 8 (rules 0 5 16 at_once true Merge false) 2 (program 1
    (I ∷ Y 0 ∷ Z 0 ∷ X 0 ∷ Z 0 ∷ [])
    (rotate 1 0 1 ∷ rotate 2 2 1 ∷ rotate 2 0 1 ∷ rotate 1 0 1 ∷ [])
    (row 0 0 3 0 ∷ row 0 1 4 0 ∷ []))
    ≡ limit_exceeded
unfolding everything
job_9 = refl

-- two rounds: limit 11 is too small
job_10 : outcome 11 (rules 0 5 16 at_once true Merge false) 2 (program 1
    (I ∷ Y 0 ∷ Z 0 ∷ X 0 ∷ Z 0 ∷ [])
    (rotate 1 0 1 ∷ rotate 2 2 1 ∷ rotate 2 0 1 ∷ rotate 1 0 1 ∷ [])
    (row 0 0 3 0 ∷ row 0 1 4 0 ∷ []))
    ≡ limit_exceeded
unfolding everything
job_10 = refl

-- two rounds: largest sum 12
job_11 : outcome 12 (rules 0 5 16 at_once true Merge false) 2 (program 1
    (I ∷ Y 0 ∷ Z 0 ∷ X 0 ∷ Z 0 ∷ [])
    (rotate 1 0 1 ∷ rotate 2 2 1 ∷ rotate 2 0 1 ∷ rotate 1 0 1 ∷ [])
    (row 0 0 3 0 ∷ row 0 1 4 0 ∷ []))
    ≡ within (shows 12
    []
    (given+ 0 0 1 ∷ given- 0 1 2 ∷ [])
    ((1 ∷ 1 ∷ []) ∷ (0 ∷ 1 ∷ []) ∷ (1 ∷ 0 ∷ []) ∷ [])
    (4 ∷ 0 ∷ 2 ∷ 0 ∷ 1 ∷ 4 ∷ 0 ∷ 0 ∷ 0 ∷ 4 ∷ 0 ∷ 12 ∷ []))
unfolding everything
job_11 = refl

-- not lazy: T 0
job_12 : outcome 4096 (rules 0 0 16 at_once true Merge false) 1 (program 2
    (I ∷ X 0 ∷ X 0 ∷ Y 1 ∷ product 2 0 3 0 ∷ X 0 ∷ Z 0 ∷ X 1 ∷ Z 1 ∷ [])
    (rotate 1 0 7 ∷ rotate 4 0 4 ∷ rotate 1 0 7 ∷ [])
    (row 0 0 5 0 ∷ row 0 1 6 0 ∷ row 1 0 7 0 ∷ row 1 1 8 0 ∷ []))
    ≡ within (shows 24
    []
    (given+ 0 0 0 ∷ given+ 0 1 5 ∷ given- 1 0 3 ∷ given- 1 1 4 ∷ [])
    ((1 ∷ 0 ∷ []) ∷ (3 ∷ 2 ∷ []) ∷ (0 ∷ 1 ∷ []) ∷ (2 ∷ 0 ∷ []) ∷ (0 ∷ 2 ∷ []) ∷ (1 ∷ 1 ∷ []) ∷ [])
    (2 ∷ 0 ∷ 1 ∷ 0 ∷ 2 ∷ 3 ∷ 0 ∷ 0 ∷ 0 ∷ 4 ∷ 0 ∷ 24 ∷ []))
unfolding everything
job_12 = refl

-- lazy: T 2
job_13 : outcome 4096 (rules 0 0 16 lazy true Merge false) 1 (program 2
    (I ∷ X 0 ∷ X 0 ∷ Y 1 ∷ product 2 0 3 0 ∷ X 0 ∷ Z 0 ∷ X 1 ∷ Z 1 ∷ [])
    (rotate 1 0 7 ∷ rotate 4 0 4 ∷ rotate 1 0 7 ∷ [])
    (row 0 0 5 0 ∷ row 0 1 6 0 ∷ row 1 0 7 0 ∷ row 1 1 8 0 ∷ []))
    ≡ within (shows 22
    (rotated 0 7 ∷ rotated 0 7 ∷ [])
    (given+ 0 0 0 ∷ given- 0 1 2 ∷ given- 1 0 3 ∷ given- 1 1 4 ∷ [])
    ((1 ∷ 0 ∷ []) ∷ (3 ∷ 2 ∷ []) ∷ (0 ∷ 1 ∷ []) ∷ (2 ∷ 0 ∷ []) ∷ (0 ∷ 2 ∷ []) ∷ [])
    (2 ∷ 2 ∷ 0 ∷ 0 ∷ 1 ∷ 3 ∷ 2 ∷ 0 ∷ 0 ∷ 4 ∷ 2 ∷ 22 ∷ []))
unfolding everything
job_13 = refl

-- an absorbed angle clears `last` though an older equal axis exists
job_30 : outcome 4096 (rules 3 0 16 at_once true Merge false) 1 (program 1
    (I ∷ Y 0 ∷ X 0 ∷ X 0 ∷ Z 0 ∷ [])
    (rotate 1 0 1 ∷ rotate 2 0 1 ∷ rotate 1 2 7 ∷ rotate 1 2 1 ∷ rotate 2 0 7 ∷ rotate 1 0 1 ∷ [])
    (row 0 0 3 0 ∷ row 0 1 4 0 ∷ []))
    ≡ within (shows 8
    (rotated 0 1 ∷ rotated 0 1 ∷ [])
    (kept 0 0 ∷ kept 0 1 ∷ [])
    ((1 ∷ 1 ∷ []) ∷ (1 ∷ 0 ∷ []) ∷ (0 ∷ 1 ∷ []) ∷ [])
    (6 ∷ 2 ∷ 2 ∷ 0 ∷ 0 ∷ 6 ∷ 2 ∷ 0 ∷ 0 ∷ 6 ∷ 2 ∷ 8 ∷ []))
unfolding everything
job_30 = refl

-- no merging across a measurement
job_31 : outcome 4096 (rules 1048576 0 16 at_once true Merge false) 8 (program 1
    (I ∷ X 0 ∷ X 0 ∷ Z 0 ∷ [])
    (rotate 1 0 1 ∷ measure 1 0 5 65535 ∷ rotate 1 0 1 ∷ [])
    (row 0 0 2 0 ∷ row 0 1 3 0 ∷ []))
    ≡ within (shows 6
    (rotated 0 1 ∷ measured+ 0 5 65535 ∷ rotated 0 1 ∷ [])
    (kept 0 0 ∷ kept 0 1 ∷ [])
    ((1 ∷ 0 ∷ []) ∷ (0 ∷ 1 ∷ []) ∷ [])
    (2 ∷ 2 ∷ 0 ∷ 0 ∷ 0 ∷ 2 ∷ 2 ∷ 0 ∷ 0 ∷ 2 ∷ 2 ∷ 6 ∷ []))
unfolding everything
job_31 = refl

-- no merging across a conditional rotation; its sign goes into the angle
job_32 : outcome 4096 (rules 1048576 0 16 at_once true Merge false) 8 (program 1
    (I ∷ Z 0 ∷ X 0 ∷ X 0 ∷ Z 0 ∷ [])
    (measure 1 0 7 65535 ∷ rotate 2 0 1 ∷ conditional 1 2 3 7 ∷ rotate 2 0 1 ∷ [])
    (row 0 0 3 0 ∷ row 0 1 4 0 ∷ []))
    ≡ within (shows 6
    (measured+ 0 7 65535 ∷ rotated 1 1 ∷ conditioned 0 5 7 ∷ rotated 1 1 ∷ [])
    (kept 0 0 ∷ kept 0 1 ∷ [])
    ((0 ∷ 1 ∷ []) ∷ (1 ∷ 0 ∷ []) ∷ [])
    (3 ∷ 3 ∷ 0 ∷ 0 ∷ 0 ∷ 2 ∷ 2 ∷ 0 ∷ 0 ∷ 3 ∷ 3 ∷ 6 ∷ []))
unfolding everything
job_32 = refl

-- barriers are carried: measurement and conditional rotation after absorbed rotations
job_33 : outcome 4096 (rules 1048576 0 16 at_once true Merge false) 8 (program 3
    (I ∷ Z 1 ∷ X 2 ∷ product 1 0 2 0 ∷ Z 0 ∷ Z 2 ∷ product 4 0 5 0 ∷ X 0 ∷ Y 2 ∷ product 7 0 8 0 ∷ X 0
    ∷ Z 0 ∷ X 1 ∷ Z 1 ∷ X 2 ∷ Z 2 ∷ [])
    (rotate 3 0 6 ∷ measure 6 0 4 65535 ∷ conditional 9 0 1 4 ∷ measure 0 0 2 65535 ∷ [])
    (row 0 0 10 0 ∷ row 0 1 11 0 ∷ row 1 0 12 0 ∷ row 1 1 13 0 ∷ row 2 0 14 0 ∷ row 2 1 15 0 ∷ []))
    ≡ within (shows 40
    (measured- 10 4 65535 ∷ conditioned 11 1 4 ∷ measured+ 0 2 65535 ∷ [])
    (given+ 0 0 4 ∷ given+ 0 1 5 ∷ given+ 1 0 12 ∷ given+ 1 1 7 ∷ given+ 2 0 8 ∷ given- 2 1 13 ∷ [])
    ((0 ∷ 0 ∷ []) ∷ (4 ∷ 2 ∷ []) ∷ (0 ∷ 5 ∷ []) ∷ (5 ∷ 4 ∷ []) ∷ (1 ∷ 0 ∷ []) ∷ (0 ∷ 1 ∷ []) ∷ (2 ∷ 0 ∷ [])
    ∷ (0 ∷ 2 ∷ []) ∷ (4 ∷ 0 ∷ []) ∷ (0 ∷ 4 ∷ []) ∷ (4 ∷ 7 ∷ []) ∷ (1 ∷ 6 ∷ []) ∷ (6 ∷ 2 ∷ []) ∷ (4 ∷ 6
    ∷ []) ∷ [])
    (1 ∷ 1 ∷ 0 ∷ 0 ∷ 1 ∷ 1 ∷ 0 ∷ 0 ∷ 0 ∷ 4 ∷ 3 ∷ 40 ∷ []))
unfolding everything
job_33 = refl

-- lazy: waiting rotations are absorbed at a barrier
job_34 : outcome 4096 (rules 1048576 0 16 lazy true Merge false) 1 (program 2
    (I ∷ Y 0 ∷ X 0 ∷ X 1 ∷ product 2 0 3 0 ∷ X 0 ∷ Z 0 ∷ X 1 ∷ Z 1 ∷ [])
    (rotate 1 0 6 ∷ measure 4 0 3 65535 ∷ [])
    (row 0 0 5 0 ∷ row 0 1 6 0 ∷ row 1 0 7 0 ∷ row 1 1 8 0 ∷ []))
    ≡ within (shows 20
    (measured- 6 3 65535 ∷ [])
    (given- 0 0 3 ∷ given+ 0 1 2 ∷ given+ 1 0 4 ∷ given+ 1 1 5 ∷ [])
    ((1 ∷ 1 ∷ []) ∷ (3 ∷ 0 ∷ []) ∷ (1 ∷ 0 ∷ []) ∷ (0 ∷ 1 ∷ []) ∷ (2 ∷ 0 ∷ []) ∷ (0 ∷ 2 ∷ []) ∷ (2 ∷ 1 ∷ [])
    ∷ [])
    (0 ∷ 0 ∷ 0 ∷ 0 ∷ 1 ∷ 1 ∷ 0 ∷ 0 ∷ 0 ∷ 1 ∷ 0 ∷ 20 ∷ []))
unfolding everything
job_34 = refl

-- lazy: a rotation is carried again from its original axis
job_35 : outcome 4096 (rules 1048576 0 16 lazy true Merge false) 1 (program 1
    (I ∷ Y 0 ∷ X 0 ∷ X 0 ∷ Z 0 ∷ [])
    (rotate 1 0 4 ∷ rotate 2 0 1 ∷ rotate 1 0 4 ∷ rotate 2 0 1 ∷ [])
    (row 0 0 3 0 ∷ row 0 1 4 0 ∷ []))
    ≡ within (shows 12
    []
    (given+ 0 0 1 ∷ given+ 0 1 2 ∷ [])
    ((1 ∷ 1 ∷ []) ∷ (1 ∷ 0 ∷ []) ∷ (0 ∷ 1 ∷ []) ∷ [])
    (2 ∷ 0 ∷ 1 ∷ 0 ∷ 2 ∷ 4 ∷ 0 ∷ 0 ∷ 0 ∷ 4 ∷ 0 ∷ 12 ∷ []))
unfolding everything
job_35 = refl

-- lookback counts zeros in the output
job_36 : outcome 4096 (rules 0 0 16 at_once true Merge false) 1 (program 3
    (I ∷ X 2 ∷ Y 0 ∷ X 0 ∷ Z 0 ∷ X 1 ∷ Z 1 ∷ X 2 ∷ Z 2 ∷ [])
    (rotate 1 0 1 ∷ rotate 2 0 1 ∷ rotate 2 0 1 ∷ rotate 1 0 1 ∷ [])
    (row 0 0 3 0 ∷ row 0 1 4 0 ∷ row 1 0 5 0 ∷ row 1 1 6 0 ∷ row 2 0 7 0 ∷ row 2 1 8 0 ∷ []))
    ≡ within (shows 16
    (rotated 0 1 ∷ rotated 0 1 ∷ [])
    (given+ 0 0 3 ∷ given- 0 1 2 ∷ kept 1 0 ∷ kept 1 1 ∷ given+ 2 0 0 ∷ given+ 2 1 4 ∷ [])
    ((4 ∷ 0 ∷ []) ∷ (1 ∷ 1 ∷ []) ∷ (1 ∷ 0 ∷ []) ∷ (0 ∷ 1 ∷ []) ∷ (0 ∷ 4 ∷ []) ∷ [])
    (4 ∷ 2 ∷ 1 ∷ 0 ∷ 1 ∷ 4 ∷ 2 ∷ 0 ∷ 0 ∷ 4 ∷ 2 ∷ 16 ∷ []))
unfolding everything
job_36 = refl

-- the images' words are freed when a pass ends: two rounds, each touching
job_37 : outcome 12 (rules 0 0 16 lazy true Merge false) 2 (program 1
    (I ∷ X 0 ∷ Y 0 ∷ X 0 ∷ Z 0 ∷ [])
    (rotate 1 0 1 ∷ rotate 2 2 3 ∷ rotate 2 0 7 ∷ rotate 1 0 7 ∷ rotate 1 0 1 ∷ rotate 1 0 7 ∷ rotate 1 0 3 ∷ rotate 1 0 1 ∷ [])
    (row 0 0 3 0 ∷ row 0 1 4 0 ∷ []))
    ≡ within (shows 12
    []
    (given- 0 0 0 ∷ given+ 0 1 1 ∷ [])
    ((1 ∷ 0 ∷ []) ∷ (1 ∷ 1 ∷ []) ∷ (0 ∷ 1 ∷ []) ∷ [])
    (8 ∷ 0 ∷ 5 ∷ 0 ∷ 2 ∷ 8 ∷ 0 ∷ 0 ∷ 0 ∷ 8 ∷ 0 ∷ 12 ∷ []))
unfolding everything
job_37 = refl

-- a word already stored is never refused
job_38 : outcome 8 (rules 1048576 0 16 at_once true Merge false) 0 (program 1
    (I ∷ X 0 ∷ Z 0 ∷ X 0 ∷ Z 0 ∷ [])
    (rotate 1 0 1 ∷ rotate 1 0 1 ∷ rotate 1 0 1 ∷ rotate 1 0 1 ∷ rotate 2 0 1 ∷ [])
    (row 0 0 3 0 ∷ row 0 1 4 0 ∷ []))
    ≡ within (shows 6
    (rotated 0 1 ∷ rotated 0 1 ∷ rotated 0 1 ∷ rotated 0 1 ∷ rotated 1 1 ∷ [])
    (kept 0 0 ∷ kept 0 1 ∷ [])
    ((1 ∷ 0 ∷ []) ∷ (0 ∷ 1 ∷ []) ∷ [])
    (5 ∷ 5 ∷ 0 ∷ 0 ∷ 0 ∷ 5 ∷ 5 ∷ 0 ∷ 0 ∷ 5 ∷ 5 ∷ 6 ∷ []))
unfolding everything
job_38 = refl

-- slots: a product's children are freed before it takes its slot
job_39 : outcome 6 (rules 1048576 0 16 at_once true Merge false) 8 (program 2
    (I ∷ X 0 ∷ X 1 ∷ product 1 0 2 0 ∷ X 0 ∷ Z 0 ∷ X 1 ∷ Z 1 ∷ [])
    (rotate 3 0 1 ∷ [])
    (row 0 0 0 0 ∷ row 0 1 0 0 ∷ row 1 0 0 0 ∷ row 1 1 0 0 ∷ []))
    ≡ within (shows 6
    (rotated 0 1 ∷ [])
    (kept 0 0 ∷ kept 0 1 ∷ kept 1 0 ∷ kept 1 1 ∷ [])
    ((3 ∷ 0 ∷ []) ∷ [])
    (1 ∷ 1 ∷ 0 ∷ 0 ∷ 0 ∷ 1 ∷ 1 ∷ 0 ∷ 0 ∷ 2 ∷ 2 ∷ 6 ∷ []))
unfolding everything
job_39 = refl

-- a leaf I mentions its qubit: a row with odd phase is a root, answer 9
job_40 : outcome 4096 (rules 1048576 0 16 at_once true Merge false) 8 (program 2
    (I ∷ X 0 ∷ (1 ∷ 1 ∷ 0 ∷ 0 ∷ 0 ∷ []) ∷ product 1 0 2 0 ∷ X 1 ∷ [])
    (rotate 3 0 1 ∷ [])
    (row 0 0 0 0 ∷ row 0 1 0 0 ∷ row 1 0 4 1 ∷ row 1 1 0 0 ∷ []))
    ≡ within (non_hermitian_at 6)
unfolding everything
job_40 = refl

-- a row with odd phase that is no root is kept
job_41 : outcome 4096 (rules 1048576 0 16 at_once true Merge false) 8 (program 2
    (I ∷ X 0 ∷ X 0 ∷ Z 0 ∷ X 1 ∷ Z 1 ∷ [])
    (rotate 1 0 1 ∷ [])
    (row 0 0 2 0 ∷ row 0 1 3 0 ∷ row 1 0 4 1 ∷ row 1 1 5 0 ∷ []))
    ≡ within (shows 6
    (rotated 0 1 ∷ [])
    (kept 0 0 ∷ kept 0 1 ∷ kept 1 0 ∷ kept 1 1 ∷ [])
    ((1 ∷ 0 ∷ []) ∷ (0 ∷ 1 ∷ []) ∷ [])
    (1 ∷ 1 ∷ 0 ∷ 0 ∷ 0 ∷ 1 ∷ 1 ∷ 0 ∷ 0 ∷ 1 ∷ 1 ∷ 6 ∷ []))
unfolding everything
job_41 = refl

-- factors that cancel mention their qubit: the row is a root
job_42 : outcome 4096 (rules 1048576 0 16 at_once true Merge false) 8 (program 2
    (I ∷ X 0 ∷ X 0 ∷ Z 0 ∷ X 1 ∷ Z 1 ∷ product 2 0 2 0 ∷ product 6 0 4 0 ∷ [])
    (rotate 1 0 2 ∷ [])
    (row 0 0 2 0 ∷ row 0 1 3 0 ∷ row 1 0 7 0 ∷ row 1 1 5 0 ∷ []))
    ≡ within (shows 14
    []
    (given+ 0 0 0 ∷ given+ 0 1 3 ∷ given+ 1 0 2 ∷ kept 1 1 ∷ [])
    ((1 ∷ 0 ∷ []) ∷ (0 ∷ 1 ∷ []) ∷ (2 ∷ 0 ∷ []) ∷ (1 ∷ 1 ∷ []) ∷ [])
    (0 ∷ 0 ∷ 0 ∷ 0 ∷ 1 ∷ 1 ∷ 0 ∷ 0 ∷ 0 ∷ 1 ∷ 0 ∷ 14 ∷ []))
unfolding everything
job_42 = refl

-- dropped rotations are roots all the same: T before, rotations before, weight before, axes
job_43 : outcome 4096 (rules 1048576 0 16 at_once true Merge false) 8 (program 3
    (I ∷ X 0 ∷ Y 1 ∷ Z 2 ∷ product 1 0 2 0 ∷ product 4 0 3 0 ∷ Z 0 ∷ Z 1 ∷ product 6 0 7 0 ∷ X 0 ∷ Z 0
    ∷ X 1 ∷ Z 1 ∷ X 2 ∷ Z 2 ∷ [])
    (rotate 5 0 0 ∷ rotate 0 0 1 ∷ rotate 8 0 4 ∷ [])
    (row 0 0 9 0 ∷ row 0 1 10 0 ∷ row 1 0 11 0 ∷ row 1 1 12 0 ∷ row 2 0 13 0 ∷ row 2 1 14 0 ∷ []))
    ≡ within (shows 30
    []
    (given- 0 0 3 ∷ given+ 0 1 4 ∷ given- 1 0 5 ∷ given+ 1 1 6 ∷ given+ 2 0 7 ∷ given+ 2 1 8 ∷ [])
    ((0 ∷ 0 ∷ []) ∷ (3 ∷ 6 ∷ []) ∷ (0 ∷ 3 ∷ []) ∷ (1 ∷ 0 ∷ []) ∷ (0 ∷ 1 ∷ []) ∷ (2 ∷ 0 ∷ []) ∷ (0 ∷ 2 ∷ [])
    ∷ (4 ∷ 0 ∷ []) ∷ (0 ∷ 4 ∷ []) ∷ [])
    (1 ∷ 0 ∷ 0 ∷ 0 ∷ 1 ∷ 3 ∷ 0 ∷ 0 ∷ 0 ∷ 5 ∷ 0 ∷ 30 ∷ []))
unfolding everything
job_43 = refl

-- a dropped rotation with an odd phase answers 9
job_44 : outcome 4096 (rules 1048576 0 16 at_once true Merge false) 8 (program 1
    (I ∷ X 0 ∷ X 0 ∷ Z 0 ∷ [])
    (rotate 1 3 0 ∷ [])
    (row 0 0 2 0 ∷ row 0 1 3 0 ∷ []))
    ≡ within (non_hermitian_at 2)
unfolding everything
job_44 = refl

-- rounds 0: an even rotation stays
job_45 : outcome 4096 (rules 1048576 0 16 at_once true Merge false) 0 (program 1
    (I ∷ Y 0 ∷ X 0 ∷ Z 0 ∷ [])
    (rotate 1 0 2 ∷ [])
    (row 0 0 2 0 ∷ row 0 1 3 0 ∷ []))
    ≡ within (shows 8
    (rotated 0 2 ∷ [])
    (kept 0 0 ∷ kept 0 1 ∷ [])
    ((1 ∷ 1 ∷ []) ∷ (1 ∷ 0 ∷ []) ∷ (0 ∷ 1 ∷ []) ∷ [])
    (0 ∷ 0 ∷ 0 ∷ 0 ∷ 0 ∷ 1 ∷ 1 ∷ 0 ∷ 0 ∷ 1 ∷ 1 ∷ 8 ∷ []))
unfolding everything
job_45 = refl

-- a last stream absorbs what the exchange left
job_46 : outcome 4096 (rules 1048576 2 0 at_once true Merge false) 1 (program 2
    (I ∷ Z 0 ∷ Z 1 ∷ product 1 0 2 0 ∷ X 0 ∷ X 1 ∷ product 4 0 5 0 ∷ Y 0 ∷ Y 1 ∷ X 0 ∷ Z 0 ∷ X 1 ∷ Z 1 ∷ [])
    (rotate 3 0 5 ∷ rotate 6 0 5 ∷ rotate 7 0 3 ∷ rotate 8 0 3 ∷ rotate 3 0 5 ∷ [])
    (row 0 0 9 0 ∷ row 0 1 10 0 ∷ row 1 0 11 0 ∷ row 1 1 12 0 ∷ []))
    ≡ within (shows 32
    (rotated 2 3 ∷ rotated 3 3 ∷ rotated 1 5 ∷ [])
    (given- 0 0 8 ∷ given+ 0 1 5 ∷ given- 1 0 9 ∷ given+ 1 1 7 ∷ [])
    ((0 ∷ 3 ∷ []) ∷ (3 ∷ 0 ∷ []) ∷ (1 ∷ 1 ∷ []) ∷ (2 ∷ 2 ∷ []) ∷ (1 ∷ 0 ∷ []) ∷ (0 ∷ 1 ∷ []) ∷ (2 ∷ 0 ∷ [])
    ∷ (0 ∷ 2 ∷ []) ∷ (1 ∷ 3 ∷ []) ∷ (2 ∷ 3 ∷ []) ∷ [])
    (5 ∷ 3 ∷ 0 ∷ 1 ∷ 1 ∷ 5 ∷ 3 ∷ 0 ∷ 0 ∷ 8 ∷ 4 ∷ 32 ∷ []))
unfolding everything
job_46 = refl

-- all root rows are given, moved or not; others are kept
job_47 : outcome 4096 (rules 1048576 0 16 at_once true Merge false) 8 (program 3
    (I ∷ Z 0 ∷ X 0 ∷ X 1 ∷ X 0 ∷ Z 0 ∷ X 1 ∷ Z 1 ∷ X 2 ∷ Z 2 ∷ [])
    (rotate 1 0 2 ∷ rotate 2 0 1 ∷ rotate 3 0 1 ∷ [])
    (row 0 0 4 0 ∷ row 0 1 5 0 ∷ row 1 0 6 0 ∷ row 1 1 7 0 ∷ row 2 0 8 0 ∷ row 2 1 9 0 ∷ []))
    ≡ within (shows 16
    (rotated 4 7 ∷ rotated 2 1 ∷ [])
    (given- 0 0 4 ∷ given+ 0 1 0 ∷ given+ 1 0 2 ∷ given+ 1 1 3 ∷ kept 2 0 ∷ kept 2 1 ∷ [])
    ((0 ∷ 1 ∷ []) ∷ (1 ∷ 0 ∷ []) ∷ (2 ∷ 0 ∷ []) ∷ (0 ∷ 2 ∷ []) ∷ (1 ∷ 1 ∷ []) ∷ [])
    (2 ∷ 2 ∷ 0 ∷ 0 ∷ 1 ∷ 3 ∷ 2 ∷ 0 ∷ 0 ∷ 3 ∷ 2 ∷ 16 ∷ []))
unfolding everything
job_47 = refl
