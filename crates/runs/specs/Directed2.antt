-- Written by compared.py: the oracle's directed cases, with what the Rust makes of each. Assumes nothing.
use Rattle.std.specs.Prelude.{◌≡◌, refl, true, false, [], ◌∷◌}
use Rattle.model.specs.declared.Strategy.TheVariants.{Merge, Litinski}
use Rattle.model.specs.declared.Absorption.TheVariants.{Off as off, AtOnce as at_once}
use Rattle.model.specs.Everything.{everything}
use Rattle.runs.specs.Shown.{I, X, Y, Z, product, rotate, measure, conditional, row, program, rules, rotated, measured+}
use Rattle.runs.specs.Shown.{conditioned, kept, given+, given-, shows}
use Rattle.runs.specs.Outcome.{within, outcome}

-- absorption off: even angles stay and merge, all rows kept
job_48 : outcome 4096 (rules 1048576 0 16 off true Merge false) 8 (program 1
    (I ∷ Z 0 ∷ X 0 ∷ X 0 ∷ Z 0 ∷ [])
    (rotate 1 0 2 ∷ rotate 2 0 2 ∷ rotate 1 0 1 ∷ rotate 2 0 7 ∷ rotate 2 0 1 ∷ rotate 1 0 1 ∷ [])
    (row 0 0 3 0 ∷ row 0 1 4 0 ∷ []))
    ≡ within (shows 6
    (rotated 0 2 ∷ rotated 1 2 ∷ rotated 0 2 ∷ [])
    (kept 0 0 ∷ kept 0 1 ∷ [])
    ((0 ∷ 1 ∷ []) ∷ (1 ∷ 0 ∷ []) ∷ [])
    (4 ∷ 0 ∷ 2 ∷ 0 ∷ 0 ∷ 6 ∷ 3 ∷ 0 ∷ 0 ∷ 6 ∷ 3 ∷ 6 ∷ []))
unfolding everything
job_48 = refl

-- exchange: angle products are of the signed angles
job_49 : outcome 4096 (rules 1048576 2 0 at_once true Merge false) 1 (program 2
    (I ∷ Y 0 ∷ Y 1 ∷ product 1 0 2 0 ∷ Z 0 ∷ Z 1 ∷ product 4 0 5 0 ∷ X 1 ∷ X 0 ∷ X 0 ∷ Z 0 ∷ X 1 ∷ Z 1 ∷ [])
    (rotate 3 2 3 ∷ rotate 6 0 3 ∷ rotate 7 0 1 ∷ rotate 8 2 1 ∷ rotate 3 0 3 ∷ [])
    (row 0 0 9 0 ∷ row 0 1 10 0 ∷ row 1 0 11 0 ∷ row 1 1 12 0 ∷ []))
    ≡ within (shows 16
    (rotated 2 1 ∷ rotated 3 7 ∷ rotated 1 3 ∷ [])
    (kept 0 0 ∷ kept 0 1 ∷ kept 1 0 ∷ kept 1 1 ∷ [])
    ((3 ∷ 3 ∷ []) ∷ (0 ∷ 3 ∷ []) ∷ (2 ∷ 0 ∷ []) ∷ (1 ∷ 0 ∷ []) ∷ (0 ∷ 1 ∷ []) ∷ (0 ∷ 2 ∷ []) ∷ [])
    (5 ∷ 3 ∷ 0 ∷ 1 ∷ 0 ∷ 5 ∷ 3 ∷ 0 ∷ 0 ∷ 8 ∷ 4 ∷ 16 ∷ []))
unfolding everything
job_49 = refl

-- exchange: sums over whole numbers, not modulo 8
job_50 : outcome 4096 (rules 1048576 1 0 off true Merge false) 1 (program 1
    (I ∷ X 0 ∷ Z 0 ∷ X 0 ∷ Z 0 ∷ [])
    (rotate 1 0 1 ∷ rotate 2 0 7 ∷ rotate 2 0 3 ∷ rotate 1 0 4 ∷ [])
    (row 0 0 3 0 ∷ row 0 1 4 0 ∷ []))
    ≡ within (shows 6
    (rotated 0 1 ∷ rotated 1 2 ∷ rotated 0 4 ∷ [])
    (kept 0 0 ∷ kept 0 1 ∷ [])
    ((1 ∷ 0 ∷ []) ∷ (0 ∷ 1 ∷ []) ∷ [])
    (3 ∷ 1 ∷ 1 ∷ 0 ∷ 0 ∷ 4 ∷ 3 ∷ 0 ∷ 0 ∷ 4 ∷ 3 ∷ 6 ∷ []))
unfolding everything
job_50 = refl

-- exchange: 1 + candidates pairs are counted before the shared-axis test
job_51 : outcome 4096 (rules 0 3 2 at_once true Merge false) 1 (program 3
    (I ∷ Y 1 ∷ X 2 ∷ product 1 0 2 0 ∷ Z 0 ∷ Z 2 ∷ X 1 ∷ X 2 ∷ product 6 0 7 0 ∷ X 1 ∷ X 0 ∷ Z 0 ∷ X 1
    ∷ Z 1 ∷ X 2 ∷ Z 2 ∷ [])
    (rotate 3 0 1 ∷ rotate 4 0 7 ∷ rotate 5 0 1 ∷ rotate 8 0 7 ∷ rotate 4 0 7 ∷ rotate 9 0 1 ∷ [])
    (row 0 0 10 0 ∷ row 0 1 11 0 ∷ row 1 0 12 0 ∷ row 1 1 13 0 ∷ row 2 0 14 0 ∷ row 2 1 15 0 ∷ []))
    ≡ within (shows 20
    (rotated 0 1 ∷ rotated 1 7 ∷ rotated 2 1 ∷ rotated 3 7 ∷ rotated 1 7 ∷ rotated 4 1 ∷ [])
    (kept 0 0 ∷ kept 0 1 ∷ kept 1 0 ∷ kept 1 1 ∷ kept 2 0 ∷ kept 2 1 ∷ [])
    ((6 ∷ 2 ∷ []) ∷ (0 ∷ 1 ∷ []) ∷ (0 ∷ 4 ∷ []) ∷ (6 ∷ 0 ∷ []) ∷ (2 ∷ 0 ∷ []) ∷ (1 ∷ 0 ∷ []) ∷ (0 ∷ 2 ∷ [])
    ∷ (4 ∷ 0 ∷ []) ∷ [])
    (6 ∷ 6 ∷ 0 ∷ 0 ∷ 0 ∷ 6 ∷ 6 ∷ 0 ∷ 0 ∷ 8 ∷ 8 ∷ 20 ∷ []))
unfolding everything
job_51 = refl

-- exchange: one candidate more
job_52 : outcome 4096 (rules 0 3 3 at_once true Merge false) 1 (program 3
    (I ∷ Y 1 ∷ X 2 ∷ product 1 0 2 0 ∷ Z 0 ∷ Z 2 ∷ X 1 ∷ X 2 ∷ product 6 0 7 0 ∷ X 1 ∷ X 0 ∷ Z 0 ∷ X 1
    ∷ Z 1 ∷ X 2 ∷ Z 2 ∷ [])
    (rotate 3 0 1 ∷ rotate 4 0 7 ∷ rotate 5 0 1 ∷ rotate 8 0 7 ∷ rotate 4 0 7 ∷ rotate 9 0 1 ∷ [])
    (row 0 0 10 0 ∷ row 0 1 11 0 ∷ row 1 0 12 0 ∷ row 1 1 13 0 ∷ row 2 0 14 0 ∷ row 2 1 15 0 ∷ []))
    ≡ within (shows 24
    (rotated 0 1 ∷ rotated 2 1 ∷ rotated 3 7 ∷ rotated 4 1 ∷ [])
    (given+ 0 0 8 ∷ given+ 0 1 1 ∷ given+ 1 0 4 ∷ given+ 1 1 6 ∷ given+ 2 0 7 ∷ given+ 2 1 2 ∷ [])
    ((6 ∷ 2 ∷ []) ∷ (0 ∷ 1 ∷ []) ∷ (0 ∷ 4 ∷ []) ∷ (6 ∷ 0 ∷ []) ∷ (2 ∷ 0 ∷ []) ∷ (1 ∷ 0 ∷ []) ∷ (0 ∷ 2 ∷ [])
    ∷ (4 ∷ 0 ∷ []) ∷ (1 ∷ 1 ∷ []) ∷ [])
    (6 ∷ 4 ∷ 0 ∷ 1 ∷ 1 ∷ 6 ∷ 4 ∷ 0 ∷ 0 ∷ 8 ∷ 6 ∷ 24 ∷ []))
unfolding everything
job_52 = refl

-- exchange: the next start is the end of the replaced part
job_53 : outcome 4096 (rules 2 2 0 at_once false Merge false) 1 (program 2
    (I ∷ Z 0 ∷ X 1 ∷ product 1 0 2 0 ∷ X 0 ∷ Y 1 ∷ product 4 0 5 0 ∷ Z 1 ∷ Y 0 ∷ X 0 ∷ Z 0 ∷ Z 1
    ∷ product 10 0 11 0 ∷ X 0 ∷ X 1 ∷ product 13 0 14 0 ∷ Y 1 ∷ X 0 ∷ Z 0 ∷ X 1 ∷ Z 1 ∷ [])
    (rotate 3 0 1 ∷ rotate 6 0 1 ∷ rotate 7 0 1 ∷ rotate 8 0 1 ∷ rotate 3 0 1 ∷ rotate 9 0 7 ∷ rotate 9 2 7
    ∷ rotate 12 0 7 ∷ rotate 15 0 7 ∷ rotate 16 0 1 ∷ rotate 8 0 1 ∷ rotate 12 0 7 ∷ [])
    (row 0 0 17 0 ∷ row 0 1 18 0 ∷ row 1 0 19 0 ∷ row 1 1 20 0 ∷ []))
    ≡ within (shows 36
    (rotated 2 1 ∷ rotated 3 1 ∷ rotated 1 1 ∷ rotated 5 7 ∷ rotated 6 1 ∷ rotated 3 1 ∷ [])
    (given+ 0 0 10 ∷ given+ 0 1 8 ∷ given- 1 0 2 ∷ given+ 1 1 11 ∷ [])
    ((2 ∷ 1 ∷ []) ∷ (3 ∷ 2 ∷ []) ∷ (0 ∷ 2 ∷ []) ∷ (1 ∷ 1 ∷ []) ∷ (1 ∷ 0 ∷ []) ∷ (0 ∷ 3 ∷ []) ∷ (3 ∷ 0 ∷ [])
    ∷ (2 ∷ 2 ∷ []) ∷ (0 ∷ 1 ∷ []) ∷ (2 ∷ 0 ∷ []) ∷ (1 ∷ 3 ∷ []) ∷ (2 ∷ 3 ∷ []) ∷ [])
    (12 ∷ 6 ∷ 1 ∷ 2 ∷ 2 ∷ 12 ∷ 6 ∷ 0 ∷ 0 ∷ 18 ∷ 9 ∷ 36 ∷ []))
unfolding everything
job_53 = refl

-- exchange: without one the next start is the start of the second run
job_54 : outcome 4096 (rules 1048576 2 0 at_once true Merge false) 1 (program 2
    (I ∷ X 0 ∷ X 0 ∷ Z 1 ∷ product 2 0 3 0 ∷ Y 0 ∷ X 1 ∷ product 5 0 6 0 ∷ Y 1 ∷ Z 0 ∷ X 0 ∷ Z 0 ∷ X 1 ∷ Z 1 ∷ [])
    (rotate 1 0 1 ∷ rotate 4 0 1 ∷ rotate 7 0 1 ∷ rotate 8 0 1 ∷ rotate 9 0 1 ∷ rotate 7 0 1 ∷ [])
    (row 0 0 10 0 ∷ row 0 1 11 0 ∷ row 1 0 12 0 ∷ row 1 1 13 0 ∷ []))
    ≡ within (shows 18
    (rotated 0 1 ∷ rotated 1 1 ∷ rotated 2 1 ∷ rotated 3 1 ∷ rotated 4 1 ∷ rotated 2 1 ∷ [])
    (kept 0 0 ∷ kept 0 1 ∷ kept 1 0 ∷ kept 1 1 ∷ [])
    ((1 ∷ 0 ∷ []) ∷ (1 ∷ 2 ∷ []) ∷ (3 ∷ 1 ∷ []) ∷ (2 ∷ 2 ∷ []) ∷ (0 ∷ 1 ∷ []) ∷ (2 ∷ 0 ∷ []) ∷ (0 ∷ 2 ∷ [])
    ∷ [])
    (6 ∷ 6 ∷ 0 ∷ 0 ∷ 0 ∷ 6 ∷ 6 ∷ 0 ∷ 0 ∷ 9 ∷ 9 ∷ 18 ∷ []))
unfolding everything
job_54 = refl

-- exchange: ends fall
job_55 : outcome 4096 (rules 1 2 0 at_once true Merge false) 1 (program 2
    (I ∷ Z 0 ∷ Y 1 ∷ product 1 0 2 0 ∷ X 0 ∷ Z 1 ∷ product 4 0 5 0 ∷ Y 0 ∷ X 1 ∷ X 0 ∷ Z 0 ∷ X 1 ∷ Z 1 ∷ [])
    (rotate 3 0 1 ∷ rotate 6 0 1 ∷ rotate 7 0 3 ∷ rotate 8 0 3 ∷ rotate 6 0 5 ∷ rotate 8 0 1 ∷ rotate 3 2 5
    ∷ rotate 3 2 3 ∷ rotate 8 0 7 ∷ rotate 8 0 3 ∷ rotate 8 0 5 ∷ rotate 6 0 1 ∷ [])
    (row 0 0 9 0 ∷ row 0 1 10 0 ∷ row 1 0 11 0 ∷ row 1 1 12 0 ∷ []))
    ≡ within (shows 18
    (rotated 2 3 ∷ rotated 3 3 ∷ rotated 0 1 ∷ rotated 1 7 ∷ [])
    (kept 0 0 ∷ kept 0 1 ∷ kept 1 0 ∷ kept 1 1 ∷ [])
    ((2 ∷ 3 ∷ []) ∷ (1 ∷ 2 ∷ []) ∷ (1 ∷ 1 ∷ []) ∷ (2 ∷ 0 ∷ []) ∷ (1 ∷ 0 ∷ []) ∷ (0 ∷ 1 ∷ []) ∷ (0 ∷ 2 ∷ [])
    ∷ [])
    (12 ∷ 4 ∷ 3 ∷ 1 ∷ 0 ∷ 12 ∷ 4 ∷ 0 ∷ 0 ∷ 18 ∷ 6 ∷ 18 ∷ []))
unfolding everything
job_55 = refl

-- exchange: first with second before second with third
job_56 : outcome 4096 (rules 0 4 0 at_once false Merge false) 1 (program 2
    (I ∷ Y 0 ∷ Z 1 ∷ X 0 ∷ Y 1 ∷ product 3 0 4 0 ∷ Z 0 ∷ Z 1 ∷ product 6 0 7 0 ∷ X 0 ∷ X 1
    ∷ product 9 0 10 0 ∷ Y 1 ∷ X 0 ∷ Z 0 ∷ X 1 ∷ Z 1 ∷ [])
    (rotate 1 0 5 ∷ rotate 2 2 5 ∷ rotate 5 0 5 ∷ rotate 5 0 3 ∷ rotate 2 2 3 ∷ rotate 1 0 3 ∷ rotate 8 0 5
    ∷ rotate 11 0 5 ∷ rotate 12 0 3 ∷ rotate 1 0 3 ∷ [])
    (row 0 0 13 0 ∷ row 0 1 14 0 ∷ row 1 0 15 0 ∷ row 1 1 16 0 ∷ []))
    ≡ within (shows 22
    (rotated 3 5 ∷ rotated 4 5 ∷ rotated 5 3 ∷ rotated 0 3 ∷ [])
    (kept 0 0 ∷ kept 0 1 ∷ kept 1 0 ∷ kept 1 1 ∷ [])
    ((1 ∷ 1 ∷ []) ∷ (0 ∷ 2 ∷ []) ∷ (3 ∷ 2 ∷ []) ∷ (0 ∷ 3 ∷ []) ∷ (3 ∷ 0 ∷ []) ∷ (2 ∷ 2 ∷ []) ∷ (1 ∷ 0 ∷ [])
    ∷ (0 ∷ 1 ∷ []) ∷ (2 ∷ 0 ∷ []) ∷ [])
    (10 ∷ 4 ∷ 1 ∷ 1 ∷ 0 ∷ 10 ∷ 4 ∷ 0 ∷ 0 ∷ 14 ∷ 6 ∷ 22 ∷ []))
unfolding everything
job_56 = refl

-- exchange: window 1 keeps runs of one
job_57 : outcome 4096 (rules 0 1 0 at_once true Merge false) 1 (program 2
    (I ∷ Y 1 ∷ X 0 ∷ X 0 ∷ Z 0 ∷ X 1 ∷ Z 1 ∷ [])
    (rotate 1 0 1 ∷ rotate 2 0 1 ∷ rotate 1 0 1 ∷ [])
    (row 0 0 3 0 ∷ row 0 1 4 0 ∷ row 1 0 5 0 ∷ row 1 1 6 0 ∷ []))
    ≡ within (shows 16
    (rotated 1 1 ∷ [])
    (given+ 0 0 1 ∷ given+ 0 1 2 ∷ given+ 1 0 4 ∷ given- 1 1 3 ∷ [])
    ((2 ∷ 2 ∷ []) ∷ (1 ∷ 0 ∷ []) ∷ (0 ∷ 1 ∷ []) ∷ (2 ∷ 0 ∷ []) ∷ (0 ∷ 2 ∷ []) ∷ [])
    (3 ∷ 1 ∷ 0 ∷ 1 ∷ 1 ∷ 3 ∷ 1 ∷ 0 ∷ 0 ∷ 3 ∷ 1 ∷ 16 ∷ []))
unfolding everything
job_57 = refl

-- Litinski: streams do not merge
job_58 : outcome 4096 (rules 1048576 0 16 at_once true Litinski false) 1 (program 1
    (I ∷ X 0 ∷ X 0 ∷ Z 0 ∷ [])
    (rotate 1 0 1 ∷ rotate 1 2 1 ∷ rotate 1 2 7 ∷ [])
    (row 0 0 2 0 ∷ row 0 1 3 0 ∷ []))
    ≡ within (shows 6
    (rotated 0 1 ∷ [])
    (kept 0 0 ∷ kept 0 1 ∷ [])
    ((1 ∷ 0 ∷ []) ∷ (0 ∷ 1 ∷ []) ∷ [])
    (3 ∷ 1 ∷ 2 ∷ 0 ∷ 0 ∷ 3 ∷ 1 ∷ 0 ∷ 0 ∷ 3 ∷ 1 ∷ 6 ∷ []))
unfolding everything
job_58 = refl

-- Litinski: zeros leave a layer at the sweep's end
job_59 : outcome 4096 (rules 1048576 0 16 at_once true Litinski false) 1 (program 2
    (I ∷ Y 0 ∷ X 0 ∷ Z 1 ∷ Y 1 ∷ X 0 ∷ Z 0 ∷ X 1 ∷ Z 1 ∷ [])
    (rotate 1 0 7 ∷ rotate 2 0 1 ∷ rotate 3 0 7 ∷ rotate 2 0 7 ∷ rotate 4 0 7 ∷ rotate 2 0 1 ∷ [])
    (row 0 0 5 0 ∷ row 0 1 6 0 ∷ row 1 0 7 0 ∷ row 1 1 8 0 ∷ []))
    ≡ within (shows 14
    (rotated 0 7 ∷ rotated 2 7 ∷ rotated 1 1 ∷ rotated 3 7 ∷ [])
    (kept 0 0 ∷ kept 0 1 ∷ kept 1 0 ∷ kept 1 1 ∷ [])
    ((1 ∷ 1 ∷ []) ∷ (1 ∷ 0 ∷ []) ∷ (0 ∷ 2 ∷ []) ∷ (2 ∷ 2 ∷ []) ∷ (0 ∷ 1 ∷ []) ∷ (2 ∷ 0 ∷ []) ∷ [])
    (6 ∷ 4 ∷ 2 ∷ 0 ∷ 0 ∷ 6 ∷ 4 ∷ 0 ∷ 0 ∷ 6 ∷ 4 ∷ 14 ∷ []))
unfolding everything
job_59 = refl

-- Litinski: a rotation joins the last layer, an equal axis merges, sweeps move rotations back
job_60 : outcome 4096 (rules 1048576 0 16 at_once true Litinski true) 8 (program 2
    (I ∷ Z 0 ∷ X 0 ∷ Z 1 ∷ X 1 ∷ X 0 ∷ Z 0 ∷ X 1 ∷ Z 1 ∷ [])
    (rotate 1 0 1 ∷ rotate 2 0 1 ∷ rotate 3 0 1 ∷ rotate 4 0 1 ∷ rotate 2 0 1 ∷ rotate 1 0 7 ∷ rotate 1 0 1 ∷ [])
    (row 0 0 5 0 ∷ row 0 1 6 0 ∷ row 1 0 7 0 ∷ row 1 1 8 0 ∷ []))
    ≡ within (shows 16
    (rotated 0 1 ∷ rotated 2 1 ∷ rotated 3 1 ∷ [])
    (given+ 0 0 1 ∷ given+ 0 1 4 ∷ given+ 1 0 3 ∷ given+ 1 1 2 ∷ [])
    ((0 ∷ 1 ∷ []) ∷ (1 ∷ 0 ∷ []) ∷ (0 ∷ 2 ∷ []) ∷ (2 ∷ 0 ∷ []) ∷ (1 ∷ 1 ∷ []) ∷ [])
    (7 ∷ 3 ∷ 2 ∷ 0 ∷ 1 ∷ 7 ∷ 3 ∷ 3 ∷ 2 ∷ 7 ∷ 3 ∷ 16 ∷ []))
unfolding everything
job_60 = refl

-- Litinski: rounds 0 does nothing
job_61 : outcome 4096 (rules 1048576 0 16 at_once true Litinski false) 0 (program 1
    (I ∷ X 0 ∷ X 0 ∷ Z 0 ∷ [])
    (rotate 1 0 2 ∷ rotate 1 0 1 ∷ rotate 1 0 1 ∷ [])
    (row 0 0 2 0 ∷ row 0 1 3 0 ∷ []))
    ≡ within (shows 6
    (rotated 0 2 ∷ rotated 0 1 ∷ rotated 0 1 ∷ [])
    (kept 0 0 ∷ kept 0 1 ∷ [])
    ((1 ∷ 0 ∷ []) ∷ (0 ∷ 1 ∷ []) ∷ [])
    (2 ∷ 2 ∷ 0 ∷ 0 ∷ 0 ∷ 3 ∷ 3 ∷ 0 ∷ 0 ∷ 3 ∷ 3 ∷ 6 ∷ []))
unfolding everything
job_61 = refl

-- T-depth: an even rotation takes the highest level before it and adds none; depths of segments are summed
job_62 : outcome 4096 (rules 1048576 0 16 off true Merge true) 0 (program 1
    (I ∷ X 0 ∷ Z 0 ∷ Y 0 ∷ X 0 ∷ Z 0 ∷ [])
    (rotate 1 0 1 ∷ rotate 2 0 2 ∷ rotate 1 0 1 ∷ measure 1 0 0 65535 ∷ conditional 2 0 1 0 ∷ rotate 3 0 2
    ∷ rotate 3 0 1 ∷ rotate 2 0 1 ∷ [])
    (row 0 0 4 0 ∷ row 0 1 5 0 ∷ []))
    ≡ within (shows 8
    (rotated 0 1 ∷ rotated 1 2 ∷ rotated 0 1 ∷ measured+ 0 0 65535 ∷ conditioned 1 1 0 ∷ rotated 2 2 ∷ rotated 2 1 ∷ rotated 1 1 ∷ [])
    (kept 0 0 ∷ kept 0 1 ∷ [])
    ((1 ∷ 0 ∷ []) ∷ (0 ∷ 1 ∷ []) ∷ (1 ∷ 1 ∷ []) ∷ [])
    (5 ∷ 5 ∷ 0 ∷ 0 ∷ 0 ∷ 6 ∷ 6 ∷ 4 ∷ 4 ∷ 7 ∷ 7 ∷ 8 ∷ []))
unfolding everything
job_62 = refl
