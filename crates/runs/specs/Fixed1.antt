-- Written by compared.py: jobs of the oracle's fixed list, with what the Rust makes of each. Assumes nothing.
use Rattle.std.specs.Prelude.{◌≡◌, refl, true, false, [], ◌∷◌}
use Rattle.model.specs.declared.Strategy.TheVariants.{Merge, Litinski}
use Rattle.model.specs.declared.Absorption.TheVariants.{Off as off, AtOnce as at_once, Lazy as lazy}
use Rattle.model.specs.Everything.{everything}
use Rattle.runs.specs.Shown.{I, X, Y, Z, product, rotate, measure, row, program, rules, rotated, measured+}
use Rattle.runs.specs.Shown.{kept, given+, given-, shows}
use Rattle.runs.specs.Outcome.{limit_exceeded, within, outcome}

job_0 : outcome 2 (rules 0 1 3 off true Merge true) 3 (program 1
    ((0 ∷ 27103 ∷ 49864 ∷ 29551 ∷ 26701 ∷ []) ∷ (1 ∷ 0 ∷ 1 ∷ 60503 ∷ 12475 ∷ []) ∷ [])
    (rotate 1 0 1 ∷ rotate 1 0 1 ∷ [])
    (row 0 0 1 2 ∷ row 0 1 1 2 ∷ []))
    ≡ limit_exceeded
unfolding everything
job_0 = refl

job_1 : outcome 2 (rules 1048576 3 5 lazy true Merge false) 1 (program 1
    (I ∷ Y 0 ∷ Y 0 ∷ [])
    []
    (row 0 0 1 0 ∷ row 0 1 1 0 ∷ []))
    ≡ within (shows 0
    []
    (kept 0 0 ∷ kept 0 1 ∷ [])
    []
    (0 ∷ 0 ∷ 0 ∷ 0 ∷ 0 ∷ 0 ∷ 0 ∷ 0 ∷ 0 ∷ 0 ∷ 0 ∷ 0 ∷ []))
unfolding everything
job_1 = refl

job_3 : outcome 1 (rules 2 2 16 at_once true Litinski false) 2 (program 1
    (I ∷ Z 0 ∷ Y 0 ∷ X 0 ∷ [])
    ((1 ∷ 1 ∷ 0 ∷ 5 ∷ 65535 ∷ 30543 ∷ []) ∷ rotate 1 2 7 ∷ rotate 1 0 6 ∷ rotate 1 0 0 ∷ [])
    (row 0 0 2 2 ∷ row 0 1 3 0 ∷ []))
    ≡ limit_exceeded
unfolding everything
job_3 = refl

job_5 : outcome 9 (rules 0 2 16 at_once false Litinski false) 2 (program 1
    (I ∷ (1 ∷ 0 ∷ 0 ∷ 0 ∷ 0 ∷ []) ∷ X 0 ∷ Z 0 ∷ [])
    (measure 1 0 0 65535 ∷ rotate 1 0 6 ∷ (1 ∷ 1 ∷ 0 ∷ 6 ∷ 48038 ∷ 4784 ∷ []) ∷ rotate 1 0 6 ∷ rotate 1 0 2
    ∷ rotate 1 0 2 ∷ rotate 1 0 2 ∷ rotate 1 0 2 ∷ [])
    (row 0 0 2 0 ∷ row 0 1 3 0 ∷ []))
    ≡ within (shows 8
    (measured+ 0 0 65535 ∷ [])
    (kept 0 0 ∷ kept 0 1 ∷ [])
    ((0 ∷ 0 ∷ []) ∷ (1 ∷ 0 ∷ []) ∷ (0 ∷ 1 ∷ []) ∷ [])
    (0 ∷ 0 ∷ 0 ∷ 0 ∷ 0 ∷ 7 ∷ 0 ∷ 0 ∷ 0 ∷ 0 ∷ 0 ∷ 8 ∷ []))
unfolding everything
job_5 = refl

job_7 : outcome 50 (rules 1048576 0 2 lazy true Litinski false) 0 (program 1
    (I ∷ X 0 ∷ Z 0 ∷ (1 ∷ 0 ∷ 0 ∷ 0 ∷ 0 ∷ []) ∷ product 3 0 3 1 ∷ product 4 2 3 0 ∷ [])
    ((1 ∷ 5 ∷ 1 ∷ 1 ∷ 53742 ∷ 65535 ∷ []) ∷ [])
    (row 0 0 1 0 ∷ row 0 1 2 0 ∷ []))
    ≡ within (shows 10
    []
    (kept 0 0 ∷ kept 0 1 ∷ [])
    ((1 ∷ 0 ∷ []) ∷ (0 ∷ 1 ∷ []) ∷ (0 ∷ 0 ∷ []) ∷ [])
    (1 ∷ 0 ∷ 0 ∷ 0 ∷ 0 ∷ 1 ∷ 0 ∷ 0 ∷ 0 ∷ 0 ∷ 0 ∷ 10 ∷ []))
unfolding everything
job_7 = refl

job_8 : outcome 16 (rules 2 0 16 at_once false Merge false) 0 (program 3
    (I ∷ X 1 ∷ Z 1 ∷ Y 1 ∷ Y 2 ∷ product 3 0 4 0 ∷ Z 1 ∷ Z 2 ∷ product 6 0 7 0 ∷ X 1 ∷ X 2 ∷ X 0 ∷ Z 0
    ∷ X 1 ∷ Z 1 ∷ X 2 ∷ Z 2 ∷ product 11 0 12 0 ∷ [])
    (rotate 5 0 2 ∷ rotate 8 0 2 ∷ rotate 9 0 2 ∷ rotate 10 2 2 ∷ rotate 5 0 2 ∷ rotate 10 0 4 ∷ rotate 8 0 1 ∷ rotate 5 0 4 ∷ [])
    (row 0 0 17 1 ∷ row 0 1 12 0 ∷ row 1 0 13 2 ∷ row 1 1 14 0 ∷ row 2 0 15 0 ∷ row 2 1 16 0 ∷ []))
    ≡ within (shows 16
    (rotated 0 2 ∷ rotated 1 2 ∷ rotated 2 2 ∷ rotated 3 6 ∷ rotated 0 2 ∷ rotated 3 4 ∷ rotated 1 1 ∷ rotated 0 4 ∷ [])
    (kept 0 0 ∷ kept 0 1 ∷ kept 1 0 ∷ kept 1 1 ∷ kept 2 0 ∷ kept 2 1 ∷ [])
    ((6 ∷ 6 ∷ []) ∷ (0 ∷ 6 ∷ []) ∷ (2 ∷ 0 ∷ []) ∷ (4 ∷ 0 ∷ []) ∷ (0 ∷ 2 ∷ []) ∷ (0 ∷ 4 ∷ []) ∷ [])
    (1 ∷ 1 ∷ 0 ∷ 0 ∷ 0 ∷ 8 ∷ 8 ∷ 0 ∷ 0 ∷ 13 ∷ 13 ∷ 16 ∷ []))
unfolding everything
job_8 = refl

job_9 : outcome 1 (rules 0 6 0 at_once false Merge false) 2 (program 1
    (I ∷ Y 0 ∷ X 0 ∷ Z 0 ∷ [])
    []
    (row 0 0 2 0 ∷ row 0 1 3 0 ∷ []))
    ≡ within (shows 0
    []
    (kept 0 0 ∷ kept 0 1 ∷ [])
    []
    (0 ∷ 0 ∷ 0 ∷ 0 ∷ 0 ∷ 0 ∷ 0 ∷ 0 ∷ 0 ∷ 0 ∷ 0 ∷ 0 ∷ []))
unfolding everything
job_9 = refl

job_10 : outcome 2 (rules 3 0 16 at_once true Litinski false) 8 (program 1
    (I ∷ X 0 ∷ Z 0 ∷ product 1 0 2 0 ∷ product 3 1 2 0 ∷ Z 0 ∷ X 0 ∷ [])
    (rotate 6 0 7 ∷ rotate 5 2 1 ∷ measure 5 2 4 1 ∷ rotate 5 0 7 ∷ rotate 6 0 7 ∷ rotate 6 0 1
    ∷ rotate 5 0 1 ∷ rotate 6 0 1 ∷ rotate 5 0 1 ∷ [])
    (row 0 0 2 2 ∷ row 0 1 4 3 ∷ []))
    ≡ limit_exceeded
unfolding everything
job_10 = refl

job_12 : outcome 0 (rules 1 2 2 off true Merge false) 6 (program 2
    (I ∷ X 0 ∷ Z 0 ∷ product 2 1 0 0 ∷ product 1 0 1 0 ∷ product 4 3 1 0 ∷ Z 0 ∷ X 0 ∷ Z 0 ∷ X 1 ∷ Z 1
    ∷ product 7 0 8 0 ∷ product 11 1 10 0 ∷ product 8 0 9 2 ∷ product 12 0 8 0 ∷ product 13 0 14 1 ∷ product 10 0 8 0 ∷ [])
    []
    (row 0 0 14 1 ∷ row 0 1 16 0 ∷ row 1 0 15 0 ∷ row 1 1 10 0 ∷ []))
    ≡ within (shows 0
    []
    (kept 0 0 ∷ kept 0 1 ∷ kept 1 0 ∷ kept 1 1 ∷ [])
    []
    (0 ∷ 0 ∷ 0 ∷ 0 ∷ 0 ∷ 0 ∷ 0 ∷ 0 ∷ 0 ∷ 0 ∷ 0 ∷ 0 ∷ []))
unfolding everything
job_12 = refl

job_13 : outcome 10 (rules 0 4 5 off false Litinski true) 2 (program 1
    (I ∷ Y 0 ∷ product 1 0 1 1 ∷ Z 0 ∷ X 0 ∷ Z 0 ∷ [])
    ((1 ∷ 1 ∷ 2 ∷ 1 ∷ 53545 ∷ 65535 ∷ []) ∷ rotate 3 0 1 ∷ rotate 3 0 1 ∷ rotate 1 0 1 ∷ rotate 3 2 1 ∷ [])
    (row 0 0 4 0 ∷ row 0 1 5 0 ∷ []))
    ≡ within (shows 8
    (rotated 0 7 ∷ rotated 1 2 ∷ rotated 0 1 ∷ rotated 1 7 ∷ [])
    (kept 0 0 ∷ kept 0 1 ∷ [])
    ((1 ∷ 1 ∷ []) ∷ (0 ∷ 1 ∷ []) ∷ (1 ∷ 0 ∷ []) ∷ [])
    (5 ∷ 3 ∷ 1 ∷ 0 ∷ 0 ∷ 5 ∷ 4 ∷ 4 ∷ 3 ∷ 5 ∷ 4 ∷ 8 ∷ []))
unfolding everything
job_13 = refl

job_14 : outcome 12 (rules 1048576 2 0 at_once true Merge false) 3 (program 1
    (I ∷ X 0 ∷ Z 0 ∷ product 1 0 2 0 ∷ X 0 ∷ Y 0 ∷ product 4 0 5 1 ∷ product 6 1 5 0 ∷ Z 0 ∷ Z 0 ∷ Z 0 ∷ [])
    ((1 ∷ 10 ∷ 0 ∷ 2 ∷ 65535 ∷ 60143 ∷ []) ∷ rotate 5 0 6 ∷ rotate 4 0 3 ∷ rotate 4 0 5 ∷ rotate 5 0 2 ∷ [])
    (row 0 0 3 3 ∷ row 0 1 2 0 ∷ []))
    ≡ within (shows 12
    []
    (given- 0 0 2 ∷ given+ 0 1 0 ∷ [])
    ((0 ∷ 1 ∷ []) ∷ (1 ∷ 1 ∷ []) ∷ (1 ∷ 0 ∷ []) ∷ [])
    (2 ∷ 0 ∷ 1 ∷ 0 ∷ 3 ∷ 5 ∷ 0 ∷ 0 ∷ 0 ∷ 5 ∷ 0 ∷ 12 ∷ []))
unfolding everything
job_14 = refl

job_17 : outcome 18 (rules 0 2 0 off true Merge true) 6 (program 3
    (I ∷ (1 ∷ 2 ∷ 0 ∷ 0 ∷ 0 ∷ []) ∷ Z 1 ∷ X 2 ∷ (1 ∷ 2 ∷ 0 ∷ 0 ∷ 0 ∷ []) ∷ (1 ∷ 1 ∷ 0 ∷ 0 ∷ 0 ∷ []) ∷ (1
    ∷ 1 ∷ 0 ∷ 0 ∷ 0 ∷ []) ∷ X 0 ∷ Y 0 ∷ Z 2 ∷ product 8 0 9 0 ∷ Z 0 ∷ X 2 ∷ product 11 0 12 0 ∷ X 0 ∷ Y 2 ∷ [])
    ((1 ∷ 7 ∷ 0 ∷ 7 ∷ 65535 ∷ 60841 ∷ []) ∷ rotate 6 2 5 ∷ rotate 10 0 7 ∷ rotate 13 0 7 ∷ rotate 14 0 3
    ∷ rotate 15 0 3 ∷ rotate 10 2 7 ∷ [])
    (row 0 0 1 0 ∷ row 0 1 2 2 ∷ row 1 0 0 0 ∷ row 1 1 3 0 ∷ row 2 0 4 2 ∷ row 2 1 5 0 ∷ []))
    ≡ within (shows 18
    (rotated 3 2 ∷ rotated 6 3 ∷ rotated 4 7 ∷ rotated 5 7 ∷ rotated 4 1 ∷ [])
    (kept 0 0 ∷ kept 0 1 ∷ kept 1 0 ∷ kept 1 1 ∷ kept 2 0 ∷ kept 2 1 ∷ [])
    ((0 ∷ 0 ∷ []) ∷ (0 ∷ 2 ∷ []) ∷ (4 ∷ 0 ∷ []) ∷ (1 ∷ 0 ∷ []) ∷ (1 ∷ 5 ∷ []) ∷ (4 ∷ 1 ∷ []) ∷ (4 ∷ 4 ∷ [])
    ∷ [])
    (7 ∷ 4 ∷ 0 ∷ 1 ∷ 0 ∷ 7 ∷ 5 ∷ 4 ∷ 2 ∷ 9 ∷ 8 ∷ 18 ∷ []))
unfolding everything
job_17 = refl

job_20 : outcome 1 (rules 2 0 1 off true Merge true) 0 (program 2
    (I ∷ X 0 ∷ Z 0 ∷ X 1 ∷ Z 1 ∷ Z 1 ∷ Y 1 ∷ Y 1 ∷ [])
    (rotate 5 2 7 ∷ (2 ∷ 7 ∷ 0 ∷ 5 ∷ 7 ∷ 1 ∷ []) ∷ rotate 7 2 2 ∷ [])
    (row 0 0 1 0 ∷ row 0 1 2 2 ∷ row 1 0 3 0 ∷ row 1 1 4 2 ∷ []))
    ≡ limit_exceeded
unfolding everything
job_20 = refl

job_21 : outcome 52 (rules 1048576 3 3 at_once false Merge false) 1 (program 2
    (I ∷ Y 1 ∷ Z 1 ∷ X 1 ∷ Y 1 ∷ Y 1 ∷ Y 1 ∷ X 0 ∷ Z 0 ∷ X 1 ∷ Z 1 ∷ [])
    (rotate 2 0 6 ∷ rotate 4 0 6 ∷ (1 ∷ 2 ∷ 2 ∷ 6 ∷ 65535 ∷ 6421 ∷ []) ∷ [])
    (row 0 0 7 0 ∷ row 0 1 8 0 ∷ row 1 0 9 0 ∷ row 1 1 10 0 ∷ []))
    ≡ within (shows 12
    []
    (kept 0 0 ∷ kept 0 1 ∷ given+ 1 0 2 ∷ given+ 1 1 1 ∷ [])
    ((0 ∷ 2 ∷ []) ∷ (2 ∷ 2 ∷ []) ∷ (2 ∷ 0 ∷ []) ∷ [])
    (0 ∷ 0 ∷ 0 ∷ 0 ∷ 3 ∷ 3 ∷ 0 ∷ 0 ∷ 0 ∷ 3 ∷ 0 ∷ 12 ∷ []))
unfolding everything
job_21 = refl

job_22 : outcome 3 (rules 1048576 0 16 at_once true Litinski false) 8 (program 1
    (I ∷ Y 0 ∷ product 1 1 1 3 ∷ Y 0 ∷ X 0 ∷ Z 0 ∷ [])
    (rotate 2 2 7 ∷ rotate 1 2 5 ∷ rotate 1 0 7 ∷ rotate 3 2 3 ∷ rotate 3 2 1 ∷ (1 ∷ 3 ∷ 0 ∷ 3 ∷ 65535
    ∷ 54694 ∷ []) ∷ rotate 3 0 3 ∷ (1 ∷ 2 ∷ 2 ∷ 5 ∷ 58990 ∷ 65535 ∷ []) ∷ [])
    (row 0 0 4 0 ∷ row 0 1 5 0 ∷ []))
    ≡ limit_exceeded
unfolding everything
job_22 = refl

job_23 : outcome 3 (rules 1048576 0 3 at_once true Merge true) 6 (program 1
    (I ∷ Y 0 ∷ Y 0 ∷ Y 0 ∷ X 0 ∷ Z 0 ∷ [])
    (rotate 3 0 7 ∷ rotate 2 0 7 ∷ (1 ∷ 2 ∷ 0 ∷ 7 ∷ 65535 ∷ 1393 ∷ []) ∷ (1 ∷ 2 ∷ 0 ∷ 7 ∷ 65535 ∷ 23851
    ∷ []) ∷ rotate 3 0 7 ∷ rotate 3 2 7 ∷ rotate 3 2 1 ∷ rotate 2 0 1 ∷ rotate 2 0 1 ∷ [])
    (row 0 0 4 0 ∷ row 0 1 5 0 ∷ []))
    ≡ limit_exceeded
unfolding everything
job_23 = refl

job_24 : outcome 1 (rules 0 1 2 off true Merge false) 4 (program 2
    (I ∷ Y 0 ∷ X 0 ∷ Z 0 ∷ X 1 ∷ Z 1 ∷ [])
    []
    (row 0 0 2 0 ∷ row 0 1 3 0 ∷ row 1 0 4 0 ∷ row 1 1 5 0 ∷ []))
    ≡ within (shows 0
    []
    (kept 0 0 ∷ kept 0 1 ∷ kept 1 0 ∷ kept 1 1 ∷ [])
    []
    (0 ∷ 0 ∷ 0 ∷ 0 ∷ 0 ∷ 0 ∷ 0 ∷ 0 ∷ 0 ∷ 0 ∷ 0 ∷ 0 ∷ []))
unfolding everything
job_24 = refl

job_25 : outcome 7 (rules 3 0 1 lazy true Litinski false) 6 (program 2
    (I ∷ Z 1 ∷ Y 1 ∷ product 2 2 2 3 ∷ [])
    []
    (row 0 0 1 0 ∷ row 0 1 1 0 ∷ row 1 0 1 0 ∷ row 1 1 1 0 ∷ []))
    ≡ within (shows 0
    []
    (kept 0 0 ∷ kept 0 1 ∷ kept 1 0 ∷ kept 1 1 ∷ [])
    []
    (0 ∷ 0 ∷ 0 ∷ 0 ∷ 0 ∷ 0 ∷ 0 ∷ 0 ∷ 0 ∷ 0 ∷ 0 ∷ 0 ∷ []))
unfolding everything
job_25 = refl

job_27 : outcome 12 (rules 1048576 3 3 off false Merge true) 6 (program 2
    (I ∷ X 0 ∷ Z 0 ∷ product 1 0 2 0 ∷ Z 0 ∷ Z 1 ∷ product 4 0 5 0 ∷ X 0 ∷ X 1 ∷ product 7 0 8 0 ∷ Y 0 ∷ Y 1 ∷ Y 1 ∷ [])
    (rotate 3 1 2 ∷ (1 ∷ 3 ∷ 1 ∷ 2 ∷ 65535 ∷ 23569 ∷ []) ∷ rotate 6 0 4 ∷ rotate 9 0 4 ∷ rotate 10 0 2
    ∷ rotate 11 0 2 ∷ rotate 6 0 4 ∷ [])
    (row 0 0 0 1 ∷ row 0 1 12 2 ∷ row 1 0 3 1 ∷ row 1 1 3 3 ∷ []))
    ≡ within (shows 12
    (rotated 0 4 ∷ rotated 1 4 ∷ rotated 2 4 ∷ rotated 0 2 ∷ rotated 3 2 ∷ rotated 1 4 ∷ [])
    (kept 0 0 ∷ kept 0 1 ∷ kept 1 0 ∷ kept 1 1 ∷ [])
    ((1 ∷ 1 ∷ []) ∷ (0 ∷ 3 ∷ []) ∷ (3 ∷ 0 ∷ []) ∷ (2 ∷ 2 ∷ []) ∷ [])
    (0 ∷ 0 ∷ 1 ∷ 0 ∷ 0 ∷ 7 ∷ 6 ∷ 0 ∷ 0 ∷ 10 ∷ 9 ∷ 12 ∷ []))
unfolding everything
job_27 = refl

job_28 : outcome 1 (rules 1048576 5 0 at_once true Merge true) 8 (program 2
    (I ∷ Z 1 ∷ X 0 ∷ Z 0 ∷ X 1 ∷ Z 1 ∷ [])
    (rotate 1 0 3 ∷ [])
    (row 0 0 2 0 ∷ row 0 1 3 0 ∷ row 1 0 4 0 ∷ row 1 1 5 0 ∷ []))
    ≡ limit_exceeded
unfolding everything
job_28 = refl

job_29 : outcome 25 (rules 0 6 8 at_once true Litinski false) 4 (program 3
    (I ∷ Z 0 ∷ Y 0 ∷ (1 ∷ 0 ∷ 0 ∷ 0 ∷ 0 ∷ []) ∷ X 0 ∷ Z 0 ∷ X 1 ∷ Z 1 ∷ X 2 ∷ Z 2 ∷ product 6 0 7 0
    ∷ product 8 0 5 2 ∷ product 9 0 4 0 ∷ product 11 0 12 2 ∷ product 9 0 5 2 ∷ [])
    ((1 ∷ 1 ∷ 0 ∷ 3 ∷ 63430 ∷ 65535 ∷ []) ∷ (1 ∷ 3 ∷ 0 ∷ 3 ∷ 6410 ∷ 36952 ∷ []) ∷ rotate 3 0 5
    ∷ rotate 1 0 5 ∷ rotate 1 2 1 ∷ [])
    (row 0 0 12 2 ∷ row 0 1 14 0 ∷ row 1 0 7 0 ∷ row 1 1 10 1 ∷ row 2 0 13 0 ∷ row 2 1 9 0 ∷ []))
    ≡ within (shows 18
    (rotated 0 7 ∷ [])
    (kept 0 0 ∷ kept 0 1 ∷ kept 1 0 ∷ kept 1 1 ∷ kept 2 0 ∷ kept 2 1 ∷ [])
    ((0 ∷ 1 ∷ []) ∷ (0 ∷ 0 ∷ []) ∷ (1 ∷ 4 ∷ []) ∷ (5 ∷ 5 ∷ []) ∷ (0 ∷ 5 ∷ []) ∷ [])
    (5 ∷ 1 ∷ 2 ∷ 0 ∷ 0 ∷ 5 ∷ 1 ∷ 0 ∷ 0 ∷ 3 ∷ 1 ∷ 18 ∷ []))
unfolding everything
job_29 = refl

job_30 : outcome 13 (rules 3 0 1 at_once true Merge true) 0 (program 1
    (I ∷ Y 0 ∷ X 0 ∷ [])
    (rotate 1 2 6 ∷ rotate 1 2 2 ∷ rotate 1 0 6 ∷ measure 1 0 3 65535 ∷ rotate 1 0 2 ∷ rotate 1 0 6 ∷ (1
    ∷ 1 ∷ 0 ∷ 2 ∷ 38196 ∷ 65535 ∷ []) ∷ [])
    (row 0 0 2 2 ∷ row 0 1 1 2 ∷ []))
    ≡ within (shows 6
    (rotated 0 2 ∷ rotated 0 6 ∷ rotated 0 6 ∷ measured+ 0 3 65535 ∷ rotated 0 2 ∷ rotated 0 6 ∷ rotated 0 2 ∷ [])
    (kept 0 0 ∷ kept 0 1 ∷ [])
    ((1 ∷ 1 ∷ []) ∷ (1 ∷ 0 ∷ []) ∷ [])
    (0 ∷ 0 ∷ 0 ∷ 0 ∷ 0 ∷ 6 ∷ 6 ∷ 0 ∷ 0 ∷ 6 ∷ 6 ∷ 6 ∷ []))
unfolding everything
job_30 = refl

job_31 : outcome 1 (rules 1048576 0 1 off false Merge true) 0 (program 1
    (I ∷ X 0 ∷ Z 0 ∷ Y 0 ∷ product 3 0 3 0 ∷ [])
    (rotate 3 0 2 ∷ [])
    (row 0 0 1 0 ∷ row 0 1 2 0 ∷ []))
    ≡ limit_exceeded
unfolding everything
job_31 = refl

job_33 : outcome 7 (rules 1 3 0 off true Merge true) 8 (program 2
    (I ∷ X 0 ∷ X 0 ∷ Z 0 ∷ X 1 ∷ Z 1 ∷ [])
    (rotate 1 2 5 ∷ rotate 1 0 3 ∷ rotate 1 0 3 ∷ [])
    (row 0 0 2 0 ∷ row 0 1 3 0 ∷ row 1 0 4 0 ∷ row 1 1 5 0 ∷ []))
    ≡ within (shows 6
    (rotated 0 1 ∷ [])
    (kept 0 0 ∷ kept 0 1 ∷ kept 1 0 ∷ kept 1 1 ∷ [])
    ((1 ∷ 0 ∷ []) ∷ (0 ∷ 1 ∷ []) ∷ [])
    (3 ∷ 1 ∷ 2 ∷ 0 ∷ 0 ∷ 3 ∷ 1 ∷ 1 ∷ 1 ∷ 3 ∷ 1 ∷ 6 ∷ []))
unfolding everything
job_33 = refl

job_34 : outcome 0 (rules 1048576 1 1 off false Merge true) 8 (program 2
    (I ∷ Z 0 ∷ (1 ∷ 1 ∷ 0 ∷ 0 ∷ 0 ∷ []) ∷ Y 0 ∷ Y 1 ∷ [])
    (rotate 4 2 4 ∷ (1 ∷ 4 ∷ 0 ∷ 4 ∷ 34687 ∷ 65535 ∷ []) ∷ [])
    (row 0 0 1 2 ∷ row 0 1 0 0 ∷ row 1 0 2 2 ∷ row 1 1 3 2 ∷ []))
    ≡ limit_exceeded
unfolding everything
job_34 = refl

job_35 : outcome 12 (rules 1048576 0 16 lazy true Merge false) 6 (program 3
    (I ∷ X 0 ∷ Z 0 ∷ X 1 ∷ Z 1 ∷ X 2 ∷ Z 2 ∷ X 1 ∷ X 2 ∷ X 0 ∷ product 8 0 9 0 ∷ Y 2 ∷ Y 0
    ∷ product 11 0 12 0 ∷ Z 2 ∷ Z 0 ∷ [])
    (rotate 7 0 3 ∷ rotate 10 0 1 ∷ rotate 13 0 1 ∷ rotate 14 0 3 ∷ rotate 15 0 3 ∷ rotate 10 0 1
    ∷ rotate 15 0 3 ∷ rotate 15 0 3 ∷ [])
    (row 0 0 1 0 ∷ row 0 1 2 0 ∷ row 1 0 3 0 ∷ row 1 1 4 0 ∷ row 2 0 5 0 ∷ row 2 1 6 0 ∷ []))
    ≡ limit_exceeded
unfolding everything
job_35 = refl

job_37 : outcome 9 (rules 3 0 3 off false Litinski true) 0 (program 2
    (I ∷ Z 1 ∷ X 1 ∷ product 1 0 2 0 ∷ Z 1 ∷ Y 1 ∷ product 4 0 5 0 ∷ (1 ∷ 0 ∷ 0 ∷ 0 ∷ 0 ∷ []) ∷ Z 0
    ∷ product 7 3 8 0 ∷ Y 0 ∷ Z 1 ∷ product 10 0 11 0 ∷ Z 0 ∷ X 1 ∷ product 13 0 14 0 ∷ X 0 ∷ Y 1 ∷ Z 1 ∷ Y 0 ∷ [])
    (rotate 12 0 5 ∷ rotate 15 0 5 ∷ rotate 16 0 1 ∷ rotate 17 0 1 ∷ rotate 15 0 5 ∷ [])
    (row 0 0 18 0 ∷ row 0 1 0 0 ∷ row 1 0 19 2 ∷ row 1 1 0 0 ∷ []))
    ≡ limit_exceeded
unfolding everything
job_37 = refl

job_40 : outcome 8 (rules 3 1 0 at_once true Litinski true) 2 (program 3
    (I ∷ Y 2 ∷ Y 2 ∷ Y 2 ∷ [])
    ((1 ∷ 1 ∷ 0 ∷ 1 ∷ 42272 ∷ 65535 ∷ []) ∷ rotate 2 0 1 ∷ measure 2 0 40464 1 ∷ (1 ∷ 3 ∷ 0 ∷ 7 ∷ 18217
    ∷ 65535 ∷ []) ∷ rotate 3 0 1 ∷ rotate 3 0 1 ∷ measure 3 0 1 65534 ∷ [])
    (row 0 0 1 2 ∷ row 0 1 1 2 ∷ row 1 0 1 2 ∷ row 1 1 1 2 ∷ row 2 0 1 2 ∷ row 2 1 1 2 ∷ []))
    ≡ within (shows 8
    (measured+ 0 40464 1 ∷ rotated 0 1 ∷ measured+ 0 1 65534 ∷ [])
    (given- 0 0 0 ∷ given- 0 1 0 ∷ given- 1 0 0 ∷ given- 1 1 0 ∷ given- 2 0 0 ∷ given- 2 1 0 ∷ [])
    ((4 ∷ 4 ∷ []) ∷ [])
    (5 ∷ 1 ∷ 3 ∷ 0 ∷ 1 ∷ 5 ∷ 1 ∷ 2 ∷ 1 ∷ 5 ∷ 1 ∷ 8 ∷ []))
unfolding everything
job_40 = refl

job_41 : outcome 2 (rules 2 2 16 lazy false Litinski false) 4 (program 1
    (I ∷ Z 0 ∷ Y 0 ∷ [])
    (rotate 2 0 7 ∷ (1 ∷ 1 ∷ 0 ∷ 1 ∷ 18157 ∷ 7453 ∷ []) ∷ rotate 1 0 7 ∷ rotate 2 0 1 ∷ rotate 1 0 7 ∷ rotate 1 0 7 ∷ [])
    (row 0 0 0 0 ∷ row 0 1 0 0 ∷ []))
    ≡ limit_exceeded
unfolding everything
job_41 = refl

job_44 : outcome 7 (rules 1 2 8 lazy false Merge true) 1 (program 1
    (I ∷ Y 0 ∷ Y 0 ∷ (1 ∷ 0 ∷ 0 ∷ 0 ∷ 0 ∷ []) ∷ X 0 ∷ Z 0 ∷ [])
    (rotate 3 0 2 ∷ [])
    (row 0 0 4 0 ∷ row 0 1 5 0 ∷ []))
    ≡ limit_exceeded
unfolding everything
job_44 = refl

job_47 : outcome 11 (rules 1048576 5 3 lazy true Litinski true) 8 (program 3
    ((0 ∷ 88346 ∷ 10488 ∷ 87651 ∷ 19311 ∷ []) ∷ (1 ∷ 0 ∷ 2 ∷ 79820 ∷ 58032 ∷ []) ∷ (1 ∷ 0 ∷ 2 ∷ 80221
    ∷ 90604 ∷ []) ∷ (1 ∷ 0 ∷ 1 ∷ 53412 ∷ 48364 ∷ []) ∷ (1 ∷ 0 ∷ 3 ∷ 29903 ∷ 69895 ∷ []) ∷ (1 ∷ 1 ∷ 1
    ∷ 27894 ∷ 66476 ∷ []) ∷ (1 ∷ 1 ∷ 3 ∷ 94081 ∷ 28770 ∷ []) ∷ (1 ∷ 2 ∷ 1 ∷ 26125 ∷ 38707 ∷ []) ∷ (1 ∷ 2
    ∷ 3 ∷ 95959 ∷ 86143 ∷ []) ∷ product 7 0 6 0 ∷ product 8 0 5 0 ∷ product 4 0 3 0 ∷ product 11 3 8 0 ∷ product 3 0 9 0 ∷ [])
    (rotate 2 0 2 ∷ rotate 2 0 5 ∷ rotate 2 0 3 ∷ rotate 2 0 6 ∷ [])
    (row 0 0 12 0 ∷ row 0 1 3 0 ∷ row 1 0 10 0 ∷ row 1 1 6 0 ∷ row 2 0 13 0 ∷ row 2 1 8 0 ∷ []))
    ≡ limit_exceeded
unfolding everything
job_47 = refl

job_49 : outcome 22 (rules 1 0 2 at_once true Litinski true) 1 (program 2
    (I ∷ X 0 ∷ Y 1 ∷ product 1 0 2 0 ∷ Y 1 ∷ Y 0 ∷ [])
    ((1 ∷ 3 ∷ 0 ∷ 6 ∷ 65535 ∷ 21381 ∷ []) ∷ rotate 3 0 1 ∷ rotate 3 2 2 ∷ rotate 3 0 4 ∷ rotate 3 0 2 ∷ rotate 3 0 4 ∷ [])
    (row 0 0 4 0 ∷ row 0 1 3 0 ∷ row 1 0 0 0 ∷ row 1 1 5 0 ∷ []))
    ≡ within (shows 20
    (rotated 0 1 ∷ [])
    (given+ 0 0 1 ∷ given+ 0 1 0 ∷ kept 1 0 ∷ given+ 1 1 3 ∷ [])
    ((3 ∷ 2 ∷ []) ∷ (2 ∷ 2 ∷ []) ∷ (1 ∷ 1 ∷ []) ∷ (2 ∷ 3 ∷ []) ∷ [])
    (1 ∷ 1 ∷ 0 ∷ 0 ∷ 5 ∷ 6 ∷ 1 ∷ 1 ∷ 1 ∷ 12 ∷ 2 ∷ 20 ∷ []))
unfolding everything
job_49 = refl
