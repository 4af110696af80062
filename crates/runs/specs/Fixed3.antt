-- Written by compared.py: jobs of the oracle's fixed list, with what the Rust makes of each. Assumes nothing.
use Rattle.std.specs.Prelude.{◌≡◌, refl, true, false, [], ◌∷◌}
use Rattle.model.specs.declared.Strategy.TheVariants.{Merge, Litinski}
use Rattle.model.specs.declared.Absorption.TheVariants.{Off as off, AtOnce as at_once, Lazy as lazy}
use Rattle.model.specs.Everything.{everything}
use Rattle.runs.specs.Shown.{I, X, Y, Z, product, rotate, measure, conditional, row, program, rules, rotated, measured+}
use Rattle.runs.specs.Shown.{conditioned, kept, given+, given-, non_hermitian_at, shows}
use Rattle.runs.specs.Outcome.{limit_exceeded, within, outcome}

job_106 : outcome 41 (rules 1048576 4 16 lazy true Litinski true) 6 (program 3
    (I ∷ Z 1 ∷ X 2 ∷ product 1 0 2 0 ∷ Y 1 ∷ Z 1 ∷ product 4 0 5 0 ∷ Y 0 ∷ product 6 0 7 0 ∷ X 1 ∷ Y 1
    ∷ product 9 0 10 0 ∷ Y 0 ∷ product 11 0 12 0 ∷ Y 2 ∷ Z 1 ∷ product 14 0 15 0 ∷ Z 2 ∷ X 1
    ∷ product 17 0 18 0 ∷ X 2 ∷ Y 1 ∷ X 0 ∷ Z 0 ∷ X 1 ∷ Z 1 ∷ X 2 ∷ Z 2 ∷ [])
    (rotate 8 1 5 ∷ rotate 13 3 2 ∷ rotate 8 1 7 ∷ rotate 16 0 0 ∷ rotate 19 0 0 ∷ rotate 20 0 7 ∷ rotate 21 0 7 ∷ rotate 16 0 0 ∷ [])
    (row 0 0 22 0 ∷ row 0 1 23 0 ∷ row 1 0 24 0 ∷ row 1 1 25 0 ∷ row 2 0 26 0 ∷ row 2 1 27 0 ∷ []))
    ≡ within (shows 40
    (rotated 0 3 ∷ rotated 4 7 ∷ rotated 5 7 ∷ rotated 0 7 ∷ [])
    (given+ 0 0 11 ∷ given- 0 1 12 ∷ given- 1 0 13 ∷ given+ 1 1 9 ∷ given+ 2 0 4 ∷ given+ 2 1 10 ∷ [])
    ((3 ∷ 1 ∷ []) ∷ (1 ∷ 3 ∷ []) ∷ (4 ∷ 6 ∷ []) ∷ (2 ∷ 4 ∷ []) ∷ (4 ∷ 0 ∷ []) ∷ (2 ∷ 2 ∷ []) ∷ (1 ∷ 0 ∷ [])
    ∷ (0 ∷ 1 ∷ []) ∷ (2 ∷ 0 ∷ []) ∷ (0 ∷ 2 ∷ []) ∷ (0 ∷ 4 ∷ []) ∷ (0 ∷ 3 ∷ []) ∷ (1 ∷ 2 ∷ []) ∷ (3 ∷ 3
    ∷ []) ∷ [])
    (4 ∷ 4 ∷ 0 ∷ 0 ∷ 1 ∷ 8 ∷ 4 ∷ 3 ∷ 3 ∷ 14 ∷ 6 ∷ 40 ∷ []))
unfolding everything
job_106 = refl

job_108 : outcome 22 (rules 2 2 16 at_once true Merge false) 8 (program 2
    (I ∷ X 0 ∷ Z 0 ∷ X 1 ∷ Z 1 ∷ product 3 2 4 0 ∷ product 1 0 4 0 ∷ product 2 0 5 3 ∷ X 0 ∷ Z 1
    ∷ product 8 3 9 0 ∷ Y 0 ∷ X 1 ∷ product 11 0 12 0 ∷ Y 0 ∷ Y 0 ∷ product 14 0 15 0 ∷ Z 0 ∷ Y 1 ∷ product 17 0 18 0 ∷ [])
    (rotate 10 1 7 ∷ rotate 19 0 7 ∷ rotate 10 1 1 ∷ rotate 13 0 1 ∷ rotate 10 3 1 ∷ rotate 16 0 7 ∷ [])
    (row 0 0 6 0 ∷ row 0 1 2 0 ∷ row 1 0 7 0 ∷ row 1 1 4 0 ∷ []))
    ≡ within (shows 20
    (rotated 3 7 ∷ rotated 4 1 ∷ rotated 2 7 ∷ [])
    (kept 0 0 ∷ kept 0 1 ∷ kept 1 0 ∷ kept 1 1 ∷ [])
    ((0 ∷ 1 ∷ []) ∷ (0 ∷ 2 ∷ []) ∷ (1 ∷ 2 ∷ []) ∷ (2 ∷ 3 ∷ []) ∷ (3 ∷ 1 ∷ []) ∷ (0 ∷ 0 ∷ []) ∷ [])
    (6 ∷ 3 ∷ 1 ∷ 0 ∷ 0 ∷ 6 ∷ 3 ∷ 0 ∷ 0 ∷ 10 ∷ 6 ∷ 20 ∷ []))
unfolding everything
job_108 = refl

job_109 : outcome 15 (rules 1048576 0 2 at_once true Litinski true) 1 (program 1
    ((0 ∷ 53378 ∷ 67264 ∷ 88135 ∷ 8587 ∷ []) ∷ (1 ∷ 0 ∷ 0 ∷ 55523 ∷ 52189 ∷ []) ∷ (1 ∷ 0 ∷ 2 ∷ 74150
    ∷ 90313 ∷ []) ∷ product 2 3 2 3 ∷ (1 ∷ 0 ∷ 1 ∷ 7367 ∷ 54800 ∷ []) ∷ [])
    (rotate 2 0 1 ∷ rotate 3 2 4 ∷ rotate 4 2 2 ∷ rotate 4 0 4 ∷ rotate 4 0 4 ∷ rotate 3 2 4 ∷ rotate 2 0 7 ∷ rotate 4 0 2 ∷ [])
    (row 0 0 0 2 ∷ row 0 1 1 0 ∷ []))
    ≡ within (shows 14
    (rotated 1 1 ∷ rotated 3 7 ∷ [])
    (kept 0 0 ∷ given+ 0 1 0 ∷ [])
    ((0 ∷ 0 ∷ []) ∷ (1 ∷ 1 ∷ []) ∷ (1 ∷ 0 ∷ []) ∷ (0 ∷ 1 ∷ []) ∷ [])
    (2 ∷ 2 ∷ 0 ∷ 0 ∷ 4 ∷ 8 ∷ 2 ∷ 2 ∷ 2 ∷ 6 ∷ 2 ∷ 14 ∷ []))
unfolding everything
job_109 = refl

job_113 : outcome 52 (rules 1048576 0 0 lazy true Merge true) 2 (program 2
    (I ∷ Y 0 ∷ X 0 ∷ product 1 0 2 0 ∷ X 0 ∷ product 3 0 3 2 ∷ product 5 2 3 0 ∷ Y 0 ∷ X 0 ∷ Z 0 ∷ X 1
    ∷ Z 1 ∷ product 11 0 10 2 ∷ [])
    (rotate 4 0 3 ∷ rotate 4 0 5 ∷ rotate 4 0 5 ∷ rotate 3 1 7 ∷ rotate 4 0 5 ∷ rotate 3 1 3 ∷ rotate 4 0 5 ∷ rotate 4 0 1 ∷ [])
    (row 0 0 8 0 ∷ row 0 1 9 0 ∷ row 1 0 12 3 ∷ row 1 1 10 2 ∷ []))
    ≡ within (shows 12
    (rotated 1 5 ∷ rotated 0 7 ∷ rotated 1 5 ∷ rotated 0 3 ∷ [])
    (given+ 0 0 1 ∷ given- 0 1 2 ∷ kept 1 0 ∷ kept 1 1 ∷ [])
    ((0 ∷ 1 ∷ []) ∷ (1 ∷ 0 ∷ []) ∷ (1 ∷ 1 ∷ []) ∷ [])
    (8 ∷ 4 ∷ 2 ∷ 0 ∷ 1 ∷ 8 ∷ 4 ∷ 5 ∷ 4 ∷ 8 ∷ 4 ∷ 12 ∷ []))
unfolding everything
job_113 = refl

job_114 : outcome 5 (rules 0 1 2 off true Merge false) 8 (program 1
    (I ∷ X 0 ∷ X 0 ∷ Z 0 ∷ [])
    (rotate 1 2 3 ∷ rotate 1 2 7 ∷ [])
    (row 0 0 2 1 ∷ row 0 1 3 0 ∷ []))
    ≡ within (non_hermitian_at 4)
unfolding everything
job_114 = refl

job_115 : outcome 4 (rules 1048576 1 1 at_once false Litinski false) 2 (program 2
    (I ∷ Z 1 ∷ X 1 ∷ I ∷ Y 1 ∷ X 0 ∷ Z 1 ∷ [])
    (rotate 1 3 7 ∷ [])
    (row 0 0 5 2 ∷ row 0 1 0 2 ∷ row 1 0 6 2 ∷ row 1 1 0 2 ∷ []))
    ≡ within (non_hermitian_at 2)
unfolding everything
job_115 = refl

job_117 : outcome 2 (rules 0 1 0 at_once true Merge true) 8 (program 2
    (I ∷ Y 1 ∷ X 0 ∷ X 0 ∷ product 2 0 3 0 ∷ X 0 ∷ Y 1 ∷ product 5 0 6 0 ∷ Y 0 ∷ Z 1 ∷ product 8 0 9 0 ∷ Z 0 ∷ X 1 ∷ [])
    ((1 ∷ 1 ∷ 3 ∷ 5 ∷ 58724 ∷ 65535 ∷ []) ∷ rotate 4 0 1 ∷ rotate 7 0 1 ∷ rotate 10 0 1 ∷ rotate 11 0 3
    ∷ rotate 12 0 3 ∷ rotate 7 0 1 ∷ [])
    (row 0 0 1 0 ∷ row 0 1 1 0 ∷ row 1 0 1 0 ∷ row 1 1 1 0 ∷ []))
    ≡ within (non_hermitian_at 2)
unfolding everything
job_117 = refl

job_118 : outcome 7 (rules 1048576 5 3 off true Litinski false) 8 (program 2
    (I ∷ Z 0 ∷ Z 0 ∷ X 0 ∷ Z 0 ∷ X 1 ∷ Z 1 ∷ [])
    (rotate 1 0 7 ∷ rotate 2 0 0 ∷ rotate 2 0 6 ∷ rotate 1 2 5 ∷ rotate 1 2 2 ∷ rotate 1 0 2 ∷ rotate 2 2 6
    ∷ rotate 2 0 0 ∷ (1 ∷ 2 ∷ 0 ∷ 0 ∷ 16478 ∷ 65535 ∷ []) ∷ [])
    (row 0 0 3 0 ∷ row 0 1 4 0 ∷ row 1 0 5 0 ∷ row 1 1 6 0 ∷ []))
    ≡ within (shows 6
    (rotated 0 2 ∷ [])
    (kept 0 0 ∷ kept 0 1 ∷ kept 1 0 ∷ kept 1 1 ∷ [])
    ((0 ∷ 1 ∷ []) ∷ (1 ∷ 0 ∷ []) ∷ [])
    (2 ∷ 0 ∷ 5 ∷ 0 ∷ 0 ∷ 9 ∷ 1 ∷ 0 ∷ 0 ∷ 9 ∷ 1 ∷ 6 ∷ []))
unfolding everything
job_118 = refl

job_120 : outcome 21 (rules 1 2 0 at_once true Merge false) 2 (program 3
    (I ∷ X 0 ∷ Z 0 ∷ Z 2 ∷ product 2 3 3 0 ∷ Z 0 ∷ Z 2 ∷ product 5 0 6 0 ∷ X 0 ∷ X 2 ∷ product 8 0 9 0 ∷ Y 0 ∷ Y 2 ∷ [])
    ((1 ∷ 4 ∷ 1 ∷ 1 ∷ 59824 ∷ 65535 ∷ []) ∷ rotate 4 1 7 ∷ rotate 4 1 1 ∷ rotate 4 1 7 ∷ rotate 7 0 7
    ∷ rotate 10 0 7 ∷ rotate 11 0 1 ∷ rotate 12 0 1 ∷ rotate 10 0 7 ∷ [])
    (row 0 0 0 0 ∷ row 0 1 0 0 ∷ row 1 0 0 0 ∷ row 1 1 0 0 ∷ row 2 0 0 0 ∷ row 2 1 0 0 ∷ []))
    ≡ within (shows 20
    (rotated 2 1 ∷ rotated 3 1 ∷ rotated 0 7 ∷ [])
    (kept 0 0 ∷ kept 0 1 ∷ kept 1 0 ∷ kept 1 1 ∷ kept 2 0 ∷ kept 2 1 ∷ [])
    ((0 ∷ 5 ∷ []) ∷ (5 ∷ 0 ∷ []) ∷ (1 ∷ 1 ∷ []) ∷ (4 ∷ 4 ∷ []) ∷ [])
    (9 ∷ 3 ∷ 2 ∷ 1 ∷ 1 ∷ 9 ∷ 3 ∷ 0 ∷ 0 ∷ 16 ∷ 4 ∷ 20 ∷ []))
unfolding everything
job_120 = refl

job_121 : outcome 11 (rules 3 5 16 off false Merge true) 1 (program 2
    (I ∷ Z 0 ∷ [])
    (rotate 1 0 5 ∷ rotate 1 0 1 ∷ rotate 1 0 4 ∷ (1 ∷ 1 ∷ 0 ∷ 2 ∷ 65535 ∷ 28999 ∷ []) ∷ rotate 1 0 2 ∷ rotate 1 0 4 ∷ [])
    (row 0 0 1 2 ∷ row 0 1 1 2 ∷ row 1 0 1 2 ∷ row 1 1 1 2 ∷ []))
    ≡ within (shows 4
    (rotated 0 2 ∷ [])
    (kept 0 0 ∷ kept 0 1 ∷ kept 1 0 ∷ kept 1 1 ∷ [])
    ((0 ∷ 1 ∷ []) ∷ [])
    (2 ∷ 0 ∷ 5 ∷ 0 ∷ 0 ∷ 6 ∷ 1 ∷ 1 ∷ 0 ∷ 6 ∷ 1 ∷ 4 ∷ []))
unfolding everything
job_121 = refl

job_125 : outcome 50 (rules 3 6 2 off false Merge true) 2 (program 1
    (I ∷ Z 0 ∷ X 0 ∷ X 0 ∷ Z 0 ∷ product 3 0 4 0 ∷ [])
    (rotate 1 0 1 ∷ rotate 2 2 4 ∷ rotate 2 0 2 ∷ rotate 1 0 6 ∷ rotate 1 0 2 ∷ rotate 2 0 6 ∷ rotate 2 2 4 ∷ rotate 1 0 7 ∷ [])
    (row 0 0 4 0 ∷ row 0 1 5 1 ∷ []))
    ≡ within (shows 10
    []
    (kept 0 0 ∷ kept 0 1 ∷ [])
    ((0 ∷ 1 ∷ []) ∷ (1 ∷ 0 ∷ []) ∷ (1 ∷ 1 ∷ []) ∷ [])
    (2 ∷ 0 ∷ 5 ∷ 0 ∷ 0 ∷ 8 ∷ 0 ∷ 2 ∷ 0 ∷ 8 ∷ 0 ∷ 10 ∷ []))
unfolding everything
job_125 = refl

job_131 : outcome 72 (rules 2 6 5 lazy true Merge true) 1 (program 2
    (I ∷ X 0 ∷ Z 0 ∷ X 1 ∷ Z 1 ∷ product 1 0 2 0 ∷ Z 0 ∷ (1 ∷ 1 ∷ 0 ∷ 0 ∷ 0 ∷ []) ∷ Y 1 ∷ Y 0
    ∷ product 8 0 9 0 ∷ Z 1 ∷ Z 0 ∷ product 11 0 12 0 ∷ X 1 ∷ X 0 ∷ [])
    (measure 7 0 0 65534 ∷ rotate 6 2 4 ∷ rotate 6 2 4 ∷ conditional 7 2 6 0 ∷ rotate 10 0 2
    ∷ rotate 13 0 2 ∷ rotate 14 0 4 ∷ rotate 15 0 4 ∷ rotate 10 0 2 ∷ [])
    (row 0 0 5 1 ∷ row 0 1 2 0 ∷ row 1 0 4 0 ∷ row 1 1 3 0 ∷ []))
    ≡ within (shows 32
    (measured+ 4 0 65534 ∷ conditioned 4 2 0 ∷ [])
    (given- 0 0 8 ∷ given+ 0 1 0 ∷ given+ 1 0 2 ∷ given+ 1 1 9 ∷ [])
    ((0 ∷ 1 ∷ []) ∷ (2 ∷ 0 ∷ []) ∷ (0 ∷ 2 ∷ []) ∷ (1 ∷ 1 ∷ []) ∷ (0 ∷ 0 ∷ []) ∷ (3 ∷ 3 ∷ []) ∷ (0 ∷ 3 ∷ [])
    ∷ (1 ∷ 0 ∷ []) ∷ (1 ∷ 2 ∷ []) ∷ (2 ∷ 3 ∷ []) ∷ [])
    (0 ∷ 0 ∷ 1 ∷ 0 ∷ 5 ∷ 7 ∷ 0 ∷ 0 ∷ 0 ∷ 10 ∷ 0 ∷ 32 ∷ []))
unfolding everything
job_131 = refl

job_132 : outcome 28 (rules 1 0 0 at_once true Merge true) 1 (program 3
    (I ∷ X 0 ∷ Z 0 ∷ X 1 ∷ Z 1 ∷ X 2 ∷ Z 2 ∷ Y 1 ∷ Z 1 ∷ product 7 0 8 0 ∷ product 9 2 9 1
    ∷ product 10 2 9 3 ∷ X 1 ∷ product 9 2 9 2 ∷ X 0 ∷ X 1 ∷ product 14 0 15 0 ∷ Y 0 ∷ Y 1
    ∷ product 17 0 18 0 ∷ Z 0 ∷ Z 1 ∷ [])
    (rotate 16 2 0 ∷ rotate 19 0 0 ∷ rotate 20 0 6 ∷ rotate 21 0 6 ∷ rotate 16 0 0 ∷ [])
    (row 0 0 1 0 ∷ row 0 1 2 0 ∷ row 1 0 4 0 ∷ row 1 1 3 0 ∷ row 2 0 5 0 ∷ row 2 1 6 0 ∷ []))
    ≡ within (shows 28
    []
    (given+ 0 0 6 ∷ given+ 0 1 1 ∷ given+ 1 0 3 ∷ given+ 1 1 7 ∷ kept 2 0 ∷ kept 2 1 ∷ [])
    ((1 ∷ 0 ∷ []) ∷ (0 ∷ 1 ∷ []) ∷ (2 ∷ 0 ∷ []) ∷ (0 ∷ 2 ∷ []) ∷ (3 ∷ 0 ∷ []) ∷ (3 ∷ 3 ∷ []) ∷ (1 ∷ 1 ∷ [])
    ∷ (2 ∷ 2 ∷ []) ∷ [])
    (0 ∷ 0 ∷ 0 ∷ 0 ∷ 2 ∷ 5 ∷ 0 ∷ 0 ∷ 0 ∷ 8 ∷ 0 ∷ 28 ∷ []))
unfolding everything
job_132 = refl

job_136 : outcome 13 (rules 1 2 2 at_once false Merge true) 8 (program 2
    (I ∷ Z 1 ∷ Y 1 ∷ X 1 ∷ X 1 ∷ Z 1 ∷ X 0 ∷ Z 0 ∷ X 1 ∷ Z 1 ∷ [])
    (rotate 5 0 7 ∷ rotate 5 2 3 ∷ (1 ∷ 5 ∷ 0 ∷ 3 ∷ 19611 ∷ 65535 ∷ []) ∷ rotate 3 0 3 ∷ (1 ∷ 4 ∷ 0 ∷ 3
    ∷ 65535 ∷ 30734 ∷ []) ∷ rotate 4 0 5 ∷ rotate 3 0 5 ∷ rotate 5 2 5 ∷ rotate 3 0 5 ∷ [])
    (row 0 0 6 0 ∷ row 0 1 7 0 ∷ row 1 0 8 0 ∷ row 1 1 9 0 ∷ []))
    ≡ within (shows 12
    (rotated 2 3 ∷ [])
    (kept 0 0 ∷ kept 0 1 ∷ given- 1 0 2 ∷ given+ 1 1 1 ∷ [])
    ((2 ∷ 0 ∷ []) ∷ (0 ∷ 2 ∷ []) ∷ (2 ∷ 2 ∷ []) ∷ [])
    (9 ∷ 1 ∷ 4 ∷ 0 ∷ 4 ∷ 9 ∷ 1 ∷ 4 ∷ 1 ∷ 9 ∷ 1 ∷ 12 ∷ []))
unfolding everything
job_136 = refl

job_138 : outcome 33 (rules 2 1 3 at_once false Merge false) 6 (program 3
    (I ∷ X 0 ∷ Z 0 ∷ X 1 ∷ Z 1 ∷ X 2 ∷ Z 2 ∷ product 5 0 1 0 ∷ product 6 0 2 0 ∷ product 1 0 8 0 ∷ X 1
    ∷ X 0 ∷ product 10 0 11 0 ∷ product 12 3 12 0 ∷ [])
    ((1 ∷ 12 ∷ 2 ∷ 4 ∷ 65535 ∷ 11603 ∷ []) ∷ measure 12 0 7 65535 ∷ rotate 13 1 2 ∷ conditional 13 3 5 7 ∷ [])
    (row 0 0 9 3 ∷ row 0 1 8 0 ∷ row 1 0 3 0 ∷ row 1 1 4 0 ∷ row 2 0 7 2 ∷ row 2 1 6 0 ∷ []))
    ≡ within (shows 26
    (measured+ 5 7 65535 ∷ conditioned 6 3 7 ∷ [])
    (given+ 0 0 4 ∷ given- 0 1 3 ∷ given+ 1 0 0 ∷ given- 1 1 1 ∷ given- 2 0 2 ∷ kept 2 1 ∷ [])
    ((2 ∷ 0 ∷ []) ∷ (0 ∷ 2 ∷ []) ∷ (5 ∷ 0 ∷ []) ∷ (0 ∷ 5 ∷ []) ∷ (1 ∷ 5 ∷ []) ∷ (3 ∷ 0 ∷ []) ∷ (0 ∷ 0 ∷ [])
    ∷ [])
    (1 ∷ 1 ∷ 0 ∷ 0 ∷ 1 ∷ 2 ∷ 0 ∷ 0 ∷ 0 ∷ 2 ∷ 0 ∷ 26 ∷ []))
unfolding everything
job_138 = refl

job_141 : outcome 6 (rules 1048576 3 16 at_once false Merge true) 6 (program 1
    (I ∷ X 0 ∷ X 0 ∷ Z 0 ∷ product 2 0 3 0 ∷ [])
    (rotate 1 0 7 ∷ rotate 1 1 1 ∷ measure 1 0 5 65535 ∷ rotate 1 0 3 ∷ measure 1 2 0 65535 ∷ [])
    (row 0 0 4 1 ∷ row 0 1 3 2 ∷ []))
    ≡ within (non_hermitian_at 4)
unfolding everything
job_141 = refl

job_143 : outcome 26 (rules 2 0 16 at_once false Merge true) 1 (program 3
    (I ∷ X 1 ∷ Y 0 ∷ X 1 ∷ X 2 ∷ product 3 0 4 0 ∷ Y 1 ∷ Y 2 ∷ product 6 0 7 0 ∷ Z 1 ∷ Z 2 ∷ [])
    (rotate 2 2 1 ∷ rotate 2 0 0 ∷ rotate 5 0 5 ∷ rotate 8 0 5 ∷ rotate 9 0 3 ∷ rotate 10 0 3
    ∷ rotate 5 0 5 ∷ rotate 5 0 2 ∷ rotate 9 0 1 ∷ [])
    (row 0 0 1 2 ∷ row 0 1 1 2 ∷ row 1 0 1 2 ∷ row 1 1 1 2 ∷ row 2 0 1 2 ∷ row 2 1 1 2 ∷ []))
    ≡ within (shows 26
    (rotated 1 7 ∷ rotated 2 5 ∷ rotated 3 5 ∷ rotated 4 3 ∷ rotated 5 3 ∷ rotated 2 5 ∷ rotated 6 1 ∷ [])
    (given- 0 0 0 ∷ given- 0 1 0 ∷ given- 1 0 0 ∷ given- 1 1 0 ∷ given- 2 0 0 ∷ given- 2 1 0 ∷ [])
    ((2 ∷ 0 ∷ []) ∷ (1 ∷ 1 ∷ []) ∷ (6 ∷ 0 ∷ []) ∷ (6 ∷ 6 ∷ []) ∷ (0 ∷ 2 ∷ []) ∷ (0 ∷ 4 ∷ []) ∷ (6 ∷ 2 ∷ [])
    ∷ [])
    (7 ∷ 7 ∷ 0 ∷ 0 ∷ 1 ∷ 9 ∷ 7 ∷ 4 ∷ 4 ∷ 13 ∷ 11 ∷ 26 ∷ []))
unfolding everything
job_143 = refl

job_145 : outcome 8 (rules 1048576 1 1 lazy false Merge true) 1 (program 3
    (I ∷ (1 ∷ 1 ∷ 0 ∷ 0 ∷ 0 ∷ []) ∷ (1 ∷ 0 ∷ 0 ∷ 0 ∷ 0 ∷ []) ∷ X 0 ∷ (1 ∷ 0 ∷ 0 ∷ 0 ∷ 0 ∷ []) ∷ Z 0 ∷ Z 1
    ∷ X 2 ∷ product 7 2 7 3 ∷ [])
    (rotate 8 1 0 ∷ (1 ∷ 7 ∷ 0 ∷ 2 ∷ 65535 ∷ 37594 ∷ []) ∷ rotate 7 0 3 ∷ [])
    (row 0 0 1 2 ∷ row 0 1 2 2 ∷ row 1 0 3 0 ∷ row 1 1 4 2 ∷ row 2 0 5 2 ∷ row 2 1 6 0 ∷ []))
    ≡ within (shows 6
    (rotated 0 5 ∷ [])
    (kept 0 0 ∷ kept 0 1 ∷ kept 1 0 ∷ kept 1 1 ∷ kept 2 0 ∷ kept 2 1 ∷ [])
    ((4 ∷ 0 ∷ []) ∷ (0 ∷ 0 ∷ []) ∷ [])
    (1 ∷ 1 ∷ 1 ∷ 0 ∷ 0 ∷ 3 ∷ 1 ∷ 1 ∷ 1 ∷ 2 ∷ 1 ∷ 6 ∷ []))
unfolding everything
job_145 = refl

job_146 : outcome 6 (rules 1 2 3 off true Merge true) 6 (program 1
    (I ∷ X 0 ∷ product 1 2 1 1 ∷ product 1 3 1 2 ∷ X 0 ∷ X 0 ∷ X 0 ∷ Z 0 ∷ [])
    (rotate 2 3 4 ∷ (1 ∷ 3 ∷ 3 ∷ 0 ∷ 65535 ∷ 52502 ∷ []) ∷ rotate 5 3 7 ∷ rotate 3 3 1 ∷ rotate 3 3 6 ∷ [])
    (row 0 0 6 0 ∷ row 0 1 7 0 ∷ []))
    ≡ within (non_hermitian_at 6)
unfolding everything
job_146 = refl

job_147 : outcome 14 (rules 1048576 4 1 lazy false Merge true) 2 (program 1
    (I ∷ Z 0 ∷ Y 0 ∷ X 0 ∷ X 0 ∷ Y 0 ∷ product 5 1 0 0 ∷ X 0 ∷ Z 0 ∷ X 0 ∷ Z 0 ∷ product 9 2 10 0 ∷ [])
    (rotate 1 0 1 ∷ rotate 1 2 7 ∷ rotate 3 2 7 ∷ rotate 3 2 1 ∷ rotate 1 2 1 ∷ [])
    (row 0 0 11 3 ∷ row 0 1 10 0 ∷ []))
    ≡ within (shows 12
    (rotated 0 7 ∷ [])
    (given+ 0 0 1 ∷ given+ 0 1 0 ∷ [])
    ((0 ∷ 1 ∷ []) ∷ (1 ∷ 0 ∷ []) ∷ (1 ∷ 1 ∷ []) ∷ [])
    (5 ∷ 1 ∷ 2 ∷ 0 ∷ 1 ∷ 5 ∷ 1 ∷ 3 ∷ 1 ∷ 5 ∷ 1 ∷ 12 ∷ []))
unfolding everything
job_147 = refl

job_151 : outcome 14 (rules 1048576 4 16 at_once false Merge true) 1 (program 1
    (I ∷ Y 0 ∷ product 1 1 1 2 ∷ Z 0 ∷ Z 0 ∷ X 0 ∷ [])
    (rotate 5 0 2 ∷ rotate 5 0 1 ∷ rotate 2 3 6 ∷ rotate 1 0 2 ∷ rotate 5 2 4 ∷ rotate 1 0 6 ∷ rotate 4 0 1
    ∷ rotate 4 0 7 ∷ rotate 3 0 2 ∷ [])
    (row 0 0 2 3 ∷ row 0 1 2 3 ∷ []))
    ≡ within (shows 14
    (rotated 3 1 ∷ [])
    (given- 0 0 1 ∷ given- 0 1 1 ∷ [])
    ((1 ∷ 1 ∷ []) ∷ (0 ∷ 0 ∷ []) ∷ (0 ∷ 1 ∷ []) ∷ (1 ∷ 0 ∷ []) ∷ [])
    (3 ∷ 1 ∷ 1 ∷ 0 ∷ 5 ∷ 9 ∷ 1 ∷ 2 ∷ 1 ∷ 8 ∷ 1 ∷ 14 ∷ []))
unfolding everything
job_151 = refl

job_152 : outcome 20 (rules 0 3 16 lazy false Merge true) 6 (program 2
    ((0 ∷ 66405 ∷ 14979 ∷ 12355 ∷ 79878 ∷ []) ∷ (1 ∷ 1 ∷ 3 ∷ 52430 ∷ 55912 ∷ []) ∷ (1 ∷ 0 ∷ 3 ∷ 30834
    ∷ 81589 ∷ []) ∷ (1 ∷ 1 ∷ 1 ∷ 80732 ∷ 38972 ∷ []) ∷ (1 ∷ 0 ∷ 0 ∷ 43855 ∷ 62720 ∷ []) ∷ product 4 1 4 2
    ∷ (1 ∷ 0 ∷ 2 ∷ 19233 ∷ 7499 ∷ []) ∷ (1 ∷ 1 ∷ 2 ∷ 80069 ∷ 4418 ∷ []) ∷ product 6 0 7 0 ∷ (1 ∷ 0 ∷ 3
    ∷ 32124 ∷ 40533 ∷ []) ∷ (1 ∷ 1 ∷ 3 ∷ 88717 ∷ 20580 ∷ []) ∷ product 9 0 10 0 ∷ (1 ∷ 0 ∷ 1 ∷ 51559
    ∷ 90943 ∷ []) ∷ (1 ∷ 1 ∷ 1 ∷ 16298 ∷ 82013 ∷ []) ∷ [])
    (rotate 5 1 2 ∷ rotate 8 0 1 ∷ rotate 11 0 1 ∷ rotate 12 0 2 ∷ rotate 13 0 2 ∷ rotate 11 0 1 ∷ (1 ∷ 12
    ∷ 0 ∷ 6 ∷ 65535 ∷ 10508 ∷ []) ∷ [])
    (row 0 0 1 2 ∷ row 0 1 2 2 ∷ row 1 0 3 2 ∷ row 1 1 0 2 ∷ []))
    ≡ limit_exceeded
unfolding everything
job_152 = refl

job_155 : outcome 19 (rules 0 2 3 off true Merge false) 4 (program 3
    (I ∷ X 0 ∷ Y 0 ∷ (1 ∷ 0 ∷ 0 ∷ 0 ∷ 0 ∷ []) ∷ product 3 1 1 1 ∷ Z 0 ∷ X 1 ∷ product 5 0 6 0 ∷ Y 2
    ∷ product 7 0 8 0 ∷ Y 1 ∷ Z 0 ∷ product 10 0 11 0 ∷ Z 1 ∷ X 0 ∷ product 13 0 14 0 ∷ X 1 ∷ Y 0 ∷ [])
    ((1 ∷ 2 ∷ 0 ∷ 1 ∷ 62241 ∷ 65535 ∷ []) ∷ rotate 12 0 7 ∷ rotate 15 0 7 ∷ rotate 16 0 1 ∷ rotate 17 0 1
    ∷ rotate 15 0 7 ∷ [])
    (row 0 0 0 0 ∷ row 0 1 0 0 ∷ row 1 0 0 0 ∷ row 1 1 0 0 ∷ row 2 0 0 0 ∷ row 2 1 0 0 ∷ []))
    ≡ within (shows 12
    (rotated 0 2 ∷ rotated 3 1 ∷ rotated 1 7 ∷ rotated 2 6 ∷ [])
    (kept 0 0 ∷ kept 0 1 ∷ kept 1 0 ∷ kept 1 1 ∷ kept 2 0 ∷ kept 2 1 ∷ [])
    ((1 ∷ 1 ∷ []) ∷ (2 ∷ 3 ∷ []) ∷ (1 ∷ 2 ∷ []) ∷ (2 ∷ 0 ∷ []) ∷ [])
    (6 ∷ 2 ∷ 1 ∷ 1 ∷ 0 ∷ 6 ∷ 4 ∷ 0 ∷ 0 ∷ 9 ∷ 6 ∷ 12 ∷ []))
unfolding everything
job_155 = refl

job_157 : outcome 20 (rules 3 3 3 at_once true Litinski false) 8 (program 3
    ((0 ∷ 13080 ∷ 68156 ∷ 38517 ∷ 13623 ∷ []) ∷ (1 ∷ 0 ∷ 2 ∷ 75249 ∷ 24091 ∷ []) ∷ product 1 0 1 1 ∷ (1 ∷ 2
    ∷ 1 ∷ 50951 ∷ 27552 ∷ []) ∷ (1 ∷ 0 ∷ 3 ∷ 15423 ∷ 68325 ∷ []) ∷ product 3 0 4 0 ∷ (1 ∷ 2 ∷ 2 ∷ 35427
    ∷ 34938 ∷ []) ∷ (1 ∷ 0 ∷ 1 ∷ 30258 ∷ 21490 ∷ []) ∷ product 6 0 7 0 ∷ (1 ∷ 2 ∷ 3 ∷ 31957 ∷ 91757 ∷ [])
    ∷ (1 ∷ 0 ∷ 2 ∷ 41374 ∷ 95417 ∷ []) ∷ (1 ∷ 0 ∷ 1 ∷ 58968 ∷ 81003 ∷ []) ∷ (1 ∷ 0 ∷ 3 ∷ 4993 ∷ 45375 ∷ [])
    ∷ (1 ∷ 1 ∷ 1 ∷ 90435 ∷ 55145 ∷ []) ∷ (1 ∷ 1 ∷ 3 ∷ 47756 ∷ 65068 ∷ []) ∷ (1 ∷ 2 ∷ 1 ∷ 24211 ∷ 50314
    ∷ []) ∷ (1 ∷ 2 ∷ 3 ∷ 99328 ∷ 74070 ∷ []) ∷ [])
    (rotate 2 3 3 ∷ rotate 1 0 1 ∷ rotate 1 0 7 ∷ rotate 2 3 5 ∷ rotate 5 0 3 ∷ rotate 8 0 3 ∷ rotate 9 0 7
    ∷ rotate 10 0 7 ∷ rotate 5 0 3 ∷ [])
    (row 0 0 11 0 ∷ row 0 1 12 0 ∷ row 1 0 13 0 ∷ row 1 1 14 0 ∷ row 2 0 15 0 ∷ row 2 1 16 0 ∷ []))
    ≡ within (shows 20
    (rotated 2 3 ∷ rotated 3 3 ∷ rotated 4 7 ∷ rotated 0 7 ∷ rotated 2 3 ∷ [])
    (kept 0 0 ∷ kept 0 1 ∷ kept 1 0 ∷ kept 1 1 ∷ kept 2 0 ∷ kept 2 1 ∷ [])
    ((1 ∷ 1 ∷ []) ∷ (0 ∷ 0 ∷ []) ∷ (4 ∷ 1 ∷ []) ∷ (5 ∷ 4 ∷ []) ∷ (0 ∷ 4 ∷ []) ∷ (1 ∷ 0 ∷ []) ∷ (0 ∷ 1 ∷ [])
    ∷ (4 ∷ 0 ∷ []) ∷ [])
    (9 ∷ 5 ∷ 1 ∷ 0 ∷ 0 ∷ 9 ∷ 5 ∷ 0 ∷ 0 ∷ 10 ∷ 8 ∷ 20 ∷ []))
unfolding everything
job_157 = refl

job_158 : outcome 7 (rules 2 6 16 off false Litinski true) 3 (program 3
    (I ∷ Z 2 ∷ X 0 ∷ Z 0 ∷ X 1 ∷ Z 1 ∷ X 2 ∷ Z 2 ∷ product 2 0 3 0 ∷ [])
    (rotate 1 2 6 ∷ rotate 1 2 2 ∷ rotate 1 0 1 ∷ rotate 1 0 6 ∷ rotate 1 0 1 ∷ rotate 1 0 6 ∷ rotate 1 0 6 ∷ rotate 1 0 2 ∷ [])
    (row 0 0 8 3 ∷ row 0 1 3 0 ∷ row 1 0 4 0 ∷ row 1 1 5 0 ∷ row 2 0 6 0 ∷ row 2 1 7 0 ∷ []))
    ≡ within (shows 6
    (rotated 0 6 ∷ [])
    (kept 0 0 ∷ kept 0 1 ∷ kept 1 0 ∷ kept 1 1 ∷ kept 2 0 ∷ kept 2 1 ∷ [])
    ((0 ∷ 4 ∷ []) ∷ (4 ∷ 0 ∷ []) ∷ [])
    (2 ∷ 0 ∷ 7 ∷ 0 ∷ 0 ∷ 8 ∷ 1 ∷ 1 ∷ 0 ∷ 8 ∷ 1 ∷ 6 ∷ []))
unfolding everything
job_158 = refl

job_167 : outcome 5 (rules 1 3 1 off true Merge true) 4 (program 3
    (I ∷ Y 0 ∷ (1 ∷ 0 ∷ 0 ∷ 0 ∷ 0 ∷ []) ∷ X 0 ∷ Z 0 ∷ X 1 ∷ Z 1 ∷ X 2 ∷ Z 2 ∷ product 7 0 6 0 ∷ product 8 0 5 0 ∷ [])
    (rotate 1 2 7 ∷ rotate 1 0 1 ∷ rotate 1 0 7 ∷ rotate 1 2 1 ∷ rotate 1 0 1 ∷ rotate 1 0 7 ∷ rotate 1 0 7
    ∷ rotate 2 1 1 ∷ rotate 1 2 7 ∷ [])
    (row 0 0 3 0 ∷ row 0 1 4 1 ∷ row 1 0 10 0 ∷ row 1 1 6 0 ∷ row 2 0 9 0 ∷ row 2 1 8 0 ∷ []))
    ≡ within (non_hermitian_at 4)
unfolding everything
job_167 = refl

job_168 : outcome 6 (rules 0 0 3 at_once true Merge false) 4 (program 1
    (I ∷ Z 0 ∷ (1 ∷ 0 ∷ 0 ∷ 0 ∷ 0 ∷ []) ∷ X 0 ∷ Z 0 ∷ [])
    (rotate 2 1 1 ∷ (1 ∷ 2 ∷ 2 ∷ 4 ∷ 65535 ∷ 16604 ∷ []) ∷ rotate 1 0 4 ∷ rotate 2 0 2 ∷ (1 ∷ 2 ∷ 0 ∷ 4
    ∷ 65535 ∷ 15325 ∷ []) ∷ rotate 2 0 4 ∷ rotate 1 0 6 ∷ rotate 2 0 6 ∷ rotate 1 0 6 ∷ [])
    (row 0 0 3 0 ∷ row 0 1 4 0 ∷ []))
    ≡ within (non_hermitian_at 4)
unfolding everything
job_168 = refl

job_170 : outcome 13 (rules 1048576 5 2 at_once true Merge true) 2 (program 1
    (I ∷ X 0 ∷ Z 0 ∷ Y 0 ∷ Y 0 ∷ [])
    (measure 3 0 0 0 ∷ rotate 3 0 5 ∷ rotate 3 0 0 ∷ rotate 4 0 2 ∷ rotate 4 2 6 ∷ rotate 4 2 2
    ∷ measure 3 0 3 65535 ∷ rotate 4 0 2 ∷ rotate 4 0 3 ∷ [])
    (row 0 0 1 0 ∷ row 0 1 2 0 ∷ []))
    ≡ within (shows 12
    (measured+ 2 0 0 ∷ rotated 2 5 ∷ measured+ 2 3 65535 ∷ rotated 2 3 ∷ [])
    (given- 0 0 0 ∷ given- 0 1 1 ∷ [])
    ((1 ∷ 0 ∷ []) ∷ (0 ∷ 1 ∷ []) ∷ (1 ∷ 1 ∷ []) ∷ [])
    (2 ∷ 2 ∷ 0 ∷ 0 ∷ 4 ∷ 7 ∷ 2 ∷ 2 ∷ 2 ∷ 7 ∷ 2 ∷ 12 ∷ []))
unfolding everything
job_170 = refl

job_172 : outcome 17 (rules 3 2 16 lazy true Merge true) 8 (program 3
    (I ∷ Z 1 ∷ product 1 2 1 1 ∷ Y 2 ∷ Y 1 ∷ product 3 0 4 0 ∷ Z 0 ∷ product 5 0 6 0 ∷ X 1 ∷ Y 2
    ∷ product 8 0 9 0 ∷ Y 1 ∷ Z 2 ∷ product 11 0 12 0 ∷ Z 1 ∷ X 2 ∷ X 0 ∷ Z 0 ∷ X 1 ∷ Z 1 ∷ X 2 ∷ Z 2 ∷ [])
    (rotate 10 0 0 ∷ rotate 13 0 0 ∷ rotate 14 0 4 ∷ rotate 15 2 4 ∷ rotate 10 0 0 ∷ [])
    (row 0 0 16 0 ∷ row 0 1 17 0 ∷ row 1 0 18 0 ∷ row 1 1 19 0 ∷ row 2 0 20 0 ∷ row 2 1 21 0 ∷ []))
    ≡ limit_exceeded
unfolding everything
job_172 = refl

job_174 : outcome 11 (rules 1048576 5 8 at_once false Merge false) 2 (program 1
    (I ∷ X 0 ∷ Z 0 ∷ X 0 ∷ X 0 ∷ X 0 ∷ [])
    ((1 ∷ 5 ∷ 0 ∷ 2 ∷ 65535 ∷ 17106 ∷ []) ∷ measure 5 0 0 65535 ∷ rotate 3 0 1 ∷ rotate 3 0 4
    ∷ rotate 3 0 4 ∷ rotate 3 0 7 ∷ conditional 3 0 5 0 ∷ rotate 3 0 1 ∷ [])
    (row 0 0 1 0 ∷ row 0 1 2 0 ∷ []))
    ≡ limit_exceeded
unfolding everything
job_174 = refl

job_175 : outcome 49 (rules 1 0 16 lazy false Litinski false) 8 (program 3
    (I ∷ X 0 ∷ Z 0 ∷ X 1 ∷ Z 1 ∷ X 2 ∷ Z 2 ∷ product 3 0 4 0 ∷ product 5 0 7 3 ∷ product 6 2 4 0 ∷ X 1
    ∷ X 0 ∷ product 10 0 11 0 ∷ Y 2 ∷ product 12 0 13 0 ∷ Y 0 ∷ Y 1 ∷ product 15 1 16 0 ∷ Z 2
    ∷ product 17 0 18 0 ∷ Z 2 ∷ X 1 ∷ X 2 ∷ product 21 0 22 0 ∷ product 20 2 19 2 ∷ [])
    ((1 ∷ 20 ∷ 0 ∷ 6 ∷ 65535 ∷ 39284 ∷ []) ∷ (1 ∷ 23 ∷ 2 ∷ 2 ∷ 46230 ∷ 65535 ∷ []) ∷ rotate 20 0 2
    ∷ rotate 19 3 6 ∷ rotate 20 2 1 ∷ rotate 24 3 4 ∷ rotate 20 2 7 ∷ rotate 19 3 2 ∷ [])
    (row 0 0 1 0 ∷ row 0 1 2 0 ∷ row 1 0 7 1 ∷ row 1 1 9 0 ∷ row 2 0 8 0 ∷ row 2 1 6 2 ∷ []))
    ≡ within (shows 42
    []
    (given- 0 0 0 ∷ given- 0 1 1 ∷ given+ 1 0 11 ∷ given+ 1 1 5 ∷ given- 2 0 4 ∷ given- 2 1 7 ∷ [])
    ((1 ∷ 0 ∷ []) ∷ (0 ∷ 1 ∷ []) ∷ (0 ∷ 4 ∷ []) ∷ (2 ∷ 2 ∷ []) ∷ (6 ∷ 2 ∷ []) ∷ (0 ∷ 6 ∷ []) ∷ (3 ∷ 7 ∷ [])
    ∷ (6 ∷ 0 ∷ []) ∷ (3 ∷ 3 ∷ []) ∷ (6 ∷ 4 ∷ []) ∷ (5 ∷ 7 ∷ []) ∷ (4 ∷ 6 ∷ []) ∷ [])
    (2 ∷ 0 ∷ 1 ∷ 0 ∷ 6 ∷ 8 ∷ 0 ∷ 0 ∷ 0 ∷ 14 ∷ 0 ∷ 42 ∷ []))
unfolding everything
job_175 = refl

job_176 : outcome 52 (rules 1048576 0 16 lazy true Litinski true) 8 (program 2
    (I ∷ X 1 ∷ Z 1 ∷ Z 1 ∷ X 0 ∷ Z 0 ∷ X 1 ∷ Z 1 ∷ [])
    (rotate 3 0 6 ∷ rotate 2 0 3 ∷ [])
    (row 0 0 4 0 ∷ row 0 1 5 0 ∷ row 1 0 6 0 ∷ row 1 1 7 0 ∷ []))
    ≡ within (shows 12
    (rotated 0 3 ∷ [])
    (kept 0 0 ∷ kept 0 1 ∷ given+ 1 0 2 ∷ given+ 1 1 0 ∷ [])
    ((0 ∷ 2 ∷ []) ∷ (2 ∷ 0 ∷ []) ∷ (2 ∷ 2 ∷ []) ∷ [])
    (1 ∷ 1 ∷ 0 ∷ 0 ∷ 1 ∷ 2 ∷ 1 ∷ 1 ∷ 1 ∷ 2 ∷ 1 ∷ 12 ∷ []))
unfolding everything
job_176 = refl
