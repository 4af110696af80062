-- Written by compared.py: jobs of the oracle's fixed list, with what the Rust makes of each. Assumes nothing.
use Rattle.std.specs.Prelude.{◌≡◌, refl, true, false, [], ◌∷◌}
use Rattle.model.specs.declared.Strategy.TheVariants.{Merge, Litinski}
use Rattle.model.specs.declared.Absorption.TheVariants.{Off as off, AtOnce as at_once, Lazy as lazy}
use Rattle.model.specs.Everything.{everything}
use Rattle.runs.specs.Shown.{I, X, Y, Z, product, rotate, measure, row, program, rules, rotated, measured+, measured-}
use Rattle.runs.specs.Shown.{kept, given+, given-, non_hermitian_at, shows}
use Rattle.runs.specs.Outcome.{limit_exceeded, within, outcome}

job_50 : outcome 6 (rules 1 4 5 at_once true Merge true) 2 (program 3
    (I ∷ Y 1 ∷ (1 ∷ 1 ∷ 0 ∷ 0 ∷ 0 ∷ []) ∷ Z 2 ∷ Y 2 ∷ Z 0 ∷ X 1 ∷ Y 2 ∷ product 7 0 7 2 ∷ Z 1 ∷ Y 0
    ∷ product 9 0 10 0 ∷ X 1 ∷ Z 0 ∷ product 12 0 13 0 ∷ Y 1 ∷ X 0 ∷ [])
    (rotate 11 0 7 ∷ rotate 14 2 7 ∷ rotate 15 0 1 ∷ rotate 16 0 1 ∷ rotate 11 0 7 ∷ [])
    (row 0 0 1 2 ∷ row 0 1 2 2 ∷ row 1 0 3 0 ∷ row 1 1 4 0 ∷ row 2 0 0 0 ∷ row 2 1 5 2 ∷ []))
    ≡ limit_exceeded
unfolding everything
job_50 = refl

job_51 : outcome 28 (rules 3 4 16 at_once true Merge true) 6 (program 2
    (I ∷ X 0 ∷ Z 0 ∷ X 1 ∷ Z 1 ∷ X 0 ∷ Z 0 ∷ product 5 3 6 0 ∷ product 7 2 7 1 ∷ Y 1 ∷ Y 0 ∷ (1 ∷ 0 ∷ 0 ∷ 0
    ∷ 0 ∷ []) ∷ Y 0 ∷ product 11 0 12 0 ∷ [])
    ((1 ∷ 7 ∷ 2 ∷ 5 ∷ 45468 ∷ 65535 ∷ []) ∷ rotate 13 0 5 ∷ rotate 9 2 2 ∷ rotate 8 1 1 ∷ [])
    (row 0 0 1 0 ∷ row 0 1 2 0 ∷ row 1 0 4 0 ∷ row 1 1 3 2 ∷ []))
    ≡ within (shows 26
    []
    (given+ 0 0 1 ∷ given- 0 1 0 ∷ given+ 1 0 2 ∷ given+ 1 1 3 ∷ [])
    ((1 ∷ 0 ∷ []) ∷ (0 ∷ 1 ∷ []) ∷ (2 ∷ 0 ∷ []) ∷ (0 ∷ 2 ∷ []) ∷ (1 ∷ 1 ∷ []) ∷ (0 ∷ 0 ∷ []) ∷ (2 ∷ 2 ∷ [])
    ∷ [])
    (3 ∷ 0 ∷ 1 ∷ 0 ∷ 2 ∷ 4 ∷ 0 ∷ 1 ∷ 0 ∷ 3 ∷ 0 ∷ 26 ∷ []))
unfolding everything
job_51 = refl

job_52 : outcome 58 (rules 2 0 16 at_once false Litinski true) 1 (program 2
    (I ∷ X 1 ∷ Y 0 ∷ Z 1 ∷ product 2 0 3 0 ∷ Z 0 ∷ X 1 ∷ product 5 0 6 0 ∷ X 0 ∷ Y 1 ∷ X 0 ∷ Z 0 ∷ X 1 ∷ Z 1 ∷ [])
    (rotate 1 0 1 ∷ (1 ∷ 1 ∷ 0 ∷ 7 ∷ 22673 ∷ 65535 ∷ []) ∷ rotate 1 0 1 ∷ rotate 1 0 7 ∷ rotate 4 0 7
    ∷ rotate 7 0 7 ∷ rotate 8 0 7 ∷ rotate 9 0 7 ∷ rotate 4 0 7 ∷ [])
    (row 0 0 10 0 ∷ row 0 1 11 2 ∷ row 1 0 13 2 ∷ row 1 1 12 2 ∷ []))
    ≡ within (shows 18
    (rotated 2 7 ∷ rotated 1 7 ∷ rotated 3 7 ∷ rotated 4 7 ∷ rotated 1 7 ∷ [])
    (kept 0 0 ∷ kept 0 1 ∷ kept 1 0 ∷ kept 1 1 ∷ [])
    ((2 ∷ 0 ∷ []) ∷ (1 ∷ 3 ∷ []) ∷ (2 ∷ 1 ∷ []) ∷ (1 ∷ 0 ∷ []) ∷ (2 ∷ 2 ∷ []) ∷ (0 ∷ 1 ∷ []) ∷ (0 ∷ 2 ∷ [])
    ∷ [])
    (9 ∷ 5 ∷ 3 ∷ 0 ∷ 0 ∷ 9 ∷ 5 ∷ 4 ∷ 3 ∷ 12 ∷ 8 ∷ 18 ∷ []))
unfolding everything
job_52 = refl

job_55 : outcome 30 (rules 1048576 3 3 at_once false Merge true) 4 (program 3
    (I ∷ Y 2 ∷ X 1 ∷ X 2 ∷ product 2 0 3 0 ∷ Y 1 ∷ Y 2 ∷ product 5 0 6 0 ∷ Z 1 ∷ Z 2 ∷ X 0 ∷ Z 0 ∷ X 1
    ∷ Z 1 ∷ X 2 ∷ Z 2 ∷ [])
    (rotate 1 0 0 ∷ (1 ∷ 1 ∷ 2 ∷ 1 ∷ 11940 ∷ 65535 ∷ []) ∷ rotate 4 0 6 ∷ rotate 7 0 6 ∷ rotate 8 0 5
    ∷ rotate 9 0 5 ∷ rotate 7 0 6 ∷ [])
    (row 0 0 10 0 ∷ row 0 1 11 0 ∷ row 1 0 12 0 ∷ row 1 1 13 0 ∷ row 2 0 14 0 ∷ row 2 1 15 0 ∷ []))
    ≡ within (shows 30
    (rotated 0 7 ∷ rotated 4 5 ∷ rotated 3 5 ∷ [])
    (kept 0 0 ∷ kept 0 1 ∷ given- 1 0 5 ∷ given+ 1 1 7 ∷ given- 2 0 6 ∷ given+ 2 1 8 ∷ [])
    ((4 ∷ 4 ∷ []) ∷ (6 ∷ 0 ∷ []) ∷ (6 ∷ 6 ∷ []) ∷ (0 ∷ 2 ∷ []) ∷ (0 ∷ 4 ∷ []) ∷ (2 ∷ 0 ∷ []) ∷ (4 ∷ 0 ∷ [])
    ∷ (6 ∷ 2 ∷ []) ∷ (6 ∷ 4 ∷ []) ∷ [])
    (3 ∷ 3 ∷ 0 ∷ 0 ∷ 3 ∷ 7 ∷ 3 ∷ 2 ∷ 2 ∷ 10 ∷ 3 ∷ 30 ∷ []))
unfolding everything
job_55 = refl

job_56 : outcome 4 (rules 2 5 3 at_once true Merge false) 1 (program 1
    ((0 ∷ 75440 ∷ 10745 ∷ 57252 ∷ 45905 ∷ []) ∷ (1 ∷ 0 ∷ 2 ∷ 87302 ∷ 64849 ∷ []) ∷ (1 ∷ 0 ∷ 3 ∷ 56044
    ∷ 46966 ∷ []) ∷ (1 ∷ 0 ∷ 2 ∷ 80293 ∷ 38340 ∷ []) ∷ product 3 2 1 1 ∷ (1 ∷ 0 ∷ 1 ∷ 91801 ∷ 68393 ∷ [])
    ∷ (1 ∷ 0 ∷ 3 ∷ 34186 ∷ 82594 ∷ []) ∷ [])
    (rotate 4 3 1 ∷ [])
    (row 0 0 5 0 ∷ row 0 1 6 0 ∷ []))
    ≡ limit_exceeded
unfolding everything
job_56 = refl

job_57 : outcome 8 (rules 1048576 0 16 at_once true Merge true) 2 (program 1
    (I ∷ X 0 ∷ Z 0 ∷ Y 0 ∷ Y 0 ∷ Y 0 ∷ Y 0 ∷ Y 0 ∷ X 0 ∷ [])
    (rotate 3 0 7 ∷ (1 ∷ 4 ∷ 0 ∷ 1 ∷ 65535 ∷ 38431 ∷ []) ∷ rotate 4 0 7 ∷ rotate 3 0 1 ∷ [])
    (row 0 0 1 0 ∷ row 0 1 2 0 ∷ []))
    ≡ within (shows 8
    []
    (kept 0 0 ∷ kept 0 1 ∷ [])
    ((1 ∷ 0 ∷ []) ∷ (0 ∷ 1 ∷ []) ∷ (1 ∷ 1 ∷ []) ∷ [])
    (4 ∷ 0 ∷ 2 ∷ 0 ∷ 0 ∷ 4 ∷ 0 ∷ 1 ∷ 0 ∷ 4 ∷ 0 ∷ 8 ∷ []))
unfolding everything
job_57 = refl

job_60 : outcome 17 (rules 1 1 1 off true Merge true) 4 (program 1
    (I ∷ X 0 ∷ Z 0 ∷ Y 0 ∷ product 3 1 3 1 ∷ [])
    (rotate 4 2 7 ∷ rotate 4 2 1 ∷ (1 ∷ 4 ∷ 2 ∷ 6 ∷ 28017 ∷ 65535 ∷ []) ∷ rotate 3 0 5 ∷ rotate 3 0 3
    ∷ rotate 4 0 7 ∷ rotate 3 0 6 ∷ rotate 4 2 1 ∷ rotate 4 0 3 ∷ [])
    (row 0 0 1 0 ∷ row 0 1 2 0 ∷ []))
    ≡ within (shows 10
    (rotated 2 6 ∷ [])
    (kept 0 0 ∷ kept 0 1 ∷ [])
    ((1 ∷ 0 ∷ []) ∷ (0 ∷ 1 ∷ []) ∷ (1 ∷ 1 ∷ []) ∷ (0 ∷ 0 ∷ []) ∷ [])
    (7 ∷ 0 ∷ 1 ∷ 0 ∷ 0 ∷ 9 ∷ 1 ∷ 1 ∷ 0 ∷ 3 ∷ 1 ∷ 10 ∷ []))
unfolding everything
job_60 = refl

job_61 : outcome 9 (rules 1048576 0 1 off false Merge true) 1 (program 3
    (I ∷ X 0 ∷ Z 0 ∷ X 1 ∷ Z 1 ∷ X 2 ∷ Z 2 ∷ Y 1 ∷ [])
    ((1 ∷ 7 ∷ 0 ∷ 0 ∷ 44118 ∷ 65535 ∷ []) ∷ rotate 7 0 1 ∷ rotate 7 0 5 ∷ rotate 7 0 7 ∷ rotate 7 0 1
    ∷ rotate 7 0 3 ∷ rotate 7 0 0 ∷ [])
    (row 0 0 2 0 ∷ row 0 1 1 0 ∷ row 1 0 3 0 ∷ row 1 1 4 0 ∷ row 2 0 5 0 ∷ row 2 1 6 0 ∷ []))
    ≡ within (shows 8
    (rotated 2 1 ∷ [])
    (kept 0 0 ∷ kept 0 1 ∷ kept 1 0 ∷ kept 1 1 ∷ kept 2 0 ∷ kept 2 1 ∷ [])
    ((2 ∷ 0 ∷ []) ∷ (0 ∷ 2 ∷ []) ∷ (2 ∷ 2 ∷ []) ∷ [])
    (5 ∷ 1 ∷ 4 ∷ 0 ∷ 0 ∷ 7 ∷ 1 ∷ 1 ∷ 1 ∷ 7 ∷ 1 ∷ 8 ∷ []))
unfolding everything
job_61 = refl

job_62 : outcome 15 (rules 1 3 3 off false Merge true) 3 (program 1
    (I ∷ X 0 ∷ Z 0 ∷ Y 0 ∷ [])
    (rotate 3 2 0 ∷ rotate 3 0 6 ∷ rotate 3 0 3 ∷ rotate 3 2 2 ∷ [])
    (row 0 0 1 0 ∷ row 0 1 2 0 ∷ []))
    ≡ within (shows 8
    (rotated 2 7 ∷ [])
    (kept 0 0 ∷ kept 0 1 ∷ [])
    ((1 ∷ 0 ∷ []) ∷ (0 ∷ 1 ∷ []) ∷ (1 ∷ 1 ∷ []) ∷ [])
    (1 ∷ 1 ∷ 2 ∷ 0 ∷ 0 ∷ 4 ∷ 1 ∷ 1 ∷ 1 ∷ 4 ∷ 1 ∷ 8 ∷ []))
unfolding everything
job_62 = refl

job_63 : outcome 10 (rules 2 0 5 at_once false Merge true) 2 (program 2
    (I ∷ Y 1 ∷ X 1 ∷ X 0 ∷ Z 0 ∷ X 1 ∷ Z 1 ∷ [])
    (rotate 0 0 2 ∷ rotate 0 0 6 ∷ (1 ∷ 0 ∷ 0 ∷ 1 ∷ 21701 ∷ 65535 ∷ []) ∷ rotate 1 0 6 ∷ (1 ∷ 0 ∷ 0 ∷ 6
    ∷ 65535 ∷ 21196 ∷ []) ∷ rotate 2 0 1 ∷ rotate 2 0 2 ∷ [])
    (row 0 0 3 0 ∷ row 0 1 4 0 ∷ row 1 0 5 0 ∷ row 1 1 6 0 ∷ []))
    ≡ limit_exceeded
unfolding everything
job_63 = refl

job_64 : outcome 25 (rules 0 0 16 at_once false Litinski false) 6 (program 2
    (I ∷ X 0 ∷ (1 ∷ 0 ∷ 0 ∷ 0 ∷ 0 ∷ []) ∷ product 1 0 2 0 ∷ Y 1 ∷ Z 1 ∷ product 4 0 5 0 ∷ Z 1 ∷ X 0 ∷ Z 0
    ∷ X 1 ∷ Z 1 ∷ [])
    (rotate 6 3 6 ∷ (1 ∷ 3 ∷ 0 ∷ 2 ∷ 15156 ∷ 65535 ∷ []) ∷ (1 ∷ 6 ∷ 1 ∷ 3 ∷ 65535 ∷ 29884 ∷ []) ∷ (1 ∷ 6
    ∷ 3 ∷ 4 ∷ 65535 ∷ 21956 ∷ []) ∷ rotate 6 3 1 ∷ rotate 7 2 6 ∷ (1 ∷ 6 ∷ 3 ∷ 1 ∷ 65535 ∷ 5565 ∷ []) ∷ (1
    ∷ 3 ∷ 0 ∷ 0 ∷ 65535 ∷ 63658 ∷ []) ∷ rotate 7 0 5 ∷ [])
    (row 0 0 8 0 ∷ row 0 1 9 0 ∷ row 1 0 10 0 ∷ row 1 1 11 0 ∷ []))
    ≡ within (shows 24
    (rotated 4 7 ∷ rotated 2 5 ∷ [])
    (given+ 0 0 0 ∷ given+ 0 1 5 ∷ given- 1 0 4 ∷ given+ 1 1 2 ∷ [])
    ((1 ∷ 0 ∷ []) ∷ (2 ∷ 0 ∷ []) ∷ (0 ∷ 2 ∷ []) ∷ (0 ∷ 1 ∷ []) ∷ (2 ∷ 2 ∷ []) ∷ (1 ∷ 1 ∷ []) ∷ [])
    (4 ∷ 2 ∷ 1 ∷ 0 ∷ 5 ∷ 9 ∷ 2 ∷ 0 ∷ 0 ∷ 9 ∷ 2 ∷ 24 ∷ []))
unfolding everything
job_64 = refl

job_65 : outcome 27 (rules 1048576 1 3 at_once true Merge true) 2 (program 2
    ((0 ∷ 12929 ∷ 14700 ∷ 66478 ∷ 71162 ∷ []) ∷ (1 ∷ 0 ∷ 1 ∷ 87797 ∷ 93243 ∷ []) ∷ (1 ∷ 0 ∷ 3 ∷ 84517
    ∷ 83659 ∷ []) ∷ (1 ∷ 1 ∷ 1 ∷ 18100 ∷ 67665 ∷ []) ∷ (1 ∷ 1 ∷ 3 ∷ 18903 ∷ 45653 ∷ []) ∷ product 3 0 1 0
    ∷ product 4 0 2 2 ∷ product 1 0 5 0 ∷ product 6 0 4 0 ∷ (1 ∷ 1 ∷ 3 ∷ 58172 ∷ 49428 ∷ []) ∷ (1 ∷ 1 ∷ 2
    ∷ 25325 ∷ 31928 ∷ []) ∷ product 10 1 0 0 ∷ (1 ∷ 1 ∷ 3 ∷ 8926 ∷ 3022 ∷ []) ∷ (1 ∷ 1 ∷ 0 ∷ 23520 ∷ 24315
    ∷ []) ∷ (1 ∷ 1 ∷ 3 ∷ 16417 ∷ 77081 ∷ []) ∷ product 12 0 14 3 ∷ product 15 3 14 0 ∷ [])
    ((1 ∷ 12 ∷ 0 ∷ 1 ∷ 12896 ∷ 65535 ∷ []) ∷ rotate 9 0 1 ∷ (1 ∷ 16 ∷ 2 ∷ 5 ∷ 36410 ∷ 65535 ∷ []) ∷ [])
    (row 0 0 7 0 ∷ row 0 1 6 0 ∷ row 1 0 5 0 ∷ row 1 1 8 0 ∷ []))
    ≡ within (shows 20
    (rotated 4 5 ∷ [])
    (given- 0 0 5 ∷ given- 0 1 1 ∷ given- 1 0 6 ∷ given- 1 1 3 ∷ [])
    ((3 ∷ 0 ∷ []) ∷ (0 ∷ 3 ∷ []) ∷ (2 ∷ 0 ∷ []) ∷ (0 ∷ 1 ∷ []) ∷ (0 ∷ 2 ∷ []) ∷ (2 ∷ 2 ∷ []) ∷ (3 ∷ 2 ∷ [])
    ∷ [])
    (3 ∷ 1 ∷ 1 ∷ 0 ∷ 1 ∷ 3 ∷ 1 ∷ 1 ∷ 1 ∷ 3 ∷ 1 ∷ 20 ∷ []))
unfolding everything
job_65 = refl

job_69 : outcome 54 (rules 2 0 1 off false Merge true) 6 (program 2
    (I ∷ X 0 ∷ Z 0 ∷ X 1 ∷ Z 1 ∷ X 0 ∷ Z 1 ∷ product 5 0 6 0 ∷ [])
    (rotate 7 0 1 ∷ rotate 7 0 7 ∷ rotate 7 1 1 ∷ [])
    (row 0 0 1 0 ∷ row 0 1 2 0 ∷ row 1 0 3 0 ∷ row 1 1 4 0 ∷ []))
    ≡ within (non_hermitian_at 14)
unfolding everything
job_69 = refl

job_73 : outcome 10 (rules 0 2 3 off true Merge false) 4 (program 2
    (I ∷ X 0 ∷ Z 0 ∷ product 2 0 2 0 ∷ product 3 1 2 0 ∷ Z 0 ∷ (1 ∷ 0 ∷ 0 ∷ 0 ∷ 0 ∷ []) ∷ Z 1 ∷ [])
    (rotate 4 3 1 ∷ rotate 1 0 2 ∷ rotate 2 2 4 ∷ rotate 4 1 4 ∷ measure 2 0 1 0 ∷ rotate 4 1 4 ∷ rotate 2 2 4 ∷ rotate 1 0 6 ∷ [])
    (row 0 0 5 0 ∷ row 0 1 6 0 ∷ row 1 0 2 2 ∷ row 1 1 7 2 ∷ []))
    ≡ within (shows 10
    (rotated 1 1 ∷ rotated 0 2 ∷ measured+ 1 1 0 ∷ rotated 0 6 ∷ [])
    (kept 0 0 ∷ kept 0 1 ∷ kept 1 0 ∷ kept 1 1 ∷ [])
    ((1 ∷ 0 ∷ []) ∷ (0 ∷ 1 ∷ []) ∷ (0 ∷ 0 ∷ []) ∷ [])
    (1 ∷ 1 ∷ 2 ∷ 0 ∷ 0 ∷ 7 ∷ 3 ∷ 0 ∷ 0 ∷ 7 ∷ 3 ∷ 10 ∷ []))
unfolding everything
job_73 = refl

job_76 : outcome 6 (rules 1048576 0 16 at_once false Merge false) 2 (program 2
    (I ∷ X 1 ∷ X 1 ∷ X 0 ∷ Z 0 ∷ X 1 ∷ Z 1 ∷ [])
    (rotate 1 0 7 ∷ rotate 2 2 7 ∷ rotate 2 0 1 ∷ rotate 2 0 7 ∷ rotate 2 2 1 ∷ rotate 1 0 1 ∷ [])
    (row 0 0 3 2 ∷ row 0 1 4 0 ∷ row 1 0 5 0 ∷ row 1 1 6 0 ∷ []))
    ≡ within (shows 6
    []
    (kept 0 0 ∷ kept 0 1 ∷ kept 1 0 ∷ kept 1 1 ∷ [])
    ((2 ∷ 0 ∷ []) ∷ (0 ∷ 2 ∷ []) ∷ [])
    (6 ∷ 0 ∷ 3 ∷ 0 ∷ 0 ∷ 6 ∷ 0 ∷ 0 ∷ 0 ∷ 6 ∷ 0 ∷ 6 ∷ []))
unfolding everything
job_76 = refl

job_78 : outcome 19 (rules 1 1 2 at_once true Merge true) 8 (program 3
    ((0 ∷ 49396 ∷ 17730 ∷ 37807 ∷ 13465 ∷ []) ∷ (1 ∷ 2 ∷ 3 ∷ 95007 ∷ 33506 ∷ []) ∷ (1 ∷ 2 ∷ 2 ∷ 16507
    ∷ 40533 ∷ []) ∷ product 2 0 1 3 ∷ product 3 3 1 0 ∷ (1 ∷ 2 ∷ 2 ∷ 15302 ∷ 27955 ∷ []) ∷ (1 ∷ 0 ∷ 1
    ∷ 21324 ∷ 87880 ∷ []) ∷ (1 ∷ 0 ∷ 3 ∷ 22650 ∷ 3423 ∷ []) ∷ (1 ∷ 1 ∷ 1 ∷ 54288 ∷ 57333 ∷ []) ∷ (1 ∷ 1 ∷ 3
    ∷ 40520 ∷ 10081 ∷ []) ∷ (1 ∷ 2 ∷ 1 ∷ 40762 ∷ 58473 ∷ []) ∷ (1 ∷ 2 ∷ 3 ∷ 25738 ∷ 31616 ∷ [])
    ∷ product 6 0 9 0 ∷ product 7 0 8 0 ∷ product 10 0 9 0 ∷ product 11 0 13 0 ∷ product 15 2 9 0 ∷ [])
    (rotate 1 0 1 ∷ (1 ∷ 5 ∷ 2 ∷ 1 ∷ 65535 ∷ 4419 ∷ []) ∷ rotate 2 0 7 ∷ rotate 4 2 1 ∷ rotate 1 2 1 ∷ [])
    (row 0 0 12 0 ∷ row 0 1 7 0 ∷ row 1 0 16 1 ∷ row 1 1 9 0 ∷ row 2 0 11 0 ∷ row 2 1 14 2 ∷ []))
    ≡ limit_exceeded
unfolding everything
job_78 = refl

job_80 : outcome 9 (rules 1 4 16 lazy true Merge true) 1 (program 2
    (I ∷ Z 1 ∷ Y 0 ∷ Z 1 ∷ Z 1 ∷ Z 0 ∷ Y 0 ∷ Z 0 ∷ Z 0 ∷ X 0 ∷ Y 0 ∷ [])
    (rotate 7 0 3 ∷ rotate 5 0 7 ∷ [])
    (row 0 0 1 2 ∷ row 0 1 2 2 ∷ row 1 0 3 0 ∷ row 1 1 4 0 ∷ []))
    ≡ limit_exceeded
unfolding everything
job_80 = refl

job_81 : outcome 12 (rules 1048576 3 8 lazy true Merge false) 3 (program 2
    ((0 ∷ 5029 ∷ 2320 ∷ 49163 ∷ 62477 ∷ []) ∷ (1 ∷ 0 ∷ 1 ∷ 14016 ∷ 94876 ∷ []) ∷ (1 ∷ 0 ∷ 3 ∷ 61336 ∷ 79460
    ∷ []) ∷ (1 ∷ 1 ∷ 1 ∷ 61107 ∷ 93940 ∷ []) ∷ (1 ∷ 1 ∷ 3 ∷ 71497 ∷ 68773 ∷ []) ∷ (1 ∷ 0 ∷ 1 ∷ 28102
    ∷ 23152 ∷ []) ∷ (1 ∷ 0 ∷ 1 ∷ 90488 ∷ 9230 ∷ []) ∷ [])
    (rotate 6 0 7 ∷ rotate 5 0 7 ∷ [])
    (row 0 0 1 0 ∷ row 0 1 2 0 ∷ row 1 0 3 0 ∷ row 1 1 4 0 ∷ []))
    ≡ within (shows 12
    []
    (given+ 0 0 0 ∷ given- 0 1 2 ∷ kept 1 0 ∷ kept 1 1 ∷ [])
    ((1 ∷ 0 ∷ []) ∷ (0 ∷ 1 ∷ []) ∷ (1 ∷ 1 ∷ []) ∷ [])
    (2 ∷ 0 ∷ 1 ∷ 0 ∷ 1 ∷ 2 ∷ 0 ∷ 0 ∷ 0 ∷ 2 ∷ 0 ∷ 12 ∷ []))
unfolding everything
job_81 = refl

job_82 : outcome 46 (rules 1 0 1 at_once false Litinski false) 1 (program 2
    (I ∷ (1 ∷ 0 ∷ 0 ∷ 0 ∷ 0 ∷ []) ∷ X 1 ∷ X 0 ∷ Y 1 ∷ Y 1 ∷ Y 1 ∷ Y 1 ∷ (1 ∷ 1 ∷ 0 ∷ 0 ∷ 0 ∷ []) ∷ Z 1 ∷ [])
    ((1 ∷ 6 ∷ 0 ∷ 3 ∷ 65535 ∷ 29534 ∷ []) ∷ rotate 6 0 5 ∷ rotate 7 0 3 ∷ rotate 5 0 3 ∷ rotate 5 2 1 ∷ [])
    (row 0 0 1 2 ∷ row 0 1 2 0 ∷ row 1 0 3 0 ∷ row 1 1 0 0 ∷ []))
    ≡ within (shows 6
    (rotated 1 5 ∷ [])
    (kept 0 0 ∷ kept 0 1 ∷ kept 1 0 ∷ kept 1 1 ∷ [])
    ((2 ∷ 0 ∷ []) ∷ (2 ∷ 2 ∷ []) ∷ [])
    (5 ∷ 1 ∷ 4 ∷ 0 ∷ 0 ∷ 5 ∷ 1 ∷ 0 ∷ 0 ∷ 5 ∷ 1 ∷ 6 ∷ []))
unfolding everything
job_82 = refl

job_83 : outcome 14 (rules 1048576 0 5 at_once true Litinski false) 1 (program 3
    (I ∷ Y 1 ∷ X 0 ∷ Z 0 ∷ X 1 ∷ Z 1 ∷ X 2 ∷ Z 2 ∷ [])
    (rotate 1 2 2 ∷ rotate 1 0 2 ∷ (1 ∷ 0 ∷ 0 ∷ 2 ∷ 50147 ∷ 65535 ∷ []) ∷ rotate 1 2 2 ∷ [])
    (row 0 0 2 0 ∷ row 0 1 3 0 ∷ row 1 0 4 0 ∷ row 1 1 5 0 ∷ row 2 0 6 0 ∷ row 2 1 7 0 ∷ []))
    ≡ within (shows 14
    []
    (kept 0 0 ∷ kept 0 1 ∷ given- 1 0 3 ∷ given+ 1 1 2 ∷ kept 2 0 ∷ kept 2 1 ∷ [])
    ((0 ∷ 0 ∷ []) ∷ (2 ∷ 2 ∷ []) ∷ (2 ∷ 0 ∷ []) ∷ (0 ∷ 2 ∷ []) ∷ [])
    (0 ∷ 0 ∷ 0 ∷ 0 ∷ 3 ∷ 4 ∷ 0 ∷ 0 ∷ 0 ∷ 3 ∷ 0 ∷ 14 ∷ []))
unfolding everything
job_83 = refl

job_84 : outcome 58 (rules 2 3 3 at_once true Merge true) 2 (program 2
    (I ∷ Y 1 ∷ X 0 ∷ X 1 ∷ product 2 0 3 0 ∷ Y 0 ∷ Y 1 ∷ product 5 0 6 0 ∷ Z 0 ∷ Z 1 ∷ X 0 ∷ Z 0 ∷ X 1 ∷ Z 1 ∷ [])
    (rotate 1 0 5 ∷ rotate 1 0 3 ∷ rotate 4 2 7 ∷ rotate 7 0 7 ∷ rotate 8 0 1 ∷ rotate 9 0 1 ∷ rotate 4 0 7 ∷ [])
    (row 0 0 10 0 ∷ row 0 1 11 0 ∷ row 1 0 12 0 ∷ row 1 1 13 0 ∷ []))
    ≡ within (shows 18
    (rotated 1 1 ∷ rotated 2 7 ∷ rotated 3 1 ∷ rotated 4 1 ∷ rotated 1 7 ∷ [])
    (kept 0 0 ∷ kept 0 1 ∷ kept 1 0 ∷ kept 1 1 ∷ [])
    ((2 ∷ 2 ∷ []) ∷ (3 ∷ 0 ∷ []) ∷ (3 ∷ 3 ∷ []) ∷ (0 ∷ 1 ∷ []) ∷ (0 ∷ 2 ∷ []) ∷ (1 ∷ 0 ∷ []) ∷ (2 ∷ 0 ∷ [])
    ∷ [])
    (7 ∷ 5 ∷ 1 ∷ 0 ∷ 0 ∷ 7 ∷ 5 ∷ 4 ∷ 3 ∷ 10 ∷ 8 ∷ 18 ∷ []))
unfolding everything
job_84 = refl

job_90 : outcome 29 (rules 3 0 3 off false Merge true) 2 (program 3
    (I ∷ X 0 ∷ Z 0 ∷ X 1 ∷ Z 1 ∷ X 2 ∷ Z 2 ∷ X 2 ∷ Y 1 ∷ product 7 0 8 0 ∷ X 0 ∷ X 0 ∷ product 10 0 11 0
    ∷ Y 1 ∷ product 12 2 13 0 ∷ product 14 0 14 2 ∷ [])
    (rotate 9 0 3 ∷ rotate 9 0 7 ∷ rotate 9 2 3 ∷ rotate 15 2 3 ∷ rotate 14 2 3 ∷ measure 14 0 5 65535
    ∷ rotate 14 2 5 ∷ rotate 9 0 7 ∷ rotate 9 0 3 ∷ [])
    (row 0 0 1 0 ∷ row 0 1 2 0 ∷ row 1 0 3 0 ∷ row 1 1 4 0 ∷ row 2 0 5 0 ∷ row 2 1 6 0 ∷ []))
    ≡ within (shows 22
    (rotated 6 7 ∷ rotated 7 3 ∷ measured- 7 5 65535 ∷ rotated 7 5 ∷ rotated 6 2 ∷ [])
    (kept 0 0 ∷ kept 0 1 ∷ kept 1 0 ∷ kept 1 1 ∷ kept 2 0 ∷ kept 2 1 ∷ [])
    ((1 ∷ 0 ∷ []) ∷ (0 ∷ 1 ∷ []) ∷ (2 ∷ 0 ∷ []) ∷ (0 ∷ 2 ∷ []) ∷ (4 ∷ 0 ∷ []) ∷ (0 ∷ 4 ∷ []) ∷ (6 ∷ 2 ∷ [])
    ∷ (2 ∷ 2 ∷ []) ∷ (0 ∷ 0 ∷ []) ∷ [])
    (8 ∷ 3 ∷ 3 ∷ 0 ∷ 0 ∷ 8 ∷ 4 ∷ 2 ∷ 2 ∷ 12 ∷ 6 ∷ 22 ∷ []))
unfolding everything
job_90 = refl

job_92 : outcome 15 (rules 1048576 0 16 off true Merge true) 4 (program 1
    (I ∷ Y 0 ∷ X 0 ∷ Z 0 ∷ [])
    (rotate 1 0 1 ∷ (1 ∷ 1 ∷ 2 ∷ 7 ∷ 65535 ∷ 58378 ∷ []) ∷ rotate 1 0 7 ∷ rotate 1 0 1 ∷ rotate 1 0 1
    ∷ rotate 1 0 7 ∷ (1 ∷ 1 ∷ 0 ∷ 1 ∷ 45083 ∷ 65535 ∷ []) ∷ (1 ∷ 1 ∷ 0 ∷ 7 ∷ 17187 ∷ 65535 ∷ [])
    ∷ rotate 1 0 1 ∷ [])
    (row 0 0 2 0 ∷ row 0 1 3 0 ∷ []))
    ≡ within (shows 8
    (rotated 0 3 ∷ [])
    (kept 0 0 ∷ kept 0 1 ∷ [])
    ((1 ∷ 1 ∷ []) ∷ (1 ∷ 0 ∷ []) ∷ (0 ∷ 1 ∷ []) ∷ [])
    (9 ∷ 1 ∷ 8 ∷ 0 ∷ 0 ∷ 9 ∷ 1 ∷ 1 ∷ 1 ∷ 9 ∷ 1 ∷ 8 ∷ []))
unfolding everything
job_92 = refl

job_94 : outcome 16 (rules 0 0 5 at_once true Merge true) 1 (program 2
    (I ∷ X 0 ∷ X 0 ∷ Z 1 ∷ X 0 ∷ product 3 0 4 0 ∷ X 0 ∷ Z 0 ∷ product 6 0 7 0 ∷ X 0 ∷ Z 0 ∷ X 1 ∷ Z 1 ∷ [])
    (rotate 1 0 2 ∷ rotate 5 2 7 ∷ [])
    (row 0 0 9 0 ∷ row 0 1 10 0 ∷ row 1 0 11 0 ∷ row 1 1 12 0 ∷ []))
    ≡ limit_exceeded
unfolding everything
job_94 = refl

job_95 : outcome 12 (rules 1 1 16 at_once true Litinski true) 4 (program 1
    (I ∷ Y 0 ∷ Y 0 ∷ X 0 ∷ Y 0 ∷ Z 0 ∷ Y 0 ∷ X 0 ∷ [])
    (rotate 4 0 7 ∷ rotate 2 2 1 ∷ rotate 5 0 1 ∷ [])
    (row 0 0 6 2 ∷ row 0 1 7 0 ∷ []))
    ≡ within (shows 12
    (rotated 2 1 ∷ [])
    (given- 0 0 0 ∷ given- 0 1 1 ∷ [])
    ((1 ∷ 1 ∷ []) ∷ (0 ∷ 1 ∷ []) ∷ (1 ∷ 0 ∷ []) ∷ [])
    (3 ∷ 1 ∷ 1 ∷ 0 ∷ 1 ∷ 3 ∷ 1 ∷ 2 ∷ 1 ∷ 3 ∷ 1 ∷ 12 ∷ []))
unfolding everything
job_95 = refl

job_96 : outcome 18 (rules 3 5 8 off false Litinski false) 6 (program 2
    (I ∷ Y 0 ∷ (1 ∷ 0 ∷ 0 ∷ 0 ∷ 0 ∷ []) ∷ X 0 ∷ Z 0 ∷ X 1 ∷ Z 1 ∷ product 6 2 5 0 ∷ product 7 3 4 0
    ∷ product 5 0 3 0 ∷ [])
    (measure 2 0 5 0 ∷ (1 ∷ 1 ∷ 0 ∷ 2 ∷ 65535 ∷ 12900 ∷ []) ∷ rotate 1 0 2 ∷ rotate 2 0 6 ∷ rotate 2 0 2
    ∷ rotate 1 0 6 ∷ rotate 2 0 2 ∷ [])
    (row 0 0 4 0 ∷ row 0 1 9 0 ∷ row 1 0 8 0 ∷ row 1 1 5 0 ∷ []))
    ≡ within (shows 18
    (measured+ 1 5 0 ∷ rotated 0 2 ∷ [])
    (kept 0 0 ∷ kept 0 1 ∷ kept 1 0 ∷ kept 1 1 ∷ [])
    ((1 ∷ 1 ∷ []) ∷ (0 ∷ 0 ∷ []) ∷ (0 ∷ 1 ∷ []) ∷ (2 ∷ 3 ∷ []) ∷ (3 ∷ 0 ∷ []) ∷ [])
    (0 ∷ 0 ∷ 2 ∷ 0 ∷ 0 ∷ 6 ∷ 1 ∷ 0 ∷ 0 ∷ 3 ∷ 1 ∷ 18 ∷ []))
unfolding everything
job_96 = refl

job_97 : outcome 43 (rules 0 5 8 at_once false Merge false) 4 (program 3
    (I ∷ X 0 ∷ Z 0 ∷ X 1 ∷ Z 1 ∷ X 2 ∷ Z 2 ∷ product 1 0 3 0 ∷ product 2 0 4 0 ∷ product 3 0 2 0
    ∷ product 8 2 7 0 ∷ product 10 0 6 0 ∷ product 2 2 5 0 ∷ product 11 0 9 0 ∷ product 2 2 8 2 ∷ Y 2
    ∷ product 15 0 15 1 ∷ product 15 1 15 1 ∷ product 16 2 16 1 ∷ Z 1 ∷ Z 2 ∷ product 19 0 20 0 ∷ X 1 ∷ X 2
    ∷ product 22 0 23 0 ∷ Y 1 ∷ Y 2 ∷ [])
    (rotate 17 0 1 ∷ measure 16 1 1 65534 ∷ rotate 21 0 5 ∷ rotate 24 0 5 ∷ rotate 25 0 7 ∷ rotate 26 0 7 ∷ rotate 24 0 5 ∷ [])
    (row 0 0 13 0 ∷ row 0 1 2 2 ∷ row 1 0 9 2 ∷ row 1 1 14 0 ∷ row 2 0 6 0 ∷ row 2 1 12 0 ∷ []))
    ≡ within (shows 36
    (measured- 5 1 65534 ∷ rotated 8 7 ∷ rotated 9 7 ∷ rotated 6 5 ∷ [])
    (given+ 0 0 3 ∷ kept 0 1 ∷ given- 1 0 1 ∷ given+ 1 1 10 ∷ given+ 2 0 11 ∷ given- 2 1 2 ∷ [])
    ((0 ∷ 4 ∷ []) ∷ (2 ∷ 1 ∷ []) ∷ (4 ∷ 1 ∷ []) ∷ (1 ∷ 6 ∷ []) ∷ (0 ∷ 2 ∷ []) ∷ (0 ∷ 0 ∷ []) ∷ (0 ∷ 6 ∷ [])
    ∷ (6 ∷ 0 ∷ []) ∷ (2 ∷ 2 ∷ []) ∷ (4 ∷ 4 ∷ []) ∷ (6 ∷ 2 ∷ []) ∷ (6 ∷ 4 ∷ []) ∷ [])
    (6 ∷ 3 ∷ 0 ∷ 1 ∷ 1 ∷ 6 ∷ 3 ∷ 0 ∷ 0 ∷ 8 ∷ 4 ∷ 36 ∷ []))
unfolding everything
job_97 = refl

job_98 : outcome 8 (rules 1048576 2 16 lazy true Merge true) 8 (program 2
    (I ∷ Z 0 ∷ X 1 ∷ Y 0 ∷ Y 1 ∷ Y 1 ∷ [])
    (rotate 1 2 4 ∷ rotate 1 2 6 ∷ (1 ∷ 1 ∷ 2 ∷ 1 ∷ 65535 ∷ 16573 ∷ []) ∷ [])
    (row 0 0 2 2 ∷ row 0 1 3 2 ∷ row 1 0 4 2 ∷ row 1 1 5 0 ∷ []))
    ≡ within (shows 6
    (rotated 0 5 ∷ [])
    (kept 0 0 ∷ kept 0 1 ∷ kept 1 0 ∷ kept 1 1 ∷ [])
    ((0 ∷ 1 ∷ []) ∷ (1 ∷ 1 ∷ []) ∷ [])
    (1 ∷ 1 ∷ 2 ∷ 0 ∷ 0 ∷ 3 ∷ 1 ∷ 1 ∷ 1 ∷ 3 ∷ 1 ∷ 6 ∷ []))
unfolding everything
job_98 = refl

job_100 : outcome 13 (rules 1 3 3 off true Merge true) 6 (program 1
    (I ∷ X 0 ∷ Y 0 ∷ [])
    (rotate 2 0 1 ∷ rotate 2 0 3 ∷ measure 2 0 5 65535 ∷ rotate 2 0 3 ∷ rotate 2 0 3 ∷ (1 ∷ 2 ∷ 0 ∷ 7
    ∷ 11219 ∷ 65535 ∷ []) ∷ rotate 2 0 1 ∷ (2 ∷ 2 ∷ 2 ∷ 2 ∷ 6 ∷ 0 ∷ []) ∷ [])
    (row 0 0 1 2 ∷ row 0 1 0 2 ∷ []))
    ≡ within (shows 6
    (rotated 1 4 ∷ measured+ 1 5 65535 ∷ rotated 1 6 ∷ measured- 1 6 0 ∷ [])
    (kept 0 0 ∷ kept 0 1 ∷ [])
    ((1 ∷ 0 ∷ []) ∷ (1 ∷ 1 ∷ []) ∷ [])
    (6 ∷ 0 ∷ 4 ∷ 0 ∷ 0 ∷ 6 ∷ 2 ∷ 2 ∷ 0 ∷ 6 ∷ 2 ∷ 6 ∷ []))
unfolding everything
job_100 = refl

job_103 : outcome 8 (rules 1048576 3 5 at_once false Merge false) 8 (program 1
    (I ∷ Y 0 ∷ X 0 ∷ X 0 ∷ Z 0 ∷ [])
    (rotate 1 2 0 ∷ rotate 2 0 1 ∷ rotate 2 2 0 ∷ rotate 2 2 0 ∷ rotate 2 0 7 ∷ rotate 1 2 0 ∷ [])
    (row 0 0 3 2 ∷ row 0 1 4 0 ∷ []))
    ≡ within (shows 8
    []
    (kept 0 0 ∷ kept 0 1 ∷ [])
    ((1 ∷ 1 ∷ []) ∷ (1 ∷ 0 ∷ []) ∷ (0 ∷ 1 ∷ []) ∷ [])
    (2 ∷ 0 ∷ 1 ∷ 0 ∷ 0 ∷ 6 ∷ 0 ∷ 0 ∷ 0 ∷ 6 ∷ 0 ∷ 8 ∷ []))
unfolding everything
job_103 = refl

job_104 : outcome 14 (rules 1048576 3 2 at_once false Merge false) 3 (program 1
    (I ∷ X 0 ∷ Y 0 ∷ X 0 ∷ Z 0 ∷ product 3 0 4 0 ∷ product 5 3 4 0 ∷ [])
    ((1 ∷ 2 ∷ 0 ∷ 1 ∷ 65535 ∷ 49337 ∷ []) ∷ rotate 2 0 2 ∷ rotate 1 0 1 ∷ rotate 1 0 1 ∷ rotate 1 0 7
    ∷ rotate 1 0 7 ∷ rotate 2 0 6 ∷ rotate 2 0 7 ∷ [])
    (row 0 0 4 0 ∷ row 0 1 6 1 ∷ []))
    ≡ within (shows 12
    []
    (given+ 0 0 2 ∷ given+ 0 1 0 ∷ [])
    ((1 ∷ 0 ∷ []) ∷ (1 ∷ 1 ∷ []) ∷ (0 ∷ 1 ∷ []) ∷ [])
    (6 ∷ 0 ∷ 3 ∷ 0 ∷ 4 ∷ 8 ∷ 0 ∷ 0 ∷ 0 ∷ 8 ∷ 0 ∷ 12 ∷ []))
unfolding everything
job_104 = refl

job_105 : outcome 37 (rules 0 1 3 at_once true Merge true) 8 (program 3
    (I ∷ Z 1 ∷ Y 1 ∷ product 1 0 2 0 ∷ X 2 ∷ product 3 0 4 0 ∷ Y 2 ∷ Y 1 ∷ product 6 0 7 0 ∷ Y 0
    ∷ product 8 0 9 0 ∷ product 10 3 10 2 ∷ X 0 ∷ Z 0 ∷ X 1 ∷ Z 1 ∷ X 2 ∷ Z 2 ∷ [])
    (rotate 10 0 2 ∷ rotate 11 3 1 ∷ (1 ∷ 5 ∷ 1 ∷ 6 ∷ 65535 ∷ 5237 ∷ []) ∷ [])
    (row 0 0 12 0 ∷ row 0 1 13 0 ∷ row 1 0 14 0 ∷ row 1 1 15 0 ∷ row 2 0 16 0 ∷ row 2 1 17 0 ∷ []))
    ≡ limit_exceeded
unfolding everything
job_105 = refl
