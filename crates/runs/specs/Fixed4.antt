-- Written by compared.py: jobs of the oracle's fixed list, with what the Rust makes of each. Assumes nothing.
use Rattle.std.specs.Prelude.{◌≡◌, refl, true, false, [], ◌∷◌}
use Rattle.model.specs.declared.Strategy.TheVariants.{Merge, Litinski}
use Rattle.model.specs.declared.Absorption.TheVariants.{Off as off, AtOnce as at_once, Lazy as lazy}
use Rattle.model.specs.Everything.{everything}
use Rattle.runs.specs.Shown.{I, X, Y, Z, product, rotate, measure, row, program, rules, rotated, measured+}
use Rattle.runs.specs.Shown.{kept, given+, given-, shows}
use Rattle.runs.specs.Outcome.{limit_exceeded, within, outcome}

job_177 : outcome 12 (rules 1048576 4 1 lazy false Litinski true) 2 (program 2
    (I ∷ X 1 ∷ X 0 ∷ Z 0 ∷ X 1 ∷ Z 1 ∷ [])
    (rotate 1 2 6 ∷ rotate 1 0 0 ∷ rotate 1 0 1 ∷ [])
    (row 0 0 2 0 ∷ row 0 1 3 0 ∷ row 1 0 4 0 ∷ row 1 1 5 0 ∷ []))
    ≡ within (shows 12
    (rotated 0 1 ∷ [])
    (kept 0 0 ∷ kept 0 1 ∷ given+ 1 0 0 ∷ given+ 1 1 2 ∷ [])
    ((2 ∷ 0 ∷ []) ∷ (0 ∷ 2 ∷ []) ∷ (2 ∷ 2 ∷ []) ∷ [])
    (1 ∷ 1 ∷ 0 ∷ 0 ∷ 1 ∷ 3 ∷ 1 ∷ 1 ∷ 1 ∷ 3 ∷ 1 ∷ 12 ∷ []))
unfolding everything
job_177 = refl

job_181 : outcome 14 (rules 1048576 0 1 at_once true Merge false) 2 (program 1
    (I ∷ Y 0 ∷ product 1 3 0 0 ∷ X 0 ∷ Z 0 ∷ [])
    ((1 ∷ 1 ∷ 0 ∷ 2 ∷ 47502 ∷ 65535 ∷ []) ∷ [])
    (row 0 0 3 0 ∷ row 0 1 4 0 ∷ []))
    ≡ within (shows 12
    []
    (given+ 0 0 2 ∷ given- 0 1 1 ∷ [])
    ((1 ∷ 1 ∷ []) ∷ (1 ∷ 0 ∷ []) ∷ (0 ∷ 1 ∷ []) ∷ [])
    (0 ∷ 0 ∷ 0 ∷ 0 ∷ 1 ∷ 1 ∷ 0 ∷ 0 ∷ 0 ∷ 1 ∷ 0 ∷ 12 ∷ []))
unfolding everything
job_181 = refl

job_183 : outcome 10 (rules 1048576 0 5 lazy false Merge false) 8 (program 2
    (I ∷ X 0 ∷ product 1 0 1 1 ∷ I ∷ Z 0 ∷ product 2 0 2 0 ∷ product 5 3 2 0 ∷ Y 1 ∷ Z 1 ∷ product 7 0 8 0
    ∷ X 0 ∷ Z 0 ∷ X 1 ∷ Z 1 ∷ [])
    (rotate 4 0 6 ∷ [])
    (row 0 0 10 0 ∷ row 0 1 11 0 ∷ row 1 0 12 0 ∷ row 1 1 13 0 ∷ []))
    ≡ limit_exceeded
unfolding everything
job_183 = refl

job_185 : outcome 46 (rules 1 2 1 off true Merge false) 6 (program 1
    (I ∷ X 0 ∷ X 0 ∷ Y 0 ∷ X 0 ∷ X 0 ∷ X 0 ∷ Z 0 ∷ [])
    ((1 ∷ 5 ∷ 2 ∷ 1 ∷ 65535 ∷ 62545 ∷ []) ∷ rotate 5 0 1 ∷ rotate 2 2 1 ∷ rotate 2 0 6 ∷ measure 2 0 4 65535 ∷ [])
    (row 0 0 6 0 ∷ row 0 1 7 0 ∷ []))
    ≡ within (shows 6
    (rotated 0 5 ∷ measured+ 0 4 65535 ∷ [])
    (kept 0 0 ∷ kept 0 1 ∷ [])
    ((1 ∷ 0 ∷ []) ∷ (0 ∷ 1 ∷ []) ∷ [])
    (3 ∷ 1 ∷ 2 ∷ 0 ∷ 0 ∷ 4 ∷ 1 ∷ 0 ∷ 0 ∷ 4 ∷ 1 ∷ 6 ∷ []))
unfolding everything
job_185 = refl
