-- Small runs that show much, by computing; what comes out was compared with the Rust. Assumes nothing.
use Rattle.std.specs.Prelude.{◌≡◌, refl, true, false, [], ◌∷◌}
use Rattle.model.specs.declared.Strategy.TheVariants.{Merge, Litinski}
use Rattle.model.specs.declared.Absorption.TheVariants.{Off as off, AtOnce as at_once, Lazy as lazy}
use Rattle.model.specs.Everything.{everything}
use Rattle.runs.specs.Shown.{I, X, Y, Z, product, rotate, measure, conditional, row, program, rules, rotated, measured-, conditioned, kept}
use Rattle.runs.specs.Shown.{given+}
use Rattle.runs.specs.Shown.{given-, non_hermitian_at, shows, shown}

-- 01's listing
the_listing : shown (rules 1048576 0 16 at_once true Merge false) 8 (program 1
    (I ∷ Z 0 ∷ X 0 ∷ [])
    (rotate 1 0 1 ∷ rotate 1 0 1 ∷ measure 2 0 0 65535 ∷ [])
    (row 0 0 2 0 ∷ row 0 1 1 0 ∷ []))
    ≡ shows 12
    (measured- 2 0 65535 ∷ [])
    (given- 0 0 2 ∷ given+ 0 1 0 ∷ [])
    ((0 ∷ 1 ∷ []) ∷ (1 ∷ 0 ∷ []) ∷ (1 ∷ 1 ∷ []) ∷ [])
    (2 ∷ 0 ∷ 1 ∷ 0 ∷ 1 ∷ 2 ∷ 0 ∷ 0 ∷ 0 ∷ 2 ∷ 0 ∷ 12 ∷ [])
unfolding everything
the_listing = refl

-- Z0, Z1, Z0: lookback 1 lets the third reach the first
lookback_1 : shown (rules 1 0 16 at_once true Merge false) 8 (program 2
    (I ∷ X 0 ∷ Y 0 ∷ Z 0 ∷ X 1 ∷ Y 1 ∷ Z 1 ∷ [])
    (rotate 3 0 1 ∷ rotate 6 0 1 ∷ rotate 3 0 1 ∷ [])
    (row 0 0 1 0 ∷ row 0 1 3 0 ∷ row 1 0 4 0 ∷ row 1 1 6 0 ∷ []))
    ≡ shows 16
    (rotated 3 1 ∷ [])
    (given- 0 0 4 ∷ given+ 0 1 1 ∷ given+ 1 0 2 ∷ given+ 1 1 3 ∷ [])
    ((1 ∷ 0 ∷ []) ∷ (0 ∷ 1 ∷ []) ∷ (2 ∷ 0 ∷ []) ∷ (0 ∷ 2 ∷ []) ∷ (1 ∷ 1 ∷ []) ∷ [])
    (3 ∷ 1 ∷ 1 ∷ 0 ∷ 1 ∷ 3 ∷ 1 ∷ 0 ∷ 0 ∷ 3 ∷ 1 ∷ 16 ∷ [])
unfolding everything
lookback_1 = refl

-- lookback 0 does not
lookback_0 : shown (rules 0 0 16 at_once true Merge false) 8 (program 2
    (I ∷ X 0 ∷ Y 0 ∷ Z 0 ∷ X 1 ∷ Y 1 ∷ Z 1 ∷ [])
    (rotate 3 0 1 ∷ rotate 6 0 1 ∷ rotate 3 0 1 ∷ [])
    (row 0 0 1 0 ∷ row 0 1 3 0 ∷ row 1 0 4 0 ∷ row 1 1 6 0 ∷ []))
    ≡ shows 10
    (rotated 1 1 ∷ rotated 3 1 ∷ rotated 1 1 ∷ [])
    (kept 0 0 ∷ kept 0 1 ∷ kept 1 0 ∷ kept 1 1 ∷ [])
    ((1 ∷ 0 ∷ []) ∷ (0 ∷ 1 ∷ []) ∷ (2 ∷ 0 ∷ []) ∷ (0 ∷ 2 ∷ []) ∷ [])
    (3 ∷ 3 ∷ 0 ∷ 0 ∷ 0 ∷ 3 ∷ 3 ∷ 0 ∷ 0 ∷ 3 ∷ 3 ∷ 10 ∷ [])
unfolding everything
lookback_0 = refl

-- Z0, X0, Z0: X0 stands between
blocked : shown (rules 1048576 0 16 at_once true Merge false) 8 (program 1
    (I ∷ X 0 ∷ Y 0 ∷ Z 0 ∷ [])
    (rotate 3 0 1 ∷ rotate 1 0 1 ∷ rotate 3 0 1 ∷ [])
    (row 0 0 1 0 ∷ row 0 1 3 0 ∷ []))
    ≡ shows 6
    (rotated 1 1 ∷ rotated 0 1 ∷ rotated 1 1 ∷ [])
    (kept 0 0 ∷ kept 0 1 ∷ [])
    ((1 ∷ 0 ∷ []) ∷ (0 ∷ 1 ∷ []) ∷ [])
    (3 ∷ 3 ∷ 0 ∷ 0 ∷ 0 ∷ 3 ∷ 3 ∷ 0 ∷ 0 ∷ 3 ∷ 3 ∷ 6 ∷ [])
unfolding everything
blocked = refl

-- the first two merge to an even angle, which is absorbed; the third is put out
three_alike : shown (rules 1048576 0 16 at_once true Merge false) 1 (program 1
    (I ∷ X 0 ∷ Y 0 ∷ Z 0 ∷ [])
    (rotate 3 0 1 ∷ rotate 3 0 1 ∷ rotate 3 0 1 ∷ [])
    (row 0 0 1 0 ∷ row 0 1 3 0 ∷ []))
    ≡ shows 12
    (rotated 1 1 ∷ [])
    (given- 0 0 2 ∷ given+ 0 1 1 ∷ [])
    ((1 ∷ 0 ∷ []) ∷ (0 ∷ 1 ∷ []) ∷ (1 ∷ 1 ∷ []) ∷ [])
    (3 ∷ 1 ∷ 1 ∷ 0 ∷ 1 ∷ 3 ∷ 1 ∷ 0 ∷ 0 ∷ 3 ∷ 1 ∷ 12 ∷ [])
unfolding everything
three_alike = refl

-- root X with phase 1
odd_root : shown (rules 1048576 0 16 at_once true Merge false) 8 (program 1
    (I ∷ X 0 ∷ Y 0 ∷ Z 0 ∷ [])
    (rotate 1 1 1 ∷ [])
    (row 0 0 1 0 ∷ row 0 1 3 0 ∷ []))
    ≡ non_hermitian_at 2
unfolding everything
odd_root = refl

-- the product of X and Z with phase 1 is Y
product_root : shown (rules 1048576 0 16 at_once true Merge false) 8 (program 1
    (I ∷ X 0 ∷ Z 0 ∷ product 1 0 2 0 ∷ [])
    (rotate 3 1 1 ∷ [])
    (row 0 0 1 0 ∷ row 0 1 2 0 ∷ []))
    ≡ shows 10
    (rotated 2 1 ∷ [])
    (kept 0 0 ∷ kept 0 1 ∷ [])
    ((1 ∷ 0 ∷ []) ∷ (0 ∷ 1 ∷ []) ∷ (1 ∷ 1 ∷ []) ∷ [])
    (1 ∷ 1 ∷ 0 ∷ 0 ∷ 0 ∷ 1 ∷ 1 ∷ 0 ∷ 0 ∷ 1 ∷ 1 ∷ 10 ∷ [])
unfolding everything
product_root = refl

-- no row is a root
no_operations : shown (rules 1048576 0 16 at_once true Merge false) 8 (program 2
    (I ∷ X 0 ∷ Y 0 ∷ Z 0 ∷ X 1 ∷ Y 1 ∷ Z 1 ∷ [])
    []
    (row 0 0 1 0 ∷ row 0 1 3 0 ∷ row 1 0 4 0 ∷ row 1 1 6 0 ∷ []))
    ≡ shows 0
    []
    (kept 0 0 ∷ kept 0 1 ∷ kept 1 0 ∷ kept 1 1 ∷ [])
    []
    (0 ∷ 0 ∷ 0 ∷ 0 ∷ 0 ∷ 0 ∷ 0 ∷ 0 ∷ 0 ∷ 0 ∷ 0 ∷ 0 ∷ [])
unfolding everything
no_operations = refl

-- X:1 Z:1 X:1 X:7 Z:7 X:1 has T-count 2 after one round
one_round : shown (rules 1048576 0 16 at_once true Merge false) 1 (program 1
    (I ∷ X 0 ∷ Y 0 ∷ Z 0 ∷ [])
    (rotate 1 0 1 ∷ rotate 3 0 1 ∷ rotate 1 0 1 ∷ rotate 1 0 7 ∷ rotate 3 0 7 ∷ rotate 1 0 1 ∷ [])
    (row 0 0 1 0 ∷ row 0 1 3 0 ∷ []))
    ≡ shows 6
    (rotated 0 1 ∷ rotated 0 1 ∷ [])
    (kept 0 0 ∷ kept 0 1 ∷ [])
    ((1 ∷ 0 ∷ []) ∷ (0 ∷ 1 ∷ []) ∷ [])
    (6 ∷ 2 ∷ 2 ∷ 0 ∷ 0 ∷ 6 ∷ 2 ∷ 0 ∷ 0 ∷ 6 ∷ 2 ∷ 6 ∷ [])
unfolding everything
one_round = refl

-- and 0 after two
two_rounds : shown (rules 1048576 0 16 at_once true Merge false) 2 (program 1
    (I ∷ X 0 ∷ Y 0 ∷ Z 0 ∷ [])
    (rotate 1 0 1 ∷ rotate 3 0 1 ∷ rotate 1 0 1 ∷ rotate 1 0 7 ∷ rotate 3 0 7 ∷ rotate 1 0 1 ∷ [])
    (row 0 0 1 0 ∷ row 0 1 3 0 ∷ []))
    ≡ shows 12
    []
    (given+ 0 0 0 ∷ given+ 0 1 2 ∷ [])
    ((1 ∷ 0 ∷ []) ∷ (0 ∷ 1 ∷ []) ∷ (1 ∷ 1 ∷ []) ∷ [])
    (6 ∷ 0 ∷ 3 ∷ 0 ∷ 1 ∷ 6 ∷ 0 ∷ 0 ∷ 0 ∷ 6 ∷ 0 ∷ 12 ∷ [])
unfolding everything
two_rounds = refl

-- XX:1 YY:1 ZI:1 IZ:1 XX:1, window 2: T-count 5 to 3
smallest_exchange : shown (rules 1048576 2 16 at_once true Merge false) 8 (program 2
    (I ∷ X 0 ∷ Y 0 ∷ Z 0 ∷ X 1 ∷ Y 1 ∷ Z 1 ∷ product 1 0 4 0 ∷ product 2 0 5 0 ∷ [])
    (rotate 7 0 1 ∷ rotate 8 0 1 ∷ rotate 3 0 1 ∷ rotate 6 0 1 ∷ rotate 7 0 1 ∷ [])
    (row 0 0 1 0 ∷ row 0 1 3 0 ∷ row 1 0 4 0 ∷ row 1 1 6 0 ∷ []))
    ≡ shows 28
    (rotated 1 1 ∷ rotated 3 1 ∷ rotated 5 1 ∷ [])
    (given+ 0 0 0 ∷ given+ 0 1 6 ∷ given+ 1 0 2 ∷ given+ 1 1 7 ∷ [])
    ((1 ∷ 0 ∷ []) ∷ (0 ∷ 1 ∷ []) ∷ (2 ∷ 0 ∷ []) ∷ (0 ∷ 2 ∷ []) ∷ (3 ∷ 0 ∷ []) ∷ (3 ∷ 3 ∷ []) ∷ (3 ∷ 1 ∷ [])
    ∷ (3 ∷ 2 ∷ []) ∷ [])
    (5 ∷ 3 ∷ 0 ∷ 1 ∷ 1 ∷ 5 ∷ 3 ∷ 0 ∷ 0 ∷ 8 ∷ 4 ∷ 28 ∷ [])
unfolding everything
smallest_exchange = refl

-- window 0: no exchange
window_0 : shown (rules 1048576 0 16 at_once true Merge false) 8 (program 2
    (I ∷ X 0 ∷ Y 0 ∷ Z 0 ∷ X 1 ∷ Y 1 ∷ Z 1 ∷ product 1 0 4 0 ∷ product 2 0 5 0 ∷ [])
    (rotate 7 0 1 ∷ rotate 8 0 1 ∷ rotate 3 0 1 ∷ rotate 6 0 1 ∷ rotate 7 0 1 ∷ [])
    (row 0 0 1 0 ∷ row 0 1 3 0 ∷ row 1 0 4 0 ∷ row 1 1 6 0 ∷ []))
    ≡ shows 22
    (rotated 4 1 ∷ rotated 5 1 ∷ rotated 1 1 ∷ rotated 3 1 ∷ rotated 4 1 ∷ [])
    (kept 0 0 ∷ kept 0 1 ∷ kept 1 0 ∷ kept 1 1 ∷ [])
    ((1 ∷ 0 ∷ []) ∷ (0 ∷ 1 ∷ []) ∷ (2 ∷ 0 ∷ []) ∷ (0 ∷ 2 ∷ []) ∷ (3 ∷ 0 ∷ []) ∷ (3 ∷ 3 ∷ []) ∷ [])
    (5 ∷ 5 ∷ 0 ∷ 0 ∷ 0 ∷ 5 ∷ 5 ∷ 0 ∷ 0 ∷ 8 ∷ 8 ∷ 22 ∷ [])
unfolding everything
window_0 = refl

-- Y:1 -Z:1 Z:1 Y:1, lookback 0, window 5: the largest sum is 8 with one round
peak_of_one_round : shown (rules 0 5 16 at_once true Merge false) 1 (program 1
    (I ∷ X 0 ∷ Y 0 ∷ Z 0 ∷ [])
    (rotate 2 0 1 ∷ rotate 3 2 1 ∷ rotate 3 0 1 ∷ rotate 2 0 1 ∷ [])
    (row 0 0 1 0 ∷ row 0 1 3 0 ∷ []))
    ≡ shows 8
    (rotated 1 1 ∷ rotated 1 1 ∷ [])
    (kept 0 0 ∷ kept 0 1 ∷ [])
    ((1 ∷ 0 ∷ []) ∷ (1 ∷ 1 ∷ []) ∷ (0 ∷ 1 ∷ []) ∷ [])
    (4 ∷ 2 ∷ 1 ∷ 0 ∷ 0 ∷ 4 ∷ 2 ∷ 0 ∷ 0 ∷ 4 ∷ 2 ∷ 8 ∷ [])
unfolding everything
peak_of_one_round = refl

-- and 12 with two
peak_of_two_rounds : shown (rules 0 5 16 at_once true Merge false) 2 (program 1
    (I ∷ X 0 ∷ Y 0 ∷ Z 0 ∷ [])
    (rotate 2 0 1 ∷ rotate 3 2 1 ∷ rotate 3 0 1 ∷ rotate 2 0 1 ∷ [])
    (row 0 0 1 0 ∷ row 0 1 3 0 ∷ []))
    ≡ shows 12
    []
    (given+ 0 0 2 ∷ given- 0 1 0 ∷ [])
    ((1 ∷ 0 ∷ []) ∷ (1 ∷ 1 ∷ []) ∷ (0 ∷ 1 ∷ []) ∷ [])
    (4 ∷ 0 ∷ 2 ∷ 0 ∷ 1 ∷ 4 ∷ 0 ∷ 0 ∷ 0 ∷ 4 ∷ 0 ∷ 12 ∷ [])
unfolding everything
peak_of_two_rounds = refl

-- XI:7 XY:4 XI:7, lookback 0, one round: T-count 0 where even rotations are absorbed at once
at_once_lem : shown (rules 0 0 16 at_once true Merge false) 1 (program 2
    (I ∷ X 0 ∷ Y 0 ∷ Z 0 ∷ X 1 ∷ Y 1 ∷ Z 1 ∷ product 1 0 5 0 ∷ [])
    (rotate 1 0 7 ∷ rotate 7 0 4 ∷ rotate 1 0 7 ∷ [])
    (row 0 0 1 0 ∷ row 0 1 3 0 ∷ row 1 0 4 0 ∷ row 1 1 6 0 ∷ []))
    ≡ shows 24
    []
    (given+ 0 0 0 ∷ given+ 0 1 5 ∷ given- 1 0 2 ∷ given- 1 1 3 ∷ [])
    ((1 ∷ 0 ∷ []) ∷ (0 ∷ 1 ∷ []) ∷ (2 ∷ 0 ∷ []) ∷ (0 ∷ 2 ∷ []) ∷ (3 ∷ 2 ∷ []) ∷ (1 ∷ 1 ∷ []) ∷ [])
    (2 ∷ 0 ∷ 1 ∷ 0 ∷ 2 ∷ 3 ∷ 0 ∷ 0 ∷ 0 ∷ 4 ∷ 0 ∷ 24 ∷ [])
unfolding everything
at_once_lem = refl

-- and 2 where they wait
waiting : shown (rules 0 0 16 lazy true Merge false) 1 (program 2
    (I ∷ X 0 ∷ Y 0 ∷ Z 0 ∷ X 1 ∷ Y 1 ∷ Z 1 ∷ product 1 0 5 0 ∷ [])
    (rotate 1 0 7 ∷ rotate 7 0 4 ∷ rotate 1 0 7 ∷ [])
    (row 0 0 1 0 ∷ row 0 1 3 0 ∷ row 1 0 4 0 ∷ row 1 1 6 0 ∷ []))
    ≡ shows 22
    (rotated 0 7 ∷ rotated 0 7 ∷ [])
    (given+ 0 0 0 ∷ given- 0 1 1 ∷ given- 1 0 2 ∷ given- 1 1 3 ∷ [])
    ((1 ∷ 0 ∷ []) ∷ (0 ∷ 1 ∷ []) ∷ (2 ∷ 0 ∷ []) ∷ (0 ∷ 2 ∷ []) ∷ (3 ∷ 2 ∷ []) ∷ [])
    (2 ∷ 2 ∷ 0 ∷ 0 ∷ 1 ∷ 3 ∷ 2 ∷ 0 ∷ 0 ∷ 4 ∷ 2 ∷ 22 ∷ [])
unfolding everything
waiting = refl

-- a measurement and a conditional rotation: nothing merges across, signs and targets stay
barriers : shown (rules 1048576 0 16 at_once true Merge true) 8 (program 1
    (I ∷ X 0 ∷ Y 0 ∷ Z 0 ∷ [])
    (rotate 3 0 1 ∷ measure 1 2 5 3 ∷ rotate 3 0 1 ∷ rotate 3 0 2 ∷ conditional 1 0 3 5 ∷ rotate 1 0 1 ∷ [])
    (row 0 0 1 0 ∷ row 0 1 3 0 ∷ []))
    ≡ shows 12
    (rotated 1 1 ∷ measured- 0 5 3 ∷ rotated 1 1 ∷ conditioned 2 5 5 ∷ rotated 2 7 ∷ [])
    (given- 0 0 2 ∷ given+ 0 1 1 ∷ [])
    ((1 ∷ 0 ∷ []) ∷ (0 ∷ 1 ∷ []) ∷ (1 ∷ 1 ∷ []) ∷ [])
    (4 ∷ 4 ∷ 0 ∷ 0 ∷ 1 ∷ 4 ∷ 3 ∷ 3 ∷ 3 ∷ 5 ∷ 4 ∷ 12 ∷ [])
unfolding everything
barriers = refl

-- absorption off: even angles stay
absorption_off : shown (rules 1048576 0 16 off true Merge false) 8 (program 1
    (I ∷ X 0 ∷ Y 0 ∷ Z 0 ∷ [])
    (rotate 3 0 1 ∷ rotate 3 0 1 ∷ rotate 1 0 2 ∷ rotate 3 0 3 ∷ rotate 1 0 6 ∷ [])
    (row 0 0 1 0 ∷ row 0 1 3 0 ∷ []))
    ≡ shows 6
    (rotated 1 2 ∷ rotated 0 2 ∷ rotated 1 3 ∷ rotated 0 6 ∷ [])
    (kept 0 0 ∷ kept 0 1 ∷ [])
    ((1 ∷ 0 ∷ []) ∷ (0 ∷ 1 ∷ []) ∷ [])
    (3 ∷ 1 ∷ 1 ∷ 0 ∷ 0 ∷ 5 ∷ 4 ∷ 0 ∷ 0 ∷ 5 ∷ 4 ∷ 6 ∷ [])
unfolding everything
absorption_off = refl

-- layers, absorbing
litinski : shown (rules 1048576 0 16 at_once true Litinski true) 8 (program 2
    (I ∷ X 0 ∷ Y 0 ∷ Z 0 ∷ X 1 ∷ Y 1 ∷ Z 1 ∷ product 1 0 4 0 ∷ product 2 0 5 0 ∷ [])
    (rotate 7 0 1 ∷ rotate 3 0 1 ∷ rotate 6 0 1 ∷ rotate 7 0 1 ∷ rotate 8 0 3 ∷ rotate 3 0 1 ∷ [])
    (row 0 0 1 0 ∷ row 0 1 3 0 ∷ row 1 0 4 0 ∷ row 1 1 6 0 ∷ []))
    ≡ shows 22
    (rotated 4 1 ∷ rotated 1 1 ∷ rotated 3 1 ∷ rotated 4 1 ∷ rotated 5 3 ∷ rotated 1 1 ∷ [])
    (kept 0 0 ∷ kept 0 1 ∷ kept 1 0 ∷ kept 1 1 ∷ [])
    ((1 ∷ 0 ∷ []) ∷ (0 ∷ 1 ∷ []) ∷ (2 ∷ 0 ∷ []) ∷ (0 ∷ 2 ∷ []) ∷ (3 ∷ 0 ∷ []) ∷ (3 ∷ 3 ∷ []) ∷ [])
    (6 ∷ 6 ∷ 0 ∷ 0 ∷ 0 ∷ 6 ∷ 6 ∷ 4 ∷ 4 ∷ 9 ∷ 9 ∷ 22 ∷ [])
unfolding everything
litinski = refl

-- layers, absorption off
litinski_off : shown (rules 1048576 0 16 off true Litinski true) 8 (program 2
    (I ∷ X 0 ∷ Y 0 ∷ Z 0 ∷ X 1 ∷ Y 1 ∷ Z 1 ∷ product 3 0 6 0 ∷ [])
    (rotate 1 0 1 ∷ rotate 3 0 1 ∷ rotate 6 0 1 ∷ rotate 4 0 1 ∷ rotate 1 0 1 ∷ rotate 7 0 1 ∷ rotate 6 0 7 ∷ rotate 3 0 3 ∷ [])
    (row 0 0 1 0 ∷ row 0 1 3 0 ∷ row 1 0 4 0 ∷ row 1 1 6 0 ∷ []))
    ≡ shows 14
    (rotated 0 1 ∷ rotated 3 1 ∷ rotated 1 1 ∷ rotated 2 1 ∷ rotated 0 1 ∷ rotated 3 7 ∷ rotated 4 1 ∷ rotated 1 3 ∷ [])
    (kept 0 0 ∷ kept 0 1 ∷ kept 1 0 ∷ kept 1 1 ∷ [])
    ((1 ∷ 0 ∷ []) ∷ (0 ∷ 1 ∷ []) ∷ (2 ∷ 0 ∷ []) ∷ (0 ∷ 2 ∷ []) ∷ (0 ∷ 3 ∷ []) ∷ [])
    (8 ∷ 8 ∷ 0 ∷ 0 ∷ 0 ∷ 8 ∷ 8 ∷ 4 ∷ 4 ∷ 9 ∷ 9 ∷ 14 ∷ [])
unfolding everything
litinski_off = refl
