-- 01, "What takes another form" and "words.rs": angles, phases and `normalize`. Assumes nothing.
use Rattle.std.specs.Prelude.{ℕ, ◌+◌, ◌-◌, ◌%◌, Bool, true, false, leb, ℤ, pos, negsuc}

-- "an angle counts eighths modulo 8"
abbrev pub add_angles : ℕ → ℕ → ℕ
add_angles a b = (a + b) % 8

abbrev pub neg_angle : ℕ → ℕ
neg_angle k = (8 - k % 8) % 8

-- "a phase counts quarter turns modulo 4"
abbrev pub add_phases : ℕ → ℕ → ℕ
add_phases a b = (a + b) % 4

abbrev pub neg_phase : ℕ → ℕ
neg_phase e = (4 - e % 4) % 4

-- the angle of a whole number of eighths: its remainder by 8, from 0 to 7; `negsuc n` is -(n + 1)
unfoldable pub eighths_of : ℤ → ℕ
eighths_of (pos n) = n % 8
eighths_of (negsuc n) = 7 - n % 8

unfoldable pub pick : Bool → ℤ → ℤ → ℤ
pick true a b = a
pick false a b = b

-- "`normalize`: remainder 0 to 7 stands for 0, 1, 2, 3, 4, -3, -2, -1": k to 4, and k - 8 above
unfoldable pub signed_angle : ℕ → ℤ
signed_angle k = pick (leb k 4) (pos k) (negsuc (7 - k))
