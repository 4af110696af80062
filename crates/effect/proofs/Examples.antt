-- The effect at one qubit, by computing. Assumes nothing.
use Rattle.std.specs.Prelude.{◌≡◌, refl, List, [], ◌∷◌, map, Bool, true, false, ℕ, eqb, ℤ, pos, negsuc}
use Rattle.bits.specs.Popcount.{popcount, popcount_in}
use Rattle.store.specs.Equal.{same_list}
use Rattle.groups.specs.Eighth.{e1, e2, e4, e6}
use Rattle.pauli.specs.Word.{common, xor_words, phase}
use Rattle.effect.specs.Phase.{q0, q2, plus, minus, quarter}
use Rattle.effect.specs.Effect.{Op, plain, measured, conditional, rotate, measure, step, effect, word, product, effect_from}
use Rattle.effect.specs.Certificate.{row, products, weight}
use Rattle.effect.specs.Conjugation.{conj}
use Rattle.effect.specs.Packed.{Packed, phase4, same_packed, packed}

-- words of one qubit: the x-word, then the z-word
abbrev I : Packed 1
I = (0 ∷ 0 ∷ [], refl)

abbrev X : Packed 1
X = (1 ∷ 0 ∷ [], refl)

abbrev Y : Packed 1
Y = (1 ∷ 1 ∷ [], refl)

abbrev Z : Packed 1
Z = (0 ∷ 1 ∷ [], refl)

-- words of two qubits, the first one the lower bit
abbrev XX : Packed 1
XX = (3 ∷ 0 ∷ [], refl)

abbrev YY : Packed 1
YY = (3 ∷ 3 ∷ [], refl)

abbrev ZI : Packed 1
ZI = (0 ∷ 1 ∷ [], refl)

abbrev IZ : Packed 1
IZ = (0 ∷ 2 ∷ [], refl)

abbrev XY : Packed 1
XY = (3 ∷ 2 ∷ [], refl)

abbrev YX : Packed 1
YX = (3 ∷ 1 ∷ [], refl)

-- the signed sum of one product word, all angles 1
abbrev ones : List (Packed 1) → List (ℤ × Packed 1)
ones = map (λ P. (pos 1, P))

abbrev certificate : List (Packed 1) → List (Packed 1) → Packed 1 → ℤ
certificate A B P = weight (packed 1) P (products (packed 1) (ones A) (ones B))

-- every outcome is b
abbrev always : Bool → ℕ → Bool
always b m = b

-- the coefficient of R in what a program makes of Q
abbrev at : Bool → List (Op (Packed 1)) → Packed 1 → Packed 1 → ℤ × ℤ
at b ops Q R = effect (packed 1) (always b) ops (word (packed 1) Q) R

-- outcome 1 is 1, every other 0
abbrev second : ℕ → Bool
second m = eqb m 1

-- the same program, where outcomes differ
abbrev differing : List (Op (Packed 1)) → Packed 1 → Packed 1 → ℤ × ℤ
differing ops Q R = effect (packed 1) second ops (word (packed 1) Q) R

pub record Worked : Type 0 where
  -- "Absorbing Z: k = 2 takes X to -Y, -2 to Y, 4 to -X"
  pub absorb_2_sign : (conj (packed 1) e2 Z X).0 ≡ q2
  pub absorb_2_word : (conj (packed 1) e2 Z X).1.0 ≡ 1 ∷ 1 ∷ []
  pub absorb_6_sign : (conj (packed 1) e6 Z X).0 ≡ q0
  pub absorb_6_word : (conj (packed 1) e6 Z X).1.0 ≡ 1 ∷ 1 ∷ []
  pub absorb_4_sign : (conj (packed 1) e4 Z X).0 ≡ q2
  pub absorb_4_word : (conj (packed 1) e4 Z X).1.0 ≡ 1 ∷ 0 ∷ []
  -- a rotation by 1 about Z takes X to √2 X - √2 Y, and Z to 2 Z
  pub turned_x : at false (plain e1 Z ∷ []) X X ≡ (pos 0, pos 1)
  pub turned_y : at false (plain e1 Z ∷ []) X Y ≡ (pos 0, negsuc 0)
  pub turned_z : at false (plain e1 Z ∷ []) Z Z ≡ (pos 2, pos 0)
  -- outcome 1 of Z takes Z to Z - I, and X to nothing
  pub kept_z : at true (measured plus Z 0 ∷ []) Z Z ≡ (pos 1, pos 0)
  pub kept_i : at true (measured plus Z 0 ∷ []) Z I ≡ (negsuc 0, pos 0)
  pub lost_x : at true (measured plus Z 0 ∷ []) X X ≡ (pos 0, pos 0)
  -- and outcome 0 of -Z the same
  pub kept_by_minus : at false (measured minus Z 0 ∷ []) Z I ≡ (negsuc 0, pos 0)
  -- a conditional rotation whose outcome is 0 doubles, and turns where it is 1
  pub idle : at false (conditional e4 Z 0 ∷ []) X X ≡ (pos 2, pos 0)
  pub active : at true (conditional e4 Z 0 ∷ []) X X ≡ (negsuc 1, pos 0)
  -- each measurement has its own outcome: 0 of ZI and 1 of IZ take I to I + ZI - IZ - ZZ; with 0 of both it is I + ZI + IZ + ZZ
  pub first_measured : differing (measured plus ZI 0 ∷ measured plus IZ 1 ∷ []) I ZI ≡ (pos 1, pos 0)
  pub second_measured : differing (measured plus ZI 0 ∷ measured plus IZ 1 ∷ []) I IZ ≡ (negsuc 0, pos 0)
  pub both_zero : at false (measured plus ZI 0 ∷ measured plus IZ 1 ∷ []) I IZ ≡ (pos 1, pos 0)
  -- and a conditional rotation goes by the outcome that it names
  pub idle_by_first : differing (conditional e4 Z 0 ∷ []) X X ≡ (pos 2, pos 0)
  pub active_by_second : differing (conditional e4 Z 1 ∷ []) X X ≡ (negsuc 1, pos 0)
  -- last to first: Y goes to -2 Z about X, then to -4 Z about Z
  pub backwards : at false (plain e2 Z ∷ plain e2 X ∷ []) Y Z ≡ (negsuc 3, pos 0)
  -- no rotation passes a measurement: Y goes to -2 Z about X, and then to -2 Z - 2 I; but it vanishes if Z is measured first
  pub measured_after : at false (measured plus Z 0 ∷ plain e2 X ∷ []) Y I ≡ (negsuc 1, pos 0)
  pub measured_before : at false (plain e2 X ∷ measured plus Z 0 ∷ []) Y I ≡ (pos 0, pos 0)
  -- XX and YY exchange with ZI and IZ: the sums of XY and of YX are zero; XX alone does not
  pub exchanged_xy : certificate (XX ∷ YY ∷ []) (ZI ∷ IZ ∷ []) XY ≡ pos 0
  pub exchanged_yx : certificate (XX ∷ YY ∷ []) (ZI ∷ IZ ∷ []) YX ≡ pos 0
  pub not_exchanged : certificate (XX ∷ []) (ZI ∷ IZ ∷ []) XY ≡ pos 1
  -- the rows X and Z, with the phase of X Z = -i Y in front
  pub in_front_re : (effect_from (packed 1) (always false) [] ((q0, X) ∷ (q0, Z) ∷ [])).0 Y ≡ (pos 0, pos 0)
  pub in_front_im : (effect_from (packed 1) (always false) [] ((q0, X) ∷ (q0, Z) ∷ [])).1 Y ≡ (negsuc 0, pos 0)
  -- the row -X, with its own -1 in front
  pub minus_in_front : (effect_from (packed 1) (always false) [] ((q2, X) ∷ [])).0 X ≡ (negsuc 0, pos 0)

pub worked : Worked
unfolding conj phase4 quarter phase common popcount popcount_in xor_words same_packed same_list word rotate measure step effect product effect_from
    row products weight
worked = record {
  absorb_2_sign = refl;
  absorb_2_word = refl;
  absorb_6_sign = refl;
  absorb_6_word = refl;
  absorb_4_sign = refl;
  absorb_4_word = refl;
  turned_x = refl;
  turned_y = refl;
  turned_z = refl;
  kept_z = refl;
  kept_i = refl;
  lost_x = refl;
  kept_by_minus = refl;
  idle = refl;
  active = refl;
  first_measured = refl;
  second_measured = refl;
  both_zero = refl;
  idle_by_first = refl;
  active_by_second = refl;
  backwards = refl;
  measured_after = refl;
  measured_before = refl;
  exchanged_xy = refl;
  exchanged_yx = refl;
  not_exchanged = refl;
  in_front_re = refl;
  in_front_im = refl;
  minus_in_front = refl;
}
