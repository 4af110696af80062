-- Records one after the other, one step of the loop over them. Assumes nothing.
use Rattle.std.specs.Prelude.{◌≡◌, drop, Bool, true, false, Result, Ok, Err}
use Rattle.std.specs.Result.{IsErr}
use Rattle.std.proofs.Math.Path.{refl, sym, ap}
use Rattle.std.proofs.Common.{◌∙◌, zero-mul, Bor}
use Rattle.std.proofs.Math.Option.{Option, none, some, bind, map}
use mathlib.Core.List.{List, [], ◌++◌, append_assoc, append-nil}
use Prim.Native.Nat.{ℕ, suc, ◌+◌, ◌-◌, ◌*◌, ◌≤◌, ◌<◌}
use Rattle.std.proofs.Math.Nat.{suc-mul}
use Rattle.std.proofs.Math.Numerals.{add-one}
use native.Mathlib.Omega.{arith}
use borrow.Rule.Slice.PartMut.{put_mid}
use Rattle.std.proofs.Math.ListN.{length, take, length-append}
use Rattle.std.proofs.Math.Seq.{take_at, length-take-le}
use Rattle.store.specs.Part.{put, part_length, part_cut, put_lent}
use Rattle.listing_fields.specs.declared.BadText.{BadText}
use Rattle.listing_read.specs.Records.{Taken, taken, behind, one_record, records_in}
use Rattle.listing_read.specs.Views.{taken_by}

module _ (n : ℕ) (fits : List ℕ → Option (List ℕ)) (count : ℕ) where
  -- the first i records stand in `to`, and the bytes behind them are left
  unfoldable pub records_left : List ℕ → ℕ → List ℕ → Option Taken
  records_left to i rest = map (behind (take (i * n) to)) (records_in n fits (count - i) rest)

  pub records_first : (to text : List ℕ) → records_in n fits count text ≡ records_left to 0 text
  unfolding records_left
  records_first to text =
      go (records_in n fits count text) (ap (λ (k : ℕ). records_in n fits k text) (let p : count ≡ count - 0 = omega arith in p))
    where
      none_before : take (0 * n) to ≡ []
      none_before = ap (λ (k : ℕ). take k to) (zero-mul n)

      go : (x : Option Taken) {y : Option Taken} → x ≡ y → x ≡ map (behind (take (0 * n) to)) y
      go none e = ap (map (behind (take (0 * n) to))) e
      go (some t) e =
          ap (λ (s : List ℕ). some (taken (s ++ t.values) t.rest)) (sym none_before) ∙ ap (map (behind (take (0 * n) to))) e

  left_step : (to : List ℕ) (i : ℕ) (rest : List ℕ) → i < count
      → records_in n fits (count - i) rest
      ≡ bind (one_record n fits rest) (λ a. map (behind a.values) (records_in n fits (count - (i + 1)) a.rest))
  unfolding records_in
  left_step to i rest l =
      ap (λ (k : ℕ). records_in n fits k rest) (let p : count - i ≡ suc (count - (i + 1)) = omega arith in p)

  pub records_bad : (to : List ℕ) (i : ℕ) (rest : List ℕ) (x : Option Taken) → i < count → x ≡ records_left to i rest
      → none ≡ one_record n fits rest → none ≡ x
  unfolding records_left bind
  records_bad to i rest x l p q =
      sym (p ∙ ap (map (behind (take (i * n) to))) (left_step to i rest l
      ∙ ap (λ y. bind y (λ a. map (behind a.values) (records_in n fits (count - (i + 1)) a.rest))) (sym q)))

  -- record i came back as r, and the bytes behind it are left
  pub records_more : (to r : List ℕ) (i : ℕ) (rest left : List ℕ) (x : Option Taken) → i < count → i * n + n ≤ length to → length r ≡ n
      → x ≡ records_left to i rest → some (taken r left) ≡ one_record n fits rest
      → x ≡ records_left (put_mid (i * n) (i * n + n - i * n) to r) (i + 1) left
  unfolding records_left bind put
  records_more to r i rest left x l h e p s =
      p ∙ ap (map (behind (take (i * n) to))) (left_step to i rest l
      ∙ ap (λ y. bind y (λ a. map (behind a.values) (records_in n fits (count - (i + 1)) a.rest))) (sym s))
      ∙ go (records_in n fits (count - (i + 1)) left)
    where
      front : take ((i + 1) * n) (put_mid (i * n) (i * n + n - i * n) to r) ≡ take (i * n) to ++ r
      front =
          let a : length (take (i * n) to) ≡ i * n = length-take-le (i * n) to (omega arith) in
          ap (take ((i + 1) * n)) (put_lent to (i * n) n r r refl e ∙ sym (append_assoc (take (i * n) to) r _))
          ∙ take_at (take (i * n) to ++ r) _ ((i + 1) * n)
          (simp length-append (omega (arith, suc-mul i n, add-one i)))

      go : (y : Option Taken) → map (behind (take (i * n) to)) (map (behind r) y)
          ≡ map (behind (take ((i + 1) * n) (put_mid (i * n) (i * n + n - i * n) to r))) y
      go none = refl
      go (some t) =
          ap (λ (s : List ℕ). some (taken s t.rest))
          (sym (append_assoc (take (i * n) to) r t.values) ∙ ap (λ (s : List ℕ). s ++ t.values) (sym front))

  pub records_end : (to : List ℕ) (i : ℕ) (rest : List ℕ) (x : Option Taken) → i ≡ count → x ≡ records_left to i rest
      → some (taken (take (count * n) to) rest) ≡ x
  unfolding records_left records_in
  records_end to i rest x e p =
      sym (p ∙ ap (λ (k : ℕ). map (behind (take (k * n) to)) (records_in n fits (count - k) rest)) e
      ∙ ap (λ (k : ℕ). map (behind (take (count * n) to)) (records_in n fits k rest))
      (let q : count - count ≡ 0 = omega arith in q)
      ∙ ap (λ (s : List ℕ). some (taken s rest)) (append-nil (take (count * n) to)))

-- ---- what a lent part comes back as

pub part_size : (s : List ℕ) (a n : ℕ) → a + n ≤ length s → length (take (a + n - a) (drop a s)) ≡ n
part_size s a n h = ap length (part_cut s a n) ∙ part_length s a n h

pub record_lent : (n m : ℕ) (fits : List ℕ → Option (List ℕ)) (s : List ℕ) {x : Option Taken} → x ≡ one_record m fits s → m ≡ n
    → x ≡ one_record n fits s
record_lent n m fits s e h = e ∙ ap (λ (k : ℕ). one_record k fits s) h

-- a refusal that is handed on
pub refused : (r : Result (Bor (List ℕ)) BadText) (vs : List ℕ) {x : Option Taken} → IsErr r → none ≡ x → taken_by r vs ≡ x
refused (Ok rest) vs e p = absurd (let z : ◌≡◌ {A = Bool} false true = e in cc)
refused (Err b) vs e p = p
