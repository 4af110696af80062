-- The records behind the first line, slice by slice, and the end. Assumes nothing.
use Rattle.std.specs.Prelude.{◌≡◌, refl, Bool, true, false, List, [], ◌∷◌, ℕ, length, Result, Ok, Err}
use Rattle.std.specs.Result.{IsErr}
use Rattle.std.proofs.Common.{sym, ap, arith}
use Rattle.std.proofs.Math.Option.{Option, none, some, bind}
use Rattle.model.specs.Lists.{is_empty}
use Rattle.model.specs.Listing.{Read, read_of}
use Rattle.theory.specs.Cases.{if_true, if_false}
use Rattle.listing_fields.specs.declared.BadText.{BadText}
use Rattle.listing_read.specs.declared.Text.{Text}
use Rattle.listing_read.specs.Records.{Taken, taken, closed}
use Rattle.listing_read.specs.Views.{read_by}

at_end : (s : List ℕ) → length s ≡ 0 → is_empty s ≡ true
unfolding is_empty
at_end [] e = refl
at_end (b ∷ s) e = absurd (omega arith)

not_end : (s : List ℕ) → (length s ≡ 0 → ⊥) → is_empty s ≡ false
unfolding is_empty
not_end [] n = absurd (n refl)
not_end (b ∷ s) n = refl

-- what comes of records that were read, and of those that were not
pub then_read : {t : Taken} {x : Option Taken} (f : Taken → Option Read) → some t ≡ x → f t ≡ bind x f
unfolding bind
then_read f e = ap (λ y. bind y f) e

pub not_read : {x : Option Taken} (f : Taken → Option Read) → none ≡ x → none ≡ bind x f
unfolding bind
not_read f e = ap (λ y. bind y f) e

pub all_read : (h ns os rs s : List ℕ) → length s ≡ 0 → some (read_of h ns os rs) ≡ closed h ns os (taken rs s)
all_read h ns os rs s e = sym (if_true _ _ (at_end s e))

pub left_over : (h ns os rs s : List ℕ) → (length s ≡ 0 → ⊥) → none ≡ closed h ns os (taken rs s)
left_over h ns os rs s n = sym (if_false _ _ (not_end s n))

-- a refusal that is handed on
pub refused : (r : Result Text BadText) (ns os rs : List ℕ) {x : Option Read} → IsErr r → none ≡ x → read_by r ns os rs ≡ x
refused (Ok t) ns os rs e p = absurd (let z : ◌≡◌ {A = Bool} false true = e in cc)
refused (Err b) ns os rs e p = p
