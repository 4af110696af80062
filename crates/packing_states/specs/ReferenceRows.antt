-- A reference's axis and sign written into their rows: what the rows then say of it and of the others. Assumes nothing.
use Rattle.std.specs.Prelude.{◌≡◌, refl, ◌≢◌, List, [], ◌∷◌, ℕ, ◌*◌, ◌≤◌, ◌<◌, length, get_or, set}
use Rattle.std.proofs.Common.{ap, ◌∙◌, arith}
use Rattle.store.specs.Row.{row, Written}
use Rattle.model.specs.Lists.{any_of, member, all_of}
use Rattle.layout.specs.Rows.{row_count, root_axis, root_sign, written_row, entry_own, entry_other}
use Rattle.layout.specs.Only.{Only, only_then, only_of, only_written}

-- reference j's are written, and of the other rows only some change
pub record ReferenceRows (rs : List ℕ) (u j id turns : ℕ) (xs t : List ℕ) : Type 0 where
  pub only : Only rs u xs t
  pub axis : row t u root_axis ≡ set (row xs u root_axis) j id
  pub sign : row t u root_sign ≡ set (row xs u root_sign) j turns

abbrev pub reference_rows : List ℕ
reference_rows = root_axis ∷ root_sign ∷ []

pub reference_rows_lem : {u j id turns : ℕ} {xs xs' t : List ℕ} → row_count * u ≤ length xs → j < u → Written xs u root_axis j id xs'
    → Written xs' u root_sign j turns t → ReferenceRows reference_rows u j id turns xs t
unfolding member any_of all_of
reference_rows_lem {u} {j} {id} {turns} {xs} {xs'} {t} h b a s =
    let long : row_count * u ≤ length xs' = omega (arith, a.long) in
    let x = only_written h (omega arith) b a in
    let y = only_written long (omega arith) b s in
    record {
      only = only_then (only_of _ refl x) (only_of _ refl y);
      axis = y.rows root_axis (omega arith) refl ∙ written_row h (omega arith) b a;
      sign = written_row long (omega arith) b s ∙ ap (λ (q : List ℕ). set q j turns) (x.rows root_sign (omega arith) refl);
    }

module _ {rs : List ℕ} {u j id turns : ℕ} {xs t : List ℕ} (w : ReferenceRows rs u j id turns xs t) where
  pub axis_own : row_count * u ≤ length xs → j < u → get_or (row t u root_axis) j 0 ≡ id
  axis_own long b = entry_own xs u root_axis j id w.axis long (omega arith) b

  pub sign_own : row_count * u ≤ length xs → j < u → get_or (row t u root_sign) j 0 ≡ turns
  sign_own long b = entry_own xs u root_sign j turns w.sign long (omega arith) b

  pub axis_other : (i : ℕ) → i ≢ j → get_or (row t u root_axis) i 0 ≡ get_or (row xs u root_axis) i 0
  axis_other = entry_other xs u root_axis j id w.axis

  pub sign_other : (i : ℕ) → i ≢ j → get_or (row t u root_sign) i 0 ≡ get_or (row xs u root_sign) i 0
  sign_other = entry_other xs u root_sign j turns w.sign
