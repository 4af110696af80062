-- Linking one reference, and what it adds to the links of the references behind it. Assumes nothing.
use Rattle.std.specs.Prelude.{◌≡◌, true, false, eqb, length, get_or}
use Rattle.std.proofs.Math.Path.{refl, sym, ap}
use Rattle.std.proofs.Common.{◌∙◌, true≢false, eq-eqb, ne_eqb}
use mathlib.Core.List.{List, [], ◌∷◌}
use Prim.Native.Nat.{ℕ, suc, ◌+◌, ◌*◌, ◌≤◌, ◌<◌}
use native.Mathlib.Omega.{arith}
use Rattle.std.proofs.Math.Decide.{ℕ_discrete}
use Rattle.std.proofs.Math.ListN.{set}
use Rattle.store.specs.Row.{row, row_length, Written}
use Rattle.model.specs.Lists.{all_of, any_of, member}
use Rattle.model.specs.Program.{Program}
use Rattle.model.specs.Packing.{one_use_more}
use Rattle.theory.specs.Cases.{if_false}
use Rattle.layout.specs.declared.Shape.{Shape}
use Rattle.layout.specs.Rows.{row_count, relevant_row, uses_row, first_root, next_root, root_axis}
use Rattle.layout.specs.Rows.{root_sign, no_axis, written_row, entry_own, entry_other}
use Rattle.layout.specs.Only.{Only, only_of, only_then, only_written}
use Rattle.packing_states.specs.References.{reference_at, total, is_root_at, root_of, link_from}
use Rattle.packing_states.specs.ReferenceLaws.{roots_from, roots_from_step, roots_from_end, link_end, link_here, link_past}
use Rattle.packing_states.specs.Counts.{more_at}
use Rattle.packing_states.specs.ReferenceRows.{axis_own, sign_own, axis_other, sign_other}
use Rattle.roots.specs.UseCounts.{AddPre, Added}
use Rattle.roots.specs.Links.{FrontPre, front_rows, InFront, NoRoot, link_rows, RowLinked, LinksFrom}

-- ---- what the writes leave

module _ {s s₁ s₂ : List ℕ} {u j n x : ℕ} (pre : FrontPre s u j n)
    (w₁ : Written s u next_root j x s₁) (w₂ : Written s₁ u first_root n (j + 1) s₂) where
  long₁ : row_count * u ≤ length s₁
  long₁ = omega (arith, pre.long, w₁.long)

  only₁ : Only (next_root ∷ []) u s s₁
  only₁ = only_written pre.long (omega arith) pre.root w₁

  only₂ : Only (first_root ∷ []) u s₁ s₂
  only₂ = only_written long₁ (omega arith) pre.node w₂

  uses₂ : row s₂ u uses_row ≡ row s u uses_row
  unfolding member any_of
  uses₂ = only₂.rows uses_row (omega arith) refl ∙ only₁.rows uses_row (omega arith) refl

  pub front_add : AddPre s₂ u n
  front_add = record {
    long = omega (arith, long₁, w₂.long);
    node = pre.node;
    uses = rw uses₂ pre.uses;
  }

  pub in_front : {t : List ℕ} → x ≡ get_or (row s u first_root) n 0 → Added s₂ u n t → InFront s u j n t
  unfolding member any_of all_of
  in_front {t} e a = record {
    only = only_then (only_of front_rows refl only₁) (only_then (only_of front_rows refl only₂) (only_of front_rows refl a.only));
    next = a.only.rows next_root (omega arith) refl ∙ only₂.rows next_root (omega arith) refl
        ∙ written_row pre.long (omega arith) pre.root w₁ ∙ ap (set (row s u next_root) j) e;
    first = a.only.rows first_root (omega arith) refl ∙ written_row long₁ (omega arith) pre.node w₂
        ∙ ap (λ (r : List ℕ). set r n (j + 1)) (only₁.rows first_root (omega arith) refl)
        ∙ ap (set (row s u first_root) n) (let z : j + 1 ≡ suc j = omega arith in z);
    uses = a.uses ∙ ap (one_use_more n) uses₂;
  }

module _ {s t : List ℕ} {u j n : ℕ} where
  pub row_root : (get_or (row s u relevant_row) n 0 ≡ 0 → ⊥) → InFront s u j n t → RowLinked s u j n t
  unfolding member any_of all_of
  row_root ne f = record { only = only_of link_rows refl f.only; root = λ h. f; no_root = λ e. absurd (ne e) }

  pub row_none : get_or (row s u relevant_row) n 0 ≡ 0 → NoRoot s u j t → RowLinked s u j n t
  unfolding member any_of all_of
  row_none e f = record { only = only_of link_rows refl f.only; root = λ ne. absurd (ne e); no_root = λ h. f }

-- ---- the tests of reference j

module _ (p : Program) (j : ℕ) where
  -- a root is its node's
  root_test : is_root_at p j ≡ true → (n m : ℕ) → (reference_at p j).node ≡ n → root_of p m j ≡ eqb n m
  unfolding root_of
  root_test e n m d = rw (e, d) refl

  -- else no node's
  no_test : is_root_at p j ≡ false → (m : ℕ) → root_of p m j ≡ false
  unfolding root_of
  no_test e m = rw e refl

-- ---- one reference more

module _ (p : Program) (z : Shape) (j : ℕ) (s t : List ℕ) (long : row_count * z.u ≤ length s) (b : j < total p) (k : total p ≤ z.u)
    (f : LinksFrom p z (suc j) s) where
  -- a root
  module _ (e : is_root_at p j ≡ true) (n : ℕ) (d : (reference_at p j).node ≡ n) (h : n < z.nodes) (g : z.nodes ≤ z.u)
      (w : InFront s z.u j n t) where
    root_first : (m : ℕ) → m < z.nodes → Dec (m ≡ n) → get_or (row t z.u first_root) m 0 ≡ link_from p m j
    root_first m l (yes q) =
        rw q (entry_own s z.u first_root n (suc j) w.first long (omega arith) (omega arith)
        ∙ sym (link_here p n j b (root_test p j e n n d ∙ eq-eqb n n refl)))
    root_first m l (no q) =
        entry_other s z.u first_root n (suc j) w.first m q ∙ f.linked.first m l
        ∙ sym (link_past p m j b (root_test p j e n m d ∙ ne_eqb n m (λ x. q (sym x))))

    root_uses : (m : ℕ) → m < z.nodes → get_or (row t z.u uses_row) m 0 ≡ roots_from p m j
    root_uses m l =
        let step = roots_from_step p m j b in
        let in_row : m < length (row s z.u uses_row) = omega (arith, row_length s z.u row_count uses_row long (omega arith)) in
        rw (w.uses, more_at (row s z.u uses_row) n m in_row, sym (root_test p j e n m d)) (omega (arith, step, f.uses m l))

    root_next : (i : ℕ) → j ≤ i → i < total p → is_root_at p i ≡ true → Dec (i ≡ j)
        → get_or (row t z.u next_root) i 0 ≡ link_from p (reference_at p i).node (suc i)
    root_next i a l r (yes q) =
        rw (q, d) (entry_own s z.u next_root j _ w.next long (omega arith) (omega arith) ∙ f.linked.first n h)
    root_next i a l r (no q) = entry_other s z.u next_root j _ w.next i q ∙ f.linked.next i (omega arith) l r

    -- it has its axis later
    later : (i : ℕ) → j ≤ i → is_root_at p i ≡ false → suc j ≤ i
    later i a r =
        let other : i ≡ j → ⊥ = λ q. true≢false (sym e ∙ ap (is_root_at p) (sym q) ∙ r) in
        omega arith

    pub link_root : LinksFrom p z j t
    unfolding member any_of
    link_root = record {
      linked = record {
        first = λ m l. root_first m l (ℕ_discrete m n);
        next = λ i a l r. root_next i a l r (ℕ_discrete i j);
        no_axis_lem = λ i a l r. rw (w.only.rows root_axis (omega arith) refl) (f.linked.no_axis_lem i (later i a r) l r);
        no_sign = λ i a l r. rw (w.only.rows root_sign (omega arith) refl) (f.linked.no_sign i (later i a r) l r);
      };
      uses = root_uses;
    }

  -- no root
  module _ (e : is_root_at p j ≡ false) (w : NoRoot s z.u j t) where
    none_uses : (m : ℕ) → m < z.nodes → get_or (row s z.u uses_row) m 0 ≡ roots_from p m j
    none_uses m l = omega (arith, f.uses m l, roots_from_step p m j b, if_false {A = ℕ} 1 0 (no_test p j e m))

    none_next : (i : ℕ) → j ≤ i → is_root_at p i ≡ true → suc j ≤ i
    none_next i a r =
        let other : i ≡ j → ⊥ = λ q. true≢false (sym r ∙ ap (is_root_at p) q ∙ e) in
        omega arith

    none_axis : (i : ℕ) → j ≤ i → i < total p → is_root_at p i ≡ false → Dec (i ≡ j) → get_or (row t z.u root_axis) i 0 ≡ no_axis
    none_axis i a l r (yes q) = rw q (axis_own w long (omega arith))
    none_axis i a l r (no q) = axis_other w i q ∙ f.linked.no_axis_lem i (omega arith) l r

    none_sign : (i : ℕ) → j ≤ i → i < total p → is_root_at p i ≡ false → Dec (i ≡ j) → get_or (row t z.u root_sign) i 0 ≡ 0
    none_sign i a l r (yes q) = rw q (sign_own w long (omega arith))
    none_sign i a l r (no q) = sign_other w i q ∙ f.linked.no_sign i (omega arith) l r

    pub link_no_root : LinksFrom p z j t
    unfolding member any_of
    link_no_root = record {
      linked = record {
        first = λ m l. rw (w.only.rows first_root (omega arith) refl) (f.linked.first m l ∙ sym (link_past p m j b (no_test p j e m)));
        next = λ i a l r. rw (w.only.rows next_root (omega arith) refl) (f.linked.next i (none_next i a r) l r);
        no_axis_lem = λ i a l r. none_axis i a l r (ℕ_discrete i j);
        no_sign = λ i a l r. none_sign i a l r (ℕ_discrete i j);
      };
      uses = λ m l. rw (w.only.rows uses_row (omega arith) refl) (none_uses m l);
    }

-- ---- before the first

pub linked_none : (p : Program) (z : Shape) (t : List ℕ) → ((n : ℕ) → n < z.nodes → get_or (row t z.u first_root) n 0 ≡ 0)
    → ((n : ℕ) → n < z.nodes → get_or (row t z.u uses_row) n 0 ≡ 0) → LinksFrom p z (total p) t
linked_none p z t f g = record {
  linked = record {
    first = λ n h. f n h ∙ sym (link_end p n);
    next = λ i a l r. absurd (omega arith);
    no_axis_lem = λ i a l r. absurd (omega arith);
    no_sign = λ i a l r. absurd (omega arith);
  };
  uses = λ n h. g n h ∙ sym (roots_from_end p n);
}
