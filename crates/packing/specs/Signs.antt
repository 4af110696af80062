-- After the last node's turn: the rows of roots' axes and signs are the model's. Assumes nothing.
use Rattle.std.specs.Prelude.{◌≡◌, Bool, true, false, ℕ, ◌+◌, ◌<◌}
use Rattle.std.proofs.Math.Path.{refl, sym, ap}
use Rattle.std.proofs.Common.{◌∙◌, arith}
use mathlib.Core.List.{List, map, ◌++◌}
use Rattle.std.proofs.Math.ListN.{length, get_or, length-map, get_or-map}
use Rattle.model.specs.Program.{PauliRef, Program}
use Rattle.model.specs.Roots.{is_root, operation_root}
use Rattle.model.specs.Packing.{packed, values_of, SignedAxis, signed_axis}
use Rattle.model.specs.Results.{no_operation}
use Rattle.theory.specs.Cases.{if_true, if_false}
use Rattle.theory.specs.Lists.{map_front, map_all}
use Rattle.layout.specs.declared.Shape.{Shape}
use Rattle.packing_states.specs.References.{no_reference, reference_at, total, is_root_at}
use Rattle.packing_states.specs.ReferenceLaws.{total_sum, operation_kept, row_at, row_kept}
use Rattle.packing_states.specs.States.{value_of}
use Rattle.packing_states.specs.Linked.{Linked}
use Rattle.packing_states.specs.InMemory.{OfShape}
use Rattle.packing.specs.Holding.{SignedAt}
use Rattle.packing.specs.Packed.{sign_at, signs_in, row_sign, signs_of}

-- ---- reference by reference

module _ {p : Program} {z : Shape} {xs : List ℕ} (w : OfShape p z) (linked : Linked p z xs)
    (signed : (j : ℕ) → j < total p → is_root_at p j ≡ true → SignedAt p z.u (packed p).store.axes xs j) where
  abbrev sign_of : PauliRef → SignedAxis
  sign_of = signed_axis (packed p).store.axes (values_of p)

  root_sign : (j : ℕ) → j < total p → is_root_at p j ≡ true → sign_at z xs j ≡ sign_of (reference_at p j)
  unfolding signed_axis value_of
  root_sign j b r = let s = signed j b r in rw (s.axis, s.sign) refl

  operation_sign : (k : ℕ) → k < length p.operations → sign_at z xs (k + 0) ≡ sign_of (operation_root (get_or p.operations k no_operation))
  unfolding operation_root no_operation
  operation_sign k b =
      let o = operation_kept p k (omega (arith, length-map p.operations operation_root)) in
      root_sign (k + 0) (omega (arith, total_sum p)) o.0
      ∙ ap sign_of (o.1 ∙ get_or-map operation_root p.operations k no_operation)

  row_sign_lem : (k : ℕ) → k < length p.rows
      → sign_at z xs (k + (length p.operations + 0)) ≡ row_sign p (get_or p.rows k no_reference)
  unfolding row_sign
  row_sign_lem k b =
      let e : length p.operations ≡ length (map operation_root p.operations) = sym (length-map p.operations operation_root) in
      rw e (go (is_root p r) refl)
    where
      r : PauliRef
      r = get_or p.rows k no_reference

      j : ℕ
      j = k + (length (map operation_root p.operations) + 0)

      in_all : j < total p
      in_all = omega (arith, total_sum p, length-map p.operations operation_root)

      go : (t : Bool) → is_root p r ≡ t → sign_at z xs j ≡ row_sign p r
      go true e = root_sign j in_all (row_kept p k ∙ e) ∙ ap sign_of (row_at p k) ∙ sym (if_true _ _ e)
      go false e =
          let q = row_kept p k ∙ e in
          rw (linked.no_axis_lem j (omega arith) in_all q, linked.no_sign j (omega arith) in_all q) (sym (if_false _ _ e))

  pub signs_are : signs_in z xs ≡ signs_of p
  unfolding signs_in signs_of
  signs_are =
      let ops = p.operations in
      map_front (sign_at z xs) (λ o. sign_of (operation_root o)) no_operation ops 0 (length p.rows) _ (sym w.references ∙ total_sum p)
      operation_sign
      ∙ ap (λ (ys : List SignedAxis). map (λ o. sign_of (operation_root o)) ops ++ ys)
      (map_all (sign_at z xs) (row_sign p) no_reference p.rows (length ops + 0) row_sign_lem)
