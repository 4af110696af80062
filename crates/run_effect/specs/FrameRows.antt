-- The frame rows at a point of a run: a root's is the work's, any other is the source's; a stream takes each to its image. Assumes nothing.
use Rattle.std.specs.Prelude.{◌≡◌, Bool, true, false, ℕ, suc, ◌*◌, ◌<◌}
use Rattle.std.proofs.Math.Path.{refl, ap}
use Rattle.std.proofs.Common.{sym, ◌∙◌, ap₂, subst, inl, inr, arith}
use mathlib.Core.List.{List, [], ◌∷◌, map}
use Rattle.std.proofs.Math.ListN.{length}
use Rattle.pauli.specs.Word.{width}
use Rattle.model.specs.Lists.{when◌then◌else◌, keep}
use Rattle.model.specs.Program.{PauliRef, Program}
use Rattle.model.specs.Rules.{Rules}
use Rattle.model.specs.Words.{Value, as_value, scaled}
use Rattle.model.specs.Value.{value_at}
use Rattle.model.specs.Roots.{is_root}
use Rattle.model.specs.Packing.{values_of, packed, SignedAxis}
use Rattle.model.specs.Stream.{stream, begin}
use Rattle.model.specs.Rounds.{Work}
use Rattle.model.specs.Results.{axes_left}
use Rattle.model.specs.Run.{start_of}
use Rattle.theory.specs.Every.{Every}
use Rattle.theory.specs.PlainValue.{plain_value_lem}
use Rattle.theory.specs.PackedRoots.{In}
use Rattle.theory.specs.Checked.{Fine, RowIn}
use Rattle.run_wellformed.specs.Points.{Reached}
use Rattle.effect.specs.Phase.{Quarter, q0, quarter, quarter_count, add4_zero, ◌⊞₄◌}
use Rattle.effect.proofs.Clifford.{Cliff, carry_row}
use Rattle.effect.specs.Packed.{Packed, packed_ext}
use Rattle.effect.specs.Packed as PackedWords
use Rattle.effect.proofs.Bridge.{value_of, ImagesOf, holds_image}
use Rattle.packing_effect.specs.Source.{plain_ref, source_row, packed_row}
use Rattle.kept_rows.specs.Mentions.{node_word}
use Rattle.kept_rows.specs.KeptRows.{row_unmoved}
use Rattle.stream_effect.specs.PackedAxes.{packed_word, packed_word_is}
use Rattle.result_effect.specs.Definitions.{work_row, work_rows_from}

-- ---- rows and their images, one by one

module _ {W : Type 0} (word : List ℕ → W) (p : Program) where
  abbrev Row : Type 0
  Row = Quarter × W

  abbrev head : Row → List Row → Row
  head d [] = d
  head d (x ∷ xs) = x

  abbrev tail : List Row → List Row
  tail [] = []
  tail (x ∷ xs) = xs

  -- g moves a root's row as it does the work's, and no other row
  pub rows_moved : (g : Row → Row) (xs ys : List (List ℕ)) (rest : List PauliRef) (fs fs' : List SignedAxis)
      → ((r : PauliRef) → In r rest → is_root p r ≡ false → g (source_row word p r) ≡ source_row word p r)
      → length fs ≡ length (keep (is_root p) rest) → map (packed_row word ys) fs' ≡ map g (map (packed_row word xs) fs)
      → work_rows_from word p ys rest fs' ≡ map g (work_rows_from word p xs rest fs)
  unfolding work_rows_from work_row axes_left keep when◌then◌else◌
  rows_moved g xs ys [] fs fs' kept n e = refl
  rows_moved g xs ys (r ∷ rest) fs fs' kept n e =
      go (λ fs fs' m f. rows_moved g xs ys rest fs fs' (λ x i. kept x (inr i)) m f) (is_root p r) refl fs fs' n e
    where
      -- of the rows after it
      Later : Type 0
      Later =
          (fs fs' : List SignedAxis) → length fs ≡ length (keep (is_root p) rest) → map (packed_row word ys) fs' ≡ map g
          (map (packed_row word xs) fs)
          → work_rows_from word p ys rest fs' ≡ map g (work_rows_from word p xs rest fs)

      go : Later → (b : Bool) → is_root p r ≡ b → (fs fs' : List SignedAxis)
          → length fs ≡ length (when b then r ∷ keep (is_root p) rest else keep (is_root p) rest)
          → map (packed_row word ys) fs' ≡ map g (map (packed_row word xs) fs)
          → work_row word p ys b r fs' ∷ work_rows_from word p ys rest (axes_left b fs')
          ≡ map g (work_row word p xs b r fs ∷ work_rows_from word p xs rest (axes_left b fs))
      go later false b fs fs' n e = ap₂ (λ (x : Row) (l : List Row). x ∷ l) (sym (kept r (inl refl) b)) (later fs fs' n e)
      go later true b [] fs' n e = absurd (omega arith)
      go later true b (f ∷ fs) [] n e =
          let z : ◌≡◌ {A = ℕ} 0 (suc (length (map g (map (packed_row word xs) fs)))) = ap length e in
          absurd (omega arith)
      go later true b (f ∷ fs) (f' ∷ fs') n e =
          ap₂ (λ (x : Row) (l : List Row). x ∷ l) (ap (head (packed_row word ys f')) e) (later fs fs' (omega arith) (ap tail e))

  -- the work's rows are the source's
  pub rows_source : (xs : List (List ℕ)) (rest : List PauliRef) (fs : List SignedAxis)
      → map (packed_row word xs) fs ≡ map (source_row word p) (keep (is_root p) rest) → work_rows_from word p xs rest fs ≡ map (source_row word p) rest
  unfolding work_rows_from work_row axes_left keep when◌then◌else◌
  rows_source xs [] fs e = refl
  rows_source xs (r ∷ rest) fs e = go (rows_source xs rest) (is_root p r) fs e
    where
      -- of the rows after it
      Later : Type 0
      Later = (fs : List SignedAxis) → map (packed_row word xs) fs ≡ map (source_row word p) (keep (is_root p) rest)
          → work_rows_from word p xs rest fs ≡ map (source_row word p) rest

      go : Later → (b : Bool) (fs : List SignedAxis)
          → map (packed_row word xs) fs ≡ map (source_row word p) (when b then r ∷ keep (is_root p) rest else keep (is_root p) rest)
          → work_row word p xs b r fs ∷ work_rows_from word p xs rest (axes_left b fs) ≡ source_row word p r ∷ map (source_row word p) rest
      go later false fs e = ap (λ (l : List Row). source_row word p r ∷ l) (later fs e)
      go later true [] e =
          let z : ◌≡◌ {A = ℕ} 0 (suc (length (map (source_row word p) (keep (is_root p) rest)))) = ap length e in
          absurd (omega arith)
      go later true (f ∷ fs) e = ap₂ (λ (x : Row) (l : List Row). x ∷ l) (ap (head (packed_row word xs f)) e) (later fs (ap tail e))

-- ---- a row that is no root

module _ (p : Program) (fine : Fine p) (hermitian : (packed p).refused ≡ false) (r : Rules) where
  abbrev l : ℕ
  l = width p.qubits

  row_in : (f : PauliRef) (rows : List PauliRef) → Every (RowIn (length p.nodes)) rows → In f rows → f.node < length p.nodes
  row_in f [] h i = absurd i
  row_in f (x ∷ rows) h (inl e) = subst (λ (y : PauliRef). y.node < length p.nodes) e h.0
  row_in f (x ∷ rows) h (inr i) = row_in f rows h.1 i

  -- F, whose images a stream of the run holds, does not move it
  pub root_less_row : {v : Work} → Reached l r (start_of p) v → (merging : Bool) (F : Cliff (PackedWords.packed l))
      → ImagesOf l (stream l r merging (begin v.store) v.items).held F → (f : PauliRef) → In f p.rows → is_root p f ≡ false
      → carry_row (PackedWords.packed l) F (source_row (packed_word l) p f) ≡ source_row (packed_word l) p f
  unfolding carry_row
  root_less_row {v} h merging F holds f i no_root =
      ap (λ (b : Quarter × Packed l). (quarter (plain_ref p f).turns ⊞₄ b.0, b.1)) im_own
      ∙ (λ j. (add4_zero (quarter (plain_ref p f).turns) j, packed_word l (plain_ref p f).word))
    where
      inside : f.node < length p.nodes
      inside = row_in f p.rows fine.rows i

      w : List ℕ
      w = (value_at (values_of p) f.node).word

      long : length (value_at (values_of p) f.node).word ≡ 2 * l
      long = (node_word p fine f.node inside).long

      own : packed_word l (plain_ref p f).word ≡ (w, long)
      own =
          unfold scaled in
          (ap (λ (v : Value). packed_word l v.word) (plain_value_lem l p.nodes fine.ordered f.node inside) ∙ packed_word_is l w long)

      image : value_of l (F.im (w, long)) ≡ as_value w
      image =
          sym (holds_image l (stream l r merging (begin v.store) v.items).held F holds w (node_word p fine f.node inside))
          ∙ row_unmoved p fine hermitian r f i no_root h merging

      turns : (F.im (w, long)).0 ≡ q0
      turns = sym (quarter_count (F.im (w, long)).0) ∙ ap (λ (v : Value). quarter v.turns) image ∙ unfold quarter in refl

      same : (F.im (w, long)).1 ≡ (w, long)
      same = packed_ext l (F.im (w, long)).1 (w, long) (ap (λ (v : Value). v.word) image)

      im_own : F.im (packed_word l (plain_ref p f).word) ≡ (q0, packed_word l (plain_ref p f).word)
      im_own = ap F.im own ∙ (λ j. (turns j, same j)) ∙ ap (λ (P : Packed l). (q0, P)) (sym own)
