-- "frame rows are carried if anything was absorbed, else kept": the rows after a stream are the images of the rows before it. Assumes nothing.
use Rattle.std.specs.Prelude.{◌≡◌, eqb, length}
use Rattle.std.proofs.Math.Path.{refl, sym, ap₂}
use Rattle.std.proofs.Common.{◌∙◌, ap, le_trans, eqb-true}
use mathlib.Core.List.{List, [], ◌∷◌, ◌++◌, map, map-append, append_assoc, append-nil}
use Prim.Native.Nat.{ℕ, ◌+◌, ◌%◌, ◌<◌}
use Rattle.model.specs.Program.{Operation}
use Rattle.model.specs.Words.{word_of}
use Rattle.model.specs.Packing.{SignedAxis}
use Rattle.model.specs.Stream.{Pass, Rowed, axis_image, image_id, carry_axis, carry_rows_from, carry_rows}
use Rattle.theory.specs.Cases.{by_if, on_if}
use Rattle.theory.specs.Every.{Every, every_one}
use Rattle.theory.specs.Ids.{Grows, grows_refl, grows_trans}
use Rattle.theory.specs.StreamState.{carried_id}
use Rattle.words_wellformed.specs.HeldImages.{sign_add}
use Rattle.words_wellformed.specs.PassWords.{WellRow, WellPass, rows_more, axis_image_signed, carry_axis_well}
use Rattle.effect.specs.Phase.{Quarter, q0, quarter, count, add4_zero, ◌⊞₄◌}
use Rattle.effect.proofs.Clifford.{Cliff, carry_row}
use Rattle.effect.specs.Packed.{Packed, packed}
use Rattle.effect.proofs.Bridge.{ImagesOf}
use Rattle.packing_effect.specs.Source.{packed_row}
use Rattle.stream_effect.specs.PackedAxes.{packed_word}
use Rattle.stream_effect.specs.Carry.{quarter_carried}
use Rattle.stream_effect.specs.Follows.{word_at, image_word, image_turns}
use Rattle.stream_effect.specs.StreamItems.{image_put, carry_axis_grows}

module _ (l : ℕ) (operations : List Operation) where
  abbrev W : Type 0
  W = Packed l

  abbrev Well : Pass → Type 0
  Well = WellPass l (Unit {0})

  abbrev WellRows : List (List ℕ) → List SignedAxis → Type 0
  WellRows axes fs = Every (WellRow (Unit {0}) (length axes)) fs

  -- rows by their axes
  abbrev pub rows_of : List (List ℕ) → List SignedAxis → List (Quarter × W)
  rows_of axes fs = map (packed_row (packed_word l) axes) fs

  -- more axes change no row
  pub rows_of_grows : (xs ys : List (List ℕ)) → Grows xs ys → (fs : List SignedAxis) → WellRows xs fs → rows_of ys fs ≡ rows_of xs fs
  rows_of_grows xs ys g [] h = refl
  rows_of_grows xs ys g (f ∷ fs) h =
      ap₂ (λ (w : List ℕ) (rest : List (Quarter × W)). (quarter f.sign, packed_word l w) ∷ rest) (g.keeps f.axis h.0.0)
      (rows_of_grows xs ys g fs h.1)

  -- ---- one row is carried

  abbrev row_after : Pass → SignedAxis → SignedAxis
  row_after q f = record { axis = image_id l q f.axis; sign = ((axis_image l q f.axis).turns + f.sign) % 4 }

  carried_row : (p : Pass) (F : Cliff (packed l)) → ImagesOf l p.held F → Well p → (f : SignedAxis) → f.axis < length p.store.axes
      → packed_row (packed_word l) (carry_axis l p f.axis).store.axes (row_after (carry_axis l p f.axis) f)
      ≡ carry_row (packed l) F (packed_row (packed_word l) p.store.axes f)
  unfolding carry_row
  carried_row p F holds w f b = λ i. (turns i, word i)
    where
      a : ℕ
      a = f.axis

      q : Pass
      q = carry_axis l p a

      g : Grows p.store.axes q.store.axes
      g = carry_axis_grows l operations p a

      same : word_at l operations q.store.axes a ≡ word_at l operations p.store.axes a
      same = ap (packed_word l) (g.keeps a b)

      held : ImagesOf l q.held F
      held = unfold carry_axis in holds

      put : word_of q.store.axes (image_id l q a) ≡ (axis_image l q a).word
      put = image_put l operations q a (carried_id l p a b)

      turns : quarter (((axis_image l q a).turns + f.sign) % 4) ≡ quarter f.sign ⊞₄ (F.im (word_at l operations p.store.axes a)).0
      turns =
          ap (λ (t : ℕ). quarter ((t + f.sign) % 4))
          (image_turns l operations q F held (carry_axis_well l (Unit {0}) p a w).well.stored a (le_trans b g.longer) put
          ∙ ap (λ (P : W). count (F.im P).0) same)
          ∙ quarter_carried (F.im (word_at l operations p.store.axes a)).0 f.sign

      word : word_at l operations q.store.axes (image_id l q a) ≡ (F.im (word_at l operations p.store.axes a)).1
      word =
          image_word l operations q F held (carry_axis_well l (Unit {0}) p a w).well.stored a (le_trans b g.longer) put
          ∙ ap (λ (P : W). (F.im P).1) same

  -- ---- all rows

  carry_rows_from_grows : (p : Pass) (done rest : List SignedAxis) → Grows p.store.axes (carry_rows_from l p done rest).pass.store.axes
  unfolding carry_rows_from
  carry_rows_from_grows p done [] = grows_refl _
  carry_rows_from_grows p done (f ∷ rest) =
      grows_trans (carry_axis_grows l operations p f.axis) (carry_rows_from_grows (carry_axis l p f.axis) _ rest)

  pub carry_rows_grows : (p : Pass) (rows : List SignedAxis) → Grows p.store.axes (carry_rows l p rows).pass.store.axes
  unfolding carry_rows
  carry_rows_grows p rows =
      by_if (λ (x : Rowed). Grows p.store.axes x.pass.store.axes) _ _ _ (grows_refl _) (carry_rows_from_grows p [] rows)

  module _ (F : Cliff (packed l)) where
    abbrev images : List (Quarter × W) → List (Quarter × W)
    images rows = map (carry_row (packed l) F) rows

    -- the row that comes, behind those that are done
    row_step : (p : Pass) → ImagesOf l p.held F → Well p → (done : List SignedAxis) (f : SignedAxis) (rest : List SignedAxis)
        → WellRows p.store.axes done → WellRows p.store.axes (f ∷ rest)
        → rows_of (carry_axis l p f.axis).store.axes (done ++ (row_after (carry_axis l p f.axis) f ∷ []))
        ++ images (rows_of (carry_axis l p f.axis).store.axes rest)
        ≡ rows_of p.store.axes done ++ images (rows_of p.store.axes (f ∷ rest))
    row_step p holds w done f rest d h =
        ap₂ (λ (x y : List (Quarter × W)). x ++ images y) front (rows_of_grows xs ys g rest h.1)
        ∙ append_assoc (rows_of xs done) (carry_row (packed l) F (packed_row (packed_word l) xs f) ∷ []) (images (rows_of xs rest))
      where
        xs : List (List ℕ)
        xs = p.store.axes

        ys : List (List ℕ)
        ys = (carry_axis l p f.axis).store.axes

        g : Grows p.store.axes (carry_axis l p f.axis).store.axes
        g = carry_axis_grows l operations p f.axis

        row : SignedAxis
        row = row_after (carry_axis l p f.axis) f

        front : rows_of ys (done ++ (row ∷ [])) ≡ rows_of xs done ++ (carry_row (packed l) F (packed_row (packed_word l) xs f) ∷ [])
        front =
            map-append (packed_row (packed_word l) ys) done (row ∷ [])
            ∙ ap₂ (λ (x : List (Quarter × W)) (y : Quarter × W). x ++ (y ∷ [])) (rows_of_grows xs ys g done d) (carried_row p F holds w f h.0.0)

    carry_rows_from_images : (p : Pass) (done rest : List SignedAxis) → ImagesOf l p.held F → Well p → WellRows p.store.axes done
        → WellRows p.store.axes rest
        → rows_of (carry_rows_from l p done rest).pass.store.axes (carry_rows_from l p done rest).rows
        ≡ rows_of p.store.axes done ++ images (rows_of p.store.axes rest)
    unfolding carry_rows_from
    carry_rows_from_images p done [] holds w d h = sym (append-nil (rows_of p.store.axes done))
    carry_rows_from_images p done (f ∷ rest) holds w d h =
        carry_rows_from_images (carry_axis l p f.axis) (done ++ (row_after (carry_axis l p f.axis) f ∷ [])) rest (held p f holds)
        (carry_axis_well l (Unit {0}) p f.axis w).well (more p done f w d h.0)
        (rows_more (Unit {0}) _ _ rest (carry_axis_grows l operations p f.axis).longer h.1)
        ∙ row_step p holds w done f rest d h
      where
        held : (p : Pass) (f : SignedAxis) → ImagesOf l p.held F → ImagesOf l (carry_axis l p f.axis).held F
        held p f holds = unfold carry_axis in holds

        more : (p : Pass) (done : List SignedAxis) (f : SignedAxis) → Well p → WellRows p.store.axes done
            → WellRow (Unit {0}) (length p.store.axes) f
            → WellRows (carry_axis l p f.axis).store.axes (done ++ (row_after (carry_axis l p f.axis) f ∷ []))
        more p done f w d h =
            let q = carry_axis l p f.axis in
            let g = carry_axis_well l (Unit {0}) p f.axis w in
            every_one (WellRow (Unit {0}) (length q.store.axes)) done (row_after q f) (rows_more (Unit {0}) _ _ done g.longer d)
            (carried_id l p f.axis h.0, λ t. sign_add _ f.sign ((axis_image_signed l (Unit {0}) q f.axis g.well).sign t) (h.1 t))

    -- nothing was absorbed: F moves no row
    still_rows : ((P : W) → F.im P ≡ (q0, P)) → (rows : List (Quarter × W)) → images rows ≡ rows
    unfolding carry_row
    still_rows still [] = refl
    still_rows still (a ∷ rows) =
        ap₂ (λ (x : Quarter × W) (xs : List (Quarter × W)). x ∷ xs)
        (ap (λ (b : Quarter × W). (a.0 ⊞₄ b.0, b.1)) (still a.1) ∙ (λ i. (add4_zero a.0 i, a.1))) (still_rows still rows)

    -- carried or kept
    pub carry_rows_images : (p : Pass) (rows : List SignedAxis) → ImagesOf l p.held F → (p.absorbed ≡ 0 → (P : W) → F.im P ≡ (q0, P))
        → Well p → WellRows p.store.axes rows
        → rows_of (carry_rows l p rows).pass.store.axes (carry_rows l p rows).rows ≡ images (rows_of p.store.axes rows)
    unfolding carry_rows
    carry_rows_images p rows holds still w h =
        on_if (λ (x : Rowed). rows_of x.pass.store.axes x.rows ≡ images (rows_of p.store.axes rows)) (eqb p.absorbed 0)
        (record { pass = p; rows = rows }) (carry_rows_from l p [] rows)
        (λ e. sym (still_rows (still (eqb-true p.absorbed 0 e)) (rows_of p.store.axes rows)))
        (λ e. carry_rows_from_images p [] rows holds w tt h)
