-- Every field of an accepted listing is in its column: no digit is cut off. Assumes nothing.
use Rattle.std.specs.Prelude.{◌≡◌, Bool, true, false, not, ◌&&◌, ℕ, suc, ◌+◌, ◌≤◌, ◌<◌, eqb, length}
use Rattle.std.proofs.Math.Path.{refl}
use Rattle.std.proofs.Common.{ap₂, inl, inr, arith}
use Rattle.std.proofs.Math.Option.{some}
use mathlib.Core.List.{List, [], ◌∷◌, ◌++◌, map}
use Rattle.pauli.specs.Word.{width}
use Rattle.pauli.specs.Letter.{letter_at}
use Rattle.model.specs.Answers.{Answer, Accepted}
use Rattle.model.specs.Lists.{when◌then◌else◌, count_of, is_odd}
use Rattle.model.specs.Interface.{number_of}
use Rattle.model.specs.Program.{field_of, largest_outcome, no_outcome, minus_one, Kind, rotate, measure, conditional, Operation, PauliRef, Program, program_of}
use Rattle.model.specs.Rules.{Rules, rules_of}
use Rattle.model.specs.Words.{support}
use Rattle.model.specs.Roots.{is_root}
use Rattle.model.specs.Packing.{SignedAxis}
use Rattle.model.specs.Items.{Item, rotation, barrier}
use Rattle.model.specs.Rounds.{Work}
use Rattle.model.specs.Run.{start_of, end_of}
use Rattle.model.specs.Results.{sign_field, operation_at, barrier_record, item_record, operation_results, kept_row, given_row, row_record, axes_left}
use Rattle.model.specs.Results.{row_results_from, row_results, source_t_count, result_t_count, counters_of}
use Rattle.model.specs.Listing.{Read, from16, result_line, letter_lines, refusal_lines, first_line}
use Rattle.theory.specs.Cases.{by_if}
use Rattle.theory.specs.Every.{Every, every_append, every_map}
use Rattle.theory.specs.Lists.{count_le}
use Rattle.theory.specs.StreamState.{axis_of}
use Rattle.theory.specs.ListingCalls.{options_of, listing_answer, listed_fine, listed_hermitian}
use Rattle.words_wellformed.specs.HeldImages.{acts_letter}
use Rattle.words_wellformed.specs.SupportQubits.{support_all}
use Rattle.words_wellformed.specs.Wellformed.{IdsInRange, end_ids}
use Rattle.words_wellformed.specs.RunWords.{TurnsItem}
use Rattle.run_wellformed.specs.CliffordAngles.{with_sign_small}
use Rattle.run_wellformed.specs.Points.{passes_reached}
use Rattle.run_wellformed.specs.RunWellFormed.{end_formed, results_length}
use Rattle.result_effect.specs.Records.{Stops, ItemStands, point_stands}
use Rattle.result_effect.specs.Listing.{SmallFields, fields_at, listed_fields, listed_end, listed_first, listed_rest}
use Rattle.promises.specs.Left.{AxisIn, left_in}
use Rattle.listing_columns.specs.Digits.{InColumn}
use Rattle.listing_call.specs.Reads.{SmallText}
use Rattle.listing_call.specs.Size.{few_handed, few_rows, few_items, within_limit, few_axes, one_word}
use Rattle.listing_promises.specs.Counts.{default_counts}

-- ---- fields

small_in : (n : ℕ) → n ≤ 65535 → InColumn n
small_in n h = inl (omega arith)

sign_in : (s : ℕ) → InColumn (sign_field s)
sign_in s = by_if InColumn (eqb s 0) 1 minus_one (small_in 1 (omega arith)) (inr refl)

outcome_in : (v : ℕ) → v ≤ no_outcome → InColumn (from16 v)
outcome_in v h = by_if InColumn (eqb v no_outcome) minus_one v (inr refl) (small_in v h)

-- ---- operations

barrier_in : (op : Operation) (kind : Kind) (a s : ℕ) → Stops kind → op.outcome ≤ largest_outcome → op.target ≤ no_outcome → op.angle ≤ 7
    → a ≤ 128 → Every InColumn (result_line (barrier_record op kind a s))
unfolding result_line barrier_record
barrier_in op rotate a s k o t g h = absurd k
barrier_in op measure a s k o t g h = (
  small_in 2 (omega arith),
  (
    small_in a (omega arith),
    (
      sign_in s,
      (
        small_in 0 (omega arith),
        (outcome_in op.outcome (omega arith), (outcome_in op.target t, tt)),
      ),
    ),
  ),
)
barrier_in op conditional a s k o t g h = (
  small_in 3 (omega arith),
  (
    small_in a (omega arith),
    (
      small_in 1 (omega arith),
      (
        small_in _ (omega (arith, with_sign_small s op.angle g)),
        (outcome_in op.outcome (omega arith), (outcome_in no_outcome (omega arith), tt)),
      ),
    ),
  ),
)

module _ (ops : List Operation) (fields : Every SmallFields ops) (m : ℕ) (few : m ≤ 128) where
  item_in : (i : Item) → ItemStands ops i → axis_of i < m → TurnsItem i → Every InColumn (result_line (item_record ops i))
  unfolding result_line item_record
  item_in (rotation r) h k g = (
    small_in 1 (omega arith),
    (
      small_in r.axis (omega arith),
      (
        small_in 1 (omega arith),
        (
          small_in r.angle (omega arith),
          (outcome_in no_outcome (omega arith), (outcome_in no_outcome (omega arith), tt)),
        ),
      ),
    ),
  )
  item_in (barrier o a s) h k g =
      let f = fields_at ops fields o in
      barrier_in (operation_at ops o) (operation_at ops o).kind a s h.0 (f.1 h.0) f.0 h.1 (omega arith)

  items_in_lem : (is : List Item) → Every (ItemStands ops) is → Every (λ i. axis_of i < m) is → Every TurnsItem is
      → Every (Every InColumn) (map result_line (map (item_record ops) is))
  items_in_lem [] h k g = tt
  items_in_lem (i ∷ is) h k g = (item_in i h.0 k.0 g.0, items_in_lem is h.1 k.1 g.1)

-- ---- an operation's line counts as its record does

abbrev odd_line : List ℕ → Bool
odd_line r = not (eqb (field_of r 0) 2) && is_odd (field_of r 3)

barrier_t : (op : Operation) (kind : Kind) (a s : ℕ) → Stops kind
    → odd_line (result_line (barrier_record op kind a s)) ≡ odd_line (barrier_record op kind a s)
unfolding result_line barrier_record
barrier_t op rotate a s k = absurd k
barrier_t op measure a s k = refl
barrier_t op conditional a s k = refl

item_t : (ops : List Operation) (i : Item) → ItemStands ops i → odd_line (result_line (item_record ops i)) ≡ odd_line (item_record ops i)
unfolding item_record
item_t ops (rotation r) h = unfold result_line in refl
item_t ops (barrier o a s) h = barrier_t (operation_at ops o) (operation_at ops o).kind a s h.0

items_t : (ops : List Operation) (is : List Item) → Every (ItemStands ops) is
    → result_t_count (map result_line (map (item_record ops) is)) ≡ result_t_count (map (item_record ops) is)
unfolding result_t_count count_of
items_t ops [] h = refl
items_t ops (i ∷ is) h =
    ap₂ (λ (b : Bool) (n : ℕ). (when b then 1 else 0) + n) (item_t ops i h.0) (items_t ops is h.1)

-- ---- rows

row_in : (m i : ℕ) → m ≤ 128 → i ≤ 128 → (b : Bool) (fs : List SignedAxis) → Every (AxisIn m) fs → Every InColumn (row_record b i fs)
unfolding row_record kept_row given_row
row_in m i h k false fs g = (small_in _ (omega arith), (small_in _ (omega arith), (inr refl, (small_in 0 (omega arith), tt))))
row_in m i h k true [] g = (small_in _ (omega arith), (small_in _ (omega arith), (inr refl, (small_in 0 (omega arith), tt))))
row_in m i h k true (f ∷ fs) g = (small_in _ (omega arith), (small_in _ (omega arith), (small_in _ (omega (arith, g.0)), (sign_in f.sign, tt))))

rows_in : (p : Program) (m i : ℕ) → m ≤ 128 → (rs : List PauliRef) (fs : List SignedAxis) → i + length rs ≤ 128 → Every (AxisIn m) fs
    → Every (Every InColumn) (row_results_from p i rs fs)
unfolding row_results_from
rows_in p m i h [] fs k g = tt
rows_in p m i h (r ∷ rs) fs k g = (
  row_in m i h (omega arith) (is_root p r) fs g,
  rows_in p m (suc i) h rs (axes_left (is_root p r) fs) (omega arith) (left_in m (is_root p r) fs g),
)

-- ---- letters

letters_in : (l : ℕ) → l ≡ 1 → (id : ℕ) (ws : List (List ℕ)) → id + length ws ≤ 128 → Every (Every InColumn) (letter_lines l id ws)
unfolding letter_lines
letters_in l e id [] h = tt
letters_in l e id (w ∷ ws) h =
    every_append (Every InColumn) (map (λ q. id ∷ q ∷ letter_at l w q ∷ []) (support l w)) (letter_lines l (suc id) ws)
    (every_map (λ (q : ℕ). InColumn q × InColumn (letter_at l w q)) (Every InColumn) (λ q. id ∷ q ∷ letter_at l w q ∷ [])
    (λ q k. (small_in id (omega arith), (k.0, (k.1, tt)))) (support l w)
    (support_all l w _ (λ q b a. (small_in q (omega arith), small_in (letter_at l w q) (omega (arith, (acts_letter l w q a).small))))))
    (letters_in l e (suc id) ws (omega arith))

-- ---- a listing

source_few : (ops : List Operation) → source_t_count ops ≤ length ops
unfolding source_t_count
source_few ops = count_le _ ops

result_few : (rs : List (List ℕ)) → result_t_count rs ≤ length rs
unfolding result_t_count
result_few rs = count_le _ rs

module _ (t : Read) (small : SmallText t) (yes' : listing_answer (some t) ≡ Accepted) where
  abbrev p : Program
  p = program_of t.job

  abbrev r : Rules
  r = rules_of (options_of t)

  abbrev e : Work
  e = listed_end t yes'

  -- every id is that of an axis
  ids : IdsInRange e
  ids = end_ids r 8 p (listed_fine t yes') (listed_hermitian t yes')

  -- every item is a rotation, or stands for a measurement or a conditional rotation
  stand : Every (ItemStands p.operations) e.items
  unfolding end_of
  stand =
      point_stands p (listed_fine t yes') (listed_hermitian t yes') r (passes_reached (width p.qubits) r (start_of p) r.strategy 8)

  first_in : Every InColumn (listed_first t yes')
  unfolding first_line counters_of
  first_in =
      let c = default_counts t.limit p (listed_fine t yes') in
      let a = few_handed t small yes' in
      let b = few_items t small yes' in
      let d = few_axes t small yes' in
      let n = results_length p (listed_fine t yes') r 8 in (
        small_in 0 (omega arith),
        (
          small_in _ (omega (arith, source_few p.operations)),
          (
            small_in _ (omega (arith, result_few (operation_results p e))),
            (
              small_in _ (omega (arith, c.merges)),
              (
                small_in _ (omega (arith, c.swaps)),
                (
                  small_in _ (omega (arith, c.absorbed)),
                  (
                    small_in _ (omega arith),
                    (small_in _ (omega arith), (small_in _ (omega (arith, within_limit t small yes', small.limit)), tt)),
                  ),
                ),
              ),
            ),
          ),
        ),
      )

  -- the T-count of the lines is that of the records
  pub listed_t : result_t_count (map result_line (operation_results (program_of t.job) (listed_end t yes')))
      ≡ result_t_count (operation_results (program_of t.job) (listed_end t yes'))
  unfolding operation_results
  listed_t = items_t p.operations e.items stand

  operations_in_lem : Every (Every InColumn) (map result_line (operation_results p e))
  unfolding operation_results
  operations_in_lem =
      items_in_lem p.operations (listed_fields t yes') (length e.store.axes) (few_axes t small yes') e.items stand ids.items
      (end_formed p (listed_fine t yes') r 8).turns

  frame_in : Every (Every InColumn) (row_results p e)
  unfolding row_results
  frame_in =
      rows_in p (length e.store.axes) 0 (few_axes t small yes') p.rows _ (omega (arith, few_rows t small yes'))
      (by_if (Every (AxisIn (length e.store.axes))) _ [] _ tt ids.rows)

  axes_in_lem : Every (Every InColumn) (letter_lines (width p.qubits) 0 e.store.axes)
  axes_in_lem = letters_in (width p.qubits) (one_word t small yes') 0 e.store.axes (omega (arith, few_axes t small yes'))

  -- the first line's, and those of operations, rows and letters
  pub listed_in : Every (Every InColumn) (listed_first t yes' ∷ listed_rest t yes')
  listed_in = (
    first_in,
    every_append (Every InColumn) (map result_line (operation_results p e))
        (row_results p e ++ letter_lines (width p.qubits) 0 e.store.axes) operations_in_lem
        (every_append (Every InColumn) (row_results p e) (letter_lines (width p.qubits) 0 e.store.axes) frame_in axes_in_lem),
  )

-- a refusal's line
pub refusal_in : (a : Answer) → number_of a ≤ 11 → Every (Every InColumn) (refusal_lines a)
unfolding refusal_lines
refusal_in a h =
    let none : InColumn 0 = small_in 0 (omega arith) in
    ((small_in (number_of a) (omega arith), (none, (none, (none, (none, (none, (none, (none, (none, tt))))))))), tt)
