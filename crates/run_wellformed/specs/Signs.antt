-- At every point of a run the held images, the barriers and the rows have a sign: their turns are 0 or 2. Assumes nothing.
use Rattle.std.specs.Prelude.{◌≡◌, Bool, false, List, ◌++◌, ℕ}
use Rattle.pauli.specs.Word.{width}
use Rattle.model.specs.Program.{Program}
use Rattle.model.specs.Rules.{Rules}
use Rattle.model.specs.Packing.{packed}
use Rattle.model.specs.Items.{Item}
use Rattle.model.specs.Stream.{begin}
use Rattle.model.specs.Exchange.{swaps}
use Rattle.model.specs.Layering.{layer_segment}
use Rattle.model.specs.Rounds.{Work, exchange_pass, layering_pass}
use Rattle.model.specs.Run.{start_of, end_of}
use Rattle.theory.specs.Cases.{by_if}
use Rattle.theory.specs.Every.{Every}
use Rattle.theory.specs.Segments.{swaps_by, layer_segment_by, rewrite_segments_every}
use Rattle.theory.specs.Checked.{Fine}
use Rattle.words_wellformed.specs.PassWords.{WellPass, after_items}
use Rattle.words_wellformed.specs.RunWords.{AnglesStay, WellWork, pass_well, stream_pass_well, exchange_pass_well, layering_pass_well}
use Rattle.words_wellformed.specs.RunWords.{start_well}
use Rattle.words_wellformed.specs.Wellformed.{SignsEven, end_signs, work_signs}
use Rattle.words_wellformed.specs.RunWords.{Turns, TurnsItem}
use Rattle.run_wellformed.specs.CliffordAngles.{turns_merging}
use Rattle.run_wellformed.specs.Points.{Reached, start, streamed, exchanged, layered}

-- exchange and layering leave angles 1 to 7
pub angles_stay : (l : ℕ) (r : Rules) → AnglesStay l r
unfolding exchange_pass layering_pass
angles_stay l r = record {
  exchange = λ w h. by_if (λ (v : Work). Every TurnsItem v.items) _ _ _ h
      (rewrite_segments_every Turns TurnsItem (λ t k. k) (λ t k. k) (swaps l w.store.axes r.exchange)
      (swaps_by _ Turns turns_merging l w.store.axes r.exchange) w.items h);
  layering = λ w h. rewrite_segments_every Turns TurnsItem (λ t k. k) (λ t k. k) (layer_segment l w.store.axes)
      (layer_segment_by _ Turns turns_merging l w.store.axes) w.items h;
}

module _ (p : Program) (fine : Fine p) (hermitian : (packed p).refused ≡ false) (r : Rules) where
  -- stored words, ids, angles and signs are well formed at every point of a run
  pub point_well : {v : Work} → Reached (width p.qubits) r (start_of p) v → WellWork (width p.qubits) (Unit {0}) v
  point_well start = start_well p (Unit {0}) fine hermitian
  point_well (streamed {v} merging h) = stream_pass_well (width p.qubits) (Unit {0}) r merging v (point_well h)
  point_well (exchanged {v} h) = exchange_pass_well (width p.qubits) r (Unit {0}) (λ t. angles_stay _ r) v (point_well h)
  point_well (layered {v} h) = layering_pass_well (width p.qubits) r (Unit {0}) (λ t. angles_stay _ r) v (point_well h)

  -- barriers and rows have a sign at every point
  pub point_signs : {v : Work} → Reached (width p.qubits) r (start_of p) v → SignsEven v
  point_signs {v} h = work_signs (width p.qubits) (Unit {0}) v (point_well h) tt

  -- inside every stream of a run: the held images are words with a sign, and commute as their letters do
  pub point_images : {v : Work} → Reached (width p.qubits) r (start_of p) v → (merging : Bool) (is rest : List Item) → v.items ≡ is ++ rest
      → WellPass (width p.qubits) (Unit {0}) (after_items (width p.qubits) r merging (begin v.store) is)
  point_images {v} h merging is rest e = pass_well (width p.qubits) (Unit {0}) r merging v is rest e (point_well h)

  -- at the end
  pub end_signs_even : (rounds : ℕ) → SignsEven (end_of r rounds p)
  end_signs_even rounds = end_signs r rounds p fine hermitian (angles_stay _ r)
