-- From packing to the start of the passes: items, weight and T-depth. Assumes nothing.
use Rattle.std.specs.Prelude.{◌≡◌, refl, false, List, ℕ, length, Result}
use Rattle.std.proofs.Common.{sym, ap, ◌∙◌}
use Rattle.pauli.specs.Word.{width}
use Rattle.model.specs.declared.Options.{Options}
use Rattle.model.specs.Program.{Program}
use Rattle.model.specs.Packing.{packed}
use Rattle.model.specs.Rules.{rules_of}
use Rattle.model.specs.Run.{start_of}
use Rattle.model.specs.Results.{source_weight, depth_of}
use Rattle.layout.specs.declared.Shape.{Shape}
use Rattle.layout.specs.Shape.{Granted, granted_same}
use Rattle.axes.specs.Held.{sizes_of}
use Rattle.records.specs.Given.{program_in}
use Rattle.packing_states.specs.InMemory.{OfShape, given_shape}
use Rattle.packing_answer.specs.declared.PackedAxes.{PackedAxes}
use Rattle.packing_answer.specs.declared.PackingRefusal.{PackingRefusal}
use Rattle.packing_answer.specs.Answer.{packed_with, AcceptedSo, accepted_so}
use Rattle.packing.specs.Packed.{PackPre, PackedAs}
use Rattle.work.specs.Work.{WorkIn}
use Rattle.start.specs.Build.{BuildPre, ItemsBuilt}
use Rattle.start.specs.Started.{axis_stored, axis_word, build_pre, started}
use Rattle.run_wellformed.specs.WorkWell.{WorkWell}
use Rattle.depth.specs.Demands.{DepthPre}
use Rattle.points.specs.Demands.{start_at, depth_pre}
use Rattle.counters.specs.SourceWeight.{SourcePre, WeightBefore}
use Rattle.counters.specs.Ended.{source_pre, weight_before_is}
use Rattle.decision.specs.declared.Started.{Started}
use Rattle.decision.specs.Depth.{DepthAs, work_kept, depth_is}

-- packing has stored n axes: what it was called with, the largest sum that it tested, and what it left
pub record PackedIn (z : Shape) (ns os rs : List ℕ) (n : ℕ) (ws xs : List ℕ) : Type 0 where
  pub ws₀ : List ℕ
  pub xs₀ : List ℕ
  pub answer : Result PackedAxes PackingRefusal
  pub peak : ℕ
  pub pre : PackPre z ns os rs ws₀ xs₀
  pub done : PackedAs z (program_in z ns os rs) answer ws₀ xs₀ ws xs
  pub accepted : answer ≡ packed_with n peak

-- memory holds the start of the passes, and r its counts
pub record StartedAs (z : Shape) (o : Options) (ns os rs : List ℕ) (n : ℕ) (ws xs : List ℕ) (r : Started) (ys : List ℕ) : Type 0 where
  pub work : WorkIn z (program_in z ns os rs) (start_of (program_in z ns os rs)) n r.items (packed (program_in z ns os rs)).store.peak ws ys
  pub weight : r.weight ≡ source_weight (program_in z ns os rs)
  pub depth : r.depth ≡ depth_of (rules_of o) (program_in z ns os rs) (start_of (program_in z ns os rs))
  pub long : length ys ≡ length xs

-- the largest sum that packing tested
pub packed_peak : {z : Shape} {p : Program} {r : Result PackedAxes PackingRefusal} {n q : ℕ} {ws₀ xs₀ ws xs : List ℕ} → PackedAs z p r ws₀ xs₀ ws xs → r ≡ packed_with n q
    → q ≡ (packed p).store.peak
packed_peak {z} {p} done accepted = sym (accepted_so z.limit (packed p) (sym accepted ∙ done.answer)).peak_is

module _ {z : Shape} {ns os rs : List ℕ} {n : ℕ} {ws xs : List ℕ} (h : PackedIn z ns os rs n ws xs) where
  abbrev p : Program
  p = program_in z ns os rs

  pub packed_granted : Granted z ws xs
  packed_granted = granted_same h.pre.granted h.done.words.long h.done.numbers.long

  of_shape : OfShape p z
  of_shape = given_shape h.pre.given

  so : AcceptedSo z.limit (packed p) h.peak
  so = accepted_so z.limit (packed p) (sym h.accepted ∙ h.done.answer)

  -- no root was refused
  pub packed_hermitian : (packed (program_in z ns os rs)).refused ≡ false
  packed_hermitian = so.going

  pub width_is : z.l ≡ width (program_in z ns os rs).qubits
  width_is = packed_granted.sized.l_is ∙ ap width (sym of_shape.qubits)

  pub start_well : WorkWell z.l z.qubits (start_of (program_in z ns os rs))
  start_well = start_at packed_granted.sized p of_shape.qubits of_shape.fine packed_hermitian

  pub start_weight : SourcePre z os ws xs
  start_weight =
      source_pre h.pre.given packed_granted (h.done.axes n h.peak h.accepted) (axis_stored h.pre h.done h.accepted)

  pub start_build : BuildPre z n os ws xs
  start_build = build_pre h.pre h.done h.accepted

  module _ {k : ℕ} {ys : List ℕ} (b : ItemsBuilt z n os ws xs z.operations k ys) where
    here : WorkIn z (program_in z ns os rs) (start_of (program_in z ns os rs)) n k (packed p).store.peak ws ys
    here = started h.pre h.done h.accepted b

    pub start_depth : DepthPre (sizes_of z n) ws ys k
    start_depth = depth_pre (granted_same packed_granted refl b.only.long) here start_well

    pub start_done : (o : Options) {m d : ℕ} {vs : List ℕ} → WeightBefore os ws xs z.u z.l z.operations m
        → DepthAs (sizes_of z n) o.measure_depth ws ys k d vs
        → StartedAs z o ns os rs n ws xs (record { items = k; weight = m; depth = d }) vs
    start_done o w d = record {
      work = work_kept here d.only;
      weight =
          weight_before_is h.pre.given packed_granted (h.done.axes n h.peak h.accepted) (axis_stored h.pre h.done h.accepted)
          (axis_word h.pre h.done h.accepted) w;
      depth = depth_is here o width_is d;
      long = d.only.long ∙ b.only.long;
    }
