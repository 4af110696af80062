-- 01, "optimize.rs", Stream. Assumes nothing.
use Rattle.std.specs.Prelude.{Bool, true, not, ◌&&◌, ◌||◌, List, [], ◌∷◌, ◌++◌, ℕ, suc, ◌+◌, ◌-◌, ◌%◌, eqb, leb, length, get_or, drop, set}
use Rattle.pauli.specs.Word.{anticommutes}
use Rattle.model.specs.Lists.{when◌then◌else◌, all_of, is_even}
use Rattle.model.specs.declared.Absorption.{Absorption}
use Rattle.model.specs.declared.Absorption.TheVariants.{Off as off, AtOnce as at_once, Lazy as lazy}
use Rattle.model.specs.Rules.{is_at_once, Rules, after_barrier}
use Rattle.model.specs.Words.{Value, id_of, word_of, anticommute, Store, intern}
use Rattle.model.specs.Packing.{SignedAxis}
use Rattle.model.specs.Clifford.{Images, image_words, absorb_word, word_image}
use Rattle.model.specs.Items.{rot, Item, rotation, barrier, with_sign, is_clifford, angle_of}

-- where `last` points for an axis
pub data Place : Type 0 where
  nowhere : Place
  at : ℕ → Place

-- the state of a stream
pub record Pass : Type 0 where
  pub store : Store
  -- F
  pub held : List Images
  pub out : List Item
  pub last : ℕ → Place
  pub merges : ℕ
  pub absorbed : ℕ

abbrev pub pass_with_store : Store → Pass → Pass
pass_with_store st p = record { store = st; held = p.held; out = p.out; last = p.last; merges = p.merges; absorbed = p.absorbed }

abbrev pub pass_with_out : List Item → Pass → Pass
pass_with_out out p = record { store = p.store; held = p.held; out = out; last = p.last; merges = p.merges; absorbed = p.absorbed }

unfoldable pub with_last : (ℕ → Place) → Pass → Pass
with_last f p = record { store = p.store; held = p.held; out = p.out; last = f; merges = p.merges; absorbed = p.absorbed }

unfoldable pub count_merge : Pass → Pass
count_merge p = record { store = p.store; held = p.held; out = p.out; last = p.last; merges = suc p.merges; absorbed = p.absorbed }

-- place j of the output, a rotation about a, gets angle k
unfoldable pub set_angle : ℕ → ℕ → ℕ → Pass → Pass
set_angle j a k p = pass_with_out (set p.out j (rotation (rot a k))) p

unfoldable pub put_out : Item → Pass → Pass
put_out i p = pass_with_out (p.out ++ (i ∷ [])) p

-- ---- `last`

unfoldable pub set_last : ℕ → Place → (ℕ → Place) → ℕ → Place
set_last a place last b = when eqb b a then place else last b

abbrev pub cleared_last : ℕ → Place
cleared_last a = nowhere

-- place j, a rotation about a, becomes a zero, and `last` is cleared for its axis
unfoldable pub leave_zero : ℕ → ℕ → Pass → Pass
leave_zero j a p = set_angle j a 0 (with_last (set_last a nowhere p.last) p)

-- a rotation about a "is put out and `last` set"
unfoldable pub put_out_rotation : Pass → ℕ → ℕ → Pass
put_out_rotation p a k = put_out (rotation (rot a k)) (with_last (set_last a (at (length p.out)) p.last) p)

-- "every later nonzero output commutes with it"
abbrev pub lets_pass : ℕ → List (List ℕ) → ℕ → Item → Bool
lets_pass l axes a (rotation r) = eqb r.angle 0 || not (anticommute l axes r.axis a)
lets_pass l axes a (barrier o b s) = true

-- "Reach: output length - j - 1 is at most lookback, and every later nonzero output commutes with it"
unfoldable pub can_reach : ℕ → ℕ → List (List ℕ) → List Item → ℕ → ℕ → Bool
can_reach l lookback axes out j a = leb (length out - j - 1) lookback && all_of (lets_pass l axes a) (drop (suc j) out)

unfoldable pub angle_at : List Item → ℕ → ℕ
angle_at out j = angle_of (get_or out j (rotation (rot 0 0)))

-- a pass, and the image of an axis that it has carried: the image's id, and its quarter turns
pub record Carried : Type 0 where
  pub pass : Pass
  pub axis : ℕ
  pub turns : ℕ

-- 02, M-112: the rules behind an item. "The Clifford gathered so far goes on unchanged.": the pass is handed on as it is
abbrev pub rules_after : Rules → Item → Rules
rules_after r (rotation t) = r
rules_after r (barrier o a s) = after_barrier o r

-- a pass, and the frame rows carried so far
pub record Rowed : Type 0 where
  pub pass : Pass
  pub rows : List SignedAxis

module _ (l : ℕ) where
  -- ---- carrying and absorbing

  -- the axis's word, carried through F
  unfoldable pub axis_image : Pass → ℕ → Value
  axis_image p a = word_image l p.held (word_of p.store.axes a)

  -- the id of that image, once it is stored
  unfoldable pub image_id : Pass → ℕ → ℕ
  image_id p a = id_of p.store.axes (axis_image p a).word

  -- "each axis is carried through F, the Clifford absorbed so far": its image is stored
  unfoldable pub carry_axis : Pass → ℕ → Pass
  carry_axis p a = pass_with_store (intern l (image_words l p.held) p.store (axis_image p a).word) p

  -- the pass that has stored it, with its id and turns
  abbrev pub carried : Pass → ℕ → Carried
  carried p a = let q = carry_axis p a in record { pass = q; axis = image_id q a; turns = (axis_image q a).turns }

  -- F takes in angle k about axis a
  unfoldable pub absorb : Pass → ℕ → ℕ → Pass
  absorb p a k =
      let t = absorb_word l (record { store = p.store; held = p.held }) (word_of p.store.axes a) k in
      record { store = t.store; held = t.held; out = p.out; last = p.last; merges = p.merges; absorbed = suc p.absorbed }

  -- ---- "Lazy: even rotations wait": those that wait are the even nonzero ones of the output

  -- the item at place j is absorbed, if it waits and `picks` takes its axis
  unfoldable pub absorb_waiting_at : (ℕ → Bool) → Pass → ℕ → Item → Pass
  absorb_waiting_at picks p j (rotation r) =
      when is_clifford r.angle && picks r.axis then
      leave_zero j r.axis (absorb p r.axis r.angle) else p
  absorb_waiting_at picks p j (barrier o a s) = p

  -- "in order": from place j on
  unfoldable pub absorb_waiting : (ℕ → Bool) → Pass → ℕ → List Item → Pass
  absorb_waiting picks p j [] = p
  absorb_waiting picks p j (i ∷ rest) = absorb_waiting picks (absorb_waiting_at picks p j i) (suc j) rest

  -- "all are absorbed at a barrier or the end"
  unfoldable pub absorb_all_waiting : Absorption → Pass → Pass
  absorb_all_waiting off p = p
  absorb_all_waiting at_once p = p
  absorb_all_waiting lazy p = absorb_waiting (λ b. true) p 0 p.out

  -- "those that anticommute with the next rotation are absorbed first, in order": a is that rotation's axis, which is carried to see which
  unfoldable pub absorb_blocking : Pass → ℕ → Pass
  absorb_blocking p a =
      let q = carry_axis p a in
      absorb_waiting (λ b. anticommutes l (word_of q.store.axes b) (axis_image p a).word) q 0 q.out

  -- "and that rotation is carried again from its original axis": to the same axis, at no cost, where none was absorbed
  unfoldable pub carry_rotation : Absorption → Pass → ℕ → Carried
  carry_rotation off p a = carried p a
  carry_rotation at_once p a = carried p a
  carry_rotation lazy p a = carried (absorb_blocking p a) a

  -- ---- a rotation, carried: its axis is a, its angle k

  -- place j gets the sum of the angles. "A merge to a nonzero even angle is absorbed. A zero or absorbed angle clears `last` for its axis,
  -- even if an older equal axis exists or `last` names a newer one."
  unfoldable pub merge_at : Absorption → Pass → ℕ → ℕ → ℕ → Pass
  merge_at absorption p j a k =
      when is_at_once absorption && is_clifford k then leave_zero j a (absorb p a k) else
      when eqb k 0 then leave_zero j a p else set_angle j a k p

  -- "if `last` names place j for its axis and j can be reached, it merges there; else it is put out and `last` set"
  unfoldable pub merge_or_put_out : Rules → Pass → ℕ → ℕ → Place → Pass
  merge_or_put_out r p a k nowhere = put_out_rotation p a k
  merge_or_put_out r p a k (at j) =
      when can_reach l r.lookback p.store.axes p.out j a then
      merge_at r.absorption (count_merge p) j a ((angle_at p.out j + k) % 8) else put_out_rotation p a k

  -- "An even rotation is absorbed. Otherwise .." A stream that does not merge does not look at `last`
  unfoldable pub take_rotation : Rules → Bool → Pass → ℕ → ℕ → Pass
  take_rotation r merging p a k =
      when is_at_once r.absorption && is_even k then absorb p a k else
      merge_or_put_out r p a k (when merging then p.last a else nowhere)

  -- ---- the stream

  unfoldable pub stream_item : Rules → Bool → Pass → Item → Pass
  stream_item r merging p (rotation t) =
      let c = carry_rotation r.absorption p t.axis in
      take_rotation r merging c.pass c.axis (with_sign c.turns t.angle)
  -- "A barrier clears `last`."
  stream_item r merging p (barrier o a s) =
      let c = carried (absorb_all_waiting r.absorption p) a in
      put_out (barrier o c.axis ((c.turns + s) % 4)) (with_last cleared_last c.pass)

  unfoldable pub stream : Rules → Bool → Pass → List Item → Pass
  stream r merging p [] = absorb_all_waiting r.absorption p
  stream r merging p (i ∷ rest) = stream (rules_after r i) merging (stream_item r merging p i) rest

  -- ---- "frame rows are carried if anything was absorbed, else kept"

  unfoldable pub carry_rows_from : Pass → List SignedAxis → List SignedAxis → Rowed
  carry_rows_from p done [] = record { pass = p; rows = done }
  carry_rows_from p done (f ∷ rest) =
      let c = carried p f.axis in
      carry_rows_from c.pass (done ++ (record { axis = c.axis; sign = (c.turns + f.sign) % 4 } ∷ [])) rest

  unfoldable pub carry_rows : Pass → List SignedAxis → Rowed
  carry_rows p rows = when eqb p.absorbed 0 then record { pass = p; rows = rows } else carry_rows_from p [] rows

-- a pass begins with F the identity
unfoldable pub begin : Store → Pass
begin s = record { store = s; held = []; out = []; last = cleared_last; merges = 0; absorbed = 0 }
