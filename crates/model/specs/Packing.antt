-- 01, "words.rs", `pack`: use counts, slots, ids, signs, tested sums. How many slots there are is seen, not which is reused. Assumes nothing.
use Rattle.std.specs.Prelude.{Bool, true, false, ◌||◌, List, [], ◌∷◌, map, ℕ, zero, suc, ◌+◌, ◌-◌, ◌*◌, ◌%◌, eqb, ltb, length, get_or, set}
use Rattle.pauli.specs.Word.{width}
use Rattle.model.specs.Lists.{when◌then◌else◌, keep, numbers_from, is_odd}
use Rattle.model.specs.Program.{Node, identity, letter, product, PauliRef, Program}
use Rattle.model.specs.Words.{Value, id_of, Store, tested, intern}
use Rattle.model.specs.Value.{value_at, values}
use Rattle.model.specs.Roots.{roots}

-- ---- how often a node is used: once by each root at it, once by each edge from a used product

unfoldable pub roots_at : ℕ → List PauliRef → List PauliRef
roots_at n rs = keep (λ (r : PauliRef). eqb r.node n) rs

unfoldable pub one_use_more : ℕ → List ℕ → List ℕ
one_use_more n uses = set uses n (suc (get_or uses n 0))

unfoldable pub one_use_less : ℕ → List ℕ → List ℕ
one_use_less n uses = set uses n (get_or uses n 0 - 1)

unfoldable pub count_children : Node → List ℕ → List ℕ
count_children identity uses = uses
count_children (letter q c) uses = uses
count_children (product a p b r) uses = one_use_more b (one_use_more a uses)

-- users stand after what they use: from node n - 1 down to node 0
unfoldable pub count_uses : List Node → ℕ → List ℕ → List ℕ
count_uses nodes zero uses = uses
count_uses nodes (suc n) uses = count_uses nodes n (when eqb (get_or uses n 0) 0 then uses else count_children (get_or nodes n identity) uses)

unfoldable pub use_counts : List Node → List PauliRef → List ℕ
use_counts nodes rs = count_uses nodes (length nodes) (map (λ n. length (roots_at n rs)) (numbers_from 0 (length nodes)))

-- ---- packing

pub record Pack : Type 0 where
  pub store : Store
  -- the uses of each node that are still to come
  pub uses : List ℕ
  -- slots that hold a value, and slots allocated so far
  pub live : ℕ
  pub slots : ℕ
  -- "9 a root's total phase is odd"
  pub refused : Bool

abbrev pub with_store : Store → Pack → Pack
with_store st p = record { store = st; uses = p.uses; live = p.live; slots = p.slots; refused = p.refused }

abbrev pub with_refusal : Pack → Pack
with_refusal p = record { store = p.store; uses = p.uses; live = p.live; slots = p.slots; refused = true }

abbrev pub with_slots : ℕ → ℕ → Pack → Pack
with_slots live slots p = record { store = p.store; uses = p.uses; live = live; slots = slots; refused = p.refused }

-- "a slot is freed after its last use"
unfoldable pub use_node : ℕ → Pack → Pack
use_node n p = record {
  store = p.store;
  uses = one_use_less n p.uses;
  live = p.live - (when eqb (get_or p.uses n 0) 1 then 1 else 0);
  slots = p.slots;
  refused = p.refused;
}

-- a product's children are used before it takes its slot
unfoldable pub use_children : Node → Pack → Pack
use_children identity p = p
use_children (letter q c) p = p
use_children (product a u b v) p = use_node b (use_node a p)

-- "and reused": "(slots with the new one + axes) × 2l" is tested where no free slot is left
unfoldable pub take_slot : ℕ → Pack → Pack
take_slot l p =
    when ltb p.live p.slots then with_slots (suc p.live) p.slots p else
    with_slots (suc p.live) (suc p.slots) (with_store (tested ((suc p.slots + length p.store.axes) * (2 * l)) p.store) p)

-- "A root is stored, or refused by 9": r is a root at node n, whose value is v
unfoldable pub pack_root : ℕ → ℕ → Value → Pack → PauliRef → Pack
pack_root l n v p r =
    when is_odd (v.turns + r.phase) then with_refusal p else
    use_node n (with_store (intern l (p.slots * (2 * l)) p.store v.word) p)

-- "in root order"
unfoldable pub pack_roots : ℕ → ℕ → Value → Pack → List PauliRef → Pack
pack_roots l n v p [] = p
pack_roots l n v p (r ∷ rest) = pack_roots l n v (when p.refused then p else pack_root l n v p r) rest

-- "at its node's turn"
unfoldable pub pack_node : ℕ → List PauliRef → List Value → ℕ → Node → Pack → Pack
pack_node l rs vs n node p =
    when p.refused || eqb (get_or p.uses n 0) 0 then p else
    pack_roots l n (value_at vs n) (take_slot l (use_children node p)) (roots_at n rs)

-- "`pack` takes used nodes by rising index": from node n on
unfoldable pub pack_from : ℕ → List PauliRef → List Value → ℕ → List Node → Pack → Pack
pack_from l rs vs n [] p = p
pack_from l rs vs n (node ∷ rest) p = pack_from l rs vs (suc n) rest (pack_node l rs vs n node p)

unfoldable pub empty_pack : List Node → List PauliRef → Pack
empty_pack nodes rs = record { store = record { axes = []; peak = 0 }; uses = use_counts nodes rs; live = 0; slots = 0; refused = false }

-- the values of a program's nodes
abbrev pub values_of : Program → List Value
values_of p = values (width p.qubits) p.nodes

unfoldable pub packed : Program → Pack
packed p = pack_from (width p.qubits) (roots p) (values_of p) 0 p.nodes (empty_pack p.nodes (roots p))

-- ---- a root's id and sign

-- an axis by its id, and 0 or 2 quarter turns
pub record SignedAxis : Type 0 where
  pub axis : ℕ
  pub sign : ℕ

unfoldable pub signed_axis : List (List ℕ) → List Value → PauliRef → SignedAxis
signed_axis axes vs r = record {
  axis = id_of axes (value_at vs r.node).word;
  sign = ((value_at vs r.node).turns + r.phase) % 4;
}
