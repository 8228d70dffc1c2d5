-- The calls on a table by the states of its two stores.
use Rattle.std.specs.Prelude.{ℕ, cond, List, [], ◌∷◌, Some, None, Option, ◌==◌}
use Rattle.runs.specs.Runs.{Model}
use Rattle.bitmap.specs.Ranks.{rank, with_bit, without_bit}
use Rattle.table_model.specs.Tree.{Path, Tree}
use Rattle.table_model.specs.Table.{bare_row, then, child, tree_of, Agrees}
use Rattle.runs.specs.declared.entry.NodeRow.{NodeRow}

-- a record with another data part
abbrev pub with_data : NodeRow → ℕ → ℕ → NodeRow
with_data r bitmap index = record { data_bitmap = bitmap; child_bitmap = r.child_bitmap; data_index = index; children_index = r.children_index }

-- a record with another child part
abbrev pub with_children : NodeRow → ℕ → ℕ → NodeRow
with_children r bitmap index = record { data_bitmap = r.data_bitmap; child_bitmap = bitmap; data_index = r.data_index; children_index = index }

-- where a record stands: it is the root, or the entry at a slot of the node run at an index
pub data Place : Type 0 where
  top : Place
  slot : ℕ → ℕ → Place

-- the record at a path, from the record r at a place on, with its own place
unfoldable pub descend : (ℕ → List NodeRow) → Place → NodeRow → Path → Option (Place × NodeRow)
descend m at r [] = Some (at, r)
descend m at r (b ∷ p) = then (child m r b) (λ s. descend m (slot r.children_index (rank r.child_bitmap b)) s p)

pub record Table (N S : Type 0) : Type 0 where
  pub nodes : N
  pub vals : S
  pub root : NodeRow

-- a run opened for the first set bit, or one entry more; with the run's index
abbrev pub grown : {E S : Type 0} → Model E S → S → ℕ → ℕ → ℕ → E → S × ℕ
grown m s bitmap i k e = cond (bitmap == 0) (m.opened s e, m.opened_at s e) (m.inserted s i k e, m.inserted_at s i k e)

-- the children's run after a bare child at bit b
abbrev pub child_run : {N : Type 0} → Model NodeRow N → N → NodeRow → ℕ → N × ℕ
child_run m n r b = grown m n r.child_bitmap r.children_index (rank r.child_bitmap b) bare_row

abbrev pub written_nodes : {N : Type 0} → Model NodeRow N → N → Place → NodeRow → N
written_nodes m n top r = n
written_nodes m n (slot i k) r = m.exchanged n i k r

abbrev pub written_root : NodeRow → Place → NodeRow → NodeRow
written_root root top r = r
written_root root (slot i k) r = root

-- the record at a place is written anew
abbrev pub rewritten : {N S : Type 0} → Model NodeRow N → Table N S → Place → NodeRow → Table N S
rewritten m t at r = record { nodes = written_nodes m t.nodes at r; vals = t.vals; root = written_root t.root at r }

-- what is done at the place found, or nothing
abbrev pub there : {T : Type 0} → T → Option (Place × NodeRow) → (Place → NodeRow → T) → T
there t None f = t
there t (Some x) f = f x.0 x.1

-- the calls, at a place with its record
module _ {V N S : Type 0} (mn : Model NodeRow N) (mv : Model V S) where
  abbrev pub tree_in : Table N S → Tree V
  tree_in t = tree_of (mn.live t.nodes) (mv.live t.vals) t.root

  abbrev pub put_at : Table N S → Place → NodeRow → ℕ → V → Table N S
  put_at t at r b v =
      let g = grown mv t.vals r.data_bitmap r.data_index (rank r.data_bitmap b) v in
      rewritten mn (record { nodes = t.nodes; vals = g.0; root = t.root }) at (with_data r (with_bit r.data_bitmap b) g.1)

  abbrev pub take_at : Table N S → Place → NodeRow → ℕ → Table N S
  take_at t at r b =
      let k = rank r.data_bitmap b in
      rewritten mn (record { nodes = t.nodes; vals = mv.removed t.vals r.data_index k; root = t.root }) at
      (with_data r (without_bit r.data_bitmap b) (mv.removed_at t.vals r.data_index k))

  abbrev pub swap_at : Table N S → NodeRow → ℕ → V → Table N S
  swap_at t r b v = record { nodes = t.nodes; vals = mv.exchanged t.vals r.data_index (rank r.data_bitmap b) v; root = t.root }

  abbrev pub add_at : Table N S → Place → NodeRow → ℕ → Table N S
  add_at t at r b =
      let g = child_run mn t.nodes r b in
      rewritten mn (record { nodes = g.0; vals = t.vals; root = t.root }) at (with_children r (with_bit r.child_bitmap b) g.1)

  -- a child, and a value at its data bit 0: the child stands at the rank of b in the run that add leaves
  abbrev pub plant_at : Table N S → Place → NodeRow → ℕ → V → Table N S
  plant_at t at r b v = put_at (add_at t at r b) (slot (child_run mn t.nodes r b).1 (rank (with_bit r.child_bitmap b) b)) bare_row 0 v

  abbrev pub drop_at : Table N S → Place → NodeRow → ℕ → Table N S
  drop_at t at r b =
      let k = rank r.child_bitmap b in
      rewritten mn (record { nodes = mn.removed t.nodes r.children_index k; vals = t.vals; root = t.root }) at
      (with_children r (without_bit r.child_bitmap b) (mn.removed_at t.nodes r.children_index k))

  -- both states can be, and the table agrees with them
  pub record Sound (VN : N → Type 0) (VS : S → Type 0) (t : Table N S) : Type 0 where
    pub nodes_valid : VN t.nodes
    pub vals_valid : VS t.vals
    pub agrees : Agrees (mn.live t.nodes) (mv.live t.vals) t.root
