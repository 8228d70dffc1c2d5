-- Every call on a table over two stores, by their states: from a sound table to a sound table, and to the tree that the call means.
use Rattle.std.specs.Prelude.{◌≡◌, ℕ, ◌<◌, true, false, [], ◌∷◌, ◌++◌, length, Some, None}
use Rattle.runs.specs.Runs.{Model, grows, shrinks}
use Rattle.bitmap.specs.Ranks.{bit, rank}
use Rattle.table_model.specs.Tree.{Path, Tree, bare, with_val, with_path}
use Rattle.table_model.specs.Table.{bare_row, child}
use Rattle.runs.specs.declared.entry.NodeRow.{NodeRow}
use Rattle.table_model.specs.States.{Place, top, descend, Table, tree_in, put_at, take_at, swap_at, add_at, plant_at, drop_at, Sound}

module _ {V N S : Type 0} (mn : Model NodeRow N) (mv : Model V S) (VN : N → Type 0) (VS : S → Type 0) where
  -- the table is sound, and r is the record at p, standing at pl
  pub record At (t : Table N S) (p : Path) (pl : Place) (r : NodeRow) : Type 0 where
    pub sound : Sound mn mv VN VS t
    pub way : descend (mn.live t.nodes) top t.root p ≡ Some (pl, r)

  -- the table is sound and means the tree u
  pub record Means (t : Table N S) (u : Tree V) : Type 0 where
    pub sound : Sound mn mv VN VS t
    pub tree : tree_in mn mv t ≡ u

  pub record Calls : Type 0 where
    pub start : (n : N) (s : S) → VN n → VS s → ((i : ℕ) → mn.live n i ≡ []) → ((i : ℕ) → mv.live s i ≡ []) → Means (record { nodes = n; vals = s; root = bare_row }) bare
    pub put : (t : Table N S) (p : Path) (pl : Place) (r : NodeRow) (b : ℕ) (v : V) → At t p pl r → b < 31 → bit r.data_bitmap b ≡ 0 → grows mv t.vals (rank r.data_bitmap 31) ≡ None → Means (put_at mn mv t pl r b v) (with_val (tree_in mn mv t) p b (Some v))
    pub take : (t : Table N S) (p : Path) (pl : Place) (r : NodeRow) (b : ℕ) → At t p pl r → b < 31 → bit r.data_bitmap b ≡ 1 → shrinks mv t.vals (rank r.data_bitmap 31) ≡ None → Means (take_at mn mv t pl r b) (with_val (tree_in mn mv t) p b None)
    pub swap : (t : Table N S) (p : Path) (pl : Place) (r : NodeRow) (b : ℕ) (v : V) → At t p pl r → bit r.data_bitmap b ≡ 1 → Means (swap_at mn mv t r b v) (with_val (tree_in mn mv t) p b (Some v))
    pub add : (t : Table N S) (p : Path) (pl : Place) (r : NodeRow) (b : ℕ) → At t p pl r → length p < 25 → b < 32 → bit r.child_bitmap b ≡ 0 → grows mn t.nodes (rank r.child_bitmap 32) ≡ None → Means (add_at mn mv t pl r b) (with_path (tree_in mn mv t) (p ++ b ∷ []) true)
    pub plant : (t : Table N S) (p : Path) (pl : Place) (r : NodeRow) (b : ℕ) (v : V) → At t p pl r → length p < 25 → b < 32 → bit r.child_bitmap b ≡ 0 → grows mn t.nodes (rank r.child_bitmap 32) ≡ None → grows mv t.vals 0 ≡ None → Means (plant_at mn mv t pl r b v) (with_val (with_path (tree_in mn mv t) (p ++ b ∷ []) true) (p ++ b ∷ []) 0 (Some v))
    pub drop : (t : Table N S) (p : Path) (pl : Place) (r : NodeRow) (b : ℕ) (s : NodeRow) → At t p pl r → child (mn.live t.nodes) r b ≡ Some s → s.data_bitmap ≡ 0 → s.child_bitmap ≡ 0 → shrinks mn t.nodes (rank r.child_bitmap 32) ≡ None → Means (drop_at mn mv t pl r b) (with_path (tree_in mn mv t) (p ++ b ∷ []) false)
