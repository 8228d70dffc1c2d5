-- What a node's record shows of the tree that a table means, and that what a table means is a plain tree.
use Rattle.std.specs.Prelude.{◌≡◌, ℕ, true, false, List, [], ◌∷◌, ◌++◌, length, Some, None}
use Rattle.bitmap.specs.Ranks.{bit, rank, is_set}
use Rattle.runs.specs.Lists.{nth}
use Rattle.runs.specs.declared.entry.NodeRow.{NodeRow}
use Rattle.table_model.specs.Tree.{Path, Tree, Plain, below, followed}
use Rattle.table_model.specs.Table.{is_some, child, find, tree_of, Agrees}

-- A node's record shows the tree: its bitmaps are the node's set bits, its runs the values and the children's records by rising bit; what lies below a child is the child's own tree.
pub record Shown {V : Type 0} (nodes : ℕ → List NodeRow) (vals : ℕ → List V) (root : NodeRow) (p : Path) (r : NodeRow) : Type 0 where
  pub has : (tree_of nodes vals root).has p ≡ true
  pub value_bit : (b : ℕ) → is_some ((tree_of nodes vals root).val p b) ≡ is_set r.data_bitmap b
  pub child_bit : (b : ℕ) → (tree_of nodes vals root).has (p ++ b ∷ []) ≡ is_set r.child_bitmap b
  pub value_at : (b : ℕ) → bit r.data_bitmap b ≡ 1 → (tree_of nodes vals root).val p b ≡ nth (vals r.data_index) (rank r.data_bitmap b)
  pub child_at : (b : ℕ) → bit r.child_bitmap b ≡ 1 → find nodes root (p ++ b ∷ []) ≡ nth (nodes r.children_index) (rank r.child_bitmap b)
  pub below_it : (b : ℕ) (s : NodeRow) → find nodes root (p ++ b ∷ []) ≡ Some s → below (tree_of nodes vals r) b ≡ tree_of nodes vals s

abbrev pub ShowLaw : Type 0 → Type 0
ShowLaw V = (nodes : ℕ → List NodeRow) (vals : ℕ → List V) (root : NodeRow) (p : Path) (r : NodeRow) →
    Agrees nodes vals root → find nodes root p ≡ Some r → Shown nodes vals root p r

-- What a table means is a plain tree.
abbrev pub PlainLaw : Type 0 → Type 0
PlainLaw V = (nodes : ℕ → List NodeRow) (vals : ℕ → List V) (root : NodeRow) → Agrees nodes vals root → Plain (tree_of nodes vals root)

-- A descent that stands at q and finds no child at b has followed as many bits as q has; the path is not in the tree, however it goes on.
pub record Stopped {V : Type 0} (t : Tree V) (q : Path) (b : ℕ) (p : Path) : Type 0 where
  pub count : followed t (q ++ b ∷ p) ≡ length q
  pub missing : t.has (q ++ b ∷ p) ≡ false

abbrev pub StopLaw : Type 0 → Type 0
StopLaw V = (nodes : ℕ → List NodeRow) (vals : ℕ → List V) (root r : NodeRow) (q : Path) (b : ℕ) (p : Path) → find nodes root q ≡ Some r → child nodes r b ≡ None → Stopped (tree_of nodes vals root) q b p
