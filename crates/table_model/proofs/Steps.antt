-- The steps on the way to the calls, over plain maps of runs: what each call does, and what it makes of agreement and of the tree.
use Rattle.std.proofs.Common.{◌≡◌, ℕ, ◌^◌, ◌<◌, ◌≤◌, true, false, List, [], ◌∷◌, ◌++◌, length, set, Some, None}
use Rattle.bitmap.specs.Ranks.{bit, rank}
use Rattle.bitmap.proofs.Ranks.{Added}
use Rattle.runs.specs.Lists.{empty, indexes, at, with_new}
use Rattle.runs.specs.Runs.{Moved, Removing}
use Rattle.table_model.specs.Tree.{Path, bare, with_val, with_path}
use Rattle.table_model.specs.Table.{bare_row, find, tree_of, Agrees}
use Rattle.table_model.specs.States.{with_data, with_children}
use Rattle.runs.specs.declared.entry.NodeRow.{NodeRow}

-- A run of one is opened, or an entry goes into the run at i before the slot k; the run is at j then.
pub data Growing {E : Type 0} (before : ℕ → List E) (i k : ℕ) (e : E) (j : ℕ) (after : ℕ → List E) : Type 0 where
  opened : i ≡ empty → before j ≡ [] → after ≡ at before j (e ∷ []) → Growing before i k e j after
  inserted : Moved before i j (with_new (before i) k e) after → Growing before i k e j after

-- The record at p is written back as s: as the root, or by exchanging the entry in its parent's run. The parent was found before the node runs became `mid`.
pub data Written (nodes : ℕ → List NodeRow) (root : NodeRow) (mid : ℕ → List NodeRow) (p : Path) (r : NodeRow) (after : ℕ → List NodeRow) (root_after : NodeRow) : Type 0 where
  at_root : p ≡ [] → root_after ≡ r → after ≡ mid → Written nodes root mid p r after root_after
  in_run : (q : Path) (c : ℕ) (s : NodeRow) → p ≡ q ++ c ∷ [] → find nodes root q ≡ Some s → root_after ≡ root → after ≡ at mid s.children_index (set (mid s.children_index) (rank s.child_bitmap c) r) → Written nodes root mid p r after root_after

-- nothing is live at or above the last index
abbrev pub Low : {E : Type 0} → (ℕ → List E) → Type 0
Low m = (i : ℕ) → indexes ≤ i → m i ≡ []

-- Put: v at the clear bit b of the node at p.
pub record Put {V : Type 0} (nodes : ℕ → List NodeRow) (vals : ℕ → List V) (root : NodeRow) (p : Path) (b : ℕ) (v : V) (nodes_after : ℕ → List NodeRow) (vals_after : ℕ → List V) (root_after : NodeRow) : Type 0 where
  pub r : NodeRow
  pub found : find nodes root p ≡ Some r
  pub small : b < 31
  pub bitmap : ℕ
  pub added : Added r.data_bitmap bitmap b
  pub fits : bitmap < 2 ^ 31
  pub index : ℕ
  pub low_before : Low vals
  pub low : Low vals_after
  pub grown : Growing vals r.data_index (rank r.data_bitmap b) v index vals_after
  pub written : Written nodes root nodes p (with_data r bitmap index) nodes_after root_after

abbrev pub PutLaw : Type 0 → Type 0
PutLaw V = (nodes nodes_after : ℕ → List NodeRow) (vals vals_after : ℕ → List V) (root root_after : NodeRow) (p : Path) (b : ℕ) (v : V) →
    Agrees nodes vals root → Put nodes vals root p b v nodes_after vals_after root_after →
    Agrees nodes_after vals_after root_after × (tree_of nodes_after vals_after root_after ≡ with_val (tree_of nodes vals root) p b (Some v))

-- Take: the value at the set bit b of the node at p goes.
pub record Take {V : Type 0} (nodes : ℕ → List NodeRow) (vals : ℕ → List V) (root : NodeRow) (p : Path) (b : ℕ) (nodes_after : ℕ → List NodeRow) (vals_after : ℕ → List V) (root_after : NodeRow) : Type 0 where
  pub r : NodeRow
  pub found : find nodes root p ≡ Some r
  pub small : b < 31
  pub bitmap : ℕ
  pub taken : Added bitmap r.data_bitmap b
  pub fits : bitmap < 2 ^ 31
  pub index : ℕ
  pub low_before : Low vals
  pub low : Low vals_after
  pub shrunk : Removing vals r.data_index (rank r.data_bitmap b) index vals_after
  pub written : Written nodes root nodes p (with_data r bitmap index) nodes_after root_after

abbrev pub TakeLaw : Type 0 → Type 0
TakeLaw V = (nodes nodes_after : ℕ → List NodeRow) (vals vals_after : ℕ → List V) (root root_after : NodeRow) (p : Path) (b : ℕ) →
    Agrees nodes vals root → Take nodes vals root p b nodes_after vals_after root_after →
    Agrees nodes_after vals_after root_after × (tree_of nodes_after vals_after root_after ≡ with_val (tree_of nodes vals root) p b None)

-- Swap: v for the value at the set bit b of the node at p; no record changes.
pub record Swap {V : Type 0} (nodes : ℕ → List NodeRow) (vals : ℕ → List V) (root : NodeRow) (p : Path) (b : ℕ) (v : V) (vals_after : ℕ → List V) : Type 0 where
  pub r : NodeRow
  pub found : find nodes root p ≡ Some r
  pub here : bit r.data_bitmap b ≡ 1
  pub low_before : Low vals
  pub low : Low vals_after
  pub exchanged : vals_after ≡ at vals r.data_index (set (vals r.data_index) (rank r.data_bitmap b) v)

abbrev pub SwapLaw : Type 0 → Type 0
SwapLaw V = (nodes : ℕ → List NodeRow) (vals vals_after : ℕ → List V) (root : NodeRow) (p : Path) (b : ℕ) (v : V) →
    Agrees nodes vals root → Swap nodes vals root p b v vals_after →
    Agrees nodes vals_after root × (tree_of nodes vals_after root ≡ with_val (tree_of nodes vals root) p b (Some v))

-- Add: a bare child at the clear child bit b of the node at p.
pub record Add (nodes : ℕ → List NodeRow) (root : NodeRow) (p : Path) (b : ℕ) (nodes_after : ℕ → List NodeRow) (root_after : NodeRow) : Type 0 where
  pub r : NodeRow
  pub found : find nodes root p ≡ Some r
  pub short : length p < 25
  pub small : b < 32
  pub bitmap : ℕ
  pub added : Added r.child_bitmap bitmap b
  pub fits : bitmap < 2 ^ 32
  pub index : ℕ
  pub mid : ℕ → List NodeRow
  pub low : Low mid
  pub grown : Growing nodes r.children_index (rank r.child_bitmap b) bare_row index mid
  pub written : Written nodes root mid p (with_children r bitmap index) nodes_after root_after

abbrev pub AddLaw : Type 0 → Type 0
AddLaw V = (nodes nodes_after : ℕ → List NodeRow) (vals : ℕ → List V) (root root_after : NodeRow) (p : Path) (b : ℕ) →
    Agrees nodes vals root → Add nodes root p b nodes_after root_after →
    Agrees nodes_after vals root_after × (tree_of nodes_after vals root_after ≡ with_path (tree_of nodes vals root) (p ++ b ∷ []) true)

-- Drop: the child at the set child bit b of the node at p goes, which has no value and no child.
pub record Drop (nodes : ℕ → List NodeRow) (root : NodeRow) (p : Path) (b : ℕ) (nodes_after : ℕ → List NodeRow) (root_after : NodeRow) : Type 0 where
  pub r : NodeRow
  pub found : find nodes root p ≡ Some r
  pub gone : NodeRow
  pub stood : find nodes root (p ++ b ∷ []) ≡ Some gone
  pub no_value : gone.data_bitmap ≡ 0
  pub no_child : gone.child_bitmap ≡ 0
  pub small : b < 32
  pub bitmap : ℕ
  pub taken : Added bitmap r.child_bitmap b
  pub fits : bitmap < 2 ^ 32
  pub index : ℕ
  pub mid : ℕ → List NodeRow
  pub low : Low mid
  pub shrunk : Removing nodes r.children_index (rank r.child_bitmap b) index mid
  pub written : Written nodes root mid p (with_children r bitmap index) nodes_after root_after

abbrev pub DropLaw : Type 0 → Type 0
DropLaw V = (nodes nodes_after : ℕ → List NodeRow) (vals : ℕ → List V) (root root_after : NodeRow) (p : Path) (b : ℕ) →
    Agrees nodes vals root → Drop nodes root p b nodes_after root_after →
    Agrees nodes_after vals root_after × (tree_of nodes_after vals root_after ≡ with_path (tree_of nodes vals root) (p ++ b ∷ []) false)

-- Start: the bare root over stores with no live run.
abbrev pub StartLaw : Type 0 → Type 0
StartLaw V = (nodes : ℕ → List NodeRow) (vals : ℕ → List V) → ((i : ℕ) → nodes i ≡ []) → ((i : ℕ) → vals i ≡ []) →
    Agrees nodes vals bare_row × (tree_of nodes vals bare_row ≡ bare)

-- Plant: a child at the clear child bit b of the node at p, and v at its data bit 0.
pub record Plant {V : Type 0} (nodes : ℕ → List NodeRow) (vals : ℕ → List V) (root : NodeRow) (p : Path) (b : ℕ) (v : V) (nodes_after : ℕ → List NodeRow) (vals_after : ℕ → List V) (root_after : NodeRow) : Type 0 where
  pub nodes_between : ℕ → List NodeRow
  pub root_between : NodeRow
  pub add : Add nodes root p b nodes_between root_between
  pub put : Put nodes_between vals root_between (p ++ b ∷ []) 0 v nodes_after vals_after root_after

abbrev pub PlantLaw : Type 0 → Type 0
PlantLaw V = (nodes nodes_after : ℕ → List NodeRow) (vals vals_after : ℕ → List V) (root root_after : NodeRow) (p : Path) (b : ℕ) (v : V) →
    Agrees nodes vals root → Plant nodes vals root p b v nodes_after vals_after root_after →
    Agrees nodes_after vals_after root_after × (tree_of nodes_after vals_after root_after ≡ with_val (with_path (tree_of nodes vals root) (p ++ b ∷ []) true) (p ++ b ∷ []) 0 (Some v))
