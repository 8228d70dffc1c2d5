-- The tree that a table means: its root record and the live runs of its two stores.
use Rattle.std.specs.Prelude.{◌≡◌, ℕ, ◌^◌, ◌<◌, ◌≤◌, Bool, true, false, cond, List, [], ◌∷◌, length, Some, None, Option, ◌≢◌}
use Rattle.bitmap.specs.Ranks.{is_set, rank}
use Rattle.runs.specs.Lists.{empty, nth}
use Rattle.runs.specs.Runs.{total}
use Rattle.table_model.specs.Tree.{Path, Tree, held}
use Rattle.runs.specs.declared.entry.NodeRow.{NodeRow}

-- an index is empty exactly when its bitmap is zero
abbrev pub Tied : ℕ → ℕ → Type 0
Tied bitmap index = (bitmap ≡ 0 → index ≡ empty) × (index ≡ empty → bitmap ≡ 0)

-- a row that is a node's record: bit 31 of the data bitmap is clear, and each index is empty exactly when its bitmap is zero
pub record Passes (r : NodeRow) : Type 0 where
  pub low : r.data_bitmap < 2 ^ 31
  pub data_tied : Tied r.data_bitmap r.data_index
  pub children_tied : Tied r.child_bitmap r.children_index

-- a node with no value and no child
abbrev pub bare_row : NodeRow
bare_row = record { data_bitmap = 0; child_bitmap = 0; data_index = empty; children_index = empty }

abbrev pub then : {A B : Type 0} → Option A → (A → Option B) → Option B
then None f = None
then (Some a) f = f a

abbrev pub is_some : {A : Type 0} → Option A → Bool
is_some None = false
is_some (Some a) = true

-- what a run has for bit b of its bitmap: the entry at the rank of b, if the bit is set
unfoldable pub entry : {E : Type 0} → List E → ℕ → ℕ → Option E
entry xs bitmap b = cond (is_set bitmap b) (nth xs (rank bitmap b)) None

abbrev pub child : (ℕ → List NodeRow) → NodeRow → ℕ → Option NodeRow
child m r b = entry (m r.children_index) r.child_bitmap b

abbrev pub value : {V : Type 0} → (ℕ → List V) → NodeRow → ℕ → Option V
value m r b = entry (m r.data_index) r.data_bitmap b

-- the record at a path, from the record r on
unfoldable pub find : (ℕ → List NodeRow) → NodeRow → Path → Option NodeRow
find m r [] = Some r
find m r (b ∷ p) = then (child m r b) (λ s. find m s p)

abbrev pub tree_of : {V : Type 0} → (ℕ → List NodeRow) → (ℕ → List V) → NodeRow → Tree V
tree_of nodes vals root = record { has = λ p. is_some (find nodes root p); val = λ p b. then (find nodes root p) (λ r. value vals r b) }

-- The runs of one store and the records that name them, by a bitmap of w bits and an index; len says how long the run at an index is, 0 where none is live.
pub record Holds (w : ℕ) (bitmap index : NodeRow → ℕ) (len : ℕ → ℕ) (found : Path → Option NodeRow) : Type 0 where
  pub fits : (p : Path) (r : NodeRow) → found p ≡ Some r → bitmap r < 2 ^ w
  pub none : (p : Path) (r : NodeRow) → found p ≡ Some r → bitmap r ≡ 0 → index r ≡ empty
  pub some : (p : Path) (r : NodeRow) → found p ≡ Some r → index r ≡ empty → bitmap r ≡ 0
  pub full : (p : Path) (r : NodeRow) → found p ≡ Some r → len (index r) ≡ rank (bitmap r) w
  -- no two nodes have the same run
  pub apart : (p q : Path) (r s : NodeRow) → found p ≡ Some r → found q ≡ Some s → (bitmap r ≢ 0) → (bitmap s ≢ 0) → index r ≡ index s → p ≡ q
  -- every live run is a node's
  pub owned : (i : ℕ) → (len i ≢ 0) → (p : Path) × (r : NodeRow) × (found p ≡ Some r) × (bitmap r ≢ 0) × (index r ≡ i)

pub record Agrees {V : Type 0} (nodes : ℕ → List NodeRow) (vals : ℕ → List V) (root : NodeRow) : Type 0 where
  pub children : Holds 32 (λ r. r.child_bitmap) (λ r. r.children_index) (λ i. length (nodes i)) (find nodes root)
  pub values : Holds 31 (λ r. r.data_bitmap) (λ r. r.data_index) (λ i. length (vals i)) (find nodes root)
  pub shallow : (p : Path) (r : NodeRow) → find nodes root p ≡ Some r → length p ≤ 25
  -- the values in the tree number the entries of the value store
  pub counted : held (tree_of nodes vals root) ≡ total vals
