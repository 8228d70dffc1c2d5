-- Why the stack of a walk always has room, and what stands on it is there: this is in the walk's type, and no call's contract leans on it.
use Rattle.std.specs.Prelude.{◌≡◌, ℕ, ◌+◌, ◌-◌, ◌/◌, ◌^◌, ◌<◌, ◌≤◌, List, [], ◌∷◌, ◌++◌, length, Some}
use Rattle.bitmap.specs.Ranks.{rank}
use Rattle.runs.specs.declared.entry.NodeRow.{NodeRow}
use Rattle.runs.specs.declared.store.Runs.{Ghosts}
use Rattle.table_model.specs.Tree.{Path, Tree}
use Rattle.table_model.specs.Table.{is_some, then, find, Passes}
use Rattle.nodes.specs.declared.record.NodeRecord.{NodeRecord}
use Rattle.trunk.specs.declared.Trunk.{Trunk}
use Rattle.trunk.specs.declared.spot.Place.{Place}
use Rattle.walk.specs.declared.stack.Stack.{Stack}
use Rattle.walk.specs.Places.{lasts}
use Rattle.walk.specs.Coming.{row_at, of_places, walk_of, live_nodes, live_values, hand, rest}

-- All below a row, at most e levels of it, passes the check and has runs as long as its bitmaps have set bits.
pub record Below {V : Type 0} (nodes : ℕ → List NodeRow) (vals : ℕ → List V) (e : ℕ) (r : NodeRow) : Type 0 where
  pub passes : (p : Path) (s : NodeRow) → find nodes r p ≡ Some s → Passes s
  pub children : (p : Path) (s : NodeRow) → find nodes r p ≡ Some s → length (nodes s.children_index) ≡ rank s.child_bitmap 32
  pub values : (p : Path) (s : NodeRow) → find nodes r p ≡ Some s → length (vals s.data_index) ≡ rank s.data_bitmap 31
  pub shallow : (p : Path) (s : NodeRow) → find nodes r p ≡ Some s → length p ≤ e

-- A place that stands on i others. Each level above its own leaves at most 31 of them, and its own one for each lower slot: so many levels can be below it.
pub record Here {V : Type 0} (nodes : ℕ → List NodeRow) (vals : ℕ → List V) (i : ℕ) (p : Place) : Type 0 where
  pub low : p.slot.number < 32
  pub inside : p.slot.number < length (nodes p.run.number)
  pub below : (r : NodeRow) → row_at nodes p ≡ Some r → Below nodes vals ((744 + p.slot.number - i) / 31) r

unfoldable pub Standing : {V : Type 0} → (ℕ → List NodeRow) → (ℕ → List V) → List Place → Type 0
Standing nodes vals [] = Unit {0}
Standing nodes vals (p ∷ ps) = Here nodes vals (length ps) p × Standing nodes vals ps

-- the nodes below a row as a tree, with the node itself at each bit
abbrev pub nodes_at : (ℕ → List NodeRow) → NodeRow → Tree NodeRow
nodes_at nodes r = record { has = λ p. is_some (find nodes r p); val = λ p b. then (find nodes r p) (λ s. Some s) }

module _ {E In Ix N V : Type 0} (n : Ghosts N NodeRow In) (v : Ghosts V E Ix) where
  -- a walk may stand so
  pub record Ready (t : Trunk N V) (s : Stack) (node : NodeRecord) (next : ℕ) : Type 0 where
    pub standing : Standing (live_nodes n v t) (live_values n v t) (lasts s.places s.top)
    pub full : length (live_values n v t node.data_index.number) ≡ rank node.data_bitmap 31
    pub within : next ≤ 31
    -- what is to come can be counted
    pub few : length (hand n v t node next ++ rest n v t s) < 2 ^ 32

  -- the nodes that are yet to be visited, so that the steps come to an end
  abbrev pub unseen : Trunk N V → Stack → List (ℕ × NodeRow)
  unseen t s = of_places (live_nodes n v t) (walk_of (nodes_at (live_nodes n v t))) (lasts s.places s.top)
