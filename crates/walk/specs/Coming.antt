-- What a walk has still to give: what is left of the node at hand, and then the walks below the nodes on its stack.
use Rattle.std.specs.Prelude.{ℕ, ◌-◌, List, [], ◌∷◌, ◌++◌, Some, None, Option}
use Rattle.runs.specs.Lists.{nth}
use Rattle.runs.specs.declared.entry.NodeRow.{NodeRow}
use Rattle.runs.specs.declared.store.Runs.{Ghosts}
use Rattle.table_model.specs.Tree.{Tree, rising, walk}
use Rattle.table_model.specs.Table.{tree_of}
use Rattle.nodes.specs.Records.{row_of}
use Rattle.nodes.specs.declared.record.NodeRecord.{NodeRecord}
use Rattle.trunk.specs.declared.Trunk.{Trunk}
use Rattle.trunk.specs.declared.spot.Place.{Place}
use Rattle.walk.specs.declared.stack.Stack.{Stack}
use Rattle.walk.specs.Places.{lasts}

-- the row at a place
abbrev pub row_at : (ℕ → List NodeRow) → Place → Option NodeRow
row_at nodes p = nth (nodes p.run.number) p.slot.number

abbrev pub of_row : {X : Type 0} → (NodeRow → List X) → Option NodeRow → List X
of_row w None = []
of_row w (Some r) = w r

-- what the rows at the places have, in this order
unfoldable pub of_places : {X : Type 0} → (ℕ → List NodeRow) → (NodeRow → List X) → List Place → List X
of_places nodes w [] = []
of_places nodes w (p ∷ ps) = of_row w (row_at nodes p) ++ of_places nodes w ps

-- where t says which tree is below a row: the walk of that tree, and the values at the row's own bits from b on
unfoldable pub walk_of : {X : Type 0} → (NodeRow → Tree X) → NodeRow → List (ℕ × X)
walk_of t r = walk 25 (t r)

unfoldable pub own_of : {X : Type 0} → (NodeRow → Tree X) → ℕ → NodeRow → List (ℕ × X)
own_of t b r = rising (31 - b) b (t r)

module _ {E In Ix N V : Type 0} (n : Ghosts N NodeRow In) (v : Ghosts V E Ix) where
  abbrev pub live_nodes : Trunk N V → ℕ → List NodeRow
  live_nodes t = n.model.live (n.state t.nodes)

  abbrev pub live_values : Trunk N V → ℕ → List E
  live_values t = v.model.live (v.state t.values)

  -- the tree below a row
  abbrev pub tree_at : Trunk N V → NodeRow → Tree E
  tree_at t = tree_of (live_nodes t) (live_values t)

  -- of the node at hand, from a bit on
  abbrev pub hand : Trunk N V → NodeRecord → ℕ → List (ℕ × E)
  hand t node next = own_of (tree_at t) next (row_of node)

  -- of the nodes on the stack
  abbrev pub rest : Trunk N V → Stack → List (ℕ × E)
  rest t s = of_places (live_nodes t) (walk_of (tree_at t)) (lasts s.places s.top)
