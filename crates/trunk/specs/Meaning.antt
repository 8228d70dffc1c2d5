-- What a table means: the states of its two stores with the root's row, the plain tree, and that the table agrees with its stores.
use Rattle.std.specs.Prelude.{◌≡◌}
use Rattle.runs.specs.declared.entry.NodeRow.{NodeRow}
use Rattle.runs.specs.declared.store.Runs.{Ghosts}
use Rattle.table_model.specs.Tree.{Tree}
use Rattle.table_model.specs.Table.{Agrees}
use Rattle.table_model.specs.States.{Table as States, tree_in}
use Rattle.nodes.specs.Records.{row_of}
use Rattle.trunk.specs.declared.Trunk.{Trunk}

module _ {E In Ix N V : Type 0} (n : Ghosts N NodeRow In) (v : Ghosts V E Ix) where
  abbrev pub states : Trunk N V → States n.State v.State
  states t = record { nodes = n.state t.nodes; vals = v.state t.values; root = row_of t.root }

  abbrev pub tree : Trunk N V → Tree E
  tree t = tree_in n.model v.model (states t)

  -- it is known that the table agrees with its two stores
  abbrev pub Sound : Trunk N V → Type 0
  Sound t = ∥ Agrees (n.model.live (n.state t.nodes)) (v.model.live (v.state t.values)) (row_of t.root) ∥₁

  -- nothing is changed: the root and both states, and both memories to the last cell
  pub record Untouched (t after : Trunk N V) : Type 0 where
    pub states : states after ≡ states t
    pub nodes : n.memory after.nodes ≡ n.memory t.nodes
    pub values : v.memory after.values ≡ v.memory t.values
