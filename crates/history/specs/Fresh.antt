-- Over two fresh stores.
use Rattle.std.specs.Prelude.{◌≡◌, ℕ}
use Rattle.runs.specs.declared.entry.NodeRow.{NodeRow}
use Rattle.tiered_model.specs.Tiered.{State, fresh}
use Rattle.history.specs.declared.left.NoHistory.{NoHistory}
use Rattle.history.specs.declared.left.NoHistory.TheVariants.{NoMemory, NotStarted}

-- two stores of so many cells, with no run and no cell claimed, and what holds of them
pub record OverFresh {E N V : Type 0} (nodes : N → State NodeRow) (values : V → State E) (node_cells value_cells : ℕ) (P : N → V → Type 0) : Type 0 where
  pub node_store : N
  pub value_store : V
  pub fresh_nodes : nodes node_store ≡ fresh node_cells
  pub fresh_values : values value_store ≡ fresh value_cells
  pub holds : P node_store value_store

-- nothing but memory was wanting
abbrev pub Memory : {N V : Type 0} → NoHistory N V → Type 0
Memory (NoMemory a b) = Unit {0}
Memory (NotStarted back) = ⊥
