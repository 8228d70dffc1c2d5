-- The calls on a table by the states of its two stores: what each refuses, and the states that it leads to where it is accepted.
-- What it means on the plain tree stands with the call's contract.
use Rattle.std.specs.Prelude.{ℕ, Option}
use Rattle.runs.specs.Refusals.{Grant}
use Rattle.runs.specs.Runs.{Model, grows, shrinks}
use Rattle.runs.specs.declared.entry.NodeRow.{NodeRow}
use Rattle.table_model.specs.Tree.{Path}
use Rattle.table_model.specs.Refusals.{value_count, child_count, no_path, no_get, no_put, no_take, no_add, no_plant, no_drop}
use Rattle.table_model.specs.States.{Place, top, descend, Table, there, tree_in, put_at, take_at, swap_at, add_at, plant_at, drop_at}

module _ {V N S : Type 0} (mn : Model NodeRow N) (mv : Model V S) where
  -- the place of a path's record, with the record
  abbrev pub way : Table N S → Path → Option (Place × NodeRow)
  way t p = descend (mn.live t.nodes) top t.root p

  abbrev pub show_no : Table N S → Path → Grant
  show_no t p = no_path (tree_in mn mv t) p

  abbrev pub get_no : Table N S → Path → ℕ → Grant
  get_no t p b = no_get (tree_in mn mv t) p b

  abbrev pub swap_to : Table N S → Path → ℕ → V → Table N S
  swap_to t p b v = there t (way t p) (λ at r. swap_at mn mv t r b v)

  -- put and take ask with the node's value count
  abbrev pub put_no : Table N S → Path → ℕ → Grant
  put_no t p b = no_put (tree_in mn mv t) p b (grows mv t.vals (value_count (tree_in mn mv t) p))

  abbrev pub put_to : Table N S → Path → ℕ → V → Table N S
  put_to t p b v = there t (way t p) (λ at r. put_at mn mv t at r b v)

  abbrev pub take_no : Table N S → Path → ℕ → Grant
  take_no t p b = no_take (tree_in mn mv t) p b (shrinks mv t.vals (value_count (tree_in mn mv t) p))

  abbrev pub take_to : Table N S → Path → ℕ → Table N S
  take_to t p b = there t (way t p) (λ at r. take_at mn mv t at r b)

  -- add, plant and drop ask with the parent's child count, plant also for a first value
  abbrev pub add_no : Table N S → Path → ℕ → Grant
  add_no t p b = no_add (tree_in mn mv t) p b (grows mn t.nodes (child_count (tree_in mn mv t) p))

  abbrev pub add_to : Table N S → Path → ℕ → Table N S
  add_to t p b = there t (way t p) (λ at r. add_at mn mv t at r b)

  abbrev pub plant_no : Table N S → Path → ℕ → Grant
  plant_no t p b = no_plant (tree_in mn mv t) p b (grows mn t.nodes (child_count (tree_in mn mv t) p)) (grows mv t.vals 0)

  abbrev pub plant_to : Table N S → Path → ℕ → V → Table N S
  plant_to t p b v = there t (way t p) (λ at r. plant_at mn mv t at r b v)

  abbrev pub drop_no : Table N S → Path → ℕ → Grant
  drop_no t p b = no_drop (tree_in mn mv t) p b (shrinks mn t.nodes (child_count (tree_in mn mv t) p))

  abbrev pub drop_to : Table N S → Path → ℕ → Table N S
  drop_to t p b = there t (way t p) (λ at r. drop_at mn mv t at r b)
