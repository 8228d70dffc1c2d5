-- The start of a table.
use Rattle.std.specs.Prelude.{◌≡◌, [], IfErr, Result}
use Rattle.runs.specs.Calls.{Tells}
use Rattle.runs.specs.Refusals.{Refusal, refusal, Grant}
use Rattle.runs.specs.Runs.{count}
use Rattle.runs.specs.declared.entry.NodeRow.{NodeRow}
use Rattle.runs.specs.declared.index.NodeIndex.{NodeIndex}
use Rattle.runs.specs.declared.store.Runs.{Ghosts}
use Rattle.table_model.specs.Refusals.{no_start}
use Rattle.table_model.specs.Table.{bare_row}
use Rattle.table_model.specs.Tree.{bare}
use Rattle.trunk.specs.Meaning.{states, tree, Sound}
use Rattle.table.specs.declared.Table.{Table}
use Rattle.table.specs.declared.NotStarted.{NotStarted}

module _ {E Ix N V : Type 0} (n : Ghosts N NodeRow NodeIndex) (v : Ghosts V E Ix) where
  -- refused where a store has a live run
  abbrev pub start_no : N → V → Grant
  start_no x y = no_start (count (n.model.live (n.state x))) (count (v.model.live (v.state y)))

  abbrev pub told_start : NotStarted N V → Refusal
  told_start back = refusal 12 []

  -- a table of the empty path over the stores x and y
  pub record Started {g : _} {h : _} {i : _} {j : _} (x : N) (y : V) (t : Table N V E Ix n g h v i j) : Type 0 where
    pub sound : Sound n v t.trunk
    pub states : states n v t.trunk ≡ record { nodes = n.state x; vals = v.state y; root = bare_row }
    pub tree : tree n v t.trunk ≡ bare
    pub nodes : t.trunk.nodes ≡ x
    pub values : t.trunk.values ≡ y

  -- refused, both come back as they were
  pub record Returned (x : N) (y : V) (back : NotStarted N V) : Type 0 where
    pub nodes : back.nodes ≡ x
    pub values : back.values ≡ y

  pub record Starts {g : _} {h : _} {i : _} {j : _} (x : N) (y : V) (r : Result (Table N V E Ix n g h v i j) (NotStarted N V)) : Type 0 where
    pub answer : Tells told_start r (start_no x y) (Started x y)
    pub back : IfErr r (Returned x y)
