-- What the public call promises: a whole history, from two stores to what is left.
use Rattle.std.specs.Prelude.{◌≡◌, ℕ, List, length, map, None, Some, Option, Result}
use Rattle.runs.specs.declared.entry.NodeRow.{NodeRow}
use Rattle.runs.specs.declared.index.NodeIndex.{NodeIndex}
use Rattle.runs.specs.declared.store.Runs.{Ghosts}
use Rattle.table_model.specs.Tree.{walk}
use Rattle.table_model.specs.States.{Table as States}
use Rattle.trunk.specs.Meaning.{states, tree}
use Rattle.trunk.specs.declared.Trunk.{Trunk}
use Rattle.bitmap.specs.declared.Bit.{Bit}
use Rattle.nodes.specs.declared.fault.Fault.{Fault}
use Rattle.table.specs.Starting.{start_no, told_start, Returned}
use Rattle.walk.specs.Meaning.{to_come}
use Rattle.history_model.specs.Calls.{Call as Pure, Answer as Told, played}
use Rattle.history_model.specs.Books.{nexts, left}
use Rattle.history_model.specs.Histories.{started, plain, History}
use Rattle.history.specs.Calls.{told}
use Rattle.history.specs.Last.{asked}
use Rattle.history.specs.Plays.{Kept, cells, next_of}
use Rattle.history.specs.declared.call.Answer.{Answer}
use Rattle.history.specs.declared.left.Last.{Last}
use Rattle.history.specs.declared.left.Last.TheVariants as last
use Rattle.history.specs.declared.left.Left.{Left}
use Rattle.history.specs.declared.left.Left.TheVariants.{Table, Walk, Ended}
use Rattle.history.specs.declared.left.Played.{Played}
use Rattle.history.specs.declared.left.NoHistory.{NoHistory}
use Rattle.history.specs.declared.left.NoHistory.TheVariants.{NoMemory, NotStarted}

abbrev pub answers_of : {E : Type 0} → List (Result (Answer E) Fault) → List (Told E)
answers_of rs = map told rs

module _ {E Ix N V : Type 0} (n : Ghosts N NodeRow NodeIndex) (v : Ghosts V E Ix) where
  -- the walk of the plain tree that the calls leave
  abbrev pub walk_after : N → V → List (Pure E) → List (Told E) → List (ℕ × E)
  walk_after x y cs rs = walk 25 (plain n.model v.model (n.state x) (v.state y) cs rs (length cs))

  -- no history, for want of memory, or because of 12; both stores come back as they were
  abbrev pub Back : N → V → NoHistory N V → Type 0
  Back x y (NoMemory a b) = (a ≡ x) × (b ≡ y)
  Back x y (NotStarted back) = (start_no n v x y ≡ Some (told_start n v back)) × Returned n v x y back

module _ {E Ix N V : Type 0} (n : Ghosts N NodeRow NodeIndex) (v : Ghosts V E Ix) {i : _} {j : _} where
  -- the states of what is left
  abbrev pub Stands : Left N V E Ix n v i j → States n.State v.State → Type 0
  Stands (Table t) s = states n v t.trunk ≡ s
  Stands (Walk w) s = states n v w.trunk ≡ s
  Stands (Ended k x y) s = (n.state x ≡ s.nodes) × (v.state y ≡ s.vals)

  -- and the memories
  abbrev pub cells_left : Left N V E Ix n v i j → n.Memory × v.Memory
  cells_left (Table t) = cells n v t.trunk.nodes t.trunk.values
  cells_left (Walk w) = cells n v w.trunk.nodes w.trunk.values
  cells_left (Ended k x y) = cells n v x y

  -- what is left is what was asked for: the table; a walk that has the entries es still to give; or how many they are
  abbrev pub Leaves : Last → Left N V E Ix n v i j → List (ℕ × E) → Type 0
  Leaves last.Stay (Table t) es = Unit {0}
  Leaves (last.Walk m) (Walk w) es = to_come n v w ≡ es
  Leaves (last.End m) (Ended k x y) es = k ≡ length es
  Leaves l r es = ⊥

  -- what becomes of a table that means a tree: the nexts are those of the tree's walk, and nothing is changed
  pub record GoesOn (t : Trunk N V) (l : Last) (given : List (Option (Bit × E))) (r : Left N V E Ix n v i j) : Type 0 where
    pub given_by_the_walk : map next_of given ≡ nexts (walk 25 (tree n v t)) (asked l)
    pub left_as_asked : Leaves l r (left (walk 25 (tree n v t)) (asked l))
    pub same_states : Stands r (states n v t)
    pub same_cells : cells_left r ≡ cells n v t.nodes t.values

  -- The calls cs were played on a table of the empty path over the stores x and y, and then the history went on as l says.
  pub record Whole (x : N) (y : V) (cs : List (Pure E)) (l : Last) (p : Played N V E Ix n v i j) : Type 0 where
    pub no_run_was_live : start_no n v x y ≡ None
    pub history : History n.model v.model (n.state x) (v.state y) cs (answers_of p.answers.items)
    -- what is left has come about by the calls alone, and no refusal has changed a cell
    pub led_by_the_calls : Stands p.left (played n.model v.model (started (n.state x) (v.state y)) cs)
    pub refusals_leave_every_cell : Kept (cells n v x y) (answers_of p.answers.items) (cells_left p.left)
    -- the nexts are those of the plain tree's walk
    pub nexts_are_of_the_walk : map next_of p.nexts.items ≡ nexts (walk_after n v x y cs (answers_of p.answers.items)) (asked l)
    pub left_as_asked : Leaves l p.left (left (walk_after n v x y cs (answers_of p.answers.items)) (asked l))
