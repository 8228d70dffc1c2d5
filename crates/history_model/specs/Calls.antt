-- The calls of a history: what refuses each, what each hands out, and what each leads to, on the plain tree and in the states of a table.
use Rattle.std.specs.Prelude.{ℕ, true, false, List, [], ◌∷◌, ◌++◌, Some, None, Option}
use Rattle.runs.specs.Calls.{moved_on}
use Rattle.runs.specs.Refusals.{Refusal, Grant}
use Rattle.runs.specs.Runs.{Model, grows, shrinks}
use Rattle.runs.specs.declared.entry.NodeRow.{NodeRow}
use Rattle.table_model.specs.Tree.{Path, Tree, with_val, with_path}
use Rattle.table_model.specs.Refusals.{value_count, child_count, no_path, no_get, no_put, no_take, no_add, no_plant, no_drop}
use Rattle.table_model.specs.Table.{find}
use Rattle.table_model.specs.States.{Table, tree_in}
use Rattle.table_model.specs.Calls.{swap_to, put_to, take_to, add_to, plant_to, drop_to}

-- a call, with its path, bit and value
pub data Call (V : Type 0) : Type 0 where
  get : Path → ℕ → Call V
  put : Path → ℕ → V → Call V
  swap : Path → ℕ → V → Call V
  take : Path → ℕ → Call V
  add : Path → ℕ → Call V
  plant : Path → ℕ → V → Call V
  drop : Path → ℕ → Call V
  show : Path → Call V

-- what an accepted call hands out: nothing, a value, or a node's record
pub data Out (V : Type 0) : Type 0 where
  nothing : Out V
  value : V → Out V
  node : NodeRow → Out V

-- accepted with what is handed out, or refused with a number and what it carries
pub data Answer (V : Type 0) : Type 0 where
  done : Out V → Answer V
  refused : Refusal → Answer V

-- what the two stores' lists say: to a run of so many entries that is to have one more, and to one that is to have one less
pub record Lists : Type 0 where
  pub grow_nodes : ℕ → Grant
  pub shrink_nodes : ℕ → Grant
  pub grow_values : ℕ → Grant
  pub shrink_values : ℕ → Grant

-- lists that refuse nothing, so that the tree alone judges
abbrev pub yes : Lists
yes = record { grow_nodes = λ _. None; shrink_nodes = λ _. None; grow_values = λ _. None; shrink_values = λ _. None }

abbrev pub says : {V : Type 0} → Grant → Out V → Answer V
says None o = done o
says (Some f) o = refused f

-- ---- on the plain tree

module _ {V : Type 0} where
  -- what refuses a call: the tree, and then a store's list at the node's count
  abbrev pub no_call : Tree V → Lists → Call V → Grant
  no_call t l (get p b) = no_get t p b
  no_call t l (put p b v) = no_put t p b (l.grow_values (value_count t p))
  no_call t l (swap p b v) = no_get t p b
  no_call t l (take p b) = no_take t p b (l.shrink_values (value_count t p))
  no_call t l (add p b) = no_add t p b (l.grow_nodes (child_count t p))
  no_call t l (plant p b v) = no_plant t p b (l.grow_nodes (child_count t p)) (l.grow_values 0)
  no_call t l (drop p b) = no_drop t p b (l.shrink_nodes (child_count t p))
  no_call t l (show p) = no_path t p

  -- the tree after an accepted call
  abbrev pub changed : Tree V → Call V → Tree V
  changed t (get p b) = t
  changed t (put p b v) = with_val t p b (Some v)
  changed t (swap p b v) = with_val t p b (Some v)
  changed t (take p b) = with_val t p b None
  changed t (add p b) = with_path t (p ++ b ∷ []) true
  changed t (plant p b v) = with_val (with_path t (p ++ b ∷ []) true) (p ++ b ∷ []) 0 (Some v)
  changed t (drop p b) = with_path t (p ++ b ∷ []) false
  changed t (show p) = t

  abbrev pub the_value : Option V → Out V
  the_value None = nothing
  the_value (Some v) = value v

  abbrev pub the_node : Option NodeRow → Out V
  the_node None = nothing
  the_node (Some r) = node r

  -- what an accepted call hands out; `record_at` has the nodes' records, for show alone
  abbrev pub out : Tree V → (Path → Option NodeRow) → Call V → Out V
  out t record_at (get p b) = the_value (t.val p b)
  out t record_at (put p b v) = nothing
  out t record_at (swap p b v) = the_value (t.val p b)
  out t record_at (take p b) = the_value (t.val p b)
  out t record_at (add p b) = nothing
  out t record_at (plant p b v) = nothing
  out t record_at (drop p b) = nothing
  out t record_at (show p) = the_node (record_at p)

  -- the tree after a call that was answered so
  abbrev pub after : Tree V → Call V → Answer V → Tree V
  after t c (done o) = changed t c
  after t c (refused f) = t

  -- the tree after several
  abbrev pub after_all : Tree V → List (Call V) → List (Answer V) → Tree V
  after_all t [] rs = t
  after_all t (c ∷ cs) [] = t
  after_all t (c ∷ cs) (a ∷ rs) = after_all (after t c a) cs rs

-- ---- in the states of a table

module _ {V N S : Type 0} (mn : Model NodeRow N) (mv : Model V S) where
  abbrev pub lists_in : Table N S → Lists
  lists_in t = record { grow_nodes = grows mn t.nodes; shrink_nodes = shrinks mn t.nodes; grow_values = grows mv t.vals; shrink_values = shrinks mv t.vals }

  abbrev pub record_in : Table N S → Path → Option NodeRow
  record_in t p = find (mn.live t.nodes) t.root p

  abbrev pub refuses : Table N S → Call V → Grant
  refuses t c = no_call (tree_in mn mv t) (lists_in t) c

  -- the states that an accepted call leads to
  abbrev pub leads : Table N S → Call V → Table N S
  leads t (get p b) = t
  leads t (put p b v) = put_to mn mv t p b v
  leads t (swap p b v) = swap_to mn mv t p b v
  leads t (take p b) = take_to mn mv t p b
  leads t (add p b) = add_to mn mv t p b
  leads t (plant p b v) = plant_to mn mv t p b v
  leads t (drop p b) = drop_to mn mv t p b
  leads t (show p) = t

  -- the states after a call, accepted or refused, and after several, each on those that the one before leaves
  abbrev pub stepped : Table N S → Call V → Table N S
  stepped t c = moved_on (refuses t c) t (leads t c)

  abbrev pub played : Table N S → List (Call V) → Table N S
  played t [] = t
  played t (c ∷ cs) = played (stepped t c) cs

  abbrev pub answer : Table N S → Call V → Answer V
  answer t c = says (refuses t c) (out (tree_in mn mv t) (record_in t) c)

  abbrev pub answers : Table N S → List (Call V) → List (Answer V)
  answers t [] = []
  answers t (c ∷ cs) = answer t c ∷ answers (stepped t c) cs
