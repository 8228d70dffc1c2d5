-- What a flat store over lent memory means: its state, and all of that memory.
use Rattle.std.specs.Prelude.{ℕ, List}
use Rattle.flat_model.specs.Flat.{State}
use Rattle.flat_model.specs.Ledger.{state_of}
use Rattle.flat.specs.declared.flat.Flat.{Flat}

abbrev pub store_state : {E Ix : Type 0} {g : _} {h : _} → Flat E Ix g h → State E
store_state f = state_of f.cells.now f.ledger.now f.claimed f.head

-- all that the store holds: the cells, the ledger, the cells claimed, the link to the group freed last, and the live runs
abbrev pub Memory : Type 0 → Type 0
Memory E = List E × List ℕ × ℕ × ℕ × ℕ

abbrev pub memory_of : {E Ix : Type 0} {g : _} {h : _} → Flat E Ix g h → Memory E
memory_of f = (f.cells.now, f.ledger.now, f.claimed, f.head, f.runs)
