-- What a tiered store means: its state, that its memory agrees with itself, and all of that memory.
use Rattle.std.specs.Prelude.{ℕ, List}
use Rattle.tiered_model.specs.Tiered.{State}
use Rattle.tiered_model.specs.Ledger.{state_of}
use Rattle.tiered.specs.declared.Tiered.{Tiered}

abbrev pub store_state : {E Ix : Type 0} {g : _} {h : _} → Tiered E Ix g h → State E
store_state t = state_of t.cells.now t.ledger.now t.claimed t.heads

-- cells, ledger, claimed cells, heads of the free lists, number of runs
abbrev pub Memory : Type 0 → Type 0
Memory E = List E × List ℕ × ℕ × List ℕ × ℕ

abbrev pub memory_of : {E Ix : Type 0} {g : _} {h : _} → Tiered E Ix g h → Memory E
memory_of t = (t.cells.now, t.ledger.now, t.claimed, t.heads, t.runs)
