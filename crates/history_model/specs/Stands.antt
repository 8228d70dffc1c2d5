-- Every list of calls on a table of two stores with no live run is a history as described.
use Rattle.std.specs.Prelude.{◌≡◌, ℕ, ◌≤◌, List, []}
use Rattle.runs.specs.Runs.{Model}
use Rattle.runs.specs.declared.entry.NodeRow.{NodeRow}
use Rattle.tiered_model.specs.Tiered.{fresh, tiered}
use Rattle.history_model.specs.Calls.{Call, answers}
use Rattle.history_model.specs.Histories.{started, History, Room}

abbrev pub HistoriesStand : {V N S : Type 0} → Model NodeRow N → Model V S → (N → Type 0) → (S → Type 0) → Type 0
HistoriesStand {V} {N} {S} mn mv VN VS = (n : N) (s : S) → VN n → VS s → ((i : ℕ) → mn.live n i ≡ []) → ((i : ℕ) → mv.live s i ≡ []) →
    (cs : List (Call V)) → History mn mv n s cs (answers mn mv (started n s) cs)

abbrev pub RoomsStand : Type 0 → Type 0
RoomsStand V = (longest node_cells value_cells : ℕ) → 31 ≤ longest → longest ≤ 32 → node_cells ≤ 16777216 → value_cells ≤ 16777216 →
    (cs : List (Call V)) → Room longest node_cells value_cells cs (answers (tiered 32) (tiered longest) (started (fresh node_cells) (fresh value_cells)) cs)
