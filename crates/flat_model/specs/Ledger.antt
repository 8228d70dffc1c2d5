-- The ledger of a flat store: a word for each cell.
-- A word is the number of entries of the run that begins at its cell (0: none begins), and 64 times a link.
-- A link is 0, or the index of a freed group and 1. The freed groups are linked, the last one freed first.
use Rattle.std.specs.Prelude.{◌≡◌, ℕ, zero, suc, ◌+◌, ◌/◌, ◌%◌, List, [], ◌∷◌, length, take, drop, slice_index}
use Rattle.runs.specs.Runs.{count}
use Rattle.flat_model.specs.Flat.{State, Valid}

abbrev pub length_w : ℕ → ℕ
length_w w = w % 64

abbrev pub link_w : ℕ → ℕ
link_w w = w / 64

-- the run at an index; [] where none lives
abbrev pub run_at : {E : Type 0} → List E → List ℕ → ℕ → List E
run_at cells ledger i = take (length_w (slice_index ledger i)) (drop i cells)

-- the groups that the ledger leads through from a link on, at most so many
unfoldable pub chain : List ℕ → ℕ → ℕ → List ℕ
chain ledger zero link = []
chain ledger (suc n) zero = []
chain ledger (suc n) (suc p) = p ∷ chain ledger n (link_w (slice_index ledger p))

-- from the link on, the ledger leads through these groups and then ends
abbrev pub Linked : List ℕ → ℕ → List ℕ → Type 0
Linked ledger link [] = link ≡ 0
Linked ledger link (p ∷ ps) = (link ≡ p + 1) × Linked ledger (link_w (slice_index ledger p)) ps

-- the freed groups, by the link to the last one freed
abbrev pub freed_from : List ℕ → ℕ → List ℕ
freed_from ledger head = chain ledger (length ledger) head

abbrev pub state_of : {E : Type 0} → List E → List ℕ → ℕ → ℕ → State E
state_of cells ledger claimed head = record { cells = length cells; claimed = claimed; free = freed_from ledger head; live = run_at cells ledger }

-- the memory agrees with itself
pub record Sound {E : Type 0} (longest : ℕ) (cells : List E) (ledger : List ℕ) (claimed head runs : ℕ) : Type 0 where
  pub same : length ledger ≡ length cells
  pub long : (i : ℕ) → length (run_at cells ledger i) ≡ length_w (slice_index ledger i)
  pub ends : Linked ledger head (freed_from ledger head)
  pub counted : runs ≡ count (run_at cells ledger)
  pub valid : Valid longest (state_of cells ledger claimed head)
