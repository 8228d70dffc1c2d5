-- The ledger of a tiered store: a word for each cell, and for each size the group freed last.
-- A word is the number of entries of the run that begins at its cell (0: none begins), and 64 times a link.
-- A link is 0, or the index of a freed group and 1. The freed groups of a size are linked, the last one freed first.
use Rattle.std.specs.Prelude.{◌≡◌, ℕ, zero, suc, ◌+◌, ◌/◌, ◌%◌, List, [], ◌∷◌, length, take, drop, slice_index}
use Rattle.runs.specs.Runs.{count}
use Rattle.tiered_model.specs.Tiered.{State}
use Rattle.tiered_model.specs.Groups.{Valid}

abbrev pub len_w : ℕ → ℕ
len_w w = w % 64

abbrev pub link_w : ℕ → ℕ
link_w w = w / 64

-- the run at an index; [] where none lives
abbrev pub run_at : {E : Type 0} → List E → List ℕ → ℕ → List E
run_at cells ledger i = take (len_w (slice_index ledger i)) (drop i cells)

-- the groups that the ledger leads through from a link on, at most so many
unfoldable pub chain : List ℕ → ℕ → ℕ → List ℕ
chain ledger zero link = []
chain ledger (suc n) zero = []
chain ledger (suc n) (suc p) = p ∷ chain ledger n (link_w (slice_index ledger p))

-- from the link on, the ledger leads through these groups and then ends
abbrev pub Linked : List ℕ → ℕ → List ℕ → Type 0
Linked ledger link [] = link ≡ 0
Linked ledger link (p ∷ ps) = (link ≡ p + 1) × Linked ledger (link_w (slice_index ledger p)) ps

-- the freed groups of size z
abbrev pub freed : List ℕ → List ℕ → ℕ → List ℕ
freed ledger heads z = chain ledger (length ledger) (slice_index heads z)

abbrev pub state_of : {E : Type 0} → List E → List ℕ → ℕ → List ℕ → State E
state_of cells ledger claimed heads = record { cells = length cells; claimed = claimed; free = freed ledger heads; live = run_at cells ledger }

pub record Sound {E : Type 0} (longest : ℕ) (cells : List E) (ledger : List ℕ) (claimed : ℕ) (heads : List ℕ) (runs : ℕ) : Type 0 where
  pub same : length ledger ≡ length cells
  pub long : (i : ℕ) → length (run_at cells ledger i) ≡ len_w (slice_index ledger i)
  pub ends : (z : ℕ) → Linked ledger (slice_index heads z) (freed ledger heads z)
  pub counted : runs ≡ count (run_at cells ledger)
  pub valid : Valid longest (state_of cells ledger claimed heads)
