-- One node's mappings: a bitmap of the bits that have one, and the run that has a record for each of them, lowest bit first.
use Rattle.std.specs.Prelude.{ℕ, cond, ◌==◌}
use Rattle.bitmap.specs.Ranks.{is_set, rank}
use Rattle.runs.specs.Refusals.{Grant}
use Rattle.runs.specs.Runs.{Model, grows, no_entry, no_insert}

module _ {E S : Type 0} (m : Model E S) (s : S) (bitmap i b : ℕ) where
  -- a record for bit b goes in place of the one that is there, opens the run, or goes before the bit's rank
  abbrev pub no_set : Grant
  no_set = cond (is_set bitmap b) (no_entry m s i (rank bitmap b)) (cond (bitmap == 0) (grows m s 0) (no_insert m s i (rank bitmap b)))

  abbrev pub set_state : E → S
  set_state e = cond (is_set bitmap b) (m.exchanged s i (rank bitmap b) e) (cond (bitmap == 0) (m.opened s e) (m.inserted s i (rank bitmap b) e))

  abbrev pub set_index : E → ℕ
  set_index e = cond (is_set bitmap b) i (cond (bitmap == 0) (m.opened_at s e) (m.inserted_at s i (rank bitmap b) e))
