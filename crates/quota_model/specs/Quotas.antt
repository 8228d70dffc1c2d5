-- A limit on the entries of all runs of a store, whatever store that is.
use Rattle.std.specs.Prelude.{ℕ, ◌+◌, min, cond, ◌||◌, [], ◌∷◌, map, length, replicate, Some, None, ◌==◌}
use Rattle.runs.specs.Refusals.{Refusal, Grant, refusal}
use Rattle.runs.specs.Runs.{Model, total}

-- the limit, and the state of the store below
pub record State (S : Type 0) : Type 0 where
  pub limit : ℕ
  pub below : S

-- one layer more, in 32 bits: it stops at the top
abbrev pub more : ℕ → ℕ
more n = min (n + 1) 4294967295

-- a refusal passed up: 23 and 24 have crossed one layer more, any other is as it is
abbrev pub up : Refusal → Refusal
up f = cond (f.number == 23 || f.number == 24) (refusal f.number (map more f.carries)) f

-- an answer passed up
abbrev pub passed : Grant → Grant
passed None = None
passed (Some f) = Some (up f)

-- the limit's own refusal, which has crossed no layer
abbrev pub full : Grant
full = Some (refusal 24 (0 ∷ []))

-- the limit stays, whatever becomes of the store below
abbrev pub over : {S : Type 0} → State S → S → State S
over s below = record { limit = s.limit; below = below }

-- Every run is the one below. Where the entries of all runs number the limit, no run can grow; else it is as below, and so is shrinking.
abbrev pub capped : {E S : Type 0} → Model E S → Model E (State S)
capped m = record {
  live = λ s. m.live s.below;
  grow = λ s. cond (total (m.live s.below) == s.limit) (replicate (length (m.grow s.below)) full) (map passed (m.grow s.below));
  shrink = λ s. map passed (m.shrink s.below);
  exchanged = λ s i k e. over s (m.exchanged s.below i k e);
  opened = λ s e. over s (m.opened s.below e);
  opened_at = λ s e. m.opened_at s.below e;
  inserted = λ s i k e. over s (m.inserted s.below i k e);
  inserted_at = λ s i k e. m.inserted_at s.below i k e;
  removed = λ s i k. over s (m.removed s.below i k);
  removed_at = λ s i k. m.removed_at s.below i k;
}
