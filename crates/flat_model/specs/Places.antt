-- What is proved of the flat store's states: they are a run store's, and no two groups have a cell in common.
use Rattle.std.specs.Prelude.{◌≡◌, ℕ, ◌+◌, ◌≤◌, true, ◌⊎◌, [], length, ◌≢◌}
use Rattle.runs.specs.Lists.{indexes}
use Rattle.runs.specs.Runs.{Lawful}
use Rattle.runs.specs.Sizes.{times}
use Rattle.flat_model.specs.Flat.{State, fresh, flat, has, group, Valid}

-- a group of the state: a live run's, or a freed one
pub data Group {E : Type 0} (s : State E) (i : ℕ) : Type 0 where
  of_run : 1 ≤ length (s.live i) → Group s i
  of_free : 1 ≤ times i s.free → Group s i

-- Where the groups of a state are: below the claimed cells, and no two on one cell. The next one is apart from every live run's.
pub record Placed {E : Type 0} (longest : ℕ) (s : State E) : Type 0 where
  pub room : (i : ℕ) → length (s.live i) ≤ longest
  pub below : (i : ℕ) → Group s i → i + longest ≤ s.claimed
  pub apart : (i j : ℕ) → Group s i → Group s j → (i ≢ j) → (i + longest ≤ j) ⊎ (j + longest ≤ i)
  pub unused : (i : ℕ) → 1 ≤ times i s.free → s.live i ≡ []
  pub next_below : has longest s ≡ true → group s + longest ≤ s.cells
  pub next_apart : (j : ℕ) → 1 ≤ length (s.live j) → (group s + longest ≤ j) ⊎ (j + longest ≤ group s)

abbrev pub GroupsApart : Type 0 → Type 0
GroupsApart E = (longest : ℕ) → 31 ≤ longest → longest ≤ 32 → (s : State E) → Valid longest s → Placed longest s

abbrev pub FlatLawful : Type 0 → Type 0
FlatLawful E = (longest : ℕ) → 31 ≤ longest → longest ≤ 32 → Lawful (flat {E = E} longest) longest (Valid longest)

abbrev pub FreshValid : Type 0 → Type 0
FreshValid E = (longest cells : ℕ) → 31 ≤ longest → longest ≤ 32 → cells ≤ indexes → Valid {E = E} longest (fresh cells)
