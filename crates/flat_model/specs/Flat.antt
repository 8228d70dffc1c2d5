-- The flat store by its states: the cells lent, the cells claimed, the freed groups, the one freed last in front, and the runs.
-- Every group has as many cells as the longest run has entries. Its first cell is the index of its run, and no run moves.
use Rattle.std.specs.Prelude.{◌≡◌, ℕ, ◌+◌, ◌-◌, ◌%◌, ◌≤◌, Bool, true, false, cond, ◌||◌, List, [], ◌∷◌, length, replicate, Some, None, ◌==◌, nat_le, slice_set}
use Rattle.runs.specs.Lists.{empty, indexes, at, with_new, without}
use Rattle.runs.specs.Refusals.{Grant, refusal}
use Rattle.runs.specs.Runs.{Model}
use Rattle.runs.specs.Sizes.{times}

pub record State (E : Type 0) : Type 0 where
  pub cells : ℕ
  pub claimed : ℕ
  pub free : List ℕ
  pub live : ℕ → List E

-- the group that is taken next: the one freed last, else the next unclaimed one, at c
abbrev pub next : List ℕ → ℕ → ℕ
next [] c = c
next (i ∷ is) c = i

-- the freed groups without that one
abbrev pub others : List ℕ → List ℕ
others [] = []
others (i ∷ is) = is

-- the cells claimed once it is taken
abbrev pub claiming : ℕ → List ℕ → ℕ → ℕ
claiming longest [] c = c + longest
claiming longest (i ∷ is) c = c

abbrev pub some_free : List ℕ → Bool
some_free [] = false
some_free (i ∷ is) = true

module _ {E : Type 0} where
  -- a store over so many cells, with no run
  abbrev pub fresh : ℕ → State E
  fresh cells = record { cells = cells; claimed = 0; free = []; live = λ _. [] }

  abbrev pub group : State E → ℕ
  group s = next s.free s.claimed

  -- the run at i is now ys
  abbrev pub kept : State E → ℕ → List E → State E
  kept s i ys = record { cells = s.cells; claimed = s.claimed; free = s.free; live = at s.live i ys }

  -- the run at i has ended, and its group is freed
  abbrev pub released : State E → ℕ → State E
  released s i = record { cells = s.cells; claimed = s.claimed; free = i ∷ s.free; live = at s.live i [] }

  module _ (longest : ℕ) where
    -- whether a group can be had
    abbrev pub has : State E → Bool
    has s = some_free s.free || nat_le (s.claimed + longest) s.cells

    -- the run ys in a group, where fs are the freed ones
    abbrev pub held_from : State E → List ℕ → List E → State E
    held_from s fs ys = record { cells = s.cells; claimed = claiming longest fs s.claimed; free = others fs; live = at s.live (next fs s.claimed) ys }

    abbrev pub held : State E → List E → State E
    held s ys = held_from s s.free ys

    -- whether a run can be opened
    abbrev pub opening : State E → Grant
    opening s = cond (has s) None (Some (refusal 23 (0 ∷ [])))

    -- Only opening a run needs a group: every other answer is yes.
    abbrev pub flat : Model E (State E)
    flat = record {
      live = λ s. s.live;
      grow = λ s. opening s ∷ replicate (longest - 1) None;
      shrink = λ s. replicate longest None;
      exchanged = λ s i k e. kept s i (slice_set (s.live i) k e);
      opened = λ s e. held s (e ∷ []);
      opened_at = λ s e. group s;
      inserted = λ s i k e. kept s i (with_new (s.live i) k e);
      inserted_at = λ s i k e. i;
      removed = λ s i k. cond (length (s.live i) == 1) (released s i) (kept s i (without (s.live i) k));
      removed_at = λ s i k. cond (length (s.live i) == 1) empty i;
    }

-- a group of the longest run's size begins at i, below the claimed cells
abbrev pub Begins : ℕ → ℕ → ℕ → Type 0
Begins longest claimed i = (i % longest ≡ 0) × (i + longest ≤ claimed)

-- The states that can be.
pub record Valid {E : Type 0} (longest : ℕ) (s : State E) : Type 0 where
  pub within : s.cells ≤ indexes
  pub enough : s.claimed ≤ s.cells
  pub whole : s.claimed % longest ≡ 0
  pub short : (i : ℕ) → length (s.live i) ≤ longest
  pub living : (i : ℕ) → 1 ≤ length (s.live i) → Begins longest s.claimed i
  pub freed : (i : ℕ) → 1 ≤ times i s.free → Begins longest s.claimed i × (s.live i ≡ [])
  pub once : (i : ℕ) → times i s.free ≤ 1
