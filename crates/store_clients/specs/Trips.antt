-- Two entries put into a store as one run and taken out again, in any store.
use Rattle.std.specs.Prelude.{◌≡◌, ℕ, ◌<◌, ◌≤◌, Bool, true, false, ◌&&◌, ◌⊎◌, List, [], ◌∷◌, Some, None}
use Rattle.runs.specs.Calls.{moved_on}
use Rattle.runs.specs.Lists.{at}
use Rattle.runs.specs.Refusals.{Grant}
use Rattle.runs.specs.Runs.{Model, grows, shrinks, no_insert, no_remove}

abbrev pub yes : Grant → Bool
yes None = true
yes (Some f) = false

-- the entry at the front of the run at j is taken out, unless that is refused
abbrev pub taken : {E S : Type 0} → Model E S → S → ℕ → S
taken m s j = moved_on (no_remove m s j 0) s (m.removed s j 0)

module _ {E S : Type 0} (m : Model E S) (s : S) (first second : E) where
  -- the states and the indexes, each from the one before: opened, with both entries, with the first one only
  abbrev pub opened : S
  opened = m.opened s first

  abbrev pub opened_at : ℕ
  opened_at = m.opened_at s first

  abbrev pub both : S
  both = m.inserted opened opened_at 0 second

  abbrev pub both_at : ℕ
  both_at = m.inserted_at opened opened_at 0 second

  abbrev pub single : S
  single = m.removed both both_at 0

  abbrev pub single_at : ℕ
  single_at = m.removed_at both both_at 0

  -- where the calls lead: a refusal stays where it comes, but the second entry refused has the first one taken out again
  abbrev pub ends : S
  ends = moved_on (grows m s 0) s (moved_on (no_insert m opened opened_at 0) (taken m opened opened_at) (moved_on (no_remove m both both_at 0) both (taken m single single_at)))

  -- the four calls are accepted
  abbrev pub whole : Bool
  whole = yes (grows m s 0) && (yes (no_insert m opened opened_at 0) && (yes (no_remove m both both_at 0) && yes (no_remove m single single_at 0)))

-- no removal is refused in any state that can be
abbrev pub Removes : {E S : Type 0} → Model E S → ℕ → (S → Type 0) → Type 0
Removes m longest Valid = (s : _) (n : ℕ) → Valid s → 0 < n → n ≤ longest → shrinks m s n ≡ None

-- Every run that was live is as it was. Beside them there is no other, or one at an index where none was live.
pub data Left {E : Type 0} (before : ℕ → List E) (first second : E) (after : ℕ → List E) : Type 0 where
  same : after ≡ before → Left before first second after
  over : (j : ℕ) (xs : List E) → before j ≡ [] → (xs ≡ first ∷ []) ⊎ (xs ≡ second ∷ first ∷ []) → after ≡ at before j xs → Left before first second after
