-- What a run store means: a finite map from live indexes to runs, two lists of answers, and what each call makes of them.
use Rattle.std.specs.Prelude.{◌≡◌, ℕ, zero, suc, ◌+◌, ◌-◌, ◌<◌, ◌≤◌, cond, List, [], ◌∷◌, length, Some, None, ◌==◌, nat_le, nat_lt, slice_index_or, slice_set}
use Rattle.runs.specs.Lists.{empty, indexes, at, with_new, without}
use Rattle.runs.specs.Refusals.{Grant, refusal}

-- A store by its states: what is live in a state, its two lists, and the state and the index after a call that is accepted.
-- A map has [] at an index where no run is live.
pub record Model (E State : Type 0) : Type 0 where
  pub live : State → ℕ → List E
  pub grow : State → List Grant
  pub shrink : State → List Grant
  pub exchanged : State → ℕ → ℕ → E → State
  pub opened : State → E → State
  pub opened_at : State → E → ℕ
  pub inserted : State → ℕ → ℕ → E → State
  pub inserted_at : State → ℕ → ℕ → E → ℕ
  pub removed : State → ℕ → ℕ → State
  pub removed_at : State → ℕ → ℕ → ℕ

-- the sum of g over the runs at the indexes below n
unfoldable pub tally : {E : Type 0} → (List E → ℕ) → (ℕ → List E) → ℕ → ℕ
tally g live zero = 0
tally g live (suc n) = tally g live n + g (live n)

abbrev pub one_run : {E : Type 0} → List E → ℕ
one_run [] = 0
one_run (x ∷ xs) = 1

-- how many runs are live, and how many entries they have together
abbrev pub count : {E : Type 0} → (ℕ → List E) → ℕ
count live = tally one_run live indexes

abbrev pub total : {E : Type 0} → (ℕ → List E) → ℕ
total live = tally length live indexes

module _ {E State : Type 0} (m : Model E State) where
  -- grow has an answer for a run of n = 0, 1, .. entries that is to have one more; beyond its list it is refused 22
  abbrev pub grows : State → ℕ → Grant
  grows s n = cond (nat_lt n (length (m.grow s))) (slice_index_or (m.grow s) n None) (Some (refusal 22 []))

  -- shrink has an answer for a run of n = 1, 2, .. entries that is to have one less; beyond its list it is refused 21
  abbrev pub shrinks : State → ℕ → Grant
  shrinks s n = cond (nat_lt 0 n) (cond (nat_le n (length (m.shrink s))) (slice_index_or (m.shrink s) (n - 1) None) (Some (refusal 21 []))) (Some (refusal 21 []))

  -- the entry at slot k of the run at i
  abbrev pub no_entry : State → ℕ → ℕ → Grant
  no_entry s i k = cond (length (m.live s i) == 0) (Some (refusal 20 [])) (cond (nat_lt k (length (m.live s i))) None (Some (refusal 21 [])))

  -- an entry before slot k of the run at i
  abbrev pub no_insert : State → ℕ → ℕ → Grant
  no_insert s i k = cond (length (m.live s i) == 0) (Some (refusal 20 [])) (cond (nat_lt (length (m.live s i)) k) (Some (refusal 21 [])) (grows s (length (m.live s i))))

  -- the entry at slot k of the run at i taken out
  abbrev pub no_remove : State → ℕ → ℕ → Grant
  no_remove s i k = cond (length (m.live s i) == 0) (Some (refusal 20 [])) (cond (nat_lt k (length (m.live s i))) (shrinks s (length (m.live s i))) (Some (refusal 21 [])))

-- The run at i is now xs at j: at its old index, or at one where none was live. Every other run is as it was.
pub record Moved {E : Type 0} (before : ℕ → List E) (i j : ℕ) (xs : List E) (after : ℕ → List E) : Type 0 where
  pub free : at before i [] j ≡ []
  pub is : after ≡ at (at before i []) j xs

-- A removal: a run of one ends and the answer is empty; else the run is at the index answered, without the entry.
pub data Removing {E : Type 0} (before : ℕ → List E) (i k j : ℕ) (after : ℕ → List E) : Type 0 where
  ended : length (before i) ≡ 1 → j ≡ empty → after ≡ at before i [] → Removing before i k j after
  left : 1 < length (before i) → Moved before i j (without (before i) k) after → Removing before i k j after

-- The laws that make a model a run store, over the states that can be.
pub record Lawful {E State : Type 0} (m : Model E State) (longest : ℕ) (Valid : State → Type 0) : Type 0 where
  pub low : (s : State) (i : ℕ) → Valid s → indexes ≤ i → m.live s i ≡ []
  pub short : (s : State) (i : ℕ) → Valid s → length (m.live s i) ≤ longest
  pub grow_list : (s : State) → Valid s → length (m.grow s) ≡ longest
  pub shrink_list : (s : State) → Valid s → length (m.shrink s) ≡ longest
  pub exchanging : (s : State) (i k : ℕ) (e : E) → Valid s → no_entry m s i k ≡ None →
      Valid (m.exchanged s i k e) × (m.live (m.exchanged s i k e) ≡ at (m.live s) i (slice_set (m.live s i) k e))
      × (m.grow (m.exchanged s i k e) ≡ m.grow s) × (m.shrink (m.exchanged s i k e) ≡ m.shrink s)
  pub opening : (s : State) (e : E) → Valid s → grows m s 0 ≡ None →
      Valid (m.opened s e) × (m.live s (m.opened_at s e) ≡ []) × (m.live (m.opened s e) ≡ at (m.live s) (m.opened_at s e) (e ∷ []))
  pub inserting : (s : State) (i k : ℕ) (e : E) → Valid s → no_insert m s i k ≡ None →
      Valid (m.inserted s i k e) × Moved (m.live s) i (m.inserted_at s i k e) (with_new (m.live s i) k e) (m.live (m.inserted s i k e))
  pub removing : (s : State) (i k : ℕ) → Valid s → no_remove m s i k ≡ None →
      Valid (m.removed s i k) × Removing (m.live s) i k (m.removed_at s i k) (m.live (m.removed s i k))
