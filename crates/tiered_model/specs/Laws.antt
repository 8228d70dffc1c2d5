-- What is proved of the tiered store's states.
use Rattle.std.specs.Prelude.{◌≡◌, ℕ, ◌+◌, ◌<◌, ◌≤◌, max, true, ◌⊎◌, [], length, None, ◌≢◌}
use Rattle.runs.specs.Runs.{Lawful, grows, shrinks, no_entry, no_insert, no_remove}
use Rattle.tiered_model.specs.Tiered.{State, fresh, tiered, has, group}
use Rattle.runs.specs.Sizes.{size, one, times}
use Rattle.tiered_model.specs.Groups.{Valid, Most, groups, standing, cells_of}

abbrev pub FreshValid : Type 0 → Type 0
FreshValid E = (longest cells : ℕ) → cells ≤ 16777216 → Valid {E = E} longest (fresh cells)

abbrev pub TieredLawful : Type 0 → Type 0
TieredLawful E = (longest : ℕ) → 31 ≤ longest → longest ≤ 32 → Lawful (tiered {E = E} longest) longest (Valid longest)

-- an accepted call, from one state to the next
pub data Call {E : Type 0} (longest : ℕ) (s : State E) : State E → Type 0 where
  exchanging : (i k : ℕ) (e : E) → no_entry (tiered longest) s i k ≡ None → Call longest s ((tiered longest).exchanged s i k e)
  opening : (e : E) → grows (tiered longest) s 0 ≡ None → Call longest s ((tiered longest).opened s e)
  inserting : (i k : ℕ) (e : E) → no_insert (tiered longest) s i k ≡ None → Call longest s ((tiered longest).inserted s i k e)
  removing : (i k : ℕ) → no_remove (tiered longest) s i k ≡ None → Call longest s ((tiered longest).removed s i k)

-- a state that accepted calls lead to from a fresh store, with the most groups of each size that stood together so far
pub data Reached {E : Type 0} (longest : ℕ) : State E → (ℕ → ℕ) → Type 0 where
  begun : (cells : ℕ) → cells ≤ 16777216 → Reached longest (fresh cells) (λ _. 0)
  called : {s t : State E} {most : ℕ → ℕ} → Reached longest s most → Call longest s t → Reached longest t (λ z. max (most z) (standing longest t z))

-- The claimed cells: a call leaves of each size the most groups that stood together, and the claimed cells are their sizes' sum.
pub record Claims (E : Type 0) (longest : ℕ) : Type 0 where
  pub call : (s t : State E) → Valid longest s → Call longest s t → Valid longest t × Most longest s t
  pub reached : (s : State E) (most : ℕ → ℕ) → Reached longest s most → Valid longest s × (s.claimed ≡ cells_of longest most) × ((z : ℕ) → groups longest s z ≡ most z)
  pub fresh_again : (s : State E) → Valid longest s → s.claimed ≡ 0 → s ≡ fresh s.cells

abbrev pub Iff : Type 0 → Type 0 → Type 0
Iff P Q = (P → Q) × (Q → P)

-- the sum with as many groups standing as `after` says
abbrev pub sum_after : {E : Type 0} → ℕ → State E → (ℕ → ℕ) → ℕ
sum_after longest s after = cells_of longest (λ z. max (groups longest s z) (after z))

-- The answers: yes exactly where the sum as the call would leave it is at most the cells lent.
-- `after` counts the groups that would stand: one of the new size more, one of the old size less.
pub record Counted (E : Type 0) (longest : ℕ) : Type 0 where
  pub opening : (s : State E) (after : ℕ → ℕ) → Valid longest s → ((z : ℕ) → after z ≡ standing longest s z + one 1 z)
      → Iff (grows (tiered longest) s 0 ≡ None) (sum_after longest s after ≤ s.cells)
  pub growing : (s : State E) (n : ℕ) (after : ℕ → ℕ) → Valid longest s → 1 ≤ n → n < longest
      → ((z : ℕ) → after z + one (size longest n) z ≡ standing longest s z + one (size longest (n + 1)) z)
      → Iff (grows (tiered longest) s n ≡ None) (sum_after longest s after ≤ s.cells)
  pub shrinking : (s : State E) (n : ℕ) (after : ℕ → ℕ) → Valid longest s → 1 ≤ n → n < longest
      → ((z : ℕ) → after z + one (size longest (n + 1)) z ≡ standing longest s z + one (size longest n) z)
      → Iff (shrinks (tiered longest) s (n + 1) ≡ None) (sum_after longest s after ≤ s.cells)
  pub ending : (s : State E) (after : ℕ → ℕ) → Valid longest s → ((z : ℕ) → after z + one 1 z ≡ standing longest s z)
      → Iff (shrinks (tiered longest) s 1 ≡ None) (sum_after longest s after ≤ s.cells)

abbrev pub ClaimsStand : Type 0 → Type 0
ClaimsStand E = (longest : ℕ) → 31 ≤ longest → longest ≤ 32 → Claims E longest

abbrev pub AnswersStand : Type 0 → Type 0
AnswersStand E = (longest : ℕ) → 31 ≤ longest → longest ≤ 32 → Counted E longest

-- a group of the state: a live run's, or a freed one
pub data Group {E : Type 0} (longest : ℕ) (s : State E) (i z : ℕ) : Type 0 where
  of_run : 1 ≤ length (s.live i) → size longest (length (s.live i)) ≡ z → Group longest s i z
  of_free : 1 ≤ times i (s.free z) → Group longest s i z

-- Where the groups of a state are: below the claimed cells, and no two on one cell.
pub record Placed {E : Type 0} (longest : ℕ) (s : State E) : Type 0 where
  pub room : (i : ℕ) → length (s.live i) ≤ size longest (length (s.live i))
  pub below : (i z : ℕ) → Group longest s i z → (1 ≤ z) × (i + z ≤ s.claimed)
  pub apart : (i j z w : ℕ) → Group longest s i z → Group longest s j w → (i ≢ j) → (i + z ≤ j) ⊎ (j + w ≤ i)
  pub one_size : (i z w : ℕ) → Group longest s i z → Group longest s i w → z ≡ w
  pub free_dead : (i z : ℕ) → 1 ≤ times i (s.free z) → s.live i ≡ []
  pub next_below : (y : ℕ) → has s y ≡ true → group s y + y ≤ s.cells
  pub next_apart : (y j : ℕ) → 1 ≤ length (s.live j) → (group s y + y ≤ j) ⊎ (j + size longest (length (s.live j)) ≤ group s y)

abbrev pub PlacedStands : Type 0 → Type 0
PlacedStands E = (longest : ℕ) → 31 ≤ longest → longest ≤ 32 → (s : State E) → Valid longest s → Placed longest s
