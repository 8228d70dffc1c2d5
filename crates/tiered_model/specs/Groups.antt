-- The groups of a tiered store: which states can be, how many groups of a size stand, and how many have been made.
use Rattle.std.specs.Prelude.{◌≡◌, ℕ, suc, ◌+◌, ◌*◌, ◌<◌, ◌≤◌, max, List, [], ◌∷◌, length}
use Rattle.runs.specs.Runs.{tally}
use Rattle.runs.specs.Sizes.{size, capacities, one, times}
use Rattle.tiered_model.specs.Tiered.{State}

-- 1 for a live run of size z, else 0
abbrev pub of_size : {E : Type 0} → ℕ → ℕ → List E → ℕ
of_size longest z [] = 0
of_size longest z (x ∷ xs) = one (size longest (suc (length xs))) z

-- the sum over the sizes cs of the size times f of it
unfoldable pub weigh : List ℕ → (ℕ → ℕ) → ℕ
weigh [] f = 0
weigh (c ∷ cs) f = c * f c + weigh cs f

-- how many live runs have the size z
abbrev pub standing_in : {E : Type 0} → ℕ → (ℕ → List E) → ℕ → ℕ
standing_in longest live z = tally (of_size longest z) live 16777216

abbrev pub standing : {E : Type 0} → ℕ → State E → ℕ → ℕ
standing longest s z = standing_in longest s.live z

-- how many groups of size z there are, live or freed
abbrev pub groups : {E : Type 0} → ℕ → State E → ℕ → ℕ
groups longest s z = standing longest s z + length (s.free z)

-- the cells of f z groups of each size z
abbrev pub cells_of : ℕ → (ℕ → ℕ) → ℕ
cells_of longest f = weigh (capacities longest) f

-- The states that can be. A group, once made, keeps its place and its size: `made i` is the size of the group that begins at i, 0 where none does.
pub record Valid {E : Type 0} (longest : ℕ) (s : State E) : Type 0 where
  pub made : ℕ → ℕ
  pub within : s.cells ≤ 16777216
  pub enough : s.claimed ≤ s.cells
  pub inside : (i : ℕ) → 1 ≤ made i → i + made i ≤ s.claimed
  pub apart : (i j : ℕ) → i < j → 1 ≤ made i → 1 ≤ made j → i + made i ≤ j
  pub short : (i : ℕ) → length (s.live i) ≤ longest
  pub living : (i : ℕ) → 1 ≤ length (s.live i) → made i ≡ size longest (length (s.live i))
  pub freed : (z i : ℕ) → 1 ≤ times i (s.free z) → (1 ≤ z) × (made i ≡ z) × (s.live i ≡ [])
  pub once : (z i : ℕ) → times i (s.free z) ≤ 1
  pub tiles : s.claimed ≡ cells_of longest (groups longest s)

-- After the call there are of each size as many groups as before, or as many as now stand where those are more.
abbrev pub Most : {E : Type 0} → ℕ → State E → State E → Type 0
Most longest s t = (z : ℕ) → groups longest t z ≡ max (groups longest s z) (standing longest t z)
