-- Lists and maps of lists, as runs use them.
use Rattle.std.specs.Prelude.{ℕ, zero, suc, ◌+◌, cond, List, [], ◌∷◌, ◌++◌, take, drop, Some, None, Option, ◌==◌}

-- the index that names no run
abbrev pub empty : ℕ
empty = 4294967295

-- how many indexes there are: every live index is below
abbrev pub indexes : ℕ
indexes = 16777216

-- the map m, but xs at i
abbrev pub at : {X : Type 0} → (ℕ → X) → ℕ → X → ℕ → X
at m i x j = cond (j == i) x (m j)

module _ {E : Type 0} where
  -- the list with e before its place k
  abbrev pub with_new : List E → ℕ → E → List E
  with_new xs k e = take k xs ++ e ∷ drop k xs

  -- the list without its place k
  abbrev pub without : List E → ℕ → List E
  without xs k = take k xs ++ drop (k + 1) xs

  -- what stands at a place, if it is there
  abbrev pub nth : List E → ℕ → Option E
  nth [] k = None
  nth (x ∷ xs) zero = Some x
  nth (x ∷ xs) (suc k) = nth xs k
