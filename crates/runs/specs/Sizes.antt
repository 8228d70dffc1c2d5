-- The capacities of groups, and the size of a run.
use Rattle.std.specs.Prelude.{ℕ, ◌+◌, ◌≤◌, cond, List, [], ◌∷◌, ◌==◌, nat_le}

-- the seven capacities; the last is the longest run
abbrev pub capacities : ℕ → List ℕ
capacities longest = 1 ∷ 2 ∷ 4 ∷ 8 ∷ 16 ∷ 24 ∷ longest ∷ []

-- the least of a rising list that is at least n, else 0
abbrev pub least : List ℕ → ℕ → ℕ
least [] n = 0
least (c ∷ cs) n = cond (nat_le n c) c (least cs n)

-- the size of a run of n entries; a run longer than the longest has none
abbrev pub size : ℕ → ℕ → ℕ
size longest n = least (capacities longest) n

-- 1 at z, 0 elsewhere
abbrev pub one : ℕ → ℕ → ℕ
one z w = cond (w == z) 1 0

-- how often i stands in a list
abbrev pub times : ℕ → List ℕ → ℕ
times i [] = 0
times i (x ∷ xs) = one x i + times i xs

-- z is the least capacity that is at least n
pub record Least (longest n z : ℕ) : Type 0 where
  pub capacity : 1 ≤ times z (capacities longest)
  pub room : n ≤ z
  pub least : (c : ℕ) → 1 ≤ times c (capacities longest) → n ≤ c → z ≤ c
