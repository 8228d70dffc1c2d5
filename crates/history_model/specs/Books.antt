-- The books that are kept over a history: values given in and handed back, and groups of cells, counted from the tree.
use Rattle.std.specs.Prelude.{ℕ, zero, suc, ◌+◌, max, cond, List, [], ◌∷◌, ◌++◌, map, Some, None, Option}
use Rattle.runs.specs.Sizes.{size, one}
use Rattle.table_model.specs.Tree.{Tree, below}
use Rattle.table_model.specs.Refusals.{value_count, child_count}
use Rattle.history_model.specs.Calls.{Call, get, put, swap, take, add, plant, drop, show, Out, value, Answer, done, refused}

-- ---- values

module _ {V : Type 0} where
  -- the values given in by accepted puts, plants and swaps
  abbrev pub gives : Call V → List V
  gives (get p b) = []
  gives (put p b v) = v ∷ []
  gives (swap p b v) = v ∷ []
  gives (take p b) = []
  gives (add p b) = []
  gives (plant p b v) = v ∷ []
  gives (drop p b) = []
  gives (show p) = []

  abbrev pub given_by : Call V → Answer V → List V
  given_by c (done o) = gives c
  given_by c (refused f) = []

  abbrev pub given : List (Call V) → List (Answer V) → List V
  given [] rs = []
  given (c ∷ cs) [] = []
  given (c ∷ cs) (a ∷ rs) = given_by c a ++ given cs rs

  -- the values handed back by accepted takes and swaps; what get tells is still in the tree
  abbrev pub hands : Call V → Out V → List V
  hands (swap p b v) (value x) = x ∷ []
  hands (take p b) (value x) = x ∷ []
  hands c o = []

  abbrev pub handed_by : Call V → Answer V → List V
  handed_by c (done o) = hands c o
  handed_by c (refused f) = []

  abbrev pub handed : List (Call V) → List (Answer V) → List V
  handed [] rs = []
  handed (c ∷ cs) [] = []
  handed (c ∷ cs) (a ∷ rs) = handed_by c a ++ handed cs rs

  -- the values of a walk, without their data bits
  abbrev pub values : List (ℕ × V) → List V
  values es = map (λ e. e.1) es

-- ---- the nexts of a walk

module _ {X : Type 0} where
  abbrev pub front : List X → Option X
  front [] = None
  front (x ∷ xs) = Some x

  abbrev pub rest : List X → List X
  rest [] = []
  rest (x ∷ xs) = xs

  -- what n nexts answer, where xs is to come: each hands out what stands first
  abbrev pub nexts : List X → ℕ → List (Option X)
  nexts xs zero = []
  nexts xs (suc n) = front xs ∷ nexts (rest xs) n

  -- and what is still to come after them
  abbrev pub left : List X → ℕ → List X
  left xs zero = xs
  left xs (suc n) = left (rest xs) n

  -- what was handed out
  abbrev pub outs : List (Option X) → List X
  outs [] = []
  outs (None ∷ ns) = outs ns
  outs (Some x ∷ ns) = x ∷ outs ns

-- ---- groups

-- f 0 + .. + f (n - 1)
unfoldable pub sum_below : (ℕ → ℕ) → ℕ → ℕ
sum_below f zero = 0
sum_below f (suc n) = sum_below f n + f n

-- the largest of f 0, .., f n
unfoldable pub most : (ℕ → ℕ) → ℕ → ℕ
most f zero = f 0
most f (suc n) = max (most f n) (f (suc n))

-- 1 where a run of n entries stands in a group of size z, else 0; a run of none has no group
abbrev pub in_group : ℕ → ℕ → ℕ → ℕ
in_group longest z zero = 0
in_group longest z (suc n) = one (size longest (suc n)) z

module _ {V : Type 0} where
  -- f of each node's tree, summed over all nodes; paths are at most d long
  unfoldable pub over_nodes : (Tree V → ℕ) → ℕ → Tree V → ℕ
  over_nodes f zero t = f t
  over_nodes f (suc d) t = f t + sum_below (λ b. cond (t.has (b ∷ [])) (over_nodes f d (below t b)) 0) 32

  -- how many nodes have their values in a group of size z, where the longest run of values is so long; and how many their children's records, of which there are at most 32
  abbrev pub value_groups : ℕ → Tree V → ℕ → ℕ
  value_groups longest t z = over_nodes (λ s. in_group longest z (value_count s [])) 25 t

  abbrev pub child_groups : Tree V → ℕ → ℕ
  child_groups t z = over_nodes (λ s. in_group 32 z (child_count s [])) 25 t
