-- Worked figures, which the definitions compute. A value is a number; there is room for 100 nodes.
use Rattle.std.specs.Prelude.{◌≡◌, ℕ, List, [], ◌∷◌, ◌++◌, map, take as first}
use Rattle.bitmap.specs.Ranks.{rank}
use Rattle.runs.specs.Sizes.{size}
use Rattle.runs.specs.Refusals.{refusal}
use Rattle.runs.specs.declared.entry.NodeRow.{NodeRow}
use Rattle.tiered_model.specs.Tiered.{State, fresh, tiered}
use Rattle.table_model.specs.Tree.{walk}
use Rattle.table_model.specs.States.{Table, tree_in}
use Rattle.history_model.specs.Calls.{Call, put, take, add, plant, Answer, nothing, value, done, refused, played, answers}
use Rattle.history_model.specs.Histories.{started}

-- the states and the answers, where there are so many cells for values
abbrev pub states : ℕ → List (Call ℕ) → Table (State NodeRow) (State ℕ)
states cells cs = played (tiered 32) (tiered 31) (started (fresh 100) (fresh cells)) cs

abbrev pub told : ℕ → List (Call ℕ) → List (Answer ℕ)
told cells cs = answers (tiered 32) (tiered 31) (started (fresh 100) (fresh cells)) cs

-- where the root's values lie
abbrev pub root_at : ℕ → List (Call ℕ) → ℕ
root_at cells cs = (states cells cs).root.data_index

-- the answer of a call that hands out nothing
abbrev pub ok : Answer ℕ
ok = done nothing

-- a value store that has no group left
abbrev pub no_room : Answer ℕ
no_room = refused (refusal 10 (23 ∷ 0 ∷ []))

abbrev pub five : List (Call ℕ)
five = put [] 0 10 ∷ put [] 1 11 ∷ put [] 2 12 ∷ put [] 3 13 ∷ put [] 4 14 ∷ []

-- two values at the root, one in a child, and then one taken from the root
abbrev pub taking : List (Call ℕ)
taking = put [] 0 65 ∷ put [] 2 66 ∷ plant [] 3 67 ∷ take [] 0 ∷ []

-- the run of the root's values
abbrev pub root_lists : List (Call ℕ) → List ℕ
root_lists cs = (tiered 31).live (states 100 cs).vals (root_at 100 cs)

pub record Figures : Type 0 where
  -- a rank counts the set bits below a bit
  pub rank_of_five : rank 38 5 ≡ 2
  pub ranks_in_all_ones : map (rank 4294967295) (31 ∷ 0 ∷ []) ≡ 31 ∷ 0 ∷ []
  -- the sizes of groups: the last is 31 for values, 32 for nodes
  pub sizes : map (size 31) (16 ∷ 17 ∷ 25 ∷ []) ≡ 16 ∷ 24 ∷ 31 ∷ []
  pub size_of_nodes : size 32 25 ≡ 32
  -- values stand in the order of their bits
  pub values_stand_by_bit : root_lists (put [] 1 10 ∷ put [] 4 20 ∷ put [] 9 30 ∷ put [] 6 40 ∷ []) ≡ 10 ∷ 20 ∷ 40 ∷ 30 ∷ []
  -- five puts at a fresh root: its values lie at 0, 1, 3, 3, 7, and 15 cells are claimed
  pub five_lie_at : map (λ k. root_at 100 (first k five)) (1 ∷ 2 ∷ 3 ∷ 4 ∷ 5 ∷ []) ≡ 0 ∷ 1 ∷ 3 ∷ 3 ∷ 7 ∷ []
  pub five_claim : (states 100 five).vals.claimed ≡ 15
  -- with 14 cells the fifth is refused
  pub fourteen_are_too_few : told 14 five ≡ ok ∷ ok ∷ ok ∷ ok ∷ no_room ∷ []
  -- one taken from the five: the run moves back to 3, and as many cells are claimed
  pub four_lie_at : root_at 100 (five ++ take [] 0 ∷ []) ≡ 3
  pub four_claim : (states 100 (five ++ take [] 0 ∷ [])).vals.claimed ≡ 15
  -- a take that moves a run to a smaller group wants a cell more
  pub three_are_too_few : told 3 taking ≡ ok ∷ ok ∷ ok ∷ no_room ∷ []
  pub four_suffice : told 4 taking ≡ ok ∷ ok ∷ ok ∷ done (value 65) ∷ []
  -- the walk gives a node's values by rising bit, and then its children by falling bit
  pub walked : walk 25 (tree_in (tiered 32) (tiered 31) (states 100 (put [] 0 65 ∷ put [] 2 66 ∷ plant [] 3 67 ∷ plant [] 7 68 ∷ []))) ≡ (0, 65) ∷ (2, 66) ∷ (0, 68) ∷ (0, 67) ∷ []
  -- data bits are below 31, child bits below 32
  pub bits_are_checked : told 100 (put [] 30 1 ∷ put [] 31 1 ∷ add [] 31 ∷ add [] 32 ∷ []) ≡ ok ∷ refused (refusal 3 []) ∷ ok ∷ refused (refusal 3 []) ∷ []
