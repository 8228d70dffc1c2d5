-- What holds over whole histories. Moment k is after k calls; a list of calls is arbitrary, so a history may be broken off at any moment.
use Rattle.std.specs.Prelude.{◌≡◌, ℕ, ◌+◌, ◌<◌, ◌≤◌, max, List, [], ◌∷◌, ◌++◌, length, take, drop, Some, None}
use Rattle.std.specs.List.Sorted.{IsPermutation}
use Rattle.runs.specs.Lists.{nth}
use Rattle.runs.specs.Refusals.{Refusal, refusal}
use Rattle.runs.specs.Runs.{Model}
use Rattle.runs.specs.declared.entry.NodeRow.{NodeRow}
use Rattle.tiered_model.specs.Tiered.{State, fresh, tiered}
use Rattle.tiered_model.specs.Groups.{cells_of}
use Rattle.tiered_model.specs.Laws.{Iff}
use Rattle.table_model.specs.Tree.{Path, Tree, bare, walk}
use Rattle.table_model.specs.Table.{bare_row, Agrees}
use Rattle.table_model.specs.Laws.{Shown}
use Rattle.table_model.specs.States.{Table, tree_in}
use Rattle.history_model.specs.Calls.{Call, Answer, done, refused, says, yes, no_call, changed, out, after_all, lists_in, record_in, played, answers}
use Rattle.history_model.specs.Books.{given, handed, values, nexts, left, outs, most, value_groups, child_groups}

-- a table of the empty path over two stores
abbrev pub started : {N S : Type 0} → N → S → Table N S
started n s = record { nodes = n; vals = s; root = bare_row }

-- m nexts of a walk on which w is to come
pub record Walked {X : Type 0} (w : List X) (m : ℕ) : Type 0 where
  -- they hand out the first m in order, or all
  pub first_are_handed_out : outs (nexts w m) ≡ take m w
  -- a next answers none exactly when all are out
  pub none_when_all_are_out : (i : ℕ) → i < m → Iff (nth (nexts w m) i ≡ Some None) (length w ≤ i)
  -- and the others are left
  pub others_are_left : left w m ≡ drop m w

module _ {V N S : Type 0} (mn : Model NodeRow N) (mv : Model V S) (n : N) (s : S) (cs : List (Call V)) (rs : List (Answer V)) where
  -- the states at moment k
  abbrev pub at : ℕ → Table N S
  at k = played mn mv (started n s) (take k cs)

  -- the plain tree at moment k: the calls that were accepted, done on the tree of the empty path
  abbrev pub plain : ℕ → Tree V
  plain k = after_all bare (take k cs) (take k rs)

  -- The calls cs, played on a table of the empty path over the stores n and s, were answered as rs tells.
  pub record History : Type 0 where
    -- each answer is what the plain tree and the stores' lists then say; a shown record is the node's
    pub answers_are_what_the_tree_and_the_lists_say : (k : ℕ) (c : Call V) → nth cs k ≡ Some c →
        nth rs k ≡ Some (says (no_call (plain k) (lists_in mn mv (at k)) c) (out (plain k) (record_in mn mv (at k)) c))
    pub each_call_is_answered : length rs ≡ length cs
    -- the table means the plain tree
    pub table_means_the_tree : (k : ℕ) → tree_in mn mv (at k) ≡ plain k
    -- every live run, of either store, belongs to exactly one node, and each node's records and runs show the tree
    pub runs_belong_to_nodes : (k : ℕ) → Agrees (mn.live (at k).nodes) (mv.live (at k).vals) (at k).root
    pub records_show_the_tree : (k : ℕ) (p : Path) (r : NodeRow) → record_in mn mv (at k) p ≡ Some r → Shown (mn.live (at k).nodes) (mv.live (at k).vals) (at k).root p r
    -- a refusal changes nothing: the states are as before, and with them the tree, all runs and all lists
    pub refusals_change_nothing : (k : ℕ) (f : Refusal) → nth rs k ≡ Some (refused f) → at (k + 1) ≡ at k
    -- the values given in are those handed back, together with those in the tree
    pub values_are_rearranged : (k : ℕ) → IsPermutation (given (take k cs) (take k rs)) (handed (take k cs) (take k rs) ++ values (walk 25 (plain k)))
    -- a history that is broken off at moment k is one too
    pub may_be_broken_off : (k : ℕ) → take k rs ≡ answers mn mv (started n s) (take k cs)
    -- a walk of m nexts, if one follows the last call, is the tree's; and the values given in are those handed back, by calls and by nexts, and those left
    pub walk_is_the_trees : (m : ℕ) → Walked (walk 25 (plain (length cs))) m
    pub walk_rearranges_the_values : (m : ℕ) → let w = walk 25 (plain (length cs)) in
        IsPermutation (given cs rs) (handed cs rs ++ (values (outs (nexts w m)) ++ values (left w m)))

-- Over two fresh tiered stores, of so many cells for nodes and for values, where the longest run of values is so long.
module _ {V : Type 0} (longest node_cells value_cells : ℕ) (cs : List (Call V)) (rs : List (Answer V)) where
  abbrev pub tree_at : ℕ → Tree V
  tree_at k = plain (tiered 32) (tiered longest) (fresh node_cells) (fresh value_cells) cs rs k

  abbrev pub stores_at : ℕ → Table (State NodeRow) (State V)
  stores_at k = at (tiered 32) (tiered longest) (fresh node_cells) (fresh value_cells) cs rs k

  -- of each size, the most groups that stood together at the moments 0, .., k
  abbrev pub most_nodes : ℕ → ℕ → ℕ
  most_nodes k z = most (λ j. child_groups (tree_at j) z) k

  abbrev pub most_values : ℕ → ℕ → ℕ
  most_values k z = most (λ j. value_groups longest (tree_at j) z) k

  -- the sums with the tree counted too that the call c would leave
  abbrev pub nodes_with : ℕ → Call V → ℕ
  nodes_with k c = cells_of 32 (λ z. max (most_nodes k z) (child_groups (changed (tree_at k) c) z))

  abbrev pub values_with : ℕ → Call V → ℕ
  values_with k c = cells_of longest (λ z. max (most_values k z) (value_groups longest (changed (tree_at k) c) z))

  pub record Room : Type 0 where
    -- all that holds of any history
    pub history : History (tiered 32) (tiered longest) (fresh node_cells) (fresh value_cells) cs rs
    -- a store's claimed cells: over the seven sizes, the size times the most groups so far
    pub claimed_by_nodes : (k : ℕ) → (stores_at k).nodes.claimed ≡ cells_of 32 (most_nodes k)
    pub claimed_by_values : (k : ℕ) → (stores_at k).vals.claimed ≡ cells_of longest (most_values k)
    -- a call that the tree allows is refused 9 exactly where the node store's sum would exceed its cells,
    pub refused_for_nodes : (k : ℕ) (c : Call V) → nth cs k ≡ Some c → no_call (tree_at k) yes c ≡ None →
        Iff (nth rs k ≡ Some (refused (refusal 9 (23 ∷ 0 ∷ [])))) (node_cells < nodes_with k c)
    -- else 10 exactly where the value store's would,
    pub refused_for_values : (k : ℕ) (c : Call V) → nth cs k ≡ Some c → no_call (tree_at k) yes c ≡ None → nodes_with k c ≤ node_cells →
        Iff (nth rs k ≡ Some (refused (refusal 10 (23 ∷ 0 ∷ [])))) (value_cells < values_with k c)
    -- else it is accepted
    pub accepted_with_room : (k : ℕ) (c : Call V) → nth cs k ≡ Some c → no_call (tree_at k) yes c ≡ None → nodes_with k c ≤ node_cells → values_with k c ≤ value_cells →
        nth rs k ≡ Some (done (out (tree_at k) (record_in (tiered 32) (tiered longest) (stores_at k)) c))
