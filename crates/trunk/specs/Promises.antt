-- What each call on a table promises. A question changes nothing, and promises its answer alone.
use Rattle.std.specs.Prelude.{◌≡◌, ℕ, true, false, [], ◌∷◌, ◌++◌, Some, None, Result}
use Rattle.runs.specs.Calls.{Tells, moved_on}
use Rattle.runs.specs.Refusals.{Refusal, Grant}
use Rattle.runs.specs.declared.entry.NodeRow.{NodeRow}
use Rattle.runs.specs.declared.store.Runs.{Ghosts}
use Rattle.table_model.specs.Tree.{Path, Tree, with_val, with_path}
use Rattle.table_model.specs.Table.{find}
use Rattle.table_model.specs.Laws.{Shown}
use Rattle.table_model.specs.States.{Table as States}
use Rattle.table_model.specs.Calls.{show_no, get_no, swap_to, put_no, put_to, take_no, take_to, add_no, add_to, plant_no, plant_to, drop_no, drop_to}
use Rattle.nodes.specs.Told.{told_fault}
use Rattle.nodes.specs.declared.fault.Fault.{Fault}
use Rattle.trunk.specs.declared.Trunk.{Trunk}
use Rattle.trunk.specs.Meaning.{states, tree, Sound, Untouched}

module _ {E In Ix N V : Type 0} (n : Ghosts N NodeRow In) (v : Ghosts V E Ix) where
  -- A call is refused as `why` says, and then nothing is changed; or P holds of its answer, and it leads to the states `to` and to the tree u.
  pub record Done {X : Type 0} (t : Trunk N V) (why : Grant) (P : X → Type 0) (to : States n.State v.State) (u : Tree E) (r : Result X Fault) (after : Trunk N V) : Type 0 where
    pub sound : Sound n v after
    pub answer : Tells told_fault r why P
    pub states : states n v after ≡ moved_on why (states n v t) to
    pub tree : tree n v after ≡ moved_on why (tree n v t) u
    pub untouched : (f : Refusal) → why ≡ Some f → Untouched n v t after

  -- get: the value at a path and bit
  abbrev pub Gets : Trunk N V → Path → ℕ → Result E Fault → Type 0
  Gets t p b r = Tells told_fault r (get_no n.model v.model (states n v t) p b) (λ x. (tree n v t).val p b ≡ Some x)

  -- show: a node's record; its bitmaps are the tree's, its indexes name the node's two runs
  pub record Displayed (t : States n.State v.State) (p : Path) (r : NodeRow) : Type 0 where
    pub found : find (n.model.live t.nodes) t.root p ≡ Some r
    pub shown : Shown (n.model.live t.nodes) (v.model.live t.vals) t.root p r

  abbrev pub Shows : Trunk N V → Path → Result NodeRow Fault → Type 0
  Shows t p r = Tells told_fault r (show_no n.model v.model (states n v t) p) (Displayed (states n v t) p)

  -- swap: the value x for the one that is there, which is handed back
  abbrev pub Swaps : Trunk N V → Path → ℕ → E → Result E Fault → Trunk N V → Type 0
  Swaps t p b x = Done t (get_no n.model v.model (states n v t) p b) (λ old. (tree n v t).val p b ≡ Some old)
      (swap_to n.model v.model (states n v t) p b x) (with_val (tree n v t) p b (Some x))

  -- put: the value x where there is none
  abbrev pub Puts : Trunk N V → Path → ℕ → E → Result (Unit {0}) Fault → Trunk N V → Type 0
  Puts t p b x = Done t (put_no n.model v.model (states n v t) p b) (λ _. Unit {0})
      (put_to n.model v.model (states n v t) p b x) (with_val (tree n v t) p b (Some x))

  -- take: the value goes, and is handed back
  abbrev pub Takes : Trunk N V → Path → ℕ → Result E Fault → Trunk N V → Type 0
  Takes t p b = Done t (take_no n.model v.model (states n v t) p b) (λ old. (tree n v t).val p b ≡ Some old)
      (take_to n.model v.model (states n v t) p b) (with_val (tree n v t) p b None)

  -- add: a bare child
  abbrev pub Adds : Trunk N V → Path → ℕ → Result (Unit {0}) Fault → Trunk N V → Type 0
  Adds t p b = Done t (add_no n.model v.model (states n v t) p b) (λ _. Unit {0})
      (add_to n.model v.model (states n v t) p b) (with_path (tree n v t) (p ++ b ∷ []) true)

  -- plant: a child, and the value x at its data bit 0
  abbrev pub Plants : Trunk N V → Path → ℕ → E → Result (Unit {0}) Fault → Trunk N V → Type 0
  Plants t p b x = Done t (plant_no n.model v.model (states n v t) p b) (λ _. Unit {0})
      (plant_to n.model v.model (states n v t) p b x) (with_val (with_path (tree n v t) (p ++ b ∷ []) true) (p ++ b ∷ []) 0 (Some x))

  -- drop: a bare child goes
  abbrev pub Drops : Trunk N V → Path → ℕ → Result (Unit {0}) Fault → Trunk N V → Type 0
  Drops t p b = Done t (drop_no n.model v.model (states n v t) p b) (λ _. Unit {0})
      (drop_to n.model v.model (states n v t) p b) (with_path (tree n v t) (p ++ b ∷ []) false)
