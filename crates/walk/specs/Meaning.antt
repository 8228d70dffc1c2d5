-- What is to come of a walk, and what a call makes of it.
use Rattle.std.specs.Prelude.{◌≡◌, ℕ, List, [], ◌∷◌, ◌++◌, Option, MatchOption}
use Rattle.bitmap.specs.declared.Bit.{Bit}
use Rattle.runs.specs.declared.entry.NodeRow.{NodeRow}
use Rattle.runs.specs.declared.index.NodeIndex.{NodeIndex}
use Rattle.runs.specs.declared.store.Runs.{Ghosts}
use Rattle.walk.specs.Coming.{hand, rest}
use Rattle.walk.specs.declared.Walk.{Walk}

-- none where nothing is to come; else the first is handed out, and what comes after it is to come then
abbrev pub Gives : {E : Type 0} → List (ℕ × E) → Option (Bit × E) → List (ℕ × E) → Type 0
Gives before r after = MatchOption r ((before ≡ []) × (after ≡ [])) (λ x. before ≡ (x.0.number, x.1) ∷ after)

module _ {E Ix N V : Type 0} (n : Ghosts N NodeRow NodeIndex) (v : Ghosts V E Ix) where
  -- the values that are yet to be handed out, with their data bits
  abbrev pub to_come : {g : _} {h : _} {i : _} {j : _} → Walk N V E Ix n g h v i j → List (ℕ × E)
  to_come w = hand n v w.trunk w.node w.next ++ rest n v w.trunk w.stack
