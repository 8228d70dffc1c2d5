-- Several calls, one after the other, and several nexts of a walk.
use Rattle.std.specs.Prelude.{◌≡◌, ℕ, List, [], ◌∷◌, Some, None, Option}
use Rattle.bitmap.specs.declared.Bit.{Bit}
use Rattle.runs.specs.declared.entry.NodeRow.{NodeRow}
use Rattle.runs.specs.declared.store.Runs.{Ghosts}
use Rattle.trunk.specs.declared.Trunk.{Trunk}
use Rattle.trunk.specs.Meaning.{states}
use Rattle.history_model.specs.Calls.{Call, Answer, done, refused, played, answers}

-- What a memory holds goes from `before` to `after` by the accepted calls alone: after a refused one it is as before, to the last cell.
abbrev pub Kept : {V M : Type 0} → M → List (Answer V) → M → Type 0
Kept before [] after = after ≡ before
Kept {V} {M} before (done o ∷ rs) after = (m : M) × Kept m rs after
Kept before (refused f ∷ rs) after = Kept before rs after

module _ {E In Ix N V : Type 0} (n : Ghosts N NodeRow In) (v : Ghosts V E Ix) where
  -- both memories
  abbrev pub cells : N → V → n.Memory × v.Memory
  cells x y = (n.memory x, v.memory y)

  pub record Plays (t : Trunk N V) (cs : List (Call E)) (rs : List (Answer E)) (after : Trunk N V) : Type 0 where
    pub answered : rs ≡ answers n.model v.model (states n v t) cs
    pub led : states n v after ≡ played n.model v.model (states n v t) cs
    pub kept : Kept (cells t.nodes t.values) rs (cells after.nodes after.values)

-- what a next hands out: a value, with its data bit
abbrev pub next_of : {E : Type 0} → Option (Bit × E) → Option (ℕ × E)
next_of None = None
next_of (Some x) = Some (x.0.number, x.1)
