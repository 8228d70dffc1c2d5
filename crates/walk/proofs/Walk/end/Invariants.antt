use Rattle.std.proofs.Common.{◌≡◌, ◌+◌, length}
use Rattle.walk.specs.Meaning.{to_come}
use Rattle.walk.proofs.Walk.end.Given as goal

abbrev pub invariant-loop-left : goal.invariant-loop-left
invariant-loop-left g l = (l.self.trunk ≡ l.fn.self.trunk) × (l.left + length (to_come g.N.Runs g.V.Runs l.self) ≡ length (to_come g.N.Runs g.V.Runs l.fn.self))

abbrev pub decreases-loop-left : goal.decreases-loop-left
decreases-loop-left g l = length (to_come g.N.Runs g.V.Runs l.self)
