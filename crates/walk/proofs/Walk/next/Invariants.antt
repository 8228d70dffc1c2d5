use Rattle.std.proofs.Common.{◌≡◌, length}
use Rattle.walk.specs.Standing.{unseen}
use Rattle.walk.specs.Meaning.{to_come}
use Rattle.walk.proofs.Walk.next.Given as goal

abbrev pub invariant-loop-x : goal.invariant-loop-x
invariant-loop-x g l = (l.self.trunk ≡ l.fn.self.trunk) × (to_come g.N.Runs g.V.Runs l.self ≡ to_come g.N.Runs g.V.Runs l.fn.self)

abbrev pub decreases-loop-x : goal.decreases-loop-x
decreases-loop-x g l = length (unseen g.N.Runs g.V.Runs l.self.trunk l.self.stack)
