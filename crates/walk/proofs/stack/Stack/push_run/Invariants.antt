use Rattle.std.proofs.Common.{◌≡◌, ◌++◌}
use Rattle.walk.specs.Places.{run_places, lasts}
use Rattle.walk.proofs.stack.Stack.push_run.Given as goal

abbrev pub invariant-loop-i : goal.invariant-loop-i
invariant-loop-i l = lasts l.self.places l.self.top ≡ run_places l.run l.i ++ lasts l.fn.self.places l.fn.self.top
