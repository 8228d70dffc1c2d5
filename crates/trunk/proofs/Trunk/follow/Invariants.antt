use Rattle.std.proofs.Common.{◌≡◌, take, Some}
use Rattle.nodes.specs.Records.{row_of}
use Rattle.table_model.specs.Calls.{way}
use Rattle.trunk.specs.Meaning.{states}
use Rattle.trunk.specs.Steps.{place_of}
use Rattle.trunk.proofs.Trunk.follow.Given as goal

abbrev pub invariant-loop-i : goal.invariant-loop-i
invariant-loop-i g l = way g.N.Runs.model g.V.Runs.model (states g.N.Runs g.V.Runs l.self) (take l.i l.path) ≡ Some (place_of l.spot.place, row_of l.spot.node)
