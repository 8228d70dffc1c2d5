use Rattle.std.proofs.Common.{ap}
use Rattle.trunk.specs.Meaning.{states}
use Rattle.history.specs.Plays.{cells}
use Rattle.history.proofs.last.go_on.Goals as goal

pub returns-in-Walk : goal.returns-in-Walk
returns-in-Walk g c =
    let n = g.N.Runs in
    let v = g.V.Runs in
    let w = c.walked-given.ensures in
    rw c.in-Walk.is (record {
      given_by_the_walk = w.given;
      left_as_asked = w.left;
      same_states = ap (states n v) w.trunk;
      same_cells = ap (λ t. cells n v t.nodes t.values) w.trunk;
    })
