use Rattle.table_model.proofs.Known.{known}
use Rattle.nodes.specs.Records.{row_of}
use Rattle.trunk.specs.Meaning.{states}
use Rattle.trunk.specs.Steps.{place_of}
use Rattle.std.proofs.Common.{rules, ◌≡◌, None}
use Rattle.runs.specs.Runs.{shrinks}
use Rattle.bitmap.specs.Ranks.{rank}
use Rattle.table_model.proofs.Judging.{take_set, take_may}
use Rattle.table_model.specs.Calls.{take_no}
use Rattle.table_model.specs.Refusals.{inside}
use Rattle.trunk.proofs.Trunk.may_take.Goals as goal

pub returns-in_err-map_err : goal.returns-in_err-map_err
returns-in_err-map_err g c =
    let n = g.N.Runs in
    let v = g.V.Runs in
    let t = c.args.self.now in
    let p = c.args.path.now in
    let b = c.args.bit.number in
    let s = c.in_ok-spot.spot in
    let why : take_no n.model v.model (states n v t) p b ≡ inside 10 (shrinks v.model (v.state t.values) (rank c.data-data.result.bitmap 32)) =
    rw c.data-data.ensures.bitmap (take_set n.model v.model (states n v t) (known _ _ _ c.requires) p b (place_of s.place) (row_of s.node) c.in_ok-spot.ensures.at c.in_ok-spot.ensures) in
    search (rules, why)

pub returns : goal.returns
returns g c =
    let n = g.N.Runs in
    let v = g.V.Runs in
    let t = c.args.self.now in
    let p = c.args.path.now in
    let b = c.args.bit.number in
    let s = c.in_ok-spot.spot in
    let yes : shrinks v.model (v.state t.values) (rank c.data-data.result.bitmap 32) ≡ None = search rules in
    take_may n.model v.model (states n v t) (known _ _ _ c.requires) p b (place_of s.place) (row_of s.node) c.in_ok-spot.ensures.at c.in_ok-spot.ensures (rw c.data-data.ensures.bitmap at yes)
