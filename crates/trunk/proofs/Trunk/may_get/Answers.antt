use Rattle.table_model.proofs.Known.{known}
use Rattle.nodes.specs.Records.{row_of}
use Rattle.trunk.specs.Meaning.{states}
use Rattle.trunk.specs.Steps.{place_of}
use Rattle.std.proofs.Common.{sym, ◌∙◌}
use Rattle.table_model.proofs.Judging.{get_missing, get_may}
use Rattle.trunk.proofs.Trunk.may_get.Goals as goal

pub returns-then-not-is_set : goal.returns-then-not-is_set
returns-then-not-is_set g c =
    let n = g.N.Runs in
    let v = g.V.Runs in
    let t = c.args.self.now in
    let p = c.args.path.now in
    let b = c.args.bit.number in
    let s = c.in_ok-spot.spot in
    get_missing n.model v.model (states n v t) (known _ _ _ c.requires) p b (place_of s.place) (row_of s.node) c.in_ok-spot.ensures (sym c.is_set.ensures ∙ c.if-not-is_set.true)

pub returns : goal.returns
returns g c =
    let n = g.N.Runs in
    let v = g.V.Runs in
    let t = c.args.self.now in
    let p = c.args.path.now in
    let b = c.args.bit.number in
    let s = c.in_ok-spot.spot in
    get_may n.model v.model (states n v t) (known _ _ _ c.requires) p b (place_of s.place) (row_of s.node) c.in_ok-spot.ensures (sym c.is_set.ensures ∙ c.if-not-is_set.false)
