use Rattle.nodes.specs.Records.{row_of}
use Rattle.trunk.specs.Meaning.{states}
use Rattle.trunk.specs.Steps.{place_of}
use Rattle.table_model.proofs.Doing.{value_granted, value_is}
use Rattle.trunk.proofs.Arriving.{valid}
use Rattle.trunk.proofs.Granted.{granted_ok, answered}
use Rattle.trunk.proofs.Trunk.value_at.Goals as goal

pub unwrap-requires : goal.unwrap-requires
unwrap-requires g c =
    let n = g.N.Runs in
    let v = g.V.Runs in
    let t = c.args.self.now in
    let s = c.args.spot in
    let b = c.args.bit.number in
    let sd = valid n v g.met.N.Runs.valid g.met.V.Runs.valid t c.requires.sound in
    granted_ok _ _ _ c.entry.result c.entry.ensures (rw (c.data.ensures.bitmap, c.data.ensures.index) (value_granted n.model v.model _ _ _ _ g.met.N.Runs.lawful g.met.V.Runs.lawful (states n v t) sd c.requires.may.0 b (place_of s.place) (row_of s.node) c.requires.may.1))

pub returns : goal.returns
returns g c p m =
    let n = g.N.Runs in
    let v = g.V.Runs in
    let t = c.args.self.now in
    let s = c.args.spot in
    let b = c.args.bit.number in
    let sd = valid n v g.met.N.Runs.valid g.met.V.Runs.valid t c.requires.sound in
    (m.passed, value_is n.model v.model _ _ _ _ g.met.N.Runs.lawful g.met.V.Runs.lawful (states n v t) sd p b (place_of s.place) (row_of s.node) c.unwrap.result m (rw (c.data.ensures.bitmap, c.data.ensures.index) at (answered _ _ _ c.entry.result c.unwrap.result c.unwrap.ensures c.entry.ensures)))
