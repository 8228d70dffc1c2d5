use Rattle.nodes.specs.Records.{row_of}
use Rattle.trunk.specs.Meaning.{states}
use Rattle.trunk.specs.Steps.{place_of}
use Rattle.std.proofs.Common.{ap, sym, ◌∙◌, subst}
use Rattle.table_model.proofs.Doing.{removal_granted, write_granted, taken_is, take_arrives, root_there}
use Rattle.table_model.proofs.Written.{take_is, take_root}
use Rattle.table_model.specs.Table.{Passes}
use Rattle.trunk.proofs.Arriving.{valid, done}
use Rattle.trunk.proofs.Granted.{granted_ok, answered, accepted}
use Rattle.trunk.proofs.Trunk.take_at.Goals as goal

pub unwrap-value-requires : goal.unwrap-value-requires
unwrap-value-requires g c =
    let n = g.N.Runs in
    let v = g.V.Runs in
    let t = c.args.self.now in
    let s = c.args.spot in
    let b = c.args.bit.number in
    let sd = valid n v g.met.N.Runs.valid g.met.V.Runs.valid t c.requires.sound in
    granted_ok _ _ _ c.shrink.result c.shrink.ensures.answer (rw (c.data.ensures.bitmap, c.data.ensures.index) (removal_granted n.model v.model _ _ _ _ g.met.N.Runs.lawful g.met.V.Runs.lawful (states n v t) sd c.requires.may.0 b (place_of s.place) (row_of s.node) c.requires.may.1))

pub write-requires : goal.write-requires
write-requires g c =
    let n = g.N.Runs in
    let v = g.V.Runs in
    let t = c.args.self.now in
    let s = c.args.spot in
    let b = c.args.bit.number in
    let sd = valid n v g.met.N.Runs.valid g.met.V.Runs.valid t c.requires.sound in
    let m = c.requires.may.1 in
    let a = rw (c.data.ensures.bitmap, c.data.ensures.index) at (answered _ _ _ c.shrink.result c.unwrap-value.result c.unwrap-value.ensures c.shrink.ensures.answer) in
    record {
      granted = write_granted n.model v.model _ _ _ _ g.met.N.Runs.lawful g.met.V.Runs.lawful (states n v t) sd c.requires.may.0 b (place_of s.place) (row_of s.node) m.at.way;
      passes = rw c.with_data.ensures (subst Passes (sym (take_root n.model v.model (states n v t) (place_of s.place) (row_of s.node) b _ _ a.1 a.2))
          (root_there n.model v.model _ _ _ _ _ _ (take_arrives n.model v.model _ _ _ _ g.met.N.Runs.lawful g.met.V.Runs.lawful (states n v t) sd c.requires.may.0 b (place_of s.place) (row_of s.node) m)));
    }

pub returns : goal.returns
returns g c p m =
    let n = g.N.Runs in
    let v = g.V.Runs in
    let t = c.args.self.now in
    let s = c.args.spot in
    let b = c.args.bit.number in
    let sd = valid n v g.met.N.Runs.valid g.met.V.Runs.valid t c.requires.sound in
    let u = c.write.new.self in
    let a = rw (c.data.ensures.bitmap, c.data.ensures.index) at (answered _ _ _ c.shrink.result c.unwrap-value.result c.unwrap-value.ensures c.shrink.ensures.answer) in
    let went = rw (c.data.ensures.bitmap, c.data.ensures.index) at (accepted c.shrink.ensures.called (rw (c.data.ensures.bitmap, c.data.ensures.index) (removal_granted n.model v.model _ _ _ _ g.met.N.Runs.lawful g.met.V.Runs.lawful (states n v t) sd p b (place_of s.place) (row_of s.node) m))) in
    done n v t u c.unwrap-value.result.0
    (take_is n.model v.model (states n v t) (place_of s.place) (row_of s.node) b (n.state u.nodes) (v.state u.values) (row_of u.root) _ _ a.1
    (ap v.state c.write.ensures.values ∙ went) a.2 (rw c.with_data.ensures at c.write.ensures.nodes) (rw c.with_data.ensures at c.write.ensures.root))
    (take_arrives n.model v.model _ _ _ _ g.met.N.Runs.lawful g.met.V.Runs.lawful (states n v t) sd p b (place_of s.place) (row_of s.node) m)
    (taken_is n.model v.model _ _ _ _ g.met.N.Runs.lawful g.met.V.Runs.lawful (states n v t) sd p b (place_of s.place) (row_of s.node) c.unwrap-value.result.0 m a.0)
