use Rattle.nodes.specs.Records.{row_of}
use Rattle.trunk.specs.Meaning.{states}
use Rattle.trunk.specs.Steps.{place_of}
use Rattle.std.proofs.Common.{ap, sym, ◌∙◌, subst}
use Rattle.table_model.proofs.Doing.{drop_granted, parent_stands, drop_arrives, root_there}
use Rattle.table_model.proofs.Written.{drop_is, drop_root}
use Rattle.table_model.specs.Judged.{no_write}
use Rattle.table_model.specs.Table.{Passes}
use Rattle.trunk.proofs.Arriving.{valid, done}
use Rattle.trunk.proofs.Granted.{granted_ok, answered, accepted}
use Rattle.trunk.proofs.Trunk.drop_at.Goals as goal

pub unwrap-requires : goal.unwrap-requires
unwrap-requires g c =
    let n = g.N.Runs in
    let v = g.V.Runs in
    let t = c.args.self.now in
    let s = c.args.spot in
    let b = c.args.bit.number in
    let sd = valid n v g.met.N.Runs.valid g.met.V.Runs.valid t c.requires.sound in
    granted_ok _ _ _ c.shrink.result c.shrink.ensures.answer (rw (c.children.ensures.bitmap, c.children.ensures.index) (drop_granted n.model v.model _ _ _ _ g.met.N.Runs.lawful g.met.V.Runs.lawful (states n v t) sd c.requires.may.0 b (place_of s.place) (row_of s.node) c.requires.may.1))

pub write-requires : goal.write-requires
write-requires g c =
    let n = g.N.Runs in
    let v = g.V.Runs in
    let t = c.args.self.now in
    let s = c.args.spot in
    let b = c.args.bit.number in
    let sd = valid n v g.met.N.Runs.valid g.met.V.Runs.valid t c.requires.sound in
    let m = c.requires.may.1 in
    let a = rw (c.children.ensures.bitmap, c.children.ensures.index) at (answered _ _ _ c.shrink.result c.unwrap.result c.unwrap.ensures c.shrink.ensures.answer) in
    let went = rw (c.children.ensures.bitmap, c.children.ensures.index) at (accepted c.shrink.ensures.called (rw (c.children.ensures.bitmap, c.children.ensures.index) (drop_granted n.model v.model _ _ _ _ g.met.N.Runs.lawful g.met.V.Runs.lawful (states n v t) sd c.requires.may.0 b (place_of s.place) (row_of s.node) m))) in
    record {
      granted = ap (λ (y : g.N.Runs.State). no_write g.N.Runs.model y (place_of c.args.spot.place)) went ∙ parent_stands n.model v.model _ _ _ _ g.met.N.Runs.lawful g.met.V.Runs.lawful (states n v t) sd c.requires.may.0 b (place_of s.place) (row_of s.node) m;
      passes = rw c.with_children.ensures (subst Passes (sym (drop_root n.model v.model (states n v t) (place_of s.place) (row_of s.node) b _ _ a.1 a.2))
          (root_there n.model v.model _ _ _ _ _ _ (drop_arrives n.model v.model _ _ _ _ g.met.N.Runs.lawful g.met.V.Runs.lawful (states n v t) sd c.requires.may.0 b (place_of s.place) (row_of s.node) m)));
    }

pub returns : goal.returns
returns g c p m =
    let n = g.N.Runs in
    let v = g.V.Runs in
    let t = c.args.self.now in
    let s = c.args.spot in
    let b = c.args.bit.number in
    let sd = valid n v g.met.N.Runs.valid g.met.V.Runs.valid t c.requires.sound in
    let u = c.write.new.self in
    let a = rw (c.children.ensures.bitmap, c.children.ensures.index) at (answered _ _ _ c.shrink.result c.unwrap.result c.unwrap.ensures c.shrink.ensures.answer) in
    let went = rw (c.children.ensures.bitmap, c.children.ensures.index) at (accepted c.shrink.ensures.called (rw (c.children.ensures.bitmap, c.children.ensures.index) (drop_granted n.model v.model _ _ _ _ g.met.N.Runs.lawful g.met.V.Runs.lawful (states n v t) sd p b (place_of s.place) (row_of s.node) m))) in
    done n v t u tt
    (drop_is n.model v.model (states n v t) (place_of s.place) (row_of s.node) b _ (n.state u.nodes) (v.state u.values) (row_of u.root) _ _ a.1
    went a.2 (ap v.state c.write.ensures.values) (rw c.with_children.ensures at c.write.ensures.nodes) (rw c.with_children.ensures at c.write.ensures.root))
    (drop_arrives n.model v.model _ _ _ _ g.met.N.Runs.lawful g.met.V.Runs.lawful (states n v t) sd p b (place_of s.place) (row_of s.node) m) tt
