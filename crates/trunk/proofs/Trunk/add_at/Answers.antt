use Rattle.nodes.specs.Records.{row_of}
use Rattle.trunk.specs.Meaning.{states}
use Rattle.trunk.specs.Steps.{place_of}
use Rattle.table_model.proofs.Doing.{child_granted, parent_granted, add_arrives, root_there}
use Rattle.trunk.proofs.Arriving.{valid, done}
use Rattle.trunk.proofs.Trunk.add_at.Goals as goal

pub grow_child-requires : goal.grow_child-requires
grow_child-requires g c =
    let n = g.N.Runs in
    let v = g.V.Runs in
    let t = c.args.self.now in
    let s = c.args.spot in
    let b = c.args.bit.number in
    let sd = valid n v g.met.N.Runs.valid g.met.V.Runs.valid t c.requires.sound in
    let m = c.requires.may.1 in
    record {
      growth = child_granted n.model v.model _ _ _ _ g.met.N.Runs.lawful g.met.V.Runs.lawful (states n v t) sd c.requires.may.0 b (place_of s.place) (row_of s.node) m;
      write = parent_granted n.model v.model _ _ _ _ g.met.N.Runs.lawful g.met.V.Runs.lawful (states n v t) sd c.requires.may.0 b (place_of s.place) (row_of s.node) m;
      passes = root_there n.model v.model _ _ _ _ _ _ (add_arrives n.model v.model _ _ _ _ g.met.N.Runs.lawful g.met.V.Runs.lawful (states n v t) sd c.requires.may.0 b (place_of s.place) (row_of s.node) m);
    }

pub returns : goal.returns
returns g c p m =
    let n = g.N.Runs in
    let v = g.V.Runs in
    let t = c.args.self.now in
    let s = c.args.spot in
    let b = c.args.bit.number in
    let sd = valid n v g.met.N.Runs.valid g.met.V.Runs.valid t c.requires.sound in
    done n v t c.grow_child.new.self tt c.grow_child.ensures.after (add_arrives n.model v.model _ _ _ _ g.met.N.Runs.lawful g.met.V.Runs.lawful (states n v t) sd p b (place_of s.place) (row_of s.node) m) tt
