use Rattle.nodes.specs.Records.{row_of}
use Rattle.trunk.specs.Meaning.{states}
use Rattle.trunk.specs.Steps.{place_of}
use Rattle.table_model.proofs.Doing.{growth_granted, write_granted, put_arrives, root_there}
use Rattle.trunk.proofs.Arriving.{valid, done}
use Rattle.trunk.proofs.Trunk.put_at.Goals as goal

pub set_value-requires : goal.set_value-requires
set_value-requires g c =
    let n = g.N.Runs in
    let v = g.V.Runs in
    let t = c.args.self.now in
    let s = c.args.spot in
    let b = c.args.bit.number in
    let sd = valid n v g.met.N.Runs.valid g.met.V.Runs.valid t c.requires.sound in
    let m = c.requires.may.1 in
    record {
      growth = growth_granted n.model v.model _ _ _ _ g.met.N.Runs.lawful g.met.V.Runs.lawful (states n v t) sd c.requires.may.0 b (place_of s.place) (row_of s.node) m;
      write = write_granted n.model v.model _ _ _ _ g.met.N.Runs.lawful g.met.V.Runs.lawful (states n v t) sd c.requires.may.0 b (place_of s.place) (row_of s.node) m.at.way;
      passes = root_there n.model v.model _ _ _ _ _ _ (put_arrives n.model v.model _ _ _ _ g.met.N.Runs.lawful g.met.V.Runs.lawful (states n v t) sd c.requires.may.0 b (place_of s.place) (row_of s.node) c.args.value m);
    }

pub returns : goal.returns
returns g c p m =
    let n = g.N.Runs in
    let v = g.V.Runs in
    let t = c.args.self.now in
    let s = c.args.spot in
    let b = c.args.bit.number in
    let sd = valid n v g.met.N.Runs.valid g.met.V.Runs.valid t c.requires.sound in
    done n v t c.set_value.new.self tt c.set_value.ensures (put_arrives n.model v.model _ _ _ _ g.met.N.Runs.lawful g.met.V.Runs.lawful (states n v t) sd p b (place_of s.place) (row_of s.node) c.args.value m) tt
