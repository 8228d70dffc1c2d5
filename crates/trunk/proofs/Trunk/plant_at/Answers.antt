use Rattle.nodes.specs.Records.{row_of}
use Rattle.trunk.specs.Meaning.{states}
use Rattle.trunk.specs.Steps.{place_of}
use Rattle.std.proofs.Common.{ap, ◌∙◌}
use Rattle.table_model.proofs.Doing.{child_granted, parent_granted, new_child_granted, add_arrives, plant_arrives, root_there}
use Rattle.table_model.proofs.Written.{plant_is}
use Rattle.table_model.specs.Judged.{no_write}
use Rattle.table_model.specs.States.{Place, Table as States, add_at}
use Rattle.trunk.proofs.Arriving.{valid, done}
use Rattle.trunk.proofs.Trunk.plant_at.Goals as goal

pub grow_child-child-requires : goal.grow_child-child-requires
grow_child-child-requires g c =
    let n = g.N.Runs in
    let v = g.V.Runs in
    let t = c.args.self.now in
    let s = c.args.spot in
    let b = c.args.bit.number in
    let sd = valid n v g.met.N.Runs.valid g.met.V.Runs.valid t c.requires.sound in
    let m = c.requires.may.1.add in
    record {
      growth = child_granted n.model v.model _ _ _ _ g.met.N.Runs.lawful g.met.V.Runs.lawful (states n v t) sd c.requires.may.0 b (place_of s.place) (row_of s.node) m;
      write = parent_granted n.model v.model _ _ _ _ g.met.N.Runs.lawful g.met.V.Runs.lawful (states n v t) sd c.requires.may.0 b (place_of s.place) (row_of s.node) m;
      passes = root_there n.model v.model _ _ _ _ _ _ (add_arrives n.model v.model _ _ _ _ g.met.N.Runs.lawful g.met.V.Runs.lawful (states n v t) sd c.requires.may.0 b (place_of s.place) (row_of s.node) m);
    }

pub set_value-requires-clause-write : goal.set_value-requires-clause-write
set_value-requires-clause-write g c =
    let n = g.N.Runs in
    let v = g.V.Runs in
    let t = c.args.self.now in
    let s = c.args.spot in
    let b = c.args.bit.number in
    let sd = valid n v g.met.N.Runs.valid g.met.V.Runs.valid t c.requires.sound in
    let m = c.requires.may.1 in
    let new = c.grow_child-child.ensures in
    ap (λ (st : States g.N.Runs.State g.V.Runs.State). no_write g.N.Runs.model st.nodes (place_of c.grow_child-child.result.place)) new.after
    ∙ ap (λ (pl : Place). no_write g.N.Runs.model (add_at g.N.Runs.model g.V.Runs.model (states g.N.Runs g.V.Runs c.args.self.now) (place_of c.args.spot.place) (row_of c.args.spot.node) c.args.bit.number).nodes pl) new.place
    ∙ new_child_granted n.model v.model _ _ _ _ g.met.N.Runs.lawful g.met.V.Runs.lawful (states n v t) sd c.requires.may.0 b (place_of s.place) (row_of s.node) m.add

pub returns : goal.returns
returns g c p m =
    let n = g.N.Runs in
    let v = g.V.Runs in
    let t = c.args.self.now in
    let s = c.args.spot in
    let b = c.args.bit.number in
    let sd = valid n v g.met.N.Runs.valid g.met.V.Runs.valid t c.requires.sound in
    let x = c.args.value in
    let t1 = c.grow_child-child.new.self in
    let kid = c.grow_child-child.result in
    let new = c.grow_child-child.ensures in
    let u = c.set_value.new.self in
    done n v t u tt
    (plant_is n.model v.model (states n v t) (place_of s.place) (row_of s.node) b x (states n v t1) (states n v u) (place_of kid.place) (row_of kid.node) new.after new.place new.row c.set_value.ensures)
    (plant_arrives n.model v.model _ _ _ _ g.met.N.Runs.lawful g.met.V.Runs.lawful (states n v t) sd p b (place_of s.place) (row_of s.node) x m) tt
