use Rattle.std.proofs.Common.{◌/◌, ◌^◌, arith}
use Rattle.std.proofs.lemmas.Nat.{trailing_le}
use Rattle.nodes.specs.Records.{row_of}
use Rattle.table_model.proofs.States.{entry_yes}
use Rattle.trunk.proofs.Granted.{granted_ok, answered}
use Rattle.walk.specs.Coming.{live_nodes, live_values}
use Rattle.walk.proofs.Lowest.{found}
use Rattle.walk.proofs.Rising.{hand_none}
use Rattle.walk.proofs.Walks.{ready_known, value_in, gave, ready_after}
use Rattle.walk.proofs.Walk.give.Goals as goal

pub overflow_add-bit : goal.overflow_add-bit
overflow_add-bit g c =
    let w = c.args.self.now in
    let k = ready_known g.N.Runs g.V.Runs w.trunk w.stack w.node w.next w.ready in
    omega (arith, k.within, trailing_le 32 (w.node.data_bitmap / 2 ^ w.next))

pub overflow_add-self : goal.overflow_add-self
overflow_add-self g c =
    let w = c.args.self.now in
    let k = ready_known g.N.Runs g.V.Runs w.trunk w.stack w.node w.next w.ready in
    omega (arith, k.within, trailing_le 32 (w.node.data_bitmap / 2 ^ w.next))

pub returns-then-left-eq0-clause-gives : goal.returns-then-left-eq0-clause-gives
returns-then-left-eq0-clause-gives g c =
    let w = c.args.self.now in
    let k = ready_known g.N.Runs g.V.Runs w.trunk w.stack w.node w.next w.ready in
    let none = hand_none (live_nodes g.N.Runs g.V.Runs w.trunk) (live_values g.N.Runs g.V.Runs w.trunk) (row_of w.node) w.next k.within c.if-left-eq0.true in
    (none, none)

pub unwrap-value-requires : goal.unwrap-value-requires
unwrap-value-requires g c =
    let w = c.args.self.now in
    let k = ready_known g.N.Runs g.V.Runs w.trunk w.stack w.node w.next w.ready in
    let low = found w.node.data_bitmap w.next w.node.low c.if-left-eq0.false in
    granted_ok _ _ _ c.entry.result c.entry.ensures (rw (c.data-data.ensures.bitmap, c.data-data.ensures.index) (entry_yes g.V.Runs.model _ g.V.Runs.Valid g.met.V.Runs.lawful _ _ _
    (value_in g.N.Runs g.V.Runs w.trunk w.stack w.node w.next k _ low (omega arith))))

pub returns-clause-gives : goal.returns-clause-gives
returns-clause-gives g c =
    let w = c.args.self.now in
    let k = ready_known g.N.Runs g.V.Runs w.trunk w.stack w.node w.next w.ready in
    let low = found w.node.data_bitmap w.next w.node.low c.if-left-eq0.false in
    gave g.N.Runs g.V.Runs w.trunk w.stack w.node w.next k _ low (omega arith) c.unwrap-value.result
    (rw (c.data-data.ensures.bitmap, c.data-data.ensures.index) at (answered _ _ _ c.entry.result c.unwrap-value.result c.unwrap-value.ensures c.entry.ensures))

pub invariant_of-self : goal.invariant_of-self
invariant_of-self g c =
    let w = c.args.self.now in
    let k = ready_known g.N.Runs g.V.Runs w.trunk w.stack w.node w.next w.ready in
    let low = found w.node.data_bitmap w.next w.node.low c.if-left-eq0.false in
    record {
      ready = ∣ ready_after g.N.Runs g.V.Runs w.trunk w.stack w.node w.next k _ low (omega arith) c.unwrap-value.result
          (rw (c.data-data.ensures.bitmap, c.data-data.ensures.index) at (answered _ _ _ c.entry.result c.unwrap-value.result c.unwrap-value.ensures c.entry.ensures)) ∣₁;
    }
