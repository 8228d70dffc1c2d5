use Rattle.std.proofs.Common.{rules, ◌≡◌, Some, sym, ap, ◌∙◌, arith}
use Rattle.nodes.specs.Records.{row_of}
use Rattle.runs.specs.declared.entry.NodeRow.{NodeRow}
use Rattle.table_model.proofs.States.{entry_yes}
use Rattle.table_model.specs.Table.{Passes}
use Rattle.trunk.proofs.Granted.{granted_ok, answered}
use Rattle.walk.specs.Coming.{row_at, live_nodes}
use Rattle.walk.proofs.Walks.{ready_known, inside, row_passes, room, visited, fewer, ready_visited, ended}
use Rattle.walk.proofs.Walk.advance.Goals as goal

pub returns-in_default-clause-ended : goal.returns-in_default-clause-ended
returns-in_default-clause-ended g c _ =
    let w = c.args.self.now in
    ended g.N.Runs g.V.Runs w.trunk w.stack w.node w.next c.requires c.in_default.ensures.0

pub unwrap-row-requires : goal.unwrap-row-requires
unwrap-row-requires g c =
    let w = c.args.self.now in
    let k = ready_known g.N.Runs g.V.Runs w.trunk w.stack w.node w.next w.ready in
    granted_ok _ _ _ c.entry.result c.entry.ensures (entry_yes g.N.Runs.model _ g.N.Runs.Valid g.met.N.Runs.lawful _ _ _
    (inside g.N.Runs g.V.Runs w.trunk w.stack c.pop.new.self w.node w.next k c.in-Some.place c.in-Some.ensures))

pub unwrap-node-requires : goal.unwrap-node-requires
unwrap-node-requires g c =
    let w = c.args.self.now in
    let k = ready_known g.N.Runs g.V.Runs w.trunk w.stack w.node w.next w.ready in
    let read = answered _ _ _ c.entry.result c.unwrap-row.result c.unwrap-row.ensures c.entry.ensures in
    let ok : Passes c.unwrap-row.result = row_passes g.N.Runs g.V.Runs w.trunk w.stack c.pop.new.self w.node w.next k c.in-Some.place c.in-Some.ensures c.unwrap-row.result read in
    search rules

pub push_run-requires : goal.push_run-requires
push_run-requires g c =
    let w = c.args.self.now in
    let k = ready_known g.N.Runs g.V.Runs w.trunk w.stack w.node w.next w.ready in
    let same : row_of c.unwrap-node.result ≡ c.unwrap-row.result = search rules in
    let read : row_at (live_nodes g.N.Runs g.V.Runs w.trunk) c.in-Some.place ≡ Some (row_of c.unwrap-node.result) = answered _ _ _ c.entry.result c.unwrap-row.result c.unwrap-row.ensures c.entry.ensures ∙ ap (λ (r : NodeRow). Some r) (sym same) in
    omega (arith, c.count.ensures, room g.N.Runs g.V.Runs w.trunk w.stack c.pop.new.self w.node w.next k c.in-Some.place c.in-Some.ensures c.unwrap-node.result read)

pub invariant_of-self-2 : goal.invariant_of-self-2
invariant_of-self-2 g c =
    let w = c.args.self.now in
    let k = ready_known g.N.Runs g.V.Runs w.trunk w.stack w.node w.next w.ready in
    let same : row_of c.unwrap-node.result ≡ c.unwrap-row.result = search rules in
    let read : row_at (live_nodes g.N.Runs g.V.Runs w.trunk) c.in-Some.place ≡ Some (row_of c.unwrap-node.result) = answered _ _ _ c.entry.result c.unwrap-row.result c.unwrap-row.ensures c.entry.ensures ∙ ap (λ (r : NodeRow). Some r) (sym same) in
    record { ready = ∣ ready_visited g.N.Runs g.V.Runs w.trunk w.stack c.pop.new.self w.node w.next k c.in-Some.place c.in-Some.ensures c.unwrap-node.result read c.push_run.new.self (rw c.count.ensures at c.push_run.ensures) c.requires ∣₁ }

pub returns-clause-to_come : goal.returns-clause-to_come
returns-clause-to_come g c =
    let w = c.args.self.now in
    let k = ready_known g.N.Runs g.V.Runs w.trunk w.stack w.node w.next w.ready in
    let same : row_of c.unwrap-node.result ≡ c.unwrap-row.result = search rules in
    let read : row_at (live_nodes g.N.Runs g.V.Runs w.trunk) c.in-Some.place ≡ Some (row_of c.unwrap-node.result) = answered _ _ _ c.entry.result c.unwrap-row.result c.unwrap-row.ensures c.entry.ensures ∙ ap (λ (r : NodeRow). Some r) (sym same) in
    visited g.N.Runs g.V.Runs w.trunk w.stack c.pop.new.self w.node w.next k c.in-Some.place c.in-Some.ensures c.unwrap-node.result read c.push_run.new.self (rw c.count.ensures at c.push_run.ensures) c.requires

pub returns-clause-visited : goal.returns-clause-visited
returns-clause-visited g c _ =
    let w = c.args.self.now in
    let k = ready_known g.N.Runs g.V.Runs w.trunk w.stack w.node w.next w.ready in
    let same : row_of c.unwrap-node.result ≡ c.unwrap-row.result = search rules in
    let read : row_at (live_nodes g.N.Runs g.V.Runs w.trunk) c.in-Some.place ≡ Some (row_of c.unwrap-node.result) = answered _ _ _ c.entry.result c.unwrap-row.result c.unwrap-row.ensures c.entry.ensures ∙ ap (λ (r : NodeRow). Some r) (sym same) in
    fewer g.N.Runs g.V.Runs w.trunk w.stack c.pop.new.self w.node w.next k c.in-Some.place c.in-Some.ensures c.unwrap-node.result read c.push_run.new.self (rw c.count.ensures at c.push_run.ensures)
