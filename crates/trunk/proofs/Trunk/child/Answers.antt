use Rattle.table_model.proofs.Known.{known}
use Rattle.nodes.specs.Records.{row_of}
use Rattle.trunk.specs.Steps.{place_of}
use Rattle.std.proofs.Common.{rules, ◌≡◌, Some, sym, ap, ◌∙◌}
use Rattle.table_model.specs.Table.{Passes}
use Rattle.runs.specs.declared.entry.NodeRow.{NodeRow}
use Rattle.table_model.proofs.Nodes.{child_inside, child_read, child_passes, child_clear}
use Rattle.table_model.proofs.States.{entry_yes}
use Rattle.trunk.proofs.Granted.{granted_ok, answered}
use Rattle.trunk.proofs.Trunk.child.Goals as goal

pub returns-then-not-is_set : goal.returns-then-not-is_set
returns-then-not-is_set g c = child_clear (g.N.Runs.model.live (g.N.Runs.state c.args.self.now.nodes)) (row_of c.args.spot.node) c.args.bit.number (sym c.is_set.ensures ∙ c.if-not-is_set.true)

pub unwrap-row-requires : goal.unwrap-row-requires
unwrap-row-requires g c =
    let s = c.args.spot in
    granted_ok _ _ _ c.entry.result c.entry.ensures (rw (c.children.ensures.bitmap, c.children.ensures.index) (entry_yes g.N.Runs.model _ g.N.Runs.Valid g.met.N.Runs.lawful _ _ _
    (child_inside _ _ (row_of c.args.self.now.root) (known _ _ _ c.requires.sound) c.requires.node.0 (place_of s.place) (row_of s.node) c.requires.node.1 c.args.bit.number (sym c.is_set.ensures ∙ c.if-not-is_set.false))))

pub unwrap-requires : goal.unwrap-requires
unwrap-requires g c =
    let s = c.args.spot in
    let there = rw (c.children.ensures.bitmap, c.children.ensures.index) at (answered _ _ _ c.entry.result c.unwrap-row.result c.unwrap-row.ensures c.entry.ensures) in
    let ok : Passes c.unwrap-row.result = child_passes _ _ (row_of c.args.self.now.root) (known _ _ _ c.requires.sound) c.requires.node.0 (place_of s.place) (row_of s.node) c.requires.node.1 c.args.bit.number c.unwrap-row.result (sym c.is_set.ensures ∙ c.if-not-is_set.false) there in
    search rules

pub returns : goal.returns
returns g c =
    let s = c.args.spot in
    let there = rw (c.children.ensures.bitmap, c.children.ensures.index) at (answered _ _ _ c.entry.result c.unwrap-row.result c.unwrap-row.ensures c.entry.ensures) in
    let k = child_read _ _ (row_of c.args.self.now.root) (known _ _ _ c.requires.sound) c.requires.node.0 (place_of s.place) (row_of s.node) c.requires.node.1 c.args.bit.number c.unwrap-row.result (sym c.is_set.ensures ∙ c.if-not-is_set.false) there in
    let same : row_of c.unwrap.result ≡ c.unwrap-row.result = search rules in
    (k ∙ ap (λ (x : NodeRow). Some x) (sym same), c.child_place.ensures)
