use Rattle.nodes.specs.Records.{row_of}
use Rattle.trunk.specs.Steps.{place_of}
use Rattle.std.proofs.Common.{rules, ◌≡◌, get_or, Some, None, sym, ap, ◌∙◌}
use Rattle.bitmap.specs.Ranks.{rank}
use Rattle.table_model.specs.Table.{child}
use Rattle.table_model.specs.States.{Place, slot}
use Rattle.table_model.proofs.Descent.{way_next, way_ends}
use Rattle.table_model.proofs.States.{descend_nil}
use Rattle.trunk.proofs.Trunk.follow.Goals as goal

pub loop-i-init : goal.loop-i-init
loop-i-init g c = descend_nil _ _ _

pub returns-in_default : goal.returns-in_default
returns-in_default g c =
    let nodes = g.N.Runs.model.live (g.N.Runs.state c.args.self.now.nodes) in
    let at = c.loop-i.spot in
    let none : child nodes (row_of at.node) (get_or c.args.path.now c.loop-i.i 0) ≡ None = search rules in
    let why = way_ends nodes (g.V.Runs.model.live (g.V.Runs.state c.args.self.now.values)) (row_of c.args.self.now.root) c.args.path.now c.loop-i.i (place_of at.place) (row_of at.node) c.loop-i.invariant c.loop-i-test.true none in
    search (rules, why)

pub loop-i-preserved : goal.loop-i-preserved
loop-i-preserved g c =
    let nodes = g.N.Runs.model.live (g.N.Runs.state c.args.self.now.nodes) in
    let at = c.loop-i.spot in
    let s = c.in-Some.child in
    let found : (child nodes (row_of at.node) (get_or c.args.path.now c.loop-i.i 0) ≡ Some (row_of s.node)) × (place_of s.place ≡ slot at.node.children_index.number (rank at.node.child_bitmap (get_or c.args.path.now c.loop-i.i 0))) = search rules in
    way_next nodes (g.V.Runs.model.live (g.V.Runs.state c.args.self.now.values)) (row_of c.args.self.now.root) c.args.path.now c.loop-i.i (place_of at.place) (row_of at.node) c.loop-i.invariant c.loop-i-test.true _ found.0
    ∙ ap (λ (pl : Place). Some (pl, row_of c.in-Some.child.node)) (sym found.1)
