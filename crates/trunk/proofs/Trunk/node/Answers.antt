use Rattle.table_model.proofs.Known.{known}
use Rattle.nodes.specs.Records.{row_of}
use Rattle.trunk.specs.Steps.{place_of}
use Rattle.std.proofs.Common.{◌∙◌}
use Rattle.std.proofs.lemmas.Result.{MatchResult-weaker}
use Rattle.table_model.proofs.Judging.{path_node, path_there}
use Rattle.table_model.proofs.Nodes.{way_find, node_has}
use Rattle.table_model.proofs.Whole.{show_law}
use Rattle.trunk.specs.Meaning.{tree}
use Rattle.trunk.proofs.Trunk.node.Goals as goal

pub returns : goal.returns
returns g c =
    let n = g.N.Runs in
    let v = g.V.Runs in
    let t = c.args.self.now in
    let p = c.args.path.now in
    let good = c.in_ok-read_path.ensures in
    let nodes = n.model.live (n.state t.nodes) in
    let vals = v.model.live (v.state t.values) in
    let root = row_of t.root in
    MatchResult-weaker c.follow.result c.follow.ensures
    (λ s e.
    let f = way_find nodes root p (place_of s.place) (row_of s.node) e in
    (path_there (tree n v t) p good (node_has nodes vals root (known _ _ _ c.requires) p (place_of s.place) (row_of s.node) e), record { found = f; shown = show_law nodes vals root p (row_of s.node) (known _ _ _ c.requires) f }))
    (λ f e. path_node (tree n v t) p good ∙ e)
