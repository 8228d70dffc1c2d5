use Rattle.table_model.proofs.Known.{known}
use Rattle.nodes.specs.Records.{row_of}
use Rattle.trunk.specs.Meaning.{states}
use Rattle.trunk.specs.Steps.{place_of}
use Rattle.std.proofs.Common.{◌∙◌}
use Rattle.std.proofs.lemmas.Result.{MatchResult-weaker}
use Rattle.table_model.proofs.Judging.{place_node, reached}
use Rattle.trunk.specs.Meaning.{tree}
use Rattle.trunk.proofs.Trunk.reach.Goals as goal

pub returns : goal.returns
returns g c =
    let n = g.N.Runs in
    let v = g.V.Runs in
    let t = c.args.self.now in
    let p = c.args.path.now in
    let b = c.args.bit.number in
    let w = c.args.width in
    let good = c.in_ok-read_path.ensures in
    MatchResult-weaker c.follow.result c.follow.ensures
    (λ s e. reached n.model v.model (states n v t) (known _ _ _ c.requires) p b (place_of s.place) (row_of s.node) w good c.if-bit-width.false e)
    (λ f e. place_node (tree n v t) p b w good c.if-bit-width.false ∙ e)
