use Rattle.table_model.proofs.Known.{known}
use Rattle.nodes.specs.Records.{row_of}
use Rattle.trunk.specs.Meaning.{states}
use Rattle.trunk.specs.Steps.{place_of}
use Rattle.std.proofs.Common.{rules, ◌≡◌, None, sym, ◌∙◌}
use Rattle.runs.specs.Runs.{grows}
use Rattle.bitmap.specs.Ranks.{rank}
use Rattle.table_model.proofs.Judging.{put_taken, put_clear, put_may}
use Rattle.table_model.specs.Calls.{put_no}
use Rattle.table_model.specs.Refusals.{inside}
use Rattle.trunk.proofs.Trunk.may_put.Goals as goal

pub returns-then-is_set : goal.returns-then-is_set
returns-then-is_set g c =
    let n = g.N.Runs in
    let v = g.V.Runs in
    let t = c.args.self.now in
    let p = c.args.path.now in
    let b = c.args.bit.number in
    let s = c.in_ok-spot.spot in
    put_taken n.model v.model (states n v t) (known _ _ _ c.requires) p b (place_of s.place) (row_of s.node) c.in_ok-spot.ensures (sym c.is_set.ensures ∙ c.if-is_set.true)

pub returns-in_err-map_err : goal.returns-in_err-map_err
returns-in_err-map_err g c =
    let n = g.N.Runs in
    let v = g.V.Runs in
    let t = c.args.self.now in
    let p = c.args.path.now in
    let b = c.args.bit.number in
    let s = c.in_ok-spot.spot in
    let why : put_no n.model v.model (states n v t) p b ≡ inside 10 (grows v.model (v.state t.values) (rank c.data-data.result.bitmap 32)) =
    rw c.data-data.ensures.bitmap (put_clear n.model v.model (states n v t) (known _ _ _ c.requires) p b (place_of s.place) (row_of s.node) c.in_ok-spot.ensures (sym c.is_set.ensures ∙ c.if-is_set.false)) in
    search (rules, why)

pub returns : goal.returns
returns g c =
    let n = g.N.Runs in
    let v = g.V.Runs in
    let t = c.args.self.now in
    let p = c.args.path.now in
    let b = c.args.bit.number in
    let s = c.in_ok-spot.spot in
    let yes : grows v.model (v.state t.values) (rank c.data-data.result.bitmap 32) ≡ None = search rules in
    put_may n.model v.model (states n v t) (known _ _ _ c.requires) p b (place_of s.place) (row_of s.node) c.in_ok-spot.ensures (sym c.is_set.ensures ∙ c.if-is_set.false) (rw c.data-data.ensures.bitmap at yes)
