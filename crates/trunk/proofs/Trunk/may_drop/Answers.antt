use Rattle.table_model.proofs.Known.{known}
use Rattle.nodes.specs.Records.{row_of}
use Rattle.trunk.specs.Meaning.{states}
use Rattle.trunk.specs.Steps.{place_of}
use Rattle.std.proofs.Common.{rules, ◌≡◌, Some, None, inl, inr, arith}
use Rattle.runs.specs.Runs.{shrinks}
use Rattle.bitmap.specs.Ranks.{rank}
use Rattle.table_model.proofs.Judging.{drop_missing, drop_full, drop_bare, drop_may}
use Rattle.table_model.specs.Calls.{drop_no}
use Rattle.table_model.specs.Table.{child}
use Rattle.table_model.specs.Refusals.{inside}
use Rattle.trunk.proofs.Trunk.may_drop.Goals as goal

pub returns-in_err-child : goal.returns-in_err-child
returns-in_err-child g c =
    let n = g.N.Runs in
    let v = g.V.Runs in
    let t = c.args.self.now in
    let p = c.args.path.now in
    let b = c.args.bit.number in
    let s = c.in_ok-spot.spot in
    let none : child (n.model.live (n.state t.nodes)) (row_of s.node) b ≡ None = search rules in
    let why = drop_missing n.model v.model (states n v t) (known _ _ _ c.requires) p b (place_of s.place) (row_of s.node) c.in_ok-spot.ensures none in
    search (rules, why)

pub returns-then-child-ne0 : goal.returns-then-child-ne0
returns-then-child-ne0 g c =
    let n = g.N.Runs in
    let v = g.V.Runs in
    let t = c.args.self.now in
    let p = c.args.path.now in
    let b = c.args.bit.number in
    let s = c.in_ok-spot.spot in
    let stood : child (n.model.live (n.state t.nodes)) (row_of s.node) b ≡ Some (row_of c.in_ok-child.child.node) = search rules in
    drop_full n.model v.model (states n v t) (known _ _ _ c.requires) p b (place_of s.place) (row_of s.node) c.in_ok-spot.ensures (row_of c.in_ok-child.child.node) stood (λ e. elim c.then-child-ne0.either [ inl w ↦ w e.0 | inr w ↦ w.1 e.1 ])

pub returns-in_err-map_err : goal.returns-in_err-map_err
returns-in_err-map_err g c =
    let n = g.N.Runs in
    let v = g.V.Runs in
    let t = c.args.self.now in
    let p = c.args.path.now in
    let b = c.args.bit.number in
    let s = c.in_ok-spot.spot in
    let stood : child (n.model.live (n.state t.nodes)) (row_of s.node) b ≡ Some (row_of c.in_ok-child.child.node) = search rules in
    let why : drop_no n.model v.model (states n v t) p b ≡ inside 9 (shrinks n.model (n.state t.nodes) (rank c.children-children.result.bitmap 32)) =
    rw c.children-children.ensures.bitmap (drop_bare n.model v.model (states n v t) (known _ _ _ c.requires) p b (place_of s.place) (row_of s.node) c.in_ok-spot.ensures (row_of c.in_ok-child.child.node) stood (omega arith) (omega arith)) in
    search (rules, why)

pub returns : goal.returns
returns g c =
    let n = g.N.Runs in
    let v = g.V.Runs in
    let t = c.args.self.now in
    let p = c.args.path.now in
    let b = c.args.bit.number in
    let s = c.in_ok-spot.spot in
    let stood : child (n.model.live (n.state t.nodes)) (row_of s.node) b ≡ Some (row_of c.in_ok-child.child.node) = search rules in
    let yes : shrinks n.model (n.state t.nodes) (rank c.children-children.result.bitmap 32) ≡ None = search rules in
    drop_may n.model v.model (states n v t) (known _ _ _ c.requires) p b (place_of s.place) (row_of s.node) c.in_ok-spot.ensures (row_of c.in_ok-child.child.node) stood (omega arith) (omega arith) (rw c.children-children.ensures.bitmap at yes)
