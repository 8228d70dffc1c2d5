use Rattle.std.proofs.Common.{◌≡◌, true, rules}
use Rattle.store_clients.proofs.Returns.{ending}
use Rattle.store_clients.specs.Trips.{whole}
use Rattle.store_clients.proofs.there_and_back.Goals as goal

pub returns-clause-back : goal.returns-clause-back
returns-clause-back g c =
    let s = g.S.Runs.state c.args.store.now in
    let e = ending g.met.S.Runs.lawful s (g.met.S.Runs.valid c.args.store.now) c.args.first c.args.second _ c.go_and_return.ensures.after in
    λ y. let w : whole g.S.Runs.model s c.args.first c.args.second ≡ true = search rules in e.back w

pub returns-clause-left : goal.returns-clause-left
returns-clause-left g c =
    let t = c.args.store.now in
    (ending g.met.S.Runs.lawful (g.S.Runs.state t) (g.met.S.Runs.valid t) c.args.first c.args.second _ c.go_and_return.ensures.after).left

pub returns-clause-removes : goal.returns-clause-removes
returns-clause-removes g c =
    let t = c.args.store.now in
    (ending g.met.S.Runs.lawful (g.S.Runs.state t) (g.met.S.Runs.valid t) c.args.first c.args.second _ c.go_and_return.ensures.after).removes
