use Rattle.std.proofs.Common.{◌≡◌, None, rules, arith}
use Rattle.runs.specs.Runs.{grows}
use Rattle.quota_model.proofs.Totals.{counted}
use Rattle.quota.proofs.Layers.{fits, accepted}
use Rattle.quota.proofs.quota.QuotaRunStore.open.Goals as goal

pub overflow_add-self : goal.overflow_add-self
overflow_add-self g c =
    let q = c.args.self.now in
    omega (arith, q.counted, fits g.met.S.Runs.lawful (g.S.Runs.state q.below) (g.met.S.Runs.valid q.below) g.E.Entry.narrow)

pub invariant_of-self-2 : goal.invariant_of-self-2
invariant_of-self-2 g c =
    let b = g.S.Runs in
    let q = c.args.self.now in
    let s = b.state q.below in
    let yes : grows b.model s 0 ≡ None = search rules in
    let n = (counted g.met.S.Runs.lawful).opening s c.args.e (g.met.S.Runs.valid q.below) yes in
    let l = accepted b.model.live s (b.model.opened s c.args.e) (b.state c.open.new.self) _ yes c.open.ensures.called.after in
    record { counted = omega (arith, q.counted, n, l) }
