use Rattle.std.proofs.Common.{◌≡◌, None, rules, arith}
use Rattle.runs.specs.Runs.{no_remove}
use Rattle.quota_model.proofs.Totals.{counted}
use Rattle.quota.proofs.Layers.{accepted}
use Rattle.quota.proofs.quota.QuotaRunStore.remove.Goals as goal

pub overflow_sub-self : goal.overflow_sub-self
overflow_sub-self g c =
    let b = g.S.Runs in
    let q = c.args.self.now in
    let s = b.state q.below in
    let i = g.E.Index.RunIndex.number c.args.at in
    let yes : no_remove b.model s i c.args.slot.number ≡ None = search rules in
    let n = (counted g.met.S.Runs.lawful).removing s i c.args.slot.number (g.met.S.Runs.valid q.below) yes in
    omega (arith, n, q.counted)

pub invariant_of-self-2 : goal.invariant_of-self-2
invariant_of-self-2 g c =
    let b = g.S.Runs in
    let q = c.args.self.now in
    let s = b.state q.below in
    let i = g.E.Index.RunIndex.number c.args.at in
    let k = c.args.slot.number in
    let yes : no_remove b.model s i k ≡ None = search rules in
    let n = (counted g.met.S.Runs.lawful).removing s i k (g.met.S.Runs.valid q.below) yes in
    let l = accepted b.model.live s (b.model.removed s i k) (b.state c.remove.new.self) _ yes c.remove.ensures.called.after in
    record { counted = omega (arith, q.counted, n, l) }
