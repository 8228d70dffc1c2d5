use Rattle.std.proofs.Common.{sym, ◌∙◌}
use Rattle.quota_model.proofs.Totals.{counted}
use Rattle.quota.proofs.Layers.{unchanged}
use Rattle.quota.proofs.quota.QuotaRunStore.exchange.Goals as goal

pub invariant_of-self : goal.invariant_of-self
invariant_of-self g c =
    let b = g.S.Runs in
    let q = c.args.self.now in
    let s = b.state q.below in
    let n = (counted g.met.S.Runs.lawful).exchanging s (g.E.Index.RunIndex.number c.args.at) c.args.slot.number c.args.e (g.met.S.Runs.valid q.below) in
    record { counted = q.counted ∙ sym (unchanged b.model.live s _ (b.state c.exchange.new.self) _ n c.exchange.ensures.called.after) }
