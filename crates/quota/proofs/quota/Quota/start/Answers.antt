use Rattle.std.proofs.Common.{◌≡◌, sym, rules, arith}
use Rattle.runs.specs.Lists.{indexes}
use Rattle.runs.specs.Runs.{count}
use Rattle.quota_model.proofs.Totals.{tally_no_run}
use Rattle.quota.proofs.quota.Quota.start.Goals as goal

pub invariant_of-result : goal.invariant_of-result
invariant_of-result g c =
    let live = g.S.Runs.model.live (g.S.Runs.state c.args.below) in
    let none : count live ≡ 0 = search (rules, arith) in
    record { counted = sym (tally_no_run live indexes none) }
