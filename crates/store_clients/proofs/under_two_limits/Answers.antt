use Rattle.std.proofs.Common.{◌≡◌, ap, ◌∙◌, rules}
use Rattle.quota.specs.Layer.{upper_state}
use Rattle.quota_model.specs.Quotas.{capped}
use Rattle.store_clients.specs.Trips.{ends, whole}
use Rattle.store_clients.proofs.under_two_limits.Goals as goal

pub returns-clause-trip : goal.returns-clause-trip
returns-clause-trip g c =
    let b = g.S.Runs in
    let begun : upper_state b c.in_ok-upper.upper ≡ record { limit = c.args.outer; below = record { limit = c.args.inner; below = b.state c.args.below } } = search rules in
    c.there_and_back-back.ensures.answer ∙ ap (λ s. whole (capped (capped b.model)) s c.args.first c.args.second) begun

pub returns-clause-after : goal.returns-clause-after
returns-clause-after g c =
    let b = g.S.Runs in
    let begun : upper_state b c.in_ok-upper.upper ≡ record { limit = c.args.outer; below = record { limit = c.args.inner; below = b.state c.args.below } } = search rules in
    c.there_and_back-back.ensures.after ∙ ap (λ s. ends (capped (capped b.model)) s c.args.first c.args.second) begun
