use Rattle.runs.specs.Refusals.{told}
use Rattle.std.proofs.Common.{ℕ, ap, ◌∙◌, arith}
use Rattle.tiered.proofs.store.TieredRuns.grow.Goals as goal
use Rattle.runs.specs.Sizes.{size}
use Rattle.tiered_model.specs.Tiered.{change}
use Rattle.tiered.specs.Meaning.{store_state}
use Rattle.tiered_model.proofs.Questions.{grows_beyond, grows_on, says_as}

pub returns-then-n-LONGEST : goal.returns-then-n-LONGEST
returns-then-n-LONGEST g c = grows_beyond g.E.Entry.LONGEST (store_state c.args.self.now) c.args.n (omega arith)

pub returns : goal.returns
returns g c =
    let o = ap (λ (z : ℕ). change (store_state c.args.self.now) z c.size-2.result) c.size.ensures ∙ ap (λ (y : ℕ). change (store_state c.args.self.now) (size g.E.Entry.LONGEST c.args.n) y) c.size-2.ensures in
    says_as told _ _ _ (o ∙ grows_on g.E.Entry.LONGEST (store_state c.args.self.now) c.args.n c.if-n-eq0.false (omega arith)) c.may_change-2.ensures
