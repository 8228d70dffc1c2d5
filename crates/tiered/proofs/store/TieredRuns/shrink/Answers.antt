use Rattle.runs.specs.Refusals.{told}
use Rattle.std.proofs.Common.{ℕ, ap, ◌∙◌, arith}
use Rattle.tiered.proofs.store.TieredRuns.shrink.Goals.{then-n-eq0-via-then-n-eq0, then-n-eq0-via-else-n-eq0+then-n-LONGEST}
use Rattle.tiered.proofs.store.TieredRuns.shrink.Goals as goal
use Rattle.runs.specs.Sizes.{size}
use Rattle.tiered_model.specs.Tiered.{change}
use Rattle.tiered.specs.Meaning.{store_state}
use Rattle.tiered_model.proofs.Questions.{shrinks_none, shrinks_beyond, shrinks_on, says_as}

pub returns-then-n-eq0 : goal.returns-then-n-eq0
returns-then-n-eq0 g c = elim c.then-n-eq0.branch [
  | then-n-eq0-via-then-n-eq0 w ↦ shrinks_none g.E.Entry.LONGEST (store_state c.args.self.now) c.args.n w.if-n-eq0.true
  | then-n-eq0-via-else-n-eq0+then-n-LONGEST w ↦ shrinks_beyond g.E.Entry.LONGEST (store_state c.args.self.now) c.args.n (omega (arith, w.if-n-LONGEST.true))
]

pub returns : goal.returns
returns g c =
    let o = ap (λ (z : ℕ). change (store_state c.args.self.now) z c.size-2.result) c.size.ensures ∙ ap (λ (y : ℕ). change (store_state c.args.self.now) (size g.E.Entry.LONGEST c.args.n) y) c.size-2.ensures in
    says_as told _ _ _ (o ∙ shrinks_on g.E.Entry.LONGEST (store_state c.args.self.now) c.args.n (omega (arith, c.if-n-eq0.false, c.if-n-eq1.false)) (omega arith)) c.may_change.ensures
