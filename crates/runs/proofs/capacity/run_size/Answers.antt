use Rattle.std.proofs.Common.{ℕ, ◌<◌, sym, subst, arith}
use Rattle.runs.specs.Sizes.{Least}
use Rattle.runs.proofs.Sizes.{sizes}
use Rattle.runs.proofs.Tiers.{tier_right}
use Rattle.runs.proofs.capacity.run_size.Goals as goal

pub returns-then-n-le24 : goal.returns-then-n-le24
returns-then-n-le24 c =
    let h : c.args.n < 25 = omega arith in
    let e = (tier_right c.args.longest c.args.n h).1 in
    record { value = e; none = λ a b. omega arith; least = λ a b l m. subst (λ (z : ℕ). Least c.args.longest c.args.n z) (sym e) (sizes c.args.longest c.args.n a b l m) }
