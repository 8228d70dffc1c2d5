use Rattle.std.proofs.Common.{arith}
use Rattle.flat_model.proofs.Known.{known}
use Rattle.flat_model.proofs.Words.{runs_low, claimed_next}
use Rattle.flat.proofs.flat.Flat.claim_next.Goals as goal

pub overflow_add-self-2 : goal.overflow_add-self-2
overflow_add-self-2 g c = omega (arith, runs_low _ g.E.Entry.wide g.E.Entry.narrow _ _ _ _ _ (known g.E.Entry.LONGEST _ _ _ _ _ c.args.self.now.sound))

pub invariant_of-self : goal.invariant_of-self
invariant_of-self g c =
    let a = claimed_next _ g.E.Entry.wide g.E.Entry.narrow _ _ _ _ _ (known g.E.Entry.LONGEST _ _ _ _ _ c.args.self.now.sound) c.LONGEST.result c.LONGEST.ensures c.requires.none c.requires.has in
    record { sound = ∣ a.2 ∣₁ }

pub returns : goal.returns
returns g c =
    let a = claimed_next _ g.E.Entry.wide g.E.Entry.narrow _ _ _ _ _ (known g.E.Entry.LONGEST _ _ _ _ _ c.args.self.now.sound) c.LONGEST.result c.LONGEST.ensures c.requires.none c.requires.has in
    record { group = a.0; after = a.1 }
