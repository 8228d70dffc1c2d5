use Rattle.tiered_model.proofs.Known.{known}
use Rattle.std.proofs.Common.{refl}
use Rattle.tiered.proofs.Tiered.lengthen.Goals as goal
use Rattle.tiered_model.proofs.Changes.{lengthened}

pub returns : goal.returns
returns g c =
    let a = lengthened _ g.E.Entry.wide g.E.Entry.narrow _ _ _ _ _ (known g.E.Entry.LONGEST _ _ _ _ _ c.args.self.now.sound) c.args.at c.requires.live c.args.m c.requires.long.0 c.requires.long.1 c.requires.sized in
    record { after = a.0; cells = refl }

pub invariant_of-self : goal.invariant_of-self
invariant_of-self g c =
    let a = lengthened _ g.E.Entry.wide g.E.Entry.narrow _ _ _ _ _ (known g.E.Entry.LONGEST _ _ _ _ _ c.args.self.now.sound) c.args.at c.requires.live c.args.m c.requires.long.0 c.requires.long.1 c.requires.sized in
    record { sound = ∣ a.1 ∣₁ }
