use Rattle.tiered_model.proofs.Known.{known}
use Rattle.std.proofs.Common.{refl}
use Rattle.tiered.proofs.Tiered.replace.Goals as goal
use Rattle.tiered_model.proofs.Cells.{replaced}

pub returns : goal.returns
returns g c =
    let a = replaced _ g.E.Entry.wide g.E.Entry.narrow _ _ _ _ _ (known g.E.Entry.LONGEST _ _ _ _ _ c.args.self.now.sound) c.args.at _ refl c.args.slot c.args.e c.requires.slot in
    record { after = a.0 }

pub invariant_of-self : goal.invariant_of-self
invariant_of-self g c =
    let a = replaced _ g.E.Entry.wide g.E.Entry.narrow _ _ _ _ _ (known g.E.Entry.LONGEST _ _ _ _ _ c.args.self.now.sound) c.args.at _ refl c.args.slot c.args.e c.requires.slot in
    record { sound = ∣ a.1 ∣₁ }
