use Rattle.std.proofs.Common.{refl, arith}
use Rattle.flat_model.proofs.Known.{known}
use Rattle.flat_model.proofs.Cells.{replaced}
use Rattle.flat.proofs.flat.Flat.replace.Goals as goal

pub invariant_of-self : goal.invariant_of-self
invariant_of-self g c =
    let a = replaced _ g.E.Entry.wide g.E.Entry.narrow _ _ _ _ _ (known g.E.Entry.LONGEST _ _ _ _ _ c.args.self.now.sound) c.args.at _ refl (omega (arith, c.requires.slot)) c.args.slot c.args.e c.requires.slot in
    record { sound = ∣ a.1 ∣₁ }

pub returns : goal.returns
returns g c =
    let a = replaced _ g.E.Entry.wide g.E.Entry.narrow _ _ _ _ _ (known g.E.Entry.LONGEST _ _ _ _ _ c.args.self.now.sound) c.args.at _ refl (omega (arith, c.requires.slot)) c.args.slot c.args.e c.requires.slot in
    record { after = a.0 }
