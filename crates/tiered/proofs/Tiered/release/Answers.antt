use Rattle.tiered_model.proofs.Known.{known}
use Rattle.std.proofs.Common.{◌<◌, length, refl, arith}
use Rattle.tiered.proofs.Tiered.release.Goals as goal
use Rattle.tiered.specs.Meaning.{store_state}
use Rattle.tiered_model.proofs.Changes.{released, some_run, size_low}

pub overflow_sub-self : goal.overflow_sub-self
overflow_sub-self g c = some_run _ g.E.Entry.wide g.E.Entry.narrow _ _ _ _ _ (known g.E.Entry.LONGEST _ _ _ _ _ c.args.self.now.sound) c.args.at c.requires.live

pub returns : goal.returns
returns g c =
    let k : c.args.y < length c.args.self.now.heads = omega (arith, c.requires.sized, size_low g.E.Entry.LONGEST (length ((store_state c.args.self.now).live c.args.at)) g.E.Entry.wide g.E.Entry.narrow) in
    let a = released _ g.E.Entry.wide g.E.Entry.narrow _ _ _ _ _ (known g.E.Entry.LONGEST _ _ _ _ _ c.args.self.now.sound) c.args.at c.requires.live c.args.y c.requires.sized k in
    record { after = a.0; cells = refl }

pub invariant_of-self : goal.invariant_of-self
invariant_of-self g c =
    let k : c.args.y < length c.args.self.now.heads = omega (arith, c.requires.sized, size_low g.E.Entry.LONGEST (length ((store_state c.args.self.now).live c.args.at)) g.E.Entry.wide g.E.Entry.narrow) in
    let a = released _ g.E.Entry.wide g.E.Entry.narrow _ _ _ _ _ (known g.E.Entry.LONGEST _ _ _ _ _ c.args.self.now.sound) c.args.at c.requires.live c.args.y c.requires.sized k in
    record { sound = ∣ a.1 ∣₁ }
