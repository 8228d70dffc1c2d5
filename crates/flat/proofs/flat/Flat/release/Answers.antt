use Rattle.flat_model.proofs.Known.{known}
use Rattle.flat_model.proofs.Words.{some_run, run_ends}
use Rattle.flat.proofs.flat.Flat.release.Goals as goal

pub overflow_sub-self : goal.overflow_sub-self
overflow_sub-self g c = some_run _ g.E.Entry.wide g.E.Entry.narrow _ _ _ _ _ (known g.E.Entry.LONGEST _ _ _ _ _ c.args.self.now.sound) c.args.at c.requires.live

pub invariant_of-self : goal.invariant_of-self
invariant_of-self g c =
    let a = run_ends _ g.E.Entry.wide g.E.Entry.narrow _ _ _ _ _ (known g.E.Entry.LONGEST _ _ _ _ _ c.args.self.now.sound) c.args.at c.requires.live in
    record { sound = ∣ a.1 ∣₁ }

pub returns : goal.returns
returns g c =
    let a = run_ends _ g.E.Entry.wide g.E.Entry.narrow _ _ _ _ _ (known g.E.Entry.LONGEST _ _ _ _ _ c.args.self.now.sound) c.args.at c.requires.live in
    record { after = a.0 }
