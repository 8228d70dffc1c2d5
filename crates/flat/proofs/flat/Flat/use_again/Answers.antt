use Rattle.std.proofs.Common.{arith}
use Rattle.flat_model.proofs.Known.{known}
use Rattle.flat_model.proofs.Words.{runs_low, front_low, used_again}
use Rattle.flat.proofs.flat.Flat.use_again.Goals as goal

pub bounds-self-at : goal.bounds-self-at
bounds-self-at g c = (front_low _ g.E.Entry.wide g.E.Entry.narrow _ _ _ _ _ (known g.E.Entry.LONGEST _ _ _ _ _ c.args.self.now.sound) c.requires.some).0

pub overflow_cast-before-2 : goal.overflow_cast-before-2
overflow_cast-before-2 g c =
    let s = known g.E.Entry.LONGEST _ _ _ _ _ c.args.self.now.sound in
    omega (arith, (front_low _ g.E.Entry.wide g.E.Entry.narrow _ _ _ _ _ s c.requires.some).1, s.same, s.valid.within)

pub bounds-self-at-2 : goal.bounds-self-at-2
bounds-self-at-2 g c = (front_low _ g.E.Entry.wide g.E.Entry.narrow _ _ _ _ _ (known g.E.Entry.LONGEST _ _ _ _ _ c.args.self.now.sound) c.requires.some).0

pub overflow_add-self : goal.overflow_add-self
overflow_add-self g c = omega (arith, runs_low _ g.E.Entry.wide g.E.Entry.narrow _ _ _ _ _ (known g.E.Entry.LONGEST _ _ _ _ _ c.args.self.now.sound))

pub invariant_of-self : goal.invariant_of-self
invariant_of-self g c =
    let a = used_again _ g.E.Entry.wide g.E.Entry.narrow _ _ _ _ _ (known g.E.Entry.LONGEST _ _ _ _ _ c.args.self.now.sound) c.requires.some in
    record { sound = ∣ a.2 ∣₁ }

pub returns : goal.returns
returns g c =
    let a = used_again _ g.E.Entry.wide g.E.Entry.narrow _ _ _ _ _ (known g.E.Entry.LONGEST _ _ _ _ _ c.args.self.now.sound) c.requires.some in
    record { group = a.0; after = a.1 }
