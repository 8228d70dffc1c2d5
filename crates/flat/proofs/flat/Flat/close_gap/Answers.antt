use Rattle.std.proofs.Common.{arith}
use Rattle.flat_model.proofs.Known.{known}
use Rattle.flat_model.proofs.Steps.{remove_gap, remove_done}
use Rattle.flat.proofs.flat.Flat.close_gap.Goals as goal

pub invariant_of-self : goal.invariant_of-self
invariant_of-self g c =
    let s = remove_gap _ g.E.Entry.wide g.E.Entry.narrow _ _ _ _ _ (known g.E.Entry.LONGEST _ _ _ _ _ c.args.self.now.sound) c.args.at c.args.n c.args.slot c.requires.long c.requires.may c.shift_left.new.cells c.shift_left.result (omega arith) c.shift_left.ensures.answer c.shift_left.ensures.after in
    record { sound = ∣ s ∣₁ }

pub invariant_of-self-2 : goal.invariant_of-self-2
invariant_of-self-2 g c =
    let a = remove_done _ g.E.Entry.wide g.E.Entry.narrow _ _ _ _ _ (known g.E.Entry.LONGEST _ _ _ _ _ c.args.self.now.sound) c.args.at c.args.n c.args.slot c.requires.long c.requires.may c.shift_left.new.cells c.shift_left.result (omega arith) c.shift_left.ensures.answer c.shift_left.ensures.after c.requires.more in
    record { sound = ∣ a.1 ∣₁ }

pub returns : goal.returns
returns g c =
    let a = remove_done _ g.E.Entry.wide g.E.Entry.narrow _ _ _ _ _ (known g.E.Entry.LONGEST _ _ _ _ _ c.args.self.now.sound) c.args.at c.args.n c.args.slot c.requires.long c.requires.may c.shift_left.new.cells c.shift_left.result (omega arith) c.shift_left.ensures.answer c.shift_left.ensures.after c.requires.more in
    record { after = a.0 }
