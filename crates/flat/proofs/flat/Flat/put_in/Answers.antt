use Rattle.std.proofs.Common.{◌+◌, length, arith}
use Rattle.runs.proofs.Shifts.{right_fits, never}
use Rattle.flat_model.proofs.Known.{known}
use Rattle.flat_model.proofs.Steps.{insert_room, insert_gap, insert_written, insert_done}
use Rattle.flat.proofs.flat.Flat.put_in.Goals as goal

pub invariant_of-self : goal.invariant_of-self
invariant_of-self g c =
    let s = insert_gap _ g.E.Entry.wide g.E.Entry.narrow _ _ _ _ _ (known g.E.Entry.LONGEST _ _ _ _ _ c.args.self.now.sound) c.args.at c.args.n c.args.slot c.requires.long c.requires.may c.shift_right.new.cells c.shift_right.result (omega arith) c.shift_right.ensures.answer c.shift_right.ensures.after in
    record { sound = ∣ s ∣₁ }

pub unreachable-requires : goal.unreachable-requires
unreachable-requires g c =
    let w = insert_room _ g.E.Entry.wide g.E.Entry.narrow _ _ _ _ _ (known g.E.Entry.LONGEST _ _ _ _ _ c.args.self.now.sound) c.args.at c.args.n c.args.slot c.requires.long c.requires.may in
    never _ _ (right_fits (c.args.at + c.args.slot) (c.args.at + c.args.n) (length c.args.self.now.cells.now) (omega arith) (omega arith)) c.in_default.ensures.answer

pub overflow_add-e : goal.overflow_add-e
overflow_add-e g c = let w = insert_room _ g.E.Entry.wide g.E.Entry.narrow _ _ _ _ _ (known g.E.Entry.LONGEST _ _ _ _ _ c.args.self.now.sound) c.args.at c.args.n c.args.slot c.requires.long c.requires.may in omega arith

pub invariant_of-self-2 : goal.invariant_of-self-2
invariant_of-self-2 g c =
    let s = insert_written _ g.E.Entry.wide g.E.Entry.narrow _ _ _ _ _ (known g.E.Entry.LONGEST _ _ _ _ _ c.args.self.now.sound) c.args.at c.args.n c.args.slot c.requires.long c.requires.may c.shift_right.new.cells c.shift_right.result (omega arith) c.shift_right.ensures.answer c.shift_right.ensures.after c.args.e in
    record { sound = ∣ s ∣₁ }

pub invariant_of-self-3 : goal.invariant_of-self-3
invariant_of-self-3 g c =
    let a = insert_done _ g.E.Entry.wide g.E.Entry.narrow _ _ _ _ _ (known g.E.Entry.LONGEST _ _ _ _ _ c.args.self.now.sound) c.args.at c.args.n c.args.slot c.requires.long c.requires.may c.shift_right.new.cells c.shift_right.result (omega arith) c.shift_right.ensures.answer c.shift_right.ensures.after c.args.e in
    record { sound = ∣ a.1 ∣₁ }

pub returns : goal.returns
returns g c =
    let a = insert_done _ g.E.Entry.wide g.E.Entry.narrow _ _ _ _ _ (known g.E.Entry.LONGEST _ _ _ _ _ c.args.self.now.sound) c.args.at c.args.n c.args.slot c.requires.long c.requires.may c.shift_right.new.cells c.shift_right.result (omega arith) c.shift_right.ensures.answer c.shift_right.ensures.after c.args.e in
    record { after = a.0 }
