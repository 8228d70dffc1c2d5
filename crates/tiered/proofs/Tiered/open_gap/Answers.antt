use Rattle.runs.specs.Shift.{Right}
use Rattle.tiered_model.specs.Ledger.{Sound}
use Rattle.tiered_model.proofs.Known.{known}
use Rattle.runs.proofs.Shifts.{either_way, right_fits, is_granted, has_moved}
use Rattle.std.proofs.Common.{◌+◌, length, refl, arith}
use Rattle.tiered.proofs.Tiered.open_gap.Goals as goal
use Rattle.tiered_model.proofs.Cells.{slot_cells, gap_opened, gap_moved}

pub overflow_add-e : goal.overflow_add-e
overflow_add-e g c = let b = slot_cells _ g.E.Entry.wide g.E.Entry.narrow _ _ _ _ _ (known g.E.Entry.LONGEST _ _ _ _ _ c.args.self.now.sound) c.args.at c.args.slot (omega (arith, c.requires.long)) in omega arith

pub returns : goal.returns
returns g c =
    let b = slot_cells _ g.E.Entry.wide g.E.Entry.narrow _ _ _ _ _ (known g.E.Entry.LONGEST _ _ _ _ _ c.args.self.now.sound) c.args.at c.args.slot (omega (arith, c.requires.long)) in
    let a = gap_opened _ g.E.Entry.wide g.E.Entry.narrow _ _ _ _ _ (known g.E.Entry.LONGEST _ _ _ _ _ c.args.self.now.sound) c.args.at (c.args.n + 1) c.requires.long c.shift_right.new.cells c.args.slot c.args.n c.args.e refl c.requires.slot (omega arith) (has_moved c.shift_right.result _ _ (λ xs ys. Right xs ys (c.args.at + c.args.slot) (c.args.at + c.args.n)) (is_granted _ _ _ c.shift_right.ensures.answer (right_fits (c.args.at + c.args.slot) (c.args.at + c.args.n) (length c.args.self.now.cells.now) (omega arith) (omega arith))) c.shift_right.ensures.after) in
    record { after = a.0 }

pub invariant_of-self : goal.invariant_of-self
invariant_of-self g c =
    let s = known g.E.Entry.LONGEST _ _ _ _ _ c.args.self.now.sound in
    record { sound = ∣ either_way (λ D. Sound g.E.Entry.LONGEST D c.args.self.now.ledger.now c.args.self.now.claimed c.args.self.now.heads c.args.self.now.runs) c.shift_right.result _ _ (λ xs ys. Right xs ys (c.args.at + c.args.slot) (c.args.at + c.args.n)) c.shift_right.ensures.after (λ moved. gap_moved _ g.E.Entry.wide g.E.Entry.narrow _ _ _ _ _ s c.args.at (c.args.n + 1) c.requires.long c.shift_right.new.cells c.args.slot c.args.n refl c.requires.slot (omega arith) moved) s ∣₁ }

pub invariant_of-self-2 : goal.invariant_of-self-2
invariant_of-self-2 g c =
    let b = slot_cells _ g.E.Entry.wide g.E.Entry.narrow _ _ _ _ _ (known g.E.Entry.LONGEST _ _ _ _ _ c.args.self.now.sound) c.args.at c.args.slot (omega (arith, c.requires.long)) in
    let a = gap_opened _ g.E.Entry.wide g.E.Entry.narrow _ _ _ _ _ (known g.E.Entry.LONGEST _ _ _ _ _ c.args.self.now.sound) c.args.at (c.args.n + 1) c.requires.long c.shift_right.new.cells c.args.slot c.args.n c.args.e refl c.requires.slot (omega arith) (has_moved c.shift_right.result _ _ (λ xs ys. Right xs ys (c.args.at + c.args.slot) (c.args.at + c.args.n)) (is_granted _ _ _ c.shift_right.ensures.answer (right_fits (c.args.at + c.args.slot) (c.args.at + c.args.n) (length c.args.self.now.cells.now) (omega arith) (omega arith))) c.shift_right.ensures.after) in
    record { sound = ∣ a.1 ∣₁ }
