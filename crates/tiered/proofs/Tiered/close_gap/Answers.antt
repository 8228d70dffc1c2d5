use Rattle.runs.specs.Shift.{Left}
use Rattle.tiered_model.specs.Ledger.{Sound}
use Rattle.tiered_model.proofs.Known.{known}
use Rattle.std.proofs.Common.{◌+◌, length, arith}
use Rattle.runs.proofs.Shifts.{either_way, left_fits, is_granted, has_moved}
use Rattle.tiered.proofs.Tiered.close_gap.Goals as goal
use Rattle.tiered_model.proofs.Cells.{slot_cells, gap_closed}

pub returns : goal.returns
returns g c =
    let b = slot_cells _ g.E.Entry.wide g.E.Entry.narrow _ _ _ _ _ (known g.E.Entry.LONGEST _ _ _ _ _ c.args.self.now.sound) c.args.at c.args.slot (omega (arith, c.requires.long)) in
    let a = gap_closed _ g.E.Entry.wide g.E.Entry.narrow _ _ _ _ _ (known g.E.Entry.LONGEST _ _ _ _ _ c.args.self.now.sound) c.args.at c.args.n c.requires.long c.shift_left.new.cells c.args.slot c.requires.slot (omega arith) (has_moved c.shift_left.result _ _ (λ xs ys. Left xs ys (c.args.at + c.args.slot) (c.args.at + c.args.n)) (is_granted _ _ _ c.shift_left.ensures.answer (left_fits (c.args.at + c.args.slot) (c.args.at + c.args.n) (length c.args.self.now.cells.now) (omega arith) (omega arith))) c.shift_left.ensures.after) in
    record { after = a.0 }

pub invariant_of-self : goal.invariant_of-self
invariant_of-self g c =
    let s = known g.E.Entry.LONGEST _ _ _ _ _ c.args.self.now.sound in
    record { sound = ∣ either_way (λ D. Sound g.E.Entry.LONGEST D c.args.self.now.ledger.now c.args.self.now.claimed c.args.self.now.heads c.args.self.now.runs) c.shift_left.result _ _ (λ xs ys. Left xs ys (c.args.at + c.args.slot) (c.args.at + c.args.n)) c.shift_left.ensures.after (λ moved. (gap_closed _ g.E.Entry.wide g.E.Entry.narrow _ _ _ _ _ s c.args.at c.args.n c.requires.long c.shift_left.new.cells c.args.slot c.requires.slot (omega arith) moved).1) s ∣₁ }
