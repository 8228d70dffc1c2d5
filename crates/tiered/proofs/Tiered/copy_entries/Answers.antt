use Rattle.runs.specs.Shift.{Copied}
use Rattle.tiered_model.specs.Ledger.{Sound}
use Rattle.tiered_model.proofs.Known.{known}
use Rattle.std.proofs.Common.{length, refl, arith}
use Rattle.runs.proofs.Shifts.{either_way, copy_fits, is_granted, has_moved}
use Rattle.tiered.proofs.Tiered.copy_entries.Goals as goal
use Rattle.tiered_model.proofs.Cells.{in_cells, copy_apart, run_copied}

pub unwrap-requires : goal.unwrap-requires
unwrap-requires g c =
    let a0 = in_cells _ g.E.Entry.wide g.E.Entry.narrow _ _ _ _ _ (known g.E.Entry.LONGEST _ _ _ _ _ c.args.self.now.sound) c.args.from (omega (arith, c.requires.some, c.requires.from)) in
    let b = in_cells _ g.E.Entry.wide g.E.Entry.narrow _ _ _ _ _ (known g.E.Entry.LONGEST _ _ _ _ _ c.args.self.now.sound) c.args.to (omega (arith, c.requires.some, c.requires.to)) in
    is_granted _ _ _ c.copy_run.ensures.answer (copy_fits c.args.from c.args.to c.args.k (length c.args.self.now.cells.now) (omega (arith, c.requires.from)) (omega (arith, c.requires.to)) (copy_apart _ g.E.Entry.wide g.E.Entry.narrow _ _ _ _ _ (known g.E.Entry.LONGEST _ _ _ _ _ c.args.self.now.sound) c.args.from c.args.to c.args.k c.requires.some c.requires.from c.requires.to c.requires.apart))

pub returns : goal.returns
returns g c =
    let a0 = in_cells _ g.E.Entry.wide g.E.Entry.narrow _ _ _ _ _ (known g.E.Entry.LONGEST _ _ _ _ _ c.args.self.now.sound) c.args.from (omega (arith, c.requires.some, c.requires.from)) in
    let b = in_cells _ g.E.Entry.wide g.E.Entry.narrow _ _ _ _ _ (known g.E.Entry.LONGEST _ _ _ _ _ c.args.self.now.sound) c.args.to (omega (arith, c.requires.some, c.requires.to)) in
    let a = run_copied _ g.E.Entry.wide g.E.Entry.narrow _ _ _ _ _ (known g.E.Entry.LONGEST _ _ _ _ _ c.args.self.now.sound) c.args.to _ refl c.copy_run.new.cells c.args.from c.args.k _ refl c.requires.some c.requires.from c.requires.to (omega arith) (has_moved c.copy_run.result _ _ (λ xs ys. Copied xs ys c.args.from c.args.to c.args.k) (is_granted _ _ _ c.copy_run.ensures.answer (copy_fits c.args.from c.args.to c.args.k (length c.args.self.now.cells.now) (omega (arith, c.requires.from)) (omega (arith, c.requires.to)) (copy_apart _ g.E.Entry.wide g.E.Entry.narrow _ _ _ _ _ (known g.E.Entry.LONGEST _ _ _ _ _ c.args.self.now.sound) c.args.from c.args.to c.args.k c.requires.some c.requires.from c.requires.to c.requires.apart))) c.copy_run.ensures.after) in
    record { after = a.0 }

pub invariant_of-self : goal.invariant_of-self
invariant_of-self g c =
    let s = known g.E.Entry.LONGEST _ _ _ _ _ c.args.self.now.sound in
    record { sound = ∣ either_way (λ D. Sound g.E.Entry.LONGEST D c.args.self.now.ledger.now c.args.self.now.claimed c.args.self.now.heads c.args.self.now.runs) c.copy_run.result _ _ (λ xs ys. Copied xs ys c.args.from c.args.to c.args.k) c.copy_run.ensures.after (λ moved. (run_copied _ g.E.Entry.wide g.E.Entry.narrow _ _ _ _ _ s c.args.to _ refl c.copy_run.new.cells c.args.from c.args.k _ refl c.requires.some c.requires.from c.requires.to (omega arith) moved).1) s ∣₁ }
