use Rattle.tiered_model.proofs.Known.{known}
use Rattle.std.proofs.Common.{take, drop, sym, ◌∙◌}
use Rattle.tiered.proofs.Tiered.resize.Goals as goal
use Rattle.tiered.specs.Meaning.{store_state}
use Rattle.tiered_model.proofs.Changes.{window_fits}
use Rattle.tiered_model.proofs.Moves.{resized_here}

pub returns-then-old-new : goal.returns-then-old-new
returns-then-old-new g c =
    let e = sym c.size-old.ensures ∙ c.if-old-new.true ∙ c.size-new.ensures in
    let ys = take c.args.m (drop c.args.at c.args.self.now.cells.now) in
    let f = window_fits g.E.Entry.LONGEST g.E.Entry.wide g.E.Entry.narrow _ _ _ _ _ (known g.E.Entry.LONGEST _ _ _ _ _ c.args.self.now.sound) c.args.at c.args.n c.args.m c.requires.old.1 c.requires.old.0 c.requires.new.0 c.requires.new.1 e in
    record {
      after = resized_here g.E.Entry.LONGEST g.E.Entry.wide g.E.Entry.narrow (store_state c.args.self.now) (known g.E.Entry.LONGEST _ _ _ _ _ c.args.self.now.sound).valid c.args.at c.args.n c.requires.old.1 c.requires.old.0 c.args.m c.requires.new.0 c.requires.new.1 (store_state c.lengthen.new.self) ys e f.0 c.lengthen.ensures.after f.1;
    }
