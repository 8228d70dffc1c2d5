use Rattle.flat_model.proofs.Known.{known}
use Rattle.flat_model.proofs.Steps.{open_slot, open_done}
use Rattle.flat.specs.Meaning.{store_state}
use Rattle.flat.proofs.flat.Flat.open_run.Goals as goal

pub replace-requires : goal.replace-requires
replace-requires g c = record {
  slot = open_slot _ g.E.Entry.wide g.E.Entry.narrow _ _ _ _ _ (known g.E.Entry.LONGEST _ _ _ _ _ c.args.self.now.sound) c.requires.may c.take_group-at.result (store_state c.take_group-at.new.self) c.take_group-at.ensures.group c.take_group-at.ensures.after;
}

pub returns-clause-after : goal.returns-clause-after
returns-clause-after g c =
    open_done _ g.E.Entry.wide g.E.Entry.narrow _ _ _ _ _ (known g.E.Entry.LONGEST _ _ _ _ _ c.args.self.now.sound) c.requires.may c.take_group-at.result (store_state c.take_group-at.new.self) c.take_group-at.ensures.group c.take_group-at.ensures.after
    (store_state c.replace.new.self) c.args.e c.replace.ensures.after
