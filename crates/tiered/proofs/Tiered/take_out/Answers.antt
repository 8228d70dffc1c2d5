use Rattle.tiered_model.proofs.Known.{known}
use Rattle.std.proofs.Common.{◌≤◌, length, sym, ap, ◌∙◌, arith}
use Rattle.tiered.proofs.Tiered.take_out.Goals as goal
use Rattle.tiered.specs.Meaning.{store_state}
use Rattle.tiered_model.proofs.Asking.{remove_told}
use Rattle.tiered_model.proofs.Moves.{kept_same, closed_length, remove_may, removed_all}

pub resize-requires : goal.resize-requires
resize-requires g c =
    let some : 1 ≤ c.args.n = omega (arith, (remove_told g.E.Entry.LONGEST (store_state c.args.self.now) c.args.at c.args.slot c.requires.may ((known g.E.Entry.LONGEST _ _ _ _ _ c.args.self.now.sound).valid.short c.args.at)).0) in
    record {
      old = (some, ap length (kept_same (store_state c.args.self.now) (store_state c.close_gap.new.self) c.args.at _ c.close_gap.ensures.after) ∙ closed_length g.E.Entry.LONGEST g.E.Entry.wide g.E.Entry.narrow (store_state c.args.self.now) (known g.E.Entry.LONGEST _ _ _ _ _ c.args.self.now.sound).valid c.args.at c.args.n (sym c.requires.long) some c.args.slot c.requires.may);
      new = (omega (arith, c.if-n-eq1.false), omega (arith, (known g.E.Entry.LONGEST _ _ _ _ _ c.args.self.now.sound).valid.short c.args.at));
      may = remove_may g.E.Entry.LONGEST g.E.Entry.wide g.E.Entry.narrow (store_state c.args.self.now) (known g.E.Entry.LONGEST _ _ _ _ _ c.args.self.now.sound).valid c.args.at c.args.n (sym c.requires.long) some c.args.slot c.requires.may c.if-n-eq1.false (store_state c.close_gap.new.self) _ c.close_gap.ensures.after;
    }

pub returns : goal.returns
returns g c =
    let some : 1 ≤ c.args.n = omega (arith, (remove_told g.E.Entry.LONGEST (store_state c.args.self.now) c.args.at c.args.slot c.requires.may ((known g.E.Entry.LONGEST _ _ _ _ _ c.args.self.now.sound).valid.short c.args.at)).0) in
    let a = removed_all g.E.Entry.LONGEST g.E.Entry.wide g.E.Entry.narrow (store_state c.args.self.now) (known g.E.Entry.LONGEST _ _ _ _ _ c.args.self.now.sound).valid c.args.at c.args.n (sym c.requires.long) some c.args.slot c.requires.may c.if-n-eq1.false c.resize.result (store_state c.close_gap.new.self) (store_state c.resize.new.self) c.close_gap.ensures.after c.resize.ensures.after in
    record { after = a.0; place = a.1 }
