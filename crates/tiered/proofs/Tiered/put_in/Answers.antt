use Rattle.tiered_model.proofs.Known.{known}
use Rattle.std.proofs.Common.{◌≤◌, sym, arith}
use Rattle.tiered.proofs.Tiered.put_in.Goals as goal
use Rattle.tiered.specs.Meaning.{store_state}
use Rattle.tiered_model.proofs.Asking.{insert_told}
use Rattle.tiered_model.proofs.Moves.{insert_may, inserted_all}

pub resize-to-requires : goal.resize-to-requires
resize-to-requires g c =
    let some : 1 ≤ c.args.n = omega (arith, (insert_told g.E.Entry.LONGEST (store_state c.args.self.now) c.args.at c.args.slot c.requires.may).0) in
    let m = insert_may g.E.Entry.LONGEST g.E.Entry.wide g.E.Entry.narrow (store_state c.args.self.now) (known g.E.Entry.LONGEST _ _ _ _ _ c.args.self.now.sound).valid c.args.at c.args.n (sym c.requires.long) some c.args.slot c.args.e c.requires.may in
    record { old = (some, sym c.requires.long); new = (omega arith, omega (arith, m.1)); may = m.2 }

pub returns : goal.returns
returns g c =
    let some : 1 ≤ c.args.n = omega (arith, (insert_told g.E.Entry.LONGEST (store_state c.args.self.now) c.args.at c.args.slot c.requires.may).0) in
    let m = insert_may g.E.Entry.LONGEST g.E.Entry.wide g.E.Entry.narrow (store_state c.args.self.now) (known g.E.Entry.LONGEST _ _ _ _ _ c.args.self.now.sound).valid c.args.at c.args.n (sym c.requires.long) some c.args.slot c.args.e c.requires.may in
    let a = inserted_all g.E.Entry.LONGEST g.E.Entry.wide g.E.Entry.narrow (store_state c.args.self.now) (known g.E.Entry.LONGEST _ _ _ _ _ c.args.self.now.sound).valid c.args.at c.args.n (sym c.requires.long) some c.args.slot c.args.e c.requires.may c.resize-to.result (store_state c.resize-to.new.self) (store_state c.open_gap.new.self) c.resize-to.ensures.after c.open_gap.ensures.after in
    record { after = a.0; place = a.1 }
