use Rattle.tiered_model.proofs.Known.{known}
use Rattle.std.proofs.Common.{◌≡◌, ℕ, true, length, take, drop, sym, ap, ◌∙◌, subst, arith}
use Rattle.tiered.proofs.Tiered.move_run.Goals as goal
use Rattle.runs.specs.Sizes.{size}
use Rattle.tiered_model.specs.Tiered.{has}
use Rattle.tiered.specs.Meaning.{store_state}
use Rattle.tiered_model.proofs.Changes.{new_fits}
use Rattle.tiered_model.proofs.Moves.{taken, kept_other, resized_away}

pub copy_entries-requires : goal.copy_entries-requires
copy_entries-requires g c =
    let xs = take c.args.m (drop c.take_group-to.result c.args.self.now.cells.now) in
    let tk = taken g.E.Entry.LONGEST g.E.Entry.wide g.E.Entry.narrow (store_state c.args.self.now) (known g.E.Entry.LONGEST _ _ _ _ _ c.args.self.now.sound).valid c.args.at c.args.n c.requires.old.1 c.requires.old.0 c.size.result c.take_group-to.result (store_state c.take_group-to.new.self) xs c.take_group-to.ensures.group c.take_group-to.ensures.after in
    let fit : length xs ≡ c.args.m =
    ap (λ (j : ℕ). length (take c.args.m (drop j c.args.self.now.cells.now))) c.take_group-to.ensures.group
    ∙ new_fits g.E.Entry.LONGEST g.E.Entry.wide g.E.Entry.narrow _ _ _ _ _ (known g.E.Entry.LONGEST _ _ _ _ _ c.args.self.now.sound) c.size.result c.args.m c.requires.new.0 c.requires.new.1 (sym c.size.ensures) (subst (λ (y : ℕ). has (store_state c.args.self.now) y ≡ true) (sym c.size.ensures) c.requires.has) in
    record {
      some = omega arith;
      from = omega (arith, ap length tk.0);
      to = omega (arith, ap length tk.1);
      apart = tk.2;
    }

pub release-requires : goal.release-requires
release-requires g c =
    let tk = taken g.E.Entry.LONGEST g.E.Entry.wide g.E.Entry.narrow (store_state c.args.self.now) (known g.E.Entry.LONGEST _ _ _ _ _ c.args.self.now.sound).valid c.args.at c.args.n c.requires.old.1 c.requires.old.0 c.size.result c.take_group-to.result (store_state c.take_group-to.new.self) (take c.args.m (drop c.take_group-to.result c.args.self.now.cells.now)) c.take_group-to.ensures.group c.take_group-to.ensures.after in
    let e : length ((store_state c.copy_entries.new.self).live c.args.at) ≡ c.args.n =
    ap length (kept_other (store_state c.take_group-to.new.self) (store_state c.copy_entries.new.self) c.args.at c.take_group-to.result _ c.copy_entries.ensures.after tk.2 ∙ tk.0) ∙ c.requires.old.1 in
    record { live = omega (arith, c.requires.old.0); sized = ap (size g.E.Entry.LONGEST) e ∙ sym c.size-2.ensures }

pub returns : goal.returns
returns g c =
    let xs = take c.args.m (drop c.take_group-to.result c.args.self.now.cells.now) in
    let tk = taken g.E.Entry.LONGEST g.E.Entry.wide g.E.Entry.narrow (store_state c.args.self.now) (known g.E.Entry.LONGEST _ _ _ _ _ c.args.self.now.sound).valid c.args.at c.args.n c.requires.old.1 c.requires.old.0 c.size.result c.take_group-to.result (store_state c.take_group-to.new.self) xs c.take_group-to.ensures.group c.take_group-to.ensures.after in
    let fit : length xs ≡ c.args.m =
    ap (λ (j : ℕ). length (take c.args.m (drop j c.args.self.now.cells.now))) c.take_group-to.ensures.group
    ∙ new_fits g.E.Entry.LONGEST g.E.Entry.wide g.E.Entry.narrow _ _ _ _ _ (known g.E.Entry.LONGEST _ _ _ _ _ c.args.self.now.sound) c.size.result c.args.m c.requires.new.0 c.requires.new.1 (sym c.size.ensures) (subst (λ (y : ℕ). has (store_state c.args.self.now) y ≡ true) (sym c.size.ensures) c.requires.has) in
    record {
      after = resized_away g.E.Entry.LONGEST g.E.Entry.wide g.E.Entry.narrow (store_state c.args.self.now) (known g.E.Entry.LONGEST _ _ _ _ _ c.args.self.now.sound).valid c.args.at c.args.n c.requires.old.1 c.requires.old.0 c.args.m c.requires.new.0 c.requires.new.1 c.take_group-to.result c.size.result c.size-2.result c.min.result
          (store_state c.take_group-to.new.self) (store_state c.copy_entries.new.self) (store_state c.release.new.self) xs c.size.ensures c.size-2.ensures c.requires.other c.take_group-to.ensures.group fit
          c.take_group-to.ensures.after c.copy_entries.ensures.after c.release.ensures.after c.min.ensures;
    }
