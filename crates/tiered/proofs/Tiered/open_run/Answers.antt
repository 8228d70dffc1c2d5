use Rattle.tiered_model.proofs.Known.{known}
use Rattle.std.proofs.Common.{◌≡◌, ℕ, length, take, drop, refl, ap, ◌∙◌, arith}
use Rattle.tiered.proofs.Tiered.open_run.Goals as goal
use Rattle.tiered.specs.Meaning.{store_state}
use Rattle.tiered_model.proofs.Changes.{new_fits}
use Rattle.tiered_model.proofs.Moves.{open_may, held_live, opened_all}

pub replace-requires : goal.replace-requires
replace-requires g c =
    let xs = take 1 (drop c.take_group-at.result c.args.self.now.cells.now) in
    let had = open_may g.E.Entry.LONGEST (store_state c.args.self.now) (omega (arith, g.E.Entry.wide)) c.requires.may in
    let fit : length xs ≡ 1 =
    ap (λ (j : ℕ). length (take 1 (drop j c.args.self.now.cells.now))) c.take_group-at.ensures.group
    ∙ new_fits g.E.Entry.LONGEST g.E.Entry.wide g.E.Entry.narrow _ _ _ _ _ (known g.E.Entry.LONGEST _ _ _ _ _ c.args.self.now.sound) 1 1 (omega arith) (omega (arith, g.E.Entry.wide)) refl had in
    record {
      slot = omega (arith, ap length (held_live (store_state c.args.self.now) (store_state c.take_group-at.new.self) 1 c.take_group-at.result xs c.take_group-at.ensures.group c.take_group-at.ensures.after));
    }

pub returns : goal.returns
returns g c =
    let xs = take 1 (drop c.take_group-at.result c.args.self.now.cells.now) in
    let had = open_may g.E.Entry.LONGEST (store_state c.args.self.now) (omega (arith, g.E.Entry.wide)) c.requires.may in
    let fit : length xs ≡ 1 =
    ap (λ (j : ℕ). length (take 1 (drop j c.args.self.now.cells.now))) c.take_group-at.ensures.group
    ∙ new_fits g.E.Entry.LONGEST g.E.Entry.wide g.E.Entry.narrow _ _ _ _ _ (known g.E.Entry.LONGEST _ _ _ _ _ c.args.self.now.sound) 1 1 (omega arith) (omega (arith, g.E.Entry.wide)) refl had in
    record {
      after = opened_all (store_state c.args.self.now) (store_state c.take_group-at.new.self) (store_state c.replace.new.self) c.take_group-at.result xs c.args.e c.take_group-at.ensures.group fit c.take_group-at.ensures.after c.replace.ensures.after;
      place = c.take_group-at.ensures.group;
    }
