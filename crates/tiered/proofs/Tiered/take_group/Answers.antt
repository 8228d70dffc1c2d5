use Rattle.tiered_model.proofs.Known.{known}
use Rattle.std.proofs.Common.{◌<◌, length, get_or, refl, arith}
use Rattle.runs.proofs.Sizes.{size_room}
use Rattle.tiered.proofs.Tiered.take_group.Goals as goal
use Rattle.tiered_model.proofs.Changes.{popped, claimed_new, runs_low, front_low, size_low, claims}

pub overflow_add-self-then-head-eq0 : goal.overflow_add-self-then-head-eq0
overflow_add-self-then-head-eq0 g c = omega (arith, runs_low _ g.E.Entry.wide g.E.Entry.narrow _ _ _ _ _ (known g.E.Entry.LONGEST _ _ _ _ _ c.args.self.now.sound))

pub returns-then-head-eq0 : goal.returns-then-head-eq0
returns-then-head-eq0 g c =
    let a = claimed_new _ g.E.Entry.wide g.E.Entry.narrow _ _ _ _ _ (known g.E.Entry.LONGEST _ _ _ _ _ c.args.self.now.sound) c.args.y c.args.n c.requires.long.0 c.requires.long.1 c.requires.sized c.if-head-eq0.true
    (claims _ g.E.Entry.wide g.E.Entry.narrow _ _ _ _ _ (known g.E.Entry.LONGEST _ _ _ _ _ c.args.self.now.sound) c.args.y c.if-head-eq0.true c.requires.has) in
    record { group = a.0; after = a.1; cells = refl }

pub bounds-self-at-2 : goal.bounds-self-at-2
bounds-self-at-2 g c =
    let b : 0 < get_or c.args.self.now.heads c.args.y 0 = omega (arith, c.if-head-eq0.false) in
    let f = front_low _ g.E.Entry.wide g.E.Entry.narrow _ _ _ _ _ (known g.E.Entry.LONGEST _ _ _ _ _ c.args.self.now.sound) c.args.y c.args.n c.requires.long.0 c.requires.long.1 c.requires.sized b in
    f.0

pub overflow_cast-before-2 : goal.overflow_cast-before-2
overflow_cast-before-2 g c =
    let b : 0 < get_or c.args.self.now.heads c.args.y 0 = omega (arith, c.if-head-eq0.false) in
    let f = front_low _ g.E.Entry.wide g.E.Entry.narrow _ _ _ _ _ (known g.E.Entry.LONGEST _ _ _ _ _ c.args.self.now.sound) c.args.y c.args.n c.requires.long.0 c.requires.long.1 c.requires.sized b in
    omega (arith, f.1, (known g.E.Entry.LONGEST _ _ _ _ _ c.args.self.now.sound).same, (known g.E.Entry.LONGEST _ _ _ _ _ c.args.self.now.sound).valid.within)

pub bounds-self-at-3 : goal.bounds-self-at-3
bounds-self-at-3 g c =
    let b : 0 < get_or c.args.self.now.heads c.args.y 0 = omega (arith, c.if-head-eq0.false) in
    let f = front_low _ g.E.Entry.wide g.E.Entry.narrow _ _ _ _ _ (known g.E.Entry.LONGEST _ _ _ _ _ c.args.self.now.sound) c.args.y c.args.n c.requires.long.0 c.requires.long.1 c.requires.sized b in
    f.0

pub overflow_add-self-2 : goal.overflow_add-self-2
overflow_add-self-2 g c = omega (arith, runs_low _ g.E.Entry.wide g.E.Entry.narrow _ _ _ _ _ (known g.E.Entry.LONGEST _ _ _ _ _ c.args.self.now.sound))

pub returns : goal.returns
returns g c =
    let b : 0 < get_or c.args.self.now.heads c.args.y 0 = omega (arith, c.if-head-eq0.false) in
    let k : c.args.y < length c.args.self.now.heads = omega (arith, size_low g.E.Entry.LONGEST c.args.n g.E.Entry.wide g.E.Entry.narrow) in
    let a = popped _ g.E.Entry.wide g.E.Entry.narrow _ _ _ _ _ (known g.E.Entry.LONGEST _ _ _ _ _ c.args.self.now.sound) c.args.y c.args.n c.requires.long.0 c.requires.long.1 c.requires.sized b k in
    record { group = a.0; after = a.1; cells = refl }

pub invariant_of-self : goal.invariant_of-self
invariant_of-self g c =
    let a = claimed_new _ g.E.Entry.wide g.E.Entry.narrow _ _ _ _ _ (known g.E.Entry.LONGEST _ _ _ _ _ c.args.self.now.sound) c.args.y c.args.n c.requires.long.0 c.requires.long.1 c.requires.sized c.if-head-eq0.true
    (claims _ g.E.Entry.wide g.E.Entry.narrow _ _ _ _ _ (known g.E.Entry.LONGEST _ _ _ _ _ c.args.self.now.sound) c.args.y c.if-head-eq0.true c.requires.has) in
    record { sound = ∣ a.2 ∣₁ }

pub invariant_of-self-2 : goal.invariant_of-self-2
invariant_of-self-2 g c =
    let b : 0 < get_or c.args.self.now.heads c.args.y 0 = omega (arith, c.if-head-eq0.false) in
    let k : c.args.y < length c.args.self.now.heads = omega (arith, size_low g.E.Entry.LONGEST c.args.n g.E.Entry.wide g.E.Entry.narrow) in
    let a = popped _ g.E.Entry.wide g.E.Entry.narrow _ _ _ _ _ (known g.E.Entry.LONGEST _ _ _ _ _ c.args.self.now.sound) c.args.y c.args.n c.requires.long.0 c.requires.long.1 c.requires.sized b k in
    record { sound = ∣ a.2 ∣₁ }

pub bounds-self-at : goal.bounds-self-at
bounds-self-at g c =
    let s = known g.E.Entry.LONGEST _ _ _ _ _ c.args.self.now.sound in
    omega (arith, s.same, c.requires.sized, size_room g.E.Entry.LONGEST c.args.n g.E.Entry.wide g.E.Entry.narrow c.requires.long.0 c.requires.long.1, claims _ g.E.Entry.wide g.E.Entry.narrow _ _ _ _ _ s c.args.y c.if-head-eq0.true c.requires.has)

pub overflow_add-self : goal.overflow_add-self
overflow_add-self g c =
    let s = known g.E.Entry.LONGEST _ _ _ _ _ c.args.self.now.sound in
    omega (arith, s.valid.within, claims _ g.E.Entry.wide g.E.Entry.narrow _ _ _ _ _ s c.args.y c.if-head-eq0.true c.requires.has)
