use Rattle.std.proofs.Common.{length}
use Rattle.runs.proofs.Known.{taken_low}
use Rattle.tiered.specs.Meaning.{store_state}
use Rattle.history.proofs.Rooms.{over, none_counted, has_room, if_ok}
use Rattle.history.proofs.fresh.history_over_fresh.Goals as goal

pub returns-clause-whole : goal.returns-clause-whole
returns-clause-whole g c =
    let e = c.new-nodes.ensures.after in
    let h = c.new-values.ensures.after in
    over _ _ store_state store_state _ _ c.new-nodes.result c.new-values.result _ _ c.history.result c.history.ensures e h (none_counted _ _ e) (none_counted _ _ h)

pub returns-clause-room : goal.returns-clause-room
returns-clause-room g c =
    if_ok _ _ _ c.history.result
    (λ p w. has_room g.E.Entry.LONGEST _ _ g.E.Entry.wide g.E.Entry.narrow (taken_low (length c.args.nodes.cells.now) (length c.args.nodes.ledger.now)) (taken_low (length c.args.values.cells.now) (length c.args.values.ledger.now)) (store_state c.new-nodes.result) (store_state c.new-values.result) c.new-nodes.ensures.after c.new-values.ensures.after _ _ w.history)
    c.history.ensures
