use Rattle.std.proofs.Common.{map, sym, ap, ◌∙◌, subst}
use Rattle.table_model.specs.Tree.{walk}
use Rattle.table.specs.Starting.{start_no, told_start, Started}
use Rattle.history_model.specs.Books.{nexts, left}
use Rattle.history.specs.Calls.{call_of}
use Rattle.history.specs.Last.{asked}
use Rattle.history.specs.Plays.{Kept, cells}
use Rattle.history.specs.Whole.{Stands, Leaves, answers_of}
use Rattle.history.proofs.Wholes.{told_of, whole}
use Rattle.history.proofs.history.history.Goals as goal

pub returns : goal.returns
returns g c =
    let n = g.N.Runs in
    let v = g.V.Runs in
    let x = c.args.nodes in
    let y = c.args.values in
    let l = c.args.last in
    let s = told_of (told_start n v) (start_no n v x y) (Started n v x y) c.start.result c.map_err.result c.in_ok-table.table _
    c.map_err.ensures.cases c.map_err.ensures.variant c.in_ok-table.was c.start.ensures.answer in
    let t = c.in_ok-table.table.trunk in
    let u = c.play-answers.new.table.trunk in
    let p = c.play-answers.ensures in
    let rs = answers_of c.play-answers.result.items in
    let w = whole n v _ _ g.N.Runs.Valid g.V.Runs.Valid g.met.N.Runs.lawful g.met.V.Runs.lawful x y (g.met.N.Runs.valid x) (g.met.V.Runs.valid y) s.0 t u s.1.states (map call_of c.args.calls.now) rs p in
    let e = c.go_on-nexts.ensures in
    let o = c.go_on-nexts.result.1 in
    record {
      no_run_was_live = s.0;
      history = w.0;
      led_by_the_calls = subst (Stands n v o) w.1 e.same_states;
      refusals_leave_every_cell = subst (λ z. Kept (cells n v x y) rs z) (sym e.same_cells)
          (subst (λ z. Kept z rs (cells n v u.nodes u.values)) (ap (λ z. cells n v z t.values) s.1.nodes ∙ ap (λ z. cells n v x z) s.1.values) p.kept);
      nexts_are_of_the_walk = e.given_by_the_walk ∙ ap (λ z. nexts (walk 25 z) (asked l)) w.2;
      left_as_asked = subst (λ z. Leaves n v l o (left (walk 25 z) (asked l))) w.2 e.left_as_asked;
    }
