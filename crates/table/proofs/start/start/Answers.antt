use Rattle.std.proofs.Common.{◌≡◌, sym, refl, ap, ◌∙◌, subst}
use Rattle.runs.specs.Runs.{count}
use Rattle.runs.specs.declared.entry.NodeRow.{NodeRow}
use Rattle.table_model.specs.Table.{Agrees, bare_row}
use Rattle.table_model.specs.States.{tree_in}
use Rattle.table_model.proofs.Starting.{started}
use Rattle.table_model.proofs.Written.{states_are}
use Rattle.table.proofs.start.start.Goals as goal

pub invariant_of-result : goal.invariant_of-result
invariant_of-result g c =
    let n = g.N.Runs in
    let v = g.V.Runs in
    let nodes : count (n.model.live (n.state c.args.nodes)) ≡ 0 = cc in
    let values : count (v.model.live (v.state c.args.values)) ≡ 0 = cc in
    let o = started n.model v.model _ _ _ _ g.met.N.Runs.lawful g.met.V.Runs.lawful (n.state c.args.nodes) (v.state c.args.values) (g.met.N.Runs.valid c.args.nodes) (g.met.V.Runs.valid c.args.values)
    nodes values in
    record { sound = ∣ subst (λ (r : NodeRow). Agrees (n.model.live (n.state c.args.nodes)) (v.model.live (v.state c.args.values)) r) (sym c.bare.ensures) o.0.agrees ∣₁ }

pub returns : goal.returns
returns g c =
    let n = g.N.Runs in
    let v = g.V.Runs in
    let nodes : count (n.model.live (n.state c.args.nodes)) ≡ 0 = cc in
    let values : count (v.model.live (v.state c.args.values)) ≡ 0 = cc in
    let o = started n.model v.model _ _ _ _ g.met.N.Runs.lawful g.met.V.Runs.lawful (n.state c.args.nodes) (v.state c.args.values) (g.met.N.Runs.valid c.args.nodes) (g.met.V.Runs.valid c.args.values) nodes values in
    let here = states_are {N = n.State} {S = v.State} (n.state c.args.nodes) (n.state c.args.nodes) (v.state c.args.values) (v.state c.args.values) _ bare_row refl refl c.bare.ensures in
    record {
      answer = (
        rw (nodes, values) refl,
        record {
          sound = ∣ subst (λ (r : NodeRow). Agrees (n.model.live (n.state c.args.nodes)) (v.model.live (v.state c.args.values)) r) (sym c.bare.ensures) o.0.agrees ∣₁;
          states = here;
          tree = ap (tree_in n.model v.model) here ∙ o.1;
          nodes = refl;
          values = refl;
        },
      );
      back = tt;
    }
