use Rattle.std.proofs.Common.{ℕ, ◌≤◌, length, arith}
use Rattle.walk.specs.Coming.{live_values}
use Rattle.walk.proofs.Walks.{room_root, begun, ready_begun}
use Rattle.walk.proofs.Walk.over.Goals as goal

pub push_run-requires : goal.push_run-requires
push_run-requires g c = omega (arith, c.count.ensures, room_root g.N.Runs g.V.Runs c.args.trunk c.requires c.new-stack.result c.new-stack.ensures)

pub invariant_of-result : goal.invariant_of-result
invariant_of-result g c =
    let t = c.args.trunk in
    let short : (i : ℕ) → length (live_values g.N.Runs g.V.Runs t i) ≤ 32 = λ i. omega (arith, g.E.Entry.narrow, g.met.V.Runs.lawful.short (g.V.Runs.state t.values) i (g.met.V.Runs.valid t.values)) in
    record { ready = ∣ ready_begun g.N.Runs g.V.Runs t c.requires c.new-stack.result c.new-stack.ensures c.push_run.new.self (rw c.count.ensures at c.push_run.ensures) short ∣₁ }

pub returns-clause-to_come : goal.returns-clause-to_come
returns-clause-to_come g c = begun g.N.Runs g.V.Runs c.args.trunk c.requires c.new-stack.result c.new-stack.ensures c.push_run.new.self (rw c.count.ensures at c.push_run.ensures)
