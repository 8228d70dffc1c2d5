use Rattle.std.proofs.Common.{◌≡◌, ℕ, ◌≤◌, length, sym, ap, ◌∙◌, rules, arith}
use lib.ListN.{length-replicate}
use Rattle.runs.specs.Calls.{taken}
use Rattle.runs.specs.Lists.{indexes}
use Rattle.runs.proofs.Known.{taken_low}
use Rattle.flat_model.specs.Flat.{fresh}
use Rattle.flat_model.proofs.Starts.{started}
use Rattle.flat.proofs.flat.Flat.new.Goals as goal

pub invariant_of-result : goal.invariant_of-result
invariant_of-result g c =
    let e = c.take-cells.ensures in
    let low : length c.take-cells.result.0.now ≤ indexes = search (rules, arith, taken_low) in
    let a = started _ g.E.Entry.wide g.E.Entry.narrow c.take-cells.result.0.now c.take-cells.result.1.now _ (ap length e.ledger ∙ length-replicate _ 0 ∙ sym e.cells) low e.ledger in
    record { sound = ∣ a.1 ∣₁ }

pub returns : goal.returns
returns g c =
    let e = c.take-cells.ensures in
    let low : length c.take-cells.result.0.now ≤ indexes = search (rules, arith, taken_low) in
    let a = started _ g.E.Entry.wide g.E.Entry.narrow c.take-cells.result.0.now c.take-cells.result.1.now _ (ap length e.ledger ∙ length-replicate _ 0 ∙ sym e.cells) low e.ledger in
    let all : length c.take-cells.result.0.now ≡ taken (length c.args.cells.now) (length c.args.ledger.now) = search (rules, arith) in
    record { after = a.0 ∙ ap (λ (k : ℕ). fresh k) all }
