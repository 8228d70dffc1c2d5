use Rattle.std.proofs.Common.{ℕ, List, replicate, get_or, length, sym, ap, ◌∙◌, arith}
use Rattle.std.proofs.lemmas.List.{get_or-replicate}
use lib.ListN.{length-replicate}
use Rattle.runs.specs.Calls.{taken}
use Rattle.runs.proofs.Known.{taken_low}
use Rattle.tiered.proofs.Tiered.new.Goals as goal
use Rattle.tiered_model.specs.Tiered.{fresh}
use Rattle.tiered_model.proofs.Starts.{started, zeros}

pub invariant_of-result : goal.invariant_of-result
invariant_of-result g c =
    let n = length c.args.cells.now in
    let m = length c.args.ledger.now in
    let e = c.take-cells.ensures in
    let a = started g.E.Entry.LONGEST c.take-cells.result.0.now c.take-cells.result.1.now (replicate 33 0) (ap length e.ledger ∙ length-replicate _ 0 ∙ sym e.cells) (omega (arith, e.cells, taken_low n m))
    (λ (k : ℕ) h. ap (λ (xs : List ℕ). get_or xs k 0) e.ledger ∙ get_or-replicate _ k 0 0 (omega (arith, ap length e.ledger, length-replicate {A = ℕ} (taken n m) 0))) (zeros (replicate 33 0) tt) in
    record { sound = ∣ a.1 ∣₁ }

pub returns : goal.returns
returns g c =
    let n = length c.args.cells.now in
    let m = length c.args.ledger.now in
    let e = c.take-cells.ensures in
    let a = started g.E.Entry.LONGEST c.take-cells.result.0.now c.take-cells.result.1.now (replicate 33 0) (ap length e.ledger ∙ length-replicate _ 0 ∙ sym e.cells) (omega (arith, e.cells, taken_low n m))
    (λ (k : ℕ) h. ap (λ (xs : List ℕ). get_or xs k 0) e.ledger ∙ get_or-replicate _ k 0 0 (omega (arith, ap length e.ledger, length-replicate {A = ℕ} (taken n m) 0))) (zeros (replicate 33 0) tt) in
    record { after = a.0 ∙ ap (λ (k : ℕ). fresh k) e.cells }
