use Rattle.std.proofs.Common.{rules, tests, ltb, ◌∙◌, sym, ap, arith}
use Rattle.std.proofs.lemmas.Iterator.{YieldsList-from_slice}
use Rattle.std.proofs.lemmas.Iterator.Search.{position_from_yields_List}
use Rattle.table_model.proofs.Reading.{told_at, bad_at}
use Rattle.nodes.proofs.path.read_path.Goals as goal

pub returns-in-Some : goal.returns-in-Some
returns-in-Some c =
    bad_at c.args.path.now (omega arith)
    ∙ ap told_at (sym (position_from_yields_List (λ b. ltb 31 b) _ _ _ c.position.ensures.ran (YieldsList-from_slice c.args.path.now (cc)) (λ x b q k. search (rules, tests))) ∙ c.in-Some.is)

pub returns-in-None : goal.returns-in-None
returns-in-None c =
    bad_at c.args.path.now (omega arith)
    ∙ ap told_at (sym (position_from_yields_List (λ b. ltb 31 b) _ _ _ c.position.ensures.ran (YieldsList-from_slice c.args.path.now (cc)) (λ x b q k. search (rules, tests))) ∙ c.in-None.is)
