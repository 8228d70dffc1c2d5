use Rattle.std.proofs.Common.{◌≡◌, ◌≤◌, length, map, vec_capacity}
use Rattle.table_model.specs.Tree.{walk}
use Rattle.trunk.specs.Meaning.{tree}
use Rattle.walk.specs.Meaning.{to_come}
use Rattle.history_model.specs.Books.{nexts, left}
use Rattle.history.specs.Plays.{next_of}
use Rattle.history.proofs.last.walked.Given as goal

abbrev pub invariant-loop : goal.invariant-loop
invariant-loop g l =
    let w = walk 25 (tree g.N.Runs g.V.Runs l.fn.table.trunk) in
    record {
      trunk : l.walk.trunk ≡ l.fn.table.trunk;
      given : map next_of l.given.items ≡ nexts w l.counter;
      left : to_come g.N.Runs g.V.Runs l.walk ≡ left w l.counter;
      many : length l.given.items ≡ l.counter;
      room : l.count ≤ vec_capacity l.given;
    }
