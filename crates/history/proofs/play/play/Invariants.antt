use Rattle.std.proofs.Common.{◌≡◌, ◌≤◌, length, map, take, vec_capacity}
use Rattle.history.specs.Calls.{call_of, told}
use Rattle.history.specs.Plays.{Plays}
use Rattle.history.proofs.play.play.Given as goal

abbrev pub invariant-loop-call : goal.invariant-loop-call
invariant-loop-call g l = record {
  plays : Plays g.N.Runs g.V.Runs l.fn.table.trunk (map call_of (take l.call-index l.calls)) (map told l.answers.items) l.table.trunk;
  many : length l.answers.items ≡ l.call-index;
  room : length l.calls ≤ vec_capacity l.answers;
}
