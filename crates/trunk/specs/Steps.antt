-- What the steps inside a table promise to one another; no call's contract leans on these.
use Rattle.std.specs.Prelude.{◌≡◌, Some, None, Option, Result, MatchResult}
use Rattle.runs.specs.Refusals.{Grant}
use Rattle.runs.specs.declared.entry.NodeRow.{NodeRow}
use Rattle.table_model.specs.States.{Place as Placed, top, slot}
use Rattle.nodes.specs.Records.{row_of}
use Rattle.nodes.specs.Told.{told_fault}
use Rattle.nodes.specs.declared.fault.Fault.{Fault}
use Rattle.trunk.specs.declared.spot.Place.{Place}
use Rattle.trunk.specs.declared.spot.Spot.{Spot}

-- the root stands in no run
abbrev pub place_of : Option Place → Placed
place_of None = top
place_of (Some p) = slot p.run.number p.slot.number

-- what is known of a place and its record
abbrev pub At : (Placed → NodeRow → Type 0) → Spot → Type 0
At P s = P (place_of s.place) (row_of s.node)

-- A call is judged before anything is written: it is refused as `why` says, or P holds of the place and the record that it answers.
abbrev pub Judged : Grant → (Placed → NodeRow → Type 0) → Result Spot Fault → Type 0
Judged why P r = MatchResult r (At P) (λ f. why ≡ Some (told_fault f))
