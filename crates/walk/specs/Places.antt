-- The places on a walk's stack.
use Rattle.std.specs.Prelude.{ℕ, zero, suc, List, [], ◌∷◌, reverse, take}
use Rattle.runs.specs.declared.index.NodeIndex.{NodeIndex}
use Rattle.trunk.specs.declared.spot.Place.{Place}

-- the first n places, the last in front
abbrev pub lasts : List Place → ℕ → List Place
lasts places n = reverse (take n places)

-- the places of a run of n nodes, by falling slot
abbrev pub run_places : NodeIndex → ℕ → List Place
run_places run zero = []
run_places run (suc n) = record { run = run; slot = record { number = n } } ∷ run_places run n
