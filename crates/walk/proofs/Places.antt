-- How many places there are.
use Rattle.std.proofs.Common.{◌≡◌, ℕ, zero, suc, ◌≤◌, List, length, take, refl, ap, arith}
use Rattle.std.proofs.lemmas.List.{length-reverse, length-take}
use Rattle.runs.specs.declared.index.NodeIndex.{NodeIndex}
use Rattle.trunk.specs.declared.spot.Place.{Place}
use Rattle.walk.specs.Places.{lasts, run_places}

pub length_run : (a : NodeIndex) (k : ℕ) → length (run_places a k) ≡ k
length_run a zero = refl
length_run a (suc k) = ap suc (length_run a k)

-- a stack is no higher than its top
pub lasts_low : (xs : List Place) (n : ℕ) → length (lasts xs n) ≤ n
lasts_low xs n = omega (arith, length-reverse (take n xs), length-take n xs)
