-- How many nexts a history ends with.
use Rattle.std.specs.Prelude.{ℕ}
use Rattle.history.specs.declared.left.Last.{Last}
use Rattle.history.specs.declared.left.Last.TheVariants.{Stay, Walk, End}

abbrev pub asked : Last → ℕ
asked Stay = 0
asked (Walk m) = m
asked (End m) = m
