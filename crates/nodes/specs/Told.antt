-- What a table's faults tell: the refusal's number, and then the numbers that it carries.
use Rattle.std.specs.Prelude.{[], ◌∷◌}
use Rattle.runs.specs.Refusals.{Refusal, refusal, told}
use Rattle.nodes.specs.declared.fault.PathFault.{PathFault}
use Rattle.nodes.specs.declared.fault.PathFault.TheVariants.{TooLong, Byte}
use Rattle.nodes.specs.declared.fault.Fault.{Fault}
use Rattle.nodes.specs.declared.fault.Fault.TheVariants as fault

-- 2 carries the position of the first byte above 31, from 0
abbrev pub told_path : PathFault → Refusal
told_path TooLong = refusal 1 []
told_path (Byte position) = refusal 2 (position ∷ [])

-- 4 carries the count of child bits followed, 9 and 10 the store's own refusal
abbrev pub told_fault : Fault → Refusal
told_fault (fault.Path f) = told_path f
told_fault fault.BadBit = refusal 3 []
told_fault (fault.NoNode followed) = refusal 4 (followed ∷ [])
told_fault fault.TooDeep = refusal 5 []
told_fault fault.Taken = refusal 6 []
told_fault fault.Missing = refusal 7 []
told_fault fault.NotBare = refusal 8 []
told_fault (fault.Nodes f) = refusal 9 ((told f).number ∷ (told f).carries)
told_fault (fault.Values f) = refusal 10 ((told f).number ∷ (told f).carries)
