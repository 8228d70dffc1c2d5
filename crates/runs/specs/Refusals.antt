-- What a refusal tells: its number, and then the numbers that it carries.
use Rattle.std.specs.Prelude.{ℕ, List, [], ◌∷◌, Option}
use Rattle.runs.specs.declared.fault.StoreFault.{StoreFault}
use Rattle.runs.specs.declared.fault.StoreFault.TheVariants.{NotLive, BadSlot, AtLongest, NoGroup, LimitReached}
use Rattle.runs.specs.declared.fault.LentFault.{LentFault}
use Rattle.runs.specs.declared.fault.LentFault.TheVariants.{Lengths}

pub record Refusal : Type 0 where
  pub number : ℕ
  pub carries : List ℕ

abbrev pub refusal : ℕ → List ℕ → Refusal
refusal n xs = record { number = n; carries = xs }

-- an answer: none is yes
abbrev pub Grant : Type 0
Grant = Option Refusal

-- a store's refusals: 23 and 24 carry the layers crossed
abbrev pub told : StoreFault → Refusal
told NotLive = refusal 20 []
told BadSlot = refusal 21 []
told AtLongest = refusal 22 []
told (NoGroup layers) = refusal 23 (layers ∷ [])
told (LimitReached layers) = refusal 24 (layers ∷ [])

-- memory that no store is made of
abbrev pub told_lent : LentFault → Refusal
told_lent Lengths = refusal 11 []
