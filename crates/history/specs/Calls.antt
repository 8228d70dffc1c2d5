-- What the calls and the answers of a program mean in a history, and what one call promises.
use Rattle.std.specs.Prelude.{◌≡◌, Ok, Err, Some, Result}
use Rattle.runs.specs.Refusals.{Refusal}
use Rattle.runs.specs.declared.entry.NodeRow.{NodeRow}
use Rattle.runs.specs.declared.store.Runs.{Ghosts}
use Rattle.nodes.specs.Told.{told_fault}
use Rattle.nodes.specs.declared.fault.Fault.{Fault}
use Rattle.trunk.specs.declared.Trunk.{Trunk}
use Rattle.trunk.specs.Meaning.{states, Untouched}
use Rattle.history_model.specs.Calls.{Call as Pure, get, put, swap, take, add, plant, drop, show, Out, nothing, value, node, Answer as Told, done, refused, stepped, answer, refuses}
use Rattle.history.specs.declared.call.Call.{Call}
use Rattle.history.specs.declared.call.Call.TheVariants.{Get, Put, Swap, Take, Add, Plant, Drop, Show}
use Rattle.history.specs.declared.call.Answer.{Answer}
use Rattle.history.specs.declared.call.Answer.TheVariants.{Done, Value, Node}

module _ {E : Type 0} where
  abbrev pub call_of : Call E → Pure E
  call_of (Get p b) = get p.now b.number
  call_of (Put p b v) = put p.now b.number v
  call_of (Swap p b v) = swap p.now b.number v
  call_of (Take p b) = take p.now b.number
  call_of (Add p b) = add p.now b.number
  call_of (Plant p b v) = plant p.now b.number v
  call_of (Drop p b) = drop p.now b.number
  call_of (Show p) = show p.now

  abbrev pub out_of : Answer E → Out E
  out_of Done = nothing
  out_of (Value v) = value v
  out_of (Node r) = node r

  abbrev pub told : Result (Answer E) Fault → Told E
  told (Ok a) = done (out_of a)
  told (Err f) = refused (told_fault f)

module _ {E In Ix N V : Type 0} (n : Ghosts N NodeRow In) (v : Ghosts V E Ix) where
  -- one call: its answer, the states that it leads to, and that a refusal leaves every cell
  pub record Steps (t : Trunk N V) (c : Call E) (r : Result (Answer E) Fault) (after : Trunk N V) : Type 0 where
    pub answered : told r ≡ answer n.model v.model (states n v t) (call_of c)
    pub led : states n v after ≡ stepped n.model v.model (states n v t) (call_of c)
    pub untouched : (f : Refusal) → refuses n.model v.model (states n v t) (call_of c) ≡ Some f → Untouched n v t after
