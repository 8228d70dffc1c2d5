-- What a call's contract says: its answer, and what it leaves.
use Rattle.std.specs.Prelude.{◌≡◌, ℕ, cond, ◌&&◌, [], Some, None, Result, MatchResult, ◌==◌, nat_le}
use Rattle.runs.specs.Lists.{indexes}
use Rattle.runs.specs.Refusals.{Refusal, refusal, Grant}

-- a result says the grant: accepted, or refused with just that number and what it carries
abbrev pub Says : {X F : Type 0} → (F → Refusal) → Result X F → Grant → Type 0
Says tell r g = MatchResult r (λ _. g ≡ None) (λ f. g ≡ Some (tell f))

-- the same, and what holds of the answer where it is accepted
abbrev pub Tells : {X F : Type 0} → (F → Refusal) → Result X F → Grant → (X → Type 0) → Type 0
Tells tell r g P = MatchResult r (λ x. (g ≡ None) × P x) (λ f. g ≡ Some (tell f))

-- a refusal leaves s, and what is accepted leads to t
abbrev pub moved_on : {S : Type 0} → Grant → S → S → S
moved_on None s t = t
moved_on (Some f) s t = s

-- `memory` is all that a store holds, to the last cell
module _ {Self State Memory : Type 0} (state : Self → State) (memory : Self → Memory) where
  -- a call that is accepted leads to the state `to`; one that is refused leaves the state and the memory
  pub record Called (before : Self) (why : Grant) (to : State) (left : Self) : Type 0 where
    pub after : state left ≡ moved_on why (state before) to
    pub untouched : (f : Refusal) → why ≡ Some f → memory left ≡ memory before

-- cells and a ledger of one word a cell; more cells than there are indexes, or another number of words, is refused 11
abbrev pub no_store : ℕ → ℕ → Grant
no_store cells words = cond (cells == words && nat_le cells indexes) None (Some (refusal 11 []))

-- the cells that a store takes: none where it is refused
abbrev pub taken : ℕ → ℕ → ℕ
taken cells words = cond (cells == words && nat_le cells indexes) cells 0
