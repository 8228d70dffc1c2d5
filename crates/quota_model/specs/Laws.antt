-- What is proved of a limit besides that it is a run store again.
use Rattle.std.specs.Prelude.{◌≡◌, ℕ, ◌+◌, ◌*◌, ◌<◌, ◌≤◌, List, [], ◌∷◌, None}
use Rattle.runs.specs.Lists.{indexes}
use Rattle.runs.specs.Refusals.{refusal}
use Rattle.runs.specs.Runs.{Model, total, grows, no_entry, no_insert, no_remove}
use Rattle.quota_model.specs.Quotas.{up}

-- A refusal that carries layers counts one more on its way up and stops at the top; the others pass unchanged.
pub record Crossing : Type 0 where
  pub counts : (number n : ℕ) → 22 < number → number < 25 → n < 4294967295 → up (refusal number (n ∷ [])) ≡ refusal number ((n + 1) ∷ [])
  pub stops : (number : ℕ) → 22 < number → number < 25 → up (refusal number (4294967295 ∷ [])) ≡ refusal number (4294967295 ∷ [])
  pub others : (number : ℕ) (xs : List ℕ) → number < 23 → up (refusal number xs) ≡ refusal number xs

-- The entries of all runs: how their number changes by each call that is accepted, and that it fits 32 bits.
pub record Counted {E State : Type 0} (m : Model E State) (longest : ℕ) (Valid : State → Type 0) : Type 0 where
  pub exchanging : (s : State) (i k : ℕ) (e : E) → Valid s → no_entry m s i k ≡ None → total (m.live (m.exchanged s i k e)) ≡ total (m.live s)
  pub opening : (s : State) (e : E) → Valid s → grows m s 0 ≡ None → total (m.live (m.opened s e)) ≡ total (m.live s) + 1
  pub inserting : (s : State) (i k : ℕ) (e : E) → Valid s → no_insert m s i k ≡ None → total (m.live (m.inserted s i k e)) ≡ total (m.live s) + 1
  pub removing : (s : State) (i k : ℕ) → Valid s → no_remove m s i k ≡ None → total (m.live (m.removed s i k)) + 1 ≡ total (m.live s)
  pub bounded : (s : State) → Valid s → total (m.live s) ≤ longest * indexes
