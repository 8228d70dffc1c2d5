-- A limit as the code holds it: what it means, and all that it holds.
use Rattle.std.specs.Prelude.{◌≡◌, ℕ, cond, [], Some, None, ◌==◌}
use Rattle.runs.specs.Refusals.{Refusal, Grant, refusal}
use Rattle.runs.specs.declared.store.Runs.{Ghosts}
use Rattle.quota_model.specs.Quotas.{State}
use Rattle.quota.specs.declared.quota.Occupied.{Occupied}
use Rattle.quota.specs.declared.quota.Quota.{Quota}

module _ {S E Ix : Type 0} {g : _} {h : _} (b : Ghosts S E Ix) where
  abbrev pub store_state : Quota S E Ix b g h → State b.State
  store_state q = record { limit = q.limit; below = b.state q.below }

  -- what a layer over this layer means
  abbrev pub upper_state : {k : _} → Quota (Quota S E Ix b g h) E Ix k g h → State (State b.State)
  upper_state q = record { limit = q.limit; below = store_state q.below }

  abbrev pub memory_of : Quota S E Ix b g h → b.Memory × ℕ × ℕ
  memory_of q = (b.memory q.below, q.limit, q.used)

  -- the layer that a start makes of a store with no run
  pub record Started (below : S) (limit : ℕ) (q : Quota S E Ix b g h) : Type 0 where
    pub after : store_state q ≡ record { limit = limit; below = b.state below }
    pub holds : memory_of q ≡ (b.memory below, limit, 0)

-- a store handed back: a limit is put over a store with no live run only
abbrev pub told_occupied : {S : Type 0} → Occupied S → Refusal
told_occupied o = refusal 12 []

-- a store with n live runs
abbrev pub no_start : ℕ → Grant
no_start n = cond (n == 0) None (Some (refusal 12 []))
