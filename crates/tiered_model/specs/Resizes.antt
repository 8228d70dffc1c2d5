-- A run that goes to another length, and with it perhaps to another group.
use Rattle.std.specs.Prelude.{◌≡◌, ℕ, ◌≤◌, length, take}
use Rattle.runs.specs.Sizes.{size}
use Rattle.tiered_model.specs.Tiered.{State, size_at, moved_to, put}

-- T is S with the run at i, of m entries now, at j; as many of its first entries as it had and has are as they were
pub record Resized {E : Type 0} (longest : ℕ) (S : State E) (i m j : ℕ) (T : State E) : Type 0 where
  pub place : j ≡ moved_to S i (size_at longest S i) (size longest m)
  pub long : length (T.live j) ≡ m
  pub after : T ≡ put longest S i (T.live j)
  pub first : (k : ℕ) → k ≤ length (S.live i) → k ≤ m → take k (T.live j) ≡ take k (S.live i)
