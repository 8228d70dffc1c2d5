-- How many entries the store below has, and has after a call.
use Rattle.std.proofs.Common.{◌≡◌, ℕ, ◌<◌, ◌≤◌, List, Some, None, refl, ap, ◌∙◌, mul-le-mul_right, arith}
use Rattle.runs.specs.Calls.{moved_on}
use Rattle.runs.specs.Lists.{indexes}
use Rattle.runs.specs.Refusals.{Grant}
use Rattle.runs.specs.Runs.{Model, Lawful, total}
use Rattle.quota_model.proofs.Totals.{counted}

-- 32 bits can count one more
pub fits : {E S : Type 0} {m : Model E S} {longest : ℕ} {Valid : S → Type 0} (law : Lawful m longest Valid) (s : S) → Valid s → longest ≤ 32 → total (m.live s) < 4294967295
fits law s v l = omega (arith, (counted law).bounded s v, mul-le-mul_right indexes l)

module _ {E S : Type 0} (live : S → ℕ → List E) (s to t : S) where
  -- after a call that is accepted
  pub accepted : (why : Grant) → why ≡ None → t ≡ moved_on why s to → total (live t) ≡ total (live to)
  accepted why y a = ap (λ x. total (live x)) (a ∙ ap (λ w. moved_on w s to) y)

  -- after a call that changes no number of entries
  pub unchanged : (why : Grant) → (why ≡ None → total (live to) ≡ total (live s)) → t ≡ moved_on why s to → total (live t) ≡ total (live s)
  unchanged None n a = ap (λ x. total (live x)) a ∙ n refl
  unchanged (Some f) n a = ap (λ x. total (live x)) a
