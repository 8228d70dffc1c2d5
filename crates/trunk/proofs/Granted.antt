-- What a store has granted it answers, and it goes on to the state that it promised.
use Rattle.std.proofs.Common.{◌≡◌, None, Ok, Err, Result, refl, ap, ◌∙◌, subst}
use Rattle.std.specs.Result.{IsOk}
use Rattle.runs.specs.Calls.{Tells, Called, moved_on}
use Rattle.runs.specs.Refusals.{Refusal, Grant}
use Rattle.runs.proofs.Shifts.{never}

module _ {X F : Type 0} (tell : F → Refusal) (why : Grant) (P : X → Type 0) where
  pub granted_ok : (r : Result X F) → Tells tell r why P → why ≡ None → IsOk r
  granted_ok (Ok x) t y = refl
  granted_ok (Err f) t y = absurd (never why (tell f) y t)

  pub answered : (r : Result X F) (x : X) → r ≡ Ok x → Tells tell r why P → P x
  answered r x e t = (subst (λ (q : Result X F). Tells tell q why P) e t).1

pub accepted : {Self State Memory : Type 0} {state : Self → State} {memory : Self → Memory} {before left : Self} {why : Grant} {to : State} →
    Called state memory before why to left → why ≡ None → state left ≡ to
accepted {state} {before} {to} k y = k.after ∙ ap (λ (g : Grant). moved_on g (state before) to) y
