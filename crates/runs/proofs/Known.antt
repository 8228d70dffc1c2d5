-- Facts that are known only to hold: an order or an equation of numbers is then at hand, and so is that a list is empty.
use Rattle.std.proofs.Common.{◌≡◌, ℕ, suc, ◌≤◌, Bool, true, false, cond, eqb, leb, ◌&&◌, sym, List, [], ◌∷◌, length, refl, ap, arith}
use Rattle.std.proofs.Math.Logic.{∥∥₁_elim}
use Rattle.std.proofs.Math.Nat.{ℕ_set}
use Rattle.std.specs.Coded.{le_prop}
use Rattle.std.proofs.lemmas.Bool.{and_parts, leb-true}
use Rattle.runs.specs.Calls.{taken}

-- P is known to hold, and an order follows from it
pub le_known : {P : Type 0} {m n : ℕ} → ∥ P ∥₁ → (P → m ≤ n) → m ≤ n
le_known t f = ∥∥₁_elim t le_prop f

-- and an equation
pub eq_known : {P : Type 0} {m n : ℕ} → ∥ P ∥₁ → (P → m ≡ n) → m ≡ n
eq_known t f = ∥∥₁_elim t (ℕ_set _ _) f

-- and that a list is empty
pub nil_known : {P X : Type 0} (xs : List X) → ∥ P ∥₁ → (P → xs ≡ []) → xs ≡ []
nil_known [] t f = refl
nil_known (x ∷ xs) t f = let e : suc (length xs) ≡ 0 = eq_known t (λ p. ap length (f p)) in absurd (omega arith)

-- a store takes no more cells than there are indexes
taken_by : (cells words : ℕ) (b : Bool) → b ≡ eqb cells words && leb cells 16777216 → cond b cells 0 ≤ 16777216
taken_by cells words true e = leb-true cells 16777216 (and_parts (eqb cells words) (leb cells 16777216) (sym e)).1
taken_by cells words false e = omega arith

pub taken_low : (cells words : ℕ) → taken cells words ≤ 16777216
taken_low cells words = taken_by cells words (eqb cells words && leb cells 16777216) refl
