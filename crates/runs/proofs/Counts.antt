-- Maps changed at one place, and sums over runs, each proved at any bound.
use Rattle.std.proofs.Common.{◌≡◌, ℕ, zero, suc, ◌+◌, ◌<◌, ◌≤◌, cond, eqb, ◌⊎◌, List, [], refl, ap, ◌∙◌, inl, inr, arith}
use Rattle.std.proofs.lemmas.Bool.{cond_both, cases_eq, eqb-true, eqb-false, eq-eqb, ne_eqb}
use Rattle.runs.specs.Lists.{at}
use Rattle.runs.specs.Runs.{tally}

-- a map changed at one place, at any place
pub put_both : {X : Type 0} (m : ℕ → X) (i : ℕ) (x : X) (j : ℕ) (P : X → Type 0) → (j ≡ i → P x) → ((j ≡ i → ⊥) → P (m j)) → P (cond (eqb j i) x (m j))
put_both m i x j P a b = cond_both (eqb j i) x (m j) P (λ e. a (eqb-true j i e)) (λ e. b (eqb-false j i e))

pub put_same : {X : Type 0} (m : ℕ → X) (i : ℕ) (x : X) → cond (eqb i i) x (m i) ≡ x
put_same m i x = rw (eq-eqb i i refl)

pub put_other : {X : Type 0} (m : ℕ → X) (i j : ℕ) (x : X) → (j ≡ i → ⊥) → cond (eqb j i) x (m j) ≡ m j
put_other m i j x h = rw (ne_eqb j i h)

-- ---- the sum over runs

tally_above : {E : Type 0} (g : List E → ℕ) (f : ℕ → List E) (i : ℕ) (xs : List E) (n : ℕ) → n ≤ i → tally g (at f i xs) n ≡ tally g f n
unfolding tally
tally_above g f i xs zero h = refl
tally_above g f i xs (suc n) h =
    let a : tally g (at f i xs) n ≡ tally g f n = tally_above g f i xs n (omega arith) in
    let b : at f i xs n ≡ f n = put_other f i n xs (λ e. omega arith) in
    omega (arith, a, ap g b)

tally_step : {E : Type 0} (g : List E → ℕ) (f : ℕ → List E) (i : ℕ) (xs : List E) (n : ℕ) → (n ≡ i) ⊎ (n ≡ i → ⊥) → i < suc n → (i < n → tally g (at f i xs) n + g (f i) ≡ tally g f n + g xs) → tally g (at f i xs) (suc n) + g (f i) ≡ tally g f (suc n) + g xs
unfolding tally
tally_step g f i xs n (inl e) h b =
    let p : at f i xs n ≡ xs = ap (at f i xs) e ∙ put_same f i xs in
    omega (arith, tally_above g f i xs n (omega arith), ap g p, ap (λ (k : ℕ). g (f k)) e)
tally_step g f i xs n (inr l) h b =
    let p : at f i xs n ≡ f n = put_other f i n xs l in
    omega (arith, b (omega arith), ap g p)

pub tally_put : {E : Type 0} (g : List E → ℕ) (f : ℕ → List E) (i : ℕ) (xs : List E) (n : ℕ) → i < n → tally g (at f i xs) n + g (f i) ≡ tally g f n + g xs
tally_put g f i xs zero h = absurd (omega arith)
tally_put g f i xs (suc n) h = tally_step g f i xs n (cases_eq n i) h (λ l. tally_put g f i xs n l)

pub tally_none : {E : Type 0} (g : List E → ℕ) (n : ℕ) → g [] ≡ 0 → tally g (λ _. []) n ≡ 0
unfolding tally
tally_none g zero h = refl
tally_none g (suc n) h = omega (arith, tally_none g n h)
