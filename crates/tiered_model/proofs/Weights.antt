-- Sums over the sizes.
use Rattle.std.proofs.Common.{◌≡◌, ℕ, zero, suc, ◌+◌, ◌*◌, ◌<◌, ◌≤◌, Bool, true, eqb, List, [], ◌∷◌, refl, ap, inl, inr, mul-zero, mul-add, arith}
use Rattle.std.proofs.lemmas.Bool.{cases_eq, eqb-true}
use Rattle.runs.specs.Sizes.{size, capacities, one}
use Rattle.runs.proofs.Sizes.{every, every_at}
use Rattle.tiered_model.specs.Groups.{weigh}

pub weigh_same : (cs : List ℕ) (f h : ℕ → ℕ) → ((w : ℕ) → h w ≡ f w) → weigh cs h ≡ weigh cs f
unfolding weigh
weigh_same [] f h e = refl
weigh_same (c ∷ cs) f h e = omega (arith, ap (λ (k : ℕ). c * k) (e c), weigh_same cs f h e)

pub weigh_plus : (cs : List ℕ) (f g h : ℕ → ℕ) → ((w : ℕ) → h w ≡ f w + g w) → weigh cs h ≡ weigh cs f + weigh cs g
unfolding weigh
weigh_plus [] f g h e = refl
weigh_plus (c ∷ cs) f g h e = omega (arith, ap (λ (k : ℕ). c * k) (e c), mul-add c (f c) (g c), weigh_plus cs f g h e)

pub weigh_none : (cs : List ℕ) (f : ℕ → ℕ) → ((w : ℕ) → f w ≡ 0) → weigh cs f ≡ 0
unfolding weigh
weigh_none [] f e = refl
weigh_none (c ∷ cs) f e = omega (arith, ap (λ (k : ℕ). c * k) (e c), mul-zero c, weigh_none cs f e)

-- one group of a size weighs its size, by one test over all lengths
weighs : ℕ → ℕ → Bool
weighs longest n = eqb (weigh (capacities longest) (one (size longest (suc n)))) (size longest (suc n))

weighs_31 : every (weighs 31) 31 ≡ true
unfolding every weighs weigh
weighs_31 = refl

weighs_32 : every (weighs 32) 32 ≡ true
unfolding every weighs weigh
weighs_32 = refl

it_weighs : (longest n : ℕ) → 31 ≤ longest → longest ≤ 32 → n < longest → weighs longest n ≡ true
it_weighs longest n a b h = elim (cases_eq longest 31) [
  | inl e ↦ rw e (every_at (weighs 31) 31 n weighs_31 (omega arith))
  | inr ne ↦ let e : longest ≡ 32 = omega arith in rw e (every_at (weighs 32) 32 n weighs_32 (omega arith))
]

pub size_weigh : (longest n : ℕ) → 31 ≤ longest → longest ≤ 32 → 1 ≤ n → n ≤ longest → weigh (capacities longest) (one (size longest n)) ≡ size longest n
unfolding weighs
size_weigh longest zero a b l h = absurd (omega arith)
size_weigh longest (suc n) a b l h = eqb-true _ (size longest (suc n)) (it_weighs longest n a b (omega arith))
