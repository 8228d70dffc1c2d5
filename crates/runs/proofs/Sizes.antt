-- The size of a run is the least capacity that is at least its length: one test over all lengths, which antt computes.
use Rattle.std.proofs.Common.{◌≡◌, ℕ, zero, suc, ◌<◌, ◌≤◌, Bool, true, ◌&&◌, ◌||◌, leb, refl, ap, ◌∙◌, inl, inr, arith}
use Rattle.std.proofs.lemmas.Bool.{cases_eq, cases_lt, eq-eqb, ne_eqb, and_parts, leb-true, or_cases}
use Rattle.runs.specs.Sizes.{size, capacities, one, times, Least}

pub one_same : (z : ℕ) → one z z ≡ 1
one_same z = rw (eq-eqb z z refl)

pub one_other : (z w : ℕ) → (w ≡ z → ⊥) → one z w ≡ 0
one_other z w h = rw (ne_eqb w z h)

-- ---- the rule of the sizes, by one test over all lengths

unfoldable pub every : (ℕ → Bool) → ℕ → Bool
every p zero = true
every p (suc n) = p n && every p n

pub every_at : (p : ℕ → Bool) (n k : ℕ) → every p n ≡ true → k < n → p k ≡ true
unfolding every
every_at p zero k t h = absurd (omega arith)
every_at p (suc n) k t h = elim (cases_eq k n) [ inl e ↦ ap p e ∙ (and_parts (p n) (every p n) t).0 | inr ne ↦ every_at p n k (and_parts (p n) (every p n) t).1 (omega arith) ]

-- A run of n + 1 entries has room in its group, whose size is one of the seven, and no capacity that is at least n + 1 is below it.
leaves : ℕ → ℕ → ℕ → Bool
leaves longest n c = leb (times c (capacities longest)) 0 || (leb c n || leb (size longest (suc n)) c)

tight : ℕ → ℕ → Bool
tight longest n = leb 1 (times (size longest (suc n)) (capacities longest)) && (leb (suc n) (size longest (suc n)) && every (leaves longest n) 33)

tight_31 : every (tight 31) 31 ≡ true
unfolding every tight leaves
tight_31 = refl

tight_32 : every (tight 32) 32 ≡ true
unfolding every tight leaves
tight_32 = refl

is_tight : (longest n : ℕ) → 31 ≤ longest → longest ≤ 32 → n < longest → tight longest n ≡ true
is_tight longest n a b h = elim (cases_eq longest 31) [
  | inl e ↦ rw e (every_at (tight 31) 31 n tight_31 (omega arith))
  | inr ne ↦ let e : longest ≡ 32 = omega arith in rw e (every_at (tight 32) 32 n tight_32 (omega arith))
]

-- a capacity is at most the last one
pub capacity_low : (longest c : ℕ) → 31 ≤ longest → 1 ≤ times c (capacities longest) → c ≤ longest
capacity_low longest c a h = elim (cases_lt longest c) [
  | inl l ↦ absurd (omega (
    arith,
    one_other 1 c (λ e. omega arith),
    one_other 2 c (λ e. omega arith),
    one_other 4 c (λ e. omega arith),
    one_other 8 c (λ e. omega arith),
    one_other 16 c (λ e. omega arith),
    one_other 24 c (λ e. omega arith),
    one_other longest c (λ e. omega arith),
  ))
  | inr l ↦ l
]

least_of : (longest n c : ℕ) → leaves longest n c ≡ true → 1 ≤ times c (capacities longest) → suc n ≤ c → size longest (suc n) ≤ c
unfolding leaves
least_of longest n c t h l = elim (or_cases (leb (times c (capacities longest)) 0) (leb c n || leb (size longest (suc n)) c) t) [
  | inl e ↦ absurd (omega (arith, leb-true (times c (capacities longest)) 0 e))
  | inr r ↦ elim (or_cases (leb c n) (leb (size longest (suc n)) c) r) [ inl e ↦ absurd (omega (arith, leb-true c n e)) | inr e ↦ leb-true (size longest (suc n)) c e ]
]

pub sizes : (longest n : ℕ) → 31 ≤ longest → longest ≤ 32 → 1 ≤ n → n ≤ longest → Least longest n (size longest n)
unfolding tight
sizes longest zero a b l h = absurd (omega arith)
sizes longest (suc n) a b l h =
    let t = and_parts _ _ (is_tight longest n a b (omega arith)) in
    let u = and_parts _ _ t.1 in
    record {
      capacity = leb-true 1 (times (size longest (suc n)) (capacities longest)) t.0;
      room = leb-true (suc n) (size longest (suc n)) u.0;
      least = λ c k m. least_of longest n c (every_at (leaves longest n) 33 c u.1 (omega (arith, capacity_low longest c a k))) k m;
    }

pub size_room : (longest n : ℕ) → 31 ≤ longest → longest ≤ 32 → 1 ≤ n → n ≤ longest → n ≤ size longest n
size_room longest n a b l h = (sizes longest n a b l h).room
