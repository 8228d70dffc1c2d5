-- The count-to-size table is right at all of its counts, by one test that antt computes.
use Rattle.std.proofs.Common.{◌≡◌, ℕ, ◌<◌, Bool, T, eqb, ltb, List, [], ◌∷◌, get_or, eqb→eq, ltb→lt}
use Rattle.runs.specs.Sizes.{size}
use Rattle.runs.proofs.Table.{at, both, both_left, both_right}

abbrev pub spacing : List ℕ
spacing = 1 ∷ 2 ∷ 4 ∷ 8 ∷ 16 ∷ 24 ∷ []

abbrev pub tiers : List ℕ
tiers = 0 ∷ 0 ∷ 1 ∷ 2 ∷ 2 ∷ 3 ∷ 3 ∷ 3 ∷ 3 ∷ 4 ∷ 4 ∷ 4 ∷ 4 ∷ 4 ∷ 4 ∷ 4 ∷ 4 ∷ 5 ∷ 5 ∷ 5 ∷ 5 ∷ 5 ∷ 5 ∷ 5 ∷ 5 ∷ []

-- the tier that the table has for a count is one of the six, and its capacity is the count's size
right : ℕ → ℕ → ℕ → Bool
right longest n t = both (ltb t 6) (eqb (get_or spacing t 0) (size longest n))

right_parts : (longest n t : ℕ) → T (right longest n t) → (t < 6) × (get_or spacing t 0 ≡ size longest n)
unfolding right
right_parts longest n t h = (ltb→lt t 6 (both_left (ltb t 6) _ h), eqb→eq _ _ (both_right (ltb t 6) _ h))

pub tier_right : (longest n : ℕ) → n < 25 → (get_or tiers n 0 < 6) × (get_or spacing (get_or tiers n 0) 0 ≡ size longest n)
unfolding right
tier_right longest n h = right_parts longest n (get_or tiers n 0) (at (right longest) tiers tt n h)
