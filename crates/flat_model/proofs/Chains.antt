-- The chain of freed groups through the ledger.
use Rattle.std.proofs.Common.{◌≡◌, ℕ, zero, suc, ◌-◌, ◌<◌, ◌≤◌, List, [], ◌∷◌, length, get_or, set, sym, refl, ap, subst, le_of_suc-le-suc, arith, get_or-set_other}
use Rattle.runs.specs.Lists.{at}
use Rattle.runs.specs.Runs.{tally, one_run}
use Rattle.runs.specs.Sizes.{one, times}
use Rattle.runs.proofs.Counts.{put_both, tally_put, tally_none}
use Rattle.runs.proofs.Sizes.{one_same}
use Rattle.flat_model.specs.Ledger.{link_w, chain, Linked}

-- what the ledger leads through is what `chain` computes, where it may go far enough
pub chain_is : (L : List ℕ) (n link : ℕ) (ps : List ℕ) → Linked L link ps → length ps ≤ n → chain L n link ≡ ps
unfolding chain
chain_is L zero link [] l h = refl
chain_is L (suc n) link [] l h = simp l
chain_is L zero link (p ∷ ps) l h = absurd (omega arith)
chain_is L (suc n) link (p ∷ ps) l h =
    let e : link ≡ suc p = omega arith in
    simp e (ap (λ (qs : List ℕ). p ∷ qs) (chain_is L n (link_w (get_or L p 0)) ps l.1 (le_of_suc-le-suc h)))

-- a word elsewhere changes no chain
pub linked_set : (L : List ℕ) (p w link : ℕ) (ps : List ℕ) → times p ps ≡ 0 → Linked L link ps → Linked (set L p w) link ps
linked_set L p w link [] t l = l
linked_set L p w link (q ∷ qs) t l =
    let ne : q ≡ p → ⊥ = λ e. omega (arith, one_same p, ap (λ (k : ℕ). one k p) e) in
    let e : get_or (set L p w) q 0 ≡ get_or L q 0 = get_or-set_other L p q w 0 ne in
    (l.0, subst (λ (m : ℕ). Linked (set L p w) m qs) (ap link_w (sym e)) (linked_set L p w (link_w (get_or L q 0)) qs (omega arith) l.1))

-- the group in front of a chain
pub front_of : (L : List ℕ) (link : ℕ) (ps : List ℕ) → Linked L link ps → 0 < link → (qs : List ℕ) × (ps ≡ (link - 1) ∷ qs) × Linked L (link_w (get_or L (link - 1) 0)) qs
front_of L link [] l h = absurd (omega arith)
front_of L link (p ∷ ps) l h =
    let e : p ≡ link - 1 = omega arith in
    (ps, ap (λ (k : ℕ). k ∷ ps) e, subst (λ (k : ℕ). Linked L (link_w (get_or L k 0)) ps) e l.1)

pub link_low : (L : List ℕ) (link b : ℕ) (ps : List ℕ) → Linked L link ps → ((q : ℕ) → 1 ≤ times q ps → q < b) → link ≤ b
link_low L link b [] l h = omega arith
link_low L link b (p ∷ ps) l h = omega (arith, h p (omega (arith, one_same p)))

pub none_linked : (L ps : List ℕ) → Linked L 0 ps → ps ≡ []
none_linked L [] l = refl
none_linked L (p ∷ ps) l = absurd (omega arith)

-- ---- a list of different numbers below n has at most n of them

one_low : {E : Type 0} (xs : List E) → one_run xs ≤ 1
one_low [] = omega arith
one_low (x ∷ xs) = omega arith

pub tally_low : {E : Type 0} (f : ℕ → List E) (n : ℕ) → tally one_run f n ≤ n
unfolding tally
tally_low f zero = omega arith
tally_low f (suc n) = omega (arith, tally_low f n, one_low (f n))

-- a run at each number of the list
marked : List ℕ → ℕ → List ℕ
marked [] = λ _. []
marked (x ∷ xs) = at (marked xs) x (x ∷ [])

marked_none : (is : List ℕ) (i : ℕ) → times i is ≡ 0 → marked is i ≡ []
unfolding marked
marked_none [] i t = refl
marked_none (x ∷ xs) i t = put_both (marked xs) x (x ∷ []) i (λ y. y ≡ []) (λ q. absurd (omega (arith, one_same x, ap (one x) q))) (λ q. marked_none xs i (omega arith))

marked_length : (is : List ℕ) (n : ℕ) → ((i : ℕ) → times i is ≤ 1) → ((i : ℕ) → 1 ≤ times i is → i < n) → length is ≡ tally one_run (marked is) n
unfolding marked
marked_length [] n a b = sym (tally_none {E = ℕ} one_run n refl)
marked_length (x ∷ xs) n a b =
    let none : times x xs ≡ 0 = omega (arith, a x, one_same x) in
    let l : length xs ≡ tally one_run (marked xs) n = marked_length xs n (λ i. omega (arith, a i)) (λ i h. b i (omega arith)) in
    omega (arith, l, tally_put one_run (marked xs) x (x ∷ []) n (b x (omega (arith, one_same x))), ap one_run (marked_none xs x none))

pub once_short : (is : List ℕ) (n : ℕ) → ((i : ℕ) → times i is ≤ 1) → ((i : ℕ) → 1 ≤ times i is → i < n) → length is ≤ n
once_short is n a b = omega (arith, marked_length is n a b, tally_low (marked is) n)
