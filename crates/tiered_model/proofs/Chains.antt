-- The chains of freed groups through the ledger.
use Rattle.std.proofs.Common.{◌≡◌, ℕ, zero, suc, ◌-◌, ◌<◌, ◌≤◌, List, [], ◌∷◌, length, get_or, set, sym, refl, ap, subst, le_of_suc-le-suc, arith, get_or-set_other}
use Rattle.runs.specs.Sizes.{one, times}
use Rattle.runs.proofs.Sizes.{one_same}
use Rattle.tiered_model.specs.Ledger.{link_w, chain, Linked}

pub chain_short : (L : List ℕ) (n link : ℕ) → length (chain L n link) ≤ n
unfolding chain
chain_short L zero link = omega arith
chain_short L (suc n) zero = omega arith
chain_short L (suc n) (suc p) = omega (arith, chain_short L n (link_w (get_or L p 0)))

-- what the ledger leads through is what `chain` computes, where it may go far enough
pub chain_is : (L : List ℕ) (n link : ℕ) (ps : List ℕ) → Linked L link ps → length ps ≤ n → chain L n link ≡ ps
unfolding chain
chain_is L zero link [] l h = refl
chain_is L (suc n) link [] l h = simp l
chain_is L zero link (p ∷ ps) l h = absurd (omega arith)
chain_is L (suc n) link (p ∷ ps) l h =
    let e : link ≡ suc p = omega arith in
    simp e (ap (λ (qs : List ℕ). p ∷ qs) (chain_is L n (link_w (get_or L p 0)) ps l.1 (le_of_suc-le-suc h)))

-- a word elsewhere changes no chain
pub linked_set : (L : List ℕ) (p w link : ℕ) (ps : List ℕ) → times p ps ≡ 0 → Linked L link ps → Linked (set L p w) link ps
linked_set L p w link [] t l = l
linked_set L p w link (q ∷ qs) t l =
    let ne : q ≡ p → ⊥ = λ e. omega (arith, one_same p, ap (λ (k : ℕ). one k p) e) in
    let e : get_or (set L p w) q 0 ≡ get_or L q 0 = get_or-set_other L p q w 0 ne in
    (l.0, subst (λ (m : ℕ). Linked (set L p w) m qs) (ap link_w (sym e)) (linked_set L p w (link_w (get_or L q 0)) qs (omega arith) l.1))

-- the group in front of a chain
pub front_of : (L : List ℕ) (link : ℕ) (ps : List ℕ) → Linked L link ps → 0 < link → (qs : List ℕ) × (ps ≡ (link - 1) ∷ qs) × Linked L (link_w (get_or L (link - 1) 0)) qs
front_of L link [] l h = absurd (omega arith)
front_of L link (p ∷ ps) l h =
    let e : p ≡ link - 1 = omega arith in
    (ps, ap (λ (k : ℕ). k ∷ ps) e, subst (λ (k : ℕ). Linked L (link_w (get_or L k 0)) ps) e l.1)

pub link_low : (L : List ℕ) (link b : ℕ) (ps : List ℕ) → Linked L link ps → ((q : ℕ) → 1 ≤ times q ps → q < b) → link ≤ b
link_low L link b [] l h = omega arith
link_low L link b (p ∷ ps) l h = omega (arith, h p (omega (arith, one_same p)))

pub none_linked : (L : List ℕ) (ps : List ℕ) → Linked L 0 ps → ps ≡ []
none_linked L [] l = refl
none_linked L (p ∷ ps) l = absurd (omega arith)
