-- An answer is yes exactly where the sum of the groups, as the call would leave it, is at most the cells lent.
use Rattle.std.proofs.Common.{◌≡◌, ℕ, ◌+◌, ◌-◌, ◌≤◌, max, Bool, true, false, cond, ◌||◌, eqb, leb, List, [], ◌∷◌, length, Some, None, sym, refl, ap, ◌∙◌, inl, inr, arith}
use Rattle.std.proofs.lemmas.Bool.{cases_eq, eqb-true, eqb-false, cond-true, cond-false, ne_eqb, lt-leb, le-leb, leb-true}
use Rattle.runs.specs.Refusals.{Grant, refusal}
use Rattle.runs.specs.Runs.{grows, shrinks}
use Rattle.runs.specs.Sizes.{size, capacities, one}
use Rattle.tiered_model.specs.Tiered.{State, tiered, has_free, can, change}
use Rattle.tiered_model.specs.Groups.{weigh, standing, groups, cells_of, Valid}
use Rattle.tiered_model.specs.Laws.{Iff, Counted}
use Rattle.runs.proofs.Sizes.{one_same, one_other}
use Rattle.tiered_model.proofs.Weights.{weigh_same, weigh_plus, size_weigh}
use Rattle.tiered_model.proofs.Asking.{none_else, grows_is, shrinks_is}

answer_at : {Q : Type 0} (a b : Grant) → a ≡ b → Iff (b ≡ None) Q → Iff (a ≡ None) Q
answer_at a b e p = (λ q. p.0 (sym e ∙ q), λ q. e ∙ p.1 q)

module _ {E : Type 0} (longest : ℕ) (la : 31 ≤ longest) (lb : longest ≤ 32) (s : State E) (v : Valid longest s) where
  -- runs that are no more than the groups there are leave the sum as it is
  sum_same : (f : ℕ → ℕ) → ((w : ℕ) → f w ≤ groups longest s w) → cells_of longest (λ w. max (groups longest s w) (f w)) ≡ s.claimed
  sum_same f h = weigh_same (capacities longest) (groups longest s) (λ w. max (groups longest s w) (f w)) (λ w. omega (arith, h w)) ∙ sym v.tiles

  module _ (n y : ℕ) (l : 1 ≤ n) (h : n ≤ longest) (e : size longest n ≡ y) (f : ℕ → ℕ) (up : (w : ℕ) → f w ≤ standing longest s w + one y w) (here : f y ≡ standing longest s y + 1) where
    sum_more : s.free y ≡ [] → cells_of longest (λ w. max (groups longest s w) (f w)) ≡ s.claimed + y
    sum_more q =
        let each : (w : ℕ) → max (groups longest s w) (f w) ≡ groups longest s w + one y w = λ w. elim (cases_eq w y) [
          | inl r ↦ omega (arith, ap length (ap s.free r ∙ q), ap f r, ap (standing longest s) r, here, one_same y, ap (one y) r)
          | inr r ↦ omega (arith, up w, one_other y w r)
        ] in
        omega (arith, weigh_plus (capacities longest) (groups longest s) (one y) (λ w. max (groups longest s w) (f w)) each, v.tiles, size_weigh longest n la lb l h, ap (λ (k : ℕ). weigh (capacities longest) (one k)) e)

    pub can_sum : (fs : List ℕ) → s.free y ≡ fs → Iff (cond (has_free fs || leb (s.claimed + y) s.cells) None (Some (refusal 23 (0 ∷ []))) ≡ None) (cells_of longest (λ w. max (groups longest s w) (f w)) ≤ s.cells)
    can_sum [] q = (
      λ a. omega (arith, sum_more q, leb-true (s.claimed + y) s.cells (none_else _ (refusal 23 (0 ∷ [])) None a).0),
      λ a. cond-true (leb (s.claimed + y) s.cells) None (Some (refusal 23 (0 ∷ []))) (le-leb (s.claimed + y) s.cells (omega (arith, sum_more q))),
    )
    can_sum (k ∷ fs) q =
        let same : cells_of longest (λ w. max (groups longest s w) (f w)) ≡ s.claimed = sum_same f (λ w. elim (cases_eq w y) [
          | inl r ↦ omega (arith, up w, ap length (ap s.free r ∙ q), one_same y, ap (one y) r)
          | inr r ↦ omega (arith, up w, one_other y w r)
        ]) in
        (λ a. omega (arith, same, v.enough), λ a. refl)

  module _ (n y z : ℕ) (l : 1 ≤ n) (h : n ≤ longest) (e : size longest n ≡ y) (f : ℕ → ℕ) (goes : (w : ℕ) → f w + one z w ≡ standing longest s w + one y w) where
    change_by : (b : Bool) → eqb z y ≡ b → Iff (cond b None (can s y) ≡ None) (cells_of longest (λ w. max (groups longest s w) (f w)) ≤ s.cells)
    change_by true q = (λ a. omega (arith, sum_same f (λ w. omega (arith, goes w, ap (λ (k : ℕ). one k w) (eqb-true z y q))), v.enough), λ a. refl)
    change_by false q = can_sum n y l h e f (λ w. omega (arith, goes w)) (omega (arith, goes y, one_same y, one_other z y (λ r. eqb-false z y q (sym r)))) (s.free y) refl

    pub change_sum : Iff (change s z y ≡ None) (cells_of longest (λ w. max (groups longest s w) (f w)) ≤ s.cells)
    change_sum = change_by (eqb z y) refl

pub counted : {E : Type 0} (longest : ℕ) → 31 ≤ longest → longest ≤ 32 → Counted E longest
counted longest la lb = record {
  opening = λ s after v up. answer_at (grows (tiered longest) s 0) (can s 1) (grows_is longest s 0 (omega arith))
      (can_sum longest la lb s v 1 1 (omega arith) (omega arith) refl after (λ w. omega (arith, up w)) (omega (arith, up 1, one_same 1)) (s.free 1) refl);
  growing = λ s n after v l h goes. answer_at (grows (tiered longest) s n) (change s (size longest n) (size longest (n + 1)))
      (grows_is longest s n h ∙ cond-false (eqb n 0) _ _ (ne_eqb n 0 (λ q. omega arith)))
      (change_sum longest la lb s v (n + 1) (size longest (n + 1)) (size longest n) (omega arith) (omega arith) refl after goes);
  shrinking = λ s n after v l h goes. answer_at (shrinks (tiered longest) s (n + 1)) (change s (size longest (n + 1)) (size longest n))
      (let m : n + 1 - 1 ≡ n = omega arith in
      shrinks_is longest s (n + 1) (omega arith) (omega arith) ∙ cond-false (leb (n + 1) 1) _ _ (lt-leb (n + 1) 1 (omega arith)) ∙ ap (λ (k : ℕ). change s (size longest (n + 1)) (size longest k)) m)
      (change_sum longest la lb s v n (size longest n) (size longest (n + 1)) l (omega arith) refl after goes);
  ending = λ s after v goes. (
    λ a. omega (arith, sum_same longest la lb s v after (λ w. omega (arith, goes w)), v.enough),
    λ a. shrinks_is longest s 1 (omega arith) (omega arith),
  );
}
