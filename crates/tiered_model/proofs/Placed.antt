-- Where the groups of a state are.
use Rattle.std.proofs.Common.{◌≡◌, ℕ, ◌+◌, ◌≤◌, true, ◌||◌, leb, ◌⊎◌, List, [], ◌∷◌, length, sym, refl, ap, ◌∙◌, inl, inr, arith}
use Rattle.std.proofs.lemmas.Bool.{cases_eq, cases_order, leb-true}
use Rattle.runs.specs.Sizes.{size, times}
use Rattle.tiered_model.specs.Tiered.{State, has_free, first_free}
use Rattle.tiered_model.specs.Groups.{Valid}
use Rattle.tiered_model.specs.Laws.{Group, of_run, of_free, Placed}
use Rattle.runs.proofs.Sizes.{size_room, one_same}
use Rattle.tiered_model.proofs.Taking.{live_inside}

module _ {E : Type 0} (longest : ℕ) (la : 31 ≤ longest) (lb : longest ≤ 32) (s : State E) (v : Valid longest s) where
  pub group_made : (i z : ℕ) → Group longest s i z → (1 ≤ z) × (v.made i ≡ z)
  group_made i z (of_run h e) = let p = live_inside longest s v i la lb h in (omega (arith, p.0, v.living i h, e), v.living i h ∙ e)
  group_made i z (of_free h) = let p = v.freed z i h in (p.0, p.1)

  -- two groups that begin at different cells
  pub made_apart : (i j z w : ℕ) → (1 ≤ z) × (v.made i ≡ z) → (1 ≤ w) × (v.made j ≡ w) → (i ≡ j → ⊥) → (i + z ≤ j) ⊎ (j + w ≤ i)
  made_apart i j z w p q ne = elim (cases_order i j) [
    | inl e ↦ absurd (ne e)
    | inr o ↦ elim o [
      | inl l ↦ inl (omega (arith, p.1, v.apart i j l (omega (arith, p.0, p.1)) (omega (arith, q.0, q.1))))
      | inr l ↦ inr (omega (arith, q.1, v.apart j i l (omega (arith, q.0, q.1)) (omega (arith, p.0, p.1))))
    ]
  ]

  next_low : (y : ℕ) (fs : List ℕ) → s.free y ≡ fs → (has_free fs || leb (s.claimed + y) s.cells) ≡ true → first_free fs s.claimed + y ≤ s.cells
  next_low y [] e t = leb-true (s.claimed + y) s.cells t
  next_low y (f ∷ fs) e t =
      let p = v.freed y f (omega (arith, ap (times f) e, one_same f)) in
      omega (arith, p.1, v.inside f (omega (arith, p.0, p.1)), v.enough)

  next_away : (y : ℕ) (fs : List ℕ) (j : ℕ) → s.free y ≡ fs → 1 ≤ length (s.live j) → (first_free fs s.claimed + y ≤ j) ⊎ (j + size longest (length (s.live j)) ≤ first_free fs s.claimed)
  next_away y [] j e h = inr (let p = live_inside longest s v j la lb h in omega (arith, p.1, v.living j h))
  next_away y (f ∷ fs) j e h =
      let p = v.freed y f (omega (arith, ap (times f) e, one_same f)) in
      made_apart f j y (size longest (length (s.live j))) (p.0, p.1) (group_made j _ (of_run h refl)) (λ q. omega (arith, ap length (ap s.live (sym q) ∙ p.2)))

  pub placed : Placed longest s
  placed = record {
    room = λ i. elim (cases_eq (length (s.live i)) 0) [ inl e ↦ omega arith | inr ne ↦ size_room longest (length (s.live i)) la lb (omega arith) (v.short i) ];
    below = λ i z g. let p = group_made i z g in (p.0, omega (arith, p.1, v.inside i (omega (arith, p.0, p.1))));
    apart = λ i j z w g k ne. made_apart i j z w (group_made i z g) (group_made j w k) ne;
    one_size = λ i z w g k. sym (group_made i z g).1 ∙ (group_made i w k).1;
    free_dead = λ i z h. (v.freed z i h).2;
    next_below = λ y t. next_low y (s.free y) refl t;
    next_apart = λ y j k. next_away y (s.free y) j refl k;
  }
