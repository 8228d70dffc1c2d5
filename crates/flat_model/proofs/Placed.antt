-- Where the groups of a state are.
use Rattle.std.proofs.Common.{◌≡◌, ℕ, ◌+◌, ◌≤◌, true, ◌||◌, leb, ◌⊎◌, List, [], ◌∷◌, length, sym, refl, ap, ◌∙◌, inl, inr, arith}
use Rattle.std.proofs.lemmas.Bool.{cases_order, leb-true}
use Rattle.flat_model.specs.Flat.{State, next, some_free, Begins, Valid}
use Rattle.flat_model.specs.Places.{Group, of_run, of_free, Placed}
use Rattle.flat_model.proofs.Taking.{whole_apart, head_freed}

module _ {E : Type 0} (longest : ℕ) (la : 31 ≤ longest) (lb : longest ≤ 32) (s : State E) (v : Valid longest s) where
  begins : (i : ℕ) → Group s i → Begins longest s.claimed i
  begins i (of_run h) = v.living i h
  begins i (of_free h) = (v.freed i h).0

  begun_apart : (i j : ℕ) → Begins longest s.claimed i → Begins longest s.claimed j → (i ≡ j → ⊥) → (i + longest ≤ j) ⊎ (j + longest ≤ i)
  begun_apart i j p q ne = elim (cases_order i j) [
    | inl e ↦ absurd (ne e)
    | inr o ↦ elim o [ inl l ↦ inl (whole_apart longest la lb i j p.0 q.0 l) | inr l ↦ inr (whole_apart longest la lb j i q.0 p.0 l) ]
  ]

  next_low : (fs : List ℕ) → s.free ≡ fs → (some_free fs || leb (s.claimed + longest) s.cells) ≡ true → next fs s.claimed + longest ≤ s.cells
  next_low [] e t = leb-true (s.claimed + longest) s.cells t
  next_low (f ∷ fs) e t = omega (arith, (head_freed longest la lb s v f fs e).0.1, v.enough)

  next_away : (fs : List ℕ) (j : ℕ) → s.free ≡ fs → 1 ≤ length (s.live j) → (next fs s.claimed + longest ≤ j) ⊎ (j + longest ≤ next fs s.claimed)
  next_away [] j e h = inr (v.living j h).1
  next_away (f ∷ fs) j e h =
      let p = head_freed longest la lb s v f fs e in
      begun_apart f j p.0 (v.living j h) (λ q. omega (arith, ap length (ap s.live (sym q) ∙ p.1)))

  pub placed : Placed longest s
  placed = record {
    room = v.short;
    below = λ i g. (begins i g).1;
    apart = λ i j g k ne. begun_apart i j (begins i g) (begins j k) ne;
    unused = λ i h. (v.freed i h).1;
    next_below = λ t. next_low s.free refl t;
    next_apart = λ j h. next_away s.free j refl h;
  }
