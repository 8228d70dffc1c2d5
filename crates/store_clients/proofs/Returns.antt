-- Where the calls of the trip lead, from the last one back to the first.
use Rattle.std.proofs.Common.{◌≡◌, ℕ, ◌<◌, Bool, true, false, ◌&&◌, eqb, ltb, [], ◌∷◌, length, Some, None, refl, sym, ap, ◌∙◌, subst, inl, inr, arith}
use Rattle.std.proofs.lemmas.Bool.{lt-ltb, ne_eqb, cond-true, cond-false}
use Rattle.runs.specs.Calls.{moved_on}
use Rattle.runs.specs.Refusals.{Grant, Refusal}
use Rattle.runs.specs.Runs.{Model, Lawful, grows, no_insert, no_remove}
use Rattle.store_clients.specs.Trips.{yes, taken, opened, opened_at, both, both_at, single, single_at, ends, whole, Removes, Left}
use Rattle.store_clients.specs.Trips.Left.{same, over}
use Rattle.store_clients.proofs.Steps.{Beside, run, ends_run, shortens, lengthens}

module _ {E S : Type 0} {m : Model E S} {longest : ℕ} {Valid : S → Type 0} (law : Lawful m longest Valid) (s : S) (v : Valid s) (first second : E) where
  -- what the trip may leave
  pub record Ending (t : S) (w : Bool) : Type 0 where
    pub back : w ≡ true → m.live t ≡ m.live s
    pub left : Left (m.live s) first second (m.live t)
    pub removes : Removes m longest Valid → m.live t ≡ m.live s

  home : (t : S) (w : Bool) → m.live t ≡ m.live s → Ending t w
  home t w e = record { back = λ _. e; left = same e; removes = λ _. e }

  undone : (t : S) (w : Bool) → Ending t w → Ending t false
  undone t w e = record { back = λ z. let n : ◌≡◌ {A = ℕ} 0 1 = cc in absurd (omega arith); left = e.left; removes = e.removes }

  -- where no removal is refused
  removable : (t : S) (j : ℕ) → Valid t → 0 < length (m.live t j) → Removes m longest Valid → no_remove m t j 0 ≡ None
  removable t j w h r =
      let n = length (m.live t j) in
      cond-false (eqb n 0) _ _ (ne_eqb n 0 (λ e. omega arith)) ∙ cond-true (ltb 0 n) _ _ (lt-ltb 0 n h) ∙ r t n w h (law.short t j w)

  refused : (t : S) (j : ℕ) (f : Refusal) → Valid t → 0 < length (m.live t j) → Left (m.live s) first second (m.live t) → no_remove m t j 0 ≡ Some f → Ending t false
  refused t j f w h l e = record {
    back = λ z. let n : ◌≡◌ {A = ℕ} 0 1 = cc in absurd (omega arith);
    left = l;
    removes = λ r. let y = removable t j w h r in let n : ◌≡◌ {A = ℕ} 0 1 = cc in absurd (omega arith);
  }

  -- the first entry, alone in its run, is taken out
  last : (t : S) (j : ℕ) (g : Grant) → Valid t → Beside (m.live s) j (first ∷ []) (m.live t) → no_remove m t j 0 ≡ g → Ending (moved_on g t (m.removed t j 0)) (yes g)
  last t j None w b e = home (m.removed t j 0) true (ends_run b (law.removing t j 0 w e).1)
  last t j (Some f) w b e = refused t j f w (let n = ap length (run b) in omega arith) (over j (first ∷ []) b.none (inl refl) b.is) e

  abbrev s₁ : S
  s₁ = opened m s first second

  abbrev s₂ : S
  s₂ = both m s first second

  abbrev s₃ : S
  s₃ = single m s first second

  abbrev j₁ : ℕ
  j₁ = opened_at m s first second

  abbrev j₂ : ℕ
  j₂ = both_at m s first second

  abbrev j₃ : ℕ
  j₃ = single_at m s first second

  -- both are there, and the second one is taken out
  third : (g : Grant) → Valid s₂ → Beside (m.live s) j₂ (second ∷ first ∷ []) (m.live s₂) → no_remove m s₂ j₂ 0 ≡ g
      → Ending (moved_on g s₂ (taken m s₃ j₃)) (yes g && yes (no_remove m s₃ j₃ 0))
  third None w b e = let o = law.removing s₂ j₂ 0 w e in last s₃ j₃ _ o.0 (shortens b o.1) refl
  third (Some f) w b e = refused s₂ j₂ f w (let n = ap length (run b) in omega arith) (over j₂ (second ∷ first ∷ []) b.none (inr refl) b.is) e

  -- the first one is there, and the second one is put before it
  middle : (g : Grant) → Valid s₁ → Beside (m.live s) j₁ (first ∷ []) (m.live s₁) → no_insert m s₁ j₁ 0 ≡ g
      → Ending (moved_on g (taken m s₁ j₁) (moved_on (no_remove m s₂ j₂ 0) s₂ (taken m s₃ j₃))) (yes g && (yes (no_remove m s₂ j₂ 0) && yes (no_remove m s₃ j₃ 0)))
  middle None w b e = let o = law.inserting s₁ j₁ 0 second w e in third _ o.0 (lengthens b o.1) refl
  middle (Some f) w b e = undone (taken m s₁ j₁) _ (last s₁ j₁ _ w b refl)

  begin : (g : Grant) → grows m s 0 ≡ g → Ending (moved_on g s (moved_on (no_insert m s₁ j₁ 0) (taken m s₁ j₁) (moved_on (no_remove m s₂ j₂ 0) s₂ (taken m s₃ j₃))))
      (yes g && (yes (no_insert m s₁ j₁ 0) && (yes (no_remove m s₂ j₂ 0) && yes (no_remove m s₃ j₃ 0))))
  begin None e = let o = law.opening s first v e in middle _ o.0 record { none = o.1; is = o.2 } refl
  begin (Some f) e = home s false refl

  pub ending : (t : S) → t ≡ ends m s first second → Ending t (whole m s first second)
  ending t e = subst (λ u. Ending u (whole m s first second)) (sym e) (begin (grows m s 0) refl)
