-- Places of a list with one entry more, less or another.
use Rattle.std.proofs.Common.{◌≡◌, ℕ, zero, suc, ◌+◌, ◌<◌, ◌≤◌, List, [], ◌∷◌, ◌++◌, length, take, drop, set, Some, sym, refl, ap, ◌∙◌, add-one, arith}
use Rattle.runs.proofs.Counts.{put_same}
use Rattle.runs.specs.Lists.{with_new, without, nth, at}

module _ {E : Type 0} where
  pub nth_new_at : (xs : List E) (k : ℕ) (e : E) → k ≤ length xs → nth (with_new xs k e) k ≡ Some e
  nth_new_at xs zero e h = refl
  nth_new_at [] (suc k) e h = absurd (omega arith)
  nth_new_at (x ∷ xs) (suc k) e h = nth_new_at xs k e (omega arith)

  pub nth_new_below : (xs : List E) (k : ℕ) (e : E) (i : ℕ) → k ≤ length xs → i < k → nth (with_new xs k e) i ≡ nth xs i
  nth_new_below xs zero e i h l = absurd (omega arith)
  nth_new_below [] (suc k) e i h l = absurd (omega arith)
  nth_new_below (x ∷ xs) (suc k) e zero h l = refl
  nth_new_below (x ∷ xs) (suc k) e (suc i) h l = nth_new_below xs k e i (omega arith) (omega arith)

  pub nth_new_above : (xs : List E) (k : ℕ) (e : E) (i : ℕ) → k ≤ length xs → k ≤ i → nth (with_new xs k e) (suc i) ≡ nth xs i
  nth_new_above xs zero e i h l = refl
  nth_new_above [] (suc k) e i h l = absurd (omega arith)
  nth_new_above (x ∷ xs) (suc k) e zero h l = absurd (omega arith)
  nth_new_above (x ∷ xs) (suc k) e (suc i) h l = nth_new_above xs k e i (omega arith) (omega arith)

  pub length_new : (xs : List E) (k : ℕ) (e : E) → k ≤ length xs → length (with_new xs k e) ≡ length xs + 1
  length_new xs zero e h = omega arith
  length_new [] (suc k) e h = absurd (omega arith)
  length_new (x ∷ xs) (suc k) e h = omega (arith, length_new xs k e (omega arith))

  cut : List E → ℕ → List E
  cut xs k = take k xs ++ drop (suc k) xs

  without_cut : (xs : List E) (k : ℕ) → without xs k ≡ cut xs k
  unfolding cut
  without_cut xs k = ap (λ (n : ℕ). take k xs ++ drop n xs) (add-one k)

  cut_below : (xs : List E) (k i : ℕ) → k < length xs → i < k → nth (cut xs k) i ≡ nth xs i
  unfolding cut
  cut_below xs zero i h l = absurd (omega arith)
  cut_below [] (suc k) i h l = absurd (omega arith)
  cut_below (x ∷ xs) (suc k) zero h l = refl
  cut_below (x ∷ xs) (suc k) (suc i) h l = cut_below xs k i (omega arith) (omega arith)

  cut_above : (xs : List E) (k i : ℕ) → k < length xs → k ≤ i → nth (cut xs k) i ≡ nth xs (suc i)
  unfolding cut
  cut_above [] k i h l = absurd (omega arith)
  cut_above (x ∷ xs) zero i h l = refl
  cut_above (x ∷ xs) (suc k) zero h l = absurd (omega arith)
  cut_above (x ∷ xs) (suc k) (suc i) h l = cut_above xs k i (omega arith) (omega arith)

  length_cut : (xs : List E) (k : ℕ) → k < length xs → length (cut xs k) + 1 ≡ length xs
  unfolding cut
  length_cut [] k h = absurd (omega arith)
  length_cut (x ∷ xs) zero h = omega arith
  length_cut (x ∷ xs) (suc k) h = omega (arith, length_cut xs k (omega arith))

  pub nth_without_below : (xs : List E) (k i : ℕ) → k < length xs → i < k → nth (without xs k) i ≡ nth xs i
  nth_without_below xs k i h l = ap (λ (ys : List E). nth ys i) (without_cut xs k) ∙ cut_below xs k i h l

  pub nth_without_above : (xs : List E) (k i : ℕ) → k < length xs → k ≤ i → nth (without xs k) i ≡ nth xs (suc i)
  nth_without_above xs k i h l = ap (λ (ys : List E). nth ys i) (without_cut xs k) ∙ cut_above xs k i h l

  pub length_without : (xs : List E) (k : ℕ) → k < length xs → length (without xs k) + 1 ≡ length xs
  length_without xs k h = ap (λ (ys : List E). length ys + 1) (without_cut xs k) ∙ length_cut xs k h

  pub nth_set_at : (xs : List E) (k : ℕ) (e : E) → k < length xs → nth (set xs k e) k ≡ Some e
  nth_set_at [] k e h = absurd (omega arith)
  nth_set_at (x ∷ xs) zero e h = refl
  nth_set_at (x ∷ xs) (suc k) e h = nth_set_at xs k e (omega arith)

  pub nth_set_other : (xs : List E) (k : ℕ) (e : E) (i : ℕ) → (i ≡ k → ⊥) → nth (set xs k e) i ≡ nth xs i
  nth_set_other [] zero e i n = refl
  nth_set_other [] (suc k) e i n = refl
  nth_set_other (x ∷ xs) zero e zero n = absurd (n refl)
  nth_set_other (x ∷ xs) zero e (suc i) n = refl
  nth_set_other (x ∷ xs) (suc k) e zero n = refl
  nth_set_other (x ∷ xs) (suc k) e (suc i) n = nth_set_other xs k e i (λ q. n (ap suc q))

  pub nth_some_in : (xs : List E) (k : ℕ) (e : E) → nth xs k ≡ Some e → k < length xs
  nth_some_in [] k e h = absurd (let z : ◌≡◌ {A = ℕ} 0 1 = cc in omega arith)
  nth_some_in (x ∷ xs) zero e h = omega arith
  nth_some_in (x ∷ xs) (suc k) e h = omega (arith, nth_some_in xs k e h)

  pub at_here : (m : ℕ → List E) (i j : ℕ) (xs : List E) → j ≡ i → at m i xs j ≡ xs
  at_here m i j xs e = ap (at m i xs) e ∙ put_same m i xs

  pub nth_in : (xs : List E) (k : ℕ) → k < length xs → (e : E) × (nth xs k ≡ Some e)
  nth_in [] k h = absurd (omega arith)
  nth_in (x ∷ xs) zero h = (x, refl)
  nth_in (x ∷ xs) (suc k) h = nth_in xs k (omega arith)

  pub set_as_was : (xs : List E) (k : ℕ) (e : E) → nth xs k ≡ Some e → set xs k e ≡ xs
  set_as_was [] k e h = absurd (let z : ◌≡◌ {A = ℕ} 0 1 = cc in omega arith)
  set_as_was (x ∷ xs) zero e h = let q : x ≡ e = cc in ap (λ (y : E). y ∷ xs) (sym q)
  set_as_was (x ∷ xs) (suc k) e h = ap (λ (ys : List E). x ∷ ys) (set_as_was xs k e h)
