-- What an accepted question tells.
use Rattle.std.proofs.Common.{◌≡◌, ℕ, ◌-◌, ◌<◌, ◌≤◌, Bool, true, false, cond, eqb, ltb, leb, [], length, Some, None, sym, refl, ◌∙◌, arith}
use Rattle.std.proofs.lemmas.Bool.{eqb-false, ltb-true, ltb-false, lt-ltb, le-leb, cond-true}
use Rattle.std.proofs.lemmas.List.FromFn.{length-map-range_with_len, get_or-map-range_with_len}
use Rattle.runs.specs.Refusals.{Grant, refusal, Refusal}
use Rattle.runs.specs.Runs.{grows, shrinks, no_entry, no_insert, no_remove}
use Rattle.tiered_model.specs.Tiered.{State, tiered, growth, shrinkage}

pub none_if : (b : Bool) (f : Refusal) (x : Grant) → cond b (Some f) x ≡ None → (b ≡ false) × (x ≡ None)
none_if true f x e = absurd (let z : ◌≡◌ {A = ℕ} 0 1 = cc in omega arith)
none_if false f x e = (refl, e)

pub none_else : (b : Bool) (f : Refusal) (x : Grant) → cond b x (Some f) ≡ None → (b ≡ true) × (x ≡ None)
none_else true f x e = (refl, e)
none_else false f x e = absurd (let z : ◌≡◌ {A = ℕ} 0 1 = cc in omega arith)

module _ {E : Type 0} (longest : ℕ) (s : State E) where
  pub grow_length : length ((tiered longest).grow s) ≡ longest
  grow_length = length-map-range_with_len (growth longest s) 0 longest

  pub shrink_length : length ((tiered longest).shrink s) ≡ longest
  shrink_length = length-map-range_with_len (shrinkage longest s) 1 longest

  pub grows_is : (n : ℕ) → n < longest → grows (tiered longest) s n ≡ growth longest s n
  grows_is n h = cond-true (ltb n (length ((tiered longest).grow s))) _ _ (lt-ltb n _ (omega (arith, grow_length))) ∙ get_or-map-range_with_len (growth longest s) 0 longest n n None h (omega arith)

  pub grows_below : (n : ℕ) → grows (tiered longest) s n ≡ None → n < longest
  grows_below n e = omega (arith, ltb-true n (length ((tiered longest).grow s)) (none_else _ (refusal 22 []) _ e).0, grow_length)

  pub shrinks_is : (n : ℕ) → 1 ≤ n → n ≤ longest → shrinks (tiered longest) s n ≡ shrinkage longest s n
  shrinks_is n l h =
      cond-true (ltb 0 n) _ _ (lt-ltb 0 n (omega arith)) ∙ cond-true (leb n (length ((tiered longest).shrink s))) _ _ (le-leb n _ (omega (arith, shrink_length)))
      ∙ get_or-map-range_with_len (shrinkage longest s) 1 longest (n - 1) n None (omega arith) (omega arith)

  pub insert_told : (i k : ℕ) → no_insert (tiered longest) s i k ≡ None → (1 ≤ length (s.live i)) × (k ≤ length (s.live i)) × (length (s.live i) < longest) × (growth longest s (length (s.live i)) ≡ None)
  insert_told i k e =
      let a = none_if (eqb (length (s.live i)) 0) (refusal 20 []) _ e in
      let b = none_if (ltb (length (s.live i)) k) (refusal 21 []) _ a.1 in
      let n : length (s.live i) ≡ 0 → ⊥ = eqb-false (length (s.live i)) 0 a.0 in
      let l : length (s.live i) < longest = grows_below (length (s.live i)) b.1 in
      (omega (arith, n), ltb-false (length (s.live i)) k b.0, l, sym (grows_is (length (s.live i)) l) ∙ b.1)

  pub exchange_told : (i k : ℕ) → no_entry (tiered longest) s i k ≡ None → (1 ≤ length (s.live i)) × (k < length (s.live i))
  exchange_told i k e =
      let a = none_if (eqb (length (s.live i)) 0) (refusal 20 []) _ e in
      let l : k < length (s.live i) = ltb-true k (length (s.live i)) (none_else (ltb k (length (s.live i))) (refusal 21 []) _ a.1).0 in
      (omega arith, l)

  pub remove_told : (i k : ℕ) → no_remove (tiered longest) s i k ≡ None → length (s.live i) ≤ longest → (k < length (s.live i)) × (shrinkage longest s (length (s.live i)) ≡ None)
  remove_told i k e h =
      let a = none_if (eqb (length (s.live i)) 0) (refusal 20 []) _ e in
      let b = none_else (ltb k (length (s.live i))) (refusal 21 []) _ a.1 in
      let l : k < length (s.live i) = ltb-true k (length (s.live i)) b.0 in
      (l, sym (shrinks_is (length (s.live i)) (omega arith) h) ∙ b.1)
