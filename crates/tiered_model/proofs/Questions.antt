-- What the store answers of its lists.
use Rattle.std.proofs.Common.{◌≡◌, ℕ, ◌+◌, ◌-◌, ◌<◌, ◌≤◌, true, false, cond, eqb, ltb, leb, [], length, Some, None, Result, sym, refl, ap, ◌∙◌, subst, arith}
use Rattle.std.proofs.lemmas.Bool.{cond-true, cond-false, eq-eqb, ne_eqb, lt-leb, lt-ltb, le-ltb}
use Rattle.runs.specs.Refusals.{Grant, refusal, Refusal}
use Rattle.runs.specs.Calls.{Says, moved_on}
use Rattle.runs.specs.Runs.{grows, shrinks, no_entry, no_insert, no_remove}
use Rattle.runs.specs.Sizes.{size}
use Rattle.tiered_model.specs.Tiered.{State, tiered, change}
use Rattle.tiered_model.proofs.Asking.{grow_length, shrink_length, grows_is, shrinks_is}

pub says_as : {X F : Type 0} (tell : F → Refusal) (r : Result X F) (g h : Grant) → g ≡ h → Says tell r g → Says tell r h
says_as tell r g h e a = subst (λ (k : Grant). Says tell r k) e a

-- a refusal leaves the state
pub stays : {S : Type 0} (g : Grant) (s t : S) (f : Refusal) → g ≡ Some f → s ≡ moved_on g s t
stays None s t f e = absurd (let z : ◌≡◌ {A = ℕ} 0 1 = cc in omega arith)
stays (Some x) s t f e = refl

module _ {E : Type 0} (longest : ℕ) (s : State E) where
  pub grows_beyond : (n : ℕ) → longest ≤ n → grows (tiered longest) s n ≡ Some (refusal 22 [])
  grows_beyond n h = cond-false (ltb n (length ((tiered longest).grow s))) _ _ (le-ltb n _ (omega (arith, grow_length longest s)))

  pub grows_first : (n : ℕ) → n ≡ 0 → 1 ≤ longest → change s 0 1 ≡ grows (tiered longest) s n
  grows_first n e h = sym (ap (grows (tiered longest) s) e ∙ grows_is longest s 0 h)

  pub grows_on : (n : ℕ) → (n ≡ 0 → ⊥) → n < longest → change s (size longest n) (size longest (n + 1)) ≡ grows (tiered longest) s n
  grows_on n ne h = sym (grows_is longest s n h ∙ cond-false (eqb n 0) _ _ (ne_eqb n 0 ne))

  pub shrinks_none : (n : ℕ) → n ≡ 0 → shrinks (tiered longest) s n ≡ Some (refusal 21 [])
  shrinks_none n e = ap (shrinks (tiered longest) s) e

  pub shrinks_beyond : (n : ℕ) → longest < n → shrinks (tiered longest) s n ≡ Some (refusal 21 [])
  shrinks_beyond n h = cond-true (ltb 0 n) _ _ (lt-ltb 0 n (omega arith)) ∙ cond-false (leb n (length ((tiered longest).shrink s))) _ _ (lt-leb n _ (omega (arith, shrink_length longest s)))

  pub shrinks_on : (n : ℕ) → 1 < n → n ≤ longest → change s (size longest n) (size longest (n - 1)) ≡ shrinks (tiered longest) s n
  shrinks_on n l h = sym (shrinks_is longest s n (omega arith) h ∙ cond-false (leb n 1) _ _ (lt-leb n 1 l))

  -- the checks of a slot, in their order
  module _ (i k : ℕ) where
    pub dead : length (s.live i) ≡ 0 → (no_entry (tiered longest) s i k ≡ Some (refusal 20 [])) × (no_insert (tiered longest) s i k ≡ Some (refusal 20 [])) × (no_remove (tiered longest) s i k ≡ Some (refusal 20 []))
    dead e =
        let b : eqb (length (s.live i)) 0 ≡ true = eq-eqb (length (s.live i)) 0 e in
        (cond-true (eqb (length (s.live i)) 0) _ _ b, cond-true (eqb (length (s.live i)) 0) _ _ b, cond-true (eqb (length (s.live i)) 0) _ _ b)

    module _ (ne : length (s.live i) ≡ 0 → ⊥) where
      alive : {X : Type 0} (x y : X) → cond (eqb (length (s.live i)) 0) x y ≡ y
      alive x y = cond-false (eqb (length (s.live i)) 0) x y (ne_eqb (length (s.live i)) 0 ne)

      pub past : length (s.live i) ≤ k → (no_entry (tiered longest) s i k ≡ Some (refusal 21 [])) × (no_remove (tiered longest) s i k ≡ Some (refusal 21 []))
      past h =
          let b : ltb k (length (s.live i)) ≡ false = le-ltb k (length (s.live i)) h in
          (alive _ _ ∙ cond-false (ltb k (length (s.live i))) _ _ b, alive _ _ ∙ cond-false (ltb k (length (s.live i))) _ _ b)

      pub past_end : length (s.live i) < k → no_insert (tiered longest) s i k ≡ Some (refusal 21 [])
      past_end h = alive _ _ ∙ cond-true (ltb (length (s.live i)) k) _ _ (lt-ltb (length (s.live i)) k h)

      pub reads : k < length (s.live i) → no_entry (tiered longest) s i k ≡ None
      reads h = alive _ _ ∙ cond-true (ltb k (length (s.live i))) _ _ (lt-ltb k (length (s.live i)) h)

      pub removes_as : (n : ℕ) → n ≡ length (s.live i) → k < n → shrinks (tiered longest) s n ≡ no_remove (tiered longest) s i k
      removes_as n e h = ap (shrinks (tiered longest) s) e ∙ sym (alive _ _ ∙ cond-true (ltb k (length (s.live i))) _ _ (lt-ltb k (length (s.live i)) (omega arith)))
