-- What an accepted question tells.
use Rattle.std.proofs.Common.{◌≡◌, ℕ, ◌-◌, ◌<◌, ◌≤◌, Bool, true, false, cond, eqb, ltb, [], ◌∷◌, length, get_or, Some, None, sym, refl, ◌∙◌, arith}
use lib.ListN.{length-replicate}
use Rattle.std.proofs.lemmas.Bool.{eqb-false, ltb-true, ltb-false, lt-ltb, cond-true}
use Rattle.runs.specs.Refusals.{Refusal, refusal, Grant}
use Rattle.runs.specs.Runs.{grows, no_entry, no_insert, no_remove}
use Rattle.flat_model.specs.Flat.{State, has, opening, flat}

none_if : (b : Bool) (f : Refusal) (x : Grant) → cond b (Some f) x ≡ None → (b ≡ false) × (x ≡ None)
none_if true f x e = absurd (let z : ◌≡◌ {A = ℕ} 0 1 = cc in omega arith)
none_if false f x e = (refl, e)

none_else : (b : Bool) (f : Refusal) (x : Grant) → cond b x (Some f) ≡ None → (b ≡ true) × (x ≡ None)
none_else true f x e = (refl, e)
none_else false f x e = absurd (let z : ◌≡◌ {A = ℕ} 0 1 = cc in omega arith)

module _ {E : Type 0} (longest : ℕ) (la : 31 ≤ longest) (s : State E) where
  pub grow_length : length ((flat longest).grow s) ≡ longest
  grow_length = omega (arith, length-replicate {A = Grant} (longest - 1) None)

  pub shrink_length : length ((flat longest).shrink s) ≡ longest
  shrink_length = length-replicate longest None

  grows_listed : (n : ℕ) → n < longest → grows (flat longest) s n ≡ get_or ((flat longest).grow s) n None
  grows_listed n h = cond-true (ltb n (length ((flat longest).grow s))) _ _ (lt-ltb n _ (omega (arith, grow_length)))

  grows_first : grows (flat longest) s 0 ≡ opening longest s
  grows_first = grows_listed 0 (omega arith)

  pub grows_below : (n : ℕ) → grows (flat longest) s n ≡ None → n < longest
  grows_below n e = omega (arith, ltb-true n (length ((flat longest).grow s)) (none_else _ (refusal 22 []) _ e).0, grow_length)

  pub can_open : grows (flat longest) s 0 ≡ None → has longest s ≡ true
  can_open e = (none_else (has longest s) (refusal 23 (0 ∷ [])) None (sym grows_first ∙ e)).0

  pub entry_told : (i k : ℕ) → no_entry (flat longest) s i k ≡ None → k < length (s.live i)
  entry_told i k e =
      let a = none_if (eqb (length (s.live i)) 0) (refusal 20 []) _ e in
      ltb-true k (length (s.live i)) (none_else (ltb k (length (s.live i))) (refusal 21 []) _ a.1).0

  pub insert_told : (i k : ℕ) → no_insert (flat longest) s i k ≡ None → (1 ≤ length (s.live i)) × (k ≤ length (s.live i)) × (length (s.live i) < longest)
  insert_told i k e =
      let a = none_if (eqb (length (s.live i)) 0) (refusal 20 []) _ e in
      let b = none_if (ltb (length (s.live i)) k) (refusal 21 []) _ a.1 in
      let n : length (s.live i) ≡ 0 → ⊥ = eqb-false (length (s.live i)) 0 a.0 in
      (omega (arith, n), ltb-false (length (s.live i)) k b.0, grows_below (length (s.live i)) b.1)

  pub remove_told : (i k : ℕ) → no_remove (flat longest) s i k ≡ None → k < length (s.live i)
  remove_told i k e =
      let a = none_if (eqb (length (s.live i)) 0) (refusal 20 []) _ e in
      ltb-true k (length (s.live i)) (none_else (ltb k (length (s.live i))) (refusal 21 []) _ a.1).0
