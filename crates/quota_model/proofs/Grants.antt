-- The answers of a limit, by those of the store below.
use Rattle.std.proofs.Common.{◌≡◌, ℕ, ◌+◌, ◌-◌, ◌<◌, ◌≤◌, Bool, true, false, cond, not, ◌&&◌, eqb, ltb, leb, List, [], ◌∷◌, map, length, get_or, replicate, Some, None, sym, refl, ap, ◌∙◌, inl, inr, arith}
use native.Mathlib.Nat.{min-eq_left}
use lib.ListN.{length-map, length-replicate, get_or-replicate, get_or-map}
use Rattle.std.proofs.lemmas.Bool.{cases_eq, eqb-false, ne_eqb, ltb-true, ltb-false}
use Rattle.runs.specs.Refusals.{Refusal, Grant, refusal}
use Rattle.runs.specs.Runs.{Model, total, grows, shrinks, no_entry, no_insert, no_remove}
use Rattle.quota_model.specs.Quotas.{State, more, up, passed, full, capped}
use Rattle.quota_model.specs.Laws.{Crossing}

-- ---- layers

below_top : (n : ℕ) → n < 4294967295 → more n ≡ n + 1
below_top n h = let l : n + 1 ≤ 4294967295 = omega arith in min-eq_left l

pub crossing : Crossing
crossing = record {
  counts = λ number n a b h. elim (cases_eq number 23) [
    | inl e ↦ rw e (ap (λ (k : ℕ). refusal 23 (k ∷ [])) (below_top n h))
    | inr ne ↦ let e : number ≡ 24 = omega arith in rw e (ap (λ (k : ℕ). refusal 24 (k ∷ [])) (below_top n h))
  ];
  stops = λ number a b. elim (cases_eq number 23) [ inl e ↦ rw e | inr ne ↦ let e : number ≡ 24 = omega arith in rw e ];
  others = λ number xs h. rw (ne_eqb number 23 (λ e. omega arith), ne_eqb number 24 (λ e. omega arith));
}

-- ---- what an answer of yes has passed

yes_no : (b : Bool) (f : Refusal) (o : Grant) → cond b (Some f) o ≡ None → (b ≡ false) × (o ≡ None)
yes_no true f o e = let z : ◌≡◌ {A = ℕ} 0 1 = cc in absurd (omega arith)
yes_no false f o e = (refl, e)

yes_yes : (b : Bool) (f : Refusal) (o : Grant) → cond b o (Some f) ≡ None → (b ≡ true) × (o ≡ None)
yes_yes true f o e = (refl, e)
yes_yes false f o e = let z : ◌≡◌ {A = ℕ} 0 1 = cc in absurd (omega arith)

module _ {E S : Type 0} (m : Model E S) (s : S) (i k : ℕ) where
  pub entry_yes : no_entry m s i k ≡ None → (0 < length (m.live s i)) × (k < length (m.live s i))
  entry_yes e =
      let a = yes_no (eqb (length (m.live s i)) 0) (refusal 20 []) (cond (ltb k (length (m.live s i))) None (Some (refusal 21 []))) e in
      let l = ltb-true k (length (m.live s i)) (yes_yes (ltb k (length (m.live s i))) (refusal 21 []) None a.1).0 in
      (omega arith, l)

  pub insert_yes : no_insert m s i k ≡ None → (0 < length (m.live s i)) × (k ≤ length (m.live s i))
  insert_yes e =
      let n = length (m.live s i) in
      let a = yes_no (eqb n 0) (refusal 20 []) (cond (ltb n k) (Some (refusal 21 [])) (grows m s n)) e in
      let ne = eqb-false n 0 a.0 in
      (omega arith, ltb-false n k (yes_no (ltb n k) (refusal 21 []) (grows m s n) a.1).0)

  pub remove_yes : no_remove m s i k ≡ None → (0 < length (m.live s i)) × (k < length (m.live s i))
  remove_yes e =
      let n = length (m.live s i) in
      let a = yes_no (eqb n 0) (refusal 20 []) (cond (ltb k n) (shrinks m s n) (Some (refusal 21 []))) e in
      let l = ltb-true k n (yes_yes (ltb k n) (refusal 21 []) (shrinks m s n) a.1).0 in
      (omega arith, l)

-- ---- answers passed up

-- a yes was a yes below
pub passed_yes : (o : Grant) → passed o ≡ None → o ≡ None
passed_yes None e = refl
passed_yes (Some f) e = let z : ◌≡◌ {A = ℕ} 0 1 = cc in absurd (omega arith)

-- a refusal of 20, 21 or 22 is the same above
first_passed : (b : Bool) (f : Refusal) (p q : Grant) → up f ≡ f → q ≡ passed p → cond b (Some f) q ≡ passed (cond b (Some f) p)
first_passed true f p q u e = ap Some (sym u)
first_passed false f p q u e = e

last_passed : (b : Bool) (f : Refusal) (p q : Grant) → up f ≡ f → q ≡ passed p → cond b q (Some f) ≡ passed (cond b p (Some f))
last_passed true f p q u e = e
last_passed false f p q u e = ap Some (sym u)

-- the answer at a place of a list that is passed up as it is, or is refused everywhere
list_passed : (xs : List Grant) (n : ℕ) → get_or (map passed xs) n None ≡ passed (get_or xs n None)
list_passed xs n = get_or-map passed xs n None

all_full : (t : Bool) (xs : List Grant) (n : ℕ) → ltb n (length xs) ≡ t → cond t (get_or (replicate (length xs) full) n None) (Some (refusal 22 [])) ≡ cond t full (passed (cond t (get_or xs n None) (Some (refusal 22 []))))
all_full true xs n e = get_or-replicate (length xs) n full None (ltb-true n (length xs) e)
all_full false xs n e = refl

-- the list of a limit, by whether it is reached
unfoldable pub listed : Bool → List Grant → List Grant
listed b xs = cond b (replicate (length xs) full) (map passed xs)

pub length_listed : (b : Bool) (xs : List Grant) → length (listed b xs) ≡ length xs
unfolding listed
length_listed true xs = length-replicate (length xs) full
length_listed false xs = length-map xs passed

listed_at : (b : Bool) (xs : List Grant) (n : ℕ) → cond (ltb n (length xs)) (get_or (listed b xs) n None) (Some (refusal 22 []))
    ≡ cond (b && ltb n (length xs)) full (passed (cond (ltb n (length xs)) (get_or xs n None) (Some (refusal 22 []))))
unfolding listed
listed_at true xs n = all_full (ltb n (length xs)) xs n refl
listed_at false xs n = last_passed (ltb n (length xs)) (refusal 22 []) (get_or xs n None) (get_or (map passed xs) n None) refl (list_passed xs n)

module _ {E S : Type 0} (m : Model E S) (s : State S) where
  -- whether the limit refuses a run of n entries one more
  abbrev pub shut : ℕ → Bool
  shut n = eqb (total (m.live s.below)) s.limit && ltb n (length (m.grow s.below))

  pub grows_by : (n : ℕ) → grows (capped m) s n ≡ cond (shut n) full (passed (grows m s.below n))
  unfolding listed
  grows_by n =
      let b = eqb (total (m.live s.below)) s.limit in
      let xs = m.grow s.below in
      ap (λ (l : ℕ). cond (ltb n l) (get_or (listed b xs) n None) (Some (refusal 22 []))) (length_listed b xs) ∙ listed_at b xs n

  pub shrinks_passed : (n : ℕ) → shrinks (capped m) s n ≡ passed (shrinks m s.below n)
  shrinks_passed n =
      let xs = m.shrink s.below in
      ap (λ (l : ℕ). cond (ltb 0 n) (cond (leb n l) (get_or (map passed xs) (n - 1) None) (Some (refusal 21 []))) (Some (refusal 21 []))) (length-map xs passed)
      ∙ last_passed (ltb 0 n) (refusal 21 []) (cond (leb n (length xs)) (get_or xs (n - 1) None) (Some (refusal 21 []))) _ refl
      (last_passed (leb n (length xs)) (refusal 21 []) (get_or xs (n - 1) None) _ refl (list_passed xs (n - 1)))

  pub remove_passed : (i k : ℕ) → no_remove (capped m) s i k ≡ passed (no_remove m s.below i k)
  remove_passed i k =
      let n = length (m.live s.below i) in
      first_passed (eqb n 0) (refusal 20 []) (cond (ltb k n) (shrinks m s.below n) (Some (refusal 21 []))) _ refl
      (last_passed (ltb k n) (refusal 21 []) (shrinks m s.below n) _ refl (shrinks_passed n))

  -- the limit is asked last
  insert_at : (a b c : Bool) (o : Grant) → cond a (Some (refusal 20 [])) (cond b (Some (refusal 21 [])) (cond c full (passed o)))
      ≡ cond (not a && (not b && c)) full (passed (cond a (Some (refusal 20 [])) (cond b (Some (refusal 21 [])) o)))
  insert_at true b c o = refl
  insert_at false true c o = refl
  insert_at false false c o = refl

  pub insert_by : (i k : ℕ) → no_insert (capped m) s i k
      ≡ cond (not (eqb (length (m.live s.below i)) 0) && (not (ltb (length (m.live s.below i)) k) && shut (length (m.live s.below i)))) full (passed (no_insert m s.below i k))
  insert_by i k =
      let n = length (m.live s.below i) in
      ap (λ (o : Grant). cond (eqb n 0) (Some (refusal 20 [])) (cond (ltb n k) (Some (refusal 21 [])) o)) (grows_by n)
      ∙ insert_at (eqb n 0) (ltb n k) (shut n) (grows m s.below n)

  by_yes : (b : Bool) (o : Grant) → cond b full (passed o) ≡ None → o ≡ None
  by_yes b o e = passed_yes o (yes_no b (refusal 24 (0 ∷ [])) (passed o) e).1

  -- what the limit accepts the store below accepts
  pub grows_below : (n : ℕ) → grows (capped m) s n ≡ None → grows m s.below n ≡ None
  grows_below n e = by_yes (shut n) (grows m s.below n) (sym (grows_by n) ∙ e)

  pub insert_below : (i k : ℕ) → no_insert (capped m) s i k ≡ None → no_insert m s.below i k ≡ None
  insert_below i k e = by_yes _ (no_insert m s.below i k) (sym (insert_by i k) ∙ e)

  pub remove_below : (i k : ℕ) → no_remove (capped m) s i k ≡ None → no_remove m s.below i k ≡ None
  remove_below i k e = passed_yes (no_remove m s.below i k) (sym (remove_passed i k) ∙ e)
