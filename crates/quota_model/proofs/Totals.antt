-- How many entries all runs have together, before and after each call.
use Rattle.std.proofs.Common.{◌≡◌, ℕ, zero, suc, ◌+◌, ◌*◌, ◌<◌, ◌≤◌, List, [], ◌∷◌, length, set, None, refl, ap, inl, inr, mul-zero, mul-suc, arith, length-append, length-drop, length-set, length-take}
use Rattle.std.proofs.lemmas.Bool.{cases_lt}
use Rattle.runs.specs.Lists.{indexes, at, with_new, without}
use Rattle.runs.specs.Runs.{Model, Lawful, Moved, tally, one_run, total, grows, no_entry, no_insert, no_remove}
use Rattle.runs.specs.Runs.Removing.{ended, left}
use Rattle.runs.proofs.Counts.{tally_put, put_same}
use Rattle.quota_model.specs.Laws.{Counted}
use Rattle.quota_model.proofs.Grants.{entry_yes, insert_yes, remove_yes}

-- ---- the sum over all runs

pub tally_most : {E : Type 0} (g : List E → ℕ) (f : ℕ → List E) (most n : ℕ) → ((i : ℕ) → g (f i) ≤ most) → tally g f n ≤ most * n
unfolding tally
tally_most g f most zero h = rw mul-zero (omega arith)
tally_most g f most (suc n) h = rw mul-suc (omega (arith, tally_most g f most n h, h n))

one_run_some : {E : Type 0} (xs : List E) → one_run xs ≡ 0 → length xs ≡ 0
one_run_some [] h = refl
one_run_some (x ∷ xs) h = absurd (omega arith)

-- no live run: no entry
pub tally_no_run : {E : Type 0} (f : ℕ → List E) (n : ℕ) → tally one_run f n ≡ 0 → tally length f n ≡ 0
unfolding tally
tally_no_run f zero h = refl
tally_no_run f (suc n) h = omega (arith, tally_no_run f n (omega arith), one_run_some (f n) (omega arith))

pub length_with_new : {E : Type 0} (xs : List E) (k : ℕ) (e : E) → k ≤ length xs → length (with_new xs k e) ≡ length xs + 1
length_with_new xs k e h = simp (length-append, length-take, length-drop) (omega arith)

pub length_without : {E : Type 0} (xs : List E) (k : ℕ) → k < length xs → length (without xs k) + 1 ≡ length xs
length_without xs k h = simp (length-append, length-take, length-drop) (omega arith)

-- a run that has another index and other entries
total_moved : {E : Type 0} (before : ℕ → List E) (i j : ℕ) (xs : List E) (after : ℕ → List E) → Moved before i j xs after → i < indexes → j < indexes
    → total after + length (before i) ≡ total before + length xs
total_moved {E} before i j xs after v hi hj =
    let a = tally_put length before i [] indexes hi in
    let b = tally_put length (at before i []) j xs indexes hj in
    omega (arith, a, b, ap length v.free, ap (λ (f : ℕ → List E). total f) v.is)

module _ {E S : Type 0} {m : Model E S} {longest : ℕ} {Valid : S → Type 0} (law : Lawful m longest Valid) where
  -- a live run's index
  pub live_low : (s : S) (i : ℕ) → Valid s → 0 < length (m.live s i) → i < indexes
  live_low s i v h = elim (cases_lt i indexes) [ inl l ↦ l | inr l ↦ absurd (omega (arith, ap length (law.low s i v l))) ]

  moved_low : (s t : S) (i j : ℕ) (xs : List E) → Valid t → 0 < length xs → Moved (m.live s) i j xs (m.live t) → j < indexes
  moved_low s t i j xs v h d =
      live_low t j v (omega (arith, ap (λ (f : ℕ → List E). length (f j)) d.is, ap length (put_same (at (m.live s) i []) j xs)))

  exchanging : (s : S) (i k : ℕ) (e : E) → Valid s → no_entry m s i k ≡ None → total (m.live (m.exchanged s i k e)) ≡ total (m.live s)
  exchanging s i k e v y =
      let a = tally_put length (m.live s) i (set (m.live s i) k e) indexes (live_low s i v (entry_yes m s i k y).0) in
      omega (arith, a, length-set (m.live s i) k e, ap (λ (f : ℕ → List E). total f) (law.exchanging s i k e v y).1)

  opening : (s : S) (e : E) → Valid s → grows m s 0 ≡ None → total (m.live (m.opened s e)) ≡ total (m.live s) + 1
  opening s e v y =
      let o = law.opening s e v y in
      let j = m.opened_at s e in
      let low = live_low (m.opened s e) j o.0 (omega (arith, ap (λ (f : ℕ → List E). length (f j)) o.2, ap length (put_same (m.live s) j (e ∷ [])))) in
      omega (arith, tally_put length (m.live s) j (e ∷ []) indexes low, ap length o.1, ap (λ (f : ℕ → List E). total f) o.2)

  inserting : (s : S) (i k : ℕ) (e : E) → Valid s → no_insert m s i k ≡ None → total (m.live (m.inserted s i k e)) ≡ total (m.live s) + 1
  inserting s i k e v y =
      let o = law.inserting s i k e v y in
      let h = insert_yes m s i k y in
      let l = length_with_new (m.live s i) k e h.1 in
      let low = moved_low s (m.inserted s i k e) i (m.inserted_at s i k e) (with_new (m.live s i) k e) o.0 (omega arith) o.1 in
      omega (arith, total_moved _ _ _ _ _ o.1 (live_low s i v h.0) low)

  removing : (s : S) (i k : ℕ) → Valid s → no_remove m s i k ≡ None → total (m.live (m.removed s i k)) + 1 ≡ total (m.live s)
  removing s i k v y =
      let o = law.removing s i k v y in
      let h = remove_yes m s i k y in
      let low = live_low s i v h.0 in
      elim o.1 [
        | ended one to is ↦ omega (arith, tally_put length (m.live s) i [] indexes low, ap (λ (f : ℕ → List E). total f) is)
        | left more d ↦
            let l = length_without (m.live s i) k h.1 in
            let to = moved_low s (m.removed s i k) i (m.removed_at s i k) (without (m.live s i) k) o.0 (omega arith) d in
            omega (arith, total_moved _ _ _ _ _ d low to)
      ]

  pub counted : Counted m longest Valid
  counted = record {
    exchanging = exchanging;
    opening = opening;
    inserting = inserting;
    removing = removing;
    bounded = λ s v. tally_most length (m.live s) longest indexes (λ i. law.short s i v);
  }
