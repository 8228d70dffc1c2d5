-- The cells of one run written: an entry, a gap opened or closed, entries copied from another run.
use Rattle.std.proofs.Common.{◌≡◌, ℕ, ◌+◌, ◌-◌, ◌<◌, ◌≤◌, ◌⊎◌, List, ◌++◌, length, get_or, take, drop, set, sym, refl, ap, ◌∙◌, subst, inl, inr, ⊎_elim, add-one, arith, length-append, length-drop, length-set, get_or-set_other, get_or-set_same}
use Rattle.std.specs.List.{remove}
use Rattle.std.proofs.lemmas.Bool.{cases_eq, cases_lt}
use Rattle.std.proofs.lemmas.List.{same_lists, length-take-le, get_or-take, get_or-drop, get_or_append_left, get_or-append_right, take-take}
use Rattle.std.proofs.lemmas.List.Edits.{length-remove, get_or-remove_below, get_or-remove_above}
use Rattle.runs.specs.Lists.{with_new, without}
use Rattle.tiered_model.specs.Tiered.{kept}
use Rattle.runs.specs.Shift.{Right, Left, Copied}
use Rattle.tiered_model.specs.Ledger.{run_at, state_of, Sound}
use Rattle.tiered_model.proofs.Gaps.{window_len, window_at, gap_run, gap_rest}
use Rattle.tiered_model.proofs.Changes.{rewritten, live_low}
use Rattle.tiered_model.specs.Laws.{of_run}
use Rattle.tiered_model.proofs.Placed.{placed}

set_window : {E : Type 0} (C : List E) (i k n : ℕ) (e : E) → i + n ≤ length C → k < n → take n (drop i (set C (i + k) e)) ≡ set (take n (drop i C)) k e
set_window {E} C i k n e h l =
    let ls : length (set C (i + k) e) ≡ length C = length-set C (i + k) e in
    let a = window_len (set C (i + k) e) i n (omega arith) in
    let b = window_len C i n h in
    let lb : length (set (take n (drop i C)) k e) ≡ n = length-set (take n (drop i C)) k e ∙ b in
    same_lists _ _ (omega arith) (λ (j : ℕ) (d : E) lj. window_at (set C (i + k) e) i n j d (omega arith) ∙ elim (cases_eq j k) [
      | inl q ↦ ap (λ (m : ℕ). get_or (set C (i + k) e) (i + m) d) q ∙ get_or-set_same C (i + k) e d (omega arith) ∙ sym (ap (λ (m : ℕ). get_or (set (take n (drop i C)) k e) m d) q ∙ get_or-set_same (take n (drop i C)) k e d (omega arith))
      | inr q ↦ get_or-set_other C (i + k) (i + j) e d (λ r. q (omega arith)) ∙ sym (window_at C i n j d (omega arith)) ∙ sym (get_or-set_other (take n (drop i C)) k j e d q)
    ])

close_window : {E : Type 0} (C D : List E) (i k n : ℕ) → i + n ≤ length C → length D ≡ length C → k < n → Left C D (i + k) (i + n)
    → take n (drop i D) ≡ without (take n (drop i C)) k ++ drop (n - 1) (take n (drop i C))
close_window {E} C D i k n h ld l m =
    let xs : List E = take n (drop i C) in
    let a = window_len D i n (omega arith) in
    let b : length xs ≡ n = window_len C i n h in
    let rm : without xs k ≡ remove xs k = ap (λ (q : ℕ). take k xs ++ drop q xs) (add-one k) in
    let lr : length (without xs k) + 1 ≡ n = ap (λ (ys : List E). length ys + 1) rm ∙ length-remove xs k (omega arith) ∙ b in
    let ld' : length (drop (n - 1) xs) ≡ length xs - (n - 1) = length-drop (n - 1) xs in
    let lt : length (without xs k ++ drop (n - 1) xs) ≡ n = length-append (without xs k) (drop (n - 1) xs) ∙ (omega arith) in
    same_lists _ _ (omega arith) (λ (j : ℕ) (d : E) lj. window_at D i n j d (omega arith) ∙ elim (cases_lt (j + 1) n) [
      | inl q ↦ elim (cases_lt j k) [
        | inl x ↦ m.0 (i + j) d (omega arith) ∙ sym (window_at C i n j d (omega arith)) ∙ sym (get_or-remove_below xs k d j x (omega arith))
        | inr x ↦
            m.1 (i + j) d (omega arith) (omega arith) ∙ ap (λ (q : ℕ). get_or C q d) (let z : i + j + 1 ≡ i + (j + 1) = omega arith in z) ∙ sym (window_at C i n (j + 1) d (omega arith))
            ∙ sym (get_or-remove_above xs k d j x (omega arith))
      ] ∙ ap (λ (ys : List E). get_or ys j d) (sym rm) ∙ sym (get_or_append_left (without xs k) (drop (n - 1) xs) d j (omega arith))
      | inr q ↦
          m.2 (i + j) d (omega arith) ∙ sym (window_at C i n j d (omega arith)) ∙ ap (λ (q : ℕ). get_or xs q d) (let z : j ≡ (n - 1) + (j - (n - 1)) = omega arith in z) ∙ sym (get_or-drop (n - 1) xs (j - (n - 1)) d)
          ∙ sym (get_or-append_right (without xs k) (drop (n - 1) xs) (n - 1) j d (omega arith) (omega arith))
    ])

copy_window : {E : Type 0} (C D : List E) (from to k n m : ℕ) → from + n ≤ length C → to + m ≤ length C → k ≤ n → k ≤ m → length D ≡ length C → Copied C D from to k
    → take m (drop to D) ≡ take k (take n (drop from C)) ++ drop k (take m (drop to C))
copy_window {E} C D from to k n m hf ht kn km ld cp =
    let xs : List E = take n (drop from C) in
    let ys : List E = take m (drop to C) in
    let a = window_len D to m (omega arith) in
    let b : length xs ≡ n = window_len C from n hf in
    let e : length ys ≡ m = window_len C to m ht in
    let lk : length (take k xs) ≡ k = length-take-le k xs (omega arith) in
    let ld' : length (drop k ys) ≡ length ys - k = length-drop k ys in
    let lt : length (take k xs ++ drop k ys) ≡ m = length-append (take k xs) (drop k ys) ∙ (omega arith) in
    same_lists _ _ (omega arith) (λ (j : ℕ) (d : E) lj. window_at D to m j d (omega arith) ∙ elim (cases_lt j k) [
      | inl q ↦ cp.1 j d q ∙ sym (window_at C from n j d (omega arith)) ∙ sym (get_or-take k xs j d q) ∙ sym (get_or_append_left (take k xs) (drop k ys) d j (omega arith))
      | inr q ↦
          cp.2 (to + j) d (omega arith) ∙ sym (window_at C to m j d (omega arith)) ∙ ap (λ (q : ℕ). get_or ys q d) (let z : j ≡ k + (j - k) = omega arith in z) ∙ sym (get_or-drop k ys (j - k) d)
          ∙ sym (get_or-append_right (take k xs) (drop k ys) k j d lk q)
    ])

module _ {E : Type 0} (longest : ℕ) (la : 31 ≤ longest) (lb : longest ≤ 32) (C : List E) (L : List ℕ) (c : ℕ) (H : List ℕ) (r : ℕ) (s : Sound longest C L c H r) where
  -- the cells of a live run are there
  pub in_cells : (i : ℕ) → 1 ≤ length (run_at C L i) → i + length (run_at C L i) ≤ length C
  in_cells i h = omega (arith, live_low longest la lb C L c H r s i h, (placed longest la lb (state_of C L c H) s.valid).room i, s.same)

  -- the same for a run that has a slot k
  pub slot_cells : (i k : ℕ) → k < length (run_at C L i) → (i + length (run_at C L i) ≤ length C) × (length C ≤ 16777216)
  slot_cells i k h = (in_cells i (omega arith), s.valid.within)

  run_is : (D : List E) (i n : ℕ) → length (run_at C L i) ≡ n → run_at D L i ≡ take n (drop i D)
  run_is D i n e = ap (λ (k : ℕ). take k (drop i D)) (sym (s.long i) ∙ e)

  -- the first k cells of two live runs are apart
  pub copy_apart : (i j k : ℕ) → 1 ≤ k → k ≤ length (run_at C L i) → k ≤ length (run_at C L j) → (i ≡ j → ⊥) → (i + k ≤ j) ⊎ (j + k ≤ i)
  copy_apart i j k p hi hj ne =
      let P = placed longest la lb (state_of C L c H) s.valid in
      elim (P.apart i j _ _ (of_run (omega arith) refl) (of_run (omega arith) refl) ne) [ inl x ↦ inl (omega (arith, P.room i)) | inr x ↦ inr (omega (arith, P.room j)) ]

  module _ (i n : ℕ) (h : length (run_at C L i) ≡ n) where
    changed : (D ys : _) → 1 ≤ n → length D ≡ length C → ((k : ℕ) (d : E) → (k < i) ⊎ (i + n ≤ k) → get_or D k d ≡ get_or C k d) → take n (drop i D) ≡ ys
        → (state_of D L c H ≡ kept (state_of C L c H) i ys) × Sound longest D L c H r
    changed D ys p ld out e =
        let a = rewritten longest la lb C L c H r s i (omega arith) D ld (λ k d. subst (λ (m : ℕ). (k < i) ⊎ (i + m ≤ k) → get_or D k d ≡ get_or C k d) (sym h) (out k d)) in
        (a.0 ∙ ap (λ (zs : List E). kept (state_of C L c H) i zs) (run_is D i n h ∙ e), a.1)

    pub replaced : (k : ℕ) (e : E) → k < n → (state_of (set C (i + k) e) L c H ≡ kept (state_of C L c H) i (set (run_at C L i) k e)) × Sound longest (set C (i + k) e) L c H r
    replaced k e l =
        let w = in_cells i (omega arith) in
        changed (set C (i + k) e) (set (run_at C L i) k e) (omega arith) (length-set C (i + k) e)
        (λ j d o. get_or-set_other C (i + k) j e d (λ q. ⊎_elim (λ (x : j < i). omega arith) (λ (x : i + n ≤ j). omega arith) o))
        (set_window C i k n e (omega arith) l ∙ ap (λ (xs : List E). set xs k e) (sym (run_is C i n h)))

    pub gap_opened : (D : List E) (k m : ℕ) (e : E) → n ≡ m + 1 → k ≤ m → length D ≡ length C → Right C D (i + k) (i + m)
        → (state_of (set D (i + k) e) L c H ≡ kept (state_of C L c H) i (with_new (take m (run_at C L i)) k e)) × Sound longest (set D (i + k) e) L c H r
    gap_opened D k m e nm l ld rt =
        let w = in_cells i (omega arith) in
        changed (set D (i + k) e) (with_new (take m (run_at C L i)) k e) (omega arith) (length-set D (i + k) e ∙ ld)
        (λ j d o. gap_rest C D i k m e l rt j d (⊎_elim (λ (x : j < i). inl x) (λ (x : i + n ≤ j). inr (omega arith)) o))
        (ap (λ (q : ℕ). take q (drop i (set D (i + k) e))) nm ∙ gap_run C D i k m e l (omega arith) ld rt
        ∙ ap (λ (xs : List E). with_new xs k e) (sym (ap (λ (xs : List E). take m xs) (run_is C i n h) ∙ take-take m n (drop i C) (omega arith))))

    -- the entries are moved, and the new one is not written yet
    pub gap_moved : (D : List E) (k m : ℕ) → n ≡ m + 1 → k ≤ m → length D ≡ length C → Right C D (i + k) (i + m) → Sound longest D L c H r
    gap_moved D k m nm l ld rt =
        let w = in_cells i (omega arith) in
        (changed D (take n (drop i D)) (omega arith) ld
        (λ j d o. ⊎_elim (λ (x : j < i). rt.0 j d (omega arith)) (λ (x : i + n ≤ j). rt.2 j d (omega arith)) o) refl).1

    pub gap_closed : (D : List E) (k : ℕ) → k < n → length D ≡ length C → Left C D (i + k) (i + n)
        → (state_of D L c H ≡ kept (state_of C L c H) i (without (run_at C L i) k ++ drop (n - 1) (run_at C L i))) × Sound longest D L c H r
    gap_closed D k l ld lt =
        let w = in_cells i (omega arith) in
        changed D (without (run_at C L i) k ++ drop (n - 1) (run_at C L i)) (omega arith) ld
        (λ j d o. ⊎_elim (λ (x : j < i). lt.0 j d (omega arith)) (λ (x : i + n ≤ j). lt.2 j d (omega arith)) o)
        (close_window C D i k n (omega arith) ld l lt ∙ ap (λ (xs : List E). without xs k ++ drop (n - 1) xs) (sym (run_is C i n h)))

    pub run_copied : (D : List E) (from k m : ℕ) → length (run_at C L from) ≡ m → 1 ≤ k → k ≤ m → k ≤ n → length D ≡ length C → Copied C D from i k
        → (state_of D L c H ≡ kept (state_of C L c H) i (take k (run_at C L from) ++ drop k (run_at C L i))) × Sound longest D L c H r
    run_copied D from k m hm p km kn ld cp =
        let w = in_cells i (omega arith) in
        let v = in_cells from (omega arith) in
        changed D (take k (run_at C L from) ++ drop k (run_at C L i)) (omega arith) ld
        (λ j d o. ⊎_elim (λ (x : j < i). cp.0 j d x) (λ (x : i + n ≤ j). cp.2 j d (omega arith)) o)
        (copy_window C D from i k m n (omega arith) (omega arith) km kn ld cp
        ∙ ap (λ (xs : List E). take k xs ++ drop k (take n (drop i C))) (sym (run_is C from m hm)) ∙ ap (λ (xs : List E). take k (run_at C L from) ++ drop k xs) (sym (run_is C i n h)))
