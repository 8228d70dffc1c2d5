-- Parts of a list of cells, and what writing and shifting make of them.
use Rattle.std.proofs.Common.{◌≡◌, ℕ, ◌+◌, ◌-◌, ◌<◌, ◌≤◌, ◌⊎◌, List, ◌++◌, length, get_or, take, drop, set, sym, ap, ◌∙◌, inl, inr, ⊎_elim, add-one, arith, length-drop, length-set, get_or-set_other, get_or-set_same}
use Rattle.std.specs.List.{insert, remove}
use Rattle.std.proofs.lemmas.List.{same_lists, length-take-le, get_or-take, get_or-drop}
use Rattle.std.proofs.lemmas.List.Edits.{length-insert, get_or-insert_below, get_or-insert_at, get_or-insert_above, length-remove, get_or-remove_below, get_or-remove_above}
use Rattle.std.proofs.lemmas.Bool.{cases_eq, cases_lt, cases_order}
use Rattle.runs.specs.Lists.{with_new, without}
use Rattle.runs.specs.Shift.{Right, Left}

-- a window of a list: how long it is, and what stands in it
pub window_length : {X : Type 0} (xs : List X) (at n : ℕ) → at + n ≤ length xs → length (take n (drop at xs)) ≡ n
window_length xs at n h = length-take-le n (drop at xs) (simp length-drop (omega arith))

pub window_at : {X : Type 0} (xs : List X) (at n k : ℕ) (d : X) → k < n → get_or (take n (drop at xs)) k d ≡ get_or xs (at + k) d
window_at xs at n k d h = get_or-take n (drop at xs) k d h ∙ get_or-drop at xs k d

pub set_window : {E : Type 0} (C : List E) (i k n : ℕ) (e : E) → i + n ≤ length C → k < n → take n (drop i (set C (i + k) e)) ≡ set (take n (drop i C)) k e
set_window {E} C i k n e h l =
    let ls : length (set C (i + k) e) ≡ length C = length-set C (i + k) e in
    let a = window_length (set C (i + k) e) i n (omega arith) in
    let b = window_length C i n h in
    let lb : length (set (take n (drop i C)) k e) ≡ n = length-set (take n (drop i C)) k e ∙ b in
    same_lists _ _ (omega arith) (λ (j : ℕ) (d : E) lj. window_at (set C (i + k) e) i n j d (omega arith) ∙ elim (cases_eq j k) [
      | inl q ↦ ap (λ (m : ℕ). get_or (set C (i + k) e) (i + m) d) q ∙ get_or-set_same C (i + k) e d (omega arith) ∙ sym (ap (λ (m : ℕ). get_or (set (take n (drop i C)) k e) m d) q ∙ get_or-set_same (take n (drop i C)) k e d (omega arith))
      | inr q ↦ get_or-set_other C (i + k) (i + j) e d (λ r. q (omega arith)) ∙ sym (window_at C i n j d (omega arith)) ∙ sym (get_or-set_other (take n (drop i C)) k j e d q)
    ])

-- a gap opened at slot k of the n cells from i on, and e written there
pub gap_opened : {E : Type 0} (C D : List E) (i k n : ℕ) (e : E) → k ≤ n → i + n < length C → length D ≡ length C
    → Right C D (i + k) (i + n) → take (n + 1) (drop i (set D (i + k) e)) ≡ with_new (take n (drop i C)) k e
gap_opened {E} C D i k n e le room len r =
    let lw = window_length C i n (omega arith) in
    let ls : length (set D (i + k) e) ≡ length D = length-set D (i + k) e in
    let lz : length (take (n + 1) (drop i (set D (i + k) e))) ≡ n + 1 = window_length (set D (i + k) e) i (n + 1) (omega arith) in
    let li = length-insert (take n (drop i C)) k e (omega arith) in
    same_lists _ _ (omega arith) (λ (j : ℕ) (d : E) h.
    window_at (set D (i + k) e) i (n + 1) j d (omega arith)
    ∙ ⊎_elim (λ (q : j ≡ k). simp q (get_or-set_same D (i + k) e d (omega arith) ∙ sym (get_or-insert_at (take n (drop i C)) k e d (omega arith))))
    (⊎_elim
    (λ (q : j < k). get_or-set_other D (i + k) (i + j) e d (omega arith) ∙ (r.0 (i + j) d (omega arith)
    ∙ (sym (window_at C i n j d (omega arith)) ∙ sym (get_or-insert_below (take n (drop i C)) k e d j q (omega arith)))))
    (λ (q : k < j).
    let m : (j - 1) + 1 ≡ j = omega arith in
    let m2 : i + j ≡ (i + (j - 1)) + 1 = omega arith in
    get_or-set_other D (i + k) (i + j) e d (omega arith)
    ∙ (ap (λ (z : ℕ). get_or D z d) m2 ∙ (r.1 (i + (j - 1)) d (omega arith) (omega arith)
    ∙ (sym (window_at C i n (j - 1) d (omega arith)) ∙ (sym (get_or-insert_above (take n (drop i C)) k e d (j - 1) (omega arith) (omega arith))
    ∙ ap (λ (z : ℕ). get_or (insert (take n (drop i C)) k e) z d) m))))))
    (cases_order j k))

pub gap_rest : {E : Type 0} (C D : List E) (i k n : ℕ) (e : E) → k ≤ n → Right C D (i + k) (i + n)
    → (j : ℕ) (d : E) → (j < i) ⊎ (i + n < j) → get_or (set D (i + k) e) j d ≡ get_or C j d
gap_rest C D i k n e le r j d = ⊎_elim
    (λ (q : j < i). get_or-set_other D (i + k) j e d (omega arith) ∙ r.0 j d (omega arith))
    (λ (q : i + n < j). get_or-set_other D (i + k) j e d (omega arith) ∙ r.2 j d q)

-- the gap at slot k of the n cells from i on closed
pub gap_closed : {E : Type 0} (C D : List E) (i k n : ℕ) → i + n ≤ length C → length D ≡ length C → k < n → Left C D (i + k) (i + n)
    → take (n - 1) (drop i D) ≡ without (take n (drop i C)) k
gap_closed {E} C D i k n h ld l m =
    let xs : List E = take n (drop i C) in
    let a = window_length D i (n - 1) (omega arith) in
    let b : length xs ≡ n = window_length C i n h in
    let rm : without xs k ≡ remove xs k = ap (λ (q : ℕ). take k xs ++ drop q xs) (add-one k) in
    let lr : length (without xs k) + 1 ≡ n = ap (λ (ys : List E). length ys + 1) rm ∙ length-remove xs k (omega arith) ∙ b in
    same_lists _ _ (omega arith) (λ (j : ℕ) (d : E) lj. window_at D i (n - 1) j d (omega arith) ∙ elim (cases_lt j k) [
      | inl x ↦ m.0 (i + j) d (omega arith) ∙ sym (window_at C i n j d (omega arith)) ∙ sym (get_or-remove_below xs k d j x (omega arith))
      | inr x ↦
          m.1 (i + j) d (omega arith) (omega arith) ∙ ap (λ (q : ℕ). get_or C q d) (let z : i + j + 1 ≡ i + (j + 1) = omega arith in z) ∙ sym (window_at C i n (j + 1) d (omega arith))
          ∙ sym (get_or-remove_above xs k d j x (omega arith))
    ] ∙ ap (λ (ys : List E). get_or ys j d) (sym rm))
