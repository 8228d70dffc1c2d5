use Rattle.std.proofs.Common.{◌≡◌, ℕ, ◌+◌, ◌-◌, ◌<◌, ◌≤◌, ◌⊎◌, List, length, get_or, take, drop, set, sym, ap, ◌∙◌, ⊎_elim, arith, length-drop, length-set, get_or-set_other, get_or-set_same}
use Rattle.std.specs.List.{insert}
use Rattle.std.proofs.lemmas.List.{same_lists, length-take-le, get_or-take, get_or-drop}
use Rattle.std.proofs.lemmas.List.Edits.{length-insert, get_or-insert_below, get_or-insert_at, get_or-insert_above}
use Rattle.std.proofs.lemmas.Bool.{cases_order}
use Rattle.runs.specs.Shift.{Right}

-- a window of a list: how long it is, and what stands in it
pub window_len : {X : Type 0} (xs : List X) (at n : ℕ) → at + n ≤ length xs → length (take n (drop at xs)) ≡ n
window_len xs at n h = length-take-le n (drop at xs) (simp length-drop (omega arith))

pub window_at : {X : Type 0} (xs : List X) (at n k : ℕ) (d : X) → k < n → get_or (take n (drop at xs)) k d ≡ get_or xs (at + k) d
window_at xs at n k d h = get_or-take n (drop at xs) k d h ∙ get_or-drop at xs k d

pub gap_run : {X : Type 0} (xs ys : List X) (at slot n : ℕ) (e : X) → slot ≤ n → at + n < length xs → length ys ≡ length xs
    → Right xs ys (at + slot) (at + n) → take (n + 1) (drop at (set ys (at + slot) e)) ≡ insert (take n (drop at xs)) slot e
gap_run {X} xs ys at slot n e le room len r =
    let lw = window_len xs at n (omega arith) in
    let ls : length (set ys (at + slot) e) ≡ length ys = length-set ys (at + slot) e in
    let lz : length (take (n + 1) (drop at (set ys (at + slot) e))) ≡ n + 1 = window_len (set ys (at + slot) e) at (n + 1) (omega arith) in
    let li = length-insert (take n (drop at xs)) slot e (omega arith) in
    same_lists _ _ (omega arith) (λ (k : ℕ) (d : X) h.
    window_at (set ys (at + slot) e) at (n + 1) k d (omega arith)
    ∙ ⊎_elim (λ (q : k ≡ slot). simp q (get_or-set_same ys (at + slot) e d (omega arith) ∙ sym (get_or-insert_at (take n (drop at xs)) slot e d (omega arith))))
    (⊎_elim
    (λ (q : k < slot). get_or-set_other ys (at + slot) (at + k) e d (omega arith) ∙ (r.0 (at + k) d (omega arith)
    ∙ (sym (window_at xs at n k d (omega arith)) ∙ sym (get_or-insert_below (take n (drop at xs)) slot e d k q (omega arith)))))
    (λ (q : slot < k).
    let m : (k - 1) + 1 ≡ k = omega arith in
    let m2 : at + k ≡ (at + (k - 1)) + 1 = omega arith in
    get_or-set_other ys (at + slot) (at + k) e d (omega arith)
    ∙ (ap (λ (z : ℕ). get_or ys z d) m2 ∙ (r.1 (at + (k - 1)) d (omega arith) (omega arith)
    ∙ (sym (window_at xs at n (k - 1) d (omega arith)) ∙ (sym (get_or-insert_above (take n (drop at xs)) slot e d (k - 1) (omega arith) (omega arith))
    ∙ ap (λ (z : ℕ). get_or (insert (take n (drop at xs)) slot e) z d) m))))))
    (cases_order k slot))

pub gap_rest : {X : Type 0} (xs ys : List X) (at slot n : ℕ) (e : X) → slot ≤ n → Right xs ys (at + slot) (at + n)
    → (k : ℕ) (d : X) → (k < at) ⊎ (at + n < k) → get_or (set ys (at + slot) e) k d ≡ get_or xs k d
gap_rest xs ys at slot n e le r k d = ⊎_elim
    (λ (q : k < at). get_or-set_other ys (at + slot) k e d (omega arith) ∙ r.0 k d (omega arith))
    (λ (q : at + n < k). get_or-set_other ys (at + slot) k e d (omega arith) ∙ r.2 k d q)
