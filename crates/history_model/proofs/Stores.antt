-- What the calls on a tiered store do to its groups, by the length of the run that is altered.
use Rattle.std.proofs.Common.{◌≡◌, ℕ, zero, suc, ◌+◌, ◌-◌, ◌^◌, ◌<◌, ◌≤◌, max, Bool, true, false, cond, eqb, leb, List, [], ◌∷◌, length, set, Some, None, sym, refl, ap, ◌∙◌, subst, inl, inr, add-one, arith, length-set}
use mathlib.Core.Path.{fun_ext}
use Rattle.std.proofs.lemmas.Bool.{cond_both, cases_lt, cases_eq}
use Rattle.bitmap.specs.Ranks.{rank}
use Rattle.runs.specs.Lists.{empty, indexes, at, with_new, without}
use Rattle.runs.specs.Refusals.{refusal, Grant}
use Rattle.runs.specs.Runs.{Moved, tally, grows, shrinks, no_entry, no_insert, no_remove}
use Rattle.runs.specs.Sizes.{size, one}
use Rattle.runs.specs.declared.entry.NodeRow.{NodeRow}
use Rattle.runs.proofs.Counts.{put_same, put_other, tally_put}
use Rattle.tiered_model.specs.Tiered.{State, tiered, can, change, growth, shrinkage, put, held, kept, ended, size_at}
use Rattle.tiered_model.specs.Groups.{Valid, Most, of_size, standing, groups, cells_of}
use Rattle.tiered_model.specs.Laws.{exchanging, opening, inserting, removing, Iff}
use Rattle.tiered_model.proofs.Asking.{grows_is, shrinks_is, exchange_told, remove_told}
use Rattle.tiered_model.proofs.Lawful.{lawful, claims, length_with_new, length_without}
use Rattle.tiered_model.proofs.Sums.{counted}
use Rattle.table_model.specs.States.{Place, top, slot, grown, written_nodes}
use Rattle.table_model.specs.Judged.{no_growth, no_write}
use Rattle.table_model.proofs.Moves.{moved_new, growing_moved, removing_moved}
use Rattle.table_model.proofs.States.{grown_law}
use Rattle.history_model.specs.Books.{in_group}

-- ---- sums over runs, where one run moves

at_own : {E : Type 0} (m : ℕ → List E) (i : ℕ) → at m i (m i) ≡ m
at_own m i = fun_ext (λ j. elim (cases_eq j i) [
  | inl e ↦ ap (at m i (m i)) e ∙ put_same m i (m i) ∙ ap m (sym e)
  | inr n ↦ put_other m i j (m i) n
])

module _ {E : Type 0} (g : List E → ℕ) (none : g [] ≡ 0) where
  hollow : (m : ℕ → List E) (i : ℕ) (xs : List E) → (indexes ≤ i → (m i ≡ []) × (xs ≡ [])) → tally g (at m i xs) indexes + g (m i) ≡ tally g m indexes + g xs
  hollow m i xs h = elim (cases_lt i indexes) [
    | inl l ↦ tally_put g m i xs indexes l
    | inr l ↦ omega (arith, above (h l), ap g (h l).0, ap g (h l).1)
  ]
    where
      above : (m i ≡ []) × (xs ≡ []) → tally g (at m i xs) indexes ≡ tally g m indexes
      above z = ap (λ (ys : List E). tally g (at m i ys) indexes) (z.1 ∙ sym z.0) ∙ ap (λ (f : ℕ → List E). tally g f indexes) (at_own m i)

  moved_tally : (m : ℕ → List E) (i j : ℕ) (xs : List E) (m2 : ℕ → List E) → ((k : ℕ) → indexes ≤ k → m k ≡ []) → ((k : ℕ) → indexes ≤ k → m2 k ≡ []) → Moved m i j xs m2 → tally g m2 indexes + g (m i) ≡ tally g m indexes + g xs
  moved_tally m i j xs m2 low low2 h =
      let one = hollow m i [] (λ l. (low i l, refl)) in
      let two = hollow (at m i []) j xs (λ l. (h.free, sym (moved_new m i j xs m2 h) ∙ low2 j l)) in
      omega (arith, ap (λ (f : ℕ → List E). tally g f indexes) h.is, ap g h.free)

-- ---- steps of a store

sized : {E : Type 0} (longest z : ℕ) (xs : List E) → of_size longest z xs ≡ in_group longest z (length xs)
sized longest z [] = refl
sized longest z (x ∷ xs) = refl

-- from s to u, by calls of which one at most alters a length, m before and n after; 0 is that of no run
pub record Went {E : Type 0} (longest : ℕ) (s u : State E) (m n : ℕ) : Type 0 where
  pub valid : Valid longest u
  pub most : Most longest s u
  pub turned : (z : ℕ) → standing longest u z + in_group longest z m ≡ standing longest s z + in_group longest z n
  pub cells : u.cells ≡ s.cells

module _ {E : Type 0} (longest : ℕ) (la : 31 ≤ longest) (lb : longest ≤ 32) where
  pub went_none : (s : State E) → Valid longest s → Went longest s s 0 0
  went_none s v = record { valid = v; most = λ z. omega arith; turned = λ z. refl; cells = refl }

  low_of : (s : State E) → Valid longest s → (k : ℕ) → indexes ≤ k → s.live k ≡ []
  low_of s v k l = (lawful longest la lb).low s k v l

  went_moved : (s u : State E) (i j : ℕ) (xs : List E) (m n : ℕ) → Valid longest s → Valid longest u → Moved s.live i j xs u.live → length (s.live i) ≡ m → length xs ≡ n → (z : ℕ) → standing longest u z + in_group longest z m ≡ standing longest s z + in_group longest z n
  went_moved s u i j xs m n v w h em en z =
      omega (
        arith,
        moved_tally (of_size longest z) refl s.live i j xs u.live (low_of s v) (low_of u w) h,
        sized longest z (s.live i) ∙ ap (in_group longest z) em,
        sized longest z xs ∙ ap (in_group longest z) en,
      )

  -- an entry written anew alters nothing that is counted
  pub went_exchanged : (s u : State E) (m n i k : ℕ) (e : E) → Went longest s u m n → no_entry (tiered longest) u i k ≡ None → Went longest s ((tiered longest).exchanged u i k e) m n
  went_exchanged s u m n i k e h y =
      let x : State E = (tiered longest).exchanged u i k e in
      let c = (claims longest la lb).call u x h.valid (exchanging i k e y) in
      let told = exchange_told longest u i k y in
      let same : (z : ℕ) → of_size longest z (set (u.live i) k e) ≡ of_size longest z (u.live i) = λ z. sized longest z (set (u.live i) k e) ∙ ap (in_group longest z) (length-set (u.live i) k e) ∙ sym (sized longest z (u.live i)) in
      let stands : (z : ℕ) → standing longest x z ≡ standing longest u z = λ z. omega (arith, hollow (of_size longest z) refl u.live i (set (u.live i) k e) (λ l. absurd (omega (arith, told.0, ap length (low_of u h.valid i l)))), same z) in
      record { valid = c.0; most = λ z. omega (arith, c.1 z, h.most z, stands z); turned = λ z. omega (arith, h.turned z, stands z); cells = h.cells }

  -- a run opened, or one entry more
  pub went_grown : (s : State E) → Valid longest s → (w bitmap i b : ℕ) (e : E) → length (s.live i) ≡ rank bitmap w → bitmap < 2 ^ w → (bitmap ≡ 0 → i ≡ empty) → (i ≡ empty → rank bitmap b ≡ 0) → b ≤ w → rank bitmap b ≤ rank bitmap w
      → grows (tiered longest) s (rank bitmap w) ≡ None → no_growth (tiered longest) s bitmap i (rank bitmap b) ≡ None → Went longest s (grown (tiered longest) s bitmap i (rank bitmap b) e).0 (rank bitmap w) (rank bitmap w + 1)
  went_grown s v w bitmap i b e full fits none first low up y g =
      let k : ℕ = rank bitmap b in
      let law = grown_law (tiered longest) longest (Valid longest) (lawful longest la lb) w s v bitmap i b e full fits none low y in
      let u : State E = (grown (tiered longest) s bitmap i k e).0 in
      let moved = growing_moved s.live i k e (grown (tiered longest) s bitmap i k e).1 u.live (low_of s v empty (omega arith)) first law.1 in
      let rest = go k (eqb bitmap 0) g in
      record {
        valid = law.0;
        most = rest.0;
        turned = went_moved s u i (grown (tiered longest) s bitmap i k e).1 (with_new (s.live i) k e) (rank bitmap w) (rank bitmap w + 1) v law.0 moved full (length_with_new (s.live i) k e (omega arith) ∙ ap (λ (n : ℕ). n + 1) full);
        cells = rest.1;
      }
    where
      put_cells : (i : ℕ) (xs : List E) → (put longest s i xs).cells ≡ s.cells
      put_cells i xs = cond_both (eqb (size_at longest s i) (size longest (length xs))) (kept s i xs) (ended (held s (size longest (length xs)) xs) (size_at longest s i) i) (λ (x : State E). x.cells ≡ s.cells) (λ _. refl) (λ _. refl)

      go : (k : ℕ) (x : Bool) → cond x (grows (tiered longest) s 0) (no_insert (tiered longest) s i k) ≡ None →
          Most longest s (cond {A = State E × ℕ} x ((tiered longest).opened s e, (tiered longest).opened_at s e) ((tiered longest).inserted s i k e, (tiered longest).inserted_at s i k e)).0
          × ((cond {A = State E × ℕ} x ((tiered longest).opened s e, (tiered longest).opened_at s e) ((tiered longest).inserted s i k e, (tiered longest).inserted_at s i k e)).0.cells ≡ s.cells)
      go k true y = (((claims longest la lb).call s ((tiered longest).opened s e) v (opening e y)).1, refl)
      go k false y = (((claims longest la lb).call s ((tiered longest).inserted s i k e) v (inserting i k e y)).1, put_cells i (with_new (s.live i) k e))

  -- one entry less, or a run that ends
  pub went_removed : (s : State E) → Valid longest s → (i k m : ℕ) → length (s.live i) ≡ m → no_remove (tiered longest) s i k ≡ None → Went longest s ((tiered longest).removed s i k) m (m - 1)
  went_removed s v i k m full y =
      let u : State E = (tiered longest).removed s i k in
      let c = (claims longest la lb).call s u v (removing i k y) in
      let inside : k < length (s.live i) = (remove_told longest s i k y (v.short i)).0 in
      let law = (lawful longest la lb).removing s i k v y in
      let moved = removing_moved s.live i k ((tiered longest).removed_at s i k) u.live (low_of s v empty (omega arith)) inside law.1 in
      record {
        valid = c.0;
        most = c.1;
        turned = went_moved s u i ((tiered longest).removed_at s i k) (without (s.live i) k) m (m - 1) v c.0 moved full (omega (arith, length_without (s.live i) k inside));
        cells = cond_both (eqb (length (s.live i)) 1) (ended s 1 i) (put longest s i (without (s.live i) k)) (λ (x : State E). x.cells ≡ s.cells) (λ _. refl)
            (λ _. cond_both (eqb (size_at longest s i) (size longest (length (without (s.live i) k)))) (kept s i (without (s.live i) k)) (ended (held s (size longest (length (without (s.live i) k))) (without (s.live i) k)) (size_at longest s i) i) (λ (x : State E). x.cells ≡ s.cells) (λ _. refl) (λ _. refl));
      }

-- a record written back
pub went_written : (s u : State NodeRow) (m n : ℕ) (pl : Place) (r : NodeRow) → Went 32 s u m n → no_write (tiered 32) u pl ≡ None → Went 32 s (written_nodes (tiered 32) u pl r) m n
went_written s u m n top r h y = h
went_written s u m n (slot i k) r h y = went_exchanged 32 (omega arith) (omega arith) s u m n i k r h y

-- ---- answers of a store

-- yes, or refused 23 with no layer crossed
pub data Told (g : Grant) : Type 0 where
  granted : g ≡ None → Told g
  short : g ≡ Some (refusal 23 (0 ∷ [])) → Told g

told_if : (b : Bool) → Told (cond b None (Some (refusal 23 (0 ∷ []))))
told_if true = granted refl
told_if false = short refl

told_as : (g h : Grant) → g ≡ h → Told h → Told g
told_as g h e (granted y) = granted (e ∙ y)
told_as g h e (short y) = short (e ∙ y)

module _ {E : Type 0} (longest : ℕ) (la : 31 ≤ longest) (lb : longest ≤ 32) (s : State E) where
  told_change : (z y : ℕ) (b : Bool) → Told (cond b None (can s y))
  told_change z y true = granted refl
  told_change z y false = told_if _

  told_growth : (n : ℕ) (b : Bool) → Told (cond b (can s 1) (change s (size longest n) (size longest (n + 1))))
  told_growth n true = told_if _
  told_growth n false = told_change (size longest n) (size longest (n + 1)) (eqb (size longest n) (size longest (n + 1)))

  pub told_grows : (n : ℕ) → n < longest → Told (grows (tiered longest) s n)
  told_grows n l = told_as (grows (tiered longest) s n) (growth longest s n) (grows_is longest s n l) (told_growth n (eqb n 0))

  told_shrinkage : (n : ℕ) (b : Bool) → Told (cond b None (change s (size longest n) (size longest (n - 1))))
  told_shrinkage n true = granted refl
  told_shrinkage n false = told_change (size longest n) (size longest (n - 1)) (eqb (size longest n) (size longest (n - 1)))

  pub told_shrinks : (n : ℕ) → 1 ≤ n → n ≤ longest → Told (shrinks (tiered longest) s n)
  told_shrinks n l h = told_as (shrinks (tiered longest) s n) (shrinkage longest s n) (shrinks_is longest s n l h) (told_shrinkage n (leb n 1))

  module _ (v : Valid longest s) (after : ℕ → ℕ) where
    abbrev pub Fits : Grant → Type 0
    Fits g = Iff (g ≡ None) (cells_of longest (λ z. max (groups longest s z) (after z)) ≤ s.cells)

    next_size : (n z : ℕ) → in_group longest z (n + 1) ≡ one (size longest (n + 1)) z
    next_size n z = ap (in_group longest z) (add-one n) ∙ ap (λ (k : ℕ). one (size longest k) z) (sym (add-one n))

    pub fits_grow : (n : ℕ) → n < longest → ((z : ℕ) → after z + in_group longest z n ≡ standing longest s z + in_group longest z (n + 1)) → Fits (grows (tiered longest) s n)
    fits_grow zero l h = (counted longest la lb).opening s after v (λ z. omega (arith, h z, next_size 0 z))
    fits_grow (suc m) l h = (counted longest la lb).growing s (suc m) after v (omega arith) l (λ z. omega (arith, h z, next_size (suc m) z))

    pub fits_shrink : (n : ℕ) → 1 ≤ n → n ≤ longest → ((z : ℕ) → after z + in_group longest z n ≡ standing longest s z + in_group longest z (n - 1)) → Fits (shrinks (tiered longest) s n)
    fits_shrink zero a b h = absurd (omega arith)
    fits_shrink (suc zero) a b h = (counted longest la lb).ending s after v (λ z. omega (arith, h z))
    fits_shrink (suc (suc m)) a b h =
        subst (λ (k : ℕ). Iff (shrinks (tiered longest) s k ≡ None) (cells_of longest (λ z. max (groups longest s z) (after z)) ≤ s.cells)) (add-one (suc m))
        ((counted longest la lb).shrinking s (suc m) after v (omega arith) (omega arith) (λ z. omega (arith, h z, next_size (suc m) z, ap (in_group longest z) (add-one (suc m)), ap (in_group longest z) one_less)))
      where
        one_less : suc (suc m) - 1 ≡ suc m
        one_less = omega arith
