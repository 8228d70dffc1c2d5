-- The cells of one group written: an entry, a gap opened or closed.
use Rattle.std.proofs.Common.{◌≡◌, ℕ, ◌+◌, ◌-◌, ◌<◌, ◌≤◌, Bool, true, false, cond, eqb, ◌⊎◌, List, [], ◌∷◌, length, get_or, take, drop, set, sym, refl, ap, ◌∙◌, subst, inl, inr, ⊎_elim, arith, length-drop, length-set, length-take, get_or-set_other}
use mathlib.Core.Path.{fun_ext}
use Rattle.std.proofs.lemmas.Bool.{cases_eq}
use Rattle.std.proofs.lemmas.List.{same_lists}
use Rattle.runs.specs.Lists.{indexes, at, with_new, without}
use Rattle.runs.specs.Runs.{one_run, count}
use Rattle.runs.specs.Shift.{Right, Left}
use Rattle.runs.proofs.Counts.{put_same, put_other, tally_put}
use Rattle.flat_model.specs.Flat.{State, others, claiming, group, held, kept, Valid}
use Rattle.flat_model.specs.Places.{of_run}
use Rattle.flat_model.specs.Ledger.{length_w, run_at, state_of, Sound}
use Rattle.flat_model.proofs.Taking.{kept_valid}
use Rattle.flat_model.proofs.Placed.{placed}
use Rattle.flat_model.proofs.Windows.{window_at, set_window, gap_opened, gap_rest, gap_closed}
use Rattle.flat_model.proofs.Words.{state_is, one_of, in_cells, in_ledger, run_resized}

-- ---- states changed twice at one place

again : {X : Type 0} (b : Bool) (x y a : X) → cond b y (cond b x a) ≡ cond b y a
again true x y a = refl
again false x y a = refl

pub kept_kept : {E : Type 0} (s : State E) (i : ℕ) (xs ys : List E) → kept (kept s i xs) i ys ≡ kept s i ys
kept_kept {E} s i xs ys = ap (λ (f : ℕ → List E). record { cells = s.cells; claimed = s.claimed; free = s.free; live = f }) (fun_ext (λ j. again (eqb j i) xs ys (s.live j)))

held_kept : {E : Type 0} (longest : ℕ) (s : State E) (xs ys : List E) → kept (held longest s xs) (group s) ys ≡ held longest s ys
held_kept {E} longest s xs ys = ap (λ (f : ℕ → List E). record { cells = s.cells; claimed = claiming longest s.free s.claimed; free = others s.free; live = f }) (fun_ext (λ j. again (eqb j (group s)) xs ys (s.live j)))

pub held_live : {E : Type 0} (longest : ℕ) (s t : State E) (g : ℕ) (xs : List E) → g ≡ group s → t ≡ held longest s xs → t.live g ≡ xs
held_live {E} longest s t g xs eg e = ap (λ (u : State E). u.live g) e ∙ ap (at s.live (group s) xs) eg ∙ put_same s.live (group s) xs

set_one : {E : Type 0} (xs : List E) (e : E) → length xs ≡ 1 → set xs 0 e ≡ e ∷ []
set_one [] e h = absurd (omega arith)
set_one (x ∷ []) e h = refl
set_one (x ∷ y ∷ xs) e h = absurd (omega arith)

-- a run of one entry held, and then its entry written
pub opened_by : {E : Type 0} (longest : ℕ) (s t u : State E) (g : ℕ) (xs : List E) (e : E) → g ≡ group s → length xs ≡ 1 → t ≡ held longest s xs → u ≡ kept t g (set (t.live g) 0 e) → u ≡ held longest s (e ∷ [])
opened_by {E} longest s t u g xs e eg lx et eu =
    eu ∙ ap (λ (ys : List E). kept t g (set ys 0 e)) (held_live longest s t g xs eg et) ∙ ap (λ (ys : List E). kept t g ys) (set_one xs e lx)
    ∙ ap (λ (v : State E). kept v g (e ∷ [])) et ∙ ap (λ (j : ℕ). kept (held longest s xs) j (e ∷ [])) eg ∙ held_kept longest s xs (e ∷ [])

-- ---- cells of one group written

module _ {E : Type 0} (longest : ℕ) (la : 31 ≤ longest) (lb : longest ≤ 32) (C : List E) (L : List ℕ) (c h r : ℕ) (s : Sound longest C L c h r) (i n : ℕ) (e : length (run_at C L i) ≡ n) (l : 1 ≤ n) where
  run_is : (D : List E) → run_at D L i ≡ take n (drop i D)
  run_is D = ap (λ (k : ℕ). take k (drop i D)) (sym (s.long i) ∙ e)

  -- cells written within the group of the run at i
  rewritten : (D : List E) → length D ≡ length C → ((k : ℕ) (d : E) → (k < i) ⊎ (i + longest ≤ k) → get_or D k d ≡ get_or C k d)
      → (state_of D L c h ≡ kept (state_of C L c h) i (run_at D L i)) × Sound longest D L c h r
  rewritten D ld out =
      let P = placed longest la lb (state_of C L c h) s.valid in
      let len : (j : ℕ) → length (run_at D L j) ≡ length_w (get_or L j 0) = λ j. simp (length-take, length-drop) (omega (arith, simp (length-take, length-drop) at (s.long j))) in
      let other : (j : ℕ) → (j ≡ i → ⊥) → run_at D L j ≡ run_at C L j =
      λ j ne. same_lists _ _ (omega (arith, len j, s.long j)) (λ (k : ℕ) (d : E) lk.
      let jk : k < length_w (get_or L j 0) = omega (arith, len j) in
      let jl : 1 ≤ length (run_at C L j) = omega (arith, s.long j) in
      window_at D j (length_w (get_or L j 0)) k d jk
      ∙ out (j + k) d (elim (P.apart i j (of_run (omega arith)) (of_run jl) (λ q. ne (sym q))) [ inl x ↦ inr (omega arith) | inr x ↦ inl (omega (arith, P.room j, s.long j)) ])
      ∙ sym (window_at C j (length_w (get_or L j 0)) k d jk)) in
      let lv : run_at D L ≡ at (run_at C L) i (run_at D L i) =
      fun_ext (λ j. elim (cases_eq j i) [
        | inl q ↦ ap (run_at D L) q ∙ sym (put_same (run_at C L) i (run_at D L i)) ∙ ap (at (run_at C L) i (run_at D L i)) (sym q)
        | inr ne ↦ other j ne ∙ sym (put_other (run_at C L) i j (run_at D L i) ne)
      ]) in
      let same : length (run_at D L i) ≡ length (run_at C L i) = len i ∙ sym (s.long i) in
      let st : state_of D L c h ≡ kept (state_of C L c h) i (run_at D L i) = state_is D L c h (kept (state_of C L c h) i (run_at D L i)) ld refl refl lv in (
        st,
        record {
          same = s.same ∙ sym ld;
          long = len;
          ends = s.ends;
          counted = omega (
            arith,
            s.counted,
            tally_put one_run (run_at C L) i (run_at D L i) indexes (omega (arith, in_ledger longest la lb C L c h r s i (omega arith), s.same, s.valid.within)),
            one_of (run_at C L i) (omega arith),
            one_of (run_at D L i) (omega arith),
            ap (λ (f : ℕ → List E). count f) lv,
          );
          valid = subst (λ (k : State E). Valid longest k) (sym st) (kept_valid longest la lb (state_of C L c h) s.valid i (omega arith) (run_at D L i) (omega (arith, s.valid.short i)));
        },
      )

  -- the same, and the run has m entries now, which are ys
  regrown : (D ys : List E) (m : ℕ) → length D ≡ length C → ((k : ℕ) (d : E) → (k < i) ⊎ (i + longest ≤ k) → get_or D k d ≡ get_or C k d) → 1 ≤ m → m ≤ longest → take m (drop i D) ≡ ys
      → (state_of D (set L i m) c h ≡ kept (state_of C L c h) i ys) × Sound longest D (set L i m) c h r
  regrown D ys m ld out hm hl w =
      let a = rewritten D ld out in
      let some : 1 ≤ length (run_at D L i) = omega (arith, a.1.long i, s.long i) in
      let b = run_resized longest la lb D L c h r a.1 i some m hm hl in
      (b.0 ∙ ap (λ (t : State E). kept t i (take m (drop i D))) a.0 ∙ kept_kept (state_of C L c h) i (run_at D L i) (take m (drop i D)) ∙ ap (λ (zs : List E). kept (state_of C L c h) i zs) w, b.1)

  -- its group lies in the cells, and has room for it
  pub room : (i + longest ≤ length C) × (n ≤ longest)
  room = (in_cells longest la lb C L c h r s i (omega arith), omega (arith, s.valid.short i))

  pub replaced : (k : ℕ) (x : E) → k < n → (state_of (set C (i + k) x) L c h ≡ kept (state_of C L c h) i (set (run_at C L i) k x)) × Sound longest (set C (i + k) x) L c h r
  replaced k x lk =
      let w = room in
      let a = rewritten (set C (i + k) x) (length-set C (i + k) x) (λ j d o. get_or-set_other C (i + k) j x d (λ q. ⊎_elim (λ (y : j < i). omega arith) (λ (y : i + longest ≤ j). omega (arith, w.1)) o)) in
      (a.0 ∙ ap (λ (zs : List E). kept (state_of C L c h) i zs) (run_is (set C (i + k) x) ∙ set_window C i k n x (omega (arith, w.0, w.1)) lk ∙ ap (λ (xs : List E). set xs k x) (sym (run_is C))), a.1)

  -- a gap opened at slot k, and an entry written there
  module _ (D : List E) (k : ℕ) (lk : k ≤ n) (ln : n < longest) (ld : length D ≡ length C) (rt : Right C D (i + k) (i + n)) where
    pub gap_sound : Sound longest D L c h r
    gap_sound = (rewritten D ld (λ j d o. ⊎_elim (λ (y : j < i). rt.0 j d (omega arith)) (λ (y : i + longest ≤ j). rt.2 j d (omega arith)) o)).1

    module _ (x : E) where
      outside : (j : ℕ) (d : E) → (j < i) ⊎ (i + longest ≤ j) → get_or (set D (i + k) x) j d ≡ get_or C j d
      outside j d o = gap_rest C D i k n x lk rt j d (⊎_elim (λ (y : j < i). inl y) (λ (y : i + longest ≤ j). inr (omega arith)) o)

      pub written_sound : Sound longest (set D (i + k) x) L c h r
      written_sound = (rewritten (set D (i + k) x) (length-set D (i + k) x ∙ ld) outside).1

      pub put_in : (state_of (set D (i + k) x) (set L i (n + 1)) c h ≡ kept (state_of C L c h) i (with_new (run_at C L i) k x)) × Sound longest (set D (i + k) x) (set L i (n + 1)) c h r
      put_in =
          regrown (set D (i + k) x) (with_new (run_at C L i) k x) (n + 1) (length-set D (i + k) x ∙ ld) outside (omega arith) (omega arith)
          (gap_opened C D i k n x lk (omega (arith, room.0)) ld rt ∙ ap (λ (xs : List E). with_new xs k x) (sym (run_is C)))

  -- the gap at slot k closed
  module _ (D : List E) (k : ℕ) (lk : k < n) (ld : length D ≡ length C) (lt : Left C D (i + k) (i + n)) where
    beyond : (j : ℕ) (d : E) → (j < i) ⊎ (i + longest ≤ j) → get_or D j d ≡ get_or C j d
    beyond j d o = ⊎_elim (λ (y : j < i). lt.0 j d (omega arith)) (λ (y : i + longest ≤ j). lt.2 j d (omega (arith, room.1))) o

    pub closed_sound : Sound longest D L c h r
    closed_sound = (rewritten D ld beyond).1

    pub taken_out : 1 < n → (state_of D (set L i (n - 1)) c h ≡ kept (state_of C L c h) i (without (run_at C L i) k)) × Sound longest D (set L i (n - 1)) c h r
    taken_out more =
        regrown D (without (run_at C L i) k) (n - 1) ld beyond (omega arith) (omega (arith, room.1))
        (gap_closed C D i k n (omega (arith, room.0, room.1)) ld lk lt ∙ ap (λ (xs : List E). without xs k) (sym (run_is C)))
