-- One word of the ledger written: what becomes of the state, and that the memory stays sound.
use Rattle.std.proofs.Common.{◌≡◌, ℕ, ◌+◌, ◌-◌, ◌*◌, ◌<◌, ◌≤◌, true, ◌||◌, leb, List, [], ◌∷◌, length, get_or, take, drop, set, sym, refl, ap, ◌∙◌, subst, inl, inr, arith, length-set, get_or-set_other, get_or-set_same, rules}
use mathlib.Core.Path.{fun_ext}
use Rattle.std.proofs.lemmas.Bool.{cases_eq, le-leb, leb-true}
use Rattle.runs.specs.Lists.{indexes, at}
use Rattle.runs.specs.Runs.{one_run, count}
use Rattle.runs.specs.Sizes.{one, times}
use Rattle.runs.proofs.Counts.{put_same, put_other, tally_put}
use Rattle.runs.proofs.Sizes.{one_same}
use Rattle.flat_model.specs.Flat.{State, next, some_free, has, group, held_from, held, released, kept, Valid}
use Rattle.flat_model.specs.Ledger.{length_w, link_w, run_at, Linked, freed_from, state_of, Sound}
use Rattle.flat_model.proofs.Taking.{low, not_freed, held_valid, released_valid, kept_valid}
use Rattle.flat_model.proofs.Chains.{chain_is, linked_set, front_of, link_low, none_linked, tally_low, once_short}
use Rattle.flat_model.proofs.Windows.{window_length}

pub state_is : {E : Type 0} (C : List E) (L : List ℕ) (c h : ℕ) (t : State E)
    → length C ≡ t.cells → c ≡ t.claimed → freed_from L h ≡ t.free → run_at C L ≡ t.live → state_of C L c h ≡ t
state_is {E} C L c h t a b f l =
    ap (λ (k : ℕ). record { cells = k; claimed = c; free = freed_from L h; live = run_at C L }) a
    ∙ ap (λ (k : ℕ). record { cells = t.cells; claimed = k; free = freed_from L h; live = run_at C L }) b
    ∙ ap (λ (k : List ℕ). record { cells = t.cells; claimed = t.claimed; free = k; live = run_at C L }) f
    ∙ ap (λ (k : ℕ → List E). record { cells = t.cells; claimed = t.claimed; free = t.free; live = k }) l

runs_set : {E : Type 0} (C : List E) (L : List ℕ) (p w : ℕ) → p < length L → run_at C (set L p w) ≡ at (run_at C L) p (take (length_w w) (drop p C))
runs_set {E} C L p w h = fun_ext (λ j. elim (cases_eq j p) [
  | inl e ↦ ap (run_at C (set L p w)) e ∙ ap (λ (k : ℕ). take (length_w k) (drop p C)) (get_or-set_same L p w 0 h) ∙ sym (put_same (run_at C L) p (take (length_w w) (drop p C)))
      ∙ ap (at (run_at C L) p (take (length_w w) (drop p C))) (sym e)
  | inr ne ↦ ap (λ (k : ℕ). take (length_w k) (drop j C)) (get_or-set_other L p j w 0 ne) ∙ sym (put_other (run_at C L) p j (take (length_w w) (drop p C)) ne)
])

pub one_of : {E : Type 0} (xs : List E) → 1 ≤ length xs → one_run xs ≡ 1
one_of [] h = absurd (omega arith)
one_of (x ∷ xs) h = refl

length_word : (n : ℕ) → n < 64 → length_w n ≡ n
length_word n h = search rules

length_link : (k : ℕ) → length_w (64 * k) ≡ 0
length_link k = search rules

link_link : (k : ℕ) → link_w (64 * k) ≡ k
link_link k = search rules

module _ {E : Type 0} (longest : ℕ) (la : 31 ≤ longest) (lb : longest ≤ 32) where
  -- the freed groups are different cells
  free_short : (s : State E) → Valid longest s → length s.free ≤ s.cells
  free_short s v = once_short s.free s.cells v.once (λ i h. omega (arith, (v.freed i h).0.1, v.enough))

  module _ (C : List E) (L : List ℕ) (c h r : ℕ) (s : Sound longest C L c h r) where
    pub runs_low : r ≤ indexes
    runs_low = omega (arith, s.counted, tally_low (run_at C L) indexes)

    free_low : (i : ℕ) → 1 ≤ times i (freed_from L h) → i < length L
    free_low i l = omega (arith, (s.valid.freed i l).0.1, s.valid.enough, s.same)

    -- the word at p becomes w: t is the state that this leads to
    write : (p w c' h' r' : ℕ) (t : State E) → Valid longest t → p < length L → t.cells ≡ length C → t.claimed ≡ c' → t.live ≡ at (run_at C L) p (take (length_w w) (drop p C))
        → length (take (length_w w) (drop p C)) ≡ length_w w → Linked (set L p w) h' t.free → r' + one_run (run_at C L p) ≡ r + one_run (take (length_w w) (drop p C))
        → (state_of C (set L p w) c' h' ≡ t) × Sound longest C (set L p w) c' h' r'
    write p w c' h' r' t v pl ec ek el fit free cnt =
        let len : length (set L p w) ≡ length L = length-set L p w in
        let fr : freed_from (set L p w) h' ≡ t.free = chain_is (set L p w) (length (set L p w)) h' t.free free (omega (arith, free_short t v, s.same)) in
        let st : state_of C (set L p w) c' h' ≡ t = state_is C (set L p w) c' h' t (sym ec) (sym ek) fr (runs_set C L p w pl ∙ sym el) in (
          st,
          record {
            same = omega (arith, s.same);
            long = λ i. elim (cases_eq i p) [
              | inl e ↦
                  let q : get_or (set L p w) i 0 ≡ w = ap (λ (k : ℕ). get_or (set L p w) k 0) e ∙ get_or-set_same L p w 0 pl in
                  ap (λ (k : ℕ). length (take (length_w k) (drop i C))) q ∙ ap (λ (k : ℕ). length (take (length_w w) (drop k C))) e ∙ fit ∙ ap length_w (sym q)
              | inr ne ↦ subst (λ (k : ℕ). length (take (length_w k) (drop i C)) ≡ length_w k) (sym (get_or-set_other L p i w 0 ne)) (s.long i)
            ];
            ends = subst (λ (ps : List ℕ). Linked (set L p w) h' ps) (sym fr) free;
            counted = omega (
              arith,
              s.counted,
              cnt,
              tally_put one_run (run_at C L) p (take (length_w w) (drop p C)) indexes (omega (arith, s.same, s.valid.within)),
              ap (λ (f : ℕ → List E). count f) (runs_set C L p w pl),
            );
            valid = subst (λ (k : State E). Valid longest k) (sym st) v;
          },
        )

    -- ---- a group taken for a run of one entry, whatever its cell holds

    none_freed : h ≡ 0 → freed_from L h ≡ []
    none_freed e = none_linked L (freed_from L h) (subst (λ (m : ℕ). Linked L m (freed_from L h)) e s.ends)

    claims : h ≡ 0 → has longest (state_of C L c h) ≡ true → c + longest ≤ length C
    claims e t = leb-true (c + longest) (length C) (ap (λ (fs : List ℕ). some_free fs || leb (c + longest) (length C)) (sym (none_freed e)) ∙ t)

    -- the next unclaimed group, whose size the code has as m
    pub claimed_next : (m : ℕ) → m ≡ longest → h ≡ 0 → has longest (state_of C L c h) ≡ true → (c ≡ group (state_of C L c h))
        × (state_of C (set L c 1) (c + m) h ≡ held longest (state_of C L c h) (take 1 (drop c C)))
        × Sound longest C (set L c 1) (c + m) h (r + 1)
    claimed_next m em e t =
        let room : c + longest ≤ length C = claims e t in
        let n : freed_from L h ≡ [] = none_freed e in
        let fit : length (take 1 (drop c C)) ≡ 1 = window_length C c 1 (omega arith) in
        let a = write c 1 (c + m) h (r + 1) (held_from longest (state_of C L c h) [] (take 1 (drop c C)))
        (held_valid longest la lb (state_of C L c h) s.valid (take 1 (drop c C)) (omega arith) [] n (le-leb (c + longest) (length C) room))
        (omega (arith, s.same)) refl (omega arith) refl fit e
        (omega (arith, ap one_run (low longest la lb (state_of C L c h) s.valid c (omega arith)), one_of (take 1 (drop c C)) (omega arith))) in
        (ap (λ (l : List ℕ). next l c) (sym n), a.0 ∙ ap (λ (l : List ℕ). held_from longest (state_of C L c h) l (take 1 (drop c C))) (sym n), a.1)

    module _ (hd : 0 < h) where
      front : (qs : List ℕ) × (freed_from L h ≡ (h - 1) ∷ qs) × Linked L (link_w (get_or L (h - 1) 0)) qs
      front = front_of L h (freed_from L h) s.ends hd

      in_front : (q : ℕ) → times q (freed_from L h) ≡ one (h - 1) q + times q front.0
      in_front q = ap (times q) front.1

      pub front_low : (h - 1 < length L) × (link_w (get_or L (h - 1) 0) ≤ length L)
      front_low = (
        free_low (h - 1) (omega (arith, in_front (h - 1), one_same (h - 1))),
        link_low L (link_w (get_or L (h - 1) 0)) (length L) front.0 front.2 (λ q l. free_low q (omega (arith, in_front q))),
      )

      -- the group freed last
      pub used_again : (h - 1 ≡ group (state_of C L c h))
          × (state_of C (set L (h - 1) 1) c (link_w (get_or L (h - 1) 0)) ≡ held longest (state_of C L c h) (take 1 (drop (h - 1) C)))
          × Sound longest C (set L (h - 1) 1) c (link_w (get_or L (h - 1) 0)) (r + 1)
      used_again =
          let p : ℕ = h - 1 in
          let k : ℕ = link_w (get_or L p 0) in
          let qs = front.0 in
          let e : freed_from L h ≡ p ∷ qs = front.1 in
          let here : 1 ≤ times p (freed_from L h) = omega (arith, in_front p, one_same p) in
          let fit : length (take 1 (drop p C)) ≡ 1 = window_length C p 1 (omega (arith, front_low.0, s.same)) in
          let a = write p 1 c k (r + 1) (held_from longest (state_of C L c h) (p ∷ qs) (take 1 (drop p C)))
          (held_valid longest la lb (state_of C L c h) s.valid (take 1 (drop p C)) (omega arith) (p ∷ qs) e refl)
          front_low.0 refl refl refl fit
          (linked_set L p 1 k qs (omega (arith, s.valid.once p, in_front p, one_same p)) front.2)
          (omega (arith, ap one_run (s.valid.freed p here).1, one_of (take 1 (drop p C)) (omega arith))) in
          (ap (λ (l : List ℕ). next l c) (sym e), a.0 ∙ ap (λ (l : List ℕ). held_from longest (state_of C L c h) l (take 1 (drop p C))) (sym e), a.1)

    -- ---- the word of a live run

    module _ (i : ℕ) (l : 1 ≤ length (run_at C L i)) where
      -- the cells of its group
      pub in_cells : i + longest ≤ length C
      in_cells = omega (arith, (s.valid.living i l).1, s.valid.enough)

      pub in_ledger : i < length L
      in_ledger = omega (arith, in_cells, s.same)

      pub some_run : 1 ≤ r
      some_run = omega (arith, s.counted, tally_put one_run (run_at C L) i [] indexes (omega (arith, in_ledger, s.same, s.valid.within)), one_of (run_at C L i) l)

      -- the run ends, and its group is freed
      pub run_ends : (state_of C (set L i (64 * h)) c (i + 1) ≡ released (state_of C L c h) i) × Sound longest C (set L i (64 * h)) c (i + 1) (r - 1)
      run_ends =
          let w : ℕ = 64 * h in
          let lw : length_w w ≡ 0 = length_link h in
          let il : i < length L = in_ledger in
          let n : times i (freed_from L h) ≡ 0 = not_freed longest la lb (state_of C L c h) s.valid i l in
          let none : one_run (take (length_w w) (drop i C)) ≡ 0 = ap (λ (m : ℕ). one_run (take m (drop i C))) lw in
          write i w c (i + 1) (r - 1) (released (state_of C L c h) i) (released_valid longest la lb (state_of C L c h) s.valid i l)
          il refl refl (ap (λ (m : ℕ). at (run_at C L) i (take m (drop i C))) (sym lw)) (ap (λ (m : ℕ). length (take m (drop i C))) lw ∙ sym lw)
          (refl, subst (λ (m : ℕ). Linked (set L i w) m (freed_from L h)) (sym (ap link_w (get_or-set_same L i w 0 il) ∙ link_link h)) (linked_set L i w h (freed_from L h) n s.ends))
          (omega (arith, one_of (run_at C L i) l, none, some_run))

      -- the run has m entries now
      pub run_resized : (m : ℕ) → 1 ≤ m → m ≤ longest → (state_of C (set L i m) c h ≡ kept (state_of C L c h) i (take m (drop i C))) × Sound longest C (set L i m) c h r
      run_resized m hm hl =
          let lw : length_w m ≡ m = length_word m (omega arith) in
          let fit : length (take m (drop i C)) ≡ m = window_length C i m (omega (arith, in_cells)) in
          write i m c h r (kept (state_of C L c h) i (take m (drop i C)))
          (kept_valid longest la lb (state_of C L c h) s.valid i l (take m (drop i C)) (omega arith))
          in_ledger refl refl (ap (λ (k : ℕ). at (run_at C L) i (take k (drop i C))) (sym lw)) (ap (λ (k : ℕ). length (take k (drop i C))) lw ∙ fit ∙ sym lw)
          (linked_set L i m h (freed_from L h) (not_freed longest la lb (state_of C L c h) s.valid i l) s.ends)
          (omega (arith, one_of (run_at C L i) l, ap (λ (k : ℕ). one_run (take k (drop i C))) lw, one_of (take m (drop i C)) (omega arith)))
