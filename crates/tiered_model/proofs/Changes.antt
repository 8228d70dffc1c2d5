-- One word of the ledger written, or the cells of one run: what becomes of the state, and that it stays sound.
use Rattle.std.proofs.Common.{◌≡◌, ℕ, zero, suc, ◌+◌, ◌-◌, ◌*◌, ◌<◌, ◌≤◌, true, ◌||◌, leb, ◌⊎◌, List, [], ◌∷◌, length, get_or, take, drop, set, sym, refl, ap, ◌∙◌, subst, inl, inr, mul-le-mul_right, arith, length-drop, length-set, length-take, get_or-set_other, get_or-set_same, rules}
use mathlib.Core.Path.{fun_ext}
use Rattle.std.proofs.lemmas.Bool.{cases_eq, le-leb, leb-true, cond_both}
use Rattle.std.proofs.lemmas.List.{same_lists, take-take}
use Rattle.runs.specs.Lists.{at}
use Rattle.runs.specs.Runs.{tally, one_run, count}
use Rattle.runs.specs.Sizes.{size, capacities, least, one, times}
use Rattle.tiered_model.specs.Tiered.{State, first_free, has_free, held_from, held, ended, kept, has, group}
use Rattle.tiered_model.specs.Groups.{weigh, groups, Valid}
use Rattle.tiered_model.specs.Laws.{of_run}
use Rattle.runs.proofs.Counts.{put_both, put_same, put_other, tally_put}
use Rattle.runs.proofs.Sizes.{one_same, one_other, size_room, sizes, capacity_low}
use Rattle.tiered_model.proofs.Taking.{low, held_valid, ended_valid, kept_valid}
use Rattle.tiered_model.proofs.Placed.{placed}
use Rattle.tiered_model.specs.Ledger.{len_w, link_w, run_at, Linked, freed, state_of, Sound}
use Rattle.tiered_model.proofs.Chains.{chain_short, chain_is, linked_set, front_of, link_low, none_linked}
use Rattle.tiered_model.proofs.Gaps.{window_len, window_at}

pub state_is : {E : Type 0} (C : List E) (L : List ℕ) (c : ℕ) (H : List ℕ) (t : State E)
    → length C ≡ t.cells → c ≡ t.claimed → freed L H ≡ t.free → run_at C L ≡ t.live → state_of C L c H ≡ t
state_is {E} C L c H t a b f l =
    ap (λ (k : ℕ). record { cells = k; claimed = c; free = freed L H; live = run_at C L }) a
    ∙ ap (λ (k : ℕ). record { cells = t.cells; claimed = k; free = freed L H; live = run_at C L }) b
    ∙ ap (λ (k : ℕ → List ℕ). record { cells = t.cells; claimed = t.claimed; free = k; live = run_at C L }) f
    ∙ ap (λ (k : ℕ → List E). record { cells = t.cells; claimed = t.claimed; free = t.free; live = k }) l

pub runs_set : {E : Type 0} (C : List E) (L : List ℕ) (p w : ℕ) → p < length L → run_at C (set L p w) ≡ at (run_at C L) p (take (len_w w) (drop p C))
runs_set {E} C L p w h = fun_ext (λ j. elim (cases_eq j p) [
  | inl e ↦ ap (run_at C (set L p w)) e ∙ ap (λ (k : ℕ). take (len_w k) (drop p C)) (get_or-set_same L p w 0 h) ∙ sym (put_same (run_at C L) p (take (len_w w) (drop p C)))
      ∙ ap (at (run_at C L) p (take (len_w w) (drop p C))) (sym e)
  | inr ne ↦ ap (λ (k : ℕ). take (len_w k) (drop j C)) (get_or-set_other L p j w 0 ne) ∙ sym (put_other (run_at C L) p j (take (len_w w) (drop p C)) ne)
])

one_low : {E : Type 0} (xs : List E) → one_run xs ≤ 1
one_low [] = omega arith
one_low (x ∷ xs) = omega arith

tally_low : {E : Type 0} (f : ℕ → List E) (n : ℕ) → tally one_run f n ≤ n
unfolding tally
tally_low f zero = omega arith
tally_low f (suc n) = omega (arith, tally_low f n, one_low (f n))

one_of : {E : Type 0} (xs : List E) → 1 ≤ length xs → one_run xs ≡ 1
one_of [] h = absurd (omega arith)
one_of (x ∷ xs) h = refl

one_none : {E : Type 0} (xs : List E) → xs ≡ [] → one_run xs ≡ 0
one_none xs e = ap one_run e

weigh_above : (cs : List ℕ) (f : ℕ → ℕ) (z : ℕ) → 1 ≤ z → 1 ≤ times z cs → f z ≤ weigh cs f
unfolding weigh
weigh_above [] f z h t = absurd (omega arith)
weigh_above (x ∷ cs) f z h t = elim (cases_eq z x) [
  | inl e ↦ omega (arith, mul-le-mul_right {m = 1} {n = z} (f z) h, ap (λ (k : ℕ). k * f k) e)
  | inr ne ↦ omega (arith, weigh_above cs f z h (omega (arith, one_other x z ne)))
]

least_low : (cs : List ℕ) (n b : ℕ) → ((c : ℕ) → 1 ≤ times c cs → c ≤ b) → least cs n ≤ b
least_low [] n b h = omega arith
least_low (c ∷ cs) n b h = cond_both (leb n c) c (least cs n) (λ k. k ≤ b) (λ _. h c (omega (arith, one_same c))) (λ _. least_low cs n b (λ d l. h d (omega arith)))

-- no size is above the last capacity
pub size_low : (longest n : ℕ) → 31 ≤ longest → longest ≤ 32 → size longest n ≤ 32
size_low longest n la lb = least_low (capacities longest) n 32 (λ d l. omega (arith, capacity_low longest d la l))

pub len_word : (n : ℕ) → n < 64 → len_w n ≡ n
len_word n h = search rules

len_link : (k : ℕ) → len_w (64 * k) ≡ 0
len_link k = search rules

link_link : (k : ℕ) → link_w (64 * k) ≡ k
link_link k = search rules

module _ {E : Type 0} (longest : ℕ) (la : 31 ≤ longest) (lb : longest ≤ 32) (C : List E) (L : List ℕ) (c : ℕ) (H : List ℕ) (r : ℕ) (s : Sound longest C L c H r) where
  pub free_low : (z i : ℕ) → 1 ≤ times i (freed L H z) → i < length L
  free_low z i h =
      let p = s.valid.freed z i h in
      omega (arith, p.0, p.1, s.valid.inside i (omega (arith, p.0, p.1)), s.valid.enough, s.same)

  pub runs_low : r ≤ 16777216
  runs_low = omega (arith, s.counted, tally_low (run_at C L) 16777216)

  -- a live run's index stands in no chain
  live_away : (i z : ℕ) → 1 ≤ length (run_at C L i) → times i (freed L H z) ≡ 0
  live_away i z h = elim (cases_eq (times i (freed L H z)) 0) [
    | inl e ↦ e
    | inr ne ↦ absurd (omega (arith, h, ap length (s.valid.freed z i (omega (arith, ne))).2))
  ]

  pub live_low : (i : ℕ) → 1 ≤ length (run_at C L i) → i + size longest (length (run_at C L i)) ≤ length L
  live_low i h = omega (arith, ((placed longest la lb (state_of C L c H) s.valid).below i _ (of_run h refl)).1, s.valid.enough, s.same)

  -- where no group of size y is free, one that can be had is unclaimed
  pub claims : (y : ℕ) → get_or H y 0 ≡ 0 → has (state_of C L c H) y ≡ true → c + y ≤ length C
  claims y hd t =
      let e : freed L H y ≡ [] = none_linked L (freed L H y) (subst (λ (m : ℕ). Linked L m (freed L H y)) hd (s.ends y)) in
      leb-true (c + y) (length C) (sym (ap (λ (l : List ℕ). has_free l || leb (c + y) (length C)) e) ∙ t)

  -- a word written at p, which takes the state to t
  write : (p w c' r' : ℕ) (H' : List ℕ) (t : State E) → Valid longest t → p < length L → t.cells ≡ length C → t.claimed ≡ c'
      → t.live ≡ at (run_at C L) p (take (len_w w) (drop p C)) → length (take (len_w w) (drop p C)) ≡ len_w w
      → ((z : ℕ) → Linked (set L p w) (get_or H' z 0) (t.free z) × (length (t.free z) ≤ length L))
      → r' + one_run (run_at C L p) ≡ r + one_run (take (len_w w) (drop p C))
      → (state_of C (set L p w) c' H' ≡ t) × Sound longest C (set L p w) c' H' r'
  write p w c' r' H' t v h ec ek el fit free cnt =
      let len : length (set L p w) ≡ length L = length-set L p w in
      let fr : freed (set L p w) H' ≡ t.free = fun_ext (λ z. chain_is (set L p w) (length (set L p w)) (get_or H' z 0) (t.free z) (free z).0 (omega (arith, (free z).1))) in
      let st : state_of C (set L p w) c' H' ≡ t = state_is C (set L p w) c' H' t (sym ec) (sym ek) fr (runs_set C L p w h ∙ sym el) in (
        st,
        record {
          same = omega (arith, s.same);
          long = λ i. elim (cases_eq i p) [
            | inl e ↦
                let q : get_or (set L p w) i 0 ≡ w = ap (λ (k : ℕ). get_or (set L p w) k 0) e ∙ get_or-set_same L p w 0 h in
                ap (λ (k : ℕ). length (take (len_w k) (drop i C))) q ∙ ap (λ (k : ℕ). length (take (len_w w) (drop k C))) e ∙ fit ∙ ap len_w (sym q)
            | inr ne ↦ subst (λ (k : ℕ). length (take (len_w k) (drop i C)) ≡ len_w k) (sym (get_or-set_other L p i w 0 ne)) (s.long i)
          ];
          ends = λ z. subst (λ (ps : List ℕ). Linked (set L p w) (get_or H' z 0) ps) (sym (ap (λ (f : ℕ → List ℕ). f z) fr)) (free z).0;
          counted = omega (
            arith,
            s.counted,
            cnt,
            tally_put one_run (run_at C L) p (take (len_w w) (drop p C)) 16777216 (omega (arith, s.same, s.valid.within)),
            ap (λ (f : ℕ → List E). count f) (runs_set C L p w h),
          );
          valid = subst (λ (k : State E). Valid longest k) (sym st) v;
        },
      )

  module _ (y n : ℕ) (hn : 1 ≤ n) (hl : n ≤ longest) (hy : size longest n ≡ y) where
    -- the group that is taken has room
    pub new_fits : has (state_of C L c H) y ≡ true → length (take n (drop (group (state_of C L c H) y) C)) ≡ n
    new_fits t = window_len C (group (state_of C L c H) y) n (omega (arith, (placed longest la lb (state_of C L c H) s.valid).next_below y t, size_room longest n la lb hn hl, hy))

    module _ (hd : 0 < get_or H y 0) where
      pub front : (qs : List ℕ) × (freed L H y ≡ (get_or H y 0 - 1) ∷ qs) × Linked L (link_w (get_or L (get_or H y 0 - 1) 0)) qs
      front = front_of L (get_or H y 0) (freed L H y) (s.ends y) hd

      pub front_low : (get_or H y 0 - 1 < length L) × (link_w (get_or L (get_or H y 0 - 1) 0) ≤ length L)
      front_low =
          let e = front.1 in
          let t : (q : ℕ) → times q (freed L H y) ≡ one (get_or H y 0 - 1) q + times q front.0 = λ q. ap (times q) e in (
            free_low y (get_or H y 0 - 1) (omega (arith, t (get_or H y 0 - 1), one_same (get_or H y 0 - 1))),
            link_low L (link_w (get_or L (get_or H y 0 - 1) 0)) (length L) front.0 front.2 (λ q l. free_low y q (omega (arith, t q))),
          )

      -- the last group freed of size y becomes a run of n entries
      pub popped : y < length H → (get_or H y 0 - 1 ≡ group (state_of C L c H) y)
          × (state_of C (set L (get_or H y 0 - 1) n) c (set H y (link_w (get_or L (get_or H y 0 - 1) 0))) ≡ held (state_of C L c H) y (take n (drop (get_or H y 0 - 1) C)))
          × Sound longest C (set L (get_or H y 0 - 1) n) c (set H y (link_w (get_or L (get_or H y 0 - 1) 0))) (r + 1)
      popped h7 =
          let p : ℕ = get_or H y 0 - 1 in
          let k : ℕ = link_w (get_or L p 0) in
          let qs = front.0 in
          let e : freed L H y ≡ p ∷ qs = front.1 in
          let lw : len_w n ≡ n = len_word n (omega arith) in
          let g : p ≡ group (state_of C L c H) y = ap (λ (l : List ℕ). first_free l c) (sym e) in
          let fit : length (take n (drop p C)) ≡ n =
          subst (λ (q : ℕ). length (take n (drop q C)) ≡ n) (sym g) (new_fits (ap (λ (l : List ℕ). has_free l || leb (c + y) (length C)) e)) in
          let here : 1 ≤ times p (freed L H y) = omega (arith, ap (times p) e, one_same p) in
          let a = write p n c (r + 1) (set H y k) (held_from (state_of C L c H) (p ∷ qs) y (take n (drop p C)))
          (held_valid longest (state_of C L c H) s.valid la lb y (take n (drop p C)) (omega arith) (omega arith) (ap (size longest) fit ∙ hy) (p ∷ qs) e refl)
          front_low.0 refl refl (ap (λ (m : ℕ). at (run_at C L) p (take m (drop p C))) (sym lw)) (ap (λ (m : ℕ). length (take m (drop p C))) lw ∙ fit ∙ sym lw)
          (λ z. put_both (freed L H) y qs z (λ l. Linked (set L p n) (get_or (set H y k) z 0) l × (length l ≤ length L))
          (λ q. (
            subst (λ (m : ℕ). Linked (set L p n) m qs) (sym (ap (λ (m : ℕ). get_or (set H y k) m 0) q ∙ get_or-set_same H y k 0 h7))
                (linked_set L p n k qs (omega (arith, s.valid.once y p, ap (times p) e, one_same p)) front.2),
            omega (arith, ap length e, chain_short L (length L) (get_or H y 0)),
          ))
          (λ q. (
            subst (λ (m : ℕ). Linked (set L p n) m (freed L H z)) (sym (get_or-set_other H y z k 0 q))
                (linked_set L p n (get_or H z 0) (freed L H z) (elim (cases_eq (times p (freed L H z)) 0) [
                  | inl x ↦ x
                  | inr ne ↦ absurd (q (sym (s.valid.freed z p (omega (arith, ne))).1 ∙ (s.valid.freed y p here).1))
                ]) (s.ends z)),
            chain_short L (length L) (get_or H z 0),
          )))
          (omega (arith, one_none (run_at C L p) (s.valid.freed y p here).2, ap (λ (m : ℕ). one_run (take m (drop p C))) lw, one_of (take n (drop p C)) (omega arith))) in
          (g, a.0 ∙ ap (λ (l : List ℕ). held_from (state_of C L c H) l y (take n (drop p C))) (sym e), a.1)

    -- the next unclaimed cells become a run of n entries
    pub claimed_new : get_or H y 0 ≡ 0 → c + y ≤ length C → (c ≡ group (state_of C L c H) y)
        × (state_of C (set L c n) (c + y) H ≡ held (state_of C L c H) y (take n (drop c C)))
        × Sound longest C (set L c n) (c + y) H (r + 1)
    claimed_new hd room =
        let e : freed L H y ≡ [] = none_linked L (freed L H y) (subst (λ (m : ℕ). Linked L m (freed L H y)) hd (s.ends y)) in
        let lw : len_w n ≡ n = len_word n (omega arith) in
        let big : n ≤ y = omega (arith, size_room longest n la lb hn hl) in
        let g : c ≡ group (state_of C L c H) y = ap (λ (l : List ℕ). first_free l c) (sym e) in
        let fit : length (take n (drop c C)) ≡ n = window_len C c n (omega arith) in
        let a = write c n (c + y) (r + 1) H (held_from (state_of C L c H) [] y (take n (drop c C)))
        (held_valid longest (state_of C L c H) s.valid la lb y (take n (drop c C)) (omega arith) (omega arith) (ap (size longest) fit ∙ hy) [] e (le-leb (c + y) (length C) room))
        (omega (arith, s.same)) refl refl (ap (λ (m : ℕ). at (run_at C L) c (take m (drop c C))) (sym lw)) (ap (λ (m : ℕ). length (take m (drop c C))) lw ∙ fit ∙ sym lw)
        (λ z. put_both (freed L H) y [] z (λ l. Linked (set L c n) (get_or H z 0) l × (length l ≤ length L))
        (λ q. (ap (λ (m : ℕ). get_or H m 0) q ∙ hd, omega arith))
        (λ q. (
          linked_set L c n (get_or H z 0) (freed L H z) (elim (cases_eq (times c (freed L H z)) 0) [
            | inl x ↦ x
            | inr ne ↦ absurd (let f = s.valid.freed z c (omega (arith, ne)) in omega (arith, f.0, f.1, s.valid.inside c (omega (arith, f.0, f.1))))
          ]) (s.ends z),
          chain_short L (length L) (get_or H z 0),
        )))
        (omega (arith, one_none (run_at C L c) (low longest (state_of C L c H) s.valid c la lb (omega arith)), ap (λ (m : ℕ). one_run (take m (drop c C))) lw, one_of (take n (drop c C)) (omega arith))) in
        (g, a.0 ∙ ap (λ (l : List ℕ). held_from (state_of C L c H) l y (take n (drop c C))) (sym e), a.1)

  -- the first m places of a run's group, which has the size of m
  pub window_fits : (i n m : ℕ) → length (run_at C L i) ≡ n → 1 ≤ n → 1 ≤ m → m ≤ longest → size longest n ≡ size longest m
      → (length (take m (drop i C)) ≡ m) × ((k : ℕ) → k ≤ n → k ≤ m → take k (take m (drop i C)) ≡ take k (run_at C L i))
  window_fits i n m e hn hm hl z = (
    window_len C i m (omega (arith, live_low i (omega arith), size_room longest m la lb hm hl, ap (size longest) e, s.same)),
    λ k a b. take-take k m (drop i C) b ∙ sym (take-take k (len_w (get_or L i 0)) (drop i C) (omega (arith, s.long i))),
  )

  module _ (i : ℕ) (h : 1 ≤ length (run_at C L i)) where
    pub live_index : i < length L
    live_index = omega (arith, live_low i h, size_room longest (length (run_at C L i)) la lb h (s.valid.short i))

    pub some_run : 1 ≤ r
    some_run = omega (arith, s.counted, tally_put one_run (run_at C L) i [] 16777216 (omega (arith, live_index, s.same, s.valid.within)), one_of (run_at C L i) h)

    -- the run at i ends, and its group is freed
    pub released : (z : ℕ) → size longest (length (run_at C L i)) ≡ z → z < length H
        → (state_of C (set L i (64 * get_or H z 0)) c (set H z (i + 1)) ≡ ended (state_of C L c H) z i)
        × Sound longest C (set L i (64 * get_or H z 0)) c (set H z (i + 1)) (r - 1)
    released z hz h7 =
        let w : ℕ = 64 * get_or H z 0 in
        let lw : len_w w ≡ 0 = len_link (get_or H z 0) in
        let il : i < length L = live_index in
        let v = ended_valid longest (state_of C L c H) s.valid la lb i h z hz in
        let zs = sizes longest (length (run_at C L i)) la lb h (s.valid.short i) in
        let most : length (i ∷ freed L H z) ≤ length L =
        omega (
          arith,
          weigh_above (capacities longest) (groups longest (ended (state_of C L c H) z i)) z (omega (arith, zs.room)) (subst (λ (k : ℕ). 1 ≤ times k (capacities longest)) hz zs.capacity),
          v.tiles,
          v.enough,
          s.same,
          ap length (put_same (freed L H) z (i ∷ freed L H z)),
        ) in
        let one : one_run (run_at C L i) ≡ 1 = one_of (run_at C L i) h in
        let none : one_run (take (len_w w) (drop i C)) ≡ 0 = ap (λ (m : ℕ). one_run (take m (drop i C))) lw in
        let some : 1 ≤ r = some_run in
        write i w c (r - 1) (set H z (i + 1)) (ended (state_of C L c H) z i) v il refl refl (ap (λ (m : ℕ). at (run_at C L) i (take m (drop i C))) (sym lw))
        (ap (λ (m : ℕ). length (take m (drop i C))) lw ∙ sym lw)
        (λ u. put_both (freed L H) z (i ∷ freed L H z) u (λ l. Linked (set L i w) (get_or (set H z (i + 1)) u 0) l × (length l ≤ length L))
        (λ q. (
          (
            ap (λ (m : ℕ). get_or (set H z (i + 1)) m 0) q ∙ get_or-set_same H z (i + 1) 0 h7,
            subst (λ (m : ℕ). Linked (set L i w) m (freed L H z)) (sym (ap link_w (get_or-set_same L i w 0 il) ∙ link_link (get_or H z 0)))
                (linked_set L i w (get_or H z 0) (freed L H z) (live_away i z h) (s.ends z)),
          ),
          most,
        ))
        (λ q. (
          subst (λ (m : ℕ). Linked (set L i w) m (freed L H u)) (sym (get_or-set_other H z u (i + 1) 0 q))
              (linked_set L i w (get_or H u 0) (freed L H u) (live_away i u h) (s.ends u)),
          chain_short L (length L) (get_or H u 0),
        )))
        (omega arith)

    -- the run at i has m entries now, and stays in its group
    pub lengthened : (m : ℕ) → 1 ≤ m → m ≤ longest → size longest (length (run_at C L i)) ≡ size longest m
        → (state_of C (set L i m) c H ≡ kept (state_of C L c H) i (take m (drop i C))) × Sound longest C (set L i m) c H r
    lengthened m hm hl e =
        let lw : len_w m ≡ m = len_word m (omega arith) in
        let room = size_room longest m la lb hm hl in
        let il = live_low i h in
        let fit : length (take m (drop i C)) ≡ m = window_len C i m (omega (arith, s.same)) in
        write i m c r H (kept (state_of C L c H) i (take m (drop i C)))
        (kept_valid longest (state_of C L c H) s.valid la lb i h (take m (drop i C)) (omega arith) (omega arith) (e ∙ ap (size longest) (sym fit)))
        (omega arith) refl refl (ap (λ (k : ℕ). at (run_at C L) i (take k (drop i C))) (sym lw)) (ap (λ (k : ℕ). length (take k (drop i C))) lw ∙ fit ∙ sym lw)
        (λ z. (linked_set L i m (get_or H z 0) (freed L H z) (live_away i z h) (s.ends z), chain_short L (length L) (get_or H z 0)))
        (omega (arith, one_of (run_at C L i) h, ap (λ (k : ℕ). one_run (take k (drop i C))) lw, one_of (take m (drop i C)) (omega arith)))

    -- cells written within the run at i
    pub rewritten : (C' : List E) → length C' ≡ length C → ((k : ℕ) (d : E) → (k < i) ⊎ (i + length (run_at C L i) ≤ k) → get_or C' k d ≡ get_or C k d)
        → (state_of C' L c H ≡ kept (state_of C L c H) i (run_at C' L i)) × Sound longest C' L c H r
    rewritten C' lc out =
        let P = placed longest la lb (state_of C L c H) s.valid in
        let len : (j : ℕ) → length (run_at C' L j) ≡ len_w (get_or L j 0) =
        λ j. simp (length-take, length-drop) (omega (arith, simp (length-take, length-drop) at (s.long j))) in
        let other : (j : ℕ) → (j ≡ i → ⊥) → run_at C' L j ≡ run_at C L j =
        λ j ne. same_lists _ _ (omega (arith, len j, s.long j)) (λ (k : ℕ) (d : E) l.
        let jk : k < len_w (get_or L j 0) = omega (arith, len j) in
        let jl : 1 ≤ length (run_at C L j) = omega (arith, s.long j) in
        window_at C' j (len_w (get_or L j 0)) k d jk
        ∙ out (j + k) d (elim (P.apart i j _ _ (of_run h refl) (of_run jl refl) (λ q. ne (sym q))) [
          | inl x ↦ inr (omega (arith, P.room i))
          | inr x ↦ inl (omega (arith, P.room j, s.long j))
        ])
        ∙ sym (window_at C j (len_w (get_or L j 0)) k d jk)) in
        let lv : run_at C' L ≡ at (run_at C L) i (run_at C' L i) =
        fun_ext (λ j. elim (cases_eq j i) [
          | inl e ↦ ap (run_at C' L) e ∙ sym (put_same (run_at C L) i (run_at C' L i)) ∙ ap (at (run_at C L) i (run_at C' L i)) (sym e)
          | inr ne ↦ other j ne ∙ sym (put_other (run_at C L) i j (run_at C' L i) ne)
        ]) in
        let same : length (run_at C' L i) ≡ length (run_at C L i) = len i ∙ sym (s.long i) in
        let st : state_of C' L c H ≡ kept (state_of C L c H) i (run_at C' L i) = state_is C' L c H (kept (state_of C L c H) i (run_at C' L i)) lc refl refl lv in (
          st,
          record {
            same = s.same ∙ sym lc;
            long = len;
            ends = s.ends;
            counted = omega (
              arith,
              s.counted,
              tally_put one_run (run_at C L) i (run_at C' L i) 16777216 (omega (arith, live_index, s.same, s.valid.within)),
              one_of (run_at C L i) h,
              one_of (run_at C' L i) (omega arith),
              ap (λ (f : ℕ → List E). count f) lv,
            );
            valid = subst (λ (k : State E). Valid longest k) (sym st)
                (kept_valid longest (state_of C L c H) s.valid la lb i h (run_at C' L i) (omega arith) (omega (arith, s.valid.short i)) (ap (size longest) (sym same)));
          },
        )
