-- The tiered store's states are those of a run store, and its claimed cells are the most groups of each size that stood together.
use Rattle.std.proofs.Common.{◌≡◌, ℕ, ◌+◌, ◌-◌, ◌<◌, ◌≤◌, max, Bool, true, false, cond, eqb, leb, List, [], ◌∷◌, length, set, None, sym, refl, ap, ◌∙◌, arith, length-append, length-drop, length-set, length-take}
use mathlib.Core.Path.{fun_ext}
use Rattle.std.proofs.lemmas.Bool.{eqb-true, eqb-false, cond-false, ne_eqb, lt-leb}
use Rattle.runs.specs.Refusals.{refusal}
use Rattle.runs.specs.Runs.{Lawful, Removing, ended, left, grows, no_entry, no_insert, no_remove}
use Rattle.runs.specs.Lists.{with_new, without}
use Rattle.runs.specs.Sizes.{size, capacities, times}
use Rattle.tiered_model.specs.Tiered.{State, fresh, tiered, has, can, change, growth, shrinkage, put, put_to, size_at}
use Rattle.tiered_model.specs.Groups.{of_size, standing, groups, Valid, Most}
use Rattle.tiered_model.specs.Laws.{Call, exchanging, opening, inserting, removing, Reached, begun, called, Claims}
use Rattle.runs.proofs.Counts.{tally_none}
use Rattle.runs.proofs.Sizes.{one_same}
use Rattle.tiered_model.proofs.Weights.{weigh_same}
use Rattle.tiered_model.proofs.Taking.{fresh_valid, low, group_free, held_valid, held_most, ended_valid, ended_most, kept_valid, kept_most}
use Rattle.tiered_model.proofs.Asking.{none_else, grow_length, shrink_length, grows_is, insert_told, exchange_told, remove_told}
use Rattle.tiered_model.proofs.Moving.{Put, puts}
use Rattle.tiered_model.specs.Tiered as tier

pub length_with_new : {E : Type 0} (xs : List E) (k : ℕ) (e : E) → k ≤ length xs → length (with_new xs k e) ≡ length xs + 1
length_with_new xs k e h = simp (length-append, length-take, length-drop) (omega (arith, length-drop k xs))

pub length_without : {E : Type 0} (xs : List E) (k : ℕ) → k < length xs → length (without xs k) + 1 ≡ length xs
length_without xs k h = simp (length-append, length-take, length-drop) (omega arith)

module _ {E : Type 0} (longest : ℕ) (la : 31 ≤ longest) (lb : longest ≤ 32) (s : State E) (v : Valid longest s) where
  can_open : grows (tiered longest) s 0 ≡ None → has s 1 ≡ true
  can_open e = (none_else (has s 1) (refusal 23 (0 ∷ [])) None (sym (grows_is longest s 0 (omega arith)) ∙ e)).0

  inserts : (i k : ℕ) (e : E) → no_insert (tiered longest) s i k ≡ None → Put longest s i (with_new (s.live i) k e) ((tiered longest).inserted_at s i k e) ((tiered longest).inserted s i k e)
  inserts i k e n =
      let told = insert_told longest s i k n in
      let l : length (with_new (s.live i) k e) ≡ length (s.live i) + 1 = length_with_new (s.live i) k e told.1 in
      let g : change s (size_at longest s i) (size longest (length (s.live i) + 1)) ≡ None = sym (cond-false (eqb (length (s.live i)) 0) _ _ (ne_eqb (length (s.live i)) 0 (λ q. omega (arith, told.0)))) ∙ told.3 in
      puts longest s v la lb i (with_new (s.live i) k e) told.0 (omega (arith, l)) (omega (arith, l, told.2))
      (ap (λ (m : ℕ). change s (size_at longest s i) (size longest m)) l ∙ g)

  module _ (i k : ℕ) (n : no_remove (tiered longest) s i k ≡ None) where
    below : k < length (s.live i)
    below = (remove_told longest s i k n (v.short i)).0

    cuts : (length (s.live i) ≡ 1 → ⊥) → Put longest s i (without (s.live i) k) (put_to longest s i (without (s.live i) k)) (put longest s i (without (s.live i) k))
    cuts ne =
        let b : k < length (s.live i) = below in
        let l : length (without (s.live i) k) + 1 ≡ length (s.live i) = length_without (s.live i) k b in
        let m : length (without (s.live i) k) ≡ length (s.live i) - 1 = omega arith in
        let g : change s (size_at longest s i) (size longest (length (s.live i) - 1)) ≡ None =
        sym (cond-false (leb (length (s.live i)) 1) _ _ (lt-leb (length (s.live i)) 1 (omega arith))) ∙ (remove_told longest s i k n (v.short i)).1 in
        puts longest s v la lb i (without (s.live i) k) (omega arith) (omega arith) (omega (arith, v.short i))
        (ap (λ (m : ℕ). change s (size_at longest s i) (size longest m)) m ∙ g)

    -- what a removal leaves: b says whether the run has one entry
    removes : (b : Bool) → eqb (length (s.live i)) 1 ≡ b
        → (Valid longest (cond b (tier.ended s 1 i) (put longest s i (without (s.live i) k)))
        × Removing s.live i k (cond b 4294967295 (put_to longest s i (without (s.live i) k))) (cond b (tier.ended s 1 i) (put longest s i (without (s.live i) k))).live)
        × Most longest s (cond b (tier.ended s 1 i) (put longest s i (without (s.live i) k)))
    removes true q =
        let o : length (s.live i) ≡ 1 = eqb-true (length (s.live i)) 1 q in
        let z : size longest (length (s.live i)) ≡ 1 = ap (size longest) o in
        ((ended_valid longest s v la lb i (omega arith) 1 z, ended o refl refl), ended_most longest s v la lb i (omega arith) 1 z)
    removes false q =
        let ne : length (s.live i) ≡ 1 → ⊥ = eqb-false (length (s.live i)) 1 q in
        let p = cuts ne in
        ((p.valid, left (omega (arith, below, ne)) (record { free = p.fresh; is = p.live })), p.most)

  exchanges : (i k : ℕ) (e : E) → no_entry (tiered longest) s i k ≡ None → Valid longest ((tiered longest).exchanged s i k e) × Most longest s ((tiered longest).exchanged s i k e)
  exchanges i k e n =
      let told = exchange_told longest s i k n in
      let l : length (set (s.live i) k e) ≡ length (s.live i) = length-set (s.live i) k e in
      let z : size longest (length (s.live i)) ≡ size longest (length (set (s.live i) k e)) = ap (size longest) (sym l) in
      let a : 1 ≤ length (set (s.live i) k e) = omega (arith, l, told.0) in
      let b : length (set (s.live i) k e) ≤ longest = omega (arith, l, v.short i) in
      (kept_valid longest s v la lb i told.0 (set (s.live i) k e) a b z, kept_most longest s v la lb i told.0 (set (s.live i) k e) a b z)

  opens : (e : E) → grows (tiered longest) s 0 ≡ None → Valid longest ((tiered longest).opened s e) × Most longest s ((tiered longest).opened s e)
  opens e n = (held_valid longest s v la lb 1 (e ∷ []) (omega arith) (omega arith) refl (s.free 1) refl (can_open n), held_most longest s v la lb 1 (e ∷ []) (omega arith) (omega arith) refl (s.free 1) refl (can_open n))

-- two steps in one, where what stands between them is no more than before or after
pub most_then : {E : Type 0} (longest : ℕ) (s t u : State E) → Most longest s t → Most longest t u → ((z : ℕ) → standing longest t z ≤ max (groups longest s z) (standing longest u z)) → Most longest s u
most_then longest s t u a b h z = omega (arith, a z, b z, h z)

pub lawful : {E : Type 0} (longest : ℕ) → 31 ≤ longest → longest ≤ 32 → Lawful (tiered {E = E} longest) longest (Valid longest)
lawful longest la lb = record {
  low = λ s i v h. low longest s v i la lb (omega (arith, v.enough, v.within));
  short = λ s i v. v.short i;
  grow_list = λ s v. grow_length longest s;
  shrink_list = λ s v. shrink_length longest s;
  exchanging = λ s i k e v n. ((exchanges longest la lb s v i k e n).0, refl, refl, refl);
  opening = λ s e v n. ((opens longest la lb s v e n).0, group_free longest s v 1 (s.free 1) refl la lb, refl);
  inserting = λ s i k e v n. let p = inserts longest la lb s v i k e n in (p.valid, record { free = p.fresh; is = p.live });
  removing = λ s i k v n. (removes longest la lb s v i k n (eqb (length (s.live i)) 1) refl).0;
}

module _ {E : Type 0} (longest : ℕ) (la : 31 ≤ longest) (lb : longest ≤ 32) where
  call : (s t : State E) → Valid longest s → Call longest s t → Valid longest t × Most longest s t
  call s _ v (exchanging i k e n) = exchanges longest la lb s v i k e n
  call s _ v (opening e n) = opens longest la lb s v e n
  call s _ v (inserting i k e n) = let p = inserts longest la lb s v i k e n in (p.valid, p.most)
  call s _ v (removing i k n) = let p = removes longest la lb s v i k n (eqb (length (s.live i)) 1) refl in (p.0.0, p.1)

  reached : (s : State E) (most : ℕ → ℕ) → Reached longest s most → Valid longest s × ((z : ℕ) → groups longest s z ≡ most z)
  reached _ _ (begun cells h) = (fresh_valid longest cells h, λ z. omega (arith, tally_none {E = E} (of_size longest z) 16777216 refl))
  reached _ _ (called {s} {t} {most} r c) =
      let p = reached s most r in
      let q = call s t p.0 c in
      (q.0, λ z. omega (arith, q.1 z, p.1 z))

  empty : (s : State E) → Valid longest s → s.claimed ≡ 0 → (z : ℕ) (fs : List ℕ) → s.free z ≡ fs → fs ≡ []
  empty s v c z [] e = refl
  empty s v c z (f ∷ fs) e = absurd (
      let p = v.freed z f (omega (arith, ap (times f) e, one_same f)) in
      let m : 1 ≤ v.made f = omega (arith, p.0, p.1) in
      omega (arith, m, v.inside f m))

  again : (s : State E) → Valid longest s → s.claimed ≡ 0 → s ≡ fresh s.cells
  again s v c =
      let live : s.live ≡ (λ (_ : ℕ). []) = fun_ext (λ i. low longest s v i la lb (omega arith)) in
      let free : s.free ≡ (λ (_ : ℕ). []) = fun_ext (λ z. empty s v c z (s.free z) refl) in
      ap (λ (k : ℕ). record { cells = s.cells; claimed = k; free = s.free; live = s.live }) c
      ∙ ap (λ (k : ℕ → List ℕ). record { cells = s.cells; claimed = 0; free = k; live = s.live }) free
      ∙ ap (λ (k : ℕ → List E). record { cells = s.cells; claimed = 0; free = λ _. []; live = k }) live

  pub claims : Claims E longest
  claims = record {
    call = call;
    reached = λ s most r. let p = reached s most r in (p.0, p.0.tiles ∙ weigh_same (capacities longest) most (groups longest s) (λ w. p.1 w), p.1);
    fresh_again = again;
  }
