-- The steps of an accepted call, as the code takes them.
use Rattle.std.proofs.Common.{◌≡◌, ℕ, ◌+◌, ◌-◌, ◌<◌, ◌≤◌, Bool, true, ◌&&◌, ltb, leb, List, [], length, take, drop, set, Some, None, Ok, Err, Result, sym, ap, arith}
use Rattle.std.proofs.lemmas.Bool.{cond-true, and_from, le-leb, lt-ltb}
use Rattle.runs.specs.declared.fault.StoreFault.{StoreFault}
use Rattle.runs.specs.Lists.{indexes, without}
use Rattle.runs.specs.Refusals.{refusal, told}
use Rattle.runs.specs.Runs.{grows, no_insert, no_remove}
use Rattle.runs.specs.Calls.{Says}
use Rattle.runs.specs.Shift.{Right, Left, Moves, in_slice}
use Rattle.flat_model.specs.Flat.{State, group, held, kept, flat}
use Rattle.flat_model.specs.Ledger.{run_at, state_of, Sound}
use Rattle.flat_model.proofs.Asking.{can_open, insert_told, remove_told}
use Rattle.flat_model.proofs.Placed.{placed}
use Rattle.flat_model.proofs.Windows.{window_length}
use Rattle.flat_model.proofs.Cells.{room, gap_sound, written_sound, put_in, closed_sound, taken_out, held_live, opened_by}

-- a shift whose range lies in the slice is made
shifted : {X : Type 0} (r : Result (Unit {0}) StoreFault) (ok : Bool) (xs ys : List X) (P : List X → List X → Type 0) → ok ≡ true → Says told r (in_slice ok) → Moves r xs ys P → P xs ys
shifted (Ok u) ok xs ys P t a m = m
shifted (Err f) ok xs ys P t a m = absurd (let e = cond-true ok None (Some (refusal 21 [])) t in let z : ◌≡◌ {A = ℕ} 0 1 = cc in omega arith)

module _ {E : Type 0} (longest : ℕ) (la : 31 ≤ longest) (lb : longest ≤ 32) (C : List E) (L : List ℕ) (c h r : ℕ) (s : Sound longest C L c h r) where
  -- ---- opening

  new_fits : grows (flat longest) (state_of C L c h) 0 ≡ None → (g : ℕ) → g ≡ group (state_of C L c h) → length (take 1 (drop g C)) ≡ 1
  new_fits may g e = window_length C g 1 (omega (arith, (placed longest la lb (state_of C L c h) s.valid).next_below (can_open longest la (state_of C L c h) may)))

  module _ (may : grows (flat longest) (state_of C L c h) 0 ≡ None) (g : ℕ) (t : State E) (eg : g ≡ group (state_of C L c h)) (et : t ≡ held longest (state_of C L c h) (take 1 (drop g C))) where
    pub open_slot : 0 < length (t.live g)
    open_slot = omega (arith, ap length (held_live longest (state_of C L c h) t g (take 1 (drop g C)) eg et), new_fits may g eg)

    pub open_done : (u : State E) (e : E) → u ≡ kept t g (set (t.live g) 0 e) → u ≡ (flat longest).opened (state_of C L c h) e
    open_done u e eu = opened_by longest (state_of C L c h) t u g (take 1 (drop g C)) e eg (new_fits may g eg) et eu

  module _ (i n k : ℕ) (long : n ≡ length (run_at C L i)) where
    -- ---- inserting

    pub insert_room : no_insert (flat longest) (state_of C L c h) i k ≡ None → (k ≤ n) × (i + n < length C) × (length C ≤ indexes)
    insert_room may =
        let t = insert_told longest la (state_of C L c h) i k may in
        let w = room longest la lb C L c h r s i n (sym long) (omega (arith, t.0)) in
        (omega (arith, t.1), omega (arith, t.2, w.0), s.valid.within)

    module _ (may : no_insert (flat longest) (state_of C L c h) i k ≡ None) (D : List E) (q : Result (Unit {0}) StoreFault) (ld : length D ≡ length C)
        (answer : Says told q (in_slice (leb (i + k) (i + n) && ltb (i + n) (length C)))) (after : Moves q C D (λ xs ys. Right xs ys (i + k) (i + n))) where
      opened_gap : Right C D (i + k) (i + n)
      opened_gap = let w = insert_room may in shifted q _ C D (λ xs ys. Right xs ys (i + k) (i + n)) (and_from _ _ (le-leb (i + k) (i + n) (omega (arith, w.0))) (lt-ltb (i + n) (length C) w.1)) answer after

      some : 1 ≤ n
      some = omega (arith, (insert_told longest la (state_of C L c h) i k may).0)

      less : n < longest
      less = omega (arith, (insert_told longest la (state_of C L c h) i k may).2)

      pub insert_gap : Sound longest D L c h r
      insert_gap = gap_sound longest la lb C L c h r s i n (sym long) some D k (insert_room may).0 less ld opened_gap

      pub insert_written : (x : E) → Sound longest (set D (i + k) x) L c h r
      insert_written x = written_sound longest la lb C L c h r s i n (sym long) some D k (insert_room may).0 less ld opened_gap x

      pub insert_done : (x : E) → (state_of (set D (i + k) x) (set L i (n + 1)) c h ≡ (flat longest).inserted (state_of C L c h) i k x) × Sound longest (set D (i + k) x) (set L i (n + 1)) c h r
      insert_done x = put_in longest la lb C L c h r s i n (sym long) some D k (insert_room may).0 less ld opened_gap x

    -- ---- removing

    pub remove_room : no_remove (flat longest) (state_of C L c h) i k ≡ None → (k < n) × (i + n ≤ length C) × (length C ≤ indexes)
    remove_room may =
        let t = remove_told longest la (state_of C L c h) i k may in
        let w = room longest la lb C L c h r s i n (sym long) (omega arith) in
        (omega (arith, t), omega (arith, w.0, w.1), s.valid.within)

    module _ (may : no_remove (flat longest) (state_of C L c h) i k ≡ None) (D : List E) (q : Result (Unit {0}) StoreFault) (ld : length D ≡ length C)
        (answer : Says told q (in_slice (ltb (i + k) (i + n) && leb (i + n) (length C)))) (after : Moves q C D (λ xs ys. Left xs ys (i + k) (i + n))) where
      closed_gap : Left C D (i + k) (i + n)
      closed_gap = let w = remove_room may in shifted q _ C D (λ xs ys. Left xs ys (i + k) (i + n)) (and_from _ _ (lt-ltb (i + k) (i + n) (omega (arith, w.0))) (le-leb (i + n) (length C) w.1)) answer after

      pub remove_gap : Sound longest D L c h r
      remove_gap = closed_sound longest la lb C L c h r s i n (sym long) (omega (arith, (remove_room may).0)) D k (remove_room may).0 ld closed_gap

      pub remove_done : 1 < n → (state_of D (set L i (n - 1)) c h ≡ kept (state_of C L c h) i (without (run_at C L i) k)) × Sound longest D (set L i (n - 1)) c h r
      remove_done more = taken_out longest la lb C L c h r s i n (sym long) (omega arith) D k (remove_room may).0 ld closed_gap more
