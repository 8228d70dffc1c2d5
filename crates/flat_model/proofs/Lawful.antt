-- The flat store's states are those of a run store.
use Rattle.std.proofs.Common.{◌≡◌, ℕ, ◌+◌, ◌<◌, ◌≤◌, Bool, true, false, cond, eqb, List, [], ◌∷◌, length, set, None, refl, arith, length-append, length-drop, length-set, length-take}
use mathlib.Core.Path.{fun_ext}
use Rattle.std.proofs.lemmas.Bool.{eqb-true, eqb-false}
use Rattle.runs.specs.Lists.{empty, at, with_new, without}
use Rattle.runs.specs.Runs.{Lawful, Moved, Removing, ended, left, no_insert, no_remove}
use Rattle.runs.proofs.Counts.{put_same}
use Rattle.flat_model.specs.Flat.{State, flat, kept, released, Valid}
use Rattle.flat_model.proofs.Asking.{grow_length, shrink_length, can_open, entry_told, insert_told, remove_told}
use Rattle.flat_model.proofs.Taking.{low, next_dead, held_valid, released_valid, kept_valid}

pub length_with_new : {E : Type 0} (xs : List E) (k : ℕ) (e : E) → k ≤ length xs → length (with_new xs k e) ≡ length xs + 1
length_with_new xs k e h = simp (length-append, length-take, length-drop) (omega (arith, length-drop k xs))

pub length_without : {E : Type 0} (xs : List E) (k : ℕ) → k < length xs → length (without xs k) + 1 ≡ length xs
length_without xs k h = simp (length-append, length-take, length-drop) (omega arith)

twice : {X : Type 0} (b : Bool) (x y a : X) → cond b x a ≡ cond b x (cond b y a)
twice true x y a = refl
twice false x y a = refl

-- a run that stays at its index
stays : {E : Type 0} (f : ℕ → List E) (i : ℕ) (ys : List E) → Moved f i i ys (at f i ys)
stays f i ys = record { free = put_same f i []; is = fun_ext (λ j. twice (eqb j i) ys [] (f j)) }

module _ {E : Type 0} (longest : ℕ) (la : 31 ≤ longest) (lb : longest ≤ 32) (s : State E) (v : Valid longest s) (i k : ℕ) where
  inserts : (e : E) → no_insert (flat longest) s i k ≡ None → Valid longest (kept s i (with_new (s.live i) k e))
  inserts e n =
      let t = insert_told longest la s i k n in
      kept_valid longest la lb s v i t.0 (with_new (s.live i) k e) (omega (arith, length_with_new (s.live i) k e t.1, t.2))

  -- what a removal leaves: b says whether the run has one entry
  removes : no_remove (flat longest) s i k ≡ None → (b : Bool) → eqb (length (s.live i)) 1 ≡ b
      → Valid longest (cond b (released s i) (kept s i (without (s.live i) k)))
      × Removing s.live i k (cond b empty i) (cond b (released s i) (kept s i (without (s.live i) k))).live
  removes n true q =
      let o : length (s.live i) ≡ 1 = eqb-true (length (s.live i)) 1 q in
      (released_valid longest la lb s v i (omega arith), ended o refl refl)
  removes n false q =
      let ne : length (s.live i) ≡ 1 → ⊥ = eqb-false (length (s.live i)) 1 q in
      let b : k < length (s.live i) = remove_told longest la s i k n in
      let l : length (without (s.live i) k) + 1 ≡ length (s.live i) = length_without (s.live i) k b in
      (kept_valid longest la lb s v i (omega arith) (without (s.live i) k) (omega (arith, v.short i)), left (omega (arith, ne)) (stays s.live i (without (s.live i) k)))

pub lawful : {E : Type 0} (longest : ℕ) → 31 ≤ longest → longest ≤ 32 → Lawful (flat {E = E} longest) longest (Valid longest)
lawful longest la lb = record {
  low = λ s i v h. low longest la lb s v i (omega (arith, v.enough, v.within));
  short = λ s i v. v.short i;
  grow_list = λ s v. grow_length longest la s;
  shrink_list = λ s v. shrink_length longest la s;
  exchanging = λ s i k e v n. (
    kept_valid longest la lb s v i (omega (arith, entry_told longest la s i k n)) (set (s.live i) k e) (omega (arith, length-set (s.live i) k e, v.short i)),
    refl,
    refl,
    refl,
  );
  opening = λ s e v n. (
    held_valid longest la lb s v (e ∷ []) (omega arith) s.free refl (can_open longest la s n),
    next_dead longest la lb s v s.free refl,
    refl,
  );
  inserting = λ s i k e v n. (inserts longest la lb s v i k e n, stays s.live i (with_new (s.live i) k e));
  removing = λ s i k v n. removes longest la lb s v i k n (eqb (length (s.live i)) 1) refl;
}
