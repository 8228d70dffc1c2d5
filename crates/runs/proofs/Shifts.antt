-- Where a range lies in a slice, no shift and no copy is refused.
use Rattle.std.proofs.Common.{◌≡◌, ℕ, ◌+◌, ◌<◌, ◌≤◌, true, ◌&&◌, ◌||◌, ltb, leb, cond, List, ◌⊎◌, Some, None, Result, Ok, Err, refl, sym, ap, subst, inl, inr, arith}
use Rattle.std.proofs.lemmas.Bool.{and_from, or_left, or_right, le-leb, lt-ltb}
use Rattle.std.specs.Result.{IsOk}
use Rattle.runs.specs.Refusals.{Refusal, Grant}
use Rattle.runs.specs.Calls.{Says}
use Rattle.runs.specs.Shift.{in_slice, Moves}
use Rattle.runs.specs.declared.fault.StoreFault.{StoreFault}

-- a grant is not both
pub never : (g : Grant) (f : Refusal) → g ≡ None → g ≡ Some f → ⊥
never g f n s = let z : ◌≡◌ {A = ℕ} 0 1 = cc in omega arith

pub right_fits : (lo hi n : ℕ) → lo ≤ hi → hi < n → in_slice (leb lo hi && ltb hi n) ≡ None
right_fits lo hi n a b = ap in_slice (and_from (leb lo hi) (ltb hi n) (le-leb lo hi a) (lt-ltb hi n b))

pub left_fits : (lo hi n : ℕ) → lo < hi → hi ≤ n → in_slice (ltb lo hi && leb hi n) ≡ None
left_fits lo hi n a b = ap in_slice (and_from (ltb lo hi) (leb hi n) (lt-ltb lo hi a) (le-leb hi n b))

apart : (i j k : ℕ) → (i + k ≤ j) ⊎ (j + k ≤ i) → leb (i + k) j || leb (j + k) i ≡ true
apart i j k (inl h) = or_left (leb (i + k) j) (leb (j + k) i) (le-leb (i + k) j h)
apart i j k (inr h) = or_right (leb (i + k) j) (leb (j + k) i) (le-leb (j + k) i h)

pub copy_fits : (from to k n : ℕ) → from + k ≤ n → to + k ≤ n → (from + k ≤ to) ⊎ (to + k ≤ from)
    → in_slice (leb (from + k) n && (leb (to + k) n && (leb (from + k) to || leb (to + k) from))) ≡ None
copy_fits from to k n a b o = ap in_slice (and_from (leb (from + k) n) _ (le-leb (from + k) n a) (and_from (leb (to + k) n) _ (le-leb (to + k) n b) (apart from to k o)))

-- whatever a shift or a copy answers, what holds of the slice before, and of all that a move may leave, holds of the slice after
pub either_way : {X : Type 0} (Q : List X → Type 0) (r : Result (Unit {0}) StoreFault) (xs ys : List X) (P : List X → List X → Type 0) → Moves r xs ys P → (P xs ys → Q ys) → Q xs → Q ys
either_way Q (Ok _) xs ys P h f q = f h
either_way Q (Err e) xs ys P h f q = subst Q (sym h) q

-- what is granted is no refusal
pub is_granted : {X F : Type 0} (tell : F → Refusal) (r : Result X F) (g : Grant) → Says tell r g → g ≡ None → IsOk r
is_granted tell (Ok x) g s n = refl
is_granted tell (Err f) g s n = absurd (never g (tell f) n s)

pub has_moved : {X : Type 0} (r : Result (Unit {0}) StoreFault) (xs ys : List X) (P : List X → List X → Type 0) → IsOk r → Moves r xs ys P → P xs ys
has_moved (Ok _) xs ys P h m = m
has_moved (Err e) xs ys P h m = absurd (let z : ◌≡◌ {A = ℕ} 0 1 = ap (λ b. cond b 1 0) h in omega arith)
