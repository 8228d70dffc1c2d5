-- What shifting and copying entries make of a list. A place is compared at every default, so that a list may be of any kind.
use Rattle.std.specs.Prelude.{◌≡◌, ℕ, ◌+◌, ◌<◌, ◌≤◌, Bool, cond, List, [], Some, None, Result, MatchResult, slice_index_or}
use Rattle.runs.specs.declared.fault.StoreFault.{StoreFault}
use Rattle.runs.specs.Refusals.{Grant, refusal}

-- ys is xs with the entries at lo .. hi-1 one place further right
abbrev pub Right : {X : Type 0} → List X → List X → ℕ → ℕ → Type 0
Right {X} xs ys lo hi = ((k : ℕ) (d : X) → k ≤ lo → slice_index_or ys k d ≡ slice_index_or xs k d)
    × ((k : ℕ) (d : X) → lo ≤ k → k < hi → slice_index_or ys (k + 1) d ≡ slice_index_or xs k d)
    × ((k : ℕ) (d : X) → hi < k → slice_index_or ys k d ≡ slice_index_or xs k d)

-- ys is xs with the entries at lo+1 .. hi-1 one place further left
abbrev pub Left : {X : Type 0} → List X → List X → ℕ → ℕ → Type 0
Left {X} xs ys lo hi = ((k : ℕ) (d : X) → k < lo → slice_index_or ys k d ≡ slice_index_or xs k d)
    × ((k : ℕ) (d : X) → lo ≤ k → k + 1 < hi → slice_index_or ys k d ≡ slice_index_or xs (k + 1) d)
    × ((k : ℕ) (d : X) → hi ≤ k + 1 → slice_index_or ys k d ≡ slice_index_or xs k d)

-- ys is xs with the n entries from `from` on written from `to` on
abbrev pub Copied : {X : Type 0} → List X → List X → ℕ → ℕ → ℕ → Type 0
Copied {X} xs ys from to n = ((k : ℕ) (d : X) → k < to → slice_index_or ys k d ≡ slice_index_or xs k d)
    × ((k : ℕ) (d : X) → k < n → slice_index_or ys (to + k) d ≡ slice_index_or xs (from + k) d)
    × ((k : ℕ) (d : X) → to + n ≤ k → slice_index_or ys k d ≡ slice_index_or xs k d)

-- a range lies in the slice, or is refused 21
abbrev pub in_slice : Bool → Grant
in_slice ok = cond ok None (Some (refusal 21 []))

-- where it is accepted P holds of what the slice held and what it holds now; else it holds what it held
abbrev pub Moves : {X : Type 0} → Result (Unit {0}) StoreFault → List X → List X → (List X → List X → Type 0) → Type 0
Moves r xs ys P = MatchResult r (λ _. P xs ys) (λ _. ys ≡ xs)
