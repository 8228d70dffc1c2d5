-- The tiered store by its states: cells lent, cells claimed, the freed groups of each size (the last one freed first), and the runs.
use Rattle.std.specs.Prelude.{ℕ, ◌+◌, ◌-◌, Bool, true, false, cond, ◌||◌, List, [], ◌∷◌, map, length, Some, None, ◌==◌, nat_le, slice_set}
use Rattle.std.specs.List.{range_with_len}
use Rattle.runs.specs.Refusals.{Grant, refusal}
use Rattle.runs.specs.Runs.{Model}
use Rattle.runs.specs.Lists.{at, with_new, without}
use Rattle.runs.specs.Sizes.{size}

pub record State (E : Type 0) : Type 0 where
  pub cells : ℕ
  pub claimed : ℕ
  pub free : ℕ → List ℕ
  pub live : ℕ → List E

abbrev pub first_free : List ℕ → ℕ → ℕ
first_free [] c = c
first_free (i ∷ is) c = i

abbrev pub rest_free : List ℕ → List ℕ
rest_free [] = []
rest_free (i ∷ is) = is

abbrev pub now_claimed : List ℕ → ℕ → ℕ → ℕ
now_claimed [] c z = c + z
now_claimed (i ∷ is) c z = c

abbrev pub has_free : List ℕ → Bool
has_free [] = false
has_free (i ∷ is) = true

module _ {E : Type 0} where
  abbrev pub fresh : ℕ → State E
  fresh cells = record { cells = cells; claimed = 0; free = λ _. []; live = λ _. [] }

  -- the group of size y that is taken next: the last one freed of that size, else the next unclaimed cells
  abbrev pub group : State E → ℕ → ℕ
  group s y = first_free (s.free y) s.claimed

  -- the run ys in a group of size y, taken from the freed groups fs of that size, else from the unclaimed cells
  abbrev pub held_from : State E → List ℕ → ℕ → List E → State E
  held_from s fs y ys = record { cells = s.cells; claimed = now_claimed fs s.claimed y; free = at s.free y (rest_free fs); live = at s.live (first_free fs s.claimed) ys }

  abbrev pub held : State E → ℕ → List E → State E
  held s y ys = held_from s (s.free y) y ys

  -- the run at i is no more, and its group is freed under its size z
  abbrev pub ended : State E → ℕ → ℕ → State E
  ended s z i = record { cells = s.cells; claimed = s.claimed; free = at s.free z (i ∷ s.free z); live = at s.live i [] }

  -- the run at i is now ys, in the same group
  abbrev pub kept : State E → ℕ → List E → State E
  kept s i ys = record { cells = s.cells; claimed = s.claimed; free = s.free; live = at s.live i ys }

  -- whether a group of size y can be had
  abbrev pub has : State E → ℕ → Bool
  has s y = has_free (s.free y) || nat_le (s.claimed + y) s.cells

  abbrev pub can : State E → ℕ → Grant
  can s y = cond (has s y) None (Some (refusal 23 (0 ∷ [])))

  -- the answer for a run that goes from size z to size y
  abbrev pub change : State E → ℕ → ℕ → Grant
  change s z y = cond (z == y) None (can s y)

  -- a run goes from size z to size y: the new group is taken first, then the old one is freed under the old size
  abbrev pub moved : State E → ℕ → ℕ → ℕ → List E → State E
  moved s i z y ys = cond (z == y) (kept s i ys) (ended (held s y ys) z i)

  abbrev pub moved_to : State E → ℕ → ℕ → ℕ → ℕ
  moved_to s i z y = cond (z == y) i (group s y)

  module _ (longest : ℕ) where
    abbrev pub size_at : State E → ℕ → ℕ
    size_at s i = size longest (length (s.live i))

    abbrev pub growth : State E → ℕ → Grant
    growth s n = cond (n == 0) (can s 1) (change s (size longest n) (size longest (n + 1)))

    abbrev pub shrinkage : State E → ℕ → Grant
    shrinkage s n = cond (nat_le n 1) None (change s (size longest n) (size longest (n - 1)))

    abbrev pub put : State E → ℕ → List E → State E
    put s i ys = moved s i (size_at s i) (size longest (length ys)) ys

    abbrev pub put_to : State E → ℕ → List E → ℕ
    put_to s i ys = moved_to s i (size_at s i) (size longest (length ys))

    abbrev pub tiered : Model E (State E)
    tiered = record {
      live = λ s. s.live;
      grow = λ s. map (growth s) (range_with_len 0 longest);
      shrink = λ s. map (shrinkage s) (range_with_len 1 longest);
      exchanged = λ s i k e. kept s i (slice_set (s.live i) k e);
      opened = λ s e. held s 1 (e ∷ []);
      opened_at = λ s e. group s 1;
      inserted = λ s i k e. put s i (with_new (s.live i) k e);
      inserted_at = λ s i k e. put_to s i (with_new (s.live i) k e);
      removed = λ s i k. cond (length (s.live i) == 1) (ended s 1 i) (put s i (without (s.live i) k));
      removed_at = λ s i k. cond (length (s.live i) == 1) 4294967295 (put_to s i (without (s.live i) k));
    }
