-- What a table refuses: 1 to 8 judged on the plain tree alone, 9 and 10 on what a store grants. The first that holds is told.
use Rattle.std.specs.Prelude.{ℕ, zero, suc, ◌+◌, Bool, cond, not, ◌&&◌, [], ◌∷◌, ◌++◌, length, Some, None, ◌==◌, nat_le, nat_lt}
use Rattle.runs.specs.Refusals.{Refusal, refusal, Grant}
use Rattle.table_model.specs.Tree.{Path, Tree, followed}
use Rattle.table_model.specs.Table.{is_some}

-- the first refusal of two
abbrev pub first : Grant → Grant → Grant
first (Some f) g = Some f
first None g = g

abbrev pub when : Bool → Refusal → Grant
when b f = cond b (Some f) None

-- a store's refusal inside the table's, which carries its number and then what it carries
abbrev pub inside : ℕ → Grant → Grant
inside n None = None
inside n (Some f) = Some (refusal n (f.number ∷ f.carries))

-- 1: a path longer than 25; 2: a byte above 31, with the position of the first, from 0
unfoldable pub bad_byte : ℕ → Path → Grant
bad_byte i [] = None
bad_byte i (b ∷ p) = cond (nat_lt 31 b) (Some (refusal 2 (i ∷ []))) (bad_byte (i + 1) p)

abbrev pub bad_path : Path → Grant
bad_path p = cond (nat_lt 25 (length p)) (Some (refusal 1 [])) (bad_byte 0 p)

-- how many of the first n numbers pass a test
unfoldable pub passing : (ℕ → Bool) → ℕ → ℕ
passing f zero = 0
passing f (suc n) = passing f n + cond (f n) 1 0

module _ {V : Type 0} where
  -- how many values a node has, and how many children
  abbrev pub value_count : Tree V → Path → ℕ
  value_count t p = passing (λ b. is_some (t.val p b)) 31

  abbrev pub child_count : Tree V → Path → ℕ
  child_count t p = passing (λ b. t.has (p ++ b ∷ [])) 32

  -- a node with no value and no child
  abbrev pub is_bare : Tree V → Path → Bool
  is_bare t p = value_count t p + child_count t p == 0

  -- 4: no node on the path, with the count of child bits followed
  abbrev pub no_node : Tree V → Path → Grant
  no_node t p = when (not (t.has p)) (refusal 4 (followed t p ∷ []))

  abbrev pub no_path : Tree V → Path → Grant
  no_path t p = first (bad_path p) (no_node t p)

  -- the same, and between the two 3: a bit that is not below w
  abbrev pub no_place : Tree V → Path → ℕ → ℕ → Grant
  no_place t p b w = first (bad_path p) (first (when (nat_le w b) (refusal 3 [])) (no_node t p))

  -- get and swap; 7: no value is there
  abbrev pub no_get : Tree V → Path → ℕ → Grant
  no_get t p b = first (no_place t p b 31) (when (not (is_some (t.val p b))) (refusal 7 []))

  -- 6: there is one already. The last argument is what the value store says to one value more
  abbrev pub no_put : Tree V → Path → ℕ → Grant → Grant
  no_put t p b g = first (no_place t p b 31) (first (when (is_some (t.val p b)) (refusal 6 [])) (inside 10 g))

  -- the last argument is what the value store says to one value less
  abbrev pub no_take : Tree V → Path → ℕ → Grant → Grant
  no_take t p b g = first (no_get t p b) (inside 10 g)

  -- 5: the path has no room for a child bit. The last argument is what the node store says to one child more
  abbrev pub no_add : Tree V → Path → ℕ → Grant → Grant
  no_add t p b g = first (no_place t p b 32) (first (when (nat_le 25 (length p)) (refusal 5 [])) (first (when (t.has (p ++ b ∷ [])) (refusal 6 [])) (inside 9 g)))

  -- the last argument is what the value store says to a first value
  abbrev pub no_plant : Tree V → Path → ℕ → Grant → Grant → Grant
  no_plant t p b g h = first (no_add t p b g) (inside 10 h)

  -- 8: the child has a value or a child. The last argument is what the node store says to one child less
  abbrev pub no_drop : Tree V → Path → ℕ → Grant → Grant
  no_drop t p b g = first (no_place t p b 32) (first (when (not (t.has (p ++ b ∷ []))) (refusal 7 [])) (first (when (not (is_bare t (p ++ b ∷ []))) (refusal 8 [])) (inside 9 g)))

-- 12: a table starts on stores with no live run; the arguments are how many each has
abbrev pub no_start : ℕ → ℕ → Grant
no_start nodes values = when (not (nodes == 0 && values == 0)) (refusal 12 [])
