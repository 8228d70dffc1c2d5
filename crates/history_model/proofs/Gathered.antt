-- Lists gathered from a whole tree, and two trees that differ at one place.
use Rattle.std.proofs.Common.{◌≡◌, ℕ, zero, suc, ◌<◌, true, false, cond, List, [], ◌∷◌, ◌++◌, Some, None, Option}
use Rattle.std.specs.List.Sorted.{IsPermutation}
use Rattle.table_model.specs.Tree.{Path, Tree, below}

-- g of the bits below n, by rising bit
unfoldable pub rising : {X : Type 0} → ℕ → (ℕ → List X) → List X
rising zero g = []
rising (suc n) g = rising n g ++ g n

-- g of the bits below n, by falling bit
unfoldable pub falling : {X : Type 0} → ℕ → (ℕ → List X) → List X
falling zero g = []
falling (suc n) g = g n ++ falling n g

-- f of the node at the empty path, then of its children by falling child bit, each with all below it; paths are at most d long
unfoldable pub collect : {V X : Type 0} → ℕ → (Tree V → List X) → Tree V → List X
collect zero f t = f t
collect (suc d) f t = f t ++ falling 32 (λ b. cond (t.has (b ∷ [])) (collect d f (below t b)) [])

abbrev pub one_of : {X : Type 0} → Option X → List X
one_of None = []
one_of (Some x) = x ∷ []

-- the values at the empty path
unfoldable pub vals : {V : Type 0} → Tree V → List V
vals t = rising 31 (λ b. one_of (t.val [] b))

-- f looks at the node at the empty path only: its values, and which children are there
abbrev pub Local : {V X : Type 0} → (Tree V → X) → Type 0
Local {V} f = (s t : Tree V) → s.val [] ≡ t.val [] → ((b : ℕ) → s.has (b ∷ []) ≡ t.has (b ∷ [])) → f s ≡ f t

-- the path p, read child bit by child bit, leads to a node of t, and is at most d long
abbrev pub On : {V : Type 0} → ℕ → Tree V → Path → Type 0
On d t [] = Unit {0}
On zero t (c ∷ p) = ⊥
On (suc d) t (c ∷ p) = (c < 32) × (t.has (c ∷ []) ≡ true) × On d (below t c) p

-- what lies at p, as a tree of its own
abbrev pub sub : {V : Type 0} → Tree V → Path → Tree V
sub t p = record { has = λ q. t.has (p ++ q); val = λ q. t.val (p ++ q) }

-- s and t agree but for the node at p and what lies below it
abbrev pub Away : {V : Type 0} → Path → Tree V → Tree V → Type 0
Away [] s t = Unit {0}
Away (c ∷ p) s t = (s.val [] ≡ t.val []) × ((b : ℕ) → s.has (b ∷ []) ≡ t.has (b ∷ [])) × ((b : ℕ) → (c ≡ b → ⊥) → below s b ≡ below t b) × Away p (below s c) (below t c)

-- s and t agree but for the values at the empty path
pub record ValuesDiffer {V : Type 0} (s t : Tree V) : Type 0 where
  pub children : (b : ℕ) → s.has (b ∷ []) ≡ t.has (b ∷ [])
  pub same : (b : ℕ) → below s b ≡ below t b

-- t has a child at bit b with nothing below it, s has none there, and they agree on the other children
pub record LeafMore {V : Type 0} (b : ℕ) (s t : Tree V) : Type 0 where
  pub absent : s.has (b ∷ []) ≡ false
  pub present : t.has (b ∷ []) ≡ true
  pub alone : (c : ℕ) → c < 32 → t.has (b ∷ c ∷ []) ≡ false
  pub children : (c : ℕ) → (b ≡ c → ⊥) → s.has (c ∷ []) ≡ t.has (c ∷ [])
  pub same : (c : ℕ) → (b ≡ c → ⊥) → below s c ≡ below t c

-- ys is a rearrangement of xs with n in place of m
pub record Exchanged {X : Type 0} (xs m ys n : List X) : Type 0 where
  pub rest : List X
  pub first : IsPermutation xs (m ++ rest)
  pub second : IsPermutation ys (n ++ rest)

-- how much longer a path may be than p, where d is the most
abbrev pub left : ℕ → Path → ℕ
left d [] = d
left zero (c ∷ p) = zero
left (suc d) (c ∷ p) = left d p
