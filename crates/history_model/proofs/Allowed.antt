-- What is known of the plain tree where it allows a call, and what the stores' lists are then asked.
use Rattle.std.proofs.Common.{◌≡◌, ℕ, ◌<◌, Bool, true, false, not, leb, [], ◌∷◌, ◌++◌, length, Some, None, Option, refl, ap, ◌∙◌, arith}
use Rattle.std.proofs.lemmas.Bool.{not-false, leb-false}
use Rattle.runs.specs.Refusals.{Refusal, refusal, Grant}
use Rattle.table_model.specs.Tree.{Path, Tree, followed}
use Rattle.table_model.specs.Table.{is_some}
use Rattle.table_model.specs.Refusals.{first, when, inside, bad_path, value_count, child_count, is_bare, no_node, no_place, no_get, no_put, no_add, no_drop}
use Rattle.history_model.specs.Calls.{Call, get, put, swap, take, add, plant, drop, show, Lists, no_call}

pub first_none : (g h : Grant) → first g h ≡ None → (g ≡ None) × (h ≡ None)
first_none None h e = (refl, e)
first_none (Some f) h e = absurd (let z : ◌≡◌ {A = ℕ} 0 1 = cc in omega arith)

pub first_after : (g h : Grant) → g ≡ None → first g h ≡ h
first_after g h e = ap (λ (x : Grant). first x h) e

when_none : (b : Bool) (f : Refusal) → when b f ≡ None → b ≡ false
when_none false f e = refl
when_none true f e = absurd (let z : ◌≡◌ {A = ℕ} 0 1 = cc in omega arith)

pub inside_none : (n : ℕ) (g : Grant) → inside n g ≡ None → g ≡ None
inside_none n None e = refl
inside_none n (Some f) e = absurd (let z : ◌≡◌ {A = ℕ} 0 1 = cc in omega arith)

none_there : {A : Type 0} (o : Option A) → is_some o ≡ false → o ≡ None
none_there None e = refl
none_there (Some a) e = absurd (let z : ◌≡◌ {A = ℕ} 0 1 = cc in omega arith)

pub some_there : {A : Type 0} (o : Option A) → is_some o ≡ true → (a : A) × (o ≡ Some a)
some_there None e = absurd (let z : ◌≡◌ {A = ℕ} 0 1 = cc in omega arith)
some_there (Some a) e = (a, refl)

module _ {V : Type 0} (t : Tree V) where
  -- a node at p, and a bit below w
  pub record Here (p : Path) (b w : ℕ) : Type 0 where
    pub path : bad_path p ≡ None
    pub low : b < w
    pub has : t.has p ≡ true

  there : (p : Path) → no_node t p ≡ None → t.has p ≡ true
  there p e = not-false (t.has p) (when_none (not (t.has p)) (refusal 4 (followed t p ∷ [])) e)

  here : (p : Path) (b w : ℕ) → no_place t p b w ≡ None → Here p b w
  here p b w e =
      let a = first_none (bad_path p) (first (when (leb w b) (refusal 3 [])) (no_node t p)) e in
      let c = first_none (when (leb w b) (refusal 3 [])) (no_node t p) a.1 in
      record { path = a.0; low = leb-false w b (when_none (leb w b) (refusal 3 []) c.0); has = there p c.1 }

  -- what the tree allows; the lists are asked after it
  unfoldable pub Allowed : Call V → Type 0
  Allowed (get p b) = Here p b 31 × (is_some (t.val p b) ≡ true)
  Allowed (put p b v) = Here p b 31 × (t.val p b ≡ None)
  Allowed (swap p b v) = Here p b 31 × (is_some (t.val p b) ≡ true)
  Allowed (take p b) = Here p b 31 × (is_some (t.val p b) ≡ true)
  Allowed (add p b) = Here p b 32 × (length p < 25) × (t.has (p ++ b ∷ []) ≡ false)
  Allowed (plant p b v) = Here p b 32 × (length p < 25) × (t.has (p ++ b ∷ []) ≡ false)
  Allowed (drop p b) = Here p b 32 × (t.has (p ++ b ∷ []) ≡ true) × (is_bare t (p ++ b ∷ []) ≡ true)
  Allowed (show p) = (bad_path p ≡ None) × (t.has p ≡ true)

  -- the answer of the lists that are asked
  unfoldable pub asked : Lists → Call V → Grant
  asked l (get p b) = None
  asked l (put p b v) = inside 10 (l.grow_values (value_count t p))
  asked l (swap p b v) = None
  asked l (take p b) = inside 10 (l.shrink_values (value_count t p))
  asked l (add p b) = inside 9 (l.grow_nodes (child_count t p))
  asked l (plant p b v) = first (inside 9 (l.grow_nodes (child_count t p))) (inside 10 (l.grow_values 0))
  asked l (drop p b) = inside 9 (l.shrink_nodes (child_count t p))
  asked l (show p) = None

  of_get : (p : Path) (b : ℕ) → no_get t p b ≡ None → Here p b 31 × (is_some (t.val p b) ≡ true)
  of_get p b e =
      let a = first_none (no_place t p b 31) (when (not (is_some (t.val p b))) (refusal 7 [])) e in
      (here p b 31 a.0, not-false (is_some (t.val p b)) (when_none (not (is_some (t.val p b))) (refusal 7 []) a.1))

  of_put : (p : Path) (b : ℕ) (g h : Grant) → no_put t p b g ≡ None → (Here p b 31 × (t.val p b ≡ None)) × (inside 10 g ≡ None) × (no_put t p b h ≡ inside 10 h)
  of_put p b g h e =
      let taken : Grant = when (is_some (t.val p b)) (refusal 6 []) in
      let a = first_none (no_place t p b 31) (first taken (inside 10 g)) e in
      let c = first_none taken (inside 10 g) a.1 in (
        (here p b 31 a.0, none_there (t.val p b) (when_none (is_some (t.val p b)) (refusal 6 []) c.0)),
        c.1,
        first_after (no_place t p b 31) (first taken (inside 10 h)) a.0 ∙ first_after taken (inside 10 h) c.0,
      )

  of_add : (p : Path) (b : ℕ) (g h : Grant) → no_add t p b g ≡ None → (Here p b 32 × (length p < 25) × (t.has (p ++ b ∷ []) ≡ false)) × (inside 9 g ≡ None) × (no_add t p b h ≡ inside 9 h)
  of_add p b g h e =
      let deep : Grant = when (leb 25 (length p)) (refusal 5 []) in
      let taken : Grant = when (t.has (p ++ b ∷ [])) (refusal 6 []) in
      let a = first_none (no_place t p b 32) (first deep (first taken (inside 9 g))) e in
      let c = first_none deep (first taken (inside 9 g)) a.1 in
      let d = first_none taken (inside 9 g) c.1 in (
        (here p b 32 a.0, leb-false 25 (length p) (when_none (leb 25 (length p)) (refusal 5 []) c.0), when_none (t.has (p ++ b ∷ [])) (refusal 6 []) d.0),
        d.1,
        first_after (no_place t p b 32) (first deep (first taken (inside 9 h))) a.0 ∙ first_after deep (first taken (inside 9 h)) c.0 ∙ first_after taken (inside 9 h) d.0,
      )

  of_drop : (p : Path) (b : ℕ) (g h : Grant) → no_drop t p b g ≡ None → (Here p b 32 × (t.has (p ++ b ∷ []) ≡ true) × (is_bare t (p ++ b ∷ []) ≡ true)) × (inside 9 g ≡ None) × (no_drop t p b h ≡ inside 9 h)
  of_drop p b g h e =
      let gone : Grant = when (not (t.has (p ++ b ∷ []))) (refusal 7 []) in
      let full : Grant = when (not (is_bare t (p ++ b ∷ []))) (refusal 8 []) in
      let a = first_none (no_place t p b 32) (first gone (first full (inside 9 g))) e in
      let c = first_none gone (first full (inside 9 g)) a.1 in
      let d = first_none full (inside 9 g) c.1 in (
        (
          here p b 32 a.0,
          not-false (t.has (p ++ b ∷ [])) (when_none (not (t.has (p ++ b ∷ []))) (refusal 7 []) c.0),
          not-false (is_bare t (p ++ b ∷ [])) (when_none (not (is_bare t (p ++ b ∷ []))) (refusal 8 []) d.0),
        ),
        d.1,
        first_after (no_place t p b 32) (first gone (first full (inside 9 h))) a.0 ∙ first_after gone (first full (inside 9 h)) c.0 ∙ first_after full (inside 9 h) d.0,
      )

  pub judged : (c : Call V) (l m : Lists) → no_call t l c ≡ None → Allowed c × (asked l c ≡ None) × (no_call t m c ≡ asked m c)
  unfolding Allowed asked
  judged (get p b) l m e = (of_get p b e, refl, e)
  judged (put p b v) l m e = of_put p b (l.grow_values (value_count t p)) (m.grow_values (value_count t p)) e
  judged (swap p b v) l m e = (of_get p b e, refl, e)
  judged (take p b) l m e =
      let a = first_none (no_get t p b) (inside 10 (l.shrink_values (value_count t p))) e in
      (of_get p b a.0, a.1, first_after (no_get t p b) (inside 10 (m.shrink_values (value_count t p))) a.0)
  judged (add p b) l m e = of_add p b (l.grow_nodes (child_count t p)) (m.grow_nodes (child_count t p)) e
  judged (plant p b v) l m e =
      let g : Grant = l.grow_nodes (child_count t p) in
      let h : Grant = m.grow_nodes (child_count t p) in
      let a = first_none (no_add t p b g) (inside 10 (l.grow_values 0)) e in
      let c = of_add p b g h a.0 in
      (c.0, first_after (inside 9 g) (inside 10 (l.grow_values 0)) c.1 ∙ a.1, ap (λ (x : Grant). first x (inside 10 (m.grow_values 0))) c.2)
  judged (drop p b) l m e = of_drop p b (l.shrink_nodes (child_count t p)) (m.shrink_nodes (child_count t p)) e
  judged (show p) l m e = let a = first_none (bad_path p) (no_node t p) e in ((a.0, there p a.1), refl, e)
