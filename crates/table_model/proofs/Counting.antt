-- The values of a tree, counted by the walk: what one node's values and one bare child more or less do to the count.
use Rattle.std.proofs.Common.{◌≡◌, ℕ, zero, suc, ◌+◌, ◌<◌, Bool, true, false, cond, eqb, List, [], ◌∷◌, ◌++◌, length, Some, None, Option, sym, refl, ap, ◌∙◌, inl, inr, add-zero, add-suc, suc-add, arith, length-append}
use Rattle.std.proofs.lemmas.Bool.{cases_eq, cond-true, cond_both}
use Rattle.bitmap.specs.Ranks.{bit, rank, is_set}
use Rattle.bitmap.proofs.Ranks.{cases_bit}
use Rattle.table_model.specs.Tree.{Path, Tree, below, listed, rising, falling, walk}
use Rattle.table_model.specs.Table.{is_some}
use Rattle.table_model.specs.Refusals.{passing, value_count}
use Rattle.table_model.proofs.Paths.{not_nil}

pub tree_same : {V : Type 0} (t u : Tree V) → ((q : Path) → t.has q ≡ u.has q) → ((q : Path) (c : ℕ) → t.val q c ≡ u.val q c) → t ≡ u
tree_same t u h v = λ i. record { has = λ q. h q i; val = λ q c. v q c i }

-- ---- numbers that pass a test

bit_is : (m b : ℕ) → cond (is_set m b) 1 0 ≡ bit m b
bit_is m b = elim (cases_bit m b) [
  | inl z ↦ ap (λ (x : ℕ). cond (eqb x 1) 1 0) z ∙ sym z
  | inr o ↦ ap (λ (x : ℕ). cond (eqb x 1) 1 0) o ∙ sym o
]

pub passing_rank : (f : ℕ → Bool) (m w : ℕ) → ((b : ℕ) → f b ≡ is_set m b) → passing f w ≡ rank m w
unfolding passing rank
passing_rank f m zero h = refl
passing_rank f m (suc w) h = omega (arith, passing_rank f m w h, ap (λ (x : Bool). cond {A = ℕ} x 1 0) (h w), bit_is m w)

passing_same : (f g : ℕ → Bool) (n : ℕ) → ((b : ℕ) → f b ≡ g b) → passing f n ≡ passing g n
unfolding passing
passing_same f g zero h = refl
passing_same f g (suc n) h = omega (arith, passing_same f g n h, ap (λ (x : Bool). cond {A = ℕ} x 1 0) (h n))

passing_none : (f : ℕ → Bool) (n : ℕ) → ((b : ℕ) → f b ≡ false) → passing f n ≡ 0
unfolding passing
passing_none f zero h = refl
passing_none f (suc n) h = omega (arith, passing_none f n h, ap (λ (x : Bool). cond {A = ℕ} x 1 0) (h n))

cons_tail : (x y : ℕ) (p q : Path) → x ∷ p ≡ y ∷ q → p ≡ q
cons_tail x y p q e = cc

cons_head : (x y : ℕ) (p q : Path) → x ∷ p ≡ y ∷ q → x ≡ y
cons_head x y p q e = cc

nil_cons : (y : ℕ) (q : Path) → [] ≡ y ∷ q → ⊥
nil_cons y q e = omega (arith, ap length e)

module _ {V : Type 0} where
  -- ---- the values of one node

  one_length : (b : ℕ) (o : Option V) → length (listed b o) ≡ cond (is_some o) 1 0
  one_length b (Some v) = refl
  one_length b None = refl

  rising_length : (n b : ℕ) (t : Tree V) → length (rising n b t) + passing (λ k. is_some (t.val [] k)) b ≡ passing (λ k. is_some (t.val [] k)) (b + n)
  unfolding rising passing
  rising_length zero b t = ap (λ (m : ℕ). length (rising zero b t) + m) (ap (passing (λ k. is_some (t.val [] k))) (sym (add-zero b))) ∙ omega arith
  rising_length (suc n) b t =
      let next = rising_length n (suc b) t in
      let here : length (rising (suc n) b t) ≡ length (listed b (t.val [] b)) + length (rising n (suc b) t) = length-append (listed b (t.val [] b)) (rising n (suc b) t) in
      let more : passing (λ k. is_some (t.val [] k)) (b + suc n) ≡ passing (λ k. is_some (t.val [] k)) (suc b + n) = ap (passing (λ k. is_some (t.val [] k))) (add-suc b n ∙ sym (suc-add b n)) in
      omega (arith, one_length b (t.val [] b))

  own_values : (t : Tree V) → length (rising 31 0 t) ≡ value_count t []
  unfolding passing
  own_values t = omega (arith, rising_length 31 0 t)

  -- ---- the children of one node

  piece : (Tree V → List (ℕ × V)) → Tree V → ℕ → ℕ
  piece w t k = length (cond (t.has (k ∷ [])) (w (below t k)) [])

  falling_step : (w : Tree V → List (ℕ × V)) (n : ℕ) (t : Tree V) → length (falling w (suc n) t) ≡ piece w t n + length (falling w n t)
  unfolding falling piece
  falling_step w n t = length-append (cond (t.has (n ∷ [])) (w (below t n)) []) (falling w n t)

  same_falling : (w : Tree V → List (ℕ × V)) (s t : Tree V) (n : ℕ) → ((k : ℕ) → k < n → piece w t k ≡ piece w s k) → length (falling w n t) ≡ length (falling w n s)
  unfolding falling
  same_falling w s t zero h = refl
  same_falling w s t (suc n) h = omega (arith, falling_step w n s, falling_step w n t, h n (omega arith), same_falling w s t n (λ k l. h k (omega arith)))

  one_falling : (w : Tree V → List (ℕ × V)) (s t : Tree V) (n c x y : ℕ) → c < n → ((k : ℕ) → (k ≡ c → ⊥) → piece w t k ≡ piece w s k) → piece w t c + x ≡ piece w s c + y → length (falling w n t) + x ≡ length (falling w n s) + y
  one_falling w s t zero c x y l h e = absurd (omega arith)
  one_falling w s t (suc n) c x y l h e = elim (cases_eq c n) [
    | inl q ↦ omega (arith, falling_step w n s, falling_step w n t, ap (piece w s) q, ap (piece w t) q, same_falling w s t n (λ k m. h k (λ z. omega arith)))
    | inr q ↦ omega (arith, falling_step w n s, falling_step w n t, h n (λ z. q (sym z)), one_falling w s t n c x y (omega arith) h e)
  ]

  -- ---- the walk

  walk_zero : (t : Tree V) → length (walk 0 t) ≡ value_count t []
  unfolding walk
  walk_zero t = own_values t

  walk_suc : (d : ℕ) (t : Tree V) → length (walk (suc d) t) ≡ value_count t [] + length (falling (walk d) 32 t)
  unfolding walk
  walk_suc d t = length-append (rising 31 0 t) (falling (walk d) 32 t) ∙ ap (λ (m : ℕ). m + length (falling (walk d) 32 t)) (own_values t)

  -- a tree with no value and no child at the empty path
  pub empty_walk : (d : ℕ) (t : Tree V) → ((c : ℕ) → t.val [] c ≡ None) → ((c : ℕ) → t.has (c ∷ []) ≡ false) → length (walk d t) ≡ 0
  unfolding piece falling
  empty_walk zero t nv nc = walk_zero t ∙ passing_none (λ b. is_some (t.val [] b)) 31 (λ b. ap is_some (nv b))
  empty_walk (suc d) t nv nc = omega (arith, walk_suc d t, passing_none (λ b. is_some (t.val [] b)) 31 (λ b. ap is_some (nv b)), none 32)
    where
      none : (n : ℕ) → length (falling (walk d) n t) ≡ 0
      none zero = refl
      none (suc n) = omega (arith, falling_step (walk d) n t, ap (λ (h : Bool). length (cond h (walk d (below t n)) [])) (nc n), none n)

  -- the path p can be followed from the empty path on, and is at most d long
  abbrev pub On : ℕ → Tree V → Path → Type 0
  On d s [] = Unit {0}
  On zero s (c ∷ q) = ⊥
  On (suc d) s (c ∷ q) = (s.has (c ∷ []) ≡ true) × (c < 32) × On d (below s c) q

  -- two trees that differ in the values at p alone, and in whether there is a bare child at its bit b
  pub record Differ (p : Path) (b : ℕ) (s t : Tree V) : Type 0 where
    pub has_same : (q : Path) → (q ≡ p ++ b ∷ [] → ⊥) → t.has q ≡ s.has q
    pub val_same : (q : Path) (c : ℕ) → (q ≡ p → ⊥) → t.val q c ≡ s.val q c
    pub no_value : (c : ℕ) → s.val (p ++ b ∷ []) c ≡ None
    pub no_child : (c : ℕ) → s.has (p ++ b ∷ c ∷ []) ≡ false

  -- below a child at which they do not differ the trees are the same
  same_piece : (w : Tree V → List (ℕ × V)) (s t : Tree V) (k : ℕ) → ((q : Path) → t.has (k ∷ q) ≡ s.has (k ∷ q)) → ((q : Path) (c : ℕ) → t.val (k ∷ q) c ≡ s.val (k ∷ q) c) → piece w t k ≡ piece w s k
  unfolding piece
  same_piece w s t k h v =
      ap (λ (x : Bool). length (cond x (w (below t k)) [])) (h [])
      ∙ ap (λ (u : Tree V). length (cond (s.has (k ∷ [])) (w u) [])) (tree_same (below t k) (below s k) h v)

  bare_piece : (d : ℕ) (t : Tree V) (k : ℕ) → ((c : ℕ) → t.val (k ∷ []) c ≡ None) → ((c : ℕ) → t.has (k ∷ c ∷ []) ≡ false) → piece (walk d) t k ≡ 0
  unfolding piece
  bare_piece d t k nv nc = cond_both (t.has (k ∷ [])) (walk d (below t k)) [] (λ l. length l ≡ 0) (λ _. empty_walk d (below t k) nv nc) (λ _. refl)

  whole_piece : (d : ℕ) (t : Tree V) (k : ℕ) → t.has (k ∷ []) ≡ true → piece (walk d) t k ≡ length (walk d (below t k))
  unfolding piece
  whole_piece d t k e = ap length (cond-true (t.has (k ∷ [])) (walk d (below t k)) [] e)

  -- the two counts differ as the values at p do
  pub walk_differs : (d : ℕ) (p : Path) (b : ℕ) (s t : Tree V) → On d s p → Differ p b s t → length (walk d t) + value_count s p ≡ length (walk d s) + value_count t p
  walk_differs zero [] b s t on h = omega (arith, walk_zero s, walk_zero t)
  walk_differs (suc d) [] b s t on h =
      let kids : length (falling (walk d) 32 t) ≡ length (falling (walk d) 32 s) = same_falling (walk d) s t 32 (λ k l. each k) in
      omega (arith, walk_suc d s, walk_suc d t)
    where
      each : (k : ℕ) → piece (walk d) t k ≡ piece (walk d) s k
      each k = elim (cases_eq k b) [
        | inl e ↦
            bare_piece d t k (λ c. h.val_same (k ∷ []) c (λ z. nil_cons k [] (sym z)) ∙ ap (λ (m : ℕ). s.val (m ∷ []) c) e ∙ h.no_value c)
            (λ c. h.has_same (k ∷ c ∷ []) (λ z. nil_cons c [] (sym (cons_tail k b (c ∷ []) [] z))) ∙ ap (λ (m : ℕ). s.has (m ∷ c ∷ [])) e ∙ h.no_child c)
            ∙ sym (bare_piece d s k (λ c. ap (λ (m : ℕ). s.val (m ∷ []) c) e ∙ h.no_value c) (λ c. ap (λ (m : ℕ). s.has (m ∷ c ∷ [])) e ∙ h.no_child c))
        | inr n ↦ same_piece (walk d) s t k (λ q. h.has_same (k ∷ q) (λ z. n (cons_head k b q [] z))) (λ q c. h.val_same (k ∷ q) c (λ z. nil_cons k q (sym z)))
      ]
  walk_differs zero (c ∷ q) b s t on h = absurd on
  walk_differs (suc d) (c ∷ q) b s t on h =
      let own : value_count t [] ≡ value_count s [] = passing_same (λ k. is_some (t.val [] k)) (λ k. is_some (s.val [] k)) 31 (λ k. ap is_some (h.val_same [] k (nil_cons c q))) in
      let kids : length (falling (walk d) 32 t) + value_count s (c ∷ q) ≡ length (falling (walk d) 32 s) + value_count t (c ∷ q) =
      one_falling (walk d) s t 32 c (value_count s (c ∷ q)) (value_count t (c ∷ q)) on.1 others (here (walk_differs d q b (below s c) (below t c) on.2 inside)) in
      omega (arith, walk_suc d s, walk_suc d t)
    where
      others : (k : ℕ) → (k ≡ c → ⊥) → piece (walk d) t k ≡ piece (walk d) s k
      others k n = same_piece (walk d) s t k (λ r. h.has_same (k ∷ r) (λ z. n (cons_head k c r (q ++ b ∷ []) z))) (λ r e. h.val_same (k ∷ r) e (λ z. n (cons_head k c r q z)))

      inside : Differ q b (below s c) (below t c)
      inside = record {
        has_same = λ r n. h.has_same (c ∷ r) (λ z. n (cons_tail c c r (q ++ b ∷ []) z));
        val_same = λ r e n. h.val_same (c ∷ r) e (λ z. n (cons_tail c c r q z));
        no_value = h.no_value;
        no_child = h.no_child;
      }

      here : length (walk d (below t c)) + value_count s (c ∷ q) ≡ length (walk d (below s c)) + value_count t (c ∷ q) → piece (walk d) t c + value_count s (c ∷ q) ≡ piece (walk d) s c + value_count t (c ∷ q)
      here e = omega (
        arith,
        whole_piece d s c on.0,
        whole_piece d t c (h.has_same (c ∷ []) (λ z. not_nil q b (sym (cons_tail c c [] (q ++ b ∷ []) z))) ∙ on.0),
      )
