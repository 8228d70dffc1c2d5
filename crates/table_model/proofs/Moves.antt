-- What a moved run leaves.
use Rattle.std.proofs.Common.{◌≡◌, ℕ, ◌+◌, ◌<◌, ◌≤◌, ◌⊎◌, List, [], ◌∷◌, ◌++◌, length, set, Some, None, Option, sym, refl, ap, ◌∙◌, inl, inr, arith, length-set}
use mathlib.Core.Path.{fun_ext}
use Rattle.std.proofs.lemmas.Bool.{cases_eq, cases_lt}
use Rattle.std.proofs.lemmas.List.{nil_from_length}
use Rattle.bitmap.specs.Ranks.{rank}
use Rattle.runs.specs.Lists.{empty, indexes, at, with_new, without}
use Rattle.runs.specs.Runs.{total, Moved, Removing, ended, left}
use Rattle.table_model.proofs.Steps.{Low, Growing, opened, inserted, Written, at_root, in_run}
use Rattle.table_model.specs.Tree.{Path}
use Rattle.table_model.specs.Table.{then, child, find}
use Rattle.runs.specs.declared.entry.NodeRow.{NodeRow}
use Rattle.table_model.proofs.Nths.{at_here, length_without, set_as_was}
use Rattle.runs.proofs.Counts.{put_other, tally_put}
use Rattle.table_model.proofs.Paths.{ends}
use Rattle.table_model.proofs.Entries.{entry_nth}
use Rattle.table_model.proofs.Finds.{find_nil, find_snoc}
use Rattle.table_model.proofs.Holding.{some_same}

module _ {E : Type 0} (m : ℕ → List E) (i j : ℕ) (xs : List E) (m2 : ℕ → List E) (h : Moved m i j xs m2) where
  there : (k : ℕ) → m2 k ≡ at (at m i []) j xs k
  there k = ap (λ (f : ℕ → List E). f k) h.is

  pub moved_new : m2 j ≡ xs
  moved_new = there j ∙ at_here (at m i []) j j xs refl

  pub moved_old : (i ≡ j → ⊥) → m2 i ≡ []
  moved_old n = there i ∙ put_other (at m i []) j i xs n ∙ at_here m i i [] refl

  pub moved_same : (k : ℕ) → (k ≡ i → ⊥) → (k ≡ j → ⊥) → m2 k ≡ m k
  moved_same k n o = there k ∙ put_other (at m i []) j k xs o ∙ put_other m i k [] n

  pub moved_free : (j ≡ i) ⊎ (m j ≡ [])
  moved_free = elim (cases_eq j i) [
    | inl e ↦ inl e
    | inr n ↦ inr (sym (put_other m i j [] n) ∙ h.free)
  ]

module _ {E : Type 0} (m : ℕ → List E) (i : ℕ) where
  -- a run put in its own place
  pub moved_in_place : (xs : List E) → Moved m i i xs (at m i xs)
  moved_in_place xs = record { free = at_here m i i [] refl; is = fun_ext each }
    where
      each : (k : ℕ) → at m i xs k ≡ at (at m i []) i xs k
      each k = elim (cases_eq k i) [
        | inl e ↦ at_here m i k xs e ∙ sym (at_here (at m i []) i k xs e)
        | inr n ↦ put_other m i k xs n ∙ sym (put_other m i k [] n) ∙ sym (put_other (at m i []) i k xs n)
      ]

  pub unmoved : Moved m i i (m i) m
  unmoved = record { free = at_here m i i [] refl; is = fun_ext each }
    where
      each : (k : ℕ) → m k ≡ at (at m i []) i (m i) k
      each k = elim (cases_eq k i) [
        | inl e ↦ ap m e ∙ sym (at_here (at m i []) i k (m i) e)
        | inr n ↦ sym (put_other m i k [] n) ∙ sym (put_other (at m i []) i k (m i) n)
      ]

-- an exchange leaves every length
pub written_length : (nodes : ℕ → List NodeRow) (root : NodeRow) (mid : ℕ → List NodeRow) (p : Path) (r : NodeRow) (after : ℕ → List NodeRow) (root2 : NodeRow) → Written nodes root mid p r after root2 → (k : ℕ) → length (after k) ≡ length (mid k)
written_length nodes root mid p r after root2 (at_root e er em) k = ap (λ (f : ℕ → List NodeRow). length (f k)) em
written_length nodes root mid p r after root2 (in_run q c s e f er em) k =
    ap (λ (g : ℕ → List NodeRow). length (g k)) em ∙ elim (cases_eq k s.children_index) as (λ _. length (at mid s.children_index (set (mid s.children_index) (rank s.child_bitmap c) r) k) ≡ length (mid k)) [
      | inl e ↦
          ap length (at_here mid s.children_index k (set (mid s.children_index) (rank s.child_bitmap c) r) e)
          ∙ length-set (mid s.children_index) (rank s.child_bitmap c) r
          ∙ ap (λ (i : ℕ). length (mid i)) (sym e)
      | inr n ↦ ap length (put_other mid s.children_index k (set (mid s.children_index) (rank s.child_bitmap c) r) n)
    ]

module _ {E : Type 0} where
  hollow : (m : ℕ → List E) (i : ℕ) → m i ≡ [] → (k : ℕ) → at m i [] k ≡ m k
  hollow m i z k = elim (cases_eq k i) [
    | inl e ↦ at_here m i k [] e ∙ sym z ∙ ap m (sym e)
    | inr n ↦ put_other m i k [] n
  ]

  at_same : (m m2 : ℕ → List E) (i : ℕ) (xs ys : List E) → ((k : ℕ) → m k ≡ m2 k) → xs ≡ ys → (k : ℕ) → at m i xs k ≡ at m2 i ys k
  at_same m m2 i xs ys h e k = elim (cases_eq k i) [
    | inl q ↦ at_here m i k xs q ∙ e ∙ sym (at_here m2 i k ys q)
    | inr n ↦ put_other m i k xs n ∙ h k ∙ sym (put_other m2 i k ys n)
  ]

  pub growing_moved : (before : ℕ → List E) (i k : ℕ) (e : E) (j : ℕ) (after : ℕ → List E) → before empty ≡ [] → (i ≡ empty → k ≡ 0) → Growing before i k e j after → Moved before i j (with_new (before i) k e) after
  growing_moved before i k e j after none first (opened ei fr is) =
      let z : before i ≡ [] = ap before ei ∙ none in
      let one : e ∷ [] ≡ with_new (before i) k e = sym (ap (λ (xs : List E). with_new xs k e) z ∙ ap (λ (n : ℕ). with_new [] n e) (first ei)) in
      record {
        free = hollow before i z j ∙ fr;
        is = is ∙ fun_ext (λ (n : ℕ). at_same before (at before i []) j (e ∷ []) (with_new (before i) k e) (λ l. sym (hollow before i z l)) one n);
      }
  growing_moved before i k e j after none first (inserted m) = m

  pub removing_moved : (before : ℕ → List E) (i k j : ℕ) (after : ℕ → List E) → before empty ≡ [] → k < length (before i) → Removing before i k j after → Moved before i j (without (before i) k) after
  removing_moved before i k j after none inside (ended l ej is) =
      let z : without (before i) k ≡ [] = nil_from_length (without (before i) k) (omega (arith, length_without (before i) k inside)) in
      record {
        free = idle;
        is = is ∙ fun_ext (λ (n : ℕ). sym (ap (λ (xs : List E). at (at before i []) j xs n) z ∙ hollow (at before i []) j idle n));
      }
    where
      idle : at before i [] j ≡ []
      idle = elim (cases_eq j i) [
        | inl e ↦ at_here before i j [] e
        | inr n ↦ put_other before i j [] n ∙ ap before ej ∙ none
      ]
  removing_moved before i k j after none inside (left l m) = m

  -- an index that is live is not the empty one
  pub low_index : (m : ℕ → List E) (j : ℕ) → ((i : ℕ) → indexes ≤ i → m i ≡ []) → 0 < length (m j) → j ≡ empty → ⊥
  low_index m j low n e = omega (arith, ap length (low j (omega arith)))

  -- ---- how many entries there are in all

  filled : (m : ℕ → List E) (i : ℕ) (xs : List E) → (indexes ≤ i → (m i ≡ []) × (xs ≡ [])) → total (at m i xs) + length (m i) ≡ total m + length xs
  filled m i xs h = elim (cases_lt i indexes) [
    | inl l ↦ tally_put length m i xs indexes l
    | inr l ↦
        let z = h l in
        let same : at m i xs ≡ m = fun_ext (λ (k : ℕ). ap (λ (ys : List E). at m i ys k) z.1 ∙ hollow m i z.0 k) in
        omega (arith, ap total same, ap length z.0, ap length z.1)
  ]

  pub moved_total : (m : ℕ → List E) (i j : ℕ) (xs : List E) (m2 : ℕ → List E) → Low m → Low m2 → Moved m i j xs m2 → total m2 + length (m i) ≡ total m + length xs
  moved_total m i j xs m2 low low2 h =
      let one = filled m i [] (λ l. (low i l, refl)) in
      let two = filled (at m i []) j xs (λ l. (h.free, sym (moved_new m i j xs m2 h) ∙ low2 j l)) in
      omega (arith, ap total h.is, ap length h.free)

-- a record written back as it was
pub written_same : (nodes : ℕ → List NodeRow) (root : NodeRow) (p : Path) (r : NodeRow) → find nodes root p ≡ Some r → Written nodes root nodes p r nodes root
written_same nodes root p r f = elim (ends p) [
  | inl e ↦ at_root e (some_same (find nodes root []) root r (find_nil nodes root) (ap (find nodes root) (sym e) ∙ f)) refl
  | inr g ↦ up g.0 g.1 g.2 (find nodes root g.0) refl
]
  where
    up : (q : Path) (c : ℕ) → p ≡ q ++ c ∷ [] → (o : Option NodeRow) → find nodes root q ≡ o → Written nodes root nodes p r nodes root
    up q c e None z =
        let k : find nodes root p ≡ None = ap (find nodes root) e ∙ find_snoc nodes root q c ∙ ap (λ (o : Option NodeRow). then o (λ (u : NodeRow). child nodes u c)) z in
        absurd (let y : ◌≡◌ {A = ℕ} 0 1 = cc in omega arith)
    up q c e (Some s) z =
        let k : child nodes s c ≡ Some r = sym (ap (λ (o : Option NodeRow). then o (λ (u : NodeRow). child nodes u c)) z) ∙ sym (find_snoc nodes root q c) ∙ ap (find nodes root) (sym e) ∙ f in
        let y : nodes s.children_index ≡ set (nodes s.children_index) (rank s.child_bitmap c) r = sym (set_as_was (nodes s.children_index) (rank s.child_bitmap c) r (entry_nth (nodes s.children_index) s.child_bitmap c r k)) in
        in_run q c s e z refl (fun_ext (put_back s.children_index (set (nodes s.children_index) (rank s.child_bitmap c) r) y))
      where
        put_back : (i : ℕ) (xs : List NodeRow) → nodes i ≡ xs → (k : ℕ) → nodes k ≡ at nodes i xs k
        put_back i xs y k = elim (cases_eq k i) [
          | inl e ↦ ap nodes e ∙ y ∙ sym (at_here nodes i k xs e)
          | inr n ↦ sym (put_other nodes i k xs n)
        ]
