-- A record's two parts change with their runs, and the record is written back: the table agrees again, and the tree is read off.
use Rattle.std.proofs.Common.{◌≡◌, ℕ, zero, suc, ◌+◌, ◌^◌, ◌<◌, ◌≤◌, cond, ◌⊎◌, List, [], ◌∷◌, ◌++◌, length, Some, None, Option, sym, refl, ap, ◌∙◌, subst, inl, inr, arith}
use Rattle.std.proofs.lemmas.List.{length_push, append_assoc}
use Rattle.std.proofs.lemmas.Bool.{cond-true, cond-false}
use Rattle.bitmap.specs.Ranks.{bit, rank}
use Rattle.runs.specs.Lists.{empty}
use Rattle.runs.specs.Runs.{Moved, total}
use Rattle.table_model.specs.Tree.{Path, Tree, same_path, below}
use Rattle.table_model.specs.Table.{bare_row, then, is_some, entry, child, value, find, tree_of, Agrees}
use Rattle.table_model.proofs.Steps.{Written}
use Rattle.runs.specs.declared.entry.NodeRow.{NodeRow}
use Rattle.bitmap.proofs.Ranks.{bit_of_zero, set_within}
use Rattle.table_model.specs.Refusals.{value_count}
use Rattle.table_model.proofs.Counting.{tree_same, passing_rank, On, Differ, walk_differs}
use Rattle.table_model.proofs.Paths.{eq_same, ne_same, cases_path}
use Rattle.table_model.proofs.Entries.{entry_clear, entry_same, entry_some, entry_is}
use Rattle.table_model.proofs.Finds.{find_snoc}
use Rattle.table_model.proofs.Holding.{Step, off_old, off_new, held}
use Rattle.table_model.proofs.Found.{changed, changed_here, changed_leaf, changed_else, Change, found_after, leaf_none}
use Rattle.table_model.proofs.Moves.{moved_new, moved_old, moved_same, moved_free, written_length}

-- what lies below a child bit is the child's own tree
pub below_is : {V : Type 0} (nodes : ℕ → List NodeRow) (vals : ℕ → List V) (r s : NodeRow) (b : ℕ) → child nodes r b ≡ Some s → below (tree_of nodes vals r) b ≡ tree_of nodes vals s
unfolding find
below_is nodes vals r s b e = tree_same (below (tree_of nodes vals r) b) (tree_of nodes vals s)
    (λ q. ap (λ (o : Option NodeRow). is_some (then o (λ (u : NodeRow). find nodes u q))) e)
    (λ q c. ap (λ (o : Option NodeRow). then (then o (λ (u : NodeRow). find nodes u q)) (λ (u : NodeRow). value vals u c)) e)

-- the first step of a path at which a record is found
first_child : (nodes : ℕ → List NodeRow) (root : NodeRow) (c : ℕ) (q : Path) (r : NodeRow) → find nodes root (c ∷ q) ≡ Some r → (s : NodeRow) × (child nodes root c ≡ Some s) × (find nodes s q ≡ Some r)
unfolding find
first_child nodes root c q r f = next (child nodes root c) refl
  where
    next : (o : Option NodeRow) → child nodes root c ≡ o → (s : NodeRow) × (child nodes root c ≡ Some s) × (find nodes s q ≡ Some r)
    next None e =
        let lost : find nodes root (c ∷ q) ≡ None = ap (λ (o : Option NodeRow). then o (λ (s : NodeRow). find nodes s q)) e in
        absurd (let z : ◌≡◌ {A = ℕ} 0 1 = cc in omega arith)
    next (Some s) e = (s, e, sym (ap (λ (o : Option NodeRow). then o (λ (u : NodeRow). find nodes u q)) e) ∙ f)

-- a path at which a record is found can be followed
found_on : {V : Type 0} (nodes : ℕ → List NodeRow) (vals : ℕ → List V) (d : ℕ) (root : NodeRow) (p : Path) (r : NodeRow) → find nodes root p ≡ Some r → length p ≤ d →
    ((q : Path) (s : NodeRow) → find nodes root q ≡ Some s → s.child_bitmap < 2 ^ 32) → On d (tree_of nodes vals root) p
unfolding find
found_on nodes vals d root [] r f l fits = tt
found_on nodes vals zero root (c ∷ q) r f l fits = absurd (omega arith)
found_on {V} nodes vals (suc d) root (c ∷ q) r f l fits =
    let s = first_child nodes root c q r f in
    let small : c < 32 = set_within root.child_bitmap c 32 (fits [] root refl) (entry_some (nodes root.children_index) root.child_bitmap c s.0 s.1) in (
      ap is_some (ap (λ (o : Option NodeRow). then o (λ (u : NodeRow). find nodes u [])) s.1),
      small,
      subst (λ (t : Tree V). On d t q) (sym (below_is nodes vals root s.0 c s.1))
          (found_on nodes vals d s.0 q r s.2 (omega arith) (λ t u g. fits (c ∷ t) u (ap (λ (o : Option NodeRow). then o (λ (x : NodeRow). find nodes x t)) s.1 ∙ g))),
    )

-- The record at p was r and is r2; its child run is xs now and its value run ys. At bit b of it a bare child has come or gone, or there is none before and after.
pub record Rewrite {V : Type 0} (nodes mid after : ℕ → List NodeRow) (vals vals2 : ℕ → List V) (root root2 : NodeRow) (p : Path) (r r2 : NodeRow) (b : ℕ) (new : Option NodeRow) (xs : List NodeRow) (ys : List V) : Type 0 where
  pub agrees : Agrees nodes vals root
  pub found : find nodes root p ≡ Some r
  pub child_fits : r2.child_bitmap < 2 ^ 32
  pub child_none : r2.child_bitmap ≡ 0 → r2.children_index ≡ empty
  pub child_some : r2.children_index ≡ empty → r2.child_bitmap ≡ 0
  pub child_count : length xs ≡ rank r2.child_bitmap 32
  pub child_moved : Moved nodes r.children_index r2.children_index xs mid
  pub value_fits : r2.data_bitmap < 2 ^ 31
  pub value_none : r2.data_bitmap ≡ 0 → r2.data_index ≡ empty
  pub value_some : r2.data_index ≡ empty → r2.data_bitmap ≡ 0
  pub value_count : length ys ≡ rank r2.data_bitmap 31
  pub value_moved : Moved vals r.data_index r2.data_index ys vals2
  pub value_summed : total vals2 + length (vals r.data_index) ≡ total vals + length ys
  pub was : (s : NodeRow) → child nodes r b ≡ Some s → s ≡ bare_row
  pub leaf : (s : NodeRow) → new ≡ Some s → s ≡ bare_row
  pub short : (s : NodeRow) → new ≡ Some s → length p < 25
  pub here : entry xs r2.child_bitmap b ≡ new
  pub other : (c : ℕ) → (c ≡ b → ⊥) → entry xs r2.child_bitmap c ≡ child nodes r c
  pub written : Written nodes root mid p r2 after root2

pub empty_run : {E : Type 0} {i j : ℕ} (m : ℕ → List E) → (j ≡ i) ⊎ (m j ≡ []) → (j ≡ i) ⊎ (length (m j) ≡ 0)
empty_run m (inl e) = inl e
empty_run m (inr e) = inr (ap length e)

bare_value : {V : Type 0} (m : ℕ → List V) (o : Option NodeRow) (c : ℕ) → ((s : NodeRow) → o ≡ Some s → s ≡ bare_row) → then o (λ s. value m s c) ≡ None
bare_value m None c h = refl
bare_value m (Some s) c h = entry_clear (m s.data_index) s.data_bitmap c (ap (λ (u : NodeRow). bit u.data_bitmap c) (h s refl) ∙ bit_of_zero c)

same_value : {V : Type 0} (m m2 : ℕ → List V) (o : Option NodeRow) (c : ℕ) → ((s : NodeRow) → o ≡ Some s → (s.data_bitmap ≡ 0 → ⊥) → m2 s.data_index ≡ m s.data_index) → then o (λ s. value m2 s c) ≡ then o (λ s. value m s c)
same_value m m2 None c h = refl
same_value m m2 (Some s) c h = entry_same (m2 s.data_index) (m s.data_index) s.data_bitmap c (h s refl)

module _ {V : Type 0} (nodes mid after : ℕ → List NodeRow) (vals vals2 : ℕ → List V) (root root2 : NodeRow) (p : Path) (r r2 : NodeRow) (b : ℕ) (new : Option NodeRow) (xs : List NodeRow) (ys : List V) (h : Rewrite nodes mid after vals vals2 root root2 p r r2 b new xs ys) where
  child_free : (r2.children_index ≡ r.children_index) ⊎ (length (nodes r2.children_index) ≡ 0)
  child_free = empty_run nodes (moved_free nodes r.children_index r2.children_index xs mid h.child_moved)

  value_free : (r2.data_index ≡ r.data_index) ⊎ (length (vals r2.data_index) ≡ 0)
  value_free = empty_run vals (moved_free vals r.data_index r2.data_index ys vals2 h.value_moved)

  child_off_old : (q : Path) (s : NodeRow) → (q ≡ p → ⊥) → find nodes root q ≡ Some s → (s.child_bitmap ≡ 0 → ⊥) → s.children_index ≡ r.children_index → ⊥
  child_off_old = off_old 32 (λ s. s.child_bitmap) (λ s. s.children_index) (λ i. length (nodes i)) (find nodes root) h.agrees.children p r h.found

  child_off_new : (q : Path) (s : NodeRow) → (q ≡ p → ⊥) → find nodes root q ≡ Some s → (s.child_bitmap ≡ 0 → ⊥) → s.children_index ≡ r2.children_index → ⊥
  child_off_new = off_new 32 (λ s. s.child_bitmap) (λ s. s.children_index) (λ i. length (nodes i)) (find nodes root) h.agrees.children p r r2 h.found child_free

  value_off_old : (q : Path) (s : NodeRow) → (q ≡ p → ⊥) → find nodes root q ≡ Some s → (s.data_bitmap ≡ 0 → ⊥) → s.data_index ≡ r.data_index → ⊥
  value_off_old = off_old 31 (λ s. s.data_bitmap) (λ s. s.data_index) (λ i. length (vals i)) (find nodes root) h.agrees.values p r h.found

  value_off_new : (q : Path) (s : NodeRow) → (q ≡ p → ⊥) → find nodes root q ≡ Some s → (s.data_bitmap ≡ 0 → ⊥) → s.data_index ≡ r2.data_index → ⊥
  value_off_new = off_new 31 (λ s. s.data_bitmap) (λ s. s.data_index) (λ i. length (vals i)) (find nodes root) h.agrees.values p r r2 h.found value_free

  child_at : (c : ℕ) → child mid r2 c ≡ entry xs r2.child_bitmap c
  child_at c = ap (λ (zs : List NodeRow). entry zs r2.child_bitmap c) (moved_new nodes r.children_index r2.children_index xs mid h.child_moved)

  change : Change nodes mid after root root2 p r r2 b new
  change = record {
    apart = h.agrees.children.apart;
    found = h.found;
    keep = λ q s n f z. moved_same nodes r.children_index r2.children_index xs mid h.child_moved s.children_index (child_off_old q s n f z) (child_off_new q s n f z);
    off = child_off_new;
    was = h.was;
    leaf = h.leaf;
    here = child_at b ∙ h.here;
    other = λ c n. child_at c ∙ h.other c n;
    written = h.written;
  }

  pub finds : (q : Path) → find after root2 q ≡ changed (find nodes root) p b r2 new q
  finds = found_after nodes mid after root root2 p r r2 b new change

  pub finds_here : (q : Path) → p ≡ q → find after root2 q ≡ Some r2
  finds_here q e = finds q ∙ changed_here (find nodes root) p b r2 new q e

  pub finds_leaf : (q : Path) → p ++ b ∷ [] ≡ q → find after root2 q ≡ new
  finds_leaf q e = finds q ∙ changed_leaf (find nodes root) p b r2 new q e

  pub finds_else : (q : Path) → (p ≡ q → ⊥) → (p ++ b ∷ [] ≡ q → ⊥) → find after root2 q ≡ find nodes root q
  finds_else q n k = finds q ∙ changed_else (find nodes root) p b r2 new q n k

  found_leaf : (q : Path) → p ++ b ∷ [] ≡ q → find nodes root q ≡ child nodes r b
  found_leaf q e = ap (find nodes root) (sym e) ∙ find_snoc nodes root p b ∙ ap (λ (o : Option NodeRow). then o (λ (u : NodeRow). child nodes u b)) h.found

  back : (q : Path) (s : NodeRow) → (q ≡ p → ⊥) → find after root2 q ≡ Some s → (find nodes root q ≡ Some s) ⊎ ((p ++ b ∷ [] ≡ q) × (new ≡ Some s))
  back q s n f = elim (cases_path (p ++ b ∷ []) q) [
    | inl e ↦ inr (e, sym (finds_leaf q e) ∙ f)
    | inr k ↦ inl (sym (finds_else q (λ e. n (sym e)) k) ∙ f)
  ]

  bare_back : (bitmap index : NodeRow → ℕ) → bitmap bare_row ≡ 0 → index bare_row ≡ empty → (q : Path) (s : NodeRow) → (q ≡ p → ⊥) → find after root2 q ≡ Some s → (find nodes root q ≡ Some s) ⊎ ((bitmap s ≡ 0) × (index s ≡ empty))
  bare_back bitmap index bz ie q s n f = elim (back q s n f) [
    | inl g ↦ inl g
    | inr g ↦ inr (ap bitmap (h.leaf s g.1) ∙ bz, ap index (h.leaf s g.1) ∙ ie)
  ]

  on : (bitmap : NodeRow → ℕ) → bitmap bare_row ≡ 0 → (q : Path) (s : NodeRow) → (q ≡ p → ⊥) → find nodes root q ≡ Some s → (bitmap s ≡ 0 → ⊥) → find after root2 q ≡ Some s
  on bitmap bz q s n f z = elim (cases_path (p ++ b ∷ []) q) [
    | inl e ↦ absurd (z (ap bitmap (h.was s (sym (found_leaf q e) ∙ f)) ∙ bz))
    | inr k ↦ finds_else q (λ e. n (sym e)) k ∙ f
  ]

  lengths : (k : ℕ) → length (after k) ≡ length (mid k)
  lengths = written_length nodes root mid p r2 after root2 h.written

  child_step : Step 32 (λ s. s.child_bitmap) (λ s. s.children_index) (λ i. length (nodes i)) (λ i. length (after i)) (find nodes root) (find after root2) p r r2
  child_step = record {
    before = h.found;
    after = finds_here p refl;
    back = bare_back (λ s. s.child_bitmap) (λ s. s.children_index) refl refl;
    on = on (λ s. s.child_bitmap) refl;
    fits = h.child_fits;
    none = h.child_none;
    some = h.child_some;
    full = lengths r2.children_index ∙ ap length (moved_new nodes r.children_index r2.children_index xs mid h.child_moved) ∙ h.child_count;
    free = child_free;
    left = λ n. lengths r.children_index ∙ ap length (moved_old nodes r.children_index r2.children_index xs mid h.child_moved n);
    same = λ i n k. lengths i ∙ ap length (moved_same nodes r.children_index r2.children_index xs mid h.child_moved i n k);
  }

  value_step : Step 31 (λ s. s.data_bitmap) (λ s. s.data_index) (λ i. length (vals i)) (λ i. length (vals2 i)) (find nodes root) (find after root2) p r r2
  value_step = record {
    before = h.found;
    after = finds_here p refl;
    back = bare_back (λ s. s.data_bitmap) (λ s. s.data_index) refl refl;
    on = on (λ s. s.data_bitmap) refl;
    fits = h.value_fits;
    none = h.value_none;
    some = h.value_some;
    full = ap length (moved_new vals r.data_index r2.data_index ys vals2 h.value_moved) ∙ h.value_count;
    free = value_free;
    left = λ n. ap length (moved_old vals r.data_index r2.data_index ys vals2 h.value_moved n);
    same = λ i n k. ap length (moved_same vals r.data_index r2.data_index ys vals2 h.value_moved i n k);
  }

  shallow : (q : Path) (s : NodeRow) → find after root2 q ≡ Some s → length q ≤ 25
  shallow q s f = elim (cases_path q p) [
    | inl e ↦ omega (arith, ap length e, h.agrees.shallow p r h.found)
    | inr n ↦ elim (back q s n f) [
      | inl g ↦ h.agrees.shallow q s g
      | inr g ↦ omega (arith, ap length g.0, length_push p b, h.short s g.1)
    ]
  ]

  -- the tree, path by path
  has_here : is_some (find after root2 p) ≡ is_some (find nodes root p)
  has_here = ap is_some (finds_here p refl) ∙ sym (ap is_some h.found)

  pub has_after : (q : Path) → is_some (find after root2 q) ≡ cond (same_path (p ++ b ∷ []) q) (is_some new) (is_some (find nodes root q))
  has_after q = elim (cases_path (p ++ b ∷ []) q) [
    | inl e ↦ ap is_some (finds_leaf q e) ∙ sym (cond-true (same_path (p ++ b ∷ []) q) (is_some new) (is_some (find nodes root q)) (eq_same (p ++ b ∷ []) q e))
    | inr k ↦ off k ∙ sym (cond-false (same_path (p ++ b ∷ []) q) (is_some new) (is_some (find nodes root q)) (ne_same (p ++ b ∷ []) q k))
  ]
    where
      off : (p ++ b ∷ [] ≡ q → ⊥) → is_some (find after root2 q) ≡ is_some (find nodes root q)
      off k = elim (cases_path p q) [
        | inl e ↦ ap (λ (t : Path). is_some (find after root2 t)) (sym e) ∙ has_here ∙ ap (λ (t : Path). is_some (find nodes root t)) e
        | inr n ↦ ap is_some (finds_else q n k)
      ]

  pub val_here : (q : Path) (c : ℕ) → p ≡ q → then (find after root2 q) (λ s. value vals2 s c) ≡ entry ys r2.data_bitmap c
  val_here q c e =
      ap (λ (o : Option NodeRow). then o (λ (s : NodeRow). value vals2 s c)) (finds_here q e)
      ∙ ap (λ (zs : List V). entry zs r2.data_bitmap c) (moved_new vals r.data_index r2.data_index ys vals2 h.value_moved)

  pub val_else : (q : Path) (c : ℕ) → (p ≡ q → ⊥) → then (find after root2 q) (λ s. value vals2 s c) ≡ then (find nodes root q) (λ s. value vals s c)
  val_else q c n = elim (cases_path (p ++ b ∷ []) q) [
    | inl e ↦
        ap (λ (o : Option NodeRow). then o (λ (s : NodeRow). value vals2 s c)) (finds_leaf q e)
        ∙ bare_value vals2 new c h.leaf
        ∙ sym (bare_value vals (child nodes r b) c h.was)
        ∙ sym (ap (λ (o : Option NodeRow). then o (λ (s : NodeRow). value vals s c)) (found_leaf q e))
    | inr k ↦
        ap (λ (o : Option NodeRow). then o (λ (s : NodeRow). value vals2 s c)) (finds_else q n k)
        ∙ same_value vals vals2 (find nodes root q) c (λ s f z.
        moved_same vals r.data_index r2.data_index ys vals2 h.value_moved s.data_index
        (value_off_old q s (λ e. n (sym e)) f z) (value_off_new q s (λ e. n (sym e)) f z))
  ]

  -- the values in the tree, counted before and after
  differ : Differ p b (tree_of nodes vals root) (tree_of after vals2 root2)
  differ = record {
    has_same = λ q n. has_after q ∙ cond-false (same_path (p ++ b ∷ []) q) (is_some new) (is_some (find nodes root q)) (ne_same (p ++ b ∷ []) q (λ e. n (sym e)));
    val_same = λ q c n. val_else q c (λ e. n (sym e));
    no_value = λ c. ap (λ (o : Option NodeRow). then o (λ (s : NodeRow). value vals s c)) (found_leaf (p ++ b ∷ []) refl) ∙ bare_value vals (child nodes r b) c h.was;
    no_child = λ c.
        ap (λ (q : Path). is_some (find nodes root q)) (sym (append_assoc p (b ∷ []) (c ∷ [])))
        ∙ ap is_some (find_snoc nodes root (p ++ b ∷ []) c ∙ leaf_none nodes c (find nodes root (p ++ b ∷ [])) (λ s e. h.was s (sym (found_leaf (p ++ b ∷ []) refl) ∙ e)));
  }

  values_before : value_count (tree_of nodes vals root) p ≡ length (vals r.data_index)
  values_before =
      passing_rank (λ c. is_some ((tree_of nodes vals root).val p c)) r.data_bitmap 31
      (λ c. ap (λ (o : Option NodeRow). is_some (then o (λ (s : NodeRow). value vals s c))) h.found ∙ entry_is (vals r.data_index) r.data_bitmap c 31 (h.agrees.values.fits p r h.found) (h.agrees.values.full p r h.found))
      ∙ sym (h.agrees.values.full p r h.found)

  values_after : value_count (tree_of after vals2 root2) p ≡ length ys
  values_after =
      passing_rank (λ c. is_some ((tree_of after vals2 root2).val p c)) r2.data_bitmap 31 (λ c. ap is_some (val_here p c refl) ∙ entry_is ys r2.data_bitmap c 31 h.value_fits h.value_count)
      ∙ sym h.value_count

  on_path : On 25 (tree_of nodes vals root) p
  on_path = found_on nodes vals 25 root p r h.found (h.agrees.shallow p r h.found) h.agrees.children.fits

  pub agrees_after : Agrees after vals2 root2
  agrees_after = record {
    children = held 32 (λ s. s.child_bitmap) (λ s. s.children_index) (λ i. length (nodes i)) (find nodes root) h.agrees.children (λ i. length (after i)) (find after root2) p r r2 child_step;
    values = held 31 (λ s. s.data_bitmap) (λ s. s.data_index) (λ i. length (vals i)) (find nodes root) h.agrees.values (λ i. length (vals2 i)) (find after root2) p r r2 value_step;
    shallow = shallow;
    counted = omega (arith, walk_differs 25 p b (tree_of nodes vals root) (tree_of after vals2 root2) on_path differ, values_before, values_after, h.value_summed, h.agrees.counted);
  }
