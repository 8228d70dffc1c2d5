-- The node at a path: what its record says of the tree, and what its stores say to it.
use Rattle.std.proofs.Common.{◌≡◌, ℕ, ◌+◌, ◌^◌, ◌<◌, ◌≤◌, true, false, eqb, List, [], ◌∷◌, ◌++◌, length, Some, None, Option, sym, ap, ◌∙◌, subst, inl, inr, arith}
use Rattle.std.proofs.lemmas.Bool.{cond-true, cond-false, eqb-true, eqb-false, eq-eqb, ne_eqb, cases_Bool}
use Rattle.bitmap.specs.Ranks.{bit, rank, is_set}
use Rattle.bitmap.proofs.Ranks.{rank_of_zero, none_set, rank_up, rank_strict, rank_beyond, set_within, set_bit, clear_bit}
use Rattle.runs.specs.Lists.{nth}
use Rattle.runs.specs.Runs.{Model, Lawful, grows, no_insert}
use Rattle.runs.specs.declared.entry.NodeRow.{NodeRow}
use Rattle.table_model.specs.Tree.{Path}
use Rattle.table_model.specs.Table.{bare_row, then, is_some, child, find, tree_of, Agrees, Passes}
use Rattle.table_model.specs.Refusals.{value_count, child_count, is_bare}
use Rattle.table_model.specs.States.{Place, top, descend}
use Rattle.table_model.specs.Judged.{no_growth, no_write}
use Rattle.table_model.specs.Laws.{Shown}
use Rattle.table_model.proofs.Counting.{passing_rank}
use Rattle.table_model.proofs.Nths.{nth_some_in}
use Rattle.table_model.proofs.Entries.{entry_nth, entry_set, entry_clear}
use Rattle.table_model.proofs.Finds.{find_nil, find_snoc}
use Rattle.table_model.proofs.Children.{row_same}
use Rattle.table_model.proofs.Whole.{show_law}
use Rattle.table_model.proofs.States.{Placed, first, under, placed, descend_find, insert_yes, entry_yes}

-- the record at a path's place
pub way_find : (nodes : ℕ → List NodeRow) (root : NodeRow) (p : Path) (pl : Place) (r : NodeRow) → descend nodes top root p ≡ Some (pl, r) → find nodes root p ≡ Some r
way_find nodes root p pl r way = descend_find nodes root p pl r (placed nodes root p pl r way)

module _ {V : Type 0} (nodes : ℕ → List NodeRow) (vals : ℕ → List V) (root : NodeRow) (a : Agrees nodes vals root) (p : Path) (r : NodeRow) (found : find nodes root p ≡ Some r) where
  -- a table's rows always pass the check
  pub row_passes : Passes r
  row_passes = record {
    low = a.values.fits p r found;
    data_tied = (a.values.none p r found, a.values.some p r found);
    children_tied = (a.children.none p r found, a.children.some p r found);
  }

  -- and one with two zero bitmaps is the bare row
  pub bare_row_is : r.data_bitmap ≡ 0 → r.child_bitmap ≡ 0 → r ≡ bare_row
  bare_row_is x y = row_same r bare_row x y (a.values.none p r found x) (a.children.none p r found y)

  value_total : value_count (tree_of nodes vals root) p ≡ rank r.data_bitmap 31
  value_total = passing_rank (λ b. is_some ((tree_of nodes vals root).val p b)) r.data_bitmap 31 (show_law nodes vals root p r a found).value_bit

  child_total : child_count (tree_of nodes vals root) p ≡ rank r.child_bitmap 32
  child_total = passing_rank (λ b. (tree_of nodes vals root).has (p ++ b ∷ [])) r.child_bitmap 32 (show_law nodes vals root p r a found).child_bit

  pub bare_is : r.data_bitmap ≡ 0 → r.child_bitmap ≡ 0 → is_bare (tree_of nodes vals root) p ≡ true
  bare_is x y = eq-eqb (value_count (tree_of nodes vals root) p + child_count (tree_of nodes vals root) p) 0
      (omega (arith, value_total, child_total, ap (λ (m : ℕ). rank m 31) x, rank_of_zero 31, ap (λ (m : ℕ). rank m 32) y, rank_of_zero 32))

  pub bare_not : ((r.data_bitmap ≡ 0) × (r.child_bitmap ≡ 0) → ⊥) → is_bare (tree_of nodes vals root) p ≡ false
  bare_not no_one = ne_eqb (value_count (tree_of nodes vals root) p + child_count (tree_of nodes vals root) p) 0
      (λ e. no_one (
        none_set r.data_bitmap 31 (a.values.fits p r found) (omega (arith, value_total)),
        none_set r.child_bitmap 32 (a.children.fits p r found) (omega (arith, child_total)),
      ))

pub root_passes : {V : Type 0} (nodes : ℕ → List NodeRow) (vals : ℕ → List V) (root : NodeRow) → Agrees nodes vals root → Passes root
root_passes nodes vals root a = row_passes nodes vals root a [] root (find_nil nodes root)

module _ {V : Type 0} (nodes : ℕ → List NodeRow) (vals : ℕ → List V) (root : NodeRow) (a : Agrees nodes vals root) (p : Path) (pl : Place) (r : NodeRow) (way : descend nodes top root p ≡ Some (pl, r)) where
  found : find nodes root p ≡ Some r
  found = way_find nodes root p pl r way

  shown : Shown nodes vals root p r
  shown = show_law nodes vals root p r a found

  pub node_has : (tree_of nodes vals root).has p ≡ true
  node_has = ap is_some found

  pub value_bit : (b : ℕ) → is_some ((tree_of nodes vals root).val p b) ≡ is_set r.data_bitmap b
  value_bit b = shown.value_bit b

  pub child_bit : (b : ℕ) → (tree_of nodes vals root).has (p ++ b ∷ []) ≡ is_set r.child_bitmap b
  child_bit b = shown.child_bit b

  -- a data bitmap has no bit 31, so the count of its bits is that of the bits below 31
  pub narrow : rank r.data_bitmap 32 ≡ rank r.data_bitmap 31
  narrow = rank_beyond r.data_bitmap 31 32 (a.values.fits p r found) (omega arith)

  pub values_counted : value_count (tree_of nodes vals root) p ≡ rank r.data_bitmap 32
  values_counted = value_total nodes vals root a p r found ∙ sym narrow

  pub children_counted : child_count (tree_of nodes vals root) p ≡ rank r.child_bitmap 32
  children_counted = child_total nodes vals root a p r found

  -- the value at a set bit is what the store has at the rank
  pub value_at : (b : ℕ) → is_set r.data_bitmap b ≡ true → (tree_of nodes vals root).val p b ≡ nth (vals r.data_index) (rank r.data_bitmap b)
  value_at b e = shown.value_at b (set_bit r.data_bitmap b e)

  pub value_inside : (b : ℕ) → is_set r.data_bitmap b ≡ true → rank r.data_bitmap b < length (vals r.data_index)
  value_inside b e =
      let one : bit r.data_bitmap b ≡ 1 = set_bit r.data_bitmap b e in
      let small : b < 31 = set_within r.data_bitmap b 31 (a.values.fits p r found) one in
      omega (arith, a.values.full p r found, rank_strict r.data_bitmap b 31 one small)

  -- the child at a set bit is what the store has at the rank
  child_at : (b : ℕ) → is_set r.child_bitmap b ≡ true → child nodes r b ≡ nth (nodes r.children_index) (rank r.child_bitmap b)
  child_at b e = entry_set (nodes r.children_index) r.child_bitmap b (set_bit r.child_bitmap b e)

  pub child_inside : (b : ℕ) → is_set r.child_bitmap b ≡ true → rank r.child_bitmap b < length (nodes r.children_index)
  child_inside b e =
      let one : bit r.child_bitmap b ≡ 1 = set_bit r.child_bitmap b e in
      let small : b < 32 = set_within r.child_bitmap b 32 (a.children.fits p r found) one in
      omega (arith, a.children.full p r found, rank_strict r.child_bitmap b 32 one small)

  -- what is read there is the child, whose row passes the check
  pub child_read : (b : ℕ) (x : NodeRow) → is_set r.child_bitmap b ≡ true → nth (nodes r.children_index) (rank r.child_bitmap b) ≡ Some x → child nodes r b ≡ Some x
  child_read b x e y = child_at b e ∙ y

  pub child_found : (b : ℕ) (x : NodeRow) → child nodes r b ≡ Some x → find nodes root (p ++ b ∷ []) ≡ Some x
  child_found b x e = find_snoc nodes root p b ∙ ap (λ (o : Option NodeRow). then o (λ (s : NodeRow). child nodes s b)) found ∙ e

  pub child_lost : (b : ℕ) → child nodes r b ≡ None → (tree_of nodes vals root).has (p ++ b ∷ []) ≡ false
  child_lost b e = ap is_some (find_snoc nodes root p b ∙ ap (λ (o : Option NodeRow). then o (λ (s : NodeRow). child nodes s b)) found ∙ e)

  pub child_passes : (b : ℕ) (x : NodeRow) → is_set r.child_bitmap b ≡ true → nth (nodes r.children_index) (rank r.child_bitmap b) ≡ Some x → Passes x
  child_passes b x e y = row_passes nodes vals root a (p ++ b ∷ []) x (child_found b x (child_read b x e y))

-- no child at a clear bit
pub child_clear : (nodes : ℕ → List NodeRow) (r : NodeRow) (b : ℕ) → is_set r.child_bitmap b ≡ false → child nodes r b ≡ None
child_clear nodes r b e = entry_clear (nodes r.children_index) r.child_bitmap b (clear_bit r.child_bitmap b e)

-- a yes of grow is a yes to one entry more
module _ {E S : Type 0} (m : Model E S) (longest : ℕ) (Valid : S → Type 0) (law : Lawful m longest Valid) where
  pub growth : (s : S) (bitmap i b w : ℕ) → length (m.live s i) ≡ rank bitmap w → bitmap < 2 ^ w → b ≤ w → grows m s (rank bitmap w) ≡ None → no_growth m s bitmap i (rank bitmap b) ≡ None
  growth s bitmap i b w full fits l y = elim (cases_Bool (eqb bitmap 0)) [
    | inl t ↦
        cond-true (eqb bitmap 0) (grows m s 0) (no_insert m s i (rank bitmap b)) t
        ∙ ap (grows m s) (sym (ap (λ (x : ℕ). rank x w) (eqb-true bitmap 0 t) ∙ rank_of_zero w)) ∙ y
    | inr t ↦
        cond-false (eqb bitmap 0) (grows m s 0) (no_insert m s i (rank bitmap b)) t
        ∙ insert_yes m longest Valid law s i (rank bitmap b) (rank bitmap w) full (λ q. eqb-false bitmap 0 t (none_set bitmap w fits q)) (rank_up bitmap b w l) y
  ]

-- the place found can be written while the parent's run stands
module _ {N : Type 0} (mn : Model NodeRow N) (longest : ℕ) (VN : N → Type 0) (ln : Lawful mn longest VN) where
  pub writable : (nodes : ℕ → List NodeRow) (root : NodeRow) (p : Path) (pl : Place) (r : NodeRow) (n : N) → Placed nodes root p pl r →
      ((q : Path) (c : ℕ) (s : NodeRow) → p ≡ q ++ c ∷ [] → find nodes root q ≡ Some s → child nodes s c ≡ Some r → mn.live n s.children_index ≡ nodes s.children_index) →
      no_write mn n pl ≡ None
  writable nodes root p pl r n (first e pe re) keep = ap (no_write mn n) pe
  writable nodes root p pl r n (under q c s e f k pe) keep =
      let inside : rank s.child_bitmap c < length (mn.live n s.children_index) = subst (λ (xs : List NodeRow). rank s.child_bitmap c < length xs) (sym (keep q c s e f k)) (nth_some_in (nodes s.children_index) (rank s.child_bitmap c) r (entry_nth (nodes s.children_index) s.child_bitmap c r k)) in
      ap (no_write mn n) pe ∙ entry_yes mn longest VN ln n s.children_index (rank s.child_bitmap c) inside
