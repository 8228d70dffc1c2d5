-- The calls by states, over any two lawful stores.
use Rattle.std.proofs.Common.{◌≡◌, ℕ, ◌^◌, ◌<◌, ◌≤◌, true, false, cond, eqb, ltb, List, [], ◌∷◌, ◌++◌, length, Some, None, Option, sym, refl, ap, ◌∙◌, subst, inl, inr, arith}
use Rattle.std.proofs.lemmas.Bool.{cond-true, cond-false, cond_both, eqb-true, eqb-false, ne_eqb, le-ltb, lt-ltb}
use Rattle.runs.specs.Runs.{Model, Lawful, grows, shrinks, no_insert, no_entry, no_remove, Moved}
use Rattle.runs.specs.Refusals.{refusal}
use Rattle.runs.specs.Lists.{with_new, without, empty}
use Rattle.bitmap.specs.Ranks.{bit, rank, with_bit, without_bit}
use Rattle.bitmap.proofs.Ranks.{bit_of_zero, set_nonzero, none_set, set_within, rank_of_zero, rank_up, rank_strict}
use Rattle.table_model.proofs.Bits.{with_added, with_fits, without_taken, without_fits}
use Rattle.table_model.proofs.Steps.{Growing, opened, inserted, Written, at_root, in_run, Add}
use Rattle.table_model.specs.Tree.{Path, Tree, with_val, with_path}
use Rattle.table_model.specs.Table.{bare_row, then, is_some, child, find, Agrees}
use Rattle.runs.specs.declared.entry.NodeRow.{NodeRow}
use Rattle.table_model.specs.States.{with_data, with_children, Place, top, slot, descend, Table, grown, written_nodes, written_root, tree_in, put_at, take_at, swap_at, add_at, plant_at, drop_at, Sound}
use Rattle.table_model.proofs.Nths.{nth_some_in}
use Rattle.table_model.proofs.Paths.{ends, longer}
use Rattle.table_model.proofs.Entries.{entry_some, entry_nth}
use Rattle.table_model.proofs.Finds.{find_nil, find_snoc, then_same, then_then}
use Rattle.table_model.proofs.Holding.{some_same, off_old, off_new}
use Rattle.table_model.proofs.Moves.{moved_same, moved_free, growing_moved, removing_moved}
use Rattle.table_model.proofs.Rewriting.{empty_run}
use Rattle.table_model.proofs.Values.{put_law, take_law, swap_law}
use Rattle.table_model.proofs.Children.{added_at, added_child, added_law, drop_law, no_node_run}

-- ---- the descent

pub descend_snoc : (m : ℕ → List NodeRow) (pl : Place) (r : NodeRow) (q : Path) (c : ℕ) → descend m pl r (q ++ c ∷ []) ≡ then (find m r q) (λ s. then (child m s c) (λ u. Some (slot s.children_index (rank s.child_bitmap c), u)))
unfolding descend find
descend_snoc m pl r [] c = refl
descend_snoc m pl r (d ∷ q) c =
    then_same (child m r d) (λ s. descend m (slot r.children_index (rank r.child_bitmap d)) s (q ++ c ∷ [])) (λ s. then (find m s q) (λ t. then (child m t c) (λ u. Some (slot t.children_index (rank t.child_bitmap c), u)))) (λ s. descend_snoc m (slot r.children_index (rank r.child_bitmap d)) s q c)
    ∙ sym (then_then (child m r d) (λ s. find m s q) (λ t. then (child m t c) (λ u. Some (slot t.children_index (rank t.child_bitmap c), u))))

-- a loop's step: the descent along p and on along q
pub descend_append : (m : ℕ → List NodeRow) (pl : Place) (r : NodeRow) (p q : Path) → descend m pl r (p ++ q) ≡ then (descend m pl r p) (λ x. descend m x.0 x.1 q)
unfolding descend
descend_append m pl r [] q = refl
descend_append m pl r (d ∷ p) q =
    then_same (child m r d) (λ s. descend m (slot r.children_index (rank r.child_bitmap d)) s (p ++ q)) (λ s. then (descend m (slot r.children_index (rank r.child_bitmap d)) s p) (λ x. descend m x.0 x.1 q)) (λ s. descend_append m (slot r.children_index (rank r.child_bitmap d)) s p q)
    ∙ sym (then_then (child m r d) (λ s. descend m (slot r.children_index (rank r.child_bitmap d)) s p) (λ x. descend m x.0 x.1 q))

finds_either : (m : ℕ → List NodeRow) (pl : Place) (p : Path) (o : Option NodeRow) → ((s : NodeRow) → is_some (descend m pl s p) ≡ is_some (find m s p)) → is_some (then o (λ s. descend m pl s p)) ≡ is_some (then o (λ s. find m s p))
finds_either m pl p None h = refl
finds_either m pl p (Some s) h = h s

pub descend_finds : (m : ℕ → List NodeRow) (pl : Place) (r : NodeRow) (p : Path) → is_some (descend m pl r p) ≡ is_some (find m r p)
unfolding descend find
descend_finds m pl r [] = refl
descend_finds m pl r (b ∷ p) = finds_either m (slot r.children_index (rank r.child_bitmap b)) p (child m r b) (λ s. descend_finds m (slot r.children_index (rank r.child_bitmap b)) s p)

pub descend_nil : (m : ℕ → List NodeRow) (pl : Place) (r : NodeRow) → descend m pl r [] ≡ Some (pl, r)
unfolding descend
descend_nil m pl r = refl

-- what a place says
pub data Placed (m : ℕ → List NodeRow) (root : NodeRow) (p : Path) (pl : Place) (r : NodeRow) : Type 0 where
  first : p ≡ [] → pl ≡ top → root ≡ r → Placed m root p pl r
  under : (q : Path) (c : ℕ) (s : NodeRow) → p ≡ q ++ c ∷ [] → find m root q ≡ Some s → child m s c ≡ Some r → pl ≡ slot s.children_index (rank s.child_bitmap c) → Placed m root p pl r

pub placed : (m : ℕ → List NodeRow) (root : NodeRow) (p : Path) (pl : Place) (r : NodeRow) → descend m top root p ≡ Some (pl, r) → Placed m root p pl r
placed m root p pl r h = elim (ends p) [
  | inl e ↦
      let k : Some (top, root) ≡ Some (pl, r) = sym (descend_nil m top root) ∙ ap (descend m top root) (sym e) ∙ h in
      let both : (top, root) ≡ (pl, r) = some_same (Some (top, root)) (top, root) (pl, r) refl k in
      first e (sym (ap (λ (x : Place × NodeRow). x.0) both)) (ap (λ (x : Place × NodeRow). x.1) both)
  | inr g ↦ up g.0 g.1 g.2 (find m root g.0) refl (sym (descend_snoc m top root g.0 g.1) ∙ ap (descend m top root) (sym g.2) ∙ h)
]
  where
    in_it : (q : Path) (c : ℕ) (s : NodeRow) → p ≡ q ++ c ∷ [] → find m root q ≡ Some s → (o : Option NodeRow) → child m s c ≡ o → then {B = Place × NodeRow} o (λ (u : NodeRow). Some (slot s.children_index (rank s.child_bitmap c), u)) ≡ Some (pl, r) → Placed m root p pl r
    in_it q c s e f None k y = absurd (let z : ◌≡◌ {A = ℕ} 0 1 = cc in omega arith)
    in_it q c s e f (Some u) k y =
        let both : (slot s.children_index (rank s.child_bitmap c), u) ≡ (pl, r) = some_same (Some (pl, r)) (slot s.children_index (rank s.child_bitmap c), u) (pl, r) (sym y) refl in
        under q c s e f (k ∙ ap (λ (x : NodeRow). Some x) (ap (λ (x : Place × NodeRow). x.1) both)) (sym (ap (λ (x : Place × NodeRow). x.0) both))

    up : (q : Path) (c : ℕ) → p ≡ q ++ c ∷ [] → (o : Option NodeRow) → find m root q ≡ o → then {B = Place × NodeRow} o (λ (s : NodeRow). then {B = Place × NodeRow} (child m s c) (λ (u : NodeRow). Some (slot s.children_index (rank s.child_bitmap c), u))) ≡ Some (pl, r) → Placed m root p pl r
    up q c e None f y = absurd (let z : ◌≡◌ {A = ℕ} 0 1 = cc in omega arith)
    up q c e (Some s) f y = in_it q c s e f (child m s c) refl y

pub descend_find : (m : ℕ → List NodeRow) (root : NodeRow) (p : Path) (pl : Place) (r : NodeRow) → Placed m root p pl r → find m root p ≡ Some r
descend_find m root p pl r (first e pe re) = ap (find m root) e ∙ find_nil m root ∙ ap (λ (x : NodeRow). Some x) re
descend_find m root p pl r (under q c s e f k pe) = ap (find m root) e ∙ find_snoc m root q c ∙ ap (λ (o : Option NodeRow). then o (λ (u : NodeRow). child m u c)) f ∙ k

-- ---- one store

module _ {E S : Type 0} (m : Model E S) (longest : ℕ) (Valid : S → Type 0) (law : Lawful m longest Valid) where
  pub insert_yes : (s : S) (i k n : ℕ) → length (m.live s i) ≡ n → (n ≡ 0 → ⊥) → k ≤ n → grows m s n ≡ None → no_insert m s i k ≡ None
  insert_yes s i k n e z l y =
      cond-false (eqb (length (m.live s i)) 0) (Some (refusal 20 [])) (cond (ltb (length (m.live s i)) k) (Some (refusal 21 [])) (grows m s (length (m.live s i)))) (ne_eqb (length (m.live s i)) 0 (λ q. z (sym e ∙ q)))
      ∙ cond-false (ltb (length (m.live s i)) k) (Some (refusal 21 [])) (grows m s (length (m.live s i))) (le-ltb (length (m.live s i)) k (omega arith))
      ∙ ap (grows m s) e ∙ y

  pub entry_yes : (s : S) (i k : ℕ) → k < length (m.live s i) → no_entry m s i k ≡ None
  entry_yes s i k l =
      cond-false (eqb (length (m.live s i)) 0) (Some (refusal 20 [])) (cond (ltb k (length (m.live s i))) None (Some (refusal 21 []))) (ne_eqb (length (m.live s i)) 0 (λ q. omega arith))
      ∙ cond-true (ltb k (length (m.live s i))) None (Some (refusal 21 [])) (lt-ltb k (length (m.live s i)) l)

  pub remove_yes : (s : S) (i k n : ℕ) → length (m.live s i) ≡ n → k < n → shrinks m s n ≡ None → no_remove m s i k ≡ None
  remove_yes s i k n e l y =
      cond-false (eqb (length (m.live s i)) 0) (Some (refusal 20 [])) (cond (ltb k (length (m.live s i))) (shrinks m s (length (m.live s i))) (Some (refusal 21 []))) (ne_eqb (length (m.live s i)) 0 (λ q. omega arith))
      ∙ cond-true (ltb k (length (m.live s i))) (shrinks m s (length (m.live s i))) (Some (refusal 21 [])) (lt-ltb k (length (m.live s i)) (omega arith))
      ∙ ap (shrinks m s) e ∙ y

  Grew : S → ℕ → ℕ → E → S × ℕ → Type 0
  Grew s i k e g = Valid g.0 × Growing (m.live s) i k e g.1 (m.live g.0)

  pub grown_law : (w : ℕ) (s : S) → Valid s → (bitmap i b : ℕ) (e : E) → length (m.live s i) ≡ rank bitmap w → bitmap < 2 ^ w → (bitmap ≡ 0 → i ≡ empty) → b ≤ w → grows m s (rank bitmap w) ≡ None → Valid (grown m s bitmap i (rank bitmap b) e).0 × Growing (m.live s) i (rank bitmap b) e (grown m s bitmap i (rank bitmap b) e).1 (m.live (grown m s bitmap i (rank bitmap b) e).0)
  unfolding Grew
  grown_law w s v bitmap i b e full fits none l y = cond_both (eqb bitmap 0) (m.opened s e, m.opened_at s e) (m.inserted s i (rank bitmap b) e, m.inserted_at s i (rank bitmap b) e) (Grew s i (rank bitmap b) e)
      (λ t.
      let z : bitmap ≡ 0 = eqb-true bitmap 0 t in
      let o = law.opening s e v (ap (grows m s) (sym (ap (λ (x : ℕ). rank x w) z ∙ rank_of_zero w)) ∙ y) in
      (o.0, opened (none z) o.1 o.2))
      (λ t.
      let z : rank bitmap w ≡ 0 → ⊥ = λ (q : rank bitmap w ≡ 0). eqb-false bitmap 0 t (none_set bitmap w fits q) in
      let o = law.inserting s i (rank bitmap b) e v (insert_yes s i (rank bitmap b) (rank bitmap w) full z (rank_up bitmap b w l) y) in
      (o.0, inserted o.1))

-- ---- the record written back

module _ {N : Type 0} (mn : Model NodeRow N) (longest : ℕ) (VN : N → Type 0) (ln : Lawful mn longest VN) where
  pub written_law : (nodes : ℕ → List NodeRow) (root : NodeRow) (p : Path) (pl : Place) (r r2 : NodeRow) (n : N) → VN n → Placed nodes root p pl r →
      ((q : Path) (c : ℕ) (s : NodeRow) → p ≡ q ++ c ∷ [] → find nodes root q ≡ Some s → child nodes s c ≡ Some r → mn.live n s.children_index ≡ nodes s.children_index) →
      VN (written_nodes mn n pl r2) × Written nodes root (mn.live n) p r2 (mn.live (written_nodes mn n pl r2)) (written_root root pl r2)
  written_law nodes root p pl r r2 n v (first e pe re) keep =
      subst (λ (x : Place). VN (written_nodes mn n x r2) × Written nodes root (mn.live n) p r2 (mn.live (written_nodes mn n x r2)) (written_root root x r2)) (sym pe) (v, at_root e refl refl)
  written_law nodes root p pl r r2 n v (under q c s e f k pe) keep =
      let inside : rank s.child_bitmap c < length (mn.live n s.children_index) = subst (λ (xs : List NodeRow). rank s.child_bitmap c < length xs) (sym (keep q c s e f k)) (nth_some_in (nodes s.children_index) (rank s.child_bitmap c) r (entry_nth (nodes s.children_index) s.child_bitmap c r k)) in
      let o = ln.exchanging n s.children_index (rank s.child_bitmap c) r2 v (entry_yes mn longest VN ln n s.children_index (rank s.child_bitmap c) inside) in
      subst (λ (x : Place). VN (written_nodes mn n x r2) × Written nodes root (mn.live n) p r2 (mn.live (written_nodes mn n x r2)) (written_root root x r2)) (sym pe) (o.0, in_run q c s e f refl o.1)

-- the parent's run stands while p's own child run moves
pub parent_kept : {V : Type 0} (nodes mid : ℕ → List NodeRow) (vals : ℕ → List V) (root : NodeRow) (p : Path) (r : NodeRow) (j : ℕ) (xs : List NodeRow) → Agrees nodes vals root → find nodes root p ≡ Some r → Moved nodes r.children_index j xs mid →
    (q : Path) (c : ℕ) (s : NodeRow) → p ≡ q ++ c ∷ [] → find nodes root q ≡ Some s → child nodes s c ≡ Some r → mid s.children_index ≡ nodes s.children_index
parent_kept nodes mid vals root p r j xs a fp mv q c s e f k =
    let z : s.child_bitmap ≡ 0 → ⊥ = set_nonzero s.child_bitmap c (entry_some (nodes s.children_index) s.child_bitmap c r k) in
    let n : q ≡ p → ⊥ = λ (x : q ≡ p). longer q c (sym e ∙ sym x) in
    moved_same nodes r.children_index j xs mid mv s.children_index
    (off_old 32 (λ u. u.child_bitmap) (λ u. u.children_index) (λ i. length (nodes i)) (find nodes root) a.children p r fp q s n f z)
    (off_new 32 (λ u. u.child_bitmap) (λ u. u.children_index) (λ i. length (nodes i)) (find nodes root) a.children p r (with_children r 0 j) fp (empty_run nodes (moved_free nodes r.children_index j xs mid mv)) q s n f z)

-- ---- the calls

module _ {V N S : Type 0} (mn : Model NodeRow N) (mv : Model V S) (kn kv : ℕ) (VN : N → Type 0) (VS : S → Type 0) (ln : Lawful mn kn VN) (lv : Lawful mv kv VS) (t : Table N S) (sound : Sound mn mv VN VS t) (p : Path) (pl : Place) (r : NodeRow) (way : descend (mn.live t.nodes) top t.root p ≡ Some (pl, r)) where
  pub put_states : (b : ℕ) (v : V) → b < 31 → bit r.data_bitmap b ≡ 0 → grows mv t.vals (rank r.data_bitmap 31) ≡ None →
      Sound mn mv VN VS (put_at mn mv t pl r b v) × (tree_in mn mv (put_at mn mv t pl r b v) ≡ with_val (tree_in mn mv t) p b (Some v))
  put_states b v small clear yes_grow =
      let a = sound.agrees in
      let pd = placed (mn.live t.nodes) t.root p pl r way in
      let f : find (mn.live t.nodes) t.root p ≡ Some r = descend_find (mn.live t.nodes) t.root p pl r pd in
      let g = grown_law mv kv VS lv 31 t.vals sound.vals_valid r.data_bitmap r.data_index b v (a.values.full p r f) (a.values.fits p r f) (a.values.none p r f) (omega arith) yes_grow in
      let j : ℕ = (grown mv t.vals r.data_bitmap r.data_index (rank r.data_bitmap b) v).1 in
      let r2 : NodeRow = with_data r (with_bit r.data_bitmap b) j in
      let w = written_law mn kn VN ln (mn.live t.nodes) t.root p pl r r2 t.nodes sound.nodes_valid pd (λ q c s e x k. refl) in
      let out = put_law (mn.live t.nodes) (mn.live (put_at mn mv t pl r b v).nodes) (mv.live t.vals) (mv.live (put_at mn mv t pl r b v).vals) t.root (put_at mn mv t pl r b v).root p b v a (record {
        r = r;
        found = f;
        small = small;
        bitmap = with_bit r.data_bitmap b;
        added = with_added r.data_bitmap b (omega arith) clear;
        fits = with_fits r.data_bitmap b 31 (omega arith) (a.values.fits p r f) small;
        index = j;
        low_before = λ i l. lv.low t.vals i sound.vals_valid l;
        low = λ i l. lv.low (put_at mn mv t pl r b v).vals i g.0 l;
        grown = g.1;
        written = w.1;
      }) in
      (record { nodes_valid = w.0; vals_valid = g.0; agrees = out.0 }, out.1)

  pub take_states : (b : ℕ) → b < 31 → bit r.data_bitmap b ≡ 1 → shrinks mv t.vals (rank r.data_bitmap 31) ≡ None →
      Sound mn mv VN VS (take_at mn mv t pl r b) × (tree_in mn mv (take_at mn mv t pl r b) ≡ with_val (tree_in mn mv t) p b None)
  take_states b small here yes_shrink =
      let a = sound.agrees in
      let pd = placed (mn.live t.nodes) t.root p pl r way in
      let f : find (mn.live t.nodes) t.root p ≡ Some r = descend_find (mn.live t.nodes) t.root p pl r pd in
      let g = lv.removing t.vals r.data_index (rank r.data_bitmap b) sound.vals_valid (remove_yes mv kv VS lv t.vals r.data_index (rank r.data_bitmap b) (rank r.data_bitmap 31) (a.values.full p r f) (rank_strict r.data_bitmap b 31 here small) yes_shrink) in
      let j : ℕ = mv.removed_at t.vals r.data_index (rank r.data_bitmap b) in
      let r2 : NodeRow = with_data r (without_bit r.data_bitmap b) j in
      let w = written_law mn kn VN ln (mn.live t.nodes) t.root p pl r r2 t.nodes sound.nodes_valid pd (λ q c s e x k. refl) in
      let out = take_law (mn.live t.nodes) (mn.live (take_at mn mv t pl r b).nodes) (mv.live t.vals) (mv.live (take_at mn mv t pl r b).vals) t.root (take_at mn mv t pl r b).root p b a (record {
        r = r;
        found = f;
        small = small;
        bitmap = without_bit r.data_bitmap b;
        taken = without_taken r.data_bitmap b here;
        fits = without_fits r.data_bitmap b 31 (a.values.fits p r f) small here;
        index = j;
        low_before = λ i l. lv.low t.vals i sound.vals_valid l;
        low = λ i l. lv.low (take_at mn mv t pl r b).vals i g.0 l;
        shrunk = g.1;
        written = w.1;
      }) in
      (record { nodes_valid = w.0; vals_valid = g.0; agrees = out.0 }, out.1)

  pub swap_states : (b : ℕ) (v : V) → bit r.data_bitmap b ≡ 1 →
      Sound mn mv VN VS (swap_at mn mv t r b v) × (tree_in mn mv (swap_at mn mv t r b v) ≡ with_val (tree_in mn mv t) p b (Some v))
  swap_states b v here =
      let a = sound.agrees in
      let f : find (mn.live t.nodes) t.root p ≡ Some r = descend_find (mn.live t.nodes) t.root p pl r (placed (mn.live t.nodes) t.root p pl r way) in
      let full = a.values.full p r f in
      let within : b < 31 = set_within r.data_bitmap b 31 (a.values.fits p r f) here in
      let inside : rank r.data_bitmap b < length (mv.live t.vals r.data_index) = omega (arith, rank_strict r.data_bitmap b 31 here within) in
      let g = lv.exchanging t.vals r.data_index (rank r.data_bitmap b) v sound.vals_valid (entry_yes mv kv VS lv t.vals r.data_index (rank r.data_bitmap b) inside) in
      let out = swap_law (mn.live t.nodes) (mv.live t.vals) (mv.live (swap_at mn mv t r b v).vals) t.root p b v a (record { r = r; found = f; here = here; low_before = λ i l. lv.low t.vals i sound.vals_valid l; low = λ i l. lv.low (swap_at mn mv t r b v).vals i g.0 l; exchanged = g.1 }) in
      (record { nodes_valid = sound.nodes_valid; vals_valid = g.0; agrees = out.0 }, out.1)

  adding : (b : ℕ) → length p < 25 → b < 32 → bit r.child_bitmap b ≡ 0 → grows mn t.nodes (rank r.child_bitmap 32) ≡ None →
      (valid : VN (add_at mn mv t pl r b).nodes) × (h : Add (mn.live t.nodes) t.root p b (mn.live (add_at mn mv t pl r b).nodes) (add_at mn mv t pl r b).root)
      × (with_children h.r h.bitmap h.index ≡ with_children r (with_bit r.child_bitmap b) (grown mn t.nodes r.child_bitmap r.children_index (rank r.child_bitmap b) bare_row).1)
  adding b short small clear yes_grow =
      let a = sound.agrees in
      let pd = placed (mn.live t.nodes) t.root p pl r way in
      let f : find (mn.live t.nodes) t.root p ≡ Some r = descend_find (mn.live t.nodes) t.root p pl r pd in
      let g = grown_law mn kn VN ln 32 t.nodes sound.nodes_valid r.child_bitmap r.children_index b bare_row (a.children.full p r f) (a.children.fits p r f) (a.children.none p r f) (omega arith) yes_grow in
      let n : N = (grown mn t.nodes r.child_bitmap r.children_index (rank r.child_bitmap b) bare_row).0 in
      let j : ℕ = (grown mn t.nodes r.child_bitmap r.children_index (rank r.child_bitmap b) bare_row).1 in
      let r2 : NodeRow = with_children r (with_bit r.child_bitmap b) j in
      let none_first : r.children_index ≡ empty → rank r.child_bitmap b ≡ 0 = λ (e : r.children_index ≡ empty). ap (λ (x : ℕ). rank x b) (a.children.some p r f e) ∙ rank_of_zero b in
      let moved = growing_moved (mn.live t.nodes) r.children_index (rank r.child_bitmap b) bare_row j (mn.live n) (no_node_run (mn.live t.nodes) (mv.live t.vals) t.root a) none_first g.1 in
      let w = written_law mn kn VN ln (mn.live t.nodes) t.root p pl r r2 n g.0 pd (parent_kept (mn.live t.nodes) (mn.live n) (mv.live t.vals) t.root p r j (with_new (mn.live t.nodes r.children_index) (rank r.child_bitmap b) bare_row) a f moved) in (
        w.0,
        record {
          r = r;
          found = f;
          short = short;
          small = small;
          bitmap = with_bit r.child_bitmap b;
          added = with_added r.child_bitmap b (omega arith) clear;
          fits = with_fits r.child_bitmap b 32 (omega arith) (a.children.fits p r f) small;
          index = j;
          mid = mn.live n;
          low = λ i l. ln.low n i g.0 l;
          grown = g.1;
          written = w.1;
        },
        refl,
      )

  pub add_states : (b : ℕ) → length p < 25 → b < 32 → bit r.child_bitmap b ≡ 0 → grows mn t.nodes (rank r.child_bitmap 32) ≡ None →
      Sound mn mv VN VS (add_at mn mv t pl r b) × (tree_in mn mv (add_at mn mv t pl r b) ≡ with_path (tree_in mn mv t) (p ++ b ∷ []) true)
  add_states b short small clear yes_grow =
      let d = adding b short small clear yes_grow in
      let out = added_law (mn.live t.nodes) (mn.live (add_at mn mv t pl r b).nodes) (mv.live t.vals) t.root (add_at mn mv t pl r b).root p b sound.agrees d.1 in
      (record { nodes_valid = d.0; vals_valid = sound.vals_valid; agrees = out.0 }, out.1)

  -- where the new child stands
  pub add_place : (b : ℕ) → length p < 25 → b < 32 → bit r.child_bitmap b ≡ 0 → grows mn t.nodes (rank r.child_bitmap 32) ≡ None →
      descend (mn.live (add_at mn mv t pl r b).nodes) top (add_at mn mv t pl r b).root (p ++ b ∷ []) ≡ Some (slot (grown mn t.nodes r.child_bitmap r.children_index (rank r.child_bitmap b) bare_row).1 (rank (with_bit r.child_bitmap b) b), bare_row)
  add_place b short small clear yes_grow =
      let d = adding b short small clear yes_grow in
      let nodes2 : ℕ → List NodeRow = mn.live (add_at mn mv t pl r b).nodes in
      let root2 : NodeRow = (add_at mn mv t pl r b).root in
      let r2 : NodeRow = with_children r (with_bit r.child_bitmap b) (grown mn t.nodes r.child_bitmap r.children_index (rank r.child_bitmap b) bare_row).1 in
      let f : find nodes2 root2 p ≡ Some r2 = added_at (mn.live t.nodes) nodes2 (mv.live t.vals) t.root root2 p b sound.agrees d.1 ∙ ap (λ (x : NodeRow). Some x) d.2 in
      let k : child nodes2 r2 b ≡ Some bare_row = ap (λ (x : NodeRow). child nodes2 x b) (sym d.2) ∙ added_child (mn.live t.nodes) nodes2 (mv.live t.vals) t.root root2 p b sound.agrees d.1 in
      descend_snoc nodes2 top root2 p b
      ∙ ap (λ (o : Option NodeRow). then {B = Place × NodeRow} o (λ (s : NodeRow). then {B = Place × NodeRow} (child nodes2 s b) (λ (u : NodeRow). Some (slot s.children_index (rank s.child_bitmap b), u)))) f
      ∙ ap (λ (o : Option NodeRow). then {B = Place × NodeRow} o (λ (u : NodeRow). Some (slot r2.children_index (rank r2.child_bitmap b), u))) k

  pub drop_states : (b : ℕ) (gone : NodeRow) → child (mn.live t.nodes) r b ≡ Some gone → gone.data_bitmap ≡ 0 → gone.child_bitmap ≡ 0 → shrinks mn t.nodes (rank r.child_bitmap 32) ≡ None →
      Sound mn mv VN VS (drop_at mn mv t pl r b) × (tree_in mn mv (drop_at mn mv t pl r b) ≡ with_path (tree_in mn mv t) (p ++ b ∷ []) false)
  drop_states b gone stood no_value no_child yes_shrink =
      let a = sound.agrees in
      let pd = placed (mn.live t.nodes) t.root p pl r way in
      let f : find (mn.live t.nodes) t.root p ≡ Some r = descend_find (mn.live t.nodes) t.root p pl r pd in
      let here : bit r.child_bitmap b ≡ 1 = entry_some (mn.live t.nodes r.children_index) r.child_bitmap b gone stood in
      let small : b < 32 = set_within r.child_bitmap b 32 (a.children.fits p r f) here in
      let inside = rank_strict r.child_bitmap b 32 here small in
      let full = a.children.full p r f in
      let g = ln.removing t.nodes r.children_index (rank r.child_bitmap b) sound.nodes_valid (remove_yes mn kn VN ln t.nodes r.children_index (rank r.child_bitmap b) (rank r.child_bitmap 32) full inside yes_shrink) in
      let n : N = mn.removed t.nodes r.children_index (rank r.child_bitmap b) in
      let j : ℕ = mn.removed_at t.nodes r.children_index (rank r.child_bitmap b) in
      let r2 : NodeRow = with_children r (without_bit r.child_bitmap b) j in
      let moved = removing_moved (mn.live t.nodes) r.children_index (rank r.child_bitmap b) j (mn.live n) (no_node_run (mn.live t.nodes) (mv.live t.vals) t.root a) (omega arith) g.1 in
      let w = written_law mn kn VN ln (mn.live t.nodes) t.root p pl r r2 n g.0 pd (parent_kept (mn.live t.nodes) (mn.live n) (mv.live t.vals) t.root p r j (without (mn.live t.nodes r.children_index) (rank r.child_bitmap b)) a f moved) in
      let out = drop_law (mn.live t.nodes) (mn.live (drop_at mn mv t pl r b).nodes) (mv.live t.vals) t.root (drop_at mn mv t pl r b).root p b a (record {
        r = r;
        found = f;
        gone = gone;
        stood = find_snoc (mn.live t.nodes) t.root p b ∙ ap (λ (o : Option NodeRow). then o (λ (u : NodeRow). child (mn.live t.nodes) u b)) f ∙ stood;
        no_value = no_value;
        no_child = no_child;
        small = small;
        bitmap = without_bit r.child_bitmap b;
        taken = without_taken r.child_bitmap b here;
        fits = without_fits r.child_bitmap b 32 (a.children.fits p r f) small here;
        index = j;
        mid = mn.live n;
        low = λ i l. ln.low n i g.0 l;
        shrunk = g.1;
        written = w.1;
      }) in
      (record { nodes_valid = w.0; vals_valid = sound.vals_valid; agrees = out.0 }, out.1)

module _ {V N S : Type 0} (mn : Model NodeRow N) (mv : Model V S) (kn kv : ℕ) (VN : N → Type 0) (VS : S → Type 0) (ln : Lawful mn kn VN) (lv : Lawful mv kv VS) (t : Table N S) (sound : Sound mn mv VN VS t) (p : Path) (pl : Place) (r : NodeRow) (way : descend (mn.live t.nodes) top t.root p ≡ Some (pl, r)) where
  pub plant_states : (b : ℕ) (v : V) → length p < 25 → b < 32 → bit r.child_bitmap b ≡ 0 → grows mn t.nodes (rank r.child_bitmap 32) ≡ None → grows mv t.vals 0 ≡ None →
      Sound mn mv VN VS (plant_at mn mv t pl r b v) × (tree_in mn mv (plant_at mn mv t pl r b v) ≡ with_val (with_path (tree_in mn mv t) (p ++ b ∷ []) true) (p ++ b ∷ []) 0 (Some v))
  plant_states b v short small clear yes_nodes yes_vals =
      let one = add_states mn mv kn kv VN VS ln lv t sound p pl r way b short small clear yes_nodes in
      let way2 = add_place mn mv kn kv VN VS ln lv t sound p pl r way b short small clear yes_nodes in
      let two = put_states mn mv kn kv VN VS ln lv (add_at mn mv t pl r b) one.0 (p ++ b ∷ []) (slot (grown mn t.nodes r.child_bitmap r.children_index (rank r.child_bitmap b) bare_row).1 (rank (with_bit r.child_bitmap b) b)) bare_row way2 0 v (omega arith) (bit_of_zero 0) (ap (grows mv t.vals) (rank_of_zero 31) ∙ yes_vals) in
      (two.0, two.1 ∙ ap (λ (u : Tree V). with_val u (p ++ b ∷ []) 0 (Some v)) one.1)
