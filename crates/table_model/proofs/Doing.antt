-- A call that has been judged: what its stores then grant, and where it leads.
use Rattle.std.proofs.Common.{◌≡◌, ℕ, ◌<◌, true, false, [], ◌∷◌, ◌++◌, length, Some, None, Option, refl, ap, ◌∙◌, arith}
use Rattle.bitmap.specs.Ranks.{rank, with_bit}
use Rattle.bitmap.proofs.Ranks.{rank_strict, rank_of_zero, set_bit, clear_bit}
use Rattle.runs.specs.Lists.{nth, empty, with_new, without}
use Rattle.runs.specs.Refusals.{Grant}
use Rattle.runs.specs.Runs.{Model, Lawful, no_entry, no_remove}
use Rattle.runs.specs.declared.entry.NodeRow.{NodeRow}
use Rattle.table_model.specs.Tree.{Path, Tree, with_val, with_path}
use Rattle.table_model.specs.Table.{bare_row, find, Passes}
use Rattle.table_model.specs.States.{Place, slot, Table, there, tree_in, child_run, put_at, take_at, swap_at, add_at, plant_at, drop_at, Sound}
use Rattle.table_model.specs.Calls.{way, get_no, swap_to, put_no, put_to, take_no, take_to, add_no, add_to, plant_no, plant_to, drop_no, drop_to}
use Rattle.table_model.specs.Judged.{no_growth, no_write, MayGet, MayPut, MayTake, MayAdd, MayPlant, MayDrop}
use Rattle.table_model.proofs.Entries.{entry_some}
use Rattle.table_model.proofs.Moves.{growing_moved, removing_moved}
use Rattle.table_model.proofs.Children.{no_node_run}
use Rattle.table_model.proofs.Nodes.{way_find, root_passes, value_at, value_inside, growth, writable}
use Rattle.table_model.proofs.States.{placed, entry_yes, remove_yes, grown_law, parent_kept, put_states, take_states, swap_states, add_states, add_place, plant_states, drop_states}

-- A call that `why` does not refuse leads `to` the states `here`, which are sound and mean the tree u.
pub record Arrives {V N S : Type 0} (mn : Model NodeRow N) (mv : Model V S) (VN : N → Type 0) (VS : S → Type 0) (why : Grant) (to : Table N S) (u : Tree V) (here : Table N S) : Type 0 where
  pub granted : why ≡ None
  pub leads : to ≡ here
  pub sound : Sound mn mv VN VS here
  pub tree : tree_in mn mv here ≡ u

module _ {V N S : Type 0} (mn : Model NodeRow N) (mv : Model V S) (kn kv : ℕ) (VN : N → Type 0) (VS : S → Type 0) (ln : Lawful mn kn VN) (lv : Lawful mv kv VS)
    (t : Table N S) (sound : Sound mn mv VN VS t) (p : Path) (b : ℕ) (pl : Place) (r : NodeRow) where
  led : (f : Place → NodeRow → Table N S) → way mn mv t p ≡ Some (pl, r) → there t (way mn mv t p) f ≡ f pl r
  led f w = ap (λ (o : Option (Place × NodeRow)). there t o f) w

  -- the record's place can be written
  pub write_granted : way mn mv t p ≡ Some (pl, r) → no_write mn t.nodes pl ≡ None
  write_granted w = writable mn kn VN ln (mn.live t.nodes) t.root p pl r t.nodes (placed (mn.live t.nodes) t.root p pl r w) (λ q c x e f k. refl)

  -- ---- get and swap

  pub value_granted : MayGet mn mv t p b pl r → no_entry mv t.vals r.data_index (rank r.data_bitmap b) ≡ None
  value_granted m = entry_yes mv kv VS lv t.vals r.data_index (rank r.data_bitmap b) (value_inside (mn.live t.nodes) (mv.live t.vals) t.root sound.agrees p pl r m.at.way b m.here)

  -- what stands at the bit's rank is the value
  pub value_is : (x : V) → MayGet mn mv t p b pl r → nth (mv.live t.vals r.data_index) (rank r.data_bitmap b) ≡ Some x → (tree_in mn mv t).val p b ≡ Some x
  value_is x m e = value_at (mn.live t.nodes) (mv.live t.vals) t.root sound.agrees p pl r m.at.way b m.here ∙ e

  pub swap_arrives : (x : V) → MayGet mn mv t p b pl r → Arrives mn mv VN VS (get_no mn mv t p b) (swap_to mn mv t p b x) (with_val (tree_in mn mv t) p b (Some x)) (swap_at mn mv t r b x)
  swap_arrives x m =
      let o = swap_states mn mv kn kv VN VS ln lv t sound p pl r m.at.way b x (set_bit r.data_bitmap b m.here) in
      record { granted = m.passed; leads = led (λ _ q. swap_at mn mv t q b x) m.at.way; sound = o.0; tree = o.1 }

  -- ---- put

  pub growth_granted : MayPut mn mv t p b pl r → no_growth mv t.vals r.data_bitmap r.data_index (rank r.data_bitmap b) ≡ None
  growth_granted m =
      let f = way_find (mn.live t.nodes) t.root p pl r m.at.way in
      growth mv kv VS lv t.vals r.data_bitmap r.data_index b 31 (sound.agrees.values.full p r f) (sound.agrees.values.fits p r f) (omega (arith, m.at.small)) m.granted

  pub put_arrives : (x : V) → MayPut mn mv t p b pl r → Arrives mn mv VN VS (put_no mn mv t p b) (put_to mn mv t p b x) (with_val (tree_in mn mv t) p b (Some x)) (put_at mn mv t pl r b x)
  put_arrives x m =
      let o = put_states mn mv kn kv VN VS ln lv t sound p pl r m.at.way b x m.at.small (clear_bit r.data_bitmap b m.clear) m.granted in
      record { granted = m.passed; leads = led (λ at q. put_at mn mv t at q b x) m.at.way; sound = o.0; tree = o.1 }

  -- ---- take

  pub removal_granted : MayTake mn mv t p b pl r → no_remove mv t.vals r.data_index (rank r.data_bitmap b) ≡ None
  removal_granted m =
      let f = way_find (mn.live t.nodes) t.root p pl r m.at.way in
      remove_yes mv kv VS lv t.vals r.data_index (rank r.data_bitmap b) (rank r.data_bitmap 31) (sound.agrees.values.full p r f) (rank_strict r.data_bitmap b 31 (set_bit r.data_bitmap b m.here) m.at.small) m.granted

  pub taken_is : (x : V) → MayTake mn mv t p b pl r → nth (mv.live t.vals r.data_index) (rank r.data_bitmap b) ≡ Some x → (tree_in mn mv t).val p b ≡ Some x
  taken_is x m e = value_at (mn.live t.nodes) (mv.live t.vals) t.root sound.agrees p pl r m.at.way b m.here ∙ e

  pub take_arrives : MayTake mn mv t p b pl r → Arrives mn mv VN VS (take_no mn mv t p b) (take_to mn mv t p b) (with_val (tree_in mn mv t) p b None) (take_at mn mv t pl r b)
  take_arrives m =
      let o = take_states mn mv kn kv VN VS ln lv t sound p pl r m.at.way b m.at.small (set_bit r.data_bitmap b m.here) m.granted in
      record { granted = m.passed; leads = led (λ at q. take_at mn mv t at q b) m.at.way; sound = o.0; tree = o.1 }

  -- ---- add and plant

  module _ (m : MayAdd mn mv t p b pl r) where
    add_found : find (mn.live t.nodes) t.root p ≡ Some r
    add_found = way_find (mn.live t.nodes) t.root p pl r m.at.way

    pub child_granted : no_growth mn t.nodes r.child_bitmap r.children_index (rank r.child_bitmap b) ≡ None
    child_granted = growth mn kn VN ln t.nodes r.child_bitmap r.children_index b 32 (sound.agrees.children.full p r add_found) (sound.agrees.children.fits p r add_found) (omega (arith, m.at.small)) m.granted

    -- the parent's run stands while the children's run moves
    pub parent_granted : no_write mn (child_run mn t.nodes r b).0 pl ≡ None
    parent_granted =
        let a = sound.agrees in
        let g = grown_law mn kn VN ln 32 t.nodes sound.nodes_valid r.child_bitmap r.children_index b bare_row (a.children.full p r add_found) (a.children.fits p r add_found) (a.children.none p r add_found) (omega (arith, m.at.small)) m.granted in
        let none_first : r.children_index ≡ empty → rank r.child_bitmap b ≡ 0 = λ (e : r.children_index ≡ empty). ap (λ (x : ℕ). rank x b) (a.children.some p r add_found e) ∙ rank_of_zero b in
        let to : N = (child_run mn t.nodes r b).0 in
        let j : ℕ = (child_run mn t.nodes r b).1 in
        let moved = growing_moved (mn.live t.nodes) r.children_index (rank r.child_bitmap b) bare_row j (mn.live to) (no_node_run (mn.live t.nodes) (mv.live t.vals) t.root a) none_first g.1 in
        writable mn kn VN ln (mn.live t.nodes) t.root p pl r to (placed (mn.live t.nodes) t.root p pl r m.at.way)
        (parent_kept (mn.live t.nodes) (mn.live to) (mv.live t.vals) t.root p r j (with_new (mn.live t.nodes r.children_index) (rank r.child_bitmap b) bare_row) a add_found moved)

    pub add_arrives : Arrives mn mv VN VS (add_no mn mv t p b) (add_to mn mv t p b) (with_path (tree_in mn mv t) (p ++ b ∷ []) true) (add_at mn mv t pl r b)
    add_arrives =
        let o = add_states mn mv kn kv VN VS ln lv t sound p pl r m.at.way b m.short m.at.small (clear_bit r.child_bitmap b m.clear) m.granted in
        record { granted = m.passed; leads = led (λ at q. add_at mn mv t at q b) m.at.way; sound = o.0; tree = o.1 }

    -- the new child's record can be written
    pub new_child_granted : no_write mn (add_at mn mv t pl r b).nodes (slot (child_run mn t.nodes r b).1 (rank (with_bit r.child_bitmap b) b)) ≡ None
    new_child_granted =
        let after : Table N S = add_at mn mv t pl r b in
        let fresh : Place = slot (child_run mn t.nodes r b).1 (rank (with_bit r.child_bitmap b) b) in
        let w = add_place mn mv kn kv VN VS ln lv t sound p pl r m.at.way b m.short m.at.small (clear_bit r.child_bitmap b m.clear) m.granted in
        writable mn kn VN ln (mn.live after.nodes) after.root (p ++ b ∷ []) fresh bare_row after.nodes (placed (mn.live after.nodes) after.root (p ++ b ∷ []) fresh bare_row w) (λ q c x e f k. refl)

  pub plant_arrives : (x : V) → MayPlant mn mv t p b pl r → Arrives mn mv VN VS (plant_no mn mv t p b) (plant_to mn mv t p b x) (with_val (with_path (tree_in mn mv t) (p ++ b ∷ []) true) (p ++ b ∷ []) 0 (Some x)) (plant_at mn mv t pl r b x)
  plant_arrives x m =
      let q = m.add in
      let o = plant_states mn mv kn kv VN VS ln lv t sound p pl r q.at.way b x q.short q.at.small (clear_bit r.child_bitmap b q.clear) q.granted m.granted in
      record { granted = m.passed; leads = led (λ at s. plant_at mn mv t at s b x) q.at.way; sound = o.0; tree = o.1 }

  -- ---- drop

  module _ (m : MayDrop mn mv t p b pl r) where
    drop_found : find (mn.live t.nodes) t.root p ≡ Some r
    drop_found = way_find (mn.live t.nodes) t.root p pl r m.at.way

    inside : rank r.child_bitmap b < rank r.child_bitmap 32
    inside = rank_strict r.child_bitmap b 32 (entry_some (mn.live t.nodes r.children_index) r.child_bitmap b bare_row m.stood) m.at.small

    pub drop_granted : no_remove mn t.nodes r.children_index (rank r.child_bitmap b) ≡ None
    drop_granted = remove_yes mn kn VN ln t.nodes r.children_index (rank r.child_bitmap b) (rank r.child_bitmap 32) (sound.agrees.children.full p r drop_found) inside m.granted

    pub parent_stands : no_write mn (mn.removed t.nodes r.children_index (rank r.child_bitmap b)) pl ≡ None
    parent_stands =
        let a = sound.agrees in
        let long : length (mn.live t.nodes r.children_index) ≡ rank r.child_bitmap 32 = a.children.full p r drop_found in
        let to : N = mn.removed t.nodes r.children_index (rank r.child_bitmap b) in
        let j : ℕ = mn.removed_at t.nodes r.children_index (rank r.child_bitmap b) in
        let g = ln.removing t.nodes r.children_index (rank r.child_bitmap b) sound.nodes_valid drop_granted in
        let moved = removing_moved (mn.live t.nodes) r.children_index (rank r.child_bitmap b) j (mn.live to) (no_node_run (mn.live t.nodes) (mv.live t.vals) t.root a) (omega (arith, inside, long)) g.1 in
        writable mn kn VN ln (mn.live t.nodes) t.root p pl r to (placed (mn.live t.nodes) t.root p pl r m.at.way)
        (parent_kept (mn.live t.nodes) (mn.live to) (mv.live t.vals) t.root p r j (without (mn.live t.nodes r.children_index) (rank r.child_bitmap b)) a drop_found moved)

    pub drop_arrives : Arrives mn mv VN VS (drop_no mn mv t p b) (drop_to mn mv t p b) (with_path (tree_in mn mv t) (p ++ b ∷ []) false) (drop_at mn mv t pl r b)
    drop_arrives =
        let o = drop_states mn mv kn kv VN VS ln lv t sound p pl r m.at.way b bare_row m.stood refl refl m.granted in
        record { granted = m.passed; leads = led (λ at q. drop_at mn mv t at q b) m.at.way; sound = o.0; tree = o.1 }

-- where a call has arrived, the root passes the check
pub root_there : {V N S : Type 0} (mn : Model NodeRow N) (mv : Model V S) (VN : N → Type 0) (VS : S → Type 0) (why : Grant) (to : Table N S) (u : Tree V) (here : Table N S) → Arrives mn mv VN VS why to u here → Passes here.root
root_there mn mv VN VS why to u here a = root_passes (mn.live here.nodes) (mv.live here.vals) here.root a.sound.agrees
