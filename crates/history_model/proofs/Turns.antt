-- What an accepted call on a table over two tiered stores does to the groups of each.
use Rattle.std.proofs.Common.{◌≡◌, ℕ, ◌+◌, ◌-◌, ◌≤◌, [], length, Some, sym, refl, ap, ◌∙◌, subst, arith}
use Rattle.bitmap.specs.Ranks.{rank, with_bit}
use Rattle.bitmap.proofs.Ranks.{rank_of_zero, rank_up}
use Rattle.runs.specs.Lists.{empty}
use Rattle.runs.specs.Runs.{Lawful, grows}
use Rattle.runs.specs.declared.entry.NodeRow.{NodeRow}
use Rattle.tiered_model.specs.Tiered.{State, tiered}
use Rattle.tiered_model.specs.Groups.{Valid}
use Rattle.tiered_model.proofs.Lawful.{lawful}
use Rattle.table_model.specs.Tree.{Path, Tree}
use Rattle.table_model.specs.Table.{bare_row, find}
use Rattle.table_model.specs.Refusals.{value_count, child_count}
use Rattle.table_model.specs.States.{Place, slot, Table, tree_in, child_run, grown, with_children, add_at, written_nodes, Sound}
use Rattle.table_model.specs.Calls.{way}
use Rattle.table_model.specs.Judged.{MayGet, MayPut, MayTake, MayAdd, MayPlant, MayDrop}
use Rattle.table_model.proofs.Nodes.{way_find, narrow, values_counted, children_counted}
use Rattle.table_model.proofs.Doing.{swap_arrives, put_arrives, take_arrives, add_arrives, plant_arrives, drop_arrives, write_granted, value_granted, growth_granted, removal_granted, child_granted, parent_granted, new_child_granted, drop_granted, parent_stands}
use Rattle.history_model.specs.Calls.{Call, get, put, swap, take, add, plant, drop, show, leads}
use Rattle.history_model.proofs.Moved.{value_turn, child_turn}
use Rattle.history_model.proofs.Steps.{May}
use Rattle.history_model.proofs.Stores.{Went, went_none, went_exchanged, went_grown, went_removed, went_written}

ln : Lawful (tiered {E = NodeRow} 32) 32 (Valid 32)
ln = lawful 32 (omega arith) (omega arith)

module _ {V : Type 0} (longest : ℕ) (la : 31 ≤ longest) (lb : longest ≤ 32) where
  lv : Lawful (tiered {E = V} longest) longest (Valid longest)
  lv = lawful longest la lb

  module _ (t : Table (State NodeRow) (State V)) (sound : Sound (tiered 32) (tiered longest) (Valid 32) (Valid longest) t) where
    abbrev tree : Tree V
    tree = tree_in (tiered 32) (tiered longest) t

    -- both stores, where the call is done to `to`
    abbrev pub Goes : Table (State NodeRow) (State V) → ℕ × ℕ → ℕ × ℕ → Type 0
    Goes to k l = Went 32 t.nodes to.nodes k.0 k.1 × Went longest t.vals to.vals l.0 l.1

    nodes_stay : Went 32 t.nodes t.nodes 0 0
    nodes_stay = went_none 32 (omega arith) (omega arith) t.nodes sound.nodes_valid

    vals_stay : Went longest t.vals t.vals 0 0
    vals_stay = went_none longest la lb t.vals sound.vals_valid

    module _ (p : Path) (b : ℕ) (pl : Place) (r : NodeRow) (w : way (tiered 32) (tiered longest) t p ≡ Some (pl, r)) where
      found : find t.nodes.live t.root p ≡ Some r
      found = way_find t.nodes.live t.root p pl r w

      vals_long : value_count tree p ≡ rank r.data_bitmap 31
      vals_long = values_counted t.nodes.live t.vals.live t.root sound.agrees p pl r w ∙ narrow t.nodes.live t.vals.live t.root sound.agrees p pl r w

      kids_long : child_count tree p ≡ rank r.child_bitmap 32
      kids_long = children_counted t.nodes.live t.vals.live t.root sound.agrees p pl r w

      -- the record written back at its place
      row_written : (s : NodeRow) → Went 32 t.nodes (written_nodes (tiered 32) t.nodes pl s) 0 0
      row_written s = went_written t.nodes t.nodes 0 0 pl s nodes_stay (write_granted (tiered 32) (tiered longest) 32 longest (Valid 32) (Valid longest) ln lv t sound p b pl r w)

    go_put : (p : Path) (b : ℕ) (v : V) (pl : Place) (r : NodeRow) → MayPut (tiered 32) (tiered longest) t p b pl r → Goes (leads (tiered 32) (tiered longest) t (put p b v)) (0, 0) (value_count tree p, value_count tree p + 1)
    go_put p b v pl r m =
        let a = sound.agrees in
        let f = found p b pl r m.at.way in
        let d : ℕ = r.data_bitmap in
        let none : r.data_index ≡ empty → rank d b ≡ 0 = λ e. ap (λ (x : ℕ). rank x b) (a.values.some p r f e) ∙ rank_of_zero b in
        let low : b ≤ 31 = omega (arith, m.at.small) in
        let go = went_grown longest la lb t.vals sound.vals_valid 31 d r.data_index b v (a.values.full p r f) (a.values.fits p r f) (a.values.none p r f) none low (rank_up d b 31 low) m.granted
        (growth_granted (tiered 32) (tiered longest) 32 longest (Valid 32) (Valid longest) ln lv t sound p b pl r m) in
        let count : rank d 31 ≡ value_count tree p = sym (vals_long p b pl r m.at.way) in
        let here = put_arrives (tiered 32) (tiered longest) 32 longest (Valid 32) (Valid longest) ln lv t sound p b pl r v m in
        subst (λ (x : Table (State NodeRow) (State V)). Goes x (0, 0) (value_count tree p, value_count tree p + 1)) (sym here.leads)
        (row_written p b pl r m.at.way _, subst (λ (k : ℕ). Went longest t.vals (grown (tiered longest) t.vals d r.data_index (rank d b) v).0 k (k + 1)) count go)

    go_take : (p : Path) (b : ℕ) (pl : Place) (r : NodeRow) → MayTake (tiered 32) (tiered longest) t p b pl r → Goes (leads (tiered 32) (tiered longest) t (take p b)) (0, 0) (value_count tree p, value_count tree p - 1)
    go_take p b pl r m =
        let f = found p b pl r m.at.way in
        let go = went_removed longest la lb t.vals sound.vals_valid r.data_index (rank r.data_bitmap b) (value_count tree p) (sound.agrees.values.full p r f ∙ sym (vals_long p b pl r m.at.way))
        (removal_granted (tiered 32) (tiered longest) 32 longest (Valid 32) (Valid longest) ln lv t sound p b pl r m) in
        let here = take_arrives (tiered 32) (tiered longest) 32 longest (Valid 32) (Valid longest) ln lv t sound p b pl r m in
        subst (λ (x : Table (State NodeRow) (State V)). Goes x (0, 0) (value_count tree p, value_count tree p - 1)) (sym here.leads) (row_written p b pl r m.at.way _, go)

    go_swap : (p : Path) (b : ℕ) (v : V) (pl : Place) (r : NodeRow) → MayGet (tiered 32) (tiered longest) t p b pl r → Goes (leads (tiered 32) (tiered longest) t (swap p b v)) (0, 0) (0, 0)
    go_swap p b v pl r m =
        let here = swap_arrives (tiered 32) (tiered longest) 32 longest (Valid 32) (Valid longest) ln lv t sound p b pl r v m in
        subst (λ (x : Table (State NodeRow) (State V)). Goes x (0, 0) (0, 0)) (sym here.leads) (
          nodes_stay,
          went_exchanged longest la lb t.vals t.vals 0 0 r.data_index (rank r.data_bitmap b) v vals_stay (value_granted (tiered 32) (tiered longest) 32 longest (Valid 32) (Valid longest) ln lv t sound p b pl r m),
        )

    module _ (p : Path) (b : ℕ) (pl : Place) (r : NodeRow) (m : MayAdd (tiered 32) (tiered longest) t p b pl r) where
      -- one child more, and its parent's record written back
      grown_nodes : Went 32 t.nodes (add_at (tiered 32) (tiered longest) t pl r b).nodes (child_count tree p) (child_count tree p + 1)
      grown_nodes =
          let a = sound.agrees in
          let f = found p b pl r m.at.way in
          let d : ℕ = r.child_bitmap in
          let none : r.children_index ≡ empty → rank d b ≡ 0 = λ e. ap (λ (x : ℕ). rank x b) (a.children.some p r f e) ∙ rank_of_zero b in
          let low : b ≤ 32 = omega (arith, m.at.small) in
          let go = went_grown 32 (omega arith) (omega arith) t.nodes sound.nodes_valid 32 d r.children_index b bare_row (a.children.full p r f) (a.children.fits p r f) (a.children.none p r f) none low (rank_up d b 32 low) m.granted
          (child_granted (tiered 32) (tiered longest) 32 longest (Valid 32) (Valid longest) ln lv t sound p b pl r m) in
          let count : rank d 32 ≡ child_count tree p = sym (kids_long p b pl r m.at.way) in
          went_written t.nodes (child_run (tiered 32) t.nodes r b).0 (child_count tree p) (child_count tree p + 1) pl (with_children r (with_bit d b) (child_run (tiered 32) t.nodes r b).1)
          (subst (λ (k : ℕ). Went 32 t.nodes (child_run (tiered 32) t.nodes r b).0 k (k + 1)) count go)
          (parent_granted (tiered 32) (tiered longest) 32 longest (Valid 32) (Valid longest) ln lv t sound p b pl r m)

      go_add : Goes (leads (tiered 32) (tiered longest) t (add p b)) (child_count tree p, child_count tree p + 1) (0, 0)
      go_add =
          let here = add_arrives (tiered 32) (tiered longest) 32 longest (Valid 32) (Valid longest) ln lv t sound p b pl r m in
          subst (λ (x : Table (State NodeRow) (State V)). Goes x (child_count tree p, child_count tree p + 1) (0, 0)) (sym here.leads) (grown_nodes, vals_stay)

    go_plant : (p : Path) (b : ℕ) (v : V) (pl : Place) (r : NodeRow) → MayPlant (tiered 32) (tiered longest) t p b pl r → Goes (leads (tiered 32) (tiered longest) t (plant p b v)) (child_count tree p, child_count tree p + 1) (0, 1)
    go_plant p b v pl r m =
        let mid : Table (State NodeRow) (State V) = add_at (tiered 32) (tiered longest) t pl r b in
        let fresh : Place = slot (child_run (tiered 32) t.nodes r b).1 (rank (with_bit r.child_bitmap b) b) in
        let zero_long : rank 0 31 ≡ 0 = rank_of_zero 31 in
        let none : t.vals.live empty ≡ [] = lv.low t.vals empty sound.vals_valid (omega arith) in
        let go = went_grown longest la lb t.vals sound.vals_valid 31 0 empty 0 v (ap length none ∙ sym zero_long) (omega arith) (λ _. refl) (λ _. rank_of_zero 0) (omega arith) (rank_up 0 0 31 (omega arith)) (ap (grows (tiered longest) t.vals) zero_long ∙ m.granted) m.granted in
        let here = plant_arrives (tiered 32) (tiered longest) 32 longest (Valid 32) (Valid longest) ln lv t sound p b pl r v m in
        subst (λ (x : Table (State NodeRow) (State V)). Goes x (child_count tree p, child_count tree p + 1) (0, 1)) (sym here.leads) (
          went_written t.nodes mid.nodes (child_count tree p) (child_count tree p + 1) fresh _ (grown_nodes p b pl r m.add) (new_child_granted (tiered 32) (tiered longest) 32 longest (Valid 32) (Valid longest) ln lv t sound p b pl r m.add),
          subst (λ (k : ℕ). Went longest t.vals (grown (tiered longest) t.vals 0 empty (rank 0 0) v).0 k (k + 1)) zero_long go,
        )

    go_drop : (p : Path) (b : ℕ) (pl : Place) (r : NodeRow) → MayDrop (tiered 32) (tiered longest) t p b pl r → Goes (leads (tiered 32) (tiered longest) t (drop p b)) (child_count tree p, child_count tree p - 1) (0, 0)
    go_drop p b pl r m =
        let f = found p b pl r m.at.way in
        let gone : State NodeRow = (tiered 32).removed t.nodes r.children_index (rank r.child_bitmap b) in
        let go = went_removed 32 (omega arith) (omega arith) t.nodes sound.nodes_valid r.children_index (rank r.child_bitmap b) (child_count tree p) (sound.agrees.children.full p r f ∙ sym (kids_long p b pl r m.at.way))
        (drop_granted (tiered 32) (tiered longest) 32 longest (Valid 32) (Valid longest) ln lv t sound p b pl r m) in
        let here = drop_arrives (tiered 32) (tiered longest) 32 longest (Valid 32) (Valid longest) ln lv t sound p b pl r m in
        subst (λ (x : Table (State NodeRow) (State V)). Goes x (child_count tree p, child_count tree p - 1) (0, 0)) (sym here.leads)
        (went_written t.nodes gone (child_count tree p) (child_count tree p - 1) pl _ go (parent_stands (tiered 32) (tiered longest) 32 longest (Valid 32) (Valid longest) ln lv t sound p b pl r m), vals_stay)

    pub goes : (c : Call V) (pl : Place) (r : NodeRow) → May (tiered 32) (tiered longest) t c pl r → Goes (leads (tiered 32) (tiered longest) t c) (child_turn tree c) (value_turn tree c)
    unfolding May value_turn child_turn
    goes (get p b) pl r m = (nodes_stay, vals_stay)
    goes (put p b v) pl r m = go_put p b v pl r m
    goes (swap p b v) pl r m = go_swap p b v pl r m
    goes (take p b) pl r m = go_take p b pl r m
    goes (add p b) pl r m = go_add p b pl r m
    goes (plant p b v) pl r m = go_plant p b v pl r m
    goes (drop p b) pl r m = go_drop p b pl r m
    goes (show p) pl r m = (nodes_stay, vals_stay)
