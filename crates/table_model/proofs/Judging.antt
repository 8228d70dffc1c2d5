-- Calls judged in the order of their refusals, from the record at the path and the answers of the stores.
use Rattle.std.proofs.Common.{◌≡◌, ℕ, ◌<◌, Bool, true, false, not, leb, [], ◌∷◌, ◌++◌, length, Some, None, sym, refl, ap, ◌∙◌}
use Rattle.std.proofs.lemmas.Bool.{lt-leb}
use Rattle.bitmap.specs.Ranks.{is_set, rank}
use Rattle.runs.specs.Refusals.{Grant, refusal}
use Rattle.runs.specs.Runs.{Model, grows, shrinks}
use Rattle.runs.specs.declared.entry.NodeRow.{NodeRow}
use Rattle.table_model.specs.Tree.{Path, Tree, followed}
use Rattle.table_model.specs.Table.{is_some, child, find, Agrees}
use Rattle.table_model.specs.Refusals.{first, when, inside, bad_path, value_count, child_count, is_bare, no_node, no_path, no_place}
use Rattle.table_model.specs.States.{Place, Table, tree_in}
use Rattle.table_model.specs.Calls.{way, get_no, put_no, take_no, add_no, drop_no}
use Rattle.table_model.specs.Judged.{Reached, MayGet, MayPut, MayTake, MayAdd, MayDrop}
use Rattle.table_model.proofs.Nodes.{node_has, value_bit, child_bit, narrow, values_counted, children_counted, child_found, child_lost, bare_is, bare_not, bare_row_is}

-- ---- refusals 1 to 4

module _ {V : Type 0} (t : Tree V) (p : Path) where
  node_there : t.has p ≡ true → no_node t p ≡ None
  node_there h = ap (λ (x : Bool). when (not x) (refusal 4 (followed t p ∷ []))) h

  pub path_node : bad_path p ≡ None → no_path t p ≡ no_node t p
  path_node good = ap (λ (g : Grant). first g (no_node t p)) good

  pub path_there : bad_path p ≡ None → t.has p ≡ true → no_path t p ≡ None
  path_there good h = path_node good ∙ node_there h

  module _ (b w : ℕ) where
    after_path : Grant
    after_path = first (when (leb w b) (refusal 3 [])) (no_node t p)

    place_bit : bad_path p ≡ None → (h : Bool) → leb w b ≡ h → no_place t p b w ≡ first (when h (refusal 3 [])) (no_node t p)
    unfolding after_path
    place_bit good h e = ap (λ (g : Grant). first g after_path) good ∙ ap (λ (x : Bool). first (when x (refusal 3 [])) (no_node t p)) e

    pub place_node : bad_path p ≡ None → b < w → no_place t p b w ≡ no_node t p
    place_node good small = place_bit good false (lt-leb w b small)

    pub place_there : bad_path p ≡ None → b < w → t.has p ≡ true → no_place t p b w ≡ None
    place_there good small h = place_node good small ∙ node_there h

-- ---- refusals 5 to 10

module _ {V N S : Type 0} (mn : Model NodeRow N) (mv : Model V S) (t : Table N S) (a : Agrees (mn.live t.nodes) (mv.live t.vals) t.root) (p : Path) (b : ℕ) (pl : Place) (r : NodeRow) where
  pub reached : (w : ℕ) → bad_path p ≡ None → b < w → way mn mv t p ≡ Some (pl, r) → Reached mn mv t p b w pl r
  reached w good small e = record { passed = place_there (tree_in mn mv t) p b w good small (node_has (mn.live t.nodes) (mv.live t.vals) t.root a p pl r e); small = small; way = e }

  module _ (at : Reached mn mv t p b 31 pl r) where
    bit_shown : is_some ((tree_in mn mv t).val p b) ≡ is_set r.data_bitmap b
    bit_shown = value_bit (mn.live t.nodes) (mv.live t.vals) t.root a p pl r at.way b

    counted : value_count (tree_in mn mv t) p ≡ rank r.data_bitmap 32
    counted = values_counted (mn.live t.nodes) (mv.live t.vals) t.root a p pl r at.way

    by_31 : (ask : ℕ → Grant) → ask (rank r.data_bitmap 32) ≡ None → ask (rank r.data_bitmap 31) ≡ None
    by_31 ask y = ap ask (sym (narrow (mn.live t.nodes) (mv.live t.vals) t.root a p pl r at.way)) ∙ y

    -- get and swap
    get_asks : get_no mn mv t p b ≡ when (not (is_set r.data_bitmap b)) (refusal 7 [])
    get_asks =
        ap (λ (g : Grant). first g (when (not (is_some ((tree_in mn mv t).val p b))) (refusal 7 []))) at.passed
        ∙ ap (λ (h : Bool). when (not h) (refusal 7 [])) bit_shown

    pub get_missing : is_set r.data_bitmap b ≡ false → get_no mn mv t p b ≡ Some (refusal 7 [])
    get_missing e = get_asks ∙ ap (λ (h : Bool). when (not h) (refusal 7 [])) e

    pub get_may : is_set r.data_bitmap b ≡ true → MayGet mn mv t p b pl r
    get_may e = record { passed = get_asks ∙ ap (λ (h : Bool). when (not h) (refusal 7 [])) e; at = at; here = e }

    -- put
    put_after : Bool → ℕ → Grant
    put_after h k = first (when h (refusal 6 [])) (inside 10 (grows mv t.vals k))

    put_asks : (h : Bool) → is_set r.data_bitmap b ≡ h → put_no mn mv t p b ≡ put_after h (rank r.data_bitmap 32)
    unfolding put_after
    put_asks h e =
        ap (λ (g : Grant). first g (put_after (is_some ((tree_in mn mv t).val p b)) (value_count (tree_in mn mv t) p))) at.passed
        ∙ ap (put_after (is_some ((tree_in mn mv t).val p b))) counted
        ∙ ap (λ (x : Bool). put_after x (rank r.data_bitmap 32)) (bit_shown ∙ e)

    pub put_taken : is_set r.data_bitmap b ≡ true → put_no mn mv t p b ≡ Some (refusal 6 [])
    unfolding put_after
    put_taken e = put_asks true e

    pub put_clear : is_set r.data_bitmap b ≡ false → put_no mn mv t p b ≡ inside 10 (grows mv t.vals (rank r.data_bitmap 32))
    unfolding put_after
    put_clear e = put_asks false e

    pub put_may : is_set r.data_bitmap b ≡ false → grows mv t.vals (rank r.data_bitmap 32) ≡ None → MayPut mn mv t p b pl r
    put_may e y = record { passed = put_clear e ∙ ap (inside 10) y; at = at; clear = e; granted = by_31 (grows mv t.vals) y }

    -- take
    pub take_set : MayGet mn mv t p b pl r → take_no mn mv t p b ≡ inside 10 (shrinks mv t.vals (rank r.data_bitmap 32))
    take_set m =
        ap (λ (g : Grant). first g (inside 10 (shrinks mv t.vals (value_count (tree_in mn mv t) p)))) m.passed
        ∙ ap (λ (k : ℕ). inside 10 (shrinks mv t.vals k)) counted

    pub take_may : MayGet mn mv t p b pl r → shrinks mv t.vals (rank r.data_bitmap 32) ≡ None → MayTake mn mv t p b pl r
    take_may m y = record { passed = take_set m ∙ ap (inside 10) y; at = at; here = m.here; granted = by_31 (shrinks mv t.vals) y }

  module _ (at : Reached mn mv t p b 32 pl r) where
    child_shown : (tree_in mn mv t).has (p ++ b ∷ []) ≡ is_set r.child_bitmap b
    child_shown = child_bit (mn.live t.nodes) (mv.live t.vals) t.root a p pl r at.way b

    children : child_count (tree_in mn mv t) p ≡ rank r.child_bitmap 32
    children = children_counted (mn.live t.nodes) (mv.live t.vals) t.root a p pl r at.way

    -- add
    add_after : Bool → Bool → ℕ → Grant
    add_after d h k = first (when d (refusal 5 [])) (first (when h (refusal 6 [])) (inside 9 (grows mn t.nodes k)))

    add_asks : (d h : Bool) → leb 25 (length p) ≡ d → is_set r.child_bitmap b ≡ h → add_no mn mv t p b ≡ add_after d h (rank r.child_bitmap 32)
    unfolding add_after
    add_asks d h l e =
        ap (λ (g : Grant). first g (add_after (leb 25 (length p)) ((tree_in mn mv t).has (p ++ b ∷ [])) (child_count (tree_in mn mv t) p))) at.passed
        ∙ ap (add_after (leb 25 (length p)) ((tree_in mn mv t).has (p ++ b ∷ []))) children
        ∙ ap (λ (x : Bool). add_after (leb 25 (length p)) x (rank r.child_bitmap 32)) (child_shown ∙ e)
        ∙ ap (λ (x : Bool). add_after x h (rank r.child_bitmap 32)) l

    pub add_taken : length p < 25 → is_set r.child_bitmap b ≡ true → add_no mn mv t p b ≡ Some (refusal 6 [])
    unfolding add_after
    add_taken l e = add_asks false true (lt-leb 25 (length p) l) e

    pub add_clear : length p < 25 → is_set r.child_bitmap b ≡ false → add_no mn mv t p b ≡ inside 9 (grows mn t.nodes (rank r.child_bitmap 32))
    unfolding add_after
    add_clear l e = add_asks false false (lt-leb 25 (length p) l) e

    pub add_may : length p < 25 → is_set r.child_bitmap b ≡ false → grows mn t.nodes (rank r.child_bitmap 32) ≡ None → MayAdd mn mv t p b pl r
    add_may l e y = record { passed = add_clear l e ∙ ap (inside 9) y; at = at; short = l; clear = e; granted = y }

    -- drop
    drop_after : Bool → Bool → ℕ → Grant
    drop_after h o k = first (when (not h) (refusal 7 [])) (first (when (not o) (refusal 8 [])) (inside 9 (shrinks mn t.nodes k)))

    drop_asks : (h o : Bool) → (tree_in mn mv t).has (p ++ b ∷ []) ≡ h → is_bare (tree_in mn mv t) (p ++ b ∷ []) ≡ o → drop_no mn mv t p b ≡ drop_after h o (rank r.child_bitmap 32)
    unfolding drop_after
    drop_asks h o e l =
        ap (λ (g : Grant). first g (drop_after ((tree_in mn mv t).has (p ++ b ∷ [])) (is_bare (tree_in mn mv t) (p ++ b ∷ [])) (child_count (tree_in mn mv t) p))) at.passed
        ∙ ap (drop_after ((tree_in mn mv t).has (p ++ b ∷ [])) (is_bare (tree_in mn mv t) (p ++ b ∷ []))) children
        ∙ ap (λ (x : Bool). drop_after x (is_bare (tree_in mn mv t) (p ++ b ∷ [])) (rank r.child_bitmap 32)) e
        ∙ ap (λ (x : Bool). drop_after h x (rank r.child_bitmap 32)) l

    pub drop_missing : child (mn.live t.nodes) r b ≡ None → drop_no mn mv t p b ≡ Some (refusal 7 [])
    unfolding drop_after
    drop_missing e = drop_asks false (is_bare (tree_in mn mv t) (p ++ b ∷ [])) (child_lost (mn.live t.nodes) (mv.live t.vals) t.root a p pl r at.way b e) refl

    module _ (gone : NodeRow) (stood : child (mn.live t.nodes) r b ≡ Some gone) where
      there_is : find (mn.live t.nodes) t.root (p ++ b ∷ []) ≡ Some gone
      there_is = child_found (mn.live t.nodes) (mv.live t.vals) t.root a p pl r at.way b gone stood

      pub drop_full : ((gone.data_bitmap ≡ 0) × (gone.child_bitmap ≡ 0) → ⊥) → drop_no mn mv t p b ≡ Some (refusal 8 [])
      unfolding drop_after
      drop_full f = drop_asks true false (ap is_some there_is) (bare_not (mn.live t.nodes) (mv.live t.vals) t.root a (p ++ b ∷ []) gone there_is f)

      pub drop_bare : gone.data_bitmap ≡ 0 → gone.child_bitmap ≡ 0 → drop_no mn mv t p b ≡ inside 9 (shrinks mn t.nodes (rank r.child_bitmap 32))
      unfolding drop_after
      drop_bare x y = drop_asks true true (ap is_some there_is) (bare_is (mn.live t.nodes) (mv.live t.vals) t.root a (p ++ b ∷ []) gone there_is x y)

      pub drop_may : gone.data_bitmap ≡ 0 → gone.child_bitmap ≡ 0 → shrinks mn t.nodes (rank r.child_bitmap 32) ≡ None → MayDrop mn mv t p b pl r
      drop_may x y z = record {
        passed = drop_bare x y ∙ ap (inside 9) z;
        at = at;
        stood = stood ∙ ap (λ (q : NodeRow). Some q) (bare_row_is (mn.live t.nodes) (mv.live t.vals) t.root a (p ++ b ∷ []) gone there_is x y);
        granted = z;
      }
