-- One call on a table: where it is accepted the table is sound again, and means the tree that the call leaves.
use Rattle.std.proofs.Common.{◌≡◌, ℕ, ◌<◌, true, false, [], ◌∷◌, ◌++◌, length, Some, None, Option, sym, refl, ap, ◌∙◌, subst, inl, inr}
use Rattle.std.proofs.lemmas.Bool.{cases_eq, true≢false}
use Rattle.bitmap.specs.Ranks.{rank}
use Rattle.runs.specs.Calls.{moved_on}
use Rattle.runs.specs.Refusals.{Grant}
use Rattle.runs.specs.Runs.{Model, Lawful, grows, shrinks}
use Rattle.runs.specs.declared.entry.NodeRow.{NodeRow}
use Rattle.table_model.specs.Tree.{Path, Tree, Plain}
use Rattle.table_model.specs.Table.{is_some, child, Agrees}
use Rattle.table_model.specs.Refusals.{inside, value_count, child_count, is_bare}
use Rattle.table_model.specs.States.{Place, top, Table, tree_in, Sound}
use Rattle.table_model.specs.Calls.{way}
use Rattle.table_model.specs.Judged.{Reached, MayGet, MayPut, MayTake, MayAdd, MayPlant, MayDrop}
use Rattle.table_model.proofs.Nodes.{value_bit, child_bit, values_counted, children_counted, child_lost, child_found, bare_not}
use Rattle.table_model.proofs.Judging.{reached, get_may, put_may, take_may, add_may, drop_may}
use Rattle.table_model.proofs.Doing.{Arrives, swap_arrives, put_arrives, take_arrives, add_arrives, plant_arrives, drop_arrives}
use Rattle.table_model.proofs.States.{descend_finds}
use Rattle.table_model.proofs.Whole.{plain_law}
use Rattle.history_model.specs.Calls.{Call, get, put, swap, take, add, plant, drop, show, says, out, changed, after, lists_in, record_in, refuses, leads, stepped, answer}
use Rattle.history_model.proofs.Allowed.{Allowed, Here, asked, judged, first_none, inside_none, some_there}

module _ {V N S : Type 0} (mn : Model NodeRow N) (mv : Model V S) where
  -- what is known of a call that nothing refuses, at the node's place with its record
  unfoldable pub May : Table N S → Call V → Place → NodeRow → Type 0
  May t (get p b) pl r = MayGet mn mv t p b pl r
  May t (put p b v) pl r = MayPut mn mv t p b pl r
  May t (swap p b v) pl r = MayGet mn mv t p b pl r
  May t (take p b) pl r = MayTake mn mv t p b pl r
  May t (add p b) pl r = MayAdd mn mv t p b pl r
  May t (plant p b v) pl r = MayPlant mn mv t p b pl r
  May t (drop p b) pl r = MayDrop mn mv t p b pl r
  May t (show p) pl r = way mn mv t p ≡ Some (pl, r)

  module _ (t : Table N S) (a : Agrees (mn.live t.nodes) (mv.live t.vals) t.root) where
    found : (p : Path) → (tree_in mn mv t).has p ≡ true → (x : Place × NodeRow) × (way mn mv t p ≡ Some (x.0, x.1))
    found p h = some_there (way mn mv t p) (descend_finds (mn.live t.nodes) top t.root p ∙ h)

    module _ (p : Path) (b : ℕ) (pl : Place) (r : NodeRow) (w : way mn mv t p ≡ Some (pl, r)) where
      here_at : (l : ℕ) → Here (tree_in mn mv t) p b l → Reached mn mv t p b l pl r
      here_at l h = reached mn mv t a p b pl r l h.path h.low w

      may_get : Here (tree_in mn mv t) p b 31 → is_some ((tree_in mn mv t).val p b) ≡ true → MayGet mn mv t p b pl r
      may_get h e = get_may mn mv t a p b pl r (here_at 31 h) (sym (value_bit (mn.live t.nodes) (mv.live t.vals) t.root a p pl r w b) ∙ e)

      counted : (ask : ℕ → Grant) → ask (value_count (tree_in mn mv t) p) ≡ None → ask (rank r.data_bitmap 32) ≡ None
      counted ask y = ap ask (sym (values_counted (mn.live t.nodes) (mv.live t.vals) t.root a p pl r w)) ∙ y

      children : (ask : ℕ → Grant) → ask (child_count (tree_in mn mv t) p) ≡ None → ask (rank r.child_bitmap 32) ≡ None
      children ask y = ap ask (sym (children_counted (mn.live t.nodes) (mv.live t.vals) t.root a p pl r w)) ∙ y

      may_put : Here (tree_in mn mv t) p b 31 → (tree_in mn mv t).val p b ≡ None → grows mv t.vals (value_count (tree_in mn mv t) p) ≡ None → MayPut mn mv t p b pl r
      may_put h e y = put_may mn mv t a p b pl r (here_at 31 h) (sym (value_bit (mn.live t.nodes) (mv.live t.vals) t.root a p pl r w b) ∙ ap is_some e) (counted (grows mv t.vals) y)

      may_take : Here (tree_in mn mv t) p b 31 → is_some ((tree_in mn mv t).val p b) ≡ true → shrinks mv t.vals (value_count (tree_in mn mv t) p) ≡ None → MayTake mn mv t p b pl r
      may_take h e y = take_may mn mv t a p b pl r (here_at 31 h) (may_get h e) (counted (shrinks mv t.vals) y)

      may_add : Here (tree_in mn mv t) p b 32 → length p < 25 → (tree_in mn mv t).has (p ++ b ∷ []) ≡ false → grows mn t.nodes (child_count (tree_in mn mv t) p) ≡ None → MayAdd mn mv t p b pl r
      may_add h l e y = add_may mn mv t a p b pl r (here_at 32 h) l (sym (child_bit (mn.live t.nodes) (mv.live t.vals) t.root a p pl r w b) ∙ e) (children (grows mn t.nodes) y)

      may_drop : Here (tree_in mn mv t) p b 32 → (tree_in mn mv t).has (p ++ b ∷ []) ≡ true → is_bare (tree_in mn mv t) (p ++ b ∷ []) ≡ true → shrinks mn t.nodes (child_count (tree_in mn mv t) p) ≡ None → MayDrop mn mv t p b pl r
      may_drop h e z y = at (child (mn.live t.nodes) r b) refl
        where
          at : (o : Option NodeRow) → child (mn.live t.nodes) r b ≡ o → MayDrop mn mv t p b pl r
          at None k = absurd (true≢false (sym e ∙ child_lost (mn.live t.nodes) (mv.live t.vals) t.root a p pl r w b k))
          at (Some gone) k =
              let not_full : ((gone.data_bitmap ≡ 0) × (gone.child_bitmap ≡ 0) → ⊥) → ⊥ = λ f. true≢false (sym z ∙ bare_not (mn.live t.nodes) (mv.live t.vals) t.root a (p ++ b ∷ []) gone (child_found (mn.live t.nodes) (mv.live t.vals) t.root a p pl r w b gone k) f) in
              elim (cases_eq gone.data_bitmap 0) [
                | inr n ↦ absurd (not_full (λ q. n q.0))
                | inl d ↦ elim (cases_eq gone.child_bitmap 0) [
                  | inr n ↦ absurd (not_full (λ q. n q.1))
                  | inl c ↦ drop_may mn mv t a p b pl r (here_at 32 h) gone k d c (children (shrinks mn t.nodes) y)
                ]
              ]

    pub may : (c : Call V) → refuses mn mv t c ≡ None → (x : Place × NodeRow) × May t c x.0 x.1
    unfolding May Allowed asked
    may (get p b) e =
        let j = judged (tree_in mn mv t) (get p b) (lists_in mn mv t) (lists_in mn mv t) e in
        let x = found p j.0.0.has in
        (x.0, may_get p b x.0.0 x.0.1 x.1 j.0.0 j.0.1)
    may (put p b v) e =
        let j = judged (tree_in mn mv t) (put p b v) (lists_in mn mv t) (lists_in mn mv t) e in
        let x = found p j.0.0.has in
        (x.0, may_put p b x.0.0 x.0.1 x.1 j.0.0 j.0.1 (inside_none 10 (grows mv t.vals (value_count (tree_in mn mv t) p)) j.1))
    may (swap p b v) e =
        let j = judged (tree_in mn mv t) (swap p b v) (lists_in mn mv t) (lists_in mn mv t) e in
        let x = found p j.0.0.has in
        (x.0, may_get p b x.0.0 x.0.1 x.1 j.0.0 j.0.1)
    may (take p b) e =
        let j = judged (tree_in mn mv t) (take p b) (lists_in mn mv t) (lists_in mn mv t) e in
        let x = found p j.0.0.has in
        (x.0, may_take p b x.0.0 x.0.1 x.1 j.0.0 j.0.1 (inside_none 10 (shrinks mv t.vals (value_count (tree_in mn mv t) p)) j.1))
    may (add p b) e =
        let j = judged (tree_in mn mv t) (add p b) (lists_in mn mv t) (lists_in mn mv t) e in
        let x = found p j.0.0.has in
        (x.0, may_add p b x.0.0 x.0.1 x.1 j.0.0 j.0.1 j.0.2 (inside_none 9 (grows mn t.nodes (child_count (tree_in mn mv t) p)) j.1))
    may (plant p b v) e =
        let j = judged (tree_in mn mv t) (plant p b v) (lists_in mn mv t) (lists_in mn mv t) e in
        let x = found p j.0.0.has in
        let g = first_none (inside 9 (grows mn t.nodes (child_count (tree_in mn mv t) p))) (inside 10 (grows mv t.vals 0)) j.1 in (
          x.0,
          record {
            passed = e;
            add = may_add p b x.0.0 x.0.1 x.1 j.0.0 j.0.1 j.0.2 (inside_none 9 (grows mn t.nodes (child_count (tree_in mn mv t) p)) g.0);
            granted = inside_none 10 (grows mv t.vals 0) g.1;
          },
        )
    may (drop p b) e =
        let j = judged (tree_in mn mv t) (drop p b) (lists_in mn mv t) (lists_in mn mv t) e in
        let x = found p j.0.0.has in
        (x.0, may_drop p b x.0.0 x.0.1 x.1 j.0.0 j.0.1 j.0.2 (inside_none 9 (shrinks mn t.nodes (child_count (tree_in mn mv t) p)) j.1))
    may (show p) e =
        let j = judged (tree_in mn mv t) (show p) (lists_in mn mv t) (lists_in mn mv t) e in
        found p j.0.1

module _ {V N S : Type 0} (mn : Model NodeRow N) (mv : Model V S) (kn kv : ℕ) (VN : N → Type 0) (VS : S → Type 0) (ln : Lawful mn kn VN) (lv : Lawful mv kv VS) where
  -- a call leads to a sound table that means the tree u
  abbrev Leads : Table N S → Tree V → Type 0
  Leads t u = Sound mn mv VN VS t × (tree_in mn mv t ≡ u)

  arrived : (why : Grant) (to here : Table N S) (u : Tree V) → Arrives mn mv VN VS why to u here → Leads to u
  arrived why to here u h = (subst (λ (x : Table N S). Sound mn mv VN VS x) (sym h.leads) h.sound, ap (tree_in mn mv) h.leads ∙ h.tree)

  led : (t : Table N S) → Sound mn mv VN VS t → (c : Call V) (pl : Place) (r : NodeRow) → May mn mv t c pl r → Leads (leads mn mv t c) (changed (tree_in mn mv t) c)
  unfolding May
  led t w (get p b) pl r m = (w, refl)
  led t w (put p b v) pl r m = arrived _ _ _ _ (put_arrives mn mv kn kv VN VS ln lv t w p b pl r v m)
  led t w (swap p b v) pl r m = arrived _ _ _ _ (swap_arrives mn mv kn kv VN VS ln lv t w p b pl r v m)
  led t w (take p b) pl r m = arrived _ _ _ _ (take_arrives mn mv kn kv VN VS ln lv t w p b pl r m)
  led t w (add p b) pl r m = arrived _ _ _ _ (add_arrives mn mv kn kv VN VS ln lv t w p b pl r m)
  led t w (plant p b v) pl r m = arrived _ _ _ _ (plant_arrives mn mv kn kv VN VS ln lv t w p b pl r v m)
  led t w (drop p b) pl r m = arrived _ _ _ _ (drop_arrives mn mv kn kv VN VS ln lv t w p b pl r m)
  led t w (show p) pl r m = (w, refl)

  pub step : (t : Table N S) → Sound mn mv VN VS t → (c : Call V) → Leads (stepped mn mv t c) (after (tree_in mn mv t) c (answer mn mv t c))
  step t w c = go (refuses mn mv t c) refl
    where
      go : (g : Grant) → refuses mn mv t c ≡ g → Leads (moved_on g t (leads mn mv t c)) (after (tree_in mn mv t) c (says g (out (tree_in mn mv t) (record_in mn mv t) c)))
      go (Some f) e = (w, refl)
      go None e = let m = may mn mv t w.agrees c e in led t w c m.0.0 m.0.1 m.1

  pub plain_of : (t : Table N S) → Sound mn mv VN VS t → Plain (tree_in mn mv t)
  plain_of t w = plain_law (mn.live t.nodes) (mv.live t.vals) t.root w.agrees
