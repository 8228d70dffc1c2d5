-- The three steps of a walk: begun, a value handed out, the next node visited.
use Rattle.std.proofs.Common.{◌≡◌, ℕ, zero, suc, ◌+◌, ◌-◌, ◌*◌, ◌/◌, ◌<◌, ◌≤◌, List, [], ◌∷◌, ◌++◌, length, Some, Option, sym, refl, ap, ◌∙◌, subst, length-append, arith}
use Rattle.std.proofs.lemmas.List.{append-nil, append_assoc}
use Rattle.bitmap.specs.Ranks.{rank}
use Rattle.bitmap.proofs.Ranks.{rank_strict, set_within}
use Rattle.runs.specs.Lists.{indexes, nth}
use Rattle.runs.specs.Runs.{tally}
use Rattle.runs.specs.declared.entry.NodeRow.{NodeRow}
use Rattle.runs.specs.declared.index.NodeIndex.{NodeIndex}
use Rattle.runs.specs.declared.store.Runs.{Ghosts}
use Rattle.runs.proofs.Known.{le_known, eq_known}
use Rattle.table_model.specs.Tree.{walk}
use Rattle.table_model.specs.Table.{value, Agrees, Passes}
use Rattle.table_model.proofs.Known.{known}
use Rattle.nodes.specs.Records.{row_of}
use Rattle.nodes.specs.declared.record.NodeRecord.{NodeRecord}
use Rattle.trunk.specs.declared.Trunk.{Trunk}
use Rattle.trunk.specs.declared.spot.Place.{Place}
use Rattle.trunk.specs.Meaning.{tree, Sound}
use Rattle.walk.specs.declared.stack.Stack.{Stack}
use Rattle.walk.specs.Places.{lasts, run_places}
use Rattle.walk.specs.Coming.{row_at, of_places, walk_of, own_of, live_nodes, live_values, tree_at, hand, rest}
use Rattle.walk.specs.Standing.{Below, Here, Standing, Ready, unseen}
use Rattle.walk.proofs.Lowest.{Lowest}
use Rattle.walk.proofs.Places.{lasts_low}
use Rattle.walk.proofs.Rising.{tree_by, own_some, unfolds, places_append, first_place, hand_some}
use Rattle.walk.proofs.Below.{root_below, own_passes, own_values, own_children}
use Rattle.walk.proofs.Standing.{standing_known, standing_first, standing_rest, has_room, stands}

-- a store's entries can be counted
tally_low : {E : Type 0} (live : ℕ → List E) → ((i : ℕ) → length (live i) ≤ 32) → (n : ℕ) → tally length live n ≤ 32 * n
unfolding tally
tally_low live h zero = omega arith
tally_low live h (suc n) = omega (arith, tally_low live h n, h n)

-- a row's walk, over places that follow
unfolds_over : {X : Type 0} (nodes : ℕ → List NodeRow) (f : NodeRow → ℕ → Option X) {V : Type 0} (vals : ℕ → List V) (e : ℕ) (r : NodeRow) (b : Below nodes vals e r) → e ≤ 25 → (a : NodeIndex) → a.number ≡ r.children_index → (ps : List Place) →
    walk_of (tree_by nodes f) r ++ of_places nodes (walk_of (tree_by nodes f)) ps ≡ own_of (tree_by nodes f) 0 r ++ of_places nodes (walk_of (tree_by nodes f)) (run_places a (rank r.child_bitmap 32) ++ ps)
unfolds_over {X} nodes f vals e r b l a same ps =
    ap (λ (xs : List (ℕ × X)). xs ++ of_places nodes (walk_of (tree_by nodes f)) ps) (unfolds nodes f r (own_children nodes vals e r b) (λ p s q. omega (arith, b.shallow p s q)) a same)
    ∙ append_assoc (own_of (tree_by nodes f) 0 r) (of_places nodes (walk_of (tree_by nodes f)) (run_places a (rank r.child_bitmap 32))) (of_places nodes (walk_of (tree_by nodes f)) ps)
    ∙ ap (λ (xs : List (ℕ × X)). own_of (tree_by nodes f) 0 r ++ xs) (sym (places_append nodes (walk_of (tree_by nodes f)) (run_places a (rank r.child_bitmap 32)) ps))

module _ {E In Ix N V : Type 0} (n : Ghosts N NodeRow In) (v : Ghosts V E Ix) where
  pub ready_known : (t : Trunk N V) (s : Stack) (node : NodeRecord) (next : ℕ) → ∥ Ready n v t s node next ∥₁ → Ready n v t s node next
  ready_known t s node next k = record {
    standing = standing_known (live_nodes n v t) (live_values n v t) (lasts s.places s.top) k (λ r. r.standing);
    full = eq_known k (λ r. r.full);
    within = le_known k (λ r. r.within);
    few = le_known k (λ r. r.few);
  }

  -- ---- a value is handed out

  module _ (t : Trunk N V) (s : Stack) (node : NodeRecord) (next : ℕ) (k : Ready n v t s node next) (c : ℕ) (low : Lowest node.data_bitmap next c) (up : next ≤ c) where
    pub small : c < 31
    small = set_within node.data_bitmap c 31 node.low low.here

    pub value_in : rank node.data_bitmap c < length (live_values n v t node.data_index.number)
    value_in = omega (arith, k.full, rank_strict node.data_bitmap c 31 low.here small)

    pub gave : (x : E) → nth (live_values n v t node.data_index.number) (rank node.data_bitmap c) ≡ Some x → hand n v t node next ≡ (c, x) ∷ hand n v t node (c + 1)
    gave x e = hand_some (live_nodes n v t) (live_values n v t) (row_of node) next c x up small low e

    pub ready_after : (x : E) → nth (live_values n v t node.data_index.number) (rank node.data_bitmap c) ≡ Some x → Ready n v t s node (c + 1)
    ready_after x e = record {
      standing = k.standing;
      full = k.full;
      within = omega (arith, small);
      few = omega (arith, k.few, ap (λ (xs : List (ℕ × E)). length (xs ++ rest n v t s)) (gave x e));
    }

  -- ---- the next node is visited

  module _ (t : Trunk N V) (s popped : Stack) (node : NodeRecord) (next : ℕ) (k : Ready n v t s node next) (p : Place) (pop : lasts s.places s.top ≡ p ∷ lasts popped.places popped.top) where
    here : Here (live_nodes n v t) (live_values n v t) (length (lasts popped.places popped.top)) p
    here = standing_first (live_nodes n v t) (live_values n v t) _ _ p pop k.standing

    pub inside : p.slot.number < length (live_nodes n v t p.run.number)
    inside = here.inside

    height : length (lasts popped.places popped.top) ≤ 775
    height = omega (arith, s.room, lasts_low s.places s.top, ap length pop)

    pub row_passes : (r : NodeRow) → row_at (live_nodes n v t) p ≡ Some r → Passes r
    row_passes r e = own_passes (live_nodes n v t) (live_values n v t) _ r (here.below r e)

    module _ (to : NodeRecord) (read : row_at (live_nodes n v t) p ≡ Some (row_of to)) where
      level : ℕ
      level = (744 + p.slot.number - length (lasts popped.places popped.top)) / 31

      below : Below (live_nodes n v t) (live_values n v t) level (row_of to)
      unfolding level
      below = here.below (row_of to) read

      level_is : level ≡ (744 + p.slot.number - length (lasts popped.places popped.top)) / 31
      unfolding level
      level_is = refl

      levels : level ≤ 25
      levels = omega (arith, level_is, here.low)

      pub room : length (lasts popped.places popped.top) + rank to.child_bitmap 32 ≤ 776
      room = has_room (live_nodes n v t) (live_values n v t) level p.slot.number (row_of to) below (lasts popped.places popped.top) level_is here.low height to.children_index refl

      module _ (pushed : Stack) (push : lasts pushed.places pushed.top ≡ run_places to.children_index (rank to.child_bitmap 32) ++ lasts popped.places popped.top) where
        order : {X : Type 0} (f : NodeRow → ℕ → Option X) →
            of_places (live_nodes n v t) (walk_of (tree_by (live_nodes n v t) f)) (lasts s.places s.top) ≡
            own_of (tree_by (live_nodes n v t) f) 0 (row_of to) ++ of_places (live_nodes n v t) (walk_of (tree_by (live_nodes n v t) f)) (lasts pushed.places pushed.top)
        order {X} f =
            let m = live_nodes n v t in
            ap (of_places m (walk_of (tree_by m f))) pop
            ∙ first_place m (walk_of (tree_by m f)) p (lasts popped.places popped.top) (row_of to) read
            ∙ unfolds_over m f (live_values n v t) level (row_of to) below levels to.children_index refl (lasts popped.places popped.top)
            ∙ ap (λ (ps : List Place). own_of (tree_by m f) 0 (row_of to) ++ of_places m (walk_of (tree_by m f)) ps) (sym push)

        pub visited : hand n v t node next ≡ [] → hand n v t to 0 ++ rest n v t pushed ≡ hand n v t node next ++ rest n v t s
        visited bare = sym (ap (λ (xs : List (ℕ × E)). xs ++ rest n v t s) bare ∙ order (value (live_values n v t)))

        pub fewer : length (unseen n v t pushed) < length (unseen n v t s)
        fewer =
            let m = live_nodes n v t in
            let mark : NodeRow → ℕ → Option NodeRow = λ r b. Some r in
            let one : own_of (tree_by m mark) 0 (row_of to) ≡ (0, row_of to) ∷ own_of (tree_by m mark) 1 (row_of to) = own_some m mark (row_of to) 0 0 (row_of to) (omega arith) (omega arith) (λ i a z. absurd (omega arith)) refl in
            omega (
              arith,
              ap length (order mark),
              ap length one,
              length-append (own_of (tree_by m mark) 0 (row_of to)) (of_places m (walk_of (tree_by m mark)) (lasts pushed.places pushed.top)),
            )

        pub ready_visited : hand n v t node next ≡ [] → Ready n v t pushed to 0
        ready_visited bare = record {
          standing = subst (λ (ps : List Place). Standing (live_nodes n v t) (live_values n v t) ps) (sym push)
              (stands (live_nodes n v t) (live_values n v t) level p.slot.number (row_of to) below (lasts popped.places popped.top) level_is here.low height to.children_index refl
              (standing_rest (live_nodes n v t) (live_values n v t) _ _ p pop k.standing));
          full = own_values (live_nodes n v t) (live_values n v t) level (row_of to) below;
          within = omega arith;
          few = omega (arith, k.few, ap length (visited bare));
        }

  pub ended : (t : Trunk N V) (s : Stack) (node : NodeRecord) (next : ℕ) → hand n v t node next ≡ [] → lasts s.places s.top ≡ [] → hand n v t node next ++ rest n v t s ≡ []
  unfolding of_places
  ended t s node next bare none =
      ap (λ (xs : List (ℕ × E)). xs ++ rest n v t s) bare
      ∙ ap (of_places (live_nodes n v t) (walk_of (tree_at n v t))) none

  -- ---- begun

  module _ (t : Trunk N V) (sound : Sound n v t) (empty : Stack) (none : lasts empty.places empty.top ≡ []) where
    agrees : Agrees (live_nodes n v t) (live_values n v t) (row_of t.root)
    agrees = known (live_nodes n v t) (live_values n v t) (row_of t.root) sound

    below_root : Below (live_nodes n v t) (live_values n v t) 25 (row_of t.root)
    below_root = root_below (live_nodes n v t) (live_values n v t) (row_of t.root) agrees

    at_root : 25 ≡ (744 + 31 - length (lasts empty.places empty.top)) / 31
    at_root = omega (arith, ap length none)

    low_root : length (lasts empty.places empty.top) ≤ 775
    low_root = omega (arith, ap length none)

    pub room_root : length (lasts empty.places empty.top) + rank t.root.child_bitmap 32 ≤ 776
    room_root = has_room (live_nodes n v t) (live_values n v t) 25 31 (row_of t.root) below_root (lasts empty.places empty.top) at_root (omega arith) low_root t.root.children_index refl

    module _ (pushed : Stack) (push : lasts pushed.places pushed.top ≡ run_places t.root.children_index (rank t.root.child_bitmap 32) ++ lasts empty.places empty.top) where
      pub begun : hand n v t t.root 0 ++ rest n v t pushed ≡ walk 25 (tree n v t)
      unfolding walk_of of_places
      begun =
          let m = live_nodes n v t in
          let f = value (live_values n v t) in
          ap (λ (ps : List Place). own_of (tree_by m f) 0 (row_of t.root) ++ of_places m (walk_of (tree_by m f)) ps) push
          ∙ sym (unfolds_over m f (live_values n v t) 25 (row_of t.root) below_root (omega arith) t.root.children_index refl (lasts empty.places empty.top))
          ∙ ap (λ (ps : List Place). walk_of (tree_by m f) (row_of t.root) ++ of_places m (walk_of (tree_by m f)) ps) none
          ∙ append-nil (walk_of (tree_by m f) (row_of t.root))

      pub ready_begun : ((i : ℕ) → length (live_values n v t i) ≤ 32) → Ready n v t pushed t.root 0
      unfolding Standing
      ready_begun short = record {
        standing = subst (λ (ps : List Place). Standing (live_nodes n v t) (live_values n v t) ps) (sym push)
            (stands (live_nodes n v t) (live_values n v t) 25 31 (row_of t.root) below_root (lasts empty.places empty.top) at_root (omega arith) low_root t.root.children_index refl
            (subst (λ (ps : List Place). Standing (live_nodes n v t) (live_values n v t) ps) (sym none) tt));
        full = own_values (live_nodes n v t) (live_values n v t) 25 (row_of t.root) below_root;
        within = omega arith;
        few = omega (arith, ap length begun, agrees.counted, tally_low (live_values n v t) short indexes);
      }
