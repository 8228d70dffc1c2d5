-- Over a history on two fresh tiered stores: claimed cells, and when a store is short of room.
use Rattle.std.proofs.Common.{◌≡◌, ℕ, zero, suc, ◌+◌, ◌-◌, ◌<◌, ◌≤◌, max, Bool, true, false, cond, [], ◌∷◌, ◌++◌, Some, None, sym, refl, ap, ◌∙◌, inl, inr, arith}
use mathlib.Core.Path.{fun_ext}
use Rattle.std.proofs.lemmas.Bool.{cases_eq}
use Rattle.runs.specs.Calls.{moved_on}
use Rattle.runs.specs.Refusals.{Grant}
use Rattle.runs.specs.Runs.{grows, shrinks}
use Rattle.runs.specs.declared.entry.NodeRow.{NodeRow}
use Rattle.tiered_model.specs.Tiered.{State, tiered}
use Rattle.tiered_model.specs.Groups.{Valid, standing, groups, cells_of}
use Rattle.tiered_model.specs.Laws.{Iff}
use Rattle.tiered_model.proofs.Lawful.{lawful}
use Rattle.table_model.specs.Tree.{Tree}
use Rattle.table_model.specs.Table.{is_some}
use Rattle.table_model.specs.Refusals.{first, inside, passing, value_count, child_count}
use Rattle.table_model.specs.States.{Table, tree_in, Sound}
use Rattle.history_model.specs.Calls.{Call, get, put, swap, take as taking, add, plant, drop, show, Lists, says, out, changed, after, lists_in, record_in, refuses, leads, stepped}
use Rattle.history_model.specs.Books.{in_group, value_groups, child_groups}
use Rattle.history_model.proofs.Allowed.{Allowed, asked, judged}
use Rattle.history_model.proofs.Moved.{Move, value_turn, child_turn, moves}
use Rattle.history_model.proofs.Steps.{may, step, plain_of}
use Rattle.history_model.proofs.Stores.{Told, granted, told_grows, told_shrinks, fits_grow, fits_shrink}
use Rattle.history_model.proofs.Turns.{goes}

-- ---- counts

passing_up : (f : ℕ → Bool) (n : ℕ) → passing f n ≤ n
unfolding passing
passing_up f zero = omega arith
passing_up f (suc n) = omega (arith, passing_up f n, one_up (f n))
  where
    one_up : (b : Bool) → cond {A = ℕ} b 1 0 ≤ 1
    one_up true = omega arith
    one_up false = omega arith

-- some number does not pass, or one does
passing_off : (f : ℕ → Bool) (b n : ℕ) → b < n → f b ≡ false → passing f n < n
unfolding passing
passing_off f b zero l e = absurd (omega arith)
passing_off f b (suc n) l e = elim (cases_eq b n) [
  | inl q ↦ omega (arith, passing_up f n, ap (λ (x : Bool). cond {A = ℕ} x 1 0) (ap f (sym q) ∙ e))
  | inr q ↦ omega (arith, passing_off f b n (omega arith) e, one_up (f n))
]
  where
    one_up : (b : Bool) → cond {A = ℕ} b 1 0 ≤ 1
    one_up true = omega arith
    one_up false = omega arith

passing_on : (f : ℕ → Bool) (b n : ℕ) → b < n → f b ≡ true → 1 ≤ passing f n
unfolding passing
passing_on f b zero l e = absurd (omega arith)
passing_on f b (suc n) l e = elim (cases_eq b n) [
  | inl q ↦ omega (arith, ap (λ (x : Bool). cond {A = ℕ} x 1 0) (ap f (sym q) ∙ e))
  | inr q ↦ omega (arith, passing_on f b n (omega arith) e)
]

-- ---- the state along a history

module _ {V : Type 0} (longest : ℕ) where
  abbrev pub means_of : Table (State NodeRow) (State V) → Tree V
  means_of t = tree_in (tiered 32) (tiered longest) t

  -- the groups that stand in each store are the tree's, and of each size so many have been made
  pub record Good (a b : ℕ) (t : Table (State NodeRow) (State V)) (node_most value_most : ℕ → ℕ) : Type 0 where
    pub sound : Sound (tiered 32) (tiered longest) (Valid 32) (Valid longest) t
    pub nodes : (z : ℕ) → standing 32 t.nodes z ≡ child_groups (means_of t) z
    pub values : (z : ℕ) → standing longest t.vals z ≡ value_groups longest (means_of t) z
    pub nodes_made : (z : ℕ) → groups 32 t.nodes z ≡ node_most z
    pub values_made : (z : ℕ) → groups longest t.vals z ≡ value_most z
    pub node_cells : t.nodes.cells ≡ a
    pub value_cells : t.vals.cells ≡ b

  abbrev pub with_children : (ℕ → ℕ) → Tree V → ℕ → ℕ
  with_children f u z = max (f z) (child_groups u z)

  abbrev pub with_values : (ℕ → ℕ) → Tree V → ℕ → ℕ
  with_values f u z = max (f z) (value_groups longest u z)

  module _ (la : 31 ≤ longest) (lb : longest ≤ 32) (a b : ℕ) (t : Table (State NodeRow) (State V)) (f g : ℕ → ℕ) (h : Good a b t f g) where
    -- the same state once more
    pub good_again : Good a b t (with_children f (means_of t)) (with_values g (means_of t))
    good_again = record {
      sound = h.sound;
      nodes = h.nodes;
      values = h.values;
      nodes_made = λ z. omega (arith, h.nodes_made z, h.nodes z);
      values_made = λ z. omega (arith, h.values_made z, h.values z);
      node_cells = h.node_cells;
      value_cells = h.value_cells;
    }

    pub good_step : (c : Call V) → Good a b (stepped (tiered 32) (tiered longest) t c) (with_children f (means_of (stepped (tiered 32) (tiered longest) t c))) (with_values g (means_of (stepped (tiered 32) (tiered longest) t c)))
    good_step c = go (refuses (tiered 32) (tiered longest) t c) refl (step (tiered 32) (tiered longest) 32 longest (Valid 32) (Valid longest) (lawful 32 (omega arith) (omega arith)) (lawful longest la lb) t h.sound c)
      where
        go : (k : Grant) → refuses (tiered 32) (tiered longest) t c ≡ k
            → Sound (tiered 32) (tiered longest) (Valid 32) (Valid longest) (moved_on k t (leads (tiered 32) (tiered longest) t c))
            × (means_of (moved_on k t (leads (tiered 32) (tiered longest) t c)) ≡ after (means_of t) c (says k (out (means_of t) (record_in (tiered 32) (tiered longest) t) c)))
            → Good a b (moved_on k t (leads (tiered 32) (tiered longest) t c)) (with_children f (means_of (moved_on k t (leads (tiered 32) (tiered longest) t c)))) (with_values g (means_of (moved_on k t (leads (tiered 32) (tiered longest) t c))))
        go (Some why) e s = good_again
        go None e s =
            let u : Table (State NodeRow) (State V) = leads (tiered 32) (tiered longest) t c in
            let m = may (tiered 32) (tiered longest) t h.sound.agrees c e in
            let w = goes longest la lb t h.sound c m.0.0 m.0.1 m.1 in
            let j = judged (means_of t) c (lists_in (tiered 32) (tiered longest) t) (lists_in (tiered 32) (tiered longest) t) e in
            let v = moves (means_of t) (plain_of (tiered 32) (tiered longest) 32 longest (Valid 32) (Valid longest) (lawful 32 (omega arith) (omega arith)) (lawful longest la lb) t h.sound) (record_in (tiered 32) (tiered longest) t) c j.0 in
            let kids : (z : ℕ) → standing 32 u.nodes z ≡ child_groups (means_of u) z = λ z. omega (arith, w.0.turned z, v.child_runs z, h.nodes z, ap (λ (x : Tree V). child_groups x z) s.1) in
            let vals : (z : ℕ) → standing longest u.vals z ≡ value_groups longest (means_of u) z = λ z. omega (arith, w.1.turned z, v.value_runs longest z, h.values z, ap (λ (x : Tree V). value_groups longest x z) s.1) in
            record {
              sound = s.0;
              nodes = kids;
              values = vals;
              nodes_made = λ z. omega (arith, w.0.most z, h.nodes_made z, kids z);
              values_made = λ z. omega (arith, w.1.most z, h.values_made z, vals z);
              node_cells = w.0.cells ∙ h.node_cells;
              value_cells = w.1.cells ∙ h.value_cells;
            }

-- ---- what is asked of the stores, one after the other

alone : (g : Grant) → g ≡ first g None
alone None = refl
alone (Some f) = refl

module _ {V : Type 0} where
  unfoldable pub node_asked : Tree V → Lists → Call V → Grant
  node_asked t l (get p b) = None
  node_asked t l (put p b v) = None
  node_asked t l (swap p b v) = None
  node_asked t l (taking p b) = None
  node_asked t l (add p b) = l.grow_nodes (child_count t p)
  node_asked t l (plant p b v) = l.grow_nodes (child_count t p)
  node_asked t l (drop p b) = l.shrink_nodes (child_count t p)
  node_asked t l (show p) = None

  unfoldable pub value_asked : Tree V → Lists → Call V → Grant
  value_asked t l (get p b) = None
  value_asked t l (put p b v) = l.grow_values (value_count t p)
  value_asked t l (swap p b v) = None
  value_asked t l (taking p b) = l.shrink_values (value_count t p)
  value_asked t l (add p b) = None
  value_asked t l (plant p b v) = l.grow_values 0
  value_asked t l (drop p b) = None
  value_asked t l (show p) = None

  pub asked_is : (t : Tree V) (l : Lists) (c : Call V) → asked t l c ≡ first (inside 9 (node_asked t l c)) (inside 10 (value_asked t l c))
  unfolding asked node_asked value_asked
  asked_is t l (get p b) = refl
  asked_is t l (put p b v) = refl
  asked_is t l (swap p b v) = refl
  asked_is t l (taking p b) = refl
  asked_is t l (add p b) = alone (inside 9 (l.grow_nodes (child_count t p)))
  asked_is t l (plant p b v) = refl
  asked_is t l (drop p b) = alone (inside 9 (l.shrink_nodes (child_count t p)))
  asked_is t l (show p) = refl

module _ {V : Type 0} (longest : ℕ) where
  -- ---- the answers of each store, and the sums

  abbrev pub node_sum : Table (State NodeRow) (State V) → Call V → ℕ
  node_sum t c = cells_of 32 (λ z. max (groups 32 t.nodes z) (child_groups (changed (means_of longest t) c) z))

  abbrev pub value_sum : Table (State NodeRow) (State V) → Call V → ℕ
  value_sum t c = cells_of longest (λ z. max (groups longest t.vals z) (value_groups longest (changed (means_of longest t) c) z))

  module _ (la : 31 ≤ longest) (lb : longest ≤ 32) (a b : ℕ) (t : Table (State NodeRow) (State V)) (f g : ℕ → ℕ) (h : Good longest a b t f g) where
    abbrev pub tree : Tree V
    tree = means_of longest t

    abbrev pub lists : Lists
    lists = lists_in (tiered 32) (tiered longest) t

    abbrev pub NodeSide : Call V → Type 0
    NodeSide c = Told (node_asked tree lists c) × Iff (node_asked tree lists c ≡ None) (node_sum t c ≤ t.nodes.cells)

    abbrev pub ValueSide : Call V → Type 0
    ValueSide c = Told (value_asked tree lists c) × Iff (value_asked tree lists c ≡ None) (value_sum t c ≤ t.vals.cells)

    -- groups that stand as before fit as before
    nodes_fit : (c : Call V) → ((z : ℕ) → child_groups (changed tree c) z ≡ child_groups tree z) → node_sum t c ≤ t.nodes.cells
    nodes_fit c e =
        let same : node_sum t c ≡ t.nodes.claimed = ap (cells_of 32) (fun_ext (λ z. omega (arith, e z, h.nodes z))) ∙ sym h.sound.nodes_valid.tiles in
        omega (arith, same, h.sound.nodes_valid.enough)

    values_fit : (c : Call V) → ((z : ℕ) → value_groups longest (changed tree c) z ≡ value_groups longest tree z) → value_sum t c ≤ t.vals.cells
    values_fit c e =
        let same : value_sum t c ≡ t.vals.claimed = ap (cells_of longest) (fun_ext (λ z. omega (arith, e z, h.values z))) ∙ sym h.sound.vals_valid.tiles in
        omega (arith, same, h.sound.vals_valid.enough)

    module _ (c : Call V) (m : Move tree (record_in (tiered 32) (tiered longest) t) c) where
      nodes_still : node_asked tree lists c ≡ None → child_turn tree c ≡ (0, 0) → NodeSide c
      nodes_still y k =
          let fit : node_sum t c ≤ t.nodes.cells = nodes_fit c (λ z. omega (arith, m.child_runs z, ap (λ (x : ℕ × ℕ). in_group 32 z x.0) k, ap (λ (x : ℕ × ℕ). in_group 32 z x.1) k)) in
          (granted y, (λ _. fit, λ _. y))

      values_still : value_asked tree lists c ≡ None → value_turn tree c ≡ (0, 0) → ValueSide c
      values_still y k =
          let fit : value_sum t c ≤ t.vals.cells = values_fit c (λ z. omega (arith, m.value_runs longest z, ap (λ (x : ℕ × ℕ). in_group longest z x.0) k, ap (λ (x : ℕ × ℕ). in_group longest z x.1) k)) in
          (granted y, (λ _. fit, λ _. y))

      nodes_grow : (n : ℕ) → n < 32 → node_asked tree lists c ≡ grows (tiered 32) t.nodes n → child_turn tree c ≡ (n, n + 1) → NodeSide c
      nodes_grow n l y k =
          let goes : (z : ℕ) → child_groups (changed tree c) z + in_group 32 z n ≡ standing 32 t.nodes z + in_group 32 z (n + 1) = λ z. omega (arith, m.child_runs z, h.nodes z, ap (λ (x : ℕ × ℕ). in_group 32 z x.0) k, ap (λ (x : ℕ × ℕ). in_group 32 z x.1) k) in
          rw y (told_grows 32 (omega arith) (omega arith) t.nodes n l, fits_grow 32 (omega arith) (omega arith) t.nodes h.sound.nodes_valid (λ z. child_groups (changed tree c) z) n l goes)

      nodes_shrink : (n : ℕ) → 1 ≤ n → n ≤ 32 → node_asked tree lists c ≡ shrinks (tiered 32) t.nodes n → child_turn tree c ≡ (n, n - 1) → NodeSide c
      nodes_shrink n l u y k =
          let goes : (z : ℕ) → child_groups (changed tree c) z + in_group 32 z n ≡ standing 32 t.nodes z + in_group 32 z (n - 1) = λ z. omega (arith, m.child_runs z, h.nodes z, ap (λ (x : ℕ × ℕ). in_group 32 z x.0) k, ap (λ (x : ℕ × ℕ). in_group 32 z x.1) k) in
          rw y (told_shrinks 32 (omega arith) (omega arith) t.nodes n l u, fits_shrink 32 (omega arith) (omega arith) t.nodes h.sound.nodes_valid (λ z. child_groups (changed tree c) z) n l u goes)

      values_grow : (n : ℕ) → n < longest → value_asked tree lists c ≡ grows (tiered longest) t.vals n → value_turn tree c ≡ (n, n + 1) → ValueSide c
      values_grow n l y k =
          let goes : (z : ℕ) → value_groups longest (changed tree c) z + in_group longest z n ≡ standing longest t.vals z + in_group longest z (n + 1) = λ z. omega (arith, m.value_runs longest z, h.values z, ap (λ (x : ℕ × ℕ). in_group longest z x.0) k, ap (λ (x : ℕ × ℕ). in_group longest z x.1) k) in
          rw y (told_grows longest la lb t.vals n l, fits_grow longest la lb t.vals h.sound.vals_valid (λ z. value_groups longest (changed tree c) z) n l goes)

      values_shrink : (n : ℕ) → 1 ≤ n → n ≤ longest → value_asked tree lists c ≡ shrinks (tiered longest) t.vals n → value_turn tree c ≡ (n, n - 1) → ValueSide c
      values_shrink n l u y k =
          let goes : (z : ℕ) → value_groups longest (changed tree c) z + in_group longest z n ≡ standing longest t.vals z + in_group longest z (n - 1) = λ z. omega (arith, m.value_runs longest z, h.values z, ap (λ (x : ℕ × ℕ). in_group longest z x.0) k, ap (λ (x : ℕ × ℕ). in_group longest z x.1) k) in
          rw y (told_shrinks longest la lb t.vals n l u, fits_shrink longest la lb t.vals h.sound.vals_valid (λ z. value_groups longest (changed tree c) z) n l u goes)

    pub sides : (c : Call V) → Allowed tree c → Move tree (record_in (tiered 32) (tiered longest) t) c → NodeSide c × ValueSide c
    unfolding Allowed node_asked value_asked child_turn value_turn
    sides (get p b) w m = (nodes_still (get p b) m refl refl, values_still (get p b) m refl refl)
    sides (put p b v) w m = (
      nodes_still (put p b v) m refl refl,
      values_grow (put p b v) m (value_count tree p) (let l = passing_off (λ c. is_some (tree.val p c)) b 31 w.0.low (ap is_some w.1) in omega arith) refl refl,
    )
    sides (swap p b v) w m = (nodes_still (swap p b v) m refl refl, values_still (swap p b v) m refl refl)
    sides (taking p b) w m = (
      nodes_still (taking p b) m refl refl,
      values_shrink (taking p b) m (value_count tree p) (passing_on (λ c. is_some (tree.val p c)) b 31 w.0.low w.1) (let l = passing_up (λ c. is_some (tree.val p c)) 31 in omega arith) refl refl,
    )
    sides (add p b) w m = (
      nodes_grow (add p b) m (child_count tree p) (passing_off (λ c. tree.has (p ++ c ∷ [])) b 32 w.0.low w.2) refl refl,
      values_still (add p b) m refl refl,
    )
    sides (plant p b v) w m = (
      nodes_grow (plant p b v) m (child_count tree p) (passing_off (λ c. tree.has (p ++ c ∷ [])) b 32 w.0.low w.2) refl refl,
      values_grow (plant p b v) m 0 (omega arith) refl refl,
    )
    sides (drop p b) w m = (
      nodes_shrink (drop p b) m (child_count tree p) (passing_on (λ c. tree.has (p ++ c ∷ [])) b 32 w.0.low w.1) (passing_up (λ c. tree.has (p ++ c ∷ [])) 32) refl refl,
      values_still (drop p b) m refl refl,
    )
    sides (show p) w m = (nodes_still (show p) m refl refl, values_still (show p) m refl refl)
