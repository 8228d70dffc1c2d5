-- States put together from what the steps of a call leave.
use Rattle.std.proofs.Common.{◌≡◌, ℕ, refl, ap, ◌∙◌}
use Rattle.bitmap.specs.Ranks.{rank, with_bit, without_bit}
use Rattle.runs.specs.Runs.{Model}
use Rattle.runs.specs.declared.entry.NodeRow.{NodeRow}
use Rattle.table_model.specs.Table.{bare_row}
use Rattle.table_model.specs.States.{Place, slot, Table, with_data, with_children, child_run, written_nodes, written_root, put_at, take_at, add_at, plant_at, drop_at}

pub states_are : {N S : Type 0} (n1 n2 : N) (v1 v2 : S) (r1 r2 : NodeRow) → n1 ≡ n2 → v1 ≡ v2 → r1 ≡ r2 → ◌≡◌ {A = Table N S} (record { nodes = n1; vals = v1; root = r1 }) (record { nodes = n2; vals = v2; root = r2 })
states_are n1 n2 v1 v2 r1 r2 a b c = λ i. record { nodes = a i; vals = b i; root = c i }

module _ {V N S : Type 0} (mn : Model NodeRow N) (mv : Model V S) (t : Table N S) (pl : Place) (r : NodeRow) (b : ℕ) where
  -- the data part is d now, with its run at j
  data_part : S → ℕ → ℕ → Table N S
  data_part s d j = record { nodes = written_nodes mn t.nodes pl (with_data r d j); vals = s; root = written_root t.root pl (with_data r d j) }

  pub take_is : (n1 : N) (v1 : S) (r1 : NodeRow) (d j : ℕ) → d ≡ without_bit r.data_bitmap b →
      v1 ≡ mv.removed t.vals r.data_index (rank r.data_bitmap b) → j ≡ mv.removed_at t.vals r.data_index (rank r.data_bitmap b) →
      n1 ≡ written_nodes mn t.nodes pl (with_data r d j) → r1 ≡ written_root t.root pl (with_data r d j) →
      record { nodes = n1; vals = v1; root = r1 } ≡ take_at mn mv t pl r b
  unfolding data_part
  take_is n1 v1 r1 d j ed ev ej en er =
      states_are n1 _ v1 _ r1 _ en ev er
      ∙ ap (λ (k : ℕ). data_part (mv.removed t.vals r.data_index (rank r.data_bitmap b)) k j) ed
      ∙ ap (data_part (mv.removed t.vals r.data_index (rank r.data_bitmap b)) (without_bit r.data_bitmap b)) ej

  -- the child part is d now, with its run at j in the node store n
  child_part : N → ℕ → ℕ → Table N S
  child_part n d j = record { nodes = written_nodes mn n pl (with_children r d j); vals = t.vals; root = written_root t.root pl (with_children r d j) }

  pub drop_is : (n0 n1 : N) (v1 : S) (r1 : NodeRow) (d j : ℕ) → d ≡ without_bit r.child_bitmap b →
      n0 ≡ mn.removed t.nodes r.children_index (rank r.child_bitmap b) → j ≡ mn.removed_at t.nodes r.children_index (rank r.child_bitmap b) → v1 ≡ t.vals →
      n1 ≡ written_nodes mn n0 pl (with_children r d j) → r1 ≡ written_root t.root pl (with_children r d j) →
      record { nodes = n1; vals = v1; root = r1 } ≡ drop_at mn mv t pl r b
  unfolding child_part
  drop_is n0 n1 v1 r1 d j ed e0 ej ev en er =
      states_are n1 _ v1 _ r1 _ en ev er ∙ ap (λ (k : ℕ). child_part n0 k j) ed
      ∙ ap (child_part n0 (without_bit r.child_bitmap b)) ej
      ∙ ap (λ (n : N). child_part n (without_bit r.child_bitmap b) (mn.removed_at t.nodes r.children_index (rank r.child_bitmap b))) e0

  -- a value put where the new child stands
  pub plant_is : (x : V) (t1 t2 : Table N S) (kid : Place) (row : NodeRow) → t1 ≡ add_at mn mv t pl r b →
      kid ≡ slot (child_run mn t.nodes r b).1 (rank (with_bit r.child_bitmap b) b) → row ≡ bare_row →
      t2 ≡ put_at mn mv t1 kid row 0 x → t2 ≡ plant_at mn mv t pl r b x
  plant_is x t1 t2 kid row e1 ek er e2 =
      e2 ∙ ap (λ (y : Table N S). put_at mn mv y kid row 0 x) e1 ∙ ap (λ (q : Place). put_at mn mv (add_at mn mv t pl r b) q row 0 x) ek
      ∙ ap (λ (y : NodeRow). put_at mn mv (add_at mn mv t pl r b) (slot (child_run mn t.nodes r b).1 (rank (with_bit r.child_bitmap b) b)) y 0 x) er

-- the root that a step leaves
module _ {V N S : Type 0} (mn : Model NodeRow N) (mv : Model V S) (t : Table N S) (pl : Place) (r : NodeRow) (b : ℕ) where
  pub take_root : (d j : ℕ) → d ≡ without_bit r.data_bitmap b → j ≡ mv.removed_at t.vals r.data_index (rank r.data_bitmap b) →
      written_root t.root pl (with_data r d j) ≡ (take_at mn mv t pl r b).root
  take_root d j ed ej = ap (λ (s : Table N S). s.root) (take_is mn mv t pl r b (written_nodes mn t.nodes pl (with_data r d j)) _ (written_root t.root pl (with_data r d j)) d j ed refl ej refl refl)

  pub drop_root : (d j : ℕ) → d ≡ without_bit r.child_bitmap b → j ≡ mn.removed_at t.nodes r.children_index (rank r.child_bitmap b) →
      written_root t.root pl (with_children r d j) ≡ (drop_at mn mv t pl r b).root
  drop_root d j ed ej = ap (λ (s : Table N S). s.root) (drop_is mn mv t pl r b _ (written_nodes mn _ pl (with_children r d j)) t.vals (written_root t.root pl (with_children r d j)) d j ed refl ej refl refl refl)
