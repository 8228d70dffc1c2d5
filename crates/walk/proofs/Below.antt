-- All below a row, one level down; and that it is so may only be known.
use Rattle.std.proofs.Common.{◌≡◌, ℕ, suc, ◌-◌, ◌≤◌, List, [], ◌∷◌, length, Some, arith}
use Rattle.bitmap.specs.Ranks.{rank}
use Rattle.runs.specs.declared.entry.NodeRow.{NodeRow}
use Rattle.runs.proofs.Known.{le_known, eq_known}
use Rattle.table_model.specs.Table.{child, Agrees, Passes}
use Rattle.table_model.proofs.Finds.{find_nil}
use Rattle.table_model.proofs.Nodes.{row_passes}
use Rattle.walk.specs.Standing.{Below}
use Rattle.walk.proofs.Rising.{find_child}

passes_known : {P : Type 0} (r : NodeRow) → ∥ P ∥₁ → (P → Passes r) → Passes r
passes_known r t f = record {
  low = le_known t (λ k. (f k).low);
  data_tied = (λ z. eq_known t (λ k. (f k).data_tied.0 z), λ z. eq_known t (λ k. (f k).data_tied.1 z));
  children_tied = (λ z. eq_known t (λ k. (f k).children_tied.0 z), λ z. eq_known t (λ k. (f k).children_tied.1 z));
}

module _ {V : Type 0} (nodes : ℕ → List NodeRow) (vals : ℕ → List V) where
  pub below_known : {P : Type 0} (e : ℕ) (r : NodeRow) → ∥ P ∥₁ → (P → Below nodes vals e r) → Below nodes vals e r
  below_known e r t f = record {
    passes = λ p s q. passes_known s t (λ k. (f k).passes p s q);
    children = λ p s q. eq_known t (λ k. (f k).children p s q);
    values = λ p s q. eq_known t (λ k. (f k).values p s q);
    shallow = λ p s q. le_known t (λ k. (f k).shallow p s q);
  }

  -- a table's root has all its nodes below it
  pub root_below : (root : NodeRow) → Agrees nodes vals root → Below nodes vals 25 root
  root_below root a = record {
    passes = λ p s q. row_passes nodes vals root a p s q;
    children = λ p s q. a.children.full p s q;
    values = λ p s q. a.values.full p s q;
    shallow = a.shallow;
  }

  pub wider : (e h : ℕ) (r : NodeRow) → e ≤ h → Below nodes vals e r → Below nodes vals h r
  wider e h r l k = record { passes = k.passes; children = k.children; values = k.values; shallow = λ p s q. omega (arith, k.shallow p s q) }

  -- a child has one level less
  pub child_below : (e : ℕ) (r : NodeRow) (b : ℕ) (s : NodeRow) → Below nodes vals e r → child nodes r b ≡ Some s → Below nodes vals (e - 1) s
  child_below e r b s k c = record {
    passes = λ p u q. k.passes (b ∷ p) u (find_child nodes r b s p u c q);
    children = λ p u q. k.children (b ∷ p) u (find_child nodes r b s p u c q);
    values = λ p u q. k.values (b ∷ p) u (find_child nodes r b s p u c q);
    shallow = λ p u q. let l : suc (length p) ≤ e = k.shallow (b ∷ p) u (find_child nodes r b s p u c q) in omega arith;
  }

  -- where there is a child there is a level
  pub some_level : (e : ℕ) (r : NodeRow) (b : ℕ) (s : NodeRow) → Below nodes vals e r → child nodes r b ≡ Some s → 1 ≤ e
  some_level e r b s k c = k.shallow (b ∷ []) s (find_child nodes r b s [] s c (find_nil nodes s))

  module _ (e : ℕ) (r : NodeRow) (k : Below nodes vals e r) where
    pub own_passes : Passes r
    own_passes = k.passes [] r (find_nil nodes r)

    pub own_children : length (nodes r.children_index) ≡ rank r.child_bitmap 32
    own_children = k.children [] r (find_nil nodes r)

    pub own_values : length (vals r.data_index) ≡ rank r.data_bitmap 31
    own_values = k.values [] r (find_nil nodes r)
