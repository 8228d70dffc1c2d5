-- That a table agrees with its stores is known by its type, which says only that it holds; here it is at hand again. The one part that is no
-- order and no equation, which node a live run is of, has one answer at most: no two nodes have the same run.
use Rattle.std.proofs.Common.{◌≡◌, ℕ, ◌≢◌, List, Some, None, Option, sym, refl, ◌∙◌}
use Rattle.std.proofs.Math.Logic.{∥∥₁_elim}
use Rattle.std.proofs.Props.{props}
use mathlib.Core.HLevel.{Σ_prop_path}
use Rattle.runs.specs.declared.entry.NodeRow.{NodeRow}
use Rattle.runs.proofs.Known.{le_known, eq_known}
use Rattle.table_model.specs.Tree.{Path}
use Rattle.table_model.specs.Table.{Holds, Agrees}

path_known : {P : Type 0} (p q : Path) → ∥ P ∥₁ → (P → p ≡ q) → p ≡ q
path_known p q t f = let one : IsProp (p ≡ q) = hlevel props in ∥∥₁_elim t one f

module _ {P : Type 0} (t : ∥ P ∥₁) (w : ℕ) (bitmap index : NodeRow → ℕ) (len : ℕ → ℕ) (found : Path → Option NodeRow) (f : P → Holds w bitmap index len found) where
  -- there is a record, and it has the run at i
  has_run : ℕ → Option NodeRow → Type 0
  has_run i None = ⊥
  has_run i (Some r) = (bitmap r ≢ 0) × (index r ≡ i)

  has_run_prop : (i : ℕ) (o : Option NodeRow) → IsProp (has_run i o)
  unfolding has_run
  has_run_prop i None = hlevel
  has_run_prop i (Some r) = hlevel props

  runs_at : (i : ℕ) (o : Option NodeRow) (r : NodeRow) → o ≡ Some r → (bitmap r ≢ 0) → index r ≡ i → has_run i o
  unfolding has_run
  runs_at i o r e a b = rw e (a, b)

  the_run : (i : ℕ) (p : Path) (o : Option NodeRow) → found p ≡ o → has_run i o → (r : NodeRow) × (found p ≡ Some r) × (bitmap r ≢ 0) × (index r ≡ i)
  unfolding has_run
  the_run i p None e h = absurd h
  the_run i p (Some r) e h = (r, e, h.0, h.1)

  apart : (p q : Path) (r s : NodeRow) → found p ≡ Some r → found q ≡ Some s → (bitmap r ≢ 0) → (bitmap s ≢ 0) → index r ≡ index s → p ≡ q
  apart p q r s a b x y e = path_known p q t (λ k. (f k).apart p q r s a b x y e)

  one_node : (i : ℕ) → IsProp ((p : Path) × has_run i (found p))
  one_node i x y =
      let a = the_run i x.0 (found x.0) refl x.1 in
      let b = the_run i y.0 (found y.0) refl y.1 in
      Σ_prop_path (λ p. has_run_prop i (found p)) (apart x.0 y.0 a.0 b.0 a.1 b.1 a.2 b.2 (a.3 ∙ sym b.3))

  pub holds_known : Holds w bitmap index len found
  holds_known = record {
    fits = λ p r e. le_known t (λ k. (f k).fits p r e);
    none = λ p r e z. eq_known t (λ k. (f k).none p r e z);
    some = λ p r e z. eq_known t (λ k. (f k).some p r e z);
    full = λ p r e. eq_known t (λ k. (f k).full p r e);
    apart = apart;
    owned = λ i h.
        let x = ∥∥₁_elim t (one_node i) (λ k. let o = (f k).owned i h in (o.0, runs_at i (found o.0) o.1 o.2 o.3 o.4)) in
        let r = the_run i x.0 (found x.0) refl x.1 in
        (x.0, r.0, r.1, r.2, r.3);
  }

pub known : {V : Type 0} (nodes : ℕ → List NodeRow) (vals : ℕ → List V) (root : NodeRow) → ∥ Agrees nodes vals root ∥₁ → Agrees nodes vals root
known nodes vals root t = record {
  children = holds_known t _ _ _ _ _ (λ a. a.children);
  values = holds_known t _ _ _ _ _ (λ a. a.values);
  shallow = λ p r e. le_known t (λ a. a.shallow p r e);
  counted = eq_known t (λ a. a.counted);
}
