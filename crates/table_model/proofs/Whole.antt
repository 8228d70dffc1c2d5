-- Start, plant, and what a node's record shows of the tree.
use Rattle.std.proofs.Common.{◌≡◌, ℕ, suc, ◌^◌, ◌<◌, Bool, true, cond, List, [], ◌∷◌, ◌++◌, length, Some, None, Option, sym, refl, ap, ◌∙◌, subst, arith}
use mathlib.Core.Path.{fun_ext}
use Rattle.std.proofs.lemmas.List.{length_push}
use Rattle.bitmap.specs.Ranks.{rank}
use Rattle.bitmap.proofs.Ranks.{bit_of_zero, rank_of_zero, set_within}
use Rattle.runs.specs.Lists.{empty, indexes}
use Rattle.runs.specs.Runs.{total}
use Rattle.runs.proofs.Counts.{tally_none}
use Rattle.table_model.specs.Tree.{Path, Tree, followed, same_path, bare, below, with_val}
use Rattle.table_model.specs.Table.{bare_row, then, is_some, entry, child, value, find, tree_of, Holds}
use Rattle.table_model.specs.Laws.{ShowLaw, PlainLaw, StopLaw}
use Rattle.table_model.proofs.Steps.{StartLaw, PlantLaw}
use Rattle.runs.specs.declared.entry.NodeRow.{NodeRow}
use Rattle.table_model.proofs.Entries.{entry_set, entry_some, entry_clear, entry_is}
use Rattle.table_model.proofs.Finds.{find_nil, find_snoc}
use Rattle.table_model.proofs.Holding.{some_same}
use Rattle.table_model.proofs.Counting.{tree_same, empty_walk}
use Rattle.table_model.proofs.Rewriting.{below_is}
use Rattle.table_model.proofs.Values.{never, put_law}
use Rattle.table_model.proofs.Children.{add_law}

none_set_entry : {E : Type 0} (xs : List E) (b : ℕ) → entry xs 0 b ≡ None
none_set_entry xs b = entry_clear xs 0 b (bit_of_zero b)

only_root : (nodes : ℕ → List NodeRow) (p : Path) (r : NodeRow) → find nodes bare_row p ≡ Some r → (p ≡ []) × (bare_row ≡ r)
unfolding find
only_root nodes [] r e = (refl, cc)
only_root nodes (b ∷ p) r e = never (sym (ap (λ (o : Option NodeRow). then o (λ (s : NodeRow). find nodes s p)) (none_set_entry (nodes empty) b)) ∙ e)

gone : (nodes : ℕ → List NodeRow) (b : ℕ) (p : Path) → find nodes bare_row (b ∷ p) ≡ None
unfolding find
gone nodes b p = ap (λ (o : Option NodeRow). then o (λ (s : NodeRow). find nodes s p)) (none_set_entry (nodes empty) b)

bare_holds : (w : ℕ) (bitmap index : NodeRow → ℕ) (len : ℕ → ℕ) (nodes : ℕ → List NodeRow) → 0 < 2 ^ w → bitmap bare_row ≡ 0 → index bare_row ≡ empty → ((i : ℕ) → len i ≡ 0) → Holds w bitmap index len (find nodes bare_row)
bare_holds w bitmap index len nodes pos bz ie z = record {
  fits = λ p r f. subst (λ (s : NodeRow). bitmap s < 2 ^ w) (only_root nodes p r f).1 (omega arith);
  none = λ p r f e. ap index (sym (only_root nodes p r f).1) ∙ ie;
  some = λ p r f e. ap bitmap (sym (only_root nodes p r f).1) ∙ bz;
  full = λ p r f. z (index r) ∙ sym (rank_of_zero w) ∙ ap (λ (m : ℕ). rank m w) (sym bz) ∙ ap (λ (s : NodeRow). rank (bitmap s) w) (only_root nodes p r f).1;
  apart = λ p q r s f g y x e. (only_root nodes p r f).0 ∙ sym (only_root nodes q s g).0;
  owned = λ i n. absurd (n (z i));
}

pub start_law : {V : Type 0} → StartLaw V
start_law {V} nodes vals nz vz = (
  record {
    children = bare_holds 32 (λ r. r.child_bitmap) (λ r. r.children_index) (λ i. length (nodes i)) nodes (omega arith) refl refl (λ i. ap length (nz i));
    values = bare_holds 31 (λ r. r.data_bitmap) (λ r. r.data_index) (λ i. length (vals i)) nodes (omega arith) refl refl (λ i. ap length (vz i));
    shallow = λ p r f. omega (arith, ap length (only_root nodes p r f).0);
    counted = empty_walk 25 (tree_of nodes vals bare_row) (vals_none []) (λ c. hass (c ∷ [])) ∙ sym (ap total (fun_ext vz) ∙ tally_none length indexes refl);
  },
  tree_same (tree_of nodes vals bare_row) bare hass vals_none,
)
  where
    hass : (q : Path) → is_some (find nodes bare_row q) ≡ same_path q []
    hass [] = ap is_some (find_nil nodes bare_row)
    hass (b ∷ q) = ap is_some (gone nodes b q)

    vals_none : (q : Path) (c : ℕ) → then (find nodes bare_row q) (λ s. value vals s c) ≡ None
    vals_none [] c = ap (λ (o : Option NodeRow). then o (λ (s : NodeRow). value vals s c)) (find_nil nodes bare_row) ∙ none_set_entry (vals empty) c
    vals_none (b ∷ q) c = ap (λ (o : Option NodeRow). then o (λ (s : NodeRow). value vals s c)) (gone nodes b q)

pub plant_law : {V : Type 0} → PlantLaw V
plant_law {V} nodes nodes2 vals vals2 root root2 p b v a h =
    let one = add_law nodes h.nodes_between vals root h.root_between p b a h.add in
    let two = put_law h.nodes_between nodes2 vals vals2 h.root_between root2 (p ++ b ∷ []) 0 v one.0 h.put in
    (two.0, two.1 ∙ ap (λ (t : Tree V). with_val t (p ++ b ∷ []) 0 (Some v)) one.1)

pub show_law : {V : Type 0} → ShowLaw V
unfolding find
show_law {V} nodes vals root p r a f = record {
  has = ap is_some f;
  value_bit = λ b. ap is_some (here b) ∙ entry_is (vals r.data_index) r.data_bitmap b 31 (a.values.fits p r f) (a.values.full p r f);
  child_bit = λ b. ap is_some (next b) ∙ entry_is (nodes r.children_index) r.child_bitmap b 32 (a.children.fits p r f) (a.children.full p r f);
  value_at = λ b o. here b ∙ entry_set (vals r.data_index) r.data_bitmap b o;
  child_at = λ b o. next b ∙ entry_set (nodes r.children_index) r.child_bitmap b o;
  below_it = λ b s e. tree_same (below (tree_of nodes vals r) b) (tree_of nodes vals s)
      (λ q. ap (λ (o : Option NodeRow). is_some (then o (λ (u : NodeRow). find nodes u q))) (sym (next b) ∙ e))
      (λ q c. ap (λ (o : Option NodeRow). then (then o (λ (u : NodeRow). find nodes u q)) (λ (u : NodeRow). value vals u c)) (sym (next b) ∙ e));
}
  where
    here : (b : ℕ) → then (find nodes root p) (λ s. value vals s b) ≡ value vals r b
    here b = ap (λ (o : Option NodeRow). then o (λ (s : NodeRow). value vals s b)) f

    next : (b : ℕ) → find nodes root (p ++ b ∷ []) ≡ child nodes r b
    next b = find_snoc nodes root p b ∙ ap (λ (o : Option NodeRow). then o (λ (s : NodeRow). child nodes s b)) f

pub some_of : {A : Type 0} (o : Option A) → is_some o ≡ true → (a : A) × (o ≡ Some a)
some_of None e = absurd (let z : ◌≡◌ {A = ℕ} 0 1 = cc in omega arith)
some_of (Some a) e = (a, refl)

then_of : {A B : Type 0} (o : Option A) (f : A → Option B) (b : B) → then o f ≡ Some b → (a : A) × (o ≡ Some a) × (f a ≡ Some b)
then_of None f b e = never e
then_of (Some a) f b e = (a, refl, e)

pub plain_law : {V : Type 0} → PlainLaw V
plain_law {V} nodes vals root a = record {
  rooted = ap is_some (find_nil nodes root);
  closed = λ p b e.
      let s = some_of (find nodes root (p ++ b ∷ [])) e in
      let q = then_of (find nodes root p) (λ (u : NodeRow). child nodes u b) s.0 (sym (find_snoc nodes root p b) ∙ s.1) in (
        ap is_some q.1,
        set_within q.0.child_bitmap b 32 (a.children.fits p q.0 q.1) (entry_some (nodes q.0.children_index) q.0.child_bitmap b s.0 q.2),
        omega (arith, a.shallow (p ++ b ∷ []) s.0 s.1, length_push p b),
      );
  valued = λ p b v e.
      let q = then_of (find nodes root p) (λ (u : NodeRow). value vals u b) v e in
      (ap is_some q.1, set_within q.0.data_bitmap b 31 (a.values.fits p q.0 q.1) (entry_some (vals q.0.data_index) q.0.data_bitmap b v q.2));
}

first_bit : (nodes : ℕ → List NodeRow) (r : NodeRow) (b : ℕ) → is_some (find nodes r (b ∷ [])) ≡ is_some (child nodes r b)
first_bit nodes r b = ap is_some (find_snoc nodes r [] b ∙ ap (λ (o : Option NodeRow). then o (λ (u : NodeRow). child nodes u b)) (find_nil nodes r))

count_of : {V : Type 0} (nodes : ℕ → List NodeRow) (vals : ℕ → List V) (root r : NodeRow) (q : Path) (b : ℕ) (p : Path) → find nodes root q ≡ Some r → child nodes r b ≡ None → followed (tree_of nodes vals root) (q ++ b ∷ p) ≡ length q
unfolding find
count_of {V} nodes vals root r [] b p f k =
    let e : root ≡ r = some_same (Some root) root r refl f in
    ap (λ (x : Bool). cond x (suc (followed (below (tree_of nodes vals root) b) p)) 0) (first_bit nodes root b ∙ ap (λ (u : NodeRow). is_some (child nodes u b)) e ∙ ap is_some k)
count_of {V} nodes vals root r (d ∷ q) b p f k =
    let s = then_of (child nodes root d) (λ (u : NodeRow). find nodes u q) r f in
    ap (λ (x : Bool). cond x (suc (followed (below (tree_of nodes vals root) d) (q ++ b ∷ p))) 0) (first_bit nodes root d ∙ ap is_some s.1)
    ∙ ap (λ (t : Tree V). suc (followed t (q ++ b ∷ p))) (below_is nodes vals root s.0 d s.1)
    ∙ ap suc (count_of nodes vals s.0 r q b p s.2 k)

missing_at : (nodes : ℕ → List NodeRow) (root r : NodeRow) (q : Path) (b : ℕ) (p : Path) → find nodes root q ≡ Some r → child nodes r b ≡ None → find nodes root (q ++ b ∷ p) ≡ None
unfolding find
missing_at nodes root r [] b p f k =
    let e : root ≡ r = some_same (Some root) root r refl f in
    ap (λ (o : Option NodeRow). then o (λ (u : NodeRow). find nodes u p)) (ap (λ (u : NodeRow). child nodes u b) e ∙ k)
missing_at nodes root r (d ∷ q) b p f k =
    let s = then_of (child nodes root d) (λ (u : NodeRow). find nodes u q) r f in
    ap (λ (o : Option NodeRow). then o (λ (u : NodeRow). find nodes u (q ++ b ∷ p))) s.1 ∙ missing_at nodes s.0 r q b p s.2 k

pub stop_law : {V : Type 0} → StopLaw V
stop_law nodes vals root r q b p f k = record { count = count_of nodes vals root r q b p f k; missing = ap is_some (missing_at nodes root r q b p f k) }
