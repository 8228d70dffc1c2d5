-- Put, take and swap: the data part of one record changes.
use Rattle.std.proofs.Common.{◌≡◌, ℕ, ◌+◌, ◌^◌, ◌<◌, ◌≤◌, false, cond, ◌&&◌, eqb, List, [], ◌∷◌, ◌++◌, length, set, Some, None, Option, sym, refl, ap, ◌∙◌, subst, inl, inr, arith, length-set}
use Rattle.std.proofs.lemmas.Bool.{cases_eq, cond-true, cond-false, eq-eqb, ne_eqb, and_from, and_left, and_right}
use Rattle.std.proofs.lemmas.List.{nil_from_length}
use Rattle.bitmap.specs.Ranks.{bit, rank}
use Rattle.bitmap.proofs.Ranks.{bit_past, set_nonzero, set_within, none_set, rank_up, rank_strict, rank_of_zero, added_high}
use Rattle.runs.specs.Lists.{empty, indexes, nth, with_new, without}
use Rattle.runs.specs.Runs.{total, Moved, Removing, ended, left}
use Rattle.table_model.proofs.Steps.{Written, PutLaw, TakeLaw, SwapLaw}
use Rattle.table_model.specs.Tree.{Path, same_path, with_val}
use Rattle.table_model.specs.Table.{then, is_some, entry, child, value, find, tree_of, Agrees}
use Rattle.runs.specs.declared.entry.NodeRow.{NodeRow}
use Rattle.table_model.specs.States.{with_data}
use Rattle.table_model.proofs.Counting.{tree_same}
use Rattle.table_model.proofs.Nths.{nth_in, length_new, length_without}
use Rattle.table_model.proofs.Paths.{eq_same, ne_same, cases_path}
use Rattle.table_model.proofs.Entries.{entry_set, entry_clear, new_here, new_other, less_here, less_other, other_here, other_other}
use Rattle.table_model.proofs.Finds.{find_snoc}
use Rattle.table_model.proofs.Holding.{none_live}
use Rattle.table_model.proofs.Moves.{moved_new, moved_in_place, unmoved, growing_moved, removing_moved, low_index, written_same, moved_total}
use Rattle.table_model.proofs.Rewriting.{Rewrite, agrees_after, has_after, val_here, val_else}

pub never : {A : Type 0} {x : A} {B : Type 0} → ◌≡◌ {A = Option A} None (Some x) → B
never e = absurd (let z : ◌≡◌ {A = ℕ} 0 1 = cc in omega arith)

-- The data part of the record at p becomes d, with the run ys at j.
pub record Revalue {V : Type 0} (nodes after : ℕ → List NodeRow) (vals vals2 : ℕ → List V) (root root2 : NodeRow) (p : Path) (r : NodeRow) (d j : ℕ) (ys : List V) : Type 0 where
  pub agrees : Agrees nodes vals root
  pub found : find nodes root p ≡ Some r
  pub fits : d < 2 ^ 31
  pub none : d ≡ 0 → j ≡ empty
  pub some : j ≡ empty → d ≡ 0
  pub count : length ys ≡ rank d 31
  pub moved : Moved vals r.data_index j ys vals2
  pub summed : total vals2 + length (vals r.data_index) ≡ total vals + length ys
  pub written : Written nodes root nodes p (with_data r d j) after root2

module _ {V : Type 0} (nodes after : ℕ → List NodeRow) (vals vals2 : ℕ → List V) (root root2 : NodeRow) (p : Path) (r : NodeRow) (d j : ℕ) (ys : List V) (h : Revalue nodes after vals vals2 root root2 p r d j ys) where
  past : bit r.child_bitmap 32 ≡ 0
  past = bit_past r.child_bitmap 32 (h.agrees.children.fits p r h.found)

  no_child : child nodes r 32 ≡ None
  no_child = entry_clear (nodes r.children_index) r.child_bitmap 32 past

  rewrite : Rewrite nodes nodes after vals vals2 root root2 p r (with_data r d j) 32 None (nodes r.children_index) ys
  rewrite = record {
    agrees = h.agrees;
    found = h.found;
    child_fits = h.agrees.children.fits p r h.found;
    child_none = h.agrees.children.none p r h.found;
    child_some = h.agrees.children.some p r h.found;
    child_count = h.agrees.children.full p r h.found;
    child_moved = unmoved nodes r.children_index;
    value_fits = h.fits;
    value_none = h.none;
    value_some = h.some;
    value_count = h.count;
    value_moved = h.moved;
    value_summed = h.summed;
    was = λ s e. never (sym no_child ∙ e);
    leaf = λ s e. never e;
    short = λ s e. never e;
    here = no_child;
    other = λ c n. refl;
    written = h.written;
  }

  pub revalued : Agrees after vals2 root2
  revalued = agrees_after nodes nodes after vals vals2 root root2 p r (with_data r d j) 32 None (nodes r.children_index) ys rewrite

  has_same : (q : Path) → is_some (find after root2 q) ≡ is_some (find nodes root q)
  has_same q = has_after nodes nodes after vals vals2 root root2 p r (with_data r d j) 32 None (nodes r.children_index) ys rewrite q ∙ elim (cases_path (p ++ 32 ∷ []) q) as (λ _. cond (same_path (p ++ 32 ∷ []) q) false (is_some (find nodes root q)) ≡ is_some (find nodes root q)) [
    | inl e ↦
        cond-true (same_path (p ++ 32 ∷ []) q) false (is_some (find nodes root q)) (eq_same (p ++ 32 ∷ []) q e)
        ∙ sym (ap is_some (ap (find nodes root) (sym e) ∙ find_snoc nodes root p 32 ∙ ap (λ (o : Option NodeRow). then o (λ (u : NodeRow). child nodes u 32)) h.found ∙ no_child))
    | inr n ↦ cond-false (same_path (p ++ 32 ∷ []) q) false (is_some (find nodes root q)) (ne_same (p ++ 32 ∷ []) q n)
  ]

  module _ (b : ℕ) (w : Option V) (here : entry ys d b ≡ w) (other : (c : ℕ) → (c ≡ b → ⊥) → entry ys d c ≡ value vals r c) where
    val_same : (q : Path) (c : ℕ) → then (find after root2 q) (λ s. value vals2 s c) ≡ cond (same_path p q && eqb b c) w (then (find nodes root q) (λ s. value vals s c))
    val_same q c = elim (cases_path p q) [
      | inl e ↦ val_here nodes nodes after vals vals2 root root2 p r (with_data r d j) 32 None (nodes r.children_index) ys rewrite q c e ∙ at_p e
      | inr n ↦
          val_else nodes nodes after vals vals2 root root2 p r (with_data r d j) 32 None (nodes r.children_index) ys rewrite q c n
          ∙ sym (cond-false (same_path p q && eqb b c) w (then (find nodes root q) (λ s. value vals s c)) (and_left (same_path p q) (eqb b c) (ne_same p q n)))
    ]
      where
        at_p : p ≡ q → entry ys d c ≡ cond (same_path p q && eqb b c) w (then (find nodes root q) (λ s. value vals s c))
        at_p e = elim (cases_eq c b) [
          | inl k ↦
              ap (entry ys d) k ∙ here
              ∙ sym (cond-true (same_path p q && eqb b c) w (then (find nodes root q) (λ s. value vals s c)) (and_from (same_path p q) (eqb b c) (eq_same p q e) (eq-eqb b c (sym k))))
          | inr k ↦
              other c k
              ∙ sym (ap (λ (o : Option NodeRow). then o (λ (s : NodeRow). value vals s c)) (ap (find nodes root) (sym e) ∙ h.found))
              ∙ sym (cond-false (same_path p q && eqb b c) w (then (find nodes root q) (λ s. value vals s c)) (and_right (same_path p q) (eqb b c) (ne_eqb b c (λ x. k (sym x)))))
        ]

    pub revalued_tree : tree_of after vals2 root2 ≡ with_val (tree_of nodes vals root) p b w
    revalued_tree = tree_same (tree_of after vals2 root2) (with_val (tree_of nodes vals root) p b w) has_same val_same

pub no_run : {V : Type 0} (nodes : ℕ → List NodeRow) (vals : ℕ → List V) (root : NodeRow) → Agrees nodes vals root → vals empty ≡ []
no_run nodes vals root a = nil_from_length (vals empty) (none_live 31 (λ s. s.data_bitmap) (λ s. s.data_index) (λ i. length (vals i)) (find nodes root) a.values)

pub put_law : {V : Type 0} → PutLaw V
put_law {V} nodes nodes2 vals vals2 root root2 p b v a h = (revalued nodes nodes2 vals vals2 root root2 p h.r h.bitmap h.index ys change, revalued_tree nodes nodes2 vals vals2 root root2 p h.r h.bitmap h.index ys change b (Some v) (new_here run h.r.data_bitmap h.bitmap b v h.added room) (new_other run h.r.data_bitmap h.bitmap b v h.added room))
  where
    run : List V
    run = vals h.r.data_index

    full : length run ≡ rank h.r.data_bitmap 31
    full = a.values.full p h.r h.found

    room : rank h.r.data_bitmap b ≤ length run
    room = omega (arith, full, rank_up h.r.data_bitmap b 31 (omega (arith, h.small)))

    ys : List V
    ys = with_new run (rank h.r.data_bitmap b) v

    first : h.r.data_index ≡ empty → rank h.r.data_bitmap b ≡ 0
    first e = ap (λ (m : ℕ). rank m b) (a.values.some p h.r h.found e) ∙ rank_of_zero b

    moved : Moved vals h.r.data_index h.index ys vals2
    moved = growing_moved vals h.r.data_index (rank h.r.data_bitmap b) v h.index vals2 (no_run nodes vals root a) first h.grown

    more : length ys ≡ length run + 1
    more = length_new run (rank h.r.data_bitmap b) v room

    there : h.index ≡ empty → ⊥
    there = low_index vals2 h.index h.low (omega (arith, more, ap length (moved_new vals h.r.data_index h.index ys vals2 moved)))

    change : Revalue nodes nodes2 vals vals2 root root2 p h.r h.bitmap h.index ys
    change = record {
      agrees = a;
      found = h.found;
      fits = h.fits;
      none = λ z. absurd (set_nonzero h.bitmap b h.added.here z);
      some = λ z. absurd (there z);
      count = more ∙ ap (λ (n : ℕ). n + 1) full ∙ sym (added_high h.r.data_bitmap h.bitmap b h.added 31 h.small);
      moved = moved;
      summed = moved_total vals h.r.data_index h.index ys vals2 h.low_before h.low moved;
      written = h.written;
    }

-- what a removal says of the index it answers
pub index_left : {E : Type 0} (before : ℕ → List E) (i k j : ℕ) (after : ℕ → List E) → ((n : ℕ) → indexes ≤ n → after n ≡ []) → k < length (before i) → before empty ≡ [] → Removing before i k j after → (d w : ℕ) → d < 2 ^ w → length (without (before i) k) ≡ rank d w → (d ≡ 0 → j ≡ empty) × (j ≡ empty → d ≡ 0)
index_left before i k j after low inside none (ended l ej is) d w fits count =
    (λ z. ej, λ z. none_set d w fits (omega (arith, count, length_without (before i) k inside)))
index_left before i k j after low inside none (left l m) d w fits count =
    let n = length_without (before i) k inside in
    let o = ap length (moved_new before i j (without (before i) k) after m) in
    (λ z. absurd (omega (arith, ap (λ (x : ℕ). rank x w) z, rank_of_zero w)), λ z. absurd (low_index after j low (omega arith) z))

pub take_law : {V : Type 0} → TakeLaw V
take_law {V} nodes nodes2 vals vals2 root root2 p b a h = (revalued nodes nodes2 vals vals2 root root2 p h.r h.bitmap h.index ys change, revalued_tree nodes nodes2 vals vals2 root root2 p h.r h.bitmap h.index ys change b None (less_here run h.r.data_bitmap h.bitmap b h.taken) (less_other run h.r.data_bitmap h.bitmap b h.taken inside))
  where
    run : List V
    run = vals h.r.data_index

    full : length run ≡ rank h.r.data_bitmap 31
    full = a.values.full p h.r h.found

    inside : rank h.r.data_bitmap b < length run
    inside = omega (arith, full, rank_strict h.r.data_bitmap b 31 h.taken.here h.small)

    ys : List V
    ys = without run (rank h.r.data_bitmap b)

    none : vals empty ≡ []
    none = no_run nodes vals root a

    moved : Moved vals h.r.data_index h.index ys vals2
    moved = removing_moved vals h.r.data_index (rank h.r.data_bitmap b) h.index vals2 none inside h.shrunk

    count : length ys ≡ rank h.bitmap 31
    count = omega (arith, length_without run (rank h.r.data_bitmap b) inside, full, added_high h.bitmap h.r.data_bitmap b h.taken 31 h.small)

    ends : (h.bitmap ≡ 0 → h.index ≡ empty) × (h.index ≡ empty → h.bitmap ≡ 0)
    ends = index_left vals h.r.data_index (rank h.r.data_bitmap b) h.index vals2 h.low inside none h.shrunk h.bitmap 31 h.fits count

    change : Revalue nodes nodes2 vals vals2 root root2 p h.r h.bitmap h.index ys
    change = record {
      agrees = a;
      found = h.found;
      fits = h.fits;
      none = ends.0;
      some = ends.1;
      count = count;
      moved = moved;
      summed = moved_total vals h.r.data_index h.index ys vals2 h.low_before h.low moved;
      written = h.written;
    }

pub swap_law : {V : Type 0} → SwapLaw V
swap_law {V} nodes vals vals2 root p b v a h = (revalued nodes nodes vals vals2 root root p h.r h.r.data_bitmap h.r.data_index ys change, revalued_tree nodes nodes vals vals2 root root p h.r h.r.data_bitmap h.r.data_index ys change b (Some v) (other_here run h.r.data_bitmap b v old.0 stood) (other_other run h.r.data_bitmap b v old.0 stood))
  where
    run : List V
    run = vals h.r.data_index

    ys : List V
    ys = set run (rank h.r.data_bitmap b) v

    full : length run ≡ rank h.r.data_bitmap 31
    full = a.values.full p h.r h.found

    within : b < 31
    within = set_within h.r.data_bitmap b 31 (a.values.fits p h.r h.found) h.here

    old : (e : V) × (nth run (rank h.r.data_bitmap b) ≡ Some e)
    old = nth_in run (rank h.r.data_bitmap b) (omega (arith, full, rank_strict h.r.data_bitmap b 31 h.here within))

    moved : Moved vals h.r.data_index h.r.data_index ys vals2
    moved = subst (λ (m : ℕ → List V). Moved vals h.r.data_index h.r.data_index ys m) (sym h.exchanged) (moved_in_place vals h.r.data_index ys)

    stood : entry run h.r.data_bitmap b ≡ Some old.0
    stood = entry_set run h.r.data_bitmap b h.here ∙ old.1

    change : Revalue nodes nodes vals vals2 root root p h.r h.r.data_bitmap h.r.data_index ys
    change = record {
      agrees = a;
      found = h.found;
      fits = a.values.fits p h.r h.found;
      none = a.values.none p h.r h.found;
      some = a.values.some p h.r h.found;
      count = length-set run (rank h.r.data_bitmap b) v ∙ full;
      moved = moved;
      summed = moved_total vals h.r.data_index h.r.data_index ys vals2 h.low_before h.low moved;
      written = written_same nodes root p h.r h.found;
    }
