-- Add and drop: the child part of one record changes, and a bare child comes or goes.
use Rattle.std.proofs.Common.{◌≡◌, ℕ, ◌+◌, ◌^◌, ◌<◌, ◌≤◌, true, List, [], ◌∷◌, ◌++◌, length, Some, None, Option, sym, refl, ap, ◌∙◌, inl, inr, arith}
use Rattle.std.proofs.lemmas.List.{nil_from_length}
use Rattle.bitmap.specs.Ranks.{rank}
use Rattle.bitmap.proofs.Ranks.{set_nonzero, rank_up, rank_strict, rank_of_zero, added_high}
use Rattle.runs.specs.Lists.{empty, with_new, without}
use Rattle.runs.specs.Runs.{Moved}
use Rattle.table_model.proofs.Steps.{Written, Add, AddLaw, DropLaw}
use Rattle.table_model.specs.Tree.{Path, with_path}
use Rattle.table_model.specs.Table.{bare_row, then, is_some, entry, child, value, find, tree_of, Agrees}
use Rattle.runs.specs.declared.entry.NodeRow.{NodeRow}
use Rattle.table_model.specs.States.{with_children}
use Rattle.table_model.proofs.Counting.{tree_same}
use Rattle.table_model.proofs.Nths.{length_new, length_without}
use Rattle.table_model.proofs.Paths.{cases_path}
use Rattle.table_model.proofs.Entries.{entry_clear, new_here, new_other, less_here, less_other}
use Rattle.table_model.proofs.Finds.{find_snoc}
use Rattle.table_model.proofs.Holding.{none_live, some_same}
use Rattle.table_model.proofs.Moves.{moved_new, unmoved, growing_moved, removing_moved, low_index}
use Rattle.table_model.proofs.Rewriting.{Rewrite, agrees_after, has_after, val_here, val_else, finds_here, finds_leaf}
use Rattle.table_model.proofs.Values.{never, index_left}

-- The child part of the record at p becomes d, with the run xs at j in `mid`; at bit b there is `new`.
pub record Rechild {V : Type 0} (nodes mid after : ℕ → List NodeRow) (vals : ℕ → List V) (root root2 : NodeRow) (p : Path) (r : NodeRow) (d j b : ℕ) (new : Option NodeRow) (xs : List NodeRow) : Type 0 where
  pub agrees : Agrees nodes vals root
  pub found : find nodes root p ≡ Some r
  pub fits : d < 2 ^ 32
  pub none : d ≡ 0 → j ≡ empty
  pub some : j ≡ empty → d ≡ 0
  pub count : length xs ≡ rank d 32
  pub moved : Moved nodes r.children_index j xs mid
  pub was : (s : NodeRow) → child nodes r b ≡ Some s → s ≡ bare_row
  pub leaf : (s : NodeRow) → new ≡ Some s → s ≡ bare_row
  pub short : (s : NodeRow) → new ≡ Some s → length p < 25
  pub here : entry xs d b ≡ new
  pub other : (c : ℕ) → (c ≡ b → ⊥) → entry xs d c ≡ child nodes r c
  pub written : Written nodes root mid p (with_children r d j) after root2

module _ {V : Type 0} (nodes mid after : ℕ → List NodeRow) (vals : ℕ → List V) (root root2 : NodeRow) (p : Path) (r : NodeRow) (d j b : ℕ) (new : Option NodeRow) (xs : List NodeRow) (h : Rechild nodes mid after vals root root2 p r d j b new xs) where
  rewrite : Rewrite nodes mid after vals vals root root2 p r (with_children r d j) b new xs (vals r.data_index)
  rewrite = record {
    agrees = h.agrees;
    found = h.found;
    child_fits = h.fits;
    child_none = h.none;
    child_some = h.some;
    child_count = h.count;
    child_moved = h.moved;
    value_fits = h.agrees.values.fits p r h.found;
    value_none = h.agrees.values.none p r h.found;
    value_some = h.agrees.values.some p r h.found;
    value_count = h.agrees.values.full p r h.found;
    value_moved = unmoved vals r.data_index;
    value_summed = refl;
    was = h.was;
    leaf = h.leaf;
    short = h.short;
    here = h.here;
    other = h.other;
    written = h.written;
  }

  pub rechilded : Agrees after vals root2
  rechilded = agrees_after nodes mid after vals vals root root2 p r (with_children r d j) b new xs (vals r.data_index) rewrite

  -- the record and the child at bit b, as they stand now
  pub rechilded_at : find after root2 p ≡ Some (with_children r d j)
  rechilded_at = finds_here nodes mid after vals vals root root2 p r (with_children r d j) b new xs (vals r.data_index) rewrite p refl

  pub rechilded_child : child after (with_children r d j) b ≡ new
  rechilded_child =
      sym (find_snoc after root2 p b ∙ ap (λ (o : Option NodeRow). then o (λ (u : NodeRow). child after u b)) rechilded_at)
      ∙ finds_leaf nodes mid after vals vals root root2 p r (with_children r d j) b new xs (vals r.data_index) rewrite (p ++ b ∷ []) refl

  val_same : (q : Path) (c : ℕ) → then (find after root2 q) (λ s. value vals s c) ≡ then (find nodes root q) (λ s. value vals s c)
  val_same q c = elim (cases_path p q) [
    | inl e ↦
        val_here nodes mid after vals vals root root2 p r (with_children r d j) b new xs (vals r.data_index) rewrite q c e
        ∙ sym (ap (λ (o : Option NodeRow). then o (λ (s : NodeRow). value vals s c)) (ap (find nodes root) (sym e) ∙ h.found))
    | inr n ↦ val_else nodes mid after vals vals root root2 p r (with_children r d j) b new xs (vals r.data_index) rewrite q c n
  ]

  pub rechilded_tree : tree_of after vals root2 ≡ with_path (tree_of nodes vals root) (p ++ b ∷ []) (is_some new)
  rechilded_tree = tree_same (tree_of after vals root2) (with_path (tree_of nodes vals root) (p ++ b ∷ []) (is_some new)) (has_after nodes mid after vals vals root root2 p r (with_children r d j) b new xs (vals r.data_index) rewrite) val_same

pub no_node_run : {V : Type 0} (nodes : ℕ → List NodeRow) (vals : ℕ → List V) (root : NodeRow) → Agrees nodes vals root → nodes empty ≡ []
no_node_run nodes vals root a = nil_from_length (nodes empty) (none_live 32 (λ s. s.child_bitmap) (λ s. s.children_index) (λ i. length (nodes i)) (find nodes root) a.children)

module _ {V : Type 0} (nodes nodes2 : ℕ → List NodeRow) (vals : ℕ → List V) (root root2 : NodeRow) (p : Path) (b : ℕ) (a : Agrees nodes vals root) (h : Add nodes root p b nodes2 root2) where
  new_run : List NodeRow
  new_run = with_new (nodes h.r.children_index) (rank h.r.child_bitmap b) bare_row

  adding : Rechild nodes h.mid nodes2 vals root root2 p h.r h.bitmap h.index b (Some bare_row) new_run
  unfolding new_run
  adding = record {
    agrees = a;
    found = h.found;
    fits = h.fits;
    none = λ z. absurd (set_nonzero h.bitmap b h.added.here z);
    some = λ z. absurd (there z);
    count = more ∙ ap (λ (n : ℕ). n + 1) full ∙ sym (added_high h.r.child_bitmap h.bitmap b h.added 32 h.small);
    moved = moved;
    was = λ s e. never (sym (entry_clear run h.r.child_bitmap b h.added.clear) ∙ e);
    leaf = λ s e. cc;
    short = λ s e. h.short;
    here = new_here run h.r.child_bitmap h.bitmap b bare_row h.added room;
    other = new_other run h.r.child_bitmap h.bitmap b bare_row h.added room;
    written = h.written;
  }
    where
      run : List NodeRow
      run = nodes h.r.children_index

      full : length run ≡ rank h.r.child_bitmap 32
      full = a.children.full p h.r h.found

      room : rank h.r.child_bitmap b ≤ length run
      room = omega (arith, full, rank_up h.r.child_bitmap b 32 (omega (arith, h.small)))

      first : h.r.children_index ≡ empty → rank h.r.child_bitmap b ≡ 0
      first e = ap (λ (m : ℕ). rank m b) (a.children.some p h.r h.found e) ∙ rank_of_zero b

      moved : Moved nodes h.r.children_index h.index (with_new run (rank h.r.child_bitmap b) bare_row) h.mid
      moved = growing_moved nodes h.r.children_index (rank h.r.child_bitmap b) bare_row h.index h.mid (no_node_run nodes vals root a) first h.grown

      more : length (with_new run (rank h.r.child_bitmap b) bare_row) ≡ length run + 1
      more = length_new run (rank h.r.child_bitmap b) bare_row room

      there : h.index ≡ empty → ⊥
      there = low_index h.mid h.index h.low (omega (arith, more, ap length (moved_new nodes h.r.children_index h.index (with_new run (rank h.r.child_bitmap b) bare_row) h.mid moved)))

  pub added_at : find nodes2 root2 p ≡ Some (with_children h.r h.bitmap h.index)
  added_at = rechilded_at nodes h.mid nodes2 vals root root2 p h.r h.bitmap h.index b (Some bare_row) new_run adding

  pub added_child : child nodes2 (with_children h.r h.bitmap h.index) b ≡ Some bare_row
  added_child = rechilded_child nodes h.mid nodes2 vals root root2 p h.r h.bitmap h.index b (Some bare_row) new_run adding

  pub added_law : Agrees nodes2 vals root2 × (tree_of nodes2 vals root2 ≡ with_path (tree_of nodes vals root) (p ++ b ∷ []) true)
  added_law = (rechilded nodes h.mid nodes2 vals root root2 p h.r h.bitmap h.index b (Some bare_row) new_run adding, rechilded_tree nodes h.mid nodes2 vals root root2 p h.r h.bitmap h.index b (Some bare_row) new_run adding)

pub add_law : {V : Type 0} → AddLaw V
add_law nodes nodes2 vals root root2 p b a h = added_law nodes nodes2 vals root root2 p b a h

pub row_same : (r s : NodeRow) → r.data_bitmap ≡ s.data_bitmap → r.child_bitmap ≡ s.child_bitmap → r.data_index ≡ s.data_index → r.children_index ≡ s.children_index → r ≡ s
row_same r s a b c d = λ i. record { data_bitmap = a i; child_bitmap = b i; data_index = c i; children_index = d i }

pub drop_law : {V : Type 0} → DropLaw V
drop_law {V} nodes nodes2 vals root root2 p b a h = (rechilded nodes h.mid nodes2 vals root root2 p h.r h.bitmap h.index b None xs change, rechilded_tree nodes h.mid nodes2 vals root root2 p h.r h.bitmap h.index b None xs change)
  where
    run : List NodeRow
    run = nodes h.r.children_index

    full : length run ≡ rank h.r.child_bitmap 32
    full = a.children.full p h.r h.found

    inside : rank h.r.child_bitmap b < length run
    inside = omega (arith, full, rank_strict h.r.child_bitmap b 32 h.taken.here h.small)

    xs : List NodeRow
    xs = without run (rank h.r.child_bitmap b)

    none : nodes empty ≡ []
    none = no_node_run nodes vals root a

    moved : Moved nodes h.r.children_index h.index xs h.mid
    moved = removing_moved nodes h.r.children_index (rank h.r.child_bitmap b) h.index h.mid none inside h.shrunk

    count : length xs ≡ rank h.bitmap 32
    count = omega (arith, length_without run (rank h.r.child_bitmap b) inside, full, added_high h.bitmap h.r.child_bitmap b h.taken 32 h.small)

    ends : (h.bitmap ≡ 0 → h.index ≡ empty) × (h.index ≡ empty → h.bitmap ≡ 0)
    ends = index_left nodes h.r.children_index (rank h.r.child_bitmap b) h.index h.mid h.low inside none h.shrunk h.bitmap 32 h.fits count

    bare : h.gone ≡ bare_row
    bare = row_same h.gone bare_row h.no_value h.no_child (a.values.none (p ++ b ∷ []) h.gone h.stood h.no_value) (a.children.none (p ++ b ∷ []) h.gone h.stood h.no_child)

    stands : child nodes h.r b ≡ Some h.gone
    stands = sym (ap (λ (o : Option NodeRow). then o (λ (u : NodeRow). child nodes u b)) h.found) ∙ sym (find_snoc nodes root p b) ∙ h.stood

    change : Rechild nodes h.mid nodes2 vals root root2 p h.r h.bitmap h.index b None xs
    change = record {
      agrees = a;
      found = h.found;
      fits = h.fits;
      none = ends.0;
      some = ends.1;
      count = count;
      moved = moved;
      was = λ s e. some_same (child nodes h.r b) s h.gone e stands ∙ bare;
      leaf = λ s e. never e;
      short = λ s e. never e;
      here = less_here run h.r.child_bitmap h.bitmap b h.taken;
      other = less_other run h.r.child_bitmap h.bitmap b h.taken inside;
      written = h.written;
    }
