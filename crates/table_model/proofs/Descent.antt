-- One step of the descent.
use Rattle.std.proofs.Common.{◌≡◌, ℕ, ◌+◌, ◌<◌, Bool, false, not, List, [], ◌∷◌, ◌++◌, length, get_or, take, drop, Some, None, Option, sym, ap, ◌∙◌, arith, take-append-drop}
use Rattle.std.proofs.lemmas.List.{take_more, drop_more, length-take-le}
use Rattle.bitmap.specs.Ranks.{rank}
use Rattle.runs.specs.Refusals.{refusal}
use Rattle.runs.specs.declared.entry.NodeRow.{NodeRow}
use Rattle.table_model.specs.Tree.{Path, followed}
use Rattle.table_model.specs.Table.{then, child, tree_of}
use Rattle.table_model.specs.Refusals.{when, no_node}
use Rattle.table_model.specs.States.{Place, top, slot, descend}
use Rattle.table_model.proofs.States.{descend_snoc}
use Rattle.table_model.proofs.Nodes.{way_find}
use Rattle.table_model.proofs.Whole.{stop_law}

module _ {V : Type 0} (nodes : ℕ → List NodeRow) (vals : ℕ → List V) (root : NodeRow) (p : Path) (i : ℕ) (pl : Place) (r : NodeRow) (way : descend nodes top root (take i p) ≡ Some (pl, r)) (within : i < length p) where
  -- the record read for the next bit is the next one on the way
  pub way_next : (x : NodeRow) → child nodes r (get_or p i 0) ≡ Some x → descend nodes top root (take (i + 1) p) ≡ Some (slot r.children_index (rank r.child_bitmap (get_or p i 0)), x)
  way_next x c =
      let b : ℕ = get_or p i 0 in
      ap (descend nodes top root) (take_more p i 0 within) ∙ descend_snoc nodes top root (take i p) b
      ∙ ap (λ (o : Option NodeRow). then {B = Place × NodeRow} o (λ (s : NodeRow). then {B = Place × NodeRow} (child nodes s b) (λ (u : NodeRow). Some (slot s.children_index (rank s.child_bitmap b), u)))) (way_find nodes root (take i p) pl r way)
      ∙ ap (λ (o : Option NodeRow). then {B = Place × NodeRow} o (λ (u : NodeRow). Some (slot r.children_index (rank r.child_bitmap b), u))) c

  -- where there is none, the count of bits followed is told
  pub way_ends : child nodes r (get_or p i 0) ≡ None → no_node (tree_of nodes vals root) p ≡ Some (refusal 4 (i ∷ []))
  way_ends c =
      let b : ℕ = get_or p i 0 in
      let s = stop_law nodes vals root r (take i p) b (drop (i + 1) p) (way_find nodes root (take i p) pl r way) c in
      let e : take i p ++ b ∷ drop (i + 1) p ≡ p = ap (λ (q : Path). take i p ++ q) (sym (drop_more p i 0 within)) ∙ take-append-drop i p in
      let none : (tree_of nodes vals root).has p ≡ false = ap (tree_of nodes vals root).has (sym e) ∙ s.missing in
      let many : followed (tree_of nodes vals root) p ≡ i = ap (followed (tree_of nodes vals root)) (sym e) ∙ s.count ∙ length-take-le i p (omega arith) in
      ap (λ (h : Bool). when (not h) (refusal 4 (followed (tree_of nodes vals root) p ∷ []))) none ∙ ap (λ (k : ℕ). Some (refusal 4 (k ∷ []))) many
