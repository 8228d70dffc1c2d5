-- One record is written back, and at most one bare child of it comes or goes: what is found at every path afterwards.
use Rattle.std.proofs.Common.{◌≡◌, ℕ, cond, List, [], ◌∷◌, ◌++◌, length, set, Some, None, Option, sym, refl, ap, ◌∙◌, subst, inl, inr, arith}
use Rattle.std.proofs.lemmas.Bool.{cases_eq, cond-true, cond-false}
use Rattle.std.proofs.lemmas.List.{length_push}
use Rattle.bitmap.specs.Ranks.{bit, rank}
use Rattle.runs.specs.Lists.{at}
use Rattle.table_model.specs.Tree.{Path, same_path}
use Rattle.table_model.specs.Table.{bare_row, then, entry, child, find}
use Rattle.table_model.proofs.Steps.{Written, at_root, in_run}
use Rattle.runs.specs.declared.entry.NodeRow.{NodeRow}
use Rattle.bitmap.proofs.Ranks.{set_nonzero, bit_of_zero}
use Rattle.table_model.proofs.Nths.{at_here}
use Rattle.runs.proofs.Counts.{put_other}
use Rattle.table_model.proofs.Paths.{eq_same, ne_same, cases_path, longer, not_nil, init_same, last_same}
use Rattle.table_model.proofs.Entries.{entry_some, entry_clear, entry_same, other_here, other_other}
use Rattle.table_model.proofs.Finds.{find_nil, find_snoc, find_is}
use Rattle.table_model.proofs.Holding.{some_same}

-- the records after the change
unfoldable pub changed : (Path → Option NodeRow) → Path → ℕ → NodeRow → Option NodeRow → Path → Option NodeRow
changed found p b r new q = cond (same_path p q) (Some r) (cond (same_path (p ++ b ∷ []) q) new (found q))

module _ (found : Path → Option NodeRow) (p : Path) (b : ℕ) (r : NodeRow) (new : Option NodeRow) where
  pub changed_here : (q : Path) → p ≡ q → changed found p b r new q ≡ Some r
  unfolding changed
  changed_here q e = cond-true (same_path p q) (Some r) (cond (same_path (p ++ b ∷ []) q) new (found q)) (eq_same p q e)

  pub changed_leaf : (q : Path) → p ++ b ∷ [] ≡ q → changed found p b r new q ≡ new
  unfolding changed
  changed_leaf q e =
      cond-false (same_path p q) (Some r) (cond (same_path (p ++ b ∷ []) q) new (found q)) (ne_same p q (λ f. longer p b (e ∙ sym f)))
      ∙ cond-true (same_path (p ++ b ∷ []) q) new (found q) (eq_same (p ++ b ∷ []) q e)

  pub changed_else : (q : Path) → (p ≡ q → ⊥) → (p ++ b ∷ [] ≡ q → ⊥) → changed found p b r new q ≡ found q
  unfolding changed
  changed_else q n k =
      cond-false (same_path p q) (Some r) (cond (same_path (p ++ b ∷ []) q) new (found q)) (ne_same p q n)
      ∙ cond-false (same_path (p ++ b ∷ []) q) new (found q) (ne_same (p ++ b ∷ []) q k)

-- `nodes` before, `mid` when p's own child run has changed, `after` when its record is written back
pub record Change (nodes mid after : ℕ → List NodeRow) (root root2 : NodeRow) (p : Path) (r r2 : NodeRow) (b : ℕ) (new : Option NodeRow) : Type 0 where
  pub apart : (q t : Path) (s u : NodeRow) → find nodes root q ≡ Some s → find nodes root t ≡ Some u → (s.child_bitmap ≡ 0 → ⊥) → (u.child_bitmap ≡ 0 → ⊥) → s.children_index ≡ u.children_index → q ≡ t
  pub found : find nodes root p ≡ Some r
  pub keep : (q : Path) (s : NodeRow) → (q ≡ p → ⊥) → find nodes root q ≡ Some s → (s.child_bitmap ≡ 0 → ⊥) → mid s.children_index ≡ nodes s.children_index
  pub off : (q : Path) (s : NodeRow) → (q ≡ p → ⊥) → find nodes root q ≡ Some s → (s.child_bitmap ≡ 0 → ⊥) → s.children_index ≡ r2.children_index → ⊥
  pub was : (s : NodeRow) → child nodes r b ≡ Some s → s ≡ bare_row
  pub leaf : (s : NodeRow) → new ≡ Some s → s ≡ bare_row
  pub here : child mid r2 b ≡ new
  pub other : (c : ℕ) → (c ≡ b → ⊥) → child mid r2 c ≡ child nodes r c
  pub written : Written nodes root mid p r2 after root2

pub leaf_none : (m : ℕ → List NodeRow) (c : ℕ) (o : Option NodeRow) → ((s : NodeRow) → o ≡ Some s → s ≡ bare_row) → then o (λ s. child m s c) ≡ None
leaf_none m c None h = refl
leaf_none m c (Some s) h = entry_clear (m s.children_index) s.child_bitmap c (ap (λ (u : NodeRow). bit u.child_bitmap c) (h s refl) ∙ bit_of_zero c)

module _ (nodes mid after : ℕ → List NodeRow) (root root2 : NodeRow) (p : Path) (r r2 : NodeRow) (b : ℕ) (new : Option NodeRow) (h : Change nodes mid after root root2 p r r2 b new) where
  F : Path → Option NodeRow
  F q = find nodes root q

  G : Path → Option NodeRow
  G q = changed F p b r2 new q

  -- the entry of p in its parent's run
  stood : (q : Path) (c : ℕ) (s : NodeRow) → p ≡ q ++ c ∷ [] → find nodes root q ≡ Some s → child nodes s c ≡ Some r
  stood q c s e f =
      sym (ap (λ (o : Option NodeRow). then o (λ (u : NodeRow). child nodes u c)) f) ∙ sym (find_snoc nodes root q c) ∙ ap (find nodes root) (sym e) ∙ h.found

  parent : (q : Path) (c : ℕ) (s : NodeRow) → p ≡ q ++ c ∷ [] → find nodes root q ≡ Some s → s.child_bitmap ≡ 0 → ⊥
  parent q c s e f = set_nonzero s.child_bitmap c (entry_some (nodes s.children_index) s.child_bitmap c r (stood q c s e f))

  above : (q : Path) (c : ℕ) → p ≡ q ++ c ∷ [] → q ≡ p → ⊥
  above q c e f = longer q c (sym e ∙ sym f)

  -- the parent's run after the write
  run : (q : Path) (c : ℕ) (s : NodeRow) → p ≡ q ++ c ∷ [] → find nodes root q ≡ Some s → after ≡ at mid s.children_index (set (mid s.children_index) (rank s.child_bitmap c) r2) → after s.children_index ≡ set (nodes s.children_index) (rank s.child_bitmap c) r2
  run q c s e f em =
      ap (λ (m : ℕ → List NodeRow). m s.children_index) em
      ∙ at_here mid s.children_index s.children_index (set (mid s.children_index) (rank s.child_bitmap c) r2) refl
      ∙ ap (λ (xs : List NodeRow). set xs (rank s.child_bitmap c) r2) (h.keep q s (above q c e) f (parent q c s e f))

  elsewhere : (i : ℕ) (s : NodeRow) (c : ℕ) → after ≡ at mid s.children_index (set (mid s.children_index) (rank s.child_bitmap c) r2) → (i ≡ s.children_index → ⊥) → after i ≡ mid i
  elsewhere i s c em n = ap (λ (m : ℕ → List NodeRow). m i) em ∙ put_other mid s.children_index i (set (mid s.children_index) (rank s.child_bitmap c) r2) n

  begins : Written nodes root mid p r2 after root2 → G [] ≡ Some root2
  unfolding G F
  begins (at_root e er em) = changed_here F p b r2 new [] e ∙ ap (λ (s : NodeRow). Some s) (sym er)
  begins (in_run q c s e f er em) =
      changed_else F p b r2 new [] (λ n. not_nil q c (sym e ∙ n)) (not_nil p b) ∙ find_nil nodes root ∙ ap (λ (s : NodeRow). Some s) (sym er)

  -- the record written: its children
  own : Written nodes root mid p r2 after root2 → (c : ℕ) → child after r2 c ≡ child mid r2 c
  own (at_root e er em) c = ap (λ (m : ℕ → List NodeRow). child m r2 c) em
  own (in_run q d s e f er em) c =
      ap (λ (xs : List NodeRow). entry xs r2.child_bitmap c) (elsewhere r2.children_index s d em (λ n. h.off q s (above q d e) f (parent q d s e f) (sym n)))

  -- its place in its parent
  placed : Written nodes root mid p r2 after root2 → (q : Path) (c : ℕ) (s : NodeRow) → find nodes root q ≡ Some s → p ≡ q ++ c ∷ [] → child after s c ≡ Some r2
  placed (at_root e er em) q c s f k = absurd (not_nil q c (sym k ∙ e))
  placed (in_run q0 c0 s0 e f0 er em) q c s f k =
      let eq : q0 ≡ q = init_same q0 q c0 c (sym e ∙ k) in
      let ec : c0 ≡ c = last_same q0 q c0 c (sym e ∙ k) in
      let es : s0 ≡ s = some_same (find nodes root q) s0 s (ap (find nodes root) (sym eq) ∙ f0) f in
      let one : child after s0 c0 ≡ Some r2 =
      ap (λ (xs : List NodeRow). entry xs s0.child_bitmap c0) (run q0 c0 s0 e f0 em)
      ∙ other_here (nodes s0.children_index) s0.child_bitmap c0 r2 r (stood q0 c0 s0 e f0) in
      sym (ap (λ (u : NodeRow). child after u c) es) ∙ sym (ap (child after s0) ec) ∙ one

  -- every other place
  others : Written nodes root mid p r2 after root2 → (q : Path) (c : ℕ) (s : NodeRow) → (q ≡ p → ⊥) → find nodes root q ≡ Some s → (p ≡ q ++ c ∷ [] → ⊥) → child after s c ≡ child nodes s c
  others (at_root e er em) q c s n f k =
      entry_same (after s.children_index) (nodes s.children_index) s.child_bitmap c (λ z. ap (λ (m : ℕ → List NodeRow). m s.children_index) em ∙ h.keep q s n f z)
  others (in_run q0 c0 s0 e f0 er em) q c s n f k = elim (cases_path q0 q) [
    | inl eq ↦
        let es : s0 ≡ s = some_same (find nodes root q) s0 s (ap (find nodes root) (sym eq) ∙ f0) f in
        let ne : c ≡ c0 → ⊥ = λ (ec : c ≡ c0). k (e ∙ ap (λ (t : Path). t ++ c0 ∷ []) eq ∙ ap (λ (d : ℕ). q ++ d ∷ []) (sym ec)) in
        let one : child after s0 c ≡ child nodes s0 c =
        ap (λ (xs : List NodeRow). entry xs s0.child_bitmap c) (run q0 c0 s0 e f0 em)
        ∙ other_other (nodes s0.children_index) s0.child_bitmap c0 r2 r (stood q0 c0 s0 e f0) c ne in
        subst (λ (u : NodeRow). child after u c ≡ child nodes u c) es one
    | inr ne ↦
        entry_same (after s.children_index) (nodes s.children_index) s.child_bitmap c
        (λ z. elsewhere s.children_index s0 c0 em (λ i. ne (h.apart q0 q s0 s f0 f (parent q0 c0 s0 e f0) z (sym i))) ∙ h.keep q s n f z)
  ]

  -- one bit further
  at_p : (c : ℕ) → G (p ++ c ∷ []) ≡ child after r2 c
  unfolding G F
  at_p c = elim (cases_eq c b) [
    | inl e ↦
        changed_leaf F p b r2 new (p ++ c ∷ []) (ap (λ (d : ℕ). p ++ d ∷ []) (sym e))
        ∙ sym h.here ∙ ap (child mid r2) (sym e) ∙ sym (own h.written c)
    | inr n ↦
        changed_else F p b r2 new (p ++ c ∷ []) (λ e. longer p c (sym e)) (λ e. n (sym (last_same p p b c e)))
        ∙ find_snoc nodes root p c ∙ ap (λ (o : Option NodeRow). then o (λ (u : NodeRow). child nodes u c)) h.found
        ∙ sym (h.other c n) ∙ sym (own h.written c)
  ]

  below_leaf : (q : Path) (c : ℕ) → p ++ b ∷ [] ≡ q → G (q ++ c ∷ []) ≡ None
  unfolding G F
  below_leaf q c e =
      changed_else F p b r2 new (q ++ c ∷ []) two (λ k. longer p b (e ∙ sym (init_same p q b c k)))
      ∙ find_snoc nodes root q c
      ∙ ap (λ (t : Path). then (find nodes root t) (λ (u : NodeRow). child nodes u c)) (sym e)
      ∙ leaf_none nodes c (find nodes root (p ++ b ∷ [])) (λ s k. h.was s (sym (find_snoc nodes root p b ∙ ap (λ (o : Option NodeRow). then o (λ (u : NodeRow). child nodes u b)) h.found) ∙ k))
    where
      two : p ≡ q ++ c ∷ [] → ⊥
      two k = omega (arith, ap length k, ap length e, length_push q c, length_push p b)

  far : (q : Path) (c : ℕ) (o : Option NodeRow) → (p ≡ q → ⊥) → find nodes root q ≡ o → G (q ++ c ∷ []) ≡ then o (λ s. child after s c)
  unfolding G F
  far q c None n f =
      changed_else F p b r2 new (q ++ c ∷ []) lost (λ k. n (init_same p q b c k)) ∙ gone
    where
      gone : find nodes root (q ++ c ∷ []) ≡ None
      gone = find_snoc nodes root q c ∙ ap (λ (o : Option NodeRow). then o (λ (u : NodeRow). child nodes u c)) f

      lost : p ≡ q ++ c ∷ [] → ⊥
      lost k = let x = h.found in let y = ap (find nodes root) k in let z : ◌≡◌ {A = ℕ} 0 1 = cc gone in omega arith
  far q c (Some s) n f = elim (cases_path p (q ++ c ∷ [])) [
    | inl k ↦ changed_here F p b r2 new (q ++ c ∷ []) k ∙ sym (placed h.written q c s f k)
    | inr k ↦
        changed_else F p b r2 new (q ++ c ∷ []) k (λ e. n (init_same p q b c e))
        ∙ find_snoc nodes root q c ∙ ap (λ (o : Option NodeRow). then o (λ (u : NodeRow). child nodes u c)) f
        ∙ sym (others h.written q c s (λ e. n (sym e)) f k)
  ]

  steps : (q : Path) (c : ℕ) → G (q ++ c ∷ []) ≡ then (G q) (λ s. child after s c)
  unfolding G F
  steps q c = elim (cases_path p q) [
    | inl e ↦
        ap (λ (t : Path). G (t ++ c ∷ [])) (sym e) ∙ at_p c
        ∙ sym (ap (λ (o : Option NodeRow). then o (λ (s : NodeRow). child after s c)) (changed_here F p b r2 new q e))
    | inr n ↦ elim (cases_path (p ++ b ∷ []) q) [
      | inl e ↦
          below_leaf q c e
          ∙ sym (leaf_none after c new h.leaf)
          ∙ sym (ap (λ (o : Option NodeRow). then o (λ (s : NodeRow). child after s c)) (changed_leaf F p b r2 new q e))
      | inr k ↦
          far q c (find nodes root q) n refl
          ∙ sym (ap (λ (o : Option NodeRow). then o (λ (s : NodeRow). child after s c)) (changed_else F p b r2 new q n k))
    ]
  ]

  pub found_after : (q : Path) → find after root2 q ≡ changed (find nodes root) p b r2 new q
  unfolding G F
  found_after q = find_is after G steps root2 (begins h.written) q
