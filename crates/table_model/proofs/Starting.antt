-- Stores with no live run.
use Rattle.std.proofs.Common.{◌≡◌, ℕ, zero, suc, ◌<◌, List, [], ◌∷◌, refl, ap, ◌∙◌, inl, inr, arith}
use Rattle.std.proofs.lemmas.Bool.{cases_lt, cases_eq}
use Rattle.runs.specs.Lists.{indexes}
use Rattle.runs.specs.Runs.{Model, Lawful, tally, one_run, count}
use Rattle.runs.specs.declared.entry.NodeRow.{NodeRow}
use Rattle.table_model.specs.Table.{bare_row}
use Rattle.table_model.specs.Tree.{bare}
use Rattle.table_model.specs.States.{tree_in, Sound}
use Rattle.table_model.proofs.Whole.{start_law}

none_here : {E : Type 0} (xs : List E) → one_run xs ≡ 0 → xs ≡ []
none_here [] e = refl
none_here (x ∷ xs) e = absurd (omega arith)

-- none counted below n is none live below n
none_below : {E : Type 0} (live : ℕ → List E) (n : ℕ) → tally one_run live n ≡ 0 → (i : ℕ) → i < n → live i ≡ []
unfolding tally
none_below live zero e i l = absurd (omega arith)
none_below live (suc n) e i l = elim (cases_eq i n) [
  | inl same ↦ ap live same ∙ none_here (live n) (omega arith)
  | inr other ↦ none_below live n (omega arith) i (omega arith)
]

pub none_live : {E S : Type 0} (m : Model E S) (longest : ℕ) (Valid : S → Type 0) → Lawful m longest Valid → (s : S) → Valid s → count (m.live s) ≡ 0 → (i : ℕ) → m.live s i ≡ []
none_live m longest Valid law s valid e i = elim (cases_lt i indexes) [
  | inl l ↦ none_below (m.live s) indexes e i l
  | inr l ↦ law.low s i valid l
]

module _ {V N S : Type 0} (mn : Model NodeRow N) (mv : Model V S) (kn kv : ℕ) (VN : N → Type 0) (VS : S → Type 0) (ln : Lawful mn kn VN) (lv : Lawful mv kv VS) where
  pub started : (n : N) (s : S) → VN n → VS s → count (mn.live n) ≡ 0 → count (mv.live s) ≡ 0 →
      Sound mn mv VN VS (record { nodes = n; vals = s; root = bare_row }) × (tree_in mn mv (record { nodes = n; vals = s; root = bare_row }) ≡ bare)
  started n s vn vs cn cs =
      let o = start_law (mn.live n) (mv.live s) (none_live mn kn VN ln n vn cn) (none_live mv kv VS lv s vs cs) in
      (record { nodes_valid = vn; vals_valid = vs; agrees = o.0 }, o.1)
