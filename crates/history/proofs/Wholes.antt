-- From a start and its calls to the whole.
use Rattle.std.proofs.Common.{◌≡◌, ℕ, List, length, Ok, Err, None, Result, MatchResult, IsErrAnd, is_ok, true, sym, ap, ◌∙◌, subst, arith}
use Rattle.std.proofs.lemmas.List.{take_all}
use Rattle.runs.specs.Calls.{Tells}
use Rattle.runs.specs.Refusals.{Refusal, Grant}
use Rattle.runs.specs.Runs.{Lawful}
use Rattle.runs.specs.declared.entry.NodeRow.{NodeRow}
use Rattle.runs.specs.declared.index.NodeIndex.{NodeIndex}
use Rattle.runs.specs.declared.store.Runs.{Ghosts}
use Rattle.table_model.specs.Refusals.{no_start}
use Rattle.table_model.specs.States.{tree_in}
use Rattle.table_model.proofs.Starting.{none_live}
use Rattle.trunk.specs.declared.Trunk.{Trunk}
use Rattle.trunk.specs.Meaning.{states, tree}
use Rattle.table.specs.Starting.{start_no}
use Rattle.history_model.specs.Calls.{Call, Answer, played, answers}
use Rattle.history_model.specs.Histories.{started, plain, History}
use Rattle.history_model.proofs.Runs.{history}
use Rattle.history.specs.Plays.{Plays}

-- what was mapped to `Ok t` was `Ok t`
pub told_of : {T F D : Type 0} (tell : F → Refusal) (g : Grant) (P : T → Type 0) (s : Result T F) (r : Result T D) (t : T) (Q : F → D → Type 0) →
    MatchResult s (λ x. r ≡ Ok x) (λ e. IsErrAnd r (Q e)) → is_ok r ≡ is_ok s → r ≡ Ok t → Tells tell s g P → (g ≡ None) × P t
told_of tell g P (Ok x) r t Q h b e a = let q : x ≡ t = cc in subst (λ z. (g ≡ None) × P z) q a
told_of tell g P (Err f) r t Q h b e a = absurd (let z : ◌≡◌ (is_ok r) true = ap is_ok e in let y : ◌≡◌ {A = ℕ} 0 1 = cc in omega arith)

both_none : (a b : ℕ) → no_start a b ≡ None → (a ≡ 0) × (b ≡ 0)
both_none a b e = grind arith

module _ {E Ix N V : Type 0} (n : Ghosts N NodeRow NodeIndex) (v : Ghosts V E Ix) (kn kv : ℕ) (VN : n.State → Type 0) (VS : v.State → Type 0) (ln : Lawful n.model kn VN) (lv : Lawful v.model kv VS) where
  pub whole : (x : N) (y : V) → VN (n.state x) → VS (v.state y) → start_no n v x y ≡ None →
      (t u : Trunk N V) → states n v t ≡ started (n.state x) (v.state y) → (cs : List (Call E)) (rs : List (Answer E)) → Plays n v t cs rs u →
      History n.model v.model (n.state x) (v.state y) cs rs
      × (states n v u ≡ played n.model v.model (started (n.state x) (v.state y)) cs)
      × (tree n v u ≡ plain n.model v.model (n.state x) (v.state y) cs rs (length cs))
  whole x y vx vy none t u start cs rs p =
      let s = n.state x in
      let r = v.state y in
      let zeros = both_none _ _ none in
      let mn = n.model in
      let mv = v.model in
      let given : answers mn mv (started s r) cs ≡ rs = ap (λ z. answers mn mv z cs) (sym start) ∙ sym p.answered in
      let led : states n v u ≡ played mn mv (started s r) cs = p.led ∙ ap (λ z. played mn mv z cs) start in
      let h : History mn mv s r cs rs = subst (λ z. History mn mv s r cs z) given
      (history mn mv _ _ VN VS ln lv s r vx vy (none_live mn kn VN ln s vx zeros.0) (none_live mv kv VS lv r vy zeros.1) cs) in
      let whole_list = take_all (length cs) cs (omega arith) in
      (h, led, ap (tree_in mn mv) (led ∙ ap (λ z. played mn mv (started s r) z) (sym whole_list)) ∙ h.table_means_the_tree (length cs))
