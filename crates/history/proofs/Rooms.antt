-- From a whole history over two fresh stores to its room.
use Rattle.std.proofs.Common.{◌≡◌, ℕ, ◌≤◌, List, [], length, Ok, Err, None, Some, Result, MatchResult, IfOk, sym, refl, ap, ◌∙◌, subst, arith}
use Rattle.std.proofs.lemmas.List.{take_all}
use Rattle.runs.specs.Lists.{indexes}
use Rattle.runs.specs.Refusals.{refusal, Grant}
use Rattle.runs.specs.Runs.{Model, one_run, count}
use Rattle.runs.specs.declared.entry.NodeRow.{NodeRow}
use Rattle.runs.specs.declared.index.NodeIndex.{NodeIndex}
use Rattle.runs.specs.declared.store.Runs.{Ghosts}
use Rattle.runs.proofs.Counts.{tally_none}
use Rattle.tiered_model.specs.Tiered.{State, fresh, tiered}
use Rattle.table_model.specs.Refusals.{no_start}
use Rattle.history_model.specs.Calls.{Call, Answer, answers}
use Rattle.history_model.specs.Histories.{started, History, Room}
use Rattle.history_model.proofs.Short.{room}
use Rattle.history.specs.declared.left.NoHistory.{NoHistory}
use Rattle.history.specs.declared.left.NoHistory.TheVariants.{NoMemory, NotStarted}
use Rattle.history.specs.declared.left.Last.{Last}
use Rattle.history.specs.declared.left.Played.{Played}
use Rattle.history.specs.Whole.{Whole, Back}
use Rattle.history.specs.Fresh.{OverFresh, Memory}

pub none_counted : {E : Type 0} (s : State E) (a : ℕ) → s ≡ fresh a → count s.live ≡ 0
none_counted s a e = ap (λ z. count z.live) e ∙ tally_none one_run indexes refl

module _ {E Ix N V : Type 0} (n : Ghosts N NodeRow NodeIndex) (v : Ghosts V E Ix) where
  only_memory : (x : N) (y : V) → count (n.model.live (n.state x)) ≡ 0 → count (v.model.live (v.state y)) ≡ 0 → (f : NoHistory N V) → Back n v x y f → Memory f
  only_memory x y cn cv (NoMemory a b) h = tt
  only_memory x y cn cv (NotStarted back) h =
      let none : no_start (count (n.model.live (n.state x))) (count (v.model.live (v.state y))) ≡ None = rw (cn, cv) refl in
      let z : ◌≡◌ {A = Grant} None (Some (refusal 12 [])) = sym none ∙ h.0 in
      let o : ◌≡◌ {A = ℕ} 0 1 = cc in absurd (omega arith)

  pub over : {i : _} {j : _} (nodes : N → State NodeRow) (values : V → State E) (a b : ℕ) (x : N) (y : V) (cs : List (Call E)) (l : Last) (r : Result (Played N V E Ix n v i j) (NoHistory N V)) →
      MatchResult r (Whole n v x y cs l) (Back n v x y) → nodes x ≡ fresh a → values y ≡ fresh b → count (n.model.live (n.state x)) ≡ 0 → count (v.model.live (v.state y)) ≡ 0 →
      MatchResult r (λ p. OverFresh nodes values a b (λ z w. Whole n v z w cs l p)) Memory
  over nodes values a b x y cs l (Ok p) h e d cn cv = record { node_store = x; value_store = y; fresh_nodes = e; fresh_values = d; holds = h }
  over nodes values a b x y cs l (Err f) h e d cn cv = only_memory x y cn cv f h

answers_are : {V N S : Type 0} (mn : Model NodeRow N) (mv : Model V S) (n : N) (s : S) (cs : List (Call V)) (rs : List (Answer V)) → History mn mv n s cs rs → answers mn mv (started n s) cs ≡ rs
answers_are mn mv n s cs rs h =
    ap (answers mn mv (started n s)) (sym (take_all (length cs) cs (omega arith))) ∙ sym (h.may_be_broken_off (length cs)) ∙ take_all (length cs) rs (omega (arith, h.each_call_is_answered))

pub has_room : {V : Type 0} (longest a b : ℕ) → 31 ≤ longest → longest ≤ 32 → a ≤ 16777216 → b ≤ 16777216 → (n : State NodeRow) (s : State V) → n ≡ fresh a → s ≡ fresh b →
    (cs : List (Call V)) (rs : List (Answer V)) → History (tiered 32) (tiered longest) n s cs rs → Room longest a b cs rs
has_room longest a b la lb ha hb n s en es cs rs h =
    subst (λ z. Room longest a b cs z)
    (ap (λ z. answers (tiered 32) (tiered longest) (started z (fresh b)) cs) (sym en) ∙ ap (λ z. answers (tiered 32) (tiered longest) (started n z) cs) (sym es) ∙ answers_are (tiered 32) (tiered longest) n s cs rs h)
    (room longest la lb a b ha hb cs)

pub if_ok : {X F : Type 0} (P R : X → Type 0) (Q : F → Type 0) (r : Result X F) → ((p : X) → P p → R p) → MatchResult r P Q → IfOk r R
if_ok P R Q (Ok p) imp h = imp p h
if_ok P R Q (Err f) imp h = tt
