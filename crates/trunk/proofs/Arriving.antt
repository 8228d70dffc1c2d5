-- A call that has been judged and done, in the words of its contract.
use Rattle.std.proofs.Common.{◌≡◌, Ok, sym, ap, ◌∙◌, subst}
use Rattle.runs.specs.Calls.{moved_on}
use Rattle.runs.specs.Refusals.{Grant}
use Rattle.runs.specs.declared.entry.NodeRow.{NodeRow}
use Rattle.runs.specs.declared.store.Runs.{Ghosts}
use Rattle.runs.proofs.Shifts.{never}
use Rattle.table_model.specs.Tree.{Tree}
use Rattle.table_model.specs.Table.{Agrees}
use Rattle.table_model.specs.States.{Table as States, tree_in, Sound as SoundStates}
use Rattle.table_model.proofs.Doing.{Arrives}
use Rattle.table_model.proofs.Known.{known}
use Rattle.trunk.specs.declared.Trunk.{Trunk}
use Rattle.trunk.specs.Meaning.{states, tree, Sound}
use Rattle.trunk.specs.Promises.{Done}

module _ {E In Ix N V : Type 0} (n : Ghosts N NodeRow In) (v : Ghosts V E Ix) where
  pub valid : ((s : N) → n.Valid (n.state s)) → ((s : V) → v.Valid (v.state s)) → (t : Trunk N V) → Sound n v t → SoundStates n.model v.model n.Valid v.Valid (states n v t)
  valid a b t s = record { nodes_valid = a t.nodes; vals_valid = b t.values; agrees = known _ _ _ s }

  -- a call that has come to where it leads
  pub done : {X : Type 0} (t u : Trunk N V) (x : X) {why : Grant} {P : X → Type 0} {to here : States n.State v.State} {tr : Tree E} →
      states n v u ≡ here → Arrives n.model v.model n.Valid v.Valid why to tr here → P x → Done n v t why P to tr (Ok x) u
  done t u x {why} {P} {to} {here} {tr} e o q = record {
    sound = ∣ subst (λ (z : States n.State v.State). Agrees (n.model.live z.nodes) (v.model.live z.vals) z.root) (sym e) o.sound.agrees ∣₁;
    answer = (o.granted, q);
    states = e ∙ sym o.leads ∙ sym (ap (λ (g : Grant). moved_on g (states n v t) to) o.granted);
    tree = ap (tree_in n.model v.model) e ∙ o.tree ∙ sym (ap (λ (g : Grant). moved_on g (tree n v t) tr) o.granted);
    untouched = λ f z. absurd (never why f o.granted z);
  }
