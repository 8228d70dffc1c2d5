-- One call more, and one next more.
use Rattle.std.proofs.Common.{◌≡◌, ℕ, zero, suc, ◌+◌, List, [], ◌∷◌, ◌++◌, Some, None, Option, sym, refl, ap, ◌∙◌, add-one, arith}
use Rattle.std.specs.Prelude.{Result}
use Rattle.bitmap.specs.declared.Bit.{Bit}
use Rattle.runs.specs.Refusals.{Refusal, Grant}
use Rattle.runs.specs.Runs.{Model}
use Rattle.runs.specs.declared.entry.NodeRow.{NodeRow}
use Rattle.runs.specs.declared.store.Runs.{Ghosts}
use Rattle.nodes.specs.declared.fault.Fault.{Fault}
use Rattle.table_model.specs.States.{Table, tree_in}
use Rattle.trunk.specs.declared.Trunk.{Trunk}
use Rattle.trunk.specs.Meaning.{states}
use Rattle.walk.specs.Meaning.{Gives}
use Rattle.history_model.specs.Calls.{Call as Pure, Out, Answer as Told, done, refused, says, stepped, played, refuses, answer, answers, out, record_in}
use Rattle.history_model.specs.Books.{front, rest, nexts, left}
use Rattle.history.specs.declared.call.Call.{Call}
use Rattle.history.specs.declared.call.Answer.{Answer}
use Rattle.history.specs.Calls.{call_of, told, Steps}
use Rattle.history.specs.Plays.{Kept, cells, Plays, next_of}

module _ {V N S : Type 0} (mn : Model NodeRow N) (mv : Model V S) where
  played_more : (t : Table N S) (cs : List (Pure V)) (c : Pure V) → played mn mv t (cs ++ c ∷ []) ≡ stepped mn mv (played mn mv t cs) c
  played_more t [] c = refl
  played_more t (d ∷ cs) c = played_more (stepped mn mv t d) cs c

  answers_more : (t : Table N S) (cs : List (Pure V)) (c : Pure V) → answers mn mv t (cs ++ c ∷ []) ≡ answers mn mv t cs ++ answer mn mv (played mn mv t cs) c ∷ []
  answers_more t [] c = refl
  answers_more t (d ∷ cs) c = ap (λ (l : List (Told V)). answer mn mv t d ∷ l) (answers_more (stepped mn mv t d) cs c)

refused_by : {V : Type 0} (g : Grant) (o : Out V) (f : Refusal) → says g o ≡ refused f → g ≡ Some f
refused_by None o f e = absurd (let z : ◌≡◌ {A = ℕ} 0 1 = cc in omega arith)
refused_by (Some h) o f e = cc

kept_more : {V M : Type 0} (a b c : M) (rs : List (Told V)) (r : Told V) → Kept a rs b → ((f : Refusal) → r ≡ refused f → c ≡ b) → Kept a (rs ++ r ∷ []) c
kept_more a b c [] (done o) e h = (c, refl)
kept_more a b c [] (refused f) e h = h f refl ∙ e
kept_more a b c (done o ∷ rs) r e h = (e.0, kept_more e.0 b c rs r e.1 h)
kept_more a b c (refused f ∷ rs) r e h = kept_more a b c rs r e h

module _ {E In Ix N V : Type 0} (n : Ghosts N NodeRow In) (v : Ghosts V E Ix) where
  pub plays_none : (t : Trunk N V) → Plays n v t [] [] t
  plays_none t = record { answered = refl; led = refl; kept = refl }

  pub plays_more : (t u w : Trunk N V) (cs : List (Pure E)) (rs : List (Told E)) (c : Call E) (r : Result (Answer E) Fault) →
      Plays n v t cs rs u → Steps n v u c r w → Plays n v t (cs ++ call_of c ∷ []) (rs ++ told r ∷ []) w
  plays_more t u w cs rs c r p s =
      let mn = n.model in
      let mv = v.model in
      let here : told r ≡ answer mn mv (played mn mv (states n v t) cs) (call_of c) = s.answered ∙ ap (λ x. answer mn mv x (call_of c)) p.led in
      record {
        answered = ap (λ (l : List (Told E)). l ++ told r ∷ []) p.answered ∙ ap (λ (a : Told E). answers mn mv (states n v t) cs ++ a ∷ []) here ∙ sym (answers_more mn mv (states n v t) cs (call_of c));
        led = s.led ∙ ap (λ x. stepped mn mv x (call_of c)) p.led ∙ sym (played_more mn mv (states n v t) cs (call_of c));
        kept = kept_more (cells n v t.nodes t.values) (cells n v u.nodes u.values) (cells n v w.nodes w.values) rs (told r) p.kept
            (λ f e. let q = s.untouched f (refused_by (refuses mn mv (states n v u) (call_of c)) (out (tree_in mn mv (states n v u)) (record_in mn mv (states n v u)) (call_of c)) f (sym s.answered ∙ e)) in
            ap (λ (m : n.Memory). (m, v.memory w.values)) q.nodes ∙ ap (λ (m : v.Memory). (n.memory u.nodes, m)) q.values);
      }

module _ {X : Type 0} where
  nexts_last : (xs : List X) (m : ℕ) → nexts xs (suc m) ≡ nexts xs m ++ front (left xs m) ∷ []
  nexts_last xs zero = refl
  nexts_last xs (suc m) = ap (λ (l : List (Option X)). front xs ∷ l) (nexts_last (rest xs) m)

  left_last : (xs : List X) (m : ℕ) → left xs (suc m) ≡ rest (left xs m)
  left_last xs zero = refl
  left_last xs (suc m) = left_last (rest xs) m

  pub nexts_more : (xs : List X) (m : ℕ) → nexts xs (m + 1) ≡ nexts xs m ++ front (left xs m) ∷ []
  nexts_more xs m = ap (nexts xs) (add-one m) ∙ nexts_last xs m

  pub left_more : (xs : List X) (m : ℕ) → left xs (m + 1) ≡ rest (left xs m)
  left_more xs m = ap (left xs) (add-one m) ∙ left_last xs m

pub gives_front : {E : Type 0} (before after : List (ℕ × E)) (r : Option (Bit × E)) → Gives before r after → next_of r ≡ front before
gives_front before after None h = ap front (sym h.0)
gives_front before after (Some x) h = ap front (sym h)

pub gives_rest : {E : Type 0} (before after : List (ℕ × E)) (r : Option (Bit × E)) → Gives before r after → after ≡ rest before
gives_rest before after None h = h.1 ∙ ap rest (sym h.0)
gives_rest before after (Some x) h = ap rest (sym h)
