use Rattle.std.proofs.Common.{◌≡◌, ◌+◌, ◌++◌, ◌∷◌, [], map, take, sym, ap, ◌∙◌, subst, arith}
use Rattle.std.proofs.lemmas.List.{map-append, map_more, length-append}
use Rattle.history.specs.Calls.{call_of, told}
use Rattle.history.specs.Plays.{Plays}
use Rattle.history.proofs.Plays.{plays_more}
use Rattle.history.proofs.play.play.Goals as goal

pub loop-call-preserved : goal.loop-call-preserved
loop-call-preserved g c =
    let i = c.loop-call.invariant in
    let n = g.N.Runs in
    let v = g.V.Runs in
    let cs = c.args.calls.now in
    let k = c.loop-call.call-index in
    let t = c.args.table.now.trunk in
    let call = c.call-item.result in
    let more : c.push.new.self.items ≡ c.loop-call.answers.items ++ c.step-answer.result ∷ [] = rw c.unwrap.ensures at c.push.ensures.items in
    let calls : map call_of (take (k + 1) cs) ≡ map call_of (take k cs) ++ call_of call ∷ [] =
    map_more call_of cs k call c.loop-call-test.true ∙ ap (λ x. map call_of (take k cs) ++ call_of x ∷ []) (sym c.call-item.is) in
    let answers : map told c.push.new.self.items ≡ map told c.loop-call.answers.items ++ told c.step-answer.result ∷ [] =
    ap (map told) more ∙ map-append told c.loop-call.answers.items (c.step-answer.result ∷ []) in
    record {
      plays = subst (λ l. Plays n v t l (map told c.push.new.self.items) c.step-answer.new.table.trunk) (sym calls)
          (subst (λ l. Plays n v t (map call_of (take k cs) ++ call_of call ∷ []) l c.step-answer.new.table.trunk) (sym answers)
          (plays_more n v t c.loop-call.table.trunk c.step-answer.new.table.trunk _ _ call c.step-answer.result i.plays c.step-answer.ensures));
      many = rw more (simp length-append (omega (arith, i.many)));
      room = omega (arith, i.room, c.push.ensures.capacity);
    }
