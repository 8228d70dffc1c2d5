use Rattle.std.proofs.Common.{◌≡◌, ◌++◌, ◌∷◌, [], map, sym, ap, ◌∙◌, arith}
use Rattle.std.proofs.lemmas.List.{map-append, length-append}
use Rattle.table_model.specs.Tree.{walk}
use Rattle.trunk.specs.Meaning.{tree}
use Rattle.history_model.specs.Books.{nexts, left, front, rest}
use Rattle.history.specs.Plays.{next_of}
use Rattle.history.proofs.Plays.{nexts_more, left_more, gives_front, gives_rest}
use Rattle.history.proofs.last.walked.Goals as goal

pub loop-preserved : goal.loop-preserved
loop-preserved g c =
    let i = c.loop.invariant in
    let n = g.N.Runs in
    let v = g.V.Runs in
    let w = walk 25 (tree n v c.args.table.trunk) in
    let k = c.loop.counter in
    let more : c.push.new.self.items ≡ c.loop.given.items ++ c.next.result ∷ [] = rw c.unwrap.ensures at c.push.ensures.items in
    let first : next_of c.next.result ≡ front (left (w) k) = gives_front _ _ c.next.result c.next.ensures.gives ∙ ap front i.left in
    record {
      trunk = c.next.ensures.trunk ∙ i.trunk;
      given = ap (map next_of) more ∙ map-append next_of c.loop.given.items (c.next.result ∷ [])
          ∙ ap (λ l. l ++ next_of c.next.result ∷ []) i.given ∙ ap (λ x. nexts (w) k ++ x ∷ []) first ∙ sym (nexts_more (w) k);
      left = gives_rest _ _ c.next.result c.next.ensures.gives ∙ ap rest i.left ∙ sym (left_more (w) k);
      many = rw more (simp length-append (omega (arith, i.many)));
      room = omega (arith, i.room, c.push.ensures.capacity);
    }

pub returns-clause-given : goal.returns-clause-given
returns-clause-given g c =
    let w = walk 25 (tree g.N.Runs g.V.Runs c.args.table.trunk) in
    let all : c.loop.counter ≡ c.args.count = omega (arith, c.loop-test.false, c.loop.auto.counter-end) in
    c.loop.invariant.given ∙ ap (nexts (w)) all

pub returns-clause-left : goal.returns-clause-left
returns-clause-left g c =
    let w = walk 25 (tree g.N.Runs g.V.Runs c.args.table.trunk) in
    let all : c.loop.counter ≡ c.args.count = omega (arith, c.loop-test.false, c.loop.auto.counter-end) in
    c.loop.invariant.left ∙ ap (left (w)) all
