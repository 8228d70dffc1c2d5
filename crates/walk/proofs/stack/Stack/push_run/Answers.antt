use Rattle.std.proofs.Common.{length, ap, arith, length-append}
use Rattle.walk.specs.Places.{run_places, lasts}
use Rattle.walk.proofs.Places.{length_run}
use Rattle.walk.proofs.stack.Stack.push_run.Goals as goal

pub push-requires : goal.push-requires
push-requires c =
    omega (
      arith,
      ap length c.loop-i.invariant,
      length-append (run_places c.args.run c.loop-i.i) (lasts c.args.self.now.places c.args.self.now.top),
      length_run c.args.run c.loop-i.i,
    )
