use Rattle.flat_model.proofs.Taking.{fresh_valid}
use Rattle.flat_model.proofs.fresh_is_valid.Goals as goal

pub returns : goal.returns
returns g c longest cells a b h = fresh_valid longest cells a b h
