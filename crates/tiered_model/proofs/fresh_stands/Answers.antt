use Rattle.tiered_model.proofs.Taking.{fresh_valid}
use Rattle.tiered_model.proofs.fresh_stands.Goals as goal

pub returns : goal.returns
returns g c longest cells h = fresh_valid longest cells h
