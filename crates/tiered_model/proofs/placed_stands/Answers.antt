use Rattle.tiered_model.proofs.Placed.{placed}
use Rattle.tiered_model.proofs.placed_stands.Goals as goal

pub returns : goal.returns
returns g c longest a b s v = placed longest a b s v
