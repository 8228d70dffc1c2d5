use Rattle.flat_model.proofs.Placed.{placed}
use Rattle.flat_model.proofs.groups_are_apart.Goals as goal

pub returns : goal.returns
returns g c longest a b s v = placed longest a b s v
