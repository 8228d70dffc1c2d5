use Rattle.flat_model.proofs.Lawful.{lawful}
use Rattle.flat_model.proofs.flat_is_lawful.Goals as goal

pub returns : goal.returns
returns g c longest a b = lawful longest a b
