use Rattle.tiered_model.proofs.Lawful.{lawful}
use Rattle.tiered_model.proofs.lawful_stands.Goals as goal

pub returns : goal.returns
returns g c longest a b = lawful longest a b
