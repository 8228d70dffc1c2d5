use Rattle.tiered_model.proofs.Lawful.{claims}
use Rattle.tiered_model.proofs.claims_stand.Goals as goal

pub returns : goal.returns
returns g c longest a b = claims longest a b
