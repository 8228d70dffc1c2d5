use Rattle.tiered_model.proofs.Sums.{counted}
use Rattle.tiered_model.proofs.answers_stand.Goals as goal

pub returns : goal.returns
returns g c longest a b = counted longest a b
