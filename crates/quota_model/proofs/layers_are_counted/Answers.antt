use Rattle.quota_model.proofs.Grants.{crossing}
use Rattle.quota_model.proofs.layers_are_counted.Goals as goal

pub returns : goal.returns
returns c = crossing
