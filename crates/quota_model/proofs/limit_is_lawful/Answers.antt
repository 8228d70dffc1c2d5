use Rattle.quota_model.proofs.Lawful.{lawful}
use Rattle.quota_model.proofs.limit_is_lawful.Goals as goal

pub returns : goal.returns
returns g c = lawful g.met.S.Runs.lawful
