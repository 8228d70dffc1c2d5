use Rattle.table_model.proofs.Lawfully.{calls}
use Rattle.table_model.proofs.calls_stand.Goals as goal

pub returns : goal.returns
returns g c = calls g.N.Runs.model g.V.Runs.model _ _ g.N.Runs.Valid g.V.Runs.Valid g.met.N.Runs.lawful g.met.V.Runs.lawful
