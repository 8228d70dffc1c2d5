use Rattle.history_model.proofs.Runs.{history}
use Rattle.history_model.proofs.histories_stand.Goals as goal

pub returns : goal.returns
returns g c n s vn vs zn zs cs = history g.N.Runs.model g.V.Runs.model _ _ g.N.Runs.Valid g.V.Runs.Valid g.met.N.Runs.lawful g.met.V.Runs.lawful n s vn vs zn zs cs
