use Rattle.history_model.proofs.Short.{room}
use Rattle.history_model.proofs.rooms_stand.Goals as goal

pub returns : goal.returns
returns g c longest a b la lb ha hb cs = room longest la lb a b ha hb cs
