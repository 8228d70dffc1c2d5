use Rattle.table_model.proofs.stop_stands.Goals as goal
use Rattle.table_model.proofs.Whole.{stop_law}

pub returns : goal.returns
returns g c = stop_law
