use Rattle.table_model.proofs.plain_stands.Goals as goal
use Rattle.table_model.proofs.Whole.{plain_law}

pub returns : goal.returns
returns g c = plain_law
