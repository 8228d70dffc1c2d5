use Rattle.table_model.proofs.show_stands.Goals as goal
use Rattle.table_model.proofs.Whole.{show_law}

pub returns : goal.returns
returns g c = show_law
