use Rattle.quota_model.proofs.Totals.{counted}
use Rattle.quota_model.proofs.entries_are_counted.Goals as goal

pub returns : goal.returns
returns g c = counted g.met.S.Runs.lawful
