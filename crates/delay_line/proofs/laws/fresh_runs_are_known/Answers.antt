use Rattle.delay_line.proofs.Runs.{from_fresh}
use Rattle.delay_line.proofs.laws.fresh_runs_are_known.Goals as goal

pub returns : goal.returns
returns c = from_fresh
