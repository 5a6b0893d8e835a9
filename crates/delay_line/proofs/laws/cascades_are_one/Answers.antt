use Rattle.delay_line.specs.InSeries.{series_delays, series_undoes}
use Rattle.delay_line.proofs.Runs.{cascade_carries}
use Rattle.delay_line.proofs.laws.cascades_are_one.Goals as goal

pub returns : goal.returns
returns c = (cascade_carries, series_delays, series_undoes)
