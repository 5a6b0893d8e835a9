use Rattle.delay_line.specs.InSeries.{both_silent}
use Rattle.delay_line.proofs.cascade.CascadeDelayLine.clear.Goals as goal

pub returns-clause-empty : goal.returns-clause-empty
returns-clause-empty g c = both_silent (g.B.DelayLine.delay c.clear-2.new.self) 0 c.clear.ensures.empty c.clear-2.ensures.empty
