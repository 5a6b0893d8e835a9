use Rattle.delay_line.proofs.Ringed.{ringed_zeros}
use Rattle.delay_line.proofs.delay.DelayDelayLine.clear.Goals as goal

pub returns-clause-empty : goal.returns-clause-empty
returns-clause-empty c = ringed_zeros c.args.self.now.places 0
